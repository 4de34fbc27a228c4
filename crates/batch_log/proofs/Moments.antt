-- What is so throughout calls that come one after another.
use Rattle.std.proofs.Common.{◌≡◌, ◌≤◌, ⊎_elim, inl, inr, ℕ, List, Option, Some, arith}
use Rattle.cry_io.specs.Stops.{Elapses}
use Rattle.batch_log.specs.Moments.{GoesOn, Throughout}

-- one call of the disk: its start and its end are all its moments
pub in_one_call : (start now : ℕ) (past since : ℕ → List ℕ → List ℕ → Type 0) (was shown : Option (List ℕ)) (left may_leave : List ℕ → Type 0)
    (P : List ℕ → List ℕ → Type 0) → ((s c : List ℕ) → past start s c → (was ≡ Some s) × left c) →
    Elapses start now past since shown may_leave → ((s c : List ℕ) → was ≡ Some s → left c → P s c) →
    ((s c : List ℕ) → shown ≡ Some s → may_leave c → P s c) → Throughout P (since start)
in_one_call start now past since was shown left may_leave P only time first last s c at =
    ⊎_elim
    (λ old. let is = only s c old in first s c is.0 is.1)
    (λ new. last s c new.0 new.1)
    (time.nothing_else start s c (omega arith) at)

-- one call more
pub in_next_call : (first start now : ℕ) (past since : ℕ → List ℕ → List ℕ → Type 0) (shown : Option (List ℕ)) (may_leave : List ℕ → Type 0)
    (P : List ℕ → List ℕ → Type 0) → first ≤ start → Elapses start now past since shown may_leave →
    Throughout P (past first) → ((s c : List ℕ) → shown ≡ Some s → may_leave c → P s c) → Throughout P (since first)
in_next_call first start now past since shown may_leave P order time before last s c at =
    ⊎_elim (λ old. before s c old) (λ new. last s c new.0 new.1) (time.nothing_else first s c order at)

-- two parts of a call, one after the other
pub in_both : (first start : ℕ) (past since : ℕ → List ℕ → List ℕ → Type 0) (P : List ℕ → List ℕ → Type 0) → first ≤ start → GoesOn start past since →
    Throughout P (past first) → Throughout P (since start) → Throughout P (since first)
in_both first start past since P order goes before after s c at =
    ⊎_elim (λ old. before s c old) (λ new. after s c new) ((goes first s c order).0 at)

-- how time goes on in one call of a disk
pub goes_on_elapsed : (before now : ℕ) (past since : ℕ → List ℕ → List ℕ → Type 0) (was shown : Option (List ℕ)) (left may_leave : List ℕ → Type 0) →
    ((s c : List ℕ) → past before s c → (was ≡ Some s) × left c) →
    ((t : ℕ) (s c : List ℕ) → t ≤ before → was ≡ Some s → left c → past t s c) →
    ((t : ℕ) (s c : List ℕ) → t ≤ now → shown ≡ Some s → may_leave c → since t s c) →
    Elapses before now past since shown may_leave → GoesOn before past since
goes_on_elapsed before now past since was shown left may_leave only counted counts time t s c early = (
  λ at. ⊎_elim (λ old. inl old) (λ is. inr (counts before s c time.later is.0 is.1)) (time.nothing_else t s c early at),
  λ at. ⊎_elim
      (λ old. time.keeps t s c early old)
      (λ new. ⊎_elim
      (λ old. let is = only s c old in time.keeps t s c early (counted t s c early is.0 is.1))
      (λ is. let by : t ≤ now = let l = time.later in omega arith in counts t s c by is.0 is.1)
      (time.nothing_else before s c (omega arith) new))
      at,
)

-- and in two, one after the other
pub goes_on_then : (start next : ℕ) (past since later : ℕ → List ℕ → List ℕ → Type 0) → start ≤ next →
    GoesOn start past since → GoesOn next since later → GoesOn start past later
goes_on_then start next past since later order one two t s c early =
    let by : t ≤ next = omega arith in (
      λ at. ⊎_elim
          (λ old. ⊎_elim (λ p. inl p) (λ n. inr ((two start s c order).1 (inl n))) ((one t s c early).0 old))
          (λ new. inr ((two start s c order).1 (inr new)))
          ((two t s c by).0 at),
      λ at. ⊎_elim
          (λ old. (two t s c by).1 (inl ((one t s c early).1 (inl old))))
          (λ new. ⊎_elim
          (λ n. (two t s c by).1 (inl ((one t s c early).1 (inr n))))
          (λ n. (two t s c by).1 (inr n))
          ((two start s c order).0 new))
          at,
    )
