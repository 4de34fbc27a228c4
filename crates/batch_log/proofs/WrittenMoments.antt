-- The moments of one write and its sync.
use Rattle.std.proofs.Common.{◌≡◌, ◌≤◌, ℕ, List, Option, Some, Result, Ok, Err, length, sym, subst, ◌∙◌}
use Rattle.std.specs.Prelude.{OnOk, OnErr}
use Rattle.cry_io.specs.Told.{WhereBothTold}
use Rattle.cry_io.specs.Stops.{Follows, IsDurable, Torn, Written}
use Rattle.batch_log.specs.Moments.{TornInto}
use Rattle.batch_log.proofs.Lists.{nothing_torn, written_may_be_torn}

pub told_one : (o : Option (List ℕ)) (x y : List ℕ) → o ≡ Some x → o ≡ Some y → x ≡ y
told_one o x y one two = let both = sym one ∙ two in cc

-- what holds at Ok, and what holds at Err
pub on_ok : {T E P : Type 0} (r : Result T E) → P → OnOk r P
on_ok (Ok _) p = p
on_ok (Err _) p = tt

pub on_err : {T E P : Type 0} (r : Result T E) → P → OnErr r P
on_err (Ok _) p = tt
on_err (Err _) p = p

-- at the start of the call
pub torn_at_start : (was : Option (List ℕ)) (left : List ℕ → Type 0) (place n : ℕ) (x s c : List ℕ) → IsDurable left was → was ≡ Some x →
    was ≡ Some s → left c → TornInto place n x s c
torn_at_start was left place n x s c durable x_is s_is leaves = (
  subst (λ (r : List ℕ). Torn place n x r) (told_one was x s x_is s_is) (nothing_torn place n x),
  subst (λ (r : List ℕ). Torn place n x r) (told_one was x c x_is (durable c leaves)) (nothing_torn place n x),
)

-- behind the write
pub torn_behind_write : {T E : Type 0} (was shown : Option (List ℕ)) (left may_leave : List ℕ → Type 0) (place : ℕ) (bytes x s c : List ℕ)
    (r : Result T E) → place ≤ length x → IsDurable left was → was ≡ Some x → OnOk r (WhereBothTold was shown (Written place bytes)) →
    OnErr r (WhereBothTold was shown (Torn place (length bytes))) → ((d : List ℕ) → may_leave d → Follows (Torn place (length bytes)) left d) →
    shown ≡ Some s → may_leave c → TornInto place (length bytes) x s c
torn_behind_write was shown left may_leave place bytes x s c (Ok _) inside durable x_is written torn stops s_is leaves = (
  written_may_be_torn place bytes x s inside (written x s x_is s_is),
  let from = stops c leaves in subst (λ (r : List ℕ). Torn place (length bytes) r c) (sym (told_one was x from.0 x_is (durable from.0 from.1))) from.2,
)
torn_behind_write was shown left may_leave place bytes x s c (Err _) inside durable x_is written torn stops s_is leaves = (
  torn x s x_is s_is,
  let from = stops c leaves in subst (λ (r : List ℕ). Torn place (length bytes) r c) (sym (told_one was x from.0 x_is (durable from.0 from.1))) from.2,
)
