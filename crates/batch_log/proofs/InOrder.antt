-- What holds from then on, in calls that come one after another.
use Rattle.std.proofs.Common.{◌≡◌, ◌≤◌, ⊎_elim, inl, inr, ℕ, List, Option, Some, arith}
use Rattle.batch_log.specs.Moments.{GoesOn, HoldsAcross, InSteps, Throughout}
use Rattle.batch_log.specs.Moments.InSteps.{Begins, Then}
use Rattle.batch_log.proofs.Moments.{goes_on_then}

module _ (D : Type 0) (moment : D → ℕ) (since : D → ℕ → List ℕ → List ℕ → Type 0) where
  abbrev On : (List ℕ → List ℕ → Type 0) → D → D → Type 0
  On R start now = InSteps moment since R start now

  pub on_later : (R : List ℕ → List ℕ → Type 0) (start now : D) → On R start now → moment start ≤ moment now
  on_later R start now (Begins here) = omega arith
  on_later R start now (Then {before = before} {after = after} steps order goes across) =
      let so_far = on_later R start before steps in omega (arith, so_far, order)

  -- at each moment
  pub on_throughout : (R : List ℕ → List ℕ → Type 0) (start now : D) → On R start now → Throughout R (since now (moment start))
  on_throughout R start now (Begins here) = here
  on_throughout R start now (Then {before = before} {after = after} steps order goes across) = λ s c at.
      ⊎_elim
      (λ old. on_throughout R start before steps s c old)
      (λ new. across s c s c at new)
      ((goes (moment start) s c (on_later R start before steps)).0 at)

  -- of what a stop may leave at the end
  pub on_ends : (R : List ℕ → List ℕ → Type 0) (start now : D) → On R start now → (shown : Option (List ℕ)) (may_leave : List ℕ → Type 0)
      → ((s c : List ℕ) → since now (moment now) s c → (shown ≡ Some s) × may_leave c)
      → ((t : ℕ) (s c : List ℕ) → t ≤ moment now → shown ≡ Some s → may_leave c → since now t s c)
      → (s c t e : List ℕ) → since now (moment start) s c → shown ≡ Some t → may_leave e → R s e
  on_ends R start now (Begins here) shown may_leave only counted s c t e at is left = here s e (counted (moment now) s e (omega arith) (only s c at).0 left)
  on_ends R start now (Then {before = before} {after = after} steps order goes across) shown may_leave only counted s c t e at is left =
      across s c t e at (counted (moment before) t e order is left)

  -- a weaker relation, by what is known of each moment
  pub on_maps : (R Q P L : List ℕ → List ℕ → Type 0) (start now : D) → ((s c t e : List ℕ) → P s c → L t e → R s e → Q s e) → On R start now
      → Throughout P (since now (moment start)) → Throughout L (since now (moment start)) → On Q start now
  on_maps R Q P L start now weaker (Begins here) first second = Begins (λ s c at. weaker s c s c (first s c at) (second s c at) (here s c at))
  on_maps R Q P L start now weaker (Then {before = before} {after = after} steps order goes across) first second =
      let by = on_later R start before steps in
      Then
      (on_maps R Q P L start before weaker steps
      (λ s c at. first s c ((goes (moment start) s c by).1 (inl at))) (λ s c at. second s c ((goes (moment start) s c by).1 (inl at))))
      order
      goes
      (λ s c t e at later. weaker s c t e (first s c at) (second t e ((goes (moment start) t e by).1 (inr later))) (across s c t e at later))

  -- one step
  pub on_in_one : (R : List ℕ → List ℕ → Type 0) (start now : D) → moment start ≤ moment now → GoesOn (moment start) (since start) (since now)
      → HoldsAcross R (since now (moment start)) (since now (moment start)) → On R start now
  on_in_one R start now order goes across =
      Then (Begins (λ s c at. let is = (goes (moment start) s c (omega arith)).1 (inl at) in across s c s c is is)) order goes across

  -- how time goes on in steps
  pub on_time : (R : List ℕ → List ℕ → Type 0) (start now : D) → ((d : D) → GoesOn (moment d) (since d) (since d)) → On R start now
      → GoesOn (moment start) (since start) (since now)
  on_time R start now still (Begins here) = still now
  on_time R start now still (Then {before = before} {after = after} steps order goes across) =
      goes_on_then (moment start) (moment before) (since start) (since before) (since now) (on_later R start before steps) (on_time R start before still steps) goes

  -- two calls, one after the other
  pub on_in_both : (R : List ℕ → List ℕ → Type 0) (start middle now : D) → ((d : D) → GoesOn (moment d) (since d) (since d))
      → On R start middle → On R middle now → HoldsAcross R (since middle (moment start)) (since now (moment middle)) → On R start now
  on_in_both R start middle now still first (Begins here) across = first
  on_in_both R start middle now still first (Then {before = before} {after = after} steps order goes last) across =
      let one = on_later R start middle first in
      let two = on_later R middle before steps in
      let by : moment start ≤ moment before = omega (arith, one, two) in
      let so_far : GoesOn (moment middle) (since middle) (since before) = on_time R middle before still steps in
      Then
      (on_in_both R start middle before still first steps (λ s c t e at later. across s c t e at ((goes (moment middle) t e two).1 (inl later))))
      order
      goes
      (λ s c t e at later.
      let behind : since now (moment middle) t e = (goes (moment middle) t e two).1 (inr later) in
      ⊎_elim
      (λ old. ⊎_elim
      (λ oldest. across s c t e oldest behind)
      (λ middling. last s c t e ((goes (moment middle) s c two).1 (inl middling)) later)
      ((so_far (moment start) s c one).0 old))
      (λ new. last s c t e ((goes (moment middle) s c two).1 (inr new)) later)
      ((goes (moment start) s c by).0 at))
