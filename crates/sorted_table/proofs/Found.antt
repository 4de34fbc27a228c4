-- What stands among rows, and what a look-up finds, before and after a change.
use Rattle.std.proofs.Common.{◌≡◌, ℕ, ◌<◌, Bool, true, false, cond, not, ◌==◌, nat_lt, ◌⊎◌, ◌↔◌, List, [], ◌∷◌, filter, Some, None, refl, ap, ◌∙◌, inl, inr, ⊎_elim}
use Rattle.std.specs.List.{find}
use Rattle.std.proofs.lemmas.Bool.{lt-ltb, eqb-true, eqb-false, ne_eqb, not-true, cases_order}
use Rattle.cry_base.specs.Sets.{In}
use Rattle.cry_base.proofs.Members.{In-append, In-filter, filter-In}
use Rattle.sorted_table.specs.Rows.{row_at, with_row, without}

-- what a search by a test finds stands in the list and passes
pub find-Some : (T : Type 0) (p : T → Bool) (x : T) (xs : List T) → find p xs ≡ Some x → In x xs × (p x ≡ true)
find-Some T p x [] = λ e. cc
find-Some T p x (y ∷ xs) =
    (elim (p y) as (λ b. p y ≡ b → cond b (Some y) (find p xs) ≡ Some x → ((x ≡ y) ⊎ In x xs) × (p x ≡ true)) [
      | true ↦ λ told e. let same : x ≡ y = cc in (inl same, ap p same ∙ told)
      | false ↦ λ told e. let rest = find-Some T p x xs e in (inr rest.0, rest.1)
    ]) refl

-- where a search finds nothing, nothing passes
pub find-None : (T : Type 0) (p : T → Bool) (xs : List T) → find p xs ≡ None → (x : T) → In x xs → p x ≡ false
find-None T p [] = λ e x i. absurd i
find-None T p (y ∷ xs) =
    (elim (p y) as (λ b. p y ≡ b → cond b (Some y) (find p xs) ≡ None → (x : T) → (x ≡ y) ⊎ In x xs → p x ≡ false) [
      | true ↦ λ told e x i. cc
      | false ↦ λ told e x i. ⊎_elim (λ (same : x ≡ y). ap p same ∙ told) (λ rest. find-None T p xs e x rest) i
    ]) refl

-- where nothing passes, a search finds nothing
pub find-none_passes : (T : Type 0) (p : T → Bool) (xs : List T) → ((x : T) → In x xs → p x ≡ false) → find p xs ≡ None
find-none_passes T p [] fail = refl
find-none_passes T p (y ∷ xs) fail = ap (λ b. cond b (Some y) (find p xs)) (fail y (inl refl)) ∙ find-none_passes T p xs (λ x i. fail x (inr i))

module _ (T : Type 0) (rank : T → ℕ) (rows : List T) where
  pub row_at-Some : (k : ℕ) (r : T) → row_at rank rows k ≡ Some r → In r rows × (rank r ≡ k)
  row_at-Some k r e = let told = find-Some T (λ x. rank x == k) r rows e in (told.0, eqb-true _ _ told.1)

  pub row_at-None : (k : ℕ) → row_at rank rows k ≡ None → (r : T) → In r rows → rank r ≡ k → ⊥
  row_at-None k e r i = eqb-false _ _ (find-None T (λ x. rank x == k) rows e r i)

  pub row_at-absent : (k : ℕ) → ((r : T) → In r rows → rank r ≡ k → ⊥) → row_at rank rows k ≡ None
  row_at-absent k none = find-none_passes T (λ x. rank x == k) rows (λ x i. ne_eqb _ _ (none x i))

  -- a new row stands beside the old ones
  pub In-with_row : (row r : T) → row_at rank rows (rank row) ≡ None → In r (with_row rank rows row) ↔ ((r ≡ row) ⊎ In r rows)
  In-with_row row r absent =
      let lower = λ (x : T). nat_lt (rank x) (rank row) in let higher = λ (x : T). nat_lt (rank row) (rank x) in
      let joined = In-append T r (filter lower rows) (row ∷ filter higher rows) in (
        λ i. ⊎_elim (λ low. inr (In-filter T lower r rows low).0) (λ (rest : (r ≡ row) ⊎ In r (filter higher rows)). ⊎_elim (λ same. inl same) (λ high. inr (In-filter T higher r rows high).0) rest) (joined.0 i),
        λ u. ⊎_elim
            (λ (same : r ≡ row). joined.1 (inr (inl same)))
            (λ old. ⊎_elim (λ same. absurd (row_at-None (rank row) absent r old same))
            (λ (other : (rank r < rank row) ⊎ (rank row < rank r)). ⊎_elim
            (λ (low : rank r < rank row). joined.1 (inl (filter-In T lower r rows old (lt-ltb _ _ low))))
            (λ (high : rank row < rank r). joined.1 (inr (inr (filter-In T higher r rows old (lt-ltb _ _ high))))) other)
            (cases_order (rank r) (rank row))) u,
      )

  -- all rows but the one with the rank are left
  pub In-without : (k : ℕ) (r : T) → In r (without rank rows k) ↔ (In r rows × (rank r ≡ k → ⊥))
  In-without k r = (
    λ i. let told = In-filter T (λ x. not (rank x == k)) r rows i in (told.0, eqb-false _ _ (not-true _ told.1)),
    λ t. filter-In T (λ x. not (rank x == k)) r rows t.0 (ap not (ne_eqb _ _ t.1)),
  )
