-- A spot is noted in the row of its head, or elsewhere.
use Rattle.std.proofs.Common.{◌≡◌, ◌<◌, ℕ, zero, suc, Bool, true, false, cond, List, [], ◌∷◌, ◌⊎◌, inl, inr, get_or, set, length, slice_get, Option, None, Some, IsTrue, refl, sym, ap, ◌∙◌, arith}
use Rattle.std.proofs.lemmas.Bool.{cases_Bool, cases_eq, false≢true}
use Rattle.std.proofs.lemmas.List.{get_or-set_same, get_or-set_other}
use Rattle.log_visits.specs.SpotRows.{is_free, spot_in}
use Rattle.log_visits.specs.declared.spot_table.RecordSpot.{RecordSpot}

module _ {H : Type 0} (same : H → H → Bool) (is_same : (a b : H) → IsTrue (same a b) → a ≡ b) (row_of : H → ℕ) (rows : List (Option (H × RecordSpot))) (head : H) (spot : RecordSpot) where
  -- a row that is free is there
  pub row_there : (rows : List (Option (H × RecordSpot))) (i : ℕ) → is_free same head (slice_get rows i) ≡ true → i < length rows
  row_there [] i free = absurd (false≢true free)
  row_there (r ∷ rows) zero free = omega arith
  row_there (r ∷ rows) (suc i) free = let below = row_there rows i free in omega (arith, below)

  -- no other head is found in it
  free_of : (q : H) (other : Option RecordSpot) (r : Option (H × RecordSpot)) → is_free same head (Some r) ≡ true → same head q ≡ false → spot_in same q r other ≡ other
  free_of q other None free apart = refl
  free_of q other (Some held) free apart =
      let is : held.0 ≡ head = is_same held.0 head free in
      ap (λ b. cond b (Some held.1) other) (ap (λ h. same h q) is ∙ apart)

  free_row : (rows : List (Option (H × RecordSpot))) (i : ℕ) → is_free same head (slice_get rows i) ≡ true → is_free same head (Some (get_or rows i None)) ≡ true
  free_row [] i free = absurd (false≢true free)
  free_row (r ∷ rows) zero free = free
  free_row (r ∷ rows) (suc i) free = free_row rows i free

  pub in_row : is_free same head (slice_get rows (row_of head)) ≡ true → (q : H) (other : Option RecordSpot) →
      spot_in same q (get_or (set rows (row_of head) (Some (head, spot))) (row_of q) None) other ≡ cond (same head q) (Some spot) (spot_in same q (get_or rows (row_of q) None) other)
  in_row free q other = by_head (cases_Bool (same head q))
    where
      new : List (Option (H × RecordSpot))
      new = set rows (row_of head) (Some (head, spot))

      old : Option RecordSpot
      old = spot_in same q (get_or rows (row_of q) None) other

      at_row : row_of q ≡ row_of head → spot_in same q (get_or new (row_of q) None) other ≡ cond (same head q) (Some spot) other
      at_row is = ap (λ r. spot_in same q r other) (ap (λ n. get_or new n None) is ∙ get_or-set_same rows (row_of head) (Some (head, spot)) None (row_there rows (row_of head) free))

      by_row : same head q ≡ false → (row_of q ≡ row_of head) ⊎ (row_of q ≡ row_of head → ⊥) → spot_in same q (get_or new (row_of q) None) other ≡ old
      by_row apart (inl is) =
          at_row is ∙ ap (λ b. cond b (Some spot) other) apart
          ∙ sym (ap (λ n. spot_in same q (get_or rows n None) other) is ∙ free_of q other (get_or rows (row_of head) None) (free_row rows (row_of head) free) apart)
      by_row apart (inr not) = ap (λ r. spot_in same q r other) (get_or-set_other rows (row_of head) (row_of q) (Some (head, spot)) None not)

      by_head : (same head q ≡ true) ⊎ (same head q ≡ false) → spot_in same q (get_or new (row_of q) None) other ≡ cond (same head q) (Some spot) old
      by_head (inl is) = at_row (ap row_of (sym (is_same head q is))) ∙ ap (λ b. cond b (Some spot) other) is ∙ sym (ap (λ b. cond b (Some spot) old) is)
      by_head (inr apart) = by_row apart (cases_eq (row_of q) (row_of head)) ∙ sym (ap (λ b. cond b (Some spot) old) apart)

  -- a head is not found in a row that isn't free for it
  taken_of : (other : Option RecordSpot) (rows : List (Option (H × RecordSpot))) (i : ℕ) → is_free same head (slice_get rows i) ≡ false → spot_in same head (get_or rows i None) other ≡ other
  taken_of other [] i taken = refl
  taken_of other (r ∷ rows) (suc i) taken = taken_of other rows i taken
  taken_of other (None ∷ rows) zero taken = absurd (false≢true (sym taken))
  taken_of other (Some held ∷ rows) zero taken = ap (λ b. cond b (Some held.1) other) taken

  pub elsewhere : is_free same head (slice_get rows (row_of head)) ≡ false → (q : H) (old new : Option RecordSpot) → new ≡ cond (same head q) (Some spot) old →
      spot_in same q (get_or rows (row_of q) None) new ≡ cond (same head q) (Some spot) (spot_in same q (get_or rows (row_of q) None) old)
  elsewhere taken q old new is = by_head (cases_Bool (same head q))
    where
      row : Option (H × RecordSpot)
      row = get_or rows (row_of q) None

      by_head : (same head q ≡ true) ⊎ (same head q ≡ false) → spot_in same q row new ≡ cond (same head q) (Some spot) (spot_in same q row old)
      by_head (inl it) =
          let here : q ≡ head = sym (is_same head q it) in
          ap (λ h. spot_in same h (get_or rows (row_of h) None) new) here ∙ taken_of new rows (row_of head) taken
          ∙ is ∙ ap (λ b. cond b (Some spot) old) it ∙ sym (ap (λ b. cond b (Some spot) (spot_in same q row old)) it)
      by_head (inr apart) = ap (spot_in same q row) (is ∙ ap (λ b. cond b (Some spot) old) apart) ∙ sym (ap (λ b. cond b (Some spot) (spot_in same q row old)) apart)
