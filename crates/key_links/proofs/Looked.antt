-- What a look-up finds among rows when one comes or goes.
use Rattle.std.proofs.Common.{◌≡◌, ℕ, ◌<◌, ◌≤◌, Bool, true, false, cond, not, ◌==◌, List, [], ◌∷◌, ◌++◌, filter, find, Some, None, refl, sym, ap, subst, ◌∙◌, arith, ⊎_elim}
use Rattle.std.specs.Prelude.{nat_lt, IsSome}
use Rattle.std.proofs.lemmas.Bool.{eqb-true, eq-eqb, ne_eqb, lt-ltb, cases_lt, ltb-true, false≢true}
use Rattle.sorted_table.specs.Rows.{row_at, replaced, with_row, without}

-- what is found in front stays found, and else the look-up goes on behind
find-append : (X : Type 0) (p : X → Bool) (xs ys : List X) → find p xs ≡ None → find p (xs ++ ys) ≡ find p ys
find-append X p [] ys e = refl
find-append X p (x ∷ xs) ys e =
    (elim (p x) as (λ b. cond b (Some x) (find p xs) ≡ None → cond b (Some x) (find p (xs ++ ys)) ≡ find p ys) [
      | true ↦ λ q. absurd (cc)
      | false ↦ λ q. find-append X p xs ys q
    ]) e

find-front : (X : Type 0) (p : X → Bool) (xs ys : List X) (y : X) → find p xs ≡ Some y → find p (xs ++ ys) ≡ Some y
find-front X p [] ys y e = absurd (cc)
find-front X p (x ∷ xs) ys y e =
    (elim (p x) as (λ b. cond b (Some x) (find p xs) ≡ Some y → cond b (Some x) (find p (xs ++ ys)) ≡ Some y) [
      | true ↦ λ q. q
      | false ↦ λ q. find-front X p xs ys y q
    ]) e

-- a look-up among those that a weaker test kept
find-kept : (T : Type 0) (p q : T → Bool) → ((x : T) → p x ≡ true → q x ≡ true) → (xs : List T) → find p (filter q xs) ≡ find p xs
find-kept T p q keeps [] = refl
find-kept T p q keeps (x ∷ xs) =
    (elim (p x) as (λ b. p x ≡ b → find p (cond (q x) (x ∷ filter q xs) (filter q xs)) ≡ cond b (Some x) (find p xs)) [
      | true ↦ λ t. ap (λ b. find p (cond b (x ∷ filter q xs) (filter q xs))) (keeps x t) ∙ ap (λ b. cond b (Some x) (find p (filter q xs))) t
      | false ↦ λ t.
          (elim (q x) as (λ b. find p (cond b (x ∷ filter q xs) (filter q xs)) ≡ find p xs) [
            | true ↦ ap (λ b. cond b (Some x) (find p (filter q xs))) t ∙ find-kept T p q keeps xs
            | false ↦ find-kept T p q keeps xs
          ])
    ]) refl

-- and among those that a test against it kept
find-none-kept : (T : Type 0) (p q : T → Bool) → ((x : T) → q x ≡ true → p x ≡ false) → (xs : List T) → find p (filter q xs) ≡ None
find-none-kept T p q against [] = refl
find-none-kept T p q against (x ∷ xs) =
    (elim (q x) as (λ b. q x ≡ b → find p (cond b (x ∷ filter q xs) (filter q xs)) ≡ None) [
      | true ↦ λ t. ap (λ b. cond b (Some x) (find p (filter q xs))) (against x t) ∙ find-none-kept T p q against xs
      | false ↦ λ t. find-none-kept T p q against xs
    ]) refl

lt_of_le_ne : (a b : ℕ) → a ≤ b → a == b ≡ false → a < b
lt_of_le_ne a b h e = ⊎_elim (λ (lt : a < b). lt) (λ (ge : b ≤ a). let same : a ≡ b = omega (arith, h, ge) in absurd (false≢true (sym e ∙ eq-eqb a b same))) (cases_lt a b)

-- a new row is found, and the others as before
pub found_with : (T : Type 0) (rank : T → ℕ) (rows : List T) (row : T) (k : ℕ) → row_at rank (with_row rank rows row) k ≡ cond (rank row == k) (Some row) (row_at rank rows k)
found_with T rank rows row k =
    let lower : T → Bool = λ r. nat_lt (rank r) (rank row) in
    let higher : T → Bool = λ r. nat_lt (rank row) (rank r) in
    let p : T → Bool = λ r. rank r == k in
    (elim (rank row == k) as (λ b. rank row == k ≡ b → find p (filter lower rows ++ row ∷ filter higher rows) ≡ cond b (Some row) (find p rows)) [
      | true ↦ λ t.
          let same : rank row ≡ k = eqb-true (rank row) k t in
          find-append T p (filter lower rows) (row ∷ filter higher rows) (find-none-kept T p lower (λ x l. let lt : rank x < rank row = ltb-true (rank x) (rank row) l in ne_eqb (rank x) k (λ e. omega (arith, lt, e, same))) rows)
          ∙ ap (λ b. cond b (Some row) (find p (filter higher rows))) t
      | false ↦ λ t. ⊎_elim
          (λ (below : k < rank row).
          let there : find p (filter lower rows) ≡ find p rows = find-kept T p lower (λ x e. let same : rank x ≡ k = eqb-true (rank x) k e in lt-ltb (rank x) (rank row) (omega (arith, same, below))) rows in
          let behind : find p (row ∷ filter higher rows) ≡ None = ap (λ b. cond b (Some row) (find p (filter higher rows))) t ∙ find-none-kept T p higher (λ x h. let gt : rank row < rank x = ltb-true (rank row) (rank x) h in ne_eqb (rank x) k (λ e. omega (arith, gt, e, below))) rows in
          (elim (find p (filter lower rows)) as (λ o. find p (filter lower rows) ≡ o → find p (filter lower rows ++ row ∷ filter higher rows) ≡ o) [
            | None ↦ λ e. find-append T p (filter lower rows) (row ∷ filter higher rows) e ∙ behind
            | Some y ↦ λ e. find-front T p (filter lower rows) (row ∷ filter higher rows) y e
          ]) refl ∙ there)
          (λ (above : rank row ≤ k).
          let gt : rank row < k = lt_of_le_ne (rank row) k above t in
          find-append T p (filter lower rows) (row ∷ filter higher rows) (find-none-kept T p lower (λ x l. let lt : rank x < rank row = ltb-true (rank x) (rank row) l in ne_eqb (rank x) k (λ e. omega (arith, lt, e, gt))) rows)
          ∙ ap (λ b. cond b (Some row) (find p (filter higher rows))) t
          ∙ find-kept T p higher (λ x e. let same : rank x ≡ k = eqb-true (rank x) k e in lt-ltb (rank row) (rank x) (omega (arith, same, gt))) rows)
          (cases_lt k (rank row))
    ]) refl

-- the row with the rank is gone, and the others are found as before
pub found_without : (T : Type 0) (rank : T → ℕ) (rows : List T) (gone k : ℕ) → row_at rank (without rank rows gone) k ≡ cond (gone == k) None (row_at rank rows k)
found_without T rank rows gone k =
    let p : T → Bool = λ r. rank r == k in
    let q : T → Bool = λ r. not (rank r == gone) in
    (elim (gone == k) as (λ b. gone == k ≡ b → find p (filter q rows) ≡ cond b None (find p rows)) [
      | true ↦ λ t. find-none-kept T p q (λ x h. ne_eqb (rank x) k (λ e. false≢true (sym (ap not (eq-eqb (rank x) gone (e ∙ sym (eqb-true gone k t)))) ∙ h))) rows
      | false ↦ λ t. find-kept T p q (λ x e. ap not (ne_eqb (rank x) gone (λ same. false≢true (sym t ∙ eq-eqb gone k (sym same ∙ eqb-true (rank x) k e))))) rows
    ]) refl

-- a row that takes the place of another is found, and the others as before
pub found_replaced : (T : Type 0) (rank : T → ℕ) (rows : List T) (row : T) (k : ℕ) → IsSome (row_at rank rows (rank row))
    → row_at rank (replaced rank rows row) k ≡ cond (rank row == k) (Some row) (row_at rank rows k)
found_replaced T rank rows row k there =
    (elim (rank row == k) as (λ b. rank row == k ≡ b → row_at rank (replaced rank rows row) k ≡ cond b (Some row) (row_at rank rows k)) [
      | true ↦ λ t. at_own rows (subst (λ n. IsSome (row_at rank rows n)) (eqb-true (rank row) k t) there) t
      | false ↦ λ t. at_others rows t
    ]) refl
  where
    at_own : (xs : List T) → IsSome (row_at rank xs k) → rank row == k ≡ true → row_at rank (replaced rank xs row) k ≡ Some row
    at_own [] some t = absurd (false≢true some)
    at_own (x ∷ xs) some t =
        let own : rank row ≡ k = eqb-true (rank row) k t in
        (elim (rank x == rank row) as (λ b. rank x == rank row ≡ b → find (λ r. rank r == k) (cond b row x ∷ replaced rank xs row) ≡ Some row) [
          | true ↦ λ e. ap (λ b. cond b (Some row) (row_at rank (replaced rank xs row) k)) t
          | false ↦ λ e.
              let other : rank x == k ≡ false = subst (λ n. rank x == n ≡ false) own e in
              ap (λ b. cond b (Some x) (row_at rank (replaced rank xs row) k)) other
              ∙ at_own xs (subst IsSome (ap (λ b. cond b (Some x) (row_at rank xs k)) other) some) t
        ]) refl

    at_others : (xs : List T) → rank row == k ≡ false → row_at rank (replaced rank xs row) k ≡ row_at rank xs k
    at_others [] t = refl
    at_others (x ∷ xs) t =
        (elim (rank x == rank row) as (λ b. rank x == rank row ≡ b → find (λ r. rank r == k) (cond b row x ∷ replaced rank xs row) ≡ row_at rank (x ∷ xs) k) [
          | true ↦ λ e.
              let other : rank x == k ≡ false = subst (λ n. n == k ≡ false) (sym (eqb-true (rank x) (rank row) e)) t in
              ap (λ b. cond b (Some row) (row_at rank (replaced rank xs row) k)) t
              ∙ at_others xs t ∙ sym (ap (λ b. cond b (Some x) (row_at rank xs k)) other)
          | false ↦ λ e. ap (λ o. cond (rank x == k) (Some x) o) (at_others xs t)
        ]) refl
