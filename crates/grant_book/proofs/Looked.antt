-- The grants between two places are a holder's, or a folder's.
use Rattle.std.proofs.Common.{◌≡◌, ℕ, suc, ◌+◌, ◌*◌, ◌<◌, Bool, ◌&&◌, ◌==◌, nat_le, ◌↔◌, List, [], ◌∷◌, filter, get_or, IsTrue, refl, sym, ap, ◌∙◌, subst, inl, inr, ⊎_elim, arith}
use Rattle.std.specs.List.{All, AllPairs}
use Rattle.std.proofs.lemmas.Bool.{eqb-true}
use Rattle.std.proofs.lemmas.Bool.Decides.{nat_tests}
use Rattle.std.proofs.lemmas.List.Elements.{All-head, All-tail}
use Rattle.std.proofs.lemmas.List.Kept.{AllPairs-filter}
use Rattle.cry_base.specs.Sets.{In}
use Rattle.cry_base.specs.Store.{GrantEntry}
use Rattle.cry_base.proofs.Members.{In-filter, filter-In}
use Rattle.sorted_table.specs.Rows.{IsRising}
use Rattle.grant_book.specs.Fitting.{Fits}
use Rattle.grant_book.specs.Granted.{AreOrdered, grant_of, is_before}
use Rattle.grant_book.specs.Ranks.{rank_of, rank_on}
use Rattle.grant_book.proofs.Fitted.{holder_small}
use Rattle.grant_book.proofs.Lists.{filter_same, All-filter}

-- places between the first and the last of one number
between_is : (h f k : ℕ) → f < 4294967296 → (nat_le (k * 4294967296 + 0) (h * 4294967296 + f) && nat_le (h * 4294967296 + f) (k * 4294967296 + 4294967295)) ≡ (h == k)
between_is h f k fits = grind (arith, nat_tests)

All-in : (X : Type 0) (P : X → Type 0) (xs : List X) (x : X) → All P xs → In x xs → P x
All-in X P [] x all i = absurd i
All-in X P (y ∷ xs) x all i = ⊎_elim (λ (e : x ≡ y). subst P (sym e) (All-head P y xs all)) (λ rest. All-in X P xs x (All-tail P y xs all) rest) i

-- what stands behind the first of rising elements is above it, and rises too
pub above_head : (X : Type 0) (rank : X → ℕ) (x : X) (xs : List X) → IsRising rank (x ∷ xs) → (y : X) → In y xs → rank x < rank y
above_head X rank x xs rising y i = All-in X (λ z. rank x < rank z) xs y (λ k d within. rising 0 (suc k) d (omega arith) (omega arith)) i

pub rest_rises : (X : Type 0) (rank : X → ℕ) (x : X) (xs : List X) → IsRising rank (x ∷ xs) → IsRising rank xs
rest_rises X rank x xs rising = λ i j d lt within. rising (suc i) (suc j) d (omega arith) (omega arith)

-- rising lists with the same elements are one
same_rising : (X : Type 0) (rank : X → ℕ) (xs ys : List X) → IsRising rank xs → IsRising rank ys → ((x : X) → In x xs ↔ In x ys) → xs ≡ ys
same_rising X rank [] [] up over same = refl
same_rising X rank [] (y ∷ ys) up over same = absurd ((same y).1 (inl refl))
same_rising X rank (x ∷ xs) [] up over same = absurd ((same x).0 (inl refl))
same_rising X rank (x ∷ xs) (y ∷ ys) up over same =
    ap (λ z. z ∷ xs) first ∙ ap (λ zs. y ∷ zs) (same_rising X rank xs ys (rest_rises X rank x xs up) (rest_rises X rank y ys over) (λ z. (to z, from z)))
  where
    first : x ≡ y
    first =
        ⊎_elim (λ (here : x ≡ y). here)
        (λ (i : In x ys). ⊎_elim (λ (here : y ≡ x). sym here)
        (λ (j : In y xs). absurd (
        let low : rank y < rank x = above_head X rank y ys over x i in
        let high : rank x < rank y = above_head X rank x xs up y j in
        omega (arith, low, high)))
        ((same y).1 (inl refl)))
        ((same x).0 (inl refl))

    to : (z : X) → In z xs → In z ys
    to z i =
        ⊎_elim (λ (here : z ≡ y). absurd (
        let low : rank x < rank z = above_head X rank x xs up z i in
        let one : rank z ≡ rank x = ap rank (here ∙ sym first) in
        omega (arith, low, one)))
        (λ rest. rest) ((same z).0 (inr i))

    from : (z : X) → In z ys → In z xs
    from z i =
        ⊎_elim (λ (here : z ≡ x). absurd (
        let low : rank y < rank z = above_head X rank y ys over z i in
        let one : rank z ≡ rank y = ap rank (here ∙ first) in
        omega (arith, low, one)))
        (λ rest. rest) ((same z).1 (inr i))

-- an order of elements that all pass a test, told by another one
AllPairs-told : (X : Type 0) (R S : X → X → Type 0) (P : X → Type 0) → ((a b : X) → P a → P b → R a b → S a b) → (xs : List X) → All P xs → AllPairs R xs → AllPairs S xs
AllPairs-told X R S P tells xs all pairs = λ i j d lt within. tells (get_or xs i d) (get_or xs j d) (all i d (omega arith)) (all j d within) (pairs i j d lt within)

-- the grants from the first place of a holder to the last one are the holder's
pub of_holder : (checks : List (List ℕ)) (pairs others : List GrantEntry) (h : ℕ) (first last : GrantEntry) → Fits checks pairs others → first ≡ grant_of h 0 → last ≡ grant_of h 4294967295
    → filter (λ e. nat_le (rank_of first) (rank_of e) && nat_le (rank_of e) (rank_of last)) pairs ≡ filter (λ e. e.holder == h) pairs
of_holder checks pairs others h first last fits from to =
    filter_same GrantEntry (λ e. nat_le (rank_of first) (rank_of e) && nat_le (rank_of e) (rank_of last)) (λ e. e.holder == h) pairs (λ e i.
    ap (λ (a : GrantEntry). nat_le (rank_of a) (rank_of e) && nat_le (rank_of e) (rank_of last)) from
    ∙ ap (λ (z : GrantEntry). nat_le (rank_of (grant_of h 0)) (rank_of e) && nat_le (rank_of e) (rank_of z)) to
    ∙ between_is e.holder e.folder h (fits.numbered e i))

-- those from the first place of a folder to the last one, in the other list, are those on the folder
module _ (checks : List (List ℕ)) (pairs others : List GrantEntry) (f : ℕ) (fits : Fits checks pairs others) (order : AreOrdered pairs) where
  abbrev is_on : GrantEntry → Bool
  is_on e = e.folder == f

  -- on one folder both orders are that of the holders
  by_holder_of : IsRising (λ (e : GrantEntry). e.holder) (filter is_on pairs)
  by_holder_of = AllPairs-told GrantEntry (λ a b. IsTrue (is_before a b)) (λ a b. a.holder < b.holder) (λ e. e.folder ≡ f)
      (λ a b on_a on_b before. grind (arith, nat_tests)) (filter is_on pairs)
      (All-filter GrantEntry is_on (λ e. e.folder ≡ f) (λ e told. eqb-true _ _ told) pairs)
      (AllPairs-filter (λ a b. IsTrue (is_before a b)) is_on pairs order)

  by_holder_on : IsRising rank_on (filter is_on others) → IsRising (λ (e : GrantEntry). e.holder) (filter is_on others)
  by_holder_on rising = AllPairs-told GrantEntry (λ a b. rank_on a < rank_on b) (λ a b. a.holder < b.holder) (λ e. e.folder ≡ f)
      (λ a b on_a on_b before. omega (arith, on_a, on_b, before)) (filter is_on others)
      (All-filter GrantEntry is_on (λ e. e.folder ≡ f) (λ e told. eqb-true _ _ told) others) rising

  same_on : (e : GrantEntry) → In e (filter is_on others) ↔ In e (filter is_on pairs)
  same_on e = (
    λ i. let told = In-filter GrantEntry is_on e others i in filter-In GrantEntry is_on e pairs ((fits.same e).0 told.0) told.1,
    λ i. let told = In-filter GrantEntry is_on e pairs i in filter-In GrantEntry is_on e others ((fits.same e).1 told.0) told.1,
  )

  pub on_folder : (first last : GrantEntry) (found : List GrantEntry) → first ≡ grant_of 0 f → last ≡ grant_of 4294967295 f
      → found ≡ filter (λ e. nat_le (rank_on first) (rank_on e) && nat_le (rank_on e) (rank_on last)) others → IsRising rank_on found
      → found ≡ filter is_on pairs
  on_folder first last found from to told rising =
      let here : found ≡ filter is_on others = told ∙ filter_same GrantEntry (λ e. nat_le (rank_on first) (rank_on e) && nat_le (rank_on e) (rank_on last)) is_on others (λ e i.
      ap (λ (a : GrantEntry). nat_le (rank_on a) (rank_on e) && nat_le (rank_on e) (rank_on last)) from
      ∙ ap (λ (z : GrantEntry). nat_le (rank_on (grant_of 0 f)) (rank_on e) && nat_le (rank_on e) (rank_on z)) to
      ∙ between_is e.folder e.holder f (holder_small checks pairs others e.holder fits (fits.made e ((fits.same e).0 i)))) in
      here ∙ same_rising GrantEntry (λ e. e.holder) (filter is_on others) (filter is_on pairs) (by_holder_on (subst (IsRising rank_on) here rising)) by_holder_of same_on
