-- The index by groups follows the rows.
use Rattle.std.proofs.Common.{cond, not, false, ◌==◌, ◌⊎◌, ◌↔◌, ◌≡◌, ◌≢◌, ℕ, suc, ◌<◌, ◌≤◌, Bool, true, ◌&&◌, List, [], ◌∷◌, length, map, filter, Some, None, refl, sym, ap, ◌∙◌, subst, inl, inr, ⊎_elim, arith, nat_le}
use Rattle.std.specs.Prelude.{IsSome}
use Rattle.std.specs.List.{All, AllPairs, list_any}
use Rattle.std.specs.List.Sorted.{IsPermutation}
use Rattle.std.proofs.lemmas.Bool.{and_parts, and_from, eq-eqb, eqb-false, eqb-true, le-leb, leb-true, ne_eqb}
use Rattle.std.proofs.lemmas.List.Elements.{All-head, All-tail, All-map}
use Rattle.std.proofs.lemmas.List.Kept.{AllPairs-cons}
use Rattle.std.proofs.lemmas.List.Sorted.{All-permutation, IsPermutation-sym}
use Rattle.cry_base.specs.Sets.{In}
use Rattle.std.proofs.lemmas.List.Folds.{list_any_none}
use Rattle.cry_base.proofs.Members.{In-any, In-map, In-filter, filter-In}
use Rattle.sorted_table.specs.Rows.{IsRising, replaced, row_at, with_row, without}
use Rattle.sorted_table.proofs.Found.{row_at-Some, row_at-None, row_at-absent, In-with_row, In-without}
use Rattle.folder_nodes.specs.Indexing.{IsIndexed, spot_of}
use Rattle.folder_nodes.specs.Ranking.{spot_rank}
use Rattle.folder_nodes.specs.declared.spots.Spot.{Spot}
use Rattle.folder_nodes.proofs.Ascending.{All-in, in-All, head_below, rest_rising, same_ranked}

abbrev pub by_spot : Spot → ℕ
by_spot q = spot_rank q.group q.id

-- places in one group or two
pub same_place : (d e i j : ℕ) → i < 4294967296 → j < 4294967296 → spot_rank d i ≡ spot_rank e j → (d ≡ e) × (i ≡ j)
same_place d e i j a b same = (omega (arith, a, b, same), omega (arith, a, b, same))

-- the places in one group
abbrev pub is_under : ℕ → Spot → Bool
is_under group q = nat_le (spot_rank group 0) (by_spot q) && nat_le (by_spot q) (spot_rank group 4294967295)

module _ (T : Type 0) (rank group : T → ℕ) where
  abbrev place : T → Spot
  place r = spot_of (group r) (rank r)

  -- no rows, no index
  pub nothing_indexed : IsIndexed rank group [] []
  nothing_indexed = record { small = λ r i. absurd i; listed = λ r i. absurd i; only = λ q i. absurd i }

  -- where no row has the number, nothing stands in the index under it
  pub spot_absent : (rows : List T) (spots : List Spot) (row : T) → IsIndexed rank group rows spots → rank row < 4294967296 → row_at rank rows (rank row) ≡ None → row_at by_spot spots (by_spot (place row)) ≡ None
  spot_absent rows spots row index small none =
      row_at-absent Spot by_spot spots (by_spot (place row)) (λ q i same.
      let w = index.only q i in
      let e : by_spot (place w.0) ≡ by_spot (place row) = ap by_spot (sym w.2) ∙ same in
      let both = same_place (group w.0) (group row) (rank w.0) (rank row) (index.small w.0 w.1) small e in
      row_at-None T rank rows (rank row) none w.0 w.1 both.1)

  -- a row more, and its place
  pub index_more : (rows more : List T) (spots : List Spot) (row : T) → IsIndexed rank group rows spots → rank row < 4294967296 → row_at rank rows (rank row) ≡ None → ((r : T) → In r more ↔ ((r ≡ row) ⊎ In r rows)) → IsIndexed rank group more (with_row by_spot spots (place row))
  index_more rows more spots row index small none in_rows =
      let in_spots = λ (q : Spot). In-with_row Spot by_spot spots (place row) q (spot_absent rows spots row index small none) in
      record {
        small = λ r i. ⊎_elim (λ (e : r ≡ row). subst (λ (z : T). rank z < 4294967296) (sym e) small) (λ old. index.small r old) ((in_rows r).0 i);
        listed = λ r i. ⊎_elim (λ (e : r ≡ row). (in_spots (place r)).1 (inl (ap place e))) (λ old. (in_spots (place r)).1 (inr (index.listed r old))) ((in_rows r).0 i);
        only = λ q i. ⊎_elim (λ (e : q ≡ place row). (row, (in_rows row).1 (inl refl), e)) (λ old. let w = index.only q old in (w.0, (in_rows w.0).1 (inr w.1), w.2)) ((in_spots q).0 i);
      }

  pub index_with : (rows : List T) (spots : List Spot) (row : T) → IsIndexed rank group rows spots → rank row < 4294967296 → row_at rank rows (rank row) ≡ None → IsIndexed rank group (with_row rank rows row) (with_row by_spot spots (place row))
  index_with rows spots row index small none = index_more rows (with_row rank rows row) spots row index small none (λ r. In-with_row T rank rows row r none)

  -- a row less, and its place
  pub index_without : (rows : List T) (spots : List Spot) (k : ℕ) (row : T) → IsIndexed rank group rows spots → IsRising rank rows → row_at rank rows k ≡ Some row → IsIndexed rank group (without rank rows k) (without by_spot spots (by_spot (place row)))
  index_without rows spots k row index rising found =
      let there = row_at-Some T rank rows k row found in
      let in_rows = λ (r : T). In-without T rank rows k r in
      let in_spots = λ (q : Spot). In-without Spot by_spot spots (by_spot (place row)) q in
      record {
        small = λ r i. index.small r ((in_rows r).0 i).0;
        listed = λ r i.
            let old = (in_rows r).0 i in
            (in_spots (place r)).1 (
              index.listed r old.0,
              λ same.
                  let both = same_place (group r) (group row) (rank r) (rank row) (index.small r old.0) (index.small row there.0) same in
                  old.1 (both.1 ∙ there.1),
            );
        only = λ q i.
            let old = (in_spots q).0 i in
            let w = index.only q old.0 in (
              w.0,
              (in_rows w.0).1 (
                w.1,
                λ same.
                    let one : w.0 ≡ row = same_ranked T rank rows rising w.0 row w.1 there.0 (same ∙ sym there.1) in
                    old.1 (ap by_spot (w.2 ∙ ap place one)),
              ),
              w.2,
            );
      }

  -- nothing goes where nothing is
  pub none_less : (rows : List T) (k : ℕ) → row_at rank rows k ≡ None → without rank rows k ≡ rows
  none_less [] k e = refl
  none_less (x ∷ xs) k e =
      (elim (rank x == k) as (λ b. cond b (Some x) (row_at rank xs k) ≡ None → cond (not b) (x ∷ without rank xs k) (without rank xs k) ≡ x ∷ xs) [
        | true ↦ λ q. absurd (cc)
        | false ↦ λ q. ap (λ l. x ∷ l) (none_less xs k q)
      ]) e

  -- a row in the place of another
  module _ (rows : List T) (row was : T) (found : row_at rank rows (rank row) ≡ Some was) where
    abbrev put : T → T
    put x = cond (rank x == rank row) row x

    put_or : (r : T) → In r (replaced rank rows row) ↔ ((r ≡ row) ⊎ In r (without rank rows (rank row)))
    put_or r =
        let there = row_at-Some T rank rows (rank row) was found in (
          λ i.
              let w = (In-map T T put r rows).0 i in
              (elim (rank w.0 == rank row) as (λ b. rank w.0 == rank row ≡ b → r ≡ cond b row w.0 → (r ≡ row) ⊎ In r (without rank rows (rank row))) [
                | true ↦ λ t e. inl e
                | false ↦ λ t e. inr (subst (λ (z : T). In z (without rank rows (rank row))) (sym e) ((In-without T rank rows (rank row) w.0).1 (w.1, eqb-false (rank w.0) (rank row) t)))
              ]) refl w.2,
          λ u. ⊎_elim
              (λ (e : r ≡ row). (In-map T T put r rows).1 (was, there.0, e ∙ ap (λ b. cond b row was) (sym (eq-eqb (rank was) (rank row) there.1))))
              (λ old.
              let o = (In-without T rank rows (rank row) r).0 old in
              (In-map T T put r rows).1 (r, o.0, ap (λ b. cond b row r) (sym (ne_eqb (rank r) (rank row) o.1)))) u,
        )

    none_left : row_at rank (without rank rows (rank row)) (rank row) ≡ None
    none_left = row_at-absent T rank (without rank rows (rank row)) (rank row) (λ r i same. ((In-without T rank rows (rank row) r).0 i).1 same)

    -- in another group: it leaves the place of the old one
    pub index_moved : (spots : List Spot) → IsIndexed rank group rows spots → IsRising rank rows → rank row < 4294967296
        → IsIndexed rank group (replaced rank rows row) (with_row by_spot (without by_spot spots (by_spot (place was))) (place row))
    index_moved spots index rising small =
        index_more (without rank rows (rank row)) (replaced rank rows row) (without by_spot spots (by_spot (place was))) row (index_without rows spots (rank row) was index rising found) small none_left put_or

    pub spot_freed : (spots : List Spot) → IsIndexed rank group rows spots → IsRising rank rows → rank row < 4294967296
        → row_at by_spot (without by_spot spots (by_spot (place was))) (by_spot (place row)) ≡ None
    spot_freed spots index rising small =
        spot_absent (without rank rows (rank row)) (without by_spot spots (by_spot (place was))) row (index_without rows spots (rank row) was index rising found) small none_left

    -- and the old one's place is there
    pub spot_there : (spots : List Spot) → IsIndexed rank group rows spots → IsSome (row_at by_spot spots (by_spot (place was)))
    spot_there spots index =
        (elim (row_at by_spot spots (by_spot (place was))) as (λ o. row_at by_spot spots (by_spot (place was)) ≡ o → IsSome o) [
          | Some q ↦ λ e. refl
          | None ↦ λ e. absurd (row_at-None Spot by_spot spots (by_spot (place was)) e (place was) (index.listed was (row_at-Some T rank rows (rank row) was found).0) refl)
        ]) refl

    -- in the same group: it has the place of the old one
    pub index_kept : (spots : List Spot) → IsIndexed rank group rows spots → IsRising rank rows → group was ≡ group row → IsIndexed rank group (replaced rank rows row) spots
    index_kept spots index rising same =
        let there = row_at-Some T rank rows (rank row) was found in
        let one : place was ≡ place row = λ i. record { group = same i; id = there.1 i } in
        let left = index_without rows spots (rank row) was index rising found in record {
          small = λ r i. ⊎_elim (λ (e : r ≡ row). subst (λ (z : ℕ). z < 4294967296) (there.1 ∙ ap rank (sym e)) (index.small was there.0)) (λ old. left.small r old) ((put_or r).0 i);
          listed = λ r i. ⊎_elim (λ (e : r ≡ row). subst (λ (z : Spot). In z spots) (one ∙ ap place (sym e)) (index.listed was there.0)) (λ old. index.listed r ((In-without T rank rows (rank row) r).0 old).0) ((put_or r).0 i);
          only = λ q i.
              let w = index.only q i in
              (elim (rank w.0 == rank row) as (λ b. rank w.0 == rank row ≡ b → (r : T) × In r (replaced rank rows row) × (q ≡ place r)) [
                | true ↦ λ t.
                    let old : w.0 ≡ was = same_ranked T rank rows rising w.0 was w.1 there.0 (eqb-true (rank w.0) (rank row) t ∙ sym there.1) in
                    (row, (put_or row).1 (inl refl), w.2 ∙ ap place old ∙ one)
                | false ↦ λ f. (w.0, (put_or w.0).1 (inr ((In-without T rank rows (rank row) w.0).1 (w.1, eqb-false (rank w.0) (rank row) f))), w.2)
              ]) refl;
        }

  under_told : (rows : List T) (spots : List Spot) → IsIndexed rank group rows spots → (g : ℕ) (q : Spot) → In q (filter (is_under g) spots) → (q.group ≡ g) × (q.id < 4294967296)
  under_told rows spots index g q i =
      let told = In-filter Spot (is_under g) q spots i in
      let both = and_parts (nat_le (spot_rank g 0) (by_spot q)) (nat_le (by_spot q) (spot_rank g 4294967295)) told.1 in
      let low : spot_rank g 0 ≤ by_spot q = leb-true _ _ both.0 in
      let high : by_spot q ≤ spot_rank g 4294967295 = leb-true _ _ both.1 in
      let w = index.only q told.0 in
      let small : rank w.0 < 4294967296 = index.small w.0 w.1 in
      let id : q.id ≡ rank w.0 = ap (λ (z : Spot). z.id) w.2 in
      (omega (arith, low, high, small, id), omega (arith, small, id))

  -- the numbers of a group ascend
  pub under_rising : (rows : List T) (spots found : List Spot) → IsIndexed rank group rows spots → (g : ℕ) → found ≡ filter (is_under g) spots → IsRising by_spot found → IsRising (λ q. q.id) found
  under_rising rows spots found index g e rising =
      let all : All (λ (q : Spot). (q.group ≡ g) × (q.id < 4294967296)) found = in-All Spot (λ q. (q.group ≡ g) × (q.id < 4294967296)) found (λ q i. under_told rows spots index g q (subst (λ l. In q l) e i)) in
      λ i j d lt within.
      let a = all i d (omega arith) in
      let b = all j d within in
      let up = rising i j d lt within in
      omega (arith, a.0, b.0, up)

  -- and all of the group are among them
  pub under_all : (rows : List T) (spots found : List Spot) (g : ℕ) → IsIndexed rank group rows spots → found ≡ filter (is_under g) spots → (r : T) → In r rows → group r ≡ g → In (rank r) (map (λ (q : Spot). q.id) found)
  under_all rows spots found g index e r i same =
      let small : rank r < 4294967296 = index.small r i in
      let passes : is_under g (place r) ≡ true =
      and_from (nat_le (spot_rank g 0) (by_spot (place r))) (nat_le (by_spot (place r)) (spot_rank g 4294967295))
      (le-leb _ _ (omega (arith, same))) (le-leb _ _ (omega (arith, same, small))) in
      (In-map Spot ℕ (λ q. q.id) (rank r) found).1 (place r, subst (λ l. In (place r) l) (sym e) (filter-In Spot (is_under g) (place r) spots (index.listed r i) passes), refl)

  -- so some are found just where a row is of the group
  pub under_some : (rows : List T) (spots found : List Spot) (g : ℕ) → IsIndexed rank group rows spots → found ≡ filter (is_under g) spots
      → not (length found == 0) ≡ list_any (λ r. group r == g) rows
  under_some rows spots [] g index e = sym (list_any_none (λ r. group r == g) rows (in-All T (λ r. (group r == g) ≡ false) rows
      (λ r i. ne_eqb (group r) g (λ same. absurd (under_all rows spots [] g index e r i same)))))
  under_some rows spots (q ∷ found) g index e =
      let i : In q (filter (is_under g) spots) = subst (λ l. In q l) e (inl refl) in
      let w = index.only q (In-filter Spot (is_under g) q spots i).0 in
      let same : group w.0 ≡ g = sym (ap (λ (z : Spot). z.group) w.2) ∙ (under_told rows spots index g q i).0 in
      ap not (ne_eqb (suc (length found)) 0 (λ (none : suc (length found) ≡ 0). absurd (omega (arith, none))))
      ∙ sym ((In-any T (λ r. group r == g) (λ r. group r ≡ g) (λ r. (eqb-true (group r) g, eq-eqb (group r) g)) rows).1 (w.0, w.1, same))

  -- in different rows two places differ
  pub places_apart : (rows : List T) → IsRising rank rows → All (λ r. rank r < 4294967296) rows → AllPairs (λ p q. by_spot p ≢ by_spot q) (map place rows)
  places_apart [] rising small = λ i j d lt within. absurd (omega (arith, within))
  places_apart (x ∷ xs) rising small =
      let apart : Spot → Spot → Type 0 = λ p q. by_spot p ≢ by_spot q in
      let least : rank x < 4294967296 = All-head (λ r. rank r < 4294967296) x xs small in
      let others : All (λ r. rank r < 4294967296) xs = All-tail (λ r. rank r < 4294967296) x xs small in
      AllPairs-cons apart (place x) (map place xs)
      (All-map (apart (place x)) place xs (in-All T (λ y. apart (place x) (place y)) xs (λ y i same.
      let up : rank x < rank y = All-in T (λ z. rank x < rank z) xs y (head_below T rank x xs rising) i in
      let both = same_place (group x) (group y) (rank x) (rank y) least (All-in T (λ r. rank r < 4294967296) xs y others i) same in
      omega (arith, up, both.1))))
      (places_apart xs (rest_rising T rank x xs rising) others)

  -- the places of all rows, in whatever order
  pub index_of : (rows : List T) (places spots : List Spot) → All (λ r. rank r < 4294967296) rows → places ≡ map place rows → IsPermutation places spots → IsIndexed rank group rows spots
  index_of rows places spots small are moved =
      let IsOne : Spot → Type 0 = λ q. (r : T) × In r rows × (q ≡ place r) in
      let back : All (λ q. In q spots) places = All-permutation (λ q. In q spots) spots places (IsPermutation-sym places spots moved) (in-All Spot (λ q. In q spots) spots (λ q i. i)) in
      let ones : All IsOne spots = All-permutation IsOne places spots moved (in-All Spot IsOne places (λ q i. (In-map T Spot place q rows).0 (subst (λ l. In q l) are i))) in
      record {
        small = λ r i. All-in T (λ r. rank r < 4294967296) rows r small i;
        listed = λ r i. All-in Spot (λ q. In q spots) places (place r) back (subst (λ l. In (place r) l) (sym are) ((In-map T Spot place (place r) rows).1 (r, i, refl)));
        only = λ q i. All-in Spot IsOne spots q ones i;
      }
