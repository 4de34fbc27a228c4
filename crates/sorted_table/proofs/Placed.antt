-- What stands at a place among rising rows, and what an edit there makes.
use Rattle.std.proofs.Common.{◌≡◌, ℕ, zero, suc, ◌<◌, ◌≤◌, Bool, true, false, cond, not, ◌&&◌, ◌==◌, nat_lt, nat_le, List, [], ◌∷◌, ◌++◌, map, filter, length, get_or, set, take, drop, Some, None, refl, ap, ◌∙◌, arith}
use Rattle.std.specs.List.{AllWithin, HoldsAt, insert, remove, find}
use Rattle.std.proofs.lemmas.Bool.{lt-ltb, le-ltb, le-leb, lt-leb, eq-eqb, ne_eqb}
use Rattle.sorted_table.specs.Rows.{IsRising, row_at, with_row, without, replaced}
use Rattle.sorted_table.specs.Places.{IsAt, IsGapFor}
use Rattle.sorted_table.proofs.Searched.{rank_rises}

-- one element less at the front
within_tail : (T : Type 0) (P : T → Type 0) (x : T) (xs : List T) (low high : ℕ) → AllWithin P (x ∷ xs) (suc low) (suc high) → AllWithin P xs low high
within_tail T P x xs low high all = λ k d le lt. all (suc k) d (omega arith) (omega arith)

within_all : (T : Type 0) (P : T → Type 0) (x : T) (xs : List T) (high : ℕ) → AllWithin P (x ∷ xs) 0 (suc high) → AllWithin P xs 0 high
within_all T P x xs high all = λ k d le lt. all (suc k) d (omega arith) (omega arith)

within_head : (T : Type 0) (P : T → Type 0) (x : T) (xs : List T) (high : ℕ) → 0 < high → AllWithin P (x ∷ xs) 0 high → P x
within_head T P x xs high some all = all 0 x (omega arith) some

-- what passes stands in front
filter-take : (T : Type 0) (p : T → Bool) (xs : List T) (i : ℕ) → AllWithin (λ x. p x ≡ true) xs 0 i → AllWithin (λ x. p x ≡ false) xs i (length xs) → filter p xs ≡ take i xs
filter-take T p [] zero pass fail = refl
filter-take T p [] (suc i) pass fail = refl
filter-take T p (x ∷ xs) zero pass fail =
    ap (λ b. cond b (x ∷ filter p xs) (filter p xs)) (within_head T (λ x. p x ≡ false) x xs (suc (length xs)) (omega arith) fail)
    ∙ filter-take T p xs zero (λ k d le lt. absurd (omega arith)) (within_all T (λ x. p x ≡ false) x xs (length xs) fail)
filter-take T p (x ∷ xs) (suc i) pass fail =
    ap (λ b. cond b (x ∷ filter p xs) (filter p xs)) (within_head T (λ x. p x ≡ true) x xs (suc i) (omega arith) pass)
    ∙ ap (λ ys. x ∷ ys) (filter-take T p xs i (within_all T (λ x. p x ≡ true) x xs i pass) (within_tail T (λ x. p x ≡ false) x xs i (length xs) fail))

-- what passes stands behind
filter-drop : (T : Type 0) (p : T → Bool) (xs : List T) (i : ℕ) → AllWithin (λ x. p x ≡ false) xs 0 i → AllWithin (λ x. p x ≡ true) xs i (length xs) → filter p xs ≡ drop i xs
filter-drop T p [] zero fail pass = refl
filter-drop T p [] (suc i) fail pass = refl
filter-drop T p (x ∷ xs) zero fail pass =
    ap (λ b. cond b (x ∷ filter p xs) (filter p xs)) (within_head T (λ x. p x ≡ true) x xs (suc (length xs)) (omega arith) pass)
    ∙ ap (λ ys. x ∷ ys) (filter-drop T p xs zero (λ k d le lt. absurd (omega arith)) (within_all T (λ x. p x ≡ true) x xs (length xs) pass))
filter-drop T p (x ∷ xs) (suc i) fail pass =
    ap (λ b. cond b (x ∷ filter p xs) (filter p xs)) (within_head T (λ x. p x ≡ false) x xs (suc i) (omega arith) fail)
    ∙ filter-drop T p xs i (within_all T (λ x. p x ≡ false) x xs i fail) (within_tail T (λ x. p x ≡ true) x xs i (length xs) pass)

-- what passes one test after another passes both
pub filter-both : (T : Type 0) (p q : T → Bool) (xs : List T) → filter q (filter p xs) ≡ filter (λ x. p x && q x) xs
filter-both T p q [] = refl
filter-both T p q (x ∷ xs) =
    elim (p x) as (λ b. filter q (cond b (x ∷ filter p xs) (filter p xs)) ≡ cond (b && q x) (x ∷ filter (λ x. p x && q x) xs) (filter (λ x. p x && q x) xs)) [
      | true ↦ elim (q x) as (λ b. cond b (x ∷ filter q (filter p xs)) (filter q (filter p xs)) ≡ cond b (x ∷ filter (λ x. p x && q x) xs) (filter (λ x. p x && q x) xs)) [
        | true ↦ ap (λ ys. x ∷ ys) (filter-both T p q xs)
        | false ↦ filter-both T p q xs
      ]
      | false ↦ filter-both T p q xs
    ]

-- all but the one at the place pass
filter-remove : (T : Type 0) (p : T → Bool) (xs : List T) (i : ℕ) → i < length xs → AllWithin (λ x. p x ≡ true) xs 0 i → HoldsAt (λ x. p x ≡ false) xs i → AllWithin (λ x. p x ≡ true) xs (suc i) (length xs) → filter p xs ≡ remove xs i
filter-remove T p [] i within front here behind = absurd (omega arith)
filter-remove T p (x ∷ xs) zero within front here behind =
    ap (λ b. cond b (x ∷ filter p xs) (filter p xs)) (here x)
    ∙ filter-drop T p xs zero (λ k d le lt. absurd (omega arith)) (within_tail T (λ x. p x ≡ true) x xs zero (length xs) behind)
filter-remove T p (x ∷ xs) (suc i) within front here behind =
    ap (λ b. cond b (x ∷ filter p xs) (filter p xs)) (within_head T (λ x. p x ≡ true) x xs (suc i) (omega arith) front)
    ∙ ap (λ ys. x ∷ ys) (filter-remove T p xs i (omega arith) (within_all T (λ x. p x ≡ true) x xs i front) here (within_tail T (λ x. p x ≡ true) x xs (suc i) (length xs) behind))

-- the one at the place is the first that passes
find_at : (T : Type 0) (p : T → Bool) (xs : List T) (i : ℕ) (d : T) → i < length xs → AllWithin (λ x. p x ≡ false) xs 0 i → HoldsAt (λ x. p x ≡ true) xs i → find p xs ≡ Some (get_or xs i d)
find_at T p [] i d within front here = absurd (omega arith)
find_at T p (x ∷ xs) zero d within front here = ap (λ b. cond b (Some x) (find p xs)) (here x)
find_at T p (x ∷ xs) (suc i) d within front here =
    ap (λ b. cond b (Some x) (find p xs)) (within_head T (λ x. p x ≡ false) x xs (suc i) (omega arith) front)
    ∙ find_at T p xs i d (omega arith) (within_all T (λ x. p x ≡ false) x xs i front) here

-- none passes
find_none : (T : Type 0) (p : T → Bool) (xs : List T) → AllWithin (λ x. p x ≡ false) xs 0 (length xs) → find p xs ≡ None
find_none T p [] fail = refl
find_none T p (x ∷ xs) fail =
    ap (λ b. cond b (Some x) (find p xs)) (within_head T (λ x. p x ≡ false) x xs (suc (length xs)) (omega arith) fail)
    ∙ find_none T p xs (within_all T (λ x. p x ≡ false) x xs (length xs) fail)

-- none is changed
map_none : (T : Type 0) (p : T → Bool) (y : T) (xs : List T) → AllWithin (λ x. p x ≡ false) xs 0 (length xs) → map (λ x. cond (p x) y x) xs ≡ xs
map_none T p y [] fail = refl
map_none T p y (x ∷ xs) fail =
    ap (λ b. cond b y x ∷ map (λ x. cond (p x) y x) xs) (within_head T (λ x. p x ≡ false) x xs (suc (length xs)) (omega arith) fail)
    ∙ ap (λ ys. x ∷ ys) (map_none T p y xs (within_all T (λ x. p x ≡ false) x xs (length xs) fail))

-- only the one at the place is changed
map_set : (T : Type 0) (p : T → Bool) (y : T) (xs : List T) (i : ℕ) → i < length xs → AllWithin (λ x. p x ≡ false) xs 0 i → HoldsAt (λ x. p x ≡ true) xs i → AllWithin (λ x. p x ≡ false) xs (suc i) (length xs) → map (λ x. cond (p x) y x) xs ≡ set xs i y
map_set T p y [] i within front here behind = absurd (omega arith)
map_set T p y (x ∷ xs) zero within front here behind =
    ap (λ b. cond b y x ∷ map (λ x. cond (p x) y x) xs) (here x)
    ∙ ap (λ ys. y ∷ ys) (map_none T p y xs (within_tail T (λ x. p x ≡ false) x xs zero (length xs) behind))
map_set T p y (x ∷ xs) (suc i) within front here behind =
    ap (λ b. cond b y x ∷ map (λ x. cond (p x) y x) xs) (within_head T (λ x. p x ≡ false) x xs (suc i) (omega arith) front)
    ∙ ap (λ ys. x ∷ ys) (map_set T p y xs i (omega arith) (within_all T (λ x. p x ≡ false) x xs i front) here (within_tail T (λ x. p x ≡ false) x xs (suc i) (length xs) behind))

module _ (T : Type 0) (rank : T → ℕ) (rows : List T) (k place : ℕ) (rising : IsRising rank rows) (is_at : IsAt rank rows k place) where
  below : AllWithin (λ r. (rank r == k) ≡ false) rows 0 place
  below = λ j d low lt. ne_eqb _ k (λ (same : rank (get_or rows j d) ≡ k).
      let up : rank (get_or rows j d) < rank (get_or rows place d) = rising j place d lt is_at.0 in
      let here : rank (get_or rows place d) ≡ k = is_at.1 d in omega arith)

  above : AllWithin (λ r. (rank r == k) ≡ false) rows (suc place) (length rows)
  above = λ j d low lt. ne_eqb _ k (λ (same : rank (get_or rows j d) ≡ k).
      let up : rank (get_or rows place d) < rank (get_or rows j d) = rising place j d (omega arith) lt in
      let here : rank (get_or rows place d) ≡ k = is_at.1 d in omega arith)

  here : HoldsAt (λ r. (rank r == k) ≡ true) rows place
  here = λ d. eq-eqb _ k (is_at.1 d)

  -- the row at the place is the one with the rank
  pub row_at-here : (d : T) → row_at rank rows k ≡ Some (get_or rows place d)
  row_at-here d = find_at T (λ r. rank r == k) rows place d is_at.0 below here

  pub without-here : without rank rows k ≡ remove rows place
  without-here = filter-remove T (λ r. not (rank r == k)) rows place is_at.0
      (λ j d low lt. ap not (below j d low lt)) (λ d. ap not (here d)) (λ j d low lt. ap not (above j d low lt))

  -- the rows from the one with the rank on, and those up to it
  pub from-here : filter (λ r. nat_le k (rank r)) rows ≡ drop place rows
  from-here = filter-drop T (λ r. nat_le k (rank r)) rows place
      (λ j d low lt. lt-leb k _ (let up : rank (get_or rows j d) < rank (get_or rows place d) = rising j place d lt is_at.0 in let here : rank (get_or rows place d) ≡ k = is_at.1 d in omega arith))
      (λ j d low lt. le-leb k _ (let up : rank (get_or rows place d) ≤ rank (get_or rows j d) = rank_rises T rank rows rising place j d low lt in let here : rank (get_or rows place d) ≡ k = is_at.1 d in omega arith))

  pub to-here : filter (λ r. nat_le (rank r) k) rows ≡ take (suc place) rows
  to-here = filter-take T (λ r. nat_le (rank r) k) rows (suc place)
      (λ j d low lt. le-leb _ k (let up : rank (get_or rows j d) ≤ rank (get_or rows place d) = rank_rises T rank rows rising j place d (omega arith) is_at.0 in let here : rank (get_or rows place d) ≡ k = is_at.1 d in omega arith))
      (λ j d low lt. lt-leb _ k (let up : rank (get_or rows place d) < rank (get_or rows j d) = rising place j d (omega arith) lt in let here : rank (get_or rows place d) ≡ k = is_at.1 d in omega arith))

  pub replaced-here : (row : T) → rank row ≡ k → replaced rank rows row ≡ set rows place row
  replaced-here row same = ap (λ n. map (λ r. cond (rank r == n) row r) rows) same ∙ map_set T (λ r. rank r == k) row rows place is_at.0 below here above

module _ (T : Type 0) (rank : T → ℕ) (rows : List T) (k place : ℕ) (gap : IsGapFor rank rows k place) where
  nowhere : AllWithin (λ r. (rank r == k) ≡ false) rows 0 (length rows)
  nowhere = λ j d low lt. ne_eqb _ k (λ (same : rank (get_or rows j d) ≡ k).
      let before : j < place → rank (get_or rows j d) < k = λ le. gap.1 j d low le in
      let behind : place ≤ j → k < rank (get_or rows j d) = λ le. gap.2 j d le lt in grind arith)

  -- no row has the rank
  pub row_at-gap : row_at rank rows k ≡ None
  row_at-gap = find_none T (λ r. rank r == k) rows nowhere

  -- nothing goes where nothing is
  pub without-gap : without rank rows k ≡ rows
  without-gap = filter-drop T (λ r. not (rank r == k)) rows 0 (λ j d le lt. absurd (omega arith)) (λ j d le lt. ap not (nowhere j d le lt))

  -- the rows from the gap on, and those before it
  pub from-gap : filter (λ r. nat_le k (rank r)) rows ≡ drop place rows
  from-gap = filter-drop T (λ r. nat_le k (rank r)) rows place
      (λ j d le lt. lt-leb k _ (gap.1 j d le lt))
      (λ j d le lt. le-leb k _ (let up : k < rank (get_or rows j d) = gap.2 j d le lt in omega arith))

  pub to-gap : filter (λ r. nat_le (rank r) k) rows ≡ take place rows
  to-gap = filter-take T (λ r. nat_le (rank r) k) rows place
      (λ j d le lt. le-leb _ k (let up : rank (get_or rows j d) < k = gap.1 j d le lt in omega arith))
      (λ j d le lt. lt-leb _ k (gap.2 j d le lt))

  -- a row put into the gap stands between the lower and the higher ones
  pub with_row-gap : (row : T) → rank row ≡ k → with_row rank rows row ≡ insert rows place row
  with_row-gap row same =
      ap (λ n. filter (λ r. nat_lt (rank r) n) rows ++ row ∷ filter (λ r. nat_lt n (rank r)) rows) same
      ∙ ap (λ ys. ys ++ row ∷ filter (λ r. nat_lt k (rank r)) rows) (filter-take T (λ r. nat_lt (rank r) k) rows place (λ j d le lt. lt-ltb _ k (gap.1 j d le lt)) (λ j d le lt. le-ltb _ k (let up : k < rank (get_or rows j d) = gap.2 j d le lt in omega arith)))
      ∙ ap (λ ys. take place rows ++ row ∷ ys) (filter-drop T (λ r. nat_lt k (rank r)) rows place (λ j d le lt. le-ltb k _ (let up : rank (get_or rows j d) < k = gap.1 j d le lt in omega arith)) (λ j d le lt. lt-ltb k _ (gap.2 j d le lt)))
