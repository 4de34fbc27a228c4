-- Rows stay rising.
use Rattle.std.proofs.Common.{◌≡◌, ℕ, zero, suc, ◌+◌, ◌-◌, ◌<◌, ◌≤◌, Bool, true, false, cond, not, ◌==◌, nat_lt, nat_le, List, [], ◌∷◌, ◌++◌, map, filter, length, get_or, refl, sym, ap, subst, arith, ⊎_elim}
use Rattle.std.specs.List.{All, AllPairs, items_where_true}
use Rattle.std.proofs.lemmas.Bool.{ltb-true, eqb-true, cases_lt, lt-leb}
use Rattle.std.proofs.lemmas.List.Elements.{All-nil, All-cons, All-head, All-tail, All-append, All-weaker, All-map}
use Rattle.std.proofs.lemmas.List.Kept.{AllPairs-cons, AllPairs-filter}
use Rattle.sorted_table.specs.Rows.{IsRising, with_row, without, replaced}

pub AllPairs-nil : (T : Type 0) (R : T → T → Type 0) → AllPairs R []
AllPairs-nil T R = λ i j d lt within. absurd (omega arith)

pub AllPairs-head : (T : Type 0) (R : T → T → Type 0) (x : T) (xs : List T) → AllPairs R (x ∷ xs) → All (R x) xs
AllPairs-head T R x xs pairs = λ k d within. pairs 0 (suc k) d (omega arith) (omega arith)

pub AllPairs-tail : (T : Type 0) (R : T → T → Type 0) (x : T) (xs : List T) → AllPairs R (x ∷ xs) → AllPairs R xs
AllPairs-tail T R x xs pairs = λ i j d lt within. pairs (suc i) (suc j) d (omega arith) (omega arith)

pub AllPairs-append : (T : Type 0) (R : T → T → Type 0) (xs ys : List T) → AllPairs R xs → AllPairs R ys → All (λ x. All (R x) ys) xs → AllPairs R (xs ++ ys)
AllPairs-append T R [] ys front behind across = behind
AllPairs-append T R (x ∷ xs) ys front behind across =
    AllPairs-cons R x (xs ++ ys)
    (All-append (R x) xs ys (AllPairs-head T R x xs front) (All-head (λ x. All (R x) ys) x xs across))
    (AllPairs-append T R xs ys (AllPairs-tail T R x xs front) behind (All-tail (λ x. All (R x) ys) x xs across))

-- what passes has what the test tells
All-filter : (T : Type 0) (p : T → Bool) (P : T → Type 0) → ((x : T) → p x ≡ true → P x) → (xs : List T) → All P (filter p xs)
All-filter T p P tells [] = All-nil P
All-filter T p P tells (x ∷ xs) =
    (elim (p x) as (λ b. p x ≡ b → All P (cond b (x ∷ filter p xs) (filter p xs))) [
      | true ↦ λ yes'. All-cons P x (filter p xs) (tells x yes') (All-filter T p P tells xs)
      | false ↦ λ no'. All-filter T p P tells xs
    ]) refl

module _ (T : Type 0) (rank : T → ℕ) (rows : List T) (rising : IsRising rank rows) where
  pub rising-with_row : (row : T) → IsRising rank (with_row rank rows row)
  rising-with_row row =
      let R : T → T → Type 0 = λ x y. rank x < rank y in
      let lower = filter (λ r. nat_lt (rank r) (rank row)) rows in
      let higher = filter (λ r. nat_lt (rank row) (rank r)) rows in
      let over : All (R row) higher = All-filter T (λ r. nat_lt (rank row) (rank r)) (R row) (λ x told. ltb-true _ _ told) rows in
      let under : All (λ x. R x row) lower = All-filter T (λ r. nat_lt (rank r) (rank row)) (λ x. R x row) (λ x told. ltb-true _ _ told) rows in
      AllPairs-append T R lower (row ∷ higher)
      (AllPairs-filter R (λ r. nat_lt (rank r) (rank row)) rows rising)
      (AllPairs-cons R row higher over (AllPairs-filter R (λ r. nat_lt (rank row) (rank r)) rows rising))
      (All-weaker (λ x. R x row) (λ x. All (R x) (row ∷ higher)) (λ x low. All-cons (R x) row higher low
      (All-weaker (R row) (R x) (λ y high. omega arith) higher over)) lower under)

  pub rising-without : (k : ℕ) → IsRising rank (without rank rows k)
  rising-without k = AllPairs-filter (λ x y. rank x < rank y) (λ r. not (rank r == k)) rows rising

-- a change that keeps each row's rank keeps the order
pub rising-map : (T : Type 0) (rank : T → ℕ) (f : T → T) → ((x : T) → rank (f x) ≡ rank x) → (rows : List T) → IsRising rank rows → IsRising rank (map f rows)
rising-map T rank f keeps [] rising = rising
rising-map T rank f keeps (x ∷ xs) rising =
    let R : T → T → Type 0 = λ x y. rank x < rank y in
    AllPairs-cons R (f x) (map f xs)
    (All-map (R (f x)) f xs (All-weaker (R x) (λ y. R (f x) (f y)) (λ y up. let a = keeps x in let b = keeps y in omega arith) xs (AllPairs-head T R x xs rising)))
    (rising-map T rank f keeps xs (AllPairs-tail T R x xs rising))

pub rising-replaced : (T : Type 0) (rank : T → ℕ) (rows : List T) → IsRising rank rows → (row : T) → IsRising rank (replaced rank rows row)
rising-replaced T rank rows rising row = rising-map T rank (λ r. cond (rank r == rank row) row r)
    (λ x. (elim (rank x == rank row) as (λ b. (rank x == rank row) ≡ b → rank (cond b row x) ≡ rank x) [
      | true ↦ λ same. sym (eqb-true _ _ same)
      | false ↦ λ other. refl
    ]) refl) rows rising

-- what a test keeps stands in the order that it had
All-items_where_true : (T : Type 0) (P : T → Type 0) (bs : List Bool) (xs : List T) → All P xs → All P (items_where_true bs xs)
All-items_where_true T P [] xs all = All-nil P
All-items_where_true T P (b ∷ bs) [] all = All-nil P
All-items_where_true T P (true ∷ bs) (x ∷ xs) all = All-cons P x (items_where_true bs xs) (All-head P x xs all) (All-items_where_true T P bs xs (All-tail P x xs all))
All-items_where_true T P (false ∷ bs) (x ∷ xs) all = All-items_where_true T P bs xs (All-tail P x xs all)

pub rising-items_where_true : (T : Type 0) (rank : T → ℕ) (bs : List Bool) (rows : List T) → IsRising rank rows → IsRising rank (items_where_true bs rows)
rising-items_where_true T rank [] rows rising = AllPairs-nil T (λ x y. rank x < rank y)
rising-items_where_true T rank (b ∷ bs) [] rising = AllPairs-nil T (λ x y. rank x < rank y)
rising-items_where_true T rank (true ∷ bs) (x ∷ xs) rising =
    let R : T → T → Type 0 = λ x y. rank x < rank y in
    AllPairs-cons R x (items_where_true bs xs) (All-items_where_true T (R x) bs xs (AllPairs-head T R x xs rising)) (rising-items_where_true T rank bs xs (AllPairs-tail T R x xs rising))
rising-items_where_true T rank (false ∷ bs) (x ∷ xs) rising = rising-items_where_true T rank bs xs (AllPairs-tail T (λ x y. rank x < rank y) x xs rising)

-- so do those that a test keeps
pub rising-kept : (T : Type 0) (rank : T → ℕ) (p : T → Bool) (xs ys : List T) → IsRising rank xs → ys ≡ filter p xs → IsRising rank ys
rising-kept T rank p xs ys rising kept = subst (IsRising rank) (sym kept) (AllPairs-filter (λ (x y : T). rank x < rank y) p xs rising)

-- each rank before the place is above the one before it
abbrev pub RisesBelow : {T : Type 0} → (T → ℕ) → List T → ℕ → Type 0
RisesBelow {T} rank rows place = (j : ℕ) (d : T) → suc j < place → suc j < length rows → rank (get_or rows j d) < rank (get_or rows (suc j) d)

-- where each is above the one before, each is above all before
rising-steps : (T : Type 0) (rank : T → ℕ) (rows : List T) → ((j : ℕ) (d : T) → suc j < length rows → rank (get_or rows j d) < rank (get_or rows (suc j) d)) → (j i : ℕ) (d : T) → i < j → j < length rows → rank (get_or rows i d) < rank (get_or rows j d)
rising-steps T rank rows step zero i d lt within = absurd (omega (arith, lt))
rising-steps T rank rows step (suc j) i d lt within =
    let last : rank (get_or rows j d) < rank (get_or rows (suc j) d) = step j d within in
    ⊎_elim
    (λ (less : i < j). let up : rank (get_or rows i d) < rank (get_or rows j d) = rising-steps T rank rows step j i d less (omega (arith, within)) in omega (arith, up, last))
    (λ (ge : j ≤ i). let same : rank (get_or rows i d) ≡ rank (get_or rows j d) = ap (λ k. rank (get_or rows k d)) (omega (arith, ge, lt)) in omega (arith, same, last))
    (cases_lt i j)

pub rises_first : (T : Type 0) (rank : T → ℕ) (rows : List T) → RisesBelow rank rows 1
rises_first T rank rows = λ j d lt within. absurd (omega (arith, lt))

pub rises_more : (T : Type 0) (rank : T → ℕ) (rows : List T) (place : ℕ) → 1 ≤ place → RisesBelow rank rows place → ((d : T) → rank (get_or rows (place - 1) d) < rank (get_or rows place d)) → RisesBelow rank rows (place + 1)
rises_more T rank rows place some below up = λ j d lt within.
    ⊎_elim
    (λ (less : suc j < place). below j d less within)
    (λ (ge : place ≤ suc j).
    let here : place ≡ suc j = omega (arith, ge, lt) in
    let before : place - 1 ≡ j = omega (arith, here) in
    subst (λ k. rank (get_or rows j d) < rank (get_or rows k d)) here (subst (λ k. rank (get_or rows k d) < rank (get_or rows place d)) before (up d)))
    (cases_lt (suc j) place)

pub rises_all : (T : Type 0) (rank : T → ℕ) (rows : List T) (place : ℕ) → length rows ≤ place → RisesBelow rank rows place → IsRising rank rows
rises_all T rank rows place all below = λ i j d lt within. rising-steps T rank rows (λ k e inside. below k e (omega (arith, all, inside)) inside) j i d lt within

-- where the first row is above a rank, all are
pub none_within : (T : Type 0) (rank : T → ℕ) (x : T) (xs : List T) (k : ℕ) → IsRising rank (x ∷ xs) → k < rank x → All (λ r. nat_le (rank r) k ≡ false) (x ∷ xs)
none_within T rank x xs k rising high =
    All-cons (λ r. nat_le (rank r) k ≡ false) x xs (lt-leb (rank x) k high)
    (All-weaker (λ y. rank x < rank y) (λ y. nat_le (rank y) k ≡ false) (λ y up. lt-leb (rank y) k (omega (arith, high, up))) xs
    (AllPairs-head T (λ a b. rank a < rank b) x xs rising))
