-- What an edit among some rows makes of all of them, where those around are too low or too high to be met.
use Rattle.std.proofs.Common.{◌≡◌, ℕ, ◌<◌, Bool, true, false, cond, not, ◌==◌, nat_lt, nat_le, List, [], ◌∷◌, ◌++◌, map, filter, Option, Some, None, refl, sym, ap, ◌∙◌, arith, append_assoc}
use Rattle.std.specs.List.{All, find}
use Rattle.std.proofs.lemmas.Bool.{lt-ltb, le-ltb, le-leb, lt-leb, ne_eqb}
use Rattle.std.proofs.lemmas.List.Elements.{All-head, All-tail, All-weaker, filter-append}
use Rattle.std.proofs.lemmas.List.{map-append}
use Rattle.sorted_table.specs.Rows.{row_at, with_row, without, replaced}

filter_all : (T : Type 0) (p : T → Bool) (xs : List T) → All (λ x. p x ≡ true) xs → filter p xs ≡ xs
filter_all T p [] all = refl
filter_all T p (x ∷ xs) all =
    ap (λ b. cond b (x ∷ filter p xs) (filter p xs)) (All-head (λ x. p x ≡ true) x xs all)
    ∙ ap (λ (l : List T). x ∷ l) (filter_all T p xs (All-tail (λ x. p x ≡ true) x xs all))

filter_front : (T : Type 0) (p : T → Bool) (xs ys : List T) → All (λ x. p x ≡ false) xs → filter p (xs ++ ys) ≡ filter p ys
filter_front T p [] ys all = refl
filter_front T p (x ∷ xs) ys all =
    ap (λ b. cond b (x ∷ filter p (xs ++ ys)) (filter p (xs ++ ys))) (All-head (λ x. p x ≡ false) x xs all)
    ∙ filter_front T p xs ys (All-tail (λ x. p x ≡ false) x xs all)

pub filter_none : (T : Type 0) (p : T → Bool) (xs : List T) → All (λ x. p x ≡ false) xs → filter p xs ≡ []
filter_none T p [] all = refl
filter_none T p (x ∷ xs) all =
    ap (λ b. cond b (x ∷ filter p xs) (filter p xs)) (All-head (λ x. p x ≡ false) x xs all)
    ∙ filter_none T p xs (All-tail (λ x. p x ≡ false) x xs all)

filter_back : (T : Type 0) (p : T → Bool) (xs ys : List T) → All (λ x. p x ≡ false) ys → filter p (xs ++ ys) ≡ filter p xs
filter_back T p [] ys all = filter_none T p ys all
filter_back T p (x ∷ xs) ys all = ap (λ (l : List T). cond (p x) (x ∷ l) l) (filter_back T p xs ys all)

find_front : (T : Type 0) (p : T → Bool) (xs ys : List T) → All (λ x. p x ≡ false) xs → find p (xs ++ ys) ≡ find p ys
find_front T p [] ys all = refl
find_front T p (x ∷ xs) ys all =
    ap (λ b. cond b (Some x) (find p (xs ++ ys))) (All-head (λ x. p x ≡ false) x xs all)
    ∙ find_front T p xs ys (All-tail (λ x. p x ≡ false) x xs all)

find_none : (T : Type 0) (p : T → Bool) (xs : List T) → All (λ x. p x ≡ false) xs → find p xs ≡ None
find_none T p [] all = refl
find_none T p (x ∷ xs) all =
    ap (λ b. cond b (Some x) (find p xs)) (All-head (λ x. p x ≡ false) x xs all)
    ∙ find_none T p xs (All-tail (λ x. p x ≡ false) x xs all)

find_back : (T : Type 0) (p : T → Bool) (xs ys : List T) → All (λ x. p x ≡ false) ys → find p (xs ++ ys) ≡ find p xs
find_back T p [] ys all = find_none T p ys all
find_back T p (x ∷ xs) ys all = ap (λ (o : Option T). cond (p x) (Some x) o) (find_back T p xs ys all)

map_all : (T : Type 0) (f : T → T) (xs : List T) → All (λ x. f x ≡ x) xs → map f xs ≡ xs
map_all T f [] all = refl
map_all T f (x ∷ xs) all =
    ap (λ (y : T). y ∷ map f xs) (All-head (λ x. f x ≡ x) x xs all)
    ∙ ap (λ (l : List T). x ∷ l) (map_all T f xs (All-tail (λ x. f x ≡ x) x xs all))

module _ (T : Type 0) (rank : T → ℕ) (k : ℕ) (front rows behind : List T)
    (low : All (λ r. rank r < k) front) (high : All (λ r. k < rank r) behind) where
  fronts : (P : T → Type 0) → ((x : T) → rank x < k → P x) → All P front
  fronts P tells = All-weaker (λ r. rank r < k) P tells front low

  behinds : (P : T → Type 0) → ((x : T) → k < rank x → P x) → All P behind
  behinds P tells = All-weaker (λ r. k < rank r) P tells behind high

  other : (x : T) → (rank x ≡ k → ⊥) → (rank x == k) ≡ false
  other x differs = ne_eqb (rank x) k differs

  pub row_at-around : row_at rank (front ++ (rows ++ behind)) k ≡ row_at rank rows k
  row_at-around =
      find_front T (λ r. rank r == k) front (rows ++ behind) (fronts (λ r. (rank r == k) ≡ false) (λ x less. other x (λ e. omega (arith, less, e))))
      ∙ find_back T (λ r. rank r == k) rows behind (behinds (λ r. (rank r == k) ≡ false) (λ x more. other x (λ e. omega (arith, more, e))))

  pub without-around : without rank (front ++ (rows ++ behind)) k ≡ front ++ (without rank rows k ++ behind)
  without-around =
      let p : T → Bool = λ r. not (rank r == k) in
      filter-append p front (rows ++ behind)
      ∙ ap (λ (l : List T). l ++ filter p (rows ++ behind)) (filter_all T p front (fronts (λ r. p r ≡ true) (λ x less. ap not (other x (λ e. omega (arith, less, e))))))
      ∙ ap (λ (l : List T). front ++ l) (filter-append p rows behind
      ∙ ap (λ (l : List T). filter p rows ++ l) (filter_all T p behind (behinds (λ r. p r ≡ true) (λ x more. ap not (other x (λ e. omega (arith, more, e)))))))

  -- the rows from the rank on
  pub from-around : filter (λ r. nat_le k (rank r)) (front ++ (rows ++ behind)) ≡ filter (λ r. nat_le k (rank r)) rows ++ behind
  from-around =
      let p : T → Bool = λ r. nat_le k (rank r) in
      filter_front T p front (rows ++ behind) (fronts (λ r. p r ≡ false) (λ x less. lt-leb k (rank x) less))
      ∙ filter-append p rows behind
      ∙ ap (λ (l : List T). filter p rows ++ l) (filter_all T p behind (behinds (λ r. p r ≡ true) (λ x more. le-leb k (rank x) (omega (arith, more)))))

  lower_part : filter (λ r. nat_lt (rank r) k) (front ++ (rows ++ behind)) ≡ front ++ filter (λ r. nat_lt (rank r) k) rows
  lower_part =
      let p : T → Bool = λ r. nat_lt (rank r) k in
      filter-append p front (rows ++ behind)
      ∙ ap (λ (l : List T). l ++ filter p (rows ++ behind)) (filter_all T p front (fronts (λ r. p r ≡ true) (λ x less. lt-ltb (rank x) k less)))
      ∙ ap (λ (l : List T). front ++ l) (filter_back T p rows behind (behinds (λ r. p r ≡ false) (λ x more. le-ltb (rank x) k (omega (arith, more)))))

  higher_part : filter (λ r. nat_lt k (rank r)) (front ++ (rows ++ behind)) ≡ filter (λ r. nat_lt k (rank r)) rows ++ behind
  higher_part =
      let p : T → Bool = λ r. nat_lt k (rank r) in
      filter_front T p front (rows ++ behind) (fronts (λ r. p r ≡ false) (λ x less. le-ltb k (rank x) (omega (arith, less))))
      ∙ filter-append p rows behind
      ∙ ap (λ (l : List T). filter p rows ++ l) (filter_all T p behind (behinds (λ r. p r ≡ true) (λ x more. lt-ltb k (rank x) more)))

  -- the row to put among them has the rank
  module _ (row : T) (same : rank row ≡ k) where
    pub with_row-around : with_row rank (front ++ (rows ++ behind)) row ≡ front ++ (with_row rank rows row ++ behind)
    with_row-around =
        let all = front ++ (rows ++ behind) in
        let lower = λ (n : ℕ) (l : List T). filter (λ r. nat_lt (rank r) n) l in
        let higher = λ (n : ℕ) (l : List T). filter (λ r. nat_lt n (rank r)) l in
        ap (λ n. lower n all ++ row ∷ higher n all) same
        ∙ ap (λ (l : List T). l ++ row ∷ higher k all) lower_part
        ∙ ap (λ (l : List T). (front ++ lower k rows) ++ row ∷ l) higher_part
        ∙ append_assoc front (lower k rows) (row ∷ (higher k rows ++ behind))
        ∙ ap (λ (l : List T). front ++ l) (sym (append_assoc (lower k rows) (row ∷ higher k rows) behind))
        ∙ ap (λ n. front ++ ((lower n rows ++ row ∷ higher n rows) ++ behind)) (sym same)

    pub replaced-around : replaced rank (front ++ (rows ++ behind)) row ≡ front ++ (replaced rank rows row ++ behind)
    replaced-around =
        let f = λ (r : T). cond (rank r == rank row) row r in
        let keeps : (x : T) → (rank x ≡ k → ⊥) → f x ≡ x = λ x differs. ap (λ b. cond b row x) (ne_eqb (rank x) (rank row) (λ e. differs (e ∙ same))) in
        map-append f front (rows ++ behind)
        ∙ ap (λ (l : List T). l ++ map f (rows ++ behind)) (map_all T f front (fronts (λ r. f r ≡ r) (λ x less. keeps x (λ e. omega (arith, less, e)))))
        ∙ ap (λ (l : List T). front ++ l) (map-append f rows behind
        ∙ ap (λ (l : List T). map f rows ++ l) (map_all T f behind (behinds (λ r. f r ≡ r) (λ x more. keeps x (λ e. omega (arith, more, e))))))
