-- Rows in blocks: to which block a rank belongs.
use Rattle.std.proofs.Common.{◌≡◌, ℕ, zero, suc, ◌-◌, ◌<◌, ◌≤◌, Bool, true, false, nat_le, List, [], ◌∷◌, ◌++◌, length, get_or, set, take, drop, refl, sym, ap, subst, ◌∙◌, arith, append_assoc, ⊎_elim}
use Rattle.std.specs.List.{All, AllPairs, AllWithin, insert, remove}
use Rattle.std.specs.List.Sorted.{IsPartitionedBy, IsPartitionPoint}
use Rattle.std.proofs.lemmas.Bool.{leb-true, leb-false, le-leb, cases_lt}
use Rattle.std.proofs.lemmas.List.{get_or_default}
use Rattle.std.proofs.lemmas.List.Elements.{All-nil, All-cons, All-head, All-tail, All-append, All-take, All-drop, All-weaker, All-from_all_within}
use Rattle.std.proofs.lemmas.List.Kept.{AllPairs-cons}
use Rattle.sorted_table.specs.Parts.{rows_of, first_rank, IsBlock, IsBlockFor}
use Rattle.sorted_table.specs.Rows.{IsRising}
use Rattle.sorted_table.specs.Tabled.{Tabled}
use Rattle.sorted_table.proofs.Writing.{removed_set}
use Rattle.sorted_table.proofs.Rising.{AllPairs-nil, AllPairs-head, AllPairs-tail}

pub All-parts : (T : Type 0) (P : T → Type 0) (xs ys : List T) → All P (xs ++ ys) → All P xs × All P ys
All-parts T P [] ys all = (All-nil P, all)
All-parts T P (x ∷ xs) ys all =
    let rest = All-parts T P xs ys (All-tail P x (xs ++ ys) all) in
    (All-cons P x xs (All-head P x (xs ++ ys) all) rest.0, rest.1)

pub taken_all : (T : Type 0) (P : T → Type 0) (xs : List T) (i : ℕ) → AllWithin P xs 0 i → All P (take i xs)
taken_all T P [] zero all = All-nil P
taken_all T P [] (suc i) all = All-nil P
taken_all T P (x ∷ xs) zero all = All-nil P
taken_all T P (x ∷ xs) (suc i) all = All-cons P x (take i xs) (all 0 x (omega arith) (omega arith))
    (taken_all T P xs i (λ j d low high. all (suc j) d (omega arith) (omega (arith, high))))

pub dropped_all : (T : Type 0) (P : T → Type 0) (xs : List T) (i : ℕ) → AllWithin P xs i (length xs) → All P (drop i xs)
dropped_all T P [] zero all = All-nil P
dropped_all T P [] (suc i) all = All-nil P
dropped_all T P (x ∷ xs) zero all = All-from_all_within P (x ∷ xs) all
dropped_all T P (x ∷ xs) (suc i) all = dropped_all T P xs i (λ j d low high. all (suc j) d (omega (arith, low)) (omega (arith, high)))

pub All-insert : (T : Type 0) (P : T → Type 0) (xs : List T) (i : ℕ) (x : T) → P x → All P xs → All P (insert xs i x)
All-insert T P xs i x one all = All-append P (take i xs) (x ∷ drop i xs) (All-take P i xs all) (All-cons P x (drop i xs) one (All-drop P i xs all))

pub All-removed : (T : Type 0) (P : T → Type 0) (xs : List T) (i : ℕ) (x : T) → i < length xs → All P xs → All P (remove (set xs i x) i)
All-removed T P xs i x within all =
    subst (All P) (sym (removed_set T xs i x within)) (All-append P (take i xs) (drop (suc i) xs) (All-take P i xs all) (All-drop P (suc i) xs all))

-- what two lists that rise together are
pub pairs_parts : (T : Type 0) (R : T → T → Type 0) (xs ys : List T) → AllPairs R (xs ++ ys)
    → AllPairs R xs × AllPairs R ys × All (λ x. All (R x) ys) xs
pairs_parts T R [] ys pairs = (AllPairs-nil T R, pairs, All-nil (λ x. All (R x) ys))
pairs_parts T R (x ∷ xs) ys pairs =
    let rest = pairs_parts T R xs ys (AllPairs-tail T R x (xs ++ ys) pairs) in
    let head = All-parts T (R x) xs ys (AllPairs-head T R x (xs ++ ys) pairs) in
    (AllPairs-cons R x xs head.0 rest.0, rest.1, All-cons (λ x. All (R x) ys) x xs head.1 rest.2)

-- the rows of all blocks, and those of each
pub rows-All : (T : Type 0) (P : T → Type 0) (blocks : List (Tabled T)) → All P (rows_of blocks) → All (λ (b : Tabled T). All P b.rows) blocks
rows-All T P [] all = All-nil (λ (b : Tabled T). All P b.rows)
rows-All T P (b ∷ bs) all =
    let parts = All-parts T P b.rows (rows_of bs) all in
    All-cons (λ (b : Tabled T). All P b.rows) b bs parts.0 (rows-All T P bs parts.1)

pub All-rows : (T : Type 0) (P : T → Type 0) (blocks : List (Tabled T)) → All (λ (b : Tabled T). All P b.rows) blocks → All P (rows_of blocks)
All-rows T P [] all = All-nil P
All-rows T P (b ∷ bs) all =
    All-append P b.rows (rows_of bs) (All-head (λ (b : Tabled T). All P b.rows) b bs all)
    (All-rows T P bs (All-tail (λ (b : Tabled T). All P b.rows) b bs all))

-- the rows around a block, and around one that is put into its place
pub rows_at : (T : Type 0) (blocks : List (Tabled T)) (i : ℕ) (d : Tabled T) → i < length blocks
    → rows_of blocks ≡ rows_of (take i blocks) ++ ((get_or blocks i d).rows ++ rows_of (drop (suc i) blocks))
rows_at T [] i d within = absurd (omega arith)
rows_at T (b ∷ bs) zero d within = refl
rows_at T (b ∷ bs) (suc i) d within =
    ap (λ (l : List T). b.rows ++ l) (rows_at T bs i d (omega (arith, within)))
    ∙ sym (append_assoc b.rows (rows_of (take i bs)) ((get_or bs i d).rows ++ rows_of (drop (suc i) bs)))

pub rows_set : (T : Type 0) (blocks : List (Tabled T)) (i : ℕ) (a : Tabled T) → i < length blocks
    → rows_of (set blocks i a) ≡ rows_of (take i blocks) ++ (a.rows ++ rows_of (drop (suc i) blocks))
rows_set T [] i a within = absurd (omega arith)
rows_set T (b ∷ bs) zero a within = refl
rows_set T (b ∷ bs) (suc i) a within =
    ap (λ (l : List T). b.rows ++ l) (rows_set T bs i a (omega (arith, within)))
    ∙ sym (append_assoc b.rows (rows_of (take i bs)) (a.rows ++ rows_of (drop (suc i) bs)))

-- the rows where one block stands as two
pub rows_split : (T : Type 0) (blocks : List (Tabled T)) (i : ℕ) (a u : Tabled T) → i < length blocks
    → rows_of (insert (set blocks i a) (suc i) u) ≡ rows_of (take i blocks) ++ ((a.rows ++ u.rows) ++ rows_of (drop (suc i) blocks))
rows_split T [] i a u within = absurd (omega arith)
rows_split T (b ∷ bs) zero a u within = sym (append_assoc a.rows u.rows (rows_of bs))
rows_split T (b ∷ bs) (suc i) a u within =
    ap (λ (l : List T). b.rows ++ l) (rows_split T bs i a u (omega (arith, within)))
    ∙ sym (append_assoc b.rows (rows_of (take i bs)) ((a.rows ++ u.rows) ++ rows_of (drop (suc i) bs)))

module _ (T : Type 0) (rank : T → ℕ) where
  abbrev Before : Tabled T → Tabled T → Type 0
  Before a b = All (λ (x : T). All (λ (y : T). rank x < rank y) b.rows) a.rows

  -- each block rises, and stands before those behind it
  pub blocks_rise : (blocks : List (Tabled T)) → IsRising rank (rows_of blocks)
      → All (λ (b : Tabled T). IsRising rank b.rows) blocks × AllPairs Before blocks
  blocks_rise [] rising = (All-nil (λ (b : Tabled T). IsRising rank b.rows), AllPairs-nil (Tabled T) Before)
  blocks_rise (b ∷ bs) rising =
      let parts = pairs_parts T (λ x y. rank x < rank y) b.rows (rows_of bs) rising in
      let rest = blocks_rise bs parts.1 in
      let across : All (Before b) bs = λ j d jn i e in'. rows-All T (λ (y : T). rank (get_or b.rows i e) < rank y) bs (parts.2 i e in') j d jn in
      (All-cons (λ (b : Tabled T). IsRising rank b.rows) b bs parts.0 rest.0, AllPairs-cons Before b bs across rest.1)

  -- the first row's rank
  pub first_within : (rows : List T) → IsRising rank rows → All (λ r. first_rank rank rows ≤ rank r) rows
  first_within [] rising = All-nil (λ r. 0 ≤ rank r)
  first_within (x ∷ xs) rising = All-cons (λ r. rank x ≤ rank r) x xs (omega arith)
      (All-weaker (λ (y : T). rank x < rank y) (λ (y : T). rank x ≤ rank y) (λ y up. omega (arith, up)) xs (AllPairs-head T (λ (x y : T). rank x < rank y) x xs rising))

  pub first_has : (Q : ℕ → Type 0) (rows : List T) → 1 ≤ length rows → All (λ r. Q (rank r)) rows → Q (first_rank rank rows)
  first_has Q [] some all = absurd (omega (arith, some))
  first_has Q (x ∷ xs) some all = All-head (λ r. Q (rank r)) x xs all

  module _ (blocks : List (Tabled T)) (k : ℕ) (rising : IsRising rank (rows_of blocks)) (filled : All (λ (b : Tabled T). IsBlock 128 b) blocks) where
    abbrev starts : Tabled T → Bool
    starts b = nat_le (first_rank rank b.rows) k

    -- the rows of a block are below the first one of a later block
    below_first : (i j : ℕ) (d : Tabled T) → i < j → j < length blocks → All (λ r. rank r < first_rank rank (get_or blocks j d).rows) (get_or blocks i d).rows
    below_first i j d lt within =
        let b = get_or blocks j d in
        All-weaker (λ (x : T). All (λ (y : T). rank x < rank y) b.rows) (λ (x : T). rank x < first_rank rank b.rows)
        (λ x all. first_has (λ n. rank x < n) b.rows (filled j d within).0 all)
        (get_or blocks i d).rows ((blocks_rise blocks rising).1 i j d lt within)

    pub parted : IsPartitionedBy starts blocks
    parted = λ i j d le within told. ⊎_elim
        (λ (lt : i < j).
        let up = first_has (λ n. n < first_rank rank (get_or blocks j d).rows) (get_or blocks i d).rows (filled i d (omega (arith, lt, within))).0 (below_first i j d lt within) in
        let low = leb-true _ _ told in
        le-leb _ _ (omega (arith, up, low)))
        (λ (ge : j ≤ i). subst (λ n. starts (get_or blocks n d) ≡ true) (omega (arith, le, ge)) told)
        (cases_lt i j)

    front : (i : ℕ) → i < length blocks → ((d : Tabled T) → starts (get_or blocks i d) ≡ true) → All (λ r. rank r < k) (rows_of (take i blocks))
    front i within told =
        All-rows T (λ r. rank r < k) (take i blocks) (taken_all (Tabled T) (λ (b : Tabled T). All (λ r. rank r < k) b.rows) blocks i
        (λ j d low lt. let up = leb-true _ _ (told d) in
        All-weaker (λ (x : T). rank x < first_rank rank (get_or blocks i d).rows) (λ (x : T). rank x < k) (λ x less. omega (arith, less, up))
        (get_or blocks j d).rows (below_first j i d lt within)))

    behind : (i : ℕ) → AllWithin (λ (b : Tabled T). starts b ≡ false) blocks i (length blocks) → All (λ r. k < rank r) (rows_of (drop i blocks))
    behind i told =
        All-rows T (λ r. k < rank r) (drop i blocks) (dropped_all (Tabled T) (λ (b : Tabled T). All (λ r. k < rank r) b.rows) blocks i
        (λ j d low lt. let up = leb-false _ _ (told j d low lt) in
        let rows = (get_or blocks j d).rows in
        All-weaker (λ (x : T). first_rank rank rows ≤ rank x) (λ (x : T). k < rank x) (λ x le. omega (arith, le, up)) rows
        (first_within rows ((blocks_rise blocks rising).0 j d lt))))

    -- the last block that starts by the rank, or the first of all
    pub block_found : (i at : ℕ) → at ≡ i - 1 → 1 ≤ length blocks → i ≤ length blocks
        → IsPartitionPoint (λ (b : Tabled T). starts b ≡ true) (λ (b : Tabled T). starts b ≡ false) blocks i → IsBlockFor rank blocks k at
    block_found zero at is some le point =
        let here : 0 ≡ at = omega (arith, is) in
        subst (IsBlockFor rank blocks k) here (omega (arith, some), All-nil (λ r. rank r < k), behind 1 (λ j d low lt. point.1 j d (omega arith) lt))
    block_found (suc i) at is some le point =
        let here : i ≡ at = omega (arith, is) in
        subst (IsBlockFor rank blocks k) here (omega (arith, le), front i (omega (arith, le)) (λ d. point.0 i d (omega arith) (omega arith)), behind (suc i) point.1)

    -- the block that starts by the rank, where the next one doesn't
    pub block_here : (at : ℕ) (b : Tabled T) → at < length blocks → b ≡ get_or blocks at b → starts b ≡ true
        → ((d : Tabled T) → suc at < length blocks → starts (get_or blocks (suc at) d) ≡ false) → IsBlockFor rank blocks k at
    block_here at b within is told next = (
      within,
      front at within (λ d. ap starts (get_or_default blocks at d b within ∙ sym is) ∙ told),
      behind (suc at) (λ j d low lt.
          let after : suc at < length blocks = omega (arith, low, lt) in
          let no = next d after in
          (elim (starts (get_or blocks j d)) as (λ v. starts (get_or blocks j d) ≡ v → starts (get_or blocks j d) ≡ false) [
            | true ↦ λ up. let early = parted (suc at) j d low lt up in cc
            | false ↦ λ down. down
          ]) refl),
    )
