-- What a binary search finds among rising rows.
use Rattle.std.proofs.Common.{◌≡◌, ℕ, ◌+◌, ◌<◌, ◌≤◌, List, length, get_or, Result, Ok, Err, IfOk, IfErr, ⊎_elim, sym, ap, arith}
use Rattle.std.specs.List.Sorted.{IsSearchInRange, IsBinarySearchResult, IsNonDecreasingBy}
use Rattle.std.specs.Ordering.{nat_cmp, ordering_index}
use Rattle.std.proofs.lemmas.Cmp.{ranked}
use Rattle.std.proofs.lemmas.Bool.{cases_lt}
use Rattle.std.proofs.lemmas.Bool.Decides.{nat_tests}
use Rattle.std.proofs.lemmas.List.{get_or_default}
use Rattle.sorted_table.specs.Rows.{IsRising}
use Rattle.sorted_table.specs.Places.{IsAt, IsGapFor}

-- a greater number compares no lower
index_rises : (a b k : ℕ) → a ≤ b → ordering_index (nat_cmp a k) ≤ ordering_index (nat_cmp b k)
index_rises a b k le = grind (arith, nat_tests)

pub rank_rises : (T : Type 0) (rank : T → ℕ) (rows : List T) → IsRising rank rows → (i j : ℕ) (d : T) → i ≤ j → j < length rows → rank (get_or rows i d) ≤ rank (get_or rows j d)
rank_rises T rank rows rising i j d le within =
    ⊎_elim
    (λ (lt : i < j). let up : rank (get_or rows i d) < rank (get_or rows j d) = rising i j d lt within in omega arith)
    (λ (ge : j ≤ i). let one : rank (get_or rows i d) ≡ rank (get_or rows j d) = ap (λ k. rank (get_or rows k d)) (omega arith) in omega arith)
    (cases_lt i j)

-- the comparisons with a rank rise along the rows, as a binary search asks
comparisons_rise : (T : Type 0) (rank : T → ℕ) (rows : List T) (k : ℕ) → IsRising rank rows → IsNonDecreasingBy (λ r. ordering_index (nat_cmp (rank r) k)) rows
comparisons_rise T rank rows k rising = λ i j d le within. index_rises _ _ k (rank_rises T rank rows rising i j d le within)

-- a binary search ends at the row, or at the gap for it
pub searched : (T : Type 0) (rank : T → ℕ) (rows : List T) (k : ℕ) → IsRising rank rows → (r : Result ℕ ℕ) → IsSearchInRange r (length rows) → IsBinarySearchResult (λ y. nat_cmp (rank y) k) rows r → record { found : IfOk r (IsAt rank rows k); absent : IfErr r (IsGapFor rank rows k) }
searched T rank rows k rising (Ok at) within equal = record { found = (within, λ d. ranked _ k _ (sym (equal d))); absent = tt }
searched T rank rows k rising (Err at) within parted = record {
  found = tt;
  absent = (
    within,
    λ j d low high. ranked _ k _ (sym ((parted (comparisons_rise T rank rows k rising)).0 j d low high)),
    λ j d low high. ranked _ k _ (sym ((parted (comparisons_rise T rank rows k rising)).1 j d low high)),
  );
}

-- where the last row is below the rank, the gap is behind all
pub behind_all : (T : Type 0) (rank : T → ℕ) (rows : List T) (k last : ℕ) (row : T) → IsRising rank rows → length rows ≡ last + 1
    → row ≡ get_or rows last row → rank row < k → IsGapFor rank rows k (length rows)
behind_all T rank rows k last row rising size is below = (
  omega arith,
  λ j d low high.
      let up : rank (get_or rows j row) ≤ rank (get_or rows last row) = rank_rises T rank rows rising j last row (omega (arith, high, size)) (omega (arith, size)) in
      let one : rank (get_or rows j d) ≡ rank (get_or rows j row) = ap rank (get_or_default rows j d row high) in
      let end : rank row ≡ rank (get_or rows last row) = ap rank is in
      omega (arith, up, one, end, below),
  λ j d low high. absurd (omega (arith, low, high)),
)
