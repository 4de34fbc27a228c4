-- Two lists of the same grants, each in an order of its own, have as many that pass a test.
use Rattle.std.proofs.Common.{◌≡◌, ℕ, ◌+◌, ◌*◌, ◌<◌, ◌≤◌, Bool, not, ◌&&◌, ◌==◌, nat_le, List, [], ◌∷◌, filter, length, refl, ap, ◌∙◌, subst, inl, inr, arith}
use Rattle.std.proofs.lemmas.Bool.{eq-eqb, ne_eqb}
use Rattle.std.proofs.lemmas.Bool.Decides.{nat_tests}
use Rattle.std.proofs.lemmas.List.Kept.{AllPairs-filter}
use Rattle.cry_base.specs.Clearances.{clear_base, is_clear_number}
use Rattle.cry_base.specs.Sets.{In}
use Rattle.cry_base.specs.Store.{GrantEntry}
use Rattle.cry_base.proofs.Members.{In-filter, filter-In}
use Rattle.sorted_table.specs.Rows.{IsRising}
use Rattle.grant_book.specs.Fitting.{Fits}
use Rattle.grant_book.specs.Granted.{grant_of}
use Rattle.grant_book.specs.Ranks.{rank_of, rank_on}
use Rattle.grant_book.proofs.Dropped.{filter_shorter}
use Rattle.grant_book.proofs.Fitted.{holder_small}
use Rattle.grant_book.proofs.Lists.{filter_same}
use Rattle.grant_book.proofs.Looked.{above_head, rest_rises}

-- a rising list whose elements another one has is no longer than that
no_longer : (X : Type 0) (rank : X → ℕ) (xs ys : List X) → IsRising rank xs → ((x : X) → In x xs → In x ys) → length xs ≤ length ys
no_longer X rank [] ys rising has = omega arith
no_longer X rank (x ∷ xs) ys rising has =
    let fewer : length (filter others ys) < length ys = filter_shorter X others x ys (has x (inl refl)) (ap not (eq-eqb (rank x) (rank x) refl)) in
    let rest : length xs ≤ length (filter others ys) = no_longer X rank xs (filter others ys) (rest_rises X rank x xs rising) (λ z i.
    filter-In X others z ys (has z (inr i)) (ap not (ne_eqb (rank z) (rank x) (λ same. let low : rank x < rank z = above_head X rank x xs rising z i in omega (arith, low, same))))) in
    omega (arith, fewer, rest)
  where
    others : X → Bool
    others z = not (rank z == rank x)

-- those on files are the grants from the first clearance number on
from_files : (h f : ℕ) → h < 4294967296 → f < 4294967296
    → (nat_le (clear_base * 4294967296 + 0) (f * 4294967296 + h) && nat_le (f * 4294967296 + h) (4294967295 * 4294967296 + 4294967295)) ≡ is_clear_number f
from_files h f h_fits f_fits = grind (arith, nat_tests)

module _ (checks : List (List ℕ)) (pairs others : List GrantEntry) (fits : Fits checks pairs others) where
  abbrev is_on_file : GrantEntry → Bool
  is_on_file e = is_clear_number e.folder

  to : (e : GrantEntry) → In e (filter is_on_file others) → In e (filter is_on_file pairs)
  to e i = let told = In-filter GrantEntry is_on_file e others i in filter-In GrantEntry is_on_file e pairs ((fits.same e).0 told.0) told.1

  from : (e : GrantEntry) → In e (filter is_on_file pairs) → In e (filter is_on_file others)
  from e i = let told = In-filter GrantEntry is_on_file e pairs i in filter-In GrantEntry is_on_file e others ((fits.same e).1 told.0) told.1

  pub on_files : (first last : GrantEntry) (found : List GrantEntry) → first ≡ grant_of 0 clear_base → last ≡ grant_of 4294967295 4294967295
      → found ≡ filter (λ e. nat_le (rank_on first) (rank_on e) && nat_le (rank_on e) (rank_on last)) others → IsRising rank_on found → IsRising rank_of pairs
      → length found ≡ length (filter is_on_file pairs)
  on_files first last found low high told rising order =
      let here : found ≡ filter is_on_file others = told ∙ filter_same GrantEntry (λ e. nat_le (rank_on first) (rank_on e) && nat_le (rank_on e) (rank_on last)) is_on_file others (λ e i.
      ap (λ (a : GrantEntry). nat_le (rank_on a) (rank_on e) && nat_le (rank_on e) (rank_on last)) low
      ∙ ap (λ (z : GrantEntry). nat_le (rank_on (grant_of 0 clear_base)) (rank_on e) && nat_le (rank_on e) (rank_on z)) high
      ∙ from_files e.holder e.folder (holder_small checks pairs others e.holder fits (fits.made e ((fits.same e).0 i))) (fits.numbered e ((fits.same e).0 i))) in
      let most : length (filter is_on_file others) ≤ length (filter is_on_file pairs) =
      no_longer GrantEntry rank_on (filter is_on_file others) (filter is_on_file pairs) (subst (IsRising rank_on) here rising) to in
      let least : length (filter is_on_file pairs) ≤ length (filter is_on_file others) =
      no_longer GrantEntry rank_of (filter is_on_file pairs) (filter is_on_file others) (AllPairs-filter (λ a b. rank_of a < rank_of b) is_on_file pairs order) from in
      let same : length found ≡ length (filter is_on_file others) = ap length here in
      omega (arith, most, least, same)
