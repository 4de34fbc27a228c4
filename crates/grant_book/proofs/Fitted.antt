-- The lists keep what holds of them.
use Rattle.std.proofs.Common.{◌≡◌, ℕ, ◌+◌, ◌<◌, ◌^◌, Bool, not, ◌==◌, List, [], ◌∷◌, ◌++◌, length, length-append, None, subst, sym, inl, inr, ⊎_elim, arith}
use Rattle.cry_base.specs.Sets.{In}
use Rattle.cry_base.specs.Store.{GrantEntry}
use Rattle.cry_base.proofs.Members.{In-filter, filter-In}
use Rattle.sorted_table.specs.Rows.{row_at, with_row, without}
use Rattle.sorted_table.proofs.Found.{row_at-None, row_at-absent, In-with_row, In-without}
use Rattle.grant_book.specs.Fitting.{Fits}
use Rattle.grant_book.specs.Granted.{IsHolder, grant_of, without_pairs_on}
use Rattle.grant_book.specs.Ranks.{rank_of, rank_on}

pub Fits-holder : (checks : List (List ℕ)) (pairs others : List GrantEntry) (check : List ℕ) → Fits checks pairs others → length checks + 1 < 2 ^ 32 → Fits (checks ++ check ∷ []) pairs others
Fits-holder checks pairs others check fits counted =
    let longer = length-append checks (check ∷ []) in record {
      counted = omega arith;
      made = λ e i. let was = fits.made e i in (was.0, omega arith);
      numbered = fits.numbered;
      same = fits.same;
    }

-- the numbers that order the two lists tell the same grants apart
ranked_on : (e : GrantEntry) (h f : ℕ) → e.folder < 4294967296 → f < 4294967296 → rank_of e ≡ rank_of (grant_of h f) → rank_on e ≡ rank_on (grant_of h f)
ranked_on e h f e_fits f_fits same = omega (arith, e_fits, f_fits, same)

ranked_of : (e : GrantEntry) (h f : ℕ) → e.holder < 4294967296 → h < 4294967296 → rank_on e ≡ rank_on (grant_of h f) → rank_of e ≡ rank_of (grant_of h f)
ranked_of e h f e_fits h_fits same = omega (arith, e_fits, h_fits, same)

-- a holder's number fits 32 bits
pub holder_small : (checks : List (List ℕ)) (pairs others : List GrantEntry) (h : ℕ) → Fits checks pairs others → IsHolder checks h → h < 4294967296
holder_small checks pairs others h fits known = let counted = fits.counted in omega (arith, known.1, counted)

module _ (checks : List (List ℕ)) (pairs others : List GrantEntry) (h f : ℕ) (fits : Fits checks pairs others) (h_fits : h < 4294967296) (f_fits : f < 4294967296) where
  holder_fits : (e : GrantEntry) → In e pairs → e.holder < 4294967296
  holder_fits e i = holder_small checks pairs others e.holder fits (fits.made e i)

  to_of : (e : GrantEntry) → In e pairs → rank_on e ≡ rank_on (grant_of h f) → rank_of e ≡ rank_of (grant_of h f)
  to_of e i same = ranked_of e h f (holder_fits e i) h_fits same

  to_on : (e : GrantEntry) → In e pairs → rank_of e ≡ rank_of (grant_of h f) → rank_on e ≡ rank_on (grant_of h f)
  to_on e i same = ranked_on e h f (fits.numbered e i) f_fits same

  -- what isn't in the one list isn't in the other
  pub others_absent : row_at rank_of pairs (rank_of (grant_of h f)) ≡ None → row_at rank_on others (rank_on (grant_of h f)) ≡ None
  others_absent absent =
      row_at-absent GrantEntry rank_on others (rank_on (grant_of h f)) (λ e i same.
      let old = (fits.same e).0 i in
      row_at-None GrantEntry rank_of pairs (rank_of (grant_of h f)) absent e old (to_of e old same))

  pub Fits-grant : IsHolder checks h → row_at rank_of pairs (rank_of (grant_of h f)) ≡ None → Fits checks (with_row rank_of pairs (grant_of h f)) (with_row rank_on others (grant_of h f))
  Fits-grant known absent =
      let stands = λ (e : GrantEntry). In-with_row GrantEntry rank_of pairs (grant_of h f) e absent in
      let stands_on = λ (e : GrantEntry). In-with_row GrantEntry rank_on others (grant_of h f) e (others_absent absent) in record {
        counted = fits.counted;
        made = λ e i. ⊎_elim (λ (same : e ≡ grant_of h f). subst (λ (x : GrantEntry). IsHolder checks x.holder) (sym same) known) (λ old. fits.made e old) ((stands e).0 i);
        numbered = λ e i. ⊎_elim (λ (same : e ≡ grant_of h f). subst (λ (x : GrantEntry). x.folder < 2 ^ 32) (sym same) f_fits) (λ old. fits.numbered e old) ((stands e).0 i);
        same = λ e. (
          λ i. ⊎_elim (λ (same : e ≡ grant_of h f). (stands e).1 (inl same)) (λ old. (stands e).1 (inr ((fits.same e).0 old))) ((stands_on e).0 i),
          λ i. ⊎_elim (λ (same : e ≡ grant_of h f). (stands_on e).1 (inl same)) (λ old. (stands_on e).1 (inr ((fits.same e).1 old))) ((stands e).0 i),
        );
      }

  pub Fits-revoke : Fits checks (without rank_of pairs (rank_of (grant_of h f))) (without rank_on others (rank_on (grant_of h f)))
  Fits-revoke =
      let stands = λ (e : GrantEntry). In-without GrantEntry rank_of pairs (rank_of (grant_of h f)) e in
      let stands_on = λ (e : GrantEntry). In-without GrantEntry rank_on others (rank_on (grant_of h f)) e in record {
        counted = fits.counted;
        made = λ e i. fits.made e ((stands e).0 i).0;
        numbered = λ e i. fits.numbered e ((stands e).0 i).0;
        same = λ e. (
          λ i. let old = (stands_on e).0 i in let there = (fits.same e).0 old.0 in (stands e).1 (there, λ same. old.1 (to_on e there same)),
          λ i. let old = (stands e).0 i in (stands_on e).1 ((fits.same e).1 old.0, λ same. old.1 (to_of e old.0 same)),
        );
      }

pub Fits-others : (checks : List (List ℕ)) (pairs others : List GrantEntry) (f : ℕ) → Fits checks pairs others → Fits checks (without_pairs_on pairs f) (without_pairs_on others f)
Fits-others checks pairs others f fits =
    let other : GrantEntry → Bool = λ e. not (e.folder == f) in record {
      counted = fits.counted;
      made = λ e i. fits.made e (In-filter GrantEntry other e pairs i).0;
      numbered = λ e i. fits.numbered e (In-filter GrantEntry other e pairs i).0;
      same = λ e. (
        λ i. let told = In-filter GrantEntry other e others i in filter-In GrantEntry other e pairs ((fits.same e).0 told.0) told.1,
        λ i. let told = In-filter GrantEntry other e pairs i in filter-In GrantEntry other e others ((fits.same e).1 told.0) told.1,
      );
    }
