-- The numbers that put grants in their places order them by holder and then by folder.
use Rattle.std.proofs.Common.{◌≡◌, ℕ, ◌+◌, ◌*◌, ◌<◌, not, ◌&&◌, ◌||◌, ◌==◌, nat_lt, ◌↔◌, List, ◌∷◌, ◌++◌, filter, get_or, None, is_some, IsTrue, refl, sym, ap, ◌∙◌, subst, arith}
use Rattle.std.specs.List.{AllPairs, list_any}
use Rattle.std.proofs.lemmas.Bool.{lt-ltb, ltb-true, eqb-true, eq-eqb, and_parts, and_from}
use Rattle.std.proofs.lemmas.List.Kept.{AllPairs-filter}
use Rattle.cry_base.specs.declared.ids.HolderId.{HolderId}
use Rattle.cry_base.specs.declared.ids.FolderId.{FolderId}
use Rattle.std.proofs.lemmas.Bool.Decides.{nat_tests}
use Rattle.cry_base.specs.Sets.{In}
use Rattle.cry_base.specs.Store.{GrantEntry}
use Rattle.cry_base.proofs.Members.{In-any}
use Rattle.sorted_table.proofs.Found.{row_at-absent}
use Rattle.sorted_table.specs.Rows.{IsRising, row_at, with_row, without}
use Rattle.grant_book.specs.Granted.{AreOrdered, grant_of, is_before, is_grant, holders_on, folders_of, with_pair, without_pair}
use Rattle.grant_book.specs.Ranks.{rank_of}
use Rattle.grant_book.proofs.Lists.{In-get_or, filter_same, list_any_same, is_some-find, AllPairs-map, All-filter}

lower_pair : (h f k g : ℕ) → f < 4294967296 → g < 4294967296 → nat_lt (h * 4294967296 + f) (k * 4294967296 + g) ≡ (nat_lt h k || (h == k && nat_lt f g))
lower_pair h f k g f_fits g_fits = grind (arith, nat_tests)

same_pair : (h f k g : ℕ) → f < 4294967296 → g < 4294967296 → (h * 4294967296 + f == k * 4294967296 + g) ≡ (h == k && f == g)
same_pair h f k g f_fits g_fits = grind (arith, nat_tests)

pub grant_is : (e : GrantEntry) (h f : ℕ) → e.holder ≡ h → e.folder ≡ f → e ≡ grant_of h f
grant_is e h f holder folder = ap (λ x. grant_of x e.folder) holder ∙ ap (λ y. grant_of h y) folder

-- whether the holder's grant on the folder stands
pub is_grant_told : (h f : ℕ) (e : GrantEntry) → IsTrue (is_grant h f e) ↔ (e ≡ grant_of h f)
is_grant_told h f e = (
  λ t. let parts = and_parts _ _ t in grant_is e h f (eqb-true _ _ parts.0) (eqb-true _ _ parts.1),
  λ same. and_from _ _ (eq-eqb _ _ (ap (λ (x : GrantEntry). x.holder) same)) (eq-eqb _ _ (ap (λ (x : GrantEntry). x.folder) same)),
)

pub any_grant_told : (h f : ℕ) (pairs : List GrantEntry) → IsTrue (list_any (is_grant h f) pairs) ↔ In (grant_of h f) pairs
any_grant_told h f pairs =
    let told = In-any GrantEntry (is_grant h f) (λ e. e ≡ grant_of h f) (is_grant_told h f) pairs in (
      λ t. let w = told.0 t in subst (λ e. In e pairs) w.2 w.1,
      λ i. told.1 (grant_of h f, i, refl),
    )

module _ (pairs : List GrantEntry) (numbered : (e : GrantEntry) → In e pairs → e.folder < 4294967296) where
  pub ordered : IsRising rank_of pairs → AreOrdered pairs
  ordered rising = λ i j d lt within.
      let a = get_or pairs i d in let b = get_or pairs j d in
      let a_fits = numbered a (In-get_or GrantEntry pairs i d (omega arith)) in
      let b_fits = numbered b (In-get_or GrantEntry pairs j d within) in
      sym (lower_pair a.holder a.folder b.holder b.folder a_fits b_fits) ∙ lt-ltb _ _ (rising i j d lt within)

  pub rising : AreOrdered pairs → IsRising rank_of pairs
  rising order = λ i j d lt within.
      let a = get_or pairs i d in let b = get_or pairs j d in
      let a_fits = numbered a (In-get_or GrantEntry pairs i d (omega arith)) in
      let b_fits = numbered b (In-get_or GrantEntry pairs j d within) in
      ltb-true _ _ (lower_pair a.holder a.folder b.holder b.folder a_fits b_fits ∙ order i j d lt within)

  module _ (h f : ℕ) (fits : f < 4294967296) where
    here : (e : GrantEntry) → In e pairs → (rank_of e == rank_of (grant_of h f)) ≡ is_grant h f e
    here e i = same_pair e.holder e.folder h f (numbered e i) fits

    pub is_some-row_at : is_some (row_at rank_of pairs (rank_of (grant_of h f))) ≡ list_any (is_grant h f) pairs
    is_some-row_at = is_some-find GrantEntry (λ e. rank_of e == rank_of (grant_of h f)) pairs ∙ list_any_same GrantEntry _ _ pairs here

    pub with_row_is : with_row rank_of pairs (grant_of h f) ≡ with_pair pairs (grant_of h f)
    with_row_is =
        ap (λ xs. xs ++ grant_of h f ∷ filter (λ e. nat_lt (rank_of (grant_of h f)) (rank_of e)) pairs)
        (filter_same GrantEntry (λ e. nat_lt (rank_of e) (rank_of (grant_of h f))) (λ e. is_before e (grant_of h f)) pairs (λ e i. lower_pair e.holder e.folder h f (numbered e i) fits))
        ∙ ap (λ ys. filter (λ e. is_before e (grant_of h f)) pairs ++ grant_of h f ∷ ys)
        (filter_same GrantEntry (λ e. nat_lt (rank_of (grant_of h f)) (rank_of e)) (λ e. is_before (grant_of h f) e) pairs (λ e i. lower_pair h f e.holder e.folder fits (numbered e i)))

    pub without_is : without rank_of pairs (rank_of (grant_of h f)) ≡ without_pair pairs h f
    without_is = filter_same GrantEntry (λ e. not (rank_of e == rank_of (grant_of h f))) (λ e. not (is_grant h f e)) pairs (λ e i. ap not (here e i))

    pub row_at-not_granted : (In (grant_of h f) pairs → ⊥) → row_at rank_of pairs (rank_of (grant_of h f)) ≡ None
    row_at-not_granted none = row_at-absent GrantEntry rank_of pairs (rank_of (grant_of h f)) (λ e i same.
        none (subst (λ x. In x pairs) ((is_grant_told h f e).0 (sym (here e i) ∙ eq-eqb _ _ same)) i))

-- the holders with grants on one folder ascend, and so do the folders of one holder
pub holders_rise : (pairs : List GrantEntry) (f : ℕ) → AreOrdered pairs → AllPairs (λ (a b : HolderId). a.0 < b.0) (holders_on pairs f)
holders_rise pairs f order =
    AllPairs-map GrantEntry HolderId (λ a b. IsTrue (is_before a b)) (λ a b. a.0 < b.0) (λ e. e.folder ≡ f) (λ e. record { 0 = e.holder })
    (λ a b on_a on_b before. grind (arith, nat_tests)) (filter (λ e. e.folder == f) pairs)
    (All-filter GrantEntry (λ e. e.folder == f) (λ e. e.folder ≡ f) (λ e told. eqb-true _ _ told) pairs)
    (AllPairs-filter (λ a b. IsTrue (is_before a b)) (λ e. e.folder == f) pairs order)

pub folders_rise : (pairs : List GrantEntry) (h : ℕ) → AreOrdered pairs → AllPairs (λ (a b : FolderId). a.0 < b.0) (folders_of pairs h)
folders_rise pairs h order =
    AllPairs-map GrantEntry FolderId (λ a b. IsTrue (is_before a b)) (λ a b. a.0 < b.0) (λ e. e.holder ≡ h) (λ e. record { 0 = e.folder })
    (λ a b of_a of_b before. grind (arith, nat_tests)) (filter (λ e. e.holder == h) pairs)
    (All-filter GrantEntry (λ e. e.holder == h) (λ e. e.holder ≡ h) (λ e told. eqb-true _ _ told) pairs)
    (AllPairs-filter (λ a b. IsTrue (is_before a b)) (λ e. e.holder == h) pairs order)
