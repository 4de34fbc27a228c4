-- The lists of holders and grants against a plain store.
use Rattle.std.proofs.Common.{◌≡◌, ℕ, zero, suc, ◌+◌, ◌<◌, Bool, true, not, ◌&&◌, ◌||◌, ◌==◌, nat_lt, nat_le, ◌⊎◌, ◌↔◌, List, [], ◌∷◌, ◌++◌, map, filter, length, is_none, refl, sym, ap, ◌∙◌, inl, inr, ⊎_elim, arith}
use Rattle.std.specs.List.{list_any, range_with_len}
use Rattle.std.proofs.lemmas.Bool.{lt-ltb, eq-eqb, or_left, or_right, and_from, cases_order}
use Rattle.std.proofs.lemmas.Bool.Decides.{nat_tests, same_from_decides}
use Rattle.cry_base.specs.Sets.{In}
use Rattle.cry_base.specs.Store.{Store, GrantEntry, HolderEntry, holder_entry, has_grant}
use Rattle.cry_base.proofs.Members.{In-append, In-filter, filter-In}
use Rattle.grant_book.specs.Granted.{grant_of, is_before, is_grant, with_pair}
use Rattle.grant_book.specs.Matching.{AreGrantsOf}
use Rattle.grant_book.specs.Refused.{is_holder}
use Rattle.grant_book.proofs.Lists.{is_some-find}
use Rattle.grant_book.proofs.Ordered.{grant_is, any_grant_told}

-- of two grants one comes before the other, or they are one
one_is_before : (a b : GrantEntry) → (a ≡ b) ⊎ ((is_before a b ≡ true) ⊎ (is_before b a ≡ true))
one_is_before a b =
    ⊎_elim (λ (holder : a.holder ≡ b.holder).
    ⊎_elim (λ (folder : a.folder ≡ b.folder). inl (grant_is a b.holder b.folder holder folder))
    (λ (u : (a.folder < b.folder) ⊎ (b.folder < a.folder)). inr (⊎_elim
    (λ (lt : a.folder < b.folder). inl (or_right _ _ (and_from _ _ (eq-eqb _ _ holder) (lt-ltb _ _ lt))))
    (λ (gt : b.folder < a.folder). inr (or_right _ _ (and_from _ _ (eq-eqb _ _ (sym holder)) (lt-ltb _ _ gt)))) u))
    (cases_order a.folder b.folder))
    (λ (u : (a.holder < b.holder) ⊎ (b.holder < a.holder)). inr (⊎_elim
    (λ (lt : a.holder < b.holder). inl (or_left _ _ (lt-ltb _ _ lt)))
    (λ (gt : b.holder < a.holder). inr (or_left _ _ (lt-ltb _ _ gt))) u))
    (cases_order a.holder b.holder)

-- a new grant stands beside the old ones
pub In-with_pair : (pairs : List GrantEntry) (new e : GrantEntry) → In e (with_pair pairs new) ↔ ((e ≡ new) ⊎ In e pairs)
In-with_pair pairs new e =
    let low = λ (x : GrantEntry). is_before x new in let high = λ (x : GrantEntry). is_before new x in
    let joined = In-append GrantEntry e (filter low pairs) (new ∷ filter high pairs) in (
      λ i. ⊎_elim (λ l. inr (In-filter GrantEntry low e pairs l).0)
          (λ (rest : (e ≡ new) ⊎ In e (filter high pairs)). ⊎_elim (λ same. inl same) (λ h. inr (In-filter GrantEntry high e pairs h).0) rest) (joined.0 i),
      λ u. ⊎_elim (λ (same : e ≡ new). joined.1 (inr (inl same)))
          (λ old. ⊎_elim (λ (same : e ≡ new). joined.1 (inr (inl same)))
          (λ (o : (is_before e new ≡ true) ⊎ (is_before new e ≡ true)). ⊎_elim
          (λ l. joined.1 (inl (filter-In GrantEntry low e pairs old l)))
          (λ h. joined.1 (inr (inr (filter-In GrantEntry high e pairs old h)))) o)
          (one_is_before e new)) u,
    )

-- a grant at the end of a list of grants
pub granted_more : (pairs grants : List GrantEntry) (new : GrantEntry) → ((e : GrantEntry) → In e pairs ↔ In e grants) → (e : GrantEntry) → In e (with_pair pairs new) ↔ In e (grants ++ new ∷ [])
granted_more pairs grants new granted e =
    let joined = In-append GrantEntry e grants (new ∷ []) in let put = In-with_pair pairs new e in (
      λ i. ⊎_elim (λ (same : e ≡ new). joined.1 (inr (inl same))) (λ old. joined.1 (inl ((granted e).0 old))) (put.0 i),
      λ i. ⊎_elim (λ old. put.1 (inr ((granted e).1 old))) (λ (one : (e ≡ new) ⊎ ⊥). ⊎_elim (λ same. put.1 (inl same)) (λ n. absurd n) one) (joined.0 i),
    )

-- the same test on the same grants
pub granted_less : (pairs grants : List GrantEntry) (p : GrantEntry → Bool) → ((e : GrantEntry) → In e pairs ↔ In e grants) → (e : GrantEntry) → In e (filter p pairs) ↔ In e (filter p grants)
granted_less pairs grants p granted e = (
  λ i. let told = In-filter GrantEntry p e pairs i in filter-In GrantEntry p e grants ((granted e).0 told.0) told.1,
  λ i. let told = In-filter GrantEntry p e grants i in filter-In GrantEntry p e pairs ((granted e).1 told.0) told.1,
)

-- one number more
pub range_more : (a n : ℕ) → range_with_len a n ++ (a + n) ∷ [] ≡ range_with_len a (suc n)
range_more a zero = ap (λ k. k ∷ []) (omega arith)
range_more a (suc n) = ap (λ xs. a ∷ xs) (ap (λ k. range_with_len (a + 1) n ++ k ∷ []) (omega arith) ∙ range_more (a + 1) n)

any_in_range : (h a n : ℕ) → list_any (λ k. k == h) (range_with_len a n) ≡ (nat_le a h && nat_lt h (a + n))
any_in_range h a zero = grind (arith, nat_tests)
any_in_range h a (suc n) = let rest = any_in_range h (a + 1) n in grind (arith, nat_tests)

list_any-map : (X Y : Type 0) (f : X → Y) (p : Y → Bool) (xs : List X) → list_any p (map f xs) ≡ list_any (λ x. p (f x)) xs
list_any-map X Y f p [] = refl
list_any-map X Y f p (x ∷ xs) = ap (λ b. p (f x) || b) (list_any-map X Y f p xs)

module _ (checks : List (List ℕ)) (pairs : List GrantEntry) (s : Store) (are : AreGrantsOf checks pairs s) where
  -- a number is a holder's in the store just where it is one in the list
  pub holder_told : (h : ℕ) → is_none (holder_entry s h) ≡ not (is_holder checks h)
  unfolding holder_entry
  holder_told h = ap not (is_some-find HolderEntry (λ e. e.number == h) s.holders
      ∙ sym (list_any-map HolderEntry ℕ (λ e. e.number) (λ k. k == h) s.holders)
      ∙ ap (list_any (λ k. k == h)) are.numbers ∙ any_in_range h 1 (length checks) ∙ counted)
    where
      counted : (nat_le 1 h && nat_lt h (1 + length checks)) ≡ is_holder checks h
      counted = grind (arith, nat_tests)

  pub grant_told : (h f : ℕ) → has_grant s h f ≡ list_any (is_grant h f) pairs
  unfolding has_grant
  grant_told h f =
      let old = any_grant_told h f s.grants in let new = any_grant_told h f pairs in
      same_from_decides {P = In (grant_of h f) pairs} _ _
      (λ t. (are.granted (grant_of h f)).1 (old.0 t), λ i. old.1 ((are.granted (grant_of h f)).0 i)) new
