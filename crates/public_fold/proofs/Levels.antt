-- A folder's level below the root, along parents, and its way up.
use Rattle.std.proofs.Common.{◌≡◌, ◌≢◌, ℕ, zero, suc, ◌≤◌, Bool, true, false, cond, not, ◌==◌, ◌⊎◌, List, [], ◌∷◌, ◌++◌, map, filter, length, Option, Some, None, inl, inr, ⊎_elim, refl, sym, ap, ◌∙◌, subst, arith}
use Rattle.std.specs.List.{find}
use Rattle.std.proofs.lemmas.Bool.{eqb-true, eq-eqb, ne_eqb, not_from_false, false≢true}
use Rattle.cry_base.specs.Sets.{In}
use Rattle.cry_base.specs.Store.{FolderEntry, and_above, way_up}
use Rattle.cry_base.proofs.Finding.{find-found, found-find}
use Rattle.cry_base.proofs.Members.{In-append, In-map, In-filter, filter-In}
use Rattle.public_fold.specs.Tree.{AreNumbered, AtLevel, LeadsUp}

-- what stands in a list with one more at its end
pub last_or : (X : Type 0) (e x : X) (xs : List X) → In e (xs ++ x ∷ []) → In e xs ⊎ (e ≡ x)
last_or X e x xs i = ⊎_elim (λ a. inl a) (λ b. ⊎_elim (λ s. inr s) (λ z. absurd z) b) ((In-append X e xs (x ∷ [])).0 i)

pub earlier : (X : Type 0) (e x : X) (xs : List X) → In e xs → In e (xs ++ x ∷ [])
earlier X e x xs i = (In-append X e xs (x ∷ [])).1 (inl i)

pub last_in : (X : Type 0) (x : X) (xs : List X) → In x (xs ++ x ∷ [])
last_in X x xs = (In-append X x xs (x ∷ [])).1 (inr (inl refl))

-- one more folder, of a number that none has, in a folder; and without one
pub numbered_more : (fs : List FolderEntry) (x : FolderEntry) → AreNumbered fs → ((e : FolderEntry) → In e fs → e.id ≢ x.id) → x.id ≢ 0 → x.parent ≢ 0 → AreNumbered (fs ++ x ∷ [])
numbered_more fs x ok fresh positive parent =
    let either = λ (e : FolderEntry) (i : In e (fs ++ x ∷ [])). last_or FolderEntry e x fs i in record {
      own = λ a b i j e. ⊎_elim
          (λ u. ⊎_elim (λ v. ok.own a b u v e) (λ q. absurd (fresh a u (e ∙ ap (λ (y : FolderEntry). y.id) q))) (either b j))
          (λ p. ⊎_elim (λ v. absurd (fresh b v (sym e ∙ ap (λ (y : FolderEntry). y.id) p))) (λ q. p ∙ sym q) (either b j))
          (either a i);
      no_zero = λ e i. ⊎_elim (λ u. ok.no_zero e u) (λ p. λ z. positive (sym (ap (λ (y : FolderEntry). y.id) p) ∙ z)) (either e i);
      one_root = λ e i z. ⊎_elim (λ u. ok.one_root e u z) (λ p. absurd (parent (sym (ap (λ (y : FolderEntry). y.parent) p) ∙ z))) (either e i);
    }

pub numbered_off : (fs : List FolderEntry) (f : ℕ) → AreNumbered fs → AreNumbered (filter (λ (e : FolderEntry). not (e.id == f)) fs)
numbered_off fs f ok =
    let was = λ (e : FolderEntry) (i : In e (filter (λ (e : FolderEntry). not (e.id == f)) fs)). In-filter FolderEntry (λ e. not (e.id == f)) e fs i in record {
      own = λ a b i j e. ok.own a b (was a i).0 (was b j).0 e;
      no_zero = λ e i. ok.no_zero e (was e i).0;
      one_root = λ e i. ok.one_root e (was e i).0;
    }

-- a folder at a level stands
pub level_stands : (n : ℕ) (fs : List FolderEntry) (f : ℕ) → AtLevel n fs f → (e : FolderEntry) × In e fs × (e.id ≡ f)
level_stands zero fs f l = (l.0, l.1, l.2)
level_stands (suc n) fs f l = (l.0, l.1, l.2)

pub level_positive : (n : ℕ) (fs : List FolderEntry) (f : ℕ) → AreNumbered fs → AtLevel n fs f → f ≢ 0
level_positive n fs f ok l = let w = level_stands n fs f l in λ z. ok.no_zero w.0 w.1 (w.2 ∙ z)

-- a folder stands at one level
pub one_level : (n m : ℕ) (fs : List FolderEntry) (f : ℕ) → AreNumbered fs → AtLevel n fs f → AtLevel m fs f → n ≡ m
one_level zero zero fs f ok a b = refl
one_level zero (suc m) fs f ok a b = absurd (b.3 (ap (λ (x : FolderEntry). x.parent) (ok.own b.0 a.0 b.1 a.1 (b.2 ∙ sym a.2)) ∙ a.3))
one_level (suc n) zero fs f ok a b = absurd (a.3 (ap (λ (x : FolderEntry). x.parent) (ok.own a.0 b.0 a.1 b.1 (a.2 ∙ sym b.2)) ∙ b.3))
one_level (suc n) (suc m) fs f ok a b =
    ap suc (one_level n m fs a.0.parent ok a.4 (subst (AtLevel m fs) (ap (λ (x : FolderEntry). x.parent) (ok.own b.0 a.0 b.1 a.1 (b.2 ∙ sym a.2))) b.4))

-- levels stay where folders come, or change in nothing but what is no number and no parent
pub level_more : (n : ℕ) (fs gs : List FolderEntry) (f : ℕ) → ((e : FolderEntry) → In e fs → In e gs) → AtLevel n fs f → AtLevel n gs f
level_more zero fs gs f more l = (l.0, more l.0 l.1, l.2, l.3)
level_more (suc n) fs gs f more l = (l.0, more l.0 l.1, l.2, l.3, level_more n fs gs l.0.parent more l.4)

pub level_map : (n : ℕ) (fs : List FolderEntry) (f : ℕ) (change : FolderEntry → FolderEntry) → ((e : FolderEntry) → (change e).id ≡ e.id) → ((e : FolderEntry) → (change e).parent ≡ e.parent) → AtLevel n fs f → AtLevel n (map change fs) f
level_map zero fs f change ids parents l =
    (change l.0, (In-map FolderEntry FolderEntry change (change l.0) fs).1 (l.0, l.1, refl), ids l.0 ∙ l.2, parents l.0 ∙ l.3)
level_map (suc n) fs f change ids parents l =
    (change l.0, (In-map FolderEntry FolderEntry change (change l.0) fs).1 (l.0, l.1, refl), ids l.0 ∙ l.2, (λ z. l.3 (sym (parents l.0) ∙ z)), subst (AtLevel n (map change fs)) (sym (parents l.0)) (level_map n fs l.0.parent change ids parents l.4))

-- without a folder that the way up doesn't go through
pub level_off : (n : ℕ) (fs : List FolderEntry) (f g : ℕ) → AtLevel n fs g → ((k : ℕ) → k ≤ n → AtLevel k fs f → ⊥) → AtLevel n (filter (λ (e : FolderEntry). not (e.id == f)) fs) g
level_off zero fs f g l off =
    (l.0, filter-In FolderEntry (λ e. not (e.id == f)) l.0 fs l.1 (not_from_false (l.0.id == f) (ne_eqb l.0.id f (λ h. off 0 (omega arith) (l.0, l.1, h, l.3)))), l.2, l.3)
level_off (suc n) fs f g l off = (
  l.0,
  filter-In FolderEntry (λ e. not (e.id == f)) l.0 fs l.1 (not_from_false (l.0.id == f) (ne_eqb l.0.id f (λ h. off (suc n) (omega arith) (l.0, l.1, h, l.3, l.4)))),
  l.2,
  l.3,
  level_off n fs f l.0.parent l.4 (λ k h. off k (let b : k ≤ n = h in omega arith)),
)

filter_no_longer : (X : Type 0) (p : X → Bool) (xs : List X) → length (filter p xs) ≤ length xs
filter_no_longer X p [] = omega arith
filter_no_longer X p (x ∷ xs) =
    let h : length (filter p xs) ≤ length xs = filter_no_longer X p xs in
    elim (p x) as (λ b. length (cond b (x ∷ filter p xs) (filter p xs)) ≤ suc (length xs)) [ true ↦ omega arith | false ↦ omega arith ]

pub filter_shorter : (X : Type 0) (p : X → Bool) (x : X) (xs : List X) → In x xs → p x ≡ false → suc (length (filter p xs)) ≤ length xs
filter_shorter X p x [] i = absurd i
filter_shorter X p x (y ∷ ys) i = λ t.
    (elim (p y) as (λ b. p y ≡ b → suc (length (cond b (y ∷ filter p ys) (filter p ys))) ≤ suc (length ys)) [
      | true ↦ λ s. ⊎_elim
          (λ (e : x ≡ y). absurd (false≢true (sym t ∙ ap p e ∙ s)))
          (λ r. let h : suc (length (filter p ys)) ≤ length ys = filter_shorter X p x ys r t in omega arith) i
      | false ↦ λ s. let h : length (filter p ys) ≤ length ys = filter_no_longer X p ys in omega arith
    ]) refl

in_some : (X : Type 0) (x : X) (xs : List X) → In x xs → 1 ≤ length xs
in_some X x [] i = absurd i
in_some X x (y ∷ ys) i = omega arith

-- there are more folders than levels
pub level_fits : (n : ℕ) (fs : List FolderEntry) (f : ℕ) → AreNumbered fs → AtLevel n fs f → suc n ≤ length fs
level_fits zero fs f ok l = in_some FolderEntry l.0 fs l.1
level_fits (suc n) fs f ok l =
    let gs : List FolderEntry = filter (λ (e : FolderEntry). not (e.id == f)) fs in
    let up = level_off n fs f l.0.parent l.4 (λ k h a. let same : k ≡ suc n = one_level k (suc n) fs f ok a l in let b : k ≤ n = h in absurd (omega arith)) in
    let above : suc n ≤ length gs = level_fits n gs l.0.parent (numbered_off fs f ok) up in
    let shorter : suc (length gs) ≤ length fs = filter_shorter FolderEntry (λ e. not (e.id == f)) l.0 fs l.1 (ap not (eq-eqb l.0.id f l.2)) in
    omega arith

-- the search by a number finds the one folder that has it
pub find_own : (fs : List FolderEntry) (e : FolderEntry) (f : ℕ) → AreNumbered fs → In e fs → e.id ≡ f → find (λ x. x.id == f) fs ≡ Some e
find_own fs e f ok i q =
    let w = found-find FolderEntry (λ x. x.id == f) e fs i (eq-eqb e.id f q) in
    let told = find-found FolderEntry (λ x. x.id == f) fs w.0 w.1 in
    w.1 ∙ ap (λ x. Some x) (ok.own w.0 e told.0 i (eqb-true w.0.id f told.1 ∙ sym q))

none_found : (fs : List FolderEntry) (f : ℕ) (o : Option FolderEntry) → find (λ x. x.id == f) fs ≡ o → ((e : FolderEntry) → In e fs → e.id ≢ f) → o ≡ None
none_found fs f None e other = refl
none_found fs f (Some a) e other = let told = find-found FolderEntry (λ x. x.id == f) fs a e in absurd (other a told.0 (eqb-true a.id f told.1))

-- no way up begins at number 0
way_zero : (m : ℕ) (fs : List FolderEntry) → AreNumbered fs → way_up m fs 0 ≡ []
unfolding way_up and_above
way_zero zero fs ok = refl
way_zero (suc m) fs ok =
    let up : FolderEntry → List FolderEntry = λ x. way_up m fs x.parent in
    ap (λ o. and_above o up) (none_found fs 0 (find (λ x. x.id == 0) fs) refl ok.no_zero)

pub way_on : (m : ℕ) (fs : List FolderEntry) (e : FolderEntry) (f : ℕ) → AreNumbered fs → In e fs → e.id ≡ f → way_up (suc m) fs f ≡ e ∷ way_up m fs e.parent
unfolding way_up and_above
way_on m fs e f ok i q =
    let up : FolderEntry → List FolderEntry = λ x. way_up m fs x.parent in
    ap (λ o. and_above o up) (find_own fs e f ok i q)

-- more than enough turns change nothing
pub way_same : (n m k : ℕ) (fs : List FolderEntry) (f : ℕ) → AreNumbered fs → AtLevel n fs f → suc n ≤ m → suc n ≤ k → way_up m fs f ≡ way_up k fs f
way_same n zero k fs f ok l a b = absurd (omega arith)
way_same n (suc m) zero fs f ok l a b = absurd (omega arith)
way_same zero (suc m) (suc k) fs f ok l a b =
    way_on m fs l.0 f ok l.1 l.2 ∙ ap (λ w. l.0 ∷ w) (ap (way_up m fs) l.3 ∙ way_zero m fs ok ∙ sym (way_zero k fs ok) ∙ ap (way_up k fs) (sym l.3)) ∙ sym (way_on k fs l.0 f ok l.1 l.2)
way_same (suc n) (suc m) (suc k) fs f ok l a b =
    way_on m fs l.0 f ok l.1 l.2 ∙ ap (λ w. l.0 ∷ w) (way_same n m k fs l.0.parent ok l.4 (omega arith) (omega arith)) ∙ sym (way_on k fs l.0 f ok l.1 l.2)

-- the way up from a folder without a parent, and from another
pub root_way : (fs : List FolderEntry) (f : ℕ) → AreNumbered fs → (l : AtLevel 0 fs f) → way_up (length fs) fs f ≡ l.0 ∷ []
root_way fs f ok l =
    let long : 1 ≤ length fs = level_fits 0 fs f ok l in
    way_same 0 (length fs) 1 fs f ok l long (omega arith) ∙ way_on 0 fs l.0 f ok l.1 l.2 ∙ ap (λ w. l.0 ∷ w) (ap (way_up 0 fs) l.3 ∙ way_zero 0 fs ok)

pub next_way : (n : ℕ) (fs : List FolderEntry) (f : ℕ) → AreNumbered fs → (l : AtLevel (suc n) fs f) → way_up (length fs) fs f ≡ l.0 ∷ way_up (length fs) fs l.0.parent
next_way n fs f ok l =
    let long : suc (suc n) ≤ length fs = level_fits (suc n) fs f ok l in
    way_same (suc n) (length fs) (suc (length fs)) fs f ok l long (omega arith) ∙ way_on (length fs) fs l.0 f ok l.1 l.2

leads_on : (e : FolderEntry) (w : List FolderEntry) (f : ℕ) → e.id ≡ f → e.parent ≢ 0 → LeadsUp w e.parent → LeadsUp (e ∷ w) f
leads_on e [] f q p r = absurd r
leads_on e (d ∷ ds) f q p r = (q, p, r)

way_told : (n : ℕ) (fs : List FolderEntry) (f : ℕ) → AreNumbered fs → AtLevel n fs f → LeadsUp (way_up (length fs) fs f) f × (length (way_up (length fs) fs f) ≡ suc n)
way_told zero fs f ok l =
    subst (λ w. LeadsUp w f × (length w ≡ 1)) (sym (root_way fs f ok l)) ((l.2, sym l.2 ∙ ok.one_root l.0 l.1 l.3, l.3), refl)
way_told (suc n) fs f ok l =
    let up = way_told n fs l.0.parent ok l.4 in
    subst (λ w. LeadsUp w f × (length w ≡ suc (suc n))) (sym (next_way n fs f ok l))
    (leads_on l.0 (way_up (length fs) fs l.0.parent) f l.2 l.3 up.0, ap suc up.1)

pub way_leads : (n : ℕ) (fs : List FolderEntry) (f : ℕ) → AreNumbered fs → AtLevel n fs f → LeadsUp (way_up (length fs) fs f) f
way_leads n fs f ok l = (way_told n fs f ok l).0

pub way_length : (n : ℕ) (fs : List FolderEntry) (f : ℕ) → AreNumbered fs → AtLevel n fs f → length (way_up (length fs) fs f) ≡ suc n
way_length n fs f ok l = (way_told n fs f ok l).1
