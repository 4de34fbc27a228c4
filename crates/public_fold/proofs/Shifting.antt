-- A tree stays one when a folder is renamed or moved.
use Rattle.std.proofs.Common.{◌≡◌, ◌≢◌, ℕ, zero, suc, ◌+◌, ◌≤◌, Bool, true, false, cond, ◌==◌, ◌||◌, ◌⊎◌, List, map, length, inl, inr, ⊎_elim, refl, sym, ap, ◌∙◌, subst, arith}
use Rattle.std.specs.List.{list_any}
use Rattle.std.proofs.lemmas.Bool.{eqb-true, eqb-false, false≢true, or_cases, or_parts}
use Rattle.cry_base.specs.Sets.{In}
use Rattle.cry_base.specs.Naming.{is_name}
use Rattle.cry_base.specs.Store.{FolderEntry, FileEntry, way_up}
use Rattle.cry_base.proofs.Members.{In-map}
use Rattle.public_fold.specs.Tree.{AreNumbered, AtLevel}
use Rattle.public_fold.proofs.Levels.{level_map, one_level, root_way, next_way}
use Rattle.public_fold.proofs.Treeing.{IsTree}

-- one folder is changed, or stays as it is
pub folder_cases : (f : ℕ) (change : FolderEntry → FolderEntry) (e : FolderEntry) → ((e.id ≡ f) × (cond (e.id == f) (change e) e ≡ change e)) ⊎ ((e.id ≢ f) × (cond (e.id == f) (change e) e ≡ e))
folder_cases f change e = (elim (e.id == f) as (λ t. e.id == f ≡ t → ((e.id ≡ f) × (cond t (change e) e ≡ change e)) ⊎ ((e.id ≢ f) × (cond t (change e) e ≡ e))) [
  | true ↦ λ h. inl (eqb-true e.id f h, refl)
  | false ↦ λ h. inr (eqb-false e.id f h, refl)
]) refl

-- the levels of folders and files, and the root's, are given
module _ (fs : List FolderEntry) (xs : List FileEntry) (f : ℕ) (change : FolderEntry → FolderEntry) (ids : (e : FolderEntry) → (change e).id ≡ e.id) where
  other_id : (e : FolderEntry) → (cond (e.id == f) (change e) e).id ≡ e.id
  other_id e = ⊎_elim (λ w. ap (λ (y : FolderEntry). y.id) w.1 ∙ ids e) (λ w. ap (λ (y : FolderEntry). y.id) w.1) (folder_cases f change e)

  pub numbered_changed : AreNumbered fs → ((e : FolderEntry) → In e fs → e.id ≡ f → (change e).parent ≡ 0 → e.parent ≡ 0) → AreNumbered (map (λ e. cond (e.id == f) (change e) e) fs)
  numbered_changed ok roots =
      let was = λ (e : FolderEntry) (i : In e (map (λ (e : FolderEntry). cond (e.id == f) (change e) e) fs)). (In-map FolderEntry FolderEntry (λ e. cond (e.id == f) (change e) e) e fs).0 i in
      let parent = λ (y z : FolderEntry) (s : y ≡ z). ap (λ (e : FolderEntry). e.parent) s in
      let id = λ (e u : FolderEntry) (s : e ≡ cond (u.id == f) (change u) u). ap (λ (y : FolderEntry). y.id) s ∙ other_id u in record {
        own = λ a b i j e. let u = was a i in let v = was b j in
            u.2 ∙ ap (λ (y : FolderEntry). cond (y.id == f) (change y) y) (ok.own u.0 v.0 u.1 v.1 (sym (id a u.0 u.2) ∙ e ∙ id b v.0 v.2)) ∙ sym v.2;
        no_zero = λ e i. let u = was e i in λ z. ok.no_zero u.0 u.1 (sym (id e u.0 u.2) ∙ z);
        one_root = λ e i z. let u = was e i in id e u.0 u.2 ∙ ok.one_root u.0 u.1
            (⊎_elim (λ c. roots u.0 u.1 c.0 (sym (parent e (change u.0) (u.2 ∙ c.1)) ∙ z)) (λ c. sym (parent e u.0 (u.2 ∙ c.1)) ∙ z) (folder_cases f change u.0));
      }

  pub folder_changed : IsTree fs xs
      → AtLevel 0 (map (λ e. cond (e.id == f) (change e) e) fs) 1
      → ((e : FolderEntry) → In e fs → (n : ℕ) × AtLevel n (map (λ e. cond (e.id == f) (change e) e) fs) e.id × (n ≤ 64))
      → ((b : FileEntry) → In b xs → (n : ℕ) × AtLevel n (map (λ e. cond (e.id == f) (change e) e) fs) b.folder × (suc n ≤ 64))
      → ((e : FolderEntry) → In e fs → e.id ≡ f → (change e).parent ≡ 0 → e.parent ≡ 0)
      → ((e : FolderEntry) → In e fs → e.id ≡ f → (change e).parent ≢ 0 → is_name (change e).name ≡ true)
      → ((e : FolderEntry) → In e fs → e.id ≡ f → (a : FolderEntry) → In a fs → a.id ≢ f → a.parent ≡ (change e).parent → a.name ≡ (change e).name → ⊥)
      → ((e : FolderEntry) → In e fs → e.id ≡ f → (b : FileEntry) → In b xs → b.folder ≡ (change e).parent → b.name ≡ (change e).name → ⊥)
      → IsTree (map (λ e. cond (e.id == f) (change e) e) fs) xs
  folder_changed ok root levels file_levels roots named free_folder free_file =
      let place = λ (y z : FolderEntry) (s : y ≡ z). ap (λ (e : FolderEntry). e.parent) s in
      let name = λ (y z : FolderEntry) (s : y ≡ z). ap (λ (e : FolderEntry). e.name) s in
      let was = λ (e : FolderEntry) (i : In e (map (λ (e : FolderEntry). cond (e.id == f) (change e) e) fs)). (In-map FolderEntry FolderEntry (λ e. cond (e.id == f) (change e) e) e fs).0 i in
      let id = λ (e u : FolderEntry) (s : e ≡ cond (u.id == f) (change u) u). ap (λ (y : FolderEntry). y.id) s ∙ other_id u in record {
        numbered = numbered_changed ok.numbered roots;
        own_file = ok.own_file;
        root_stands = root;
        folder_level = λ e i. let u = was e i in subst (λ g. (n : ℕ) × AtLevel n (map (λ (e : FolderEntry). cond (e.id == f) (change e) e) fs) g × (n ≤ 64)) (sym (id e u.0 u.2)) (levels u.0 u.1);
        file_level = file_levels;
        two_folders = λ a b i j p n. let u = was a i in let v = was b j in
            id a u.0 u.2 ∙ ⊎_elim
            (λ c. ⊎_elim
            (λ d. c.0 ∙ sym d.0)
            (λ d. absurd (free_folder u.0 u.1 c.0 v.0 v.1 d.0 (sym (place b v.0 (v.2 ∙ d.1)) ∙ sym p ∙ place a (change u.0) (u.2 ∙ c.1)) (sym (name b v.0 (v.2 ∙ d.1)) ∙ sym n ∙ name a (change u.0) (u.2 ∙ c.1))))
            (folder_cases f change v.0))
            (λ c. ⊎_elim
            (λ d. absurd (free_folder v.0 v.1 d.0 u.0 u.1 c.0 (sym (place a u.0 (u.2 ∙ c.1)) ∙ p ∙ place b (change v.0) (v.2 ∙ d.1)) (sym (name a u.0 (u.2 ∙ c.1)) ∙ n ∙ name b (change v.0) (v.2 ∙ d.1))))
            (λ d. ok.two_folders u.0 v.0 u.1 v.1 (sym (place a u.0 (u.2 ∙ c.1)) ∙ p ∙ place b v.0 (v.2 ∙ d.1)) (sym (name a u.0 (u.2 ∙ c.1)) ∙ n ∙ name b v.0 (v.2 ∙ d.1)))
            (folder_cases f change v.0))
            (folder_cases f change u.0) ∙ sym (id b v.0 v.2);
        two_files = ok.two_files;
        folder_and_file = λ a b i j p n. let u = was a i in ⊎_elim
            (λ c. free_file u.0 u.1 c.0 b j (sym p ∙ place a (change u.0) (u.2 ∙ c.1)) (sym n ∙ name a (change u.0) (u.2 ∙ c.1)))
            (λ c. ok.folder_and_file u.0 b u.1 j (sym (place a u.0 (u.2 ∙ c.1)) ∙ p) (sym (name a u.0 (u.2 ∙ c.1)) ∙ n))
            (folder_cases f change u.0);
        folder_name = λ a i p. let u = was a i in ⊎_elim
            (λ c. ap (λ (y : FolderEntry). is_name y.name) (u.2 ∙ c.1) ∙ named u.0 u.1 c.0 (λ z. p (place a (change u.0) (u.2 ∙ c.1) ∙ z)))
            (λ c. ap (λ (y : FolderEntry). is_name y.name) (u.2 ∙ c.1) ∙ ok.folder_name u.0 u.1 (λ z. p (place a u.0 (u.2 ∙ c.1) ∙ z)))
            (folder_cases f change u.0);
        file_name = ok.file_name;
      }

-- another name leaves all levels
pub renamed : (fs : List FolderEntry) (xs : List FileEntry) (f : ℕ) (name : List ℕ) → IsTree fs xs → is_name name ≡ true
    → ((e : FolderEntry) → In e fs → e.id ≡ f → (a : FolderEntry) → In a fs → a.parent ≡ e.parent → a.name ≡ name → ⊥)
    → ((e : FolderEntry) → In e fs → e.id ≡ f → (b : FileEntry) → In b xs → b.folder ≡ e.parent → b.name ≡ name → ⊥)
    → IsTree (map (λ (e : FolderEntry). cond (e.id == f) (record e { name = name }) e) fs) xs
renamed fs xs f name ok named free_folder free_file =
    let change : FolderEntry → FolderEntry = λ e. record e { name = name } in
    let ids : (e : FolderEntry) → (cond (e.id == f) (change e) e).id ≡ e.id = λ e. ⊎_elim (λ w. ap (λ (y : FolderEntry). y.id) w.1) (λ w. ap (λ (y : FolderEntry). y.id) w.1) (folder_cases f change e) in
    let parents : (e : FolderEntry) → (cond (e.id == f) (change e) e).parent ≡ e.parent = λ e. ⊎_elim (λ w. ap (λ (y : FolderEntry). y.parent) w.1) (λ w. ap (λ (y : FolderEntry). y.parent) w.1) (folder_cases f change e) in
    folder_changed fs xs f change (λ e. refl) ok
    (level_map 0 fs 1 (λ e. cond (e.id == f) (change e) e) ids parents ok.root_stands)
    (λ e i. let l = ok.folder_level e i in (l.0, level_map l.0 fs e.id (λ e. cond (e.id == f) (change e) e) ids parents l.1, l.2))
    (λ b j. let l = ok.file_level b j in (l.0, level_map l.0 fs b.folder (λ e. cond (e.id == f) (change e) e) ids parents l.1, l.2))
    (λ e i q z. z)
    (λ e i q p. named)
    (λ e i q a j other p n. free_folder e i q a j p n)
    (λ e i q b j p n. free_file e i q b j p n)

-- whether the way up from g goes through f
abbrev pub goes_through : List FolderEntry → ℕ → ℕ → Bool
goes_through fs g f = list_any (λ (e : FolderEntry). e.id == f) (way_up (length fs) fs g)

pub root_through : (fs : List FolderEntry) (f g : ℕ) → AreNumbered fs → (l : AtLevel 0 fs g) → goes_through fs g f ≡ (l.0.id == f || false)
root_through fs f g ok l = ap (list_any (λ (e : FolderEntry). e.id == f)) (root_way fs g ok l)

pub next_through : (n : ℕ) (fs : List FolderEntry) (f g : ℕ) → AreNumbered fs → (l : AtLevel (suc n) fs g) → goes_through fs g f ≡ (l.0.id == f || goes_through fs l.0.parent f)
next_through n fs f g ok l = ap (list_any (λ (e : FolderEntry). e.id == f)) (next_way n fs g ok l)

-- the folder f is put into q
module _ (fs : List FolderEntry) (f q : ℕ) where
  abbrev put : FolderEntry → FolderEntry
  put e = record e { parent = q }

  abbrev shifted : List FolderEntry
  shifted = map (λ (e : FolderEntry). cond (e.id == f) (put e) e) fs

  kept_in : (e : FolderEntry) → In e fs → e.id ≢ f → In e shifted
  kept_in e i other = (In-map FolderEntry FolderEntry (λ e. cond (e.id == f) (put e) e) e fs).1
      (e, i, ⊎_elim (λ w. absurd (other w.0)) (λ w. sym w.1) (folder_cases f put e))

  put_in : (e : FolderEntry) → In e fs → e.id ≡ f → In (put e) shifted
  put_in e i same = (In-map FolderEntry FolderEntry (λ e. cond (e.id == f) (put e) e) (put e) fs).1
      (e, i, ⊎_elim (λ w. sym w.1) (λ w. absurd (w.0 same)) (folder_cases f put e))

  -- what isn't below f stays at its level
  pub stays : (n : ℕ) (g : ℕ) → AreNumbered fs → AtLevel n fs g → goes_through fs g f ≡ false → AtLevel n shifted g
  stays zero g ok l t =
      let parts = or_parts (l.0.id == f) false (sym (root_through fs f g ok l) ∙ t) in
      (l.0, kept_in l.0 l.1 (eqb-false l.0.id f parts.0), l.2, l.3)
  stays (suc n) g ok l t =
      let parts = or_parts (l.0.id == f) (goes_through fs l.0.parent f) (sym (next_through n fs f g ok l) ∙ t) in
      (l.0, kept_in l.0 l.1 (eqb-false l.0.id f parts.0), l.2, l.3, stays n l.0.parent ok l.4 parts.1)

  -- f itself comes below q
  lands : (n m k : ℕ) (g : ℕ) → AreNumbered fs → q ≢ 0 → AtLevel n fs g → AtLevel m fs f → AtLevel k shifted q → (e : FolderEntry) → In e fs → e.id ≡ g → e.id ≡ f → (j : ℕ) × AtLevel j shifted g × (j + m ≡ n + suc k)
  lands n m k g ok some l at below e i same here =
      let level : n ≡ m = one_level n m fs f ok (subst (AtLevel n fs) (sym same ∙ here) l) at in
      (suc k, (put e, put_in e i here, same, some, below), omega arith)

  -- what is below f comes as far below q
  pub goes : (n m k : ℕ) (g : ℕ) → AreNumbered fs → q ≢ 0 → AtLevel n fs g → AtLevel m fs f → AtLevel k shifted q → goes_through fs g f ≡ true → (j : ℕ) × AtLevel j shifted g × (j + m ≡ n + suc k)
  goes zero m k g ok some l at below t = ⊎_elim
      (λ h. lands zero m k g ok some l at below l.0 l.1 l.2 (eqb-true l.0.id f h))
      (λ h. absurd (false≢true h))
      (or_cases (l.0.id == f) false (sym (root_through fs f g ok l) ∙ t))
  goes (suc n) m k g ok some l at below t =
      let further = λ (o : l.0.id ≢ f) (h : goes_through fs l.0.parent f ≡ true).
      let up = goes n m k l.0.parent ok some l.4 at below h in
      let sum : up.0 + m ≡ n + suc k = up.2 in
      let told : (j : ℕ) × AtLevel j shifted g × (j + m ≡ suc n + suc k) = (suc up.0, (l.0, kept_in l.0 l.1 o, l.2, l.3, up.1), omega arith) in told in
      ⊎_elim
      (λ w. lands (suc n) m k g ok some l at below l.0 l.1 l.2 w.0)
      (λ w. ⊎_elim
      (λ h. absurd (w.0 (eqb-true l.0.id f h)))
      (λ h. further w.0 h)
      (or_cases (l.0.id == f) (goes_through fs l.0.parent f) (sym (next_through n fs f g ok l) ∙ t)))
      (folder_cases f put l.0)
