-- A tree stays one when a folder or a file comes, goes or changes.
use Rattle.std.proofs.Common.{◌≡◌, ◌≢◌, ℕ, zero, suc, ◌≤◌, Bool, true, false, cond, not, ◌==◌, ◌⊎◌, List, [], ◌∷◌, ◌++◌, map, filter, inl, inr, ⊎_elim, refl, sym, ap, ◌∙◌, subst}
use Rattle.std.proofs.lemmas.Bool.{eqb-true, eqb-false, ne_eqb, not_from_false, not-true}
use Rattle.cry_base.specs.Sets.{In}
use Rattle.cry_base.specs.Naming.{is_name}
use Rattle.cry_base.specs.Store.{FolderEntry, FileEntry}
use Rattle.cry_base.proofs.Members.{In-map, In-filter, filter-In}
use Rattle.public_fold.specs.Tree.{AtLevel}
use Rattle.public_fold.proofs.Levels.{last_or, earlier, last_in, numbered_more, numbered_off, level_positive, level_more}
use Rattle.public_fold.proofs.Treeing.{IsTree}

-- a new folder, of a number that no folder has, in a folder that doesn't hold its name
pub new_folder : (fs : List FolderEntry) (xs : List FileEntry) (x : FolderEntry) (k : ℕ) → IsTree fs xs → ((e : FolderEntry) → In e fs → e.id ≢ x.id) → x.id ≢ 0 → AtLevel k fs x.parent → suc k ≤ 64
    → ((a : FolderEntry) → In a fs → a.parent ≡ x.parent → a.name ≡ x.name → ⊥) → ((b : FileEntry) → In b xs → b.folder ≡ x.parent → b.name ≡ x.name → ⊥) → is_name x.name ≡ true → IsTree (fs ++ x ∷ []) xs
new_folder fs xs x k ok fresh positive at below free_folder free_file named =
    let parent = level_positive k fs x.parent ok.numbered at in
    let more = λ (e : FolderEntry) (i : In e fs). earlier FolderEntry e x fs i in
    let either = λ (e : FolderEntry) (i : In e (fs ++ x ∷ [])). last_or FolderEntry e x fs i in record {
      numbered = numbered_more fs x ok.numbered fresh positive parent;
      own_file = ok.own_file;
      root_stands = level_more 0 fs (fs ++ x ∷ []) 1 more ok.root_stands;
      folder_level = λ e i. ⊎_elim
          (λ u. let l = ok.folder_level e u in (l.0, level_more l.0 fs (fs ++ x ∷ []) e.id more l.1, l.2))
          (λ p. (suc k, (x, last_in FolderEntry x fs, sym (ap (λ (y : FolderEntry). y.id) p), parent, level_more k fs (fs ++ x ∷ []) x.parent more at), below))
          (either e i);
      file_level = λ b j. let l = ok.file_level b j in (l.0, level_more l.0 fs (fs ++ x ∷ []) b.folder more l.1, l.2);
      two_folders = λ a b i j p n. ⊎_elim
          (λ u. ⊎_elim (λ v. ok.two_folders a b u v p n) (λ q. absurd (free_folder a u (p ∙ ap (λ (y : FolderEntry). y.parent) q) (n ∙ ap (λ (y : FolderEntry). y.name) q))) (either b j))
          (λ r. ⊎_elim (λ v. absurd (free_folder b v (sym p ∙ ap (λ (y : FolderEntry). y.parent) r) (sym n ∙ ap (λ (y : FolderEntry). y.name) r))) (λ q. ap (λ (y : FolderEntry). y.id) (r ∙ sym q)) (either b j))
          (either a i);
      two_files = ok.two_files;
      folder_and_file = λ a b i j p n. ⊎_elim
          (λ u. ok.folder_and_file a b u j p n)
          (λ r. free_file b j (sym p ∙ ap (λ (y : FolderEntry). y.parent) r) (sym n ∙ ap (λ (y : FolderEntry). y.name) r))
          (either a i);
      folder_name = λ a i p. ⊎_elim (λ u. ok.folder_name a u p) (λ r. ap (λ (y : FolderEntry). is_name y.name) r ∙ named) (either a i);
      file_name = ok.file_name;
    }

-- a new file
pub new_file : (fs : List FolderEntry) (xs : List FileEntry) (x : FileEntry) (k : ℕ) → IsTree fs xs → ((e : FileEntry) → In e xs → e.id ≢ x.id) → AtLevel k fs x.folder → suc k ≤ 64
    → ((a : FolderEntry) → In a fs → a.parent ≡ x.folder → a.name ≡ x.name → ⊥) → ((b : FileEntry) → In b xs → b.folder ≡ x.folder → b.name ≡ x.name → ⊥) → is_name x.name ≡ true → IsTree fs (xs ++ x ∷ [])
new_file fs xs x k ok fresh at below free_folder free_file named =
    let either = λ (e : FileEntry) (i : In e (xs ++ x ∷ [])). last_or FileEntry e x xs i in record {
      numbered = ok.numbered;
      own_file = λ a b i j e. ⊎_elim
          (λ u. ⊎_elim (λ v. ok.own_file a b u v e) (λ q. absurd (fresh a u (e ∙ ap (λ (y : FileEntry). y.id) q))) (either b j))
          (λ p. ⊎_elim (λ v. absurd (fresh b v (sym e ∙ ap (λ (y : FileEntry). y.id) p))) (λ q. p ∙ sym q) (either b j))
          (either a i);
      root_stands = ok.root_stands;
      folder_level = ok.folder_level;
      file_level = λ b j. ⊎_elim (λ v. ok.file_level b v) (λ q. (k, subst (AtLevel k fs) (sym (ap (λ (y : FileEntry). y.folder) q)) at, below)) (either b j);
      two_folders = ok.two_folders;
      two_files = λ a b i j p n. ⊎_elim
          (λ u. ⊎_elim (λ v. ok.two_files a b u v p n) (λ q. absurd (free_file a u (p ∙ ap (λ (y : FileEntry). y.folder) q) (n ∙ ap (λ (y : FileEntry). y.name) q))) (either b j))
          (λ r. ⊎_elim (λ v. absurd (free_file b v (sym p ∙ ap (λ (y : FileEntry). y.folder) r) (sym n ∙ ap (λ (y : FileEntry). y.name) r))) (λ q. ap (λ (y : FileEntry). y.id) (r ∙ sym q)) (either b j))
          (either a i);
      folder_and_file = λ a b i j p n. ⊎_elim
          (λ v. ok.folder_and_file a b i v p n)
          (λ r. free_folder a i (p ∙ ap (λ (y : FileEntry). y.folder) r) (n ∙ ap (λ (y : FileEntry). y.name) r))
          (either b j);
      folder_name = ok.folder_name;
      file_name = λ b j. ⊎_elim (λ v. ok.file_name b v) (λ r. ap (λ (y : FileEntry). is_name y.name) r ∙ named) (either b j);
    }

-- a level doesn't hang on a folder that has no child
pub childless_level : (n : ℕ) (fs : List FolderEntry) (f g : ℕ) → ((a : FolderEntry) → In a fs → a.parent ≢ f) → g ≢ f → AtLevel n fs g → AtLevel n (filter (λ (e : FolderEntry). not (e.id == f)) fs) g
childless_level zero fs f g childless other l =
    (l.0, filter-In FolderEntry (λ e. not (e.id == f)) l.0 fs l.1 (not_from_false (l.0.id == f) (ne_eqb l.0.id f (λ h. other (sym l.2 ∙ h)))), l.2, l.3)
childless_level (suc n) fs f g childless other l = (
  l.0,
  filter-In FolderEntry (λ e. not (e.id == f)) l.0 fs l.1 (not_from_false (l.0.id == f) (ne_eqb l.0.id f (λ h. other (sym l.2 ∙ h)))),
  l.2,
  l.3,
  childless_level n fs f l.0.parent childless (childless l.0 l.1) l.4,
)

-- without a folder that has no child and isn't the root
pub no_folder : (fs : List FolderEntry) (xs : List FileEntry) (f : ℕ) → IsTree fs xs → f ≢ 1 → ((a : FolderEntry) → In a fs → a.parent ≢ f) → ((b : FileEntry) → In b xs → b.folder ≢ f) → IsTree (filter (λ (e : FolderEntry). not (e.id == f)) fs) xs
no_folder fs xs f ok other no_child no_inner =
    let was = λ (e : FolderEntry) (i : In e (filter (λ (e : FolderEntry). not (e.id == f)) fs)). In-filter FolderEntry (λ e. not (e.id == f)) e fs i in record {
      numbered = numbered_off fs f ok.numbered;
      own_file = ok.own_file;
      root_stands = childless_level 0 fs f 1 no_child (λ z. other (sym z)) ok.root_stands;
      folder_level = λ e i. let w = was e i in let l = ok.folder_level e w.0 in
          (l.0, childless_level l.0 fs f e.id no_child (eqb-false e.id f (not-true (e.id == f) w.1)) l.1, l.2);
      file_level = λ b j. let l = ok.file_level b j in (l.0, childless_level l.0 fs f b.folder no_child (no_inner b j) l.1, l.2);
      two_folders = λ a b i j. ok.two_folders a b (was a i).0 (was b j).0;
      two_files = ok.two_files;
      folder_and_file = λ a b i j. ok.folder_and_file a b (was a i).0 j;
      folder_name = λ a i. ok.folder_name a (was a i).0;
      file_name = ok.file_name;
    }

-- without a file
pub no_file : (fs : List FolderEntry) (xs : List FileEntry) (p : FileEntry → Bool) → IsTree fs xs → IsTree fs (filter p xs)
no_file fs xs p ok =
    let was = λ (e : FileEntry) (i : In e (filter p xs)). In-filter FileEntry p e xs i in record {
      numbered = ok.numbered;
      own_file = λ a b i j e. ok.own_file a b (was a i).0 (was b j).0 e;
      root_stands = ok.root_stands;
      folder_level = ok.folder_level;
      file_level = λ b j. ok.file_level b (was b j).0;
      two_folders = ok.two_folders;
      two_files = λ a b i j. ok.two_files a b (was a i).0 (was b j).0;
      folder_and_file = λ a b i j. ok.folder_and_file a b i (was b j).0;
      folder_name = ok.folder_name;
      file_name = λ b j. ok.file_name b (was b j).0;
    }

-- one file changed, but for its number: it stands where a new one might
module _ (fs : List FolderEntry) (xs : List FileEntry) (x : ℕ) (change : FileEntry → FileEntry) (ids : (e : FileEntry) → (change e).id ≡ e.id) where
  other_file : FileEntry → FileEntry
  other_file e = cond (e.id == x) (change e) e

  -- which of the two it is
  file_cases : (e : FileEntry) → ((e.id ≡ x) × (other_file e ≡ change e)) ⊎ ((e.id ≢ x) × (other_file e ≡ e))
  unfolding other_file
  file_cases e = (elim (e.id == x) as (λ t. e.id == x ≡ t → ((e.id ≡ x) × (cond t (change e) e ≡ change e)) ⊎ ((e.id ≢ x) × (cond t (change e) e ≡ e))) [
    | true ↦ λ h. inl (eqb-true e.id x h, refl)
    | false ↦ λ h. inr (eqb-false e.id x h, refl)
  ]) refl

  other_id : (e : FileEntry) → (other_file e).id ≡ e.id
  other_id e = ⊎_elim (λ w. ap (λ (y : FileEntry). y.id) w.1 ∙ ids e) (λ w. ap (λ (y : FileEntry). y.id) w.1) (file_cases e)

  pub file_changed : IsTree fs xs
      → ((e : FileEntry) → In e xs → e.id ≡ x → (k : ℕ) × AtLevel k fs (change e).folder × (suc k ≤ 64))
      → ((e : FileEntry) → In e xs → e.id ≡ x → is_name (change e).name ≡ true)
      → ((e : FileEntry) → In e xs → e.id ≡ x → (a : FolderEntry) → In a fs → a.parent ≡ (change e).folder → a.name ≡ (change e).name → ⊥)
      → ((e : FileEntry) → In e xs → e.id ≡ x → (b : FileEntry) → In b xs → b.id ≢ x → b.folder ≡ (change e).folder → b.name ≡ (change e).name → ⊥)
      → IsTree fs (map (λ e. cond (e.id == x) (change e) e) xs)
  unfolding other_file
  file_changed ok level named free_folder free_file =
      let was = λ (e : FileEntry) (i : In e (map (λ (e : FileEntry). cond (e.id == x) (change e) e) xs)). (In-map FileEntry FileEntry (λ e. cond (e.id == x) (change e) e) e xs).0 i in record {
        numbered = ok.numbered;
        own_file = λ a b i j e. let u = was a i in let v = was b j in
            u.2 ∙ ap (λ (y : FileEntry). cond (y.id == x) (change y) y) (ok.own_file u.0 v.0 u.1 v.1 (sym (other_id u.0) ∙ sym (ap (λ (y : FileEntry). y.id) u.2) ∙ e ∙ ap (λ (y : FileEntry). y.id) v.2 ∙ other_id v.0)) ∙ sym v.2;
        root_stands = ok.root_stands;
        folder_level = ok.folder_level;
        file_level = λ b j. let v = was b j in subst (λ (y : FileEntry). (n : ℕ) × AtLevel n fs y.folder × (suc n ≤ 64)) (sym v.2)
            (⊎_elim (λ w. subst (λ (y : FileEntry). (n : ℕ) × AtLevel n fs y.folder × (suc n ≤ 64)) (sym w.1) (level v.0 v.1 w.0))
            (λ w. subst (λ (y : FileEntry). (n : ℕ) × AtLevel n fs y.folder × (suc n ≤ 64)) (sym w.1) (ok.file_level v.0 v.1)) (file_cases v.0));
        two_folders = ok.two_folders;
        two_files = λ a b i j p n. let u = was a i in let v = was b j in
            let place = λ (y z : FileEntry) (s : y ≡ z). ap (λ (e : FileEntry). e.folder) s in
            let name = λ (y z : FileEntry) (s : y ≡ z). ap (λ (e : FileEntry). e.name) s in
            ap (λ (y : FileEntry). y.id) u.2 ∙ other_id u.0 ∙ ⊎_elim
            (λ c. ⊎_elim
            (λ d. c.0 ∙ sym d.0)
            (λ d. absurd (free_file u.0 u.1 c.0 v.0 v.1 d.0 (sym (place b v.0 (v.2 ∙ d.1)) ∙ sym p ∙ place a (change u.0) (u.2 ∙ c.1)) (sym (name b v.0 (v.2 ∙ d.1)) ∙ sym n ∙ name a (change u.0) (u.2 ∙ c.1))))
            (file_cases v.0))
            (λ c. ⊎_elim
            (λ d. absurd (free_file v.0 v.1 d.0 u.0 u.1 c.0 (sym (place a u.0 (u.2 ∙ c.1)) ∙ p ∙ place b (change v.0) (v.2 ∙ d.1)) (sym (name a u.0 (u.2 ∙ c.1)) ∙ n ∙ name b (change v.0) (v.2 ∙ d.1))))
            (λ d. ok.two_files u.0 v.0 u.1 v.1 (sym (place a u.0 (u.2 ∙ c.1)) ∙ p ∙ place b v.0 (v.2 ∙ d.1)) (sym (name a u.0 (u.2 ∙ c.1)) ∙ n ∙ name b v.0 (v.2 ∙ d.1)))
            (file_cases v.0))
            (file_cases u.0) ∙ sym (other_id v.0) ∙ sym (ap (λ (y : FileEntry). y.id) v.2);
        folder_and_file = λ a b i j p n. let v = was b j in ⊎_elim
            (λ d. free_folder v.0 v.1 d.0 a i (p ∙ ap (λ (y : FileEntry). y.folder) (v.2 ∙ d.1)) (n ∙ ap (λ (y : FileEntry). y.name) (v.2 ∙ d.1)))
            (λ d. ok.folder_and_file a v.0 i v.1 (p ∙ ap (λ (y : FileEntry). y.folder) (v.2 ∙ d.1)) (n ∙ ap (λ (y : FileEntry). y.name) (v.2 ∙ d.1)))
            (file_cases v.0);
        folder_name = ok.folder_name;
        file_name = λ b j. let v = was b j in ⊎_elim
            (λ d. ap (λ (y : FileEntry). is_name y.name) (v.2 ∙ d.1) ∙ named v.0 v.1 d.0)
            (λ d. ap (λ (y : FileEntry). is_name y.name) (v.2 ∙ d.1) ∙ ok.file_name v.0 v.1)
            (file_cases v.0);
      }
