-- What a drawn line does to a store that stands.
use Rattle.std.proofs.Common.{◌≡◌, ◌≢◌, ℕ, ◌+◌, ◌*◌, ◌<◌, Bool, true, false, cond, not, ◌&&◌, ◌||◌, List, [], ◌∷◌, ◌++◌, length, filter, set, get_or, Option, Some, None, refl, ap, sym, ◌∙◌, subst, inl, inr, ⊎_elim, get_or-set_same, get_or-set_other, arith}
use Rattle.std.specs.Prelude.{◌==◌}
use Rattle.std.specs.List.{list_any}
use Rattle.std.proofs.lemmas.Bool.{eqb-true, eq-eqb, false≢true, and_parts, and_from, or_left, or_right, or_from, not_from_false, cases_eq, false_from_ne_true}
use Rattle.std.proofs.lemmas.List.Folds.{list_any-append}
use Rattle.std.proofs.lemmas.Map.Views.{any-filter_same}
use Rattle.std.proofs.Math.ListN.{length-set}
use Rattle.cry_base.specs.Naming.{parent_path, names_of, last_name}
use Rattle.cry_base.specs.Sets.{In}
use Rattle.cry_base.specs.Requests.Request.{WriteFile, Relocate, Grant, Revoke}
use Rattle.cry_base.specs.Refusing.{granted_id, id_of}
use Rattle.cry_base.specs.Stepping.{with_new_file, with_file, with_bytes_at, moved, without_grant, effect}
use Rattle.cry_base.specs.Store.{Store, FileEntry, GrantEntry, folder_node, file_node, has_grant, holder_entry, node_at}
use Rattle.cry_base.specs.declared.roles.Node.{Node}
use Rattle.cry_base.specs.declared.roles.Node.TheVariants.{Folder, File}
use Rattle.cry_base.proofs.Members.{In-append, In-map}
use Rattle.store_gen.specs.Rule.{IsReady, folder_path, written_path, moved_path, home_of, has_granted, with_grant, with_home}
use Rattle.store_gen.specs.Standing.{IsWritten, IsFile, Stands}
use Rattle.store_gen.specs.declared.generator.Generator.{Generator}
use Rattle.store_gen.proofs.Folders.{folder_found, file_parent, file_last, written_name}
use Rattle.store_gen.proofs.Files.{moved_found}

or_false : (x y : Bool) → y ≡ false → (x || y) ≡ x
or_false true y is = refl
or_false false y is = is

-- a store whose files alone are changed, one by one, by what changes no number
files_changed : (g h : Generator) (s : Store) (x : ℕ) (change : FileEntry → FileEntry) → Stands g s → IsReady h → h.grants ≡ g.grants
    → ((e : FileEntry) → (change e).id ≡ e.id) → ((e : FileEntry) → IsFile g e → e.id ≡ x → IsFile h (change e)) → ((e : FileEntry) → IsFile g e → e.id ≢ x → IsFile h e)
    → Stands h (with_file s x change)
unfolding with_file has_grant holder_entry
files_changed g h s x change stands ready grants ids here elsewhere =
    let one : FileEntry → FileEntry = λ e. cond (e.id == x) (change e) e in
    let one_id : (e : FileEntry) → (one e).id ≡ e.id = λ e.
    elim (e.id == x) as (λ b. (cond b (change e) e).id ≡ e.id) [ true ↦ ids e | false ↦ refl ] in
    let one_is : (e : FileEntry) → IsFile g e → IsFile h (one e) = λ e is.
    (elim (e.id == x) as (λ b. e.id == x ≡ b → IsFile h (cond b (change e) e)) [
      | true ↦ λ t. here e is (eqb-true e.id x t)
      | false ↦ λ f. elsewhere e is (λ same. false≢true (sym f ∙ eq-eqb e.id x same))
    ]) refl in
    record {
      ready = ready;
      folders = stands.folders;
      holders = stands.holders;
      grants = λ who m w l. stands.grants who m w l ∙ ap (λ (gs : List Bool). get_or gs (who * 8 + m) false) (sym grants);
      all = λ e i.
          let w = (In-map FileEntry FileEntry one e s.files).0 i in
          subst (IsFile h) (sym w.2) (one_is w.0 (stands.all w.0 w.1));
      each = λ n l.
          let w = stands.each n l in
          (one w.0, (In-map FileEntry FileEntry one (one w.0) s.files).1 (w.0, w.1, refl), one_id w.0 ∙ w.2);
      made = stands.made;
    }

module _ (g : Generator) (s : Store) (stands : Stands g s) where
  file_written : (m k : ℕ) → m < 8 → (name : List ℕ) → name ≡ 102 ∷ (48 + k) ∷ [] → (folder : ℕ) → folder ≡ m + 2 → (bytes : List ℕ) → Stands g (with_new_file s folder name bytes)
  unfolding with_new_file has_grant holder_entry
  file_written m k l name is folder at bytes =
      let new : FileEntry = record { id = s.files_made + 1; folder = folder; name = name; bytes = bytes } in
      let made = stands.made in
      record {
        ready = stands.ready;
        folders = stands.folders;
        holders = stands.holders;
        grants = stands.grants;
        all = λ e i.
            ⊎_elim (λ (old : In e s.files). stands.all e old)
            (λ (last : In e (new ∷ [])). ⊎_elim
            (λ (same : e ≡ new).
            let written : IsWritten new = record { from_nine = omega arith; n = k; name = is; m = m; below = l; folder = at } in
            subst (IsFile g) (sym same) (inr written))
            (λ n. absurd n) last)
            ((In-append FileEntry e s.files (new ∷ [])).0 i);
        each = λ n h. let w = stands.each n h in (w.0, (In-append FileEntry w.0 s.files (new ∷ [])).1 (inl w.1), w.2);
        made = omega arith;
      }

  bytes_written : (o : Option Node) (m k : ℕ) (bytes : List ℕ) → m < 8 → k < 8 → Stands g (with_bytes_at s o (written_path m k) bytes)
  unfolding with_bytes_at id_of folder_node
  bytes_written (Some (File x)) m k bytes l h =
      files_changed g g s x.0 (λ e. record e { bytes = bytes }) stands stands.ready refl (λ e. refl) (λ e is same. again e is) (λ e is other. is)
    where
      again : (e : FileEntry) → IsFile g e → IsFile g (record e { bytes = bytes })
      again e (inl w) = inl (w.0, record { below = w.1.below; id = w.1.id; name = w.1.name; folder = w.1.folder })
      again e (inr w) = inr (record { from_nine = w.from_nine; n = w.n; name = w.name; m = w.m; below = w.below; folder = w.folder })
  bytes_written (Some (Folder f)) m k bytes l h = stands
  bytes_written None m k bytes l h =
      file_written m k l (last_name (names_of (written_path m k))) (file_last m 102 k l (written_name k h))
      (id_of (node_at s (parent_path (written_path m k))))
      (ap (λ (path : List ℕ). id_of (node_at s path)) (file_parent m 102 k l (written_name k h)) ∙ ap id_of (folder_found s stands.folders m l))
      bytes

  pub write_stands : (m k b : ℕ) (key : List ℕ) → m < 8 → k < 8 → Stands g (effect s (WriteFile (written_path m k) (b ∷ [])) key)
  unfolding effect
  write_stands m k b key l h = bytes_written (node_at s (written_path m k)) m k (b ∷ []) l h

  -- a file in another folder: the generator has it there
  home_ready : (n m : ℕ) → m < 8 → IsReady (with_home g n m)
  home_ready n m h = record {
    files = length-set g.homes n m ∙ stands.ready.files;
    grants = stands.ready.grants;
    within = λ k l. ⊎_elim
        (λ (same : k ≡ n).
        let inside : k < length g.homes = omega (arith, stands.ready.files) in
        let is : get_or (set g.homes n m) k 0 ≡ m = ap (λ (j : ℕ). get_or (set g.homes n m) j 0) same ∙ get_or-set_same g.homes n m 0 (subst (λ (j : ℕ). j < length g.homes) same inside) in
        subst (λ (j : ℕ). j < 8) (sym is) h)
        (λ (other : k ≡ n → ⊥). subst (λ (j : ℕ). j < 8) (sym (get_or-set_other g.homes n k m 0 other)) (stands.ready.within k l))
        (cases_eq k n);
  }

  moved_here : (n m : ℕ) → n < 8 → m < 8 → (e : FileEntry) → IsFile g e → e.id ≡ n + 1 → IsFile (with_home g n m) (record e { folder = m + 2 })
  moved_here n m l h e (inl w) id =
      let k : ℕ = w.0 in
      let is : e.id ≡ k + 1 = w.1.id in
      let same : k ≡ n = omega arith in
      let inside : n < length g.homes = omega (arith, stands.ready.files) in
      let home : get_or (set g.homes n m) n 0 ≡ m = get_or-set_same g.homes n m 0 inside in
      inl (n, record { below = l; id = id; name = w.1.name ∙ ap (λ (j : ℕ). 116 ∷ (48 + j) ∷ []) same; folder = ap (λ (j : ℕ). j + 2) (sym home) })
  moved_here n m l h e (inr w) id = let nine = w.from_nine in absurd (omega arith)

  stays_there : (n m : ℕ) → (e : FileEntry) → IsFile g e → e.id ≢ n + 1 → IsFile (with_home g n m) e
  stays_there n m e (inl w) other =
      let k : ℕ = w.0 in
      let differs : k ≢ n = λ same. other (w.1.id ∙ ap (λ (j : ℕ). j + 1) same) in
      let home : get_or (set g.homes n m) k 0 ≡ get_or g.homes k 0 = get_or-set_other g.homes n k m 0 differs in
      inl (k, record { below = w.1.below; id = w.1.id; name = w.1.name; folder = w.1.folder ∙ ap (λ (j : ℕ). j + 2) (sym home) })
  stays_there n m e (inr w) other = inr w

  pub move_stands : (n m : ℕ) (key : List ℕ) → n < 8 → m < 8 → Stands (with_home g n m) (effect s (Relocate (moved_path (home_of g n) n) (folder_path m)) key)
  unfolding effect moved file_node folder_node id_of
  move_stands n m key l h =
      let at : node_at s (moved_path (home_of g n) n) ≡ Some (file_node (n + 1)) = moved_found g s stands n l in
      let «to» : node_at s (folder_path m) ≡ Some (folder_node (m + 2)) = folder_found s stands.folders m h in
      let after : Stands (with_home g n m) (with_file s (n + 1) (λ e. record e { folder = m + 2 })) =
      files_changed g (with_home g n m) s (n + 1) (λ e. record e { folder = m + 2 }) stands (home_ready n m h) refl (λ e. refl) (moved_here n m l h) (stays_there n m) in
      subst (λ (o : Option Node). Stands (with_home g n m) (moved s o (id_of (node_at s (folder_path m))))) (sym at)
      (subst (λ (o : Option Node). Stands (with_home g n m) (with_file s (n + 1) (λ e. record e { folder = id_of o }))) (sym «to») after)

  grant_ready : (who m : ℕ) (b : Bool) → IsReady (with_grant g who m b)
  grant_ready who m b = record { files = stands.ready.files; grants = length-set g.grants (who * 8 + m) b ∙ stands.ready.grants; within = stands.ready.within }

  -- whether a grant stands after one was changed
  granted_here : (who m : ℕ) (b : Bool) → who < 4 → m < 8 → has_granted (with_grant g who m b) who m ≡ b
  granted_here who m b w l = let inside : who * 8 + m < length g.grants = omega (arith, stands.ready.grants) in get_or-set_same g.grants (who * 8 + m) b false inside

  granted_elsewhere : (who m : ℕ) (b : Bool) (other n : ℕ) → other * 8 + n ≢ who * 8 + m → has_granted (with_grant g who m b) other n ≡ has_granted g other n
  granted_elsewhere who m b other n differs = get_or-set_other g.grants (who * 8 + m) (other * 8 + n) b false differs

  -- a store whose grants alone are changed
  grants_changed : (who m : ℕ) (b : Bool) (grants : List GrantEntry) → who < 4 → m < 8
      → list_any (λ e. e.holder == who + 1 && e.folder == m + 2) grants ≡ b
      → ((other n : ℕ) → (other + 1 ≡ who + 1 → n + 2 ≡ m + 2 → ⊥) → list_any (λ e. e.holder == other + 1 && e.folder == n + 2) grants ≡ has_grant s (other + 1) (n + 2))
      → Stands (with_grant g who m b) (record s { grants = grants })
  unfolding has_grant holder_entry
  grants_changed who m b grants w l here elsewhere = record {
    ready = grant_ready who m b;
    folders = stands.folders;
    holders = stands.holders;
    grants = λ other n u v. ⊎_elim
        (λ (same : other * 8 + n ≡ who * 8 + m).
        let h : other ≡ who = omega arith in
        let f : n ≡ m = omega arith in
        ap (λ (x : ℕ). list_any (λ (e : GrantEntry). e.holder == x + 1 && e.folder == n + 2) grants) h
        ∙ ap (λ (x : ℕ). list_any (λ (e : GrantEntry). e.holder == who + 1 && e.folder == x + 2) grants) f
        ∙ here ∙ sym (granted_here who m b w l) ∙ ap (λ (x : ℕ). get_or (set g.grants (who * 8 + m) b) x false) (sym same))
        (λ (differs : other * 8 + n ≡ who * 8 + m → ⊥).
        elsewhere other n (λ x y. let h : other ≡ who = omega arith in let f : n ≡ m = omega arith in differs (omega arith))
        ∙ stands.grants other n u v ∙ sym (granted_elsewhere who m b other n differs))
        (cases_eq (other * 8 + n) (who * 8 + m));
    all = λ e i. same_file e (stands.all e i);
    each = stands.each;
    made = stands.made;
  }
    where
      same_file : (e : FileEntry) → IsFile g e → IsFile (with_grant g who m b) e
      same_file e (inl v) = inl (v.0, record { below = v.1.below; id = v.1.id; name = v.1.name; folder = v.1.folder })
      same_file e (inr v) = inr v

  pub grant_stands : (who m : ℕ) (key : List ℕ) → who < 4 → m < 8 → Stands (with_grant g who m true) (effect s (Grant (who + 1) (folder_path m)) key)
  unfolding effect has_grant folder_node granted_id
  grant_stands who m key w l =
      let new : GrantEntry = record { holder = who + 1; folder = m + 2 } in
      let after : Stands (with_grant g who m true) (record s { grants = s.grants ++ new ∷ [] }) =
      grants_changed who m true (s.grants ++ new ∷ []) w l
      (list_any-append (λ (e : GrantEntry). e.holder == who + 1 && e.folder == m + 2) s.grants (new ∷ [])
      ∙ or_right _ _ (or_left _ _ (and_from _ _ (eq-eqb (who + 1) (who + 1) refl) (eq-eqb (m + 2) (m + 2) refl))))
      (λ other n differs.
      list_any-append (λ (e : GrantEntry). e.holder == other + 1 && e.folder == n + 2) s.grants (new ∷ [])
      ∙ or_false (has_grant s (other + 1) (n + 2)) _ (or_from _ _ (false_from_ne_true _ (λ t.
      let parts = and_parts (who + 1 == other + 1) (m + 2 == n + 2) t in
      differs (sym (eqb-true (who + 1) (other + 1) parts.0)) (sym (eqb-true (m + 2) (n + 2) parts.1)))) refl)) in
      subst (λ (o : Option Node). Stands (with_grant g who m true) (record s { grants = s.grants ++ record { holder = who + 1; folder = granted_id o } ∷ [] })) (sym (folder_found s stands.folders m l)) after

  pub revoke_stands : (who m : ℕ) (key : List ℕ) → who < 4 → m < 8 → Stands (with_grant g who m false) (effect s (Revoke (who + 1) (folder_path m)) key)
  unfolding effect without_grant has_grant folder_node granted_id
  revoke_stands who m key w l =
      let gone : GrantEntry → Bool = λ e. e.holder == who + 1 && e.folder == m + 2 in
      let rest : List GrantEntry = filter (λ e. not (gone e)) s.grants in
      let after : Stands (with_grant g who m false) (record s { grants = rest }) =
      grants_changed who m false rest w l
      (any-filter_same gone (λ e. not (gone e)) false (λ e t. ap not t) s.grants)
      (λ other n differs.
      any-filter_same (λ (e : GrantEntry). e.holder == other + 1 && e.folder == n + 2) (λ e. not (gone e)) true (λ e t.
      let parts = and_parts (e.holder == other + 1) (e.folder == n + 2) t in
      let h : e.holder ≡ other + 1 = eqb-true e.holder (other + 1) parts.0 in
      let f : e.folder ≡ n + 2 = eqb-true e.folder (n + 2) parts.1 in
      not_from_false (gone e) (false_from_ne_true (gone e) (λ u.
      let both = and_parts (e.holder == who + 1) (e.folder == m + 2) u in
      differs (sym h ∙ eqb-true e.holder (who + 1) both.0) (sym f ∙ eqb-true e.folder (m + 2) both.1)))) s.grants) in
      subst (λ (o : Option Node). Stands (with_grant g who m false) (without_grant s (who + 1) (granted_id o))) (sym (folder_found s stands.folders m l)) after
