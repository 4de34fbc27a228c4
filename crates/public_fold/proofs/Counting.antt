-- Numbers of a journal's store are below its counts.
use Rattle.std.proofs.Common.{◌≡◌, ℕ, ◌+◌, ◌≤◌, Bool, true, false, cond, not, ◌==◌, List, [], ◌∷◌, ◌++◌, map, Option, Some, None, ⊎_elim, refl, sym, ap, ◌∙◌, subst, arith}
use Rattle.cry_base.specs.Sets.{In}
use Rattle.cry_base.specs.Requests.{Request}
use Rattle.cry_base.specs.Requests.Request.{AddHolder, MakeFolder, WriteFile, Remove, Rename, Relocate, Grant, Revoke}
use Rattle.cry_base.specs.Store.{Store, FolderEntry, FileEntry, HolderEntry, no_store, root_store, node_at}
use Rattle.cry_base.specs.Naming.{parent_path, names_of, last_name}
use Rattle.cry_base.specs.Refusing.{granted_id, id_of}
use Rattle.cry_base.specs.Stepping.{with_new_holder, with_new_folder, with_new_file, with_folder, with_file, without_folder, without_file, without_grant, with_bytes_at, without_node, with_name, moved, effect}
use Rattle.cry_base.specs.declared.roles.Node.{Node}
use Rattle.cry_base.specs.declared.roles.Node.TheVariants.{Folder, File}
use Rattle.cry_base.proofs.Members.{In-append, In-map, In-filter}
use Rattle.public_fold.specs.Counted.{AreCounted}
use Rattle.public_fold.specs.Journal.{Entry, Journal, Stand, nothing, first_key, entry_store, stand_then, stand_after, store_of}
use Rattle.public_fold.specs.Journal.Entry.{Session, Made, Did, Upgraded}

-- one more of a kind
added : (X : Type 0) (id : X → ℕ) (made : ℕ) (x : X) (xs : List X) → ((e : X) → In e xs → id e ≤ made) → id x ≡ made + 1 → (e : X) → In e (xs ++ x ∷ []) → id e ≤ made + 1
added X id made x xs old new e i = ⊎_elim
    (λ a. let h : id e ≤ made = old e a in omega arith)
    (λ b. ⊎_elim (λ (s : e ≡ x). let h : id e ≡ made + 1 = ap id s ∙ new in omega arith) (λ n. absurd n) b)
    ((In-append X e xs (x ∷ [])).0 i)

-- a change that keeps numbers
changed : (X : Type 0) (id : X → ℕ) (made : ℕ) (test : X → Bool) (change : X → X) (xs : List X) → ((e : X) → In e xs → id e ≤ made) → ((e : X) → id (change e) ≡ id e) → (e : X) → In e (map (λ x. cond (test x) (change x) x) xs) → id e ≤ made
changed X id made test change xs old keeps e i =
    let w = (In-map X X (λ x. cond (test x) (change x) x) e xs).0 i in
    let same : id (cond (test w.0) (change w.0) w.0) ≡ id w.0 = elim (test w.0) as (λ b. id (cond b (change w.0) w.0) ≡ id w.0) [ true ↦ keeps w.0 | false ↦ refl ] in
    subst (λ n. n ≤ made) (sym (ap id w.2 ∙ same)) (old w.0 w.1)

pub new_holder : (s : Store) (key : List ℕ) → AreCounted s → AreCounted (with_new_holder s key)
unfolding with_new_holder
new_holder s key c = record {
  each_folder = c.each_folder;
  each_file = c.each_file;
  each_holder = added HolderEntry (λ e. e.number) s.holders_made (record { number = s.holders_made + 1; key = key }) s.holders c.each_holder refl;
}

pub new_folder : (s : Store) (p : ℕ) (name : List ℕ) → AreCounted s → AreCounted (with_new_folder s p name)
unfolding with_new_folder
new_folder s p name c = record {
  each_folder = added FolderEntry (λ e. e.id) s.folders_made (record { id = s.folders_made + 1; parent = p; name = name }) s.folders c.each_folder refl;
  each_file = c.each_file;
  each_holder = c.each_holder;
}

pub new_file : (s : Store) (f : ℕ) (name bytes : List ℕ) → AreCounted s → AreCounted (with_new_file s f name bytes)
unfolding with_new_file
new_file s f name bytes c = record {
  each_folder = c.each_folder;
  each_file = added FileEntry (λ e. e.id) s.files_made (record { id = s.files_made + 1; folder = f; name = name; bytes = bytes }) s.files c.each_file refl;
  each_holder = c.each_holder;
}

pub one_folder : (s : Store) (f : ℕ) (change : FolderEntry → FolderEntry) → ((e : FolderEntry) → (change e).id ≡ e.id) → AreCounted s → AreCounted (with_folder s f change)
unfolding with_folder
one_folder s f change keeps c = record {
  each_folder = changed FolderEntry (λ e. e.id) s.folders_made (λ e. e.id == f) change s.folders c.each_folder keeps;
  each_file = c.each_file;
  each_holder = c.each_holder;
}

pub one_file : (s : Store) (x : ℕ) (change : FileEntry → FileEntry) → ((e : FileEntry) → (change e).id ≡ e.id) → AreCounted s → AreCounted (with_file s x change)
unfolding with_file
one_file s x change keeps c = record {
  each_folder = c.each_folder;
  each_file = changed FileEntry (λ e. e.id) s.files_made (λ e. e.id == x) change s.files c.each_file keeps;
  each_holder = c.each_holder;
}

pub no_folder : (s : Store) (f : ℕ) → AreCounted s → AreCounted (without_folder s f)
unfolding without_folder
no_folder s f c = record { each_folder = λ e i. c.each_folder e (In-filter FolderEntry (λ x. not (x.id == f)) e s.folders i).0; each_file = c.each_file; each_holder = c.each_holder }

pub no_file : (s : Store) (x : ℕ) → AreCounted s → AreCounted (without_file s x)
unfolding without_file
no_file s x c = record { each_folder = c.each_folder; each_file = λ e i. c.each_file e (In-filter FileEntry (λ y. not (y.id == x)) e s.files i).0; each_holder = c.each_holder }

pub no_grant : (s : Store) (h f : ℕ) → AreCounted s → AreCounted (without_grant s h f)
unfolding without_grant
no_grant s h f c = record { each_folder = c.each_folder; each_file = c.each_file; each_holder = c.each_holder }

bytes_at : (s : Store) (node : Option Node) (path bytes : List ℕ) → AreCounted s → AreCounted (with_bytes_at s node path bytes)
unfolding with_bytes_at
bytes_at s None path bytes c = new_file s (id_of (node_at s (parent_path path))) (last_name (names_of path)) bytes c
bytes_at s (Some (Folder f)) path bytes c = c
bytes_at s (Some (File x)) path bytes c = one_file s x.0 (λ e. record e { bytes = bytes }) (λ e. refl) c

no_node : (s : Store) (node : Option Node) → AreCounted s → AreCounted (without_node s node)
unfolding without_node
no_node s None c = c
no_node s (Some (Folder f)) c = no_folder s f.0 c
no_node s (Some (File x)) c = no_file s x.0 c

named : (s : Store) (node : Option Node) (name : List ℕ) → AreCounted s → AreCounted (with_name s node name)
unfolding with_name
named s None name c = c
named s (Some (Folder f)) name c = one_folder s f.0 (λ e. record e { name = name }) (λ e. refl) c
named s (Some (File x)) name c = one_file s x.0 (λ e. record e { name = name }) (λ e. refl) c

put : (s : Store) (node : Option Node) (into : ℕ) → AreCounted s → AreCounted (moved s node into)
unfolding moved
put s None into c = c
put s (Some (Folder f)) into c = one_folder s f.0 (λ e. record e { parent = into }) (λ e. refl) c
put s (Some (File x)) into c = one_file s x.0 (λ e. record e { folder = into }) (λ e. refl) c

pub effect_counted : (s : Store) (r : Request) (key : List ℕ) → AreCounted s → AreCounted (effect s r key)
unfolding effect
effect_counted s AddHolder key c = new_holder s key c
effect_counted s (MakeFolder path) key c = new_folder s (id_of (node_at s (parent_path path))) (last_name (names_of path)) c
effect_counted s (WriteFile path bytes) key c = bytes_at s (node_at s path) path bytes c
effect_counted s (Remove path) key c = no_node s (node_at s path) c
effect_counted s (Rename path name) key c = named s (node_at s path) name c
effect_counted s (Relocate path into) key c = put s (node_at s path) (id_of (node_at s into)) c
effect_counted s (Grant holder path) key c = record { each_folder = c.each_folder; each_file = c.each_file; each_holder = c.each_holder }
effect_counted s (Revoke holder path) key c = no_grant s holder (granted_id (node_at s path)) c

pub root_counted : AreCounted root_store
unfolding root_store no_store
root_counted = record {
  each_folder = λ e i. ⊎_elim (λ (s : e ≡ record { id = 1; parent = 0; name = [] }). let h : e.id ≡ 1 = ap (λ (x : FolderEntry). x.id) s in omega arith) (λ n. absurd n) i;
  each_file = λ e i. absurd i;
  each_holder = λ e i. absurd i;
}

entry_counted : (s : Store) (entry : Entry) → AreCounted s → AreCounted (entry_store s entry)
unfolding entry_store
entry_counted s Session c = c
entry_counted s (Made version keys) c = root_counted
entry_counted s (Did request keys) c = effect_counted s request (first_key keys) c
entry_counted s (Upgraded keys) c = c

after_counted : (entries : List Entry) (at : Stand) → AreCounted at.store → AreCounted (stand_after at entries).store
unfolding stand_after stand_then
after_counted [] at c = c
after_counted (entry ∷ entries) at c = after_counted entries (stand_then at entry) (entry_counted at.store entry c)

pub journal_counted : (m : Journal) → AreCounted (store_of m)
unfolding store_of nothing no_store
journal_counted m = after_counted m nothing (record { each_folder = λ e i. absurd i; each_file = λ e i. absurd i; each_holder = λ e i. absurd i })
