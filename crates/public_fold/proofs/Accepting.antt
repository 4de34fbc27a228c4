-- What is known of a command that isn't refused, and of the place of what it makes.
use Rattle.std.proofs.Common.{◌≡◌, ◌≢◌, ℕ, suc, ◌+◌, ◌≤◌, Bool, true, false, ◌==◌, ◌&&◌, List, [], ◌∷◌, ◌++◌, map, length, Option, Some, None, inl, inr, ⊎_elim, refl, sym, ap, ◌∙◌, subst, arith, length-append}
use Rattle.std.specs.Prelude.{bytes_eq, is_none, nat_lt}
use Rattle.std.specs.List.{list_all, list_any}
use Rattle.std.proofs.lemmas.Bool.{eqb-true, eq-eqb, and_parts, and_from, false≢true, or_parts, ltb-false}
use lib.Pointwise.{pointwise_decides}
use Rattle.cry_base.specs.Sets.{In}
use Rattle.cry_base.specs.Naming.{is_name, front, last_name, spell_path, names_of, is_path, parent_path, is_root_path}
use Rattle.cry_base.specs.Requests.{Request}
use Rattle.cry_base.specs.Store.{Store, FolderEntry, FileEntry, folder_names, file_names, node_names, path_of, node_at, nodes_of, folder_node, file_node}
use Rattle.cry_base.specs.Refusing.{id_of, is_file, holds_name, has_child, has_bad_name, finds_no_path, changes_root, needs_folder, writes_folder, finds_name_taken, removes_children, moves_into_itself, goes_too_deep, finds_no_holder, grants_again, revokes_nothing, causes, refusal_of}
use Rattle.cry_base.specs.declared.commands.Refusal.TheVariants.{BadName, NoPath, IsRoot, NotFolder, IsFolder, Exists, NotEmpty, InsideItself, TooDeep, NoHolder, HasGrant, NoGrant}
use Rattle.cry_base.specs.declared.roles.Node.{Node}
use Rattle.cry_base.specs.declared.roles.Node.TheVariants.{Folder, File}
use Rattle.cry_base.proofs.Finding.{node_found, node_finds}
use Rattle.cry_base.proofs.Members.{In-append, In-map}
use Rattle.cry_base.proofs.Paths.{names_told}
use Rattle.public_fold.specs.Tree.{AtLevel}
use Rattle.public_fold.proofs.Causes.{no_cause}
use Rattle.public_fold.proofs.Treeing.{IsTree, root_names, next_names, names_length, file_node_names, node_stands, found_names, path_names}

-- no cause applies
pub record IsAccepted (s : Store) (r : Request) : Type 0 where
  pub good_name : has_bad_name r ≡ false
  pub finds_path : finds_no_path s r ≡ false
  pub other_root : changes_root r ≡ false
  pub in_folder : needs_folder s r ≡ false
  pub writes_file : writes_folder s r ≡ false
  pub finds_free : finds_name_taken s r ≡ false
  pub childless : removes_children s r ≡ false
  pub outside : moves_into_itself s r ≡ false
  pub not_deep : goes_too_deep s r ≡ false
  pub holder : finds_no_holder s r ≡ false
  pub new_grant : grants_again s r ≡ false
  pub old_grant : revokes_nothing s r ≡ false

pub accepted : (s : Store) (r : Request) (n : ℕ) → refusal_of s r n ≡ None → IsAccepted s r
unfolding causes
accepted s r n e = record {
  good_name = no_cause s r n (has_bad_name r) BadName e (inl refl);
  finds_path = no_cause s r n (finds_no_path s r) NoPath e (inr (inl refl));
  other_root = no_cause s r n (changes_root r) IsRoot e (inr (inr (inl refl)));
  in_folder = no_cause s r n (needs_folder s r) NotFolder e (inr (inr (inr (inl refl))));
  writes_file = no_cause s r n (writes_folder s r) IsFolder e (inr (inr (inr (inr (inl refl)))));
  finds_free = no_cause s r n (finds_name_taken s r) Exists e (inr (inr (inr (inr (inr (inl refl))))));
  childless = no_cause s r n (removes_children s r) NotEmpty e (inr (inr (inr (inr (inr (inr (inl refl)))))));
  outside = no_cause s r n (moves_into_itself s r) InsideItself e (inr (inr (inr (inr (inr (inr (inr (inl refl))))))));
  not_deep = no_cause s r n (goes_too_deep s r) TooDeep e (inr (inr (inr (inr (inr (inr (inr (inr (inl refl)))))))));
  holder = no_cause s r n (finds_no_holder s r) NoHolder e (inr (inr (inr (inr (inr (inr (inr (inr (inr (inl refl))))))))));
  new_grant = no_cause s r n (grants_again s r) HasGrant e (inr (inr (inr (inr (inr (inr (inr (inr (inr (inr (inl refl)))))))))));
  old_grant = no_cause s r n (revokes_nothing s r) NoGrant e (inr (inr (inr (inr (inr (inr (inr (inr (inr (inr (inr (inl refl))))))))))));
}

-- nothing passes a test that none passes
pub any_none : (X : Type 0) (p : X → Bool) (x : X) (xs : List X) → list_any p xs ≡ false → In x xs → p x ≡ false
any_none X p x [] t i = absurd i
any_none X p x (y ∷ ys) t i =
    let parts = or_parts (p y) (list_any p ys) t in ⊎_elim (λ (e : x ≡ y). ap p e ∙ parts.0) (λ r. any_none X p x ys parts.1 r) i

pub both_not : (a b : ℕ) (x y : List ℕ) → (a == b && bytes_eq x y) ≡ false → a ≡ b → x ≡ y → ⊥
both_not a b x y t e f = false≢true (sym t ∙ and_from (a == b) (bytes_eq x y) (eq-eqb a b e) ((pointwise_decides (λ x y. (eqb-true x y, eq-eqb x y)) x y).1 f))

-- a folder that doesn't hold a name
pub folder_free : (s : Store) (p : ℕ) (name : List ℕ) → holds_name s p name ≡ false → (a : FolderEntry) → In a s.folders → a.parent ≡ p → a.name ≡ name → ⊥
unfolding holds_name
folder_free s p name t a i e n =
    let parts = or_parts (list_any (λ (e : FolderEntry). e.parent == p && bytes_eq e.name name) s.folders) (list_any (λ (e : FileEntry). e.folder == p && bytes_eq e.name name) s.files) t in
    both_not a.parent p a.name name (any_none FolderEntry (λ e. e.parent == p && bytes_eq e.name name) a s.folders parts.0 i) e n

pub file_free : (s : Store) (p : ℕ) (name : List ℕ) → holds_name s p name ≡ false → (b : FileEntry) → In b s.files → b.folder ≡ p → b.name ≡ name → ⊥
unfolding holds_name
file_free s p name t b j e n =
    let parts = or_parts (list_any (λ (e : FolderEntry). e.parent == p && bytes_eq e.name name) s.folders) (list_any (λ (e : FileEntry). e.folder == p && bytes_eq e.name name) s.files) t in
    both_not b.folder p b.name name (any_none FileEntry (λ e. e.folder == p && bytes_eq e.name name) b s.files parts.1 j) e n

-- a folder without a child
pub no_child : (s : Store) (f : ℕ) → has_child s f ≡ false → (a : FolderEntry) → In a s.folders → a.parent ≢ f
unfolding has_child
no_child s f t a i e =
    let parts = or_parts (list_any (λ (e : FolderEntry). e.parent == f) s.folders) (list_any (λ (e : FileEntry). e.folder == f) s.files) t in
    false≢true (sym (any_none FolderEntry (λ e. e.parent == f) a s.folders parts.0 i) ∙ eq-eqb a.parent f e)

pub no_inner : (s : Store) (f : ℕ) → has_child s f ≡ false → (b : FileEntry) → In b s.files → b.folder ≢ f
unfolding has_child
no_inner s f t b j e =
    let parts = or_parts (list_any (λ (e : FolderEntry). e.parent == f) s.folders) (list_any (λ (e : FileEntry). e.folder == f) s.files) t in
    false≢true (sym (any_none FileEntry (λ e. e.folder == f) b s.files parts.1 j) ∙ eq-eqb b.folder f e)

all_front : (X : Type 0) (p : X → Bool) (xs : List X) → list_all p xs ≡ true → list_all p (front xs) ≡ true
unfolding front
all_front X p [] t = refl
all_front X p (x ∷ []) t = refl
all_front X p (x ∷ y ∷ ys) t =
    let both = and_parts (p x) (list_all p (y ∷ ys)) t in and_from (p x) (list_all p (front (y ∷ ys))) both.0 (all_front X p (y ∷ ys) both.1)

front_last : (xs : List (List ℕ)) → 1 ≤ length xs → xs ≡ front xs ++ last_name xs ∷ []
unfolding front last_name
front_last [] h = absurd (omega arith)
front_last (x ∷ []) h = refl
front_last (x ∷ y ∷ ys) h = ap (λ l. x ∷ l) (front_last (y ∷ ys) (omega arith))

all_last : (p : List ℕ → Bool) (xs : List (List ℕ)) → 1 ≤ length xs → list_all p xs ≡ true → p (last_name xs) ≡ true
unfolding last_name
all_last p [] h t = absurd (omega arith)
all_last p (x ∷ []) h t = (and_parts (p x) true t).0
all_last p (x ∷ y ∷ ys) h t = all_last p (y ∷ ys) (omega arith) (and_parts (p x) (list_all p (y ∷ ys)) t).1

root_spelled : is_root_path (spell_path []) ≡ true
unfolding is_root_path spell_path
root_spelled = refl

-- a path that isn't the root's has a name
some_name : (path : List ℕ) (names : List (List ℕ)) → spell_path names ≡ path → is_root_path path ≡ false → 1 ≤ length names
some_name path [] e t = absurd (false≢true (sym t ∙ ap is_root_path (sym e) ∙ root_spelled))
some_name path (x ∷ xs) e t = omega arith

-- no other path finds the root
pub other_than_root : (s : Store) (path : List ℕ) (f : ℕ) → IsTree s.folders s.files → node_at s path ≡ Some (folder_node f) → is_root_path path ≡ false → f ≢ 1
unfolding path_of node_names folder_node
other_than_root s path f ok e t z =
    let told = node_found s path (folder_node f) e in
    let none : folder_names s f ≡ [] = ap (folder_names s) z ∙ root_names s 1 ok.numbered ok.root_stands in
    false≢true (sym t ∙ ap is_root_path (sym told.1 ∙ ap spell_path none) ∙ root_spelled)

pub folder_in_nodes : (s : Store) (e : FolderEntry) → In e s.folders → In (folder_node e.id) (nodes_of s)
unfolding nodes_of
folder_in_nodes s e i =
    (In-append Node (folder_node e.id) (map (λ (e : FolderEntry). folder_node e.id) s.folders) (map (λ (e : FileEntry). file_node e.id) s.files)).1
    (inl ((In-map FolderEntry Node (λ e. folder_node e.id) (folder_node e.id) s.folders).1 (e, i, refl)))

pub file_in_nodes : (s : Store) (e : FileEntry) → In e s.files → In (file_node e.id) (nodes_of s)
unfolding nodes_of
file_in_nodes s e i =
    (In-append Node (file_node e.id) (map (λ (e : FolderEntry). folder_node e.id) s.folders) (map (λ (e : FileEntry). file_node e.id) s.files)).1
    (inr ((In-map FileEntry Node (λ e. file_node e.id) (file_node e.id) s.files).1 (e, i, refl)))

-- a path that finds nothing is no node's
not_found : (s : Store) (path : List ℕ) → node_at s path ≡ None → is_path path ≡ true → (node : Node) → In node (nodes_of s) → node_names s node ≡ names_of path → ⊥
unfolding path_of
not_found s path e t node i n =
    let told = node_finds s node i in
    let found : node_at s (spell_path (node_names s node)) ≡ Some told.0 = told.1 in
    let same : spell_path (node_names s node) ≡ path = ap spell_path n ∙ (path_names path t).1 in
    let there : node_at s path ≡ Some told.0 = ap (node_at s) (sym same) ∙ found in absurd cc

-- where something new may stand: in a folder that stands, not too deep, under a name that is free there
pub record IsPlace (s : Store) (path : List ℕ) (p : ℕ) : Type 0 where
  pub level : ℕ
  pub stands : AtLevel level s.folders p
  pub below : suc level ≤ 64
  pub free_folder : (a : FolderEntry) → In a s.folders → a.parent ≡ p → a.name ≡ last_name (names_of path) → ⊥
  pub free_file : (b : FileEntry) → In b s.files → b.folder ≡ p → b.name ≡ last_name (names_of path) → ⊥
  pub named : is_name (last_name (names_of path)) ≡ true

pub place : (s : Store) (path : List ℕ) (o : Option Node) → IsTree s.folders s.files → node_at s (parent_path path) ≡ o → is_none o ≡ false → is_file o ≡ false → is_path path ≡ true → is_root_path path ≡ false → nat_lt 64 (length (names_of path)) ≡ false → node_at s path ≡ None → IsPlace s path (id_of o)
unfolding id_of is_file parent_path node_names file_names folder_node file_node
place s path None ok e some folder t r d new = absurd (false≢true (sym some))
place s path (Some (File x)) ok e some folder t r d new = absurd (false≢true (sym folder))
place s path (Some (Folder f)) ok e some folder t r d new =
    let told = path_names path t in
    let long : 1 ≤ length (names_of path) = some_name path (names_of path) told.1 r in
    let names : folder_names s f.0 ≡ front (names_of path) =
    found_names s (parent_path path) (Folder f) ok e ∙ names_told (front (names_of path)) (all_front (List ℕ) is_name (names_of path) told.0) in
    let whole : names_of path ≡ folder_names s f.0 ++ last_name (names_of path) ∷ [] = front_last (names_of path) long ∙ ap (λ l. l ++ last_name (names_of path) ∷ []) (sym names) in
    let w = node_stands s (Folder f) (node_found s (parent_path path) (Folder f) e).0 in
    let l = ok.folder_level w.0 w.1 in
    let at : AtLevel l.0 s.folders f.0 = subst (AtLevel l.0 s.folders) w.2 l.1 in
    let level : length (folder_names s f.0) ≡ l.0 = names_length l.0 s f.0 ok.numbered at in
    let total : length (names_of path) ≡ length (folder_names s f.0) + 1 = ap length whole ∙ length-append (folder_names s f.0) (last_name (names_of path) ∷ []) in
    let limit : length (names_of path) ≤ 64 = ltb-false 64 (length (names_of path)) d in record {
      level = l.0;
      stands = at;
      below = omega arith;
      free_folder = λ a i p n.
          let parent : a.parent ≢ 0 = λ z. ok.numbered.no_zero w.0 w.1 (w.2 ∙ sym p ∙ z) in
          let child : AtLevel (suc l.0) s.folders a.id = (a, i, refl, parent, subst (AtLevel l.0 s.folders) (sym p) at) in
          not_found s path new t (folder_node a.id) (folder_in_nodes s a i)
          (next_names l.0 s a.id ok.numbered child ∙ ap (λ g. folder_names s g ++ a.name ∷ []) p ∙ ap (λ z. folder_names s f.0 ++ z ∷ []) n ∙ sym whole);
      free_file = λ b j p n.
          not_found s path new t (file_node b.id) (file_in_nodes s b j)
          (file_node_names s b b.id ok j refl ∙ ap (λ g. folder_names s g ++ b.name ∷ []) p ∙ ap (λ z. folder_names s f.0 ++ z ∷ []) n ∙ sym whole);
      named = all_last is_name (names_of path) long told.0;
    }
