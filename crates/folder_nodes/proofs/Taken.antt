-- Whether a name is taken in a folder, as those that are tried tell.
use Rattle.std.proofs.Common.{◌≡◌, ◌≢◌, ℕ, true, false, ◌==◌, ◌&&◌, ◌||◌, Bool, List, map, Option, Some, None, refl, sym, ap, ◌∙◌}
use Rattle.std.specs.Prelude.{bytes_eq}
use Rattle.std.specs.List.{list_any}
use Rattle.std.specs.Option.{option_map}
use Rattle.std.proofs.lemmas.Bool.{false≢true, eq-eqb, ne_eqb}
use Rattle.cry_base.specs.Refusing.{holds_name}
use Rattle.cry_base.specs.Store.{Store, FolderEntry, FileEntry, folder_entry, file_entry}
use Rattle.cry_base.proofs.Members.{In-map}
use Rattle.folder_nodes.specs.Spelling.{is_folder_in, is_file_in}
use Rattle.folder_nodes.specs.Titles.{Titles, title_at, name_in, tree_store}
use Rattle.folder_nodes.specs.Trees.{IsTree}
use Rattle.folder_nodes.specs.declared.spots.Spot.{Spot}
use Rattle.folder_nodes.proofs.Ascending.{same_any}
use Rattle.folder_nodes.proofs.Downward.{entry_id, entry_in, file_id, tree_named}
use Rattle.folder_nodes.proofs.Located.{HasPassing, entry_there, file_there, file_in}
use Rattle.folder_nodes.proofs.Named.{named_folder, named_file, folder_named, file_named}

-- all that pass are among those that are tried
abbrev pub HasTried : (ℕ → Bool) → List Spot → Type 0
HasTried test spots = HasPassing test (map (λ (q : Spot). q.id) spots)

pub in_told : (f : ℕ) (name : List ℕ) (o : Option FolderEntry) → is_folder_in f name o ≡ true → (e : FolderEntry) × (o ≡ Some e) × ((e.parent == f && bytes_eq e.name name) ≡ true)
in_told f name None t = absurd (false≢true t)
in_told f name (Some e) t = (e, refl, t)

pub file_in_told : (f : ℕ) (name : List ℕ) (o : Option FileEntry) → is_file_in f name o ≡ true → (e : FileEntry) × (o ≡ Some e) × ((e.folder == f && bytes_eq e.name name) ≡ true)
file_in_told f name None t = absurd (false≢true t)
file_in_told f name (Some e) t = (e, refl, t)

folder_taken : (s : Store) (n : Titles) → IsTree s → (f : ℕ) (name : List ℕ) → (spots : List Spot) → HasTried (λ k. is_folder_in f name (folder_entry (tree_store s n) k)) spots → list_any (λ (q : Spot). is_folder_in f name (folder_entry (tree_store s n) q.id)) spots ≡ list_any (λ (e : FolderEntry). e.parent == f && bytes_eq e.name name) (map (named_folder n) s.folders)
unfolding tree_store
folder_taken s n tree f name spots all =
    let t : Store = tree_store s n in
    same_any Spot FolderEntry (λ (q : Spot). is_folder_in f name (folder_entry t q.id)) (λ (e : FolderEntry). e.parent == f && bytes_eq e.name name) spots (map (named_folder n) s.folders)
    (λ q i pass. let w = in_told f name (folder_entry t q.id) pass in (w.0, entry_in t q.id w.0 w.1, w.2))
    (λ e i pass.
    let own : folder_entry t e.id ≡ Some e = entry_there t (tree_named s n tree) e i in
    let there = (In-map Spot ℕ (λ q. q.id) e.id spots).0 (all e.id (ap (is_folder_in f name) own ∙ pass)) in
    (there.0, there.1, ap (λ k. is_folder_in f name (folder_entry t k)) (sym there.2) ∙ ap (is_folder_in f name) own ∙ pass))

file_taken : (s : Store) (n : Titles) → IsTree s → (f : ℕ) (name : List ℕ) → (spots : List Spot) → HasTried (λ k. is_file_in f name (file_entry (tree_store s n) k)) spots → list_any (λ (q : Spot). is_file_in f name (file_entry (tree_store s n) q.id)) spots ≡ list_any (λ (e : FileEntry). e.folder == f && bytes_eq e.name name) (map (named_file n) s.files)
unfolding tree_store
file_taken s n tree f name spots all =
    let t : Store = tree_store s n in
    same_any Spot FileEntry (λ (q : Spot). is_file_in f name (file_entry t q.id)) (λ (e : FileEntry). e.folder == f && bytes_eq e.name name) spots (map (named_file n) s.files)
    (λ q i pass. let w = file_in_told f name (file_entry t q.id) pass in (w.0, file_in t q.id w.0 w.1, w.2))
    (λ e i pass.
    let own : file_entry t e.id ≡ Some e = file_there t (tree_named s n tree) e i in
    let there = (In-map Spot ℕ (λ q. q.id) e.id spots).0 (all e.id (ap (is_file_in f name) own ∙ pass)) in
    (there.0, there.1, ap (λ k. is_file_in f name (file_entry t k)) (sym there.2) ∙ ap (is_file_in f name) own ∙ pass))

-- a name is taken where one of those that have it is in the folder
pub taken_by_folder : (s : Store) (n : Titles) → IsTree s → (f : ℕ) (name : List ℕ) → (spots : List Spot) → HasTried (λ k. is_folder_in f name (folder_entry (tree_store s n) k)) spots → true ≡ list_any (λ (q : Spot). is_folder_in f name (folder_entry (tree_store s n) q.id)) spots → true ≡ holds_name (tree_store s n) f name
unfolding holds_name tree_store
taken_by_folder s n tree f name spots all found =
    ap (λ b. b || list_any (λ (e : FileEntry). e.folder == f && bytes_eq e.name name) (map (named_file n) s.files)) (found ∙ folder_taken s n tree f name spots all)

pub taken_by_file : (s : Store) (n : Titles) → IsTree s → (f : ℕ) (name : List ℕ) → (spots others : List Spot) → HasTried (λ k. is_folder_in f name (folder_entry (tree_store s n) k)) spots → HasTried (λ k. is_file_in f name (file_entry (tree_store s n) k)) others → false ≡ list_any (λ (q : Spot). is_folder_in f name (folder_entry (tree_store s n) q.id)) spots → list_any (λ (q : Spot). is_file_in f name (file_entry (tree_store s n) q.id)) others ≡ holds_name (tree_store s n) f name
unfolding holds_name tree_store
taken_by_file s n tree f name spots others all others_all none =
    file_taken s n tree f name others others_all
    ∙ ap (λ b. b || list_any (λ (e : FileEntry). e.folder == f && bytes_eq e.name name) (map (named_file n) s.files)) (none ∙ folder_taken s n tree f name spots all)

-- one folder or file, as the look-up tells it
pub folder_row : (s : Store) (n : Titles) (g f : ℕ) (name : List ℕ) (e : FolderEntry) → folder_entry s g ≡ Some e → is_folder_in f name (folder_entry (tree_store s n) g) ≡ (e.parent == f && bytes_eq (name_in (title_at n.folders g)) name)
folder_row s n g f name e p =
    ap (is_folder_in f name) (folder_named s n g ∙ ap (option_map (named_folder n)) p)
    ∙ ap (λ k. e.parent == f && bytes_eq (name_in (title_at n.folders k)) name) (entry_id s g e p)

pub file_row : (s : Store) (n : Titles) (x f : ℕ) (name : List ℕ) (e : FileEntry) → file_entry s x ≡ Some e → is_file_in f name (file_entry (tree_store s n) x) ≡ (e.folder == f && bytes_eq (name_in (title_at n.files x)) name)
file_row s n x f name e p =
    ap (is_file_in f name) (file_named s n x ∙ ap (option_map (named_file n)) p)
    ∙ ap (λ k. e.folder == f && bytes_eq (name_in (title_at n.files k)) name) (file_id s x e p)

pub no_folder_in : (s : Store) (n : Titles) (g f : ℕ) (name : List ℕ) → folder_entry s g ≡ None → false ≡ is_folder_in f name (folder_entry (tree_store s n) g)
no_folder_in s n g f name p = sym (ap (is_folder_in f name) (folder_named s n g ∙ ap (option_map (named_folder n)) p))

pub no_file_in : (s : Store) (n : Titles) (x f : ℕ) (name : List ℕ) → file_entry s x ≡ None → false ≡ is_file_in f name (file_entry (tree_store s n) x)
no_file_in s n x f name p = sym (ap (is_file_in f name) (file_named s n x ∙ ap (option_map (named_file n)) p))

pub folder_elsewhere : (s : Store) (n : Titles) (g f : ℕ) (name : List ℕ) (e : FolderEntry) → folder_entry s g ≡ Some e → e.parent ≢ f → false ≡ is_folder_in f name (folder_entry (tree_store s n) g)
folder_elsewhere s n g f name e p apart = sym (folder_row s n g f name e p ∙ ap (λ b. b && bytes_eq (name_in (title_at n.folders g)) name) (ne_eqb e.parent f apart))

pub file_elsewhere : (s : Store) (n : Titles) (x f : ℕ) (name : List ℕ) (e : FileEntry) → file_entry s x ≡ Some e → e.folder ≢ f → false ≡ is_file_in f name (file_entry (tree_store s n) x)
file_elsewhere s n x f name e p apart = sym (file_row s n x f name e p ∙ ap (λ b. b && bytes_eq (name_in (title_at n.files x)) name) (ne_eqb e.folder f apart))

pub folder_here : (s : Store) (n : Titles) (g f : ℕ) (name : List ℕ) (e : FolderEntry) → folder_entry s g ≡ Some e → e.parent ≡ f → bytes_eq (name_in (title_at n.folders g)) name ≡ is_folder_in f name (folder_entry (tree_store s n) g)
folder_here s n g f name e p same = sym (folder_row s n g f name e p ∙ ap (λ b. b && bytes_eq (name_in (title_at n.folders g)) name) (eq-eqb e.parent f same))

pub file_here : (s : Store) (n : Titles) (x f : ℕ) (name : List ℕ) (e : FileEntry) → file_entry s x ≡ Some e → e.folder ≡ f → bytes_eq (name_in (title_at n.files x)) name ≡ is_file_in f name (file_entry (tree_store s n) x)
file_here s n x f name e p same = sym (file_row s n x f name e p ∙ ap (λ b. b && bytes_eq (name_in (title_at n.files x)) name) (eq-eqb e.folder f same))
