-- Steps up the tree along the bytes of a path, from its last name on.
use Rattle.std.proofs.Common.{◌≡◌, ◌≢◌, ℕ, suc, ◌+◌, ◌≤◌, Bool, true, false, ◌&&◌, ◌==◌, List, [], ◌∷◌, ◌++◌, length, Option, Some, None, refl, sym, ap, ◌∙◌, arith}
use Rattle.std.specs.Prelude.{bytes_eq, is_some}
use Rattle.std.specs.Option.{option_map}
use Rattle.std.proofs.lemmas.Bool.{false≢true, eqb-true, eq-eqb, ne_eqb}
use Rattle.std.proofs.lemmas.List.{append_cancel_right}
use Rattle.cry_base.specs.Store.{Store, FolderEntry, FileEntry, folder_entry, file_entry, file_node, folder_names, node_names, way_to_root}
use Rattle.folder_nodes.specs.Spelling.{joined, leads_to_folder, leads_to_file}
use Rattle.folder_nodes.specs.Titles.{Titles, title_at, name_in, tree_store}
use Rattle.folder_nodes.specs.Trees.{IsTree}
use Rattle.folder_nodes.proofs.Added.{parent_cases, nothing_at_zero}
use Rattle.folder_nodes.proofs.Climbing.{levels_few, level_on}
use Rattle.folder_nodes.proofs.Downward.{names_root, names_on, file_names_are, file_id, bytes_told, told_bytes, entry_id, tree_named}
use Rattle.folder_nodes.proofs.Lookups.{All-found}
use Rattle.folder_nodes.proofs.Named.{named_folder, named_file, folder_named, file_named}
use Rattle.folder_nodes.proofs.Slashes.{joined_nothing, joined_push}

pub same_truth : (p q : Bool) → (p ≡ true → q ≡ true) → (q ≡ true → p ≡ true) → p ≡ q
same_truth true q go back = sym (go refl)
same_truth false true go back = back refl
same_truth false false go back = refl

-- bytes with the same end are equal where the rest is
same_front : (xs bytes front back : List ℕ) → bytes ≡ front ++ back → bytes_eq (xs ++ back) bytes ≡ bytes_eq xs front
same_front xs bytes front back e =
    same_truth (bytes_eq (xs ++ back) bytes) (bytes_eq xs front)
    (λ t. told_bytes xs front (append_cancel_right xs front back (bytes_told (xs ++ back) bytes t ∙ e)))
    (λ t. told_bytes (xs ++ back) bytes (ap (λ l. l ++ back) (bytes_told xs front t) ∙ sym e))

never : (p : Bool) → (p ≡ true → ⊥) → p ≡ false
never p apart = (elim p as (λ b. p ≡ b → b ≡ false) [ true ↦ λ t. absurd (apart t) | false ↦ λ t. refl ]) refl

-- an entry in a tree with names
pub entry_named : (s : Store) (n : Titles) (f : ℕ) (e : FolderEntry) → folder_entry s f ≡ Some e → folder_entry (tree_store s n) f ≡ Some (named_folder n e)
entry_named s n f e p = folder_named s n f ∙ ap (option_map (named_folder n)) p

pub file_entry_named : (s : Store) (n : Titles) (x : ℕ) (e : FileEntry) → file_entry s x ≡ Some e → file_entry (tree_store s n) x ≡ Some (named_file n e)
file_entry_named s n x e p = file_named s n x ∙ ap (option_map (named_file n)) p

-- the names down to a folder or file: those of its own folder, and its own
pub names_here : (s : Store) (n : Titles) → IsTree s → (f : ℕ) (e q : FolderEntry) → folder_entry s f ≡ Some e → folder_entry s e.parent ≡ Some q → folder_names (tree_store s n) f ≡ folder_names (tree_store s n) e.parent ++ name_in (title_at n.folders f) ∷ []
names_here s n tree f e q p up =
    names_on (tree_store s n) (tree_named s n tree) f (named_folder n e) (named_folder n q) (entry_named s n f e p) (entry_named s n e.parent q up)
    ∙ ap (λ k. folder_names (tree_store s n) e.parent ++ name_in (title_at n.folders k) ∷ []) (entry_id s f e p)

pub file_names_here : (s : Store) (n : Titles) (x : ℕ) (e : FileEntry) → file_entry s x ≡ Some e → node_names (tree_store s n) (file_node x) ≡ folder_names (tree_store s n) e.folder ++ name_in (title_at n.files x) ∷ []
file_names_here s n x e p =
    file_names_are (tree_store s n) x (named_file n e) (file_entry_named s n x e p)
    ∙ ap (λ k. folder_names (tree_store s n) e.folder ++ name_in (title_at n.files k) ∷ []) (file_id s x e p)

-- what leads to a folder
pub leads_told : (s : Store) (f : ℕ) (e : FolderEntry) (bytes : List ℕ) → folder_entry s f ≡ Some e → leads_to_folder s f bytes ≡ bytes_eq (joined (folder_names s f)) bytes
unfolding leads_to_folder
leads_told s f e bytes p = ap (λ (o : Option FolderEntry). is_some o && bytes_eq (joined (folder_names s f)) bytes) p

pub leads_nowhere : (s : Store) (f : ℕ) (bytes : List ℕ) → folder_entry s f ≡ None → leads_to_folder s f bytes ≡ false
unfolding leads_to_folder
leads_nowhere s f bytes p = ap (λ (o : Option FolderEntry). is_some o && bytes_eq (joined (folder_names s f)) bytes) p

pub leads_file_told : (s : Store) (x : ℕ) (e : FileEntry) (bytes : List ℕ) → file_entry s x ≡ Some e → leads_to_file s x bytes ≡ bytes_eq (joined (node_names s (file_node x))) bytes
unfolding leads_to_file
leads_file_told s x e bytes p = ap (λ (o : Option FileEntry). is_some o && bytes_eq (joined (node_names s (file_node x))) bytes) p

pub no_file_leads : (s : Store) (n : Titles) (x : ℕ) (bytes : List ℕ) → file_entry s x ≡ None → false ≡ leads_to_file (tree_store s n) x bytes
unfolding leads_to_file
no_file_leads s n x bytes p =
    sym (ap (λ (o : Option FileEntry). is_some o && bytes_eq (joined (node_names (tree_store s n) (file_node x))) bytes) (file_named s n x ∙ ap (option_map (named_file n)) p))

-- one step: into the parent, without the name
pub lead_step : (s : Store) (n : Titles) → IsTree s → (f : ℕ) (e q : FolderEntry) (left front : List ℕ) → folder_entry s f ≡ Some e → folder_entry s e.parent ≡ Some q → left ≡ front ++ 47 ∷ name_in (title_at n.folders f) → leads_to_folder (tree_store s n) f left ≡ leads_to_folder (tree_store s n) e.parent front
lead_step s n tree f e q left front p up cut =
    let t = tree_store s n in
    leads_told t f (named_folder n e) left (entry_named s n f e p)
    ∙ ap (λ l. bytes_eq l left) (ap joined (names_here s n tree f e q p up) ∙ joined_push (folder_names t e.parent) (name_in (title_at n.folders f)))
    ∙ same_front (joined (folder_names t e.parent)) left front (47 ∷ name_in (title_at n.folders f)) cut
    ∙ sym (leads_told t e.parent (named_folder n q) front (entry_named s n e.parent q up))

pub lead_none : (s : Store) (n : Titles) → IsTree s → (f : ℕ) (e q : FolderEntry) (left : List ℕ) → folder_entry s f ≡ Some e → folder_entry s e.parent ≡ Some q → ((front : List ℕ) → left ≢ front ++ 47 ∷ name_in (title_at n.folders f)) → leads_to_folder (tree_store s n) f left ≡ false
lead_none s n tree f e q left p up apart =
    let t = tree_store s n in
    leads_told t f (named_folder n e) left (entry_named s n f e p)
    ∙ ap (λ l. bytes_eq l left) (ap joined (names_here s n tree f e q p up) ∙ joined_push (folder_names t e.parent) (name_in (title_at n.folders f)))
    ∙ never (bytes_eq (joined (folder_names t e.parent) ++ 47 ∷ name_in (title_at n.folders f)) left) (λ yes. apart (joined (folder_names t e.parent)) (sym (bytes_told (joined (folder_names t e.parent) ++ 47 ∷ name_in (title_at n.folders f)) left yes)))

-- the parent of a folder that has one
up_from : (s : Store) → IsTree s → (f : ℕ) (e : FolderEntry) → folder_entry s f ≡ Some e → e.parent ≢ 0 → (q : FolderEntry) × (folder_entry s e.parent ≡ Some q)
up_from s tree f e p ne = let cases = parent_cases s tree f e p in cases.1 (λ one. ne (cases.0 one))

-- the root has no parent, and no other folder is without
pub top_is : (s : Store) → IsTree s → (f : ℕ) (e : FolderEntry) → folder_entry s f ≡ Some e → e.parent ≡ 0 → f ≡ 1
top_is s tree f e p none =
    let cases = parent_cases s tree f e p in
    (elim (f == 1) as (λ b. f == 1 ≡ b → f ≡ 1) [
      | true ↦ λ t. eqb-true f 1 t
      | false ↦ λ t.
          let w = cases.1 (λ one. false≢true (sym t ∙ eq-eqb f 1 one)) in
          absurd (let zero_stands : folder_entry s 0 ≡ Some w.0 = ap (folder_entry s) (sym none) ∙ w.1 in let nothing : folder_entry s 0 ≡ None = nothing_at_zero s tree in cc)
    ]) refl

-- what leads to f leads from here on, and so many folders are left at most
abbrev pub Leads : Store → Titles → ℕ → List ℕ → ℕ → List ℕ → ℕ → Type 0
Leads s n f bytes here left k = (leads_to_folder (tree_store s n) f bytes ≡ leads_to_folder (tree_store s n) here left) × (k + length (way_to_root s here) ≤ 65)

pub lead_start : (s : Store) (n : Titles) → IsTree s → (f : ℕ) (bytes : List ℕ) → Leads s n f bytes f bytes 0
lead_start s n tree f bytes = (refl, let few : length (way_to_root s f) ≤ 65 = levels_few s tree f in omega (arith, few))

pub lead_on : (s : Store) (n : Titles) → IsTree s → (f : ℕ) (bytes : List ℕ) (here : ℕ) (left : List ℕ) (k : ℕ) (e : FolderEntry) (front : List ℕ) → Leads s n f bytes here left k → folder_entry s here ≡ Some e → e.parent ≢ 0 → left ≡ front ++ 47 ∷ name_in (title_at n.folders here) → Leads s n f bytes e.parent front (k + 1)
lead_on s n tree f bytes here left k e front leads p ne cut =
    let up = up_from s tree here e p ne in
    let level : length (way_to_root s here) ≡ suc (length (way_to_root s e.parent)) = level_on s tree here e p in
    (leads.0 ∙ lead_step s n tree here e up.0 left front p up.1 cut, omega (arith, leads.1, level))

pub lead_apart : (s : Store) (n : Titles) → IsTree s → (f : ℕ) (bytes : List ℕ) (here : ℕ) (left : List ℕ) (k : ℕ) (e : FolderEntry) → Leads s n f bytes here left k → folder_entry s here ≡ Some e → e.parent ≢ 0 → ((front : List ℕ) → left ≢ front ++ 47 ∷ name_in (title_at n.folders here)) → false ≡ leads_to_folder (tree_store s n) f bytes
lead_apart s n tree f bytes here left k e leads p ne apart =
    let up = up_from s tree here e p ne in
    sym (leads.0 ∙ lead_none s n tree here e up.0 left p up.1 apart)

empty_told : (left : List ℕ) → bytes_eq [] left ≡ (length left == 0)
empty_told [] = refl
empty_told (b ∷ left) = sym (ne_eqb (suc (length left)) 0 (λ e. omega (arith, e)))

pub lead_top : (s : Store) (n : Titles) → IsTree s → (f : ℕ) (bytes : List ℕ) (here : ℕ) (left : List ℕ) (k : ℕ) (e : FolderEntry) → Leads s n f bytes here left k → folder_entry s here ≡ Some e → e.parent ≡ 0 → (length left == 0) ≡ leads_to_folder (tree_store s n) f bytes
lead_top s n tree f bytes here left k e leads p none =
    let t = tree_store s n in
    let one : here ≡ 1 = top_is s tree here e p none in
    let root : folder_entry t 1 ≡ Some (named_folder n e) = ap (folder_entry t) (sym one) ∙ entry_named s n here e p in
    let names : folder_names t here ≡ [] = ap (folder_names t) one ∙ names_root t (tree_named s n tree) (named_folder n e) root in
    sym (leads.0 ∙ leads_told t here (named_folder n e) left (entry_named s n here e p) ∙ ap (λ l. bytes_eq (joined l) left) names ∙ ap (λ l. bytes_eq l left) joined_nothing ∙ empty_told left)

pub lead_off : (s : Store) (n : Titles) (f : ℕ) (bytes : List ℕ) (here : ℕ) (left : List ℕ) (k : ℕ) → Leads s n f bytes here left k → folder_entry s here ≡ None → false ≡ leads_to_folder (tree_store s n) f bytes
lead_off s n f bytes here left k leads p =
    sym (leads.0 ∙ leads_nowhere (tree_store s n) here left (folder_named s n here ∙ ap (option_map (named_folder n)) p))

pub lead_over : (s : Store) (n : Titles) → IsTree s → (f : ℕ) (bytes : List ℕ) (here : ℕ) (left : List ℕ) (k : ℕ) → Leads s n f bytes here left k → 65 ≤ k → false ≡ leads_to_folder (tree_store s n) f bytes
lead_over s n tree f bytes here left k leads full =
    (elim (folder_entry s here) as (λ o. folder_entry s here ≡ o → false ≡ leads_to_folder (tree_store s n) f bytes) [
      | None ↦ λ p. lead_off s n f bytes here left k leads p
      | Some e ↦ λ p. absurd (let level : length (way_to_root s here) ≡ suc (length (way_to_root s e.parent)) = level_on s tree here e p in omega (arith, leads.1, level, full))
    ]) refl

-- a file: its name, and then its folder
pub file_stands : (s : Store) → IsTree s → (x : ℕ) (e : FileEntry) → file_entry s x ≡ Some e → (q : FolderEntry) × (folder_entry s e.folder ≡ Some q) × (length (way_to_root s e.folder) ≤ 64)
unfolding file_entry
file_stands s tree x e p = All-found FileEntry (λ (e : FileEntry). (q : FolderEntry) × (folder_entry s e.folder ≡ Some q) × (length (way_to_root s e.folder) ≤ 64)) (λ e. e.id == x) s.files e tree.files_stand p

pub lead_file : (s : Store) (n : Titles) → IsTree s → (x : ℕ) (e : FileEntry) (bytes front : List ℕ) → file_entry s x ≡ Some e → bytes ≡ front ++ 47 ∷ name_in (title_at n.files x) → leads_to_folder (tree_store s n) e.folder front ≡ leads_to_file (tree_store s n) x bytes
lead_file s n tree x e bytes front p cut =
    let t = tree_store s n in
    let up = file_stands s tree x e p in
    sym (leads_file_told t x (named_file n e) bytes (file_entry_named s n x e p)
    ∙ ap (λ l. bytes_eq l bytes) (ap joined (file_names_here s n x e p) ∙ joined_push (folder_names t e.folder) (name_in (title_at n.files x)))
    ∙ same_front (joined (folder_names t e.folder)) bytes front (47 ∷ name_in (title_at n.files x)) cut
    ∙ sym (leads_told t e.folder (named_folder n up.0) front (entry_named s n e.folder up.0 up.1)))

pub lead_file_apart : (s : Store) (n : Titles) (x : ℕ) (e : FileEntry) (bytes : List ℕ) → file_entry s x ≡ Some e → ((front : List ℕ) → bytes ≢ front ++ 47 ∷ name_in (title_at n.files x)) → false ≡ leads_to_file (tree_store s n) x bytes
lead_file_apart s n x e bytes p apart =
    let t = tree_store s n in
    sym (leads_file_told t x (named_file n e) bytes (file_entry_named s n x e p)
    ∙ ap (λ l. bytes_eq l bytes) (ap joined (file_names_here s n x e p) ∙ joined_push (folder_names t e.folder) (name_in (title_at n.files x)))
    ∙ never (bytes_eq (joined (folder_names t e.folder) ++ 47 ∷ name_in (title_at n.files x)) bytes) (λ yes. apart (joined (folder_names t e.folder)) (sym (bytes_told (joined (folder_names t e.folder) ++ 47 ∷ name_in (title_at n.files x)) bytes yes))))
