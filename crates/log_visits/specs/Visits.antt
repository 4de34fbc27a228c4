-- What is opened of a store, in which order. This project's own, docs/FORMAT.md, "Reading".
use Rattle.std.specs.Prelude.{ℕ, Bool, true, false, not, ◌&&◌, ◌||◌, ◌==◌, nat_lt, cond, List, [], ◌∷◌, ◌++◌, map, filter}
use Rattle.std.specs.List.{flat_map}
use Rattle.cry_base.specs.Clearances.{clear_number}
use Rattle.cry_base.specs.Store.{Store, FolderEntry, FileEntry, HolderEntry, folder_node, has_grant, depth_of}
use Rattle.cry_base.specs.declared.roles.Edge.{Edge}
use Rattle.cry_base.specs.declared.roles.Role.TheVariants.{Owner}
use Rattle.role_graph.specs.Edges.{edge, grant_edge, file_edge, has_grants, in_order}
use Rattle.role_graph.specs.Rights.{Who, allowed_to, file_allowed_to, named_to}
use Rattle.role_graph.specs.Rights.Who.{TheOwner, TheHolder}
use Rattle.role_graph.specs.Roles.{clear_of, sub_of, back_of, files_of, data_of, file_role}
use Rattle.move_plan.specs.Change.{parent_of_folder, folder_of_file}

-- one visit: the link of an edge, the name of a folder, the name and bytes of a file, the key of a holder
pub data Visit : Type 0 where
  ToKey : Edge → Visit
  ToName : (folder : ℕ) → Visit
  ToFile : (file : ℕ) → Visit
  ToHolder : (holder : ℕ) → Visit

-- the numbers of the folders that pass, ascending
unfoldable pub folders_that : (ℕ → Bool) → Store → List ℕ
folders_that test s = in_order nat_lt (filter test (map (λ (e : FolderEntry). e.id) s.folders))

-- the numbers of the files that pass, ascending
unfoldable pub files_that : (FileEntry → Bool) → Store → List ℕ
files_that test s = in_order nat_lt (map (λ (e : FileEntry). e.id) (filter test s.files))

-- an entry folder: every one for the owner, one with a grant for a holder
unfoldable pub is_entry : Store → Who → ℕ → Bool
is_entry s TheOwner f = true
is_entry s (TheHolder h) f = has_grant s h f

-- an entry file: one with a grant of the holder whose folder isn't allowed, and none for the owner
unfoldable pub is_entry_file : Store → Who → FileEntry → Bool
is_entry_file s TheOwner e = false
is_entry_file s (TheHolder h) e = has_grant s h (clear_number e.id) && not (allowed_to s (TheHolder h) e.folder)

-- the edge by which whoever reads comes into a folder, or into a file with its clearance number
unfoldable pub entry_edge : Who → ℕ → Edge
entry_edge TheOwner f = edge 1 Owner (clear_of f)
entry_edge (TheHolder h) f = grant_edge h f

-- 1: each entry folder, ascending: into Clear, and on to Sub. Then each entry file, ascending: into its Clearance
unfoldable pub entry_folder_visits : Store → Who → List Visit
entry_folder_visits s who = flat_map (λ f. ToKey (entry_edge who f) ∷ ToKey (edge 3 (clear_of f) (sub_of f))
    ∷ []) (folders_that (is_entry s who) s)

unfoldable pub entry_file_visits : Store → Who → List Visit
entry_file_visits s who = map (λ x. ToKey (entry_edge who (clear_number x))) (files_that (is_entry_file s who) s)

unfoldable pub entry_visits : Store → Who → List Visit
entry_visits s who = entry_folder_visits s who ++ entry_file_visits s who

-- the folder stands less deep, or as deep with a lower number
unfoldable pub is_higher : Store → ℕ → ℕ → Bool
is_higher s f g =
    nat_lt (depth_of s (folder_node f)) (depth_of s (folder_node g))
    || ((depth_of s (folder_node f) == depth_of s (folder_node g)) && nat_lt f g)

-- 2: each other folder that is allowed, from its parent, shallower ones first, and then ascending
unfoldable pub lower_visits : Store → Who → List Visit
lower_visits s who =
    map (λ f. ToKey (edge 6 (sub_of (parent_of_folder s f)) (sub_of f)))
    (in_order (is_higher s) (folders_that (λ f. allowed_to s who f && not (is_entry s who f)) s))

-- 3: each folder that is allowed, ascending: on to Back, and on to Files
unfoldable pub allowed_visits : Store → Who → List Visit
allowed_visits s who =
    flat_map (λ f. ToKey (edge 4 (sub_of f) (back_of f)) ∷ ToKey (edge 5 (sub_of f) (files_of f)) ∷ []) (folders_that (allowed_to s who) s)

-- the folder stands deeper, or as deep with a lower number
unfoldable pub is_deeper : Store → ℕ → ℕ → Bool
is_deeper s f g =
    nat_lt (depth_of s (folder_node g)) (depth_of s (folder_node f))
    || ((depth_of s (folder_node f) == depth_of s (folder_node g)) && nat_lt f g)

-- into the folder from the first of its children, or where there is none from the first of its files
unfoldable pub visit_from : ℕ → (children files : List ℕ) → List Visit
visit_from f (child ∷ children) files = ToKey (edge 8 (back_of child) (back_of f)) ∷ []
visit_from f [] (x ∷ files) = ToKey (edge 11 (clear_of (clear_number x)) (back_of f)) ∷ []
visit_from f [] [] = []

-- those are its children that are named, and its entry files, lowest numbers first
unfoldable pub upper_visit : Store → Who → ℕ → List Visit
upper_visit s who f =
    visit_from f (folders_that (λ c. named_to s who c && (parent_of_folder s c == f)) s)
    (files_that (λ e. is_entry_file s who e && (e.folder == f)) s)

-- 4: each folder that is named and not allowed, from below, deeper ones first, and then ascending
unfoldable pub upper_visits : Store → Who → List Visit
upper_visits s who =
    flat_map (upper_visit s who) (in_order (is_deeper s) (folders_that (λ f. named_to s who f && not (allowed_to s who f)) s))

-- 5: each folder that is named, ascending: on to Data, and the name
unfoldable pub name_visits : Store → Who → List Visit
name_visits s who = flat_map (λ f. ToKey (edge 7 (back_of f) (data_of f)) ∷ ToName f ∷ []) (folders_that (named_to s who) s)

-- the edge into a file: from the Files of its folder where that is allowed, and else from its Clearance
unfoldable pub into_file : Store → Who → ℕ → Edge
into_file s who x =
    cond (allowed_to s who (folder_of_file s x)) (file_edge (folder_of_file s x) x) (edge 10 (clear_of (clear_number x)) (file_role x))

-- 6: each of some files: into it, and the text
unfoldable pub file_visits : Store → Who → List ℕ → List Visit
file_visits s who xs = flat_map (λ x. ToKey (into_file s who x) ∷ ToFile x ∷ []) xs

-- the steps 1 to 5, and all six: the files are those that are allowed
unfoldable pub visits_to_names : Store → Who → List Visit
visits_to_names s who = entry_visits s who ++ (lower_visits s who ++ (allowed_visits s who ++ (upper_visits s who ++ name_visits s who)))

unfoldable pub all_visits : Store → Who → List Visit
all_visits s who = visits_to_names s who ++ file_visits s who (files_that (file_allowed_to s who) s)

-- the key of each holder, ascending
unfoldable pub holder_visits : Store → List Visit
holder_visits s = map ToHolder (in_order nat_lt (map (λ (e : HolderEntry). e.number) s.holders))

-- the Clearance of each file with a grant, ascending
unfoldable pub clearance_visits : Store → List Visit
clearance_visits s = map (λ x. ToKey (edge 1 Owner (clear_of (clear_number x)))) (files_that (λ e. has_grants s (clear_number e.id)) s)

-- what is opened besides for writing
unfoldable pub writing_visits : Store → List Visit
writing_visits s = holder_visits s ++ clearance_visits s
