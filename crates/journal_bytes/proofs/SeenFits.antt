-- Whether a note fits a store hangs on nothing that everyone may not see.
use Rattle.std.proofs.Common.{◌≡◌, ℕ, ◌+◌, not, ◌==◌, ◌&&◌, ◌||◌, [], Option, Some, None, refl, ap, ◌∙◌, Bool}
use Rattle.std.specs.Prelude.{is_some, nat_lt, nat_le}
use Rattle.std.specs.Option.{option_map}
use Rattle.cry_base.specs.Clearances.{file_of}
use Rattle.cry_base.specs.Refusing.{deepest, has_child, height_of, is_node_within}
use Rattle.cry_base.specs.Store.{Store, FolderEntry, FileEntry, HolderEntry, depth_of, file_entry, file_names, file_node, folder_entry, folder_names, folder_node, has_grant, holder_entry, is_within, node_names, nodes_of, way_to_root}
use Rattle.folder_nodes.specs.Titles.{Titles, tree_store}
use Rattle.folder_nodes.proofs.Lookups.{find-map}
use Rattle.folder_nodes.proofs.Named.{child_named, depth_named, height_named, within_named}
use Rattle.move_plan.specs.Change.{folder_of_file, parent_of_folder}
use Rattle.move_plan.specs.Fitting.{clear_stands, file_stands, fits, folder_stands, has_depth_left, is_file_there, is_next_below, is_other_folder, may_be_granted, may_go_into, needs_root, public_of, row_fits}
use Rattle.record_format.specs.Noted.{Note}
use Rattle.record_format.specs.Noted.Note.{Root, NewHolder, NewFolder, NewFile, Rewrite, NameFile, NameFolder, DropFile, DropFolder, ShiftFile, ShiftFolder, Give, Take, StrictRoot, Upgrade}

abbrev nameless : Titles
nameless = record { folders = []; files = []; spare = 0 }

some-map : (X : Type 0) (h : X → X) (o : Option X) → is_some (option_map h o) ≡ is_some o
some-map X h None = refl
some-map X h (Some x) = refl

folder_seen : (s : Store) (f : ℕ) → folder_entry (public_of s) f ≡ option_map (λ (e : FolderEntry). record e { name = [] }) (folder_entry s f)
unfolding folder_entry public_of
folder_seen s f = find-map FolderEntry FolderEntry (λ e. record e { name = [] }) (λ e. e.id == f) s.folders

file_seen : (s : Store) (x : ℕ) → file_entry (public_of s) x ≡ option_map (λ (e : FileEntry). record e { name = []; bytes = [] }) (file_entry s x)
unfolding file_entry public_of
file_seen s x = find-map FileEntry FileEntry (λ e. record e { name = []; bytes = [] }) (λ e. e.id == x) s.files

folder_stands_seen : (s : Store) (f : ℕ) → folder_stands (public_of s) f ≡ folder_stands s f
unfolding folder_stands
folder_stands_seen s f = ap (λ (o : Option FolderEntry). is_some o) (folder_seen s f) ∙ some-map FolderEntry (λ e. record e { name = [] }) (folder_entry s f)

file_stands_seen : (s : Store) (x : ℕ) → file_stands (public_of s) x ≡ file_stands s x
unfolding file_stands
file_stands_seen s x = ap (λ (o : Option FileEntry). is_some o) (file_seen s x) ∙ some-map FileEntry (λ e. record e { name = []; bytes = [] }) (file_entry s x)

holder_stands_seen : (s : Store) (h : ℕ) → is_some (holder_entry (public_of s) h) ≡ is_some (holder_entry s h)
unfolding holder_entry public_of
holder_stands_seen s h =
    ap (λ (o : Option HolderEntry). is_some o) (find-map HolderEntry HolderEntry (λ e. record e { key = [] }) (λ e. e.number == h) s.holders)
    ∙ some-map HolderEntry (λ e. record e { key = [] }) (holder_entry s h)

parent_in : (o : Option FolderEntry) → elim (option_map (λ (e : FolderEntry). record e { name = [] }) o) as (λ o. ℕ) [ None ↦ 0 | Some e ↦ e.parent ] ≡ elim o as (λ o. ℕ) [ None ↦ 0 | Some e ↦ e.parent ]
parent_in None = refl
parent_in (Some e) = refl

parent_seen : (s : Store) (f : ℕ) → parent_of_folder (public_of s) f ≡ parent_of_folder s f
unfolding parent_of_folder
parent_seen s f = ap (λ o. elim o as (λ o. ℕ) [ None ↦ 0 | Some e ↦ e.parent ]) (folder_seen s f) ∙ parent_in (folder_entry s f)

folder_in : (o : Option FileEntry) → elim (option_map (λ (e : FileEntry). record e { name = []; bytes = [] }) o) as (λ o. ℕ) [ None ↦ 0 | Some e ↦ e.folder ] ≡ elim o as (λ o. ℕ) [ None ↦ 0 | Some e ↦ e.folder ]
folder_in None = refl
folder_in (Some e) = refl

pub place_seen : (s : Store) (x : ℕ) → folder_of_file (public_of s) x ≡ folder_of_file s x
unfolding folder_of_file
place_seen s x = ap (λ o. elim o as (λ o. ℕ) [ None ↦ 0 | Some e ↦ e.folder ]) (file_seen s x) ∙ folder_in (file_entry s x)

depth_seen : (s : Store) (f : ℕ) → depth_of (public_of s) (folder_node f) ≡ depth_of s (folder_node f)
unfolding public_of tree_store depth_of node_names folder_names way_to_root folder_node
depth_seen s f = depth_named s nameless f

child_seen : (s : Store) (f : ℕ) → has_child (public_of s) f ≡ has_child s f
unfolding public_of tree_store has_child
child_seen s f = child_named s nameless f

within_seen : (s : Store) (f above : ℕ) → is_within (public_of s) f above ≡ is_within s f above
unfolding public_of tree_store is_within way_to_root
within_seen s f above = within_named s nameless f above

height_seen : (s : Store) (f : ℕ) → height_of (public_of s) (Some (folder_node f)) ≡ height_of s (Some (folder_node f))
unfolding public_of tree_store height_of deepest is_node_within nodes_of depth_of node_names folder_names file_names way_to_root folder_node file_node file_entry is_within
height_seen s f = height_named s nameless f

-- ---- the conditions

depth_left_seen : (s : Store) (f : ℕ) → has_depth_left (public_of s) f ≡ has_depth_left s f
unfolding has_depth_left
depth_left_seen s f = λ i. folder_stands_seen s f i && nat_lt (depth_seen s f i) 64

other_folder_seen : (s : Store) (f : ℕ) → is_other_folder (public_of s) f ≡ is_other_folder s f
unfolding is_other_folder
other_folder_seen s f = ap (λ b. b && not (f == 1)) (folder_stands_seen s f)

go_into_seen : (s : Store) (g q : ℕ) → may_go_into (public_of s) g q ≡ may_go_into s g q
unfolding may_go_into
go_into_seen s g q = λ i.
    other_folder_seen s g i && folder_stands_seen s q i
    && not (parent_seen s g i == q) && not (within_seen s q g i)
    && nat_le (depth_seen s q i + 1 + height_seen s g i) 64

file_there_seen : (s : Store) (file : Option ℕ) → is_file_there (public_of s) file ≡ is_file_there s file
unfolding is_file_there
file_there_seen s None = refl
file_there_seen s (Some x) = file_stands_seen s x

granted_seen : (strict : Bool) (s : Store) (f : ℕ) → may_be_granted strict (public_of s) f ≡ may_be_granted strict s f
unfolding may_be_granted clear_stands
granted_seen strict s f = λ i. folder_stands_seen s f i || (strict && file_there_seen s (file_of f) i)

row_seen : (strict : Bool) (s : Store) (note : Note) → row_fits strict (public_of s) note ≡ row_fits strict s note
unfolding row_fits public_of has_grant
row_seen strict s Root = refl
row_seen strict s (NewHolder h check) = refl
row_seen strict s (NewFolder f p) = ap (λ b. is_next_below f s.folders_made && b) (depth_left_seen s p)
row_seen strict s (NewFile x f) = ap (λ b. is_next_below x s.files_made && b) (depth_left_seen s f)
row_seen strict s (Rewrite x) = file_stands_seen s x
row_seen strict s (NameFile x) = file_stands_seen s x
row_seen strict s (NameFolder f) = other_folder_seen s f
row_seen strict s (DropFile x) = file_stands_seen s x
row_seen strict s (DropFolder f) = λ i. other_folder_seen s f i && not (child_seen s f i)
row_seen strict s (ShiftFile x g) = λ i. file_stands_seen s x i && depth_left_seen s g i && not (place_seen s x i == g)
row_seen strict s (ShiftFolder g q) = go_into_seen s g q
row_seen strict s (Give h f) = λ i. holder_stands_seen s h i && granted_seen strict s f i && not (has_grant s h f)
row_seen strict s (Take h f) = refl
row_seen strict s StrictRoot = refl
row_seen strict s Upgrade = refl

pub fits_seen : (strict : Bool) (s : Store) (note : Note) → fits strict (public_of s) note ≡ fits strict s note
unfolding fits
fits_seen strict s note = λ i. row_seen strict s note i && (not (needs_root note) || folder_stands_seen s 1 i)
