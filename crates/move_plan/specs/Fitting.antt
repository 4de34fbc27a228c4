-- Which notes fit a store. This project's own, docs/FORMAT.md, "The key step".
use Rattle.std.specs.Prelude.{ℕ, ◌+◌, Bool, true, false, not, ◌&&◌, ◌||◌, nat_lt, nat_le, ◌==◌, is_some, Option, Some, None, [], map}
use Rattle.cry_base.specs.Clearances.{clear_base, file_of}
use Rattle.cry_base.specs.Limits.{most_depth}
use Rattle.cry_base.specs.Refusing.{has_child, height_of}
use Rattle.cry_base.specs.Store.{Store, FolderEntry, FileEntry, HolderEntry, folder_node, folder_entry, file_entry, holder_entry, has_grant}
use Rattle.cry_base.specs.Store.{depth_of, is_within}
use Rattle.record_format.specs.Noted.{Note}
use Rattle.record_format.specs.Noted.Note.{Root, NewHolder, NewFolder, NewFile, Rewrite, NameFile, NameFolder, DropFile, DropFolder}
use Rattle.record_format.specs.Noted.Note.{ShiftFile, ShiftFolder, Give, Take, StrictRoot, Upgrade}
use Rattle.move_plan.specs.Change.{folder_of_file, parent_of_folder}

-- the folder stands, and something may be put into it; the file stands
unfoldable pub folder_stands : Store → ℕ → Bool
folder_stands s f = is_some (folder_entry s f)

unfoldable pub has_depth_left : Store → ℕ → Bool
has_depth_left s f = folder_stands s f && nat_lt (depth_of s (folder_node f)) most_depth

unfoldable pub file_stands : Store → ℕ → Bool
file_stands s x = is_some (file_entry s x)

-- the number is the clearance number of a file that stands
unfoldable pub is_file_there : Store → Option ℕ → Bool
is_file_there s None = false
is_file_there s (Some x) = file_stands s x

unfoldable pub clear_stands : Store → ℕ → Bool
clear_stands s f = is_file_there s (file_of f)

-- something with the number may be granted: a folder, and in a store of version 2 a file
unfoldable pub may_be_granted : Bool → Store → ℕ → Bool
may_be_granted strict s f = folder_stands s f || (strict && clear_stands s f)

-- the number is the next one, and no clearance number
unfoldable pub is_next_below : ℕ → ℕ → Bool
is_next_below number made = number == made + 1 && nat_lt number clear_base

-- the root is folder 1
unfoldable pub is_other_folder : Store → ℕ → Bool
is_other_folder s f = folder_stands s f && not (f == 1)

-- the folder g, with all below it, may go into q
unfoldable pub may_go_into : Store → ℕ → ℕ → Bool
may_go_into s g q =
    is_other_folder s g && folder_stands s q
    && not (parent_of_folder s g == q) && not (is_within s q g)
    && nat_le (depth_of s (folder_node q) + 1 + height_of s (Some (folder_node g))) most_depth

-- the condition of each note, as the table in docs/FORMAT.md says, where the root stands. A store is strict where it has version 2
unfoldable pub row_fits : Bool → Store → Note → Bool
row_fits strict s Root = s.folders_made == 0
row_fits strict s (NewHolder h check) = h == s.holders_made + 1
row_fits strict s (NewFolder f p) = is_next_below f s.folders_made && has_depth_left s p
row_fits strict s (NewFile x f) = is_next_below x s.files_made && has_depth_left s f
row_fits strict s (Rewrite x) = file_stands s x
row_fits strict s (NameFile x) = file_stands s x
row_fits strict s (NameFolder f) = is_other_folder s f
row_fits strict s (DropFile x) = file_stands s x
row_fits strict s (DropFolder f) = is_other_folder s f && not (has_child s f)
row_fits strict s (ShiftFile x g) = file_stands s x && has_depth_left s g && not (folder_of_file s x == g)
row_fits strict s (ShiftFolder g q) = may_go_into s g q
row_fits strict s (Give h f) = is_some (holder_entry s h) && may_be_granted strict s f && not (has_grant s h f)
row_fits strict s (Take h f) = has_grant s h f
row_fits strict s StrictRoot = s.folders_made == 0
row_fits strict s Upgrade = not strict

-- the note fits the store: every note but the two that make the root needs that it stands
unfoldable pub needs_root : Note → Bool
needs_root Root = false
needs_root StrictRoot = false
needs_root note = true

unfoldable pub fits : Bool → Store → Note → Bool
fits strict s note = row_fits strict s note && (not (needs_root note) || folder_stands s 1)

-- the store as everyone may see it: no name, no bytes of a file, no holder's key
unfoldable pub public_of : Store → Store
public_of s = record s {
  folders = map (λ (e : FolderEntry). record e { name = [] }) s.folders;
  files = map (λ (e : FileEntry). record e { name = []; bytes = [] }) s.files;
  holders = map (λ (e : HolderEntry). record e { key = [] }) s.holders;
}
