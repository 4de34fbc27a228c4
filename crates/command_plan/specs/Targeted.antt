-- What a command refuses, notes, seals and names, by what it found. This project's own, docs/FORMAT.md, "Notes and
-- payloads" and "Records".
use Rattle.std.specs.Prelude.{◌≤◌, ◌<◌, ℕ, ◌+◌, true, false, List, [], length, replicate, Option, Some, None}
use Rattle.cry_base.specs.Clearances.{clear_base}
use Rattle.cry_base.specs.Limits.{most_name_bytes}
use Rattle.cry_base.specs.Refusing.{granted_id}
use Rattle.cry_base.specs.Store.{Store}
use Rattle.cry_base.specs.declared.commands.Refusal.{Refusal}
use Rattle.cry_base.specs.declared.roles.Node.{Node}
use Rattle.cry_base.specs.declared.roles.Node.TheVariants.{Folder, File}
use Rattle.folder_nodes.specs.Targets.{file_found}
use Rattle.folder_nodes.specs.Titles.{Titles, bytes_in, title_at}
use Rattle.folder_nodes.specs.declared.targets.Target.{Target}
use Rattle.folder_nodes.specs.declared.targets.Target.TheVariants.{AddHolder, MakeFolder, WriteFile, Remove, Rename}
use Rattle.folder_nodes.specs.declared.targets.Target.TheVariants.{Relocate, Grant, Revoke}
use Rattle.grant_book.specs.Granted.{Granted}
use Rattle.grant_book.specs.Refused.{refusal_of_grant}
use Rattle.journal_bytes.specs.Texting.{file_text}
use Rattle.move_plan.specs.Noting.{move_note, remove_note, rename_note, write_note}
use Rattle.record_format.specs.Noted.{Note}
use Rattle.record_format.specs.Noted.Note.{Give, NewFolder, NewHolder, Take}
use Rattle.command_plan.specs.NameChanges.{IsForgetting, IsKeeping, IsRenaming, IsSetting, IsWriting}
use Rattle.command_plan.specs.declared.name_change.NameChange.{NameChange}

-- a file that is granted has a clearance number
abbrev pub IsNumbered : Node → Type 0
IsNumbered (Folder f) = Unit {0}
IsNumbered (File x) = x.0 < clear_base

abbrev pub HasNumber : Target → Type 0
HasNumber AddHolder = Unit {0}
HasNumber (MakeFolder parent name) = Unit {0}
HasNumber (WriteFile folder file name bytes) = Unit {0}
HasNumber (Remove node) = Unit {0}
HasNumber (Rename node name) = Unit {0}
HasNumber (Relocate node into) = Unit {0}
HasNumber (Grant holder node) = IsNumbered node
HasNumber (Revoke holder node) = IsNumbered node

-- why the grants refuse it
abbrev pub refusal_to : Granted → Target → Option Refusal
refusal_to g AddHolder = None
refusal_to g (MakeFolder parent name) = None
refusal_to g (WriteFile folder file name bytes) = None
refusal_to g (Remove node) = None
refusal_to g (Rename node name) = None
refusal_to g (Relocate node into) = None
refusal_to g (Grant holder node) = refusal_of_grant g.checks g.pairs true holder.0 (granted_id (Some node))
refusal_to g (Revoke holder node) = refusal_of_grant g.checks g.pairs false holder.0 (granted_id (Some node))

-- its note, with no check yet, in a tree that made so many folders and files, where so many holders were made
abbrev pub note_to : Store → ℕ → Target → Note
note_to tree holders AddHolder = NewHolder (holders + 1) (replicate 32 0)
note_to tree holders (MakeFolder parent name) = NewFolder (tree.folders_made + 1) parent.0
note_to tree holders (WriteFile folder file name bytes) = write_note tree (file_found file) folder.0
note_to tree holders (Remove node) = remove_note (Some node)
note_to tree holders (Rename node name) = rename_note (Some node)
note_to tree holders (Relocate node into) = move_note (Some node) into.0
note_to tree holders (Grant holder node) = Give holder.0 (granted_id (Some node))
note_to tree holders (Revoke holder node) = Take holder.0 (granted_id (Some node))

-- the name that it gives, where that is sealed with bytes behind it, has a length of one byte
abbrev pub HasShortName : Target → Type 0
HasShortName AddHolder = Unit {0}
HasShortName (MakeFolder parent name) = Unit {0}
HasShortName (WriteFile folder file name bytes) = length name.now ≤ most_name_bytes
HasShortName (Remove node) = Unit {0}
HasShortName (Rename node name) = length name.now ≤ most_name_bytes
HasShortName (Relocate node into) = Unit {0}
HasShortName (Grant holder node) = Unit {0}
HasShortName (Revoke holder node) = Unit {0}

-- the text that it seals, but for a new holder's key
abbrev pub text_to : Titles → Target → List ℕ
text_to names AddHolder = []
text_to names (MakeFolder parent name) = name.now
text_to names (WriteFile folder file name bytes) = file_text name.now bytes.now
text_to names (Remove node) = []
text_to names (Rename (Folder f) name) = name.now
text_to names (Rename (File x) name) = file_text name.now (bytes_in (title_at names.files x.0))
text_to names (Relocate node into) = []
text_to names (Grant holder node) = []
text_to names (Revoke holder node) = []

-- the key that it seals, where it makes a holder
abbrev pub key_to : Target → List ℕ → List ℕ
key_to AddHolder key = key
key_to (MakeFolder parent name) key = []
key_to (WriteFile folder file name bytes) key = []
key_to (Remove node) key = []
key_to (Rename node name) key = []
key_to (Relocate node into) key = []
key_to (Grant holder node) key = []
key_to (Revoke holder node) key = []

-- the change of the names that it asks for
abbrev pub IsNameChangeTo : Store → Titles → Target → NameChange → Type 0
IsNameChangeTo tree names AddHolder change = IsKeeping change
IsNameChangeTo tree names (MakeFolder parent name) change = IsSetting change (Folder (record { 0 = tree.folders_made + 1 })) name.now []
IsNameChangeTo tree names (WriteFile folder file name bytes) change = IsWriting change tree.files_made (file_found file) name.now bytes.now
IsNameChangeTo tree names (Remove node) change = IsForgetting change node
IsNameChangeTo tree names (Rename node name) change = IsRenaming change names (Some node) name.now
IsNameChangeTo tree names (Relocate node into) change = IsKeeping change
IsNameChangeTo tree names (Grant holder node) change = IsKeeping change
IsNameChangeTo tree names (Revoke holder node) change = IsKeeping change
