-- A change of names and bytes that has its memory, made and to be made.
use Rattle.std.specs.Prelude.{◌≡◌, ℕ, ◌+◌, ◌≤◌, List, [], Option, None, Some}
use Rattle.cry_base.specs.Requests.{Request}
use Rattle.cry_base.specs.Requests.Request.{AddHolder, MakeFolder, WriteFile, Remove, Rename, Relocate, Grant, Revoke}
use Rattle.cry_base.specs.Store.{Store, node_at}
use Rattle.cry_base.specs.declared.roles.Node.{Node}
use Rattle.cry_base.specs.declared.roles.Node.TheVariants.{Folder, File}
use Rattle.folder_nodes.specs.Joining.{IsSet, IsForgotten}
use Rattle.folder_nodes.specs.Titles.{MayBeNamed, Titles, bytes_in, title_at}
use Rattle.journal_bytes.specs.Texting.{AreKept, name_at}
use Rattle.command_plan.specs.declared.name_change.NameChange.{NameChange}
use Rattle.command_plan.specs.declared.name_change.NameChange.TheVariants.{Keep, Set, Forget}

-- there is room for the name, which is one
abbrev pub CanChangeNames : NameChange → Titles → Type 0
CanChangeNames Keep old = Unit {0}
CanChangeNames (Set node name bytes) old = (1 ≤ old.spare) × MayBeNamed name.items
CanChangeNames (Forget node) old = Unit {0}

-- the names and bytes once the change was made
abbrev pub AreNamesChanged : NameChange → Titles → Titles → Type 0
AreNamesChanged Keep old new = AreKept old new
AreNamesChanged (Set node name bytes) old new = IsSet old new node name.items bytes.items
AreNamesChanged (Forget node) old new = IsForgotten old new node

-- the change sets this name and these bytes, changes nothing, takes the node's name out
abbrev pub IsSetting : NameChange → Node → List ℕ → List ℕ → Type 0
IsSetting Keep node name bytes = ⊥
IsSetting (Set at text content) node name bytes = (at ≡ node) × (text.items ≡ name) × (content.items ≡ bytes)
IsSetting (Forget at) node name bytes = ⊥

abbrev pub IsKeeping : NameChange → Type 0
IsKeeping Keep = Unit {0}
IsKeeping (Set at text content) = ⊥
IsKeeping (Forget at) = ⊥

abbrev pub IsForgetting : NameChange → Node → Type 0
IsForgetting Keep node = ⊥
IsForgetting (Set at text content) node = ⊥
IsForgetting (Forget at) node = at ≡ node

-- the change for a write, for a removal and for a new name of what a path finds
abbrev pub IsWriting : NameChange → ℕ → Option Node → List ℕ → List ℕ → Type 0
IsWriting change made None name bytes = IsSetting change (File (record { 0 = made + 1 })) name bytes
IsWriting change made (Some (Folder f)) name bytes = IsKeeping change
IsWriting change made (Some (File x)) name bytes = IsSetting change (File x) name bytes

abbrev pub IsRemoving : NameChange → Option Node → Type 0
IsRemoving change None = IsKeeping change
IsRemoving change (Some node) = IsForgetting change node

abbrev pub IsRenaming : NameChange → Titles → Option Node → List ℕ → Type 0
IsRenaming change old None name = IsKeeping change
IsRenaming change old (Some (Folder f)) name = IsSetting change (Folder f) name []
IsRenaming change old (Some (File x)) name = IsSetting change (File x) name (bytes_in (title_at old.files x.0))

-- the change that a command asks for in a store whose names these are
abbrev pub IsNameChangeOf : Store → Request → Titles → NameChange → Type 0
IsNameChangeOf s AddHolder old change = IsKeeping change
IsNameChangeOf s (MakeFolder path) old change = IsSetting change (Folder (record { 0 = s.folders_made + 1 })) (name_at path) []
IsNameChangeOf s (WriteFile path bytes) old change = IsWriting change s.files_made (node_at s path) (name_at path) bytes
IsNameChangeOf s (Remove path) old change = IsRemoving change (node_at s path)
IsNameChangeOf s (Rename path name) old change = IsRenaming change old (node_at s path) name
IsNameChangeOf s (Relocate path into) old change = IsKeeping change
IsNameChangeOf s (Grant h path) old change = IsKeeping change
IsNameChangeOf s (Revoke h path) old change = IsKeeping change
