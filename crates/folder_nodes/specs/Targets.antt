-- What a command finds in a tree.
use Rattle.std.specs.Prelude.{◌≡◌, ℕ, List, Option, Some, None, Result, Ok, Err}
use Rattle.std.specs.Borrow.{Bor}
use Rattle.cry_base.specs.Naming.{last_name, names_of, parent_path}
use Rattle.cry_base.specs.Requests.{Request}
use Rattle.cry_base.specs.Requests.Request.{AddHolder, MakeFolder, WriteFile, Remove, Rename, Relocate, Grant, Revoke}
use Rattle.cry_base.specs.Store.{Store, node_at}
use Rattle.cry_base.specs.declared.commands.Refusal.{Refusal}
use Rattle.cry_base.specs.declared.ids.FileId.{FileId}
use Rattle.cry_base.specs.declared.ids.FolderId.{FolderId}
use Rattle.cry_base.specs.declared.ids.HolderId.{HolderId}
use Rattle.cry_base.specs.declared.roles.Node.{Node}
use Rattle.cry_base.specs.declared.roles.Node.TheVariants.{Folder, File}
use Rattle.folder_nodes.specs.declared.targets.Target.{Target}
use Rattle.folder_nodes.specs.declared.targets.Target.TheVariants as targets

-- why a command is refused, where it is
abbrev pub why_of : {T : Type 0} → Result T Refusal → Option Refusal
why_of (Ok target) = None
why_of (Err why) = Some why

-- the file as what a path finds
abbrev pub file_found : Option FileId → Option Node
file_found None = None
file_found (Some x) = Some (File x)

-- what the paths of a request find in the store, with the name that it gives and the bytes
pub data IsTargetOf (s : Store) : Request → Target → Type 0 where
  AddsHolder : IsTargetOf s AddHolder targets.AddHolder
  MakesFolder : {path : List ℕ} {parent : FolderId} {name : Bor (List ℕ)} →
      node_at s (parent_path path) ≡ Some (Folder parent) → name.now ≡ last_name (names_of path)
      → IsTargetOf s (MakeFolder path) (targets.MakeFolder parent name)
  WritesFile : {path : List ℕ} {folder : FolderId} {file : Option FileId} {name bytes : Bor (List ℕ)} →
      node_at s (parent_path path) ≡ Some (Folder folder) → node_at s path ≡ file_found file → name.now ≡ last_name (names_of path)
      → IsTargetOf s (WriteFile path bytes.now) (targets.WriteFile folder file name bytes)
  Removes : {path : List ℕ} {node : Node} → node_at s path ≡ Some node → IsTargetOf s (Remove path) (targets.Remove node)
  Renames : {path : List ℕ} {node : Node} {name : Bor (List ℕ)} → node_at s path ≡ Some node
      → IsTargetOf s (Rename path name.now) (targets.Rename node name)
  Relocates : {path into : List ℕ} {node : Node} {folder : FolderId} → node_at s path ≡ Some node → node_at s into ≡ Some (Folder folder)
      → IsTargetOf s (Relocate path into) (targets.Relocate node folder)
  Grants : {path : List ℕ} {holder : HolderId} {node : Node} → node_at s path ≡ Some node
      → IsTargetOf s (Grant holder.0 path) (targets.Grant holder node)
  Revokes : {path : List ℕ} {holder : HolderId} {node : Node} → node_at s path ≡ Some node
      → IsTargetOf s (Revoke holder.0 path) (targets.Revoke holder node)
