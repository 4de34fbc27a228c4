-- What of a store the owner keeps beside its keys. This project's own, docs/MODEL.md.
use Rattle.std.specs.Prelude.{◌≡◌, true, false, Option, None}
use Rattle.cry_base.specs.Refusing.{granted_id}
use Rattle.cry_base.specs.Requests.{Request}
use Rattle.cry_base.specs.Requests.Request.{AddHolder, MakeFolder, WriteFile, Remove, Rename, Relocate, Grant, Revoke}
use Rattle.cry_base.specs.Store.{Store, node_at}
use Rattle.cry_base.specs.declared.commands.Refusal.{Refusal}
use Rattle.folder_nodes.specs.Titles.{Titles, tree_store}
use Rattle.grant_book.specs.Granted.{Granted}
use Rattle.grant_book.specs.Matching.{AreGrantsOf}
use Rattle.grant_book.specs.Refused.{refusal_of_grant}

-- the tree has the store's folders and files, and as many of each were ever made
pub record IsTreeOf (t s : Store) : Type 0 where
  pub folders : t.folders ≡ s.folders
  pub files : t.files ≡ s.files
  pub folders_made : t.folders_made ≡ s.folders_made
  pub files_made : t.files_made ≡ s.files_made

-- the tree with its names and bytes, and the grants in whatever order, are the store's
pub record IsStoreOf (t : Store) (names : Titles) (granted : Granted) (s : Store) : Type 0 where
  pub tree : IsTreeOf (tree_store t names) s
  pub grants : AreGrantsOf granted.checks granted.pairs s

-- why the grants refuse a command, where its path finds a folder or file of the tree
abbrev pub refusal_for_grants : Store → Granted → Request → Option Refusal
refusal_for_grants t g AddHolder = None
refusal_for_grants t g (MakeFolder path) = None
refusal_for_grants t g (WriteFile path bytes) = None
refusal_for_grants t g (Remove path) = None
refusal_for_grants t g (Rename path name) = None
refusal_for_grants t g (Relocate path into) = None
refusal_for_grants t g (Grant h path) = refusal_of_grant g.checks g.pairs true h (granted_id (node_at t path))
refusal_for_grants t g (Revoke h path) = refusal_of_grant g.checks g.pairs false h (granted_id (node_at t path))
