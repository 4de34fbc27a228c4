-- What keys are for, without their numbers. This project's own, docs/FORMAT.md, "Kinds of links" and "Records".
use Rattle.std.specs.Prelude.{ℕ, Bool}
use denote.Enum.Bare.{sameb}
use Rattle.cry_base.specs.declared.roles.Role.{Role}
use Rattle.cry_base.specs.declared.roles.Role.TheVariants.{Owner, Holder, Clear, Sub, Back, Files, Data, File}
use Rattle.kind_table.specs.contracts.kinds.RoleKind.{the_type}
use Rattle.kind_table.specs.declared.kinds.RoleKind.{RoleKind}
use Rattle.kind_table.specs.declared.kinds.RoleKind.TheVariants as kind

-- the kind of a role
unfoldable pub kind_of : Role → RoleKind
kind_of Owner = kind.Owner
kind_of (Holder h) = kind.Holder
kind_of (Clear f) = kind.Clear
kind_of (Sub f) = kind.Sub
kind_of (Back f) = kind.Back
kind_of (Files f) = kind.Files
kind_of (Data f) = kind.Data
kind_of (File x) = kind.File

-- the place of a kind in their order
unfoldable pub place_of : RoleKind → ℕ
place_of kind.Owner = 0
place_of kind.Holder = 1
place_of kind.Clear = 2
place_of kind.Sub = 3
place_of kind.Back = 4
place_of kind.Files = 5
place_of kind.Data = 6
place_of kind.File = 7

-- `==` of kinds
unfoldable pub same_kind : RoleKind → RoleKind → Bool
same_kind = sameb the_type
