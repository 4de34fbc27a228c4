-- The roles of records. This project's own, docs/FORMAT.md, "Kinds of links" and "Records".
use Rattle.std.specs.Prelude.{◌≡◌, ℕ, ◌==◌, Option, Some, find, if◌then◌else◌}
use Rattle.std.specs.Option.{option_map_or}
use Rattle.chacha_seal.specs.Keys.{KeyParts}
use Rattle.cry_base.specs.declared.roles.Role.{Role}
use Rattle.cry_base.specs.declared.roles.Role.TheVariants as role
use Rattle.kind_table.specs.declared.kinds.RoleKind.{RoleKind}
use Rattle.kind_table.specs.declared.kinds.RoleKind.TheVariants.{Owner, Holder, Clear, Sub, Back, Files, Data, File}
use Rattle.kind_table.specs.declared.eleven.TheConstants.{ELEVEN}
use Rattle.kind_table.specs.declared.table.Row.{Row}
use Rattle.key_links.specs.Opened.{StartsAt}
use Rattle.key_links.specs.Ringed.{Ringed, key_of}
use Rattle.record_format.specs.declared.content.ContentRecord.{ContentRecord}
use Rattle.record_format.specs.declared.link.LinkRecord.{LinkRecord}

-- the role of this kind for the folder, file or holder with this number
unfoldable pub role_with : RoleKind → ℕ → Role
role_with Owner id = role.Owner
role_with Holder id = role.Holder (record { 0 = id })
role_with Clear id = role.Clear (record { 0 = id })
role_with Sub id = role.Sub (record { 0 = id })
role_with Back id = role.Back (record { 0 = id })
role_with Files id = role.Files (record { 0 = id })
role_with Data id = role.Data (record { 0 = id })
role_with File id = role.File (record { 0 = id })

-- the row of links with this number
unfoldable pub row_numbered : ℕ → Option Row
row_numbered number = find (λ r. r.number == number) ELEVEN.rows

-- the kinds of keys that these links lead from and to
unfoldable pub kind_from : ℕ → RoleKind
kind_from number = option_map_or (λ r. r.from) (row_numbered number) Owner

unfoldable pub kind_to : ℕ → RoleKind
kind_to number = option_map_or (λ r. r.to) (row_numbered number) Owner

-- the roles that a link leads from and to
abbrev pub source_role : LinkRecord → Role
source_role r = role_with (kind_from r.kind) r.from_id

abbrev pub target_role : LinkRecord → Role
target_role r = role_with (kind_to r.kind) r.to_id

-- the ring has the key that the link leads on from
abbrev pub HasSource : Ringed → LinkRecord → Type 0
HasSource ring r = (key : KeyParts) × (key_of ring (source_role r) ≡ Some key) × StartsAt r.kind key r

-- the role whose key seals the contents of this kind for a folder, file or holder: 1 a folder's name, 2 a file, 3 a
-- holder's key
abbrev pub sealing_role : ℕ → ℕ → Role
sealing_role kind object = if kind == 1 then role.Data (record { 0 = object }) else
    (if kind == 2 then role.File (record { 0 = object }) else role.Owner)

-- the ring has a key for the role whose key seals contents like this one. No serial is asked for: what opens it is the key
abbrev pub HasSealing : Ringed → ContentRecord → Type 0
HasSealing ring r = (key : KeyParts) × (key_of ring (sealing_role r.kind r.object) ≡ Some key)
