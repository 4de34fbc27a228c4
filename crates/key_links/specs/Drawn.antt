-- Keys that were drawn for a role. This project's own, docs/FORMAT.md, "Serials".
use Rattle.std.specs.Prelude.{ℕ, List}
use Rattle.chacha_seal.specs.Keys.{KeyParts}
use Rattle.cry_base.specs.declared.roles.Role.{Role}
use Rattle.cry_base.specs.declared.roles.Role.TheVariants as role
use Rattle.key_links.specs.declared.any_fresh.AnyFresh.{AnyFresh}
use Rattle.key_links.specs.declared.any_fresh.AnyFresh.TheVariants.{Holder, Clear, Sub, Back, Files, Data, File}

-- the role that a drawn key is for
unfoldable pub fresh_role : AnyFresh → Role
fresh_role (Holder key) = role.Holder (record { 0 = key.id })
fresh_role (Clear key) = role.Clear (record { 0 = key.id })
fresh_role (Sub key) = role.Sub (record { 0 = key.id })
fresh_role (Back key) = role.Back (record { 0 = key.id })
fresh_role (Files key) = role.Files (record { 0 = key.id })
fresh_role (Data key) = role.Data (record { 0 = key.id })
fresh_role (File key) = role.File (record { 0 = key.id })

-- its number, serial and bytes
unfoldable pub fresh_parts : AnyFresh → KeyParts
fresh_parts (Holder key) = key
fresh_parts (Clear key) = key
fresh_parts (Sub key) = key
fresh_parts (Back key) = key
fresh_parts (Files key) = key
fresh_parts (Data key) = key
fresh_parts (File key) = key

-- the number of a role's folder, file or holder, and 0 for the owner
unfoldable pub number_of : Role → ℕ
number_of role.Owner = 0
number_of (role.Holder h) = h.0
number_of (role.Clear f) = f.0
number_of (role.Sub f) = f.0
number_of (role.Back f) = f.0
number_of (role.Files f) = f.0
number_of (role.Data f) = f.0
number_of (role.File x) = x.0

-- the key of the role with these bytes
abbrev pub drawn_for : Role → ℕ → List ℕ → KeyParts
drawn_for role serial bytes = record { id = number_of role; serial = serial; bytes = bytes }
