-- The keys of a ring, each for one role. This project's own, docs/FORMAT.md, "Records" and "Kinds of links".
use Rattle.std.specs.Prelude.{◌≡◌, ◌≢◌, ℕ, ◌+◌, ◌*◌, List, Option, Some, None}
use Rattle.std.specs.Option.{option_map}
use Rattle.chacha_seal.specs.Keys.{KeyParts}
use Rattle.cry_base.specs.declared.ids.Serial.{Serial}
use Rattle.cry_base.specs.declared.roles.Role.{Role}
use Rattle.cry_base.specs.declared.roles.Role.TheVariants as role
use Rattle.key_links.specs.declared.any_key.AnyKey.{AnyKey}
use Rattle.key_links.specs.declared.any_key.AnyKey.TheVariants.{Owner, Holder, Clear, Sub, Back, Files, Data, File}
use Rattle.sorted_table.specs.Rows.{row_at}

-- what contracts see of a ring: its keys, and how many more fit without memory
pub record Ringed : Type 0 where
  pub keys : List AnyKey
  pub spare : ℕ

-- the role that a key is for
unfoldable pub role_of : AnyKey → Role
role_of (Owner key) = role.Owner
role_of (Holder key) = role.Holder (record { 0 = key.id })
role_of (Clear key) = role.Clear (record { 0 = key.id })
role_of (Sub key) = role.Sub (record { 0 = key.id })
role_of (Back key) = role.Back (record { 0 = key.id })
role_of (Files key) = role.Files (record { 0 = key.id })
role_of (Data key) = role.Data (record { 0 = key.id })
role_of (File key) = role.File (record { 0 = key.id })

-- its number, serial and bytes
unfoldable pub parts_of : AnyKey → KeyParts
parts_of (Owner key) = key
parts_of (Holder key) = key
parts_of (Clear key) = key
parts_of (Sub key) = key
parts_of (Back key) = key
parts_of (Files key) = key
parts_of (Data key) = key
parts_of (File key) = key

-- a number of its own for each role
unfoldable pub rank_of : Role → ℕ
rank_of role.Owner = 0
rank_of (role.Holder h) = h.0 * 8 + 1
rank_of (role.Clear f) = f.0 * 8 + 2
rank_of (role.Sub f) = f.0 * 8 + 3
rank_of (role.Back f) = f.0 * 8 + 4
rank_of (role.Files f) = f.0 * 8 + 5
rank_of (role.Data f) = f.0 * 8 + 6
rank_of (role.File x) = x.0 * 8 + 7

-- that of a key is its role's
unfoldable pub key_rank : AnyKey → ℕ
key_rank key = rank_of (role_of key)

-- the key among these that is for the role
unfoldable pub found : List AnyKey → Role → Option AnyKey
found keys role = row_at key_rank keys (rank_of role)

-- the key that a ring has for a role
unfoldable pub key_of : Ringed → Role → Option KeyParts
key_of ring role = option_map parts_of (found ring.keys role)

-- the serial of that key
unfoldable pub serial_in : Ringed → Role → Option Serial
serial_in ring role = option_map (λ key. record { 0 = key.serial }) (key_of ring role)

-- the first ring is the second, but for this key, which it has for the role
pub record IsWithKey (new old : Ringed) (role : Role) (key : KeyParts) : Type 0 where
  pub here : key_of new role ≡ Some key
  pub others : (other : Role) → other ≢ role → key_of new other ≡ key_of old other

-- the first ring is the second, but without a key for the role
pub record IsWithoutKey (new old : Ringed) (role : Role) : Type 0 where
  pub gone : key_of new role ≡ None
  pub others : (other : Role) → other ≢ role → key_of new other ≡ key_of old other

-- the ring has this key for the role, and no other key
pub record IsAlone (ring : Ringed) (role : Role) (key : KeyParts) : Type 0 where
  pub here : key_of ring role ≡ Some key
  pub others : (other : Role) → other ≢ role → key_of ring other ≡ None
