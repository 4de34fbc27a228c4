-- A key is told by its kind and its parts.
use Rattle.std.proofs.Common.{◌≡◌, refl, sym, ap, ◌∙◌}
use Rattle.chacha_seal.specs.Keys.{KeyParts}
use Rattle.key_links.specs.declared.any_key.AnyKey.{AnyKey}
use Rattle.key_links.specs.declared.any_key.AnyKey.TheVariants.{Owner, Holder, Clear, Sub, Back, Files, Data, File}
use Rattle.key_links.specs.Ringed.{parts_of, role_of}
use Rattle.kind_table.specs.Kinds.{kind_of}
use Rattle.kind_table.specs.declared.kinds.RoleKind.{RoleKind}
use Rattle.kind_table.specs.declared.kinds.RoleKind.TheVariants as kind

-- the key of this kind with these parts
unfoldable pub wrap : RoleKind → KeyParts → AnyKey
wrap kind.Owner key = Owner key
wrap kind.Holder key = Holder key
wrap kind.Clear key = Clear key
wrap kind.Sub key = Sub key
wrap kind.Back key = Back key
wrap kind.Files key = Files key
wrap kind.Data key = Data key
wrap kind.File key = File key

wrapped : (key : AnyKey) → wrap (kind_of (role_of key)) (parts_of key) ≡ key
unfolding wrap kind_of role_of parts_of
wrapped (Owner key) = refl
wrapped (Holder key) = refl
wrapped (Clear key) = refl
wrapped (Sub key) = refl
wrapped (Back key) = refl
wrapped (Files key) = refl
wrapped (Data key) = refl
wrapped (File key) = refl

pub is_wrapped : (kind : RoleKind) (key : AnyKey) → kind_of (role_of key) ≡ kind → key ≡ wrap kind (parts_of key)
is_wrapped kind key is = sym (wrapped key) ∙ ap (λ k. wrap k (parts_of key)) is
