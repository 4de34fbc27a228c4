-- Which keys seal texts. This project's own, docs/FORMAT.md, "Records".
use Rattle.std.specs.Prelude.{ℕ, Option, Some, None}
use Rattle.kind_table.specs.declared.kinds.RoleKind.{RoleKind}
use Rattle.kind_table.specs.declared.kinds.RoleKind.TheVariants.{Owner, Data, File}

-- the kind of content that a kind of key seals: a folder's name, a file, a holder's key; the other kinds seal none
abbrev pub content_of : RoleKind → Option ℕ
content_of Data = Some 1
content_of File = Some 2
content_of Owner = Some 3
content_of _ = None
