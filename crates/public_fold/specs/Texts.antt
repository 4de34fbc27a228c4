-- Which texts were published. This project's own, docs/FORMAT.md, "Records".
use Rattle.std.specs.Prelude.{◌≡◌, ℕ, List}
use Rattle.cry_base.specs.Sets.{In}
use Rattle.cry_base.specs.Store.{Store, FolderEntry, FileEntry, HolderEntry}
use Rattle.public_fold.specs.Records.{Content}

-- there is a content of the kind for the object
abbrev pub HasContent : List Content → ℕ → ℕ → Type 0
HasContent contents kind object = (c : Content) × In c contents × (c.piece.kind ≡ kind) × (c.piece.object ≡ object)

-- each folder that stands has one with its name, each file one with its name and bytes, each holder one with its key
pub record AreWritten (s : Store) (contents : List Content) : Type 0 where
  pub folders : (e : FolderEntry) → In e s.folders → HasContent contents 1 e.id
  pub files : (x : FileEntry) → In x s.files → HasContent contents 2 x.id
  pub holders : (h : HolderEntry) → In h s.holders → HasContent contents 3 h.number
