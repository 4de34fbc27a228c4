-- What a command publishes, by serials and not by bytes. This project's own, docs/FORMAT.md, "Records".
use Rattle.std.specs.Prelude.{ℕ, cond, ◌==◌, List, [], ◌∷◌, ◌++◌, length, Some, None}
use Rattle.cry_base.specs.Store.{Store, folder_entry, file_entry, holder_entry}
use Rattle.cry_base.specs.declared.roles.Edge.{Edge}
use Rattle.cry_base.specs.declared.roles.Role.{Role}
use Rattle.cry_base.specs.declared.roles.Role.TheVariants.{Owner}
use Rattle.role_graph.specs.Roles.{data_of, file_role}
use Rattle.record_format.specs.Noted.{Note}
use Rattle.record_format.specs.Noted.Note.{Root, NewHolder, NewFolder, NewFile, Rewrite, NameFile, NameFolder, DropFile, DropFolder}
use Rattle.record_format.specs.Noted.Note.{ShiftFile, ShiftFolder, Give, Take, StrictRoot, Upgrade}

-- the key of to_serial sealed under the key of from_serial
pub record Link : Type 0 where
  pub edge : Edge
  pub from_serial : ℕ
  pub to_serial : ℕ
  pub nonce : ℕ

-- what is due to be sealed: kind 1 a folder's name, 2 a file's name and bytes, 3 a holder's key (its bytes)
pub record Piece : Type 0 where
  pub kind : ℕ
  pub object : ℕ
  pub name : List ℕ
  pub bytes : List ℕ

-- a piece sealed under the key of key_serial
pub record Content : Type 0 where
  pub piece : Piece
  pub key_serial : ℕ
  pub nonce : ℕ

-- the name, the file and the holder's key as they stand in a store
unfoldable pub folder_piece : Store → ℕ → List Piece
folder_piece s f = elim (folder_entry s f) [ None ↦ [] | Some e ↦ record { kind = 1; object = f; name = e.name; bytes = [] } ∷ [] ]

unfoldable pub file_piece : Store → ℕ → List Piece
file_piece s x = elim (file_entry s x) [ None ↦ [] | Some e ↦ record { kind = 2; object = x; name = e.name; bytes = e.bytes } ∷ [] ]

unfoldable pub holder_piece : Store → ℕ → List Piece
holder_piece s h = elim (holder_entry s h) [ None ↦ [] | Some e ↦ record { kind = 3; object = h; name = []; bytes = e.key } ∷ [] ]

-- what a note's command seals, from the store after it
unfoldable pub pieces_of : Note → Store → List Piece
pieces_of Root s = folder_piece s 1
pieces_of (NewHolder h check) s = holder_piece s h
pieces_of (NewFolder f p) s = folder_piece s f
pieces_of (NewFile x f) s = file_piece s x
pieces_of (Rewrite x) s = file_piece s x
pieces_of (NameFile x) s = file_piece s x
pieces_of (NameFolder f) s = folder_piece s f
pieces_of (DropFile x) s = []
pieces_of (DropFolder f) s = []
pieces_of (ShiftFile x g) s = []
pieces_of (ShiftFolder g q) s = []
pieces_of (Give h f) s = []
pieces_of (Take h f) s = []
pieces_of StrictRoot s = folder_piece s 1
pieces_of Upgrade s = []

-- the role whose key seals a piece
unfoldable pub sealing_role : Piece → Role
sealing_role p = cond (p.kind == 1) (data_of p.object) (cond (p.kind == 2) (file_role p.object) Owner)

-- the text that is sealed: a file's name comes with its length as one byte before it
unfoldable pub text_of : Piece → List ℕ
text_of p = cond (p.kind == 1) p.name (cond (p.kind == 2) (length p.name ∷ p.name ++ p.bytes) p.bytes)
