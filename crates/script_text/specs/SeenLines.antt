-- The lines of an audit, each ended by the byte 0x0a. This project's own, docs/PROGRAM.md, "Lines".
use Rattle.std.specs.Prelude.{ℕ, List, [], ◌∷◌, ◌++◌, codes, decimal}
use Rattle.cry_base.specs.Texts.{hex_of}
use Rattle.cry_base.specs.declared.roles.Node.{Node}
use Rattle.cry_base.specs.declared.roles.Node.TheVariants.{Folder, File}
use Rattle.cry_base.specs.declared.client.Seen.{Seen}

-- a word, two numbers' digits and a name, with a space between them
unfoldable pub seen_front : List ℕ → List ℕ → List ℕ → List ℕ → List ℕ
seen_front word batch id name = word ++ (batch ++ (32 ∷ (id ++ (32 ∷ name))))

-- a folder's name, by the digits of its batch and its number
unfoldable pub seen_folder_line : List ℕ → List ℕ → List ℕ → List ℕ
seen_folder_line batch id name = seen_front (codes "folder ") batch id name ++ 10 ∷ []

-- and a file's, with its bytes
unfoldable pub seen_file_line : List ℕ → List ℕ → List ℕ → List ℕ → List ℕ
seen_file_line batch id name bytes = seen_front (codes "file ") batch id name ++ (32 ∷ (hex_of bytes ++ 10 ∷ []))

-- what is seen of a folder or a file: of a folder no bytes
abbrev pub seen_line : ℕ → Node → List ℕ → List ℕ → List ℕ
seen_line batch (Folder folder) name bytes = seen_folder_line (decimal batch) (decimal folder.0) name
seen_line batch (File file) name bytes = seen_file_line (decimal batch) (decimal file.0) name bytes

-- one line of an audit
abbrev pub spell_seen : Seen → List ℕ
spell_seen s = seen_line s.batch s.node s.name.items s.bytes.items
