-- Printed lines, each ended by the byte 0x0a. This project's own, docs/PROGRAM.md, "Lines".
use Rattle.std.specs.Prelude.{ℕ, List, [], ◌∷◌, ◌++◌, codes, decimal}
use Rattle.cry_base.specs.Texts.{hex_of}
use Rattle.cry_base.specs.declared.client.Line.{Line}
use Rattle.cry_base.specs.declared.client.Line.TheVariants.{Ancestor, Folder, File}
use Rattle.cry_base.specs.declared.commands.Refusal.{Refusal}
use Rattle.cry_base.specs.declared.commands.Reply.{Reply}
use Rattle.cry_base.specs.declared.commands.Reply.TheVariants.{Done, Made, Refused}
use Rattle.cry_base.specs.Refusals.{word_of}

-- an owner's key
unfoldable pub owner_line : List ℕ → List ℕ
owner_line key = codes "owner " ++ (hex_of key ++ 10 ∷ [])

-- a word and a path
unfoldable pub path_line : List ℕ → List ℕ → List ℕ
path_line word path = word ++ (path ++ 10 ∷ [])

-- a path and a file's bytes, with the space between them where there are none too
unfoldable pub file_line : List ℕ → List ℕ → List ℕ
file_line path bytes = codes "file " ++ (path ++ (32 ∷ (hex_of bytes ++ 10 ∷ [])))

-- one line of a view
abbrev pub spell_line : Line → List ℕ
spell_line (Ancestor path) = path_line (codes "ancestor ") path.items
spell_line (Folder path) = path_line (codes "folder ") path.items
spell_line (File path bytes) = file_line path.items bytes.items

-- a holder that was made, by number and key
unfoldable pub holder_line : ℕ → List ℕ → List ℕ
holder_line holder key = codes "holder " ++ (decimal holder ++ (32 ∷ (hex_of key ++ 10 ∷ [])))

-- a log's head: how many batches it has, and the root over its leaves
unfoldable pub head_line : ℕ → List ℕ → List ℕ
head_line batches root = codes "head " ++ (decimal batches ++ (58 ∷ (hex_of root ++ 10 ∷ [])))

-- a hash of a proof
unfoldable pub node_line : List ℕ → List ℕ
node_line hash = codes "node " ++ (hex_of hash ++ 10 ∷ [])

-- a command that was refused
unfoldable pub refused_line : Refusal → List ℕ
refused_line why = codes "refused " ++ (word_of why ++ 10 ∷ [])

-- what a command is answered
abbrev pub spell_reply : Reply → List ℕ
spell_reply Done = codes "ok" ++ 10 ∷ []
spell_reply (Made holder key) = holder_line holder.0 key
spell_reply (Refused why) = refused_line why
