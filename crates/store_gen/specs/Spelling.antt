-- How a command's line is spelled. Where the grammar leaves a choice, digits are in lower case, and the space before a
-- file's bytes stands. This project's own, docs/PROGRAM.md, "Lines".
use Rattle.std.specs.Prelude.{ℕ, List, ◌∷◌, ◌++◌, codes, decimal}
use Rattle.cry_base.specs.Texts.{hex_of}
use Rattle.cry_base.specs.Requests.{Request}
use Rattle.cry_base.specs.Requests.Request.{AddHolder, MakeFolder, WriteFile, Remove, Rename, Relocate, Grant, Revoke}

-- the line, without its newline
abbrev pub spelled : Request → List ℕ
spelled AddHolder = codes "holder"
spelled (MakeFolder path) = codes "mkdir " ++ path
spelled (WriteFile path bytes) = codes "write " ++ (path ++ 32 ∷ hex_of bytes)
spelled (Remove path) = codes "rm " ++ path
spelled (Rename path name) = codes "rename " ++ (path ++ 32 ∷ name)
spelled (Relocate path into) = codes "move " ++ (path ++ 32 ∷ into)
spelled (Grant holder path) = codes "grant " ++ (decimal holder ++ 32 ∷ path)
spelled (Revoke holder path) = codes "revoke " ++ (decimal holder ++ 32 ∷ path)
