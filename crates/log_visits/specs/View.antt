-- What whoever looks is shown of a store. This project's own, docs/PROGRAM.md, "What is printed".
use Rattle.std.specs.Prelude.{[], ◌∷◌, ◌≡◌, ◌⊎◌, IsFalse, ℕ, true, false, List, ◌++◌, map, filter, codes}
use Rattle.cry_base.specs.Naming.{spell_path}
use Rattle.cry_base.specs.Sets.{In}
use Rattle.cry_base.specs.Store.{Store, FolderEntry, FileEntry, folder_names, file_names}
use Rattle.cry_base.specs.Texts.{hex_of, ended_lines, bytes_before}
use Rattle.role_graph.specs.Edges.{in_order}
use Rattle.role_graph.specs.Rights.{Who, IsFileAllowedTo, IsNamedTo, allowed_to, file_allowed_to, named_to}

-- a line of a view: a folder that is named and not allowed, one that is allowed, or a file that is allowed
pub data Line : Type 0 where
  AncestorLine : (path : List ℕ) → Line
  FolderLine : (path : List ℕ) → Line
  FileLine : (path bytes : List ℕ) → Line

-- the path that a line shows
unfoldable pub line_path : Line → List ℕ
line_path (AncestorLine path) = path
line_path (FolderLine path) = path
line_path (FileLine path bytes) = path

-- the line of a folder that is named
unfoldable pub folder_line : Store → Who → FolderEntry → Line
folder_line s who e = elim (allowed_to s who e.id)
    [ true ↦ FolderLine (spell_path (folder_names s e.id)) | false ↦ AncestorLine (spell_path (folder_names s e.id)) ]

-- the line of a file
unfoldable pub file_line : Store → FileEntry → Line
file_line s e = FileLine (spell_path (file_names s e)) e.bytes

-- the lines of the folders that are named and of the files that are allowed, by the bytes of their paths
unfoldable pub view : Store → Who → List Line
view s who = in_order (λ a b. bytes_before (line_path a) (line_path b)) (
    map (folder_line s who) (filter (λ e. named_to s who e.id) s.folders)
    ++ map (file_line s) (filter (file_allowed_to s who) s.files))

-- the line is that of a folder that is named, or of a file that is allowed
abbrev pub IsLine : Store → Who → Line → Type 0
IsLine s who l =
    ((f : FolderEntry) × In f s.folders × IsNamedTo s who f.id × (l ≡ folder_line s who f))
    ⊎ ((x : FileEntry) × In x s.files × IsFileAllowedTo s who x × (l ≡ file_line s x))

-- no line stands before one that comes earlier
abbrev pub Ascends : List Line → Type 0
Ascends [] = Unit {0}
Ascends (x ∷ []) = Unit {0}
Ascends (x ∷ y ∷ ys) = IsFalse (bytes_before (line_path y) (line_path x)) × Ascends (y ∷ ys)

-- a line as it is printed, without its end
unfoldable pub spell_line : Line → List ℕ
spell_line (AncestorLine path) = codes "ancestor " ++ path
spell_line (FolderLine path) = codes "folder " ++ path
spell_line (FileLine path bytes) = codes "file " ++ path ++ 32 ∷ hex_of bytes

-- the view as it is printed
unfoldable pub spell_view : List Line → List ℕ
spell_view lines = ended_lines (map spell_line lines)
