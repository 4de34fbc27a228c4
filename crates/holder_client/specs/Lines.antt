-- The lines of a view, without the room that their texts have beside their bytes.
use Rattle.std.specs.Prelude.{Bool, true, false, cond, List, [], ◌∷◌, ◌++◌, map}
use Rattle.std.specs.List.{flat_map}
use Rattle.cry_base.specs.Naming.{spell_path}
use Rattle.cry_base.specs.Store.{Store, folder_names}
use Rattle.cry_base.specs.Texts.{bytes_before}
use Rattle.cry_base.specs.declared.client.Line.{Line}
use Rattle.cry_base.specs.declared.client.Line.TheVariants as lines
use Rattle.cry_base.specs.Listed.{Listed}
use Rattle.holder_client.specs.declared.reading.ReadFile.{ReadFile}
use Rattle.log_visits.specs.declared.sights.Sight.{Sight}
use Rattle.log_visits.specs.View as model
use Rattle.role_graph.specs.Edges.{in_order}

abbrev pub plain_line : Line → model.Line
plain_line (lines.Ancestor path) = model.AncestorLine path.items
plain_line (lines.Folder path) = model.FolderLine path.items
plain_line (lines.File path bytes) = model.FileLine path.items bytes.items

abbrev pub plain_view : Listed Line → List model.Line
plain_view view = map plain_line view.items

-- the line of a folder that is named, and the list of it or of none; the line of a file that was read
abbrev pub sight_line : Store → Sight → model.Line
sight_line t x = elim x.allowed [
  | true ↦ model.FolderLine (spell_path (folder_names t x.folder.0))
  | false ↦ model.AncestorLine
      (spell_path (folder_names t x.folder.0))
]

abbrev pub lines_of : Store → Sight → List model.Line
lines_of t x = cond x.named (sight_line t x ∷ []) []

abbrev pub read_line : Store → ReadFile → model.Line
read_line t f = model.FileLine (spell_path (folder_names t f.row.folder.0 ++ f.name.items ∷ [])) f.bytes.items

-- one line comes before the other
abbrev pub is_before : model.Line → model.Line → Bool
is_before a b = bytes_before (model.line_path a) (model.line_path b)

-- the lines of what was opened
abbrev pub read_view : Store → List Sight → List ReadFile → List model.Line
read_view t sights files = in_order is_before (flat_map (lines_of t) sights ++ map (read_line t) files)
