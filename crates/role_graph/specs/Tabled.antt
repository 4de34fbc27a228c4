-- Edges as rows of the table of kinds.
use Rattle.cry_base.specs.declared.roles.Edge.{Edge}
use Rattle.kind_table.specs.Kinds.{kind_of}
use Rattle.kind_table.specs.Rows.{kinds_row}
use Rattle.kind_table.specs.declared.table.Row.{Row}

-- the edge's kind, with the kinds of the keys at its ends
unfoldable pub row_of : Edge → Row
row_of e = kinds_row e.kind (kind_of e.from) (kind_of e.to)
