-- What a checkpoint file says, without the room that lists have beside their items.
use Rattle.std.specs.Prelude.{List}
use Rattle.index_format.specs.declared.rows.CheckRow.{CheckRow}
use Rattle.index_format.specs.declared.rows.ContentRow.{ContentRow}
use Rattle.index_format.specs.declared.rows.FileRow.{FileRow}
use Rattle.index_format.specs.declared.rows.FolderRow.{FolderRow}
use Rattle.index_format.specs.declared.rows.GrantRow.{GrantRow}
use Rattle.index_format.specs.declared.rows.KeyRow.{KeyRow}
use Rattle.index_format.specs.declared.rows.LinkRow.{LinkRow}
use Rattle.index_format.specs.declared.rows.MarkRow.{MarkRow}
use Rattle.index_format.specs.declared.rows.StateNumbers.{StateNumbers}
use Rattle.index_format.specs.declared.state.BodyRows.{BodyRows}
use Rattle.index_format.specs.declared.state.StateRows.{StateRows}

-- what stands in public after a log
pub record PlainState : Type 0 where
  pub numbers : StateNumbers
  pub folders : List FolderRow
  pub files : List FileRow
  pub checks : List CheckRow
  pub grants : List GrantRow
  pub keys : List KeyRow
  pub marks : List MarkRow

-- a state, and where the records of its edges and objects stand
pub record IndexBody : Type 0 where
  pub state : PlainState
  pub links : List LinkRow
  pub contents : List ContentRow

-- the lists of rows as lists
abbrev pub plain_state : StateRows → PlainState
plain_state s = record {
  numbers = s.numbers;
  folders = s.folders.items;
  files = s.files.items;
  checks = s.checks.items;
  grants = s.grants.items;
  keys = s.keys.items;
  marks = s.marks.items;
}

abbrev pub plain_body : BodyRows → IndexBody
plain_body b = record { state = plain_state b.state; links = b.links.items; contents = b.contents.items }
