-- What has a spelling as a checkpoint: docs/FORMAT.md, "The checkpoint".
use Rattle.std.specs.Prelude.{◌≡◌, ◌<◌, ◌^◌, All, length}
use Rattle.index_format.specs.Plain.{PlainState, IndexBody}
use Rattle.index_format.specs.declared.head.IndexHead.{IndexHead}
use Rattle.index_format.specs.declared.rows.CheckRow.{CheckRow}
use Rattle.index_format.specs.declared.rows.ContentRow.{ContentRow}
use Rattle.index_format.specs.declared.rows.FileRow.{FileRow}
use Rattle.index_format.specs.declared.rows.FolderRow.{FolderRow}
use Rattle.index_format.specs.declared.rows.GrantRow.{GrantRow}
use Rattle.index_format.specs.declared.rows.KeyRow.{KeyRow}
use Rattle.index_format.specs.declared.rows.LinkRow.{LinkRow}
use Rattle.index_format.specs.declared.rows.MarkRow.{MarkRow}
use Rattle.index_format.specs.declared.rows.StateNumbers.{StateNumbers}

-- Each of these has fields of the sizes of the format.

pub record AreNumbers (r : StateNumbers) : Type 0 where
  pub version : r.version < 256
  pub epoch : r.epoch < 2 ^ 32
  pub count : r.count < 2 ^ 32
  pub folders_made : r.folders_made < 2 ^ 32
  pub files_made : r.files_made < 2 ^ 32
  pub holders_made : r.holders_made < 2 ^ 32

pub record IsFolderRow (r : FolderRow) : Type 0 where
  pub id : r.id < 2 ^ 32
  pub parent : r.parent < 2 ^ 32

pub record IsFileRow (r : FileRow) : Type 0 where
  pub id : r.id < 2 ^ 32
  pub folder : r.folder < 2 ^ 32

pub record IsCheckRow (r : CheckRow) : Type 0 where
  pub len : length r.0 ≡ 32

pub record IsGrantRow (r : GrantRow) : Type 0 where
  pub holder : r.holder < 2 ^ 32
  pub folder : r.folder < 2 ^ 32

pub record IsKeyRow (r : KeyRow) : Type 0 where
  pub place : r.place < 256
  pub id : r.id < 2 ^ 32
  pub serial : r.serial < 2 ^ 64

pub record IsMarkRow (r : MarkRow) : Type 0 where
  pub place : r.place < 256
  pub id : r.id < 2 ^ 32

pub record IsLinkRow (r : LinkRow) : Type 0 where
  pub kind : r.kind < 256
  pub from_id : r.from_id < 2 ^ 32
  pub to_id : r.to_id < 2 ^ 32
  pub batch : r.batch < 2 ^ 32
  pub index : r.index < 2 ^ 32

pub record IsContentRow (r : ContentRow) : Type 0 where
  pub kind : r.kind < 256
  pub object : r.object < 2 ^ 32
  pub batch : r.batch < 2 ^ 32
  pub index : r.index < 2 ^ 32

pub record IsHead (h : IndexHead) : Type 0 where
  pub batch : h.batch < 2 ^ 32
  pub tag : length h.tag ≡ 32
  pub body_len : h.body_len < 2 ^ 32

-- each of a state's counts fits four bytes, and there are as many checks as holders were made
pub record HasFewRows (s : PlainState) : Type 0 where
  pub folders : length s.folders < 2 ^ 32
  pub files : length s.files < 2 ^ 32
  pub checks : length s.checks ≡ s.numbers.holders_made
  pub grants : length s.grants < 2 ^ 32
  pub keys : length s.keys < 2 ^ 32
  pub marks : length s.marks < 2 ^ 32

-- a state with a spelling
pub record IsWritable (s : PlainState) : Type 0 where
  pub few : HasFewRows s
  pub numbers : AreNumbers s.numbers
  pub folders : All IsFolderRow s.folders
  pub files : All IsFileRow s.files
  pub checks : All IsCheckRow s.checks
  pub grants : All IsGrantRow s.grants
  pub keys : All IsKeyRow s.keys
  pub marks : All IsMarkRow s.marks

-- each count of a body fits four bytes
pub record HasFewSpots (b : IndexBody) : Type 0 where
  pub state : HasFewRows b.state
  pub links : length b.links < 2 ^ 32
  pub contents : length b.contents < 2 ^ 32

-- a body with a spelling
pub record IsWritableBody (b : IndexBody) : Type 0 where
  pub few : HasFewSpots b
  pub state : IsWritable b.state
  pub links : All IsLinkRow b.links
  pub contents : All IsContentRow b.contents
