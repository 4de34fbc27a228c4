-- The one spelling of a checkpoint file, from its values to bytes: this project's own, docs/FORMAT.md, "The checkpoint". No reading has a
-- part in it.
use Rattle.std.specs.Prelude.{ℕ, List, [], ◌∷◌, ◌++◌, length, codes}
use Rattle.std.specs.List.{flat_map}
use Rattle.index_format.specs.Plain.{PlainState, IndexBody}
use Rattle.index_format.specs.declared.head.IndexHead.{IndexHead}
use Rattle.index_format.specs.declared.rows.CheckRow.{CheckRow}
use Rattle.index_format.specs.declared.rows.ContentRow.{ContentRow}
use Rattle.index_format.specs.declared.rows.FileRow.{FileRow}
use Rattle.index_format.specs.declared.rows.FolderRow.{FolderRow}
use Rattle.index_format.specs.declared.rows.GrantRow.{GrantRow}
use Rattle.index_format.specs.declared.rows.KeyRow.{KeyRow}
use Rattle.index_format.specs.declared.rows.LinkRow.{LinkRow}
use Rattle.index_format.specs.declared.rows.MarkRow.{MarkRow}
use Rattle.index_format.specs.declared.rows.StateNumbers.{StateNumbers}
use Rattle.record_format.specs.Spelling.{be32, be64}

-- the version, then five numbers: 21 bytes
unfoldable pub spell_numbers : StateNumbers → List ℕ
spell_numbers n =
    n.version ∷ (be32 n.epoch ++ (be32 n.count ++ (be32 n.folders_made ++ (be32 n.files_made ++ be32 n.holders_made))))

unfoldable pub spell_folder : FolderRow → List ℕ
spell_folder r = be32 r.id ++ be32 r.parent

unfoldable pub spell_file : FileRow → List ℕ
spell_file r = be32 r.id ++ be32 r.folder

abbrev pub spell_check : CheckRow → List ℕ
spell_check r = r.0

unfoldable pub spell_grant : GrantRow → List ℕ
spell_grant r = be32 r.holder ++ be32 r.folder

unfoldable pub spell_key : KeyRow → List ℕ
spell_key r = r.place ∷ (be32 r.id ++ be64 r.serial)

unfoldable pub spell_mark : MarkRow → List ℕ
spell_mark r = r.place ∷ be32 r.id

unfoldable pub spell_link_row : LinkRow → List ℕ
spell_link_row r = r.kind ∷ (be32 r.from_id ++ (be32 r.to_id ++ (be32 r.batch ++ be32 r.index)))

unfoldable pub spell_content_row : ContentRow → List ℕ
spell_content_row r = r.kind ∷ (be32 r.object ++ (be32 r.batch ++ be32 r.index))

-- rows behind the number of them
unfoldable pub counted : {A : Type 0} → (A → List ℕ) → List A → List ℕ
counted spell rows = be32 (length rows) ++ flat_map spell rows

-- a state: its numbers, then its lists. Of checks there are as many as holders were made
unfoldable pub spell_state : PlainState → List ℕ
spell_state s =
    spell_numbers s.numbers
    ++ (counted spell_folder s.folders
    ++ (counted spell_file s.files
    ++ (flat_map spell_check s.checks
    ++ (counted spell_grant s.grants ++ (counted spell_key s.keys ++ counted spell_mark s.marks)))))

-- a state, and where the records of its edges and objects stand
unfoldable pub spell_body : IndexBody → List ℕ
spell_body b = spell_state b.state ++ (counted spell_link_row b.links ++ counted spell_content_row b.contents)

-- the first nine bytes of a checkpoint file: its name, and its form
abbrev pub magic : List ℕ
magic = codes "CRYPTIDX" ++ 1 ∷ []

-- what stands before a body: 49 bytes
unfoldable pub spell_head : IndexHead → List ℕ
spell_head h = magic ++ (be32 h.batch ++ (h.tag ++ be32 h.body_len))

-- all of a file before its own tag: the number of a batch, its owner tag, the body behind its length
unfoldable pub spell_front : ℕ → List ℕ → List ℕ → List ℕ
spell_front batch tag body = spell_head (record { batch = batch; tag = tag; body_len = length body }) ++ body
