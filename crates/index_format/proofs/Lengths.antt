-- How many bytes a spelling has.
use Rattle.std.proofs.Common.{◌≡◌, ℕ, suc, ◌+◌, ◌*◌, List, [], ◌∷◌, length, All, refl, arith}
use Rattle.std.specs.List.{flat_map}
use Rattle.std.proofs.lemmas.List.{length-append}
use Rattle.std.proofs.lemmas.List.Elements.{All-head, All-tail}
use Rattle.index_format.specs.Plain.{PlainState, IndexBody}
use Rattle.index_format.specs.declared.head.IndexHead.{IndexHead}
use Rattle.index_format.specs.declared.rows.CheckRow.{CheckRow}
use Rattle.index_format.specs.declared.rows.ContentRow.{ContentRow}
use Rattle.index_format.specs.declared.rows.FileRow.{FileRow}
use Rattle.index_format.specs.declared.rows.FolderRow.{FolderRow}
use Rattle.index_format.specs.declared.rows.GrantRow.{GrantRow}
use Rattle.index_format.specs.declared.rows.KeyRow.{KeyRow}
use Rattle.index_format.specs.declared.rows.LinkRow.{LinkRow}
use Rattle.index_format.specs.declared.rows.MarkRow.{MarkRow}
use Rattle.index_format.specs.declared.rows.StateNumbers.{StateNumbers}
use Rattle.index_format.specs.Sizes.{state_size, body_size}
use Rattle.index_format.specs.Spelling.{spell_numbers, spell_folder, spell_file, spell_check, spell_grant, spell_key, spell_mark, spell_link_row, spell_content_row, counted, spell_state, spell_body, spell_head, spell_front}
use Rattle.index_format.specs.Writable.{IsCheckRow, IsHead, IsWritable, IsWritableBody}
use Rattle.record_format.proofs.Lengths.{length-be32, length-be64}

length-numbers : (n : StateNumbers) → length (spell_numbers n) ≡ 21
unfolding spell_numbers
length-numbers n = simp (length-append, length-be32)

length-folder : (r : FolderRow) → length (spell_folder r) ≡ 8
unfolding spell_folder
length-folder r = simp (length-append, length-be32)

length-file : (r : FileRow) → length (spell_file r) ≡ 8
unfolding spell_file
length-file r = simp (length-append, length-be32)

length-grant : (r : GrantRow) → length (spell_grant r) ≡ 8
unfolding spell_grant
length-grant r = simp (length-append, length-be32)

length-key : (r : KeyRow) → length (spell_key r) ≡ 13
unfolding spell_key
length-key r = simp (length-append, length-be32, length-be64)

length-mark : (r : MarkRow) → length (spell_mark r) ≡ 5
unfolding spell_mark
length-mark r = simp length-be32

length-link_row : (r : LinkRow) → length (spell_link_row r) ≡ 17
unfolding spell_link_row
length-link_row r = simp (length-append, length-be32)

length-content_row : (r : ContentRow) → length (spell_content_row r) ≡ 13
unfolding spell_content_row
length-content_row r = simp (length-append, length-be32)

-- a row more adds its length
one_more : (size n : ℕ) → size + size * n ≡ size * suc n
one_more size n = grind arith

pub length-rows : {A : Type 0} (spell : A → List ℕ) (size : ℕ) → ((r : A) → length (spell r) ≡ size) → (rows : List A) → length (flat_map spell rows) ≡ size * length rows
length-rows spell size each [] = grind arith
length-rows spell size each (r ∷ rs) = rw (length-append, each r, length-rows spell size each rs) (one_more size (length rs))

length-checks : (checks : List CheckRow) → All IsCheckRow checks → length (flat_map spell_check checks) ≡ 32 * length checks
length-checks [] fits = refl
length-checks (r ∷ rs) fits =
    let first = (All-head IsCheckRow r rs fits).len in
    let others = length-checks rs (All-tail IsCheckRow r rs fits) in
    rw length-append (omega (arith, first, others))

length-counted : {A : Type 0} (spell : A → List ℕ) (size : ℕ) → ((r : A) → length (spell r) ≡ size) → (rows : List A) → length (counted spell rows) ≡ 4 + size * length rows
unfolding counted
length-counted spell size each rows = rw (length-append, length-be32, length-rows spell size each rows) refl

pub length-spell_state : (s : PlainState) → IsWritable s → length (spell_state s) ≡ state_size s
unfolding spell_state
length-spell_state s fits =
    let folders = length-counted spell_folder 8 length-folder s.folders in
    let files = length-counted spell_file 8 length-file s.files in
    let checks = length-checks s.checks fits.checks in
    let grants = length-counted spell_grant 8 length-grant s.grants in
    let keys = length-counted spell_key 13 length-key s.keys in
    let marks = length-counted spell_mark 5 length-mark s.marks in
    simp (length-append, length-numbers, folders, files, checks, grants, keys, marks) (omega arith)

pub length-spell_body : (b : IndexBody) → IsWritableBody b → length (spell_body b) ≡ body_size b
unfolding spell_body
length-spell_body b fits =
    let links = length-counted spell_link_row 17 length-link_row b.links in
    let contents = length-counted spell_content_row 13 length-content_row b.contents in
    simp (length-append, length-spell_state b.state fits.state, links, contents) (omega arith)

pub length-spell_head : (h : IndexHead) → IsHead h → length (spell_head h) ≡ 49
unfolding spell_head
length-spell_head h fits = simp (length-append, length-be32, fits.tag)

pub length-spell_front : (batch : ℕ) (tag body : List ℕ) → length tag ≡ 32 → length (spell_front batch tag body) ≡ 49 + length body
unfolding spell_front spell_head
length-spell_front batch tag body len = simp (length-append, length-be32, len)
