-- How many bytes a spelling has.
use Rattle.std.proofs.Common.{◌≡◌, ℕ, ◌+◌, ◌*◌, ◌≤◌, ◌<◌, ◌^◌, List, [], ◌∷◌, length, take, get_or, map, All, refl, arith, Bool, true, false, cond, eqb, lit≤}
use Rattle.std.specs.List.{flat_map, sum_by}
use Rattle.std.proofs.lemmas.List.{length-append}
use Rattle.std.proofs.lemmas.List.Elements.{All-nil, All-cons, All-head, All-tail}
use Rattle.std.proofs.lemmas.List.Sums.{sum_by-cons, sum_by_more_le}
use Rattle.record_format.specs.declared.content.ContentRecord.{ContentRecord}
use Rattle.record_format.specs.declared.link.LinkRecord.{LinkRecord}
use Rattle.record_format.specs.declared.note.Note.{Note}
use Rattle.record_format.specs.declared.note.Note.TheVariants.{Root, NewHolder, NewFolder, NewFile, Rewrite, NameFile, NameFolder, DropFile, DropFolder, ShiftFile, ShiftFolder, Give, Take, StrictRoot, Upgrade}
use Rattle.record_format.specs.Plain.{PlainContent, PlainPayload, plain_content}
use Rattle.record_format.specs.Spelling.{be32, be64, link_head, spell_link, content_head, spell_content, spell_note, spell_payload}
use Rattle.record_format.specs.Sizes.{note_size, content_size, payload_size}
use Rattle.record_format.specs.Spellable.{IsLink, IsContent, IsNote, IsSpellable, longest_text}

pub length-be32 : (n : ℕ) → length (be32 n) ≡ 4
unfolding be32
length-be32 n = refl

pub length-be64 : (n : ℕ) → length (be64 n) ≡ 8
unfolding be64
length-be64 n = refl

pub length-link_head : (r : LinkRecord) → length (link_head r) ≡ 34
unfolding link_head
length-link_head r = simp (length-append, length-be32, length-be64)

pub length-content_head : (r : PlainContent) → length (content_head r) ≡ 26
unfolding content_head
length-content_head r = simp (length-append, length-be32, length-be64)

pub length-spell_link : (r : LinkRecord) → IsLink r → length (spell_link r) ≡ 98
unfolding spell_link
length-spell_link r fits = simp (length-append, length-link_head, fits.cipher, fits.tag)

pub length-spell_content : (r : PlainContent) → IsContent r → length (spell_content r) ≡ content_size r
unfolding spell_content
length-spell_content r fits =
    simp (length-append, length-content_head, fits.tag) (omega arith)

pub length-spell_note : (note : Note) → IsNote note → length (spell_note note) ≡ note_size note
unfolding spell_note
length-spell_note Root fits = refl
length-spell_note (NewHolder holder check) fits = simp (length-append, length-be32, fits.1)
length-spell_note (NewFolder folder parent) fits = simp (length-append, length-be32)
length-spell_note (NewFile file folder) fits = simp (length-append, length-be32)
length-spell_note (Rewrite file) fits = simp length-be32
length-spell_note (NameFile file) fits = simp length-be32
length-spell_note (NameFolder folder) fits = simp length-be32
length-spell_note (DropFile file) fits = simp length-be32
length-spell_note (DropFolder folder) fits = simp length-be32
length-spell_note (ShiftFile file into) fits = simp (length-append, length-be32)
length-spell_note (ShiftFolder folder into) fits = simp (length-append, length-be32)
length-spell_note (Give holder folder) fits = simp (length-append, length-be32)
length-spell_note (Take holder folder) fits = simp (length-append, length-be32)
length-spell_note StrictRoot fits = refl
length-spell_note Upgrade fits = refl

pub note_size_most : (note : Note) → note_size note ≤ 37
note_size_most Root = lit≤ tt
note_size_most (NewHolder holder check) = lit≤ tt
note_size_most (NewFolder folder parent) = lit≤ tt
note_size_most (NewFile file folder) = lit≤ tt
note_size_most (Rewrite file) = lit≤ tt
note_size_most (NameFile file) = lit≤ tt
note_size_most (NameFolder folder) = lit≤ tt
note_size_most (DropFile file) = lit≤ tt
note_size_most (DropFolder folder) = lit≤ tt
note_size_most (ShiftFile file into) = lit≤ tt
note_size_most (ShiftFolder folder into) = lit≤ tt
note_size_most (Give holder folder) = lit≤ tt
note_size_most (Take holder folder) = lit≤ tt
note_size_most StrictRoot = lit≤ tt
note_size_most Upgrade = lit≤ tt

pub length-links : (links : List LinkRecord) → All IsLink links → length (flat_map spell_link links) ≡ 98 * length links
length-links [] fits = refl
length-links (r ∷ rs) fits =
    let first = length-spell_link r (All-head IsLink r rs fits) in
    let others = length-links rs (All-tail IsLink r rs fits) in
    rw length-append (omega (arith, first, others))

pub length-contents : (contents : List PlainContent) → All IsContent contents → length (flat_map spell_content contents) ≡ sum_by content_size contents
length-contents [] fits = refl
length-contents (r ∷ rs) fits =
    let first = length-spell_content r (All-head IsContent r rs fits) in
    let others = length-contents rs (All-tail IsContent r rs fits) in
    rw (length-append, sum_by-cons) (omega (arith, first, others))

pub length-spell_payload : (p : PlainPayload) → IsSpellable p → length (spell_payload p) ≡ payload_size p
unfolding spell_payload
length-spell_payload p fits =
    simp (length-append, length-be32, length-spell_note p.note fits.note, length-links p.links fits.links, length-contents p.contents fits.contents) (omega arith)

most : (is_file is_key : Bool) → cond is_file 1048641 (cond is_key 32 64) ≤ 1048641
most true is_key = lit≤ tt
most false true = lit≤ tt
most false false = lit≤ tt

pub longest_text_most : (kind : ℕ) → longest_text kind ≤ 1048641
longest_text_most kind = most (eqb kind 2) (eqb kind 3)

-- the longest content has 1,048,699 bytes
pub contents_small : (contents : List PlainContent) → All IsContent contents → sum_by content_size contents ≤ 1048699 * length contents
contents_small [] fits = omega arith
contents_small (r ∷ rs) fits =
    let first = (All-head IsContent r rs fits).text_to in
    let others = contents_small rs (All-tail IsContent r rs fits) in
    rw sum_by-cons (omega (arith, first, others, longest_text_most r.kind))

pub contents_plain : (contents : List ContentRecord) → sum_by content_size (map plain_content contents) ≡ sum_by (λ c. 58 + length c.cipher.items) contents
contents_plain [] = refl
contents_plain (r ∷ rs) = rw (sum_by-cons content_size, sum_by-cons (λ (c : ContentRecord). 58 + length c.cipher.items), contents_plain rs) refl

-- what is still to be put is enough for the next content
pub contents_room : (contents : List ContentRecord) (i : ℕ) (d : ContentRecord) → i < length contents
    → sum_by content_size (map plain_content (take i contents)) + content_size (plain_content (get_or contents i d)) ≤ sum_by content_size (map plain_content contents)
contents_room contents i d lt =
    rw (contents_plain (take i contents), contents_plain contents) (sum_by_more_le (λ c. content_size (plain_content c)) contents i d lt)

pub texts_short : (contents : List ContentRecord) → All IsContent (map plain_content contents) → All (λ r. length r.cipher.items < 2 ^ 32) contents
texts_short [] fits = All-nil (λ (r : ContentRecord). length r.cipher.items < 2 ^ 32)
texts_short (r ∷ rs) fits =
    let first = All-head IsContent (plain_content r) (map plain_content rs) fits in
    let others = texts_short rs (All-tail IsContent (plain_content r) (map plain_content rs) fits) in
    let short : length r.cipher.items < 2 ^ 32 = omega (arith, first.text_to, longest_text_most r.kind) in
    All-cons (λ (r : ContentRecord). length r.cipher.items < 2 ^ 32) r rs short others
