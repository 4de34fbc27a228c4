-- Records stand in the spelling of their payload where their offsets say.
use Rattle.std.proofs.Common.{◌≡◌, ℕ, suc, ◌+◌, ◌<◌, List, ◌++◌, length, take, drop, get_or, append_assoc, arith, sym, ap, ◌∙◌, length-append}
use Rattle.std.specs.Prelude.{slice_range, slice_index_or}
use Rattle.std.specs.List.{flat_map}
use Rattle.std.proofs.Math.Seq.{drop-cons}
use Rattle.std.proofs.lemmas.Grind.{flat_map-append}
use Rattle.std.proofs.lemmas.List.{take-append-drop, length-take-le}
use Rattle.std.proofs.lemmas.List.Elements.{All-take, All-get_or}
use Rattle.std.proofs.lemmas.List.Sums.{sum_by_more}
use Rattle.record_format.specs.declared.link.LinkRecord.{LinkRecord}
use Rattle.record_format.specs.Plain.{PlainContent, PlainPayload}
use Rattle.record_format.specs.Sizes.{note_size, content_size}
use Rattle.record_format.specs.Spellable.{IsLink, IsContent, IsSpellable}
use Rattle.record_format.specs.Spelling.{be32, spell_note, spell_link, spell_content, spell_payload}
use Rattle.record_format.proofs.Lengths.{length-be32, length-spell_note, length-spell_link, length-spell_content, length-links, length-contents}
use Rattle.commit_journal.specs.Places.{link_offset, content_offset}
use Rattle.commit_journal.proofs.Pieces.{piece}

-- pieces in a row, split at one of them
split_at : {X : Type 0} (f : X → List ℕ) (xs : List X) (i : ℕ) (d : X) → i < length xs →
    flat_map f xs ≡ flat_map f (take i xs) ++ (f (get_or xs i d) ++ flat_map f (drop (suc i) xs))
split_at f xs i d below =
    ap (flat_map f) (sym (take-append-drop i xs))
    ∙ flat_map-append f (take i xs) (drop i xs)
    ∙ ap (λ r. flat_map f (take i xs) ++ flat_map f r) (drop-cons xs i d below)

-- the note and the two counts
counts : PlainPayload → List ℕ
counts p = spell_note p.note ++ (be32 (length p.links) ++ be32 (length p.contents))

length-counts : (p : PlainPayload) → IsSpellable p → length (counts p) ≡ note_size p.note + 8
unfolding counts
length-counts p fits =
    omega (
      arith,
      length-append (spell_note p.note) (be32 (length p.links) ++ be32 (length p.contents)),
      length-append (be32 (length p.links)) (be32 (length p.contents)),
      length-spell_note p.note fits.note,
      length-be32 (length p.links),
      length-be32 (length p.contents),
    )

in_parts : (p : PlainPayload) → spell_payload p ≡ counts p ++ (flat_map spell_link p.links ++ flat_map spell_content p.contents)
unfolding spell_payload counts
in_parts p = simp append_assoc

pub links_stand : (p : PlainPayload) (i : ℕ) (d : LinkRecord) → IsSpellable p → i < length p.links →
    slice_range (spell_payload p) (link_offset p i) (link_offset p (i + 1)) ≡ spell_link (slice_index_or p.links i d)
links_stand p i d fits below =
    let link = get_or p.links i d in
    let first = flat_map spell_link (take i p.links) in
    let last = flat_map spell_link (drop (suc i) p.links) in
    let contents = flat_map spell_content p.contents in
    let whole : spell_payload p ≡ (counts p ++ first) ++ (spell_link link ++ (last ++ contents)) =
    in_parts p ∙ ap (λ r. counts p ++ (r ++ contents)) (split_at spell_link p.links i d below) ∙ simp append_assoc
    in
    let many = length-links (take i p.links) (All-take IsLink i p.links fits.links) in
    let long : length (counts p ++ first) ≡ link_offset p i =
    omega (arith, length-append (counts p) first, length-counts p fits, many, length-take-le i p.links (omega arith))
    in
    let one = length-spell_link link (All-get_or IsLink p.links i d below fits.links) in
    piece (counts p ++ first) (spell_link link) (last ++ contents) (spell_payload p) (link_offset p i) (link_offset p (i + 1)) whole long (omega (arith, long, one))

pub contents_stand : (p : PlainPayload) (i : ℕ) (d : PlainContent) → IsSpellable p → i < length p.contents →
    slice_range (spell_payload p) (content_offset p i) (content_offset p (i + 1)) ≡ spell_content (slice_index_or p.contents i d)
contents_stand p i d fits below =
    let content = get_or p.contents i d in
    let links = flat_map spell_link p.links in
    let first = flat_map spell_content (take i p.contents) in
    let last = flat_map spell_content (drop (suc i) p.contents) in
    let front = counts p ++ links in
    let whole : spell_payload p ≡ (front ++ first) ++ (spell_content content ++ last) =
    in_parts p ∙ ap (λ r. counts p ++ (links ++ r)) (split_at spell_content p.contents i d below) ∙ simp append_assoc
    in
    let many = length-contents (take i p.contents) (All-take IsContent i p.contents fits.contents) in
    let long : length (front ++ first) ≡ content_offset p i =
    omega (arith, length-append front first, length-append (counts p) links, length-counts p fits, length-links p.links fits.links, many)
    in
    let one = length-spell_content content (All-get_or IsContent p.contents i d below fits.contents) in
    let next = sum_by_more content_size p.contents i d below in
    piece (front ++ first) (spell_content content) last (spell_payload p) (content_offset p i) (content_offset p (i + 1)) whole long (omega (arith, long, one, next))
