use Rattle.std.proofs.Common.{length, map, arith, ap}
use Rattle.std.proofs.lemmas.List.{length-map}
use Rattle.record_format.specs.Plain.{plain_content, plain_payload}
use Rattle.record_format.proofs.Lengths.{length-spell_payload, note_size_most, contents_small, contents_plain}
use Rattle.record_format.proofs.payload.payload_len.Goals as goal

pub contents_len-requires : goal.contents_len-requires
contents_len-requires c =
    let contents = c.args.payload.now.contents.items in
    let small = contents_small (map plain_content contents) c.requires.contents in
    rw c.as_slice-2.ensures (omega (arith, small, contents_plain contents, length-map contents plain_content, c.requires.content_count))

pub overflow_add-result-2 : goal.overflow_add-result-2
overflow_add-result-2 c =
    let contents = c.args.payload.now.contents.items in
    let small = contents_small (map plain_content contents) c.requires.contents in
    let len = rw c.as_slice-2.ensures at c.contents_len.ensures in
    omega (arith, small, len, contents_plain contents, length-map contents plain_content, note_size_most c.args.payload.now.note, c.requires.link_count, c.requires.content_count, ap length c.as_slice.ensures)

pub returns-clause-spelled : goal.returns-clause-spelled
returns-clause-spelled c =
    let contents = c.args.payload.now.contents.items in
    let spelled = length-spell_payload (plain_payload c.args.payload.now) c.requires in
    let len = rw c.as_slice-2.ensures at c.contents_len.ensures in
    omega (arith, spelled, len, contents_plain contents, ap length c.as_slice.ensures)
