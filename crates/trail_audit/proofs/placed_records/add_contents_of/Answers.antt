use Rattle.std.proofs.Common.{◌≡◌, ◌+◌, ◌++◌, List, [], length, map, sym, ap, subst, ◌∙◌}
use Rattle.std.proofs.lemmas.Bool.{eqb-true}
use Rattle.std.proofs.lemmas.List.{append-nil, nil_from_length}
use Rattle.std.proofs.lemmas.Result.{on_ok_weaker}
use Rattle.commit_journal.specs.Placed.{plain_body}
use Rattle.commit_journal.specs.Places.{IsContentPlace, content_offset}
use Rattle.record_format.specs.declared.content.ContentRecord.{ContentRecord}
use Rattle.record_format.specs.Plain.{plain_content, plain_payload}
use Rattle.log_visits.specs.Placing.{body_contents, contents_at}
use Rattle.trail_audit.proofs.placed_records.add_contents_of.Goals as goal

pub returns-in_default : goal.returns-in_default
unfolding body_contents
returns-in_default c =
    let placed = c.args.placed.now in
    sym (ap (λ b. c.args.found.now.items ++ body_contents placed.batch placed.place (plain_body b)) c.in_default.is ∙ append-nil c.args.found.now.items)

pub returns-then-is_empty : goal.returns-then-is_empty
unfolding body_contents contents_at
returns-then-is_empty c =
    let placed = c.args.placed.now in
    let so_far = c.args.found.now.items in
    let payload = c.in-Commands.payload in
    let first = placed.place + content_offset (plain_payload payload) 0 in
    let empty : payload.contents.items ≡ [] = sym c.as_slice-contents.ensures ∙ nil_from_length c.as_slice-contents.result.now (eqb-true (length c.as_slice-contents.result.now) 0 (sym c.if-is_empty.ensures)) in
    sym (ap (λ b. so_far ++ body_contents placed.batch placed.place (plain_body b)) c.in-Commands.is
    ∙ ap (λ (ls : List ContentRecord). so_far ++ contents_at placed.batch first (map plain_content ls)) empty
    ∙ append-nil so_far)

pub returns : goal.returns
unfolding body_contents
returns c =
    let placed = c.args.placed.now in
    let so_far = c.args.found.now.items in
    let payload = c.in-Commands.payload in
    let is_place : c.content_place.result ≡ placed.place + content_offset (plain_payload payload) 0 = subst (IsContentPlace placed.place 0 c.content_place.result) c.in-Commands.is c.content_place.ensures in
    on_ok_weaker c.add_contents.result
    (λ added.
    added
    ∙ ap (λ n. so_far ++ contents_at placed.batch n (map plain_content c.as_slice-contents.result.now)) is_place
    ∙ ap (λ (ls : List ContentRecord). so_far ++ contents_at placed.batch (placed.place + content_offset (plain_payload payload) 0) (map plain_content ls)) c.as_slice-contents.ensures
    ∙ ap (λ b. so_far ++ body_contents placed.batch placed.place (plain_body b)) (sym c.in-Commands.is))
    c.add_contents.ensures
