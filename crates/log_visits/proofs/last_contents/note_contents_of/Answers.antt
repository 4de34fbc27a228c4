use Rattle.std.proofs.Common.{◌≡◌, ◌+◌, ◌++◌, List, [], length, map, sym, ap, subst, ◌∙◌}
use Rattle.std.proofs.lemmas.Bool.{eqb-true}
use Rattle.std.proofs.lemmas.List.{append-nil, nil_from_length}
use Rattle.std.proofs.lemmas.Result.{on_ok_weaker}
use Rattle.commit_journal.specs.Placed.{plain_body, plain_placed}
use Rattle.commit_journal.specs.Places.{IsContentPlace, content_offset}
use Rattle.record_format.specs.declared.content.ContentRecord.{ContentRecord}
use Rattle.record_format.specs.Plain.{plain_content, plain_payload}
use Rattle.log_visits.specs.Indexed.{HasLastContent}
use Rattle.log_visits.specs.Placing.{body_contents, contents_at}
use Rattle.log_visits.specs.Spots.{contents_in}
use Rattle.log_visits.proofs.last_contents.note_contents_of.Goals as goal

pub returns-in_default-clause-noted : goal.returns-in_default-clause-noted
unfolding body_contents
returns-in_default-clause-noted c = λ log at q so_far has.
    let placed = c.args.placed.now in
    subst (HasLastContent log c.args.last.now q) (sym (ap (λ b. so_far ++ body_contents placed.batch placed.place (plain_body b)) c.in_default.is ∙ append-nil so_far)) has

pub returns-then-is_empty-clause-noted : goal.returns-then-is_empty-clause-noted
unfolding body_contents contents_at
returns-then-is_empty-clause-noted c = λ log at q so_far has.
    let placed = c.args.placed.now in
    let payload = c.in-Commands.payload in
    let first = placed.place + content_offset (plain_payload payload) 0 in
    let empty : payload.contents.items ≡ [] = sym c.as_slice-contents.ensures ∙ nil_from_length c.as_slice-contents.result.now (eqb-true (length c.as_slice-contents.result.now) 0 (sym c.if-is_empty.ensures)) in
    subst (HasLastContent log c.args.last.now q)
    (sym (ap (λ b. so_far ++ body_contents placed.batch placed.place (plain_body b)) c.in-Commands.is
    ∙ ap (λ (ls : List ContentRecord). so_far ++ contents_at placed.batch first (map plain_content ls)) empty
    ∙ append-nil so_far))
    has

pub returns-clause-noted : goal.returns-clause-noted
unfolding body_contents
returns-clause-noted c =
    let placed = c.args.placed.now in
    let payload = c.in-Commands.payload in
    let is_place : c.content_place.result ≡ placed.place + content_offset (plain_payload payload) 0 = subst (IsContentPlace placed.place 0 c.content_place.result) c.in-Commands.is c.content_place.ensures in
    on_ok_weaker c.note_contents.result
    (λ noted log at q so_far has.
    subst (HasLastContent log c.note_contents.new.last q)
    (ap (λ n. so_far ++ contents_at placed.batch n (map plain_content c.as_slice-contents.result.now)) is_place
    ∙ ap (λ (ls : List ContentRecord). so_far ++ contents_at placed.batch (placed.place + content_offset (plain_payload payload) 0) (map plain_content ls)) c.as_slice-contents.ensures
    ∙ ap (λ b. so_far ++ body_contents placed.batch placed.place (plain_body b)) (sym c.in-Commands.is))
    (noted log (plain_placed placed) at (ap (λ b. contents_in (plain_body b)) c.in-Commands.is ∙ ap (map plain_content) (sym c.as_slice-contents.ensures)) q so_far has))
    c.note_contents.ensures.noted
