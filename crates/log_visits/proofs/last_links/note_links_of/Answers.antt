use Rattle.std.proofs.Common.{◌≡◌, ◌+◌, ◌++◌, List, [], length, sym, ap, subst, ◌∙◌}
use Rattle.std.proofs.lemmas.Bool.{eqb-true}
use Rattle.std.proofs.lemmas.List.{append-nil, nil_from_length}
use Rattle.std.proofs.lemmas.Result.{on_ok_weaker}
use Rattle.commit_journal.specs.Placed.{plain_body}
use Rattle.commit_journal.specs.Places.{IsLinkPlace, link_offset}
use Rattle.record_format.specs.declared.link.LinkRecord.{LinkRecord}
use Rattle.record_format.specs.Plain.{plain_payload}
use Rattle.log_visits.specs.Indexed.{HasLastLink}
use Rattle.log_visits.specs.Placing.{body_links, links_at}
use Rattle.log_visits.proofs.last_links.note_links_of.Goals as goal

pub returns-in_default : goal.returns-in_default
unfolding body_links
returns-in_default c = λ q so_far has.
    let placed = c.args.placed.now in
    subst (HasLastLink c.args.last.now q) (sym (ap (λ b. so_far ++ body_links placed.batch placed.place (plain_body b)) c.in_default.is ∙ append-nil so_far)) has

pub returns-then-is_empty : goal.returns-then-is_empty
unfolding body_links links_at
returns-then-is_empty c = λ q so_far has.
    let placed = c.args.placed.now in
    let payload = c.in-Commands.payload in
    let first = placed.place + link_offset (plain_payload payload) 0 in
    let empty : payload.links.items ≡ [] = sym c.as_slice-links.ensures ∙ nil_from_length c.as_slice-links.result.now (eqb-true (length c.as_slice-links.result.now) 0 (sym c.if-is_empty.ensures)) in
    subst (HasLastLink c.args.last.now q)
    (sym (ap (λ b. so_far ++ body_links placed.batch placed.place (plain_body b)) c.in-Commands.is
    ∙ ap (λ (ls : List LinkRecord). so_far ++ links_at placed.batch first ls) empty
    ∙ append-nil so_far))
    has

pub returns : goal.returns
unfolding body_links
returns c =
    let placed = c.args.placed.now in
    let payload = c.in-Commands.payload in
    let is_place : c.link_place.result ≡ placed.place + link_offset (plain_payload payload) 0 = subst (IsLinkPlace placed.place 0 c.link_place.result) c.in-Commands.is c.link_place.ensures in
    on_ok_weaker c.note_links.result
    (λ noted q so_far has.
    subst (HasLastLink c.note_links.new.last q)
    (ap (λ n. so_far ++ links_at placed.batch n c.as_slice-links.result.now) is_place
    ∙ ap (λ (ls : List LinkRecord). so_far ++ links_at placed.batch (placed.place + link_offset (plain_payload payload) 0) ls) c.as_slice-links.ensures
    ∙ ap (λ b. so_far ++ body_links placed.batch placed.place (plain_body b)) (sym c.in-Commands.is))
    (noted q so_far has))
    c.note_links.ensures
