use Rattle.std.proofs.Common.{◌<◌, ◌∙◌, List, ap, length, map, subst, sym}
use Rattle.std.proofs.lemmas.Bool.{false≢true, lt-ltb}
use Rattle.std.proofs.lemmas.List.{length-map}
use Rattle.commit_journal.specs.Placed.{plain_body, plain_placed}
use Rattle.record_format.specs.Plain.{PlainContent, plain_content}
use Rattle.record_format.specs.Spellable.{IsContent}
use Rattle.log_visits.specs.Found.{content_here}
use Rattle.log_visits.specs.Spots.{IsAt, contents_in}
use Rattle.log_visits.specs.Spotted.{placed_contents}
use Rattle.log_visits.proofs.Lasts.{at_item, at_mapped, same_item, standing_form}
use Rattle.log_visits.proofs.Spotted.{batch_within, content_of_body, content_within, in_batch, standing_batch}
use Rattle.log_visits.proofs.record_spots.content_at.Goals as goal

pub unreachable-requires : goal.unreachable-requires
unreachable-requires c =
    let log = c.args.log.now in
    let spot = c.args.spot.now in
    let placed = c.index-log-spot.result in
    let there = c.requires.there in
    let stands = standing_batch log spot.position placed c.requires.stands (batch_within placed_contents log spot there.0 there.1) c.index-log-spot.is in
    let within = (content_within placed spot.index there.0 stands (in_batch placed_contents log spot placed there.0 there.1 c.index-log-spot.is)).1 in
    let plain : spot.index < length (map plain_content c.contents_of.result.now) = subst (λ (cs : List PlainContent). spot.index < length cs) (sym c.contents_of.ensures) within in
    let inside : spot.index < length c.contents_of.result.now = subst (λ n. spot.index < n) (length-map c.contents_of.result.now plain_content) plain in
    false≢true (c.in_default.ensures.lookup.0 ∙ lt-ltb spot.index (length c.contents_of.result.now) inside)

pub content_place-requires : goal.content_place-requires
content_place-requires c =
    let log = c.args.log.now in
    let spot = c.args.spot.now in
    let placed = c.index-log-spot.result in
    let there = c.requires.there in
    let stands = standing_batch log spot.position placed c.requires.stands (batch_within placed_contents log spot there.0 there.1) c.index-log-spot.is in
    (content_within placed spot.index there.0 stands (in_batch placed_contents log spot placed there.0 there.1 c.index-log-spot.is)).0

pub returns-clause-content : goal.returns-clause-content
returns-clause-content c = λ x there.
    let log = c.args.log.now in
    let spot = c.args.spot.now in
    let placed = c.index-log-spot.result in
    let content = c.in-Some.content.now in
    let here : IsAt (contents_in (plain_body placed.body)) spot.index (plain_content content) = subst (λ (cs : List PlainContent). IsAt cs spot.index (plain_content content)) c.contents_of.ensures
    (at_mapped plain_content c.contents_of.result.now spot.index content (at_item c.contents_of.result.now spot.index content c.in-Some.ensures.lookup.3.0 c.in-Some.ensures.lookup.1)) in
    ap (content_here placed.batch c.content_place.result) c.in_ok-copied.ensures
    ∙ same_item (placed_contents (plain_placed placed)) spot.index (content_here placed.batch c.content_place.result (plain_content content)) x
    (content_of_body placed spot.index c.content_place.result (plain_content content) c.content_place.ensures here) (in_batch placed_contents log spot placed x there c.index-log-spot.is)

pub returns-clause-form : goal.returns-clause-form
returns-clause-form c =
    let log = c.args.log.now in
    let spot = c.args.spot.now in
    let placed = c.index-log-spot.result in
    let there = c.requires.there in
    let stands = standing_batch log spot.position placed c.requires.stands (batch_within placed_contents log spot there.0 there.1) c.index-log-spot.is in
    let content = c.in-Some.content.now in
    let here : IsAt (contents_in (plain_body placed.body)) spot.index (plain_content content) = subst (λ (cs : List PlainContent). IsAt cs spot.index (plain_content content)) c.contents_of.ensures
    (at_mapped plain_content c.contents_of.result.now spot.index content (at_item c.contents_of.result.now spot.index content c.in-Some.ensures.lookup.3.0 c.in-Some.ensures.lookup.1)) in
    subst IsContent (sym c.in_ok-copied.ensures) (standing_form placed spot.index (plain_content content) stands here)
