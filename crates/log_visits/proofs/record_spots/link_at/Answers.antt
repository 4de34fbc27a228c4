use Rattle.std.proofs.Common.{◌<◌, ◌∙◌, List, length, subst, sym}
use Rattle.std.proofs.lemmas.Bool.{false≢true, lt-ltb}
use Rattle.commit_journal.specs.Placed.{plain_body, plain_placed}
use Rattle.record_format.specs.declared.link.LinkRecord.{LinkRecord}
use Rattle.log_visits.specs.Found.{link_here}
use Rattle.log_visits.specs.Spots.{IsAt, links_in}
use Rattle.log_visits.specs.Spotted.{placed_links}
use Rattle.log_visits.proofs.Lasts.{at_item, same_item}
use Rattle.log_visits.proofs.Spotted.{batch_within, in_batch, link_of_body, link_within, standing_batch}
use Rattle.log_visits.proofs.record_spots.link_at.Goals as goal

pub unreachable-requires : goal.unreachable-requires
unreachable-requires c =
    let log = c.args.log.now in
    let spot = c.args.spot.now in
    let placed = c.index-log-spot.result in
    let there = c.requires.there in
    let stands = standing_batch log spot.position placed c.requires.stands (batch_within placed_links log spot there.0 there.1) c.index-log-spot.is in
    let within = (link_within placed spot.index there.0 stands (in_batch placed_links log spot placed there.0 there.1 c.index-log-spot.is)).1 in
    let inside : spot.index < length c.links_of.result.now = subst (λ (ls : List LinkRecord). spot.index < length ls) (sym c.links_of.ensures) within in
    false≢true (c.in_default.ensures.lookup.0 ∙ lt-ltb spot.index (length c.links_of.result.now) inside)

pub link_place-requires : goal.link_place-requires
link_place-requires c =
    let log = c.args.log.now in
    let spot = c.args.spot.now in
    let placed = c.index-log-spot.result in
    let there = c.requires.there in
    let stands = standing_batch log spot.position placed c.requires.stands (batch_within placed_links log spot there.0 there.1) c.index-log-spot.is in
    (link_within placed spot.index there.0 stands (in_batch placed_links log spot placed there.0 there.1 c.index-log-spot.is)).0

pub returns : goal.returns
returns c = λ l there.
    let log = c.args.log.now in
    let spot = c.args.spot.now in
    let placed = c.index-log-spot.result in
    let link = c.in-Some.link.now in
    let here : IsAt (links_in (plain_body placed.body)) spot.index link = subst (λ (ls : List LinkRecord). IsAt ls spot.index link) c.links_of.ensures (at_item c.links_of.result.now spot.index link c.in-Some.ensures.lookup.3.0 c.in-Some.ensures.lookup.1) in
    same_item (placed_links (plain_placed placed)) spot.index (link_here placed.batch c.link_place.result link) l (link_of_body placed spot.index c.link_place.result link c.link_place.ensures here) (in_batch placed_links log spot placed l there c.index-log-spot.is)
