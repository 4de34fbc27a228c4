use Rattle.std.proofs.Common.{◌+◌, ◌*◌, length, sym, ap, subst, arith}
use Rattle.commit_journal.specs.Places.{HasContent, IsContentPlace}
use Rattle.commit_journal.proofs.Tails.{contents_before, contents_before_all}
use Rattle.commit_journal.proofs.places.content_place.Goals as goal

pub contents_len-before-requires : goal.contents_len-before-requires
contents_len-before-requires c =
    let contents = c.in-Commands.payload.contents.items in
    let has = subst (HasContent c.args.p.now.place c.args.index) c.in-Commands.is c.requires in
    let before = contents_before contents c.as_slice-in-Commands.result.now c.args.index c.as_slice-in-Commands.ensures in
    omega (arith, has, before, contents_before_all contents c.args.index)

pub returns : goal.returns
returns c =
    let contents = c.in-Commands.payload.contents.items in
    let before = contents_before contents c.as_slice-in-Commands.result.now c.args.index c.as_slice-in-Commands.ensures in
    let place = c.args.p.now.place in
    let result = place + c.links_offset.result + 98 * length c.as_slice.result.now + c.contents_len-before.result in
    subst (IsContentPlace place c.args.index result) (sym c.in-Commands.is)
    (omega (arith, before, ap length c.as_slice.ensures, c.links_offset.ensures, c.contents_len-before.ensures))
