use Rattle.std.proofs.Common.{◌≡◌, ◌++◌, ◌∷◌, [], refl}
use Rattle.std.proofs.lemmas.Result.{err_from_is_err_and}
use Rattle.record_format.specs.Fields.{repeat_at}
use Rattle.record_format.specs.Reading.{link_at}
use Rattle.record_format.proofs.Repeats.{starts, goes_on, stops_there, is_done}
use Rattle.record_format.proofs.reading.links_of.Goals as goal

pub loop-init : goal.loop-init
loop-init c = starts link_at c.in_ok-links.links.items c.args.count c.args.bytes.now c.in_ok-links.ensures

pub returns-in_err-link : goal.returns-in_err-link
returns-in_err-link c =
    let p = err_from_is_err_and c.from_residual-in_err-link.result c.from_residual-in_err-link.ensures.1 in
    let total = repeat_at link_at c.args.count c.args.bytes.now in
    rw (p.1, p.2) (stops_there c.in_err-link.field-0.0 link_at c.loop.links.items c.args.count c.loop.counter c.loop.rest.now total c.loop-test.true c.in_err-link.ensures c.loop.invariant)

pub loop-preserved : goal.loop-preserved
loop-preserved c =
    let link = c.in_ok-link.link in
    let total = repeat_at link_at c.args.count c.args.bytes.now in
    let pushed : c.push.new.self.items ≡ c.loop.links.items ++ link ∷ [] = rw c.in_ok-push.ensures.items refl in
    rw pushed (goes_on link_at c.loop.links.items c.args.count c.loop.counter c.loop.rest.now link c.in_ok-link.after.now total c.loop-test.true c.in_ok-link.ensures c.loop.invariant)

pub returns : goal.returns
returns c =
    let total = repeat_at link_at c.args.count c.args.bytes.now in
    is_done link_at c.loop.links.items c.args.count c.loop.counter c.loop.rest.now total c.loop-test.false c.loop.invariant
