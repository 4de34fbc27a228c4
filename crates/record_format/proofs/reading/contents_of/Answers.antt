use Rattle.std.proofs.Common.{◌≡◌, ◌++◌, ◌∷◌, [], map, ap}
use Rattle.std.proofs.lemmas.Result.{err_from_is_err_and}
use Rattle.std.proofs.lemmas.List.{map_push}
use Rattle.record_format.specs.Fields.{repeat_at}
use Rattle.record_format.specs.Plain.{plain_content}
use Rattle.record_format.specs.Reading.{content_at}
use Rattle.record_format.proofs.Repeats.{starts, goes_on, stops_there, is_done}
use Rattle.record_format.proofs.reading.contents_of.Goals as goal

pub loop-init : goal.loop-init
loop-init c = starts content_at (map plain_content c.in_ok-contents.contents.items) c.args.count c.args.bytes.now (ap (map plain_content) c.in_ok-contents.ensures)

pub returns-in_err-content : goal.returns-in_err-content
returns-in_err-content c =
    let p = err_from_is_err_and c.from_residual-in_err-content.result c.from_residual-in_err-content.ensures.1 in
    let total = repeat_at content_at c.args.count c.args.bytes.now in
    rw (p.1, p.2) (stops_there c.in_err-content.field-0.0 content_at (map plain_content c.loop.contents.items) c.args.count c.loop.counter c.loop.rest.now total c.loop-test.true c.in_err-content.ensures c.loop.invariant)

pub loop-preserved : goal.loop-preserved
loop-preserved c =
    let content = c.in_ok-content.content in
    let total = repeat_at content_at c.args.count c.args.bytes.now in
    let pushed : (map plain_content c.push.new.self.items) ≡ (map plain_content c.loop.contents.items) ++ plain_content content ∷ [] = rw c.in_ok-push.ensures.items (map_push plain_content c.loop.contents.items content) in
    rw pushed (goes_on content_at (map plain_content c.loop.contents.items) c.args.count c.loop.counter c.loop.rest.now (plain_content content) c.in_ok-content.after.now total c.loop-test.true c.in_ok-content.ensures c.loop.invariant)

pub returns : goal.returns
returns c =
    let total = repeat_at content_at c.args.count c.args.bytes.now in
    is_done content_at (map plain_content c.loop.contents.items) c.args.count c.loop.counter c.loop.rest.now total c.loop-test.false c.loop.invariant
