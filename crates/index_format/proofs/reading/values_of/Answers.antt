use Rattle.std.proofs.Common.{◌≡◌, ◌++◌, ◌∷◌, [], refl}
use Rattle.std.proofs.lemmas.Result.{err_from_is_err_and}
use Rattle.record_format.specs.Fields.{repeat_at}
use Rattle.record_format.proofs.Repeats.{starts, goes_on, stops_there, is_done}
use Rattle.index_format.proofs.reading.values_of.Goals as goal

pub loop-init : goal.loop-init
loop-init g c = starts g.T.Fixed.value_at c.in_ok-values.values.items c.args.count c.args.bytes.now c.in_ok-values.ensures

pub returns-in_err-value : goal.returns-in_err-value
returns-in_err-value g c =
    let p = err_from_is_err_and c.from_residual-in_err-value.result c.from_residual-in_err-value.ensures.1 in
    let value_at = g.T.Fixed.value_at in
    let total = repeat_at value_at c.args.count c.args.bytes.now in
    rw (p.1, p.2) (stops_there c.in_err-value.field-0.0 value_at c.loop.values.items c.args.count c.loop.counter c.loop.rest.now total c.loop-test.true c.in_err-value.ensures c.loop.invariant)

pub loop-preserved : goal.loop-preserved
loop-preserved g c =
    let value = c.in_ok-value.value in
    let value_at = g.T.Fixed.value_at in
    let total = repeat_at value_at c.args.count c.args.bytes.now in
    let pushed : c.push.new.self.items ≡ c.loop.values.items ++ value ∷ [] = rw c.in_ok-push.ensures.items refl in
    rw pushed (goes_on value_at c.loop.values.items c.args.count c.loop.counter c.loop.rest.now value c.in_ok-value.after.now total c.loop-test.true c.in_ok-value.ensures c.loop.invariant)

pub returns : goal.returns
returns g c =
    let value_at = g.T.Fixed.value_at in
    let total = repeat_at value_at c.args.count c.args.bytes.now in
    is_done value_at c.loop.values.items c.args.count c.loop.counter c.loop.rest.now total c.loop-test.false c.loop.invariant
