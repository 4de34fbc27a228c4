use Rattle.std.proofs.Common.{◌+◌, sym, subst}
use Rattle.std.specs.Prelude.{OnErr, OnOk}
use Rattle.cry_io.specs.Stops.{Torn, Written}
use Rattle.cry_io.specs.Told.{WhereBothTold}
use Rattle.batch_log.specs.Moments.{Throughout, TornInto}
use Rattle.batch_log.specs.Steps.{HoldsBatch}
use Rattle.batch_log.specs.Tokens.{GatedBatch}
use Rattle.batch_log.proofs.Staging.{holds_gated}
use Rattle.batch_log.proofs.steps.unveil.Goals as goal

pub unveil_found-requires-clause-opened : goal.unveil_found-requires-clause-opened
unveil_found-requires-clause-opened g c = λ x is.
    holds_gated c.gated.inside.end c.gated.inside.body.now x c.gated.invariant.1
    (subst (λ (b : GatedBatch). HoldsBatch b.end b.body x) (sym c.gated.view_is) (c.requires.opened x is))

pub returns-clause-written : goal.returns-clause-written
returns-clause-written g c =
    let shown = g.D.Disk.shown in
    subst (λ (b : GatedBatch). OnOk c.unveil_found.result (WhereBothTold (shown c.args.disk.now) (shown c.unveil_found.new.disk) (Written (b.end + 13) c.args.veil.now)))
    c.gated.view_is c.unveil_found.ensures.written

pub returns-clause-torn : goal.returns-clause-torn
returns-clause-torn g c =
    let shown = g.D.Disk.shown in
    subst (λ (b : GatedBatch). OnErr c.unveil_found.result (WhereBothTold (shown c.args.disk.now) (shown c.unveil_found.new.disk) (Torn (b.end + 13) 32)))
    c.gated.view_is c.unveil_found.ensures.torn

pub returns-clause-stops : goal.returns-clause-stops
returns-clause-stops g c = λ x is.
    let since = g.D.Disk.since c.unveil_found.new.disk (g.D.Disk.moment c.args.disk.now) in
    subst (λ (b : GatedBatch). Throughout (TornInto (b.end + 13) 32 x) since) c.gated.view_is (c.unveil_found.ensures.stops x is)
