use Rattle.std.proofs.Common.{◌+◌, subst}
use Rattle.std.specs.Prelude.{OnErr}
use Rattle.cry_io.specs.Stops.{Torn}
use Rattle.cry_io.specs.Told.{WhereBothTold}
use Rattle.batch_log.specs.Moments.{Throughout, TornInto}
use Rattle.batch_log.proofs.steps.unveil_found.Goals as goal

pub returns-clause-torn : goal.returns-clause-torn
returns-clause-torn g c =
    let shown = g.D.Disk.shown in
    subst (λ n. OnErr c.write_and_sync.result (WhereBothTold (shown c.args.disk.now) (shown c.write_and_sync.new.disk) (Torn (c.args.end + 13) n)))
    c.told-veil c.write_and_sync.ensures.torn

pub returns-clause-stops : goal.returns-clause-stops
returns-clause-stops g c = λ x is.
    let since = g.D.Disk.since c.write_and_sync.new.disk (g.D.Disk.moment c.args.disk.now) in
    subst (λ n. Throughout (TornInto (c.args.end + 13) n x) since) c.told-veil (c.write_and_sync.ensures.stops c.requires.nothing_pending x is)
