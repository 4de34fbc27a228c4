use Rattle.std.proofs.Common.{◌≡◌, ◌-◌, [], ◌∷◌, length, arith, ap, sym, subst}
use Rattle.cry_io.proofs.ToldLemmas.{told_again}
use Rattle.cry_io.specs.Stops.{Written}
use Rattle.batch_log.specs.Moments.{Throughout, TornInto}
use Rattle.batch_log.specs.Tokens.{StagedBatch}
use Rattle.batch_log.proofs.Staging.{gated_written}
use Rattle.batch_log.proofs.steps.open_gate.Goals as goal

pub returns-in_err-write_and_sync-clause-stops : goal.returns-in_err-write_and_sync-clause-stops
returns-in_err-write_and_sync-clause-stops g c = λ x is.
    let since = g.D.Disk.since c.write_and_sync.new.disk (g.D.Disk.moment c.args.disk.now) in
    subst (λ (s : StagedBatch). Throughout (TornInto (s.end - 1) 1 x) since) c.staged.view_is (c.in_err-write_and_sync.ensures.stops c.requires.nothing_pending x is)

pub returns-clause-written : goal.returns-clause-written
returns-clause-written g c = λ x y x_is y_is.
    subst (λ (s : StagedBatch). Written (s.end - 1) (1 ∷ []) x y) c.staged.view_is (c.in_ok-write_and_sync.ensures.written x y x_is y_is)

pub returns-clause-opened : goal.returns-clause-opened
returns-clause-opened g c = λ y is.
    let shown = g.D.Disk.shown in
    let old = told_again (shown c.write_and_sync.new.disk) (shown c.args.disk.now) y (sym c.in_ok-write_and_sync.ensures.told) is in
    let size = g.met.D.Disk.size_is_shown c.args.disk.now old.0 old.1 in
    let end_is : c.staged.inside.end ≡ c.args.staged.end = ap (λ (s : StagedBatch). s.end) c.staged.view_is in
    let within = c.requires.inside in
    let whole = c.requires.whole in
    let first = c.staged.invariant in
    gated_written c.args.staged.end c.args.staged.body old.0 y (omega (arith, first, end_is)) whole (omega (arith, size, within))
    (c.requires.stands old.0 old.1)
    (subst (λ n. Written (n - 1) (1 ∷ []) old.0 y) end_is (c.in_ok-write_and_sync.ensures.written old.0 y old.1 is))

pub returns-clause-stops : goal.returns-clause-stops
returns-clause-stops g c = λ x is.
    let since = g.D.Disk.since c.write_and_sync.new.disk (g.D.Disk.moment c.args.disk.now) in
    subst (λ (s : StagedBatch). Throughout (TornInto (s.end - 1) 1 x) since) c.staged.view_is (c.in_ok-write_and_sync.ensures.stops c.requires.nothing_pending x is)
