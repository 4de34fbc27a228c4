use Rattle.std.proofs.Common.{◌≤◌, sym, subst}
use Rattle.cry_io.proofs.ToldLemmas.{told_again}
use Rattle.batch_log.proofs.Staging.{staged_written, stands_written}
use Rattle.batch_log.proofs.steps.stage.Goals as goal

pub returns-clause-holds : goal.returns-clause-holds
returns-clause-holds g c = λ y is.
    let shown = g.D.Disk.shown in
    let old = told_again (shown c.write_and_sync.new.disk) (shown c.args.disk.now) y (sym c.in_ok-write_and_sync.ensures.told) is in
    let inside = subst (λ n. c.args.end ≤ n) (sym (g.met.D.Disk.size_is_shown c.args.disk.now old.0 old.1)) c.requires.inside in
    stands_written c.args.end c.args.body.now old.0 y inside (c.in_ok-write_and_sync.ensures.written old.0 y old.1 is)

pub returns-clause-closed : goal.returns-clause-closed
returns-clause-closed g c = λ x y was is ends.
    staged_written c.args.end c.args.body.now x y (c.in_ok-write_and_sync.ensures.written x y was is) ends
