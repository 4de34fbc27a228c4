use Rattle.store_owner.proofs.Scripted.{answered}
use Rattle.store_owner.proofs.apply_laws.answered_sessions_go_on.Goals as goal

pub returns : goal.returns
returns g c = λ limits key going r reply old new left_before left_after was shows start.
    let D = g.D.Disk in
    answered limits key going r reply old new left_before left_after was shows (D.may_leave c.args.before.now) (D.may_leave c.args.after.now) (D.since c.args.after.now start)
