use Rattle.attempt_laws.proofs.Called.{handed_by}
use Rattle.attempt_laws.proofs.calls.deeds_hand_over_attempts.Goals as goal

pub returns : goal.returns
returns g c =
    let D = g.D.Disk in
    let a = c.args.before.now in
    let b = c.args.after.now in
    λ at d result old new left_before left_after stands suits is.
    handed_by at d old (D.shown a) (D.shown b) (D.may_leave a) (D.may_leave b) (D.since b (D.moment a)) stands suits
    result new left_before left_after is
