use Rattle.attempt_laws.proofs.Called.{goes_on_at, left_by}
use Rattle.attempt_laws.proofs.calls.deeds_are_attempts.Goals as goal

pub returns : goal.returns
returns g c =
    let D = g.D.Disk in
    let a = c.args.before.now in
    let b = c.args.after.now in
    record {
      goes_on = λ at d result old new left_before left_after stands suits is.
          goes_on_at at d result old new left_before left_after (D.shown a) (D.shown b) (D.may_leave a) (D.may_leave b)
          (D.since b (D.moment a)) stands suits is;
      moments = λ at d result old new left_before left_after stands suits is rests.
          (left_by at d old (D.shown a) (D.shown b) (D.may_leave a) (D.may_leave b) (D.since b (D.moment a)) stands suits rests
          result new left_before left_after is).0;
      left = λ at d result old new left_before left_after stands suits is rests.
          (left_by at d old (D.shown a) (D.shown b) (D.may_leave a) (D.may_leave b) (D.since b (D.moment a)) stands suits rests
          result new left_before left_after is).1;
    }
