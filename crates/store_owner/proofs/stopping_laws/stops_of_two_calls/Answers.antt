use Rattle.store_owner.proofs.HandedBatches.{handed_both}
use Rattle.store_owner.proofs.StoppedCommands.{stops_then}
use Rattle.store_owner.proofs.stopping_laws.stops_of_two_calls.Goals as goal

pub returns : goal.returns
returns g c =
    let D = g.D.Disk in
    let a = c.args.before.now in
    let b = c.args.between.now in
    let e = c.args.after.now in
    record {
      stops = λ key low middle high later goes lower higher one two. stops_then key low middle high (D.shown a) (D.shown b) (D.shown e) (D.may_leave a) (D.may_leave b) (D.may_leave e)
          (D.moment b) (D.moment a) (D.since b) (D.since e) later goes lower higher one.rests one.handed one.stops two;
      rests = λ key low middle high later goes lower higher one two. record {
        stops = stops_then key low middle high (D.shown a) (D.shown b) (D.shown e) (D.may_leave a) (D.may_leave b) (D.may_leave e)
            (D.moment b) (D.moment a) (D.since b) (D.since e) later goes lower higher one.rests one.handed one.stops two.stops;
        rests = λ at. two.rests (one.rests at);
        handed = handed_both key low middle high (D.shown a) (D.shown b) (D.shown e) lower higher one.handed two.handed;
      };
    }
