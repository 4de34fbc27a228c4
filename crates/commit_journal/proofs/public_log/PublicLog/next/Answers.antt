use Rattle.std.proofs.Common.{◌≡◌, None, Some, Ok, ap, sym, subst, ◌∙◌, arith}
use Rattle.std.proofs.lemmas.Result.{err_from_is_err_and}
use Rattle.commit_journal.specs.Leaves.{IsLeafAt, batch_at}
use Rattle.commit_journal.specs.Logs.{AreInEpochs}
use Rattle.commit_journal.specs.Opening.{EndsBehind, GoesOnIn, GoesOnTo, IsNextTurn, IsTurnIn}
use Rattle.commit_journal.specs.Placed.{plain_placed}
use Rattle.commit_journal.specs.Places.{TurnStands, at_behind}
use Rattle.commit_journal.specs.Turns.{plain_option, plain_turn}
use Rattle.commit_journal.proofs.Streamed.{last_start, log_ends, log_fails, log_more, reading_more, shows_more}
use Rattle.commit_journal.proofs.public_log.PublicLog.next.Goals as goal

pub returns-in_err-turn-clause-verdict : goal.returns-in_err-turn-clause-verdict
returns-in_err-turn-clause-verdict g c = λ s is.
    let p = err_from_is_err_and c.from_residual.result c.from_residual.ensures.1 in
    rw (p.1, p.2) (c.in_err-turn.ensures.answer s is)

pub returns-in_err-turn-clause-failed : goal.returns-in_err-turn-clause-failed
returns-in_err-turn-clause-failed g c = λ s is.
    let p = err_from_is_err_and c.from_residual.result c.from_residual.ensures.1 in
    rw (p.1, p.2) (log_fails c.in_err-turn.field-0.0 c.args.self.now s (c.in_err-turn.ensures.answer s is))

pub returns-in_default-clause-verdict : goal.returns-in_default-clause-verdict
returns-in_default-clause-verdict g c = λ s is.
    let none : c.in_ok-turn.field-0 ≡ None = c.in_default.is in
    c.in_ok-turn.ensures.answer s is ∙ ap (λ t. Ok (plain_option t)) none

pub returns-in_default-clause-ended : goal.returns-in_default-clause-ended
returns-in_default-clause-ended g c = λ _ s is. log_ends c.args.self.now s (returns-in_default-clause-verdict g c s is)

pub go_on-requires : goal.go_on-requires
go_on-requires g c =
    let log = c.args.self.now in
    let turn = c.in-Some.turn in
    let next : IsNextTurn log.past (g.D.Disk.size_of c.args.disk.now) turn = subst (GoesOnTo log.past (g.D.Disk.size_of c.args.disk.now)) c.in-Some.is c.in_ok-turn.ensures.next in
    let here : IsTurnIn log.past (plain_turn turn) = subst (GoesOnIn log.past) c.in-Some.is c.in_ok-turn.ensures.in_epoch in
    reading_more log.given log.starts log.past (plain_turn turn) c.in_ok-turn.ensures.reading here next.number (omega (arith, next.ahead)) next.within

pub returns-clause-verdict : goal.returns-clause-verdict
returns-clause-verdict g c = λ s is.
    let turn = c.in-Some.turn in
    let known = c.in_ok-turn.ensures.answer s is ∙ ap (λ t. Ok (plain_option t)) c.in-Some.is in
    known ∙ ap (λ past. Ok (Some (record { placed = plain_placed turn.placed; past = past }))) (sym (ap (λ log. log.past) c.go_on.ensures))

pub returns-clause-gives : goal.returns-clause-gives
returns-clause-gives g c =
    let log = c.args.self.now in
    let turn = c.in-Some.turn in
    let on = c.go_on.ensures in
    let size = g.D.Disk.size_of c.args.disk.now in
    let next : IsNextTurn log.past size turn = subst (GoesOnTo log.past size) c.in-Some.is c.in_ok-turn.ensures.next in
    let reading = c.in_ok-turn.ensures.reading in
    let last = last_start 0 log.starts log.past reading.places in
    let past = ap (λ log. log.past.at) on in
    let ends : turn.past.at ≡ at_behind (plain_placed turn.placed) = subst EndsBehind c.in-Some.is c.in_ok-turn.ensures.behind in
    let here : IsTurnIn log.past (plain_turn turn) = subst (GoesOnIn log.past) c.in-Some.is c.in_ok-turn.ensures.in_epoch in
    record {
      owner = ap (λ log. log.owner) on;
      front = ap (λ log. log.front) on;
      given = ap (λ log. log.given) on;
      starts = ap (λ log. log.starts) on;
      batch = omega (arith, next.batch, last.2, reading.count);
      place = next.place;
      stands = subst TurnStands c.in-Some.is c.in_ok-turn.ensures.stands;
      behind = (past ∙ ends, ap (λ log. log.past.number) on ∙ next.number ∙ sym next.batch, ap (λ log. log.past.epoch.0) on ∙ here.1);
      ahead = omega (arith, past, next.ahead);
      inside = omega (arith, past, next.inside);
    }

pub returns-clause-leaf : goal.returns-clause-leaf
returns-clause-leaf g c = λ s is.
    let log = c.args.self.now in
    let turn = c.in-Some.turn in
    let size = g.D.Disk.size_of c.args.disk.now in
    let next : IsNextTurn log.past size turn = subst (GoesOnTo log.past size) c.in-Some.is c.in_ok-turn.ensures.next in
    let leaf = c.look.new.leaf.items in
    let here : leaf ≡ batch_at s log.past.at = subst (IsLeafAt leaf s log.past.at) c.in-Some.is (c.in_ok-turn.ensures.leaf s is) in
    ap (λ log. log.leaf) c.go_on.ensures ∙ here ∙ ap (batch_at s) (omega (arith, next.place))

pub returns-clause-log : goal.returns-clause-log
returns-clause-log g c = λ s is.
    let log = c.args.self.now in
    let turn = c.in-Some.turn in
    let on = c.go_on.ensures in
    let size = g.D.Disk.size_of c.args.disk.now in
    let next : IsNextTurn log.past size turn = subst (GoesOnTo log.past size) c.in-Some.is c.in_ok-turn.ensures.next in
    let known = c.in_ok-turn.ensures.answer s is ∙ ap (λ t. Ok (plain_option t)) c.in-Some.is in
    log_more log c.go_on.new.self s (plain_turn turn) (ap (λ log. log.owner) on) (ap (λ log. log.given) on) (ap (λ log. log.past) on) known (omega (arith, next.ahead))

pub returns-clause-shows : goal.returns-clause-shows
returns-clause-shows g c = λ s is.
    let log = c.args.self.now in
    let turn = c.in-Some.turn in
    let on = c.go_on.ensures in
    let known = c.in_ok-turn.ensures.answer s is ∙ ap (λ t. Ok (plain_option t)) c.in-Some.is in
    shows_more log c.go_on.new.self s (plain_turn turn) (ap (λ log. log.owner) on) (ap (λ log. log.given) on) (ap (λ log. log.starts) on) c.in_ok-turn.ensures.reading.count known

pub returns-clause-epochs : goal.returns-clause-epochs
returns-clause-epochs g c =
    let log = c.args.self.now in
    let turn = c.in-Some.turn in
    let size = g.D.Disk.size_of c.args.disk.now in
    let next : IsNextTurn log.past size turn = subst (GoesOnTo log.past size) c.in-Some.is c.in_ok-turn.ensures.next in
    let here : IsTurnIn log.past (plain_turn turn) = subst (GoesOnIn log.past) c.in-Some.is c.in_ok-turn.ensures.in_epoch in
    let reading = reading_more log.given log.starts log.past (plain_turn turn) c.in_ok-turn.ensures.reading here next.number (omega (arith, next.ahead)) next.within in
    subst (AreInEpochs 0) (sym (ap (λ log. log.given) c.go_on.ensures)) reading.epochs
