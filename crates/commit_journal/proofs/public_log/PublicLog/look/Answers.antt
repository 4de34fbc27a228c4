use Rattle.std.proofs.Common.{◌≡◌, true, eqb, eq-eqb, drop, List, ℕ, ap, subst, arith}
use Rattle.std.specs.Prelude.{Option}
use Rattle.commit_journal.specs.declared.past.Past.{Past}
use Rattle.commit_journal.specs.Answering.{Answers}
use Rattle.commit_journal.specs.Logs.{turn_by}
use Rattle.commit_journal.specs.Readers.{read_turn}
use Rattle.commit_journal.specs.Turns.{plain_option}
use Rattle.commit_journal.proofs.Streamed.{last_start, next_closed, next_opened}
use Rattle.commit_journal.proofs.public_log.PublicLog.look.Goals as goal

pub returns-then-self-ne-OPEN-clause-answer : goal.returns-then-self-ne-OPEN-clause-answer
returns-then-self-ne-OPEN-clause-answer g c = λ s is.
    next_closed c.args.self.now s c.self.inside.past.gate (ap (λ log. log.past.gate) c.self.view_is) c.if-self-ne-OPEN.true

pub read_turn-requires-clause-behind : goal.read_turn-requires-clause-behind
read_turn-requires-clause-behind g c = (last_start 0 c.self.inside.given.starts c.self.inside.past c.self.invariant.places).0

pub read_turn-requires-clause-small : goal.read_turn-requires-clause-small
read_turn-requires-clause-small g c =
    let last = last_start 0 c.self.inside.given.starts c.self.inside.past c.self.invariant.places in
    omega (arith, last.1)

pub returns-clause-answer : goal.returns-clause-answer
returns-clause-answer g c = λ s is.
    let log = c.args.self.now in
    let turn = c.read_turn.result in
    let past : c.self.inside.past ≡ log.past = ap (λ log. log.past) c.self.view_is in
    let gate : eqb log.past.gate 1 ≡ true = eq-eqb log.past.gate 1 (subst (λ (p : Past). p.gate ≡ 1) past c.if-self-ne-OPEN.false) in
    let owned = subst (λ (who : Option (List ℕ)). Answers plain_option turn (turn_by (read_turn who) c.self.inside.past (drop c.self.inside.past.at s))) c.key.ensures.owner (c.read_turn.ensures.answer s is) in
    rw (next_opened log s gate) (subst (λ (p : Past). Answers plain_option turn (turn_by (read_turn log.owner) p (drop p.at s))) past owned)
