use Rattle.std.proofs.Common.{◌≡◌, ℕ, ap, ◌∙◌}
use Rattle.commit_journal.specs.Streaming.{gate_before, regated}
use Rattle.commit_journal.specs.declared.past.Past.{Past}
use Rattle.commit_journal.proofs.Streamed.{last_start}
use Rattle.commit_journal.proofs.public_log.PublicLog.reread_gate.Goals as goal

pub read_gate-requires : goal.read_gate-requires
read_gate-requires g c = record { behind = (last_start 0 c.self.inside.given.starts c.self.inside.past c.self.invariant.places).0 }

pub returns-clause-gate : goal.returns-clause-gate
unfolding regated
returns-clause-gate g c = λ s is.
    let log = c.args.self.now in
    let past : c.self.inside.past ≡ log.past = ap (λ log. log.past) c.self.view_is in
    let gate : c.in_ok-gate.gate ≡ gate_before s log.past.at =
    c.in_ok-gate.ensures.gate s is ∙ ap (λ (p : Past). gate_before s p.at) past
    in
    c.set_gate.ensures ∙ ap (λ (n : ℕ). record log { past = record log.past { gate = n } }) gate
