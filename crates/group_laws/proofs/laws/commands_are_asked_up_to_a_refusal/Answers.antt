use Rattle.group_laws.proofs.Asking.{begins, behind_accepted, whole}
use Rattle.group_laws.proofs.laws.commands_are_asked_up_to_a_refusal.Goals as goal

pub returns : goal.returns
returns c = record { whole = whole; front = begins; accepted = behind_accepted }
