use Rattle.log_visits.proofs.ToldLemmas.{accepted_told}
use Rattle.holder_client.proofs.verdict_laws.notes_tell_what_commands_do.Goals as goal

pub returns : goal.returns
returns c = accepted_told
