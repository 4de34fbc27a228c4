use Rattle.journal_bytes.proofs.Ready.{next_holds}
use Rattle.journal_bytes.proofs.sealing_laws.held_keys_stay_in_the_next_epoch.Goals as goal

pub returns : goal.returns
returns c = next_holds
