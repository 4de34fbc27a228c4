use Rattle.public_fold.proofs.ReadStates.{rows_folded, rows_hold}
use Rattle.public_fold.proofs.state_laws.sound_rows_hold.Goals as goal

pub returns : goal.returns
returns c = record { holds = rows_hold; folded = rows_folded }
