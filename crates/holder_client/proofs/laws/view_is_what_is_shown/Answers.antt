use Rattle.log_visits.proofs.Viewing.{view_told, view_ascends}
use Rattle.holder_client.proofs.laws.view_is_what_is_shown.Goals as goal

pub returns : goal.returns
returns c = record { lines = view_told; order = view_ascends }
