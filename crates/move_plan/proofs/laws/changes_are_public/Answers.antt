use Rattle.move_plan.proofs.Public.{edges_public, change_public}
use Rattle.move_plan.proofs.laws.changes_are_public.Goals as goal

pub returns : goal.returns
returns c = record { edges_seen = edges_public; changes_seen = change_public }
