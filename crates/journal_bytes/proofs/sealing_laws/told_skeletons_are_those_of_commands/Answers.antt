use Rattle.journal_bytes.proofs.ToldSkeleton.{told_skeleton}
use Rattle.journal_bytes.proofs.sealing_laws.told_skeletons_are_those_of_commands.Goals as goal

pub returns : goal.returns
returns c = told_skeleton
