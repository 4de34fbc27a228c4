use Rattle.public_fold.proofs.OwnPaths.{folder_leads, file_leads}
use Rattle.public_fold.proofs.tree_laws.ways_end_at_the_root.Goals as goal

pub returns : goal.returns
returns c = record { folders = folder_leads; files = file_leads }
