use Rattle.public_fold.proofs.OwnPaths.{names_differ, paths_differ, path_finds}
use Rattle.public_fold.proofs.tree_laws.names_in_a_folder_differ.Goals as goal

pub returns : goal.returns
returns c = record { names = names_differ; paths = paths_differ; finds = path_finds }
