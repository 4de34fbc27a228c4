use Rattle.folder_nodes.proofs.Joined.{new_folder_joins, new_file_joins, name_joins, file_rewritten, move_joins, removal_joins}
use Rattle.folder_nodes.proofs.laws.changes_are_the_stores.Goals as goal

pub returns : goal.returns
returns c = record {
  folder = new_folder_joins;
  file = new_file_joins;
  name = name_joins;
  bytes = file_rewritten;
  place = move_joins;
  removal = removal_joins;
}
