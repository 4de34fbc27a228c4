-- The definitions that the tests of a command compute with.
use Rattle.std.proofs.Common.{ℕ}
use Rattle.cry_base.specs.Refusing.{is_folder, is_file, id_of, granted_id, has_bad_name, has_no_place, finds_no_path, changes_root, needs_folder, grants_on_file, writes_folder, finds_name_taken, removes_children, moves_into_itself, depth_at, goes_too_deep, finds_no_holder, grants_again, revokes_nothing, is_too_long, causes_in}
use Rattle.cry_base.specs.Requests.{paths_of}
use Rattle.folder_nodes.specs.Checking.{is_of_grants, tree_refusal}

unfoldable pub everything : ℕ
unfolding is_folder is_file id_of granted_id has_bad_name has_no_place finds_no_path changes_root needs_folder grants_on_file writes_folder finds_name_taken removes_children moves_into_itself depth_at goes_too_deep finds_no_holder grants_again revokes_nothing is_too_long causes_in paths_of is_of_grants tree_refusal
everything = 0
