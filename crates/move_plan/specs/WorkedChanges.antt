-- Opens the words of notes and changes, and those below them, to a computation.
use Rattle.rekey_walk.specs.WorkedMarks.{marks}
use Rattle.move_plan.specs.Noting.{write_note, remove_note, rename_note, move_note, note_of}
use Rattle.move_plan.specs.Change.{no_change, folder_of_file, parent_of_folder, edges_at, edge_back, row_change}
use Rattle.move_plan.specs.Change.{clearance_in, roles_of_file, edges_with_file, without_roles}
use Rattle.move_plan.specs.Change.{edges_of_first, given_on, taken_from, is_first_grant, is_last_grant}
use Rattle.move_plan.specs.Change.{inner_roles, is_upgrade, strict_of, change_of}
use Rattle.move_plan.specs.Fitting.{folder_stands, has_depth_left, file_stands, is_other_folder, may_go_into, row_fits, needs_root, fits}
use Rattle.move_plan.specs.Fitting.{is_file_there, clear_stands, may_be_granted, is_next_below, public_of}

-- every word of notes and changes
unfoldable pub changes : Unit {0}
unfolding marks write_note remove_note rename_note move_note note_of no_change folder_of_file parent_of_folder edges_at edge_back
    clearance_in roles_of_file edges_with_file without_roles edges_of_first given_on taken_from is_first_grant is_last_grant row_change inner_roles
    is_upgrade strict_of change_of folder_stands has_depth_left file_stands is_other_folder
    may_go_into is_file_there clear_stands may_be_granted is_next_below row_fits needs_root fits public_of
changes = tt
