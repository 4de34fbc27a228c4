-- The roles that stand in a store, and the rows of their keys. This project's own, docs/FORMAT.md, "The checkpoint".
use Rattle.std.specs.Prelude.{ℕ, List, ◌++◌, map}
use Rattle.std.specs.List.{flat_map}
use Rattle.cry_base.specs.Store.{Store}
use Rattle.cry_base.specs.declared.roles.Role.{Role}
use Rattle.index_format.specs.declared.rows.KeyRow.{KeyRow}
use Rattle.move_plan.specs.Change.{clearance_in}
use Rattle.role_graph.specs.Roles.{holder_role, clear_of, sub_of, back_of, files_of, data_of, file_role}
use Rattle.public_fold.specs.KeyStep.{present}
use Rattle.public_fold.specs.States.{key_row}
use Rattle.public_fold.specs.declared.standing_roles.FolderKey.{FolderKey}
use Rattle.public_fold.specs.declared.standing_roles.FolderKey.TheVariants.{Clear, Sub, Back, Files, Data}

-- the role of a folder, by what its key is for
abbrev pub folder_role : FolderKey → ℕ → Role
folder_role Clear f = clear_of f
folder_role Sub f = sub_of f
folder_role Back f = back_of f
folder_role Files f = files_of f
folder_role Data f = data_of f

-- those that stand, without the owner's, in their order: since holders, folders and files stand by number
unfoldable pub standing_roles : Store → List Role
standing_roles s =
    map (λ e. holder_role e.number) s.holders
    ++ (map (λ e. clear_of e.id) s.folders
    ++ (flat_map (λ e. clearance_in s e.id) s.files
    ++ (map (λ e. sub_of e.id) s.folders
    ++ (map (λ e. back_of e.id) s.folders
    ++ (map (λ e. files_of e.id) s.folders
    ++ (map (λ e. data_of e.id) s.folders
    ++ map (λ e. file_role e.id) s.files))))))

-- a row for each role, with its newest serial
abbrev pub rows_of_keys : List (Role × ℕ) → List Role → List KeyRow
rows_of_keys keys roles = map (λ r. key_row r (present keys r)) roles
