use Rattle.std.proofs.Common.{◌≡◌, map, ap, ◌∙◌, subst}
use Rattle.std.specs.Prelude.{IfOk, MatchOption}
use Rattle.cry_base.specs.Store.{Store}
use Rattle.folder_nodes.specs.Trees.{IsTree}
use Rattle.index_format.specs.Plain.{plain_state}
use Rattle.public_fold.specs.RowTests.{bare_file, bare_folder}
use Rattle.public_fold.proofs.SoundParts.{tree_rows}
use Rattle.public_fold.proofs.sound_rows.sound_shape.Goals as goal

pub returns : goal.returns
returns c =
    subst (λ (t : Store). IfOk c.restore.result (λ made. MatchOption made (IsTree t → ⊥) (λ shape. IsTree t × (shape.tree ≡ t))))
    (tree_rows (plain_state c.args.rows.now) c.in_ok-folders.folders.items c.in_ok-files.files.items
    (c.in_ok-folders.ensures ∙ ap (map bare_folder) c.as_slice.ensures) (c.in_ok-files.ensures ∙ ap (map bare_file) c.as_slice-2.ensures))
    c.restore.ensures
