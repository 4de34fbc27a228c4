use Rattle.std.proofs.Common.{◌≡◌, refl, ◌∙◌, ◌+◌, ◌&&◌, ◌==◌, not, sym, ap}
use Rattle.std.specs.Prelude.{nat_le, Some}
use Rattle.cry_base.specs.Refusing.{height_of}
use Rattle.cry_base.specs.Store.{depth_of, folder_node, is_within}
use Rattle.move_plan.specs.Change.{parent_of_folder}
use Rattle.move_plan.specs.Fitting.{folder_stands, is_next_below, is_other_folder, may_go_into, row_fits}
use Rattle.record_format.specs.Told.{told_note}
use Rattle.move_plan.proofs.Seeing.{child_seen, depth_seen, file_seen, folder_seen, grant_seen, holder_seen, into_seen, other_seen, regrouped, granted_seen}
use Rattle.move_plan.proofs.fitting.row_fits.Goals as goal

pub returns-in-Root : goal.returns-in-Root
unfolding row_fits told_note
returns-in-Root c = rw c.in-Root.is c.may_make_root.ensures

pub returns-in-NewHolder : goal.returns-in-NewHolder
unfolding row_fits told_note
returns-in-NewHolder c = rw c.in-NewHolder.is c.may_make_holder.ensures

pub returns-in-NewFolder : goal.returns-in-NewFolder
unfolding row_fits told_note
returns-in-NewFolder c =
    let t = c.args.shape.now.tree in
    rw c.in-NewFolder.is (c.may_make_folder.ensures
    ∙ ap (λ b. is_next_below c.in-NewFolder.folder.0 t.folders_made && b) (sym (depth_seen t c.args.grants.now c.in-NewFolder.parent.0)))

pub returns-in-NewFile : goal.returns-in-NewFile
unfolding row_fits told_note
returns-in-NewFile c =
    let t = c.args.shape.now.tree in
    rw c.in-NewFile.is (c.may_make_file.ensures
    ∙ ap (λ b. is_next_below c.in-NewFile.file.0 t.files_made && b) (sym (depth_seen t c.args.grants.now c.in-NewFile.folder.0)))

pub returns-in-Rewrite : goal.returns-in-Rewrite
unfolding row_fits told_note
returns-in-Rewrite c =
    rw c.in-Rewrite.is (c.has_file.ensures ∙ sym (file_seen c.args.shape.now.tree c.args.grants.now c.in-Rewrite.file.0))

pub returns-in-NameFile : goal.returns-in-NameFile
unfolding row_fits told_note
returns-in-NameFile c =
    rw c.in-NameFile.is (c.has_file-in-NameFile.ensures ∙ sym (file_seen c.args.shape.now.tree c.args.grants.now c.in-NameFile.file.0))

pub returns-in-NameFolder : goal.returns-in-NameFolder
unfolding row_fits told_note
returns-in-NameFolder c =
    rw c.in-NameFolder.is (c.is_other_folder.ensures.value ∙ sym (other_seen c.args.shape.now.tree c.args.grants.now c.in-NameFolder.folder.0))

pub returns-in-DropFile : goal.returns-in-DropFile
unfolding row_fits told_note
returns-in-DropFile c =
    rw c.in-DropFile.is (c.has_file-in-DropFile.ensures ∙ sym (file_seen c.args.shape.now.tree c.args.grants.now c.in-DropFile.file.0))

pub returns-in-DropFolder : goal.returns-in-DropFolder
unfolding row_fits told_note
returns-in-DropFolder c =
    let t = c.args.shape.now.tree in
    let g = c.args.grants.now in
    let f = c.in-DropFolder.folder.0 in
    rw c.in-DropFolder.is (c.may_drop_folder.ensures
    ∙ (λ i. sym (other_seen t g f) i && not (sym (child_seen t g f) i)))

pub returns-in-ShiftFile : goal.returns-in-ShiftFile
unfolding row_fits told_note
returns-in-ShiftFile c =
    let t = c.args.shape.now.tree in
    let g = c.args.grants.now in
    let x = c.in-ShiftFile.file.0 in
    let q = c.in-ShiftFile.into.0 in
    rw c.in-ShiftFile.is (c.may_move_file.ensures
    ∙ (λ i. sym (file_seen t g x) i && sym (depth_seen t g q) i && not (sym (folder_seen t g x) i == q)))

pub returns-in-ShiftFolder : goal.returns-in-ShiftFolder
unfolding row_fits told_note may_go_into
returns-in-ShiftFolder c =
    let t = c.args.shape.now.tree in
    let g = c.args.grants.now in
    let f = c.in-ShiftFolder.folder.0 in
    let q = c.in-ShiftFolder.into.0 in
    let grouped : c.may_move_folder.result ≡ may_go_into t f q = c.may_move_folder.ensures
    ∙ regrouped (is_other_folder t f) (folder_stands t q) (not (parent_of_folder t f == q)) (not (is_within t q f))
    (nat_le (depth_of t (folder_node q) + 1 + height_of t (Some (folder_node f))) 64) in
    rw c.in-ShiftFolder.is (grouped ∙ sym (into_seen t g f q))

pub returns-in-Give : goal.returns-in-Give
unfolding row_fits told_note
returns-in-Give c =
    let t = c.args.shape.now.tree in
    let g = c.args.grants.now in
    let h = c.in-Give.holder.0 in
    let f = c.in-Give.folder.0 in
    rw c.in-Give.is (c.may_give.ensures
    ∙ (λ i. sym (holder_seen t g h) i && sym (granted_seen c.args.strict t g f) i && not (sym (grant_seen t g h f) i)))

pub returns-in-Take : goal.returns-in-Take
unfolding row_fits told_note
returns-in-Take c =
    rw c.in-Take.is (c.has.ensures.value ∙ sym (grant_seen c.args.shape.now.tree c.args.grants.now c.in-Take.holder.0 c.in-Take.folder.0))

pub returns-in-StrictRoot : goal.returns-in-StrictRoot
unfolding row_fits told_note
returns-in-StrictRoot c = rw c.in-StrictRoot.is c.may_make_root-in-StrictRoot.ensures

pub returns-in-Upgrade : goal.returns-in-Upgrade
unfolding row_fits told_note
returns-in-Upgrade c = rw c.in-Upgrade.is refl
