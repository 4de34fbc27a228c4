use Rattle.std.proofs.Common.{◌≡◌, true, false, sym, ◌∙◌}
use Rattle.cry_base.specs.Clearances.{clear_number}
use Rattle.cry_base.specs.Store.{Store}
use Rattle.record_format.specs.Noted.Note.{ShiftFile}
use Rattle.role_graph.specs.Edges.{has_grants}
use Rattle.move_plan.specs.Change.{folder_of_file}
use Rattle.move_plan.specs.Seen.{seen_store}
use Rattle.move_plan.proofs.Cleared.{clear_none, clear_some}
use Rattle.move_plan.proofs.Noting.{in_store_given}
use Rattle.move_plan.proofs.Seeing.{folder_seen}
use Rattle.move_plan.proofs.granting.shift_file.Goals as goal

pub move_granted_file-requires : goal.move_granted_file-requires
unfolding has_grants
move_granted_file-requires c =
    let s : Store = seen_store c.args.shape.now.tree c.args.grants.now in
    let x = c.args.file.0 in
    (clear_some (has_grants s (clear_number x)) (clear_number x) c.in-Some.clear c.in-Some.ensures.value).1

pub returns-in-Some : goal.returns-in-Some
unfolding has_grants
returns-in-Some c =
    let t = c.args.shape.now.tree in
    let s : Store = seen_store t c.args.grants.now in
    let x = c.args.file.0 in
    let told = clear_some (has_grants s (clear_number x)) (clear_number x) c.in-Some.clear c.in-Some.ensures.value in
    in_store_given c.move_granted_file.result s (λ z. c.folder_of-folder.result.0 ≡ folder_of_file z x) (λ z. has_grants z (clear_number x) ≡ true) (ShiftFile x c.args.into.0)
    (c.folder_of-folder.ensures ∙ sym (folder_seen t c.args.grants.now x)) told.0 c.move_granted_file.ensures

pub returns-in-None : goal.returns-in-None
unfolding has_grants
returns-in-None c =
    let t = c.args.shape.now.tree in
    let s : Store = seen_store t c.args.grants.now in
    let x = c.args.file.0 in
    let none = clear_none (has_grants s (clear_number x)) (clear_number x) c.in-None.ensures.value in
    in_store_given c.move_file.result s (λ z. c.folder_of-folder.result.0 ≡ folder_of_file z x) (λ z. has_grants z (clear_number x) ≡ false) (ShiftFile x c.args.into.0)
    (c.folder_of-folder.ensures ∙ sym (folder_seen t c.args.grants.now x)) none c.move_file.ensures
