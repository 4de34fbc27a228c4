use Rattle.std.proofs.Common.{◌≡◌, [], ◌∷◌, sym, ◌∙◌}
use Rattle.cry_base.specs.Clearances.{file_of}
use Rattle.cry_base.specs.Store.{Store}
use Rattle.cry_base.proofs.Versions.{file_number}
use Rattle.record_format.specs.Noted.Note.{Give}
use Rattle.role_graph.specs.Edges.{grant_edge, has_grants}
use Rattle.role_graph.specs.Roles.{clear_of}
use Rattle.move_plan.specs.Change.{edges_of_first, folder_of_file, no_change, row_change}
use Rattle.move_plan.specs.Seen.{seen_store}
use Rattle.move_plan.proofs.Cleared.{give_again, give_first, give_folder, named_file, named_folder}
use Rattle.move_plan.proofs.Noting.{as_change, as_change_where}
use Rattle.move_plan.proofs.Seeing.{folder_seen}
use Rattle.move_plan.proofs.granting.give_number.Goals as goal

pub give_first-requires : goal.give_first-requires
give_first-requires c = file_number c.args.number.0 c.in-Some.file.0 (named_file (file_of c.args.number.0) c.in-Some.file c.in-Some.ensures.value)

pub returns-in_default : goal.returns-in_default
returns-in_default c =
    let s : Store = seen_store c.args.shape.now.tree c.args.grants.now in
    let h = c.args.holder.0 in
    let f = c.args.number.0 in
    as_change c.give.result (record no_change { added = grant_edge h f ∷ [] }) (row_change s (Give h f)) (give_folder s h f (named_folder (file_of f) c.in_default.ensures.value)) c.give.ensures

pub returns-then-has_on : goal.returns-then-has_on
unfolding has_grants
returns-then-has_on c =
    let s : Store = seen_store c.args.shape.now.tree c.args.grants.now in
    let h = c.args.holder.0 in
    let f = c.args.number.0 in
    as_change c.give-then-has_on.result (record no_change { added = grant_edge h f ∷ [] }) (row_change s (Give h f))
    (give_again s h f c.in-Some.file.0 (named_file (file_of f) c.in-Some.file c.in-Some.ensures.value) (sym c.has_on.ensures ∙ c.if-has_on.true)) c.give-then-has_on.ensures

pub returns : goal.returns
unfolding has_grants
returns c =
    let t = c.args.shape.now.tree in
    let s : Store = seen_store t c.args.grants.now in
    let h = c.args.holder.0 in
    let f = c.args.number.0 in
    let x = c.in-Some.file.0 in
    as_change_where c.give_first.result s (λ z. c.folder_of-folder.result.0 ≡ folder_of_file z x) (λ z. record no_change { fresh = clear_of f ∷ []; added = edges_of_first z h x }) (row_change s (Give h f))
    (give_first s h f x (named_file (file_of f) c.in-Some.file c.in-Some.ensures.value) (sym c.has_on.ensures ∙ c.if-has_on.false))
    (c.folder_of-folder.ensures ∙ sym (folder_seen t c.args.grants.now x)) c.give_first.ensures
