use Rattle.std.proofs.Common.{true, map, refl, sym, ap, subst, ◌∙◌}
use Rattle.std.specs.List.{AllByRecursion, flat_map}
use Rattle.std.proofs.lemmas.List.{map-append}
use Rattle.std.proofs.lemmas.Result.{err_from_is_err_and}
use Rattle.commit_journal.specs.Placed.{plain_placed}
use Rattle.folder_nodes.specs.declared.rows.FileRow.{FileRow}
use Rattle.log_visits.specs.Listing.{file_part}
use Rattle.log_visits.specs.Opening.{FailsBy, HasItsKind, LeadsOn, file_row_visits, plain_visit}
use Rattle.log_visits.proofs.Opens.{ArePassed, for_kinds, part_fails, part_passed}
use Rattle.log_visits.proofs.OwnerVisits.{file_fit}
use Rattle.log_visits.proofs.opening.visit_files.Goals as goal

pub loop-file-init : goal.loop-file-init
loop-file-init c =
    let state = c.args.state.now in
    let log = map plain_placed c.args.indexed.now in
    record {
      present = c.requires.keys;
      sized = c.requires.sized;
      visited = subst (λ l. ArePassed state log (file_row_visits c.args.files) c.args.view.now (file_row_visits l) c.args.view.now) (sym c.into_iter-file-iterator.ensures.into_iter_gives) (λ all left first is. is);
    }

pub visit_part-requires-clause-kinds : goal.visit_part-requires-clause-kinds
visit_part-requires-clause-kinds c =
    let row = c.in-Some.file.now in
    subst (λ l. AllByRecursion HasItsKind (map plain_visit l)) (sym c.of_file.ensures) (for_kinds (λ role. true) (map plain_visit (file_part row.folder row.id)) (file_fit (λ role. true) row refl refl))

pub loop-file-preserved : goal.loop-file-preserved
loop-file-preserved c =
    let state = c.args.state.now in
    let log = map plain_placed c.args.indexed.now in
    let all = file_row_visits c.args.files in
    let row = c.in-Some.file.now in
    let part = map plain_visit (file_part row.folder row.id) in
    let rest = file_row_visits c.next.new.self in
    let split = ap file_row_visits c.in-Some.ensures.steps ∙ map-append plain_visit (file_part row.folder row.id) (flat_map (λ (r : FileRow). file_part r.folder r.id) c.next.new.self) in
    let so_far = subst (λ l. ArePassed state log all c.args.view.now l c.loop-file.view) split c.loop-file.invariant.visited in
    let made = subst (λ l. LeadsOn state log (map plain_visit l) c.loop-file.view c.visit_part.new.view) c.of_file.ensures (c.in_ok-visit_part.ensures.visited tt) in
    record {
      present = c.in_ok-visit_part.ensures.keys;
      sized = c.in_ok-visit_part.ensures.sized;
      visited = part_passed state log all part rest c.args.view.now c.loop-file.view c.visit_part.new.view so_far made;
    }

pub returns-in_err-visit_part-clause-failed : goal.returns-in_err-visit_part-clause-failed
returns-in_err-visit_part-clause-failed c =
    let p = err_from_is_err_and c.from_residual.result c.from_residual.ensures.1 in
    let state = c.args.state.now in
    let log = map plain_placed c.args.indexed.now in
    let all = file_row_visits c.args.files in
    let row = c.in-Some.file.now in
    let part = map plain_visit (file_part row.folder row.id) in
    let rest = file_row_visits c.next.new.self in
    let fault = c.in_err-visit_part.field-0.0 in
    let split = ap file_row_visits c.in-Some.ensures.steps ∙ map-append plain_visit (file_part row.folder row.id) (flat_map (λ (r : FileRow). file_part r.folder r.id) c.next.new.self) in
    let so_far = subst (λ l. ArePassed state log all c.args.view.now l c.loop-file.view) split c.loop-file.invariant.visited in
    let failed = subst (λ l. FailsBy state log (map plain_visit l) c.loop-file.view fault) c.of_file.ensures (c.in_err-visit_part.ensures.failed tt) in
    rw (p.1, p.2) (part_fails state log all part rest c.args.view.now c.loop-file.view fault so_far failed)

pub returns-clause-visited : goal.returns-clause-visited
returns-clause-visited c =
    let state = c.args.state.now in
    let log = map plain_placed c.args.indexed.now in
    subst (λ l. ArePassed state log (file_row_visits c.args.files) c.args.view.now (file_row_visits l) c.loop-file.view) c.in-None.ensures.steps.0 c.loop-file.invariant.visited
