use Rattle.std.proofs.Common.{◌++◌, map, sym, subst}
use Rattle.std.specs.List.{AllByRecursion}
use Rattle.std.proofs.lemmas.Result.{err_from_is_err_and}
use Rattle.commit_journal.specs.Placed.{plain_placed}
use Rattle.log_visits.specs.Opening.{FailsBy, HasItsKind, LeadsOn, file_row_visits, owner_list, plain_visit}
use Rattle.log_visits.proofs.Opens.{first_fails, if_err_so, leads_both, on_ok_so, second_fails}
use Rattle.log_visits.proofs.OwnerVisits.{all_parts}
use Rattle.log_visits.proofs.opening.visit_owned.Goals as goal

pub visit_part-requires-clause-kinds : goal.visit_part-requires-clause-kinds
visit_part-requires-clause-kinds c =
    let names = map plain_visit c.args.visits.now.names.items in
    let rest = file_row_visits c.args.files ++ map plain_visit c.args.visits.now.keys.items in
    subst (λ l. AllByRecursion HasItsKind (map plain_visit l)) (sym c.as_slice-names.ensures.value) (all_parts HasItsKind names rest c.requires.kinds).0

pub visit_part-requires-2-clause-kinds : goal.visit_part-requires-2-clause-kinds
visit_part-requires-2-clause-kinds c =
    let names = map plain_visit c.args.visits.now.names.items in
    let files = file_row_visits c.args.files in
    let keys = map plain_visit c.args.visits.now.keys.items in
    let rest = (all_parts HasItsKind names (files ++ keys) c.requires.kinds).1 in
    subst (λ l. AllByRecursion HasItsKind (map plain_visit l)) (sym c.as_slice-keys.ensures.value) (all_parts HasItsKind files keys rest).1

pub returns-in_err-visit_part-clause-failed : goal.returns-in_err-visit_part-clause-failed
returns-in_err-visit_part-clause-failed c =
    let p = err_from_is_err_and c.from_residual.result c.from_residual.ensures.1 in
    let state = c.args.state.now in
    let log = map plain_placed c.args.indexed.now in
    let names = map plain_visit c.args.visits.now.names.items in
    let rest = file_row_visits c.args.files ++ map plain_visit c.args.visits.now.keys.items in
    let old = c.args.view.now in
    let fault = c.in_err-visit_part.field-0.0 in
    let failed = subst (λ l. FailsBy state log (map plain_visit l) old fault) c.as_slice-names.ensures.value (c.in_err-visit_part.ensures.failed tt) in
    rw (p.1, p.2) (first_fails state log names rest old fault failed)

pub returns-in_err-visit_files-clause-failed : goal.returns-in_err-visit_files-clause-failed
returns-in_err-visit_files-clause-failed c =
    let p = err_from_is_err_and c.from_residual-in_err-visit_files.result c.from_residual-in_err-visit_files.ensures.1 in
    let state = c.args.state.now in
    let log = map plain_placed c.args.indexed.now in
    let names = map plain_visit c.args.visits.now.names.items in
    let files = file_row_visits c.args.files in
    let keys = map plain_visit c.args.visits.now.keys.items in
    let old = c.args.view.now in
    let named = c.visit_part.new.view in
    let fault = c.in_err-visit_files.field-0.0 in
    let made = subst (λ l. LeadsOn state log (map plain_visit l) old named) c.as_slice-names.ensures.value (c.in_ok-visit_part.ensures.visited tt) in
    rw (p.1, p.2) (second_fails state log names (files ++ keys) old named fault made (first_fails state log files keys named fault c.in_err-visit_files.ensures.failed))

pub returns-clause-visited : goal.returns-clause-visited
returns-clause-visited c =
    let state = c.args.state.now in
    let log = map plain_placed c.args.indexed.now in
    let names = map plain_visit c.args.visits.now.names.items in
    let files = file_row_visits c.args.files in
    let keys = map plain_visit c.args.visits.now.keys.items in
    let old = c.args.view.now in
    let named = c.visit_part.new.view in
    let filed = c.visit_files.new.view in
    let all = c.visit_part-2.new.view in
    let made = subst (λ l. LeadsOn state log (map plain_visit l) old named) c.as_slice-names.ensures.value (c.in_ok-visit_part.ensures.visited tt) in
    on_ok_so (LeadsOn state log (map plain_visit c.as_slice-keys.result.now) filed all) (LeadsOn state log (owner_list c.args.visits.now c.args.files) old all) c.visit_part-2.result
    (λ last. leads_both state log names (files ++ keys) old named all made
    (leads_both state log files keys named filed all c.in_ok-visit_files.ensures.visited (subst (λ l. LeadsOn state log (map plain_visit l) filed all) c.as_slice-keys.ensures.value last)))
    (c.visit_part-2.ensures.visited tt)

pub returns-clause-failed : goal.returns-clause-failed
returns-clause-failed c =
    let state = c.args.state.now in
    let log = map plain_placed c.args.indexed.now in
    let names = map plain_visit c.args.visits.now.names.items in
    let files = file_row_visits c.args.files in
    let keys = map plain_visit c.args.visits.now.keys.items in
    let old = c.args.view.now in
    let named = c.visit_part.new.view in
    let filed = c.visit_files.new.view in
    let made = subst (λ l. LeadsOn state log (map plain_visit l) old named) c.as_slice-names.ensures.value (c.in_ok-visit_part.ensures.visited tt) in
    if_err_so (FailsBy state log (map plain_visit c.as_slice-keys.result.now) filed) (FailsBy state log (owner_list c.args.visits.now c.args.files) old) c.visit_part-2.result
    (λ fault last. second_fails state log names (files ++ keys) old named fault made
    (second_fails state log files keys named filed fault c.in_ok-visit_files.ensures.visited (subst (λ l. FailsBy state log (map plain_visit l) filed fault) c.as_slice-keys.ensures.value last)))
    (c.visit_part-2.ensures.failed tt)
