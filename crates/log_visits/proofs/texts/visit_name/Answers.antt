use Rattle.std.proofs.Common.{sym, ap, ◌∙◌}
use Rattle.std.proofs.lemmas.Result.{err_from_is_err_and}
use Rattle.log_visits.specs.Visiting.{is_folder_text, visit, with_name_at}
use Rattle.log_visits.proofs.Naming.{may_be_named, name_refused, name_taken}
use Rattle.log_visits.proofs.Sized.{folder_sized}
use Rattle.role_graph.specs.Roles.{data_of}
use Rattle.log_visits.proofs.texts.visit_name.Goals as goal

pub returns-in_err-at-clause-answer : goal.returns-in_err-at-clause-answer
unfolding visit data_of
returns-in_err-at-clause-answer c = λ told r o s of_log is_told holds has.
    let p = err_from_is_err_and c.from_residual-in_err-at.result c.from_residual-in_err-at.ensures.1 in
    rw (p.1, p.2) (c.in_err-at.ensures.answer told r o (with_name_at o c.args.folder.0) of_log is_told holds)

pub returns-then-not-is_folder_text-clause-answer : goal.returns-then-not-is_folder_text-clause-answer
unfolding visit data_of
returns-then-not-is_folder_text-clause-answer c = λ told r o s of_log is_told holds has.
    c.in_ok-at.ensures.answer told r o (with_name_at o c.args.folder.0) of_log is_told holds
    ∙ name_refused o c.args.folder.0 c.in_ok-at.field-0.at c.in_ok-at.field-0.text.items
    (ap (is_folder_text c.args.folder.0) (sym c.as_slice.ensures) ∙ sym c.is_folder_text.ensures ∙ c.if-not-is_folder_text.true)

pub set-requires-clause-name : goal.set-requires-clause-name
set-requires-clause-name c =
    may_be_named c.args.folder.0 c.in_ok-at.field-0.text.items
    (ap (is_folder_text c.args.folder.0) (sym c.as_slice.ensures) ∙ sym c.is_folder_text.ensures ∙ c.if-not-is_folder_text.false)

pub returns-clause-answer : goal.returns-clause-answer
unfolding visit data_of
returns-clause-answer c = λ told r o s of_log is_told holds has.
    let is = ap (is_folder_text c.args.folder.0) (sym c.as_slice.ensures) ∙ sym c.is_folder_text.ensures ∙ c.if-not-is_folder_text.false in
    let w = name_taken s o c.args.folder.0 c.in_ok-at.field-0.at c.in_ok-at.field-0.text.items c.new.result.items c.set.new.self c.reserve.new.self c.args.names.now is c.set.ensures.titles
    c.in_ok-reserve.ensures.folders c.in_ok-reserve.ensures.files has
    in
    (w.0, c.in_ok-at.ensures.answer told r o (with_name_at o c.args.folder.0) of_log is_told holds ∙ w.1, w.2)

pub returns-clause-sized : goal.returns-clause-sized
returns-clause-sized c = λ sized.
    folder_sized c.args.folder.0 c.in_ok-at.field-0.text.items c.new.result.items c.set.new.self c.reserve.new.self c.args.names.now c.set.ensures.titles c.in_ok-reserve.ensures.files sized
