use Rattle.std.proofs.Common.{refl, sym, ap, subst, ◌∙◌}
use Rattle.std.proofs.lemmas.Result.{err_from_is_err_and}
use Rattle.log_visits.specs.Holding.{HasParts}
use Rattle.log_visits.specs.Visiting.{is_file_text, visit, with_text_at}
use Rattle.log_visits.proofs.Naming.{text_refused, file_opened}
use Rattle.log_visits.proofs.Sized.{parts_sized}
use Rattle.role_graph.specs.Roles.{file_role}
use Rattle.log_visits.proofs.texts.open_file.Goals as goal

pub returns-in_err-at-clause-answer : goal.returns-in_err-at-clause-answer
unfolding visit file_role
returns-in_err-at-clause-answer c = λ told r o of_log is_told holds.
    let p = err_from_is_err_and c.from_residual.result c.from_residual.ensures.1 in
    rw (p.1, p.2) (c.in_err-at.ensures.answer told r o (with_text_at o c.args.file.0) of_log is_told holds)

pub returns-in_default-clause-answer : goal.returns-in_default-clause-answer
unfolding visit file_role
returns-in_default-clause-answer c = λ told r o of_log is_told holds.
    c.in_ok-at.ensures.answer told r o (with_text_at o c.args.file.0) of_log is_told holds
    ∙ text_refused o c.args.file.0 c.in_ok-at.field-0.at c.in_ok-at.field-0.text.items (ap is_file_text (sym c.as_slice.ensures) ∙ c.in_default.ensures)

pub returns-clause-answer : goal.returns-clause-answer
unfolding visit file_role
returns-clause-answer c = λ told r o of_log is_told holds.
    let text = c.in_ok-at.field-0.text.items in
    let name = c.in_ok-name.name.items in
    let bytes = c.in_ok-bytes.bytes.items in
    let parts : HasParts text name bytes =
    subst (λ n. HasParts text n bytes) (sym c.in_ok-name.ensures) (subst (λ b. HasParts text c.in-Some.name.now b) (sym c.in_ok-bytes.ensures)
    (subst (λ t. HasParts t c.in-Some.name.now c.in-Some.bytes.now) c.as_slice.ensures c.in-Some.ensures))
    in
    (_, c.in_ok-at.ensures.answer told r o (with_text_at o c.args.file.0) of_log is_told holds ∙ file_opened o c.args.file.0 c.in_ok-at.field-0.at text name bytes parts, refl)

pub returns-clause-form : goal.returns-clause-form
returns-clause-form c =
    let text = c.in_ok-at.field-0.text.items in
    let name = c.in_ok-name.name.items in
    let bytes = c.in_ok-bytes.bytes.items in
    let parts : HasParts text name bytes =
    subst (λ n. HasParts text n bytes) (sym c.in_ok-name.ensures) (subst (λ b. HasParts text c.in-Some.name.now b) (sym c.in_ok-bytes.ensures)
    (subst (λ t. HasParts t c.in-Some.name.now c.in-Some.bytes.now) c.as_slice.ensures c.in-Some.ensures))
    in
    (parts.2, parts_sized text name bytes parts)
