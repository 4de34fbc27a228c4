use Rattle.std.proofs.lemmas.Result.{err_from_is_err_and}
use Rattle.log_visits.proofs.Naming.{file_titled}
use Rattle.log_visits.proofs.Sized.{file_sized}
use Rattle.log_visits.proofs.texts.visit_file.Goals as goal

pub returns-in_err-name-clause-answer : goal.returns-in_err-name-clause-answer
returns-in_err-name-clause-answer c = λ told r o s of_log is_told holds has.
    let p = err_from_is_err_and c.from_residual-in_err-name.result c.from_residual-in_err-name.ensures.1 in
    rw (p.1, p.2) (c.in_err-name.ensures.answer told r o of_log is_told holds)

pub returns-clause-answer : goal.returns-clause-answer
returns-clause-answer c = λ told r o s of_log is_told holds has.
    let w = c.in_ok-name.ensures.answer told r o of_log is_told holds in (
      w.0,
      w.1,
      file_titled s o w.0 c.args.file.0 c.in_ok-name.field-0.name.items c.in_ok-name.field-0.bytes.items c.set.new.self c.reserve.new.self c.args.names.now w.2 c.set.ensures.titles
          c.in_ok-reserve.ensures.folders c.in_ok-reserve.ensures.files has,
    )

pub returns-clause-sized : goal.returns-clause-sized
returns-clause-sized c = λ sized.
    file_sized c.args.file.0 c.in_ok-name.field-0.name.items c.in_ok-name.field-0.bytes.items c.set.new.self c.reserve.new.self c.args.names.now c.in_ok-name.ensures.form.1 c.set.ensures.titles
    c.in_ok-reserve.ensures.files sized
