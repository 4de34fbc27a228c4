use Rattle.std.proofs.Common.{sym, ap, ◌∙◌}
use Rattle.cry_base.specs.Clearances.{file_of}
use Rattle.move_plan.specs.Fitting.{clear_stands, is_file_there}
use Rattle.move_plan.proofs.Cleared.{named_file, named_folder}
use Rattle.move_plan.proofs.fitting.clear_stands.Goals as goal

pub returns-in-Some : goal.returns-in-Some
unfolding clear_stands is_file_there
returns-in-Some c = c.has_file.ensures ∙ ap (is_file_there c.args.shape.now.tree) (sym (named_file (file_of c.args.f.0) c.in-Some.x c.in-Some.ensures.value))

pub returns-in-None : goal.returns-in-None
unfolding clear_stands is_file_there
returns-in-None c = ap (is_file_there c.args.shape.now.tree) (sym (named_folder (file_of c.args.f.0) c.in-None.ensures.value))
