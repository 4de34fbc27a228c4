use Rattle.std.proofs.Common.{◌∙◌}
use Rattle.command_plan.proofs.FoundTargets.{note_told, number_told}
use Rattle.command_plan.proofs.command_notes.note_for.Goals as goal

pub note_to-requires-clause-numbered : goal.note_to-requires-clause-numbered
note_to-requires-clause-numbered c = number_told c.args.shape.now.tree c.requires.found.0 c.is_tree.ensures c.requires.files c.requires.found.2

pub returns : goal.returns
returns c = λ names r found s is. c.note_to.ensures ∙ note_told c.args.shape.now.tree names c.args.grants.now s is found
