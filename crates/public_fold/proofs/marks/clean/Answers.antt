use Rattle.std.proofs.Common.{◌+◌, drop, sym, ap, ◌∙◌}
use Rattle.role_graph.specs.Roles.{same_role}
use Rattle.public_fold.specs.KeyStep.{without}
use Rattle.public_fold.proofs.StepLists.{cleaned_end, cleaned_more}
use Rattle.public_fold.proofs.marks.clean.Goals as goal

pub loop-role-preserved : goal.loop-role-preserved
loop-role-preserved c =
    ap (λ d. without same_role (drop (c.loop-role.role-index + 1) c.args.roles.now) d) c.clean.ensures
    ∙ cleaned_more c.args.roles.now c.loop-role.dirty c.loop-role.role-index _ c.loop-role-test.true
    ∙ c.loop-role.invariant

pub returns : goal.returns
returns c = sym (cleaned_end c.args.roles.now c.loop-role.dirty c.loop-role.role-index c.loop-role-test.false) ∙ c.loop-role.invariant
