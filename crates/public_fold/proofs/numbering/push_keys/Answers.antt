use Rattle.std.proofs.Common.{◌+◌, ◌++◌, drop, sym, ap, ◌∙◌, arith}
use Rattle.cry_base.specs.declared.roles.Role.{Role}
use Rattle.public_fold.specs.KeyStep.{numbered}
use Rattle.public_fold.proofs.StepLists.{numbered_all, numbered_more}
use Rattle.public_fold.proofs.numbering.push_keys.Goals as goal

pub loop-role-preserved : goal.loop-role-preserved
loop-role-preserved c = record {
  at = omega arith;
  so_far =
      ap (λ l. l ++ numbered (c.loop-role.next + 1) (drop (c.loop-role.role-index + 1) c.args.roles.now)) c.in_ok-push.ensures.items
      ∙ numbered_more Role c.loop-role.keys.items c.args.roles.now c.loop-role.next c.loop-role.role-index _ c.loop-role-test.true
      ∙ c.loop-role.invariant.so_far;
}

pub returns : goal.returns
returns c = sym (numbered_all Role c.loop-role.keys.items c.args.roles.now c.loop-role.next c.loop-role.role-index c.loop-role-test.false) ∙ c.loop-role.invariant.so_far
