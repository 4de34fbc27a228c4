use Rattle.std.proofs.Common.{ap, sym, ◌∙◌, arith, cond, None}
use Rattle.cry_base.specs.Sets.{has}
use Rattle.role_graph.specs.Roles.{same_role}
use Rattle.public_fold.proofs.KeyTabled.{gone_all, gone_more, newest-left}
use Rattle.public_fold.proofs.by_kind.remove_keys.Goals as goal

pub loop-role-preserved : goal.loop-role-preserved
loop-role-preserved c = record {
  left = λ role.
      gone_more c.args.gone.now c.loop-role.rows c.remove.new.self c.loop-role.role-index _ role c.loop-role-test.true (c.remove.ensures.serials role)
      ∙ c.loop-role.invariant.left role;
  spare = omega arith;
}

pub returns-clause-keys : goal.returns-clause-keys
returns-clause-keys c = λ keys is role.
    sym (gone_all c.args.gone.now c.loop-role.rows c.loop-role.role-index role c.loop-role-test.false)
    ∙ c.loop-role.invariant.left role
    ∙ ap (λ o. cond (has same_role c.args.gone.now role) None o) (is role)
    ∙ sym (newest-left c.args.gone.now keys role)
