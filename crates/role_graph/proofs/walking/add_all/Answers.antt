use Rattle.std.proofs.Common.{◌+◌, drop, sym, ap, ◌∙◌}
use Rattle.std.proofs.lemmas.List.{drop_more, drop_all}
use Rattle.cry_base.specs.declared.roles.Role.TheVariants.{Owner}
use Rattle.role_graph.specs.Adjacent.{with_new}
use Rattle.role_graph.proofs.walking.add_all.Goals as goal

pub loop-role-preserved : goal.loop-role-preserved
unfolding with_new
loop-role-preserved c = λ same.
    let roles = c.args.roles.now in
    let i = c.loop-role.role-index in
    let old = c.loop-role.invariant same in (
      ap (λ l. with_new l (drop (i + 1) roles)) (c.in_ok-add.ensures.found old.1)
          ∙ sym (ap (with_new c.loop-role.found.items) (drop_more roles i Owner c.loop-role-test.true)) ∙ old.0,
      c.in_ok-add.ensures.seen old.1,
    )

pub returns-clause-found : goal.returns-clause-found
unfolding with_new
returns-clause-found c = λ same.
    sym (ap (with_new c.loop-role.found.items) (drop_all c.loop-role.role-index c.args.roles.now c.loop-role-test.false)) ∙ (c.loop-role.invariant same).0

pub returns-clause-seen : goal.returns-clause-seen
returns-clause-seen c = λ same. (c.loop-role.invariant same).1
