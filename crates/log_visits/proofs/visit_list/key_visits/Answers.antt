use Rattle.std.proofs.Common.{◌+◌, [], ◌∷◌, ◌++◌, ap, ◌∙◌, arith}
use Rattle.log_visits.specs.declared.visit_list.Visit.TheVariants.{Key}
use Rattle.log_visits.proofs.OwnerVisits.{one_more}
use Rattle.log_visits.proofs.visit_list.key_visits.Goals as goal

pub loop-before-preserved : goal.loop-before-preserved
loop-before-preserved c =
    let n = c.loop-before.before in
    record {
      within = omega (arith, c.loop-before-test.true);
      listed = c.in_ok-push.ensures.items
          ∙ ap (λ l. l ++ Key (record { 0 = n + 1 }) ∷ []) c.loop-before.invariant.listed
          ∙ one_more (λ h. Key (record { 0 = h })) n;
    }
