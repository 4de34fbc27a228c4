use Rattle.std.proofs.Common.{ℕ, List, sym, ap, ◌∙◌}
use Rattle.cry_base.specs.declared.roles.Role.{Role}
use Rattle.public_fold.specs.KeyStep.{newest}
use Rattle.public_fold.proofs.KeysReordered.{agreed_alike}
use Rattle.public_fold.proofs.keys.KeyTable.ordered_by.Goals as goal

pub invariant_of-result : goal.invariant_of-result
invariant_of-result c = (
  λ role.
      c.self.invariant.0 role
      ∙ sym (agreed_alike c.self.inside.order.keys c.args.order.keys role)
      ∙ ap (λ (keys : List (Role × ℕ)). newest keys role) (sym c.agreeing.ensures),
  c.self.invariant.1,
)
