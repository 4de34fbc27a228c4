use Rattle.std.proofs.Common.{◌≡◌, ℕ, List, sym, ap, ◌∙◌}
use Rattle.cry_base.specs.declared.roles.Role.{Role}
use Rattle.move_plan.specs.Seen.{seen_store}
use Rattle.public_fold.specs.KeyStep.{newest}
use Rattle.public_fold.specs.Standing.{PublicView}
use Rattle.public_fold.proofs.KeysReordered.{agreed_alike, agreed_other, alike_kept}
use Rattle.public_fold.proofs.state.PublicState.ordered_by.Goals as goal

pub invariant_of-result : goal.invariant_of-result
invariant_of-result c =
    alike_kept (seen_store c.self.inside.shape.tree c.self.inside.grants) c.self.inside.keys.keys c.ordered_by.result.keys c.self.inside.dirty
    (λ r. ap (λ (keys : List (Role × ℕ)). newest keys r) c.ordered_by.ensures.keys ∙ agreed_alike c.self.inside.keys.keys c.args.order.keys r)
    c.self.invariant

pub returns-clause-alike : goal.returns-clause-alike
returns-clause-alike c = λ r.
    ap (λ (keys : List (Role × ℕ)). newest keys r) c.ordered_by.ensures.keys
    ∙ agreed_alike c.self.inside.keys.keys c.args.order.keys r
    ∙ ap (λ (v : PublicView). newest v.keys.keys r) c.self.view_is

pub returns-clause-taken : goal.returns-clause-taken
returns-clause-taken c = λ alike.
    c.ordered_by.ensures.keys
    ∙ agreed_other c.self.inside.keys.keys c.args.order.keys (λ r. alike r ∙ sym (ap (λ (v : PublicView). newest v.keys.keys r) c.self.view_is))
