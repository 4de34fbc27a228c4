use Rattle.std.proofs.Common.{◌≡◌, ◌+◌, ◌-◌, ◌≤◌, ℕ, nat_lt, nat_le, ◌∙◌, ap, arith}
use Rattle.std.proofs.lemmas.Bool.Decides.{nat_tests}
use Rattle.cry_base.specs.Store.{depth_of, folder_node}
use Rattle.move_plan.proofs.fitting.has_levels_left.Goals as goal

levels : (h d : ℕ) → d ≤ 64 → nat_lt h (64 - d) ≡ nat_le (d + 1 + h) 64
levels h d few = grind (arith, nat_tests)

pub returns : goal.returns
returns c = levels c.height-height.result c.depth-depth.result c.depth-depth.ensures.within
    ∙ ap (λ d. nat_le (d + 1 + c.height-height.result) 64) c.depth-depth.ensures.depth
    ∙ ap (λ h. nat_le (depth_of c.args.shape.now.tree (folder_node c.args.into.0) + 1 + h) 64) c.height-height.ensures
