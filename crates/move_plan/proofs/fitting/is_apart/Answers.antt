use Rattle.std.proofs.Common.{◌≡◌, ◌∙◌, true, not, sym, ap, subst}
use Rattle.std.proofs.lemmas.Bool.{eq-eqb}
use Rattle.cry_base.specs.Store.{is_within}
use Rattle.move_plan.proofs.Seeing.{within_itself}
use Rattle.move_plan.proofs.fitting.is_apart.Goals as goal

pub returns-else-f-above : goal.returns-else-f-above
returns-else-f-above c =
    let t = c.args.shape.now.tree in
    let same : c.args.f.0 ≡ c.args.above.0 = c.if-f-above.false in
    ap not (eq-eqb _ _ same ∙ sym (subst (λ g. is_within t c.args.f.0 g ≡ true) same (within_itself t c.is_tree.ensures c.args.f.0 c.requires)))
