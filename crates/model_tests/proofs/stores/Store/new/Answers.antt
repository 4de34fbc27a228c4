use Rattle.std.proofs.Common.{◌≡◌, ◌<◌, Option, Some, None, arith, ap, ◌∙◌}
use Rattle.std.specs.Prelude.{MatchOption}
use Rattle.cry_base.specs.Clearances.{clear_base}
use Rattle.cry_base.specs.Store.{Store, no_store}
use Rattle.folder_nodes.specs.Bare.{Shaped}
use Rattle.model_tests.proofs.stores.Store.new.Goals as goal
use Rattle.model_tests.proofs.stores.Store.new.Goals.{in-Some, in-None}

restored : (P Q : Type 0) (t : Store) (o : Option Shaped) (s : Shaped) → MatchOption o P (λ (z : Shaped). Q × (z.tree ≡ t)) → o ≡ Some s → s.tree ≡ t
restored P Q t None s told is = absurd cc
restored P Q t (Some z) s told is = let same : s ≡ z = cc in ap (λ (x : Shaped). x.tree) same ∙ told.1

pub invariant_of-result : goal.invariant_of-result
unfolding no_store
invariant_of-result c =
    let few : c.match-branch-4.shape.tree.folders_made < clear_base = elim c.match-branch-4.branch [
      | in-Some w ↦
          let told = ap (λ (s : Shaped). s.tree.folders_made) w.shape-is
          ∙ ap (λ (t : Store). t.folders_made) (restored _ _ _ c.in_ok-shape.field-0 w.in-Some.shape c.in_ok-shape.ensures w.in-Some.is) in
          omega (arith, told)
      | in-None w ↦
          let told : c.match-branch-4.shape.tree.folders_made ≡ 0 =
          ap (λ (s : Shaped). s.tree.folders_made) w.shape-is ∙ ap (λ (t : Store). t.folders_made) w.new-shape.ensures in
          omega (arith, told)
    ] in
    record { below = c.few_folders_are_below.ensures few }
