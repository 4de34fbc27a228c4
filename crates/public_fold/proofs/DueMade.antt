-- What the code lists for a step is what the definitions say of it.
use Rattle.std.proofs.Common.{ℕ, ◌≡◌, ◌==◌, true, List, [], ◌∷◌, ◌++◌, length, map, refl, ap, ◌∙◌, arith}
use Rattle.std.proofs.lemmas.Bool.{eqb-true}
use Rattle.cry_base.specs.Sets.{has}
use Rattle.cry_base.specs.declared.roles.Edge.{Edge}
use Rattle.cry_base.specs.declared.roles.Role.{Role}
use Rattle.role_graph.specs.Adjacent.{edges_but}
use Rattle.role_graph.specs.Ascending.{ascending}
use Rattle.role_graph.specs.Roles.{same_role}
use Rattle.rekey_walk.specs.Dirty.{mark_all, plan}
use Rattle.move_plan.specs.Change.{Change}
use Rattle.public_fold.specs.KeyStep.{KeyState, dirty_left, edges_left, planned, published_edges, renewed, without, keys_without}
use Rattle.public_fold.specs.Stepping.{IsDue, keyed_of, marks_alone}
use Rattle.public_fold.specs.declared.step.Due.{Due}

-- where marks and plan are those of the edges, and what was found for the plan is published
pub due_is : (k : KeyState) (before : List Edge) (c : Change) (marked again : List Role) (d : Due)
    → marked ≡ without same_role c.gone (mark_all k.dirty before (map (λ (e : Edge). e.to) c.removed))
    → again ≡ ascending (c.strict ++ plan marked (edges_but c.removed before) c.wanted)
    → keyed_of d ≡ again ++ c.fresh
    → d.gone.items ≡ again ++ c.gone
    → d.edges.items ≡ published_edges before c again
    → d.dirty ≡ without same_role again marked
    → d.version ≡ c.version
    → IsDue k before c d
unfolding renewed planned dirty_left edges_left edges_but without
due_is k before c marked again d m a keyed gone edges dirty version =
    let r : again ≡ renewed k before c = a ∙ ap (λ (x : List Role). ascending (c.strict ++ plan x (edges_left before c) c.wanted)) m in
    record {
      keyed = keyed ∙ ap (λ (x : List Role). x ++ c.fresh) r;
      gone = gone ∙ ap (λ (x : List Role). x ++ c.gone) r;
      dirty = dirty ∙ (λ i. without same_role (r i) (m i));
      edges = edges ∙ ap (λ (x : List Role). published_edges before c x) r;
      version = version;
    }

-- the plan of these marks is the definition's
pub planned_is : (k : KeyState) (before : List Edge) (c : Change) (marked : List Role)
    → marked ≡ without same_role c.gone (mark_all k.dirty before (map (λ (e : Edge). e.to) c.removed))
    → plan marked (edges_but c.removed before) c.wanted ≡ planned k before c
unfolding planned dirty_left edges_left edges_but without
planned_is k before c marked m = ap (λ (x : List Role). plan x (edges_left before c) c.wanted) m

-- what is due hangs on the marks, and on no more of the keys
pub due_of_marks : (k : KeyState) (before : List Edge) (c : Change) (d : Due) → IsDue (marks_alone k.dirty) before c d → IsDue k before c d
unfolding renewed planned dirty_left
due_of_marks k before c d is = record { keyed = is.keyed; gone = is.gone; dirty = is.dirty; edges = is.edges; version = is.version }

-- with no role gone all keys stay
pub none_gone : (gone : List Role) (keys : List (Role × ℕ)) → (length gone == 0) ≡ true → keys_without gone keys ≡ keys
unfolding keys_without has
none_gone [] [] none = refl
none_gone [] (k ∷ ks) none = ap (λ (l : List (Role × ℕ)). k ∷ l) (none_gone [] ks none)
none_gone (r ∷ rs) keys none = absurd (let empty : length (r ∷ rs) ≡ 0 = eqb-true (length (r ∷ rs)) 0 none in omega (arith, empty))
