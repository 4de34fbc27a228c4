-- What is derived and gained by computing is so by the definitions.
use Rattle.std.proofs.Common.{ℕ, Bool, false, not, ◌&&◌, ◌==◌, ◌↔◌, ◌⊎◌, List, [], ◌∷◌, IsTrue, inl, inr, ⊎_elim, refl, sym, ◌∙◌, subst}
use Rattle.std.specs.List.{list_any}
use Rattle.std.proofs.lemmas.Bool.{or_cases, or_left, or_right, and_parts, and_from, false≢true, not-true, not_from_false, false_from_ne_true, eqb-true, eq-eqb}
use Rattle.cry_base.specs.Sets.{In}
use Rattle.cry_base.specs.Requests.{Request}
use Rattle.cry_base.specs.Requests.Request.{AddHolder, MakeFolder, WriteFile, Remove, Rename, Relocate, Grant, Revoke}
use Rattle.cry_base.specs.Store.{Store, nodes_of}
use Rattle.cry_base.specs.declared.roles.Node.{Node}
use Rattle.cry_base.proofs.Members.{In-any}
use Rattle.cry_base.proofs.Reaching.{reach_told}
use Rattle.role_graph.specs.Rights.{IsShown, IsOpen, shown, node_allowed}
use Rattle.role_graph.specs.Rights.Who.{TheHolder}
use Rattle.role_graph.proofs.Granting.{nat_tells, shown_told, open_told}
use Rattle.public_fold.specs.Journal.{Stand, Entry, stand_then}
use Rattle.public_fold.specs.Journal.Entry.{Session, Made, Did, Upgraded}
use Rattle.closure_laws.specs.History.{Published, trails, Derives, derived}
use Rattle.closure_laws.specs.Gains.{GivesGrant, IsGain, gives_grant, is_gained_node, gains}

pub derived_told : (h : List Published) (a b : ℕ) → In b (derived h a) ↔ Derives h a b
unfolding derived
derived_told h a b = (
  λ i. let told = (reach_told ℕ ◌==◌ nat_tells (trails h) (a ∷ []) b).0 i in from_one told.0 told.1 told.2,
  λ way. (reach_told ℕ ◌==◌ nat_tells (trails h) (a ∷ []) b).1 (a, inl refl, way),
)
  where
    from_one : (x : ℕ) → In x (a ∷ []) → Derives h x b → Derives h a b
    from_one x i way = ⊎_elim (λ e. subst (λ z. Derives h z b) e way) (λ n. absurd n) i

-- one test passes and the other doesn't
turned : (x y : Bool) (P Q : Type 0) → IsTrue x ↔ P → IsTrue y ↔ Q → IsTrue (x && not y) ↔ (P × ¬ Q)
turned x y P Q p q = (
  λ t. let both = and_parts x (not y) t in (p.0 both.0, λ h. false≢true (sym (not-true y both.1) ∙ q.1 h)),
  λ w. and_from x (not y) (p.1 w.0) (not_from_false y (false_from_ne_true y (λ t. w.1 (q.0 t)))),
)

gained_told : (before after : Store) (h : ℕ) (node : Node) → IsTrue (is_gained_node before after h node) ↔ ((IsShown after (TheHolder h) node × ¬ IsShown before (TheHolder h) node) ⊎ (IsOpen after (TheHolder h) node × ¬ IsOpen before (TheHolder h) node))
unfolding is_gained_node
gained_told before after h node =
    let s = turned (shown after (TheHolder h) node) (shown before (TheHolder h) node) (IsShown after (TheHolder h) node) (IsShown before (TheHolder h) node) (shown_told after (TheHolder h) node) (shown_told before (TheHolder h) node) in
    let o = turned (node_allowed after (TheHolder h) node) (node_allowed before (TheHolder h) node) (IsOpen after (TheHolder h) node) (IsOpen before (TheHolder h) node) (open_told after (TheHolder h) node) (open_told before (TheHolder h) node) in
    let a = shown after (TheHolder h) node && not (shown before (TheHolder h) node) in
    let b = node_allowed after (TheHolder h) node && not (node_allowed before (TheHolder h) node) in (
      λ t. ⊎_elim (λ l. inl (s.0 l)) (λ r. inr (o.0 r)) (or_cases a b t),
      λ e. ⊎_elim (λ l. or_left a b (s.1 l)) (λ r. or_right a b (o.1 r)) e,
    )

nothing_told : IsTrue false ↔ ⊥
nothing_told = (λ t. false≢true t, λ n. absurd n)

grant_told : (r : Request) (h : ℕ) → IsTrue (gives_grant r h) ↔ GivesGrant r h
unfolding gives_grant
grant_told AddHolder h = nothing_told
grant_told (MakeFolder path) h = nothing_told
grant_told (WriteFile path bytes) h = nothing_told
grant_told (Remove path) h = nothing_told
grant_told (Rename path name) h = nothing_told
grant_told (Relocate path into) h = nothing_told
grant_told (Grant holder path) h = (eqb-true holder h, eq-eqb holder h)
grant_told (Revoke holder path) h = nothing_told

pub gains_told : (at : Stand) (entry : Entry) (h : ℕ) → IsTrue (gains at entry h) ↔ IsGain at entry h
unfolding gains
gains_told at Session h = nothing_told
gains_told at (Made version keys) h = nothing_told
gains_told at (Upgraded keys) h = nothing_told
gains_told at (Did request keys) h =
    let after = (stand_then at (Did request keys)).store in
    let some = In-any Node (is_gained_node at.store after h) (λ node. (IsShown after (TheHolder h) node × ¬ IsShown at.store (TheHolder h) node) ⊎ (IsOpen after (TheHolder h) node × ¬ IsOpen at.store (TheHolder h) node)) (gained_told at.store after h) (nodes_of at.store) in
    let g = grant_told request h in
    let b = list_any (is_gained_node at.store after h) (nodes_of at.store) in (
      λ t. ⊎_elim (λ l. inl (g.0 l)) (λ r. let w = some.0 r in inr (w.0, (w.1, w.2))) (or_cases (gives_grant request h) b t),
      λ e. ⊎_elim (λ l. or_left (gives_grant request h) b (g.1 l)) (λ r. or_right (gives_grant request h) b (some.1 (r.0, r.1.0, r.1.1))) e,
    )
