use Rattle.std.proofs.Common.{◌≡◌, ◌≤◌, ◌+◌, ◌*◌, ℕ, List, [], ◌∷◌, drop, get_or, map, arith, sym, ap, ◌∙◌, subst}
use Rattle.std.proofs.lemmas.List.{drop_all, drop_more}
use Rattle.cry_base.specs.Store.{Store}
use Rattle.cry_base.specs.declared.roles.Edge.{Edge}
use Rattle.cry_base.specs.declared.roles.Role.{Role}
use Rattle.cry_base.specs.declared.roles.Role.TheVariants.{Owner}
use Rattle.role_graph.specs.Adjacent.{count_from}
use Rattle.role_graph.specs.Edges.{edges, reach_along}
use Rattle.rekey_walk.specs.Dirty.{mark, mark_all}
use Rattle.public_fold.specs.LookUps.{mark_look_ups}
use Rattle.public_fold.proofs.marks.mark_behind.Goals as goal

-- one edge more is marked behind
one_less : (es removed : List Edge) (i : ℕ) (d : Edge) (start so_far now : ℕ) (e : Edge) (rest : List Edge) → drop i removed ≡ e ∷ rest
    → so_far + mark_look_ups es (map (λ (x : Edge). x.to) (drop i removed)) ≤ start
    → now ≤ so_far + 2 * count_from es (reach_along es (e.to ∷ [])) + 1
    → now + mark_look_ups es (map (λ (x : Edge). x.to) rest) ≤ start
unfolding mark_look_ups
one_less es removed i d start so_far now e rest more before one =
    let all : mark_look_ups es (map (λ (x : Edge). x.to) (drop i removed)) ≡ 2 * count_from es (reach_along es (e.to ∷ [])) + 1 + mark_look_ups es (map (λ (x : Edge). x.to) rest) =
    ap (λ (l : List Edge). mark_look_ups es (map (λ (x : Edge). x.to) l)) more in
    omega (arith, before, one, all)

pub loop-edge-preserved : goal.loop-edge-preserved
unfolding mark_all
loop-edge-preserved g c =
    let s = g.R.Adjacent.store c.args.roles.now in
    let es : List Edge = edges s in
    let removed : List Edge = c.args.removed.now in
    let i = c.loop-edge.edge-index in
    let d : Edge = record { kind = 0; from = Owner; to = Owner } in
    let e : Edge = get_or removed i d in
    let rest : List Edge = drop (i + 1) removed in
    let more : drop i removed ≡ e ∷ rest = drop_more removed i d c.loop-edge-test.true in
    let same = c.loop-edge.invariant.same in
    let one = subst (λ (t : Store). g.R.Adjacent.steps c.mark_in.new.roles ≤ g.R.Adjacent.steps c.loop-edge.roles + 2 * count_from (edges t) (reach_along (edges t) (e.to ∷ [])) + 1) same c.mark_in.ensures.steps in
    record {
      marks = ap (λ (l : List Role). mark_all l es (map (λ (x : Edge). x.to) rest)) (c.in_ok-mark_in.ensures.ok ∙ ap (λ (t : Store). mark c.loop-edge.dirty (edges t) e.to) same)
          ∙ sym (ap (λ (l : List Edge). mark_all c.loop-edge.dirty es (map (λ (x : Edge). x.to) l)) more) ∙ c.loop-edge.invariant.marks;
      steps = one_less es removed i d _ (g.R.Adjacent.steps c.loop-edge.roles) (g.R.Adjacent.steps c.mark_in.new.roles) e rest more c.loop-edge.invariant.steps one;
      same = c.mark_in.ensures.same ∙ same;
    }

pub returns-in_err-mark_in-clause-steps : goal.returns-in_err-mark_in-clause-steps
returns-in_err-mark_in-clause-steps g c =
    let es : List Edge = edges (g.R.Adjacent.store c.args.roles.now) in
    let removed : List Edge = c.args.removed.now in
    let i = c.loop-edge.edge-index in
    let d : Edge = record { kind = 0; from = Owner; to = Owner } in
    let e : Edge = get_or removed i d in
    let rest : List Edge = drop (i + 1) removed in
    let one = subst (λ (t : Store). g.R.Adjacent.steps c.mark_in.new.roles ≤ g.R.Adjacent.steps c.loop-edge.roles + 2 * count_from (edges t) (reach_along (edges t) (e.to ∷ [])) + 1) c.loop-edge.invariant.same c.mark_in.ensures.steps in
    let all = one_less es removed i d _ (g.R.Adjacent.steps c.loop-edge.roles) (g.R.Adjacent.steps c.mark_in.new.roles) e rest (drop_more removed i d c.loop-edge-test.true) c.loop-edge.invariant.steps one in
    omega (arith, all)

pub returns-clause-marks : goal.returns-clause-marks
unfolding mark_all
returns-clause-marks g c =
    ap (λ (l : List Edge). mark_all c.loop-edge.dirty (edges (g.R.Adjacent.store c.args.roles.now)) (map (λ (x : Edge). x.to) l)) (sym (drop_all c.loop-edge.edge-index c.args.removed.now c.loop-edge-test.false))
    ∙ c.loop-edge.invariant.marks

pub returns-clause-steps : goal.returns-clause-steps
returns-clause-steps g c = let all = c.loop-edge.invariant.steps in omega (arith, all)
