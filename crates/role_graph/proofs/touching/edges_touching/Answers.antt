use Rattle.std.proofs.Common.{◌≡◌, ◌≤◌, ◌+◌, ◌*◌, List, None, filter, length, ap, ◌∙◌, subst}
use Rattle.std.proofs.lemmas.Result.{IfOk-weaker}
use Rattle.cry_base.specs.declared.roles.Edge.{Edge}
use Rattle.role_graph.specs.Adjacent.{at_roles, once_after}
use Rattle.role_graph.specs.Edges.{edge_before, edges, in_order, unordered}
use Rattle.role_graph.proofs.AtEnds.{at_alike, touches, touching_is}
use Rattle.role_graph.proofs.touching.edges_touching.Goals as goal

pub returns-clause-edges : goal.returns-clause-edges
returns-clause-edges g c =
    let s = g.R.Adjacent.store c.args.roles.now in
    let rs = c.args.at.now in
    let sorted : c.deref.result.now ≡ in_order edge_before (at_roles (unordered s) rs) =
    c.deref.ensures.value ∙ c.in_ok-sort.ensures ∙ ap (λ (l : List Edge). in_order edge_before l) c.in_ok-found.ensures.edges in
    IfOk-weaker c.each_once.result (λ l. l.items ≡ once_after None c.deref.result.now) (λ l. l.items ≡ filter (touches rs) (edges s))
    (λ l e. e ∙ ap (λ (x : List Edge). once_after None x) sorted ∙ touching_is s c.laws.ensures.tree c.laws.ensures.below c.laws.ensures.ordered rs) c.each_once.ensures

pub returns-clause-steps : goal.returns-clause-steps
returns-clause-steps g c =
    let s = g.R.Adjacent.store c.args.roles.now in
    let rs = c.args.at.now in
    let all : length c.in_ok-found.found.items ≡ length (at_roles (edges s) rs) = ap (λ (x : List Edge). length x) c.in_ok-found.ensures.edges ∙ at_alike s rs in
    IfOk-weaker c.each_once.result (λ l. l.items ≡ once_after None c.deref.result.now) (λ l. g.R.Adjacent.steps c.listed_at.new.roles ≡ g.R.Adjacent.steps c.args.roles.now + length (at_roles (edges s) rs) + 2 * length rs)
    (λ l e. c.in_ok-found.ensures.steps ∙ ap (λ n. g.R.Adjacent.steps c.args.roles.now + n + 2 * length rs) all) c.each_once.ensures

pub returns-in_err-found-clause-most : goal.returns-in_err-found-clause-most
returns-in_err-found-clause-most g c =
    subst (λ n. g.R.Adjacent.steps c.listed_at.new.roles ≤ g.R.Adjacent.steps c.args.roles.now + n + 2 * length c.args.at.now)
    (at_alike (g.R.Adjacent.store c.args.roles.now) c.args.at.now) c.listed_at.ensures.most

pub returns-in_err-sort-clause-most : goal.returns-in_err-sort-clause-most
returns-in_err-sort-clause-most g c =
    subst (λ n. g.R.Adjacent.steps c.listed_at.new.roles ≤ g.R.Adjacent.steps c.args.roles.now + n + 2 * length c.args.at.now)
    (at_alike (g.R.Adjacent.store c.args.roles.now) c.args.at.now) c.listed_at.ensures.most

pub returns-clause-most : goal.returns-clause-most
returns-clause-most g c =
    subst (λ n. g.R.Adjacent.steps c.listed_at.new.roles ≤ g.R.Adjacent.steps c.args.roles.now + n + 2 * length c.args.at.now)
    (at_alike (g.R.Adjacent.store c.args.roles.now) c.args.at.now) c.listed_at.ensures.most
