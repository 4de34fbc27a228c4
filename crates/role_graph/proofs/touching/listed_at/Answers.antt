use Rattle.std.proofs.Common.{◌≡◌, ◌≤◌, ◌+◌, List, length, get_or, take, arith, ap, subst}
use Rattle.cry_base.specs.Store.{Store}
use Rattle.cry_base.specs.declared.roles.Edge.{Edge}
use Rattle.cry_base.specs.declared.roles.Role.{Role}
use Rattle.cry_base.specs.declared.roles.Role.TheVariants.{Owner}
use Rattle.role_graph.specs.Adjacent.{at_role, at_roles}
use Rattle.role_graph.specs.Edges.{unordered}
use Rattle.role_graph.proofs.AtEnds.{listed_within}
use Rattle.role_graph.proofs.touching.listed_at.Goals as goal

pub returns-in_err-push_at-clause-most : goal.returns-in_err-push_at-clause-most
unfolding at_roles
returns-in_err-push_at-clause-most g c =
    let es = unordered (g.R.Adjacent.store c.args.roles.now) in
    let at : List Role = c.args.at.now in
    let i = c.loop-role.role-index in
    let here : Role = get_or at i Owner in
    let one = subst (λ (s : Store). g.R.Adjacent.steps c.push_at.new.roles ≤ g.R.Adjacent.steps c.loop-role.roles + length (at_role (unordered s) here) + 2) c.loop-role.invariant.same c.push_at.ensures.most in
    let all = listed_within es at i Owner c.loop-role-test.true in
    let before = c.loop-role.invariant.steps in
    let some : length c.loop-role.found.items ≡ length (at_roles es (take i at)) = ap (λ (l : List Edge). length l) c.loop-role.invariant.found in
    let less = c.loop-role-test.true in
    omega (arith, one, all, before, some, less)
