use Rattle.std.proofs.Common.{◌↔◌, subst, ⊎_elim}
use Rattle.cry_base.specs.Sets.{In}
use Rattle.cry_base.specs.declared.roles.Role.{Role}
use Rattle.role_graph.proofs.Growing.{reached_same}
use Rattle.role_graph.proofs.reaching.reach_all.Goals as goal

pub returns : goal.returns
returns c =
    let es = c.args.edges.now in
    let from = c.args.from.now in
    let start = c.extend.new.self in
    let same : (r : Role) → In r start ↔ In r from = λ r. (
      λ i. ⊎_elim (λ n. absurd (subst (In r) c.new-reached.ensures n)) (λ f. f) (c.in_ok-extend.ensures.added r i),
      λ i. c.in_ok-extend.ensures.all r i,
    ) in
    λ r. (
      λ i. (reached_same es start from same r).0 ((c.in_ok-close.ensures r).0 i),
      λ told. (c.in_ok-close.ensures r).1 ((reached_same es start from same r).1 told),
    )
