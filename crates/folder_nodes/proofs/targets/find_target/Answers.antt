use Rattle.std.proofs.Common.{◌≡◌, Some, sym, ap, subst}
use Rattle.cry_base.specs.Requests.{request_of}
use Rattle.cry_base.specs.Store.{node_at}
use Rattle.folder_nodes.specs.Targets.{IsTargetOf}
use Rattle.folder_nodes.specs.Targets.IsTargetOf.{AddsHolder, Grants, Revokes}
use Rattle.folder_nodes.specs.Titles.{tree_store}
use Rattle.folder_nodes.specs.declared.targets.Target.TheVariants as targets
use Rattle.folder_nodes.proofs.targets.find_target.Goals as goal

pub returns-in-AddHolder-clause-found : goal.returns-in-AddHolder-clause-found
returns-in-AddHolder-clause-found c = subst (λ r. IsTargetOf (tree_store c.args.shape.now.tree c.args.names.now) r targets.AddHolder) (sym (ap request_of c.in-AddHolder.is)) AddsHolder

pub returns-in_ok-node-in-Grant-clause-found : goal.returns-in_ok-node-in-Grant-clause-found
returns-in_ok-node-in-Grant-clause-found c =
    let node = c.in_ok-node-in-Grant.node in
    subst (λ r. IsTargetOf (tree_store c.args.shape.now.tree c.args.names.now) r (targets.Grant c.in-Grant.holder node)) (sym (ap request_of c.in-Grant.is))
    (Grants (subst (λ p. node_at (tree_store c.args.shape.now.tree c.args.names.now) p ≡ Some node) c.as_slice-in-Grant.ensures c.in_ok-node-in-Grant.ensures.found))

pub returns-in_ok-node-in-Revoke-clause-found : goal.returns-in_ok-node-in-Revoke-clause-found
returns-in_ok-node-in-Revoke-clause-found c =
    let node = c.in_ok-node-in-Revoke.node in
    subst (λ r. IsTargetOf (tree_store c.args.shape.now.tree c.args.names.now) r (targets.Revoke c.in-Revoke.holder node)) (sym (ap request_of c.in-Revoke.is))
    (Revokes (subst (λ p. node_at (tree_store c.args.shape.now.tree c.args.names.now) p ≡ Some node) c.as_slice-in-Revoke.ensures c.in_ok-node-in-Revoke.ensures.found))
