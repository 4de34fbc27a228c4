use Rattle.role_graph.specs.PublicStore.{public_store}
use Rattle.role_graph.proofs.Rightful.{rights_by_reach}
use Rattle.role_graph.proofs.Settling.{settled}
use Rattle.role_graph.proofs.key_laws.holder_reaches_the_rights.Goals as goal

pub returns : goal.returns
returns c = λ stand.
    let tree = c.args.shape.now.tree in
    let pairs = c.args.grants.now.pairs in
    rights_by_reach (public_store tree pairs) (settled tree pairs c.is_tree.ensures stand)
