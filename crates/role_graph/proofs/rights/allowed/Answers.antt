use Rattle.std.proofs.Common.{◌≡◌, IsTrue, sym, ap, ◌∙◌, subst}
use Rattle.std.specs.List.{list_any}
use Rattle.role_graph.specs.PublicStore.{allows}
use Rattle.role_graph.proofs.Standing.{allowed_is}
use Rattle.role_graph.proofs.rights.allowed.Goals as goal

pub returns : goal.returns
returns c = λ stand.
    let tree = c.args.shape.now.tree in
    let pairs = c.args.grants.now.pairs in
    let told = allowed_is tree pairs c.is_tree.ensures stand c.args.h.0 c.args.f.0 in
    let same : c.is_allowed_by.result ≡ list_any (allows tree c.args.h.0 c.args.f.0) pairs = c.is_allowed_by.ensures ∙ ap (list_any (allows tree c.args.h.0 c.args.f.0)) c.pairs.ensures.pairs in
    (λ b. told.0 (subst IsTrue same b), λ w. subst IsTrue (sym same) (told.1 w))
