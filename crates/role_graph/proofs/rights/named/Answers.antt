use Rattle.std.proofs.Common.{◌≡◌, IsTrue, inl, inr, ⊎_elim, refl, sym, ap, ◌∙◌, subst}
use Rattle.std.specs.List.{list_any}
use Rattle.std.proofs.lemmas.Bool.{false≢true}
use Rattle.role_graph.specs.PublicStore.{allows, names}
use Rattle.role_graph.proofs.Standing.{allowed_is, named_is}
use Rattle.role_graph.proofs.rights.named.Goals as goal

pub returns-then-is_allowed_by : goal.returns-then-is_allowed_by
returns-then-is_allowed_by c = λ stand stands.
    let tree = c.args.shape.now.tree in
    let pairs = c.args.grants.now.pairs in
    let told = allowed_is tree pairs c.is_tree.ensures stand c.args.h.0 c.args.f.0 in
    let same : c.is_allowed_by.result ≡ list_any (allows tree c.args.h.0 c.args.f.0) pairs = c.is_allowed_by.ensures ∙ ap (list_any (allows tree c.args.h.0 c.args.f.0)) c.pairs-pairs.ensures.pairs in
    (λ b. inl (told.0 (sym same ∙ c.if-is_allowed_by.true)), λ w. refl)

pub returns : goal.returns
returns c = λ stand stands.
    let tree = c.args.shape.now.tree in
    let pairs = c.args.grants.now.pairs in
    let allowed = allowed_is tree pairs c.is_tree.ensures stand c.args.h.0 c.args.f.0 in
    let named = named_is tree pairs c.is_tree.ensures stand c.args.h.0 c.args.f.0 stands in
    let same : c.is_allowed_by.result ≡ list_any (allows tree c.args.h.0 c.args.f.0) pairs = c.is_allowed_by.ensures ∙ ap (list_any (allows tree c.args.h.0 c.args.f.0)) c.pairs-pairs.ensures.pairs in
    let other : c.is_named_by.result ≡ list_any (names tree c.args.h.0 c.args.f.0) pairs = c.is_named_by.ensures ∙ ap (list_any (names tree c.args.h.0 c.args.f.0)) c.pairs-pairs.ensures.pairs in (
      λ b. inr (named.0 (subst IsTrue other b)),
      λ w. ⊎_elim (λ a. absurd (false≢true (sym c.if-is_allowed_by.false ∙ same ∙ allowed.1 a))) (λ n. subst IsTrue (sym other) (named.1 n)) w,
    )
