use Rattle.std.proofs.Common.{◌≡◌, [], refl, sym, ap, ◌∙◌, arith}
use Rattle.public_fold.specs.KeyStep.{newest}
use Rattle.public_fold.specs.KeyTables.{KeyList}
use Rattle.public_fold.proofs.DueMade.{none_gone}
use Rattle.public_fold.proofs.keys.KeyTable.copy.Goals as goal

same_keys : (c : goal.After-giving) → c.giving.result.keys ≡ c.self.inside.order.keys
same_keys c = c.giving.ensures ∙ none_gone [] c.self.inside.order.keys refl

pub invariant_of-result : goal.invariant_of-result
invariant_of-result c = (
  λ role.
      c.in_ok-copy.ensures role
      ∙ c.self.invariant.0 role
      ∙ sym (ap (λ keys. newest keys role) (same_keys c)),
  omega arith,
)

pub returns : goal.returns
returns c = same_keys c ∙ ap (λ (v : KeyList). v.keys) c.self.view_is
