use Rattle.std.proofs.Common.{◌+◌, ◌++◌, List, length, ℕ, sym, ap, ◌∙◌}
use Rattle.cry_base.specs.declared.roles.Role.{Role}
use Rattle.public_fold.specs.KeyStep.{numbered}
use Rattle.public_fold.proofs.StepLists.{numbered_apart}
use Rattle.public_fold.proofs.numbering.given_keys.Goals as goal

pub returns : goal.returns
returns c =
    let first = c.args.first in
    let renewed : List Role = c.args.renewed.now in
    let fresh : List Role = c.args.fresh.now in
    c.in_ok-push_keys-2.ensures
    ∙ ap (λ (l : List (Role × ℕ)). l ++ numbered (first + length renewed) fresh)
    (c.in_ok-push_keys.ensures ∙ ap (λ (l : List (Role × ℕ)). l ++ numbered first renewed) (c.reserve.ensures.items ∙ c.new-keys.ensures))
    ∙ sym (numbered_apart Role first renewed fresh)
