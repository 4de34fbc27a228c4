use Rattle.std.proofs.Common.{◌≡◌, ℕ, List, [], ◌++◌, sym, ap, ◌∙◌, arith, append-nil}
use Rattle.cry_base.specs.declared.roles.Role.{Role}
use Rattle.public_fold.specs.KeyStep.{keys_without, newest}
use Rattle.public_fold.proofs.keys.KeyTable.of_keys.Goals as goal

order_is : (c : goal.After-giving) → c.giving.result.keys ≡ c.args.keys.now
unfolding keys_without
order_is c = c.giving.ensures ∙ ap (λ (keys : List (Role × ℕ)). c.args.keys.now ++ keys_without [] keys) c.new.ensures ∙ append-nil c.args.keys.now

pub invariant_of-result : goal.invariant_of-result
unfolding newest
invariant_of-result c = (
  λ role. c.in_ok-add_keys.ensures [] c.new-rows.ensures role ∙ ap (λ (keys : List (Role × ℕ)). newest keys role) (append-nil c.args.keys.now ∙ sym (order_is c)),
  omega arith,
)

pub returns : goal.returns
returns c = order_is c
