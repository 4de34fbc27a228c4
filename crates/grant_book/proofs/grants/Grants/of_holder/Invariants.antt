use Rattle.std.proofs.Common.{◌≡◌, map, take}
use Rattle.cry_base.specs.Store.{GrantEntry}
use Rattle.grant_book.proofs.grants.Grants.of_holder.Given as goal

abbrev pub invariant-loop-pair : goal.invariant-loop-pair
invariant-loop-pair l = l.found.items ≡ map (λ (e : GrantEntry). record { 0 = e.folder }) (take l.pair-index l.pair-items)
