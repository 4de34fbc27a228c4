use Rattle.std.proofs.Common.{◌≡◌, ◌<◌, ◌^◌, All, take}
use Rattle.cry_base.specs.Store.{GrantEntry}
use Rattle.grant_book.proofs.restoring.on_folders.Given as goal

abbrev pub invariant-loop-pair : goal.invariant-loop-pair
invariant-loop-pair l = record {
  pairs : l.rows.items ≡ take l.pair-index l.pairs;
  numbered : All (λ (e : GrantEntry). e.folder < 2 ^ 32) (take l.pair-index l.pairs);
}
