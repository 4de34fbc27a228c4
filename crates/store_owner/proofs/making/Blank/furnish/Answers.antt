use Rattle.std.proofs.Common.{Result, Ok, Err, ◌∙◌}
use Rattle.std.specs.Prelude.{OnOk}
use Rattle.store_owner.proofs.RootSealed.{same_keys}
use Rattle.store_owner.proofs.making.Blank.furnish.Goals as goal

always : {T E P : Type 0} (r : Result T E) → P → OnOk r P
always (Ok _) p = p
always (Err _) p = tt

pub returns-clause-no_key : goal.returns-clause-no_key
returns-clause-no_key c = always c.reserve-4.result (λ role other.
    same_keys c.args.self.now.ring c.reserve-4.new.ring role (c.reserve-4.ensures.keys ∙ c.reserve-3.ensures.keys) ∙ c.requires.no_key role other)
