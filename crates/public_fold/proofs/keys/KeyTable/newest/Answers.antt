use Rattle.std.proofs.Common.{ap, ◌∙◌}
use Rattle.public_fold.specs.KeyStep.{newest}
use Rattle.public_fold.specs.KeyTables.{KeyList}
use Rattle.public_fold.proofs.keys.KeyTable.newest.Goals as goal

pub returns : goal.returns
returns c =
    c.serial.ensures
    ∙ c.self.invariant.0 c.args.role
    ∙ ap (λ (v : KeyList). newest v.keys c.args.role) c.self.view_is
