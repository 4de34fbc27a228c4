use Rattle.cry_base.specs.declared.client.Bundle.TheVariants.{Owner}
use Rattle.cli_running.proofs.key_line.read_owner.Goals as goal

pub returns-in_default-2-clause-none : goal.returns-in_default-2-clause-none
returns-in_default-2-clause-none c = λ _ key is.
    let only = c.read_bundle.ensures.only (Owner key) is in
    let bad = c.in_default.is in
    cc
