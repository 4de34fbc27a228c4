use Rattle.cli_base.specs.World.{senses_of}
use Rattle.cli_upgrading.proofs.HeldUpgrades.{told_by_test}
use Rattle.cli_upgrading.proofs.laws.other_logs_are_told_by_the_test.Goals as goal

pub returns : goal.returns
returns g c head status before after held tells =
    told_by_test head (senses_of g.S.Source g.R.Source g.D.Disk g.W.Sink) status before after held tells
