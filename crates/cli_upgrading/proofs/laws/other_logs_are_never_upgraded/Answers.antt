use Rattle.cli_base.specs.World.{senses_of}
use Rattle.cli_upgrading.proofs.HeldUpgrades.{never_upgraded}
use Rattle.cli_upgrading.proofs.laws.other_logs_are_never_upgraded.Goals as goal

pub returns : goal.returns
returns g c head image status before after shown other held =
    never_upgraded head (senses_of g.S.Source g.R.Source g.D.Disk g.W.Sink) status before after image shown other held
