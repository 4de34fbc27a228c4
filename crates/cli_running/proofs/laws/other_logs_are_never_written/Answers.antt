use Rattle.cli_base.specs.World.{senses_of}
use Rattle.cli_running.proofs.HeldRuns.{never_written}
use Rattle.cli_running.proofs.laws.other_logs_are_never_written.Goals as goal

pub returns : goal.returns
returns g c head image status before after shown other run =
    never_written head (senses_of g.S.Source g.R.Source g.D.Disk g.W.Sink) status before after image shown other run
