use Rattle.cli_base.specs.World.{senses_of}
use Rattle.stop_laws.proofs.CallLemmas.{serve_leaves_store}
use Rattle.stop_laws.proofs.calls.serves_of_others_leave_the_store.Goals as goal

pub returns : goal.returns
returns g c owner m typed status before after told shows other call any =
    serve_leaves_store (senses_of g.S.Source g.R.Source g.D.Disk g.W.Sink) (λ d t s left early shown leaves. g.met.D.Disk.counts_now d t s left early shown leaves) (λ d s left at. g.met.D.Disk.only_now d s left at) (λ d s is. g.met.D.Disk.shown_may_be_left d s is)
    status before after owner m typed told shows other call any.disk_told
