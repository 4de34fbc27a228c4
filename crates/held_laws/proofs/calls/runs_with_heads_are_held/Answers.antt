use Rattle.cli_base.specs.World.{senses_of}
use Rattle.held_laws.proofs.HeadRuns.{call_is}
use Rattle.held_laws.proofs.calls.runs_with_heads_are_held.Goals as goal

pub returns : goal.returns
returns g c head owner typed status before after told hands ends image left found named shows calm stands names leaves =
    call_is (senses_of g.S.Source g.R.Source g.D.Disk g.W.Sink) (λ d t s left early shown leaves. g.met.D.Disk.counts_now d t s left early shown leaves)
    (λ d s left at. g.met.D.Disk.only_now d s left at) (λ d s is. g.met.D.Disk.shown_may_be_left d s is) head owner typed status before after told
    image left found named shows calm stands names leaves hands ends
