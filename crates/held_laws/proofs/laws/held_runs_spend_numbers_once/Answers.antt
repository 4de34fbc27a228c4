use Rattle.held_laws.proofs.Listed.{all_once}
use Rattle.held_laws.proofs.laws.held_runs_spend_numbers_once.Goals as goal

pub returns : goal.returns
returns g c = λ key runs veiled held.
    all_once g.D.Disk (λ d t s left early shown leaves. g.met.D.Disk.counts_now d t s left early shown leaves) (λ d s left at. g.met.D.Disk.only_now d s left at) key veiled
    runs held
