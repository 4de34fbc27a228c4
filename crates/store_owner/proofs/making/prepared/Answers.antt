use Rattle.record_format.specs.Told.{told_note}
use Rattle.public_fold.specs.Journal.{nothing, root_note}
use Rattle.store_owner.proofs.making.prepared.Goals as goal

pub returns-clause-skeleton : goal.returns-clause-skeleton
unfolding told_note root_note
returns-clause-skeleton c = c.in-Ok.ensures.skeleton nothing c.requires

pub returns-clause-after : goal.returns-clause-after
unfolding told_note root_note
returns-clause-after c = c.in-Ok.ensures.after nothing c.requires
