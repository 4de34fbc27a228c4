use Rattle.role_graph.specs.Edges.{edges}
use Rattle.move_plan.specs.Change.{change_of}
use Rattle.public_fold.specs.Journal.{note_step}
use Rattle.public_fold.specs.KeyStep.{is_strict}
use Rattle.public_fold.specs.Records.{pieces_of}
use Rattle.journal_bytes.proofs.Ready.{can_seal}
use Rattle.journal_bytes.proofs.sealing_laws.told_steps_can_be_sealed.Goals as goal

pub returns : goal.returns
unfolding note_step
returns c = λ keys at note after ring counter s drawn text holds told small long room sizes.
    can_seal keys at.keys (edges at.store) (change_of (is_strict at.keys) at.store note) (pieces_of note after) ring counter s text holds told.can_be_sealed told.is_skeleton drawn small long room sizes
