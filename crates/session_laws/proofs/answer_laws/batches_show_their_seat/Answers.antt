use Rattle.session_laws.proofs.SeatsShown.{front_shows}
use Rattle.session_laws.proofs.answer_laws.batches_show_their_seat.Goals as goal

pub returns : goal.returns
returns c = λ owner m k h key valid whole within honest. front_shows owner m valid whole k h key within honest
