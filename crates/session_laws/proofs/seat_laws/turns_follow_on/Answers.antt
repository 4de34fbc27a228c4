use Rattle.session_laws.proofs.SeatsForward.{stands_follow, text_follows}
use Rattle.session_laws.proofs.seat_laws.turns_follow_on.Goals as goal

pub returns : goal.returns
returns c = record { text = text_follows; stands = stands_follow }
