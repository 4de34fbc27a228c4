use Rattle.session_laws.proofs.SessionsSeated.{seat_counts, seat_grows}
use Rattle.session_laws.proofs.session_laws.seats_outlast_the_journal.Goals as goal

pub returns : goal.returns
returns c = record { grows = seat_grows; counts = seat_counts }
