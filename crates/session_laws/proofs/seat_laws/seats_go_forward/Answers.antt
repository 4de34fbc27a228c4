use Rattle.session_laws.proofs.SeatsForward.{served_forward, served_grows, served_prefixes, served_within}
use Rattle.session_laws.proofs.seat_laws.seats_go_forward.Goals as goal

pub returns : goal.returns
returns c = record { seats = served_forward; journal = served_grows; within = served_within; prefixes = served_prefixes }
