use Rattle.session_laws.proofs.KeysHonest.{seat_in, served_honest, served_keys}
use Rattle.session_laws.proofs.seat_laws.seats_keep_honest_keys.Goals as goal

pub returns : goal.returns
returns c = record { found = seat_in; begun = served_keys; honest = served_honest }
