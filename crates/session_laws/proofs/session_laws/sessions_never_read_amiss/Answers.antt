use Rattle.session_laws.proofs.SessionsSeated.{seat_batch, seat_log}
use Rattle.session_laws.proofs.session_laws.sessions_never_read_amiss.Goals as goal

pub returns : goal.returns
returns c = record {
  log = λ owner m bytes h key fault whole fails. seat_log owner m bytes whole h key fault fails;
  batch = λ owner m bytes seat session fault whole is left fails. seat_batch owner m bytes whole seat session fault is left fails;
}
