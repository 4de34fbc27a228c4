use Rattle.session_laws.proofs.SessionsSeated.{seat_begun, seat_can_show, seat_pinned, seat_shown, seat_stepped}
use Rattle.session_laws.proofs.session_laws.sessions_are_their_seats.Goals as goal

pub returns : goal.returns
returns c = record {
  begins = λ owner m bytes h key session whole bundle none is answers. seat_begun owner m bytes whole h key session bundle none is answers;
  pins = λ owner m bytes seat old new whole is answers. seat_pinned owner m bytes whole seat old new is answers;
  steps = λ owner m bytes seat old new whole is left bundle pinned new_is answers. seat_stepped owner m bytes whole seat old new is left bundle pinned new_is answers;
  can_show = λ owner m bytes seat session whole is. seat_can_show owner m bytes whole seat session is;
  shows = λ owner m bytes seat session result whole is all honest answers. seat_shown owner m bytes whole seat session result is all honest answers;
}
