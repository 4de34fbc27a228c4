use Rattle.session_laws.proofs.FrontsRead.{front_goes_on, front_shown, front_stays}
use Rattle.session_laws.proofs.front_laws.fronts_are_read_on.Goals as goal

pub returns : goal.returns
returns c = record {
  shows = λ owner m k log bytes valid whole read front. front_shown owner m k log bytes valid whole read front;
  next = λ owner m k log bytes valid whole read front more. front_goes_on owner m k log bytes valid whole read front more;
  stays = front_stays;
}
