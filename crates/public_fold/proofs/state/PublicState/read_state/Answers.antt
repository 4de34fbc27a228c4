use Rattle.index_format.specs.Plain.{plain_state}
use Rattle.index_format.specs.Spelling.{spell_state}
use Rattle.public_fold.proofs.StatesRead.{taken_front, used_within}
use Rattle.public_fold.proofs.state.PublicState.read_state.Goals as goal

pub returns-clause-read : goal.returns-clause-read
returns-clause-read c =
    let s = plain_state c.in-Ok.read.0 in
    let bytes = c.args.bytes.now in
    let rest = c.in-Ok.read.1.now in
    (s, rw c.in-Some.is at c.in_ok-state.ensures, taken_front bytes (spell_state s) rest c.in-Ok.ensures.found.1, used_within bytes rest)
