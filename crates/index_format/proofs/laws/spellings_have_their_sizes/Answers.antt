use Rattle.index_format.proofs.Lengths.{length-spell_state, length-spell_body, length-spell_head, length-spell_front}
use Rattle.index_format.proofs.laws.spellings_have_their_sizes.Goals as goal

pub returns-clause-state : goal.returns-clause-state
returns-clause-state c = length-spell_state

pub returns-clause-body : goal.returns-clause-body
returns-clause-body c = length-spell_body

pub returns-clause-head : goal.returns-clause-head
returns-clause-head c = length-spell_head

pub returns-clause-front : goal.returns-clause-front
returns-clause-front c = length-spell_front
