use Rattle.index_format.proofs.StateLaws.{state_field, body_field, head_field}
use Rattle.index_format.proofs.laws.spellings_read_back.Goals as goal

pub returns-clause-state : goal.returns-clause-state
returns-clause-state c = state_field.again

pub returns-clause-body : goal.returns-clause-body
returns-clause-body c = body_field.again

pub returns-clause-head : goal.returns-clause-head
returns-clause-head c = head_field.again
