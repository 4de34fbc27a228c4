use Rattle.index_format.proofs.StateLaws.{state_field, body_field, head_field, no_prefix}
use Rattle.index_format.proofs.laws.spellings_are_prefix_free.Goals as goal

pub returns-clause-state : goal.returns-clause-state
returns-clause-state c = no_prefix state_field

pub returns-clause-body : goal.returns-clause-body
returns-clause-body c = no_prefix body_field

pub returns-clause-head : goal.returns-clause-head
returns-clause-head c = no_prefix head_field
