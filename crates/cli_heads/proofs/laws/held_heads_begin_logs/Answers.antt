use Rattle.cli_heads.proofs.TestLemmas.{held_head_begins}
use Rattle.cli_heads.proofs.laws.held_heads_begin_logs.Goals as goal

pub returns : goal.returns
returns c = held_head_begins
