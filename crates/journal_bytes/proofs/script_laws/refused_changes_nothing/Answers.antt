use Rattle.std.proofs.Common.{[], ◌∷◌, ap}
use Rattle.journal_bytes.specs.Script.{line_going, line_reply, script_going, script_replies}
use Rattle.journal_bytes.proofs.script_laws.refused_changes_nothing.Goals as goal

pub returns : goal.returns
unfolding script_going script_replies line_going line_reply
returns c = record {
  stays = λ limits g r why e. ap (line_going g r) e;
  reply = λ limits g r why e. ap (λ a. line_reply g r a ∷ []) e;
}
