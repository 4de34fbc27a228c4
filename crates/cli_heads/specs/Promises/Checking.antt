-- What `check` promises, whatever the input holds. It reads the input to its end, and then prints that the lines are a proof, or answers
-- that they are none. The first line that is bad is told, also where the input failed behind it. The store isn't touched, and nothing is
-- drawn.
use Rattle.std.specs.Prelude.{◌≡◌, IsTrue}
use Rattle.cry_io.specs.Told.{WhereTold, WhereBothTold}
use Rattle.head_tree.specs.declared.head.Head.{Head}
use Rattle.cli_base.specs.Answering.{AnswersAs}
use Rattle.cli_base.specs.Status.{is_before_print}
use Rattle.cli_base.specs.World.{Senses, World}
use Rattle.cli_base.specs.declared.status.Status.{Status}
use Rattle.cli_heads.specs.Checking.{CheckGives, TakesProof}
use Rattle.cli_heads.specs.Statuses.{is_check_answer}

-- how such a call ends
pub record CheckEnds (old new : Head) {S R D W : Type 0} (see : Senses S R D W) (status : Status) (before after : World S R D W)
    : Type 0 where
  -- when each answer comes
  pub answers : IsTrue (is_check_answer status)
  pub answered : WhereTold (see.inputs.left before.input) (λ typed. AnswersAs status (CheckGives old new typed)
      (see.outs.written before.out) (see.outs.written after.out))
  -- what it takes of the input, and what it leaves
  pub takes : WhereBothTold (see.inputs.left before.input) (see.inputs.left after.input) (TakesProof status)
  pub rest_kept : after ≡ record before { input = after.input; out = after.out }
  pub out_kept : IsTrue (is_before_print status) → after.out ≡ before.out
