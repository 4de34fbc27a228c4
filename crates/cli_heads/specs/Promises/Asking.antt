-- What `head` and `prove` promise, whatever the disk shows. The log is read as anybody reads it. `head` prints the head over its published
-- batches, and `prove` the proof that it begins with its first so many, or that it has fewer. At each moment of the call the disk shows
-- what it showed, and a stop leaves what it left; nothing is read of the input, and nothing is drawn.
use Rattle.std.specs.Prelude.{◌≡◌, IsTrue}
use Rattle.commit_journal.specs.Moments.{IsSameThroughout}
use Rattle.cry_io.specs.Told.{WhereTold}
use Rattle.cli_base.specs.Answering.{AnswersAs, IsExactly}
use Rattle.cli_base.specs.Status.{is_before_print}
use Rattle.cli_base.specs.World.{Senses, World}
use Rattle.cli_base.specs.declared.status.Status.{Status}
use Rattle.cli_heads.specs.Asking.{answer_of}
use Rattle.cli_heads.specs.Statuses.{is_log_answer}
use Rattle.cli_heads.specs.Asked.{Asked}

-- how such a call ends
pub record AskingEnds (asked : Asked) {S R D W : Type 0} (see : Senses S R D W) (status : Status) (before after : World S R D W)
    : Type 0 where
  -- when each answer comes
  pub answers : IsTrue (is_log_answer asked status)
  pub answered : WhereTold (see.disks.shown before.disk) (λ image. AnswersAs status (IsExactly (answer_of asked image))
      (see.outs.written before.out) (see.outs.written after.out))
  -- what it leaves
  pub moments : IsSameThroughout see.disks before.disk after.disk
  pub rest_kept : after ≡ record before { disk = after.disk; out = after.out }
  pub out_kept : IsTrue (is_before_print status) → after.out ≡ before.out
