-- What `run HEAD` promises. Behind the first line, and before anything is drawn, written or filled, it tests that the log begins with the
-- batches that the head names; then it runs as `run` does, and behind the last reply it prints the head of the log that it leaves.
--
-- Whatever the disk shows it ends in one of three ways. At its first line, where that hands in no key, or the input failed or memory was
-- wanting: then nothing else was touched. At the test of the head: then at each moment of the call the disk shows what it showed, and a
-- stop leaves what it left; nothing was drawn or printed, and why is told as exactly as by `list HEAD`. Or the head is held, and a call
-- whose words have no head follows over the disk, which was only read: all that `run` promises is promised of it. Where that call isn't
-- done, the whole ends so, and leaves what that left. Where it is done, the whole ends as `head` does over what the disk shows then: at
-- Done the head of its log was printed behind the replies, and from the last reply on the disk was only read.
use Rattle.std.specs.Prelude.{◌≡◌, ◌⊎◌, ℕ, Bool, true, false, List, [], IsTrue, None, Some}
use Rattle.cry_io.specs.Told.{WhereTold, WhereBothTold}
use Rattle.head_tree.specs.declared.head.Head.{Head}
use Rattle.log_heads.specs.Published.{hashes_in}
use Rattle.cli_base.specs.World.{Senses, World}
use Rattle.cli_base.specs.declared.status.Status.{Status}
use Rattle.cli_base.specs.declared.status.Status.TheVariants as statuses
use Rattle.cli_heads.specs.Held.{EndsBehind, ReadsDisk}
use Rattle.cli_heads.specs.Statuses.{EndsAs, is_test_answer}
use Rattle.cli_heads.specs.Testing.{FailsHead, IsHeld}
use Rattle.cli_running.specs.Promises.Run.{RunEnds}
use Rattle.cli_running.specs.Running.{FirstIsBad, ReadsWholeTyped, TakesTo, key_in_lines, line_ended, lines_in}

-- how a run with a head may end
abbrev pub is_held_run_answer : Status → Bool
is_held_run_answer statuses.Done = true
is_held_run_answer statuses.Usage = false
is_held_run_answer (statuses.BadScript line) = true
is_held_run_answer statuses.ReadFault = true
is_held_run_answer statuses.WriteFault = true
is_held_run_answer statuses.DiskFault = true
is_held_run_answer statuses.RandomFault = true
is_held_run_answer (statuses.RandomShort left need) = true
is_held_run_answer statuses.NotAStore = true
is_held_run_answer (statuses.Damaged at) = true
is_held_run_answer statuses.WrongKey = true
is_held_run_answer (statuses.Tampered batch at) = true
is_held_run_answer statuses.OutOfMemory = true
is_held_run_answer statuses.NotBlank = false
is_held_run_answer (statuses.NoHolder known) = false
is_held_run_answer statuses.Unseen = false
is_held_run_answer statuses.NeedsUpgrade = true
is_held_run_answer statuses.AlreadyNew = false
is_held_run_answer (statuses.Behind have want) = true
is_held_run_answer (statuses.Forked batches) = true
is_held_run_answer statuses.BadProof = false

-- It ended at its first line: that hands in no key, or the input failed before it ended, or memory was wanting.
pub record EndsAtFirst {S R D W : Type 0} (see : Senses S R D W) (status : Status) (before after : World S R D W) : Type 0 where
  pub first : FirstIsBad status
  pub key_line : status ≡ statuses.BadScript 1 → WhereTold (see.inputs.left before.input) (λ typed. key_in_lines (lines_in typed) ≡ None)
  pub takes : WhereBothTold (see.inputs.left before.input) (see.inputs.left after.input) (TakesTo (line_ended status 0))
  pub read_whole_lines : status ≡ statuses.ReadFault
      → WhereBothTold (see.inputs.left before.input) (see.inputs.left after.input) (ReadsWholeTyped [] 0)
  pub rest_kept : after ≡ record before { input = after.input }

-- The first line hands in a key, and the test of the head failed: the log begins otherwise, or can't be read.
pub record EndsAtHead (head : Head) {S R D W : Type 0} (see : Senses S R D W) (status : Status) (before after : World S R D W)
    : Type 0 where
  pub answers : IsTrue (is_test_answer status)
  pub hands_in : WhereTold (see.inputs.left before.input) (λ typed. (key : List ℕ) × (key_in_lines (lines_in typed) ≡ Some key))
  pub fails : WhereTold (see.disks.shown before.disk) (λ image. EndsAs (FailsHead head (hashes_in image)) status)
  pub takes : WhereBothTold (see.inputs.left before.input) (see.inputs.left after.input) (TakesTo (Some 1))
  pub reads : ReadsDisk see before.disk after.disk
  pub rest_kept : after ≡ record before { input = after.input; disk = after.disk }

-- The log begins with the batches that the head names. A run follows over the disk as the test left it, and ends so; and then the head is
-- printed, where that is done.
pub record RunsBehind (head : Head) {S R D W : Type 0} (see : Senses S R D W) (status : Status) (before after : World S R D W)
    : Type 0 where
  pub held : WhereTold (see.disks.shown before.disk) (λ image. IsHeld head (hashes_in image))
  pub hands_in : WhereTold (see.inputs.left before.input) (λ typed. (key : List ℕ) × (key_in_lines (lines_in typed) ≡ Some key))
  pub tested : D
  pub reads : ReadsDisk see before.disk tested
  pub ended : Status
  pub ran : World S R D W
  pub runs : RunEnds see ended (record before { disk = tested }) ran
  pub behind : EndsBehind see ended status ran after

-- how a call of `run HEAD` ends
pub record HeldRunEnds (head : Head) {S R D W : Type 0} (see : Senses S R D W) (status : Status) (before after : World S R D W)
    : Type 0 where
  pub answers : IsTrue (is_held_run_answer status)
  pub ends : EndsAtFirst see status before after ⊎ (EndsAtHead head see status before after ⊎ RunsBehind head see status before after)
