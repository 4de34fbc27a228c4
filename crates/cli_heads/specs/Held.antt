-- What a command promises that is handed a head and writes, around what it promises without one: the head is tested before, and the last
-- one is printed behind. This project's own, docs/PROGRAM.md, "The program".
use Rattle.std.specs.Prelude.{◌≡◌, ◌≢◌, ◌⊎◌, Bool, true, false}
use Rattle.commit_journal.specs.Moments.{IsSameThroughout}
use Rattle.cry_io.specs.Reading.{IsOnlyRead}
use Rattle.cli_base.specs.World.{Senses, World}
use Rattle.cli_base.specs.declared.status.Status.{Status}
use Rattle.cli_base.specs.declared.status.Status.TheVariants as statuses
use Rattle.cli_heads.specs.Asked.Asked.{TheHead}
use Rattle.cli_heads.specs.Promises.Asking.{AskingEnds}

-- the log doesn't begin with the batches that the head names
abbrev pub tells_other_log : Status → Bool
tells_other_log (statuses.Behind have want) = true
tells_other_log (statuses.Forked batches) = true
tells_other_log _ = false

-- a call over a disk, or a part of one, that only reads it: at its end and at each moment of it the disk shows what it showed, and a stop
-- leaves what it left
pub record ReadsDisk {S R D W : Type 0} (see : Senses S R D W) (before after : D) : Type 0 where
  pub read_only : IsOnlyRead see.disks before after
  pub moments : IsSameThroughout see.disks before after

-- what follows the call proper, which ended so and left this world
abbrev pub EndsBehind : {S R D W : Type 0} → Senses S R D W → Status → Status → World S R D W → World S R D W → Type 0
EndsBehind see ended status ran after =
    (ended ≢ statuses.Done) × (status ≡ ended) × (after ≡ ran)
    ⊎ (ended ≡ statuses.Done) × AskingEnds TheHead see status ran after × ReadsDisk see ran.disk after.disk
