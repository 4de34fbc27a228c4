-- What a call promises whose words ask for a text of the program's own: it is printed whole, or the output failed and a front of it is
-- printed. Nothing else is touched.
use Rattle.std.specs.Prelude.{◌≡◌, ◌⊎◌, ℕ, List}
use Rattle.cry_io.specs.Told.{WhereBothTold}
use Rattle.cli_base.specs.Outside.{PrintsAll, PrintsFront}
use Rattle.cli_base.specs.World.{Senses, World}
use Rattle.cli_base.specs.declared.status.Status.{Status}
use Rattle.cli_base.specs.declared.status.Status.TheVariants as statuses

-- how a call ends that prints this text
pub record TextEnds {S R D W : Type 0} (see : Senses S R D W) (status : Status) (before after : World S R D W) (text : List ℕ)
    : Type 0 where
  pub answers : (status ≡ statuses.Done) × WhereBothTold (see.outs.written before.out) (see.outs.written after.out) (PrintsAll text)
      ⊎ (status ≡ statuses.WriteFault) × WhereBothTold (see.outs.written before.out) (see.outs.written after.out) (PrintsFront text)
  pub rest_kept : after ≡ record before { out = after.out }
