-- A text that is told as the last thing that a command does.
use Rattle.std.proofs.Common.{◌≡◌, ◌⊎◌, ℕ, List, Option}
use Rattle.cry_io.specs.Told.{WhereBothTold}
use Rattle.cli_base.specs.Outside.{PrintsAll, PrintsFront}
use Rattle.cli_base.specs.declared.status.Status.{Status}
use Rattle.cli_base.specs.declared.status.Status.TheVariants as statuses

-- the text was printed, or a front of it
abbrev pub Tells : Status → Option (List ℕ) → Option (List ℕ) → List ℕ → Type 0
Tells status before after text =
    (status ≡ statuses.Done) × WhereBothTold before after (PrintsAll text) ⊎ (status ≡ statuses.WriteFault)
    × WhereBothTold before after (PrintsFront text)
