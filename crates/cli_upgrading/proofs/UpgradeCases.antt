-- By cases on how `upgrade` ends.
use Rattle.std.proofs.Common.{ℕ}
use Rattle.std.specs.Prelude.{IsTrue}
use Rattle.std.proofs.lemmas.Bool.{false≢true}
use Rattle.cli_base.specs.declared.status.Status.{Status}
use Rattle.cli_base.specs.declared.status.Status.TheVariants as statuses
use Rattle.cli_upgrading.specs.Upgrading.{is_behind_opening, is_told}

-- where the reply was to be printed
pub told_cases : (P : Status → Type 0) → P statuses.Done → P statuses.WriteFault → P statuses.OutOfMemory → (status : Status) → IsTrue (is_told status) → P status
told_cases P done cut memory statuses.Done is = done
told_cases P done cut memory statuses.Usage is = absurd (false≢true is)
told_cases P done cut memory (statuses.BadScript line) is = absurd (false≢true is)
told_cases P done cut memory statuses.ReadFault is = absurd (false≢true is)
told_cases P done cut memory statuses.WriteFault is = cut
told_cases P done cut memory statuses.DiskFault is = absurd (false≢true is)
told_cases P done cut memory statuses.RandomFault is = absurd (false≢true is)
told_cases P done cut memory (statuses.RandomShort left need) is = absurd (false≢true is)
told_cases P done cut memory statuses.NotAStore is = absurd (false≢true is)
told_cases P done cut memory (statuses.Damaged at) is = absurd (false≢true is)
told_cases P done cut memory statuses.WrongKey is = absurd (false≢true is)
told_cases P done cut memory (statuses.Tampered batch at) is = absurd (false≢true is)
told_cases P done cut memory statuses.OutOfMemory is = memory
told_cases P done cut memory statuses.NotBlank is = absurd (false≢true is)
told_cases P done cut memory (statuses.NoHolder known) is = absurd (false≢true is)
told_cases P done cut memory statuses.Unseen is = absurd (false≢true is)
told_cases P done cut memory statuses.NeedsUpgrade is = absurd (false≢true is)
told_cases P done cut memory statuses.AlreadyNew is = absurd (false≢true is)
told_cases P done cut memory (statuses.Behind have want) is = absurd (false≢true is)
told_cases P done cut memory (statuses.Forked batches) is = absurd (false≢true is)
told_cases P done cut memory statuses.BadProof is = absurd (false≢true is)

-- behind the opening
pub behind_cases : (P : Status → Type 0) → P statuses.Done → P statuses.WriteFault → P statuses.RandomFault → ((left need : ℕ) → P (statuses.RandomShort left need))
    → P statuses.AlreadyNew → P statuses.DiskFault → P statuses.OutOfMemory → (status : Status) → IsTrue (is_behind_opening status) → P status
behind_cases P done cut undrawn short new disk memory statuses.Done is = done
behind_cases P done cut undrawn short new disk memory statuses.Usage is = absurd (false≢true is)
behind_cases P done cut undrawn short new disk memory (statuses.BadScript line) is = absurd (false≢true is)
behind_cases P done cut undrawn short new disk memory statuses.ReadFault is = absurd (false≢true is)
behind_cases P done cut undrawn short new disk memory statuses.WriteFault is = cut
behind_cases P done cut undrawn short new disk memory statuses.DiskFault is = disk
behind_cases P done cut undrawn short new disk memory statuses.RandomFault is = undrawn
behind_cases P done cut undrawn short new disk memory (statuses.RandomShort left need) is = short left need
behind_cases P done cut undrawn short new disk memory statuses.NotAStore is = absurd (false≢true is)
behind_cases P done cut undrawn short new disk memory (statuses.Damaged at) is = absurd (false≢true is)
behind_cases P done cut undrawn short new disk memory statuses.WrongKey is = absurd (false≢true is)
behind_cases P done cut undrawn short new disk memory (statuses.Tampered batch at) is = absurd (false≢true is)
behind_cases P done cut undrawn short new disk memory statuses.OutOfMemory is = memory
behind_cases P done cut undrawn short new disk memory statuses.NotBlank is = absurd (false≢true is)
behind_cases P done cut undrawn short new disk memory (statuses.NoHolder known) is = absurd (false≢true is)
behind_cases P done cut undrawn short new disk memory statuses.Unseen is = absurd (false≢true is)
behind_cases P done cut undrawn short new disk memory statuses.NeedsUpgrade is = absurd (false≢true is)
behind_cases P done cut undrawn short new disk memory statuses.AlreadyNew is = new
behind_cases P done cut undrawn short new disk memory (statuses.Behind have want) is = absurd (false≢true is)
behind_cases P done cut undrawn short new disk memory (statuses.Forked batches) is = absurd (false≢true is)
behind_cases P done cut undrawn short new disk memory statuses.BadProof is = absurd (false≢true is)
