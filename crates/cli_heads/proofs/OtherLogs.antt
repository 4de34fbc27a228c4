-- Where it is told that a log begins otherwise.
use Rattle.std.proofs.Common.{ℕ, IsTrue}
use Rattle.std.proofs.lemmas.Bool.{false≢true}
use Rattle.cli_base.specs.declared.status.Status.{Status}
use Rattle.cli_base.specs.declared.status.Status.TheVariants as statuses
use Rattle.cli_heads.specs.Held.{tells_other_log}

-- what holds of neither of the two answers
pub other_log : {P : Type 0} (Is : Status → Type 0) → ((have want : ℕ) → Is (statuses.Behind have want) → ⊥)
    → ((batches : ℕ) → Is (statuses.Forked batches) → ⊥) → (status : Status) → IsTrue (tells_other_log status) → Is status → P
other_log Is behind forked (statuses.Behind have want) tells is = absurd (behind have want is)
other_log Is behind forked (statuses.Forked batches) tells is = absurd (forked batches is)
other_log Is behind forked statuses.Done tells is = absurd (false≢true tells)
other_log Is behind forked statuses.Usage tells is = absurd (false≢true tells)
other_log Is behind forked (statuses.BadScript line) tells is = absurd (false≢true tells)
other_log Is behind forked statuses.ReadFault tells is = absurd (false≢true tells)
other_log Is behind forked statuses.WriteFault tells is = absurd (false≢true tells)
other_log Is behind forked statuses.DiskFault tells is = absurd (false≢true tells)
other_log Is behind forked statuses.RandomFault tells is = absurd (false≢true tells)
other_log Is behind forked (statuses.RandomShort left need) tells is = absurd (false≢true tells)
other_log Is behind forked statuses.NotAStore tells is = absurd (false≢true tells)
other_log Is behind forked (statuses.Damaged at) tells is = absurd (false≢true tells)
other_log Is behind forked statuses.WrongKey tells is = absurd (false≢true tells)
other_log Is behind forked (statuses.Tampered batch at) tells is = absurd (false≢true tells)
other_log Is behind forked statuses.OutOfMemory tells is = absurd (false≢true tells)
other_log Is behind forked statuses.NotBlank tells is = absurd (false≢true tells)
other_log Is behind forked (statuses.NoHolder known) tells is = absurd (false≢true tells)
other_log Is behind forked statuses.Unseen tells is = absurd (false≢true tells)
other_log Is behind forked statuses.NeedsUpgrade tells is = absurd (false≢true tells)
other_log Is behind forked statuses.AlreadyNew tells is = absurd (false≢true tells)
other_log Is behind forked statuses.BadProof tells is = absurd (false≢true tells)
