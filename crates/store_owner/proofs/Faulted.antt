-- What a commit leaves that the journal doesn't refuse, and that fails all the same.
use Rattle.std.proofs.Common.{◌≡◌, ◌≤◌, ℕ, ◌+◌, arith, false, ltb, None, Result, Ok, Err, refl, ap}
use Rattle.std.specs.Prelude.{IfErr, OnErr}
use Rattle.std.proofs.lemmas.Bool.Decides.{nat_tests}
use Rattle.cry_base.specs.Layout.{batch_len}
use Rattle.commit_journal.specs.Journals.{JournalState, refusal}
use Rattle.commit_journal.specs.declared.commit_fault.CommitFault.{CommitFault}
use Rattle.commit_journal.specs.declared.commit_fault.CommitFault.TheVariants as faults

pub takes : (j : JournalState) (payload : ℕ) → j.is_closed ≡ false → j.end + (batch_len + payload) ≤ j.limit → refusal j payload ≡ None
takes j payload open_is ends =
    let room : ltb j.limit (j.end + (batch_len + payload)) ≡ false = grind (arith, nat_tests) in
    rw (open_is, room) refl

pub left_by_fault : {T : Type 0} (r : Result T CommitFault) (P : Type 0) → IfErr r (λ fault. fault ≡ faults.DiskFault) → (r ≡ Err faults.DiskFault → P) → OnErr r P
left_by_fault (Ok x) P one left = tt
left_by_fault (Err fault) P one left = left (ap Err one)
