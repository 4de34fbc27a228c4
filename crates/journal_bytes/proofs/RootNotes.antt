-- What holds of either note that makes the root holds of that of any version.
use Rattle.std.proofs.Common.{true, false}
use Rattle.std.specs.Prelude.{ℕ, ◌==◌, if◌then◌else◌}
use Rattle.record_format.specs.Noted.{Note}
use Rattle.record_format.specs.Noted.Note.{Root, StrictRoot}
use Rattle.public_fold.specs.Journal.{root_note}

pub of_root : (P : Note → Type 0) → P StrictRoot → P Root → (version : ℕ) → P (root_note version)
unfolding root_note
of_root P strict plain version = elim (version == 2) as (λ b. P (if b then StrictRoot else Root)) [ true ↦ strict | false ↦ plain ]
