-- What a command prints that only reads a store, on a disk of which anybody may have written any byte. This project's own, docs/FORMAT.md,
-- "Reading" and "Records".
use Rattle.std.specs.Prelude.{◌≡◌, ◌⊎◌, ℕ, List, Option, Result, Ok, Err}
use Rattle.cry_base.specs.declared.client.Bundle.{Bundle}
use Rattle.forgery_laws.specs.Written.{AreBytes, AreWrittenLines, HasForged, HasKeyOf}
use Rattle.log_visits.specs.View.{Line, spell_view}
use Rattle.journal_bytes.specs.Keys.{AreWhole}
use Rattle.public_fold.specs.Journal.{Journal}
use Rattle.public_fold.specs.Valid.{IsValid}
use Rattle.cli_base.specs.declared.status.Status.{Status}
use Rattle.cli_base.specs.Input.{input_answer}
use Rattle.cli_reading.specs.Reading.{AnswersAs}

-- a text that is printed is that of lines that the journal wrote; of how the program ends without one it says nothing
abbrev pub AreLinesOf : Journal → Bundle → List ℕ → Result (List ℕ) Status → Type 0
AreLinesOf m bundle image (Ok text) = (lines : List Line) × (text ≡ spell_view lines) × AreWrittenLines m bundle image lines
AreLinesOf m bundle image (Err status) = Unit {0}

-- To whoever hands in a key of a journal nothing is printed but what the journal wrote, or a forged record stands in the image.
abbrev pub PrintsWritten : (Journal → Bundle → List ℕ → Result (List ℕ) Status → Type 0) → Status → List ℕ → List ℕ → Option (List ℕ)
    → Option (List ℕ) → Type 0
PrintsWritten AreOf status typed image before after = (owner : List ℕ) (m : Journal) (bundle : Bundle) → input_answer typed ≡ Ok bundle
    → AreBytes image → IsValid m → AreWhole owner m → HasKeyOf owner m bundle
    → AnswersAs status (AreOf m bundle image) before after ⊎ HasForged owner m image
