-- What a command answers that only reads a store, on a disk that shows a journal. This project's own, docs/FORMAT.md, "Reading".
use Rattle.std.specs.Prelude.{◌≡◌, ℕ, List, Option, Result, Ok, Err}
use Rattle.cry_base.specs.declared.client.Bundle.{Bundle}
use Rattle.public_fold.specs.Journal.{Journal}
use Rattle.journal_bytes.specs.Journals.{IsHonestFor, StandsForJournal, published_journal}
use Rattle.reader_laws.specs.Reading.{IsRightFor, IsWrongFor}
use Rattle.cli_base.specs.declared.status.Status.{Status}
use Rattle.cli_base.specs.declared.status.Status.TheVariants as statuses
use Rattle.cli_base.specs.Input.{input_answer}
use Rattle.cli_reading.specs.Reading.{AnswersAs, IsExactly}

-- An image that stands for a journal, with an honest last slot, is answered to a reader with a right key as the journal that it publishes
-- says; and to one whose key has another check than the one that is published, the key is wrong.
pub record AnswersJournal (wanted : Journal → Bundle → Result (List ℕ) Status) (status : Status) (typed image : List ℕ)
    (before after : Option (List ℕ)) : Type 0 where
  pub right : (owner : List ℕ) (m : Journal) (bundle : Bundle) → input_answer typed ≡ Ok bundle → StandsForJournal owner m image
      → IsHonestFor owner image m → IsRightFor owner (published_journal owner image m) bundle
      → AnswersAs status (IsExactly (wanted (published_journal owner image m) bundle)) before after
  pub wrong : (owner : List ℕ) (m : Journal) (bundle : Bundle) → input_answer typed ≡ Ok bundle → StandsForJournal owner m image
      → IsHonestFor owner image m → IsWrongFor owner (published_journal owner image m) bundle
      → AnswersAs status (IsExactly (Err statuses.WrongKey)) before after
