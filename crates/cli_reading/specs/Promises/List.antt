-- What `list` promises, beside what each such command does. It prints all that the key opens of the store; a failure of the store is told
-- exactly where the image has it. On a disk that shows a journal it answers what its store shows, to a reader whose key is right; another
-- key is told so. Whatever the disk shows, whoever has a key of a journal is shown what the journal once wrote, each name and each file
-- for the very folder or file, or a forged record stands there: one with a right tag under a key of the journal that it did not publish.
use Rattle.std.specs.Prelude.{ℕ, List, Option, Result, false}
use Rattle.cry_base.specs.declared.client.Bundle.{Bundle}
use Rattle.head_tree.specs.declared.head.Head.{Head}
use Rattle.log_visits.specs.Judging.{shown_with}
use Rattle.log_visits.specs.View.{spell_view}
use Rattle.public_fold.specs.Journal.{Journal, store_of}
use Rattle.reader_laws.specs.Reading.{shown_of}
use Rattle.cli_base.specs.World.{Senses, World}
use Rattle.cli_base.specs.declared.status.Status.{Status}
use Rattle.cli_reading.specs.Changed.{AreLinesOf}
use Rattle.cli_reading.specs.Journals.{AnswersJournal}
use Rattle.cli_reading.specs.Promises.Reading.{Difference, ReadingEnds}
use Rattle.cli_reading.specs.Reading.{IsExactly, answer_as}

-- what is answered to a bundle over an image
abbrev pub ListGives : Bundle → List ℕ → Result (List ℕ) Status → Type 0
ListGives bundle image = IsExactly (answer_as spell_view (shown_with bundle image))

-- and over one that publishes a journal, whose store it shows
abbrev pub view_of : Journal → Bundle → Result (List ℕ) Status
view_of m bundle = answer_as spell_view (shown_of (store_of m) bundle)

abbrev pub of_list : Difference
of_list = record { tells_unseen = false; Gives = ListGives; OfJournal = AnswersJournal view_of; AreOf = AreLinesOf }

-- how a call of `list` ends, whose words name this head or none
abbrev pub ListEnds : Option Head → {S R D W : Type 0} → Senses S R D W → Status → World S R D W → World S R D W → Type 0
ListEnds head = ReadingEnds of_list head
