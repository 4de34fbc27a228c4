-- What `open` promises, beside what each such command does. It prints the one line of the path of what the key opens of the store;
-- "unseen" is told exactly where no line has that path. All else is as for `list`: the store's failure, the store's view where the disk
-- shows a journal, and nothing but what the journal once wrote, or a forged record stands there.
use Rattle.std.specs.Prelude.{ℕ, List, [], ◌∷◌, Option, Result, true}
use Rattle.cry_base.specs.declared.client.Bundle.{Bundle}
use Rattle.head_tree.specs.declared.head.Head.{Head}
use Rattle.log_visits.specs.Asking.{line_shown}
use Rattle.log_visits.specs.View.{Line, spell_view}
use Rattle.public_fold.specs.Journal.{Journal, store_of}
use Rattle.reader_laws.specs.Reading.{line_shown_of}
use Rattle.cli_base.specs.World.{Senses, World}
use Rattle.cli_base.specs.declared.status.Status.{Status}
use Rattle.cli_reading.specs.Changed.{AreLinesOf}
use Rattle.cli_reading.specs.Journals.{AnswersJournal}
use Rattle.cli_reading.specs.Promises.Reading.{Difference, ReadingEnds}
use Rattle.cli_reading.specs.Reading.{IsExactly, answer_as}

-- a line alone
abbrev pub spell_alone : Line → List ℕ
spell_alone line = spell_view (line ∷ [])

-- what is answered with a path to a bundle over an image
abbrev pub OpenGives : List ℕ → Bundle → List ℕ → Result (List ℕ) Status → Type 0
OpenGives path bundle image = IsExactly (answer_as spell_alone (line_shown bundle path image))

-- and over one that publishes a journal, whose store it shows
abbrev pub line_of : List ℕ → Journal → Bundle → Result (List ℕ) Status
line_of path m bundle = answer_as spell_alone (line_shown_of (store_of m) bundle path)

abbrev pub of_open : List ℕ → Difference
of_open path = record { tells_unseen = true; Gives = OpenGives path; OfJournal = AnswersJournal (line_of path); AreOf = AreLinesOf }

-- how a call of `open` ends, whose words name this head or none
abbrev pub OpenEnds : Option Head → {S R D W : Type 0} → Senses S R D W → Status → World S R D W → World S R D W → List ℕ → Type 0
OpenEnds head see status before after path = ReadingEnds (of_open path) head see status before after
