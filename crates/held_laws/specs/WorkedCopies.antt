-- Worked rows of runs over copies of a store, and the words that open them to a computation.
use Rattle.std.specs.Prelude.{List, ℕ, [], ◌∷◌, map, codes}
use Rattle.cry_base.specs.Requests.Request.{WriteFile}
use Rattle.public_fold.specs.Journal.{Entry}
use Rattle.public_fold.specs.Journal.Entry.{Session, Did}
use Rattle.attempt_laws.specs.Spent.{number_of, all_spenders}
use Rattle.attempt_laws.specs.Trials.{attempt_of, made_course}
use Rattle.attempt_laws.specs.WorkedTrials.{everything}
use Rattle.key_links.specs.Fresh.{made_version}
use Rattle.public_fold.specs.WorkedSteps.{some_keys}
use Rattle.held_laws.specs.Held.{trials_behind}

-- a session that writes one file
unfoldable pub writes : List ℕ → List Entry
writes bytes = Session ∷ Did (WriteFile (codes "/a") bytes) [] ∷ []

-- the numbers that it spends over a store that was just made
unfoldable pub numbers_of : List ℕ → List ℕ
numbers_of bytes =
    map number_of (all_spenders (map attempt_of (trials_behind (made_course made_version (some_keys 5)).journal (writes bytes))))

-- every word of it
unfoldable pub copies : Unit {0}
unfolding everything trials_behind writes numbers_of
copies = tt
