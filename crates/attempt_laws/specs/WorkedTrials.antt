-- Worked rows of what may happen to a store, and the words that open them to a computation.
use Rattle.std.specs.Prelude.{List, [], ◌∷◌, codes}
use Rattle.cry_base.specs.Requests.Request.{AddHolder, MakeFolder, Grant}
use Rattle.public_fold.specs.WorkedSteps.{some_keys}
use Rattle.journal_bytes.specs.Attempts.Event.{IsRefused, Enters, IsAbandoned, LosesEpoch, Ends, Reopens}
use Rattle.journal_bytes.specs.WorkedScripts.{scripts}
use Rattle.journal_bytes.specs.Upgrading.{upgrade_answer, upgrade_draws, upgrade_end, upgrade_payload}
use Rattle.attempt_laws.specs.Spent.{number_of, spenders_in, all_spenders}
use Rattle.attempt_laws.specs.Trials.{Happening, Befalls, BeginsEpoch, UpgradeEnters, UpgradeIsAbandoned, epoch_trial, deed_trial}
use Rattle.attempt_laws.specs.Trials.{trials_with, trials_at, course_behind, course_after, trials, made_course, all_trials}
use Rattle.attempt_laws.specs.Trials.{held, attempt_of}

-- a stop cuts a grant short, the next session loses its epoch's batch, the one after it begins that epoch and does nothing, and then
-- the grant enters
unfoldable pub happened : List Happening
happened =
    Befalls (Enters (MakeFolder (codes "/a")) (some_keys 5)) ∷ Befalls (Enters AddHolder (some_keys 1))
    ∷ Befalls (IsRefused (MakeFolder (codes "/a"))) ∷ Befalls (IsAbandoned (Grant 1 (codes "/a")) [])
    ∷ Befalls Reopens ∷ Befalls LosesEpoch ∷ Befalls Reopens ∷ BeginsEpoch ∷ Befalls Ends
    ∷ Befalls Reopens ∷ Befalls (Enters (Grant 1 (codes "/a")) []) ∷ []

-- in a store of version 1 a stop cuts an upgrade short, the next session loses its epoch's batch, and then the upgrade enters
unfoldable pub upgraded : List Happening
upgraded =
    Befalls (Enters (MakeFolder (codes "/a")) (some_keys 5)) ∷ UpgradeIsAbandoned (some_keys 8) ∷ Befalls Reopens
    ∷ Befalls LosesEpoch ∷ Befalls Reopens ∷ UpgradeEnters (some_keys 8) ∷ []

-- every word of it
unfoldable pub everything : Unit {0}
unfolding scripts upgrade_answer upgrade_draws upgrade_end upgrade_payload happened upgraded number_of spenders_in all_spenders
    epoch_trial deed_trial trials_with trials_at course_behind course_after trials made_course all_trials held attempt_of
everything = tt
