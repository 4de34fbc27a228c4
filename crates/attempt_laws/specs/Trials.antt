-- All batches that were ever written to a store, from its making on, with what each one masked. This project's own, docs/FORMAT.md,
-- "Committing".
use Rattle.std.specs.Prelude.{◌≡◌, ◌<◌, ◌⊎◌, ℕ, ◌+◌, true, false, cond, List, [], ◌∷◌, ◌++◌, length, slice_index_or, Option, Some, None}
use Rattle.cry_base.specs.Sets.{In}
use Rattle.commit_journal.specs.Handing.{Write, log_writes}
use Rattle.commit_journal.specs.Image.{Batch, masked_payload}
use Rattle.commit_journal.specs.Laws.{batch_of}
use Rattle.public_fold.specs.Journal.{Entry, Journal, Stand, nothing, entry_step, keys_of, stand_after}
use Rattle.public_fold.specs.Journal.Entry.{Session, Made, Did, Upgraded}
use Rattle.public_fold.specs.KeyStep.{Stepped}
use Rattle.journal_bytes.specs.Attempts.{Attempt, Course, Event, begun_journal, course_then}
use Rattle.journal_bytes.specs.Attempts.Event.{IsRefused, Enters, IsAbandoned, LosesEpoch, Ends, Reopens}
use Rattle.journal_bytes.specs.Bytes.{batches_of, entry_body}
use Rattle.journal_bytes.specs.Keys.{all_keys}
use Rattle.store_owner.specs.Deeds.{Deed, deed_entry}
use Rattle.store_owner.specs.Deeds.Deed.{Commanded, Upgrading}

-- what happens to a store: one of the events; the session's epoch batch enters with no other batch behind it; an upgrade is refused; its
-- batch enters the journal, or is written and abandoned
pub data Happening : Type 0 where
  Befalls : (event : Event) → Happening
  BeginsEpoch : Happening
  UpgradeIsRefused : Happening
  UpgradeEnters : (keys : List (List ℕ)) → Happening
  UpgradeIsAbandoned : (keys : List (List ℕ)) → Happening

-- a batch that was written: the entry that it holds, and the journal behind which it was written
pub record Trial : Type 0 where
  pub behind : Journal
  pub entry : Entry

-- the epoch's batch, where the session has begun none; the batch of a command or an upgrade; both
unfoldable pub epoch_trial : Course → List Trial
epoch_trial c = cond c.begun [] (record { behind = c.journal; entry = Session } ∷ [])

unfoldable pub deed_trial : Course → Deed → List (List ℕ) → Trial
deed_trial c d keys = record { behind = begun_journal c; entry = deed_entry d keys }

unfoldable pub trials_with : Course → Deed → List (List ℕ) → List Trial
trials_with c d keys = epoch_trial c ++ deed_trial c d keys ∷ []

-- what is written then
unfoldable pub trials_at : Course → Happening → List Trial
trials_at c (Befalls (IsRefused r)) = []
trials_at c (Befalls (Enters r keys)) = trials_with c (Commanded r) keys
trials_at c (Befalls (IsAbandoned r keys)) = trials_with c (Commanded r) keys
trials_at c (Befalls LosesEpoch) = epoch_trial c
trials_at c (Befalls Ends) = []
trials_at c (Befalls Reopens) = []
trials_at c BeginsEpoch = epoch_trial c
trials_at c UpgradeIsRefused = []
trials_at c (UpgradeEnters keys) = trials_with c Upgrading keys
trials_at c (UpgradeIsAbandoned keys) = trials_with c Upgrading keys

-- the course after it: an abandoned batch ends its session
unfoldable pub course_behind : Course → Happening → Course
course_behind c (Befalls event) = course_then c event
course_behind c BeginsEpoch = record { journal = begun_journal c; begun = true }
course_behind c UpgradeIsRefused = c
course_behind c (UpgradeEnters keys) = record { journal = begun_journal c ++ Upgraded keys ∷ []; begun = true }
course_behind c (UpgradeIsAbandoned keys) = record { journal = begun_journal c; begun = false }

-- all that is written, one after another
unfoldable pub trials : Course → List Happening → List Trial
trials c [] = []
trials c (now ∷ later) = trials_at c now ++ trials (course_behind c now) later

-- the course in the end
unfoldable pub course_after : Course → List Happening → Course
course_after c [] = c
course_after c (now ∷ later) = course_after (course_behind c now) later

-- the course of a store of this version that was just made under these keys: the session that makes a store ends there
unfoldable pub made_course : ℕ → List (List ℕ) → Course
made_course version keys = record { journal = Session ∷ Made version keys ∷ []; begun = false }

-- the two batches of making a store, and all that is written to it then
unfoldable pub all_trials : ℕ → List (List ℕ) → List Happening → List Trial
all_trials version keys later =
    record { behind = []; entry = Session } ∷ record { behind = Session ∷ []; entry = Made version keys }
    ∷ trials (made_course version keys) later

-- the step that an entry's batch holds. An epoch's batch holds none
unfoldable pub held : Stand → Entry → Option Stepped
held at Session = None
held at (Made version keys) = Some (entry_step at (Made version keys))
held at (Did request keys) = Some (entry_step at (Did request keys))
held at (Upgraded keys) = Some (entry_step at (Upgraded keys))

-- the attempt that a batch is
unfoldable pub attempt_of : Trial → Attempt
attempt_of t = record {
  epoch = (keys_of (t.behind ++ t.entry ∷ [])).epoch;
  number = length t.behind + 1;
  holds = held (stand_after nothing t.behind) t.entry;
}

-- the batch itself, with the payload that is masked: sealed under the keys that there are with its entry
unfoldable pub batch_in : List ℕ → Trial → Batch
batch_in owner t =
    batch_of (length t.behind) (keys_of t.behind).epoch
    (entry_body (all_keys owner (t.behind ++ t.entry ∷ [])) (stand_after nothing t.behind) t.entry)

-- the writes of batches that were tried: each joins the log of its journal
unfoldable pub trial_writes : List ℕ → List Trial → List Write
trial_writes owner [] = []
trial_writes owner (t ∷ ts) = log_writes owner (batches_of owner t.behind) (batch_in owner t ∷ []) ++ trial_writes owner ts

-- both are masked under the veil key of one epoch and one number
abbrev pub ShareVeil : Trial → Trial → Type 0
ShareVeil t u = ((attempt_of t).epoch ≡ (attempt_of u).epoch) × ((attempt_of t).number ≡ (attempt_of u).number)

-- whichever two of the list do are one of it, or both begin an epoch behind the same journal
abbrev pub ShareWithThemselves : List Trial → Type 0
ShareWithThemselves ts = (i j : ℕ) (d : Trial) → i < length ts → j < length ts → ShareVeil (slice_index_or ts i d) (slice_index_or ts j d)
    → (i ≡ j) ⊎ (((slice_index_or ts i d).entry ≡ Session) × (slice_index_or ts i d ≡ slice_index_or ts j d))

-- whichever two of the list are masked under the veil key of one epoch and one number have one payload, before it is masked and then
abbrev pub MaskOnePayload : List ℕ → List Trial → Type 0
MaskOnePayload owner ts = (t u : Trial) → In t ts → In u ts
    → (batch_in owner t).epoch ≡ (batch_in owner u).epoch → (batch_in owner t).number ≡ (batch_in owner u).number
    → ((batch_in owner t).payload ≡ (batch_in owner u).payload)
    × (masked_payload owner (batch_in owner t) ≡ masked_payload owner (batch_in owner u))
