-- The attempts of events are the batches that are written, and a batch has its attempt's epoch and number.
use Rattle.std.proofs.Common.{◌≡◌, ℕ, ◌+◌, Bool, true, false, List, [], ◌∷◌, ◌++◌, length, map, None, Some, suc, refl, sym, ap, ◌∙◌}
use Rattle.cry_base.specs.Requests.{Request}
use Rattle.cry_base.specs.Sets.{In}
use Rattle.chacha_seal.specs.Keys.{KeyParts}
use Rattle.commit_journal.specs.Image.{image, masked_payload}
use Rattle.commit_journal.specs.Journals.{JournalState, last_epoch}
use Rattle.commit_journal.specs.Laws.{batch_of, batches_from}
use Rattle.commit_journal.specs.Standing.{last_tag}
use Rattle.public_fold.specs.Journal.{Entry, Journal, Stand, entry_step, keys_of, note_step, nothing, stand_after, stand_then}
use Rattle.public_fold.specs.KeyStep.{key_step, next_epoch, no_keys, published, step_with}
use Rattle.public_fold.specs.Journal.Entry.{Session, Made, Did, Upgraded}
use Rattle.journal_bytes.specs.Attempts.{Course, Event, attempts, attempts_at, begun_journal, command_attempt, course_then, epoch_attempt}
use Rattle.journal_bytes.specs.Attempts.Event.{IsRefused, Enters, IsAbandoned, LosesEpoch, Ends, Reopens}
use Rattle.journal_bytes.specs.Bytes.{batches_of, bodies_from, bodies_of, entry_body, keys_then}
use Rattle.journal_bytes.specs.Keys.{all_keys, owner_parts}
use Rattle.journal_bytes.proofs.NextBatches.{batches_then, epoch_of}
use Rattle.journal_bytes.proofs.NextEntry.{between}
use Rattle.store_owner.specs.Deeds.Deed.{Commanded}
use Rattle.attempt_laws.specs.Trials.{Befalls, Happening, Trial, all_trials, attempt_of, batch_in, course_behind, deed_trial, epoch_trial, held, made_course, trials, trials_at, trials_with}
use Rattle.attempt_laws.proofs.Epochs.{course, epoch_in, epoch_command, epoch_made, epoch_session, epoch_upgraded}
use Rattle.attempt_laws.proofs.Ranks.{all_apart, apart_same}

-- ---- attempts

epoch_told : (m : Journal) (b : Bool) → epoch_attempt (course m b) ≡ map attempt_of (epoch_trial (course m b))
unfolding epoch_attempt epoch_trial attempt_of held
epoch_told m true = refl
epoch_told m false = ap (λ n. record { epoch = n; number = length m + 1; holds = None } ∷ []) (sym (epoch_session m))

command_told : (m : Journal) (r : Request) (keys : List (List ℕ))
    → command_attempt m r keys ≡ attempt_of (record { behind = m; entry = Did r keys })
unfolding command_attempt attempt_of held
command_told m r keys =
    let step = entry_step (stand_after nothing m) (Did r keys) in
    ap (λ n. record { epoch = n; number = length m + 1; holds = Some step }) (sym (epoch_command m r keys))

map-append : (xs ys : List Trial) → map attempt_of (xs ++ ys) ≡ map attempt_of xs ++ map attempt_of ys
map-append [] ys = refl
map-append (x ∷ xs) ys = ap (λ l. attempt_of x ∷ l) (map-append xs ys)

both_told : (m : Journal) (b : Bool) (r : Request) (keys : List (List ℕ))
    → epoch_attempt (course m b) ++ command_attempt (begun_journal (course m b)) r keys ∷ []
    ≡ map attempt_of (epoch_trial (course m b) ++ deed_trial (course m b) (Commanded r) keys ∷ [])
unfolding deed_trial begun_journal
both_told m b r keys =
    ap (λ l. l ++ command_attempt (between m b) r keys ∷ []) (epoch_told m b)
    ∙ ap (λ a. map attempt_of (epoch_trial (course m b)) ++ a ∷ []) (command_told (between m b) r keys)
    ∙ sym (map-append (epoch_trial (course m b)) (deed_trial (course m b) (Commanded r) keys ∷ []))

event_told : (m : Journal) (b : Bool) (event : Event)
    → attempts_at (course m b) event ≡ map attempt_of (trials_at (course m b) (Befalls event))
unfolding attempts_at trials_at trials_with
event_told m b (IsRefused r) = refl
event_told m b (Enters r keys) = both_told m b r keys
event_told m b (IsAbandoned r keys) = both_told m b r keys
event_told m b LosesEpoch = epoch_told m b
event_told m b Ends = refl
event_told m b Reopens = refl

pub attempts_told : (c : Course) (events : List Event) → attempts c events ≡ map attempt_of (trials c (map Befalls events))
unfolding attempts trials course_behind
attempts_told c [] = refl
attempts_told c (event ∷ events) =
    ap (λ l. attempts_at c event ++ l) (attempts_told (course_then c event) events)
    ∙ ap (λ l. l ++ map attempt_of (trials (course_then c event) (map Befalls events))) (event_told c.journal c.begun event)
    ∙ sym (map-append (trials_at c (Befalls event)) (trials (course_then c event) (map Befalls events)))

pub made_told : (version : ℕ) (keys : List (List ℕ)) (events : List Event) → map attempt_of (all_trials version keys (map Befalls events))
    ≡ record { epoch = 1; number = 1; holds = None }
    ∷ record { epoch = 1; number = 2; holds = Some (entry_step (stand_after nothing (Session ∷ [])) (Made version keys)) }
    ∷ attempts (made_course version keys) events
unfolding all_trials attempt_of held nothing no_keys keys_of stand_after stand_then entry_step note_step next_epoch key_step step_with published
made_told version keys events =
    let step = entry_step (stand_after nothing (Session ∷ [])) (Made version keys) in
    ap (λ l. record { epoch = 1; number = 1; holds = None } ∷ record { epoch = 1; number = 2; holds = Some step } ∷ l)
    (sym (attempts_told (made_course version keys) events))

-- ---- batches

pub epochs_agree : (owner : List ℕ) (t : Trial) → (batch_in owner t).epoch ≡ (attempt_of t).epoch
unfolding batch_in attempt_of entry_body
epochs_agree owner t = agree t.entry
  where
    agree : (entry : Entry) → (batch_in owner (record { behind = t.behind; entry = entry })).epoch ≡ epoch_in (t.behind ++ entry ∷ [])
    agree Session = sym (epoch_session t.behind)
    agree (Made version keys) = sym (epoch_made t.behind version keys)
    agree (Did r keys) = sym (epoch_command t.behind r keys)
    agree (Upgraded keys) = sym (epoch_upgraded t.behind keys)

pub numbers_agree : (owner : List ℕ) (t : Trial) → (batch_in owner t).number ≡ (attempt_of t).number
unfolding batch_in attempt_of entry_body
numbers_agree owner t = agree t.entry
  where
    agree : (entry : Entry) → (batch_in owner (record { behind = t.behind; entry = entry })).number ≡ length t.behind + 1
    agree Session = refl
    agree (Made version keys) = refl
    agree (Did r keys) = refl
    agree (Upgraded keys) = refl

-- a journal has a batch for each entry
many_from : (keys : List KeyParts) (at : Stand) (number epoch : ℕ) (m : List Entry)
    → length (batches_from number epoch (bodies_from keys at m)) ≡ length m
unfolding bodies_from
many_from keys at number epoch [] = refl
many_from keys at number epoch (entry ∷ m) =
    let batch = batch_of number epoch (entry_body (keys_then keys at entry) at entry) in
    ap suc (many_from (keys_then keys at entry) (stand_then at entry) batch.number batch.epoch m)

many : (owner : List ℕ) (m : Journal) → length (batches_of owner m) ≡ length m
unfolding batches_of bodies_of
many owner m = many_from (owner_parts owner ∷ []) nothing 0 0 m

-- a journal that stands for the batches of these entries
standing : List ℕ → Journal → JournalState
standing owner m = record {
  owner = owner;
  batches = length (batches_of owner m);
  epoch = last_epoch 0 (batches_of owner m);
  has_epoch = false;
  end = length (image owner (batches_of owner m)) + 1;
  tag = last_tag owner (batches_of owner m);
  limit = 0;
  is_closed = false;
  room = 0;
}

pub entered_is : (owner : List ℕ) (m : Journal) (entry : Entry)
    → batches_of owner (m ++ entry ∷ []) ≡ batches_of owner m ++ batch_in owner (record { behind = m; entry = entry }) ∷ []
unfolding batch_in standing
entered_is owner m entry =
    let body = entry_body (all_keys owner (m ++ entry ∷ [])) (stand_after nothing m) entry in
    batches_then owner m entry (standing owner m) (record { batches = refl; epoch = refl; end = refl; tag = refl })
    ∙ ap (λ n. batches_of owner m ++ batch_of n (last_epoch 0 (batches_of owner m)) body ∷ []) (many owner m)
    ∙ ap (λ n. batches_of owner m ++ batch_of (length m) n body ∷ []) (epoch_of owner m)

-- ---- two batches under one veil key

module _ (owner : List ℕ) (version : ℕ) (keys : List (List ℕ)) (later : List Happening) (a b : Trial)
    (i : In a (all_trials version keys later)) (j : In b (all_trials version keys later))
    (epochs : (batch_in owner a).epoch ≡ (batch_in owner b).epoch) (numbers : (batch_in owner a).number ≡ (batch_in owner b).number) where
  same_trial : a ≡ b
  same_trial = apart_same (all_trials version keys later) (all_apart version keys later) a b i j
      (sym (epochs_agree owner a) ∙ epochs ∙ epochs_agree owner b, sym (numbers_agree owner a) ∙ numbers ∙ numbers_agree owner b)

  pub same_payload : ((batch_in owner a).payload ≡ (batch_in owner b).payload)
      × (masked_payload owner (batch_in owner a) ≡ masked_payload owner (batch_in owner b))
  same_payload = (ap (λ t. (batch_in owner t).payload) same_trial, ap (λ t. masked_payload owner (batch_in owner t)) same_trial)
