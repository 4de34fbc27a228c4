-- The epochs of journals, and of what is written behind them.
use Rattle.std.proofs.Common.{◌≡◌, ℕ, ◌+◌, Bool, true, false, cond, List, [], ◌∷◌, ◌++◌, length, append-nil, arith, ap, ◌∙◌}
use Rattle.std.proofs.lemmas.List.{length-append}
use Rattle.cry_base.specs.Requests.{Request}
use Rattle.public_fold.specs.Journal.{Entry, Journal, Stand, nothing, entry_step, keys_of, note_step, stand_then, stand_after}
use Rattle.public_fold.specs.Journal.Entry.{Session, Made, Did, Upgraded}
use Rattle.public_fold.specs.KeyStep.{KeyState, key_step, next_epoch, published, step_with}
use Rattle.public_fold.proofs.Prefixes.{stand_after-append}
use Rattle.journal_bytes.specs.Attempts.{Course}
use Rattle.journal_bytes.proofs.NextEntry.{between}
use Rattle.store_owner.specs.Deeds.{Deed, deed_entry}
use Rattle.store_owner.specs.Deeds.Deed.{Commanded, Upgrading}

-- a session over a journal, whether it has begun its epoch
abbrev pub course : Journal → Bool → Course
course m b = record { journal = m; begun = b }

-- the keys behind one entry more
pub keys_more : (m : Journal) (entry : Entry) → keys_of (m ++ entry ∷ []) ≡ (entry_step (stand_after nothing m) entry).after
unfolding keys_of stand_after stand_then
keys_more m entry = ap (λ (at : Stand). at.keys) (stand_after-append nothing m (entry ∷ []))

pub keys_session : (m : Journal) → keys_of (m ++ Session ∷ []) ≡ next_epoch (keys_of m)
unfolding entry_step keys_of
keys_session m = keys_more m Session

abbrev pub epoch_in : Journal → ℕ
epoch_in m = (keys_of m).epoch

pub epoch_session : (m : Journal) → epoch_in (m ++ Session ∷ []) ≡ epoch_in m + 1
unfolding next_epoch
epoch_session m = ap (λ (k : KeyState). k.epoch) (keys_session m)

pub epoch_command : (m : Journal) (r : Request) (keys : List (List ℕ)) → epoch_in (m ++ Did r keys ∷ []) ≡ epoch_in m
unfolding entry_step note_step key_step step_with published keys_of
epoch_command m r keys = ap (λ (k : KeyState). k.epoch) (keys_more m (Did r keys))

pub epoch_made : (m : Journal) (version : ℕ) (keys : List (List ℕ)) → epoch_in (m ++ Made version keys ∷ []) ≡ epoch_in m
unfolding entry_step note_step key_step step_with published keys_of
epoch_made m version keys = ap (λ (k : KeyState). k.epoch) (keys_more m (Made version keys))

pub epoch_upgraded : (m : Journal) (keys : List (List ℕ)) → epoch_in (m ++ Upgraded keys ∷ []) ≡ epoch_in m
unfolding entry_step note_step key_step step_with published keys_of
epoch_upgraded m keys = ap (λ (k : KeyState). k.epoch) (keys_more m (Upgraded keys))

pub epoch_deed : (m : Journal) (d : Deed) (keys : List (List ℕ)) → epoch_in (m ++ deed_entry d keys ∷ []) ≡ epoch_in m
epoch_deed m (Commanded r) keys = epoch_command m r keys
epoch_deed m Upgrading keys = epoch_upgraded m keys

pub epoch_between : (m : Journal) (b : Bool) → epoch_in (between m b) ≡ epoch_in m + cond b 0 1
epoch_between m true = ap epoch_in (append-nil m) ∙ omega arith
epoch_between m false = epoch_session m

pub length_between : (m : Journal) (b : Bool) → length (between m b) ≡ length m + cond b 0 1
length_between m true = ap length (append-nil m) ∙ omega arith
length_between m false = length-append m (Session ∷ [])
