-- What holds of a stand holds after any notes that fit, with new epochs between them.
use Rattle.std.proofs.Common.{◌≡◌, ◌-◌, ◌^◌, ◌<◌, true, ◌&&◌, List, [], ◌∷◌, ◌++◌, inl, inr, refl, sym, subst, arith, append_assoc, append-nil}
use Rattle.std.specs.Prelude.{nat_lt}
use Rattle.std.proofs.lemmas.Bool.{and_parts, ltb-true, false≢true}
use Rattle.cry_base.specs.Store.{no_store}
use Rattle.move_plan.specs.Change.{change_of}
use Rattle.move_plan.specs.Fitting.{fits}
use Rattle.record_format.specs.Noted.{Note}
use Rattle.record_format.specs.Plain.{PlainPayload}
use Rattle.record_format.specs.Told.{told_note}
use Rattle.public_fold.specs.Fitted.{has_heads, fits_step, payload_fits, told_stand, told_step}
use Rattle.public_fold.specs.Journal.{Stand, nothing, note_step}
use Rattle.public_fold.specs.Keyed.{KeysHold, SerialsHold, LeavesClean}
use Rattle.public_fold.specs.KeyStep.{is_strict, no_keys, next_epoch}
use Rattle.public_fold.specs.Records.{Link, pieces_of}
use Rattle.public_fold.specs.Rooted.{MayStand}
use Rattle.public_fold.specs.StandFits.{has_count, note_fits}
use Rattle.public_fold.specs.Told.{told_store}
use Rattle.public_fold.specs.Turns.{Turn, turn_fits, turn_stand, turn_links, turns_fit, turns_stand, turns_links, StandHolds}
use Rattle.public_fold.specs.Turns.Turn.{Began, Noted}
use Rattle.public_fold.proofs.CleanLinks.{links_clean}
use Rattle.public_fold.proofs.KeepingKeys.{keys_after}
use Rattle.public_fold.proofs.KeyMoves.{nothing_holds, epoch_holds}
use Rattle.public_fold.proofs.NoteMoves.{note_moves, note_rooted}
use Rattle.public_fold.proofs.SerialsKept.{serials_after, serials_epoch, first_serials}

-- the parts of a note's fit
pub fit_told : (at : Stand) (note : Note) → note_fits at note (told_step at note) ≡ true → (fits (is_strict at.keys) at.store note ≡ true) × (has_count (told_step at note) ≡ true)
unfolding note_fits
fit_told at note t =
    let rest = and_parts (nat_lt 0 at.keys.epoch) (fits (is_strict at.keys) at.store note && has_count (told_step at note)) t in
    and_parts (fits (is_strict at.keys) at.store note) (has_count (told_step at note)) rest.1

-- a step of a note keeps what holds of a stand
pub note_store : (at : Stand) (note : Note) → fits (is_strict at.keys) at.store note ≡ true → MayStand at.store → MayStand (told_stand at note).store
unfolding told_stand
note_store at note t ok = inr (note_rooted (is_strict at.keys) at.store note t ok)

pub note_keys : (at : Stand) (note : Note) (links : List Link) → fits (is_strict at.keys) at.store note ≡ true → MayStand at.store → KeysHold at.store at.keys links → KeysHold (told_stand at note).store (told_stand at note).keys (links ++ (told_step at note).links)
unfolding told_stand told_step note_step
note_keys at note links t ok keys =
    let after = told_store at.store note in
    keys_after at.store after at.keys (change_of (is_strict at.keys) at.store note) links (note_moves (is_strict at.keys) at.store note t ok) keys (pieces_of note after)

pub note_serials : (at : Stand) (note : Note) (links : List Link) → fits (is_strict at.keys) at.store note ≡ true → MayStand at.store → KeysHold at.store at.keys links → SerialsHold at.keys → SerialsHold (told_stand at note).keys
unfolding told_stand told_step note_step
note_serials at note links t ok keys serials =
    let after = told_store at.store note in
    serials_after at.store after at.keys (change_of (is_strict at.keys) at.store note) links (note_moves (is_strict at.keys) at.store note t ok) keys (pieces_of note after) serials

pub note_clean : (at : Stand) (note : Note) (links : List Link) → fits (is_strict at.keys) at.store note ≡ true → MayStand at.store → KeysHold at.store at.keys links → LeavesClean (told_step at note)
unfolding told_step note_step
note_clean at note links t ok keys =
    let after = told_store at.store note in
    links_clean at.store after at.keys (change_of (is_strict at.keys) at.store note) links (note_moves (is_strict at.keys) at.store note t ok) keys (pieces_of note after)

note_count : (at : Stand) (note : Note) → has_count (told_step at note) ≡ true → (told_stand at note).keys.count < 2 ^ 32
unfolding has_count told_stand
note_count at note t =
    let low : (told_step at note).after.count < 2 ^ 32 - 1 = ltb-true (told_step at note).after.count (2 ^ 32 - 1) t in omega arith

pub note_holds : (at : Stand) (note : Note) (links : List Link) → note_fits at note (told_step at note) ≡ true → StandHolds at links → StandHolds (told_stand at note) (links ++ (told_step at note).links)
note_holds at note links t ok =
    let w = fit_told at note t in record {
      store = note_store at note w.0 ok.store;
      keys = note_keys at note links w.0 ok.store ok.keys;
      serials = note_serials at note links w.0 ok.store ok.keys ok.serials;
      count = note_count at note w.1;
    }

-- a payload fits where its note does, and its records are due
payload_told : (at : Stand) (p : PlainPayload) → payload_fits at p ≡ true → note_fits at (told_note p.note) (told_step at (told_note p.note)) ≡ true
unfolding payload_fits fits_step
payload_told at p t =
    let note = told_note p.note in
    (and_parts (note_fits at note (told_step at note)) (has_heads (told_step at note) p) t).0

pub payload_holds : (at : Stand) (p : PlainPayload) (links : List Link) → payload_fits at p ≡ true → StandHolds at links → StandHolds (told_stand at (told_note p.note)) (links ++ (told_step at (told_note p.note)).links)
payload_holds at p links t ok = note_holds at (told_note p.note) links (payload_told at p t) ok

-- so does a new epoch
pub epoch_stands : (at : Stand) (links : List Link) → StandHolds at links → StandHolds (record at { keys = next_epoch at.keys }) links
unfolding next_epoch
epoch_stands at links ok =
    let low : at.keys.count < 2 ^ 32 = ok.count in record {
      store = ok.store;
      keys = unfold next_epoch in epoch_holds at.store at.keys links ok.keys;
      serials = unfold next_epoch in serials_epoch at.keys (omega arith) ok.serials;
      count = omega arith;
    }

-- and all of them, one after another
pub turns_hold : (turns : List Turn) (at : Stand) (links : List Link) → turns_fit at turns ≡ true → StandHolds at links → StandHolds (turns_stand at turns) (links ++ turns_links at turns)
unfolding turns_fit turns_stand turns_links turn_fits turn_stand turn_links
turns_hold [] at links t ok = subst (StandHolds at) (sym (append-nil links)) ok
turns_hold (Began ∷ turns) at links t ok =
    let next = turn_stand at Began in
    turns_hold turns next links (and_parts true (turns_fit next turns) t).1 (epoch_stands at links ok)
turns_hold (Noted note ∷ turns) at links t ok =
    let next = told_stand at note in
    let step = told_step at note in
    let both = and_parts (note_fits at note step) (turns_fit next turns) t in
    subst (StandHolds (turns_stand next turns)) (append_assoc links step.links (turns_links next turns))
    (turns_hold turns next (links ++ step.links) both.1 (note_holds at note links both.0 ok))

-- the first turn is an epoch, since without one no note fits
first_holds : StandHolds (turn_stand nothing Began) []
unfolding turn_stand nothing next_epoch no_keys
first_holds = record { store = inl refl; keys = unfold next_epoch no_keys in nothing_holds; serials = unfold next_epoch no_keys in first_serials; count = few }
  where
    few : 0 < 2 ^ 32
    few = omega arith

-- what stands then, in the words of a fold
pub first_stands : StandHolds (record nothing { keys = next_epoch nothing.keys }) []
unfolding nothing
first_stands = unfold turn_stand nothing in first_holds

pub first_note : (note : Note) → note_fits nothing note (told_step nothing note) ≡ true → ⊥
unfolding note_fits nothing no_keys
first_note note t = false≢true (and_parts (nat_lt 0 0) (fits (is_strict nothing.keys) no_store note && has_count (told_step nothing note)) t).0

pub first_fits : (p : PlainPayload) → payload_fits nothing p ≡ true → ⊥
first_fits p t = first_note (told_note p.note) (payload_told nothing p t)

pub log_holds : (first : Turn) (turns : List Turn) → turns_fit nothing (first ∷ turns) ≡ true → StandHolds (turns_stand nothing (first ∷ turns)) (turns_links nothing (first ∷ turns))
unfolding turns_fit turns_stand turns_links turn_fits turn_links note_fits nothing no_keys
log_holds Began turns t =
    let next = turn_stand nothing Began in
    turns_hold turns next [] (and_parts true (turns_fit next turns) t).1 first_holds
log_holds (Noted note) turns t =
    let at = nothing in absurd (first_note note (and_parts (note_fits at note (told_step at note)) (turns_fit (told_stand at note) turns) t).0)
