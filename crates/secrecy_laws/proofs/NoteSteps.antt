-- The key step of any note that fits is a step of the laws over any roles.
use Rattle.std.proofs.Common.{◌≡◌, ℕ, ◌*◌, ◌+◌, ◌^◌, ◌<◌, true, List, [], ◌∷◌, arith}
use Rattle.std.proofs.lemmas.Bool.{and_parts}
use Rattle.cry_base.specs.Sets.{In}
use Rattle.cry_base.specs.declared.roles.Role.{Role}
use Rattle.role_graph.specs.Edges.{edges}
use Rattle.role_graph.specs.Roles.{is_root_role, same_role}
use Rattle.role_graph.proofs.Comparing.{same_role_tells}
use Rattle.move_plan.specs.Change.{change_of}
use Rattle.move_plan.specs.Fitting.{fits}
use Rattle.record_format.specs.Noted.{Note}
use Rattle.public_fold.specs.Fitted.{told_step, told_stand}
use Rattle.public_fold.specs.Journal.{Stand, nothing, note_step}
use Rattle.public_fold.specs.Keyed.{KeysHold}
use Rattle.public_fold.specs.KeyStep.{is_strict, next_epoch, next_serial}
use Rattle.public_fold.specs.Records.{pieces_of}
use Rattle.public_fold.specs.Rooted.{MayStand}
use Rattle.public_fold.specs.StandFits.{note_fits}
use Rattle.public_fold.specs.Told.{told_store}
use Rattle.public_fold.specs.Turns.{Turn, turn_fits, turn_stand, turns_fit, turns_stand, StandHolds}
use Rattle.public_fold.specs.Turns.Turn.{Began, Noted}
use Rattle.public_fold.proofs.NoteMoves.{note_moves}
use Rattle.public_fold.proofs.TurnsHold.{fit_told, note_holds, epoch_stands, first_stands, first_note}
use Rattle.secrecy_laws.specs.States.{IsStep, Fits}
use Rattle.secrecy_laws.specs.Holding.{Holds}
use Rattle.secrecy_laws.specs.Pasts.{Past, no_past, past_then, state_of, move_of}
use Rattle.secrecy_laws.specs.NotedPasts.{past_note, past_turns}
use Rattle.secrecy_laws.proofs.Steps.{stays_held}
use Rattle.secrecy_laws.proofs.KeySteps.{is_step, fits_step, below_after}
use Rattle.secrecy_laws.proofs.Journals.{first_holds, first_below}

pub note_step_is : (at : Stand) (note : Note) (p : Past) → fits (is_strict at.keys) at.store note ≡ true → MayStand at.store → KeysHold at.store at.keys p.links
    → ((key : Role × ℕ) → In key p.made → key.1 < next_serial at.keys)
    → IsStep (state_of at p) (move_of (edges at.store) (change_of (is_strict at.keys) at.store note) (told_step at note)) (state_of (told_stand at note) (past_note at p note))
unfolding told_stand told_step note_step past_note
note_step_is at note p t stands ok below =
    let after = told_store at.store note in
    is_step at.store after at.keys (change_of (is_strict at.keys) at.store note) p (pieces_of note after) (note_moves (is_strict at.keys) at.store note t stands) ok below

pub note_step_fits : (at : Stand) (note : Note) (p : Past) → fits (is_strict at.keys) at.store note ≡ true → MayStand at.store → KeysHold at.store at.keys p.links
    → ((key : Role × ℕ) → In key p.made → key.1 < next_serial at.keys)
    → Fits is_root_role (state_of at p) (move_of (edges at.store) (change_of (is_strict at.keys) at.store note) (told_step at note)) (state_of (told_stand at note) (past_note at p note))
unfolding told_stand told_step note_step past_note
note_step_fits at note p t stands ok below =
    let after = told_store at.store note in
    fits_step at.store after at.keys (change_of (is_strict at.keys) at.store note) p (pieces_of note after) (note_moves (is_strict at.keys) at.store note t stands) ok below

note_below : (at : Stand) (note : Note) (p : Past) → fits (is_strict at.keys) at.store note ≡ true → MayStand at.store → KeysHold at.store at.keys p.links
    → ((key : Role × ℕ) → In key p.made → key.1 < next_serial at.keys) → (key : Role × ℕ) → In key (past_note at p note).made → key.1 < next_serial (told_stand at note).keys
unfolding told_stand told_step note_step past_note
note_below at note p t stands ok below =
    let after = told_store at.store note in
    below_after at.store after at.keys (change_of (is_strict at.keys) at.store note) p (pieces_of note after) (note_moves (is_strict at.keys) at.store note t stands) ok below

-- what holds of a stand with its past
record KeptNotes (at : Stand) (p : Past) : Type 0 where
  stands : StandHolds at p.links
  below : (key : Role × ℕ) → In key p.made → key.1 < next_serial at.keys
  holds : Holds is_root_role (state_of at p)

note_links : (at : Stand) (p : Past) (note : Note) → note_fits at note (told_step at note) ≡ true → StandHolds at p.links → StandHolds (told_stand at note) (past_note at p note).links
unfolding past_note past_then
note_links at p note t ok = note_holds at note p.links t ok

note_kept : (at : Stand) (p : Past) (note : Note) → note_fits at note (told_step at note) ≡ true → KeptNotes at p → KeptNotes (told_stand at note) (past_note at p note)
note_kept at p note t ok =
    let w = fit_told at note t in record {
      stands = note_links at p note t ok.stands;
      below = note_below at note p w.0 ok.stands.store ok.stands.keys ok.below;
      holds = stays_held same_role same_role_tells is_root_role (state_of at p)
          (move_of (edges at.store) (change_of (is_strict at.keys) at.store note) (told_step at note)) (state_of (told_stand at note) (past_note at p note))
          ok.holds (note_step_is at note p w.0 ok.stands.store ok.stands.keys ok.below) (note_step_fits at note p w.0 ok.stands.store ok.stands.keys ok.below);
    }

epoch_kept : (at : Stand) (p : Past) → KeptNotes at p → KeptNotes (turn_stand at Began) p
unfolding turn_stand next_epoch next_serial
epoch_kept at p ok = record {
  stands = unfold next_epoch in epoch_stands at p.links ok.stands;
  below = λ key i. let high : key.1 < at.keys.epoch * 2 ^ 32 + at.keys.count = ok.below key i in let low : at.keys.count < 2 ^ 32 = ok.stands.count in omega arith;
  holds = ok.holds;
}

turns_kept : (turns : List Turn) (at : Stand) (p : Past) → turns_fit at turns ≡ true → KeptNotes at p → KeptNotes (turns_stand at turns) (past_turns at p turns)
unfolding turns_fit turns_stand past_turns turn_fits
turns_kept [] at p t ok = ok
turns_kept (Began ∷ turns) at p t ok = turns_kept turns (turn_stand at Began) p (and_parts true (turns_fit (turn_stand at Began) turns) t).1 (epoch_kept at p ok)
turns_kept (Noted note ∷ turns) at p t ok =
    let both = and_parts (note_fits at note (told_step at note)) (turns_fit (turn_stand at (Noted note)) turns) t in
    turns_kept turns (turn_stand at (Noted note)) (past_note at p note) both.1 (unfold turn_stand in note_kept at p note both.0 ok)

first_kept : KeptNotes (turn_stand nothing Began) no_past
unfolding turn_stand nothing
first_kept = record { stands = unfold nothing no_past in first_stands; below = first_below; holds = first_holds }

pub log_kept : (first : Turn) (turns : List Turn) → turns_fit nothing (first ∷ turns) ≡ true
    → Holds is_root_role (state_of (turns_stand nothing (first ∷ turns)) (past_turns nothing no_past (first ∷ turns)))
unfolding turns_fit turns_stand past_turns turn_fits
log_kept Began turns t = (turns_kept turns (turn_stand nothing Began) no_past (and_parts true (turns_fit (turn_stand nothing Began) turns) t).1 first_kept).holds
log_kept (Noted note) turns t =
    absurd (first_note note (and_parts (note_fits nothing note (told_step nothing note)) (turns_fit (turn_stand nothing (Noted note)) turns) t).0)
