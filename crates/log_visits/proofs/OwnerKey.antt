-- The owner's key is present under the serial 0 whatever a log folds to.
use Rattle.std.proofs.Common.{◌≡◌, ℕ, true, false, List, [], ◌∷◌, ◌++◌, Some, ⊎_elim, refl, sym, ap, subst, ◌∙◌}
use Rattle.std.specs.Prelude.{Result, Ok, Err, if◌then◌else◌, unwrap_or}
use Rattle.std.proofs.lemmas.Bool.{and_parts, false≢true}
use Rattle.commit_journal.specs.Answering.{Fault, Damaged, and_then}
use Rattle.commit_journal.specs.Placed.{PlainBody, Commands, NewEpoch, PlainPlaced}
use Rattle.cry_base.specs.Sets.{In}
use Rattle.cry_base.specs.declared.roles.Role.{Role}
use Rattle.cry_base.specs.declared.roles.Role.TheVariants.{Owner}
use Rattle.cry_base.proofs.Members.{In-append}
use Rattle.log_visits.specs.Answering.{AnswersBy}
use Rattle.log_visits.specs.Folding.{stand_behind, folded}
use Rattle.move_plan.specs.Change.{change_of}
use Rattle.move_plan.specs.Fitting.{fits}
use Rattle.public_fold.specs.Fitted.{has_heads, fits_step, payload_fits, told_stand, told_step}
use Rattle.public_fold.specs.Journal.{Stand, nothing, note_step}
use Rattle.public_fold.specs.KeyStep.{is_strict, key_step, newest, next_epoch, no_keys, present, published, renewed, step_with}
use Rattle.public_fold.specs.Records.{Link}
use Rattle.public_fold.specs.StandFits.{note_fits}
use Rattle.public_fold.specs.Standing.{PublicView, IsSeenAs}
use Rattle.public_fold.specs.Told.{told_store}
use Rattle.public_fold.specs.Turns.{StandHolds}
use Rattle.public_fold.proofs.KeepingKeys.{renewed_stands, same_key}
use Rattle.public_fold.proofs.NoteMoves.{note_moves}
use Rattle.public_fold.proofs.TurnsHold.{epoch_stands, first_fits, first_stands, fit_told, payload_holds}
use Rattle.record_format.specs.Noted.{Note}
use Rattle.record_format.specs.Plain.{PlainPayload}
use Rattle.record_format.specs.Told.{told_note}
use Rattle.role_graph.specs.Edges.{edges}
use Rattle.role_graph.specs.Roles.{is_root_role, role_id, same_role, variant_of}

owner_is_root : is_root_role Owner ≡ true
unfolding is_root_role variant_of
owner_is_root = refl

-- a step renews other keys, and takes others away
note_owner : (at : Stand) (note : Note) (links : List Link) → fits (is_strict at.keys) at.store note ≡ true → StandHolds at links → newest (told_stand at note).keys.keys Owner ≡ newest at.keys.keys Owner
unfolding told_stand told_step note_step key_step step_with published
note_owner at note links t holds =
    let s = at.store in
    let after = told_store s note in
    let c = change_of (is_strict at.keys) s note in
    let mv = note_moves (is_strict at.keys) s note t holds.store in
    let plan = renewed at.keys (edges s) c in
    let not_new : In Owner c.fresh → ⊥ = λ f. mv.fresh_is_new Owner f tt in
    same_key s after at.keys c links mv holds.keys Owner
    (λ i. ⊎_elim (λ p. false≢true (sym (renewed_stands s after at.keys c links mv holds.keys Owner p).1.1 ∙ owner_is_root)) not_new
    ((In-append Role Owner plan c.fresh).0 i))
    (λ g. ⊎_elim (λ w. w.1 g) not_new ((mv.roles Owner).0 tt))

-- what holds of a stand, with the owner's key present under 0
abbrev pub IsOwned : Stand → Type 0
IsOwned at = (links : List Link) × StandHolds at links × (newest at.keys.keys Owner ≡ Some 0)

-- the note of a payload that fits does
pub payload_fit : (at : Stand) (q : PlainPayload) → payload_fits at q ≡ true → fits (is_strict at.keys) at.store (told_note q.note) ≡ true
unfolding payload_fits fits_step
payload_fit at q t =
    let step = told_step at (told_note q.note) in
    (fit_told at (told_note q.note) (and_parts (note_fits at (told_note q.note) step) (has_heads step q) t).0).0

payload_owned : (at : Stand) (q : PlainPayload) → payload_fits at q ≡ true → IsOwned at → IsOwned (told_stand at (told_note q.note))
payload_owned at q t w = (
  w.0 ++ (told_step at (told_note q.note)).links,
  payload_holds at q w.0 t w.1,
  note_owner at (told_note q.note) w.0 (payload_fit at q t) w.1 ∙ w.2,
)

epoch_owned : (at : Stand) → IsOwned at → IsOwned (record at { keys = next_epoch at.keys })
unfolding next_epoch
epoch_owned at w = (w.0, epoch_stands at w.0 w.1, w.2)

-- one batch, and what follows
body_owned : (at stand : Stand) (place : ℕ) (body : PlainBody) (go_on : Stand → Result Stand Fault) → ((next : Stand) → IsOwned next → go_on next ≡ Ok stand → IsOwned stand) → IsOwned at →
    and_then (stand_behind at place body) go_on ≡ Ok stand → IsOwned stand
unfolding stand_behind and_then
body_owned at stand place NewEpoch go_on on w e = on (record at { keys = next_epoch at.keys }) (epoch_owned at w) e
body_owned at stand place (Commands q) go_on on w e =
    (elim (payload_fits at q) as (λ b. payload_fits at q ≡ b → and_then (if b then Ok (told_stand at (told_note q.note)) else Err (Damaged place)) go_on ≡ Ok stand → IsOwned stand) [
      | true ↦ λ t e. on (told_stand at (told_note q.note)) (payload_owned at q t w) e
      | false ↦ λ t e. absurd cc
    ]) refl e

fold_owned : (log : List PlainPlaced) (at stand : Stand) → IsOwned at → folded at log ≡ Ok stand → IsOwned stand
unfolding folded
fold_owned [] at stand w e = let same : at ≡ stand = cc in subst IsOwned same w
fold_owned (p ∷ log) at stand w e = body_owned at stand p.place p.body (λ next. folded next log) (λ next u f. fold_owned log next stand u f) w e

first_epoch : IsOwned (record nothing { keys = next_epoch nothing.keys })
unfolding nothing no_keys next_epoch newest same_role variant_of role_id
first_epoch = ([], first_stands, refl)

-- the first batch of a log that folds begins an epoch
first_owned : (stand : Stand) (place : ℕ) (body : PlainBody) (go_on : Stand → Result Stand Fault) → ((next : Stand) → IsOwned next → go_on next ≡ Ok stand → IsOwned stand) →
    and_then (stand_behind nothing place body) go_on ≡ Ok stand → IsOwned stand
unfolding stand_behind and_then
first_owned stand place NewEpoch go_on on e = on (record nothing { keys = next_epoch nothing.keys }) first_epoch e
first_owned stand place (Commands q) go_on on e =
    (elim (payload_fits nothing q) as (λ b. payload_fits nothing q ≡ b → and_then (if b then Ok (told_stand nothing (told_note q.note)) else Err (Damaged place)) go_on ≡ Ok stand → IsOwned stand) [
      | true ↦ λ t e. absurd (first_fits q t)
      | false ↦ λ t e. absurd cc
    ]) refl e

nothing_owned : newest nothing.keys.keys Owner ≡ Some 0
unfolding nothing no_keys newest same_role variant_of role_id
nothing_owned = refl

owner_there : (log : List PlainPlaced) (stand : Stand) → folded nothing log ≡ Ok stand → newest stand.keys.keys Owner ≡ Some 0
unfolding folded
owner_there [] stand e = let same : nothing ≡ stand = cc in subst (λ (z : Stand). newest z.keys.keys Owner ≡ Some 0) same nothing_owned
owner_there (p ∷ log) stand e = (first_owned stand p.place p.body (λ next. folded next log) (λ next u f. fold_owned log next stand u f) e).2

pub owner_is_present : (log : List PlainPlaced) (stand : Stand) → folded nothing log ≡ Ok stand → present stand.keys.keys Owner ≡ 0
unfolding present
owner_is_present log stand e = ap (λ o. unwrap_or o 0) (owner_there log stand e)

-- and in what everyone may see of it
pub owner_is_seen : (v : PublicView) (log : List PlainPlaced) → AnswersBy IsSeenAs (Ok v) (folded nothing log) → present v.keys.keys Owner ≡ 0
owner_is_seen v log so = subst (λ k. present k.keys Owner ≡ 0) so.2.keys (owner_is_present log so.0 so.1)
