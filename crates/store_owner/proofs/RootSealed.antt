-- The root's step can be sealed by a ring that has the owner's key alone.
use Rattle.std.proofs.Common.{◌≡◌, ⊎_elim, ℕ, ◌≤◌, ◌<◌, true, false, cond, List, [], ◌∷◌, length, Some, None, append-nil, arith, refl, sym, ap, subst, ◌∙◌}
use Rattle.chacha_seal.specs.Keys.{KeyParts}
use Rattle.chacha_seal.specs.Serials.{Counting}
use Rattle.cry_base.specs.Sets.{In}
use Rattle.cry_base.specs.Store.{root_store}
use Rattle.cry_base.specs.declared.roles.Role.{Role}
use Rattle.cry_base.specs.declared.roles.Role.TheVariants.{Owner}
use Rattle.key_links.specs.Ringed.{Ringed, found, key_of, parts_of}
use Rattle.std.specs.Option.{option_map}
use Rattle.key_links.specs.Fresh.{root_payload_len}
use Rattle.record_format.specs.Spellable.{longest_text, shortest_text}
use Rattle.role_graph.specs.Roles.{role_id, same_role}
use Rattle.role_graph.proofs.Comparing.{same_role_tells}
use Rattle.role_graph.specs.Edges.{edges}
use Rattle.move_plan.specs.Change.{change_of}
use Rattle.move_plan.specs.Fitting.{fits}
use Rattle.record_format.specs.Plain.{PlainPayload}
use Rattle.public_fold.specs.Fitted.{told_step}
use Rattle.public_fold.specs.Heads.{IsSkeleton}
use Rattle.public_fold.specs.Journal.{Stand, entry_step, entry_store, keys_of, note_step, nothing, stand_after, stand_then}
use Rattle.public_fold.specs.KeyStep.{KeyState, Stepped, is_strict, newest, next_epoch, next_serial, no_keys}
use Rattle.public_fold.specs.Lengths.{payload_len}
use Rattle.public_fold.specs.Preparing.{begun_keys}
use Rattle.public_fold.specs.Records.{Content, pieces_of, text_of}
use Rattle.public_fold.specs.StandFits.{note_fits}
use Rattle.public_fold.specs.Told.{told_store}
use Rattle.public_fold.specs.Turns.{turn_fits, turn_stand, turns_fit, turns_stand}
use Rattle.public_fold.specs.Turns.Turn.{Began}
use Rattle.public_fold.specs.declared.heads.Skeleton.{Skeleton}
use Rattle.journal_bytes.specs.Bytes.{step_payload}
use Rattle.journal_bytes.specs.Keys.{all_keys, bytes_in, bytes_of, drawn_by, entry_keys, keys_from, owner_parts, with_bytes}
use Rattle.journal_bytes.specs.Notes.{declared_note}
use Rattle.journal_bytes.specs.Sealing.{CanSeal, HasLength, HoldsKeys, IsSealable, IsTold, keys_with}
use Rattle.journal_bytes.specs.WorkedBytes.{journal_bytes}
use Rattle.journal_bytes.proofs.Ready.{can_seal}
use Rattle.journal_bytes.proofs.SoundSteps.{turns_sealable}
use Rattle.store_owner.specs.Making.{first_stand, made_note, made_with, root_payload, root_step}
use Rattle.store_owner.specs.Owned.{counting}

-- ---- the owner's key

first_only : (r : Role) (n : ℕ) → newest first_stand.keys.keys r ≡ Some n → (Owner ≡ r) × (0 ≡ n)
unfolding newest begun_keys next_epoch nothing no_keys
first_only r n =
    (elim (same_role Owner r) as (λ b. same_role Owner r ≡ b → cond b (Some 0) None ≡ Some n → (Owner ≡ r) × (0 ≡ n)) [
      | true ↦ λ t e. ((same_role_tells Owner r).0 t, cc)
      | false ↦ λ t e. absurd cc
    ]) refl

first_serial : 0 < next_serial first_stand.keys
unfolding begun_keys next_epoch nothing no_keys next_serial
first_serial = omega arith

abbrev pub alone : List ℕ → List KeyParts
alone owner = owner_parts owner ∷ []

owner_in : (owner : List ℕ) → owner_parts owner ≡ record { id = role_id Owner; serial = 0; bytes = bytes_in (alone owner) 0 }
unfolding owner_parts role_id bytes_in bytes_of
owner_in owner = refl

serial_zero : (owner : List ℕ) → (owner_parts owner).serial ≡ 0
unfolding owner_parts
serial_zero owner = refl

first_count : record { epoch = 1; count = 0 } ≡ counting first_stand.keys
unfolding begun_keys next_epoch nothing no_keys
first_count = refl

pub first_holds : (owner : List ℕ) (ring : Ringed) → key_of ring Owner ≡ Some (owner_parts owner) → HoldsKeys (alone owner) first_stand.keys ring (record { epoch = 1; count = 0 })
first_holds owner ring here = record {
  has_present = λ r n e.
      let w = first_only r n e in
      subst (λ (x : Role). key_of ring x ≡ Some (record { id = role_id x; serial = n; bytes = bytes_in (alone owner) n })) w.0
      (subst (λ (m : ℕ). key_of ring Owner ≡ Some (record { id = role_id Owner; serial = m; bytes = bytes_in (alone owner) m })) w.1
      (here ∙ ap Some (owner_in owner)));
  drawn_below = λ key i. ⊎_elim (λ (e : key ≡ owner_parts owner). let s = ap (λ (k : KeyParts). k.serial) e in let z = serial_zero owner in let low = first_serial in omega (arith, s, z, low)) (λ no. absurd no) i;
  present_below = λ r n e. let w = first_only r n e in let z = w.1 in let low = first_serial in omega (arith, z, low);
  is_counted = first_count;
}

pub same_keys : (a b : Ringed) (role : Role) → b.keys ≡ a.keys → key_of b role ≡ key_of a role
unfolding key_of
same_keys a b role e = ap (λ keys. option_map parts_of (found keys role)) e

-- ---- the root's step

told_root : told_step first_stand made_note ≡ root_step
unfolding journal_bytes told_step told_store begun_keys
told_root = refl

begun_once : turns_stand nothing (Began ∷ []) ≡ first_stand
unfolding turns_stand turn_stand begun_keys
begun_once = refl

once_fits : turns_fit nothing (Began ∷ []) ≡ true
unfolding turns_fit turn_fits
once_fits = refl

root_text : (c : Content) → In c root_step.contents → text_of c.piece ≡ []
unfolding journal_bytes begun_keys
root_text c i = ⊎_elim (λ e. ap (λ (x : Content). text_of x.piece) e) (λ no. absurd no) i

pub root_length : HasLength root_step []
unfolding journal_bytes begun_keys
root_length = λ c i. ⊎_elim (λ e. subst (λ (x : Content). (shortest_text x.piece.kind ≤ 0) × (0 ≤ longest_text x.piece.kind)) (sym e) (omega arith, omega arith)) (λ no. absurd no) i

pub root_fits : note_fits first_stand made_note (told_step first_stand made_note) ≡ true
unfolding journal_bytes told_step told_store begun_keys fits
root_fits = refl

root_sealable : IsSealable root_step
root_sealable =
    subst (λ (step : Stepped). IsSealable step) told_root
    (subst (λ (a : Stand). IsSealable (told_step a made_note)) begun_once
    (turns_sealable (Began ∷ []) made_note once_fits (subst (λ (a : Stand). note_fits a made_note (told_step a made_note) ≡ true) (sym begun_once) root_fits)))

pub root_size : payload_len made_note root_step ≡ root_payload_len
unfolding journal_bytes begun_keys
root_size = refl

root_count : root_step.after.count < 4294967296
unfolding journal_bytes begun_keys
root_count = omega arith

pub root_given : length root_step.given ≡ 5
unfolding journal_bytes begun_keys
root_given = refl

pub keys_are : (owner : List ℕ) (drawn : List (List ℕ)) → keys_with (alone owner) root_step drawn ≡ all_keys owner (made_with drawn)
unfolding all_keys keys_from entry_keys drawn_by with_bytes stand_then entry_step entry_store begun_keys nothing
keys_are owner drawn = ap (λ k. owner_parts owner ∷ k) (sym (append-nil (with_bytes root_step.given drawn)))

pub keys_after : (drawn : List (List ℕ)) → root_step.after ≡ keys_of (made_with drawn)
unfolding keys_of stand_after stand_then entry_step entry_store begun_keys nothing
keys_after drawn = refl

-- ---- the payload

module _ (owner : List ℕ) (ring : Ringed) (counter : Counting) (s : Skeleton) (drawn : List (List ℕ)) (text : List ℕ)
    (here : key_of ring Owner ≡ Some (record { id = 0; serial = 0; bytes = owner })) (starts : counter ≡ record { epoch = 1; count = 0 }) (no_text : text ≡ [])
    (is : IsSkeleton (told_step first_stand made_note) s) where
  pub held_now : HoldsKeys (alone owner) first_stand.keys ring counter
  unfolding owner_parts
  held_now = subst (HoldsKeys (alone owner) first_stand.keys ring) (sym starts) (first_holds owner ring here)

  pub skeleton_now : IsSkeleton root_step s
  skeleton_now = subst (λ (step : Stepped). IsSkeleton step s) told_root is

  pub told_now : IsTold root_step s text
  told_now = subst (IsTold root_step s) (sym no_text) (record { can_be_sealed = root_sealable; is_skeleton = skeleton_now; is_text = root_text })

  pub can_now : length drawn ≡ 5 → 5 ≤ ring.spare → CanSeal ring counter s drawn text
  unfolding note_step
  can_now long room =
      let many : length s.keys.items ≡ 5 = ap length skeleton_now.keys ∙ root_given in
      subst (CanSeal ring counter s drawn) (sym no_text)
      (can_seal (alone owner) first_stand.keys (edges first_stand.store) (change_of (is_strict first_stand.keys) first_stand.store made_note) (pieces_of made_note root_store) ring counter s []
      held_now root_sealable skeleton_now drawn root_count (long ∙ sym many) (omega (arith, many, room)) root_length)

  pub held_then : (after : Ringed) (ends : Counting) → HoldsKeys (keys_with (alone owner) root_step drawn) root_step.after after ends
      → HoldsKeys (all_keys owner (made_with drawn)) (keys_of (made_with drawn)) after (counting (keys_of (made_with drawn)))
  held_then after ends held =
      let whole = subst (λ (keys : List KeyParts). HoldsKeys keys (keys_of (made_with drawn)) after ends) (keys_are owner drawn)
      (subst (λ (k : KeyState). HoldsKeys (keys_with (alone owner) root_step drawn) k after ends) (keys_after drawn) held) in
      subst (HoldsKeys (all_keys owner (made_with drawn)) (keys_of (made_with drawn)) after) whole.is_counted whole

  pub payload_now : (payload : PlainPayload) → payload ≡ step_payload (keys_with (alone owner) root_step drawn) (declared_note made_note) root_step → payload ≡ root_payload owner drawn
  payload_now payload e = e ∙ ap (λ keys. step_payload keys (declared_note made_note) root_step) (keys_are owner drawn)
