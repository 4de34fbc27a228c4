-- An owner who opened a log of payloads that fit is sound.
use Rattle.std.proofs.Common.{◌≡◌, ℕ, suc, ◌+◌, ◌<◌, true, false, cond, ◌==◌, List, [], ◌∷◌, ◌++◌, map, length, Some, None, inl, inr, ⊎_elim, refl, sym, ap, ◌∙◌, subst, arith}
use Rattle.std.specs.Prelude.{find, unwrap_or, Ok, Err, if◌then◌else◌}
use Rattle.std.proofs.lemmas.Bool.{and_parts, and_from, eqb-true, eq-eqb, false≢true}
use Rattle.chacha_seal.specs.Keys.{KeyParts}
use Rattle.commit_journal.specs.Answering.{Damaged, and_then}
use Rattle.commit_journal.specs.Logs.{AreInEpochs, IsInEpoch, epoch_behind}
use Rattle.commit_journal.specs.Placed.{PlainBody, Commands, NewEpoch, PlainPlaced}
use Rattle.cry_base.specs.Sets.{In}
use Rattle.cry_base.specs.Store.{folder_entry, no_store}
use Rattle.cry_base.specs.declared.roles.Role.{Role}
use Rattle.cry_base.proofs.Members.{In-map}
use Rattle.log_visits.specs.Folding.{folded, stand_behind}
use Rattle.key_links.specs.Ringed.{Ringed, key_of}
use Rattle.move_plan.specs.Fitting.{folder_stands}
use Rattle.record_format.specs.Plain.{PlainPayload}
use Rattle.record_format.specs.Told.{told_note}
use Rattle.role_graph.specs.Roles.{role_id, same_role}
use Rattle.role_graph.proofs.Comparing.{same_role_tells}
use Rattle.public_fold.specs.Fitted.{fits_step, has_heads, payload_fits, told_stand, told_step}
use Rattle.public_fold.specs.Journal.{Stand, note_step, nothing}
use Rattle.public_fold.specs.Keyed.{SerialsHold}
use Rattle.public_fold.specs.KeyStep.{KeyState, key_step, newest, next_epoch, next_serial, no_keys, present, published, step_with}
use Rattle.public_fold.specs.Records.{Link}
use Rattle.public_fold.specs.StandFits.{note_fits}
use Rattle.public_fold.specs.Turns.{StandHolds, Turn, turn_fits, turn_stand, turns_fit, turns_links, turns_stand}
use Rattle.public_fold.specs.Turns.Turn.{Began, Noted}
use Rattle.public_fold.proofs.TurnsHold.{log_holds, turns_hold}
use Rattle.journal_bytes.specs.Keys.{bytes_in, bytes_of}
use Rattle.journal_bytes.specs.Sealing.{HoldsKeys}
use Rattle.journal_bytes.proofs.Ready.{newest-role}
use Rattle.journal_bytes.proofs.Sealable.{present_is}
use Rattle.store_owner.specs.Owned.{OwnerView, counting}
use Rattle.store_owner.specs.Sound.{CanGoOn, IsOpenedAt, IsOpenedWith, IsSound, LeavesNumbers}
use Rattle.store_owner.proofs.SoundStores.{numbers_from_nothing, numbers_then, turns_within}

-- ---- the turns of a log

pub turn_of : PlainBody → Turn
turn_of NewEpoch = Began
turn_of (Commands p) = Noted (told_note p.note)

pub turns_of : List PlainPlaced → List Turn
turns_of [] = []
turns_of (p ∷ log) = turn_of p.body ∷ turns_of log

as_many_turns : (log : List PlainPlaced) → length (turns_of log) ≡ length log
unfolding turns_of
as_many_turns [] = refl
as_many_turns (p ∷ log) = ap suc (as_many_turns log)

payload_fit : (at : Stand) (p : PlainPayload) → payload_fits at p ≡ true → note_fits at (told_note p.note) (told_step at (told_note p.note)) ≡ true
unfolding payload_fits fits_step
payload_fit at p t =
    let note = told_note p.note in
    (and_parts (note_fits at note (told_step at note)) (has_heads (told_step at note) p) t).0

-- the turns fit, and leave this
pub record AreTurnsTo (at stand : Stand) (turns : List Turn) : Type 0 where
  pub fit : turns_fit at turns ≡ true
  pub stands : turns_stand at turns ≡ stand

one_more : (at stand : Stand) (turn : Turn) (turns : List Turn) → turn_fits at turn ≡ true → AreTurnsTo (turn_stand at turn) stand turns → AreTurnsTo at stand (turn ∷ turns)
unfolding turns_fit turns_stand
one_more at stand turn turns f are = record { fit = unfold turns_fit in (and_from (turn_fits at turn) (turns_fit (turn_stand at turn) turns) f are.fit); stands = unfold turns_stand in are.stands }

body_turn : (at stand : Stand) (place : ℕ) (body : PlainBody) (log : List PlainPlaced) → ((next : Stand) → folded next log ≡ Ok stand → AreTurnsTo next stand (turns_of log))
    → and_then (stand_behind at place body) (λ next. folded next log) ≡ Ok stand → AreTurnsTo at stand (turn_of body ∷ turns_of log)
unfolding stand_behind and_then turn_of turn_fits turn_stand
body_turn at stand place NewEpoch log on e = one_more at stand Began (turns_of log) refl (on (record at { keys = next_epoch at.keys }) e)
body_turn at stand place (Commands p) log on e =
    let note = told_note p.note in
    (elim (payload_fits at p) as (λ b. payload_fits at p ≡ b → and_then (if b then Ok (told_stand at note) else Err (Damaged place)) (λ next. folded next log) ≡ Ok stand → AreTurnsTo at stand (Noted note ∷ turns_of log)) [
      | true ↦ λ t f. one_more at stand (Noted note) (turns_of log) (payload_fit at p t) (on (told_stand at note) f)
      | false ↦ λ t f. absurd cc
    ]) refl e

pub log_turns : (log : List PlainPlaced) (at stand : Stand) → folded at log ≡ Ok stand → AreTurnsTo at stand (turns_of log)
unfolding folded turns_of turns_fit turns_stand
log_turns [] at stand e = let same : at ≡ stand = cc in record { fit = unfold turns_fit turns_of in refl; stands = unfold turns_stand turns_of in same }
log_turns (p ∷ log) at stand e = body_turn at stand p.place p.body log (λ next f. log_turns log next stand f) e

-- ---- the epoch

turn_epoch : (at : Stand) (epoch : ℕ) (body : PlainBody) → IsInEpoch at.keys.epoch epoch body → (turn_stand at (turn_of body)).keys.epoch ≡ epoch
unfolding turn_of turn_stand told_stand told_step note_step key_step step_with published next_epoch
turn_epoch at epoch NewEpoch is = sym is
turn_epoch at epoch (Commands p) is = sym is.1

turns_epoch : (log : List PlainPlaced) (at : Stand) → AreInEpochs at.keys.epoch log → (turns_stand at (turns_of log)).keys.epoch ≡ epoch_behind at.keys.epoch log
unfolding turns_of turns_stand
turns_epoch [] at are = refl
turns_epoch (p ∷ log) at are =
    let next = turn_stand at (turn_of p.body) in
    let same = turn_epoch at p.epoch.0 p.body are.0 in
    turns_epoch log next (subst (λ e. AreInEpochs e log) (sym same) are.1) ∙ ap (λ e. epoch_behind e log) same

pub behind_epoch : (from at : Stand) (log : List PlainPlaced) → AreInEpochs from.keys.epoch log → folded from log ≡ Ok at → at.keys.epoch ≡ epoch_behind from.keys.epoch log
behind_epoch from at log are e = sym (ap (λ (z : Stand). z.keys.epoch) (log_turns log from at e).stands) ∙ turns_epoch log from are

pub log_epoch : (log : List PlainPlaced) (at : Stand) → AreInEpochs 0 log → folded nothing log ≡ Ok at → at.keys.epoch ≡ epoch_behind 0 log
unfolding nothing no_keys
log_epoch log at are e = behind_epoch nothing at log are e

-- ---- what holds

rootless : folder_stands nothing.store 1 ≡ true → ⊥
unfolding nothing no_store folder_stands folder_entry
rootless t = false≢true t

empty_root : (stand : Stand) → folded nothing [] ≡ Ok stand → folder_stands stand.store 1 ≡ true → ⊥
unfolding folded
empty_root stand e root =
    let same : nothing ≡ stand = cc in rootless (subst (λ (z : Stand). folder_stands z.store 1 ≡ true) (sym same) root)

first_holds : (turns : List Turn) (stand : Stand) → AreTurnsTo nothing stand turns → (turns ≡ [] → ⊥) → (links : List Link) × StandHolds stand links
first_holds [] stand are some = absurd (some refl)
first_holds (turn ∷ turns) stand are some =
    let links = turns_links nothing (turn ∷ turns) in (links, subst (λ z. StandHolds z links) are.stands (log_holds turn turns are.fit))

pub log_holds_then : (log : List PlainPlaced) (stand : Stand) → folded nothing log ≡ Ok stand → folder_stands stand.store 1 ≡ true → (links : List Link) × StandHolds stand links
unfolding turns_of
log_holds_then [] stand e root = absurd (empty_root stand e root)
log_holds_then (p ∷ log) stand e root = first_holds (turns_of (p ∷ log)) stand (log_turns (p ∷ log) nothing stand e) (λ none. cc)

-- all that commands need lasts through a log
pub behind_goes_on : (batches : ℕ) (from at : Stand) (log : List PlainPlaced) → CanGoOn batches from → folded from log ≡ Ok at → CanGoOn (batches + length log) at
behind_goes_on batches from at log ready e =
    let turns = turns_of log in
    let are = log_turns log from at e in
    let many = as_many_turns log in
    subst (CanGoOn (batches + length log)) are.stands (record {
      links = ready.links ++ turns_links from turns;
      holds = turns_hold turns from ready.links are.fit ready.holds;
      numbers = numbers_then batches (batches + length log) (length turns) from (turns_stand from turns) ready.numbers (turns_within from turns) (omega (arith, many));
    })

-- so does what it makes of nothing
first_goes_on : (batches : ℕ) (log : List PlainPlaced) (at : Stand) → folded nothing log ≡ Ok at → folder_stands at.store 1 ≡ true → batches ≡ length log → CanGoOn batches at
first_goes_on batches log at folds root same =
    let holds = log_holds_then log at folds root in
    let many = as_many_turns log in
    record {
      links = holds.0;
      holds = holds.1;
      numbers = subst (LeavesNumbers batches) (log_turns log nothing at folds).stands (numbers_from_nothing batches (turns_of log) (omega (arith, many, same)));
    }

-- ---- the keys

newest_some : (keys : List (Role × ℕ)) (q : Role × ℕ) → In q keys → (n : ℕ) × (newest keys q.0 ≡ Some n)
unfolding newest
newest_some [] q i = absurd i
newest_some (x ∷ xs) q i =
    (elim (same_role x.0 q.0) as (λ b. same_role x.0 q.0 ≡ b → (n : ℕ) × (cond b (Some x.1) (newest xs q.0) ≡ Some n)) [
      | true ↦ λ t. (x.1, refl)
      | false ↦ λ t. newest_some xs q (⊎_elim (λ (e : q ≡ x). absurd (false≢true (sym t ∙ (same_role_tells x.0 q.0).1 (ap (λ (z : Role × ℕ). z.0) (sym e))))) (λ u. u) i)
    ]) refl

module _ (k : KeyState) (ring : Ringed) (serials : SerialsHold k)
    (has : (role : Role) (n : ℕ) → newest k.keys role ≡ Some n → (key : KeyParts) × (key_of ring role ≡ Some key) × (key.id ≡ role_id role) × (key.serial ≡ n)) where
  -- the present key of a role, as the ring has it
  kept : Role × ℕ → KeyParts
  kept q = record { id = role_id q.0; serial = present k.keys q.0; bytes = bytes_of (key_of ring q.0) }

  kept_keys : List KeyParts
  kept_keys = map kept k.keys

  -- among some, where no other role has the serial, the key of the serial is that of the role
  found_kept : (r : Role) (n : ℕ) (qs : List (Role × ℕ)) → present k.keys r ≡ n → ((q : Role × ℕ) → In q qs → present k.keys q.0 ≡ n → q.0 ≡ r) → (q : Role × ℕ) → In q qs → q.0 ≡ r
      → bytes_of (find (λ key. key.serial == n) (map kept qs)) ≡ bytes_of (key_of ring r)
  unfolding kept bytes_of
  found_kept r n [] is own q i e = absurd i
  found_kept r n (x ∷ xs) is own q i e =
      (elim (present k.keys x.0 == n) as (λ b. present k.keys x.0 == n ≡ b → bytes_of (cond b (Some (kept x)) (find (λ key. key.serial == n) (map kept xs))) ≡ bytes_of (key_of ring r)) [
        | true ↦ λ t. ap (λ z. bytes_of (key_of ring z)) (own x (inl refl) (eqb-true (present k.keys x.0) n t))
        | false ↦ λ t. ⊎_elim
            (λ (same : q ≡ x). absurd (false≢true (sym t ∙ eq-eqb (present k.keys x.0) n (ap (present k.keys) (ap (λ (z : Role × ℕ). z.0) (sym same) ∙ e) ∙ is))))
            (λ u. found_kept r n xs is (λ p j. own p (inr j)) q u e) i
      ]) refl

  only_own : (r : Role) (n : ℕ) → newest k.keys r ≡ Some n → (q : Role × ℕ) → In q k.keys → present k.keys q.0 ≡ n → q.0 ≡ r
  only_own r n e q i same =
      let w = newest_some k.keys q i in
      serials.own q.0 r n (present_is k.keys q.0 w.0 w.1 ∙ ap Some same) e

  present_same : (r : Role) (n : ℕ) → newest k.keys r ≡ Some n → present k.keys r ≡ n
  unfolding present
  present_same r n e = ap (λ o. unwrap_or o 0) e

  kept_bytes : (r : Role) (n : ℕ) → newest k.keys r ≡ Some n → bytes_in kept_keys n ≡ bytes_of (key_of ring r)
  unfolding bytes_in kept_keys
  kept_bytes r n e =
      let w = (In-map (Role × ℕ) Role (λ z. z.0) r k.keys).0 (newest-role k.keys r n e) in
      found_kept r n k.keys (present_same r n e) (only_own r n e) w.0 w.1 (sym w.2)

  has_kept : (r : Role) (n : ℕ) → newest k.keys r ≡ Some n → key_of ring r ≡ Some (record { id = role_id r; serial = n; bytes = bytes_in kept_keys n })
  unfolding bytes_of
  has_kept r n e =
      let w = has r n e in
      let bytes : w.0.bytes ≡ bytes_in kept_keys n = ap bytes_of (sym w.1) ∙ sym (kept_bytes r n e) in
      w.1 ∙ (λ i. Some (record { id = w.2 i; serial = w.3 i; bytes = bytes i }))

  kept_below : (key : KeyParts) → In key kept_keys → key.serial < next_serial k
  unfolding kept_keys kept
  kept_below key i =
      let w = (In-map (Role × ℕ) KeyParts kept key k.keys).0 i in
      let some = newest_some k.keys w.0 w.1 in
      subst (λ n. n < next_serial k) (sym (ap (λ (z : KeyParts). z.serial) w.2)) (serials.below w.0.0 (present k.keys w.0.0) (present_is k.keys w.0.0 some.0 some.1))

  kept_holds : HoldsKeys kept_keys k ring (counting k)
  kept_holds = record { has_present = has_kept; drawn_below = kept_below; present_below = serials.below; is_counted = refl }

-- ---- the whole

pub opened_at_sound : (at : Stand) (o : OwnerView) → IsOpenedAt at o → IsSound o
opened_at_sound at o is =
    let serials = is.goes_on.holds.serials in
    record {
      at = at;
      keys = kept_keys at.keys o.ring serials is.keyed;
      goes_on = is.goes_on;
      seen = is.seen;
      same_epoch = is.epoch;
      held = kept_holds at.keys o.ring serials is.keyed;
      counts = is.not_counted ∙ ap (λ b. cond b (Some (counting at.keys)) None) (sym is.not_begun);
      sized = is.sized;
      bounded = is.bounded;
    }

pub opened_sound : (log : List PlainPlaced) (at : Stand) (o : OwnerView) → IsOpenedWith log at o → IsSound o
opened_sound log at o is =
    opened_at_sound at o (record {
      goes_on = first_goes_on o.journal.batches log at is.folds is.has_root is.batches;
      seen = is.seen;
      epoch = is.epoch ∙ sym (log_epoch log at is.epochs is.folds);
      keyed = is.keyed;
      not_begun = is.not_begun;
      not_counted = is.not_counted;
      sized = is.sized;
      bounded = is.bounded;
    })
