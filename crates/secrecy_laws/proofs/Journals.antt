-- Whole journals: what holds after each entry, and how a holder comes to derive what was written unseen.
use Rattle.std.proofs.Common.{◌≡◌, ℕ, ◌+◌, ◌*◌, ◌^◌, ◌-◌, ◌<◌, true, false, cond, ◌&&◌, List, [], ◌∷◌, map, Some, None, ◌⊎◌, inl, inr, ⊎_elim, refl, sym, ap, ◌∙◌, subst, arith}
use Rattle.std.specs.Prelude.{nat_lt}
use Rattle.std.proofs.lemmas.Bool.{and_parts, ltb-true}
use Rattle.cry_base.specs.Limits.{most_file_bytes}
use Rattle.cry_base.specs.Sets.{In, Path}
use Rattle.cry_base.specs.Requests.{Request}
use Rattle.cry_base.specs.Store.{Store, no_store, root_store}
use Rattle.cry_base.specs.Stepping.{effect}
use Rattle.cry_base.specs.Refusing.{refusal_in}
use Rattle.cry_base.specs.declared.roles.Edge.{Edge}
use Rattle.cry_base.specs.declared.roles.Role.{Role}
use Rattle.cry_base.specs.declared.roles.Role.TheVariants.{Owner}
use Rattle.cry_base.proofs.Members.{In-map}
use Rattle.role_graph.specs.Edges.{Reaches, edges, pairs_of}
use Rattle.role_graph.specs.Roles.{holder_role, is_root_role, same_role}
use Rattle.role_graph.proofs.Comparing.{same_role_tells}
use Rattle.role_graph.proofs.Edging.{edges_told}
use Rattle.move_plan.specs.Change.{Change, change_of}
use Rattle.move_plan.specs.Fitting.{fits}
use Rattle.move_plan.specs.Noting.{note_of}
use Rattle.record_format.specs.Noted.{Note}
use Rattle.record_format.specs.Noted.Note.{Upgrade}
use Rattle.public_fold.specs.Journal.{Entry, Stand, nothing, first_key, note_step, root_note, entry_step, entry_store, stand_then, stand_after}
use Rattle.public_fold.specs.Journal.Entry.{Session, Made, Did, Upgraded}
use Rattle.public_fold.specs.Keyed.{KeysHold}
use Rattle.public_fold.specs.KeyStep.{KeyState, Stepped, is_strict, no_keys, next_epoch, newest, next_serial, key_step}
use Rattle.public_fold.specs.Records.{Piece, pieces_of}
use Rattle.public_fold.specs.StandFits.{has_count, note_fits, entry_fits, all_fit}
use Rattle.public_fold.specs.Valid.{FollowOn}
use Rattle.public_fold.proofs.KeepingKeys.{IsMove, keys_after}
use Rattle.public_fold.proofs.KeyMoves.{IsSound, effect_sound, root_sound, command_moves, root_moves, upgrade_moves, nothing_holds, no_edge, epoch_holds}
use Rattle.public_fold.proofs.Numbers.{HasNumbers, IsWithin, numbers_below, within_session, within_did, within_upgraded}
use Rattle.public_fold.proofs.Settling.{rooted_settled}
use Rattle.closure_laws.specs.Gains.{IsGain}
use Rattle.secrecy_laws.specs.States.{IsStep, Fits}
use Rattle.secrecy_laws.specs.Holding.{Holds, Opens, Brings, OpensAnew}
use Rattle.secrecy_laws.specs.Runs.{state_after, AreSteps, IsOpened}
use Rattle.secrecy_laws.specs.Pasts.{Past, no_past, past_then, past_entry, past_after, ends_of, state_of, move_of, turns_of}
use Rattle.secrecy_laws.proofs.Steps.{stays_held}
use Rattle.secrecy_laws.proofs.Whole.{opens_by_gain}
use Rattle.secrecy_laws.proofs.KeySteps.{is_step, fits_step, below_after}
use Rattle.secrecy_laws.proofs.Bringing.{brings_gain}

-- a store of the version accepts the command, and has numbers left for what it makes
abbrev pub IsDone : Stand → Request → Type 0
IsDone at request = (refusal_in (is_strict at.keys) at.store request most_file_bytes ≡ None) × HasNumbers at.store

-- the entry may come next, and each of some may, one after another
abbrev pub MayCome : Stand → Entry → Type 0
MayCome at Session = Unit {0}
MayCome at (Made version keys) = ⊥
MayCome at (Did request keys) = IsDone at request
MayCome at (Upgraded keys) = at.keys.version ≡ 1

abbrev pub Follow : Stand → List Entry → Type 0
Follow at [] = Unit {0}
Follow at (entry ∷ entries) = MayCome at entry × Follow (stand_then at entry) entries

pub follow_within : (entries : List Entry) (at : Stand) → FollowOn at entries → IsWithin at entries → Follow at entries
follow_within [] at f low = tt
follow_within (Session ∷ entries) at f low = (tt, follow_within entries (stand_then at Session) f.1 (within_session at entries low))
follow_within (Made version keys ∷ entries) at f low = absurd f.0
follow_within (Did request keys ∷ entries) at f low =
    ((f.0.0, numbers_below at (Did request keys) entries low), follow_within entries (stand_then at (Did request keys)) f.1 (within_did at request keys entries low))
follow_within (Upgraded keys ∷ entries) at f low = (f.0.0, follow_within entries (stand_then at (Upgraded keys)) f.1 (within_upgraded at keys entries low))

-- what holds of a stand with its past
pub record Kept (at : Stand) (p : Past) : Type 0 where
  pub sound : IsSound at.store
  pub keys : KeysHold at.store at.keys p.links
  pub below : (key : Role × ℕ) → In key p.made → key.1 < next_serial at.keys
  pub count : at.keys.count < 2 ^ 32
  pub holds : Holds is_root_role (state_of at p)

-- it holds after a step that leaves a store that is sound
step_kept : (s t : Store) (k : KeyState) (c : Change) (p : Past) (pieces : List Piece) → IsMove s c t → KeysHold s k p.links → ((key : Role × ℕ) → In key p.made → key.1 < next_serial k)
    → Holds is_root_role (state_of (record { store = s; keys = k }) p) → IsSound t → (key_step k (edges s) c pieces).after.count < 2 ^ 32
    → Kept (record { store = t; keys = (key_step k (edges s) c pieces).after }) (past_then p (edges s) c (key_step k (edges s) c pieces))
unfolding past_then
step_kept s t k c p pieces mv ok below was sound count = record {
  sound = sound;
  keys = keys_after s t k c p.links mv ok pieces;
  below = unfold past_then in below_after s t k c p pieces mv ok below;
  count = count;
  holds = stays_held same_role same_role_tells is_root_role
      (state_of (record { store = s; keys = k }) p) (move_of (edges s) c (key_step k (edges s) c pieces))
      (state_of (record { store = t; keys = (key_step k (edges s) c pieces).after }) (past_then p (edges s) c (key_step k (edges s) c pieces)))
      was (is_step s t k c p pieces mv ok below) (fits_step s t k c p pieces mv ok below);
}

-- at first
no_pair : (q : Role × Role) → In q (pairs_of (edges no_store)) → ⊥
unfolding pairs_of
no_pair q i = let w = (In-map Edge (Role × Role) (λ e. (e.from, e.to)) q (edges no_store)).0 i in no_edge w.0 ((edges_told no_store w.0).0 w.1)

pub owner_alone : (r : Role) (n : ℕ) → newest ((Owner, 0) ∷ []) r ≡ Some n → (Owner ≡ r) × (n ≡ 0)
unfolding newest
owner_alone r n =
    (elim (same_role Owner r) as (λ b. same_role Owner r ≡ b → cond b (Some 0) None ≡ Some n → (Owner ≡ r) × (n ≡ 0)) [
      | true ↦ λ t e. let h : n ≡ 0 = cc in ((same_role_tells Owner r).0 t, h)
      | false ↦ λ t e. absurd cc
    ]) refl

pub first_holds : Holds is_root_role (state_of (record { store = no_store; keys = next_epoch no_keys }) no_past)
unfolding next_epoch no_keys no_past
first_holds = record {
  marked = record {
    none_into_roots = λ q i. absurd (no_pair q i);
    closed = λ q i d. absurd d;
    roots_clean = λ r d. absurd d;
    tainted = λ r k e. (λ i. i, λ i. i);
  };
  once = record {
    own = λ q r k i j. ⊎_elim
        (λ (a : (q, k) ≡ (Owner, 0)). ⊎_elim (λ (b : (r, k) ≡ (Owner, 0)). ap (λ (z : Role × ℕ). z.0) a ∙ sym (ap (λ (z : Role × ℕ). z.0) b)) (λ n. absurd n) j)
        (λ n. absurd n) i;
    present = λ r k e. let w = owner_alone r k e in inl (λ i. (sym w.0 i, w.1 i));
    tainted = λ k i. absurd i;
    linked = λ l i. absurd i;
  };
  traced = λ l i. absurd i;
  linked = λ q i. absurd (no_pair q i);
}

pub first_below : (key : Role × ℕ) → In key no_past.made → key.1 < next_serial (next_epoch no_keys)
unfolding next_epoch no_keys no_past next_serial
first_below key i = ⊎_elim (λ (e : key ≡ (Owner, 0)). let z : key.1 ≡ 0 = ap (λ (z : Role × ℕ). z.1) e in omega arith) (λ n. absurd n) i

-- the stand that the first two entries leave
abbrev pub made_stand : ℕ → List (List ℕ) → Stand
made_stand version keys = stand_then (stand_then nothing Session) (Made version keys)

abbrev pub made_past : ℕ → List (List ℕ) → Past
made_past version keys = past_entry (stand_then nothing Session) no_past (Made version keys)

count_small : (step : Stepped) → has_count step ≡ true → step.after.count < 2 ^ 32
unfolding has_count
count_small step t = let low : step.after.count < 2 ^ 32 - 1 = ltb-true step.after.count (2 ^ 32 - 1) t in omega arith

pub fits_count : (at : Stand) (note : Note) (step : Stepped) → note_fits at note step ≡ true → step.after.count < 2 ^ 32
unfolding note_fits
fits_count at note step t = count_small step (and_parts (fits (is_strict at.keys) at.store note) (has_count step) (and_parts (nat_lt 0 at.keys.epoch) (fits (is_strict at.keys) at.store note && has_count step) t).1).1

pub made_kept : (version : ℕ) (keys : List (List ℕ)) → (entry_step (stand_then nothing Session) (Made version keys)).after.count < 2 ^ 32 → Kept (made_stand version keys) (made_past version keys)
unfolding stand_then entry_store entry_step note_step nothing past_entry is_strict next_epoch no_keys
made_kept version keys count =
    step_kept no_store root_store (next_epoch no_keys) (change_of false no_store (root_note version)) no_past (pieces_of (root_note version) root_store) (root_moves version)
    (unfold no_past in nothing_holds) first_below first_holds root_sound count

pub session_kept : (at : Stand) (p : Past) → Kept at p → Kept (stand_then at Session) (past_entry at p Session)
unfolding stand_then entry_store entry_step next_epoch past_entry next_serial
session_kept at p ok = record {
  sound = ok.sound;
  keys = unfold next_epoch in epoch_holds at.store at.keys p.links ok.keys;
  below = λ key i. let high : key.1 < at.keys.epoch * 2 ^ 32 + at.keys.count = ok.below key i in let low : at.keys.count < 2 ^ 32 = ok.count in omega arith;
  count = omega arith;
  holds = ok.holds;
}

-- an accepted command moves edges and roles
pub moves : (at : Stand) (request : Request) (keys : List (List ℕ)) → IsSound at.store → IsDone at request
    → IsMove at.store (change_of (is_strict at.keys) at.store (note_of at.store request [])) (effect at.store request (first_key keys))
moves at request keys sound e = command_moves (is_strict at.keys) at.store request (first_key keys) [] most_file_bytes e.0 e.1 sound

pub did_kept : (at : Stand) (p : Past) (request : Request) (keys : List (List ℕ)) → Kept at p → IsDone at request → (entry_step at (Did request keys)).after.count < 2 ^ 32
    → Kept (stand_then at (Did request keys)) (past_entry at p (Did request keys))
unfolding stand_then entry_store entry_step note_step past_entry
did_kept at p request keys ok e count =
    let s = at.store in
    let t = effect s request (first_key keys) in
    let note = note_of s request [] in
    step_kept s t at.keys (change_of (is_strict at.keys) s note) p (pieces_of note t) (moves at request keys ok.sound e) ok.keys ok.below ok.holds (effect_sound (is_strict at.keys) s request (first_key keys) most_file_bytes e.0 e.1 ok.sound) count

pub did_step : (at : Stand) (p : Past) (request : Request) (keys : List (List ℕ)) → Kept at p → IsDone at request
    → IsStep (state_of at p) (move_of (edges at.store) (change_of (is_strict at.keys) at.store (note_of at.store request [])) (entry_step at (Did request keys))) (state_of (stand_then at (Did request keys)) (past_entry at p (Did request keys)))
unfolding stand_then entry_store entry_step note_step past_entry
did_step at p request keys ok e =
    let s = at.store in
    let t = effect s request (first_key keys) in
    let note = note_of s request [] in
    is_step s t at.keys (change_of (is_strict at.keys) s note) p (pieces_of note t) (moves at request keys ok.sound e) ok.keys ok.below

pub did_fits : (at : Stand) (p : Past) (request : Request) (keys : List (List ℕ)) → Kept at p → IsDone at request
    → Fits is_root_role (state_of at p) (move_of (edges at.store) (change_of (is_strict at.keys) at.store (note_of at.store request [])) (entry_step at (Did request keys))) (state_of (stand_then at (Did request keys)) (past_entry at p (Did request keys)))
unfolding stand_then entry_store entry_step note_step past_entry
did_fits at p request keys ok e =
    let s = at.store in
    let t = effect s request (first_key keys) in
    let note = note_of s request [] in
    fits_step s t at.keys (change_of (is_strict at.keys) s note) p (pieces_of note t) (moves at request keys ok.sound e) ok.keys ok.below

-- so is a store that is made strict
pub upgraded_kept : (at : Stand) (p : Past) (keys : List (List ℕ)) → Kept at p → (entry_step at (Upgraded keys)).after.count < 2 ^ 32
    → Kept (stand_then at (Upgraded keys)) (past_entry at p (Upgraded keys))
unfolding stand_then entry_store entry_step note_step past_entry
upgraded_kept at p keys ok count =
    let s = at.store in
    step_kept s s at.keys (change_of (is_strict at.keys) s Upgrade) p (pieces_of Upgrade s) (upgrade_moves (is_strict at.keys) s ok.sound) ok.keys ok.below ok.holds ok.sound count

pub upgraded_step : (at : Stand) (p : Past) (keys : List (List ℕ)) → Kept at p
    → IsStep (state_of at p) (move_of (edges at.store) (change_of (is_strict at.keys) at.store Upgrade) (entry_step at (Upgraded keys))) (state_of (stand_then at (Upgraded keys)) (past_entry at p (Upgraded keys)))
unfolding stand_then entry_store entry_step note_step past_entry
upgraded_step at p keys ok =
    let s = at.store in
    is_step s s at.keys (change_of (is_strict at.keys) s Upgrade) p (pieces_of Upgrade s) (upgrade_moves (is_strict at.keys) s ok.sound) ok.keys ok.below

pub upgraded_fits : (at : Stand) (p : Past) (keys : List (List ℕ)) → Kept at p
    → Fits is_root_role (state_of at p) (move_of (edges at.store) (change_of (is_strict at.keys) at.store Upgrade) (entry_step at (Upgraded keys))) (state_of (stand_then at (Upgraded keys)) (past_entry at p (Upgraded keys)))
unfolding stand_then entry_store entry_step note_step past_entry
upgraded_fits at p keys ok =
    let s = at.store in
    fits_step s s at.keys (change_of (is_strict at.keys) s Upgrade) p (pieces_of Upgrade s) (upgrade_moves (is_strict at.keys) s ok.sound) ok.keys ok.below

-- the counts of entries that fit
pub did_count : (at : Stand) (request : Request) (keys : List (List ℕ)) (entries : List Entry) → all_fit at (Did request keys ∷ entries) ≡ true
    → ((entry_step at (Did request keys)).after.count < 2 ^ 32) × (all_fit (stand_then at (Did request keys)) entries ≡ true)
unfolding all_fit entry_fits
did_count at request keys entries t =
    let step = entry_step at (Did request keys) in
    let note = note_of at.store request [] in
    let both = and_parts (note_fits at note step) (all_fit (stand_then at (Did request keys)) entries) t in
    (fits_count at note step both.0, both.1)

pub upgraded_count : (at : Stand) (keys : List (List ℕ)) (entries : List Entry) → all_fit at (Upgraded keys ∷ entries) ≡ true
    → ((entry_step at (Upgraded keys)).after.count < 2 ^ 32) × (all_fit (stand_then at (Upgraded keys)) entries ≡ true)
unfolding all_fit entry_fits
upgraded_count at keys entries t =
    let step = entry_step at (Upgraded keys) in
    let both = and_parts (note_fits at Upgrade step) (all_fit (stand_then at (Upgraded keys)) entries) t in
    (fits_count at Upgrade step both.0, both.1)

-- what the first two entries leave
pub made_fit : (version : ℕ) (keys : List (List ℕ)) (entries : List Entry) → all_fit nothing (Session ∷ Made version keys ∷ entries) ≡ true
    → ((entry_step (stand_then nothing Session) (Made version keys)).after.count < 2 ^ 32) × (all_fit (made_stand version keys) entries ≡ true)
unfolding all_fit entry_fits
made_fit version keys entries t =
    let at = stand_then nothing Session in
    let step = entry_step at (Made version keys) in
    let both = and_parts (note_fits at (root_note version) step) (all_fit (made_stand version keys) entries) (and_parts (entry_fits nothing Session) (all_fit at (Made version keys ∷ entries)) t).1 in
    (fits_count at (root_note version) step both.0, both.1)

pub session_fit : (at : Stand) (entries : List Entry) → all_fit at (Session ∷ entries) ≡ true → all_fit (stand_then at Session) entries ≡ true
unfolding all_fit
session_fit at entries t = (and_parts (entry_fits at Session) (all_fit (stand_then at Session) entries) t).1

-- entries are turns of the laws, and leave the state that they leave
are_steps : (entries : List Entry) (at : Stand) (p : Past) → Kept at p → Follow at entries → all_fit at entries ≡ true → AreSteps is_root_role (state_of at p) (turns_of at p entries)
unfolding turns_of
are_steps [] at p ok f t = tt
are_steps (Session ∷ entries) at p ok f t = session_steps (are_steps entries (stand_then at Session) p (session_is (session_kept at p ok)) f.1 (session_fit at entries t))
  where
    session_is : Kept (stand_then at Session) (past_entry at p Session) → Kept (stand_then at Session) p
    session_is k = unfold past_entry in k

    session_steps : AreSteps is_root_role (state_of (stand_then at Session) p) (turns_of (stand_then at Session) p entries) → AreSteps is_root_role (state_of at p) (turns_of (stand_then at Session) p entries)
    session_steps k = unfold stand_then entry_store entry_step next_epoch in k
are_steps (Made version keys ∷ entries) at p ok f t = absurd f.0
are_steps (Did request keys ∷ entries) at p ok f t =
    let w = did_count at request keys entries t in (
      did_step at p request keys ok f.0,
      did_fits at p request keys ok f.0,
      are_steps entries (stand_then at (Did request keys)) (past_entry at p (Did request keys)) (did_kept at p request keys ok f.0 w.0) f.1 w.1,
    )
are_steps (Upgraded keys ∷ entries) at p ok f t =
    let w = upgraded_count at keys entries t in (
      upgraded_step at p keys ok,
      upgraded_fits at p keys ok,
      are_steps entries (stand_then at (Upgraded keys)) (past_entry at p (Upgraded keys)) (upgraded_kept at p keys ok w.0) f.1 w.1,
    )

pub session_state : (at : Stand) (p : Past) → state_of (stand_then at Session) p ≡ state_of at p
unfolding stand_then entry_store entry_step next_epoch
session_state at p = refl

states_are : (entries : List Entry) (at : Stand) (p : Past) → Follow at entries → state_after (state_of at p) (turns_of at p entries) ≡ state_of (stand_after at entries) (past_after at p entries)
unfolding turns_of state_after stand_after past_after past_entry
states_are [] at p f = refl
states_are (Session ∷ entries) at p f =
    ap (λ s. state_after s (turns_of (stand_then at Session) p entries)) (sym (session_state at p)) ∙ states_are entries (stand_then at Session) p f.1
states_are (Made version keys ∷ entries) at p f = absurd f.0
states_are (Did request keys ∷ entries) at p f = states_are entries (stand_then at (Did request keys)) (past_entry at p (Did request keys)) f.1
states_are (Upgraded keys ∷ entries) at p f = states_are entries (stand_then at (Upgraded keys)) (past_entry at p (Upgraded keys)) f.1

-- an entry that brings a role into reach is a gain
did_gains : (at : Stand) (p : Past) (request : Request) (keys : List (List ℕ)) (h : ℕ) (r : Role) → Kept at p → IsDone at request
    → Brings (state_of at p) (state_of (stand_then at (Did request keys)) (past_entry at p (Did request keys))) (holder_role h) r → IsGain at (Did request keys) h
unfolding stand_then entry_store
did_gains at p request keys h r ok e b =
    let s = at.store in
    let t = effect s request (first_key keys) in
    brings_gain s t h (rooted_settled s ok.sound.rooted) (effect_sound (is_strict at.keys) s request (first_key keys) most_file_bytes e.0 e.1 ok.sound) (moves at request keys ok.sound e).ends_after request (first_key keys) refl r
    ((ok.keys.keyed r).1 b.0) b.1 b.2

-- an upgrade leaves the edges, and so brings nothing
pub upgraded_brings : (at : Stand) (p : Past) (keys : List (List ℕ)) (h r : Role) → Brings (state_of at p) (state_of (stand_then at (Upgraded keys)) (past_entry at p (Upgraded keys))) h r → ⊥
unfolding stand_then entry_store
upgraded_brings at p keys h r b = b.2 b.1

-- the entry is a gain for the holder, and lets the holder open the key of the serial; and some entry of those that follow does
abbrev pub OpensAt : Stand → Past → Entry → ℕ → ℕ → Type 0
OpensAt at p entry h k = IsGain at entry h × OpensAnew (state_of at p) (state_of (stand_then at entry) (past_entry at p entry)) (holder_role h) k

abbrev pub OpensFrom : Stand → Past → List Entry → ℕ → ℕ → Type 0
OpensFrom at p [] h k = ⊥
OpensFrom at p (entry ∷ entries) h k = OpensAt at p entry h k ⊎ OpensFrom (stand_then at entry) (past_entry at p entry) entries h k

opened_later : (entries : List Entry) (at : Stand) (p : Past) (h k : ℕ) → Kept at p → Follow at entries → all_fit at entries ≡ true
    → IsOpened (holder_role h) k (state_of at p) (turns_of at p entries) → OpensFrom at p entries h k
unfolding turns_of past_entry
opened_later [] at p h k ok f t g = g
opened_later (Session ∷ entries) at p h k ok f t g =
    inr (opened_later entries (stand_then at Session) p h k (session_kept at p ok) f.1 (session_fit at entries t)
    (subst (λ s. IsOpened (holder_role h) k s (turns_of (stand_then at Session) p entries)) (sym (session_state at p)) g))
opened_later (Made version keys ∷ entries) at p h k ok f t g = absurd f.0
opened_later (Did request keys ∷ entries) at p h k ok f t g =
    let w = did_count at request keys entries t in ⊎_elim
    (λ u. inl (did_gains at p request keys h u.brought.0 ok f.0 u.brought.1, u))
    (λ u. inr (opened_later entries (stand_then at (Did request keys)) (past_entry at p (Did request keys)) h k (did_kept at p request keys ok f.0 w.0) f.1 w.1 u)) g
opened_later (Upgraded keys ∷ entries) at p h k ok f t g =
    let w = upgraded_count at keys entries t in ⊎_elim
    (λ u. absurd (upgraded_brings at p keys (holder_role h) u.brought.0 u.brought.1))
    (λ u. inr (opened_later entries (stand_then at (Upgraded keys)) (past_entry at p (Upgraded keys)) h k (upgraded_kept at p keys ok w.0) f.1 w.1 u)) g

pub holder_is_root : (h : ℕ) → is_root_role (holder_role h) ≡ true
unfolding is_root_role holder_role Rattle.role_graph.specs.Roles.variant_of
holder_is_root h = refl

-- what is sealed under the present key of a clean role out of reach
pub later_opens : (later : List Entry) (at : Stand) (p : Past) (h : ℕ) (r : Role) (k a : ℕ) → Kept at p → Follow at later → all_fit at later ≡ true
    → newest at.keys.keys r ≡ Some k → (In r at.keys.dirty → ⊥) → (Reaches (edges at.store) (holder_role h) r → ⊥)
    → newest (stand_after at later).keys.keys (holder_role h) ≡ Some a → Path (map ends_of (past_after at p later).links) a k → OpensFrom at p later h k
later_opens later at p h r k a ok f t e clean out own way =
    let turns = turns_of at p later in
    let ends : state_after (state_of at p) turns ≡ state_of (stand_after at later) (past_after at p later) = states_are later at p f in
    let d : Opens (state_after (state_of at p) turns) (holder_role h) k = subst (λ s. Opens s (holder_role h) k) (sym ends) (a, own, way) in
    opened_later later at p h k ok f t
    (opens_by_gain same_role same_role_tells is_root_role (state_of at p) turns ok.holds (are_steps later at p ok f t) (holder_role h) r k (holder_is_root h) e clean out d)
