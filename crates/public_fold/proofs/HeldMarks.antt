-- What holds of a state's keys holds of them after a note that fits, and its marks are closed.
use Rattle.std.proofs.Common.{◌≡◌, ℕ, Bool, true, false, List, [], ◌∷◌, ◌++◌, map, inl, inr, ⊎_elim, refl, sym, ap, ◌∙◌, subst}
use Rattle.cry_base.specs.Sets.{In}
use Rattle.cry_base.specs.Store.{Store, GrantEntry, no_store}
use Rattle.cry_base.specs.declared.roles.Edge.{Edge}
use Rattle.cry_base.specs.declared.roles.Role.{Role}
use Rattle.cry_base.specs.declared.roles.Role.TheVariants.{Owner, Holder, Clear, Sub, Back, Files, Data, File}
use Rattle.role_graph.specs.Adjacent.{edges_but}
use Rattle.role_graph.specs.Closing.{IsClosed}
use Rattle.role_graph.specs.Edges.{edges}
use Rattle.role_graph.specs.PublicStore.{public_store}
use Rattle.role_graph.specs.Roles.{same_role}
use Rattle.record_format.specs.Noted.{Note}
use Rattle.record_format.specs.Told.{told_note}
use Rattle.rekey_walk.specs.Dirty.{mark_all}
use Rattle.move_plan.specs.Change.{Change, change_of}
use Rattle.move_plan.specs.Fitting.{fits}
use Rattle.public_fold.specs.Fitted.{told_stand, told_step}
use Rattle.public_fold.specs.Journal.{Stand, note_step}
use Rattle.public_fold.specs.Keyed.{HasRole, IsKept, KeysHold}
use Rattle.public_fold.specs.KeyStep.{KeyState, dirty_left, edges_left, is_strict, key_step, next_epoch, no_keys, without}
use Rattle.public_fold.specs.Preparing.{CanSettle, PreparedView, begun, begun_keys, settled}
use Rattle.public_fold.specs.Records.{Link, pieces_of}
use Rattle.public_fold.specs.Rooted.{MayStand}
use Rattle.public_fold.specs.Standing.{AreSameGrants, IsSeenAs, PublicView, public_store_of, stand_of}
use Rattle.public_fold.specs.Stepping.{IsOfFittingNote}
use Rattle.public_fold.specs.Told.{told_store}
use Rattle.public_fold.proofs.KeepingKeys.{IsMove, closed_before, keys_after}
use Rattle.public_fold.proofs.KeyMoves.{nothing_holds}
use Rattle.public_fold.proofs.NoteMoves.{note_moves}
use Rattle.public_fold.proofs.SeenAfter.{seen}
use Rattle.public_fold.proofs.SeenSame.{edges_same, granting, has_same}
use Rattle.public_fold.proofs.StepTold.{edges_seen}

-- where the counter stands doesn't matter
pub recounted : (s : Store) (j k : KeyState) (links : List Link) → j.keys ≡ k.keys → j.dirty ≡ k.dirty → KeysHold s j links → KeysHold s k links
recounted s j k links keys dirty ok =
    subst (λ (d : List Role). KeysHold s (record { keys = k.keys; dirty = d; epoch = k.epoch; count = k.count; version = k.version }) links) dirty
    (subst (λ (ks : List (Role × ℕ)). KeysHold s (record { keys = ks; dirty = j.dirty; epoch = k.epoch; count = k.count; version = k.version }) links) keys
    (record { closed = ok.closed; no_root = ok.no_root; dirty_stands = ok.dirty_stands; linked = ok.linked; keyed = ok.keyed }))

-- the owner's key alone, before anything stands
pub nothing_kept : IsKept (seen no_store [] []) ((Owner, 0) ∷ []) []
unfolding no_store next_epoch no_keys
nothing_kept = record {
  stands = inl refl;
  links = [];
  hold = recounted no_store (next_epoch no_keys) (record { keys = (Owner, 0) ∷ []; dirty = []; epoch = 0; count = 0; version = 0 }) [] refl refl nothing_holds;
}

-- the marks before what is renewed is clean
pub closed_marks : (v : PublicView) (c : Change) (removed : List Edge) (dirty : List Role) → IsKept (public_store_of v) v.keys.keys v.keys.dirty
    → IsOfFittingNote (public_store_of v) c → removed ≡ c.removed
    → dirty ≡ without same_role c.gone (mark_all v.keys.dirty (edges (public_store v.tree v.pairs)) (map (λ (e : Edge). e.to) c.removed))
    → IsClosed (edges_but removed (edges (public_store v.tree v.pairs))) dirty
unfolding edges_but edges_left dirty_left without
closed_marks v c removed dirty kept told same is =
    let s = public_store_of v in
    let k : KeyState = record { keys = v.keys.keys; dirty = v.keys.dirty; epoch = 0; count = 0; version = 0 } in
    let mv : IsMove s c (told_store s told.0) = subst (λ (x : Change). IsMove s x (told_store s told.0)) (sym told.3) (note_moves told.1 s told.0 told.2 kept.stands) in
    let here : IsClosed (edges_left (edges s) c) (dirty_left k (edges s) c) = closed_before s (told_store s told.0) k c kept.links mv kept.hold in
    let there : IsClosed (edges_left (edges (public_store v.tree v.pairs)) c) (dirty_left k (edges (public_store v.tree v.pairs)) c) =
    subst (λ (es : List Edge). IsClosed (edges_left es c) (dirty_left k es c)) (sym (edges_seen v)) here in
    subst (λ (d : List Role). IsClosed (edges_but removed (edges (public_store v.tree v.pairs))) d) (sym is)
    (subst (λ (r : List Edge). IsClosed (edges_but r (edges (public_store v.tree v.pairs))) (dirty_left k (edges (public_store v.tree v.pairs)) c)) (sym same) there)

-- the same grants in another order
turned_grants : (gs hs : List GrantEntry) → AreSameGrants gs hs → AreSameGrants hs gs
turned_grants gs hs are = record { same = λ g. ((are.same g).1, (are.same g).0); once = are.other_once; other_once = are.once }

-- roles stand whatever the order of the grants
role_as : (s : Store) (gs hs : List GrantEntry) → AreSameGrants gs hs → (r : Role) → HasRole (granting s gs) r → HasRole (granting s hs) r
role_as s gs hs are Owner h = h
role_as s gs hs are (Holder x) h = h
role_as s gs hs are (Clear f) h = ⊎_elim (λ w. inl w) (λ w. inr (w.0, sym (has_same s gs hs are f.0) ∙ w.1)) h
role_as s gs hs are (Sub f) h = h
role_as s gs hs are (Back f) h = h
role_as s gs hs are (Files f) h = h
role_as s gs hs are (Data f) h = h
role_as s gs hs are (File x) h = h

holds_as : (s : Store) (gs hs : List GrantEntry) (k : KeyState) (links : List Link) → AreSameGrants gs hs → KeysHold (granting s hs) k links → KeysHold (granting s gs) k links
holds_as s gs hs k links are ok =
    let same = edges_same s gs hs are in
    let back = turned_grants gs hs are in record {
      closed = λ e i. ok.closed e (subst (λ (es : List Edge). In e es) same i);
      no_root = ok.no_root;
      dirty_stands = λ r i. role_as s hs gs back r (ok.dirty_stands r i);
      linked = λ e i. ok.linked e (subst (λ (es : List Edge). In e es) same i);
      keyed = λ r. (λ h. (ok.keyed r).0 (role_as s gs hs are r h), λ w. role_as s hs gs back r ((ok.keyed r).1 w));
    }

begun_same : (new : Bool) (k : KeyState) → ((begun_keys new k).keys ≡ k.keys) × ((begun_keys new k).dirty ≡ k.dirty)
unfolding begun_keys next_epoch
begun_same true k = (refl, refl)
begun_same false k = (refl, refl)

pub begun_strict : (new : Bool) (k : KeyState) → is_strict (begun_keys new k) ≡ is_strict k
unfolding begun_keys next_epoch is_strict
begun_strict true k = refl
begun_strict false k = refl

-- what the note leaves
note_holds : (s : Store) (k : KeyState) (note : Note) (links : List Link) → IsMove s (change_of (is_strict k) s note) (told_store s note) → KeysHold s k links
    → (more : List Link) × KeysHold (told_stand (record { store = s; keys = k }) note).store (told_stand (record { store = s; keys = k }) note).keys more
unfolding told_stand told_step note_step
note_holds s k note links mv ok =
    let t = told_store s note in
    (links ++ (key_step k (edges s) (change_of (is_strict k) s note) (pieces_of note t)).links, keys_after s t k (change_of (is_strict k) s note) links mv ok (pieces_of note t))

seen_holds : (v : PublicView) (at : Stand) (links : List Link) → IsSeenAs v at → KeysHold at.store at.keys links → KeysHold (public_store_of v) v.keys links
seen_holds v at links sees ok =
    let s = public_store_of v in
    holds_as s v.pairs at.store.grants v.keys links sees.grants
    (subst (λ (k : KeyState). KeysHold (granting s at.store.grants) k links) sees.keys (subst (λ (z : Store). KeysHold z at.keys links) sees.store ok))

pub settled_kept : (v : PublicView) (p : PreparedView) → IsSeenAs v (stand_of v) → CanSettle v p → IsKept (public_store_of v) v.keys.keys v.keys.dirty
    → MayStand (public_store_of (settled v p)) → IsKept (public_store_of (settled v p)) (settled v p).keys.keys (settled v p).keys.dirty
settled_kept v p sees can kept stands =
    let s = public_store_of v in
    let note = told_note p.note in
    let k = begun_keys can.begins v.keys in
    let same = begun_same can.begins v.keys in
    let before : KeysHold s k kept.links = recounted s (record { keys = v.keys.keys; dirty = v.keys.dirty; epoch = 0; count = 0; version = 0 }) k kept.links (sym same.0) (sym same.1) kept.hold in
    let fit : fits (is_strict k) s note ≡ true = ap (λ b. fits b s note) (begun_strict can.begins v.keys) ∙ can.note_fits in
    let after = note_holds s k note kept.links (note_moves (is_strict k) s note fit kept.stands) before in
    let then' : KeysHold (public_store_of (settled v p)) (settled v p).keys after.0 =
    seen_holds (settled v p) (told_stand (begun can.begins (stand_of v)) note) after.0 (can.leaves (stand_of v) sees) after.1 in record {
      stands = stands;
      links = after.0;
      hold = recounted (public_store_of (settled v p)) (settled v p).keys (record { keys = (settled v p).keys.keys; dirty = (settled v p).keys.dirty; epoch = 0; count = 0; version = 0 }) after.0 refl refl then';
    }
