-- The serials of a journal's keys ascend, so that a serial finds the one key that was drawn for it.
use Rattle.std.proofs.Common.{◌≡◌, ⊎_elim, inl, inr, ℕ, ◌+◌, ◌≤◌, ◌<◌, Bool, true, false, cond, eqb, List, [], ◌∷◌, ◌++◌, Some, IsTrue, arith, refl, sym, ap, subst}
use Rattle.std.specs.Prelude.{find, nat_lt, ◌&&◌}
use Rattle.std.proofs.lemmas.Bool.{and_parts}
use Rattle.std.proofs.lemmas.Bool.Decides.{nat_tests}
use Rattle.chacha_seal.specs.Keys.{KeyParts}
use Rattle.cry_base.specs.Sets.{In}
use Rattle.cry_base.specs.Store.{root_store}
use Rattle.cry_base.specs.Stepping.{effect}
use Rattle.cry_base.specs.declared.roles.Edge.{Edge}
use Rattle.cry_base.specs.declared.roles.Role.{Role}
use Rattle.cry_base.proofs.Members.{In-append}
use Rattle.role_graph.specs.Edges.{edges}
use Rattle.role_graph.specs.Roles.{role_id}
use Rattle.move_plan.specs.Change.{Change, change_of}
use Rattle.move_plan.specs.Fitting.{fits}
use Rattle.record_format.specs.Noted.{Note}
use Rattle.record_format.specs.Noted.Note.{Upgrade}
use Rattle.move_plan.specs.Noting.{note_of}
use Rattle.public_fold.specs.Records.{Piece, pieces_of}
use Rattle.public_fold.specs.KeyStep.{KeyState, no_keys, next_epoch, next_serial, numbered, given, renewed, published, step_with, key_step, is_strict}
use Rattle.public_fold.specs.Journal.{Entry, Journal, Stand, nothing, first_key, note_step, entry_step, stand_then, stand_after, keys_of, root_note}
use Rattle.public_fold.specs.Valid.{BeginsWell, IsValid}
use Rattle.public_fold.proofs.AllFit.{journal_all_fit}
use Rattle.public_fold.specs.Journal.Entry.{Session, Made, Did, Upgraded}
use Rattle.public_fold.specs.StandFits.{has_count, note_fits, entry_fits, all_fit}
use Rattle.public_fold.proofs.Serials.{keys_between}
use Rattle.journal_bytes.specs.Keys.{drawn_by, with_bytes, entry_keys, keys_from, owner_parts, all_keys, bytes_of, bytes_in, key_bytes}

-- ---- keys in order of their serials

abbrev pub Above : ℕ → List KeyParts → Type 0
Above n keys = (key : KeyParts) → In key keys → n ≤ key.serial

abbrev pub Ascends : List KeyParts → Type 0
Ascends [] = Unit {0}
Ascends (k ∷ keys) = Above (k.serial + 1) keys × Ascends keys

found_own : (keys : List KeyParts) → Ascends keys → (key : KeyParts) → In key keys → bytes_in keys key.serial ≡ key.bytes
unfolding bytes_in bytes_of
found_own [] up key i = absurd i
found_own (k ∷ keys) up key i =
    (elim (eqb k.serial key.serial) as (λ test. eqb k.serial key.serial ≡ test → bytes_of (cond test (Some k) (find (λ x. eqb x.serial key.serial) keys)) ≡ key.bytes) [
      | true ↦ λ is. ⊎_elim
          (λ (same : key ≡ k). ap (λ (x : KeyParts). x.bytes) (sym same))
          (λ there. let above : k.serial + 1 ≤ key.serial = up.0 key there in let one : k.serial ≡ key.serial = grind (arith, nat_tests) in absurd (omega arith))
          i
      | false ↦ λ is. ⊎_elim
          (λ (same : key ≡ k). let one : k.serial ≡ key.serial = ap (λ (x : KeyParts). x.serial) (sym same) in absurd (grind (arith, nat_tests)))
          (λ there. found_own keys up.1 key there)
          i
    ]) refl

ascends-append : (xs ys : List KeyParts) (n : ℕ) → Ascends xs → Ascends ys → ((key : KeyParts) → In key xs → key.serial < n) → Above n ys → Ascends (xs ++ ys)
ascends-append [] ys n up more below above = more
ascends-append (x ∷ xs) ys n up more below above = (
  λ key i. ⊎_elim
      (λ there. up.0 key there)
      (λ there. let first : x.serial < n = below x (inl refl) in let last : n ≤ key.serial = above key there in omega arith)
      ((In-append KeyParts key xs ys).0 i),
  ascends-append xs ys n up.1 more (λ key i. below key (inr i)) above,
)

pub given_above : (n : ℕ) (roles : List Role) (drawn : List (List ℕ)) → Above n (with_bytes (numbered n roles) drawn)
unfolding with_bytes numbered
given_above n [] drawn key i = absurd i
given_above n (r ∷ roles) [] key i = absurd i
given_above n (r ∷ roles) (b ∷ drawn) key i =
    ⊎_elim
    (λ (same : key ≡ record { id = role_id r; serial = n; bytes = b }). let e : key.serial ≡ n = ap (λ (x : KeyParts). x.serial) same in omega arith)
    (λ there. let more : n + 1 ≤ key.serial = given_above (n + 1) roles drawn key there in omega arith)
    i

given_ascends : (n : ℕ) (roles : List Role) (drawn : List (List ℕ)) → Ascends (with_bytes (numbered n roles) drawn)
unfolding with_bytes numbered
given_ascends n [] drawn = tt
given_ascends n (r ∷ roles) [] = tt
given_ascends n (r ∷ roles) (b ∷ drawn) = (given_above (n + 1) roles drawn, given_ascends (n + 1) roles drawn)

given_from : (keys : List (Role × ℕ)) (drawn : List (List ℕ)) (key : KeyParts) → In key (with_bytes keys drawn) → (g : Role × ℕ) × In g keys × (key.serial ≡ g.1)
unfolding with_bytes
given_from [] drawn key i = absurd i
given_from (g ∷ keys) [] key i = absurd i
given_from (g ∷ keys) (b ∷ drawn) key i =
    ⊎_elim
    (λ (same : key ≡ record { id = role_id g.0; serial = g.1; bytes = b }). (g, inl refl, ap (λ (x : KeyParts). x.serial) same))
    (λ there. let w = given_from keys drawn key there in (w.0, inr w.1, w.2))
    i

-- ---- the keys of one entry

-- they lie between where the counter stands before and after
pub record LieBetween (from to : ℕ) (keys : List KeyParts) : Type 0 where
  pub above : Above from keys
  pub below : (key : KeyParts) → In key keys → key.serial < to
  pub ascends : Ascends keys

pub step_between : (k : KeyState) (before : List Edge) (c : Change) (pieces : List Piece) (drawn : List (List ℕ)) →
    LieBetween (next_serial k) (next_serial (key_step k before c pieces).after) (with_bytes (key_step k before c pieces).given drawn)
unfolding key_step step_with published given
step_between k before c pieces drawn = record {
  above = given_above (next_serial k) (renewed k before c ++ c.fresh) drawn;
  below = λ key i. let w = given_from (key_step k before c pieces).given drawn key i in
      let top = (keys_between k before c pieces w.0 w.1).1 in
      subst (λ (n : ℕ). n < next_serial (key_step k before c pieces).after) (sym w.2) top;
  ascends = given_ascends (next_serial k) (renewed k before c ++ c.fresh) drawn;
}

pub step_rises : (k : KeyState) (before : List Edge) (c : Change) (pieces : List Piece) → next_serial k ≤ next_serial (key_step k before c pieces).after
unfolding key_step step_with published next_serial
step_rises k before c pieces = omega arith

pub session_rises : (k : KeyState) → k.count ≤ 4294967296 → next_serial k ≤ next_serial (next_epoch k)
unfolding next_epoch next_serial
session_rises k small = omega arith

epoch_first : (k : KeyState) → 1 ≤ k.epoch → 1 ≤ next_serial k
unfolding next_serial
epoch_first k begun = omega arith

-- a note that fits: an epoch was begun, and the count is small after it
note_told : (at : Stand) (note : Note) (test : Bool) → IsTrue (nat_lt 0 at.keys.epoch && (fits (is_strict at.keys) at.store note && test)) → (1 ≤ at.keys.epoch) × IsTrue test
note_told at note test fit =
    let one = and_parts (nat_lt 0 at.keys.epoch) (fits (is_strict at.keys) at.store note && test) fit in
    let two = and_parts (fits (is_strict at.keys) at.store note) test one.1 in
    let begun : IsTrue (nat_lt 0 at.keys.epoch) = one.0 in
    ((let early : 1 ≤ at.keys.epoch = grind (arith, nat_tests) in early), two.1)

pub record GoesUp (at : Stand) (entry : Entry) : Type 0 where
  pub between : LieBetween (next_serial at.keys) (next_serial (entry_step at entry).after) (entry_keys at entry)
  pub positive : Above 1 (entry_keys at entry)
  pub rises : next_serial at.keys ≤ next_serial (entry_step at entry).after
  pub count : (entry_step at entry).after.count ≤ 4294967296

positive_from : (n to : ℕ) (keys : List KeyParts) → 1 ≤ n → LieBetween n to keys → Above 1 keys
positive_from n to keys low between key i = let above : n ≤ key.serial = between.above key i in omega arith

count_told : (n : ℕ) → IsTrue (nat_lt n 4294967295) → n ≤ 4294967296
count_told n small = grind (arith, nat_tests)

entry_goes_up : (at : Stand) (entry : Entry) → IsTrue (entry_fits at entry) → at.keys.count ≤ 4294967296 → GoesUp at entry
unfolding entry_fits note_fits has_count entry_keys drawn_by entry_step note_step with_bytes next_epoch
entry_goes_up at Session fit small = record {
  between = record { above = λ key i. absurd i; below = λ key i. absurd i; ascends = tt };
  positive = λ key i. absurd i;
  rises = session_rises at.keys small;
  count = omega arith;
}
entry_goes_up at (Made version drawn) fit small =
    let root = root_note version in
    let told = note_told at root _ fit in
    let between = step_between at.keys (edges at.store) (change_of (is_strict at.keys) at.store root) (pieces_of root root_store) drawn in
    record {
      between = between;
      positive = positive_from _ _ _ (epoch_first at.keys told.0) between;
      rises = step_rises at.keys (edges at.store) (change_of (is_strict at.keys) at.store root) (pieces_of root root_store);
      count = count_told _ told.1;
    }
entry_goes_up at (Did request drawn) fit small =
    let note = note_of at.store request [] in
    let pieces = pieces_of note (effect at.store request (first_key drawn)) in
    let told = note_told at note _ fit in
    let between = step_between at.keys (edges at.store) (change_of (is_strict at.keys) at.store note) pieces drawn in
    record {
      between = between;
      positive = positive_from _ _ _ (epoch_first at.keys told.0) between;
      rises = step_rises at.keys (edges at.store) (change_of (is_strict at.keys) at.store note) pieces;
      count = count_told _ told.1;
    }
entry_goes_up at (Upgraded drawn) fit small =
    let told = note_told at Upgrade _ fit in
    let between = step_between at.keys (edges at.store) (change_of (is_strict at.keys) at.store Upgrade) (pieces_of Upgrade at.store) drawn in
    record {
      between = between;
      positive = positive_from _ _ _ (epoch_first at.keys told.0) between;
      rises = step_rises at.keys (edges at.store) (change_of (is_strict at.keys) at.store Upgrade) (pieces_of Upgrade at.store);
      count = count_told _ told.1;
    }

-- ---- the keys of a journal

pub record GoUp (from : ℕ) (keys : List KeyParts) : Type 0 where
  pub above : Above from keys
  pub positive : Above 1 keys
  pub ascends : Ascends keys

join_up : (from to : ℕ) (xs ys : List KeyParts) → from ≤ to → LieBetween from to xs → Above 1 xs → GoUp to ys → GoUp from (xs ++ ys)
join_up from to xs ys rises first positive others = record {
  above = λ key i. ⊎_elim (λ there. first.above key there) (λ there. let more : to ≤ key.serial = others.above key there in omega arith) ((In-append KeyParts key xs ys).0 i);
  positive = λ key i. ⊎_elim (λ there. positive key there) (λ there. others.positive key there) ((In-append KeyParts key xs ys).0 i);
  ascends = ascends-append xs ys to first.ascends others.ascends first.below others.above;
}

keys_go_up : (at : Stand) (entries : List Entry) → IsTrue (all_fit at entries) → at.keys.count ≤ 4294967296 → GoUp (next_serial at.keys) (keys_from at entries)
unfolding keys_from all_fit stand_then
keys_go_up at [] fit small = record { above = λ key i. absurd i; positive = λ key i. absurd i; ascends = tt }
keys_go_up at (entry ∷ entries) fit small =
    let both = and_parts (entry_fits at entry) (all_fit (stand_then at entry) entries) fit in
    let up = entry_goes_up at entry both.0 small in
    join_up (next_serial at.keys) (next_serial (entry_step at entry).after) (entry_keys at entry) (keys_from (stand_then at entry) entries) up.rises up.between up.positive
    (keys_go_up (stand_then at entry) entries both.1 up.count)

pub drawn_found : (owner : List ℕ) (m : Journal) → IsTrue (all_fit nothing m) → (key : KeyParts) → In key (all_keys owner m) → key_bytes owner m key.serial ≡ key.bytes
unfolding key_bytes all_keys owner_parts nothing no_keys
drawn_found owner m fit key i =
    let up = keys_go_up nothing m fit (omega arith) in
    found_own (record { id = 0; serial = 0; bytes = owner } ∷ keys_from nothing m) (up.positive, up.ascends) key i

-- ---- the serials that come next

ends_above : (at : Stand) (entries : List Entry) → IsTrue (all_fit at entries) → at.keys.count ≤ 4294967296
    → (next_serial at.keys ≤ next_serial (stand_after at entries).keys) × ((key : KeyParts) → In key (keys_from at entries) → key.serial < next_serial (stand_after at entries).keys)
unfolding keys_from all_fit stand_after stand_then
ends_above at [] fit small = (omega arith, λ key i. absurd i)
ends_above at (entry ∷ entries) fit small =
    let both = and_parts (entry_fits at entry) (all_fit (stand_then at entry) entries) fit in
    let up = entry_goes_up at entry both.0 small in
    let rest = ends_above (stand_then at entry) entries both.1 up.count in
    let rises = up.rises in
    let ends = rest.0 in (
      omega arith,
      λ key i. ⊎_elim
          (λ there. let below = up.between.below key there in omega arith)
          (λ there. rest.1 key there)
          ((In-append KeyParts key (entry_keys at entry) (keys_from (stand_then at entry) entries)).0 i),
    )

first_epoch : (entries : List Entry) → IsTrue (all_fit nothing (Session ∷ entries)) → 0 < next_serial (stand_after nothing (Session ∷ entries)).keys
unfolding all_fit stand_after stand_then entry_step next_epoch nothing no_keys next_serial
first_epoch entries fit =
    let both = and_parts (entry_fits nothing Session) (all_fit (stand_then nothing Session) entries) fit in
    let ends = (ends_above (stand_then nothing Session) entries both.1 (omega arith)).0 in omega arith

begins_above : (m : Journal) → BeginsWell m → IsTrue (all_fit nothing m) → 0 < next_serial (stand_after nothing m).keys
begins_above [] b fit = absurd b
begins_above (Session ∷ es) b fit = first_epoch es fit
begins_above (Made version keys ∷ es) b fit = absurd b
begins_above (Did request keys ∷ es) b fit = absurd b
begins_above (Upgraded keys ∷ es) b fit = absurd b

pub all_below : (owner : List ℕ) (m : Journal) → IsValid m → (key : KeyParts) → In key (all_keys owner m) → key.serial < next_serial (keys_of m)
unfolding all_keys owner_parts keys_of nothing no_keys
all_below owner m valid key i =
    let fit = journal_all_fit m valid in
    ⊎_elim
    (λ (is : key ≡ record { id = 0; serial = 0; bytes = owner }).
    let zero : key.serial ≡ 0 = ap (λ (x : KeyParts). x.serial) is in
    let first = begins_above m valid.0 fit in omega arith)
    (λ there. (ends_above nothing m fit (omega arith)).1 key there)
    i
