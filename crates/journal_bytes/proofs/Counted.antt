-- Which keys there are while a journal goes on: each present serial has a key of 32 bytes.
use Rattle.std.proofs.Common.{◌≡◌, ◌⊎◌, ⊎_elim, inl, inr, ℕ, true, false, cond, eqb, List, [], ◌∷◌, ◌++◌, length, All, Option, Some, arith, refl, sym, ap, subst, ◌∙◌}
use Rattle.std.specs.Prelude.{find, unwrap_or}
use Rattle.std.proofs.lemmas.Bool.Decides.{nat_tests}
use Rattle.std.proofs.lemmas.List.Elements.{All-head, All-tail}
use Rattle.chacha_seal.specs.Keys.{KeyParts}
use Rattle.cry_base.specs.Sets.{In}
use Rattle.cry_base.specs.declared.roles.Edge.{Edge}
use Rattle.cry_base.specs.declared.roles.Role.{Role}
use Rattle.cry_base.proofs.Members.{In-append, In-map, In-filter}
use Rattle.role_graph.specs.Edges.{edges}
use Rattle.role_graph.specs.Roles.{same_role, role_id}
use Rattle.move_plan.specs.Change.{Change, change_of}
use Rattle.record_format.specs.Noted.{Note}
use Rattle.record_format.specs.Noted.Note.{Upgrade}
use Rattle.move_plan.specs.Noting.{note_of}
use Rattle.cry_base.specs.Requests.{Request}
use Rattle.cry_base.specs.Stepping.{effect}
use Rattle.cry_base.specs.Store.{Store, root_store}
use Rattle.public_fold.specs.Records.{Link, Piece, pieces_of}
use Rattle.public_fold.specs.KeyStep.{KeyState, Stepped, no_keys, next_epoch, keys_without, keys_then, newest, present, link_of, links_from, published, step_with, key_step, is_strict}
use Rattle.public_fold.specs.Journal.{Entry, Stand, nothing, first_key, note_step, entry_step, root_note}
use Rattle.public_fold.specs.Journal.Entry.{Session, Made, Did, Upgraded}
use Rattle.journal_bytes.specs.Bytes as bytes
use Rattle.journal_bytes.specs.Keys.{drawn_by, with_bytes, entry_keys, owner_parts, bytes_of, bytes_in}

-- ---- keys of a list

abbrev pub HasSerial : List KeyParts → ℕ → Type 0
HasSerial keys serial = (key : KeyParts) × In key keys × (key.serial ≡ serial)

abbrev pub AreLong : List KeyParts → Type 0
AreLong keys = (key : KeyParts) → In key keys → length key.bytes ≡ 32

pub found : (keys : List KeyParts) (serial : ℕ) → AreLong keys → HasSerial keys serial → length (bytes_in keys serial) ≡ 32
unfolding bytes_in bytes_of
found [] serial long has = absurd has.1
found (k ∷ keys) serial long has =
    (elim (eqb k.serial serial) as (λ test. eqb k.serial serial ≡ test → length (bytes_of (cond test (Some k) (find (λ key. eqb key.serial serial) keys))) ≡ 32) [
      | true ↦ λ is. long k (inl refl)
      | false ↦ λ is. ⊎_elim
          (λ (same : has.0 ≡ k).
          let one : k.serial ≡ serial = ap (λ (x : KeyParts). x.serial) (sym same) ∙ has.2 in absurd (grind (arith, nat_tests)))
          (λ i. found keys serial (λ key there. long key (inr there)) (has.0, i, has.2))
          has.1
    ]) refl

given_has : (given : List (Role × ℕ)) (drawn : List (List ℕ)) → length drawn ≡ length given → (key : Role × ℕ) → In key given → HasSerial (with_bytes given drawn) key.1
unfolding with_bytes
given_has [] drawn same key i = absurd i
given_has (g ∷ given) [] same key i = absurd (omega arith)
given_has (g ∷ given) (b ∷ drawn) same key i =
    ⊎_elim
    (λ (is : key ≡ g). (record { id = role_id g.0; serial = g.1; bytes = b }, inl refl, ap (λ (x : Role × ℕ). x.1) (sym is)))
    (λ r. let w = given_has given drawn (omega arith) key r in (w.0, inr w.1, w.2))
    i

given_long : (given : List (Role × ℕ)) (drawn : List (List ℕ)) → All (λ (key : List ℕ). length key ≡ 32) drawn → AreLong (with_bytes given drawn)
unfolding with_bytes
given_long [] drawn sizes key i = absurd i
given_long (g ∷ given) [] sizes key i = absurd i
given_long (g ∷ given) (b ∷ drawn) sizes key i =
    ⊎_elim
    (λ (is : key ≡ record { id = role_id g.0; serial = g.1; bytes = b }). ap (λ (x : KeyParts). length x.bytes) is ∙ All-head (λ (k : List ℕ). length k ≡ 32) b drawn sizes)
    (λ r. given_long given drawn (All-tail (λ (k : List ℕ). length k ≡ 32) b drawn sizes) key r)
    i

-- ---- the keys of a step

newest_in : (keys : List (Role × ℕ)) (r : Role) (o : Option ℕ) → newest keys r ≡ o → (unwrap_or o 0 ≡ 0) ⊎ ((key : Role × ℕ) × In key keys × (key.1 ≡ unwrap_or o 0))
unfolding newest
newest_in [] r o is = inl (ap (λ x. unwrap_or x 0) (sym is))
newest_in (k ∷ keys) r o is =
    (elim (same_role k.0 r) as (λ test. cond test (Some k.1) (newest keys r) ≡ o → (unwrap_or o 0 ≡ 0) ⊎ ((key : Role × ℕ) × In key (k ∷ keys) × (key.1 ≡ unwrap_or o 0))) [
      | true ↦ λ e. inr (k, inl refl, ap (λ x. unwrap_or x 0) e)
      | false ↦ λ e. ⊎_elim (λ z. inl z) (λ w. inr (w.0, inr w.1, w.2)) (newest_in keys r o e)
    ]) is

present_in : (keys : List (Role × ℕ)) (r : Role) → (present keys r ≡ 0) ⊎ ((key : Role × ℕ) × In key keys × (key.1 ≡ present keys r))
unfolding present
present_in keys r = newest_in keys r (newest keys r) refl

pub keys_after : (k : KeyState) (before : List Edge) (c : Change) (pieces : List Piece) (key : Role × ℕ) → In key (key_step k before c pieces).after.keys →
    In key (key_step k before c pieces).given ⊎ In key k.keys
unfolding key_step step_with published keys_then keys_without
keys_after k before c pieces key i =
    ⊎_elim (λ g. inl g) (λ old. inr (In-filter (Role × ℕ) _ key k.keys old).0) ((In-append (Role × ℕ) key _ _).0 i)

links_after : (k : KeyState) (before : List Edge) (c : Change) (pieces : List Piece) (l : Link) → In l (key_step k before c pieces).links →
    (r : Role) × (l.to_serial ≡ present (key_step k before c pieces).after.keys r)
unfolding key_step step_with published links_from link_of
links_after k before c pieces l i =
    let w = (In-map (Edge × ℕ) Link _ l _).0 i in (w.0.0.to, ap (λ (x : Link). x.to_serial) w.2)

-- ---- while a journal goes on

-- each key has 32 bytes, and serial 0 and each present serial have a key
pub record HaveKeys (keys : List KeyParts) (state : KeyState) : Type 0 where
  pub long : AreLong keys
  pub owner : HasSerial keys 0
  pub each : (key : Role × ℕ) → In key state.keys → HasSerial keys key.1

pub present_long : (keys : List KeyParts) (state : KeyState) (r : Role) → HaveKeys keys state → length (bytes_in keys (present state.keys r)) ≡ 32
present_long keys state r have =
    ⊎_elim
    (λ z. found keys (present state.keys r) have.long (subst (λ (n : ℕ). HasSerial keys n) (sym z) have.owner))
    (λ w. found keys (present state.keys r) have.long (let h = have.each w.0 w.1 in (h.0, h.1, h.2 ∙ w.2)))
    (present_in state.keys r)

-- an entry drew as many keys as its step gives, each of 32 bytes
pub record IsFed (at : Stand) (entry : Entry) : Type 0 where
  pub many : length (drawn_by entry) ≡ length (entry_step at entry).given
  pub sizes : All (λ (key : List ℕ). length key ≡ 32) (drawn_by entry)

more_serial : (keys more : List KeyParts) (serial : ℕ) → HasSerial keys serial → HasSerial (keys ++ more) serial
more_serial keys more serial has = (has.0, (In-append KeyParts has.0 keys more).1 (inl has.1), has.2)

new_serial : (keys more : List KeyParts) (serial : ℕ) → HasSerial more serial → HasSerial (keys ++ more) serial
new_serial keys more serial has = (has.0, (In-append KeyParts has.0 keys more).1 (inr has.1), has.2)

long_then : (keys : List KeyParts) (at : Stand) (entry : Entry) → AreLong keys → IsFed at entry → AreLong (bytes.keys_then keys at entry)
unfolding bytes.keys_then entry_keys
long_then keys at entry long fed key i =
    ⊎_elim (long key) (given_long (entry_step at entry).given (drawn_by entry) fed.sizes key) ((In-append KeyParts key keys _).0 i)

step_each : (keys : List KeyParts) (at : Stand) (entry : Entry) (note : Note) (after : Store) → entry_step at entry ≡ note_step at note after → HaveKeys keys at.keys → IsFed at entry →
    (key : Role × ℕ) → In key (entry_step at entry).after.keys → HasSerial (bytes.keys_then keys at entry) key.1
unfolding bytes.keys_then entry_keys note_step
step_each keys at entry note after is have fed key i =
    let told : In key (key_step at.keys (edges at.store) (change_of (is_strict at.keys) at.store note) (pieces_of note after)).after.keys = subst (λ (s : Stepped). In key s.after.keys) is i in
    ⊎_elim
    (λ g. new_serial keys _ key.1 (given_has (entry_step at entry).given (drawn_by entry) fed.many key (subst (λ (s : Stepped). In key s.given) (sym is) g)))
    (λ old. more_serial keys _ key.1 (have.each key old))
    (keys_after at.keys (edges at.store) (change_of (is_strict at.keys) at.store note) (pieces_of note after) key told)

session_each : (keys : List KeyParts) (at : Stand) → HaveKeys keys at.keys → (key : Role × ℕ) → In key (entry_step at Session).after.keys → HasSerial (bytes.keys_then keys at Session) key.1
unfolding bytes.keys_then entry_step next_epoch
session_each keys at have key i = more_serial keys _ key.1 (have.each key i)

pub made_step : (at : Stand) (version : ℕ) (drawn : List (List ℕ)) → entry_step at (Made version drawn) ≡ note_step at (root_note version) root_store
unfolding entry_step
made_step at version drawn = refl

pub upgraded_step : (at : Stand) (drawn : List (List ℕ)) → entry_step at (Upgraded drawn) ≡ note_step at Upgrade at.store
unfolding entry_step
upgraded_step at drawn = refl

pub did_step : (at : Stand) (request : Request) (drawn : List (List ℕ)) →
    entry_step at (Did request drawn) ≡ note_step at (note_of at.store request []) (effect at.store request (first_key drawn))
unfolding entry_step
did_step at request drawn = refl

-- the links of an entry go to present keys
pub entry_links : (at : Stand) (entry : Entry) (l : Link) → In l (entry_step at entry).links → (r : Role) × (l.to_serial ≡ present (entry_step at entry).after.keys r)
unfolding entry_step note_step
entry_links at Session l i = absurd i
entry_links at (Made version drawn) l i = links_after at.keys (edges at.store) (change_of (is_strict at.keys) at.store (root_note version)) (pieces_of (root_note version) root_store) l i
entry_links at (Did request drawn) l i =
    let note = note_of at.store request [] in
    links_after at.keys (edges at.store) (change_of (is_strict at.keys) at.store note) (pieces_of note (effect at.store request (first_key drawn))) l i
entry_links at (Upgraded drawn) l i = links_after at.keys (edges at.store) (change_of (is_strict at.keys) at.store Upgrade) (pieces_of Upgrade at.store) l i

entry_each : (keys : List KeyParts) (at : Stand) (entry : Entry) → HaveKeys keys at.keys → IsFed at entry →
    (key : Role × ℕ) → In key (entry_step at entry).after.keys → HasSerial (bytes.keys_then keys at entry) key.1
entry_each keys at Session have fed = session_each keys at have
entry_each keys at (Made version drawn) have fed = step_each keys at (Made version drawn) (root_note version) root_store (made_step at version drawn) have fed
entry_each keys at (Did request drawn) have fed =
    step_each keys at (Did request drawn) (note_of at.store request []) (effect at.store request (first_key drawn)) (did_step at request drawn) have fed
entry_each keys at (Upgraded drawn) have fed = step_each keys at (Upgraded drawn) Upgrade at.store (upgraded_step at drawn) have fed

pub have_then : (keys : List KeyParts) (at : Stand) (entry : Entry) → HaveKeys keys at.keys → IsFed at entry → HaveKeys (bytes.keys_then keys at entry) (entry_step at entry).after
unfolding bytes.keys_then
have_then keys at entry have fed = record {
  long = long_then keys at entry have.long fed;
  owner = more_serial keys _ 0 have.owner;
  each = entry_each keys at entry have fed;
}

-- before the first entry there is the owner's key alone
pub have_at_first : (owner : List ℕ) → length owner ≡ 32 → HaveKeys (owner_parts owner ∷ []) nothing.keys
unfolding owner_parts nothing no_keys
have_at_first owner size = record {
  long = λ key i. ⊎_elim (λ is. ap (λ (k : KeyParts). length k.bytes) is ∙ size) (λ n. absurd n) i;
  owner = (record { id = 0; serial = 0; bytes = owner }, inl refl, refl);
  each = λ key i. ⊎_elim
      (λ is. (record { id = 0; serial = 0; bytes = owner }, inl refl, ap (λ (k : Role × ℕ). k.1) (sym is)))
      (λ n. absurd n) i;
}
