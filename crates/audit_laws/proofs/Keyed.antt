-- Each key that stands in a journal is one of those that were drawn, with the number of its role; and no two have one serial.
use Rattle.std.proofs.Common.{◌≡◌, ⊎_elim, inl, inr, ℕ, ◌+◌, ◌<◌, ◌≤◌, List, [], ◌∷◌, ◌++◌, length, Some, arith, append-nil, refl, sym, ap, subst, ◌∙◌}
use Rattle.chacha_seal.specs.Keys.{KeyParts}
use Rattle.cry_base.specs.Sets.{In}
use Rattle.cry_base.specs.Stepping.{effect}
use Rattle.cry_base.specs.Store.{Store, root_store}
use Rattle.cry_base.specs.declared.roles.Role.{Role}
use Rattle.cry_base.proofs.Members.{In-append}
use Rattle.move_plan.specs.Change.{change_of}
use Rattle.move_plan.specs.Noting.{note_of}
use Rattle.record_format.specs.Noted.{Note}
use Rattle.record_format.specs.Noted.Note.{Upgrade}
use Rattle.role_graph.specs.Edges.{edges}
use Rattle.role_graph.specs.Roles.{role_id}
use Rattle.public_fold.specs.Journal.{Entry, Journal, Stand, entry_step, first_key, keys_of, note_step, nothing, root_note, stand_after, stand_then}
use Rattle.public_fold.specs.Journal.Entry.{Session, Made, Did, Upgraded}
use Rattle.public_fold.specs.KeyStep.{KeyState, Stepped, is_strict, key_step, newest, next_epoch, next_serial, no_keys}
use Rattle.public_fold.specs.Records.{pieces_of}
use Rattle.public_fold.specs.Valid.{IsValid}
use Rattle.public_fold.proofs.AllFit.{journal_all_fit}
use Rattle.public_fold.proofs.Prefixes.{prefix_valid}
use Rattle.journal_bytes.specs.Bytes as bytes
use Rattle.journal_bytes.specs.Keys.{all_keys, bytes_in, drawn_by, entry_keys, key_bytes, keys_from, owner_parts, with_bytes}
use Rattle.journal_bytes.proofs.Ascending.{Above, Ascends, all_below, drawn_found, step_between}
use Rattle.journal_bytes.proofs.Counted.{HasSerial, IsFed, did_step, keys_after, made_step, upgraded_step}
use Rattle.journal_bytes.proofs.Grown.{all_keys-append}
use Rattle.journal_bytes.proofs.Walked.{newest_of}
use Rattle.audit_laws.proofs.Steps.{longer, one_more}

-- ---- the key of a role and a serial

-- one of the keys has the number of the role, and the serial
pub record HasKey (keys : List KeyParts) (q : Role × ℕ) : Type 0 where
  pub key : KeyParts
  pub there : In key keys
  pub id : key.id ≡ role_id q.0
  pub serial : key.serial ≡ q.1

-- each key that stands has one
abbrev pub AreKeyed : List KeyParts → KeyState → Type 0
AreKeyed keys k = (q : Role × ℕ) → In q k.keys → HasKey keys q

pub key_stays : (keys more : List KeyParts) (q : Role × ℕ) → HasKey keys q → HasKey (keys ++ more) q
key_stays keys more q has = record { key = has.key; there = (In-append KeyParts has.key keys more).1 (inl has.there); id = has.id; serial = has.serial }

key_comes : (keys more : List KeyParts) (q : Role × ℕ) → HasKey more q → HasKey (keys ++ more) q
key_comes keys more q has = record { key = has.key; there = (In-append KeyParts has.key keys more).1 (inr has.there); id = has.id; serial = has.serial }

pub serial_of : (keys : List KeyParts) (q : Role × ℕ) → HasKey keys q → HasSerial keys q.1
serial_of keys q has = (has.key, has.there, has.serial)

given_keyed : (given : List (Role × ℕ)) (drawn : List (List ℕ)) → length drawn ≡ length given → (q : Role × ℕ) → In q given → HasKey (with_bytes given drawn) q
unfolding with_bytes
given_keyed [] drawn same q i = absurd i
given_keyed (g ∷ given) [] same q i = absurd (omega (arith, same))
given_keyed (g ∷ given) (b ∷ drawn) same q i = ⊎_elim
    (λ (is : q ≡ g). record {
      key = record { id = role_id g.0; serial = g.1; bytes = b };
      there = inl refl;
      id = ap (λ (x : Role × ℕ). role_id x.0) (sym is);
      serial = ap (λ (x : Role × ℕ). x.1) (sym is);
    })
    (λ r. let w = given_keyed given drawn (omega (arith, same)) q r in record { key = w.key; there = inr w.there; id = w.id; serial = w.serial })
    i

-- ---- while a journal goes on

step_keyed : (keys : List KeyParts) (at : Stand) (entry : Entry) (note : Note) (after : Store) → entry_step at entry ≡ note_step at note after → AreKeyed keys at.keys → IsFed at entry →
    AreKeyed (bytes.keys_then keys at entry) (entry_step at entry).after
unfolding bytes.keys_then entry_keys note_step
step_keyed keys at entry note after is have fed q i =
    let told : In q (key_step at.keys (edges at.store) (change_of (is_strict at.keys) at.store note) (pieces_of note after)).after.keys = subst (λ (s : Stepped). In q s.after.keys) is i in
    ⊎_elim
    (λ g. key_comes keys _ q (given_keyed (entry_step at entry).given (drawn_by entry) fed.many q (subst (λ (s : Stepped). In q s.given) (sym is) g)))
    (λ old. key_stays keys _ q (have q old))
    (keys_after at.keys (edges at.store) (change_of (is_strict at.keys) at.store note) (pieces_of note after) q told)

session_keyed : (keys : List KeyParts) (at : Stand) → AreKeyed keys at.keys → AreKeyed (bytes.keys_then keys at Session) (entry_step at Session).after
unfolding bytes.keys_then entry_step next_epoch
session_keyed keys at have q i = key_stays keys _ q (have q i)

pub keyed_then : (keys : List KeyParts) (at : Stand) (entry : Entry) → AreKeyed keys at.keys → IsFed at entry → AreKeyed (bytes.keys_then keys at entry) (entry_step at entry).after
keyed_then keys at Session have fed = session_keyed keys at have
keyed_then keys at (Made version drawn) have fed = step_keyed keys at (Made version drawn) (root_note version) root_store (made_step at version drawn) have fed
keyed_then keys at (Did r drawn) have fed = step_keyed keys at (Did r drawn) (note_of at.store r []) (effect at.store r (first_key drawn)) (did_step at r drawn) have fed
keyed_then keys at (Upgraded drawn) have fed = step_keyed keys at (Upgraded drawn) Upgrade at.store (upgraded_step at drawn) have fed

pub keyed_at_first : (owner : List ℕ) → AreKeyed (owner_parts owner ∷ []) nothing.keys
unfolding owner_parts nothing no_keys role_id
keyed_at_first owner q i = ⊎_elim
    (λ is. record {
      key = record { id = 0; serial = 0; bytes = owner };
      there = inl refl;
      id = ap (λ (x : Role × ℕ). role_id x.0) (sym is);
      serial = ap (λ (x : Role × ℕ). x.1) (sym is);
    })
    (λ n. absurd n)
    i

pub newest_keyed : (keys : List KeyParts) (k : KeyState) (r : Role) (n : ℕ) → AreKeyed keys k → newest k.keys r ≡ Some n → HasKey keys (r, n)
newest_keyed keys k r n have e =
    let w = newest_of k.keys r n e in
    let has = have w.0 w.1 in
    record { key = has.key; there = has.there; id = has.id ∙ ap role_id w.2; serial = has.serial ∙ w.3 }

-- ---- no two keys have one serial

-- a serial is that of one key at most
abbrev pub AreApart : List KeyParts → Type 0
AreApart keys = (a b : KeyParts) → In a keys → In b keys → a.serial ≡ b.serial → a ≡ b

ascends_apart : (keys : List KeyParts) → Ascends keys → AreApart keys
ascends_apart [] up a b i j e = absurd i
ascends_apart (k ∷ keys) up a b i j e = ⊎_elim
    (λ (here : a ≡ k). ⊎_elim
    (λ (same : b ≡ k). here ∙ sym same)
    (λ there. let above : k.serial + 1 ≤ b.serial = up.0 b there in let one : a.serial ≡ k.serial = ap (λ (x : KeyParts). x.serial) here in absurd (omega (arith, above, one, e)))
    j)
    (λ before. ⊎_elim
    (λ (same : b ≡ k). let above : k.serial + 1 ≤ a.serial = up.0 a before in let one : b.serial ≡ k.serial = ap (λ (x : KeyParts). x.serial) same in absurd (omega (arith, above, one, e)))
    (λ there. ascends_apart keys up.1 a b before there e)
    j)
    i

join_apart : (n : ℕ) (xs ys : List KeyParts) → AreApart xs → AreApart ys → ((key : KeyParts) → In key xs → key.serial < n) → Above n ys → AreApart (xs ++ ys)
join_apart n xs ys first more below above a b i j e = ⊎_elim
    (λ (u : In a xs). ⊎_elim
    (λ (v : In b xs). first a b u v e)
    (λ (v : In b ys). let low = below a u in let high : n ≤ b.serial = above b v in absurd (omega (arith, low, high, e)))
    ((In-append KeyParts b xs ys).0 j))
    (λ (u : In a ys). ⊎_elim
    (λ (v : In b xs). let low = below b v in let high : n ≤ a.serial = above a u in absurd (omega (arith, low, high, e)))
    (λ (v : In b ys). more a b u v e)
    ((In-append KeyParts b xs ys).0 j))
    ((In-append KeyParts a xs ys).0 i)

-- the keys of an entry are apart, and above those that came before
record ComeNext (at : Stand) (keys : List KeyParts) : Type 0 where
  apart : AreApart keys
  above : Above (next_serial at.keys) keys

entry_next : (at : Stand) (entry : Entry) → ComeNext at (entry_keys at entry)
unfolding entry_keys drawn_by entry_step note_step with_bytes
entry_next at Session = record { apart = λ a b i j e. absurd i; above = λ key i. absurd i }
entry_next at (Made version drawn) =
    let note = root_note version in
    let between = step_between at.keys (edges at.store) (change_of (is_strict at.keys) at.store note) (pieces_of note root_store) drawn in
    record { apart = ascends_apart _ between.ascends; above = between.above }
entry_next at (Did r drawn) =
    let note = note_of at.store r [] in
    let between = step_between at.keys (edges at.store) (change_of (is_strict at.keys) at.store note) (pieces_of note (effect at.store r (first_key drawn))) drawn in
    record { apart = ascends_apart _ between.ascends; above = between.above }
entry_next at (Upgraded drawn) =
    let between = step_between at.keys (edges at.store) (change_of (is_strict at.keys) at.store Upgrade) (pieces_of Upgrade at.store) drawn in
    record { apart = ascends_apart _ between.ascends; above = between.above }

keys_of_one : (at : Stand) (entry : Entry) → keys_from at (entry ∷ []) ≡ entry_keys at entry
unfolding keys_from
keys_of_one at entry = append-nil (entry_keys at entry)

with_entry : (owner : List ℕ) (before : Journal) (entry : Entry) → all_keys owner (before ++ entry ∷ []) ≡ all_keys owner before ++ entry_keys (stand_after nothing before) entry
with_entry owner before entry = all_keys-append owner before (entry ∷ []) ∙ ap (λ ks. all_keys owner before ++ ks) (keys_of_one (stand_after nothing before) entry)

apart_with : (owner : List ℕ) (before : Journal) (entry : Entry) → ((key : KeyParts) → In key (all_keys owner before) → key.serial < next_serial (stand_after nothing before).keys) → AreApart (all_keys owner before) → AreApart (all_keys owner (before ++ entry ∷ []))
apart_with owner before entry below apart =
    let at = stand_after nothing before in
    let next = entry_next at entry in
    subst AreApart (sym (with_entry owner before entry)) (join_apart (next_serial at.keys) (all_keys owner before) (entry_keys at entry) apart next.apart below next.above)

below_next : (owner : List ℕ) (m : Journal) → IsValid m → (key : KeyParts) → In key (all_keys owner m) → key.serial < next_serial (stand_after nothing m).keys
unfolding keys_of
below_next owner m valid = all_below owner m valid

apart_on : (owner : List ℕ) (before entries : Journal) → IsValid (before ++ entries) → 2 ≤ length before → AreApart (all_keys owner before) → AreApart (all_keys owner (before ++ entries))
apart_on owner before [] valid two apart = subst (λ m. AreApart (all_keys owner m)) (sym (append-nil before)) apart
apart_on owner before (entry ∷ entries) valid two apart =
    subst (λ m. AreApart (all_keys owner m)) (sym (one_more before entries entry))
    (apart_on owner (before ++ entry ∷ []) entries (subst IsValid (one_more before entries entry) valid) (longer before entry two)
    (apart_with owner before entry (below_next owner before (prefix_valid before (entry ∷ entries) two valid)) apart))

session_keys : (owner : List ℕ) (key : KeyParts) → In key (all_keys owner (Session ∷ [])) → key.serial < next_serial (stand_after nothing (Session ∷ [])).keys
unfolding all_keys owner_parts keys_from entry_keys drawn_by with_bytes entry_step stand_after stand_then nothing no_keys next_epoch next_serial
session_keys owner key i = ⊎_elim
    (λ (is : key ≡ record { id = 0; serial = 0; bytes = owner }). let zero : key.serial ≡ 0 = ap (λ (x : KeyParts). x.serial) is in omega (arith, zero))
    (λ n. absurd n)
    i

session_apart : (owner : List ℕ) → AreApart (all_keys owner (Session ∷ []))
unfolding all_keys owner_parts keys_from entry_keys drawn_by with_bytes entry_step
session_apart owner a b i j e = ⊎_elim (λ (p : a ≡ record { id = 0; serial = 0; bytes = owner }). ⊎_elim (λ (q : b ≡ record { id = 0; serial = 0; bytes = owner }). p ∙ sym q) (λ n. absurd n) j) (λ n. absurd n) i

pub journal_apart : (owner : List ℕ) (m : Journal) → IsValid m → AreApart (all_keys owner m)
journal_apart owner [] valid = absurd valid.0
journal_apart owner (Session ∷ []) valid = absurd valid.0
journal_apart owner (Session ∷ Session ∷ es) valid = absurd valid.0
journal_apart owner (Session ∷ Made version drawn ∷ es) valid =
    apart_on owner (Session ∷ Made version drawn ∷ []) es valid (omega arith)
    (apart_with owner (Session ∷ []) (Made version drawn) (session_keys owner) (session_apart owner))
journal_apart owner (Session ∷ Did r drawn ∷ es) valid = absurd valid.0
journal_apart owner (Session ∷ Upgraded drawn ∷ es) valid = absurd valid.0
journal_apart owner (Made version drawn ∷ es) valid = absurd valid.0
journal_apart owner (Did r drawn ∷ es) valid = absurd valid.0
journal_apart owner (Upgraded drawn ∷ es) valid = absurd valid.0

-- a key that is there has the bytes of its serial
pub own_bytes : (owner : List ℕ) (m : Journal) → IsValid m → (key : KeyParts) → In key (all_keys owner m) → bytes_in (all_keys owner m) key.serial ≡ key.bytes
unfolding key_bytes
own_bytes owner m valid key i = drawn_found owner m (journal_all_fit m valid) key i
