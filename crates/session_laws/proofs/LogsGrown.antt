-- The log of a journal: it has a batch for each entry, each begins behind the one before, and the log of more entries begins with it.
use Rattle.std.proofs.Common.{◌≡◌, ℕ, suc, ◌+◌, ◌≤◌, List, [], ◌∷◌, ◌++◌, length, take, refl, ap, subst, ◌∙◌, arith}
use Rattle.std.proofs.lemmas.List.{take-append-le}
use Rattle.chacha_seal.specs.Keys.{KeyParts}
use Rattle.commit_journal.specs.Laws.{AreBodies, batch_of, placed_from}
use Rattle.commit_journal.specs.Placed.{PlainBody, Commands, NewEpoch, PlainPlaced}
use Rattle.commit_journal.specs.Places.{at_behind, body_size}
use Rattle.cry_base.specs.Layout.{batch_len, header_len}
use Rattle.journal_bytes.specs.Bytes.{bodies_from, bodies_of, keys_then}
use Rattle.journal_bytes.specs.Folds.{log_of}
use Rattle.journal_bytes.specs.Keys.{AreWhole, all_keys, owner_parts}
use Rattle.journal_bytes.proofs.Grown.{bodies_grow}
use Rattle.journal_bytes.proofs.Spelled.{journal_spelled}
use Rattle.public_fold.specs.Journal.{Entry, Journal, Stand, nothing, stand_after, stand_then}
use Rattle.public_fold.specs.Valid.{IsValid}
use Rattle.record_format.proofs.Lengths.{length-spell_payload}

-- ---- as many

placed_many : (at number epoch : ℕ) (bodies : List PlainBody) → length (placed_from at number epoch bodies) ≡ length bodies
placed_many at number epoch [] = refl
placed_many at number epoch (body ∷ bodies) =
    let batch = batch_of number epoch body in
    ap suc (placed_many (at + (batch_len + length batch.payload)) batch.number batch.epoch bodies)

bodies_many : (keys : List KeyParts) (at : Stand) (m : List Entry) → length (bodies_from keys at m) ≡ length m
unfolding bodies_from
bodies_many keys at [] = refl
bodies_many keys at (entry ∷ m) = ap suc (bodies_many (keys_then keys at entry) (stand_then at entry) m)

pub log_many : (owner : List ℕ) (m : Journal) → length (log_of owner m) ≡ length m
unfolding log_of bodies_of
log_many owner m = placed_many header_len 0 0 (bodies_from (owner_parts owner ∷ []) nothing m) ∙ bodies_many (owner_parts owner ∷ []) nothing m

-- ---- one behind the other

-- each batch begins where the one before ends
abbrev pub AreTiled : ℕ → List PlainPlaced → Type 0
AreTiled at [] = Unit {0}
AreTiled at (p ∷ log) = (p.place ≡ at + 45) × AreTiled (at_behind p) log

payload_long : (epoch number : ℕ) (body : PlainBody) (bodies : List PlainBody) → AreBodies epoch (body ∷ bodies) → length (batch_of number epoch body).payload ≡ body_size body
payload_long epoch number (Commands p) bodies are = length-spell_payload p are.1
payload_long epoch number NewEpoch bodies are = refl

rest_bodies : (epoch number : ℕ) (body : PlainBody) (bodies : List PlainBody) → AreBodies epoch (body ∷ bodies) → AreBodies (batch_of number epoch body).epoch bodies
rest_bodies epoch number (Commands p) bodies are = are.2
rest_bodies epoch number NewEpoch bodies are = are

placed_tiled : (at number epoch : ℕ) (bodies : List PlainBody) → AreBodies epoch bodies → AreTiled at (placed_from at number epoch bodies)
placed_tiled at number epoch [] are = tt
placed_tiled at number epoch (body ∷ bodies) are =
    let batch = batch_of number epoch body in
    let long = payload_long epoch number body bodies are in (
      refl,
      subst (λ n. AreTiled n (placed_from (at + (batch_len + length batch.payload)) batch.number batch.epoch bodies)) (omega (arith, long))
          (placed_tiled (at + (batch_len + length batch.payload)) batch.number batch.epoch bodies (rest_bodies epoch number body bodies are)),
    )

pub log_tiled : (owner : List ℕ) (m : Journal) → IsValid m → AreWhole owner m → AreTiled header_len (log_of owner m)
unfolding log_of
log_tiled owner m valid whole = placed_tiled header_len 0 0 (bodies_of owner m) (journal_spelled owner m valid whole)

-- ---- more entries

placed_front : (at number epoch : ℕ) (xs ys : List PlainBody) → (rest : List PlainPlaced) × (placed_from at number epoch (xs ++ ys) ≡ placed_from at number epoch xs ++ rest)
placed_front at number epoch [] ys = (placed_from at number epoch ys, refl)
placed_front at number epoch (x ∷ xs) ys =
    let batch = batch_of number epoch x in
    let told = placed_front (at + (batch_len + length batch.payload)) batch.number batch.epoch xs ys in
    (told.0, ap (λ (r : List PlainPlaced). record { batch = batch.number; epoch = record { 0 = batch.epoch }; place = at + 45; body = x } ∷ r) told.1)

pub log_grows : (owner : List ℕ) (m more : Journal) → (rest : List PlainPlaced) × (log_of owner (m ++ more) ≡ log_of owner m ++ rest)
unfolding log_of
log_grows owner m more =
    let told = placed_front header_len 0 0 (bodies_of owner m) (bodies_from (all_keys owner m) (stand_after nothing m) more) in
    (told.0, ap (placed_from header_len 0 0) (bodies_grow owner m more) ∙ told.1)

pub log_front : (owner : List ℕ) (m more : Journal) (k : ℕ) → k ≤ length m → take k (log_of owner (m ++ more)) ≡ take k (log_of owner m)
log_front owner m more k within =
    let grown = log_grows owner m more in
    let long = log_many owner m in
    ap (take k) grown.1 ∙ take-append-le k (log_of owner m) grown.0 (omega (arith, long))
