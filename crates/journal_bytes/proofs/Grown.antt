-- What a longer journal adds to the keys, the batches and the image of its first entries.
use Rattle.std.proofs.Common.{◌≡◌, ⊎_elim, ℕ, ◌+◌, ◌≤◌, true, false, cond, eqb, List, [], ◌∷◌, ◌++◌, length, All, Some, append_assoc, arith, refl, sym, ap, ◌∙◌}
use Rattle.std.specs.Prelude.{find}
use Rattle.std.specs.List.{sum_by}
use Rattle.std.proofs.lemmas.Bool.Decides.{nat_tests}
use Rattle.std.proofs.lemmas.List.{append-nil}
use Rattle.std.proofs.lemmas.List.Elements.{All-nil, All-cons}
use Rattle.std.proofs.lemmas.List.Sums.{sum_by-cons}
use Rattle.cry_base.specs.Layout.{batch_len}
use Rattle.cry_base.specs.Limits.{most_store_bytes}
use Rattle.chacha_seal.specs.Keys.{KeyParts}
use Rattle.commit_journal.specs.Gates.{recovered}
use Rattle.commit_journal.specs.Holding.{IsPrefix}
use Rattle.commit_journal.specs.Image.{Batch, image, spell_batches}
use Rattle.commit_journal.specs.Laws.{batch_of, batches_from}
use Rattle.commit_journal.specs.Placed.{PlainBody, Commands, NewEpoch}
use Rattle.commit_journal.specs.Publishing.{published_of, without_last}
use Rattle.commit_journal.specs.Standing.{HasSizes, last_tag}
use Rattle.commit_journal.proofs.Standings.{image-append, length-image, recovered_standing, whole_published, whole_honest}
use Rattle.public_fold.specs.Journal.{Entry, Journal, Stand, nothing, stand_then, stand_after}
use Rattle.public_fold.specs.Lengths.{end_of}
use Rattle.public_fold.specs.Valid.{IsValid}
use Rattle.journal_bytes.specs.Bytes.{keys_then, entry_body, bodies_from, bodies_of, batches_of, image_of}
use Rattle.journal_bytes.specs.Journals.{StandsForJournal, StandsWholeForJournal, published_journal, IsHonestFor}
use Rattle.journal_bytes.specs.Keys.{AreWhole, entry_keys, keys_from, owner_parts, all_keys, bytes_of, bytes_in, key_bytes}
use Rattle.journal_bytes.proofs.Counted.{HasSerial}
use Rattle.journal_bytes.proofs.Weighed.{valid_weighs}

-- ---- keys

keys_from-append : (at : Stand) (xs ys : List Entry) → keys_from at (xs ++ ys) ≡ keys_from at xs ++ keys_from (stand_after at xs) ys
unfolding keys_from stand_after
keys_from-append at [] ys = refl
keys_from-append at (x ∷ xs) ys =
    ap (λ r. entry_keys at x ++ r) (keys_from-append (stand_then at x) xs ys)
    ∙ sym (append_assoc (entry_keys at x) (keys_from (stand_then at x) xs) (keys_from (stand_after (stand_then at x) xs) ys))

pub all_keys-append : (owner : List ℕ) (m more : Journal) → all_keys owner (m ++ more) ≡ all_keys owner m ++ keys_from (stand_after nothing m) more
unfolding all_keys
all_keys-append owner m more = ap (λ r. owner_parts owner ∷ r) (keys_from-append nothing m more)

further : (k : KeyParts) (keys : List KeyParts) (serial : ℕ) → HasSerial (k ∷ keys) serial → eqb k.serial serial ≡ false → HasSerial keys serial
further k keys serial has is =
    ⊎_elim
    (λ (same : has.0 ≡ k).
    let one : k.serial ≡ serial = ap (λ (x : KeyParts). x.serial) (sym same) ∙ has.2 in absurd (grind (arith, nat_tests)))
    (λ i. (has.0, i, has.2))
    has.1

pub found_first : (keys more : List KeyParts) (serial : ℕ) → HasSerial keys serial → bytes_in (keys ++ more) serial ≡ bytes_in keys serial
unfolding bytes_in bytes_of
found_first [] more serial has = absurd has.1
found_first (k ∷ keys) more serial has =
    (elim (eqb k.serial serial) as (λ test. eqb k.serial serial ≡ test →
    bytes_of (cond test (Some k) (find (λ key. eqb key.serial serial) (keys ++ more))) ≡ bytes_of (cond test (Some k) (find (λ key. eqb key.serial serial) keys))) [
      | true ↦ λ is. refl
      | false ↦ λ is. found_first keys more serial (further k keys serial has is)
    ]) refl

pub key_stays : (owner : List ℕ) (m more : Journal) (serial : ℕ) → HasSerial (all_keys owner m) serial → key_bytes owner (m ++ more) serial ≡ key_bytes owner m serial
unfolding key_bytes
key_stays owner m more serial has =
    ap (λ keys. bytes_in keys serial) (all_keys-append owner m more) ∙ found_first (all_keys owner m) (keys_from (stand_after nothing m) more) serial has

-- ---- bodies

bodies_from-append : (keys : List KeyParts) (at : Stand) (xs ys : List Entry) →
    bodies_from keys at (xs ++ ys) ≡ bodies_from keys at xs ++ bodies_from (keys ++ keys_from at xs) (stand_after at xs) ys
unfolding bodies_from keys_from stand_after keys_then
bodies_from-append keys at [] ys = ap (λ k. bodies_from k at ys) (sym (append-nil keys))
bodies_from-append keys at (x ∷ xs) ys =
    let then = keys ++ entry_keys at x in
    let first = entry_body then at x in
    ap (λ r. first ∷ r) (bodies_from-append then (stand_then at x) xs ys)
    ∙ ap (λ k. first ∷ (bodies_from then (stand_then at x) xs ++ bodies_from k (stand_after (stand_then at x) xs) ys))
    (append_assoc keys (entry_keys at x) (keys_from (stand_then at x) xs))

pub bodies_grow : (owner : List ℕ) (m more : Journal) → bodies_of owner (m ++ more) ≡ bodies_of owner m ++ bodies_from (all_keys owner m) (stand_after nothing m) more
unfolding bodies_of all_keys
bodies_grow owner m more = bodies_from-append (owner_parts owner ∷ []) nothing m more

pub next_body : (owner : List ℕ) (m : Journal) (entry : Entry) →
    bodies_of owner (m ++ entry ∷ []) ≡ bodies_of owner m ++ entry_body (all_keys owner (m ++ entry ∷ [])) (stand_after nothing m) entry ∷ []
unfolding bodies_from keys_then keys_from
next_body owner m entry =
    let at = stand_after nothing m in
    let keys : all_keys owner m ++ entry_keys at entry ≡ all_keys owner (m ++ entry ∷ []) =
    ap (λ r. all_keys owner m ++ r) (sym (append-nil (entry_keys at entry))) ∙ sym (all_keys-append owner m (entry ∷ []))
    in
    bodies_grow owner m (entry ∷ []) ∙ ap (λ k. bodies_of owner m ++ entry_body k at entry ∷ []) keys

-- ---- batches and image

batches_front : (number epoch : ℕ) (xs ys : List PlainBody) → IsPrefix (batches_from number epoch xs) (batches_from number epoch (xs ++ ys))
batches_front number epoch [] ys = (batches_from number epoch ys, refl)
batches_front number epoch (x ∷ xs) ys =
    let batch = batch_of number epoch x in
    let told = batches_front batch.number batch.epoch xs ys in
    (told.0, ap (λ r. batch ∷ r) told.1)

pub batches_grow : (owner : List ℕ) (low high : Journal) → IsPrefix low high → IsPrefix (batches_of owner low) (batches_of owner high)
unfolding batches_of
batches_grow owner low high front =
    let told = batches_front 0 0 (bodies_of owner low) (bodies_from (all_keys owner low) (stand_after nothing low) front.0) in
    (told.0, told.1 ∙ ap (batches_from 0 0) (sym (bodies_grow owner low front.0) ∙ ap (bodies_of owner) front.1))

pub image_grows : (owner : List ℕ) (low high : Journal) → IsPrefix low high → IsPrefix (image_of owner low) (image_of owner high)
unfolding image_of
image_grows owner low high front =
    let told = batches_grow owner low high front in (
      spell_batches owner (last_tag owner (batches_of owner low)) told.0,
      sym (image-append owner (batches_of owner low) told.0) ∙ ap (image owner) told.1,
    )

-- ---- sizes

pub batch_number : (number epoch : ℕ) (body : PlainBody) → (batch_of number epoch body).number ≡ number + 1
batch_number number epoch (Commands payload) = refl
batch_number number epoch NewEpoch = refl

batch_epoch : (number epoch : ℕ) (body : PlainBody) → (batch_of number epoch body).epoch ≤ epoch + 1
batch_epoch number epoch (Commands payload) = omega arith
batch_epoch number epoch NewEpoch = omega arith

sizes_from : (number epoch : ℕ) (bodies : List PlainBody) → epoch ≤ number →
    number + sum_by (λ (b : Batch). batch_len + length b.payload) (batches_from number epoch bodies) ≤ most_store_bytes → All HasSizes (batches_from number epoch bodies)
sizes_from number epoch [] small fits = All-nil HasSizes
sizes_from number epoch (body ∷ bodies) small fits =
    let batch = batch_of number epoch body in
    let others = batches_from batch.number batch.epoch bodies in
    let sum = sum_by-cons (λ (b : Batch). batch_len + length b.payload) batch others in
    let n = batch_number number epoch body in
    let e = batch_epoch number epoch body in
    All-cons HasSizes batch others (record { number = omega arith; epoch = omega arith; payload = omega arith })
    (sizes_from batch.number batch.epoch bodies (omega arith) (omega arith))

pub batches_fit : (owner : List ℕ) (m : Journal) → IsValid m → AreWhole owner m → All HasSizes (batches_of owner m)
unfolding batches_of image_of
batches_fit owner m valid whole =
    let size : length (image owner (batches_from 0 0 (bodies_of owner m))) + 1 ≡ end_of m = valid_weighs owner m valid whole in
    let long = length-image owner (batches_from 0 0 (bodies_of owner m)) in
    let end : end_of m ≤ most_store_bytes = valid.1 in
    sizes_from 0 0 (bodies_of owner m) (omega arith) (omega arith)

pub journal_recovered : (owner : List ℕ) (m : Journal) (bytes : List ℕ) → StandsForJournal owner m bytes → recovered owner bytes ≡ batches_of owner m
journal_recovered owner m bytes stands = recovered_standing owner (batches_of owner m) bytes stands.stands (batches_fit owner m stands.valid stands.whole_keys)

-- ---- what a whole image publishes

pub whole_journal : (owner : List ℕ) (m : Journal) (bytes : List ℕ) → StandsWholeForJournal owner m bytes → published_journal owner bytes m ≡ m
unfolding published_journal published_of
whole_journal owner m bytes whole =
    ap (λ test. cond test m (without_last m)) (whole_published owner (batches_of owner m) bytes whole.stands (batches_fit owner m whole.valid whole.whole_keys))

pub honest_journal : (owner : List ℕ) (m : Journal) (bytes : List ℕ) → StandsWholeForJournal owner m bytes → IsHonestFor owner bytes m
honest_journal owner m bytes whole = whole_honest owner (batches_of owner m) bytes whole.stands (batches_fit owner m whole.valid whole.whole_keys)
