-- What the next entries add to a journal's batches and keys.
use Rattle.std.proofs.Common.{◌≡◌, ℕ, ◌+◌, Bool, true, false, not, List, [], ◌∷◌, ◌++◌, length, append-nil, arith, refl, sym, ap, ◌∙◌}
use Rattle.chacha_seal.specs.Keys.{KeyParts}
use Rattle.commit_journal.specs.Journals.{IsJournalOf, JournalState, last_epoch}
use Rattle.commit_journal.specs.Laws.{batch_of, batches_from}
use Rattle.commit_journal.specs.Placed.{PlainBody}
use Rattle.public_fold.specs.Journal.{Entry, Journal, Stand, nothing, entry_step, keys_of, note_step, stand_then, stand_after}
use Rattle.public_fold.specs.Journal.Entry.{Session, Made, Did, Upgraded}
use Rattle.public_fold.specs.KeyStep.{key_step, next_epoch, no_keys, published, step_with}
use Rattle.public_fold.specs.Preparing.{begun}
use Rattle.journal_bytes.specs.Bytes.{batches_of, bodies_from, bodies_of, entry_body, keys_then}
use Rattle.journal_bytes.specs.Keys.{all_keys, drawn_by, entry_keys, keys_from, owner_parts, with_bytes}
use Rattle.journal_bytes.specs.Sealing.{keys_with}
use Rattle.journal_bytes.proofs.Grown.{all_keys-append, batch_number, next_body}
use Rattle.journal_bytes.proofs.NextEntry.{between, stand_between}

-- ---- batches

batches_more : (number epoch : ℕ) (bodies : List PlainBody) (body : PlainBody) → batches_from number epoch (bodies ++ body ∷ [])
    ≡ batches_from number epoch bodies ++ batch_of (number + length (batches_from number epoch bodies)) (last_epoch epoch (batches_from number epoch bodies)) body ∷ []
batches_more number epoch [] body = let same : number ≡ number + 0 = omega arith in ap (λ n. batch_of n epoch body ∷ []) same
batches_more number epoch (first ∷ bodies) body =
    let batch = batch_of number epoch first in
    let rest = batches_from batch.number batch.epoch bodies in
    let one = batch_number number epoch first in
    let many : batch.number + length rest ≡ number + length (batch ∷ rest) = omega (arith, one) in
    ap (λ l. batch ∷ l) (batches_more batch.number batch.epoch bodies body)
    ∙ ap (λ n. batch ∷ (rest ++ batch_of n (last_epoch batch.epoch rest) body ∷ [])) many

-- the batch of the next entry is the next one of a journal that stands for those before it
pub batches_then : (owner : List ℕ) (m : Journal) (entry : Entry) (j : JournalState) → IsJournalOf (batches_of owner m) j
    → batches_of owner (m ++ entry ∷ []) ≡ batches_of owner m ++ batch_of j.batches j.epoch (entry_body (all_keys owner (m ++ entry ∷ [])) (stand_after nothing m) entry) ∷ []
unfolding batches_of
batches_then owner m entry j is =
    let body = entry_body (all_keys owner (m ++ entry ∷ [])) (stand_after nothing m) entry in
    let bs = batches_from 0 0 (bodies_of owner m) in
    let known : j.batches ≡ length bs = is.batches in
    let many : 0 + length bs ≡ j.batches = omega (arith, known) in
    ap (batches_from 0 0) (next_body owner m entry)
    ∙ batches_more 0 0 (bodies_of owner m) body
    ∙ ap (λ n. bs ++ batch_of n (last_epoch 0 bs) body ∷ []) many
    ∙ ap (λ n. bs ++ batch_of j.batches n body ∷ []) (sym is.epoch)

-- ---- the epoch of the last batch

epoch_then : (keys : List KeyParts) (at : Stand) (entry : Entry) (number epoch : ℕ) → epoch ≡ at.keys.epoch → (batch_of number epoch (entry_body keys at entry)).epoch ≡ (entry_step at entry).after.epoch
unfolding entry_body entry_step note_step next_epoch key_step step_with published
epoch_then keys at Session number epoch e = ap (λ n. n + 1) e
epoch_then keys at (Made version drawn) number epoch e = e
epoch_then keys at (Did request drawn) number epoch e = e
epoch_then keys at (Upgraded drawn) number epoch e = e

epoch_after : (keys : List KeyParts) (at : Stand) (entries : List Entry) (number epoch : ℕ) → epoch ≡ at.keys.epoch
    → last_epoch epoch (batches_from number epoch (bodies_from keys at entries)) ≡ (stand_after at entries).keys.epoch
unfolding bodies_from stand_after stand_then
epoch_after keys at [] number epoch e = e
epoch_after keys at (entry ∷ entries) number epoch e =
    let then = keys_then keys at entry in
    let batch = batch_of number epoch (entry_body then at entry) in
    epoch_after then (stand_then at entry) entries batch.number batch.epoch (epoch_then then at entry number epoch e)

pub epoch_of : (owner : List ℕ) (m : Journal) → last_epoch 0 (batches_of owner m) ≡ (keys_of m).epoch
unfolding batches_of bodies_of keys_of nothing no_keys
epoch_of owner m = epoch_after (owner_parts owner ∷ []) nothing m 0 0 refl

-- ---- keys

pub keys_between : (owner : List ℕ) (m : Journal) (has_begun : Bool) → all_keys owner (between m has_begun) ≡ all_keys owner m
unfolding keys_from entry_keys entry_step drawn_by with_bytes
keys_between owner m true = ap (all_keys owner) (append-nil m)
keys_between owner m false = all_keys-append owner m (Session ∷ []) ∙ append-nil (all_keys owner m)

pub keys_drawn : (owner : List ℕ) (m : Journal) (has_begun : Bool) (entry : Entry)
    → keys_with (all_keys owner m) (entry_step (begun (not has_begun) (stand_after nothing m)) entry) (drawn_by entry) ≡ all_keys owner (between m has_begun ++ entry ∷ [])
unfolding keys_from entry_keys
keys_drawn owner m has_begun entry =
    sym (all_keys-append owner (between m has_begun) (entry ∷ [])
    ∙ ap (λ l. l ++ keys_from (stand_after nothing (between m has_begun)) (entry ∷ [])) (keys_between owner m has_begun)
    ∙ ap (λ at. all_keys owner m ++ keys_from at (entry ∷ [])) (stand_between m has_begun)
    ∙ ap (λ l. all_keys owner m ++ l) (append-nil (with_bytes (entry_step (begun (not has_begun) (stand_after nothing m)) entry).given (drawn_by entry))))
