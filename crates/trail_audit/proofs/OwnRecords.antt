-- The records that stand in a whole image are those that the journal published.
use Rattle.std.proofs.Common.{◌≡◌, ℕ, ◌+◌, List, [], ◌∷◌, ◌++◌, map, Ok, refl, ap, ◌∙◌}
use Rattle.std.specs.List.{flat_map}
use Rattle.record_format.specs.Plain.{PlainPayload}
use Rattle.record_format.specs.Fields.{and_then, byte_between}
use Rattle.record_format.specs.Reading.{payload_or_place, whole_payload, payload_at, note_at}
use Rattle.record_format.specs.Spelling.{spell_payload}
use Rattle.record_format.proofs.PayloadLaws.{reads_back}
use Rattle.commit_journal.specs.Gates.{gated, slot_payload}
use Rattle.commit_journal.specs.Image.{Batch}
use Rattle.commit_journal.specs.Laws.{batches_from, AreBodies}
use Rattle.commit_journal.specs.Placed.{PlainBody, Commands, NewEpoch}
use Rattle.commit_journal.proofs.Standings.{whole_unmasked}
use Rattle.public_fold.specs.Journal.{Journal}
use Rattle.journal_bytes.specs.Bytes.{bodies_of, batches_of}
use Rattle.journal_bytes.specs.Journals.{StandsWholeForJournal}
use Rattle.journal_bytes.proofs.Grown.{batches_fit}
use Rattle.journal_bytes.proofs.Spelled.{journal_spelled}
use Rattle.trail_audit.specs.Forged.{body_records, records_of}
use Rattle.trail_audit.specs.Records.{payload_records, read_payloads, payloads_in, records_in}

read_bytes : List ℕ → List PlainPayload
read_bytes payload = read_payloads (payload_or_place payload)

flat_map-map : {X Y Z : Type 0} (f : Y → List Z) (g : X → Y) (xs : List X) → flat_map (λ x. f (g x)) xs ≡ flat_map f (map g xs)
flat_map-map f g [] = refl
flat_map-map f g (x ∷ xs) = ap (λ r. f (g x) ++ r) (flat_map-map f g xs)

read_spelled : (p : PlainPayload) → payload_or_place (spell_payload p) ≡ Ok p → read_bytes (spell_payload p) ≡ p ∷ []
unfolding read_bytes read_payloads
read_spelled p is = ap read_payloads is

read_nothing : read_bytes [] ≡ []
unfolding read_bytes read_payloads whole_payload payload_at note_at and_then byte_between
read_nothing = refl

-- the records of the bodies, by the payloads of their batches
each_record : (number epoch : ℕ) (bodies : List PlainBody) → AreBodies epoch bodies →
    flat_map payload_records (flat_map read_bytes (map (λ (b : Batch). b.payload) (batches_from number epoch bodies))) ≡ flat_map body_records bodies
unfolding body_records
each_record number epoch [] are = refl
each_record number epoch (Commands payload ∷ bodies) are =
    let others = each_record (number + 1) epoch bodies are.2 in
    ap (λ r. flat_map payload_records (r ++ flat_map read_bytes (map (λ (b : Batch). b.payload) (batches_from (number + 1) epoch bodies))))
    (read_spelled payload (reads_back payload are.1))
    ∙ ap (λ r. payload_records payload ++ r) others
each_record number epoch (NewEpoch ∷ bodies) are =
    let others = each_record (number + 1) (epoch + 1) bodies are in
    ap (λ r. flat_map payload_records (r ++ flat_map read_bytes (map (λ (b : Batch). b.payload) (batches_from (number + 1) (epoch + 1) bodies)))) read_nothing ∙ others

pub whole_records : (owner : List ℕ) (m : Journal) (bytes : List ℕ) → StandsWholeForJournal owner m bytes → records_in bytes ≡ records_of owner m
unfolding records_in payloads_in records_of batches_of read_bytes
whole_records owner m bytes whole =
    let unmasked : map slot_payload (gated bytes) ≡ map (λ (b : Batch). b.payload) (batches_from 0 0 (bodies_of owner m)) =
    whole_unmasked owner (batches_of owner m) bytes whole.stands (batches_fit owner m whole.valid whole.whole_keys)
    in
    ap (flat_map payload_records) (flat_map-map read_bytes slot_payload (gated bytes) ∙ ap (flat_map read_bytes) unmasked)
    ∙ each_record 0 0 (bodies_of owner m) (journal_spelled owner m whole.valid whole.whole_keys)
