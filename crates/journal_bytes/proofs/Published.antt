-- What readers see of bytes that stand for a journal: the journal as the bytes publish it.
use Rattle.std.proofs.Common.{◌≡◌, ℕ, ◌+◌, ◌≤◌, true, false, cond, List, [], ◌∷◌, length, All, Ok, arith, refl, sym, ap, subst, ◌∙◌}
use Rattle.cry_base.specs.Layout.{header_len}
use Rattle.cry_base.specs.Limits.{most_store_bytes}
use Rattle.chacha_seal.specs.Keys.{KeyParts}
use Rattle.commit_journal.specs.Image.{Batch, image}
use Rattle.commit_journal.specs.Laws.{batches_from, placed_from, AreBodies}
use Rattle.commit_journal.specs.Log.{log_verdict}
use Rattle.commit_journal.specs.Publishing.{is_last_published, without_last, published_of, IsHonest, last_slot}
use Rattle.commit_journal.specs.Standing.{HasSizes, StandsFor}
use Rattle.commit_journal.proofs.Standings.{length-image, last_slot_standing}
use Rattle.commit_journal.proofs.Stopped.{verdict_standing}
use Rattle.public_fold.specs.Journal.{Entry, Journal, Stand, nothing, stand_then}
use Rattle.public_fold.specs.Lengths.{end_of}
use Rattle.public_fold.specs.Valid.{BeginsWell}
use Rattle.journal_bytes.specs.Bytes.{keys_then, entry_body, bodies_from, bodies_of, batches_of, image_of}
use Rattle.journal_bytes.specs.Journals.{StandsForJournal, published_journal, IsHonestFor}
use Rattle.journal_bytes.specs.Keys.{owner_parts}
use Rattle.journal_bytes.proofs.Grown.{batches_fit}
use Rattle.journal_bytes.proofs.Weighed.{valid_weighs}

bodies_without_last : (keys : List KeyParts) (at : Stand) (entries : List Entry) → bodies_from keys at (without_last entries) ≡ without_last (bodies_from keys at entries)
unfolding bodies_from without_last
bodies_without_last keys at [] = refl
bodies_without_last keys at (a ∷ []) = refl
bodies_without_last keys at (a ∷ b ∷ entries) =
    ap (λ r. entry_body (keys_then keys at a) at a ∷ r) (bodies_without_last (keys_then keys at a) (stand_then at a) (b ∷ entries))

-- what is published of a journal's bodies is what the published journal carries
bodies_published : (owner slot : List ℕ) (bs : List Batch) (m : Journal) → bodies_of owner (published_of owner slot bs m) ≡ published_of owner slot bs (bodies_of owner m)
unfolding published_of bodies_of
bodies_published owner slot bs m =
    elim (is_last_published owner slot bs) as (λ test. bodies_from (owner_parts owner ∷ []) nothing (cond test m (without_last m)) ≡ cond test (bodies_from (owner_parts owner ∷ []) nothing m) (without_last (bodies_from (owner_parts owner ∷ []) nothing m))) [
      | true ↦ refl
      | false ↦ bodies_without_last (owner_parts owner ∷ []) nothing m
    ]

slot_is : (owner : List ℕ) (bs : List Batch) (bytes : List ℕ) (stands : StandsFor owner bs bytes) → All HasSizes bs → (bs ≡ [] → ⊥) → last_slot bytes ≡ stands.slot
slot_is owner [] bytes stands sizes some = absurd (some refl)
slot_is owner (b ∷ bs) bytes stands sizes some = last_slot_standing owner b bs bytes stands sizes

has_batches : (owner : List ℕ) (m : Journal) → BeginsWell m → batches_of owner m ≡ [] → ⊥
unfolding batches_of bodies_of bodies_from
has_batches owner [] begins none = begins
has_batches owner (entry ∷ entries) begins none = cc

pub journal_read : (owner : List ℕ) (m : Journal) (bytes : List ℕ) → StandsForJournal owner m bytes → AreBodies 0 (bodies_of owner m) → IsHonestFor owner bytes m →
    log_verdict owner bytes ≡ Ok (placed_from header_len 0 0 (bodies_of owner (published_journal owner bytes m)))
unfolding published_journal batches_of image_of
journal_read owner m bytes stands are honest =
    let bs = batches_from 0 0 (bodies_of owner m) in
    let sizes = batches_fit owner m stands.valid stands.whole_keys in
    let slot : last_slot bytes ≡ stands.stands.slot = slot_is owner bs bytes stands.stands sizes (has_batches owner m stands.valid.0) in
    let size : length (image owner bs) + 1 ≡ end_of m = valid_weighs owner m stands.valid stands.whole_keys in
    let long = length-image owner bs in
    let end : end_of m ≤ most_store_bytes = stands.valid.1 in
    verdict_standing owner (bodies_of owner m) bytes stands.stands are (omega arith) (subst (λ (s : List ℕ). IsHonest owner s bs) slot honest)
    ∙ ap (λ s. Ok (placed_from header_len 0 0 (published_of owner s bs (bodies_of owner m)))) (sym slot)
    ∙ ap (λ bodies. Ok (placed_from header_len 0 0 bodies)) (sym (bodies_published owner (last_slot bytes) bs m))
