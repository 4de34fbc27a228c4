-- The writes that make a store, as its journal hands them one after another.
use Rattle.std.proofs.Common.{◌≡◌, ◌≤◌, ◌+◌, ℕ, List, [], ◌∷◌, ◌++◌, Option, append_assoc, arith, sym, ap, subst, ◌∙◌}
use Rattle.batch_log.proofs.Handed.{hands_before, hands_done, hands_then}
use Rattle.commit_journal.specs.Handing.{Hands, Write, header_writes, joining_writes, log_writes}
use Rattle.commit_journal.specs.Holding.{GoesOn}
use Rattle.commit_journal.specs.Journals.{IsBehind, IsJournalOf, JournalState, command_batch, empty_journal, epoch_batch, next_command, next_epoch}
use Rattle.record_format.specs.Plain.{PlainPayload}
use Rattle.record_format.specs.Spelling.{spell_payload}
use Rattle.store_owner.specs.Making.{made_writes}
use Rattle.store_owner.specs.Stopping.{HasAdded, ShowsWritten}
use Rattle.store_owner.proofs.HandedBatches.{hands_one, log_both, shows_both}

module _ (owner : List ℕ) (payload : PlainPayload) where
  abbrev pub epoch_writes : List Write
  epoch_writes = log_writes owner [] (epoch_batch 1 1 ∷ [])

  abbrev pub root_writes : List Write
  root_writes = log_writes owner (epoch_batch 1 1 ∷ []) (command_batch 2 1 (spell_payload payload) ∷ [])

  made_is : made_writes owner payload ≡ (header_writes owner ++ epoch_writes) ++ root_writes
  unfolding made_writes
  made_is =
      ap (λ (ws : List Write). header_writes owner ++ ws) (log_both owner [] (epoch_batch 1 1 ∷ []) (command_batch 2 1 (spell_payload payload) ∷ []))
      ∙ sym (append_assoc (header_writes owner) epoch_writes root_writes)

  -- the header alone, as far as is known
  pub header_hands : (failed : Type 0) (was one : Option (List ℕ)) (since : List ℕ → List ℕ → Type 0) → Hands (header_writes owner) failed was one since
      → Hands (made_writes owner payload) (Unit {0}) was one since
  header_hands failed was one since hands =
      subst (λ (ws : List Write). Hands ws (Unit {0}) was one since) (sym (made_is ∙ append_assoc (header_writes owner) epoch_writes root_writes))
      (hands_before (header_writes owner) (epoch_writes ++ root_writes) failed (Unit {0}) was one since (λ fault. tt) hands)

  -- and the first epoch's batch
  early : (failed : Type 0) (was one two : Option (List ℕ)) (first start : ℕ) (past since : ℕ → List ℕ → List ℕ → Type 0) → first ≤ start → GoesOn start past since
      → ShowsWritten (header_writes owner) was one → Hands (header_writes owner) failed was one (past first) → Hands epoch_writes (Unit {0}) one two (since start)
      → Hands (header_writes owner ++ epoch_writes) (Unit {0}) was two (since first)
  early failed was one two first start past since order goes all header epoch =
      hands_then (header_writes owner) epoch_writes ⊥ (Unit {0}) was one two first start past since (λ never. never) order goes all
      (hands_done (header_writes owner) failed was one (past first) all header) epoch

  pub epoch_hands : (failed : Type 0) (was one two : Option (List ℕ)) (first start : ℕ) (past since : ℕ → List ℕ → List ℕ → Type 0) → first ≤ start → GoesOn start past since
      → ShowsWritten (header_writes owner) was one → Hands (header_writes owner) failed was one (past first) → Hands epoch_writes (Unit {0}) one two (since start)
      → Hands (made_writes owner payload) (Unit {0}) was two (since first)
  epoch_hands failed was one two first start past since order goes all header epoch =
      subst (λ (ws : List Write). Hands ws (Unit {0}) was two (since first)) (sym made_is)
      (hands_before (header_writes owner ++ epoch_writes) root_writes (Unit {0}) (Unit {0}) was two (since first) (λ fault. fault)
      (early failed was one two first start past since order goes all header epoch))

  -- and the root's
  pub root_hands : (failed : Type 0) (was one two three : Option (List ℕ)) (first start next : ℕ) (past since later : ℕ → List ℕ → List ℕ → Type 0) → first ≤ start → start ≤ next
      → GoesOn start past since → GoesOn next since later → ShowsWritten (header_writes owner) was one → ShowsWritten epoch_writes one two
      → Hands (header_writes owner) failed was one (past first) → Hands epoch_writes (Unit {0}) one two (since start) → Hands root_writes (Unit {0}) two three (later next)
      → Hands (made_writes owner payload) (Unit {0}) was three (later first)
  root_hands failed was one two three first start next past since later order more goes on all begun header epoch root =
      let front = header_writes owner ++ epoch_writes in
      let both = shows_both (header_writes owner) epoch_writes was one two all begun in
      subst (λ (ws : List Write). Hands ws (Unit {0}) was three (later first)) (sym made_is)
      (hands_then front root_writes ⊥ (Unit {0}) was two three first next since later (λ never. never) (omega (arith, order, more)) on both
      (hands_done front (Unit {0}) was two (since first) both (early failed was one two first start past since order goes all header epoch)) root)

  pub all_done : (was one two three : Option (List ℕ)) → ShowsWritten (header_writes owner) was one → ShowsWritten epoch_writes one two → ShowsWritten root_writes two three
      → ShowsWritten (made_writes owner payload) was three
  all_done was one two three all begun done =
      subst (λ (ws : List Write). ShowsWritten ws was three) (sym made_is)
      (shows_both (header_writes owner ++ epoch_writes) root_writes was two three (shows_both (header_writes owner) epoch_writes was one two all begun) done)

  -- the journals that commit the two
  module _ (start none : JournalState) (empty : none ≡ empty_journal owner start.limit start) where
    none_owner : none.owner ≡ owner
    none_owner = ap (λ (j : JournalState). j.owner) empty

    none_batches : none.batches ≡ 0
    none_batches = ap (λ (j : JournalState). j.batches) empty

    none_epoch : none.epoch ≡ 0
    none_epoch = ap (λ (j : JournalState). j.epoch) empty

    pub first_writes : log_writes none.owner [] (next_epoch none ∷ []) ≡ epoch_writes
    first_writes = λ i. log_writes (none_owner i) [] (epoch_batch (none_batches i + 1) (none_epoch i + 1) ∷ [])

    pub second_writes : (first : JournalState) → IsBehind (next_epoch none) none first
        → log_writes first.owner (next_epoch none ∷ []) (next_command first (spell_payload payload) ∷ []) ≡ root_writes
    second_writes first began =
        let same : first.owner ≡ owner = began.owner ∙ none_owner in
        let count : first.batches ≡ 1 = began.batches ∙ ap (λ n. n + 1) none_batches in
        let epoch : first.epoch ≡ 1 = began.epoch ∙ ap (λ n. n + 1) none_epoch in
        λ i. log_writes (same i) (epoch_batch (none_batches i + 1) (none_epoch i + 1) ∷ []) (command_batch (count i + 1) (epoch i) (spell_payload payload) ∷ [])

    pub first_hands : (failed : Type 0) (one two : Option (List ℕ)) (since : List ℕ → List ℕ → Type 0) → IsJournalOf [] none → Hands (joining_writes (next_epoch none) none) failed one two since
        → Hands epoch_writes (Unit {0}) one two since
    first_hands failed one two since stands hands =
        subst (λ (ws : List Write). Hands ws (Unit {0}) one two since) first_writes (hands_one (next_epoch none) none failed one two since hands [] stands)

    pub first_done : (one two : Option (List ℕ)) → IsJournalOf [] none → HasAdded (next_epoch none ∷ []) none one two → ShowsWritten epoch_writes one two
    first_done one two stands added = subst (λ (ws : List Write). ShowsWritten ws one two) first_writes (added [] stands)

    module _ (first : JournalState) (began : IsBehind (next_epoch none) none first) (of : IsJournalOf (next_epoch none ∷ []) first) where
      pub second_hands : (failed : Type 0) (two three : Option (List ℕ)) (since : List ℕ → List ℕ → Type 0)
          → Hands (joining_writes (next_command first (spell_payload payload)) first) failed two three since → Hands root_writes (Unit {0}) two three since
      second_hands failed two three since hands =
          subst (λ (ws : List Write). Hands ws (Unit {0}) two three since) (second_writes first began)
          (hands_one (next_command first (spell_payload payload)) first failed two three since hands (next_epoch none ∷ []) of)

      pub second_done : (two three : Option (List ℕ)) → HasAdded (next_command first (spell_payload payload) ∷ []) first two three → ShowsWritten root_writes two three
      second_done two three added = subst (λ (ws : List Write). ShowsWritten ws two three) (second_writes first began) (added (next_epoch none ∷ []) of)
