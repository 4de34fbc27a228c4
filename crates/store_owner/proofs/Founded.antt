-- The journal and the bytes of a store once its two batches are committed.
use Rattle.std.proofs.Common.{◌≡◌, ℕ, ◌+◌, List, [], ◌∷◌, ◌++◌, Option, arith, sym, ap, ◌∙◌}
use Rattle.std.specs.Prelude.{false, is_some, max}
use Rattle.cry_base.specs.Layout.{batch_len, header_len}
use Rattle.key_links.specs.Fresh.{fresh_store_len, root_payload_len}
use Rattle.cry_io.specs.Told.{WhereTold}
use Rattle.cry_io.proofs.ToldLemmas.{told_again}
use Rattle.record_format.specs.Plain.{PlainPayload}
use Rattle.record_format.specs.Sizes.{payload_size}
use Rattle.record_format.specs.Spellable.{IsSpellable}
use Rattle.record_format.specs.Spelling.{spell_payload}
use Rattle.record_format.proofs.Lengths.{length-spell_payload}
use Rattle.commit_journal.specs.Image.{image}
use Rattle.commit_journal.specs.Journals.{IsBehind, IsJournalOf, JournalState, Joins, command_batch, empty_journal, epoch_batch, next_command, next_epoch}
use Rattle.store_owner.specs.Making.{IsMadeJournal, made_batches}

module _ (owner : List ℕ) (payload : PlainPayload) (start none first second last : JournalState)
    (spellable : IsSpellable payload) (size : payload_size payload ≡ root_payload_len) (empty : none ≡ empty_journal owner start.limit start)
    (began : IsBehind (next_epoch none) none first) (did : IsBehind (next_command first (spell_payload payload)) first second) where
  none_owner : none.owner ≡ owner
  none_owner = ap (λ (j : JournalState). j.owner) empty

  none_batches : none.batches ≡ 0
  none_batches = ap (λ (j : JournalState). j.batches) empty

  none_epoch : none.epoch ≡ 0
  none_epoch = ap (λ (j : JournalState). j.epoch) empty

  none_end : none.end ≡ header_len
  none_end = ap (λ (j : JournalState). j.end) empty

  first_owner : first.owner ≡ owner
  first_owner = began.owner ∙ none_owner

  first_batches : first.batches ≡ 1
  first_batches = began.batches ∙ ap (λ n. n + 1) none_batches

  first_epoch : first.epoch ≡ 1
  first_epoch = began.epoch ∙ ap (λ n. n + 1) none_epoch

  pub first_end : first.end ≡ 152
  first_end = began.end ∙ ap (λ n. n + batch_len) none_end

  pub second_end : second.end ≡ fresh_store_len
  second_end = let long = length-spell_payload payload spellable in let e = did.end in let f = first_end in omega (arith, e, f, long, size)

  pub made_state : last ≡ record second { has_epoch = false } → IsMadeJournal owner start.limit last
  made_state is = record {
    has_owner = ap (λ (j : JournalState). j.owner) is ∙ did.owner ∙ first_owner;
    two_batches = ap (λ (j : JournalState). j.batches) is ∙ did.batches ∙ ap (λ n. n + 1) first_batches;
    first_epoch = ap (λ (j : JournalState). j.epoch) is ∙ did.epoch ∙ first_epoch;
    not_begun = ap (λ (j : JournalState). j.has_epoch) is;
    ends_at = ap (λ (j : JournalState). j.end) is ∙ second_end;
    same_limit = ap (λ (j : JournalState). j.limit) is ∙ did.limit ∙ began.limit ∙ ap (λ (j : JournalState). j.limit) empty;
    is_open = ap (λ (j : JournalState). j.is_closed) is ∙ did.open_still ∙ began.open_still ∙ ap (λ (j : JournalState). j.is_closed) empty;
  }

  pub made_shows : (was one two : Option (List ℕ)) → IsJournalOf [] none → WhereTold was (λ s. s ≡ image owner [] ++ 0 ∷ []) → is_some one ≡ is_some was → is_some two ≡ is_some one
      → Joins (next_epoch none) none first was one → Joins (next_command first (spell_payload payload)) first second one two
      → WhereTold two (λ s. s ≡ image owner (made_batches payload) ++ 0 ∷ [])
  made_shows was one two stands shows told_one told_two begins does = λ z is.
      let y = told_again two one z (sym told_two) is in
      let x = told_again one was y.0 (sym told_one) y.1 in
      let x_is = shows x.0 x.1 ∙ ap (λ o. image o [] ++ 0 ∷ []) (sym none_owner) in
      let y_is = begins.ended [] stands x.0 y.0 x.1 y.1 x_is ∙ ap (λ o. image o (next_epoch none ∷ []) ++ 0 ∷ []) (none_owner ∙ sym first_owner) in
      does.ended (next_epoch none ∷ []) (begins.stands [] stands) y.0 z y.1 is y_is
      ∙ (λ i. image (first_owner i) (epoch_batch (none_batches i + 1) (none_epoch i + 1) ∷ command_batch (first_batches i + 1) (first_epoch i) (spell_payload payload) ∷ []) ++ 0 ∷ [])

  pub made_size : (low one two : ℕ) → low ≡ header_len → one ≡ max low first.end → two ≡ max one second.end → two ≡ fresh_store_len
  made_size low one two a b c =
      let at_one : one ≡ 152 = b ∙ (λ i. max (a i) (first_end i)) in
      c ∙ (λ i. max (at_one i) (second_end i))
