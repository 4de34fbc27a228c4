-- What a command leaves on the disk that met a fault of it: the journal before, with its session begun, or with the command.
use Rattle.std.proofs.Common.{◌≡◌, ◌≤◌, ⊎_elim, inl, inr, ℕ, false, cond, List, [], ◌∷◌, ◌++◌, Option, None, append-nil, append_assoc, refl, sym, ap, subst, ◌∙◌}
use Rattle.std.specs.Prelude.{is_some}
use Rattle.cry_io.specs.Told.{WhereBothTold}
use Rattle.cry_base.specs.Limits.{most_file_bytes, most_store_bytes}
use Rattle.commit_journal.specs.Holding.{IsBetween}
use Rattle.commit_journal.specs.Image.{Batch}
use Rattle.commit_journal.specs.Journals.{IsJournalOf, JournalState, MayJoin, next_command, next_epoch}
use Rattle.commit_journal.specs.Standing.{StandsFor, StandsWhole}
use Rattle.record_format.specs.Spelling.{spell_payload}
use Rattle.public_fold.specs.Journal.{Journal}
use Rattle.public_fold.specs.Journal.Entry.{Session}
use Rattle.journal_bytes.specs.Bytes.{batches_of, entry_body}
use Rattle.journal_bytes.specs.Journals.{StandsForJournal}
use Rattle.journal_bytes.proofs.NextBatches.{batches_then}
use Rattle.journal_bytes.proofs.NextEntry.{between}
use Rattle.journal_bytes.proofs.NextValid.{session_whole}
use Rattle.store_owner.specs.Deeds.{Deed, deed_answer, deed_entry, deed_then, Suits}
use Rattle.store_owner.specs.Applying.{IsInterrupted, IsSealed}
use Rattle.store_owner.specs.Owned.{IsOwnerOf, OwnerView, limits_in}
use Rattle.store_owner.proofs.DeedSteps.{deed_begun, deed_whole}
use Rattle.store_owner.proofs.OwnerGoesOn.{batches_are, between_owner, between_shown, between_stands, ends_low_is, told_some, valid_then}

module _ (m : Journal) (r : Deed) (drawn : List (List ℕ)) (old : OwnerView) (was shows : Option (List ℕ)) (is : IsOwnerOf m old) (low : old.journal.limit ≤ most_store_bytes) (bound : old.file_bytes ≤ most_file_bytes)
    (fine : deed_answer (limits_in old) m old.journal.has_epoch r ≡ None) (suits : Suits old.state.keys r) where
  abbrev begun : Journal
  begun = between m old.journal.has_epoch

  abbrev then : Journal
  then = deed_then m old.journal.has_epoch r drawn

  abbrev Left : List ℕ → Type 0
  Left y = IsBetween (StandsForJournal old.key) m then y

  at_first : (y : List ℕ) → StandsFor old.key (batches_of old.key m) y → Left y
  at_first y stands = record {
    held = m;
    from = ([], append-nil m);
    to = (cond old.journal.has_epoch [] (Session ∷ []) ++ deed_entry r drawn ∷ [], sym (append_assoc m (cond old.journal.has_epoch [] (Session ∷ [])) (deed_entry r drawn ∷ [])));
    stands_for = record { valid = is.valid; whole_keys = is.whole_keys; stands = stands };
  }

  once_begun : (y : List ℕ) → StandsFor old.key (batches_of old.key begun) y → Left y
  once_begun y stands = record {
    held = begun;
    from = (cond old.journal.has_epoch [] (Session ∷ []), refl);
    to = (deed_entry r drawn ∷ [], refl);
    stands_for = record {
      valid = deed_begun m old.journal.has_epoch r is.valid (ends_low_is m r old low fine);
      whole_keys = session_whole old.key m old.journal.has_epoch is.whole_keys;
      stands = stands;
    };
  }

  with_it : (s : IsSealed r drawn old was) (y : List ℕ) → StandsFor old.key (batches_of old.key then) y → Left y
  with_it s y stands = record {
    held = then;
    from = (cond old.journal.has_epoch [] (Session ∷ []) ++ deed_entry r drawn ∷ [], sym (append_assoc m (cond old.journal.has_epoch [] (Session ∷ [])) (deed_entry r drawn ∷ [])));
    to = ([], append-nil then);
    stands_for = record {
      valid = valid_then m r drawn old was is low bound fine suits s;
      whole_keys = deed_whole old.key m old.journal.has_epoch r drawn is.whole_keys s.drawn_sizes;
      stands = stands;
    };
  }

  -- the session wasn't begun, as far as is known
  early : old.journal.has_epoch ≡ false → (ready : JournalState) → ready ≡ record old.journal { room = ready.room } → MayJoin (next_epoch ready) ready was shows
      → WhereBothTold was shows (λ x y. StandsWhole old.key (batches_of old.key m) x → Left y)
  unfolding entry_body
  early none ready room may = λ x y e f whole.
      let stands : IsJournalOf (batches_of old.key m) ready =
      subst (IsJournalOf (batches_of old.key m)) (sym room) (record { batches = is.stands.batches; epoch = is.stands.epoch; end = is.stands.end; tag = is.stands.tag }) in
      let owner : ready.owner ≡ old.key = ap (λ (j : JournalState). j.owner) room ∙ is.same_key in
      let more : batches_of old.key (m ++ Session ∷ []) ≡ batches_of old.key m ++ next_epoch ready ∷ [] = batches_then old.key m Session ready stands in
      let session : m ++ Session ∷ [] ≡ begun = ap (λ b. m ++ cond b [] (Session ∷ [])) (sym none) in
      ⊎_elim
      (λ still. at_first y (subst (λ key. StandsFor key (batches_of old.key m) y) owner still))
      (λ joined. once_begun y (subst (λ n. StandsFor old.key (batches_of old.key n) y) session
      (subst (λ (bs : List Batch). StandsFor old.key bs y) (sym more) (subst (λ key. StandsFor key (batches_of old.key m ++ next_epoch ready ∷ []) y) owner joined))))
      (may (batches_of old.key m) stands x y e f (subst (λ key. StandsWhole key (batches_of old.key m) x) (sym owner) whole))

  -- it was, and the command wasn't committed, as far as is known
  late : (s : IsSealed r drawn old was) → MayJoin (next_command s.between (spell_payload s.payload)) s.between s.showed shows
      → WhereBothTold was shows (λ x y. StandsWhole old.key (batches_of old.key m) x → Left y)
  late s may = λ x y e f whole.
      let bs = batches_of old.key begun in
      let command = next_command s.between (spell_payload s.payload) in
      let owner = between_owner m r drawn old was is low bound fine suits s in
      let some = told_some s.showed (s.stays_told ∙ ap (λ (o : Option (List ℕ)). is_some o) e) in
      ⊎_elim
      (λ still. once_begun y (subst (λ key. StandsFor key bs y) owner still))
      (λ joined. with_it s y (subst (λ (bs : List Batch). StandsFor old.key bs y) (sym (batches_are m r drawn old was is low bound fine suits s)) (subst (λ key. StandsFor key (bs ++ command ∷ []) y) owner joined)))
      (may bs (between_stands m r drawn old was is low bound fine suits s) some.0 y some.1 f (between_shown m r drawn old was is low bound fine suits s x some.0 e some.1 whole))

  pub cut_short : IsInterrupted r drawn old was shows → WhereBothTold was shows (λ x y. StandsWhole old.key (batches_of old.key m) x → Left y)
  cut_short (inl fault) = early fault.0 fault.1.0 fault.1.1 fault.1.2
  cut_short (inr fault) = late fault.0 fault.1
