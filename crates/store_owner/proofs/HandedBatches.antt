-- The writes by which batches join a log, and by which a journal becomes a longer one.
use Rattle.std.proofs.Common.{◌≡◌, ◌≤◌, ◌+◌, ℕ, Bool, true, false, cond, List, [], ◌∷◌, ◌++◌, length, drop, Option, Some, append-nil, append_assoc, sym, ap, subst, ◌∙◌}
use Rattle.std.specs.Prelude.{is_some}
use Rattle.std.proofs.lemmas.Bool.{false≢true}
use Rattle.std.proofs.Math.Seq.{drop-append_seam}
use Rattle.cry_io.specs.Told.{WhereBothTold}
use Rattle.batch_log.proofs.Handed.{all_both, hands_before, hands_done, hands_failing, hands_then, shows_all}
use Rattle.commit_journal.specs.Handing.{Hands, Write, batch_writes, joining_writes, log_writes}
use Rattle.batch_log.specs.Handing.{all_written}
use Rattle.commit_journal.specs.Holding.{GoesOn, IsPrefix}
use Rattle.commit_journal.specs.Image.{Batch, batch_veil, empty_slot, image, spell_batch}
use Rattle.commit_journal.specs.Journals.{IsJournalOf, JournalState}
use Rattle.commit_journal.specs.Standing.{last_tag}
use Rattle.public_fold.specs.Journal.{Journal}
use Rattle.journal_bytes.specs.Bytes.{batches_of}
use Rattle.journal_bytes.proofs.Grown.{batches_grow}
use Rattle.store_owner.specs.Stopping.{HasAdded, ShowsWritten, journal_writes}

-- ---- batches

-- a journal's next batch
pub joining_is : (b : Batch) (bs : List Batch) (j : JournalState) → IsJournalOf bs j → joining_writes b j ≡ log_writes j.owner bs (b ∷ [])
unfolding log_writes
joining_is b bs j of =
    ap (λ n. batch_writes n (spell_batch j.owner j.tag empty_slot b ++ 0 ∷ []) (batch_veil j.owner b)) of.end
    ∙ ap (λ t. batch_writes (length (image j.owner bs) + 1) (spell_batch j.owner t empty_slot b ++ 0 ∷ []) (batch_veil j.owner b)) of.tag

pub hands_one : (b : Batch) (j : JournalState) (failed : Type 0) (was shows : Option (List ℕ)) (since : List ℕ → List ℕ → Type 0)
    → Hands (joining_writes b j) failed was shows since → (bs : List Batch) → IsJournalOf bs j → Hands (log_writes j.owner bs (b ∷ [])) (Unit {0}) was shows since
hands_one b j failed was shows since hands bs of =
    hands_failing (log_writes j.owner bs (b ∷ [])) failed (Unit {0}) was shows since (λ fault. tt)
    (subst (λ (ws : List Write). Hands ws failed was shows since) (joining_is b bs j of) hands)

pub added_one : (b : Batch) (j : JournalState) (was shows : Option (List ℕ)) → is_some shows ≡ is_some was
    → WhereBothTold was shows (λ x y. y ≡ all_written (joining_writes b j) x) → HasAdded (b ∷ []) j was shows
added_one b j was shows told written bs of =
    subst (λ (ws : List Write). ShowsWritten ws was shows) (joining_is b bs j of) (shows_all (joining_writes b j) was shows told written)

-- the batch that begins an epoch, where none was begun
pub added_epoch : (has : Bool) (b : Batch) (j : JournalState) (was shows : Option (List ℕ)) → has ≡ false → is_some shows ≡ is_some was
    → WhereBothTold was shows (λ x y. y ≡ all_written (joining_writes b j) x) → HasAdded (cond has [] (b ∷ [])) j was shows
added_epoch true b j was shows none told written = absurd (false≢true (sym none))
added_epoch false b j was shows none told written = added_one b j was shows told written

pub added_none : (has : Bool) (b : Batch) (j : JournalState) (was : Option (List ℕ)) → has ≡ true → HasAdded (cond has [] (b ∷ [])) j was was
unfolding log_writes all_written
added_none true b j was has bs of = λ x x_is. x_is
added_none false b j was has bs of = absurd (false≢true has)

-- ---- lists of batches, one behind the other

pub log_both : (owner : List ℕ) (bs xs ys : List Batch) → log_writes owner bs (xs ++ ys) ≡ log_writes owner bs xs ++ log_writes owner (bs ++ xs) ys
unfolding log_writes
log_both owner bs [] ys = ap (λ (l : List Batch). log_writes owner l ys) (sym (append-nil bs))
log_both owner bs (b ∷ xs) ys =
    let here = batch_writes (length (image owner bs) + 1) (spell_batch owner (last_tag owner bs) empty_slot b ++ 0 ∷ []) (batch_veil owner b) in
    ap (λ (ws : List Write). here ++ ws)
    (log_both owner (bs ++ b ∷ []) xs ys ∙ ap (λ (l : List Batch). log_writes owner (bs ++ b ∷ []) xs ++ log_writes owner l ys) (append_assoc bs (b ∷ []) xs))
    ∙ sym (append_assoc here (log_writes owner (bs ++ b ∷ []) xs) (log_writes owner (bs ++ b ∷ xs) ys))

-- writes, and then others
pub shows_both : (ws more : List Write) (was one two : Option (List ℕ)) → ShowsWritten ws was one → ShowsWritten more one two → ShowsWritten (ws ++ more) was two
shows_both ws more was one two first second x x_is = second (all_written ws x) (first x x_is) ∙ ap Some (sym (all_both ws more x))

-- ---- journals

pub journal_writes_are : (key : List ℕ) (low high : Journal) (added : List Batch) → batches_of key high ≡ batches_of key low ++ added
    → journal_writes key low high ≡ log_writes key (batches_of key low) added
journal_writes_are key low high added more =
    let bs = batches_of key low in
    ap (λ (l : List Batch). log_writes key bs (drop (length bs) l)) more ∙ ap (λ (l : List Batch). log_writes key bs l) (drop-append_seam bs added)

pub no_writes : (key : List ℕ) (m : Journal) → journal_writes key m m ≡ []
unfolding log_writes
no_writes key m = journal_writes_are key m m [] (sym (append-nil (batches_of key m)))

pub writes_both : (key : List ℕ) (low middle high : Journal) → IsPrefix low middle → IsPrefix middle high
    → journal_writes key low high ≡ journal_writes key low middle ++ journal_writes key middle high
writes_both key low middle high lower higher =
    let first = batches_grow key low middle lower in
    let then = batches_grow key middle high higher in
    let bs = batches_of key low in
    journal_writes_are key low high (first.0 ++ then.0) (sym then.1 ∙ ap (λ (l : List Batch). l ++ then.0) (sym first.1) ∙ append_assoc bs first.0 then.0)
    ∙ log_both key bs first.0 then.0
    ∙ ap (λ (l : List Batch). log_writes key bs first.0 ++ log_writes key l then.0) first.1
    ∙ ap (λ (ws : List Write). ws ++ log_writes key (batches_of key middle) then.0) (sym (journal_writes_are key low middle first.0 (sym first.1)))
    ∙ ap (λ (ws : List Write). journal_writes key low middle ++ ws) (sym (journal_writes_are key middle high then.0 (sym then.1)))

-- a call that writes nothing
pub handed_nothing : (key : List ℕ) (m : Journal) (was : Option (List ℕ)) → ShowsWritten (journal_writes key m m) was was
unfolding all_written
handed_nothing key m was x x_is = x_is ∙ ap (λ (ws : List Write). Some (all_written ws x)) (sym (no_writes key m))

-- one that writes up to a journal in between, and no further as far as is known
pub hands_to : (key : List ℕ) (low middle high : Journal) (was shows : Option (List ℕ)) (since : List ℕ → List ℕ → Type 0) → IsPrefix low middle → IsPrefix middle high
    → Hands (journal_writes key low middle) (Unit {0}) was shows since → Hands (journal_writes key low high) (Unit {0}) was shows since
hands_to key low middle high was shows since lower higher hands =
    subst (λ (ws : List Write). Hands ws (Unit {0}) was shows since) (sym (writes_both key low middle high lower higher))
    (hands_before (journal_writes key low middle) (journal_writes key middle high) (Unit {0}) (Unit {0}) was shows since (λ fault. fault) hands)

-- two calls, of which the first did all its writes
pub hands_both : (key : List ℕ) (low middle high : Journal) (was showed shows : Option (List ℕ)) (start first : ℕ) (past since : ℕ → List ℕ → List ℕ → Type 0)
    → first ≤ start → GoesOn start past since → IsPrefix low middle → IsPrefix middle high → ShowsWritten (journal_writes key low middle) was showed
    → Hands (journal_writes key low middle) (Unit {0}) was showed (past first) → Hands (journal_writes key middle high) (Unit {0}) showed shows (since start)
    → Hands (journal_writes key low high) (Unit {0}) was shows (since first)
hands_both key low middle high was showed shows start first past since before goes lower higher all one two =
    let early = journal_writes key low middle in
    let late = journal_writes key middle high in
    subst (λ (ws : List Write). Hands ws (Unit {0}) was shows (since first)) (sym (writes_both key low middle high lower higher))
    (hands_then early late ⊥ (Unit {0}) was showed shows first start past since (λ never. never) before goes all
    (hands_done early (Unit {0}) was showed (past first) all one) two)

pub handed_both : (key : List ℕ) (low middle high : Journal) (was showed shows : Option (List ℕ)) → IsPrefix low middle → IsPrefix middle high
    → ShowsWritten (journal_writes key low middle) was showed → ShowsWritten (journal_writes key middle high) showed shows → ShowsWritten (journal_writes key low high) was shows
handed_both key low middle high was showed shows lower higher one two =
    subst (λ (ws : List Write). ShowsWritten ws was shows) (sym (writes_both key low middle high lower higher))
    (shows_both (journal_writes key low middle) (journal_writes key middle high) was showed shows one two)
