-- A journal that was opened on bytes that stand for batches stands for these batches.
use Rattle.std.proofs.Common.{◌≡◌, ◌≤◌, ◌⊎◌, inl, inr, ℕ, ◌+◌, true, false, List, length, Option, None, Some, Ok, refl, sym, ap, subst, ◌∙◌}
use Rattle.std.specs.Prelude.{is_some}
use Rattle.cry_base.specs.Layout.{header_len}
use Rattle.cry_base.specs.Limits.{most_store_bytes}
use Rattle.cry_io.specs.Stops.{IsDurable}
use Rattle.cry_io.specs.Told.{WhereBothTold}
use Rattle.commit_journal.specs.declared.fault.OpenFault.{OpenFault}
use Rattle.commit_journal.specs.declared.fault.OpenFault.TheVariants as faults
use Rattle.commit_journal.specs.declared.opening.Opened.{Opened}
use Rattle.commit_journal.specs.Answering.{IsFault}
use Rattle.commit_journal.specs.Holding.{IsSettled}
use Rattle.commit_journal.specs.Image.{image}
use Rattle.commit_journal.specs.Journals.{IsJournalOf}
use Rattle.commit_journal.specs.Laws.{batches_from, placed_from}
use Rattle.commit_journal.specs.Opening.{IsOpened, OwnedLog, opening_verdict, plain_opened, slots_filled}
use Rattle.commit_journal.specs.Placed.{PlainBody, plain_log}
use Rattle.commit_journal.specs.Standing.{StandsWhole, last_tag}
use Rattle.commit_journal.specs.WholeLogs.{StandsWithin, whole_log}
use Rattle.commit_journal.proofs.Refilled.{filled_whole}
use Rattle.commit_journal.proofs.Reopened.{opened_standing}

-- the log that was opened is that of the batches
opened_whole : (limit : ℕ) (owner : List ℕ) (bodies : List PlainBody) (bytes : List ℕ) (o : Opened) → limit ≤ most_store_bytes → StandsWithin limit owner bodies bytes →
    opening_verdict limit owner bytes ≡ Ok (plain_opened o) → plain_opened o ≡ whole_log owner bodies
opened_whole limit owner bodies bytes o known within is =
    let both : Ok (plain_opened o) ≡ Ok (whole_log owner bodies) = sym is ∙ opened_standing limit owner bodies bytes known within in cc

pub placed_whole : (limit : ℕ) (owner : List ℕ) (bodies : List PlainBody) (bytes : List ℕ) (o : Opened) → limit ≤ most_store_bytes → StandsWithin limit owner bodies bytes →
    opening_verdict limit owner bytes ≡ Ok (plain_opened o) → plain_log o.placed ≡ placed_from header_len 0 0 bodies
placed_whole limit owner bodies bytes o known within is = ap (λ (log : OwnedLog). log.placed) (opened_whole limit owner bodies bytes o known within is)

pub journal_whole : (limit : ℕ) (owner : List ℕ) (bodies : List PlainBody) (bytes : List ℕ) (o : Opened) → limit ≤ most_store_bytes → StandsWithin limit owner bodies bytes →
    opening_verdict limit owner bytes ≡ Ok (plain_opened o) → IsOpened owner limit o.journal → IsJournalOf (batches_from 0 0 bodies) o.journal
journal_whole limit owner bodies bytes o known within is opened =
    let log = opened_whole limit owner bodies bytes o known within is in
    let bs = batches_from 0 0 bodies in
    record {
      batches = ap (λ (l : OwnedLog). l.batches) log;
      epoch = ap (λ (l : OwnedLog). l.epoch) log;
      end = ap (λ (l : OwnedLog). l.end) log ∙ ap (λ key. length (image key bs) + 1) (sym opened.key);
      tag = ap (λ (l : OwnedLog). l.tag) log ∙ ap (λ key. last_tag key bs) (sym opened.key);
    }

pub slots_whole : (limit : ℕ) (owner : List ℕ) (bodies : List PlainBody) (bytes : List ℕ) (o : Opened) → limit ≤ most_store_bytes → StandsWithin limit owner bodies bytes →
    opening_verdict limit owner bytes ≡ Ok (plain_opened o) → StandsWhole owner (batches_from 0 0 bodies) (slots_filled owner (plain_log o.placed) bytes)
slots_whole limit owner bodies bytes o known within is =
    subst (λ placed. StandsWhole owner (batches_from 0 0 bodies) (slots_filled owner placed bytes)) (sym (placed_whole limit owner bodies bytes o known within is))
    (filled_whole owner bodies bytes within.0)

-- no test fails
pub not_refused : (limit : ℕ) (owner : List ℕ) (bodies : List PlainBody) (bytes : List ℕ) (fault : OpenFault) → limit ≤ most_store_bytes → StandsWithin limit owner bodies bytes →
    IsFault fault (opening_verdict limit owner bytes) → (fault ≡ faults.DiskFault) ⊎ (fault ≡ faults.OutOfMemory)
not_refused limit owner bodies bytes faults.NotAStore known within is = let ok = sym (opened_standing limit owner bodies bytes known within) ∙ is in absurd (cc)
not_refused limit owner bodies bytes faults.WrongKey known within is = let ok = sym (opened_standing limit owner bodies bytes known within) ∙ is in absurd (cc)
not_refused limit owner bodies bytes (faults.Damaged at) known within is = let ok = sym (opened_standing limit owner bodies bytes known within) ∙ is in absurd (cc)
not_refused limit owner bodies bytes (faults.Tampered batch at) known within is = let ok = sym (opened_standing limit owner bodies bytes known within) ∙ is in absurd (cc)
not_refused limit owner bodies bytes faults.DiskFault known within is = inl refl
not_refused limit owner bodies bytes faults.OutOfMemory known within is = inr refl

-- ---- the disk

-- what the disk shows once the slots are filled stands whole, and a stop leaves nothing else
pub opened_settled : (limit : ℕ) (owner : List ℕ) (bodies : List PlainBody) (bytes : List ℕ) (o : Opened) (was shows : Option (List ℕ)) (may_leave : List ℕ → Type 0) →
    limit ≤ most_store_bytes → StandsWithin limit owner bodies bytes → was ≡ Some bytes → opening_verdict limit owner bytes ≡ Ok (plain_opened o) →
    WhereBothTold was shows (λ x y. y ≡ slots_filled owner (plain_log o.placed) x) → is_some shows ≡ is_some was → IsDurable may_leave shows →
    IsSettled (StandsWhole owner) (batches_from 0 0 bodies) shows may_leave
opened_settled limit owner bodies bytes o was None may_leave known within shown is filled told durable =
    let wrong : false ≡ true = told ∙ ap (λ s. is_some s) shown in absurd (cc)
opened_settled limit owner bodies bytes o was (Some y) may_leave known within shown is filled told durable =
    let bs = batches_from 0 0 bodies in
    let whole : StandsWhole owner bs y =
    subst (λ b. StandsWhole owner bs b) (sym (filled bytes y shown refl)) (slots_whole limit owner bodies bytes o known within is)
    in
    record {
      shows = (y, refl, whole);
      leaves = λ c left. subst (λ b. StandsWhole owner bs b) (let both : Some y ≡ Some c = durable c left in let same : y ≡ c = cc in same) whole;
    }
