-- What a command promises that only reads a store follows from what it may answer over any image.
use Rattle.std.proofs.Common.{◌≡◌, ⊎_elim, inl, inr, ℕ, List, Option, Some, None, Result, Ok, Err, arith, subst}
use Rattle.std.specs.Prelude.{◌⊎◌, IsTrue, is_some}
use Rattle.commit_journal.specs.Answering.{Fault}
use Rattle.commit_journal.specs.Moments.{IsSameThroughout}
use Rattle.cry_base.specs.declared.client.Bundle.{Bundle}
use Rattle.cry_io.specs.Told.{WhereTold}
use Rattle.forgery_laws.specs.Written.{AreBytes, HasForged, HasKeyOf}
use Rattle.head_tree.specs.declared.head.Head.{Head}
use Rattle.log_heads.specs.Published.{hashes_in}
use Rattle.journal_bytes.specs.Journals.{IsHonestFor, StandsForJournal, published_journal}
use Rattle.journal_bytes.specs.Keys.{AreWhole}
use Rattle.public_fold.specs.Journal.{Journal}
use Rattle.public_fold.specs.Valid.{IsValid}
use Rattle.reader_laws.specs.Reading.{IsRightFor, IsWrongFor}
use Rattle.cli_base.specs.Input.{input_answer}
use Rattle.cli_base.specs.Status.{is_before_print}
use Rattle.cli_base.specs.World.{Senses, World}
use Rattle.cli_base.specs.declared.status.Status.{Status}
use Rattle.cli_base.specs.declared.status.Status.TheVariants as statuses
use Rattle.cli_heads.proofs.TestLemmas.{held_head_begins}
use Rattle.cli_heads.specs.Testing.{FailsHead, IsHeld}
use Rattle.cli_reading.specs.Changed.{PrintsWritten}
use Rattle.cli_reading.specs.Held.{BeginsTo, HeldTo, MayGive}
use Rattle.cli_reading.specs.Journals.{AnswersJournal}
use Rattle.cli_reading.specs.Promises.Reading.{Difference, ReadingEnds}
use Rattle.cli_reading.specs.Reading.{AnswersAs, AnswersBy, AnswersFor, IsExactly, Reads}
use Rattle.cli_reading.specs.Statuses.{is_before_read, is_reading_answer}

abbrev Answered : Type 1
Answered = Result (List ℕ) Status → Type 0

-- if each answer that may be given has a property, or there is an exception, then the one that is given has it, or there is that
answered_or : (P Q : Answered) (E : Type 0) → ((answer : Result (List ℕ) Status) → P answer → Q answer ⊎ E)
    → (status : Status) (before after : Option (List ℕ))
    → AnswersAs status P before after → AnswersAs status Q before after ⊎ E
answered_or P Q E each statuses.Done before after said = ⊎_elim (λ q. inl (said.0, q, said.2)) (λ e. inr e) (each (Ok said.0) said.1)
answered_or P Q E each statuses.WriteFault before after said = ⊎_elim (λ q. inl (said.0, q, said.2)) (λ e. inr e) (each (Ok said.0) said.1)
answered_or P Q E each statuses.ReadFault before after said = inl tt
answered_or P Q E each statuses.DiskFault before after said = inl tt
answered_or P Q E each statuses.OutOfMemory before after said = inl tt
answered_or P Q E each statuses.Usage before after said = each (Err statuses.Usage) said
answered_or P Q E each (statuses.BadScript line) before after said = each (Err (statuses.BadScript line)) said
answered_or P Q E each statuses.RandomFault before after said = each (Err statuses.RandomFault) said
answered_or P Q E each (statuses.RandomShort left need) before after said = each (Err (statuses.RandomShort left need)) said
answered_or P Q E each statuses.NotAStore before after said = each (Err statuses.NotAStore) said
answered_or P Q E each (statuses.Damaged at) before after said = each (Err (statuses.Damaged at)) said
answered_or P Q E each statuses.WrongKey before after said = each (Err statuses.WrongKey) said
answered_or P Q E each (statuses.Tampered batch at) before after said = each (Err (statuses.Tampered batch at)) said
answered_or P Q E each statuses.NotBlank before after said = each (Err statuses.NotBlank) said
answered_or P Q E each (statuses.NoHolder known) before after said = each (Err (statuses.NoHolder known)) said
answered_or P Q E each statuses.Unseen before after said = each (Err statuses.Unseen) said
answered_or P Q E each statuses.NeedsUpgrade before after said = each (Err statuses.NeedsUpgrade) said
answered_or P Q E each statuses.AlreadyNew before after said = each (Err statuses.AlreadyNew) said
answered_or P Q E each (statuses.Behind have want) before after said = each (Err (statuses.Behind have want)) said
answered_or P Q E each (statuses.Forked batches) before after said = each (Err (statuses.Forked batches)) said
answered_or P Q E each statuses.BadProof before after said = each (Err statuses.BadProof) said

answered_more : (P Q : Answered) → ((answer : Result (List ℕ) Status) → P answer → Q answer)
    → (status : Status) (before after : Option (List ℕ))
    → AnswersAs status P before after → AnswersAs status Q before after
answered_more P Q more status before after said =
    ⊎_elim (λ q. q) (λ e. absurd e) (answered_or P Q ⊥ (λ answer p. inl (more answer p)) status before after said)

-- ---- what the answers over any image tell of those over one that stands for a journal, and of those to whoever has a journal's key

module _ (Gives : Bundle → List ℕ → Answered) (status : Status) (typed image : List ℕ) (before after : Option (List ℕ)) where
  handed : (bundle : Bundle) → input_answer typed ≡ Ok bundle → AnswersAs status (AnswersBy Gives typed image) before after
      → AnswersAs status (Gives bundle image) before after
  handed bundle hands answered = subst (λ input. AnswersAs status (AnswersFor (λ b. Gives b image) input) before after) hands answered

  pub as_journal : (wanted : Journal → Bundle → Result (List ℕ) Status)
      → ((owner : List ℕ) (m : Journal) (bundle : Bundle) → StandsForJournal owner m image → IsHonestFor owner image m
      → IsRightFor owner (published_journal owner image m) bundle → (answer : Result (List ℕ) Status) → Gives bundle image answer
      → IsExactly (wanted (published_journal owner image m) bundle) answer)
      → ((owner : List ℕ) (m : Journal) (bundle : Bundle) → StandsForJournal owner m image → IsHonestFor owner image m
      → IsWrongFor owner (published_journal owner image m) bundle → (answer : Result (List ℕ) Status) → Gives bundle image answer
      → IsExactly (Err statuses.WrongKey) answer)
      → AnswersAs status (AnswersBy Gives typed image) before after → AnswersJournal wanted status typed image before after
  as_journal wanted right wrong answered = record {
    right = λ owner m bundle hands stands honest is.
        answered_more (Gives bundle image) (IsExactly (wanted (published_journal owner image m) bundle))
        (right owner m bundle stands honest is) status before after (handed bundle hands answered);
    wrong = λ owner m bundle hands stands honest is.
        answered_more (Gives bundle image) (IsExactly (Err statuses.WrongKey))
        (wrong owner m bundle stands honest is) status before after (handed bundle hands answered);
  }

  as_written : (AreOf : Journal → Bundle → List ℕ → Answered)
      → ((owner : List ℕ) (m : Journal) (bundle : Bundle) → AreBytes image → IsValid m → AreWhole owner m → HasKeyOf owner m bundle
      → (answer : Result (List ℕ) Status) → Gives bundle image answer → AreOf m bundle image answer ⊎ HasForged owner m image)
      → AnswersAs status (AnswersBy Gives typed image) before after → PrintsWritten AreOf status typed image before after
  as_written AreOf each answered = λ owner m bundle hands are valid whole has.
      answered_or (Gives bundle image) (AreOf m bundle image) (HasForged owner m image) (each owner m bundle are valid whole has)
      status before after (handed bundle hands answered)

-- so it is for a command
pub record IsSound (its : Difference) : Type 0 where
  pub journal : (status : Status) (typed image : List ℕ) (before after : Option (List ℕ))
      → AnswersAs status (AnswersBy its.Gives typed image) before after → its.OfJournal status typed image before after
  pub written : (owner : List ℕ) (m : Journal) (image : List ℕ) (bundle : Bundle) → AreBytes image → IsValid m → AreWhole owner m
      → HasKeyOf owner m bundle → (answer : Result (List ℕ) Status) → its.Gives bundle image answer
      → its.AreOf m bundle image answer ⊎ HasForged owner m image
  pub quiet : (m : Journal) (bundle : Bundle) (image : List ℕ) (status : Status) → its.AreOf m bundle image (Err status)

-- ---- behind the test of a head

-- a log that begins as the head says doesn't fail its test
never_fails : (head : Head) (image : List ℕ) (hashes : Result (List (List ℕ)) Fault) (status : Status) → IsHeld head hashes
    → FailsHead head hashes status → ⊥
never_fails head image (Ok hashes) status held fails =
    ⊎_elim (λ few. omega (arith, held.0, few.0)) (λ other. other.1 held.1) fails
never_fails head image (Err fault) status held fails = absurd held

-- what may be answered there is what may be answered without a head
given_held : (head : Option Head) (Gives : Bundle → List ℕ → Answered) (bundle : Bundle) (image : List ℕ) → HeldTo head image
    → (answer : Result (List ℕ) Status) → MayGive head Gives bundle image answer → Gives bundle image answer
given_held None Gives bundle image held answer gives = gives
given_held (Some head) Gives bundle image held (Ok text) gives = ⊎_elim (λ given. given.1) (λ never. absurd never) gives
given_held (Some head) Gives bundle image held (Err status) gives =
    ⊎_elim (λ given. given.1) (λ fails. absurd (never_fails head image (hashes_in image) status held fails)) gives

answers_held : (head : Option Head) (Gives : Bundle → List ℕ → Answered) (input : Result Bundle ℕ) (image : List ℕ) → HeldTo head image
    → (answer : Result (List ℕ) Status) → AnswersFor (λ b. MayGive head Gives b image) input answer → AnswersFor (λ b. Gives b image) input answer
answers_held head Gives (Ok bundle) image held answer gives = given_held head Gives bundle image held answer gives
answers_held head Gives (Err line) image held answer gives = gives

held_journal : (its : Difference) → IsSound its → (head : Option Head) (status : Status) (typed image : List ℕ) (before after : Option (List ℕ))
    → AnswersAs status (AnswersBy (MayGive head its.Gives) typed image) before after → HeldTo head image
    → its.OfJournal status typed image before after
held_journal its sound head status typed image before after answered held =
    sound.journal status typed image before after (answered_more (AnswersBy (MayGive head its.Gives) typed image)
    (AnswersBy its.Gives typed image) (answers_held head its.Gives (input_answer typed) image held) status before after answered)

-- nothing is printed but what was written, whatever the test says
written_held : (its : Difference) → IsSound its → (head : Option Head) (owner : List ℕ) (m : Journal) (image : List ℕ) (bundle : Bundle)
    → AreBytes image → IsValid m → AreWhole owner m → HasKeyOf owner m bundle → (answer : Result (List ℕ) Status)
    → MayGive head its.Gives bundle image answer → its.AreOf m bundle image answer ⊎ HasForged owner m image
written_held its sound None owner m image bundle are valid whole has answer gives = sound.written owner m image bundle are valid whole has answer gives
written_held its sound (Some head) owner m image bundle are valid whole has (Ok text) gives =
    ⊎_elim (λ given. sound.written owner m image bundle are valid whole has (Ok text) given.1) (λ never. absurd never) gives
written_held its sound (Some head) owner m image bundle are valid whole has (Err status) gives = inl (sound.quiet m bundle image status)

held_begins : (head : Option Head) (image : List ℕ) → HeldTo head image → BeginsTo head image
held_begins None image held = tt
held_begins (Some head) image held = held_head_begins head image held

-- ---- what it promises

pub reading_ends : (its : Difference) → IsSound its → (head : Option Head) {S R D W : Type 0} (see : Senses S R D W) (status : Status)
    (before after : World S R D W) → after ≡ record before { input = after.input; disk = after.disk; out = after.out }
    → IsTrue (is_reading_answer its.tells_unseen (is_some head) status)
    → Reads (MayGive head its.Gives) see.disks status (see.inputs.left before.input) (see.inputs.left after.input) before.disk after.disk
    (see.outs.written before.out) (see.outs.written after.out)
    → (status ≡ statuses.Done → WhereTold (see.disks.shown before.disk) (HeldTo head))
    → IsSameThroughout see.disks before.disk after.disk → (IsTrue (is_before_read status) → after.disk ≡ before.disk)
    → (IsTrue (is_before_print status) → after.out ≡ before.out)
    → ReadingEnds its head see status before after
reading_ends its sound head see status before after kept answers reads held moments unread unprinted =
    let first = see.outs.written before.out in
    let last = see.outs.written after.out in
    record {
      answers = answers;
      reads = reads;
      journal = λ typed was image now. held_journal its sound head status typed image first last (reads.answered typed was image now);
      written = λ typed was image now.
          as_written (MayGive head its.Gives) status typed image first last its.AreOf
          (λ owner m bundle are valid whole has. written_held its sound head owner m image bundle are valid whole has)
          (reads.answered typed was image now);
      begins = λ done image now. held_begins head image (held done image now);
      moments = moments;
      rest_kept = kept;
      disk_unread = unread;
      out_kept = unprinted;
    }
