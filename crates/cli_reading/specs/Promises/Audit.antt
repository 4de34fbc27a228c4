-- What `audit` promises, beside what each such command does. It prints all that the key leads to in the store's history; of the store any
-- bad record's failure is told. On a disk that shows a journal it answers what its history derives, to a reader whose key is right, and
-- to a holder nothing but what was shown when it was written, or what a later gain opened; another key is told so. In a store of version 2
-- a holder is answered nothing that wasn't shown since it was written, save what was derived before the store had that version. Whatever
-- the disk shows, whoever has a key of a journal is shown what the journal once wrote, or a forged record stands there.
use Rattle.std.specs.Prelude.{◌≡◌, ℕ, List, Option, Result, Ok, Err, false}
use Rattle.std.specs.List.{flat_map}
use Rattle.audit_laws.specs.Audited.{AreFairlySeen, AreStrictlySeen, audit_answer}
use Rattle.cry_base.specs.Sets.{In}
use Rattle.cry_base.specs.declared.client.Bundle.{Bundle}
use Rattle.cry_base.specs.declared.client.Bundle.TheVariants.{Holder}
use Rattle.cry_base.specs.declared.ids.HolderId.{HolderId}
use Rattle.forgery_laws.specs.Written.{IsWrittenSeen}
use Rattle.head_tree.specs.declared.head.Head.{Head}
use Rattle.journal_bytes.specs.Journals.{StandsForJournal, published_journal}
use Rattle.log_visits.specs.Asking.{audited}
use Rattle.log_visits.specs.Judging.{Failure}
use Rattle.log_visits.specs.Visiting.{Reading}
use Rattle.public_fold.specs.Journal.{Journal, keys_of}
use Rattle.script_text.specs.SeenLines.{seen_line}
use Rattle.trail_audit.specs.Auditing.{MayFail}
use Rattle.trail_audit.specs.Derived.{Passes, PlainSeen}
use Rattle.cli_base.specs.World.{Senses, World}
use Rattle.cli_base.specs.declared.status.Status.{Status}
use Rattle.cli_reading.specs.Journals.{AnswersJournal}
use Rattle.cli_reading.specs.Promises.Reading.{Difference, ReadingEnds}
use Rattle.cli_reading.specs.Reading.{answer_as}
use Rattle.cli_reading.specs.Statuses.{failure_status}

-- an audit's text, a line for each thing seen
unfoldable pub seen_text : List PlainSeen → List ℕ
seen_text seen = flat_map (λ s. seen_line s.batch s.node s.name s.bytes) seen

-- What may be answered to a bundle over an image: all that the right keys show, where no record is bad; or how it may end. Which of
-- several bad records is told is free.
abbrev pub AuditGives : Bundle → List ℕ → Result (List ℕ) Status → Type 0
AuditGives bundle image (Ok text) =
    (r : Reading) × (audited bundle image ≡ Ok r) × ((seen : List PlainSeen) × Passes r bundle seen × (text ≡ seen_text seen))
AuditGives bundle image (Err status) = (failure : Failure) × MayFail bundle image failure × (status ≡ failure_status failure)

-- what is answered over an image that publishes a journal: what its history derives from the key, and no record is told to be bad
abbrev pub sights_of : Journal → Bundle → Result (List ℕ) Status
sights_of m bundle = answer_as seen_text (audit_answer m bundle)

-- So it is answered. All that it so answers a holder was shown to the holder when it was written, or a later gain for the holder opened
-- it. In a store of version 2 it was shown to the holder at some moment since, or the holder derived it before the store came to have
-- that version.
pub record AuditsJournal (status : Status) (typed image : List ℕ) (before after : Option (List ℕ)) : Type 0 where
  pub answers : AnswersJournal sights_of status typed image before after
  pub fair : (owner : List ℕ) (m : Journal) (h : HolderId) (key : List ℕ) (seen : List PlainSeen) → StandsForJournal owner m image
      → audit_answer (published_journal owner image m) (Holder h key) ≡ Ok seen → AreFairlySeen (published_journal owner image m) h.0 seen
  pub strict : (owner : List ℕ) (m : Journal) (h : HolderId) (key : List ℕ) (seen : List PlainSeen) → StandsForJournal owner m image
      → (keys_of (published_journal owner image m)).version ≡ 2
      → audit_answer (published_journal owner image m) (Holder h key) ≡ Ok seen → AreStrictlySeen (published_journal owner image m) h.0 seen

-- a text that is printed is that of what the journal wrote; of how the program ends without one it says nothing
abbrev pub AreSightsOf : Journal → Bundle → List ℕ → Result (List ℕ) Status → Type 0
AreSightsOf m bundle image (Ok text) =
    (seen : List PlainSeen) × (text ≡ seen_text seen) × ((s : PlainSeen) → In s seen → IsWrittenSeen m s)
AreSightsOf m bundle image (Err status) = Unit {0}

abbrev pub of_audit : Difference
of_audit = record { tells_unseen = false; Gives = AuditGives; OfJournal = AuditsJournal; AreOf = AreSightsOf }

-- how a call of `audit` ends, whose words name this head or none
abbrev pub AuditEnds : Option Head → {S R D W : Type 0} → Senses S R D W → Status → World S R D W → World S R D W → Type 0
AuditEnds head = ReadingEnds of_audit head
