-- The verdict hangs on the log alone.
use Rattle.std.proofs.Common.{◌≡◌, ℕ, ◌<◌, false, List, ◌++◌, length, Option, Some, Result, Ok, Err, refl, sym, ap, ◌∙◌, arith}
use Rattle.std.specs.Prelude.{nat_le}
use Rattle.std.proofs.lemmas.Bool.Decides.{nat_tests}
use Rattle.cry_base.specs.Layout.{header_len}
use Rattle.cry_base.specs.declared.client.Bundle.{Bundle}
use Rattle.cry_base.specs.declared.client.Bundle.TheVariants as bundles
use Rattle.commit_journal.specs.Answering.{Fault, NotAStore, and_then}
use Rattle.commit_journal.specs.Log.{log_verdict}
use Rattle.commit_journal.specs.Logs.{unowned_start, holder_log, writer_log}
use Rattle.commit_journal.specs.Placed.{PlainPlaced}
use Rattle.commit_journal.proofs.Followed.{verdict_more}
use Rattle.commit_journal.proofs.Judged.{start_short}
use Rattle.commit_journal.proofs.Walks.{holder_ahead, writer_ahead}
use Rattle.log_visits.specs.Asking.{Asking, ToList, ToOpen, ToAudit, ToWrite, audited, line_with, line_shown, open_with, opened_store, failure_of, verdict, asked_log}
use Rattle.log_visits.specs.Judging.{Failure, OfBytes, then_on, of_bytes, read_through, bundle_log, read_with, view_with, shown_with}
use Rattle.log_visits.specs.Visiting.{Reading}

-- the verdict on a log
abbrev judged : Asking → Result (List PlainPlaced) Fault → Option Failure
judged (ToList bundle) log = failure_of (view_with bundle log)
judged (ToOpen bundle path) log = failure_of (line_with bundle path log)
judged (ToAudit bundle) log = failure_of (read_with bundle log)
judged (ToWrite owner) log = failure_of (open_with owner log)

verdict_judges : (asking : Asking) (bytes : List ℕ) → verdict asking bytes ≡ judged asking (asked_log asking bytes)
unfolding verdict asked_log shown_with line_shown audited opened_store
verdict_judges (ToList bundle) bytes = refl
verdict_judges (ToOpen bundle path) bytes = refl
verdict_judges (ToAudit bundle) bytes = refl
verdict_judges (ToWrite owner) bytes = refl

pub same_log : (asking : Asking) (a b : List ℕ) → asked_log asking a ≡ asked_log asking b → verdict asking a ≡ verdict asking b
same_log asking a b same = verdict_judges asking a ∙ ap (judged asking) same ∙ sym (verdict_judges asking b)

bundle_ahead : (bundle : Bundle) (front behind : List ℕ) (placed : List PlainPlaced) → bundle_log bundle front ≡ Ok placed → bundle_log bundle (front ++ behind) ≡ Ok placed
unfolding bundle_log
bundle_ahead (bundles.Owner key) front behind placed is = verdict_more key front behind placed is
bundle_ahead (bundles.Holder h key) front behind placed is = holder_ahead front behind placed is

log_ahead : (asking : Asking) (front behind : List ℕ) (placed : List PlainPlaced) → asked_log asking front ≡ Ok placed → asked_log asking (front ++ behind) ≡ Ok placed
unfolding asked_log
log_ahead (ToList bundle) front behind placed is = bundle_ahead bundle front behind placed is
log_ahead (ToOpen bundle path) front behind placed is = bundle_ahead bundle front behind placed is
log_ahead (ToAudit bundle) front behind placed is = bundle_ahead bundle front behind placed is
log_ahead (ToWrite owner) front behind placed is = writer_ahead owner front behind placed is

pub same_behind : (asking : Asking) (front behind : List ℕ) (placed : List PlainPlaced) → asked_log asking front ≡ Ok placed → verdict asking (front ++ behind) ≡ verdict asking front
same_behind asking front behind placed is = same_log asking (front ++ behind) front (log_ahead asking front behind placed is ∙ sym is)

-- ---- no header

owner_short : (owner bytes : List ℕ) → length bytes < header_len → log_verdict owner bytes ≡ Err NotAStore
unfolding log_verdict and_then
owner_short owner bytes short = rw (start_short owner bytes short) refl

holder_short : (bytes : List ℕ) → length bytes < header_len → holder_log bytes ≡ Err NotAStore
unfolding holder_log unowned_start and_then
holder_short bytes short = let test : nat_le header_len (length bytes) ≡ false = grind (arith, nat_tests) in rw test refl

writer_short : (owner bytes : List ℕ) → length bytes < header_len → writer_log owner bytes ≡ Err NotAStore
unfolding writer_log and_then
writer_short owner bytes short = rw (start_short owner bytes short) refl

bundle_short : (bundle : Bundle) (bytes : List ℕ) → length bytes < header_len → bundle_log bundle bytes ≡ Err NotAStore
unfolding bundle_log
bundle_short (bundles.Owner key) bytes short = owner_short key bytes short
bundle_short (bundles.Holder h key) bytes short = holder_short bytes short

asked_short : (asking : Asking) (bytes : List ℕ) → length bytes < header_len → asked_log asking bytes ≡ Err NotAStore
unfolding asked_log
asked_short (ToList bundle) bytes short = bundle_short bundle bytes short
asked_short (ToOpen bundle path) bytes short = bundle_short bundle bytes short
asked_short (ToAudit bundle) bytes short = bundle_short bundle bytes short
asked_short (ToWrite owner) bytes short = writer_short owner bytes short

-- a fault of the log is the verdict
judged_fault : (asking : Asking) (fault : Fault) → judged asking (Err fault) ≡ Some (OfBytes fault)
unfolding view_with line_with open_with read_with read_through and_then then_on of_bytes failure_of
judged_fault (ToList bundle) fault = refl
judged_fault (ToOpen bundle path) fault = refl
judged_fault (ToAudit bundle) fault = refl
judged_fault (ToWrite owner) fault = refl

pub no_header : (asking : Asking) (bytes : List ℕ) → length bytes < header_len → verdict asking bytes ≡ Some (OfBytes NotAStore)
no_header asking bytes short = verdict_judges asking bytes ∙ ap (judged asking) (asked_short asking bytes short) ∙ judged_fault asking NotAStore

-- ---- one reading

read_first : (bundle : Bundle) (path : List ℕ) (log : Result (List PlainPlaced) Fault) (failure : Failure) (read : Result Reading Failure) → read_with bundle log ≡ read →
    failure_of read ≡ Some failure → (failure_of (view_with bundle log) ≡ Some failure) × (failure_of (line_with bundle path log) ≡ Some failure)
unfolding view_with line_with then_on failure_of
read_first bundle path log failure (Ok r) read is = absurd (cc)
read_first bundle path log failure (Err other) read is = (rw read is, rw read is)

pub same_reading : (bundle : Bundle) (path bytes : List ℕ) (failure : Failure) → verdict (ToAudit bundle) bytes ≡ Some failure →
    (verdict (ToList bundle) bytes ≡ Some failure) × (verdict (ToOpen bundle path) bytes ≡ Some failure)
unfolding verdict audited shown_with line_shown
same_reading bundle path bytes failure is = read_first bundle path (bundle_log bundle bytes) failure (read_with bundle (bundle_log bundle bytes)) refl is
