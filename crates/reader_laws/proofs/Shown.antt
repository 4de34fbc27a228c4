-- What readers are shown of bytes that stand for a journal.
use Rattle.std.proofs.Common.{◌≡◌, ℕ, Bool, List, Option, Some, None, Result, Ok, Err, refl, ap, ◌∙◌}
use Rattle.std.specs.Prelude.{if◌then◌else◌, option_map}
use Rattle.std.specs.Str.{bytes_eq}
use Rattle.std.proofs.lemmas.Slice.Eq.{bytes_eq-Decides}
use Rattle.chacha_seal.specs.Sealing.{check_of}
use Rattle.commit_journal.specs.Answering.{WrongKey, and_then}
use Rattle.cry_base.specs.Store.{HolderEntry, holder_entry}
use Rattle.cry_base.specs.declared.client.Bundle.{Bundle}
use Rattle.cry_base.specs.declared.client.Bundle.TheVariants as bundles
use Rattle.cry_base.specs.declared.ids.HolderId.{HolderId}
use Rattle.log_visits.specs.Judging.{Failure, NoHolder, OfBytes, bundle_log, holder_reads, may_read, of_bytes, opened_first, read_through, read_with, shown_with, then_on, view_with, who_of}
use Rattle.log_visits.specs.View.{Line, view}
use Rattle.log_visits.specs.Visiting.{Opened, Reading, visit_all}
use Rattle.log_visits.specs.Visits.{all_visits}
use Rattle.move_plan.specs.Fitting.{public_of}
use Rattle.public_fold.specs.Journal.{Journal, store_of}
use Rattle.journal_bytes.specs.Folds.{fold_of, log_of, public_stand}
use Rattle.journal_bytes.specs.Journals.{IsHonestFor, StandsForJournal, published_journal}
use Rattle.journal_bytes.specs.Opening.{reading_of}
use Rattle.journal_bytes.proofs.Spelled.{holder_reads_on, owner_reads_on}
use Rattle.reader_laws.specs.Reading.{IsReaderOf, IsRightFor, if_known, shown_of}
use Rattle.reader_laws.proofs.Published.{may_publish}
use Rattle.reader_laws.proofs.Readable.{IsReadable, readable}
use Rattle.reader_laws.proofs.Readers.{all_pass, view_is}

-- ---- the log is read

pub read_on : (owner : List ℕ) (m : Journal) → fold_of owner m ≡ Ok (public_stand m) → of_bytes (read_through (Ok (log_of owner m))) ≡ Ok (reading_of owner m)
unfolding read_through fold_of and_then of_bytes
read_on owner m followed = ap (λ z. of_bytes (and_then z (λ stand. Ok (let r : Reading = record { log = log_of owner m; stand = stand } in r)))) followed

-- a holder who was made, with the key
check_passes : (key : List ℕ) (r : Reading) (e : HolderEntry) → key ≡ e.key → holder_reads key r (Some (check_of e.key)) ≡ Ok r
unfolding holder_reads
check_passes key r e is =
    ap (λ k. if bytes_eq (check_of e.key) (check_of k) then Ok r else Err (OfBytes WrongKey)) is
    ∙ ap (λ (b : Bool). if b then Ok r else Err (OfBytes WrongKey)) ((bytes_eq-Decides (check_of e.key) (check_of e.key)).1 refl)

-- what a reader is answered, if what is asked is answered so to whoever may read
module _ (owner : List ℕ) (m : Journal) (ok : IsReadable owner m) where
  holder_known : (A : Type 0) (h : HolderId) (key : List ℕ) (ask : Reading → Result A Failure) (answer : Result A Failure) (o : Option HolderEntry) → holder_entry (store_of m) h.0 ≡ o
      → ((e : HolderEntry) → holder_entry (store_of m) h.0 ≡ Some e → key ≡ e.key)
      → ((e : HolderEntry) → holder_entry (store_of m) h.0 ≡ Some e → ask (reading_of owner m) ≡ answer)
      → then_on (holder_reads key (reading_of owner m) (option_map (λ (e : HolderEntry). check_of e.key) o)) ask ≡ elim o as (λ z. Result A Failure) [ None ↦ Err (NoHolder (store_of m).holders_made) | Some e ↦ answer ]
  unfolding then_on holder_reads public_stand public_of
  holder_known A h key ask answer None is right told = refl
  holder_known A h key ask answer (Some e) is right told = ap (λ z. then_on z ask) (check_passes key (reading_of owner m) e (right e is)) ∙ told e is

  pub answered : (A : Type 0) (bundle : Bundle) (ask : Reading → Result A Failure) (answer : Result A Failure) → IsRightFor owner m bundle → (IsReaderOf owner m bundle → ask (reading_of owner m) ≡ answer)
      → then_on (read_with bundle (Ok (log_of owner m))) ask ≡ if_known (store_of m) bundle answer
  unfolding read_with may_read if_known then_on
  answered A (bundles.Owner key) ask answer right told = ap (λ z. then_on (then_on z (may_read (bundles.Owner key))) ask) (read_on owner m ok.followed) ∙ told right
  answered A (bundles.Holder h key) ask answer right told =
      ap (λ z. then_on (then_on z (may_read (bundles.Holder h key))) ask) (read_on owner m ok.followed)
      ∙ ap (λ o. then_on (holder_reads key (reading_of owner m) o) ask) (ok.checked h.0)
      ∙ holder_known A h key ask answer (holder_entry (store_of m) h.0) refl right (λ e is. told (e, is, right e is))

  -- the view
  view_asked : (bundle : Bundle) → IsReaderOf owner m bundle → (after : Opened) → visit_all (reading_of owner m) (all_visits (public_of (store_of m)) (who_of bundle)) (opened_first bundle (reading_of owner m)) ≡ Ok after
      → then_on (of_bytes (visit_all (reading_of owner m) (all_visits (public_stand m).store (who_of bundle)) (opened_first bundle (reading_of owner m)))) (λ o. Ok (view o.store (who_of bundle))) ≡ Ok (view (store_of m) (who_of bundle))
  unfolding public_stand then_on of_bytes
  view_asked bundle is after done =
      ap (λ z. then_on (of_bytes z) (λ (o : Opened). Ok (view o.store (who_of bundle)))) done
      ∙ ap (λ ls. Ok ls) (view_is owner m bundle ok is after done)

  pub log_shown : (bundle : Bundle) → IsRightFor owner m bundle → view_with bundle (Ok (log_of owner m)) ≡ shown_of (store_of m) bundle
  unfolding view_with shown_of
  log_shown bundle right =
      answered (List Line) bundle (λ r. then_on (of_bytes (visit_all r (all_visits r.stand.store (who_of bundle)) (opened_first bundle r))) (λ o. Ok (view o.store (who_of bundle))))
      (Ok (view (store_of m) (who_of bundle))) right (λ is. let go = all_pass owner m bundle ok is in view_asked bundle is go.0 go.1)

-- ---- the bytes

-- everyone reads the log of the journal that is published
pub bundle_reads : (owner : List ℕ) (m : Journal) (bytes : List ℕ) (bundle : Bundle) → StandsForJournal owner m bytes → IsHonestFor owner bytes m → IsRightFor owner (published_journal owner bytes m) bundle
    → bundle_log bundle bytes ≡ Ok (log_of owner (published_journal owner bytes m))
unfolding bundle_log
bundle_reads owner m bytes (bundles.Owner key) stands honest right = ap (λ k. bundle_log (bundles.Owner k) bytes) right ∙ owner_reads_on owner m bytes stands honest
bundle_reads owner m bytes (bundles.Holder h key) stands honest right = holder_reads_on owner m bytes stands honest

pub published_readable : (owner : List ℕ) (m : Journal) (bytes : List ℕ) → StandsForJournal owner m bytes → IsReadable owner (published_journal owner bytes m)
published_readable owner m bytes stands = readable owner (published_journal owner bytes m) (may_publish owner bytes m stands.valid stands.whole_keys)

pub bytes_shown : (owner : List ℕ) (m : Journal) (bytes : List ℕ) (bundle : Bundle) → StandsForJournal owner m bytes → IsHonestFor owner bytes m → IsRightFor owner (published_journal owner bytes m) bundle
    → shown_with bundle bytes ≡ shown_of (store_of (published_journal owner bytes m)) bundle
unfolding shown_with
bytes_shown owner m bytes bundle stands honest right =
    ap (view_with bundle) (bundle_reads owner m bytes bundle stands honest right)
    ∙ log_shown owner (published_journal owner bytes m) (published_readable owner m bytes stands) bundle right
