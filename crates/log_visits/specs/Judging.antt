-- What a store's bytes show to whom, or the first test that fails: for every list of bytes and every key. This
-- project's own, docs/FORMAT.md, "Reading".
use Rattle.std.specs.Prelude.{ℕ, ◌==◌, if◌then◌else◌, List, [], ◌∷◌, Option, None, Some, Result, Ok, Err}
use Rattle.std.specs.Str.{bytes_eq}
use Rattle.cry_base.specs.declared.client.Bundle.{Bundle}
use Rattle.cry_base.specs.declared.client.Bundle.TheVariants as bundles
use Rattle.cry_base.specs.declared.roles.Role.{Role}
use Rattle.cry_base.specs.declared.roles.Role.TheVariants.{Owner}
use Rattle.chacha_seal.specs.Sealing.{check_of}
use Rattle.commit_journal.specs.Answering.{Fault, WrongKey, and_then}
use Rattle.commit_journal.specs.Log.{log_verdict}
use Rattle.commit_journal.specs.Placed.{PlainBody, Commands, NewEpoch, PlainPlaced}
use Rattle.role_graph.specs.Rights.{Who}
use Rattle.role_graph.specs.Rights.Who.{TheOwner, TheHolder}
use Rattle.role_graph.specs.Roles.{holder_role}
use Rattle.record_format.specs.Noted.{Note}
use Rattle.record_format.specs.Noted.Note.{NewHolder}
use Rattle.public_fold.specs.Journal.{nothing}
use Rattle.log_visits.specs.Folding.{folded}
use Rattle.commit_journal.specs.Logs.{holder_log}
use Rattle.record_format.specs.Told.{told_note}
use Rattle.log_visits.specs.View.{Line, view}
use Rattle.log_visits.specs.Visits.{all_visits}
use Rattle.log_visits.specs.Visiting.{Reading, Opened, visit_all}

-- why nothing is shown: a fault of the bytes, a holder that no batch made (and how many were made), a path without a line
pub data Failure : Type 0 where
  OfBytes : Fault → Failure
  NoHolder : (known : ℕ) → Failure
  Unseen : Failure

-- goes on where nothing failed
unfoldable pub then_on : {A B : Type 0} → Result A Failure → (A → Result B Failure) → Result B Failure
then_on (Ok x) f = f x
then_on (Err failure) f = Err failure

unfoldable pub of_bytes : {A : Type 0} → Result A Fault → Result A Failure
of_bytes (Ok x) = Ok x
of_bytes (Err fault) = Err (OfBytes fault)

-- a log with what its payloads make
unfoldable pub read_through : Result (List PlainPlaced) Fault → Result Reading Fault
read_through log = and_then log (λ placed. and_then (folded nothing placed) (λ stand. Ok (record { log = placed; stand = stand })))

-- the check that a note publishes for a holder
unfoldable pub check_in : ℕ → Note → Option (List ℕ)
check_in h (NewHolder number check) = if number == h then Some check else None
check_in h note = None

unfoldable pub body_check : ℕ → PlainBody → Option (List ℕ)
body_check h (Commands p) = check_in h (told_note p.note)
body_check h NewEpoch = None

-- the check that a log publishes for a holder
unfoldable pub published_check : ℕ → List PlainPlaced → Option (List ℕ)
published_check h [] = None
published_check h (p ∷ log) = elim (body_check h p.body) [ Some check ↦ Some check | None ↦ published_check h log ]

-- the holder was made, and the key is the holder's
unfoldable pub holder_reads : List ℕ → Reading → Option (List ℕ) → Result Reading Failure
holder_reads key r None = Err (NoHolder r.stand.store.holders_made)
holder_reads key r (Some check) = if bytes_eq check (check_of key) then Ok r else Err (OfBytes WrongKey)

-- the log as the bundle's reader reads it
unfoldable pub bundle_log : Bundle → List ℕ → Result (List PlainPlaced) Fault
bundle_log (bundles.Owner key) bytes = log_verdict key bytes
bundle_log (bundles.Holder h key) bytes = holder_log bytes

-- the owner's key was tested with the header; a holder's is once the payloads are followed
unfoldable pub may_read : Bundle → Reading → Result Reading Failure
may_read (bundles.Owner key) r = Ok r
may_read (bundles.Holder h key) r = holder_reads key r (published_check h.0 r.log)

-- the log that was read, with what its payloads make, where the bundle's reader may read it
unfoldable pub read_with : Bundle → Result (List PlainPlaced) Fault → Result Reading Failure
read_with bundle log = then_on (of_bytes (read_through log)) (may_read bundle)

-- who reads with a bundle, and what is open before the first visit: the bundle's own key, and no name
unfoldable pub who_of : Bundle → Who
who_of (bundles.Owner key) = TheOwner
who_of (bundles.Holder h key) = TheHolder h.0

unfoldable pub first_key : Bundle → Role × List ℕ
first_key (bundles.Owner key) = (Owner, key)
first_key (bundles.Holder h key) = (holder_role h.0, key)

unfoldable pub opened_first : Bundle → Reading → Opened
opened_first bundle r = record { keys = first_key bundle ∷ []; store = r.stand.store }

-- the view of a log: every visit, and then what the store with all that was opened shows
unfoldable pub view_with : Bundle → Result (List PlainPlaced) Fault → Result (List Line) Failure
view_with bundle log =
    then_on (read_with bundle log) (λ r.
    then_on (of_bytes (visit_all r (all_visits r.stand.store (who_of bundle)) (opened_first bundle r))) (λ o.
    Ok (view o.store (who_of bundle))))

-- the view of a store's bytes
unfoldable pub shown_with : Bundle → List ℕ → Result (List Line) Failure
shown_with bundle bytes = view_with bundle (bundle_log bundle bytes)
