-- What an audit answers, by how its steps end.
use Rattle.std.proofs.Common.{◌≡◌, ◌≢◌, ℕ, List, [], map, Result, Ok, Err, inl, inr, ⊎_elim, sym, ap, subst}
use Rattle.std.specs.Prelude.{◌⊎◌, IfErr, IfOk, MatchResult}
use Rattle.commit_journal.specs.Answering.{Fault, and_then}
use Rattle.commit_journal.specs.Placed.{PlainPlaced}
use Rattle.chacha_seal.specs.Keys.{KeyParts}
use Rattle.cry_base.specs.Listed.{Listed}
use Rattle.cry_base.specs.declared.client.Bundle.{Bundle}
use Rattle.log_visits.specs.Answering.{IsFailure, IsFault}
use Rattle.log_visits.specs.Asking.{audited}
use Rattle.log_visits.specs.Folding.{folded}
use Rattle.log_visits.specs.Judging.{Failure, bundle_log, may_read, of_bytes, read_through, read_with}
use Rattle.log_visits.specs.Placing.{PlacedLink, log_contents, log_links}
use Rattle.log_visits.specs.Visiting.{Reading}
use Rattle.log_visits.specs.declared.fault.ClientFault.{ClientFault}
use Rattle.log_visits.specs.declared.fault.ClientFault.TheVariants as faults
use Rattle.holder_client.proofs.Admitted.{as_failure, failure_first}
use Rattle.log_visits.proofs.Viewed.{fault_first}
use Rattle.public_fold.specs.Journal.{Stand, nothing}
use Rattle.trail_audit.specs.Auditing.{RecordFault, bundle_key}
use Rattle.trail_audit.specs.Derived.{AnswersAudit, AnswersKeys, AreSeen, ContentFault, IsToldOf, MayAnswer, RereadFault, plain_seen}
use Rattle.trail_audit.specs.Trails.{AreRightKeys, LinkFault}
use Rattle.trail_audit.specs.declared.trails.KnownKeys.{KnownKeys}
use Rattle.trail_audit.proofs.Revealed.{content_told, link_told, passes}
use Rattle.cry_base.specs.declared.client.Seen.{Seen}

pub told_weaker : (P Q : Failure → Type 0) → ((failure : Failure) → P failure → Q failure) → (fault : ClientFault) → IsToldOf P fault → IsToldOf Q fault
told_weaker P Q weaker faults.NotAStore told = weaker _ told
told_weaker P Q weaker faults.WrongKey told = weaker _ told
told_weaker P Q weaker (faults.Damaged at) told = weaker _ told
told_weaker P Q weaker (faults.Tampered batch at) told = weaker _ told
told_weaker P Q weaker (faults.NoHolder known) told = weaker _ told
told_weaker P Q weaker faults.Unseen told = weaker _ told
told_weaker P Q weaker faults.DiskFault told = tt
told_weaker P Q weaker faults.OutOfMemory told = tt

-- a reading that fails
pub reading_fails : (read : Result Reading Failure) (bundle : Bundle) (fault : ClientFault) → IsFailure fault read → AnswersAudit read bundle (Err fault)
reading_fails read bundle faults.NotAStore is = inl is
reading_fails read bundle faults.WrongKey is = inl is
reading_fails read bundle (faults.Damaged at) is = inl is
reading_fails read bundle (faults.Tampered batch at) is = inl is
reading_fails read bundle (faults.NoHolder known) is = inl is
reading_fails read bundle faults.Unseen is = inl is
reading_fails read bundle faults.DiskFault is = tt
reading_fails read bundle faults.OutOfMemory is = tt

-- ---- of a store's bytes

of_bytes_read : (bundle : Bundle) (bytes : List ℕ) (result : Result (Listed Seen) ClientFault) → AnswersAudit (audited bundle bytes) bundle result → MayAnswer bundle bytes result
of_bytes_read bundle bytes (Ok seen) answer = answer
of_bytes_read bundle bytes (Err fault) answer = answer

-- a log that fails
pub log_fails : (bundle : Bundle) (bytes : List ℕ) (fault : ClientFault) → IsFault fault (bundle_log bundle bytes) → MayAnswer bundle bytes (Err fault)
unfolding read_with read_through audited
log_fails bundle bytes fault is =
    let log = bundle_log bundle bytes in
    of_bytes_read bundle bytes (Err fault)
    (reading_fails (read_with bundle log) bundle fault
    (failure_first fault (of_bytes (read_through log)) (may_read bundle)
    (as_failure fault (read_through log) (fault_first fault log (λ (placed : List PlainPlaced). and_then (folded nothing placed) (λ (stand : Stand). let x : Result Reading Fault = Ok (record { log = placed; stand = stand }) in x)) is))))

-- a log that was read
pub log_read : (bundle : Bundle) (bytes : List ℕ) (log : List PlainPlaced) (result : Result (Listed Seen) ClientFault) → bundle_log bundle bytes ≡ Ok log →
    AnswersAudit (read_with bundle (Ok log)) bundle result → MayAnswer bundle bytes result
unfolding audited
log_read bundle bytes log result read answer =
    of_bytes_read bundle bytes result (subst (λ l. AnswersAudit (read_with bundle l) bundle result) (sym read) answer)

-- ---- of records

-- the right keys weren't found, by the fault of a record
pub records_fail : (read : Result Reading Failure) (bundle : Bundle) (r : Reading) (fault : ClientFault) → read ≡ Ok r → IsToldOf (RecordFault r bundle) fault → AnswersAudit read bundle (Err fault)
records_fail read bundle r fault is told =
    told_weaker (RecordFault r bundle) (λ failure. (read ≡ Err failure) ⊎ ((q : Reading) × (read ≡ Ok q) × RecordFault q bundle failure))
    (λ failure bad. let w : (q : Reading) × (read ≡ Ok q) × RecordFault q bundle failure = (r, is, bad) in inr w) fault told

-- they were found, or weren't
pub keys_found : (read : Result Reading Failure) (bundle : Bundle) (log : List PlainPlaced) (r : Reading) (key : KeyParts) (result : Result KnownKeys ClientFault) (Has : List PlacedLink → Type 0) →
    read ≡ Ok r → r.log ≡ log → key ≡ bundle_key bundle r → Has (log_links log) → IfOk result (λ (known : KnownKeys). (links : List PlacedLink) → Has links → AreRightKeys links key known.keys.items) →
    IfErr result (λ (fault : ClientFault). (links : List PlacedLink) → Has links → LinkFault links key fault) → AnswersKeys read bundle log result
keys_found read bundle log r key (Ok known) Has is of_log of_key has right fault =
    (r, is, of_log, subst (λ l. AreRightKeys (log_links l) (bundle_key bundle r) known.keys.items) (sym of_log) (subst (λ (k : KeyParts). AreRightKeys (log_links log) k known.keys.items) of_key (right (log_links log) has)))
keys_found read bundle log r key (Err other) Has is of_log of_key has right fault =
    records_fail read bundle r other is (link_told r bundle (log_links log) key other (ap log_links (sym of_log)) of_key (fault (log_links log) has))

-- no other fault comes of links
of_links : (result : Result KnownKeys ClientFault) (fault : ClientFault) (links : List PlacedLink) (key : KeyParts) (Has : List PlacedLink → Type 0) →
    IfErr result (λ (other : ClientFault). (ls : List PlacedLink) → Has ls → LinkFault ls key other) → Has links → result ≡ Err fault → LinkFault links key fault
of_links result fault links key Has told has is = subst (λ (r : Result KnownKeys ClientFault). IfErr r (λ (other : ClientFault). (ls : List PlacedLink) → Has ls → LinkFault ls key other)) is told links has

pub never_of_disk : (result : Result KnownKeys ClientFault) (links : List PlacedLink) (key : KeyParts) (Has : List PlacedLink → Type 0) →
    IfErr result (λ (fault : ClientFault). (ls : List PlacedLink) → Has ls → LinkFault ls key fault) → Has links → result ≢ Err faults.DiskFault
never_of_disk result links key Has told has = λ is. of_links result faults.DiskFault links key Has told has is

pub never_unseen : (result : Result KnownKeys ClientFault) (links : List PlacedLink) (key : KeyParts) (Has : List PlacedLink → Type 0) →
    IfErr result (λ (fault : ClientFault). (ls : List PlacedLink) → Has ls → LinkFault ls key fault) → Has links → result ≢ Err faults.Unseen
never_unseen result links key Has told has = λ is. of_links result faults.Unseen links key Has told has is

-- they were found, and with them contents were opened
pub records_opened : (read : Result Reading Failure) (bundle : Bundle) (log : List PlainPlaced) (keys : List KeyParts) (result : Result (Listed Seen) ClientFault) →
    (r : Reading) × (read ≡ Ok r) × (r.log ≡ log) × AreRightKeys (log_links r.log) (bundle_key bundle r) keys →
    MatchResult result (λ (seen : Listed Seen). AreSeen keys (log_contents log) [] (map plain_seen seen.items)) (RereadFault (log_contents log) keys) → AnswersAudit read bundle result
records_opened read bundle log keys (Ok seen) found answer =
    let of_log = subst (λ l. AreSeen keys (log_contents l) [] (map plain_seen seen.items)) (sym found.2) answer in
    (found.0, found.1, passes found.0 bundle keys (map plain_seen seen.items) found.3 of_log.opened of_log.shown)
records_opened read bundle log keys (Err fault) found answer =
    records_fail read bundle found.0 fault found.1
    (⊎_elim
    (λ (e : fault ≡ faults.DiskFault). subst (IsToldOf (RecordFault found.0 bundle)) (sym e) tt)
    (λ (w : ContentFault (log_contents log) keys fault). content_told found.0 bundle keys fault found.3 (subst (λ l. ContentFault (log_contents l) keys fault) (sym found.2) w))
    answer)
