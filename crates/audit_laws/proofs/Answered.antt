-- What an audit answers of bytes that publish a journal.
use Rattle.std.proofs.Common.{◌≡◌, ⊎_elim, inl, ℕ, ◌==◌, List, Option, None, Some, Result, Ok, Err, refl, sym, ap, subst, ◌∙◌}
use Rattle.std.specs.Prelude.{if◌then◌else◌, option_map, unwrap_or}
use Rattle.std.specs.Str.{bytes_eq}
use Rattle.std.proofs.lemmas.Bool.{eqb-true, false_from_ne_true}
use Rattle.std.proofs.lemmas.Slice.Eq.{bytes_eq-Decides}
use Rattle.chacha_seal.specs.Keys.{KeyParts}
use Rattle.chacha_seal.specs.Sealing.{check_of}
use Rattle.closure_laws.specs.History.{own_serial}
use Rattle.commit_journal.specs.Answering.{WrongKey, and_then}
use Rattle.cry_base.specs.Listed.{Listed}
use Rattle.cry_base.specs.Sets.{In}
use Rattle.cry_base.specs.Store.{HolderEntry, holder_entry}
use Rattle.cry_base.specs.declared.client.Bundle.{Bundle}
use Rattle.cry_base.specs.declared.client.Bundle.TheVariants as bundles
use Rattle.cry_base.specs.declared.ids.HolderId.{HolderId}
use Rattle.cry_base.proofs.Finding.{find-found}
use Rattle.log_visits.specs.Answering.{AnswersAs}
use Rattle.log_visits.specs.Asking.{audited}
use Rattle.log_visits.specs.Judging.{Failure, NoHolder, OfBytes, bundle_log, holder_reads, may_read, of_bytes, read_through, read_with, then_on, who_of}
use Rattle.log_visits.specs.Visiting.{Reading}
use Rattle.log_visits.specs.declared.fault.ClientFault.{ClientFault}
use Rattle.log_visits.specs.declared.fault.ClientFault.TheVariants as faults
use Rattle.role_graph.specs.Roles.{holder_role, role_id}
use Rattle.public_fold.specs.Journal.{Journal, keys_of, store_of}
use Rattle.public_fold.specs.KeyStep.{newest, present}
use Rattle.public_fold.specs.Valid.{IsValid}
use Rattle.journal_bytes.specs.Folds.{log_of, public_stand}
use Rattle.journal_bytes.specs.Journals.{IsHonestFor, StandsForJournal, published_journal}
use Rattle.journal_bytes.specs.Keys.{AreWhole, all_keys, bytes_in, owner_parts}
use Rattle.journal_bytes.specs.Opening.{reading_of}
use Rattle.journal_bytes.proofs.LogsWalked.{journal_holder}
use Rattle.journal_bytes.proofs.Spelled.{holder_reads_on, owner_reads_on}
use Rattle.reader_laws.specs.Reading.{IsReaderOf, IsRightFor, IsWrongFor, if_known}
use Rattle.reader_laws.proofs.Published.{MayPublish, may_publish}
use Rattle.reader_laws.proofs.Readable.{IsReadable, begun}
use Rattle.reader_laws.proofs.Shown.{answered, bundle_reads, published_readable, read_on}
use Rattle.reader_laws.proofs.WrongKeys.{wrong_owner}
use Rattle.trail_audit.specs.Auditing.{MayFail, RecordFault, bundle_key}
use Rattle.trail_audit.specs.Derived.{IsToldOf, MayAnswer, Passes, PlainSeen}
use Rattle.cry_base.specs.declared.client.Seen.{Seen}
use Rattle.audit_laws.specs.Audited.{audit_answer, audit_of_journal, seen_items}
use Rattle.audit_laws.proofs.Begun.{begun_audit, begun_faults, begun_holder}
use Rattle.audit_laws.proofs.Keyed.{newest_keyed, own_bytes}
use Rattle.audit_laws.proofs.Recorded.{journal_logged}
use Rattle.audit_laws.proofs.RightKeys.{key_as}
use Rattle.audit_laws.proofs.Shown.{audit_seen, no_fault}

abbrev Answer : Type 0
Answer = Result (Listed Seen) ClientFault

-- ---- how the reading ends

same_failure : (bundle : Bundle) (bytes : List ℕ) (failure other : Failure) → audited bundle bytes ≡ Err failure → MayFail bundle bytes other → failure ≡ other
same_failure bundle bytes failure other is may = ⊎_elim
    (λ (e : audited bundle bytes ≡ Err other). cc)
    (λ (w : (r : Reading) × (audited bundle bytes ≡ Ok r) × RecordFault r bundle other). let e = w.1 in absurd (cc)) may

told_failure : (P : Failure → Type 0) (failure : Failure) → ((other : Failure) → P other → failure ≡ other) → (fault : ClientFault) → IsToldOf P fault → AnswersAs seen_items (let x : Answer = Err fault in x) (let x : Result (List PlainSeen) Failure = Err failure in x)
told_failure P failure only faults.NotAStore told = ap Err (only _ told)
told_failure P failure only faults.WrongKey told = ap Err (only _ told)
told_failure P failure only (faults.Damaged at) told = ap Err (only _ told)
told_failure P failure only (faults.Tampered batch at) told = ap Err (only _ told)
told_failure P failure only (faults.NoHolder known) told = ap Err (only _ told)
told_failure P failure only faults.Unseen told = ap Err (only _ told)
told_failure P failure only faults.DiskFault told = tt
told_failure P failure only faults.OutOfMemory told = tt

pub read_failed : (bundle : Bundle) (bytes : List ℕ) (failure : Failure) (result : Answer) → audited bundle bytes ≡ Err failure → MayAnswer bundle bytes result → AnswersAs seen_items result (let x : Result (List PlainSeen) Failure = Err failure in x)
read_failed bundle bytes failure (Ok answer) is may = let e = may.1 in absurd (cc)
read_failed bundle bytes failure (Err fault) is may = told_failure (MayFail bundle bytes) failure (λ other w. same_failure bundle bytes failure other is w) fault may

told_never : (P : Failure → Type 0) (wanted : Result (List PlainSeen) Failure) → ((other : Failure) → P other → ⊥) → (fault : ClientFault) → IsToldOf P fault → AnswersAs seen_items (let x : Answer = Err fault in x) wanted
told_never P wanted never faults.NotAStore told = absurd (never _ told)
told_never P wanted never faults.WrongKey told = absurd (never _ told)
told_never P wanted never (faults.Damaged at) told = absurd (never _ told)
told_never P wanted never (faults.Tampered batch at) told = absurd (never _ told)
told_never P wanted never (faults.NoHolder known) told = absurd (never _ told)
told_never P wanted never faults.Unseen told = absurd (never _ told)
told_never P wanted never faults.DiskFault told = tt
told_never P wanted never faults.OutOfMemory told = tt

same_reading : (a b : Reading) → (let x : Result Reading Failure = Ok a in x) ≡ Ok b → a ≡ b
same_reading a b e = cc

pub read_well : (bundle : Bundle) (bytes : List ℕ) (r : Reading) (items : List PlainSeen) (result : Answer) → audited bundle bytes ≡ Ok r → ((failure : Failure) → RecordFault r bundle failure → ⊥)
    → ((answer : List PlainSeen) → Passes r bundle answer → answer ≡ items) → MayAnswer bundle bytes result → AnswersAs seen_items result (let x : Result (List PlainSeen) Failure = Ok items in x)
read_well bundle bytes r items (Ok answer) is none shown may =
    let same : may.0 ≡ r = same_reading may.0 r (sym may.1 ∙ is) in
    ap Ok (sym (shown (seen_items answer) (subst (λ q. Passes q bundle (seen_items answer)) same may.2)))
read_well bundle bytes r items (Err fault) is none shown may =
    told_never (MayFail bundle bytes) (Ok items)
    (λ other w. ⊎_elim
    (λ (e : audited bundle bytes ≡ Err other). absurd (cc))
    (λ (v : (q : Reading) × (audited bundle bytes ≡ Ok q) × RecordFault q bundle other).
    none other (subst (λ q. RecordFault q bundle other) (same_reading v.0 r (sym v.1 ∙ is)) v.2)) w)
    fault may

then_ok : (o : Result Reading Failure) → then_on o (λ r. Ok r) ≡ o
unfolding then_on
then_ok (Ok r) = refl
then_ok (Err failure) = refl

pub audited_is : (owner : List ℕ) (m : Journal) (bytes : List ℕ) (bundle : Bundle) → StandsForJournal owner m bytes → IsHonestFor owner bytes m → IsRightFor owner (published_journal owner bytes m) bundle
    → audited bundle bytes ≡ if_known (store_of (published_journal owner bytes m)) bundle (Ok (reading_of owner (published_journal owner bytes m)))
unfolding audited
audited_is owner m bytes bundle stands honest right =
    let p = published_journal owner bytes m in
    ap (read_with bundle) (bundle_reads owner m bytes bundle stands honest right)
    ∙ sym (then_ok (read_with bundle (Ok (log_of owner p))))
    ∙ answered owner p (published_readable owner m bytes stands) Reading bundle (λ r. Ok r) (Ok (reading_of owner p)) right (λ is. refl)

-- ---- the bundle's key

number_of_holder : (h : ℕ) → role_id (holder_role h) ≡ h
unfolding role_id holder_role
number_of_holder h = refl

holder_there : (owner : List ℕ) (m : Journal) → IsValid m → AreWhole owner m → (h : HolderId) (key : List ℕ) → IsReaderOf owner m (bundles.Holder h key)
    → (n : ℕ) × (newest (keys_of m).keys (holder_role h.0) ≡ Some n) × In (let k : KeyParts = record { id = h.0; serial = n; bytes = key } in k) (all_keys owner m)
unfolding holder_entry
holder_there owner m valid whole h key is =
    let e : HolderEntry = is.0 in
    let told = find-found HolderEntry (λ d. d.number == h.0) (store_of m).holders e is.1 in
    let w = journal_holder owner m valid whole e told.0 in
    let stands : newest (keys_of m).keys (holder_role h.0) ≡ Some w.0 = subst (λ n. newest (keys_of m).keys (holder_role n) ≡ Some w.0) (eqb-true e.number h.0 told.1) w.1 in
    let has = newest_keyed (all_keys owner m) (keys_of m) (holder_role h.0) w.0 (journal_logged owner m valid whole).keyed stands in
    let bytes : key ≡ has.key.bytes = is.2 ∙ w.2 ∙ ap (bytes_in (all_keys owner m)) (sym has.serial) ∙ own_bytes owner m valid has.key has.there in (
      w.0,
      stands,
      subst (λ (k : KeyParts). In k (all_keys owner m)) (sym (key_as has.key h.0 w.0 key (has.id ∙ number_of_holder h.0) has.serial bytes)) has.there,
    )

own_there : (owner : List ℕ) (m : Journal) (bundle : Bundle) → IsValid m → AreWhole owner m → IsReaderOf owner m bundle
    → In (bundle_key bundle (reading_of owner m)) (all_keys owner m) × (own_serial m (who_of bundle) ≡ Some (bundle_key bundle (reading_of owner m)).serial)
unfolding bundle_key own_serial who_of public_stand present all_keys owner_parts
own_there owner m (bundles.Owner key) valid whole is = (inl (ap (λ b. (let k : KeyParts = record { id = 0; serial = 0; bytes = b } in k)) is), refl)
own_there owner m (bundles.Holder h key) valid whole is =
    let w = holder_there owner m valid whole h key is in
    let serial : unwrap_or (newest (keys_of m).keys (holder_role h.0)) 0 ≡ w.0 = ap (λ o. unwrap_or o 0) w.1 in (
      subst (λ n. In (let k : KeyParts = record { id = h.0; serial = n; bytes = key } in k) (all_keys owner m)) (sym serial) w.2,
      w.1 ∙ ap Some (sym serial),
    )

-- ---- what may be published

-- no record is bad for the reader, and what right keys show is what the history derives
record IsAuditable (owner : List ℕ) (p : Journal) (bundle : Bundle) : Type 0 where
  none_bad : (failure : Failure) → RecordFault (reading_of owner p) bundle failure → ⊥
  shown : (answer : List PlainSeen) → Passes (reading_of owner p) bundle answer → answer ≡ audit_of_journal p (who_of bundle)

valid_auditable : (owner : List ℕ) (p : Journal) (bundle : Bundle) → IsValid p → AreWhole owner p → IsReaderOf owner p bundle → IsAuditable owner p bundle
valid_auditable owner p bundle valid whole is =
    let own = own_there owner p bundle valid whole is in record {
      none_bad = λ failure bad. no_fault owner p valid whole bundle failure own.0 bad;
      shown = λ answer passes. passes.audit.seen ∙ audit_seen owner p valid whole (who_of bundle) (bundle_key bundle (reading_of owner p)) passes.audit.keys own.0 own.1 passes.audit.right;
    }

begun_auditable : (owner : List ℕ) (bundle : Bundle) → IsReaderOf owner begun bundle → IsAuditable owner begun bundle
unfolding who_of
begun_auditable owner (bundles.Owner key) is = record {
  none_bad = begun_faults owner (bundles.Owner key);
  shown = λ answer passes. passes.audit.seen ∙ begun_audit owner passes.audit.keys;
}
begun_auditable owner (bundles.Holder h key) is = absurd (begun_holder h.0 is.0 is.1)

auditable : (owner : List ℕ) (p : Journal) (bundle : Bundle) → MayPublish owner p → IsReaderOf owner p bundle → IsAuditable owner p bundle
auditable owner p bundle may is = ⊎_elim
    (λ v. valid_auditable owner p bundle v.0 v.1 is)
    (λ q. subst (λ z. IsAuditable owner z bundle) (sym q) (begun_auditable owner bundle (subst (λ z. IsReaderOf owner z bundle) q is)))
    may

-- ---- the answers

-- the reader is known, or isn't
shown_if_known : (owner : List ℕ) (p : Journal) (bytes : List ℕ) (bundle : Bundle) (result : Answer) → MayPublish owner p → IsRightFor owner p bundle
    → audited bundle bytes ≡ if_known (store_of p) bundle (Ok (reading_of owner p)) → MayAnswer bundle bytes result → AnswersAs seen_items result (if_known (store_of p) bundle (Ok (audit_of_journal p (who_of bundle))))
unfolding if_known
shown_if_known owner p bytes (bundles.Owner key) result may right is answer =
    let can = auditable owner p (bundles.Owner key) may right in
    read_well (bundles.Owner key) bytes (reading_of owner p) (audit_of_journal p (who_of (bundles.Owner key))) result is can.none_bad can.shown answer
shown_if_known owner p bytes (bundles.Holder h key) result may right is answer =
    (elim (holder_entry (store_of p) h.0) as (λ (o : Option HolderEntry). holder_entry (store_of p) h.0 ≡ o
    → audited (bundles.Holder h key) bytes ≡ elim o as (λ z. Result Reading Failure) [ None ↦ Err (NoHolder (store_of p).holders_made) | Some e ↦ Ok (reading_of owner p) ]
    → AnswersAs seen_items result (elim o as (λ z. Result (List PlainSeen) Failure) [ None ↦ Err (NoHolder (store_of p).holders_made) | Some e ↦ Ok (audit_of_journal p (who_of (bundles.Holder h key))) ])) [
      | None ↦ λ entry e. read_failed (bundles.Holder h key) bytes (NoHolder (store_of p).holders_made) result e answer
      | Some d ↦ λ entry e.
          let can = auditable owner p (bundles.Holder h key) may (d, entry, right d entry) in
          read_well (bundles.Holder h key) bytes (reading_of owner p) (audit_of_journal p (who_of (bundles.Holder h key))) result e can.none_bad can.shown answer
    ]) refl is

pub audit_answered : (owner : List ℕ) (m : Journal) (bytes : List ℕ) (bundle : Bundle) (result : Answer) → StandsForJournal owner m bytes → IsHonestFor owner bytes m → IsRightFor owner (published_journal owner bytes m) bundle
    → MayAnswer bundle bytes result → AnswersAs seen_items result (audit_answer (published_journal owner bytes m) bundle)
unfolding audit_answer
audit_answered owner m bytes bundle result stands honest right answer =
    shown_if_known owner (published_journal owner bytes m) bytes bundle result (may_publish owner bytes m stands.valid stands.whole_keys) right
    (audited_is owner m bytes bundle stands honest right) answer

-- ---- a wrong key

wrong_check : (owner : List ℕ) (m : Journal) (key : List ℕ) (e : HolderEntry) → (check_of e.key ≡ check_of key → ⊥) → holder_reads key (reading_of owner m) (Some (check_of e.key)) ≡ Err (OfBytes WrongKey)
unfolding holder_reads
wrong_check owner m key e other =
    ap (λ b. if b then Ok (reading_of owner m) else Err (OfBytes WrongKey)) (false_from_ne_true (bytes_eq (check_of e.key) (check_of key)) (λ t. other ((bytes_eq-Decides (check_of e.key) (check_of key)).0 t)))

wrong_holder : (owner : List ℕ) (m : Journal) (ok : IsReadable owner m) (h : HolderId) (key : List ℕ) (e : HolderEntry) → holder_entry (store_of m) h.0 ≡ Some e → (check_of e.key ≡ check_of key → ⊥)
    → read_with (bundles.Holder h key) (Ok (log_of owner m)) ≡ Err (OfBytes WrongKey)
unfolding read_with may_read then_on
wrong_holder owner m ok h key e is other =
    ap (λ z. then_on z (may_read (bundles.Holder h key))) (read_on owner m ok.followed)
    ∙ ap (holder_reads key (reading_of owner m)) (ok.checked h.0 ∙ ap (option_map (λ (d : HolderEntry). check_of d.key)) is)
    ∙ wrong_check owner m key e other

wrong_read : (owner : List ℕ) (m : Journal) (bytes : List ℕ) (bundle : Bundle) → StandsForJournal owner m bytes → IsHonestFor owner bytes m → IsWrongFor owner (published_journal owner bytes m) bundle → audited bundle bytes ≡ Err (OfBytes WrongKey)
unfolding audited bundle_log
wrong_read owner m bytes (bundles.Owner key) stands honest wrong =
    let p = published_journal owner bytes m in
    ap (read_with (bundles.Owner key)) (wrong_owner owner key bytes (log_of owner p) wrong (owner_reads_on owner m bytes stands honest))
    ∙ unfold read_with read_through of_bytes then_on and_then in refl
wrong_read owner m bytes (bundles.Holder h key) stands honest wrong =
    let p = published_journal owner bytes m in
    ap (read_with (bundles.Holder h key)) (holder_reads_on owner m bytes stands honest)
    ∙ wrong_holder owner p (published_readable owner m bytes stands) h key wrong.0 wrong.1 wrong.2

pub audit_refused : (owner : List ℕ) (m : Journal) (bytes : List ℕ) (bundle : Bundle) (result : Answer) → StandsForJournal owner m bytes → IsHonestFor owner bytes m → IsWrongFor owner (published_journal owner bytes m) bundle
    → MayAnswer bundle bytes result → AnswersAs seen_items result (let x : Result (List PlainSeen) Failure = Err (OfBytes WrongKey) in x)
audit_refused owner m bytes bundle result stands honest wrong answer = read_failed bundle bytes (OfBytes WrongKey) result (wrong_read owner m bytes bundle stands honest wrong) answer
