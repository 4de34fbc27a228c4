-- What an audit shows a holder was shown to the holder when it was written, or a later gain opened it; in version 2 it was shown since.
use Rattle.std.proofs.Common.{◌≡◌, ⊎_elim, ℕ, List, Option, None, Some, Result, Ok, Err, refl, subst}
use Rattle.closure_laws.specs.Seen.{Sight, seen}
use Rattle.cry_base.specs.Listed.{Listed}
use Rattle.cry_base.specs.Store.{HolderEntry, holder_entry}
use Rattle.cry_base.specs.declared.client.Bundle.TheVariants as bundles
use Rattle.cry_base.specs.declared.ids.HolderId.{HolderId}
use Rattle.cry_base.proofs.Members.{In-map}
use Rattle.log_visits.specs.Judging.{Failure, NoHolder, who_of}
use Rattle.role_graph.specs.Rights.Who.{TheHolder}
use Rattle.public_fold.specs.Journal.{Journal, keys_of, store_of}
use Rattle.journal_bytes.specs.Journals.{IsHonestFor, StandsForJournal, published_journal}
use Rattle.reader_laws.specs.Reading.{IsRightFor, if_known}
use Rattle.reader_laws.proofs.Published.{MayPublish, may_publish}
use Rattle.secrecy_laws.proofs.Seeing.{fairly_seen, strictly_seen}
use Rattle.trail_audit.specs.Derived.{MayAnswer, PlainSeen, seen_of_sight}
use Rattle.cry_base.specs.declared.client.Seen.{Seen}
use Rattle.audit_laws.specs.Audited.{AreFairlySeen, AreStrictlySeen, audit_answer, audit_of_journal, seen_items}
use Rattle.audit_laws.proofs.Answered.{audit_answered}
use Rattle.audit_laws.proofs.Begun.{begun_holder}

same_items : (a b : List PlainSeen) → (let x : Result (List PlainSeen) Failure = Ok a in x) ≡ Ok b → a ≡ b
same_items a b e = cc

-- the holder was made, and the answer is the journal's
known_items : (p : Journal) (h : HolderId) (key : List ℕ) (items : List PlainSeen) → audit_answer p (bundles.Holder h key) ≡ Ok items
    → ((e : HolderEntry) × (holder_entry (store_of p) h.0 ≡ Some e)) × (audit_of_journal p (TheHolder h.0) ≡ items)
unfolding audit_answer if_known who_of
known_items p h key items is =
    (elim (holder_entry (store_of p) h.0) as (λ (o : Option HolderEntry). holder_entry (store_of p) h.0 ≡ o
    → elim o as (λ z. Result (List PlainSeen) Failure) [ None ↦ Err (NoHolder (store_of p).holders_made) | Some e ↦ Ok (audit_of_journal p (TheHolder h.0)) ] ≡ Ok items
    → ((e : HolderEntry) × (holder_entry (store_of p) h.0 ≡ Some e)) × (audit_of_journal p (TheHolder h.0) ≡ items)) [
      | None ↦ λ entry e. absurd cc
      | Some d ↦ λ entry e. ((d, entry), same_items (audit_of_journal p (TheHolder h.0)) items e)
    ]) refl is

sights_fair : (owner : List ℕ) (p : Journal) (h : ℕ) (e : HolderEntry) → MayPublish owner p → holder_entry (store_of p) h ≡ Some e → AreFairlySeen p h (audit_of_journal p (TheHolder h))
unfolding audit_of_journal
sights_fair owner p h e may entry s i =
    let w = (In-map Sight PlainSeen seen_of_sight s (seen p (TheHolder h))).0 i in ⊎_elim
    (λ v. (w.0, fairly_seen p v.0 h w.0 w.1, w.2))
    (λ q. absurd (begun_holder h e (subst (λ z. holder_entry (store_of z) h ≡ Some e) q entry)))
    may

-- what the journal's history answers a holder is fairly seen, and so is what an audit of the bytes shows
pub answer_fair : (owner : List ℕ) (m : Journal) (bytes : List ℕ) (h : HolderId) (key : List ℕ) (items : List PlainSeen) → StandsForJournal owner m bytes
    → audit_answer (published_journal owner bytes m) (bundles.Holder h key) ≡ Ok items → AreFairlySeen (published_journal owner bytes m) h.0 items
answer_fair owner m bytes h key items stands is =
    let p = published_journal owner bytes m in
    let known = known_items p h key items is in
    subst (λ (l : List PlainSeen). AreFairlySeen p h.0 l) known.1 (sights_fair owner p h.0 known.0.0 (may_publish owner bytes m stands.valid stands.whole_keys) known.0.1)

pub audit_fair : (owner : List ℕ) (m : Journal) (bytes : List ℕ) (h : HolderId) (key : List ℕ) (answer : Listed Seen) → StandsForJournal owner m bytes → IsHonestFor owner bytes m → IsRightFor owner (published_journal owner bytes m) (bundles.Holder h key)
    → MayAnswer (bundles.Holder h key) bytes (Ok answer) → AreFairlySeen (published_journal owner bytes m) h.0 (seen_items answer)
audit_fair owner m bytes h key answer stands honest right may =
    answer_fair owner m bytes h key (seen_items answer) stands (audit_answered owner m bytes (bundles.Holder h key) (Ok answer) stands honest right may)

-- the same of a store of version 2
sights_strict : (owner : List ℕ) (p : Journal) (h : ℕ) (e : HolderEntry) → MayPublish owner p → holder_entry (store_of p) h ≡ Some e → (keys_of p).version ≡ 2 → AreStrictlySeen p h (audit_of_journal p (TheHolder h))
unfolding audit_of_journal
sights_strict owner p h e may entry two s i =
    let w = (In-map Sight PlainSeen seen_of_sight s (seen p (TheHolder h))).0 i in ⊎_elim
    (λ v. (w.0, strictly_seen p v.0 two h w.0 w.1, w.2))
    (λ q. absurd (begun_holder h e (subst (λ z. holder_entry (store_of z) h ≡ Some e) q entry)))
    may

pub answer_strict : (owner : List ℕ) (m : Journal) (bytes : List ℕ) (h : HolderId) (key : List ℕ) (items : List PlainSeen) → StandsForJournal owner m bytes
    → (keys_of (published_journal owner bytes m)).version ≡ 2 → audit_answer (published_journal owner bytes m) (bundles.Holder h key) ≡ Ok items
    → AreStrictlySeen (published_journal owner bytes m) h.0 items
answer_strict owner m bytes h key items stands two is =
    let p = published_journal owner bytes m in
    let known = known_items p h key items is in
    subst (λ (l : List PlainSeen). AreStrictlySeen p h.0 l) known.1 (sights_strict owner p h.0 known.0.0 (may_publish owner bytes m stands.valid stands.whole_keys) known.0.1 two)

pub audit_strict : (owner : List ℕ) (m : Journal) (bytes : List ℕ) (h : HolderId) (key : List ℕ) (answer : Listed Seen) → StandsForJournal owner m bytes → IsHonestFor owner bytes m → IsRightFor owner (published_journal owner bytes m) (bundles.Holder h key)
    → (keys_of (published_journal owner bytes m)).version ≡ 2 → MayAnswer (bundles.Holder h key) bytes (Ok answer) → AreStrictlySeen (published_journal owner bytes m) h.0 (seen_items answer)
audit_strict owner m bytes h key answer stands honest right two may =
    answer_strict owner m bytes h key (seen_items answer) stands two (audit_answered owner m bytes (bundles.Holder h key) (Ok answer) stands honest right may)
