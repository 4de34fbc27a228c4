-- What is answered to an audit of an image that stands for a journal is what the journal's history derives; and what it prints of any
-- image to whoever has a key of a journal was written by the journal, or a forged record stands in the image.
use Rattle.std.proofs.Common.{refl, ◌≡◌, ⊎_elim, inl, inr, ℕ, List, [], ◌∷◌, map, Result, Ok, Err, ap, subst, sym, ◌∙◌}
use Rattle.std.specs.Prelude.{◌⊎◌}
use Rattle.audit_laws.specs.Audited.{audit_answer, seen_items}
use Rattle.audit_laws.proofs.Answered.{audit_answered, audit_refused}
use Rattle.audit_laws.proofs.Fair.{answer_fair, answer_strict}
use Rattle.commit_journal.specs.Answering.{NotAStore, WrongKey, Damaged, Tampered}
use Rattle.cry_base.specs.Listed.{Listed}
use Rattle.cry_base.specs.declared.client.Bundle.{Bundle}
use Rattle.cry_base.specs.declared.client.Seen.{Seen}
use Rattle.forgery_laws.specs.Written.{AreBytes, HasForged, HasKeyOf}
use Rattle.forgery_laws.proofs.Audits.{passes_written}
use Rattle.journal_bytes.specs.Journals.{published_journal}
use Rattle.journal_bytes.specs.Keys.{AreWhole}
use Rattle.log_visits.specs.Answering as holders
use Rattle.log_visits.specs.Judging.{Failure, NoHolder, OfBytes, Unseen}
use Rattle.log_visits.specs.declared.fault.ClientFault.{ClientFault}
use Rattle.log_visits.specs.declared.fault.ClientFault.TheVariants as clients
use Rattle.public_fold.specs.Journal.{Journal}
use Rattle.public_fold.specs.Valid.{IsValid}
use Rattle.trail_audit.specs.Auditing.{MayFail}
use Rattle.trail_audit.specs.Derived.{MayAnswer, Passes, PlainSeen, plain_seen}
use Rattle.cli_base.specs.declared.status.Status.{Status}
use Rattle.cli_reading.specs.Promises.Audit.{AreSightsOf, AuditGives, of_audit, seen_text, sights_of}
use Rattle.cli_reading.specs.Reading.{IsExactly, answer_as}
use Rattle.cli_reading.proofs.Sound.{IsSound, as_journal}

-- a list that says so
abbrev listed : List ℕ → Listed ℕ
listed xs = record { items = xs; spare = 0 }

abbrev as_seen : PlainSeen → Seen
as_seen s = record { batch = s.batch; node = s.node; name = listed s.name; bytes = listed s.bytes }

plain_again : (seen : List PlainSeen) → map plain_seen (map as_seen seen) ≡ seen
plain_again [] = refl
plain_again (s ∷ seen) = ap (λ (rest : List PlainSeen). s ∷ rest) (plain_again seen)

-- what whatever an audit may answer is as
abbrev Lawful : Bundle → List ℕ → Result (List PlainSeen) Failure → Type 0
Lawful bundle image wanted = (result : Result (Listed Seen) ClientFault) → MayAnswer bundle image result
    → holders.AnswersAs seen_items result wanted

fails_so : (bundle : Bundle) (image : List ℕ) (wanted : Result (List PlainSeen) Failure) (failure : Failure) → Lawful bundle image wanted
    → MayFail bundle image failure → wanted ≡ Err failure
fails_so bundle image wanted (OfBytes NotAStore) law may = law (Err clients.NotAStore) may
fails_so bundle image wanted (OfBytes WrongKey) law may = law (Err clients.WrongKey) may
fails_so bundle image wanted (OfBytes (Damaged at)) law may = law (Err (clients.Damaged at)) may
fails_so bundle image wanted (OfBytes (Tampered batch at)) law may = law (Err (clients.Tampered batch at)) may
fails_so bundle image wanted (NoHolder known) law may = law (Err (clients.NoHolder known)) may
fails_so bundle image wanted Unseen law may = law (Err clients.Unseen) may

given_so : (bundle : Bundle) (image : List ℕ) (wanted : Result (List PlainSeen) Failure) → Lawful bundle image wanted
    → (answer : Result (List ℕ) Status)
    → AuditGives bundle image answer → IsExactly (answer_as seen_text wanted) answer
given_so bundle image wanted law (Ok text) gives =
    let r = gives.0 in
    let seen = gives.2.0 in
    let again = plain_again seen in
    let passes = subst (Passes r bundle) (sym again) gives.2.1 in
    ap (answer_as seen_text) (law (Ok (record { items = map as_seen seen; spare = 0 })) (r, gives.1, passes))
    ∙ ap (λ (s : List PlainSeen). Ok (seen_text s)) again ∙ ap (λ t. Ok t) (sym gives.2.2)
given_so bundle image wanted law (Err status) gives =
    ap (answer_as seen_text) (fails_so bundle image wanted gives.0 law gives.1) ∙ ap (λ s. Err s) (sym gives.2)

written_so : (owner : List ℕ) (m : Journal) (image : List ℕ) (bundle : Bundle) → AreBytes image → IsValid m → AreWhole owner m
    → HasKeyOf owner m bundle
    → (answer : Result (List ℕ) Status) → AuditGives bundle image answer → AreSightsOf m bundle image answer ⊎ HasForged owner m image
written_so owner m image bundle are valid whole has (Err status) gives = inl tt
written_so owner m image bundle are valid whole has (Ok text) gives = ⊎_elim
    (λ each. inl (gives.2.0, gives.2.2, each))
    (λ forged. inr forged)
    (passes_written owner m image bundle gives.0 gives.2.0 valid whole are has gives.1 gives.2.1)

pub audit_sound : IsSound of_audit
audit_sound = record {
  journal = λ status typed image before after answered. record {
    answers = as_journal AuditGives status typed image before after sights_of
        (λ owner m bundle stands honest right. given_so bundle image (audit_answer (published_journal owner image m) bundle)
        (λ result may. audit_answered owner m image bundle result stands honest right may))
        (λ owner m bundle stands honest wrong. given_so bundle image (Err (OfBytes WrongKey))
        (λ result may. audit_refused owner m image bundle result stands honest wrong may))
        answered;
    fair = λ owner m h key seen stands is. answer_fair owner m image h key seen stands is;
    strict = λ owner m h key seen stands two is. answer_strict owner m image h key seen stands two is;
  };
  written = λ owner m image bundle are valid whole has. written_so owner m image bundle are valid whole has;
  quiet = λ m bundle image status. tt;
}
