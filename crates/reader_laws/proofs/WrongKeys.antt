-- A key with another check than the one that is published opens nothing.
use Rattle.std.proofs.Common.{◌≡◌, ℕ, Bool, true, false, List, [], ◌∷◌, ◌++◌, length, take, drop, Some, Result, Ok, Err, refl, sym, ap, ◌∙◌}
use Rattle.std.specs.Prelude.{codes, if◌then◌else◌, nat_le, option_map, slice_range}
use Rattle.std.specs.Str.{bytes_eq}
use Rattle.std.proofs.lemmas.Bool.{false_from_ne_true}
use Rattle.std.proofs.lemmas.Slice.Eq.{bytes_eq-Decides}
use Rattle.chacha_seal.specs.Sealing.{check_of}
use Rattle.commit_journal.specs.Answering.{NotAStore, WrongKey, and_then}
use Rattle.commit_journal.specs.Log.{log_at, log_verdict, start_at, start_of}
use Rattle.commit_journal.specs.Placed.{PlainPlaced}
use Rattle.cry_base.specs.Layout.{header_len}
use Rattle.cry_base.specs.Store.{HolderEntry, holder_entry}
use Rattle.cry_base.specs.declared.client.Bundle.{Bundle}
use Rattle.cry_base.specs.declared.client.Bundle.TheVariants as bundles
use Rattle.cry_base.specs.declared.ids.HolderId.{HolderId}
use Rattle.log_visits.specs.Asking.{line_shown, line_with}
use Rattle.log_visits.specs.Judging.{Failure, OfBytes, bundle_log, holder_reads, may_read, of_bytes, read_through, read_with, shown_with, then_on, view_with}
use Rattle.log_visits.specs.View.{Line}
use Rattle.log_visits.specs.Visiting.{Reading}
use Rattle.public_fold.specs.Journal.{Journal, store_of}
use Rattle.journal_bytes.specs.Folds.{log_of}
use Rattle.journal_bytes.specs.Journals.{IsHonestFor, StandsForJournal, published_journal}
use Rattle.journal_bytes.specs.Opening.{reading_of}
use Rattle.journal_bytes.proofs.Spelled.{holder_reads_on, owner_reads_on}
use Rattle.reader_laws.specs.Reading.{IsWrongFor}
use Rattle.reader_laws.proofs.Behind.{begun_turn}
use Rattle.reader_laws.proofs.Readable.{IsReadable}
use Rattle.reader_laws.proofs.Shown.{published_readable, read_on}

other_bytes : (xs ys : List ℕ) → (xs ≡ ys → ⊥) → bytes_eq xs ys ≡ false
other_bytes xs ys other = false_from_ne_true (bytes_eq xs ys) (λ t. other ((bytes_eq-Decides xs ys).0 t))

-- ---- the owner's

module _ (owner key bytes : List ℕ) (log : List PlainPlaced) (other : check_of owner ≡ check_of key → ⊥) where
  abbrev header : List ℕ
  header = take header_len bytes

  abbrev check : List ℕ
  check = slice_range header 9 41

  known : (a b d : Bool) → bytes_eq check (check_of owner) ≡ d
      → and_then (if a then (if b then (if d then Ok (begun_turn header).past else Err WrongKey) else Err NotAStore) else Err NotAStore) (λ past. log_at owner past 0 (drop header_len bytes)) ≡ Ok log
      → and_then (if a then (if b then (if bytes_eq check (check_of key) then Ok (begun_turn header).past else Err WrongKey) else Err NotAStore) else Err NotAStore) (λ past. log_at key past 0 (drop header_len bytes)) ≡ Err WrongKey
  unfolding and_then
  known true true true is e =
      let same : check ≡ check_of owner = (bytes_eq-Decides check (check_of owner)).0 is in
      let no_match : bytes_eq check (check_of key) ≡ false = other_bytes check (check_of key) (λ q. other (sym same ∙ q)) in
      ap (λ d. and_then (if d then Ok (begun_turn header).past else Err WrongKey) (λ past. log_at key past 0 (drop header_len bytes))) no_match
  known true true false is e = absurd cc
  known true false d is e = absurd cc
  known false b d is e = absurd cc

  pub wrong_owner : log_verdict owner bytes ≡ Ok log → log_verdict key bytes ≡ Err WrongKey
  unfolding log_verdict start_at start_of begun_turn
  wrong_owner e =
      known (nat_le header_len (length bytes)) (bytes_eq (take 9 header) (codes "CRYPTREE" ++ 1 ∷ [])) (bytes_eq check (check_of owner)) refl e

-- ---- a holder's

wrong_check : (owner : List ℕ) (m : Journal) (key : List ℕ) (e : HolderEntry) → (check_of e.key ≡ check_of key → ⊥) → holder_reads key (reading_of owner m) (Some (check_of e.key)) ≡ Err (OfBytes WrongKey)
unfolding holder_reads
wrong_check owner m key e other =
    ap (λ b. if b then Ok (reading_of owner m) else Err (OfBytes WrongKey)) (other_bytes (check_of e.key) (check_of key) other)

wrong_holder : (owner : List ℕ) (m : Journal) (ok : IsReadable owner m) (h : HolderId) (key : List ℕ) (e : HolderEntry) → holder_entry (store_of m) h.0 ≡ Some e → (check_of e.key ≡ check_of key → ⊥)
    → read_with (bundles.Holder h key) (Ok (log_of owner m)) ≡ Err (OfBytes WrongKey)
unfolding read_with may_read then_on
wrong_holder owner m ok h key e is other =
    ap (λ z. then_on z (may_read (bundles.Holder h key))) (read_on owner m ok.followed)
    ∙ ap (holder_reads key (reading_of owner m)) (ok.checked h.0 ∙ ap (option_map (λ (d : HolderEntry). check_of d.key)) is)
    ∙ wrong_check owner m key e other

-- ---- bytes

read_wrong : (owner : List ℕ) (m : Journal) (bytes : List ℕ) (bundle : Bundle) → StandsForJournal owner m bytes → IsHonestFor owner bytes m → IsWrongFor owner (published_journal owner bytes m) bundle
    → read_with bundle (bundle_log bundle bytes) ≡ Err (OfBytes WrongKey)
unfolding bundle_log
read_wrong owner m bytes (bundles.Owner key) stands honest wrong =
    let p = published_journal owner bytes m in
    ap (read_with (bundles.Owner key)) (wrong_owner owner key bytes (log_of owner p) wrong (owner_reads_on owner m bytes stands honest))
    ∙ unfold read_with read_through of_bytes then_on and_then in refl
read_wrong owner m bytes (bundles.Holder h key) stands honest wrong =
    let p = published_journal owner bytes m in
    ap (read_with (bundles.Holder h key)) (holder_reads_on owner m bytes stands honest)
    ∙ wrong_holder owner p (published_readable owner m bytes stands) h key wrong.0 wrong.1 wrong.2

stops : (A B : Type 0) (o : Result A Failure) (failure : Failure) (go_on : A → Result B Failure) → o ≡ Err failure → then_on o go_on ≡ Err failure
unfolding then_on
stops A B o failure go_on e = ap (λ z. then_on z go_on) e

module _ (owner : List ℕ) (m : Journal) (bytes : List ℕ) (bundle : Bundle) (stands : StandsForJournal owner m bytes) (honest : IsHonestFor owner bytes m) (wrong : IsWrongFor owner (published_journal owner bytes m) bundle) where
  pub wrong_view : shown_with bundle bytes ≡ Err (OfBytes WrongKey)
  unfolding shown_with view_with
  wrong_view = stops Reading (List Line) (read_with bundle (bundle_log bundle bytes)) (OfBytes WrongKey) _ (read_wrong owner m bytes bundle stands honest wrong)

  pub wrong_line : (path : List ℕ) → line_shown bundle path bytes ≡ Err (OfBytes WrongKey)
  unfolding line_shown line_with
  wrong_line path = stops Reading Line (read_with bundle (bundle_log bundle bytes)) (OfBytes WrongKey) _ (read_wrong owner m bytes bundle stands honest wrong)
