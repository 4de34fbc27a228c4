-- The log that each reader walks over is the answer of the bytes, from the header on.
use Rattle.std.proofs.Common.{◌≡◌, ◌≢◌, ◌≤◌, ℕ, zero, suc, Bool, true, false, cond, List, [], ◌∷◌, ◌++◌, length, take, drop, Option, None, Some, Result, Ok, Err, refl, sym, ap, subst, ◌∙◌, arith}
use Rattle.std.specs.Prelude.{codes, nat_le, slice_get, slice_range}
use Rattle.std.specs.Str.{bytes_eq}
use Rattle.std.proofs.lemmas.Bool.Decides.{nat_tests}
use Rattle.std.proofs.lemmas.Slice.Eq.{bytes_eq-Decides}
use Rattle.cry_base.specs.Layout.{header_len}
use Rattle.chacha_seal.specs.Sealing.{check_of}
use Rattle.commit_journal.specs.Answering.{Fault, NotAStore, WrongKey, and_then}
use Rattle.commit_journal.specs.Log.{log_verdict, start_at, start_of, turn_at}
use Rattle.commit_journal.specs.Logs.{holder_log, turn_by, unowned_start, unowned_start_of, walk_at}
use Rattle.commit_journal.specs.Placed.{PlainPlaced}
use Rattle.commit_journal.specs.Opening.{opening_verdict}
use Rattle.commit_journal.proofs.Walks.{owner_walks}
use Rattle.commit_journal.proofs.Writers.{batches_alone}
use Rattle.reader_laws.specs.Spans.{AreRead, Closed, Failed, Fails, Follows, HasOwnerCheck, Hidden, HolderReads, IsAnswer, IsHidden, IsStore, LogReader, NoStore, OtherKey, OwnerReads, OwnerWrites, Passes, Span, behind, header_in, last_span, span_before}
use Rattle.reader_laws.proofs.SpanOpened.{opened_so}
use Rattle.reader_laws.proofs.SpanTurns.{Past, judge_of, past_behind, tells_not}
use Rattle.reader_laws.proofs.SpanWalks.{AnswersBehind, EndsBad, EndsClosed, EndsHidden, Reads, last_of, walk_is, walk_told}

-- ---- by index

-- the span before the one with this index, or this one
abbrev before_from : Option Span → List Span → ℕ → Option Span
before_from b spans zero = b
before_from b spans (suc i) = slice_get spans i

one_on : (b : Option Span) (s : Span) (spans : List Span) (i : ℕ) → before_from b (s ∷ spans) (suc i) ≡ before_from (Some s) spans i
one_on b s spans zero = refl
one_on b s spans (suc i) = refl

from_header_on : (spans : List Span) (i : ℕ) → before_from None spans i ≡ span_before spans i
from_header_on spans zero = refl
from_header_on spans (suc i) = refl

last_from : (b : Option Span) (spans : List Span) → before_from b spans (length spans) ≡ last_of b spans
last_from b [] = refl
last_from b (s ∷ spans) = one_on b s spans (length spans) ∙ last_from (Some s) spans

pub last_is : (spans : List Span) → last_span spans ≡ last_of None spans
last_is spans = sym (from_header_on spans (length spans)) ∙ last_from None spans

module _ (who : LogReader) (bytes : List ℕ) where
  abbrev EachPasses : Option Span → List Span → List PlainPlaced → Type 0
  EachPasses b spans log = (i : ℕ) (s : Span) (p : PlainPlaced) → slice_get spans i ≡ Some s → slice_get log i ≡ Some p → Passes who bytes (before_from b spans i) s p

  as_many_read : (b : Option Span) (spans : List Span) (log : List PlainPlaced) → Reads who bytes b spans log → length log ≡ length spans
  as_many_read b [] [] are = refl
  as_many_read b [] (p ∷ log) are = absurd are
  as_many_read b (s ∷ spans) [] are = absurd are
  as_many_read b (s ∷ spans) (p ∷ log) are = let others = as_many_read (Some s) spans log are.1 in omega arith

  each_read : (b : Option Span) (spans : List Span) (log : List PlainPlaced) → Reads who bytes b spans log → EachPasses b spans log
  each_read b [] [] are i s p span_is placed_is = absurd (cc)
  each_read b [] (q ∷ log) are i s p span_is placed_is = absurd are
  each_read b (t ∷ spans) [] are i s p span_is placed_is = absurd are
  each_read b (t ∷ spans) (q ∷ log) are zero s p span_is placed_is =
      let same_span : t ≡ s = cc in
      let same_placed : q ≡ p = cc in
      subst (λ (z : Span). Passes who bytes b z p) same_span (subst (Passes who bytes b t) same_placed are.0)
  each_read b (t ∷ spans) (q ∷ log) are (suc i) s p span_is placed_is =
      subst (λ (z : Option Span). Passes who bytes z s p) (sym (one_on b t spans i)) (each_read (Some t) spans log are.1 i s p span_is placed_is)

  reads_each : (b : Option Span) (spans : List Span) (log : List PlainPlaced) → length log ≡ length spans → EachPasses b spans log → Reads who bytes b spans log
  reads_each b [] [] many each = tt
  reads_each b [] (p ∷ log) many each = absurd (omega arith)
  reads_each b (s ∷ spans) [] many each = absurd (omega arith)
  reads_each b (s ∷ spans) (p ∷ log) many each = (
    each 0 s p refl refl,
    reads_each (Some s) spans log (omega arith) (λ i z q span_is placed_is. subst (λ (x : Option Span). Passes who bytes x z q) (one_on b s spans i) (each (suc i) z q span_is placed_is)),
  )

  pub reads_all : (spans : List Span) (log : List PlainPlaced) → AreRead who bytes spans log → Reads who bytes None spans log
  reads_all spans log are = reads_each None spans log are.as_many
      (λ i s p span_is placed_is. subst (λ (z : Option Span). Passes who bytes z s p) (sym (from_header_on spans i)) (are.each i s p span_is placed_is))

  all_read : (spans : List Span) (log : List PlainPlaced) → IsStore bytes → HasOwnerCheck who bytes → Reads who bytes None spans log → AreRead who bytes spans log
  all_read spans log store checked are = record {
    store = store;
    checked = checked;
    as_many = as_many_read None spans log are;
    each = λ i s p span_is placed_is.
        subst (λ (z : Option Span). Passes who bytes z s p) (from_header_on spans i) (each_read None spans log are i s p span_is placed_is);
  }

  from_header : (answer : Result (List PlainPlaced) Fault) → IsStore bytes → HasOwnerCheck who bytes → AnswersBehind who bytes None answer → IsAnswer who bytes answer
  from_header answer store checked (EndsClosed spans log are shut is) =
      Closed spans log (all_read spans log store checked are) (subst (λ (b : Option Span). (behind bytes b).gate ≢ 1) (sym (last_is spans)) shut) is
  from_header answer store checked (EndsHidden spans log are s hidden is) =
      Hidden spans log (all_read spans log store checked are) s (subst (λ (b : Option Span). IsHidden who bytes b s) (sym (last_is spans)) hidden) is
  from_header answer store checked (EndsBad spans log are s follows fault fails is) =
      Failed spans log (all_read spans log store checked are) s (subst (λ (b : Option Span). Follows bytes b s) (sym (last_is spans)) follows) fault
      (subst (λ (b : Option Span). Fails who bytes b s fault) (sym (last_is spans)) fails) is

-- ---- the header

abbrev start_for : LogReader → List ℕ → Result Past Fault
start_for (OwnerReads owner) bytes = start_at owner bytes
start_for HolderReads bytes = unowned_start bytes
start_for (OwnerWrites owner limit) bytes = start_at owner bytes

abbrev has_check : LogReader → List ℕ → Bool
has_check (OwnerReads owner) bytes = bytes_eq (slice_range (header_in bytes) 9 41) (check_of owner)
has_check HolderReads bytes = true
has_check (OwnerWrites owner limit) bytes = bytes_eq (slice_range (header_in bytes) 9 41) (check_of owner)

abbrev is_named : List ℕ → Bool
is_named bytes = bytes_eq (take 9 (header_in bytes)) (codes "CRYPTREE" ++ 1 ∷ [])

abbrev started : LogReader → List ℕ → Result Past Fault
started who bytes =
    cond (nat_le header_len (length bytes))
    (cond (is_named bytes) (cond (has_check who bytes) (Ok (past_behind bytes None)) (Err WrongKey)) (Err NotAStore))
    (Err NotAStore)

started_so : (who : LogReader) (bytes : List ℕ) → start_for who bytes ≡ started who bytes
unfolding start_at start_of unowned_start unowned_start_of
started_so (OwnerReads owner) bytes = refl
started_so HolderReads bytes = refl
started_so (OwnerWrites owner limit) bytes = refl

tells_check : (who : LogReader) (bytes : List ℕ) → has_check who bytes ≡ true → HasOwnerCheck who bytes
tells_check (OwnerReads owner) bytes is = (bytes_eq-Decides _ _).0 is
tells_check HolderReads bytes is = tt
tells_check (OwnerWrites owner limit) bytes is = (bytes_eq-Decides _ _).0 is

told_check : (who : LogReader) (bytes : List ℕ) → HasOwnerCheck who bytes → has_check who bytes ≡ true
told_check (OwnerReads owner) bytes has = (bytes_eq-Decides _ _).1 has
told_check HolderReads bytes has = refl
told_check (OwnerWrites owner limit) bytes has = (bytes_eq-Decides _ _).1 has

-- what the tests of the header tell
data Starts (who : LogReader) (bytes : List ℕ) (start : Result Past Fault) : Type 0 where
  NoStart : (IsStore bytes → ⊥) → start ≡ Err NotAStore → Starts who bytes start
  OtherStart : IsStore bytes → (HasOwnerCheck who bytes → ⊥) → start ≡ Err WrongKey → Starts who bytes start
  Started : IsStore bytes → HasOwnerCheck who bytes → start ≡ Ok (past_behind bytes None) → Starts who bytes start

module _ (who : LogReader) (bytes : List ℕ) where
  starts_checked : (test : Bool) → has_check who bytes ≡ test → IsStore bytes → Starts who bytes (cond test (Ok (past_behind bytes None)) (Err WrongKey))
  starts_checked true is store = Started store (tells_check who bytes is) refl
  starts_checked false is store = OtherStart store (tells_not (has_check who bytes) (told_check who bytes) is) refl

  starts_named : (test : Bool) → is_named bytes ≡ test → header_len ≤ length bytes →
      Starts who bytes (cond test (cond (has_check who bytes) (Ok (past_behind bytes None)) (Err WrongKey)) (Err NotAStore))
  starts_named true is long = starts_checked (has_check who bytes) refl (long, (bytes_eq-Decides _ _).0 is)
  starts_named false is long = NoStart (λ store. tells_not (is_named bytes) (λ (named : take 9 (header_in bytes) ≡ codes "CRYPTREE" ++ 1 ∷ []). (bytes_eq-Decides _ _).1 named) is store.1) refl

  starts_long : (test : Bool) → nat_le header_len (length bytes) ≡ test →
      Starts who bytes (cond test (cond (is_named bytes) (cond (has_check who bytes) (Ok (past_behind bytes None)) (Err WrongKey)) (Err NotAStore)) (Err NotAStore))
  starts_long true is = starts_named (is_named bytes) refl (long is)
    where
      long : nat_le header_len (length bytes) ≡ true → header_len ≤ length bytes
      long test = grind (arith, nat_tests)
  starts_long false is = NoStart (λ store. short is store.0) refl
    where
      short : nat_le header_len (length bytes) ≡ false → header_len ≤ length bytes → ⊥
      short test enough = grind (arith, nat_tests)

  starts : Starts who bytes (start_for who bytes)
  starts = subst (Starts who bytes) (sym (started_so who bytes)) (starts_long (nat_le header_len (length bytes)) refl)

  started_with : (start : Result Past Fault) → Starts who bytes start → IsStore bytes → HasOwnerCheck who bytes → start ≡ Ok (past_behind bytes None)
  started_with start (NoStart none is) store checked = absurd (none store)
  started_with start (OtherStart store_too other is) store checked = absurd (other checked)
  started_with start (Started store_too check is) store checked = is

  pub starts_with : IsStore bytes → HasOwnerCheck who bytes → start_for who bytes ≡ Ok (past_behind bytes None)
  starts_with store checked = started_with (start_for who bytes) starts store checked

  -- ---- the whole image

  abbrev log_behind : Result Past Fault → Result (List PlainPlaced) Fault
  log_behind start = and_then start (λ past. walk_at (turn_by (judge_of who)) past 0 (drop header_len bytes))

  log_told : (start : Result Past Fault) → Starts who bytes start → IsAnswer who bytes (log_behind start)
  unfolding and_then
  log_told start (NoStart none is) = NoStore none (ap log_behind is)
  log_told start (OtherStart store other is) = OtherKey store other (ap log_behind is)
  log_told start (Started store check is) = subst (λ (r : Result Past Fault). IsAnswer who bytes (log_behind r)) (sym is) (from_header who bytes (log_behind (Ok (past_behind bytes None))) store check (walk_told who bytes None))

  log_is : (start : Result Past Fault) (answer : Result (List PlainPlaced) Fault) → Starts who bytes start → IsAnswer who bytes answer → log_behind start ≡ answer
  unfolding and_then
  log_is start answer (NoStart none is) (NoStore none_too so) = ap log_behind is ∙ sym so
  log_is start answer (NoStart none is) (OtherKey store other so) = absurd (none store)
  log_is start answer (NoStart none is) (Closed spans log are shut so) = absurd (none are.store)
  log_is start answer (NoStart none is) (Hidden spans log are s hidden so) = absurd (none are.store)
  log_is start answer (NoStart none is) (Failed spans log are s follows fault fails so) = absurd (none are.store)
  log_is start answer (OtherStart store other is) (NoStore none so) = absurd (none store)
  log_is start answer (OtherStart store other is) (OtherKey store_too other_too so) = ap log_behind is ∙ sym so
  log_is start answer (OtherStart store other is) (Closed spans log are shut so) = absurd (other are.checked)
  log_is start answer (OtherStart store other is) (Hidden spans log are s hidden so) = absurd (other are.checked)
  log_is start answer (OtherStart store other is) (Failed spans log are s follows fault fails so) = absurd (other are.checked)
  log_is start answer (Started store check is) (NoStore none so) = absurd (none store)
  log_is start answer (Started store check is) (OtherKey store_too other so) = absurd (other check)
  log_is start answer (Started store check is) (Closed spans log are shut so) =
      ap log_behind is
      ∙ walk_is who bytes None answer (EndsClosed spans log (reads_all who bytes spans log are) (subst (λ (b : Option Span). (behind bytes b).gate ≢ 1) (last_is spans) shut) so)
  log_is start answer (Started store check is) (Hidden spans log are s hidden so) =
      ap log_behind is
      ∙ walk_is who bytes None answer (EndsHidden spans log (reads_all who bytes spans log are) s (subst (λ (b : Option Span). IsHidden who bytes b s) (last_is spans) hidden) so)
  log_is start answer (Started store check is) (Failed spans log are s follows fault fails so) =
      ap log_behind is
      ∙ walk_is who bytes None answer
      (EndsBad spans log (reads_all who bytes spans log are) s (subst (λ (b : Option Span). Follows bytes b s) (last_is spans) follows) fault
      (subst (λ (b : Option Span). Fails who bytes b s fault) (last_is spans) fails) so)

abbrev pub log_for : LogReader → List ℕ → Result (List PlainPlaced) Fault
log_for (OwnerReads owner) bytes = log_verdict owner bytes
log_for HolderReads bytes = holder_log bytes
log_for (OwnerWrites owner limit) bytes = batches_alone (opening_verdict limit owner bytes)

log_so : (who : LogReader) (bytes : List ℕ) → log_for who bytes ≡ log_behind who bytes (start_for who bytes)
unfolding holder_log turn_at turn_by
log_so (OwnerReads owner) bytes = sym (owner_walks owner bytes)
log_so HolderReads bytes = refl
log_so (OwnerWrites owner limit) bytes = opened_so limit owner bytes

pub answer_told : (who : LogReader) (bytes : List ℕ) → IsAnswer who bytes (log_for who bytes)
answer_told who bytes = subst (IsAnswer who bytes) (sym (log_so who bytes)) (log_told who bytes (start_for who bytes) (starts who bytes))

pub answer_is : (who : LogReader) (bytes : List ℕ) (answer : Result (List PlainPlaced) Fault) → IsAnswer who bytes answer → log_for who bytes ≡ answer
answer_is who bytes answer told = log_so who bytes ∙ log_is who bytes (start_for who bytes) answer (starts who bytes) told

pub answer_both : (who : LogReader) (bytes : List ℕ) (answer : Result (List PlainPlaced) Fault) →
    (log_for who bytes ≡ answer → IsAnswer who bytes answer) × (IsAnswer who bytes answer → log_for who bytes ≡ answer)
answer_both who bytes answer = (λ is. subst (IsAnswer who bytes) is (answer_told who bytes), answer_is who bytes answer)
