-- A walk from gate to gate answers what the bytes answer by where the batches stand and which test fails first.
use Rattle.std.proofs.Common.{◌≡◌, ◌≢◌, ℕ, zero, suc, ◌+◌, ◌-◌, ◌<◌, Bool, true, false, cond, eqb, eq-eqb, List, [], ◌∷◌, drop, Option, None, Some, Result, Ok, Err, refl, sym, ap, subst, ◌∙◌, arith}
use Rattle.std.proofs.lemmas.Bool.{eqb-true}
use Rattle.std.proofs.lemmas.List.{drop-drop}
use Rattle.commit_journal.specs.Answering.{Fault, Damaged}
use Rattle.commit_journal.specs.Log.{PlainTurn, before, goes_on}
use Rattle.commit_journal.specs.Logs.{turn_by, walk_at}
use Rattle.commit_journal.specs.Placed.{PlainPlaced}
use Rattle.commit_journal.proofs.Walked.{before-before, before-end, before-nil}
use Rattle.commit_journal.proofs.Walks.{turn_none, walk-skip, walk_shut}
use Rattle.reader_laws.specs.Spans.{Fails, Follows, IsHidden, LogReader, Passes, Span, behind}
use Rattle.reader_laws.proofs.SpanTurns.{Bad, Last, More, Turns, gate_tells, gate_told, judge_of, past_behind, turn_fails, turn_hidden, turn_passes, turns}

before-err : (front : List PlainPlaced) (fault : Fault) → before front (Err fault) ≡ Err fault
unfolding before
before-err front fault = refl

-- ---- the relation behind a batch, or the header, by recursion over the spans

abbrev pub Reads : LogReader → List ℕ → Option Span → List Span → List PlainPlaced → Type 0
Reads who bytes b [] [] = Unit {0}
Reads who bytes b [] (p ∷ log) = ⊥
Reads who bytes b (s ∷ spans) [] = ⊥
Reads who bytes b (s ∷ spans) (p ∷ log) = Passes who bytes b s p × Reads who bytes (Some s) spans log

abbrev pub last_of : Option Span → List Span → Option Span
last_of b [] = b
last_of b (s ∷ spans) = last_of (Some s) spans

pub data AnswersBehind (who : LogReader) (bytes : List ℕ) (b : Option Span) (answer : Result (List PlainPlaced) Fault) : Type 0 where
  EndsClosed : (spans : List Span) (log : List PlainPlaced) → Reads who bytes b spans log
      → (behind bytes (last_of b spans)).gate ≢ 1 → answer ≡ Ok log → AnswersBehind who bytes b answer
  EndsHidden : (spans : List Span) (log : List PlainPlaced) → Reads who bytes b spans log
      → (s : Span) → IsHidden who bytes (last_of b spans) s → answer ≡ Ok log → AnswersBehind who bytes b answer
  EndsBad : (spans : List Span) (log : List PlainPlaced) → Reads who bytes b spans log
      → (s : Span) → Follows bytes (last_of b spans) s → (fault : Fault) → Fails who bytes (last_of b spans) s fault
      → answer ≡ Err fault → AnswersBehind who bytes b answer

-- ---- what a walk answers, the relation holds for

-- a batch more before what is read behind it
read_more : (who : LogReader) (bytes : List ℕ) (b : Option Span) (s : Span) (p : PlainPlaced) (answer : Result (List PlainPlaced) Fault) →
    Passes who bytes b s p → AnswersBehind who bytes (Some s) answer → AnswersBehind who bytes b (before (p ∷ []) answer)
unfolding before
read_more who bytes b s p answer passes (EndsClosed spans log are shut is) = EndsClosed (s ∷ spans) (p ∷ log) (passes, are) shut (ap (before (p ∷ [])) is)
read_more who bytes b s p answer passes (EndsHidden spans log are last hidden is) = EndsHidden (s ∷ spans) (p ∷ log) (passes, are) last hidden (ap (before (p ∷ [])) is)
read_more who bytes b s p answer passes (EndsBad spans log are last follows fault fails is) =
    EndsBad (s ∷ spans) (p ∷ log) (passes, are) last follows fault fails (ap (before (p ∷ [])) is)

module _ (who : LogReader) (bytes : List ℕ) where
  -- the rest of the bytes, of which some belong to the batch before
  abbrev AreTold : List ℕ → Type 0
  AreTold rest = (b : Option Span) (at skip : ℕ) → rest ≡ drop at bytes → at + skip ≡ (behind bytes b).at →
      AnswersBehind who bytes b (walk_at (turn_by (judge_of who)) (past_behind bytes b) skip rest)

  told_turn : (b : Option Span) (at : ℕ) (rest : List ℕ) → at ≡ (behind bytes b).at → rest ≡ drop (at + 1) bytes → AreTold rest →
      (turn : Result (Option PlainTurn) Fault) → Turns who bytes b turn →
      AnswersBehind who bytes b (goes_on turn (λ t. walk_at (turn_by (judge_of who)) t.past (t.past.at - ((behind bytes b).at + 1)) rest))
  unfolding goes_on
  told_turn b at rest here there told turn (More s p passes is) =
      subst (λ (t : Result (Option PlainTurn) Fault). AnswersBehind who bytes b (goes_on t (λ t. walk_at (turn_by (judge_of who)) t.past (t.past.at - ((behind bytes b).at + 1)) rest))) (sym is)
      (read_more who bytes b s p
      (walk_at (turn_by (judge_of who)) (past_behind bytes (Some s)) ((behind bytes (Some s)).at - ((behind bytes b).at + 1)) rest)
      passes
      (told (Some s) (at + 1) ((behind bytes (Some s)).at - ((behind bytes b).at + 1)) there (let start = passes.follows.start in omega arith)))
  told_turn b at rest here there told turn (Last s hidden is) =
      subst (λ (t : Result (Option PlainTurn) Fault). AnswersBehind who bytes b (goes_on t (λ t. walk_at (turn_by (judge_of who)) t.past (t.past.at - ((behind bytes b).at + 1)) rest))) (sym is)
      (EndsHidden [] [] tt s hidden refl)
  told_turn b at rest here there told turn (Bad s fault follows fails is) =
      subst (λ (t : Result (Option PlainTurn) Fault). AnswersBehind who bytes b (goes_on t (λ t. walk_at (turn_by (judge_of who)) t.past (t.past.at - ((behind bytes b).at + 1)) rest))) (sym is)
      (EndsBad [] [] tt s follows fault fails refl)

  told_gate : (b : Option Span) (at byte : ℕ) (rest : List ℕ) (test : Bool) → eqb (behind bytes b).gate 1 ≡ test → at ≡ (behind bytes b).at → byte ∷ rest ≡ drop at bytes →
      AreTold rest →
      AnswersBehind who bytes b (cond test
      (goes_on (turn_by (judge_of who) (past_behind bytes b) (byte ∷ rest)) (λ t. walk_at (turn_by (judge_of who)) t.past (t.past.at - ((behind bytes b).at + 1)) rest))
      (Ok []))
  told_gate b at byte rest true gate here there told =
      told_turn b at rest here (ap (drop 1) there ∙ drop-drop 1 at bytes ∙ ap (λ n. drop n bytes) (omega arith)) told
      (turn_by (judge_of who) (past_behind bytes b) (byte ∷ rest))
      (subst (λ (left : List ℕ). Turns who bytes b (turn_by (judge_of who) (past_behind bytes b) left)) (sym (there ∙ ap (λ n. drop n bytes) here))
      (turns who bytes b (eqb-true (behind bytes b).gate 1 gate)))
  told_gate b at byte rest false gate here there told = EndsClosed [] [] tt (gate_tells (behind bytes b).gate gate) refl

  -- the bytes have ended: no batch stands there
  ended : (b : Option Span) (turn : Result (Option PlainTurn) Fault) → turn ≡ Err (Damaged (behind bytes b).at) → Turns who bytes b turn →
      AnswersBehind who bytes b (goes_on turn (λ _. Ok []))
  unfolding goes_on
  ended b turn none (More s p passes is) = let wrong = sym is ∙ none in absurd (cc)
  ended b turn none (Last s hidden is) = let wrong = sym is ∙ none in absurd (cc)
  ended b turn none (Bad s fault follows fails is) =
      subst (λ (t : Result (Option PlainTurn) Fault). AnswersBehind who bytes b (goes_on t (λ _. Ok []))) (sym is) (EndsBad [] [] tt s follows fault fails refl)

  ended_gate : (b : Option Span) (test : Bool) → eqb (behind bytes b).gate 1 ≡ test → [] ≡ drop (behind bytes b).at bytes →
      AnswersBehind who bytes b (cond test (goes_on (turn_by (judge_of who) (past_behind bytes b) []) (λ _. Ok [])) (Ok []))
  ended_gate b true gate there =
      ended b (turn_by (judge_of who) (past_behind bytes b) []) (turn_none (judge_of who) (past_behind bytes b))
      (subst (λ (left : List ℕ). Turns who bytes b (turn_by (judge_of who) (past_behind bytes b) left)) (sym there) (turns who bytes b (eqb-true (behind bytes b).gate 1 gate)))
  ended_gate b false gate there = EndsClosed [] [] tt (gate_tells (behind bytes b).gate gate) refl

  nothing_behind : (skip at end : ℕ) → [] ≡ drop at bytes → at + skip ≡ end → [] ≡ drop end bytes
  nothing_behind skip at end there is = none_left skip ∙ ap (drop skip) there ∙ drop-drop skip at bytes ∙ ap (λ n. drop n bytes) (omega arith)
    where
      none_left : (n : ℕ) → [] ≡ drop n (let xs : List ℕ = [] in xs)
      none_left zero = refl
      none_left (suc n) = refl

  told_passed : (byte : ℕ) (rest : List ℕ) (b : Option Span) (at skip : ℕ) → byte ∷ rest ≡ drop at bytes → at + skip ≡ (behind bytes b).at → AreTold rest →
      AnswersBehind who bytes b (walk_at (turn_by (judge_of who)) (past_behind bytes b) skip (byte ∷ rest))
  unfolding walk_at
  told_passed byte rest b at zero there here told = told_gate b at byte rest (eqb (behind bytes b).gate 1) refl (omega arith) there told
  told_passed byte rest b at (suc skip) there here told =
      told b (at + 1) skip (ap (drop 1) there ∙ drop-drop 1 at bytes ∙ ap (λ n. drop n bytes) (omega arith)) (omega arith)

  told_rest : (rest : List ℕ) → AreTold rest
  unfolding walk_at
  told_rest [] b at skip there here = ended_gate b (eqb (behind bytes b).gate 1) refl (nothing_behind skip at (behind bytes b).at there here)
  told_rest (byte ∷ rest) b at skip there here = told_passed byte rest b at skip there here (told_rest rest)

  -- a walk behind a batch, or the header
  abbrev pub walk_behind : Option Span → Result (List PlainPlaced) Fault
  walk_behind b = walk_at (turn_by (judge_of who)) (past_behind bytes b) 0 (drop (behind bytes b).at bytes)

  pub walk_told : (b : Option Span) → AnswersBehind who bytes b (walk_behind b)
  walk_told b = told_rest (drop (behind bytes b).at bytes) b (behind bytes b).at 0 refl (omega arith)

  -- ---- what the relation holds for, a walk answers

  walks_over : (b : Option Span) (rest : List ℕ) (turn : PlainTurn) → eqb (behind bytes b).gate 1 ≡ true → turn_by (judge_of who) (past_behind bytes b) rest ≡ Ok (Some turn) →
      (behind bytes b).at < turn.past.at →
      walk_at (turn_by (judge_of who)) (past_behind bytes b) 0 rest ≡ before (turn.placed ∷ []) (walk_at (turn_by (judge_of who)) turn.past 0 (drop (turn.past.at - (behind bytes b).at) rest))
  unfolding walk_at goes_on
  walks_over b [] turn gate is ahead =
      let wrong : Ok (Some turn) ≡ Err (Damaged (behind bytes b).at) = sym is ∙ turn_none (judge_of who) (past_behind bytes b) in absurd (cc)
  walks_over b (byte ∷ rest) turn gate is ahead =
      let far : turn.past.at - (behind bytes b).at ≡ suc (turn.past.at - ((behind bytes b).at + 1)) = omega arith in
      rw (gate, is, far) (ap (before (turn.placed ∷ [])) (walk-skip (turn_by (judge_of who)) turn.past (turn.past.at - ((behind bytes b).at + 1)) rest))

  walks_end : (b : Option Span) (rest : List ℕ) → eqb (behind bytes b).gate 1 ≡ true → turn_by (judge_of who) (past_behind bytes b) rest ≡ Ok None →
      walk_at (turn_by (judge_of who)) (past_behind bytes b) 0 rest ≡ Ok []
  unfolding walk_at goes_on
  walks_end b [] gate is = rw (gate, is) refl
  walks_end b (byte ∷ rest) gate is = rw (gate, is) refl

  walks_fail : (b : Option Span) (rest : List ℕ) (fault : Fault) → eqb (behind bytes b).gate 1 ≡ true → turn_by (judge_of who) (past_behind bytes b) rest ≡ Err fault →
      walk_at (turn_by (judge_of who)) (past_behind bytes b) 0 rest ≡ Err fault
  unfolding walk_at goes_on
  walks_fail b [] fault gate is = rw (gate, is) refl
  walks_fail b (byte ∷ rest) fault gate is = rw (gate, is) refl

  walk_more : (b : Option Span) (s : Span) (p : PlainPlaced) → Passes who bytes b s p → walk_behind b ≡ before (p ∷ []) (walk_behind (Some s))
  walk_more b s p passes =
      let follows = passes.follows in
      let start = follows.start in
      let ahead : (behind bytes b).at < (behind bytes (Some s)).at = omega arith in
      walks_over b (drop (behind bytes b).at bytes) (record { placed = p; past = past_behind bytes (Some s) }) (eq-eqb (behind bytes b).gate 1 follows.opened)
      (turn_passes who bytes b s p passes) ahead
      ∙ ap (λ (left : List ℕ). before (p ∷ []) (walk_at (turn_by (judge_of who)) (past_behind bytes (Some s)) 0 left))
      (drop-drop ((behind bytes (Some s)).at - (behind bytes b).at) (behind bytes b).at bytes ∙ ap (λ n. drop n bytes) (omega arith))

  walk_read : (spans : List Span) (b : Option Span) (log : List PlainPlaced) → Reads who bytes b spans log → walk_behind b ≡ before log (walk_behind (last_of b spans))
  walk_read [] b [] are = sym (before-nil (walk_behind b))
  walk_read [] b (p ∷ log) are = absurd are
  walk_read (s ∷ spans) b [] are = absurd are
  walk_read (s ∷ spans) b (p ∷ log) are =
      walk_more b s p are.0
      ∙ ap (before (p ∷ [])) (walk_read spans (Some s) log are.1)
      ∙ before-before (p ∷ []) log (walk_behind (last_of (Some s) spans))

  pub walk_is : (b : Option Span) (answer : Result (List PlainPlaced) Fault) → AnswersBehind who bytes b answer → walk_behind b ≡ answer
  walk_is b answer (EndsClosed spans log are shut is) =
      let last = last_of b spans in
      walk_read spans b log are
      ∙ ap (before log) (walk_shut (turn_by (judge_of who)) (past_behind bytes last) (drop (behind bytes last).at bytes) (gate_told (behind bytes last).gate shut))
      ∙ before-end log
      ∙ sym is
  walk_is b answer (EndsHidden spans log are s hidden is) =
      let last = last_of b spans in
      walk_read spans b log are
      ∙ ap (before log) (walks_end last (drop (behind bytes last).at bytes) (eq-eqb (behind bytes last).gate 1 hidden.follows.opened) (turn_hidden who bytes last s hidden))
      ∙ before-end log
      ∙ sym is
  walk_is b answer (EndsBad spans log are s follows fault fails is) =
      let last = last_of b spans in
      walk_read spans b log are
      ∙ ap (before log) (walks_fail last (drop (behind bytes last).at bytes) fault (eq-eqb (behind bytes last).gate 1 follows.opened) (turn_fails who bytes last s fault follows fails))
      ∙ before-err log fault
      ∙ sym is
