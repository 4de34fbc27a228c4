-- Whoever read the first batches of a journal reads on in bytes whose log is the journal's.
use Rattle.std.proofs.Common.{◌≡◌, ℕ, zero, suc, ◌+◌, ◌-◌, ◌<◌, true, eqb, eq-eqb, List, [], ◌∷◌, ◌++◌, length, take, drop, get_or, Option, None, Some, Result, Ok, refl, sym, ap, subst, ◌∙◌, arith}
use Rattle.std.proofs.lemmas.List.{drop_more, get_or-drop, get_or-take, length-append, length-drop, take_more}
use Rattle.cry_base.specs.Layout.{batch_len, header_len}
use Rattle.commit_journal.specs.declared.past.Past.{Past}
use Rattle.commit_journal.specs.Answering.{Fault, and_then}
use Rattle.commit_journal.specs.Log.{PlainTurn, head_at, is_batch, published_turn}
use Rattle.commit_journal.specs.Logs.{holder_log, turn_by}
use Rattle.commit_journal.specs.Placed.{PlainPlaced}
use Rattle.commit_journal.specs.Places.{at_behind}
use Rattle.commit_journal.specs.Readers.{has_tag, read_turn}
use Rattle.commit_journal.specs.Streaming.{ArePlaced, IsAt, LogState, ShowsGiven, again_at, gate_before, next_in, nothing, regated}
use Rattle.commit_journal.proofs.Streamed.{again_shown}
use Rattle.journal_bytes.specs.Folds.{log_of}
use Rattle.journal_bytes.specs.Keys.{AreWhole}
use Rattle.public_fold.specs.Journal.{Journal}
use Rattle.public_fold.specs.Valid.{IsValid}
use Rattle.read_steps.specs.Steps.{given_one, next_batch}
use Rattle.reader_laws.specs.Spans.{Closed, Failed, Hidden, HolderReads, IsAnswer, NoStore, OtherKey, Passes, Span, behind, number_in, epoch_in}
use Rattle.reader_laws.proofs.SpanLogs.{answer_told, reads_all}
use Rattle.reader_laws.proofs.SpanTurns.{past_behind, turn_passes}
use Rattle.reader_laws.proofs.SpanWalks.{Reads}
use Rattle.session_laws.specs.Fronts.{IsFront}
use Rattle.session_laws.proofs.LogsGrown.{AreTiled, log_front, log_many, log_tiled}

-- ---- where the batches of a log stand

same_log : (a b : List PlainPlaced) → (let r : Result (List PlainPlaced) Fault = Ok a in r) ≡ Ok b → b ≡ a
same_log a b is = cc

read_spans : (bytes : List ℕ) (log : List PlainPlaced) (answer : Result (List PlainPlaced) Fault) → answer ≡ Ok log → IsAnswer HolderReads bytes answer →
    (spans : List Span) × Reads HolderReads bytes None spans log
read_spans bytes log answer is (NoStore none so) = absurd (cc)
read_spans bytes log answer is (OtherKey store other so) = absurd (cc)
read_spans bytes log answer is (Closed spans read are shut so) =
    (spans, subst (Reads HolderReads bytes None spans) (same_log log read (sym is ∙ so)) (reads_all HolderReads bytes spans read are))
read_spans bytes log answer is (Hidden spans read are s hidden so) =
    (spans, subst (Reads HolderReads bytes None spans) (same_log log read (sym is ∙ so)) (reads_all HolderReads bytes spans read are))
read_spans bytes log answer is (Failed spans read are s follows fault fails so) = absurd (cc)

-- the gate behind a batch, or the header, is the byte before what follows
gate_is : (bytes : List ℕ) (b : Option Span) → gate_before bytes (behind bytes b).at ≡ (behind bytes b).gate
unfolding gate_before
gate_is bytes None = sym (get_or-take 42 bytes 41 0 (omega arith))
gate_is bytes (Some s) =
    ap (λ n. get_or bytes n 0) (omega arith)
    ∙ sym (get_or-drop s.start bytes (109 + s.size) 0)
    ∙ sym (get_or-take (batch_len + s.size) (drop s.start bytes) (109 + s.size) 0 (omega arith))

-- ---- neither a tag nor a gate counts for a turn

turn_known : (at number epoch : ℕ) (tag other : List ℕ) (gate shut : ℕ) (rest : List ℕ) →
    turn_by published_turn (record { at = at; number = number; epoch = record { 0 = epoch }; tag = tag; gate = gate }) rest
    ≡ turn_by published_turn (record { at = at; number = number; epoch = record { 0 = epoch }; tag = other; gate = shut }) rest
unfolding turn_by head_at is_batch published_turn
turn_known at number epoch tag other gate shut rest = refl

turn_same : (a b : Past) (rest : List ℕ) → a.at ≡ b.at → a.number ≡ b.number → a.epoch.0 ≡ b.epoch.0 → turn_by published_turn a rest ≡ turn_by published_turn b rest
turn_same a b rest at number epoch =
    let by : ℕ → ℕ → ℕ → Result (Option PlainTurn) Fault =
    λ x n e. turn_by published_turn (record { at = x; number = n; epoch = record { 0 = e }; tag = b.tag; gate = b.gate }) rest
    in
    turn_known a.at a.number a.epoch.0 a.tag b.tag a.gate b.gate rest
    ∙ ap (λ x. by x a.number a.epoch.0) at
    ∙ ap (λ n. by b.at n a.epoch.0) number
    ∙ ap (λ e. by b.at b.number e) epoch

-- without a key no tag is tested
anybody : (past : Past) (rest : List ℕ) → turn_by (read_turn None) past rest ≡ turn_by published_turn past rest
unfolding turn_by read_turn has_tag
anybody past rest = refl

-- ---- what is shown, and what comes next

abbrev AreShown : List ℕ → List Past → List PlainPlaced → Type 0
AreShown bytes [] [] = Unit {0}
AreShown bytes [] (p ∷ given) = ⊥
AreShown bytes (start ∷ starts) [] = ⊥
AreShown bytes (start ∷ starts) (p ∷ given) = (and_then (again_at None start bytes) (λ t. Ok t.placed) ≡ Ok p) × AreShown bytes starts given

abbrev ComesNext : List ℕ → Past → List PlainPlaced → Type 0
ComesNext bytes past [] = Unit {0}
ComesNext bytes past (p ∷ rest) =
    (gate_before bytes past.at ≡ 1) × (t : PlainTurn) × (t.placed ≡ p) × (turn_by published_turn past (drop past.at bytes) ≡ Ok (Some t))

module _ (bytes : List ℕ) where
  -- what is known before a batch in a span
  known : (b : Option Span) (s : Span) (p : PlainPlaced) (at : ℕ) (past : Past) → p.place ≡ at + 45 → Passes HolderReads bytes b s p →
      IsAt at (behind bytes b).number (behind bytes b).epoch.0 past → past.at ≡ (behind bytes b).at
  known b s p at past place passes is =
      let read = ap (λ (z : PlainPlaced). z.place) passes.is_read in
      let start = passes.follows.start in
      omega (arith, place, read, start, is.0)

  turn_there : (b : Option Span) (s : Span) (p : PlainPlaced) (at : ℕ) (past : Past) → p.place ≡ at + 45 → Passes HolderReads bytes b s p →
      IsAt at (behind bytes b).number (behind bytes b).epoch.0 past →
      turn_by published_turn past (drop past.at bytes) ≡ Ok (Some (record { placed = p; past = past_behind bytes (Some s) }))
  turn_there b s p at past place passes is =
      let there = known b s p at past place passes is in
      turn_same past (past_behind bytes b) (drop past.at bytes) there is.1 is.2
      ∙ ap (λ n. turn_by published_turn (past_behind bytes b) (drop n bytes)) there
      ∙ turn_passes HolderReads bytes b s p passes

  fronts : (b : Option Span) (spans : List Span) (given rest : List PlainPlaced) (starts : List Past) (past : Past) (at : ℕ) → AreTiled at (given ++ rest) →
      Reads HolderReads bytes b spans (given ++ rest) → ArePlaced at (behind bytes b).number (behind bytes b).epoch.0 given starts past →
      AreShown bytes starts given × ComesNext bytes past rest
  fronts b spans [] [] [] past at tiled reads placed = (tt, tt)
  fronts b [] [] (p ∷ rest) [] past at tiled reads placed = absurd reads
  fronts b (s ∷ spans) [] (p ∷ rest) [] past at tiled reads placed =
      let there = known b s p at past tiled.0 reads.0 placed in (
        tt,
        (
          ap (gate_before bytes) there ∙ gate_is bytes b ∙ reads.0.follows.opened,
          record { placed = p; past = past_behind bytes (Some s) },
          refl,
          turn_there b s p at past tiled.0 reads.0 placed,
        ),
      )
  fronts b spans [] rest (start ∷ starts) past at tiled reads placed = absurd placed
  fronts b spans (p ∷ given) rest [] past at tiled reads placed = absurd placed
  fronts b [] (p ∷ given) rest (start ∷ starts) past at tiled reads placed = absurd reads
  fronts b (s ∷ spans) (p ∷ given) rest (start ∷ starts) past at tiled reads placed =
      let number : p.batch ≡ number_in bytes s = ap (λ (z : PlainPlaced). z.batch) reads.0.is_read in
      let epoch : p.epoch.0 ≡ (epoch_in bytes s).0 = ap (λ (z : PlainPlaced). z.epoch.0) reads.0.is_read in
      let later = fronts (Some s) spans given rest starts past (at_behind p) tiled.1 reads.1
      (subst (λ e. ArePlaced (at_behind p) (number_in bytes s) e given starts past) epoch
      (subst (λ n. ArePlaced (at_behind p) n p.epoch.0 given starts past) number placed.1))
      in (
        (
          again_shown None start bytes (record { placed = p; past = past_behind bytes (Some s) })
              (anybody start (drop start.at bytes) ∙ turn_there b s p at start tiled.0 reads.0 placed.0),
          later.0,
        ),
        later.1,
      )

  shown_at : (starts : List Past) (given : List PlainPlaced) (i : ℕ) (d : PlainPlaced) → AreShown bytes starts given → i < length given →
      and_then (again_at None (get_or starts i nothing) bytes) (λ t. Ok t.placed) ≡ Ok (get_or given i d)
  shown_at [] [] i d are within = absurd (omega arith)
  shown_at [] (p ∷ given) i d are within = absurd are
  shown_at (start ∷ starts) [] i d are within = absurd are
  shown_at (start ∷ starts) (p ∷ given) zero d are within = are.0
  shown_at (start ∷ starts) (p ∷ given) (suc i) d are within = shown_at starts given i d are.1 (omega (arith, within))

-- ---- the journal's

first : (x y : PlainPlaced) (xs ys : List PlainPlaced) → x ∷ xs ≡ y ∷ ys → x ≡ y
first x y xs ys is = cc

split_at : (xs : List PlainPlaced) (k : ℕ) → take k xs ++ drop k xs ≡ xs
split_at [] zero = refl
split_at [] (suc k) = refl
split_at (x ∷ xs) zero = refl
split_at (x ∷ xs) (suc k) = ap (λ (l : List PlainPlaced). x ∷ l) (split_at xs k)

module _ (owner : List ℕ) (m : Journal) (k : ℕ) (log : LogState) (bytes : List ℕ) (valid : IsValid m) (whole : AreWhole owner m) (read : holder_log bytes ≡ Ok (log_of owner m)) (front : IsFront owner m k log) where
  abbrev all : List PlainPlaced
  all = log_of owner m

  split : log.given ++ drop k all ≡ all
  split = ap (λ (l : List PlainPlaced). l ++ drop k all) front.given ∙ split_at all k

  both : AreShown bytes log.starts log.given × ComesNext bytes log.past (drop k all)
  both =
      let spans = read_spans bytes all (holder_log bytes) read (answer_told HolderReads bytes) in
      fronts bytes None spans.0 log.given (drop k all) log.starts log.past header_len
      (subst (AreTiled header_len) (sym split) (log_tiled owner m valid whole))
      (subst (Reads HolderReads bytes None spans.0) (sym split) spans.1)
      front.placed

  pub front_shown : ShowsGiven log bytes
  front_shown batch p from to =
      rw front.no_owner (shown_at bytes log.starts log.given (batch - 1) p both.0 (omega (arith, from, to)))

  grown : (p : PlainPlaced) (rest : List PlainPlaced) → drop k all ≡ p ∷ rest → (q : PlainPlaced) → q ≡ p → log.given ++ q ∷ [] ≡ take (k + 1) all
  grown p rest is q same =
      let long = log_many owner m in
      let left = length-drop k all in
      let some = ap length is in
      let here : k < length all = omega (arith, left, some) in
      let found : get_or all k p ≡ p = first (get_or all k p) p (drop (k + 1) all) rest (sym (drop_more all k p here) ∙ is) in
      ap (λ (l : List PlainPlaced). l ++ q ∷ []) front.given
      ∙ ap (λ (z : PlainPlaced). take k all ++ z ∷ []) (same ∙ sym found)
      ∙ sym (take_more all k p here)

  goes_on : k < length m → (rest : List PlainPlaced) → drop k all ≡ rest → ComesNext bytes log.past rest → (turn : PlainTurn) × (next_batch log bytes ≡ Ok turn) × (log.given ++ turn.placed ∷ [] ≡ take (k + 1) all)
  unfolding next_batch next_in regated given_one and_then
  goes_on more [] is next =
      let long = log_many owner m in
      let left = length-drop k all in
      let none = ap length is in
      absurd (omega (arith, long, left, none, more))
  goes_on more (p ∷ rest) is next =
      let turn : PlainTurn = next.1 in
      let placed : turn.placed ≡ p = next.2 in
      let past : Past = record log.past { gate = gate_before bytes log.past.at } in
      let there : turn_by (read_turn log.owner) past (drop log.past.at bytes) ≡ Ok (Some turn) =
      ap (λ who. turn_by (read_turn who) past (drop log.past.at bytes)) front.no_owner
      ∙ anybody past (drop log.past.at bytes)
      ∙ turn_same past log.past (drop log.past.at bytes) refl refl refl
      ∙ next.3
      in
      let gate : eqb (gate_before bytes log.past.at) 1 ≡ true = eq-eqb (gate_before bytes log.past.at) 1 next.0 in
      (turn, rw (gate, there) refl, grown p rest is turn.placed placed)

  pub front_goes_on : k < length m → (turn : PlainTurn) × (next_batch log bytes ≡ Ok turn) × (log.given ++ turn.placed ∷ [] ≡ take (k + 1) all)
  front_goes_on more = goes_on more (drop k all) refl both.1

pub front_stays : (owner : List ℕ) (m more : Journal) (k : ℕ) (log : LogState) → IsFront owner m k log → IsFront owner (m ++ more) k log
front_stays owner m more k log front = record {
  no_owner = front.no_owner;
  placed = front.placed;
  given = front.given ∙ sym (log_front owner m more k front.within);
  within = omega (arith, front.within, length-append m more);
}
