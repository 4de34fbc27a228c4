-- A log that is read batch by batch.
use Rattle.std.proofs.Common.{◌≡◌, inl, inr, ℕ, zero, suc, ◌+◌, ◌-◌, ◌<◌, ◌≤◌, Bool, true, false, cond, eqb, List, [], ◌∷◌, ◌++◌, take, drop, length, get_or, Option, None, Some, Result, Ok, Err, refl, sym, ap, subst, ◌∙◌, arith, length-append}
use Rattle.std.specs.Prelude.{nat_le, slice_range, MatchResult, ◌⊎◌}
use Rattle.std.proofs.Math.Seq.{get_or-append_seam}
use Rattle.std.proofs.lemmas.Bool.Decides.{nat_tests}
use Rattle.std.proofs.lemmas.List.{drop-drop, get_or_append_left}
use Rattle.std.proofs.lemmas.Option.{get_or_from_slice_get, slice_get_within}
use Rattle.cry_base.specs.Layout.{batch_len, header_len}
use Rattle.cry_base.specs.Limits.{most_store_bytes}
use Rattle.commit_journal.specs.declared.fault.OpenFault.{OpenFault}
use Rattle.commit_journal.specs.declared.fault.OpenFault.TheVariants as faults
use Rattle.commit_journal.specs.declared.head.Head.{Head}
use Rattle.commit_journal.specs.declared.judge.Turn.{Turn}
use Rattle.commit_journal.specs.declared.past.Past.{Past}
use Rattle.commit_journal.specs.Answering.{Fault, Tampered, and_then, Answers, IsFault}
use Rattle.commit_journal.specs.declared.placed.Placed.{Placed}
use Rattle.commit_journal.specs.Log.{PlainTurn, before, head_at, gate_in, published_turn}
use Rattle.commit_journal.specs.Logs.{AreInEpochs, IsInEpoch, epoch_behind, walk_at, turn_by}
use Rattle.commit_journal.specs.Opening.{GoesOnTo, IsNextOf, IsNextTurn, IsTurnIn, IsTurnOf}
use Rattle.commit_journal.specs.Placed.{PlainPlaced, plain_placed}
use Rattle.commit_journal.specs.Readers.{again_turn, has_tag, is_published, read_turn}
use Rattle.commit_journal.specs.Streaming.{LogState, AreStarts, IsReading, IsStart, ShowsGiven, again_at, gate_before, log_in, next_in, nothing, start_of}
use Rattle.commit_journal.proofs.Counted.{epoch_more}
use Rattle.commit_journal.proofs.Followed.{and_then_ok}
use Rattle.commit_journal.proofs.Stepped.{published_by, steps_end, steps_fail, steps_on}
use Rattle.commit_journal.proofs.Walked.{before-before, before-end, before-fault}
use Rattle.commit_journal.proofs.Walks.{Judges, walk_shut}

-- ---- the gate that is read once more

get_past : (s : List ℕ) (n : ℕ) → length s ≤ n → get_or s n 0 ≡ 0
get_past [] n long = refl
get_past (x ∷ s) zero long = absurd (omega (arith, long))
get_past (x ∷ s) (suc n) long = get_past s n (omega (arith, long))

pub gate_past : (s : List ℕ) (at : ℕ) → 1 ≤ at → length s < at → 0 ≡ gate_before s at
unfolding gate_before
gate_past s at from short = sym (get_past s (at - 1) (omega (arith, from, short)))

one_of : (s : List ℕ) (n : ℕ) → n < length s → get_or (take 1 (drop n s)) 0 0 ≡ get_or s n 0
one_of [] n within = absurd (omega (arith, within))
one_of (x ∷ s) zero within = refl
one_of (x ∷ s) (suc n) within = one_of s n (omega (arith, within))

pub gate_read : (s buf : List ℕ) (at : ℕ) → 1 ≤ at → at ≤ length s → buf ≡ slice_range s (at - 1) (at - 1 + 1) → get_or buf 0 0 ≡ gate_before s at
unfolding gate_before
gate_read s buf at from within is =
    let one : at - 1 + 1 - (at - 1) ≡ 1 = omega (arith, from) in
    ap (λ b. get_or b 0 0) is
    ∙ ap (λ k. get_or (take k (drop (at - 1) s)) 0 0) one
    ∙ one_of s (at - 1) (omega (arith, from, within))

-- ---- one turn of the code

pub next_of : (past : Past) (head : Head) (size : ℕ) (turn : Turn) → head.number ≡ past.number + 1 → head.epoch.0 ≤ past.epoch.0 + 1 →
    past.at + (batch_len + head.size) ≤ size → past.at + (batch_len + head.size) ≤ most_store_bytes → IsTurnOf past head turn → IsNextTurn past size turn
next_of past head size turn number epoch inside within is = record {
  batch = is.batch ∙ number;
  place = is.place;
  ahead = omega (arith, is.next);
  inside = omega (arith, is.next, inside);
  within = omega (arith, is.next, within);
  number = is.number ∙ number;
  epoch = omega (arith, is.epoch, epoch);
}

pub goes_on_to : (past : Past) (head : Head) (size : ℕ) (next : Option Turn) → head.number ≡ past.number + 1 → head.epoch.0 ≤ past.epoch.0 + 1 →
    past.at + (batch_len + head.size) ≤ size → past.at + (batch_len + head.size) ≤ most_store_bytes → IsNextOf past head next → GoesOnTo past size next
goes_on_to past head size None number epoch inside within is = tt
goes_on_to past head size (Some turn) number epoch inside within is = next_of past head size turn number epoch inside within is

-- ---- what stands behind the batches that were given

next_shut : (log : LogState) (s : List ℕ) → eqb log.past.gate 1 ≡ false → next_in log s ≡ Ok None
unfolding next_in
next_shut log s gate = rw gate refl

pub next_closed : (log : LogState) (s : List ℕ) (gate : ℕ) → gate ≡ log.past.gate → (gate ≡ 1 → ⊥) → next_in log s ≡ Ok None
next_closed log s gate is closed =
    let shut : eqb log.past.gate 1 ≡ false = grind (arith, nat_tests) in
    next_shut log s shut

pub next_opened : (log : LogState) (s : List ℕ) → eqb log.past.gate 1 ≡ true → next_in log s ≡ turn_by (read_turn log.owner) log.past (drop log.past.at s)
unfolding next_in
next_opened log s gate = rw gate refl

ends_by : (judge : Judges) (past : Past) (rest : List ℕ) (test : Bool) → eqb past.gate 1 ≡ test → cond test (turn_by judge past rest) (Ok None) ≡ Ok None →
    walk_at (turn_by judge) past 0 rest ≡ Ok []
ends_by judge past rest true gate is = steps_end judge past rest gate is
ends_by judge past rest false gate is = walk_shut (turn_by judge) past rest gate

-- the log has ended
pub log_ends : (log : LogState) (s : List ℕ) → next_in log s ≡ Ok None → log_in log s ≡ Ok log.given
unfolding next_in log_in
log_ends log s is =
    ap (before log.given) (ends_by (read_turn log.owner) log.past (drop log.past.at s) (eqb log.past.gate 1) refl is) ∙ before-end log.given

not_of_ok : {Y Z : Type 0} (fault : OpenFault) (y : Y) (wanted : Result Z Fault) → IsFault fault (Ok y) → IsFault fault wanted
not_of_ok faults.NotAStore y wanted is = absurd (cc)
not_of_ok faults.WrongKey y wanted is = absurd (cc)
not_of_ok (faults.Damaged at) y wanted is = absurd (cc)
not_of_ok (faults.Tampered batch at) y wanted is = absurd (cc)
not_of_ok faults.DiskFault y wanted is = tt
not_of_ok faults.OutOfMemory y wanted is = tt

fails_by : (fault : OpenFault) (judge : Judges) (past : Past) (rest : List ℕ) (test : Bool) → eqb past.gate 1 ≡ test →
    IsFault fault (cond test (turn_by judge past rest) (Ok None)) → IsFault fault (walk_at (turn_by judge) past 0 rest)
fails_by fault judge past rest true gate is = steps_fail fault judge past rest gate is
fails_by fault judge past rest false gate is = not_of_ok fault None (walk_at (turn_by judge) past 0 rest) is

-- a test fails
pub log_fails : (fault : OpenFault) (log : LogState) (s : List ℕ) → IsFault fault (next_in log s) → IsFault fault (log_in log s)
unfolding next_in log_in
log_fails fault log s is =
    before-fault fault log.given (walk_at (turn_by (read_turn log.owner)) log.past 0 (drop log.past.at s))
    (fails_by fault (read_turn log.owner) log.past (drop log.past.at s) (eqb log.past.gate 1) refl is)

is_open : (test : Bool) (read : Result (Option PlainTurn) Fault) (turn : PlainTurn) → cond test read (Ok None) ≡ Ok (Some turn) → (test ≡ true) × (read ≡ Ok (Some turn))
is_open true read turn is = (refl, is)
is_open false read turn is = absurd (cc)

opened : (log : LogState) (s : List ℕ) (turn : PlainTurn) → next_in log s ≡ Ok (Some turn) →
    (eqb log.past.gate 1 ≡ true) × (turn_by (read_turn log.owner) log.past (drop log.past.at s) ≡ Ok (Some turn))
unfolding next_in
opened log s turn is = is_open (eqb log.past.gate 1) (turn_by (read_turn log.owner) log.past (drop log.past.at s)) turn is

-- one batch more
pub log_more : (log new : LogState) (s : List ℕ) (turn : PlainTurn) → new.owner ≡ log.owner → new.given ≡ log.given ++ turn.placed ∷ [] → new.past ≡ turn.past →
    next_in log s ≡ Ok (Some turn) → log.past.at < turn.past.at → log_in new s ≡ log_in log s
unfolding log_in
log_more log new s turn owner given past is ahead =
    let judge = read_turn log.owner in
    let there : drop (turn.past.at - log.past.at) (drop log.past.at s) ≡ drop turn.past.at s =
    drop-drop (turn.past.at - log.past.at) log.past.at s ∙ ap (λ n. drop n s) (omega arith)
    in
    let step = opened log s turn is in
    rw (owner, given, past)
    (sym (ap (before log.given) (steps_on judge log.past (drop log.past.at s) turn step.0 step.1 ahead ∙ ap (λ r. before (turn.placed ∷ []) (walk_at (turn_by judge) turn.past 0 r)) there)
    ∙ before-before log.given (turn.placed ∷ []) (walk_at (turn_by judge) turn.past 0 (drop turn.past.at s))))

-- ---- a batch once more

tag_ok : (test : Bool) (read : Result (Option PlainTurn) Fault) (fault : Fault) (turn : PlainTurn) → cond test read (Err fault) ≡ Ok (Some turn) → (test ≡ true) × (read ≡ Ok (Some turn))
tag_ok true read fault turn is = (refl, is)
tag_ok false read fault turn is = absurd (cc)

slot_ok : (test gate : Bool) (read : Result (Option PlainTurn) Fault) (fault : Fault) (turn : PlainTurn) → cond test read (cond gate (Err fault) (Ok None)) ≡ Ok (Some turn) → test ≡ true
slot_ok true gate read fault turn is = refl
slot_ok false true read fault turn is = absurd (cc)
slot_ok false false read fault turn is = absurd (cc)

some_ok : (read : Result PlainTurn Fault) (turn : PlainTurn) → and_then read (λ t. Ok (Some t)) ≡ Ok (Some turn) → read ≡ Ok turn
unfolding and_then
some_ok (Ok t) turn is = let same : t ≡ turn = cc in ap Ok same
some_ok (Err fault) turn is = absurd (cc)

is_published_turn : (past : Past) (head : Head) (batch : List ℕ) (turn : PlainTurn) → published_turn past head batch ≡ Ok (Some turn) → is_published head.size batch ≡ true
unfolding published_turn is_published
is_published_turn past head batch turn is =
    slot_ok _ (eqb (gate_in head.size batch) 1) _ (Tampered head.number (past.at + 13)) turn is

again_of : (who : Option (List ℕ)) (past : Past) (head : Head) (batch : List ℕ) (turn : PlainTurn) → read_turn who past head batch ≡ Ok (Some turn) →
    again_turn who past head batch ≡ Ok turn
unfolding read_turn again_turn
again_of who past head batch turn is =
    let tag = tag_ok (has_tag who past head batch) (published_turn past head batch) (Tampered head.number (past.at + 77 + head.size)) turn is in
    let test = is_published_turn past head batch turn tag.1 in
    rw (tag.0, test) (some_ok _ turn (sym (published_by past head batch test) ∙ tag.1))

pub again_shown : (who : Option (List ℕ)) (past : Past) (s : List ℕ) (turn : PlainTurn) → turn_by (read_turn who) past (drop past.at s) ≡ Ok (Some turn) →
    and_then (again_at who past s) (λ t. Ok t.placed) ≡ Ok turn.placed
unfolding turn_by again_at and_then
again_shown who past s turn is =
    let rest = drop past.at s in
    let step = and_then_ok (head_at past rest) (λ h. read_turn who past h (take (batch_len + h.size) rest)) (Some turn) is in
    ap (λ r. and_then (and_then r (λ h. again_turn who past h (take (batch_len + h.size) rest))) (λ t. Ok t.placed)) step.1
    ∙ ap (λ r. and_then r (λ t. Ok t.placed)) (again_of who past step.0 (take (batch_len + step.0.size) rest) turn step.2)

-- a batch that was read behind its head
pub again_is : (who : Option (List ℕ)) (past : Past) (s : List ℕ) (head : Head) (batch : List ℕ) → head_at past (drop past.at s) ≡ Ok head →
    batch ≡ take (batch_len + head.size) (drop past.at s) → again_at who past s ≡ again_turn who past head batch
unfolding again_at and_then
again_is who past s head batch head_is batch_is = rw (head_is, batch_is) refl

-- ---- the batches that were given

shows_by : (log new : LogState) (s : List ℕ) (turn : PlainTurn) → new.owner ≡ log.owner → new.given ≡ log.given ++ turn.placed ∷ [] → new.starts ≡ log.starts ++ log.past ∷ [] →
    length log.starts ≡ length log.given → turn_by (read_turn log.owner) log.past (drop log.past.at s) ≡ Ok (Some turn) → ShowsGiven log s →
    (batch : ℕ) (p : PlainPlaced) (test : Bool) → nat_le batch (length log.given) ≡ test → 1 ≤ batch → batch ≤ length new.given →
    and_then (again_at new.owner (get_or new.starts (batch - 1) nothing) s) (λ t. Ok t.placed) ≡ Ok (get_or new.given (batch - 1) p)
shows_by log new s turn owner given starts count is shows batch p true low from to =
    let within : batch ≤ length log.given = grind (arith, nat_tests) in
    let index : batch - 1 < length log.given = omega arith in
    let first : batch - 1 < length log.starts = omega (arith, count) in
    rw (owner, given, starts, get_or_append_left log.starts (log.past ∷ []) nothing (batch - 1) first, get_or_append_left log.given (turn.placed ∷ []) p (batch - 1) index)
    (shows batch p from within)
shows_by log new s turn owner given starts count is shows batch p false high from to =
    let past_it : length log.given < batch = grind (arith, nat_tests) in
    let long = ap length given in
    let index : batch - 1 ≡ length log.given = omega (arith, length-append log.given (turn.placed ∷ [])) in
    let first : batch - 1 ≡ length log.starts = omega (arith, count) in
    let start : get_or new.starts (batch - 1) nothing ≡ log.past =
    ap (λ n. get_or new.starts n nothing) first ∙ ap (λ (ps : List Past). get_or ps (length log.starts) nothing) starts ∙ get_or-append_seam log.starts log.past [] nothing
    in
    let last : get_or new.given (batch - 1) p ≡ turn.placed =
    ap (λ n. get_or new.given n p) index ∙ ap (λ (ps : List PlainPlaced). get_or ps (length log.given) p) given ∙ get_or-append_seam log.given turn.placed [] p
    in
    rw (owner, start, last) (again_shown log.owner log.past s turn is)

pub shows_more : (log new : LogState) (s : List ℕ) (turn : PlainTurn) → new.owner ≡ log.owner → new.given ≡ log.given ++ turn.placed ∷ [] → new.starts ≡ log.starts ++ log.past ∷ [] →
    length log.starts ≡ length log.given → next_in log s ≡ Ok (Some turn) → ShowsGiven log s → ShowsGiven new s
shows_more log new s turn owner given starts count is shows = λ batch p from to.
    shows_by log new s turn owner given starts count (opened log s turn is).1 shows batch p (nat_le batch (length log.given)) refl from to

-- ---- what the log keeps of them

starts_more : (n : ℕ) (starts : List Past) (past next : Past) → next.number ≡ past.number + 1 → header_len ≤ next.at → next.at ≤ most_store_bytes → AreStarts n (starts ++ past ∷ []) →
    AreStarts n ((starts ++ past ∷ []) ++ next ∷ [])
starts_more n [] past next number low high are = (are.0, are.1, are.2, (number ∙ ap (λ k. k + 1) are.0, low, high, tt))
starts_more n (first ∷ starts) past next number low high are = (are.0, are.1, are.2, starts_more (n + 1) starts past next number low high are.3)

-- the gate behind the last doesn't count
starts_gated : (n : ℕ) (starts : List Past) (past : Past) (gate : ℕ) → AreStarts n (starts ++ past ∷ []) → AreStarts n (starts ++ (record past { gate = gate }) ∷ [])
starts_gated n [] past gate are = (are.0, are.1, are.2, tt)
starts_gated n (first ∷ starts) past gate are = (are.0, are.1, are.2, starts_gated (n + 1) starts past gate are.3)

pub reading_gated : (given : List PlainPlaced) (starts : List Past) (past : Past) (gate : ℕ) → IsReading given starts past → IsReading given starts (record past { gate = gate })
reading_gated given starts past gate reading = record {
  count = reading.count;
  places = starts_gated 0 starts past gate reading.places;
  epochs = reading.epochs;
  epoch = reading.epoch;
}

pub starts_at : (n i : ℕ) (starts more : List Past) → AreStarts n (starts ++ more) → i < length starts →
    let past = get_or starts i nothing in (header_len ≤ past.at) × (past.at ≤ most_store_bytes) × (past.number ≡ n + i)
starts_at n i [] more are within = absurd (omega (arith, within))
starts_at n zero (first ∷ starts) more are within = (are.1, are.2, omega (arith, are.0))
starts_at n (suc i) (first ∷ starts) more are within =
    let rest = starts_at (n + 1) i starts more are.3 (omega (arith, within)) in
    (rest.0, rest.1, omega (arith, rest.2))

pub last_start : (n : ℕ) (starts : List Past) (past : Past) → AreStarts n (starts ++ past ∷ []) → (header_len ≤ past.at) × (past.at ≤ most_store_bytes) × (past.number ≡ n + length starts)
last_start n [] past are = (are.1, are.2, omega (arith, are.0))
last_start n (first ∷ starts) past are =
    let rest = last_start (n + 1) starts past are.3 in
    (rest.0, rest.1, omega (arith, rest.2))

epochs_more : (before_it : ℕ) (given : List PlainPlaced) (p : PlainPlaced) → AreInEpochs before_it given → IsInEpoch (epoch_behind before_it given) p.epoch.0 p.body →
    AreInEpochs before_it (given ++ p ∷ [])
epochs_more before_it [] p are is = (is, tt)
epochs_more before_it (q ∷ given) p are is = (are.0, epochs_more q.epoch.0 given p are.1 is)

pub reading_starts : (past : Past) → past.at ≡ header_len → past.number ≡ 0 → past.epoch.0 ≡ 0 → IsReading [] [] past
reading_starts past at number epoch = record {
  count = refl;
  places = (number, omega (arith, at), omega (arith, at), tt);
  epochs = tt;
  epoch = epoch;
}

pub reading_more : (given : List PlainPlaced) (starts : List Past) (past : Past) (turn : PlainTurn) → IsReading given starts past → IsTurnIn past turn →
    turn.past.number ≡ past.number + 1 → past.at ≤ turn.past.at → turn.past.at ≤ most_store_bytes → IsReading (given ++ turn.placed ∷ []) (starts ++ past ∷ []) turn.past
reading_more given starts past turn reading here number ahead within =
    let last = last_start 0 starts past reading.places in
    record {
      count = omega (arith, reading.count, length-append given (turn.placed ∷ []), length-append starts (past ∷ []));
      places = starts_more 0 starts past turn.past number (omega (arith, last.0, ahead)) within reading.places;
      epochs = epochs_more 0 given turn.placed reading.epochs (subst (λ epoch. IsInEpoch epoch turn.placed.epoch.0 turn.placed.body) reading.epoch here.0);
      epoch = here.1 ∙ sym (epoch_more 0 given turn.placed);
    }

number_back : (n : ℕ) → n + 1 - 1 ≡ n
number_back n = omega arith

-- what was known before a batch that was given is what was before the batch with its number
pub start_is : (log : LogState) (start : Past) → IsStart log start → start_of log (start.number + 1) ≡ start
start_is log start is =
    ap (λ n. get_or log.starts n nothing) (number_back start.number) ∙ get_or_from_slice_get log.starts start.number start nothing is

pub start_place : (log : LogState) (start : Past) → IsReading log.given log.starts log.past → IsStart log start → (header_len ≤ start.at) × (start.at ≤ most_store_bytes)
start_place log start reading is =
    let at = starts_at 0 start.number log.starts (log.past ∷ []) reading.places (slice_get_within log.starts start.number start is) in
    let same = get_or_from_slice_get log.starts start.number start nothing is in
    (omega (arith, at.0, ap (λ (p : Past). p.at) same), omega (arith, at.1, ap (λ (p : Past). p.at) same))

pub answers_one : (result : Result Placed OpenFault) (wanted : Result PlainPlaced Fault) (p : PlainPlaced) → Answers plain_placed result wanted → wanted ≡ Ok p →
    MatchResult result (λ placed. plain_placed placed ≡ p) (λ fault. (fault ≡ faults.DiskFault) ⊎ (fault ≡ faults.OutOfMemory))
answers_one (Ok placed) wanted p answers is =
    let both : Ok (plain_placed placed) ≡ Ok p = sym answers ∙ is in
    cc
answers_one (Err faults.NotAStore) wanted p answers is = absurd (cc)
answers_one (Err faults.WrongKey) wanted p answers is = absurd (cc)
answers_one (Err (faults.Damaged at)) wanted p answers is = absurd (cc)
answers_one (Err (faults.Tampered batch at)) wanted p answers is = absurd (cc)
answers_one (Err faults.DiskFault) wanted p answers is = inl refl
answers_one (Err faults.OutOfMemory) wanted p answers is = inr refl
