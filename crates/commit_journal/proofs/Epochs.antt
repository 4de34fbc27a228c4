-- The epochs of a log count up, as the owner reads it, whether for writing or not. And a holder reads what the owner reads.
use Rattle.std.proofs.Common.{◌≡◌, ℕ, zero, suc, ◌+◌, ◌-◌, Bool, true, false, cond, eqb, List, [], ◌∷◌, ◌++◌, length, take, drop, Option, None, Some, Result, Ok, Err, refl, sym, ap, ◌∙◌, subst}
use Rattle.std.specs.Prelude.{nat_le, ◌&&◌, codes, slice_index, slice_range}
use Rattle.std.proofs.lemmas.Bool.{and_parts}
use Rattle.std.specs.Str.{bytes_eq}
use Rattle.cry_base.specs.Layout.{batch_len, header_len}
use Rattle.cry_base.specs.Limits.{most_store_bytes}
use Rattle.chacha_seal.specs.Sealing.{check_of, masked, veil_of}
use Rattle.hmac_seal.specs.Hmac.{hmac}
use Rattle.record_format.specs.Plain.{PlainPayload}
use Rattle.record_format.specs.Reading.{payload_or_place}
use Rattle.commit_journal.specs.declared.head.Head.{Head}
use Rattle.commit_journal.specs.declared.past.Past.{Past}
use Rattle.commit_journal.specs.Answering.{Fault, NotAStore, WrongKey, Damaged, Tampered, and_then}
use Rattle.commit_journal.specs.Log.{PlainTurn, head_of, is_batch, fits_epoch, slot_in, payload_in, check_in, gate_in, as_commands, body_of, placed_body, turn_of, published_turn, tagged_turn, head_at, turn_at, before, goes_on, log_at, start_of, start_at, log_verdict}
use Rattle.commit_journal.specs.Logs.{walk_at, turn_by, unowned_start_of, unowned_start, holder_log, recovered_turn, tagged_recovered, writer_log, IsInEpoch, AreInEpochs}
use Rattle.commit_journal.specs.Opening.{IsTurnIn}
use Rattle.commit_journal.specs.Placed.{PlainBody, Commands, NewEpoch, PlainPlaced}
use Rattle.commit_journal.proofs.Counted.{next_fits, command_fits}
use Rattle.commit_journal.proofs.Followed.{and_then_ok, guard_ok, before_ok}
use Rattle.commit_journal.proofs.Walked.{turn-nil}
use Rattle.commit_journal.proofs.Walks.{Judges, Turns, owner_walks}

-- ---- what a turn that was read tells

passed_ok : {A : Type 0} (test : Bool) (x : Result A Fault) (fault : Fault) (y : A) → cond test x (Err fault) ≡ Ok y → x ≡ Ok y
passed_ok true x fault y is = is
passed_ok false x fault y is = absurd (cc)

-- a turn was published, or ends the log
published_ok : (test open_gate : Bool) (x : Result (Option PlainTurn) Fault) (fault : Fault) (t : PlainTurn) → cond test x (cond open_gate (Err fault) (Ok None)) ≡ Ok (Some t) → x ≡ Ok (Some t)
published_ok true open_gate x fault t is = is
published_ok false true x fault t is = absurd (cc)
published_ok false false x fault t is = absurd (cc)

placed_ok : (past : Past) (read : Result PlainBody ℕ) (body : PlainBody) → placed_body past read ≡ Ok body → read ≡ Ok body
placed_ok past (Ok b) body is = cc
placed_ok past (Err at) body is = absurd (cc)

commands_ok : (read : Result PlainPayload ℕ) (body : PlainBody) → as_commands read ≡ Ok body → (p : PlainPayload) × (body ≡ Commands p)
commands_ok (Ok p) body is = (p, cc)
commands_ok (Err at) body is = absurd (cc)

-- a body by its type byte, in an epoch that fits
body_in : (two : Bool) (before_it epoch size type_byte : ℕ) (read : Result PlainPayload ℕ) (body : PlainBody) →
    cond two (Ok NewEpoch) (as_commands read) ≡ Ok body →
    cond two (eqb size 0 && eqb epoch (before_it + 1)) (eqb type_byte 1 && (nat_le 1 before_it && eqb epoch before_it)) ≡ true →
    IsInEpoch before_it epoch body
body_in true before_it epoch size type_byte read body is fits =
    let same : NewEpoch ≡ body = cc in subst (IsInEpoch before_it epoch) same (next_fits before_it epoch size fits)
body_in false before_it epoch size type_byte read body is fits =
    let told = commands_ok read body is in subst (IsInEpoch before_it epoch) (sym told.1) (command_fits before_it epoch type_byte fits)

-- a payload that was read behind a head that fits
read_in : (past : Past) (head : Head) (batch payload : List ℕ) (t : PlainTurn) → fits_epoch past head ≡ true →
    and_then (placed_body past (body_of head payload)) (λ body. Ok (Some (turn_of past head batch body))) ≡ Ok (Some t) → IsTurnIn past t
unfolding body_of
read_in past head batch payload t fits is =
    let turn : PlainBody → Result (Option PlainTurn) Fault = λ body. Ok (Some (turn_of past head batch body)) in
    let step = and_then_ok (placed_body past (body_of head payload)) turn (Some t) is in
    let body_read : body_of head payload ≡ Ok step.0 = placed_ok past (body_of head payload) step.0 step.1 in
    let inside : IsInEpoch past.epoch.0 head.epoch.0 step.0 =
    body_in (eqb head.type_byte 2) past.epoch.0 head.epoch.0 head.size head.type_byte (payload_or_place payload) step.0 body_read fits
    in
    let last : Ok (Some (turn_of past head batch step.0)) ≡ Ok (Some t) = step.2 in
    let same : turn_of past head batch step.0 ≡ t = cc in
    subst (IsTurnIn past) same (inside, refl)

-- whoever judges the whole of a batch behind a head that fits, the turn is in its epoch
abbrev IsJudgedIn : Judges → Type 0
IsJudgedIn judge = (past : Past) (head : Head) (batch : List ℕ) (t : PlainTurn) → fits_epoch past head ≡ true → judge past head batch ≡ Ok (Some t) → IsTurnIn past t

published_in : IsJudgedIn published_turn
unfolding published_turn
published_in past head batch t fits is =
    let payload : List ℕ = masked (slot_in batch) (payload_in head.size batch) in
    let x : Result (Option PlainTurn) Fault = and_then (placed_body past (body_of head payload)) (λ body. Ok (Some (turn_of past head batch body))) in
    read_in past head batch payload t fits
    (published_ok (bytes_eq (hmac (slot_in batch) (payload_in head.size batch)) (check_in head.size batch)) (eqb (gate_in head.size batch) 1) x (Tampered head.number (past.at + 13)) t is)

tagged_in : (owner : List ℕ) → IsJudgedIn (tagged_turn owner)
unfolding tagged_turn
tagged_in owner past head batch t fits is = published_in past head batch t fits (passed_ok _ _ _ (Some t) is)

recovered_in : (owner : List ℕ) → IsJudgedIn (tagged_recovered owner)
unfolding tagged_recovered recovered_turn
recovered_in owner past head batch t fits is =
    read_in past head batch (masked (veil_of owner head.epoch.0 head.number) (payload_in head.size batch)) t fits (passed_ok _ _ _ (Some t) is)

abbrev AreTurnsIn : Turns → Type 0
AreTurnsIn turns = (past : Past) (rest : List ℕ) (t : PlainTurn) → turns past rest ≡ Ok (Some t) → IsTurnIn past t

turns_in : (judge : Judges) → IsJudgedIn judge → AreTurnsIn (turn_by judge)
unfolding turn_by head_at is_batch
turns_in judge judged past rest t is =
    let head = head_of (take 13 rest) in
    let step = and_then_ok (head_at past rest) (λ h. judge past h (take (batch_len + h.size) rest)) (Some t) is in
    let guard = guard_ok (is_batch past head (length rest)) head step.0 (Damaged past.at) step.1 in
    let first = and_parts (nat_le (batch_len + head.size) (length rest)) _ guard.0 in
    let second = and_parts (nat_le (past.at + (batch_len + head.size)) most_store_bytes) _ first.1 in
    let third = and_parts (eqb head.number (past.number + 1)) (fits_epoch past head) second.1 in
    judged past head (take (batch_len + head.size) rest) t third.1 (ap (λ h. judge past h (take (batch_len + h.size) rest)) guard.1 ∙ step.2)

owners_in : (owner : List ℕ) → AreTurnsIn (turn_at owner)
unfolding turn_at turn_by
owners_in owner past rest t is = turns_in (tagged_turn owner) (tagged_in owner) past rest t is

-- ---- the walk

nothing_in : (past : Past) (log : List PlainPlaced) → ◌≡◌ {A = Result (List PlainPlaced) Fault} (Ok []) (Ok log) → AreInEpochs past.epoch.0 log
nothing_in past log is = let same : [] ≡ log = cc in subst (AreInEpochs past.epoch.0) same tt

if_open_in : (past : Past) (test : Bool) (walk : Result (List PlainPlaced) Fault) → ((log : List PlainPlaced) → walk ≡ Ok log → AreInEpochs past.epoch.0 log) →
    (log : List PlainPlaced) → cond test walk (Ok []) ≡ Ok log → AreInEpochs past.epoch.0 log
if_open_in past true walk told log is = told log is
if_open_in past false walk told log is = nothing_in past log is

goes_on_in : (past : Past) (turn : Result (Option PlainTurn) Fault) (rest : PlainTurn → Result (List PlainPlaced) Fault) →
    ((t : PlainTurn) → turn ≡ Ok (Some t) → IsTurnIn past t) → ((t : PlainTurn) (log : List PlainPlaced) → rest t ≡ Ok log → AreInEpochs t.past.epoch.0 log) →
    (log : List PlainPlaced) → goes_on turn rest ≡ Ok log → AreInEpochs past.epoch.0 log
unfolding goes_on before
goes_on_in past (Ok (Some t)) rest told others log is =
    let step = before_ok (t.placed ∷ []) (rest t) log is in
    let this = told t refl in
    let next : AreInEpochs t.placed.epoch.0 step.0 = subst (λ e. AreInEpochs e step.0) this.1 (others t step.0 step.1) in
    subst (AreInEpochs past.epoch.0) step.2 (this.0, next)
goes_on_in past (Ok None) rest told others log is = nothing_in past log is
goes_on_in past (Err fault) rest told others log is = absurd (cc)

abbrev RestIn : Turns → List ℕ → Type 0
RestIn turns rest = (past : Past) (skip : ℕ) (log : List PlainPlaced) → walk_at turns past skip rest ≡ Ok log → AreInEpochs past.epoch.0 log

passed_in : (turns : Turns) → AreTurnsIn turns → (byte : ℕ) (rest : List ℕ) (past : Past) (skip : ℕ) → RestIn turns rest →
    (log : List PlainPlaced) → walk_at turns past skip (byte ∷ rest) ≡ Ok log → AreInEpochs past.epoch.0 log
unfolding walk_at
passed_in turns told byte rest past zero others log is =
    let walk : PlainTurn → Result (List PlainPlaced) Fault = λ t. walk_at turns t.past (t.past.at - (past.at + 1)) rest in
    if_open_in past (eqb past.gate 1) (goes_on (turns past (byte ∷ rest)) walk)
    (goes_on_in past (turns past (byte ∷ rest)) walk (told past (byte ∷ rest)) (λ t. others t.past (t.past.at - (past.at + 1)))) log is
passed_in turns told byte rest past (suc skip) others log is = others past skip log is

walk_in : (turns : Turns) → AreTurnsIn turns → (rest : List ℕ) → RestIn turns rest
unfolding walk_at
walk_in turns told [] = λ past skip log is.
    if_open_in past (eqb past.gate 1) (goes_on (turns past []) (λ _. Ok []))
    (goes_on_in past (turns past []) (λ _. Ok []) (told past []) (λ t. nothing_in t.past)) log is
walk_in turns told (byte ∷ rest) = λ past skip. passed_in turns told byte rest past skip (walk_in turns told rest)

-- the header is followed by no epoch yet
abbrev IsBegun : Past → Type 0
IsBegun past = past.epoch.0 ≡ 0

start_of_begun : (owner header : List ℕ) (a b : Bool) (past : Past) (start : Past) → IsBegun start → cond a (cond b (Ok start) (Err WrongKey)) (Err NotAStore) ≡ Ok past → IsBegun past
start_of_begun owner header true true past start zero_epoch is = let same : start ≡ past = cc in subst IsBegun same zero_epoch
start_of_begun owner header true false past start zero_epoch is = absurd (cc)
start_of_begun owner header false b past start zero_epoch is = absurd (cc)

start_begun : (owner bytes : List ℕ) (past : Past) → start_at owner bytes ≡ Ok past → IsBegun past
unfolding start_at start_of
start_begun owner bytes past is =
    let header : List ℕ = take header_len bytes in
    let start : Past = record { at = header_len; number = 0; epoch = record { 0 = 0 }; tag = slice_range header 9 41; gate = slice_index header 41 } in
    start_of_begun owner header (bytes_eq (take 9 header) (codes "CRYPTREE" ++ 1 ∷ [])) (bytes_eq (slice_range header 9 41) (check_of owner)) past start refl
    (passed_ok (nat_le header_len (length bytes)) (start_of owner header) NotAStore past is)

walk_epochs : (turns : Turns) → AreTurnsIn turns → (owner bytes : List ℕ) (log : List PlainPlaced) →
    and_then (start_at owner bytes) (λ past. walk_at turns past 0 (drop header_len bytes)) ≡ Ok log → AreInEpochs 0 log
walk_epochs turns told owner bytes log is =
    let step = and_then_ok (start_at owner bytes) (λ past. walk_at turns past 0 (drop header_len bytes)) log is in
    subst (λ e. AreInEpochs e log) (start_begun owner bytes step.0 step.1) (walk_in turns told (drop header_len bytes) step.0 0 log step.2)

pub log_epochs : (owner bytes : List ℕ) (log : List PlainPlaced) → log_verdict owner bytes ≡ Ok log → AreInEpochs 0 log
log_epochs owner bytes log is = walk_epochs (turn_at owner) (owners_in owner) owner bytes log (owner_walks owner bytes ∙ is)

pub writer_epochs : (owner bytes : List ℕ) (log : List PlainPlaced) → writer_log owner bytes ≡ Ok log → AreInEpochs 0 log
unfolding writer_log
writer_epochs owner bytes log is = walk_epochs (turn_by (tagged_recovered owner)) (turns_in (tagged_recovered owner) (recovered_in owner)) owner bytes log is

-- ---- a holder reads what the owner reads

turn_too : (owner : List ℕ) (past : Past) (rest : List ℕ) (turn : Option PlainTurn) → turn_at owner past rest ≡ Ok turn → turn_by published_turn past rest ≡ Ok turn
unfolding turn_at tagged_turn turn_by and_then
turn_too owner past rest turn is =
    let step = and_then_ok (head_at past rest) (λ h. tagged_turn owner past h (take (batch_len + h.size) rest)) turn is in
    ap (λ r. and_then r (λ h. published_turn past h (take (batch_len + h.size) rest))) step.1 ∙ passed_ok _ _ _ turn step.2

abbrev IsReadToo : List ℕ → List ℕ → Type 0
IsReadToo owner rest = (past : Past) (skip : ℕ) (log : List PlainPlaced) → log_at owner past skip rest ≡ Ok log → walk_at (turn_by published_turn) past skip rest ≡ Ok log

goes_on_too : (owner : List ℕ) (past : Past) (rest : List ℕ) (turn other : Result (Option PlainTurn) Fault) (log : List PlainPlaced) →
    ((t : Option PlainTurn) → turn ≡ Ok t → other ≡ Ok t) → IsReadToo owner rest →
    goes_on turn (λ t. log_at owner t.past (t.past.at - (past.at + 1)) rest) ≡ Ok log →
    goes_on other (λ t. walk_at (turn_by published_turn) t.past (t.past.at - (past.at + 1)) rest) ≡ Ok log
unfolding goes_on before
goes_on_too owner past rest (Ok (Some t)) other log same more is =
    let step = before_ok (t.placed ∷ []) (log_at owner t.past (t.past.at - (past.at + 1)) rest) log is in
    let others = more t.past (t.past.at - (past.at + 1)) step.0 step.1 in
    rw (same (Some t) refl, others) (ap Ok step.2)
goes_on_too owner past rest (Ok None) other log same more is = rw (same None refl) is
goes_on_too owner past rest (Err fault) other log same more is = absurd (cc)

step_too : (owner : List ℕ) (past : Past) (byte : ℕ) (rest : List ℕ) (test : Bool) (log : List PlainPlaced) → IsReadToo owner rest →
    cond test (goes_on (turn_at owner past (byte ∷ rest)) (λ t. log_at owner t.past (t.past.at - (past.at + 1)) rest)) (Ok []) ≡ Ok log →
    cond test (goes_on (turn_by published_turn past (byte ∷ rest)) (λ t. walk_at (turn_by published_turn) t.past (t.past.at - (past.at + 1)) rest)) (Ok []) ≡ Ok log
step_too owner past byte rest true log more is =
    goes_on_too owner past rest (turn_at owner past (byte ∷ rest)) (turn_by published_turn past (byte ∷ rest)) log (turn_too owner past (byte ∷ rest)) more is
step_too owner past byte rest false log more is = is

ended_too : (owner : List ℕ) (past : Past) (test : Bool) (log : List PlainPlaced) → cond test (goes_on (turn_at owner past []) (λ _. Ok [])) (Ok []) ≡ Ok log →
    cond test (goes_on (turn_by published_turn past []) (λ _. Ok [])) (Ok []) ≡ Ok log
unfolding goes_on
ended_too owner past true log is = let wrong : Err (Damaged past.at) ≡ Ok log = ap (λ t. goes_on t (λ _. Ok [])) (sym (turn-nil owner past)) ∙ is in absurd (cc)
ended_too owner past false log is = is

passed_too : (owner : List ℕ) (byte : ℕ) (rest : List ℕ) (past : Past) (skip : ℕ) → IsReadToo owner rest → (log : List PlainPlaced) →
    log_at owner past skip (byte ∷ rest) ≡ Ok log → walk_at (turn_by published_turn) past skip (byte ∷ rest) ≡ Ok log
unfolding log_at walk_at
passed_too owner byte rest past zero more log is = step_too owner past byte rest (eqb past.gate 1) log more is
passed_too owner byte rest past (suc skip) more log is = more past skip log is

walk_too : (owner rest : List ℕ) → IsReadToo owner rest
unfolding log_at walk_at
walk_too owner [] = λ past skip log is. ended_too owner past (eqb past.gate 1) log is
walk_too owner (byte ∷ rest) = λ past skip. passed_too owner byte rest past skip (walk_too owner rest)

start_too : (a b c : Bool) (start past : Past) → cond a (cond b (cond c (Ok start) (Err WrongKey)) (Err NotAStore)) (Err NotAStore) ≡ Ok past → cond a (cond b (Ok start) (Err NotAStore)) (Err NotAStore) ≡ Ok past
start_too true true true start past is = is
start_too true true false start past is = absurd (cc)
start_too true false c start past is = absurd (cc)
start_too false b c start past is = absurd (cc)

header_too : (owner bytes : List ℕ) (past : Past) → start_at owner bytes ≡ Ok past → unowned_start bytes ≡ Ok past
unfolding start_at start_of unowned_start unowned_start_of
header_too owner bytes past is = start_too (nat_le header_len (length bytes)) _ (bytes_eq _ (check_of owner)) _ past is

pub holder_too : (owner bytes : List ℕ) (log : List PlainPlaced) → log_verdict owner bytes ≡ Ok log → holder_log bytes ≡ Ok log
unfolding log_verdict holder_log and_then
holder_too owner bytes log is =
    let step = and_then_ok (start_at owner bytes) (λ past. log_at owner past 0 (drop header_len bytes)) log is in
    ap (λ r. and_then r (λ past. walk_at (turn_by published_turn) past 0 (drop header_len bytes))) (header_too owner bytes step.0 step.1)
    ∙ walk_too owner (drop header_len bytes) step.0 0 log step.2
