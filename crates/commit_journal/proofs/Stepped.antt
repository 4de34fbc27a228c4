-- The walk from gate to gate, one turn at a time, however a batch is judged.
use Rattle.std.proofs.Common.{◌≡◌, ℕ, suc, ◌+◌, ◌-◌, ◌<◌, ◌≤◌, true, false, eqb, List, [], ◌∷◌, ◌++◌, take, drop, length, Option, None, Some, Result, Ok, Err, refl, sym, ap, ◌∙◌, arith}
use Rattle.std.specs.Prelude.{nat_le}
use Rattle.std.proofs.lemmas.Bool.Decides.{nat_tests}
use Rattle.std.proofs.lemmas.List.{drop-drop}
use Rattle.cry_base.specs.Layout.{batch_len, header_len}
use Rattle.commit_journal.specs.declared.fault.OpenFault.{OpenFault}
use Rattle.commit_journal.specs.declared.head.Head.{Head}
use Rattle.commit_journal.specs.declared.past.Past.{Past}
use Rattle.commit_journal.specs.Answering.{Fault, NotAStore, Damaged, and_then, IsFault}
use Rattle.chacha_seal.specs.Sealing.{veil_of, masked}
use Rattle.commit_journal.specs.Log.{PlainTurn, before, goes_on, head_at, slot_in, payload_in, body_of, placed_body, turn_of, published_turn, tagged_turn, turn_at, start_of, start_at, log_verdict}
use Rattle.commit_journal.specs.Logs.{walk_at, turn_by, holder_log, unowned_start, unowned_start_of}
use Rattle.commit_journal.specs.Opening.{owned_turn}
use Rattle.commit_journal.specs.Placed.{PlainBody, PlainPlaced}
use Rattle.commit_journal.specs.Readers.{has_check, has_tag, header_of, header_at, is_published, unmasked_turn, read_turn, read_log}
use Rattle.commit_journal.proofs.Walked.{before-nil, before-before, goes_on-fault}
use Rattle.commit_journal.proofs.Walks.{Judges, owner_walks, turn_none, walk-skip}

-- ---- the header

pub header_short : (who : Option (List ℕ)) (s : List ℕ) → length s < header_len → header_at who s ≡ Err NotAStore
unfolding header_at
header_short who s short = let test : nat_le header_len (length s) ≡ false = grind (arith, nat_tests) in rw test refl

pub header_long : (who : Option (List ℕ)) (s : List ℕ) → header_len ≤ length s → header_at who s ≡ header_of who (take header_len s)
unfolding header_at
header_long who s long = let test : nat_le header_len (length s) ≡ true = grind (arith, nat_tests) in rw test refl

-- ---- one turn

-- a batch that was read behind its head
pub turn_is_by : (judge : Judges) (past : Past) (rest : List ℕ) (head : Head) (batch : List ℕ) → head_at past rest ≡ Ok head →
    batch ≡ take (batch_len + head.size) rest → turn_by judge past rest ≡ judge past head batch
unfolding turn_by and_then
turn_is_by judge past rest head batch head_is batch_is = rw (head_is, batch_is) refl

-- a batch more
pub steps_on : (judge : Judges) (past : Past) (rest : List ℕ) (turn : PlainTurn) → eqb past.gate 1 ≡ true → turn_by judge past rest ≡ Ok (Some turn) →
    past.at < turn.past.at → walk_at (turn_by judge) past 0 rest ≡ before (turn.placed ∷ []) (walk_at (turn_by judge) turn.past 0 (drop (turn.past.at - past.at) rest))
unfolding walk_at goes_on
steps_on judge past [] turn gate is ahead = let wrong : Ok (Some turn) ≡ Err (Damaged past.at) = sym is ∙ turn_none judge past in absurd (cc)
steps_on judge past (byte ∷ rest) turn gate is ahead =
    let far : turn.past.at - past.at ≡ suc (turn.past.at - (past.at + 1)) = omega arith in
    rw (gate, is, far) (ap (before (turn.placed ∷ [])) (walk-skip (turn_by judge) turn.past (turn.past.at - (past.at + 1)) rest))

-- the end of the log before an unpublished batch
pub steps_end : (judge : Judges) (past : Past) (rest : List ℕ) → eqb past.gate 1 ≡ true → turn_by judge past rest ≡ Ok None → walk_at (turn_by judge) past 0 rest ≡ Ok []
unfolding walk_at goes_on
steps_end judge past [] gate is = rw (gate, is) refl
steps_end judge past (byte ∷ rest) gate is = rw (gate, is) refl

-- a test that fails
pub steps_fail : (fault : OpenFault) (judge : Judges) (past : Past) (rest : List ℕ) → eqb past.gate 1 ≡ true → IsFault fault (turn_by judge past rest) →
    IsFault fault (walk_at (turn_by judge) past 0 rest)
unfolding walk_at
steps_fail fault judge past [] gate is = rw gate (goes_on-fault fault (turn_by judge past []) (λ _. Ok []) is)
steps_fail fault judge past (byte ∷ rest) gate is =
    rw gate (goes_on-fault fault (turn_by judge past (byte ∷ rest)) (λ turn. walk_at (turn_by judge) turn.past (turn.past.at - (past.at + 1)) rest) is)

-- ---- the whole walk

-- what was read so far comes before what the rest is
abbrev pub IsReadSoFar : Option (List ℕ) → List ℕ → List PlainPlaced → Past → Type 0
IsReadSoFar who s front past = read_log who s ≡ before front (walk_at (turn_by (read_turn who)) past 0 (drop past.at s))

pub read_starts : (who : Option (List ℕ)) (s : List ℕ) (past : Past) → header_at who s ≡ Ok past → past.at ≡ header_len → IsReadSoFar who s [] past
unfolding read_log and_then
read_starts who s past is at =
    ap (λ r. and_then r (λ p. walk_at (turn_by (read_turn who)) p 0 (drop header_len s))) is
    ∙ sym (before-nil (walk_at (turn_by (read_turn who)) past 0 (drop header_len s)))
    ∙ ap (λ n. before [] (walk_at (turn_by (read_turn who)) past 0 (drop n s))) (sym at)

pub read_more : (who : Option (List ℕ)) (s : List ℕ) (front : List PlainPlaced) (past : Past) (turn : PlainTurn) → eqb past.gate 1 ≡ true →
    turn_by (read_turn who) past (drop past.at s) ≡ Ok (Some turn) → past.at < turn.past.at → IsReadSoFar who s front past →
    IsReadSoFar who s (front ++ turn.placed ∷ []) turn.past
read_more who s front past turn gate is ahead so_far =
    let there : drop (turn.past.at - past.at) (drop past.at s) ≡ drop turn.past.at s =
    drop-drop (turn.past.at - past.at) past.at s ∙ ap (λ n. drop n s) (omega arith)
    in
    so_far
    ∙ ap (before front) (steps_on (read_turn who) past (drop past.at s) turn gate is ahead ∙ ap (λ r. before (turn.placed ∷ []) (walk_at (turn_by (read_turn who)) turn.past 0 r)) there)
    ∙ before-before front (turn.placed ∷ []) (walk_at (turn_by (read_turn who)) turn.past 0 (drop turn.past.at s))

-- ---- who has no key reads the holder's log

pub anybody_reads : (s : List ℕ) → read_log None s ≡ holder_log s
unfolding read_log holder_log header_at header_of unowned_start unowned_start_of has_check read_turn has_tag
anybody_reads s = refl

-- ---- the owner reads the owner's log

pub owner_reads : (owner s : List ℕ) → read_log (Some owner) s ≡ log_verdict owner s
unfolding read_log header_at header_of start_at start_of has_check turn_by turn_at read_turn tagged_turn has_tag
owner_reads owner s = owner_walks owner s

-- ---- a published batch

some_turn : (read : Result PlainBody Fault) (f : PlainBody → PlainTurn) → and_then read (λ body. Ok (Some (f body))) ≡ and_then (and_then read (λ body. Ok (f body))) (λ turn. Ok (Some turn))
unfolding and_then
some_turn (Ok body) f = refl
some_turn (Err fault) f = refl

-- a published batch is the one that its slot unmasks
pub published_by : (past : Past) (head : Head) (batch : List ℕ) → is_published head.size batch ≡ true →
    published_turn past head batch ≡ and_then (unmasked_turn (slot_in batch) past head batch) (λ turn. Ok (Some turn))
unfolding published_turn is_published unmasked_turn
published_by past head batch test =
    rw test (some_turn (placed_body past (body_of head (masked (slot_in batch) (payload_in head.size batch)))) (λ body. turn_of past head batch body))

-- the batch of an owner who opens for writing is the one that the veil key which is due unmasks
pub owned_by : (owner : List ℕ) (past : Past) (head : Head) (batch : List ℕ) → has_tag (Some owner) past head batch ≡ true →
    owned_turn owner past head batch ≡ unmasked_turn (veil_of owner head.epoch.0 head.number) past head batch
unfolding has_tag owned_turn unmasked_turn
owned_by owner past head batch test = rw test refl
