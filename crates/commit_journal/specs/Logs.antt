-- The batches of a log as who reads it may read them: the owner as `log_verdict` says, and a holder, and the owner who
-- opens it for writing. This project's own, docs/FORMAT.md, "Reading" and "Opening for writing".
use Rattle.std.specs.Prelude.{◌≡◌, ◌≤◌, ℕ, zero, suc, ◌+◌, ◌-◌, ◌==◌, nat_le, if◌then◌else◌, List, [], ◌∷◌, ◌++◌, length, take, drop, codes}
use Rattle.std.specs.Prelude.{Option, Some, Result, Ok, Err}
use Rattle.std.specs.Str.{bytes_eq}
use Rattle.cry_base.specs.Layout.{batch_len, header_len, magic_len, tag_offset}
use Rattle.chacha_seal.specs.Sealing.{veil_of, masked}
use Rattle.commit_journal.specs.declared.head.Head.{Head}
use Rattle.commit_journal.specs.declared.past.Past.{Past}
use Rattle.commit_journal.specs.Answering.{Fault, NotAStore, Tampered, and_then}
use Rattle.commit_journal.specs.Log.{PlainTurn, behind_header, body_of, head_at, payload_in, placed_body}
use Rattle.commit_journal.specs.Log.{published_turn, tag_due, tag_in, turn_of}
use Rattle.commit_journal.specs.Log.{goes_on, start_at}
use Rattle.commit_journal.specs.Placed.{PlainBody, Commands, NewEpoch, PlainPlaced}

-- the batches behind a gate, as each turn gives them, by the bytes behind it, of which the first so many belong to the
-- batch before
unfoldable pub walk_at : (Past → List ℕ → Result (Option PlainTurn) Fault) → Past → ℕ → List ℕ → Result (List PlainPlaced) Fault
walk_at turn past skip [] = if past.gate == 1 then goes_on (turn past []) (λ _. Ok []) else Ok []
walk_at turn past (suc skip) (byte ∷ rest) = walk_at turn past skip rest
walk_at turn past zero (byte ∷ rest) =
    if past.gate == 1
    then goes_on (turn past (byte ∷ rest)) (λ next. walk_at turn next.past (next.past.at - (past.at + 1)) rest)
    else Ok []

-- what stands behind an open gate, where these bytes are left, if the whole of a batch is judged so
unfoldable pub turn_by : (Past → Head → List ℕ → Result (Option PlainTurn) Fault) → Past → List ℕ → Result (Option PlainTurn) Fault
turn_by judge past rest = and_then (head_at past rest) (λ head. judge past head (take (batch_len + head.size) rest))

-- what is known behind the header, for who has no owner's key
unfoldable pub unowned_start_of : List ℕ → Result Past Fault
unowned_start_of header =
    if bytes_eq (take magic_len header) (codes "CRYPTREE" ++ 1 ∷ [])
    then Ok (behind_header header)
    else Err NotAStore

unfoldable pub unowned_start : List ℕ → Result Past Fault
unowned_start bytes = if nat_le header_len (length bytes) then unowned_start_of (take header_len bytes) else Err NotAStore

-- the batches that a holder reads, or the first test that fails: no owner tag is tested, and what a slot publishes is read
unfoldable pub holder_log : List ℕ → Result (List PlainPlaced) Fault
holder_log bytes = and_then (unowned_start bytes) (λ past. walk_at (turn_by published_turn) past 0 (drop header_len bytes))

-- a batch unmasked with the veil key that the owner computes, published or not
unfoldable pub recovered_turn : List ℕ → Past → Head → List ℕ → Result (Option PlainTurn) Fault
recovered_turn owner past head batch =
    and_then (placed_body past (body_of head (masked (veil_of owner head.epoch.0 head.number) (payload_in head.size batch))))
    (λ body. Ok (Some (turn_of past head batch body)))

-- for the owner who opens for writing the owner tag is tested, and no slot is looked at
unfoldable pub tagged_recovered : List ℕ → Past → Head → List ℕ → Result (Option PlainTurn) Fault
tagged_recovered owner past head batch =
    if bytes_eq (tag_due owner past.tag head.size batch) (tag_in head.size batch)
    then recovered_turn owner past head batch
    else Err (Tampered head.number (past.at + tag_offset + head.size))

-- the batches that the owner who opens for writing reads, or the first test that fails
unfoldable pub writer_log : List ℕ → List ℕ → Result (List PlainPlaced) Fault
writer_log owner bytes = and_then (start_at owner bytes) (λ past. walk_at (turn_by (tagged_recovered owner)) past 0 (drop header_len bytes))

-- the epoch of a batch behind another one: an epoch batch begins the next, a command stands in the one that was begun last
abbrev pub IsInEpoch : ℕ → ℕ → PlainBody → Type 0
IsInEpoch before epoch (Commands payload) = (1 ≤ before) × (epoch ≡ before)
IsInEpoch before epoch NewEpoch = epoch ≡ before + 1

-- so do the batches of a log, one after another
abbrev pub AreInEpochs : ℕ → List PlainPlaced → Type 0
AreInEpochs before [] = Unit {0}
AreInEpochs before (p ∷ log) = IsInEpoch before p.epoch.0 p.body × AreInEpochs p.epoch.0 log

-- the epoch of the last batch of a log, and this one where there is none
abbrev pub epoch_behind : ℕ → List PlainPlaced → ℕ
epoch_behind before [] = before
epoch_behind before (p ∷ log) = epoch_behind p.epoch.0 log
