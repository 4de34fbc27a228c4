-- Steps of the judging, one test at a time.
use Rattle.std.proofs.Common.{◌≡◌, ℕ, ◌+◌, ◌-◌, ◌<◌, ◌≤◌, Bool, true, false, cond, List, [], ◌++◌, length, take, drop, Some, Result, Ok, Err, refl, sym, ap, ◌∙◌, arith}
use Rattle.std.specs.Prelude.{nat_le, slice_range}
use Rattle.std.specs.Str.{bytes_eq}
use Rattle.std.proofs.Math.Seq.{take-append_seam}
use Rattle.std.proofs.lemmas.Bool.Decides.{nat_tests}
use Rattle.std.proofs.lemmas.List.{append-nil, length-drop, length-take-le}
use Rattle.std.proofs.lemmas.Slice.Eq.{bytes_eq-Decides}
use Rattle.cry_base.specs.Layout.{batch_len, header_len}
use Rattle.hmac_seal.specs.Hmac.{hmac}
use Rattle.chacha_seal.specs.Sealing.{masked}
use Rattle.commit_journal.specs.declared.fault.OpenFault.{OpenFault}
use Rattle.commit_journal.specs.declared.fault.OpenFault.TheVariants as faults
use Rattle.commit_journal.specs.declared.head.Head.{Head}
use Rattle.commit_journal.specs.declared.past.Past.{Past}
use Rattle.commit_journal.specs.Answering.{Fault, NotAStore, Damaged, and_then, IsFault}
use Rattle.commit_journal.specs.Log.{head_of, is_batch, slot_in, payload_in, check_in, body_of, placed_body, turn_of, published_turn, head_at, tagged_turn, turn_at, start_of, start_at}

-- a fault ends what would follow
pub fault_first : {A B : Type 0} (fault : OpenFault) (read : Result A Fault) (f : A → Result B Fault) → IsFault fault read → IsFault fault (and_then read f)
unfolding and_then
fault_first faults.NotAStore read f is = rw is refl
fault_first faults.WrongKey read f is = rw is refl
fault_first (faults.Damaged at) read f is = rw is refl
fault_first (faults.Tampered batch at) read f is = rw is refl
fault_first faults.DiskFault read f is = tt
fault_first faults.OutOfMemory read f is = tt

-- fewer bytes than a header
pub start_short : (owner s : List ℕ) → length s < header_len → start_at owner s ≡ Err NotAStore
unfolding start_at
start_short owner s short = let test : nat_le header_len (length s) ≡ false = grind (arith, nat_tests) in rw test refl

pub start_long : (owner s : List ℕ) → header_len ≤ length s → start_at owner s ≡ start_of owner (take header_len s)
unfolding start_at
start_long owner s long = let test : nat_le header_len (length s) ≡ true = grind (arith, nat_tests) in rw test refl

-- fewer bytes than a batch
pub head_short : (past : Past) (rest : List ℕ) → length rest < batch_len → head_at past rest ≡ Err (Damaged past.at)
unfolding head_at is_batch
head_short past rest short =
    let test : nat_le (batch_len + (head_of (take 13 rest)).size) (length rest) ≡ false = grind (arith, nat_tests) in rw test refl

-- the test of a head that was read
pub head_tested : (past : Past) (rest bytes : List ℕ) (head : Head) (left : ℕ) (ok : Bool) → bytes ≡ take 13 rest → head ≡ head_of bytes →
    left ≡ length rest → ok ≡ is_batch past head left → head_at past rest ≡ cond ok (Ok head) (Err (Damaged past.at))
unfolding head_at
head_tested past rest bytes head left ok bytes_is head_is left_is ok_is = rw (ok_is, head_is, bytes_is, left_is) refl

-- a batch that was read behind its head
pub turn_is : (owner : List ℕ) (past : Past) (rest : List ℕ) (head : Head) (batch : List ℕ) → head_at past rest ≡ Ok head →
    batch ≡ take (batch_len + head.size) rest → turn_at owner past rest ≡ tagged_turn owner past head batch
unfolding turn_at and_then
turn_is owner past rest head batch head_is batch_is = rw (head_is, batch_is) refl

-- a batch whose slot makes its check
pub published_is : (past : Past) (head : Head) (batch slot check mac : List ℕ) → slot ≡ slice_range batch 13 45 →
    check ≡ slice_range batch (45 + head.size) (45 + head.size + 32) → mac ≡ hmac slot (slice_range batch 45 (45 + head.size) ++ []) → mac ≡ check →
    published_turn past head batch
    ≡ and_then (placed_body past (body_of head (masked (slot_in batch) (payload_in head.size batch)))) (λ body. Ok (Some (turn_of past head batch body)))
unfolding published_turn
published_is past head batch slot check mac slot_is check_is mac_is same =
    let ends : 45 + head.size + 32 ≡ 77 + head.size = omega arith in
    let made : hmac (slot_in batch) (payload_in head.size batch) ≡ check_in head.size batch =
    rw (← slot_is, ← ends, ← check_is, ← same, mac_is, append-nil) refl
    in
    let test : bytes_eq (hmac (slot_in batch) (payload_in head.size batch)) (check_in head.size batch) ≡ true =
    (bytes_eq-Decides (hmac (slot_in batch) (payload_in head.size batch)) (check_in head.size batch)).1 made
    in
    rw test refl

-- a buffer that was filled through a loan of a list with so many items
pub filled : (n at : ℕ) (s buf items now : List ℕ) → at + n ≤ length s → buf ≡ slice_range s at (at + n) →
    now ≡ take n (buf ++ drop (length buf) items) → now ≡ take n (drop at s)
filled n at s buf items now within buf_is now_is =
    let same : at + n - at ≡ n = omega arith in
    let short : buf ≡ take n (drop at s) = buf_is ∙ ap (λ k. take k (drop at s)) same in
    let long : length buf ≡ n = ap length short ∙ length-take-le n (drop at s) (omega (arith, length-drop at s)) in
    now_is ∙ ap (λ k. take k (buf ++ drop (length buf) items)) (sym long) ∙ take-append_seam buf (drop (length buf) items) ∙ short

-- what was read into the first n bytes of a buffer that has as many
pub read_into_front : (n at : ℕ) (s items now : List ℕ) → n ≤ length items → now ≡ slice_range s at (at + length (take n items))
    → now ≡ take n (drop at s)
read_into_front n at s items now long now_is =
    let same : at + length (take n items) - at ≡ n = omega (arith, length-take-le n items long) in
    now_is ∙ ap (λ k. take k (drop at s)) same
