-- The leaf of a batch, and the bytes before the first gate.
use Rattle.std.proofs.Common.{◌≡◌, ℕ, ◌+◌, ◌-◌, Bool, true, false, cond, List, [], ◌∷◌, ◌++◌, length, drop, take, Option, None, Some, Result, Ok, Err, refl, sym, ap, ◌∙◌, arith}
use Rattle.std.specs.Prelude.{IfOk, codes, nat_le, slice_range}
use Rattle.std.specs.Str.{bytes_eq}
use Rattle.std.proofs.lemmas.List.{take-take}
use Rattle.std.proofs.lemmas.Slice.Eq.{bytes_eq-Decides}
use Rattle.cry_base.specs.Layout.{batch_len, head_len, header_len}
use Rattle.commit_journal.specs.declared.fault.OpenFault.{OpenFault}
use Rattle.commit_journal.specs.declared.head.Head.{Head}
use Rattle.commit_journal.specs.declared.judge.Turn.{Turn}
use Rattle.commit_journal.specs.declared.past.Past.{Past}
use Rattle.commit_journal.specs.Answering.{Fault, Damaged, NotAStore, WrongKey}
use Rattle.commit_journal.specs.Leaves.{IsLeafAt, batch_at, front_of, front_with}
use Rattle.commit_journal.specs.Log.{behind_header, head_at, head_of, is_batch}
use Rattle.commit_journal.specs.Readers.{has_check, header_at, header_of}
use Rattle.commit_journal.proofs.Pieces.{side_by_side}

tested : (test : Bool) (read head : Head) (fault : Fault) → cond test (Ok read) (Err fault) ≡ Ok head → read ≡ head
tested true read head fault is = cc
tested false read head fault is = absurd (cc)

-- the head that was read is that of the bytes there
head_there : (past : Past) (rest : List ℕ) (head : Head) → head_at past rest ≡ Ok head → head_of (take head_len rest) ≡ head
unfolding head_at
head_there past rest head is =
    tested (is_batch past (head_of (take head_len rest)) (length rest)) (head_of (take head_len rest)) head (Damaged past.at) is

-- the whole batch without its last byte
pub leaf_there : (past : Past) (s leaf batch : List ℕ) (head : Head) → head_at past (drop past.at s) ≡ Ok head →
    batch ≡ take (batch_len + head.size) (drop past.at s) → leaf ≡ take (batch_len + head.size - 1) batch → leaf ≡ batch_at s past.at
unfolding batch_at
leaf_there past s leaf batch head is whole front =
    let n = batch_len + head.size in
    rw (head_there past (drop past.at s) head is)
    (front ∙ ap (take (n - 1)) whole ∙ take-take (n - 1) n (drop past.at s) (omega arith))

-- so it is whatever was judged of the batch
pub whatever_judged : (leaf s : List ℕ) (at : ℕ) (judged : Result (Option Turn) OpenFault) → leaf ≡ batch_at s at → IfOk judged (IsLeafAt leaf s at)
whatever_judged leaf s at (Ok None) is = tt
whatever_judged leaf s at (Ok (Some turn)) is = is
whatever_judged leaf s at (Err fault) is = tt

-- ---- the front

three_tests : (long named checked : Bool) (start past : Past) →
    cond long (cond named (cond checked (Ok start) (Err WrongKey)) (Err NotAStore)) (Err NotAStore) ≡ Ok past → (named ≡ true) × (start ≡ past)
three_tests true true true start past is = (refl, cc)
three_tests true true false start past is = absurd (cc)
three_tests true false checked start past is = absurd (cc)
three_tests false named checked start past is = absurd (cc)

-- the check that a header has tells the bytes before its gate
pub front_known : (who : Option (List ℕ)) (s : List ℕ) (past : Past) → header_at who s ≡ Ok past → front_with past.tag ≡ front_of s
unfolding header_at header_of front_with front_of
front_known who s past is =
    let header = take header_len s in
    let check = slice_range header 9 41 in
    let magic = codes "CRYPTREE" ++ 1 ∷ [] in
    let known = three_tests (nat_le header_len (length s)) (bytes_eq (take 9 header) magic) (has_check who check) (behind_header header) past is in
    let named : take 9 header ≡ magic = (bytes_eq-Decides (take 9 header) magic).0 known.0 in
    let tag : check ≡ past.tag = ap (λ (p : Past). p.tag) known.1 in
    ap (λ it. magic ++ it) (sym tag)
    ∙ ap (λ it. it ++ check) (sym named)
    ∙ sym (side_by_side header 0 9 41 (omega arith) (omega arith))
    ∙ take-take 41 header_len s (omega arith)
