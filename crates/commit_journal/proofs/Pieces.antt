-- The parts of a spelled batch, found again in its bytes.
use Rattle.std.proofs.Common.{◌≡◌, ℕ, ◌+◌, ◌-◌, ◌<◌, ◌≤◌, ◌^◌, List, [], ◌∷◌, ◌++◌, length, take, drop, get_or, append_assoc, arith, refl, sym, ap, ◌∙◌, length-append}
use Rattle.std.specs.Prelude.{slice_range, slice_index}
use Rattle.std.specs.Int.{w32, from_be_bytes}
use Rattle.std.proofs.Math.Seq.{take-append_seam, drop-append_seam}
use Rattle.std.proofs.lemmas.List.{append-nil, drop-drop, drop-take, take-append-drop, take-take}
use Rattle.std.proofs.lemmas.Nat.{from_be_bytes-to_be_bytes_4}
use Rattle.record_format.specs.Spelling.{be32}
use Rattle.record_format.proofs.Lengths.{length-be32}
use Rattle.commit_journal.specs.declared.batch_type.BatchType.{BatchType}
use Rattle.commit_journal.specs.Image.{type_byte, head_bytes}
use Rattle.commit_journal.specs.Log.{head_of}

-- a part of a list, by its places
pub piece : (a b c whole : List ℕ) (i j : ℕ) → whole ≡ a ++ (b ++ c) → length a ≡ i → length a + length b ≡ j → slice_range whole i j ≡ b
piece a b c whole i j whole_is i_is j_is =
    let n : j - i ≡ length b = omega arith in
    ap (λ w. take (j - i) (drop i w)) whole_is
    ∙ ap (λ k. take (j - i) (drop k (a ++ (b ++ c)))) (sym i_is)
    ∙ ap (λ r. take (j - i) r) (drop-append_seam a (b ++ c))
    ∙ ap (λ k. take k (b ++ c)) n
    ∙ take-append_seam b c

two_parts : (n m : ℕ) (whole : List ℕ) → take n whole ++ take m (drop n whole) ≡ take (n + m) whole
two_parts n m whole =
    sym (ap (λ xs. xs ++ take m (drop n whole)) (take-take n (n + m) whole (omega arith)))
    ∙ sym (ap (λ xs. take n (take (n + m) whole) ++ xs) (drop-take n m whole))
    ∙ take-append-drop n (take (n + m) whole)

-- two parts of a list that stand side by side are one
pub side_by_side : (whole : List ℕ) (i j k : ℕ) → i ≤ j → j ≤ k → slice_range whole i k ≡ slice_range whole i j ++ slice_range whole j k
side_by_side whole i j k first second =
    let from_i : i + (j - i) ≡ j = omega arith in
    let total : k - i ≡ (j - i) + (k - j) = omega arith in
    let behind : drop (j - i) (drop i whole) ≡ drop j whole = drop-drop (j - i) i whole ∙ ap (λ n. drop n whole) from_i in
    ap (λ n. take n (drop i whole)) total
    ∙ sym (two_parts (j - i) (k - j) (drop i whole))
    ∙ ap (λ xs. take (j - i) (drop i whole) ++ take (k - j) xs) behind

get_or_behind : (a c : List ℕ) (x : ℕ) → get_or (a ++ x ∷ c) (length a) 0 ≡ x
get_or_behind [] c x = refl
get_or_behind (y ∷ a) c x = get_or_behind a c x

-- an item of a list, by its place
pub item : (a c whole : List ℕ) (x i : ℕ) → whole ≡ a ++ x ∷ c → length a ≡ i → slice_index whole i ≡ x
item a c whole x i whole_is i_is =
    ap (λ w. slice_index w i) whole_is ∙ ap (λ k. slice_index (a ++ x ∷ c) k) (sym i_is) ∙ get_or_behind a c x

-- the first items
pub front : (a c whole : List ℕ) (n : ℕ) → whole ≡ a ++ c → length a ≡ n → take n whole ≡ a
front a c whole n whole_is n_is =
    ap (λ w. take n w) whole_is ∙ ap (λ k. take k (a ++ c)) (sym n_is) ∙ take-append_seam a c

pub length-head_bytes : (type_of : BatchType) (number epoch size : ℕ) → length (head_bytes type_of number epoch size) ≡ 13
unfolding head_bytes
length-head_bytes type_of number epoch size =
    omega (
      arith,
      length-append (be32 number) (be32 epoch ++ be32 size),
      length-append (be32 epoch) (be32 size),
      length-be32 number,
      length-be32 epoch,
      length-be32 size,
    )

number_is : (field : List ℕ) (n : ℕ) → n < 2 ^ 32 → field ≡ be32 n → from_be_bytes w32 field ≡ n
unfolding be32
number_is field n fits is = ap (from_be_bytes w32) is ∙ from_be_bytes-to_be_bytes_4 n fits

-- the head that was spelled
pub head_is : (type_of : BatchType) (number epoch size : ℕ) → number < 2 ^ 32 → epoch < 2 ^ 32 → size < 2 ^ 32 →
    head_of (head_bytes type_of number epoch size)
    ≡ record { type_byte = type_byte type_of; number = number; epoch = record { 0 = epoch }; size = size }
unfolding head_of head_bytes
head_is type_of number epoch size number_fits epoch_fits size_fits =
    let t = type_byte type_of in
    let whole = t ∷ (be32 number ++ (be32 epoch ++ be32 size)) in
    let n = number_is (slice_range whole 1 5) number number_fits
    (piece (t ∷ []) (be32 number) (be32 epoch ++ be32 size) whole 1 5 refl refl (omega (arith, length-be32 number))) in
    let e = number_is (slice_range whole 5 9) epoch epoch_fits
    (piece (t ∷ be32 number) (be32 epoch) (be32 size) whole 5 9 refl (omega (arith, length-be32 number)) (omega (arith, length-be32 number, length-be32 epoch))) in
    let s = number_is (slice_range whole 9 13) size size_fits
    (piece (t ∷ (be32 number ++ be32 epoch)) (be32 size) [] whole 9 13 (simp (append_assoc, append-nil))
    (omega (arith, length-append (be32 number) (be32 epoch), length-be32 number, length-be32 epoch))
    (omega (arith, length-append (be32 number) (be32 epoch), length-be32 number, length-be32 epoch, length-be32 size))) in
    rw (n, e, s) refl
