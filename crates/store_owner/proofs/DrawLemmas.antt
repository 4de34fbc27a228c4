-- A piece that is drawn in several calls.
use Rattle.std.proofs.Common.{◌≡◌, ℕ, ◌+◌, ◌≤◌, List, [], ◌++◌, length, take, append_assoc, arith, sym, ap, ◌∙◌, length-append}
use Rattle.std.proofs.Math.Seq.{take-length, take-append-add}
use Rattle.std.proofs.lemmas.List.{take-append-le, length-take-le}
use borrow.Rule.Slice.PartMut.{put_mid, post_of}

-- the front of a buffer whose part from a on was filled with n bytes more
pub take-filled : (a n k : ℕ) (buf part : List ℕ) → a ≤ length buf → n ≤ length part →
    take (a + n) (put_mid a k buf part) ≡ take a buf ++ take n part
take-filled a n k buf part in_buf in_part =
    ap (λ m. take (m + n) (put_mid a k buf part)) (sym (length-take-le a buf in_buf))
    ∙ take-append-add (take a buf) (part ++ post_of a k buf) n
    ∙ ap (λ r. take a buf ++ r) (take-append-le n part (post_of a k buf) in_part)

-- what is left goes on behind what was taken in two calls
pub taken_twice : (x front middle next last : List ℕ) → x ≡ front ++ middle → middle ≡ next ++ last → x ≡ (front ++ next) ++ last
taken_twice x front middle next last first second =
    first ∙ ap (λ r. front ++ r) second ∙ sym (append_assoc front next last)

-- a source that gave nothing at the end had as many bytes as were drawn
pub drawn_to_the_end : (a n : ℕ) (buf part x middle y : List ℕ) → a ≤ length buf → n ≡ 0 →
    x ≡ take a buf ++ middle → middle ≡ take n part ++ y → middle ≡ [] → (length x ≡ a) × (y ≡ [])
drawn_to_the_end a n buf part x middle y in_buf none first second nothing =
    let same : middle ≡ y = second ∙ ap (λ m. take m part ++ y) none in
    let empty : y ≡ [] = sym same ∙ nothing in (
      ap length first ∙ length-append (take a buf) middle ∙ ap (λ m. length (take a buf) + length m) nothing
          ∙ omega (arith, length-take-le a buf in_buf),
      empty,
    )

-- the front of a whole list is the list
pub take-all : (n : ℕ) (xs : List ℕ) → n ≡ length xs → take n xs ≡ xs
take-all n xs whole = ap (λ m. take m xs) whole ∙ take-length xs
