use Rattle.std.proofs.Common.{rules, ◌≡◌, ◌≤◌, ◌++◌, ℕ, length, take, drop, ◌+◌, ◌-◌, List, sym, ap, ◌∙◌, arith, length-drop}
use Rattle.std.proofs.lemmas.List.{take_at, drop-drop, length-take-le, take-append-drop}
use Rattle.cry_io.proofs.mem_source.MemSourceSource.read.Goals as goal

-- what was left is what came, and what is left now
split_left : (at n : ℕ) (bytes came rest : List ℕ) → at + n ≤ length bytes → came ≡ take (at + n - at) (drop at bytes)
    → drop at bytes ≡ take n (came ++ rest) ++ drop (at + n) bytes
split_left at n bytes came rest fits is =
    let one : at + n - at ≡ n = omega arith in
    let this : came ≡ take n (drop at bytes) = is ∙ ap (λ k. take k (drop at bytes)) one in
    let long : length came ≡ n = ap length this ∙ length-take-le n (drop at bytes) (omega (arith, length-drop at bytes)) in
    let front : take n (came ++ rest) ≡ take n (drop at bytes) = take_at came rest n long ∙ this in
    sym (ap (λ (f : List ℕ). f ++ drop (at + n) bytes) front ∙ ap (λ (b : List ℕ). take n (drop at bytes) ++ b) (sym (drop-drop n at bytes)) ∙ take-append-drop n (drop at bytes))

pub returns-clause-bytes : goal.returns-clause-bytes
returns-clause-bytes c = λ x y is was.
    let left : c.args.self.now.left ≡ x = cc in
    let now : drop (c.self.inside.at + c.min-count.result) c.self.inside.bytes.items ≡ y = cc in
    let view : drop c.self.inside.at c.self.inside.bytes.items ≡ c.args.self.now.left = ap (λ s. s.left) c.self.view_is in
    let all : c.as_slice-2.result.now ≡ c.self.inside.bytes.items = c.as_slice-2.ensures in
    let came : c.copy_from_slice.new.self ≡ take (c.self.inside.at + c.min-count.result - c.self.inside.at) (drop c.self.inside.at c.self.inside.bytes.items) = c.copy_from_slice.ensures.after ∙ ap (λ bs. take (c.self.inside.at + c.min-count.result - c.self.inside.at) (drop c.self.inside.at bs)) all in
    let e = split_left c.self.inside.at c.min-count.result c.self.inside.bytes.items c.copy_from_slice.new.self (drop c.min-count.result c.args.buf.now) (search rules) came in
    rw (← left, ← view, ← now) e
