-- A piece that is moved in several calls.
use Rattle.std.proofs.Common.{◌≡◌, ℕ, ◌-◌, List, ◌++◌, length, take, drop, append_assoc, sym, ap, ◌∙◌, length-drop}
use Rattle.std.proofs.Math.Seq.{take-length}

-- what was written grows by two pieces in a row
pub put_twice : (x front middle next last : List ℕ) → middle ≡ x ++ front → last ≡ middle ++ next → last ≡ x ++ (front ++ next)
put_twice x front middle next last first second =
    second ∙ ap (λ r. r ++ next) first ∙ append_assoc x front next

-- the front of a whole list is the list
pub take-all : (n : ℕ) (xs : List ℕ) → n ≡ length xs → take n xs ≡ xs
take-all n xs whole = ap (λ m. take m xs) whole ∙ take-length xs

-- a front of a slice that goes to the end
pub take-rest : (a n : ℕ) (xs : List ℕ) → take n (take (length xs - a) (drop a xs)) ≡ take n (drop a xs)
take-rest a n xs = ap (λ ys. take n ys) (take-all (length xs - a) (drop a xs) (sym (length-drop a xs)))
