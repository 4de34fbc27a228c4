-- Newlines before a limit, with a piece more.
use Rattle.std.proofs.Common.{◌≡◌, ◌+◌, ◌-◌, ℕ, zero, suc, List, [], ◌∷◌, ◌++◌, take, length, ap, ◌∙◌, arith, cond}
use Rattle.std.specs.List.{count_by}
use Rattle.std.proofs.lemmas.List.Sums.{sum_by-cons}
use Rattle.script_text.specs.Cutting.{is_newline}

counts_same : (limit room : ℕ) (piece : List ℕ) → limit ≡ room → count_by is_newline (take limit piece) ≡ 0 + count_by is_newline (take room piece)
counts_same limit room piece same =
    let counted : count_by is_newline (take limit piece) ≡ count_by is_newline (take room piece) = ap (λ n. count_by is_newline (take n piece)) same in
    omega (arith, counted)

sum_is : (one whole front back all : ℕ) → whole ≡ front + back → all ≡ one + front → one + whole ≡ all + back
sum_is one whole front back all is sum = omega (arith, is, sum)

pub counts_on : (limit room : ℕ) (fed piece : List ℕ) → room ≡ limit - length fed
    → count_by is_newline (take limit (fed ++ piece)) ≡ count_by is_newline (take limit fed) + count_by is_newline (take room piece)
counts_on zero room [] piece is = counts_same 0 room piece (omega (arith, is))
counts_on (suc limit) room [] piece is = counts_same (suc limit) room piece (omega (arith, is))
counts_on zero room (byte ∷ fed) piece is = counts_same 0 room piece (omega (arith, is))
counts_on (suc limit) room (byte ∷ fed) piece is =
    let one : ℕ = cond (is_newline byte) 1 0 in
    let on : count_by is_newline (take limit (fed ++ piece)) ≡ count_by is_newline (take limit fed) + count_by is_newline (take room piece) =
    counts_on limit room fed piece (omega (arith, is)) in
    let all : count_by is_newline (take (suc limit) (byte ∷ (fed ++ piece))) ≡ one + count_by is_newline (take limit (fed ++ piece)) =
    sum_by-cons (λ x. cond (is_newline x) 1 0) byte (take limit (fed ++ piece)) in
    let before : count_by is_newline (take (suc limit) (byte ∷ fed)) ≡ one + count_by is_newline (take limit fed) =
    sum_by-cons (λ x. cond (is_newline x) 1 0) byte (take limit fed) in
    all ∙ sum_is one _ _ _ _ on before
