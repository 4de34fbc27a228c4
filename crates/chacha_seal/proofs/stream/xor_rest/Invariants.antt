use Rattle.std.proofs.Common.{◌≡◌, ℕ, ◌%◌, List}
use Rattle.chacha_seal.specs.Stream.{laid, word_for}
use Rattle.chacha_seal.proofs.stream.xor_rest.Given as goal

abbrev pub invariant-loop-i : goal.invariant-loop-i
invariant-loop-i l = (key before : List ℕ) (number : ℕ) → l.at % 4 ≡ 0 → l.word ≡ word_for key number l.at
    → l.initial.text ≡ laid key number l.at before → l.text ≡ laid key number l.i before
