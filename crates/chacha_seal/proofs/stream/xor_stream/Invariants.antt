use Rattle.std.proofs.Common.{◌≡◌, ◌*◌}
use Rattle.chacha_seal.specs.Stream.{laid}
use Rattle.chacha_seal.proofs.Laying.{at_word}
use Rattle.chacha_seal.proofs.stream.xor_stream.Given as goal

abbrev pub invariant-loop-i : goal.invariant-loop-i
invariant-loop-i l =
    (l.words ≡ at_word l.fn.key l.number l.i) × (l.text ≡ laid l.fn.key l.number (4 * l.i) l.initial.text)
