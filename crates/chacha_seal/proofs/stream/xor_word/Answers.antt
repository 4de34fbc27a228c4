use Rattle.std.proofs.Common.{◌≡◌, arith, length}
use Rattle.chacha_seal.proofs.Laying.{laid_word, length-laid}
use Rattle.chacha_seal.proofs.stream.xor_word.Goals as goal

pub returns : goal.returns
returns c = λ key before number whole same start.
    let long : length c.args.text.now ≡ length before = length-laid _ _ _ _ _ start in
    laid_word _ _ _ _ _ _ whole same start (omega arith)
