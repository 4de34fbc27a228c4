use Rattle.std.proofs.Common.{arith, ◌≡◌, length, ◌∙◌}
use Rattle.chacha_seal.proofs.Laying.{byte_of_word, laid_more, laid_past, length-laid}
use Rattle.chacha_seal.proofs.stream.xor_rest.Goals as goal

pub loop-i-preserved : goal.loop-i-preserved
loop-i-preserved c = λ key before number whole same start.
    let long : length c.args.text.now ≡ length before = length-laid _ _ _ _ _ start in
    laid_more key number _ _ before _ _ (omega arith) (omega arith)
    (c.loop-i.invariant key before number whole same start)
    (byte_of_word key number _ _ _ _ same whole (omega arith) (omega arith))

pub returns : goal.returns
returns c = λ key before number whole same start.
    let long : length c.args.text.now ≡ length before = length-laid _ _ _ _ _ start in
    c.loop-i.invariant key before number whole same start ∙ laid_past _ _ _ _ _ (omega arith) (omega arith)
