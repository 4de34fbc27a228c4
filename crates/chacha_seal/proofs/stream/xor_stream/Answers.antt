use Rattle.std.proofs.Common.{rules, arith, ◌≡◌, ◌+◌, ◌*◌, ◌/◌, ◌<◌, ◌^◌, length, refl, ap, ◌∙◌}
use Rattle.chacha_seal.specs.Stream.{laid, word_for}
use Rattle.chacha_seal.proofs.Laying.{drawn_word, laid_all, laid_none}
use Rattle.chacha_seal.proofs.stream.xor_stream.Goals as goal

pub loop-i-init : goal.loop-i-init
loop-i-init c = (rw (c.choose.ensures, c.from_seed-words.ensures) refl, laid_none _ _ 0 _ refl)

pub loop-i-preserved : goal.loop-i-preserved
loop-i-preserved c =
    let bound : c.loop-i.i < 2 ^ 64 = search rules in
    let four : 4 * c.loop-i.i + 4 ≡ 4 * (c.loop-i.i + 1) = omega arith in
    let drawn = drawn_word _ _ _ _ _ _ c.loop-i.invariant.0 c.next_word.ensures bound in (
      drawn.0,
      c.xor_word.ensures _ _ _ (omega arith) (c.to_le_bytes.ensures ∙ drawn.1) c.loop-i.invariant.1
          ∙ ap (λ at. laid c.args.key c.args.number at c.args.text.now) four,
    )

pub returns-then-whole-text : goal.returns-then-whole-text
returns-then-whole-text c =
    let bound : c.loop-i.i < 2 ^ 64 = search rules in
    let whole : c.loop-i.i ≡ length c.args.text.now / 4 = omega arith in
    let drawn = drawn_word _ _ _ _ _ _ c.loop-i.invariant.0 c.next_word-then-whole-text.ensures bound in
    c.xor_rest.ensures c.args.key c.args.text.now c.args.number (omega arith)
    (c.to_le_bytes-then-whole-text.ensures ∙ drawn.1 ∙ ap (λ n. word_for c.args.key c.args.number (4 * n)) whole)
    (c.loop-i.invariant.1 ∙ ap (λ n. laid c.args.key c.args.number (4 * n) c.args.text.now) whole)
    ∙ laid_all _ _ _ _ (omega arith)

pub returns-else-whole-text : goal.returns-else-whole-text
returns-else-whole-text c = c.loop-i.invariant.1 ∙ laid_all _ _ _ _ (omega arith)
