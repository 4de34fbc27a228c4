use Rattle.std.proofs.Common.{◌≡◌, List, ℕ, length, ap, ◌∙◌}
use Rattle.chacha_seal.specs.Sealing.{sealed}
use Rattle.chacha_seal.proofs.SealingLemmas.{length-sealed}
use Rattle.record_format.specs.Plain.{PlainContent}
use Rattle.key_links.proofs.InPlace.{content_is, left_behind}
use Rattle.key_links.proofs.contents.seal_content.Goals as goal

pub returns : goal.returns
returns g c =
    let cipher = c.seal_in_place-content.new.text in
    let key = c.args.key.now in
    let text = c.args.text.items in
    let is : cipher ≡ sealed key.bytes c.args.nonce text =
    c.seal_in_place-content.ensures.cipher ∙ ap (λ t. sealed key.bytes c.args.nonce t) c.as_mut_slice.ensures.value
    in
    let same : length cipher ≡ length text = ap length is ∙ length-sealed key.bytes c.args.nonce text in
    let sealed_in_place : List ℕ → PlainContent = λ bytes. record {
      kind = c.CONTENT.result;
      object = c.args.object;
      key_serial = c.serial.result;
      nonce = c.serial-2.result.0;
      cipher = bytes;
      tag = c.seal_in_place-content.result;
    } in
    ap sealed_in_place (left_behind text cipher same)
    ∙ content_is g.A.Seals.CONTENT c.CONTENT.result c.args.object c.serial-2.result.0 c.args.nonce c.serial.result key text _ cipher
    c.content_header-header.result c.seal_in_place-content.result
    c.CONTENT.ensures c.serial.ensures c.serial-2.ensures c.content_header-header.ensures is c.seal_in_place-content.ensures.tag
