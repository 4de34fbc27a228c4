use Rattle.std.proofs.Common.{◌≡◌, length, sym, ap, ◌∙◌}
use Rattle.chacha_seal.specs.Sealing.{sealed, seal_tag}
use Rattle.chacha_seal.proofs.SealingLemmas.{length-sealed}
use Rattle.record_format.specs.Plain.{plain_content}
use Rattle.key_links.proofs.InPlace.{left_behind, on_ok, opened_content}
use Rattle.key_links.proofs.contents.open_content.Goals as goal

pub returns-clause-opens : goal.returns-clause-opens
returns-clause-opens g c = λ object nonce text is.
    let key = c.args.key.now in
    let record_now = plain_content c.args.content.now in
    let items = c.args.content.now.cipher.items in
    let told = opened_content g.A.Seals.CONTENT key object nonce text record_now is in
    let tag =
    told.0 ∙ (ap (λ head. seal_tag key.bytes head items) (sym c.content_header-header.ensures)
    ∙ ap (λ bytes. seal_tag key.bytes c.content_header-header.result bytes) (sym c.as_mut_slice.ensures.value))
    in
    let ok = c.open_in_place.ensures.authentic.1 tag in
    let opened : c.open_in_place.new.text ≡ sealed key.bytes record_now.nonce items =
    on_ok _ c.open_in_place.result ok c.open_in_place.ensures.opened ∙ ap (sealed key.bytes record_now.nonce) c.as_mut_slice.ensures.value
    in
    let same : length c.open_in_place.new.text ≡ length items = ap length opened ∙ length-sealed key.bytes record_now.nonce items in
    (ok, left_behind items c.open_in_place.new.text same ∙ (opened ∙ told.1))
