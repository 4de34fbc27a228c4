use Rattle.std.proofs.Common.{sym, ap, ◌∙◌, subst, ◌≡◌}
use Rattle.std.specs.Prelude.{IfOk}
use Rattle.chacha_seal.specs.Keys.{KeyParts}
use Rattle.chacha_seal.specs.Sealing.{seal_tag}
use Rattle.key_links.proofs.InPlace.{ok_is, opened_link}
use Rattle.key_links.proofs.links.follow.Goals as goal

pub returns-clause-opens : goal.returns-clause-opens
returns-clause-opens g c = λ to nonce is.
    let told = opened_link g.A.LinksTo.NUMBER c.args.from.now to nonce c.args.link.now is in
    let tag = told.0 ∙ ap (λ head. seal_tag c.args.from.now.bytes head c.args.link.now.cipher) (sym c.link_header-header.ensures) in
    ok_is to c.open_key.result (c.open_key.ensures.authentic.1 tag)
    (subst (λ (t : KeyParts). IfOk c.open_key.result (λ key. key ≡ t)) told.1 c.open_key.ensures.opened)
