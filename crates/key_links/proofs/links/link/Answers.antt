use Rattle.key_links.proofs.InPlace.{link_is}
use Rattle.key_links.proofs.links.link.Goals as goal

pub returns-clause-sealed : goal.returns-clause-sealed
returns-clause-sealed g c =
    link_is g.A.LinksTo.NUMBER c.NUMBER.result c.id.result c.id-2.result c.serial-3.result.0 c.args.nonce c.serial.result c.serial-2.result
    c.args.from.now c.args.to.now c.bytes.result.now _ c.seal_in_place-link.new.text c.link_header-header.result c.seal_in_place-link.result
    c.NUMBER.ensures c.id.ensures c.id-2.ensures c.serial.ensures c.serial-2.ensures c.serial-3.ensures c.bytes.ensures.bytes
    c.link_header-header.ensures c.seal_in_place-link.ensures.cipher c.seal_in_place-link.ensures.tag
