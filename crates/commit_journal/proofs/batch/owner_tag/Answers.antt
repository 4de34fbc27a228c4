use Rattle.std.proofs.Common.{[], ap, ◌∙◌}
use Rattle.hmac_seal.specs.Hmac.{hmac}
use Rattle.chacha_seal.specs.Sealing.{owner_tag_key}
use Rattle.commit_journal.proofs.BatchLemmas.{tagged_parts}
use Rattle.commit_journal.proofs.batch.owner_tag.Goals as goal

pub returns : goal.returns
returns c =
    let key = owner_tag_key c.args.owner.now.bytes in
    let one = c.add.ensures key [] c.tag_start-tag.ensures in
    let two = c.add-2.ensures key _ one in
    let three = c.add-3.ensures key _ two in
    let four = c.add-4.ensures key _ three in
    c.end.ensures key _ four
    ∙ ap (λ m. hmac key m) (tagged_parts c.args.previous.now c.args.head.now c.args.payload.now c.args.check.now)
