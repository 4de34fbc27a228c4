use Rattle.commit_journal.proofs.BatchLemmas.{epoch_tag, epoch_spelled}
use Rattle.commit_journal.proofs.batch.epoch_batch.Goals as goal

pub returns-clause-tag : goal.returns-clause-tag
returns-clause-tag c = λ is.
    epoch_tag c.args.owner.now.bytes c.args.previous.now c.args.veil.now c.head-head.result c.hmac-check.result c.owner_tag-tag.result c.args.number c.args.epoch.0 is
    c.head-head.ensures c.hmac-check.ensures c.owner_tag-tag.ensures

pub returns-clause-spelled : goal.returns-clause-spelled
returns-clause-spelled c = λ is.
    let owner = c.args.owner.now.bytes in
    let previous = c.args.previous.now in
    let tag = c.owner_tag-tag.result in
    epoch_spelled owner previous c.args.veil.now c.head-head.result c.hmac-check.result tag c.front.result c.back.result c.join_parts.new.batch c.args.number c.args.epoch.0 is
    c.head-head.ensures c.hmac-check.ensures
    (epoch_tag owner previous c.args.veil.now c.head-head.result c.hmac-check.result tag c.args.number c.args.epoch.0 is c.head-head.ensures c.hmac-check.ensures c.owner_tag-tag.ensures)
    c.front.ensures c.back.ensures c.join_parts.ensures
