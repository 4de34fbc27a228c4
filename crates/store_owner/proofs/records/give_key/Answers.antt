use Rattle.journal_bytes.proofs.GivenKeys.{one_more}
use Rattle.store_owner.proofs.records.give_key.Goals as goal

pub returns-clause-keys : goal.returns-clause-keys
returns-clause-keys c =
    one_more c.renew.new.self c.args.ring.now c.args.role _ _ _ c.args.bytes _ c.renew.ensures.key c.from_draw.ensures.role c.from_draw.ensures.parts c.next.ensures.serial
