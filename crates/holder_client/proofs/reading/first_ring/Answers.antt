use Rattle.holder_client.proofs.Beginning.{holder_begins, holder_present, owner_begins, owner_present}
use Rattle.holder_client.proofs.reading.first_ring.Goals as goal

pub returns-in-Owner-clause-keys : goal.returns-in-Owner-clause-keys
returns-in-Owner-clause-keys c = owner_begins c.args.bundle.now c.new.result c.owner.result c.in-Owner.key c.in-Owner.is c.new.ensures c.owner.ensures

pub returns-in-Owner-clause-present : goal.returns-in-Owner-clause-present
returns-in-Owner-clause-present c = owner_present c.args.state.now.keys.keys c.new.result c.owner.result c.in-Owner.key c.new.ensures c.owner.ensures c.requires

pub returns-in-Holder-clause-keys : goal.returns-in-Holder-clause-keys
returns-in-Holder-clause-keys c =
    holder_begins c.args.bundle.now c.of_holder.result c.holder.result c.in-Holder.holder c.present_serial-serial.result.0 c.in-Holder.key c.in-Holder.is c.of_holder.ensures c.holder.ensures

pub returns-in-Holder-clause-present : goal.returns-in-Holder-clause-present
returns-in-Holder-clause-present c =
    holder_present c.args.state.now.keys.keys c.of_holder.result c.holder.result c.in-Holder.holder c.present_serial-serial.result.0 c.in-Holder.key c.of_holder.ensures c.holder.ensures c.present_serial-serial.ensures
