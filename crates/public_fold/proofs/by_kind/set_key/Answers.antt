use Rattle.public_fold.proofs.KeyTabled.{with_key}
use Rattle.public_fold.proofs.by_kind.set_key.Goals as goal

pub returns-clause-keys : goal.returns-clause-keys
returns-clause-keys c = λ keys is. with_key keys c.args.rows.now c.put.new.self c.args.key c.put.ensures.serials is
