use Rattle.std.proofs.Common.{◌≡◌}
use Rattle.index_format.specs.Plain.{plain_state}
use Rattle.public_fold.specs.KeyStep.{KeyState}
use Rattle.public_fold.specs.States.{key_state_of}
use Rattle.public_fold.proofs.SoundRows.{parts_kept, read_from}
use Rattle.public_fold.proofs.states.put_together.Goals as goal

pub invariant_of-result : goal.invariant_of-result
invariant_of-result c =
    parts_kept (plain_state c.args.rows.now) c.args.shape.tree c.args.grants c.args.keys.keys c.args.dirty
    c.requires.sound c.requires.tree c.requires.checks c.requires.pairs c.requires.keys c.requires.marks

pub returns : goal.returns
returns c =
    let s = plain_state c.args.rows.now in
    let keys : record { keys = c.args.keys.keys; dirty = c.args.dirty; epoch = s.numbers.epoch; count = s.numbers.count; version = s.numbers.version } ≡ key_state_of s =
    λ k. record { keys = c.requires.keys k; dirty = c.requires.marks k; epoch = s.numbers.epoch; count = s.numbers.count; version = s.numbers.version } in
    read_from _ s c.requires.sound c.requires.tree c.requires.checks c.requires.pairs keys
