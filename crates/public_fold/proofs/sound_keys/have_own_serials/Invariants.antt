use Rattle.public_fold.proofs.OwnSerials.{AreSeen}
use Rattle.public_fold.proofs.sound_keys.have_own_serials.Given as goal

abbrev pub invariant-loop-key : goal.invariant-loop-key
invariant-loop-key l = AreSeen l.keys l.key-index l.seen.keys
