use Rattle.std.proofs.Common.{◌≡◌, drop}
use Rattle.public_fold.specs.KeyStep.{newest}
use Rattle.public_fold.proofs.keys.first_serial.Given as goal

abbrev pub invariant-loop-key : goal.invariant-loop-key
invariant-loop-key l = newest (drop l.key-index l.keys) l.role ≡ newest l.keys l.role
