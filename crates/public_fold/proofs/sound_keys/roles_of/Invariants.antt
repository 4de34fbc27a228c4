use Rattle.std.proofs.Common.{◌≡◌, map, take}
use Rattle.public_fold.specs.AtKeys.{roles_of}
use Rattle.public_fold.proofs.sound_keys.roles_of.Given as goal

abbrev pub invariant-loop-key : goal.invariant-loop-key
invariant-loop-key l = l.found.items ≡ roles_of (take l.key-index l.keys)
