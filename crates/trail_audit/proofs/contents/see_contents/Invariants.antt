use Rattle.std.proofs.Common.{map, take}
use Rattle.trail_audit.specs.Derived.{AreSeen, plain_seen}
use Rattle.trail_audit.proofs.contents.see_contents.Given as goal

abbrev pub invariant-loop-found : goal.invariant-loop-found
invariant-loop-found l = AreSeen l.known.keys.items (take l.found-index l.contents) (map plain_seen l.initial.seen.items) (map plain_seen l.seen.items)
