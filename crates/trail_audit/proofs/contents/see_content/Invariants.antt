use Rattle.std.proofs.Common.{◌≡◌, ◌++◌, map, take}
use Rattle.trail_audit.specs.Derived.{IsOpened, content_shown, plain_seen}
use Rattle.trail_audit.proofs.contents.see_content.Given as goal

abbrev pub invariant-loop-key : goal.invariant-loop-key
invariant-loop-key l = record {
  opened : IsOpened (take l.key-index l.keys) l.found;
  seen : map plain_seen l.seen.items ≡ map plain_seen l.initial.seen.items ++ content_shown (take l.key-index l.keys) l.found;
}
