use Rattle.std.proofs.Common.{take}
use Rattle.trail_audit.specs.Grouped.{HasGroups, key_source}
use Rattle.trail_audit.specs.Trails.{IsGrown}
use Rattle.trail_audit.proofs.trails.follow_links.Given as goal

abbrev pub invariant-loop-found : goal.invariant-loop-found
invariant-loop-found l = record {
  grown : IsGrown (take l.found-index l.links) l.key l.initial.known.keys.items l.known.keys.items;
  grouped : HasGroups key_source l.known.groups l.known.keys.items;
}
