use Rattle.std.proofs.Common.{◌≡◌, ◌+◌, ◌≤◌, ◌++◌, length, take}
use Rattle.closure_laws.specs.Keeping.{held_links}
use Rattle.closure_laws.proofs.keeping.put_links.Given as goal

abbrev pub invariant-loop-link : goal.invariant-loop-link
invariant-loop-link l = record {
  items : l.held.items ≡ l.fn.held.items ++ held_links l.payload 0 (take l.link-index l.links);
  number : l.number ≡ l.link-index;
  room : length l.links ≤ l.held.spare + l.link-index;
}
