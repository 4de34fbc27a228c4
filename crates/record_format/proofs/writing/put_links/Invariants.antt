use Rattle.std.proofs.Common.{◌≡◌, ◌+◌, ◌*◌, ◌≤◌, ◌++◌, take}
use Rattle.std.specs.List.{flat_map}
use Rattle.record_format.specs.Spelling.{spell_link}
use Rattle.record_format.proofs.writing.put_links.Given as goal

abbrev pub invariant-loop-link : goal.invariant-loop-link
invariant-loop-link l = record {
  items : l.out.items ≡ l.initial.out.items ++ flat_map spell_link (take l.link-index l.links);
  spare : l.initial.out.spare ≤ l.out.spare + 98 * l.link-index;
}
