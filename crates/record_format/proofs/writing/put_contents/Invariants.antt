use Rattle.std.proofs.Common.{◌≡◌, ◌+◌, ◌≤◌, ◌++◌, map, take}
use Rattle.std.specs.List.{flat_map, sum_by}
use Rattle.record_format.specs.Plain.{plain_content}
use Rattle.record_format.specs.Sizes.{content_size}
use Rattle.record_format.specs.Spelling.{spell_content}
use Rattle.record_format.proofs.writing.put_contents.Given as goal

abbrev pub invariant-loop-content : goal.invariant-loop-content
invariant-loop-content l = record {
  items : l.out.items ≡ l.initial.out.items ++ flat_map spell_content (map plain_content (take l.content-index l.contents));
  spare : l.initial.out.spare ≤ l.out.spare + sum_by content_size (map plain_content (take l.content-index l.contents));
}
