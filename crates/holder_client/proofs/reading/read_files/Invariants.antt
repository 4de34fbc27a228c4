use Rattle.std.proofs.Common.{◌≡◌, map, take}
use Rattle.log_visits.specs.Holding.{ArePresent}
use Rattle.holder_client.specs.declared.reading.ReadFile.{ReadFile}
use Rattle.holder_client.proofs.FiledReads.{AreReadTo}
use Rattle.holder_client.proofs.reading.read_files.Given as goal

abbrev pub invariant-loop-row : goal.invariant-loop-row
invariant-loop-row g l = record {
  present : ArePresent l.state.keys.keys l.ring;
  rows : map (λ (f : ReadFile). f.row) l.files.items ≡ take l.row-index l.rows;
  stays : g.R.Records.stays l.fn.source l.source;
  read : g.R.Records.shows l.records l.fn.source → AreReadTo l.state (g.R.Records.log l.records) l.entries l.initial.ring l.rows l.row-index l.ring l.files.items;
}
