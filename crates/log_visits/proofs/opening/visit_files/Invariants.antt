use Rattle.commit_journal.specs.Placed.{plain_placed}
use Rattle.std.proofs.Common.{map}
use Rattle.log_visits.specs.Holding.{ArePresent, AreSized}
use Rattle.log_visits.specs.Opening.{file_row_visits}
use Rattle.log_visits.proofs.Opens.{ArePassed}
use Rattle.log_visits.proofs.opening.visit_files.Given as goal

abbrev pub invariant-loop-file : goal.invariant-loop-file
invariant-loop-file l = record {
  present : ArePresent l.state.keys.keys l.view.ring;
  sized : AreSized l.view.names;
  visited : ArePassed l.state (map plain_placed l.indexed) (file_row_visits l.fn.files) l.initial.view (file_row_visits l.file-iterator) l.view;
}
