use Rattle.std.proofs.Common.{ap}
use Rattle.log_visits.specs.Asking.{failure_of, verdict}
use Rattle.reader_laws.proofs.Lines.{line_of_bytes}
use Rattle.reader_laws.proofs.Shown.{bytes_shown}
use Rattle.reader_laws.proofs.laws.standing_bytes_show_their_journal.Goals as goal

pub returns : goal.returns
unfolding verdict
returns c = record {
  shown = bytes_shown;
  line = line_of_bytes;
  listed = λ owner m bytes bundle stands honest right. ap (λ z. failure_of z) (bytes_shown owner m bytes bundle stands honest right);
  opened = λ owner m bytes bundle path stands honest right. ap (λ z. failure_of z) (line_of_bytes owner m bytes bundle path stands honest right);
}
