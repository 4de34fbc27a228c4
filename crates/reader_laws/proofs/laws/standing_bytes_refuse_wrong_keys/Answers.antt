use Rattle.reader_laws.proofs.WrongKeys.{wrong_line, wrong_view}
use Rattle.reader_laws.proofs.laws.standing_bytes_refuse_wrong_keys.Goals as goal

pub returns : goal.returns
returns c = record {
  shown = wrong_view;
  line = λ owner m bytes bundle path stands honest wrong. wrong_line owner m bytes bundle stands honest wrong path;
}
