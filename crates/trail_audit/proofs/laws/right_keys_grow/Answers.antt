use Rattle.trail_audit.proofs.Leading.{right_more, right_onward}
use Rattle.trail_audit.proofs.laws.right_keys_grow.Goals as goal

pub returns : goal.returns
returns c = record {
  links = λ links more bundle key right. right_more links more bundle right;
  onward = λ links bundle key further right way. right_onward links bundle key right way;
}
