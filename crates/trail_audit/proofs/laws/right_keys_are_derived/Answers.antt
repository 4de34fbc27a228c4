use Rattle.trail_audit.specs.Auditing.{links_read}
use Rattle.trail_audit.proofs.Derivable.{derived_alone}
use Rattle.trail_audit.proofs.laws.right_keys_are_derived.Goals as goal

pub returns : goal.returns
unfolding links_read
returns c = λ owner m valid whole own key drawn right. derived_alone owner m valid whole own drawn right
