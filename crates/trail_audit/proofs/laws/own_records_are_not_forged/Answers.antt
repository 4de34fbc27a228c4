use Rattle.std.proofs.Common.{refl}
use Rattle.trail_audit.proofs.laws.own_records_are_not_forged.Goals as goal

pub returns : goal.returns
returns c owner m bytes r forged own key = forged.of_no_entry r own key refl
