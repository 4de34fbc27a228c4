use Rattle.trail_audit.proofs.OwnRecords.{whole_records}
use Rattle.trail_audit.proofs.laws.whole_image_has_the_own_records.Goals as goal

pub returns : goal.returns
returns c = whole_records
