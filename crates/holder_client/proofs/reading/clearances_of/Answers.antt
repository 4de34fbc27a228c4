use Rattle.std.proofs.Common.{take, subst}
use Rattle.holder_client.specs.Filed.{HasClearances}
use Rattle.log_visits.proofs.Lasts.{item_at}
use Rattle.log_visits.proofs.ListedVisits.{taken_more}
use Rattle.holder_client.proofs.reading.clearances_of.Goals as goal

pub loop-entry-preserved : goal.loop-entry-preserved
loop-entry-preserved c =
    let entries = c.args.entries.now in
    let i = c.loop-entry.entry-index in
    subst (HasClearances c.note_clearance.new.clearances) (taken_more entries i _ c.loop-entry-test.true (item_at entries i _ _ c.loop-entry-test.true)) (c.in_ok-note_clearance.ensures (take i entries) c.loop-entry.invariant)
