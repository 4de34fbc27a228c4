use Rattle.std.proofs.Common.{◌++◌, map, take, subst, arith}
use Rattle.std.proofs.lemmas.List.{take_all}
use Rattle.log_visits.specs.Listing.{AreFirst, entry_up}
use Rattle.log_visits.proofs.Lasts.{item_at}
use Rattle.log_visits.proofs.ListedVisits.{map_more}
use Rattle.log_visits.proofs.visit_list.note_entries.Goals as goal

pub loop-entry-preserved : goal.loop-entry-preserved
loop-entry-preserved c = λ so_far are.
    let entries = c.args.entries.now in
    let i = c.loop-entry.entry-index in
    subst (AreFirst c.note_entry.new.first)
    (map_more entry_up entries i _ so_far c.loop-entry-test.true (item_at entries i _ _ c.loop-entry-test.true))
    (c.in_ok-note_entry.ensures (so_far ++ map entry_up (take i entries)) (c.loop-entry.invariant so_far are))

pub returns : goal.returns
returns c = λ so_far are.
    subst (λ l. AreFirst c.loop-entry.first (so_far ++ map entry_up l)) (take_all c.loop-entry.entry-index c.args.entries.now (omega arith)) (c.loop-entry.invariant so_far are)
