use Rattle.std.proofs.Common.{map, sym, ap, subst, ◌∙◌}
use Rattle.std.specs.List.{AllByRecursion}
use Rattle.log_visits.specs.Listing.{edges_up}
use Rattle.log_visits.specs.Opening.{IsFor, plain_visit}
use Rattle.log_visits.proofs.ListedVisits.{names_fit, names_listed, names_told}
use Rattle.log_visits.proofs.visit_list.visits_to_names.Goals as goal

pub returns-clause-visits : goal.returns-clause-visits
returns-clause-visits c = λ s tree are come.
    ap (map plain_visit) (names_listed c.args.viewer c.args.sights.now c.in_ok-lower.lower.items c.sort_shallow.new.found.items c.as_slice.result.now c.in_ok-upper.upper.items c.sort_deep.new.found.items c.as_slice-2.result.now c.args.entries.now
    c.new-visits.result.items c.push_folders.new.visits.items c.push_entry_files.new.visits.items c.push_lower.new.visits.items c.push_folders-2.new.visits.items c.push_upper.new.visits.items c.push_folders-3.new.visits.items
    c.in_ok-lower.ensures c.in_ok-sort_shallow.ensures c.as_slice.ensures.value c.in_ok-upper.ensures c.in_ok-sort_deep.ensures c.as_slice-2.ensures.value c.new-visits.ensures.items
    c.in_ok-push_folders.ensures c.in_ok-push_entry_files.ensures c.in_ok-push_lower.ensures c.in_ok-push_folders-2.ensures
    (c.in_ok-push_upper.ensures (edges_up c.args.sights.now c.args.entries.now) c.in_ok-first.ensures) c.in_ok-push_folders-3.ensures)
    ∙ names_told c.args.viewer s c.args.sights.now c.args.entries.now tree are come

pub returns-clause-told : goal.returns-clause-told
returns-clause-told c = λ told tells.
    subst (λ l. AllByRecursion (IsFor told) (map plain_visit l))
    (sym (names_listed c.args.viewer c.args.sights.now c.in_ok-lower.lower.items c.sort_shallow.new.found.items c.as_slice.result.now c.in_ok-upper.upper.items c.sort_deep.new.found.items c.as_slice-2.result.now c.args.entries.now
    c.new-visits.result.items c.push_folders.new.visits.items c.push_entry_files.new.visits.items c.push_lower.new.visits.items c.push_folders-2.new.visits.items c.push_upper.new.visits.items c.push_folders-3.new.visits.items
    c.in_ok-lower.ensures c.in_ok-sort_shallow.ensures c.as_slice.ensures.value c.in_ok-upper.ensures c.in_ok-sort_deep.ensures c.as_slice-2.ensures.value c.new-visits.ensures.items
    c.in_ok-push_folders.ensures c.in_ok-push_entry_files.ensures c.in_ok-push_lower.ensures c.in_ok-push_folders-2.ensures
    (c.in_ok-push_upper.ensures (edges_up c.args.sights.now c.args.entries.now) c.in_ok-first.ensures) c.in_ok-push_folders-3.ensures))
    (names_fit told c.args.viewer c.args.sights.now c.args.entries.now tells)
