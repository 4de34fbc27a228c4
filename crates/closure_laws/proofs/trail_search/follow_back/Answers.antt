use Rattle.std.proofs.Common.{[], ◌++◌, map, ap, subst, sym, ◌∙◌}
use Rattle.std.proofs.lemmas.Result.{on_ok_weaker}
use Rattle.closure_laws.specs.Found.{AreChained, AreOpen, IsClosed, links_in, found_by}
use Rattle.closure_laws.specs.declared.trail_search.Found.{Found}
use Rattle.closure_laws.proofs.Searching.{group_chained, group_closed, group_taken, is_group, none_closed, nothing_found, reads_slice, stands_same}
use Rattle.closure_laws.proofs.trail_search.follow_back.Goals as goal

pub returns-in-Some-clause-open : goal.returns-in-Some-clause-open
returns-in-Some-clause-open c =
    let found = c.args.found.now.items in
    let place = c.args.place in
    let group = c.in-Some.links.items in
    on_ok_weaker c.add_starts.result
    (λ joined links open_groups.
    let is = is_group links found _ group c.args.groups.now (ap links_in (sym c.remove.ensures.value ∙ c.in-Some.is)) open_groups in
    let put = joined ∙ ap (λ g. found ++ map (found_by place) g) c.as_slice-in-Some.ensures in
    subst (λ l. AreOpen links l c.remove.new.self) (sym put)
    (group_taken links found (map (found_by place) group) _ c.args.groups.now c.remove.new.self c.remove.ensures.updates.1 c.remove.ensures.updates.2 (group_closed links found place _ group is) open_groups))
    c.add_starts.ensures

pub returns-in-Some-clause-chained : goal.returns-in-Some-clause-chained
returns-in-Some-clause-chained c =
    let found = c.args.found.now.items in
    let place = c.args.place in
    let one = reads_slice found c.as_slice.result.now place nothing_found c.as_slice.ensures c.requires.place in
    let group = c.in-Some.links.items in
    on_ok_weaker c.add_starts.result
    (λ joined links b open_groups chained.
    let is = is_group links found _ group c.args.groups.now (ap links_in (sym c.remove.ensures.value ∙ c.in-Some.is)) open_groups in
    let put = joined ∙ ap (λ g. found ++ map (found_by place) g) c.as_slice-in-Some.ensures in
    subst (λ l. AreChained links b l) (sym put) (group_chained links b found place _ group one is chained))
    c.add_starts.ensures

pub returns-in-Some-clause-closed : goal.returns-in-Some-clause-closed
returns-in-Some-clause-closed c =
    let found = c.args.found.now.items in
    let place = c.args.place in
    let one = reads_slice found c.as_slice.result.now place nothing_found c.as_slice.ensures c.requires.place in
    let group = c.in-Some.links.items in
    on_ok_weaker c.add_starts.result
    (λ joined links open_groups x stands.
    let is = is_group links found _ group c.args.groups.now (ap links_in (sym c.remove.ensures.value ∙ c.in-Some.is)) open_groups in
    let put = joined ∙ ap (λ g. found ++ map (found_by place) g) c.as_slice-in-Some.ensures in
    let same = stands_same found place _ x one stands in
    subst (λ l. IsClosed links l x.serial.0) (sym put) (subst (λ (z : Found). IsClosed links (found ++ map (found_by place) group) z.serial.0) same (group_closed links found place _ group is)))
    c.add_starts.ensures

pub returns-in-None-clause-closed : goal.returns-in-None-clause-closed
returns-in-None-clause-closed c = λ links open_groups x stands.
    let found = c.args.found.now.items in
    let one = reads_slice found c.as_slice.result.now c.args.place nothing_found c.as_slice.ensures c.requires.place in
    let is = is_group links found _ [] c.args.groups.now (ap links_in (sym c.remove.ensures.value ∙ c.in-None.is)) open_groups in
    let same = stands_same found c.args.place _ x one stands in
    subst (λ (z : Found). IsClosed links found z.serial.0) same (none_closed links found _ is)
