use Rattle.std.proofs.Common.{◌≡◌, ◌++◌, map, length, refl, sym, ap, subst, ◌∙◌}
use Rattle.std.specs.List.{AllByRecursion}
use Rattle.cry_base.specs.Sets.{In}
use Rattle.cry_base.specs.Store.{Store}
use Rattle.log_visits.specs.Opening.{IsFor, file_row_visits, is_no_holders, plain_visit}
use Rattle.log_visits.specs.Sights.{AreSights}
use Rattle.log_visits.specs.Visits.Visit.{ToHolder}
use Rattle.log_visits.proofs.OwnerVisits.{all_fit, holders_visited, keys_listed, last_visits, no_entries, seen_tree, visits_told}
use Rattle.log_visits.proofs.visit_list.owner_visits.Goals as goal
use Rattle.role_graph.specs.Rights.Who.{TheOwner}

pub returns-clause-visits : goal.returns-clause-visits
returns-clause-visits c = λ at rows is seen.
    let state = c.args.state.now in
    let names = c.in_ok-names.names.items in
    let tree = c.in_ok-seen.ensures.tree in
    let pairs = c.grants-grants.result.now.pairs in
    let files = c.files.result in
    let count : c.holders.result ≡ length state.checks = c.holders.ensures ∙ ap length c.grants-grants.ensures.checks in
    let sights : AreSights at.store TheOwner c.as_slice.result.now = subst (AreSights at.store TheOwner) (sym c.as_slice.ensures.value) (c.in_ok-seen.ensures.sights at seen tt) in
    let same = sym (c.files.ensures ∙ ap (λ (t : Store). t.files) c.shape.ensures) in
    let last = keys_listed pairs c.in_ok-keys.keys.items c.push_clearances.new.visits.items files c.holders.result (length state.checks) c.in_ok-keys.ensures count c.in_ok-push_clearances.ensures in
    ap (λ l. map plain_visit names ++ (file_row_visits rows ++ l)) (last ∙ ap (λ gs. last_visits gs files (length state.checks)) c.grants-grants.ensures.pairs)
    ∙ visits_told state at names rows files is same tree seen (c.in_ok-names.ensures.visits at.store (seen_tree state at seen tree) sights (no_entries at.store))

pub returns-clause-owners : goal.returns-clause-owners
returns-clause-owners c = λ rows.
    let names = c.in_ok-names.names.items in
    let n = c.holders.result in
    let pairs = c.grants-grants.result.now.pairs in
    let files = c.files.result in
    let last = keys_listed pairs c.in_ok-keys.keys.items c.push_clearances.new.visits.items files n n c.in_ok-keys.ensures refl c.in_ok-push_clearances.ensures in
    subst (AllByRecursion (IsFor is_no_holders)) (ap (λ l. map plain_visit names ++ (file_row_visits rows ++ l)) (sym last))
    (all_fit names rows files pairs n (c.in_ok-names.ensures.told is_no_holders (λ role is. is)))

pub returns-clause-holders : goal.returns-clause-holders
returns-clause-holders c = λ at rows e seen i.
    let state = c.args.state.now in
    let names = c.in_ok-names.names.items in
    let pairs = c.grants-grants.result.now.pairs in
    let files = c.files.result in
    let count : c.holders.result ≡ length state.checks = c.holders.ensures ∙ ap length c.grants-grants.ensures.checks in
    let last = keys_listed pairs c.in_ok-keys.keys.items c.push_clearances.new.visits.items files c.holders.result (length state.checks) c.in_ok-keys.ensures count c.in_ok-push_clearances.ensures in
    subst (In (ToHolder e.number)) (ap (λ l. map plain_visit names ++ (file_row_visits rows ++ l)) (sym (last ∙ ap (λ gs. last_visits gs files (length state.checks)) c.grants-grants.ensures.pairs)))
    (holders_visited state at names rows files e seen i)
