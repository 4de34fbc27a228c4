use Rattle.std.proofs.Common.{◌≡◌, List, map, sym, ap, subst, ◌∙◌}
use Rattle.std.specs.List.{AllByRecursion}
use Rattle.cry_base.specs.Sets.{In}
use Rattle.log_visits.specs.Answering.{AnswersBy}
use Rattle.holder_client.specs.Filed.{IsNamedBy, everyone}
use Rattle.log_visits.specs.Judging.{opened_first, who_of}
use Rattle.log_visits.specs.Entries.{AreEntryFiles}
use Rattle.log_visits.specs.Opening.{HasItsKind, IsFor, IsToStanding, plain_visit}
use Rattle.log_visits.specs.Sights.{AreSights}
use Rattle.log_visits.specs.Visiting.{visit_all}
use Rattle.log_visits.specs.Visits.{Visit, visits_to_names}
use Rattle.log_visits.specs.declared.opening.OwnersView.{OwnersView}
use Rattle.log_visits.specs.declared.visit_list.Visit.{Visit as Listed}
use Rattle.holder_client.proofs.Beginning.{names_begin, names_end, tells_all}
use Rattle.log_visits.proofs.FoldedHolds.{folded_may_stand}
use Rattle.log_visits.proofs.ReaderVisits.{names_stand}
use Rattle.log_visits.proofs.Opens.{for_kinds}
use Rattle.log_visits.proofs.OwnerVisits.{seen_nameless}
use Rattle.log_visits.proofs.Sized.{unnamed_sized}
use Rattle.role_graph.specs.Rights.{Who}
use Rattle.holder_client.proofs.reading.open_names.Goals as goal

pub visit_each-requires-clause-kinds : goal.visit_each-requires-clause-kinds
visit_each-requires-clause-kinds g c =
    subst (λ (l : List Listed). AllByRecursion HasItsKind (map plain_visit l)) (sym c.as_slice.ensures.value)
    (for_kinds everyone (map plain_visit c.in_ok-visits.visits.items) (c.in_ok-visits.ensures.told everyone (tells_all c.viewer_of.result)))

pub visit_each-requires-clause-sized : goal.visit_each-requires-clause-sized
visit_each-requires-clause-sized g c = unnamed_sized c.new.result c.new.ensures.files

pub returns-clause-answer : goal.returns-clause-answer
returns-clause-answer g c = λ shown r of_log tree sights come.
    let state = c.args.state.now in
    let bare = r.stand.store in
    let who = who_of c.args.bundle.now in
    let visits = map plain_visit c.as_slice.result.now in
    let view : OwnersView = record { ring = c.first_ring.result; names = c.new.result } in
    let begun = opened_first c.args.bundle.now r in
    let same = ap (map plain_visit) c.as_slice.ensures.value in
    let seen : AreSights bare (who_of c.args.bundle.now) c.args.sights.now = sights in
    let is : visits ≡ visits_to_names bare who =
    same ∙ c.in_ok-visits.ensures.visits bare tree (subst (λ (w : Who). AreSights bare w c.args.sights.now) (sym c.viewer_of.ensures) seen)
    (subst (λ (w : Who). AreEntryFiles bare w c.args.entries.now) (sym c.viewer_of.ensures) come) ∙ ap (visits_to_names bare) c.viewer_of.ensures
    in
    let fit = subst (λ l. AllByRecursion (IsFor everyone) l) (sym same) (c.in_ok-visits.ensures.told everyone (tells_all c.viewer_of.result)) in
    let opening = names_begin c.args.bundle.now r visits view (seen_nameless state r.stand of_log.1 c.requires.nameless) c.first_ring.ensures.keys c.new.ensures.folders c.new.ensures.files
    (subst (λ (l : List Visit). (v : Visit) → In v l → IsToStanding bare v) (sym is) (names_stand bare who (folded_may_stand (g.R.Records.log c.args.records.now) r.stand of_log.2))) in
    subst (λ (l : List Visit). AnswersBy (λ (x : OwnersView) o. IsNamedBy bare x o) c.visit_each.result (visit_all r l begun)) is
    (names_end bare c.visit_each.result (visit_all r visits begun) (c.visit_each.ensures.answer shown everyone r begun fit of_log opening))
