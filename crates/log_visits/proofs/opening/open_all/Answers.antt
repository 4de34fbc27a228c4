use Rattle.std.proofs.Common.{◌≡◌, ◌++◌, List, [], ◌∷◌, Ok, map, sym, ap, subst, ◌∙◌}
use Rattle.std.proofs.lemmas.Result.{err_from_is_err_and}
use Rattle.chacha_seal.specs.Keys.{KeyParts}
use Rattle.commit_journal.specs.Placed.{plain_placed}
use Rattle.commit_journal.specs.declared.placed.Placed.{Placed}
use Rattle.cry_base.specs.Sets.{In}
use Rattle.cry_base.specs.Store.{HolderEntry, Store}
use Rattle.cry_base.specs.declared.roles.Role.TheVariants.{Owner}
use Rattle.log_visits.specs.declared.opening.OwnersView.{OwnersView}
use Rattle.log_visits.specs.Answering.{AnswersBy}
use Rattle.log_visits.specs.Holding.{IsReadingOf}
use Rattle.log_visits.specs.Opening.{IsNameless, IsOpenedBy, IsOpenedTo, IsToStanding, is_no_holders, owner_list}
use Rattle.log_visits.specs.Visiting.{Opened, Reading, visit_all}
use Rattle.log_visits.specs.Visits.{Visit, all_visits, writing_visits}
use Rattle.log_visits.specs.Visits.Visit.{ToHolder}
use Rattle.log_visits.proofs.Opens.{alone_fails, alone_present, alone_visited, answered, for_kinds, opening_begins}
use Rattle.log_visits.proofs.FoldedHolds.{folded_may_stand}
use Rattle.log_visits.proofs.OwnerVisits.{seen_nameless}
use Rattle.log_visits.proofs.ReaderVisits.{owners_stand}
use Rattle.log_visits.proofs.Sized.{unnamed_sized}
use Rattle.key_links.specs.Ringed.{IsAlone}
use Rattle.public_fold.specs.Standing.{PublicView}
use Rattle.role_graph.specs.Rights.Who.{TheOwner}
use Rattle.log_visits.proofs.opening.open_all.Goals as goal

pub visit_owned-requires-clause-kinds : goal.visit_owned-requires-clause-kinds
visit_owned-requires-clause-kinds c = for_kinds is_no_holders (owner_list c.in_ok-visits.visits c.files-files.result) (c.in_ok-visits.ensures.owners c.files-files.result)

pub visit_owned-requires-clause-keys : goal.visit_owned-requires-clause-keys
visit_owned-requires-clause-keys c = alone_present c.args.state.now.keys.keys c.new.result Owner c.args.owner c.new.ensures c.requires.owner

pub visit_owned-requires-clause-sized : goal.visit_owned-requires-clause-sized
visit_owned-requires-clause-sized c = unnamed_sized c.new-2.result c.new-2.ensures.files

abbrev starts : Reading → KeyParts → Opened
starts r owner = record { keys = (Owner, owner.bytes) ∷ []; store = r.stand.store }

-- what an owner visits, before the first visit
begins : (state : PublicView) (log : List Placed) (r : Reading) (visits : List Visit) (view : OwnersView) (owner : KeyParts) → IsReadingOf state log r → IsAlone view.ring Owner owner →
    view.names.folders ≡ [] → view.names.files ≡ [] → IsNameless state.tree → ((e : HolderEntry) → In e r.stand.store.holders → In (ToHolder e.number) visits) →
    visits ≡ all_visits r.stand.store TheOwner ++ writing_visits r.stand.store → IsOpenedTo is_no_holders r.stand.store visits view (starts r owner)
begins state log r visits view owner of_log alone no_folders no_files less holders is =
    let bare = r.stand.store in
    opening_begins bare visits view owner (seen_nameless state r.stand of_log.1 less) alone no_folders no_files holders
    (subst (λ (l : List Visit). (v : Visit) → In v l → IsToStanding bare v) (sym is) (owners_stand bare (folded_may_stand (map plain_placed log) r.stand of_log.2)))

pub returns-clause-answer : goal.returns-clause-answer
returns-clause-answer c = λ r of_log.
    let state = c.args.state.now in
    let log = c.args.log.now in
    let owner = c.args.owner in
    let bare = r.stand.store in
    let rows = c.files-files.result in
    let visits = owner_list c.in_ok-visits.visits rows in
    let view : OwnersView = record { ring = c.new.result; names = c.new-2.result } in
    let new = c.visit_owned.new.view in
    let is = c.in_ok-visits.ensures.visits r.stand rows (sym (c.files-files.ensures ∙ ap (λ (t : Store). t.files) c.shape.ensures)) of_log.1 in
    let begun = begins state log r visits view owner of_log c.new.ensures c.new-2.ensures.folders c.new-2.ensures.files c.in_ok-visits.ensures.nameless (λ e i. c.in_ok-visits.ensures.holders r.stand rows e of_log.1 i) is in
    let reading = subst (λ (l : List Placed). IsReadingOf state l r) (sym c.in_ok-indexed.ensures) of_log in
    let made = alone_visited state (map plain_placed c.in_ok-indexed.indexed) visits view new c.in_ok-visit_owned.ensures.visited is_no_holders r (starts r owner) (c.in_ok-visits.ensures.owners rows) reading begun in
    subst (λ (l : List Visit). AnswersBy (λ (x : OwnersView) behind. IsOpenedBy bare x behind) (Ok new) (visit_all r l (starts r owner))) is (answered bare (Ok new) (visit_all r visits (starts r owner)) made)

pub returns-in_err-visit_owned-clause-answer : goal.returns-in_err-visit_owned-clause-answer
returns-in_err-visit_owned-clause-answer c = λ r of_log.
    let p = err_from_is_err_and c.from_residual-in_err-visit_owned.result c.from_residual-in_err-visit_owned.ensures.1 in
    let state = c.args.state.now in
    let log = c.args.log.now in
    let owner = c.args.owner in
    let rows = c.files-files.result in
    let visits = owner_list c.in_ok-visits.visits rows in
    let view : OwnersView = record { ring = c.new.result; names = c.new-2.result } in
    let fault = c.in_err-visit_owned.field-0.0 in
    let is = c.in_ok-visits.ensures.visits r.stand rows (sym (c.files-files.ensures ∙ ap (λ (t : Store). t.files) c.shape.ensures)) of_log.1 in
    let begun = begins state log r visits view owner of_log c.new.ensures c.new-2.ensures.folders c.new-2.ensures.files c.in_ok-visits.ensures.nameless (λ e i. c.in_ok-visits.ensures.holders r.stand rows e of_log.1 i) is in
    let reading = subst (λ (l : List Placed). IsReadingOf state l r) (sym c.in_ok-indexed.ensures) of_log in
    rw (p.1, p.2, ← is) (alone_fails state (map plain_placed c.in_ok-indexed.indexed) visits view fault c.in_err-visit_owned.ensures.failed is_no_holders r (starts r owner) (c.in_ok-visits.ensures.owners rows) reading begun)
