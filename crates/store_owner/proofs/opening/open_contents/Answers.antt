use Rattle.std.proofs.Common.{rules, map, refl, sym, subst, ◌∙◌}
use Rattle.std.proofs.lemmas.Result.{err_from_is_err_and}
use Rattle.commit_journal.specs.Placed.{plain_placed}
use Rattle.cry_base.specs.Sets.{In}
use Rattle.cry_base.specs.Store.{HolderEntry}
use Rattle.key_links.specs.Ringed.{Ringed}
use Rattle.log_visits.proofs.Naming.{same_names}
use Rattle.log_visits.specs.Holding.{ArePresent, HoldsKeys}
use Rattle.log_visits.specs.Opening.{HasHolder, IsOpenedBy, is_no_holders}
use Rattle.public_fold.specs.Standing.{PublicView, IsSeenAs}
use Rattle.role_graph.specs.Roles.{role_id}
use Rattle.store_owner.specs.Opened.{reading_with, view_of}
use Rattle.store_owner.proofs.OpenedContents.{contents_are, fold_fails, rootless, visits_fail}
use Rattle.store_owner.proofs.opening.open_contents.Goals as goal

pub returns-in_err-state-clause-answer : goal.returns-in_err-state-clause-answer
returns-in_err-state-clause-answer c =
    let p = err_from_is_err_and c.from_residual.result c.from_residual.ensures.1 in
    rw (p.1, p.2) (fold_fails c.in_err-state.field-0.0 c.args.owner.bytes (map plain_placed c.args.log.now) c.in_err-state.ensures.answer)

pub returns-then-not-has_root-clause-answer : goal.returns-then-not-has_root-clause-answer
returns-then-not-has_root-clause-answer c =
    let a = c.in_ok-state.ensures.answer in
    rootless c.args.owner.bytes (map plain_placed c.args.log.now) a.0 a.1 (sym (c.has_root.ensures a.0 a.2) ∙ c.if-not-has_root.true)

pub open_all-requires-clause-owner : goal.open_all-requires-clause-owner
unfolding role_id
open_all-requires-clause-owner c = (c.requires.number, c.requires.serial ∙ sym c.in_ok-state.ensures.owner)

pub returns-in_err-view-clause-answer : goal.returns-in_err-view-clause-answer
returns-in_err-view-clause-answer c =
    let log = map plain_placed c.args.log.now in
    let a = c.in_ok-state.ensures.answer in
    let p = err_from_is_err_and c.from_residual-in_err-view.result c.from_residual-in_err-view.ensures.1 in
    rw (p.1, p.2)
    (visits_fail c.in_err-view.field-0.0 c.args.owner.bytes log a.0 a.1 (sym (c.has_root.ensures a.0 a.2) ∙ c.if-not-has_root.false)
    (c.in_err-view.ensures.answer (reading_with log a.0) (refl, a.2, a.1)))

pub returns-in_err-contents-clause-answer : goal.returns-in_err-contents-clause-answer
returns-in_err-contents-clause-answer c =
    let p = err_from_is_err_and c.from_residual-in_err-contents.result c.from_residual-in_err-contents.ensures.1 in
    rw (p.1, p.2) (search rules)

pub returns-clause-answer : goal.returns-clause-answer
returns-clause-answer c =
    let log = map plain_placed c.args.log.now in
    let a = c.in_ok-state.ensures.answer in
    let contents = c.in_ok-contents.contents in
    let kept = c.in_ok-contents.ensures in
    let opened = c.in_ok-view.ensures.answer (reading_with log a.0) (refl, a.2, a.1) in
    let view : IsOpenedBy a.0.store (view_of contents) opened.0 = record {
      keys = subst (λ (ring : Ringed). HoldsKeys is_no_holders ring opened.0.keys) (sym kept.ring) opened.2.keys;
      names = same_names a.0.store contents.names c.in_ok-view.view.names opened.0.store kept.folders kept.files opened.2.names;
      holders = subst (λ (ring : Ringed). (e : HolderEntry) → In e opened.0.store.holders → HasHolder ring e) (sym kept.ring) opened.2.holders;
    } in
    contents_are c.args.owner.bytes log a.0 contents a.1 (sym (c.has_root.ensures a.0 a.2) ∙ c.if-not-has_root.false)
    (subst (λ (state : PublicView). IsSeenAs state a.0) (sym kept.state) a.2) (opened.0, opened.1, view)

pub returns-clause-present : goal.returns-clause-present
returns-clause-present c =
    let kept = c.in_ok-contents.ensures in
    subst (λ (state : PublicView). ArePresent state.keys.keys c.in_ok-contents.contents.ring) (sym kept.state)
    (subst (λ (ring : Ringed). ArePresent c.in_ok-state.state.keys.keys ring) (sym kept.ring) c.in_ok-view.ensures.present)

pub returns-clause-sized : goal.returns-clause-sized
returns-clause-sized c = rw (c.in_ok-contents.ensures.files) c.in_ok-view.ensures.sized
