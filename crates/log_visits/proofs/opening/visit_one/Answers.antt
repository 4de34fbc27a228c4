use Rattle.std.proofs.Common.{◌≡◌, ◌∷◌, inl, refl, sym, ap, subst, ◌∙◌}
use Rattle.std.proofs.lemmas.Result.{err_from_is_err_and}
use Rattle.log_visits.specs.declared.opening.OwnersView.{OwnersView}
use Rattle.log_visits.specs.Answering.{AnswersBy}
use Rattle.log_visits.specs.Found.{plain_link}
use Rattle.log_visits.specs.Placing.{content_for}
use Rattle.log_visits.proofs.NewestLinks.{link_told}
use Rattle.log_visits.specs.Holding.{IsHeldBy, IsTitledBy}
use Rattle.log_visits.specs.Opening.{IsFor, IsOpenedTo, IsToStanding, plain_visit}
use Rattle.log_visits.specs.Visiting.{Opened, visit}
use Rattle.log_visits.specs.Visits.{Visit}
use Rattle.log_visits.specs.Visits.Visit.{ToKey, ToName, ToFile, ToHolder}
use Rattle.log_visits.proofs.Following.{free_fault}
use Rattle.log_visits.proofs.Opens.{answers_for, holder_opened, link_answered, no_file, no_name, title_opened}
use Rattle.role_graph.specs.Roles.{data_of, file_role}
use Rattle.log_visits.proofs.opening.visit_one.Goals as goal

pub returns-in_ok-name-in-Name-clause-answer : goal.returns-in_ok-name-in-Name-clause-answer
unfolding data_of
returns-in_ok-name-in-Name-clause-answer g c = λ shown told r o left fit of_log opened.
    let f = c.in-Name.folder.0 in
    let old = c.args.view.now in
    let new : OwnersView = record { ring = old.ring; names = c.visit_name.new.names } in
    let is : plain_visit c.args.visit.now ≡ ToName f = ap plain_visit c.in-Name.is in
    let fits : IsFor told (ToName f) = subst (IsFor told) is fit in
    let before : IsOpenedTo told r.stand.store (ToName f ∷ left) old o = subst (λ (v : Visit). IsOpenedTo told r.stand.store (v ∷ left) old o) is opened in
    subst (λ (v : Visit). AnswersBy (λ (x : Unit {0}) behind. IsOpenedTo told r.stand.store left new behind) c.visit_name.result (visit r v o)) (sym is)
    (answers_for (λ (x : Unit {0}) (behind : Opened). IsTitledBy r.stand.store new.names o behind) (λ (x : Unit {0}) (behind : Opened). IsOpenedTo told r.stand.store left new behind)
    c.visit_name.result (visit r (ToName f) o)
    (λ x behind titled. title_opened told r.stand.store (ToName f) left old new o behind (λ h. no_name h f) before titled refl)
    (c.visit_name.ensures.answer told r o r.stand.store (c.in_ok-name-in-Name.ensures.found shown r.stand of_log.2 (before.standing (ToName f) (inl refl)) ∙ ap (λ l. content_for l 1 f) (sym of_log.0)) fits before.keys before.names))

pub returns-in_ok-text-in-Bytes-clause-answer : goal.returns-in_ok-text-in-Bytes-clause-answer
unfolding file_role
returns-in_ok-text-in-Bytes-clause-answer g c = λ shown told r o left fit of_log opened.
    let f = c.in-Bytes.file.0 in
    let old = c.args.view.now in
    let new : OwnersView = record { ring = old.ring; names = c.visit_file.new.names } in
    let is : plain_visit c.args.visit.now ≡ ToFile f = ap plain_visit c.in-Bytes.is in
    let fits : IsFor told (ToFile f) = subst (IsFor told) is fit in
    let before : IsOpenedTo told r.stand.store (ToFile f ∷ left) old o = subst (λ (v : Visit). IsOpenedTo told r.stand.store (v ∷ left) old o) is opened in
    subst (λ (v : Visit). AnswersBy (λ (x : Unit {0}) behind. IsOpenedTo told r.stand.store left new behind) c.visit_file.result (visit r v o)) (sym is)
    (answers_for (λ (x : Unit {0}) (behind : Opened). IsTitledBy r.stand.store new.names o behind) (λ (x : Unit {0}) (behind : Opened). IsOpenedTo told r.stand.store left new behind)
    c.visit_file.result (visit r (ToFile f) o)
    (λ x behind titled. title_opened told r.stand.store (ToFile f) left old new o behind (λ h. no_file h f) before titled refl)
    (c.visit_file.ensures.answer told r o r.stand.store (c.in_ok-text-in-Bytes.ensures.found shown r.stand of_log.2 (before.standing (ToFile f) (inl refl)) ∙ ap (λ l. content_for l 2 f) (sym of_log.0)) fits before.keys before.names))

pub returns-in_ok-key-in-Key-clause-answer : goal.returns-in_ok-key-in-Key-clause-answer
returns-in_ok-key-in-Key-clause-answer g c = λ shown told r o left fit of_log opened.
    let h = c.in-Key.holder.0 in
    let old = c.args.view.now in
    let new : OwnersView = record { ring = c.visit_holder.new.ring; names = old.names } in
    let is : plain_visit c.args.visit.now ≡ ToHolder h = ap plain_visit c.in-Key.is in
    let fits : IsFor told (ToHolder h) = subst (IsFor told) is fit in
    let before : IsOpenedTo told r.stand.store (ToHolder h ∷ left) old o = subst (λ (v : Visit). IsOpenedTo told r.stand.store (v ∷ left) old o) is opened in
    subst (λ (v : Visit). AnswersBy (λ (x : Unit {0}) behind. IsOpenedTo told r.stand.store left new behind) c.visit_holder.result (visit r v o)) (sym is)
    (answers_for (λ (x : Unit {0}) (behind : Opened). IsHeldBy new.ring old.ring h o behind) (λ (x : Unit {0}) (behind : Opened). IsOpenedTo told r.stand.store left new behind)
    c.visit_holder.result (visit r (ToHolder h) o)
    (λ x behind held. holder_opened told r.stand.store h left old new o behind fits.1 before held refl)
    (c.visit_holder.ensures.answer told r o (c.in_ok-key-in-Key.ensures.found shown r.stand of_log.2 tt ∙ ap (λ l. content_for l 3 h) (sym of_log.0)) fits.0 before.keys))

pub returns-in-Link-clause-answer : goal.returns-in-Link-clause-answer
returns-in-Link-clause-answer g c = λ shown told r o left fit of_log opened.
    let e = c.in-Link.edge in
    let old = c.args.view.now in
    let new : OwnersView = record { ring = c.visit_link.new.ring; names = old.names } in
    let is : plain_visit c.args.visit.now ≡ ToKey e = ap plain_visit c.in-Link.is in
    let fits : IsFor told (ToKey e) = subst (IsFor told) is fit in
    let before : IsOpenedTo told r.stand.store (ToKey e ∷ left) old o = subst (λ (v : Visit). IsOpenedTo told r.stand.store (v ∷ left) old o) is opened in
    subst (λ (v : Visit). AnswersBy (λ (x : Unit {0}) behind. IsOpenedTo told r.stand.store left new behind) c.visit_link.result (visit r v o)) (sym is)
    (link_answered told r.stand.store e left old new o c.visit_link.result (visit r (ToKey e) o) fits before refl c.visit_link.ensures.others (c.visit_link.ensures.answer told r o (link_told c.args.state.now (g.R.Records.log c.args.records.now) r e (plain_link c.link_for-found.result) of_log fits.0 (c.link_for-found.ensures.found r.stand of_log.2 (before.standing (ToKey e) (inl refl)))) fits.1 before.keys))

pub returns-in_err-name-in-Name-clause-answer : goal.returns-in_err-name-in-Name-clause-answer
returns-in_err-name-in-Name-clause-answer g c = λ shown told r o left fit of_log opened.
    let p = err_from_is_err_and c.from_residual.result c.from_residual.ensures.1 in
    let stands = subst (IsToStanding r.stand.store) (ap plain_visit c.in-Name.is) (opened.standing (plain_visit c.args.visit.now) (inl refl)) in
    rw (p.1, p.2) (free_fault c.in_err-name-in-Name.field-0.0 (visit r (plain_visit c.args.visit.now) o) (c.in_err-name-in-Name.ensures.found shown r.stand of_log.2 stands))

pub returns-in_err-text-in-Bytes-clause-answer : goal.returns-in_err-text-in-Bytes-clause-answer
returns-in_err-text-in-Bytes-clause-answer g c = λ shown told r o left fit of_log opened.
    let p = err_from_is_err_and c.from_residual-in_err-text-in-Bytes.result c.from_residual-in_err-text-in-Bytes.ensures.1 in
    let stands = subst (IsToStanding r.stand.store) (ap plain_visit c.in-Bytes.is) (opened.standing (plain_visit c.args.visit.now) (inl refl)) in
    rw (p.1, p.2) (free_fault c.in_err-text-in-Bytes.field-0.0 (visit r (plain_visit c.args.visit.now) o) (c.in_err-text-in-Bytes.ensures.found shown r.stand of_log.2 stands))
