use Rattle.std.proofs.Common.{List, ap, subst, sym, ◌∙◌}
use Rattle.cry_base.specs.Sets.{In}
use Rattle.closure_laws.specs.Found.{AreAllFound, AreChained, serials_of}
use Rattle.closure_laws.specs.declared.trail_search.Found.{Found}
use Rattle.closure_laws.proofs.Searching.{led_from}
use Rattle.closure_laws.proofs.keeping.History.trail.Goals as goal

pub trail_from-requires-clause-chained : goal.trail_from-requires-clause-chained
trail_from-requires-clause-chained c =
    (c.as_slice.result.now, (c.args.to.0, subst (AreChained c.as_slice.result.now c.args.to.0) (sym c.as_slice-in-Some.ensures) c.in_ok-found.ensures.chained))

pub returns-clause-none : goal.returns-clause-none
returns-clause-none c = λ leads.
    let all = subst (λ l. AreAllFound l c.args.to.0 c.in_ok-found.found.items) (c.as_slice.ensures ∙ ap (λ h. h.links) c.self.view_is) c.in_ok-found.ensures in
    c.in-None.ensures.none
    (subst (λ (l : List Found). In c.args.from.0 (serials_of l)) (sym c.as_slice-2.ensures) (led_from c.args.self.now.links c.args.to.0 c.in_ok-found.found.items all c.args.from.0 c.args.to.0 leads all.own))
