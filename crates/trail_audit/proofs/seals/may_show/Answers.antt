use Rattle.std.proofs.Common.{length, sym, subst, ◌∙◌}
use Rattle.std.proofs.lemmas.Bool.{eqb-true, not-false}
use Rattle.std.proofs.lemmas.List.{nil_from_length}
use Rattle.trail_audit.specs.Seals.{AreSeals}
use Rattle.trail_audit.specs.declared.seals.Seals.{Seals}
use Rattle.trail_audit.proofs.Sealings.{no_key_there, nothing_there}
use Rattle.trail_audit.proofs.seals.may_show.Goals as goal

pub returns-in-Nothing : goal.returns-in-Nothing
returns-in-Nothing c = λ closed keys contents start has are. nothing_there keys contents start (subst (λ (s : Seals). AreSeals s contents) c.in-Nothing.is are)

pub returns-in-One : goal.returns-in-One
returns-in-One c = λ closed keys contents start has are.
    let group = c.group_of.result.now in
    no_key_there keys group contents start c.in-One.source (c.group_of.ensures ∙ has.found c.in-One.source)
    (nil_from_length group (eqb-true (length group) 0 (sym c.is_empty.ensures ∙ not-false c.is_empty.result closed)))
    (subst (λ (s : Seals). AreSeals s contents) c.in-One.is are)
