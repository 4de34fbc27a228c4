use Rattle.std.proofs.Common.{◌≡◌, ◌++◌, length, sym, ap, subst, ◌∙◌}
use Rattle.std.specs.Prelude.{OnOk}
use Rattle.log_visits.proofs.WayDown.{joined_below, nothing_added}
use Rattle.group_book.proofs.paths.add_names.Goals as goal

pub returns-in-Some : goal.returns-in-Some
returns-in-Some c =
    subst (λ l. OnOk c.add_each.result (c.add_each.new.text.items ≡ c.args.text.now.items ++ l))
    (joined_below c.args.shape.now.tree c.args.names.now c.args.f.0 c.in_ok-way.way.items c.in-Some.below.now c.in-Some._root.now c.in_ok-way.ensures (sym c.as_slice.ensures.value ∙ c.in-Some.ensures.cases.0))
    c.add_each.ensures

pub returns : goal.returns
returns c =
    nothing_added c.args.shape.now.tree c.args.names.now c.args.f.0 c.in_ok-way.way.items c.args.text.now.items c.in_ok-way.ensures (ap length (sym c.as_slice.ensures.value) ∙ c.in-None.ensures.cases)
