use Rattle.std.proofs.Common.{◌≡◌, ◌++◌, ap, ◌∙◌}
use Rattle.script_text.specs.Printing.{owner_line}
use Rattle.store_owner.specs.Tallied.{tally_in}
use Rattle.cli_making.specs.Figures.{spell_figures}
use Rattle.cli_making.proofs.GenerateLemmas.{told_as}
use Rattle.cli_making.proofs.generating.tell_outcome.Goals as goal

pub returns-clause-tells : goal.returns-clause-tells
returns-clause-tells g c =
    let key = c.args.owner.now.key in
    let text : c.as_slice.result.now ≡ owner_line key ++ spell_figures (tally_in c.args.owner.now) =
    c.as_slice.ensures ∙ c.in-Ok.ensures
    ∙ ap (λ k. owner_line k ++ spell_figures c.tally.result) c.key.ensures
    ∙ ap (λ t. owner_line key ++ spell_figures t) c.tally.ensures
    in
    told_as c.as_slice.result.now (owner_line key ++ spell_figures (tally_in c.args.owner.now)) (g.W.Sink.written c.args.out.now) (g.W.Sink.written c.tell.new.out)
    c.tell.result text c.tell.ensures.done
