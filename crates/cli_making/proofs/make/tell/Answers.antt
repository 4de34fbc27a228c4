use Rattle.std.proofs.Common.{◌≡◌, List, ℕ, ◌++◌, arith, ap, ◌∙◌, subst}
use Rattle.std.specs.Prelude.{true, false}
use Rattle.script_text.specs.Printing.{owner_line}
use Rattle.cli_base.specs.Outside.{PrintsFront}
use Rattle.script_text.proofs.PrintedLengths.{length-owner_line}
use Rattle.cli_making.proofs.make.tell.Goals as goal

pub returns-in_default-print-clause-cut_short : goal.returns-in_default-print-clause-cut_short
returns-in_default-print-clause-cut_short g c = λ is x y was now.
    let key = c.args.key.now in
    let line : c.as_slice.result.now ≡ owner_line key =
    c.as_slice.ensures ∙ c.in-Ok.ensures.line ∙ ap (λ items. items ++ owner_line key) c.requires.empty
    in
    subst (λ (l : List ℕ). PrintsFront l x y) line (c.in_default-print.ensures.bytes x y was now)

pub returns-clause-printed : goal.returns-clause-printed
returns-clause-printed g c = λ is x y was now.
    let key = c.args.key.now in
    let line : c.as_slice.result.now ≡ owner_line key =
    c.as_slice.ensures ∙ c.in-Ok.ensures.line ∙ ap (λ items. items ++ owner_line key) c.requires.empty
    in
    c.in-Ok-print.ensures.bytes x y was now ∙ ap (λ l. x ++ l) line

pub unreachable-requires : goal.unreachable-requires
unreachable-requires g c =
    let no : false ≡ true = c.in_default.ensures.has_room (omega (arith, length-owner_line c.args.key.now, c.requires.room)) in
    cc
