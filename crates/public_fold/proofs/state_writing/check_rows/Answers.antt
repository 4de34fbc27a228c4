use Rattle.std.proofs.Common.{[], ◌∷◌, ◌++◌, All, sym, ap, ◌∙◌, subst}
use Rattle.std.proofs.lemmas.List.Elements.{All-push}
use Rattle.index_format.specs.Writable.{IsCheckRow}
use Rattle.index_format.specs.declared.rows.CheckRow.{CheckRow}
use Rattle.public_fold.proofs.ChecksTaken.{check_taken}
use Rattle.public_fold.proofs.state_writing.check_rows.Goals as goal

pub loop-before-preserved : goal.loop-before-preserved
loop-before-preserved c =
    let rows = c.loop-before.rows.items in
    let row = c.check_row.result in
    record {
      taken = c.in_ok-push.ensures.items ∙ ap (λ (r : CheckRow). rows ++ r ∷ []) c.check_row.ensures.row
          ∙ check_taken c.args.grants.now.checks c.loop-before.before c.in-Some.check rows (sym c.in-Some.is ∙ c.check_of.ensures) c.loop-before.invariant.taken;
      whole = subst (All IsCheckRow) (sym c.in_ok-push.ensures.items)
          (All-push IsCheckRow rows row c.loop-before.invariant.whole c.check_row.ensures.whole);
    }
