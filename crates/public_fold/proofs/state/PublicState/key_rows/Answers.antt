use Rattle.std.proofs.lemmas.Result.{IfOk-weaker}
use Rattle.std.proofs.Common.{◌≡◌, IfOk, ◌∙◌, subst}
use Rattle.cry_base.specs.Listed.{Listed}
use Rattle.index_format.specs.declared.rows.KeyRow.{KeyRow}
use Rattle.public_fold.specs.Standing.{PublicView}
use Rattle.public_fold.specs.StandingRoles.{rows_of_keys}
use Rattle.public_fold.specs.States.{AreKeyRows}
use Rattle.public_fold.proofs.RowsOfKeys.{rows_of_table}
use Rattle.public_fold.proofs.state.PublicState.key_rows.Goals as goal

pub returns : goal.returns
returns c =
    let inside = c.self.inside in
    let keys = inside.keys.keys in
    subst (λ (v : PublicView). IfOk c.rows_of.result (λ (l : Listed KeyRow). AreKeyRows v.keys.keys l.items)) c.self.view_is
    (IfOk-weaker c.rows_of.result (λ (l : Listed KeyRow). l.items ≡ rows_of_keys keys c.as_slice.result.now) (λ (l : Listed KeyRow). AreKeyRows keys l.items)
    (λ l e. rows_of_table inside.shape.tree inside.grants keys inside.dirty c.as_slice.result.now l.items c.is_tree.ensures c.self.invariant (c.as_slice.ensures ∙ c.in_ok-roles.ensures) e)
    c.rows_of.ensures)
