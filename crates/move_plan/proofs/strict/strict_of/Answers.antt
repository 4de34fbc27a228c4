use Rattle.std.proofs.Common.{◌≡◌, sym, ap, ◌∙◌}
use Rattle.std.proofs.lemmas.Result.{IfOk-weaker}
use Rattle.cry_base.specs.Listed.{Listed}
use Rattle.cry_base.specs.Store.{Store}
use Rattle.cry_base.specs.declared.roles.Role.{Role}
use Rattle.rekey_walk.specs.Strict.{strict_roles}
use Rattle.role_graph.specs.Edges.{edges}
use Rattle.record_format.specs.Told.{told_note}
use Rattle.move_plan.specs.Change.{inner_roles, strict_of}
use Rattle.move_plan.specs.Seen.{plain_row, seen_store}
use Rattle.move_plan.proofs.Inside.{none_strict, others_strict, upgrade_strict}
use Rattle.move_plan.proofs.Seeing.{edges_seen}
use Rattle.move_plan.proofs.strict.strict_of.Goals as goal

pub returns-then-is_upgrade-clause-roles : goal.returns-then-is_upgrade-clause-roles
returns-then-is_upgrade-clause-roles g c =
    let t = c.args.shape.now.tree in
    let s : Store = seen_store t c.args.grants.now in
    let note = told_note c.args.note.now in
    let row = plain_row c.args.row.now in
    IfOk-weaker c.inner_roles.result (λ (l : Listed Role). l.items ≡ inner_roles s) (λ (l : Listed Role). l.items ≡ strict_of c.args.strict s note row)
    (λ l e. e ∙ upgrade_strict c.args.strict t c.args.grants.now note row (sym c.is_upgrade.ensures ∙ c.if-is_upgrade.true)) c.inner_roles.ensures

pub returns-then-strict-clause-roles : goal.returns-then-strict-clause-roles
returns-then-strict-clause-roles g c =
    let t = c.args.shape.now.tree in
    let given = c.args.grants.now in
    let s : Store = seen_store t given in
    let note = told_note c.args.note.now in
    let row = plain_row c.args.row.now in
    let here : Store = g.R.Adjacent.store c.args.roles.now in
    let same = ap edges c.requires ∙ edges_seen t given in
    IfOk-weaker c.strict_in.result (λ (l : Listed Role). l.items ≡ strict_roles (edges here) c.as_slice.result.now c.as_slice-then-strict.result.now)
    (λ (l : Listed Role). l.items ≡ strict_of c.args.strict s note row)
    (λ l e. e ∙ (λ i. strict_roles (same i) (c.as_slice.ensures i) (c.as_slice-then-strict.ensures i))
    ∙ others_strict c.args.strict s note row (sym c.is_upgrade.ensures ∙ c.if-is_upgrade.false) c.if-strict.true) c.strict_in.ensures.roles

pub returns-clause-roles : goal.returns-clause-roles
returns-clause-roles g c =
    c.new.ensures
    ∙ none_strict c.args.strict (seen_store c.args.shape.now.tree c.args.grants.now) (told_note c.args.note.now) (plain_row c.args.row.now)
    (sym c.is_upgrade.ensures ∙ c.if-is_upgrade.false) c.if-strict.false
