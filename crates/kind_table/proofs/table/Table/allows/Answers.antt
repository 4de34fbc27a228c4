use Rattle.std.proofs.Common.{◌≡◌, ◌∙◌, sym}
use Rattle.cry_base.proofs.Members.{In-any}
use Rattle.kind_table.specs.Rows.{joins}
use Rattle.kind_table.specs.declared.table.Row.{Row}
use Rattle.kind_table.proofs.Joining.{joins_told}
use Rattle.kind_table.proofs.table.Table.allows.Goals as goal

pub returns : goal.returns
returns g c =
    let a = c.args.a in
    let b = c.args.b in
    let told = In-any Row (joins a b) (λ r. (r.from ≡ a) × (r.to ≡ b)) (joins_told a b) c.args.self.now.rows in (
      λ t. let w = told.0 (sym c.has_row.ensures ∙ t) in (w.0, w.1, w.2.0, w.2.1),
      λ w. c.has_row.ensures ∙ told.1 (w.0, w.1, (w.2, w.3)),
    )
