use Rattle.std.proofs.Common.{◌∙◌, sym, ap, is_some}
use Rattle.sorted_table.specs.Rows.{row_at}
use Rattle.grant_book.specs.Ranks.{rank_of}
use Rattle.grant_book.proofs.Lists.{is_some-copied}
use Rattle.grant_book.proofs.Ordered.{is_some-row_at, any_grant_told}
use Rattle.grant_book.proofs.grants.Grants.has.Goals as goal

pub returns-clause-value : goal.returns-clause-value
returns-clause-value c =
    let rows = c.self.inside.pairs.rows in
    let stands = is_some-row_at rows c.self.invariant.numbered c.args.h.0 c.args.f.0 c.new.ensures.numbered in
    rw (← c.self.view_is) (c.is_some.ensures ∙ sym (is_some-copied _ c.find.result) ∙ ap is_some c.find.ensures.row ∙ ap (λ g. is_some (row_at rank_of rows (rank_of g))) c.new.ensures.grant ∙ stands)

pub returns-clause-told : goal.returns-clause-told
returns-clause-told c = let value = returns-clause-value c in rw value (any_grant_told c.args.h.0 c.args.f.0 c.args.self.now.pairs)
