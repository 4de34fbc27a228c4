use Rattle.std.proofs.Common.{◌∙◌, ap}
use Rattle.cry_base.specs.Store.{GrantEntry}
use Rattle.sorted_table.specs.Rows.{row_at, with_row}
use Rattle.grant_book.specs.Ranks.{rank_of, rank_on}
use Rattle.grant_book.proofs.Fitted.{Fits-grant, holder_small, others_absent}
use Rattle.grant_book.proofs.Ordered.{row_at-not_granted, with_row_is}
use Rattle.grant_book.proofs.grants.Grants.grant.Goals as goal

pub insert-requires-clause-absent : goal.insert-requires-clause-absent
insert-requires-clause-absent c =
    let absent = rw (← c.self.view_is) at c.requires.absent in
    rw c.new-grant.ensures.grant (row_at-not_granted c.self.inside.pairs.rows c.self.invariant.numbered c.args.h.0 c.args.f.0 c.new-grant.ensures.numbered absent)

pub insert-requires-2-clause-absent : goal.insert-requires-2-clause-absent
insert-requires-2-clause-absent c =
    let rows = c.self.inside.pairs.rows in
    let others = c.self.inside.on_folders.rows in
    let absent = rw (← c.self.view_is) at c.requires.absent in
    let known = rw (← c.self.view_is) at c.requires.known in
    let small = holder_small c.self.inside.checks.items rows others c.args.h.0 c.self.invariant known in
    ap (λ (e : GrantEntry). row_at rank_on others (rank_on e)) c.new-grant.ensures.grant
    ∙ others_absent c.self.inside.checks.items rows others c.args.h.0 c.args.f.0 c.self.invariant small c.new-grant.ensures.numbered
    (row_at-not_granted rows c.self.invariant.numbered c.args.h.0 c.args.f.0 c.new-grant.ensures.numbered absent)

pub invariant_of-self : goal.invariant_of-self
invariant_of-self c =
    let rows = c.self.inside.pairs.rows in
    let absent = rw (← c.self.view_is) at c.requires.absent in
    let known = rw (← c.self.view_is) at c.requires.known in
    let small = holder_small c.self.inside.checks.items rows c.self.inside.on_folders.rows c.args.h.0 c.self.invariant known in
    rw (c.insert.ensures.rows, c.insert-2.ensures.rows, c.new-grant.ensures.grant) (Fits-grant c.self.inside.checks.items rows c.self.inside.on_folders.rows c.args.h.0 c.args.f.0 c.self.invariant small c.new-grant.ensures.numbered known
    (row_at-not_granted rows c.self.invariant.numbered c.args.h.0 c.args.f.0 c.new-grant.ensures.numbered absent))

pub returns-clause-pairs : goal.returns-clause-pairs
returns-clause-pairs c =
    let rows = c.self.inside.pairs.rows in
    rw (← c.self.view_is) (c.insert.ensures.rows ∙ ap (λ g. with_row rank_of rows g) c.new-grant.ensures.grant ∙ with_row_is rows c.self.invariant.numbered c.args.h.0 c.args.f.0 c.new-grant.ensures.numbered)
