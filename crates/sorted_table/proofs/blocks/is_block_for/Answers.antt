use Rattle.std.proofs.Common.{◌≡◌, suc, ◌+◌, Bool, nat_le, get_or, sym, ap, ◌∙◌, arith}
use Rattle.std.proofs.lemmas.Bool.{not-true}
use Rattle.std.proofs.lemmas.List.{get_or_default}
use Rattle.sorted_table.specs.Parts.{first_rank}
use Rattle.sorted_table.specs.Tabled.{Tabled}
use Rattle.sorted_table.proofs.Parted.{block_here}
use Rattle.sorted_table.proofs.blocks.is_block_for.Goals as goal

pub returns-then-at-blocks : goal.returns-then-at-blocks
returns-then-at-blocks g c = λ _.
    block_here _ g.T.Ranked.rank c.args.blocks.now (g.K.Key.sought c.args.key.now) c.requires.rising c.requires.filled c.args.at
    c.index-blocks-at.result c.requires.within c.index-blocks-at.is (sym c.starts_by.ensures ∙ c.if-not-starts_by.false)
    (λ d after. absurd (omega (arith, after, c.if-at-blocks.true)))

pub returns : goal.returns
returns g c = λ told.
    let rank = g.T.Ranked.rank in
    let k = g.K.Key.sought c.args.key.now in
    let blocks = c.args.blocks.now in
    let next = c.index-blocks-at-2.result in
    let starts : Tabled g.row.T.Denot → Bool = λ (b : Tabled g.row.T.Denot). nat_le (first_rank rank b.rows) k in
    let same : suc c.args.at ≡ c.args.at + 1 = omega arith in
    block_here _ rank blocks k c.requires.rising c.requires.filled c.args.at
    c.index-blocks-at.result c.requires.within c.index-blocks-at.is (sym c.starts_by.ensures ∙ c.if-not-starts_by.false)
    (λ d after. ap starts (get_or_default blocks (suc c.args.at) d next after ∙ ap (λ n. get_or blocks n next) same ∙ sym c.index-blocks-at-2.is)
    ∙ sym c.starts_by-2.ensures ∙ not-true _ told)
