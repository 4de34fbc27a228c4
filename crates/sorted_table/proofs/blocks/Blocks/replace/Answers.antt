use Rattle.std.proofs.Common.{◌≡◌, IsSome, length, refl, ap, subst, ◌∙◌, arith}
use Rattle.std.proofs.lemmas.List.{length-map}
use Rattle.std.proofs.lemmas.List.Elements.{All-set}
use Rattle.sorted_table.specs.Parts.{IsBlockFor, IsBlock}
use Rattle.sorted_table.specs.Tabled.{Tabled}
use Rattle.sorted_table.proofs.Blocked.{block_row_at, block_replaced, block_is, rising_still}
use Rattle.sorted_table.proofs.Spared.{rows_set, over_set}
use Rattle.sorted_table.proofs.blocks.Blocks.replace.Goals as goal

pub replace-requires : goal.replace-requires
replace-requires g c =
    let rank = g.T.Ranked.rank in
    let blocks = c.self.inside.blocks.items in
    let place : IsBlockFor rank blocks (rank c.args.row) c.in-Some.at = rw c.deref.ensures.value at c.in-Some.ensures in
    subst (λ o. IsSome o) (block_row_at _ rank _ blocks c.in-Some.at place c.index_mut.result.now c.index_mut.ensures.value) (rw (← c.self.view_is) at c.requires)

pub invariant_of-self : goal.invariant_of-self
invariant_of-self g c =
    let rank = g.T.Ranked.rank in
    let blocks = c.self.inside.blocks.items in
    let kept = c.self.invariant in
    let place : IsBlockFor rank blocks (rank c.args.row) c.in-Some.at = rw c.deref.ensures.value at c.in-Some.ensures in
    let block = c.index_mut.result.now in
    let here = c.index_mut.ensures.value in
    let after = c.replace.new.self in
    let told = c.replace.ensures in
    let full : IsBlock 128 block = block_is _ rank _ blocks c.in-Some.at place block here kept.0 kept.1 in
    let size : length after.rows ≡ length block.rows = ap (λ l. length l) told.rows ∙ length-map block.rows _ in
    let some = full.0 in
    let small = full.1 in
    let most = full.2 in
    let still : IsBlock 128 after = (omega (arith, size, some), omega (arith, size, small), omega (arith, size, told.spare, most)) in
    let sum = rows_set _ blocks c.in-Some.at place.0 block here after in
    let heavy = over_set _ blocks c.in-Some.at place.0 block here after in (
      rising_still _ rank _ blocks c.in-Some.at place block here kept.0 kept.1 c.args.row _
          (block_replaced _ rank _ blocks c.in-Some.at place block here c.args.row refl after told.rows),
      All-set (λ (b : Tabled g.row.T.Denot). IsBlock 128 b) blocks c.in-Some.at after still kept.1,
      kept.2,
      kept.3,
      kept.4,
      omega (arith, sum, size, kept.5),
      omega (arith, heavy, size, kept.6),
    )

pub returns-clause-rows : goal.returns-clause-rows
returns-clause-rows g c =
    let rank = g.T.Ranked.rank in
    let blocks = c.self.inside.blocks.items in
    let place : IsBlockFor rank blocks (rank c.args.row) c.in-Some.at = rw c.deref.ensures.value at c.in-Some.ensures in
    rw (← c.self.view_is) (block_replaced _ rank _ blocks c.in-Some.at place c.index_mut.result.now c.index_mut.ensures.value
    c.args.row refl c.replace.new.self c.replace.ensures.rows)
