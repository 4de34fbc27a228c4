use Rattle.std.proofs.Common.{◌+◌, set, refl, sym, ap, ◌∙◌, arith}
use Rattle.std.proofs.lemmas.List.Elements.{All-set}
use Rattle.sorted_table.specs.Parts.{rows_of, all_rows, all_over, held, IsBlockFor, IsBlock}
use Rattle.sorted_table.specs.Tabled.{Tabled}
use Rattle.sorted_table.proofs.Blocked.{block_row_at, block_with_row, block_is, block_split, rising_put}
use Rattle.sorted_table.proofs.Parted.{All-insert}
use Rattle.sorted_table.proofs.Spared.{over_less, rows_set, rows_split, over_set, over_split, held_here, held_set, held_split, room_one, room_split}
use Rattle.sorted_table.proofs.blocks.Blocks.insert.Goals as goal

pub insert-requires-then-rows-lt-MOST-clause-absent : goal.insert-requires-then-rows-lt-MOST-clause-absent
insert-requires-then-rows-lt-MOST-clause-absent g c =
    let rank = g.T.Ranked.rank in
    let blocks = c.self.inside.blocks.items in
    let place : IsBlockFor rank blocks (rank c.args.row) c.in-Some.at = rw c.deref.ensures.value at c.in-Some.ensures in
    let block = c.index_mut-block.result.now in
    sym (block_row_at _ rank _ blocks c.in-Some.at place block c.index_mut-block.ensures.value) ∙ (rw (← c.self.view_is) at c.requires.absent)

pub split-requires-clause-absent : goal.split-requires-clause-absent
split-requires-clause-absent g c =
    let rank = g.T.Ranked.rank in
    let blocks = c.self.inside.blocks.items in
    let place : IsBlockFor rank blocks (rank c.args.row) c.in-Some.at = rw c.deref.ensures.value at c.in-Some.ensures in
    let block = c.index_mut-block.result.now in
    sym (block_row_at _ rank _ blocks c.in-Some.at place block c.index_mut-block.ensures.value) ∙ (rw (← c.self.view_is) at c.requires.absent)

pub invariant_of-self-then-rows-lt-MOST : goal.invariant_of-self-then-rows-lt-MOST
invariant_of-self-then-rows-lt-MOST g c =
    let rank = g.T.Ranked.rank in
    let blocks = c.self.inside.blocks.items in
    let kept = c.self.invariant in
    let place : IsBlockFor rank blocks (rank c.args.row) c.in-Some.at = rw c.deref.ensures.value at c.in-Some.ensures in
    let block = c.index_mut-block.result.now in
    let here = c.index_mut-block.ensures.value in
    let after = c.insert-then-rows-lt-MOST.new.self in
    let told = c.insert-then-rows-lt-MOST.ensures in
    let full : IsBlock 128 block = block_is _ rank _ blocks c.in-Some.at place block here kept.0 kept.1 in
    let still : IsBlock 128 after = (
      omega (arith, told.count),
      omega (arith, told.count, c.len-rows.ensures, c.if-rows-lt-MOST.true),
      let most = full.2 in omega (arith, told.count, told.spare, most),
    ) in
    let sum = rows_set _ blocks c.in-Some.at place.0 block here after in
    let heavy = over_set _ blocks c.in-Some.at place.0 block here after in (
      rising_put _ rank _ blocks c.in-Some.at place block here kept.0 kept.1 c.args.row _
          (block_with_row _ rank _ blocks c.in-Some.at place block here c.args.row refl after told.rows),
      All-set (λ (b : Tabled g.row.T.Denot). IsBlock 128 b) blocks c.in-Some.at after still kept.1,
      kept.2,
      kept.3,
      kept.4,
      omega (arith, sum, told.count, kept.5),
      omega (arith, heavy, told.count, kept.6, c.over.ensures, c.over-then-rows-lt-MOST.ensures, c.len-rows.ensures),
    )

pub returns-then-rows-lt-MOST-clause-rows : goal.returns-then-rows-lt-MOST-clause-rows
returns-then-rows-lt-MOST-clause-rows g c =
    let rank = g.T.Ranked.rank in
    let blocks = c.self.inside.blocks.items in
    let place : IsBlockFor rank blocks (rank c.args.row) c.in-Some.at = rw c.deref.ensures.value at c.in-Some.ensures in
    rw (← c.self.view_is) (block_with_row _ rank _ blocks c.in-Some.at place c.index_mut-block.result.now c.index_mut-block.ensures.value
    c.args.row refl c.insert-then-rows-lt-MOST.new.self c.insert-then-rows-lt-MOST.ensures.rows)

pub returns-clause-rows : goal.returns-clause-rows
returns-clause-rows g c =
    let rank = g.T.Ranked.rank in
    let blocks = c.self.inside.blocks.items in
    let kept = c.self.invariant in
    let place : IsBlockFor rank blocks (rank c.args.row) c.in-Some.at = rw c.deref.ensures.value at c.in-Some.ensures in
    let block = c.index_mut-block.result.now in
    let spare = rw (← c.self.view_is) at c.requires.room in
    let ok = c.insert-2.ensures.succeeds (omega (arith, spare, kept.3)) in
    let told = rw ok at c.insert-2.ensures.items in
    rw (← c.self.view_is) (ap (λ l. rows_of l) told ∙ block_split _ rank _ blocks c.in-Some.at place block c.index_mut-block.ensures.value
    c.args.row refl c.split.new.self c.split.new.upper c.split.ensures.rows (c.in-Some.at + 1) refl)

pub invariant_of-self-2 : goal.invariant_of-self-2
invariant_of-self-2 g c =
    let rank = g.T.Ranked.rank in
    let blocks = c.self.inside.blocks.items in
    let kept = c.self.invariant in
    let place : IsBlockFor rank blocks (rank c.args.row) c.in-Some.at = rw c.deref.ensures.value at c.in-Some.ensures in
    let block = c.index_mut-block.result.now in
    let here = c.index_mut-block.ensures.value in
    let spare = rw (← c.self.view_is) at c.requires.room in
    let ok = c.insert-2.ensures.succeeds (omega (arith, spare, kept.3)) in
    let told = rw ok at c.insert-2.ensures.items in
    let size = rw ok at c.insert-2.ensures.len in
    let lower = c.split.new.self in
    let upper = c.split.new.upper in
    let halves = c.split.ensures in
    let full : IsBlock 128 block = block_is _ rank _ blocks c.in-Some.at place block here kept.0 kept.1 in
    let most = full.2 in
    let wide = c.take_fresh-upper.ensures.taken.1 in
    let low = halves.left.1 in
    let high = halves.moved.1 in
    let lower_is : IsBlock 128 lower = (halves.left.0, omega (arith, low), omega (arith, halves.spare, most)) in
    let upper_is : IsBlock 128 upper = (halves.moved.0, omega (arith, high), omega (arith, halves.upper_spare, wide)) in
    let sum = rows_split _ blocks c.in-Some.at place.0 block here lower upper (c.in-Some.at + 1) in
    let heavy = over_split _ blocks c.in-Some.at place.0 block here lower upper (c.in-Some.at + 1) in
    let all = ap (λ l. all_rows l) told in
    let all_heavy = ap (λ l. all_over l) told in
    let added = halves.count in
    let size_is = full.1 in (
      rising_put _ rank _ blocks c.in-Some.at place block here kept.0 kept.1 c.args.row _
          (ap (λ l. rows_of l) told ∙ block_split _ rank _ blocks c.in-Some.at place block here c.args.row refl lower upper halves.rows (c.in-Some.at + 1) refl),
      rw told (All-insert _ (λ (b : Tabled g.row.T.Denot). IsBlock 128 b) (set blocks c.in-Some.at lower) (c.in-Some.at + 1) upper upper_is
          (All-set (λ (b : Tabled g.row.T.Denot). IsBlock 128 b) blocks c.in-Some.at lower lower_is kept.1)),
      c.take_fresh-upper.ensures.left,
      omega (arith, size, kept.3, c.insert-2.ensures.capacity, c.take_fresh-upper.ensures.count),
      omega (arith, size, kept.4, c.take_fresh-upper.ensures.capacity, c.take_fresh-upper.ensures.count),
      omega (arith, sum, added, kept.5, all, c.len-rows.ensures, c.if-rows-lt-MOST.false, size_is),
      omega (arith, heavy, low, high, kept.6, all_heavy, c.over-2.ensures, c.len-rows.ensures),
    )

pub overflow_add-self-then-rows-lt-MOST : goal.overflow_add-self-then-rows-lt-MOST
overflow_add-self-then-rows-lt-MOST g c =
    let kept = c.self.invariant in
    let room = rw (← c.self.view_is) at c.requires.room in
    let less = over_less _ c.self.inside.blocks.items in
    omega (arith, kept.5, kept.6, less, room, c.over.ensures, c.over-then-rows-lt-MOST.ensures)

pub returns-then-rows-lt-MOST-clause-spare : goal.returns-then-rows-lt-MOST-clause-spare
returns-then-rows-lt-MOST-clause-spare g c =
    let rank = g.T.Ranked.rank in
    let blocks = c.self.inside.blocks.items in
    let place : IsBlockFor rank blocks (rank c.args.row) c.in-Some.at = rw c.deref.ensures.value at c.in-Some.ensures in
    let block = c.index_mut-block.result.now in
    let here = c.index_mut-block.ensures.value in
    let after = c.insert-then-rows-lt-MOST.new.self in
    let heavy = over_set _ blocks c.in-Some.at place.0 block here after in
    let before = held_here _ blocks c.in-Some.at place.0 block here after in
    let held_then = held_set _ blocks c.in-Some.at place.0 block here after in
    rw (← c.self.view_is) (room_one _ (held blocks) (held (set blocks c.in-Some.at after)) _ _
    (omega (arith, heavy, before, held_then, c.insert-then-rows-lt-MOST.ensures.count)) refl)

pub returns-clause-spare : goal.returns-clause-spare
returns-clause-spare g c =
    let rank = g.T.Ranked.rank in
    let blocks = c.self.inside.blocks.items in
    let kept = c.self.invariant in
    let place : IsBlockFor rank blocks (rank c.args.row) c.in-Some.at = rw c.deref.ensures.value at c.in-Some.ensures in
    let block = c.index_mut-block.result.now in
    let here = c.index_mut-block.ensures.value in
    let spare = rw (← c.self.view_is) at c.requires.room in
    let ok = c.insert-2.ensures.succeeds (omega (arith, spare, kept.3)) in
    let told = rw ok at c.insert-2.ensures.items in
    let lower = c.split.new.self in
    let upper = c.split.new.upper in
    let low = c.split.ensures.left.1 in
    let high = c.split.ensures.moved.1 in
    let heavy = over_split _ blocks c.in-Some.at place.0 block here lower upper (c.in-Some.at + 1) in
    let before = held_here _ blocks c.in-Some.at place.0 block here lower in
    let within = place.0 in
    let held_then = held_split _ blocks c.in-Some.at place.0 block here lower upper (c.in-Some.at + 1) (omega (arith, within)) in
    let all = ap (λ l. held l) told in
    rw (← c.self.view_is) (room_split _ _ (held blocks) (held c.insert-2.new.self.items) _ _ c.take_fresh-upper.ensures.count
    (omega (arith, heavy, before, held_then, all, low, high, c.len-rows.ensures, c.if-rows-lt-MOST.false)) refl)
