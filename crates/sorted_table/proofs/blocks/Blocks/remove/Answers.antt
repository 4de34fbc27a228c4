use Rattle.std.proofs.Common.{◌≤◌, length, set, sym, ap, ◌∙◌, arith}
use Rattle.std.specs.List.{remove}
use Rattle.std.proofs.lemmas.List.Elements.{All-set, All-push}
use Rattle.sorted_table.specs.Parts.{rows_of, all_rows, all_over, held, IsBlockFor, IsBlock, IsFresh}
use Rattle.sorted_table.specs.Tabled.{Tabled}
use Rattle.sorted_table.proofs.Blocked.{block_row_at, block_without, block_removed, block_is, rising_left}
use Rattle.sorted_table.proofs.Parted.{All-removed}
use Rattle.sorted_table.proofs.Spared.{fresh_again, rows_set, rows_removed, over_set, over_removed, held_here, held_set, held_most, room_less, room_back}
use Rattle.sorted_table.proofs.blocks.Blocks.remove.Goals as goal

pub returns-then-after-ne0-clause-row : goal.returns-then-after-ne0-clause-row
returns-then-after-ne0-clause-row g c =
    let rank = g.T.Ranked.rank in
    let blocks = c.self.inside.blocks.items in
    let k = g.K.Key.sought c.args.key.now in
    let place : IsBlockFor rank blocks k c.in_ok-at.at = rw c.deref.ensures.value at c.in_ok-at.ensures in
    rw (← c.self.view_is) (c.remove-row.ensures.row ∙ sym (block_row_at _ rank k blocks c.in_ok-at.at place c.index_mut-block.result.now c.index_mut-block.ensures.value))

pub returns-clause-row : goal.returns-clause-row
returns-clause-row g c =
    let rank = g.T.Ranked.rank in
    let blocks = c.self.inside.blocks.items in
    let k = g.K.Key.sought c.args.key.now in
    let place : IsBlockFor rank blocks k c.in_ok-at.at = rw c.deref.ensures.value at c.in_ok-at.ensures in
    rw (← c.self.view_is) (c.remove-row.ensures.row ∙ sym (block_row_at _ rank k blocks c.in_ok-at.at place c.index_mut-block.result.now c.index_mut-block.ensures.value))

pub returns-then-after-ne0-clause-rows : goal.returns-then-after-ne0-clause-rows
returns-then-after-ne0-clause-rows g c =
    let rank = g.T.Ranked.rank in
    let blocks = c.self.inside.blocks.items in
    let k = g.K.Key.sought c.args.key.now in
    let place : IsBlockFor rank blocks k c.in_ok-at.at = rw c.deref.ensures.value at c.in_ok-at.ensures in
    rw (← c.self.view_is) (block_without _ rank k blocks c.in_ok-at.at place c.index_mut-block.result.now c.index_mut-block.ensures.value
    c.remove-row.new.self c.remove-row.ensures.rows)

pub returns-clause-rows : goal.returns-clause-rows
returns-clause-rows g c =
    let rank = g.T.Ranked.rank in
    let blocks = c.self.inside.blocks.items in
    let k = g.K.Key.sought c.args.key.now in
    let place : IsBlockFor rank blocks k c.in_ok-at.at = rw c.deref.ensures.value at c.in_ok-at.ensures in
    let none : length c.remove-row.new.self.rows ≤ 0 = omega (arith, c.len-after.ensures, c.if-after-ne0.false) in
    rw (← c.self.view_is) (ap (λ l. rows_of l) c.remove-block.ensures.items ∙ block_removed _ rank k blocks c.in_ok-at.at place c.index_mut-block.result.now
    c.index_mut-block.ensures.value c.remove-row.new.self c.remove-row.ensures.rows none)

pub invariant_of-self : goal.invariant_of-self
invariant_of-self g c =
    let rank = g.T.Ranked.rank in
    let blocks = c.self.inside.blocks.items in
    let k = g.K.Key.sought c.args.key.now in
    let kept = c.self.invariant in
    let place : IsBlockFor rank blocks k c.in_ok-at.at = rw c.deref.ensures.value at c.in_ok-at.ensures in
    let block = c.index_mut-block.result.now in
    let here = c.index_mut-block.ensures.value in
    let after = c.remove-row.new.self in
    let told = c.remove-row.ensures in
    let full : IsBlock 128 block = block_is _ rank k blocks c.in_ok-at.at place block here kept.0 kept.1 in
    let small = full.1 in
    let most = full.2 in
    let still : IsBlock 128 after = (omega (arith, c.len-after.ensures, c.if-after-ne0.true), omega (arith, told.fewer, small), omega (arith, told.room, most)) in
    let sum = rows_set _ blocks c.in_ok-at.at place.0 block here after in
    let heavy = over_set _ blocks c.in_ok-at.at place.0 block here after in (
      rising_left _ rank k blocks c.in_ok-at.at place block here kept.0 kept.1 _ (block_without _ rank k blocks c.in_ok-at.at place block here after told.rows),
      All-set (λ (b : Tabled g.row.T.Denot). IsBlock 128 b) blocks c.in_ok-at.at after still kept.1,
      kept.2,
      kept.3,
      kept.4,
      omega (arith, sum, kept.5, told.fewer, c.len-before.ensures, c.len-after.ensures),
      omega (arith, heavy, kept.6, told.fewer, c.over.ensures, c.over-2.ensures, c.len-before.ensures, c.len-after.ensures),
    )

pub invariant_of-self-2 : goal.invariant_of-self-2
invariant_of-self-2 g c =
    let rank = g.T.Ranked.rank in
    let blocks = c.self.inside.blocks.items in
    let k = g.K.Key.sought c.args.key.now in
    let kept = c.self.invariant in
    let place : IsBlockFor rank blocks k c.in_ok-at.at = rw c.deref.ensures.value at c.in_ok-at.ensures in
    let block = c.index_mut-block.result.now in
    let here = c.index_mut-block.ensures.value in
    let none : length c.remove-row.new.self.rows ≤ 0 = omega (arith, c.len-after.ensures, c.if-after-ne0.false) in
    let told = c.remove-block.ensures.items in
    let full : IsBlock 128 block = block_is _ rank k blocks c.in_ok-at.at place block here kept.0 kept.1 in
    let most = full.2 in
    let waits = fresh_again _ blocks c.in_ok-at.at c.remove-row.new.self c.remove-block.result place.0 c.remove-block.ensures.value none
    (omega (arith, c.remove-row.ensures.room, most)) in
    let all = rw c.deref.ensures.value at c.deref.ensures.len in
    let within = place.0 in
    let ok = c.push.ensures.succeeds (omega (arith, kept.4, all, within)) in
    let again = rw ok at c.push.ensures.items in
    let count = rw ok at c.push.ensures.len in
    let sum = rows_removed _ blocks c.in_ok-at.at place.0 block here c.remove-row.new.self in
    let heavy = over_removed _ blocks c.in_ok-at.at place.0 block here c.remove-row.new.self in
    let rows_then = ap (λ l. all_rows l) told in
    let over_then = ap (λ l. all_over l) told in (
      rising_left _ rank k blocks c.in_ok-at.at place block here kept.0 kept.1 _
          (ap (λ l. rows_of l) told ∙ block_removed _ rank k blocks c.in_ok-at.at place block here c.remove-row.new.self c.remove-row.ensures.rows none),
      rw told (All-removed _ (λ (b : Tabled g.row.T.Denot). IsBlock 128 b) blocks c.in_ok-at.at c.remove-row.new.self place.0 kept.1),
      rw again (All-push (λ (b : Tabled g.row.T.Denot). IsFresh 128 b) c.self.inside.fresh.items c.remove-block.result kept.2 waits),
      omega (arith, kept.3, count, c.remove-block.ensures.len, c.remove-block.ensures.capacity),
      omega (arith, kept.4, count, c.remove-block.ensures.len, c.push.ensures.capacity),
      omega (arith, sum, rows_then, none, kept.5, c.len-before.ensures, c.len-after.ensures),
      omega (arith, heavy, over_then, none, kept.6, c.over.ensures, c.over-2.ensures, c.len-before.ensures, c.len-after.ensures),
    )

pub returns-then-after-ne0-clause-spare : goal.returns-then-after-ne0-clause-spare
returns-then-after-ne0-clause-spare g c =
    let rank = g.T.Ranked.rank in
    let blocks = c.self.inside.blocks.items in
    let k = g.K.Key.sought c.args.key.now in
    let place : IsBlockFor rank blocks k c.in_ok-at.at = rw c.deref.ensures.value at c.in_ok-at.ensures in
    let block = c.index_mut-block.result.now in
    let here = c.index_mut-block.ensures.value in
    let after = c.remove-row.new.self in
    let heavy = over_set _ blocks c.in_ok-at.at place.0 block here after in
    let before = held_here _ blocks c.in_ok-at.at place.0 block here after in
    let held_then = held_set _ blocks c.in_ok-at.at place.0 block here after in
    rw (← c.self.view_is) (room_less _ _ (held blocks) (held (set blocks c.in_ok-at.at after)) _ _ (omega arith)
    (omega (arith, heavy, before, held_then, c.remove-row.ensures.fewer)) (omega arith))

pub returns-clause-spare : goal.returns-clause-spare
returns-clause-spare g c =
    let rank = g.T.Ranked.rank in
    let blocks = c.self.inside.blocks.items in
    let k = g.K.Key.sought c.args.key.now in
    let kept = c.self.invariant in
    let place : IsBlockFor rank blocks k c.in_ok-at.at = rw c.deref.ensures.value at c.in_ok-at.ensures in
    let block = c.index_mut-block.result.now in
    let here = c.index_mut-block.ensures.value in
    let after = c.remove-row.new.self in
    let told = c.remove-block.ensures.items in
    let all = rw c.deref.ensures.value at c.deref.ensures.len in
    let within = place.0 in
    let ok = c.push.ensures.succeeds (omega (arith, kept.4, all, within)) in
    let count = rw ok at c.push.ensures.len in
    let heavy = over_removed _ blocks c.in_ok-at.at place.0 block here after in
    let before = held_here _ blocks c.in_ok-at.at place.0 block here after in
    let most = held_most _ (remove (set blocks c.in_ok-at.at after) c.in_ok-at.at) in
    let held_then = ap (λ l. held l) told in
    rw (← c.self.view_is) (room_back _ _ (held blocks) (held c.remove-block.new.self.items) _ _ count
    (omega (arith, heavy, before, most, held_then)) (omega arith))
