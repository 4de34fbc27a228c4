use Rattle.std.proofs.Common.{◌<◌, length, map, ap, ◌∙◌, arith}
use Rattle.std.proofs.lemmas.Bool.{false≢true}
use Rattle.std.proofs.lemmas.List.{length-map, length-set}
use Rattle.std.proofs.Math.Seq.{map-set_same}
use Rattle.public_fold.specs.KeyTables.{KeyRows}
use Rattle.public_fold.proofs.InKinds.{least_ge, room_in, room_kept, room_more, same_tables}
use Rattle.public_fold.proofs.by_kind.KeysByKind.reserve.Goals as goal

pub returns-in_err-reserve-clause-serials : goal.returns-in_err-reserve-clause-serials
returns-in_err-reserve-clause-serials c =
    same_tables c.args.self.now _
    (map-set_same (λ t. t.rows) c.loop-kind.self-inside.tables c.loop-kind.kind _ c.index-self-kind.result c.reserve.ensures.rows
    ∙ c.loop-kind.invariant.rows
    ∙ ap (λ (t : KeyRows). t.tables) c.self.view_is)

pub returns-in_err-reserve-clause-kept : goal.returns-in_err-reserve-clause-kept
returns-in_err-reserve-clause-kept c =
    rw (← c.self.view_is) (room_kept (λ t. t.spare) c.loop-kind.self-inside.tables c.loop-kind.kind c.index-self-kind.result _
    (omega (arith, c.loop-kind-test.true, c.loop-kind.invariant.seven)) _ c.loop-kind.invariant.kept c.reserve.ensures.kept)

pub returns-in_err-reserve-clause-has_room : goal.returns-in_err-reserve-clause-has_room
returns-in_err-reserve-clause-has_room c = λ room.
    let all = rw (← c.self.view_is) at room in
    let within : c.loop-kind.kind < length c.loop-kind.self-inside.tables = omega (arith, c.loop-kind-test.true, c.loop-kind.invariant.seven) in
    let here = room_in (λ t. t.spare) c.loop-kind.self-inside.tables c.loop-kind.kind c.index-self-kind.result c.index-self-kind.result within in
    let fits = c.reserve.ensures.has_room (omega (arith, all, here, c.loop-kind.invariant.kept)) in
    absurd (false≢true (rw c.in_err-reserve.was at fits))

pub loop-kind-preserved : goal.loop-kind-preserved
loop-kind-preserved c =
    record {
      seven = omega (arith, length-set c.loop-kind.self-inside.tables c.loop-kind.kind c.reserve.new.self, c.loop-kind.invariant.seven);
      rows = map-set_same (λ t. t.rows) c.loop-kind.self-inside.tables c.loop-kind.kind _ c.index-self-kind.result c.reserve.ensures.rows ∙ c.loop-kind.invariant.rows;
      kept = room_kept (λ t. t.spare) c.loop-kind.self-inside.tables c.loop-kind.kind c.index-self-kind.result _
          (omega (arith, c.loop-kind-test.true, c.loop-kind.invariant.seven)) _ c.loop-kind.invariant.kept c.reserve.ensures.kept;
      room = room_more (λ t. t.spare) c.loop-kind.self-inside.tables c.loop-kind.kind c.index-self-kind.result _
          (omega (arith, c.loop-kind-test.true, c.loop-kind.invariant.seven)) c.args.more c.in_ok-reserve.ensures.room c.loop-kind.invariant.room;
    }

pub returns-clause-serials : goal.returns-clause-serials
returns-clause-serials c =
    same_tables c.args.self.now _ (c.loop-kind.invariant.rows ∙ ap (λ (t : KeyRows). t.tables) c.self.view_is)

pub returns-clause-room : goal.returns-clause-room
returns-clause-room c =
    let size = length-map c.loop-kind.self-inside.tables (λ t. t.spare) in
    least_ge (map (λ t. t.spare) c.loop-kind.self-inside.tables) c.args.more
    (omega (arith, size, c.loop-kind.invariant.seven))
    (λ i d within. c.loop-kind.invariant.room i d (omega (arith, within, size, c.loop-kind.invariant.seven, c.loop-kind-test.false)))
