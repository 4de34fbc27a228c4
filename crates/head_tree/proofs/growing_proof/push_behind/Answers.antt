use Rattle.std.proofs.Common.{◌++◌, ◌∷◌, [], drop, arith}
use Rattle.head_tree.specs.Climbing.{end_of}
use Rattle.head_tree.proofs.Behind.{Fills, filled_behind, filled_climbs, fills, low_where_whole}
use Rattle.head_tree.proofs.Rising.{IsLow}
use Rattle.head_tree.proofs.growing_proof.push_behind.Goals as goal

pub push-requires : goal.push-requires
push-requires c =
    let behind = c.requires.1.1 in
    let low : IsLow c.args.climb.now c.args.peaks.now.roots =
    low_where_whole c.args.climb.now c.args.peaks.now.roots c.requires.0 c.requires.1.0 behind.reaches behind.whole behind.few in
    omega (arith, behind.fewer, low.size)

pub rise-requires-clause-size : goal.rise-requires-clause-size
rise-requires-clause-size c =
    let behind = c.requires.1.1 in
    let low : IsLow c.args.climb.now c.args.peaks.now.roots =
    low_where_whole c.args.climb.now c.args.peaks.now.roots c.requires.0 c.requires.1.0 behind.reaches behind.whole behind.few in
    low.size

pub rise-requires-clause-level : goal.rise-requires-clause-level
rise-requires-clause-level c =
    let behind = c.requires.1.1 in
    let low : IsLow c.args.climb.now c.args.peaks.now.roots =
    low_where_whole c.args.climb.now c.args.peaks.now.roots c.requires.0 c.requires.1.0 behind.reaches behind.whole behind.few in
    low.level

pub pass_lefts-requires : goal.pass_lefts-requires
pass_lefts-requires c =
    let climb = c.args.climb.now in
    let peaks = c.args.peaks.now.roots in
    let first = c.requires.0 in
    let leaves = c.requires.1.0 in
    let behind = c.requires.1.1 in
    let more = leaves ++ c.args.leaf ∷ [] in
    let fill : Fills climb peaks c.push.new.self first more = fills climb peaks c.args.after.now c.push.new.self first leaves c.args.leaf c.requires.1.2
    (c.push.ensures (drop (end_of climb) leaves) behind.after) (omega (arith, c.if-leaves-size.false, c.leaves.ensures, c.size.ensures)) behind in
    (first, (more, filled_climbs climb c.rise.new.self peaks c.push.new.self first more c.root.result fill (c.root.ensures (drop (end_of climb) more) fill.grown) c.rise.ensures))

pub returns : goal.returns
returns c = λ first leaves behind few.
    let climb = c.args.climb.now in
    let peaks = c.args.peaks.now.roots in
    let more = leaves ++ c.args.leaf ∷ [] in
    let fill : Fills climb peaks c.push.new.self first more = fills climb peaks c.args.after.now c.push.new.self first leaves c.args.leaf few
    (c.push.ensures (drop (end_of climb) leaves) behind.after) (omega (arith, c.if-leaves-size.false, c.leaves.ensures, c.size.ensures)) behind in
    let root = c.root.ensures (drop (end_of climb) more) fill.grown in
    let can = filled_climbs climb c.rise.new.self peaks c.push.new.self first more c.root.result fill root c.rise.ensures in
    filled_behind climb c.rise.new.self c.pass_lefts.new.self peaks c.push.new.self c.new.result first more c.root.result fill root c.rise.ensures
    (c.pass_lefts.ensures first more can) c.new.ensures
