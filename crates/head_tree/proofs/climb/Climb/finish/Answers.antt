use Rattle.std.proofs.Common.{subst, arith}
use Rattle.head_tree.specs.Climbing.{Rises}
use Rattle.head_tree.proofs.Climbs.{climb_ends}
use Rattle.head_tree.proofs.Rising.{IsLow, can_finish, low}
use Rattle.head_tree.proofs.climb.Climb.finish.Goals as goal

pub left-requires : goal.left-requires
left-requires c = λ odd.
    let first = c.requires.0 in
    let can = c.loop-self.invariant first c.requires.1.0 c.requires.1.1 in
    let is_low : IsLow c.loop-self.self c.args.peaks.now.roots =
    low c.loop-self.self c.args.peaks.now.roots first c.requires.1.0 c.loop-self-test.true (omega (arith, can.more, can.few)) can.reaches in
    is_low.inside

pub rise-requires-clause-size : goal.rise-requires-clause-size
rise-requires-clause-size c =
    let first = c.requires.0 in
    let can = c.loop-self.invariant first c.requires.1.0 c.requires.1.1 in
    let is_low : IsLow c.loop-self.self c.args.peaks.now.roots =
    low c.loop-self.self c.args.peaks.now.roots first c.requires.1.0 c.loop-self-test.true (omega (arith, can.more, can.few)) can.reaches in
    is_low.size

pub rise-requires-clause-level : goal.rise-requires-clause-level
rise-requires-clause-level c =
    let first = c.requires.0 in
    let can = c.loop-self.invariant first c.requires.1.0 c.requires.1.1 in
    let is_low : IsLow c.loop-self.self c.args.peaks.now.roots =
    low c.loop-self.self c.args.peaks.now.roots first c.requires.1.0 c.loop-self-test.true (omega (arith, can.more, can.few)) can.reaches in
    is_low.level

pub rise-requires-clause-room : goal.rise-requires-clause-room
rise-requires-clause-room c = (c.loop-self.invariant c.requires.0 c.requires.1.0 c.requires.1.1).reaches.room

pub loop-self-preserved : goal.loop-self-preserved
loop-self-preserved c = λ first leaves can.
    can_finish c.loop-self.self c.rise.new.self c.args.peaks.now.roots first leaves
    (subst (λ o. Rises c.loop-self.self c.rise.new.self o) c.left.ensures c.rise.ensures) (c.loop-self.invariant first leaves can)

pub returns : goal.returns
returns c = λ first leaves can.
    let end = c.loop-self.self in
    let kept = c.loop-self.invariant first leaves can in
    climb_ends end.level end.before first end.proof.items c.args.peaks.now.roots leaves (omega (arith, c.loop-self-test.false)) kept.more kept.all kept.reaches.part
