use Rattle.std.proofs.Common.{◌≡◌, ◌<◌, drop, length, true, refl, sym, ◌∙◌, arith}
use Rattle.head_tree.specs.Climbing.{end_of}
use Rattle.head_tree.specs.Proving.{tree_proof}
use Rattle.head_tree.proofs.Behind.{can_finish_behind, low_where_whole}
use Rattle.head_tree.proofs.Proofs.{part_proof-whole}
use Rattle.head_tree.proofs.Rising.{IsLow}
use Rattle.head_tree.proofs.growing_proof.GrowingProof.proof.Goals as goal

pub returns-then-self : goal.returns-then-self
unfolding tree_proof
returns-then-self c = λ first leaves grown all.
    let whole : first ≡ length leaves = omega (arith, c.if-self.true, grown.older, grown.count) in
    c.new.ensures ∙ sym (part_proof-whole first leaves true whole refl)

pub rise-requires-clause-size : goal.rise-requires-clause-size
rise-requires-clause-size c =
    let behind = c.requires.1.1.late c.requires.1.2 in
    let low : IsLow c.args.self.climb c.args.self.before.roots =
    low_where_whole c.args.self.climb c.args.self.before.roots c.requires.0 c.requires.1.0 behind.reaches behind.whole behind.few in
    low.size

pub rise-requires-clause-level : goal.rise-requires-clause-level
rise-requires-clause-level c =
    let behind = c.requires.1.1.late c.requires.1.2 in
    let low : IsLow c.args.self.climb c.args.self.before.roots =
    low_where_whole c.args.self.climb c.args.self.before.roots c.requires.0 c.requires.1.0 behind.reaches behind.whole behind.few in
    low.level

pub finish-requires : goal.finish-requires
finish-requires c =
    let first = c.requires.0 in
    let leaves = c.requires.1.0 in
    let grown = c.requires.1.1 in
    let behind = grown.late c.requires.1.2 in
    let more : first < length leaves = omega (arith, c.if-self.false, c.requires.1.2, grown.older, grown.count) in (
      first,
      (
        leaves,
        can_finish_behind c.args.self.climb c.rise.new.self c.args.self.before.roots c.args.self.after first leaves c.root.result more behind
            (c.root.ensures (drop (end_of c.args.self.climb) leaves) behind.after) c.rise.ensures,
      ),
    )

pub returns : goal.returns
returns c = λ first leaves grown all.
    let behind = grown.late all in
    let more : first < length leaves = omega (arith, c.if-self.false, all, grown.older, grown.count) in
    let can = can_finish_behind c.args.self.climb c.rise.new.self c.args.self.before.roots c.args.self.after first leaves c.root.result more behind
    (c.root.ensures (drop (end_of c.args.self.climb) leaves) behind.after) c.rise.ensures in
    c.into_proof.ensures ∙ c.finish.ensures first leaves can
