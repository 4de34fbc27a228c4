use Rattle.std.proofs.Common.{◌≡◌, ◌+◌, ◌*◌, ◌^◌, length, refl, sym, subst, ◌∙◌, arith}
use Rattle.head_tree.specs.Climbing.{ReachesAt}
use Rattle.head_tree.specs.Growing.{Stands}
use Rattle.head_tree.proofs.Climbs.{begins, begins_own, begins_with_none, climb_begins, low_level}
use Rattle.head_tree.proofs.climb.Climb.begin.Goals as goal

pub peak-requires : goal.peak-requires
peak-requires c = low_level c.args.self.now.level (omega (arith, c.requires.starts.ends, c.requires.most))

pub returns-then-self-gt0 : goal.returns-then-self-gt0
returns-then-self-gt0 c = λ leaves grown.
    let old = c.args.self.now in
    let peaks = c.args.peaks.now.roots in
    let starts = c.requires.starts in
    let ends : old.before * 2 ^ old.level + 2 ^ old.level ≡ length leaves = starts.ends ∙ grown.count in
    let stands : Stands peaks 0 (length leaves) leaves = subst (λ n. Stands peaks 0 n leaves) grown.count grown.stands in
    let own : c.put.new.self.items ≡ begins peaks old.level old.before =
    begins_own peaks old.level old.before old.proof.items c.put.new.self.items c.peak.result c.if-self-gt0.true starts.none c.peak.ensures c.put.ensures.items in
    record {
      reaches = record {
        size = starts.size;
        room = omega (arith, starts.room, c.put.ensures.spare);
        part = subst (λ h. ReachesAt old.level old.before h peaks (length leaves) leaves) (sym own) (climb_begins old.level old.before peaks leaves starts.even ends stands);
      };
      level = refl;
      before = refl;
    }

pub returns-else-self-gt0 : goal.returns-else-self-gt0
returns-else-self-gt0 c = λ leaves grown.
    let old = c.args.self.now in
    let peaks = c.args.peaks.now.roots in
    let starts = c.requires.starts in
    let ends : old.before * 2 ^ old.level + 2 ^ old.level ≡ length leaves = starts.ends ∙ grown.count in
    let stands : Stands peaks 0 (length leaves) leaves = subst (λ n. Stands peaks 0 n leaves) grown.count grown.stands in
    let none : old.proof.items ≡ begins peaks old.level old.before = begins_with_none peaks old.level old.before old.proof.items c.if-self-gt0.false starts.none in
    record {
      reaches = record {
        size = starts.size;
        room = omega (arith, starts.room);
        part = subst (λ h. ReachesAt old.level old.before h peaks (length leaves) leaves) (sym none) (climb_begins old.level old.before peaks leaves starts.even ends stands);
      };
      level = refl;
      before = refl;
    }
