-- Leaves that come behind the subtree that a climb has reached.
use Rattle.std.proofs.Common.{◌≡◌, ℕ, ◌+◌, ◌%◌, ◌^◌, ◌<◌, ◌≤◌, List, [], ◌∷◌, ◌++◌, length, take, drop, Option, sym, subst, ◌∙◌, arith}
use Rattle.std.proofs.lemmas.List.{drop-append-le, drop_all, length-drop, length_push, take_all}
use Rattle.std.proofs.lemmas.Nat.{pow_pos}
use Rattle.head_tree.specs.Growing.{Grown, IsRootOf}
use Rattle.head_tree.specs.Climbing.{CanClimb, CanFinish, Climbs, IsBehind, Reaches, Rises, end_of}
use Rattle.head_tree.specs.declared.climb.Climb.{Climb}
use Rattle.head_tree.specs.declared.frontier.Frontier.{Frontier}
use Rattle.head_tree.proofs.Climbs.{leaf_behind, low_level}
use Rattle.head_tree.proofs.Rising.{IsLow, RoseRight, rose_right}

-- the level and the size are small where the subtree is whole
pub low_where_whole : (climb : Climb) (peaks : List (List ℕ)) (first : ℕ) (leaves : List (List ℕ)) → Reaches climb peaks first leaves
    → end_of climb ≤ length leaves → length leaves ≤ 2 ^ 32 → IsLow climb peaks
low_where_whole climb peaks first leaves reaches whole few =
    let small : 2 ^ climb.level ≤ 2 ^ 32 = omega arith in
    let within = low_level climb.level small in
    record { size = omega (arith, reaches.size); level = omega arith; inside = within }

-- one leaf more
pub still_reaches : (climb : Climb) (peaks : List (List ℕ)) (first : ℕ) (leaves : List (List ℕ)) (leaf : List ℕ) → end_of climb ≤ length leaves
    → Reaches climb peaks first leaves → Reaches climb peaks first (leaves ++ leaf ∷ [])
still_reaches climb peaks first leaves leaf whole reaches = record {
  size = reaches.size;
  room = reaches.room;
  part = leaf_behind climb.level climb.before first climb.proof.items peaks leaves leaf whole reaches.part;
}

pub still_grown : (frontier : Frontier) (end : ℕ) (leaves : List (List ℕ)) (leaf : List ℕ) → end ≤ length leaves → Grown frontier (drop end leaves ++ leaf ∷ [])
    → Grown frontier (drop end (leaves ++ leaf ∷ []))
still_grown frontier end leaves leaf whole grown = subst (Grown frontier) (sym (drop-append-le end leaves (leaf ∷ []) whole)) grown

pub still_behind : (climb : Climb) (peaks : List (List ℕ)) (sibling more : Frontier) (first : ℕ) (leaves : List (List ℕ)) (leaf : List ℕ)
    → length leaves < 2 ^ 32 → Grown more (drop (end_of climb) leaves ++ leaf ∷ []) → more.leaves < climb.size → IsBehind climb peaks sibling first leaves
    → IsBehind climb peaks more first (leaves ++ leaf ∷ [])
still_behind climb peaks sibling more first leaves leaf few grown fewer is =
    let size = length_push leaves leaf in
    record {
      reaches = still_reaches climb peaks first leaves leaf is.whole is.reaches;
      even = is.even;
      few = omega arith;
      whole = omega (arith, is.whole);
      after = still_grown more (end_of climb) leaves leaf is.whole grown;
      fewer = fewer;
    }

-- past all leaves that have come
pub up_behind : (old new : Climb) (peaks : List (List ℕ)) (first : ℕ) (leaves : List (List ℕ)) (root : Option (List ℕ)) → Reaches old peaks first leaves
    → old.before % 2 ≡ 0 → first < length leaves → length leaves ≤ end_of old + 2 ^ old.level → IsRootOf root (drop (end_of old) leaves) → Rises old new root
    → RoseRight old new peaks first leaves
up_behind old new peaks first leaves root reaches even more all is rises =
    let fit : length (drop (end_of old) leaves) ≤ 2 ^ old.level = omega (arith, length-drop (end_of old) leaves) in
    let part : IsRootOf root (take (2 ^ old.level) (drop (end_of old) leaves)) = subst (IsRootOf root) (sym (take_all (2 ^ old.level) (drop (end_of old) leaves) fit)) is in
    rose_right old new peaks first leaves root even more part rises reaches

-- where these make the sibling whole
pub can_climb : (old new : Climb) (peaks : List (List ℕ)) (sibling : Frontier) (first : ℕ) (leaves : List (List ℕ)) (root : Option (List ℕ))
    → Reaches old peaks first leaves → old.before % 2 ≡ 0 → length leaves ≤ 2 ^ 32 → end_of old + 2 ^ old.level ≡ length leaves
    → IsRootOf root (drop (end_of old) leaves) → Rises old new root → CanClimb new peaks first leaves
can_climb old new peaks sibling first leaves root reaches even few ends is rises =
    let more : first < length leaves = omega (arith, reaches.part.most, pow_pos old.level) in
    let up = up_behind old new peaks first leaves root reaches even more (omega arith) is rises in
    record { reaches = up.reaches; more = more; few = few; whole = omega (arith, up.end) }

pub nothing_behind : (climb : Climb) (peaks : List (List ℕ)) (sibling : Frontier) (first : ℕ) (leaves : List (List ℕ)) → Reaches climb peaks first leaves
    → climb.before % 2 ≡ 0 → length leaves ≤ 2 ^ 32 → end_of climb ≡ length leaves → Grown sibling [] → IsBehind climb peaks sibling first leaves
nothing_behind climb peaks sibling first leaves reaches even few ends grown =
    let nothing : drop (end_of climb) leaves ≡ [] = drop_all (end_of climb) leaves (omega arith) in
    record {
      reaches = reaches;
      even = even;
      few = few;
      whole = omega arith;
      after = subst (Grown sibling) (sym nothing) grown;
      fewer = omega (arith, grown.count, reaches.size, pow_pos climb.level);
    }

-- where no leaf comes
pub can_finish_behind : (old new : Climb) (peaks : List (List ℕ)) (sibling : Frontier) (first : ℕ) (leaves : List (List ℕ)) (root : Option (List ℕ))
    → first < length leaves → IsBehind old peaks sibling first leaves → IsRootOf root (drop (end_of old) leaves) → Rises old new root
    → CanFinish new peaks first leaves
can_finish_behind old new peaks sibling first leaves root more behind is rises =
    let all : length leaves ≤ end_of old + 2 ^ old.level = omega (arith, behind.fewer, behind.after.count, behind.reaches.size, length-drop (end_of old) leaves) in
    let up = up_behind old new peaks first leaves root behind.reaches behind.even more all is rises in
    record { reaches = up.reaches; more = more; few = behind.few; all = omega (arith, up.end) }

-- one leaf more, with which the sibling is whole
pub record Fills (old : Climb) (peaks : List (List ℕ)) (more : Frontier) (first : ℕ) (leaves : List (List ℕ)) : Type 0 where
  pub reaches : Reaches old peaks first leaves
  pub even : old.before % 2 ≡ 0
  pub few : length leaves ≤ 2 ^ 32
  pub ends : end_of old + 2 ^ old.level ≡ length leaves
  pub grown : Grown more (drop (end_of old) leaves)

pub fills : (climb : Climb) (peaks : List (List ℕ)) (sibling more : Frontier) (first : ℕ) (leaves : List (List ℕ)) (leaf : List ℕ)
    → length leaves < 2 ^ 32 → Grown more (drop (end_of climb) leaves ++ leaf ∷ []) → climb.size ≤ more.leaves → IsBehind climb peaks sibling first leaves
    → Fills climb peaks more first (leaves ++ leaf ∷ [])
fills climb peaks sibling more first leaves leaf few grown full is =
    let size = length_push leaves leaf in
    let rest = drop (end_of climb) leaves in
    record {
      reaches = still_reaches climb peaks first leaves leaf is.whole is.reaches;
      even = is.even;
      few = omega arith;
      ends = omega (
        arith,
        full,
        grown.count,
        is.fewer,
        is.after.count,
        is.reaches.size,
        is.whole,
        length_push rest leaf,
        length-drop (end_of climb) leaves,
      );
      grown = still_grown more (end_of climb) leaves leaf is.whole grown;
    }

pub filled_climbs : (old new : Climb) (peaks : List (List ℕ)) (more : Frontier) (first : ℕ) (leaves : List (List ℕ)) (root : Option (List ℕ))
    → Fills old peaks more first leaves → IsRootOf root (drop (end_of old) leaves) → Rises old new root → CanClimb new peaks first leaves
filled_climbs old new peaks more first leaves root fill is rises =
    can_climb old new peaks more first leaves root fill.reaches fill.even fill.few fill.ends is rises

-- and the climb stands behind all leaves again
pub filled_behind : (old up new : Climb) (peaks : List (List ℕ)) (more fresh : Frontier) (first : ℕ) (leaves : List (List ℕ)) (root : Option (List ℕ))
    → Fills old peaks more first leaves → IsRootOf root (drop (end_of old) leaves) → Rises old up root → Climbs up new peaks first leaves → Grown fresh []
    → IsBehind new peaks fresh first leaves
filled_behind old up new peaks more fresh first leaves root fill is rises climbs grown =
    let less : first < length leaves = omega (arith, fill.reaches.part.most, fill.ends, pow_pos old.level) in
    let rose = up_behind old up peaks first leaves root fill.reaches fill.even less (omega (arith, fill.ends)) is rises in
    let ends : end_of new ≡ length leaves = climbs.end ∙ rose.end ∙ fill.ends in
    nothing_behind new peaks fresh first leaves climbs.reaches climbs.even fill.few ends grown
