use Rattle.std.proofs.Common.{◌≡◌, ◌+◌, ◌≤◌, ◌∙◌, List, [], ◌∷◌, map, refl, arith, sym, subst}
use Rattle.std.proofs.lemmas.Iterator.Consumers.{YieldsList-end, YieldsList-from_first}
use Rattle.std.proofs.lemmas.List.{map-append}
use Rattle.cry_base.specs.Refusing.{deepest}
use Rattle.cry_base.specs.Store.{FolderEntry, folder_entry, folder_node, depth_of}
use Rattle.folder_nodes.specs.declared.spots.Spot.{Spot}
use Rattle.folder_nodes.proofs.Descending.{Descends, child_level, child_stands, deepest_few, depth_few, descend_end, descend_on, descend_past, descend_start}
use Rattle.folder_nodes.proofs.Rowed.{some_of}
use Rattle.folder_nodes.proofs.shape.Shape.+levels_below.Goals as goal

pub loop-spot-init : goal.loop-spot-init
loop-spot-init t c =
    let s = c.args.self.now.tree in
    let w = some_of FolderEntry (folder_entry s c.args.f.0) c.requires in
    descend_start s c.is_tree.ensures c.args.f.0 w.0 w.1 c.file_levels-levels.result c.file_levels-levels.ensures

pub levels_below-requires : goal.levels_below-requires
levels_below-requires t c =
    let s = c.args.self.now.tree in
    let w = some_of FolderEntry (folder_entry s c.args.f.0) c.requires in
    let g = c.in-Some.spot.now.id in
    let child = sym c.is_child.ensures ∙ c.if-is_child.true in
    let level : depth_of s (folder_node g) ≡ depth_of s (folder_node c.args.f.0) + 1 = child_level s c.is_tree.ensures c.args.f.0 w.0 w.1 g child in
    let few : depth_of s (folder_node c.args.f.0) ≤ 64 = depth_few s c.is_tree.ensures c.args.f.0 in
    (omega (arith, c.decreases, level, few), child_stands s c.is_tree.ensures c.args.f.0 w.0 w.1 g child)

pub loop-spot-preserved-then-is_child : goal.loop-spot-preserved-then-is_child
loop-spot-preserved-then-is_child t c =
    let s = c.args.self.now.tree in
    let e = some_of FolderEntry (folder_entry s c.args.f.0) c.requires in
    let q = c.in-Some.spot.now in
    let before : List Spot = map (λ q. q.now) c.loop-spot.yielded in
    subst (Descends s c.args.f.0 c.max-levels.result) (sym (map-append (λ q. q.now) c.loop-spot.yielded (c.in-Some.spot ∷ [])))
    (descend_on s c.is_tree.ensures c.args.f.0 e.0 e.1 c.loop-spot.levels c.levels_below.result c.max-levels.result q before c.loop-spot.invariant
    (sym c.is_child.ensures ∙ c.if-is_child.true) c.levels_below.ensures.levels c.max-levels.ensures)

pub loop-spot-preserved : goal.loop-spot-preserved
loop-spot-preserved t c =
    let s = c.args.self.now.tree in
    let e = some_of FolderEntry (folder_entry s c.args.f.0) c.requires in
    let q = c.in-Some.spot.now in
    let before : List Spot = map (λ q. q.now) c.loop-spot.yielded in
    subst (Descends s c.args.f.0 c.loop-spot.levels) (sym (map-append (λ q. q.now) c.loop-spot.yielded (c.in-Some.spot ∷ [])))
    (descend_past s c.is_tree.ensures c.args.f.0 e.0 e.1 c.loop-spot.levels c.loop-spot.levels q before c.loop-spot.invariant
    (sym c.is_child.ensures ∙ c.if-is_child.false) refl)

pub returns-clause-levels : goal.returns-clause-levels
returns-clause-levels t c =
    let s = c.args.self.now.tree in
    let w = some_of FolderEntry (folder_entry s c.args.f.0) c.requires in
    let spots = c.folders_inside-spot-items.result in
    let whole : map (λ q. q.now) c.loop-spot.yielded ≡ spots = (YieldsList-end (YieldsList-from_first (λ q. q.now) (λ rest. rest) spots c.into_iter-spot-iterator.ensures.into_iter_gives) c.loop-spot.yielded c.loop-spot.spot-iterator c.loop-spot.yielded_by c.next.result c.next.new.self c.in-None.is c.next.ensures.steps).0 in
    descend_end s c.is_tree.ensures c.args.f.0 w.0 w.1 c.loop-spot.levels spots (subst (Descends s c.args.f.0 c.loop-spot.levels) whole c.loop-spot.invariant) c.folders_inside-spot-items.ensures.all

pub returns-clause-within : goal.returns-clause-within
returns-clause-within t c =
    let s = c.args.self.now.tree in
    let few : deepest s c.args.f.0 ≤ 64 = deepest_few s c.is_tree.ensures c.args.f.0 in
    let reached : depth_of s (folder_node c.args.f.0) + c.loop-spot.levels ≤ deepest s c.args.f.0 = c.loop-spot.invariant.reached in
    omega (arith, few, reached)
