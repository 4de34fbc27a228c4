use Rattle.std.proofs.Common.{◌≡◌, ◌∙◌, ◌∷◌, true, false, ap, sym, subst}
use Rattle.std.specs.Prelude.{is_some}
use Rattle.cry_base.specs.Naming.{split_at_slashes, front, names_of}
use Rattle.cry_base.specs.Store.{FolderEntry, folder_entry}
use Rattle.folder_nodes.specs.Pieces.{pieces_of}
use Rattle.folder_nodes.specs.Spelling.{is_folder_in, joined}
use Rattle.folder_nodes.specs.Titles.{tree_store}
use Rattle.folder_nodes.specs.Ways.{IsWay}
use Rattle.folder_nodes.specs.declared.walking.Way.{Way}
use Rattle.folder_nodes.proofs.Rowed.{some_of}
use Rattle.folder_nodes.proofs.Walked.{Walked, from_nothing, none_of, walk_start, walk_named, walk_on, walk_stops, walk_ends}
use Rattle.folder_nodes.proofs.walking.walk.Goals as goal

pub returns-then-not-has_folder : goal.returns-then-not-has_folder
returns-then-not-has_folder c =
    let off : is_some (folder_entry c.args.shape.now.tree 1) ≡ false = cc in λ k.
    from_nothing c.args.shape.now.tree c.args.names.now c.is_tree.ensures c.are_names.ensures.folders c.are_names.ensures.files (none_of (folder_entry c.args.shape.now.tree 1) off) k (joined (front (names_of c.args.path.now)))

pub loop-left-init : goal.loop-left-init
loop-left-init c =
    let stands : is_some (folder_entry c.args.shape.now.tree 1) ≡ true = cc in
    let r = some_of FolderEntry (folder_entry c.args.shape.now.tree 1) stands in
    walk_start c.args.shape.now.tree c.args.names.now c.is_tree.ensures c.are_names.ensures.folders c.are_names.ensures.files c.args.path.now c.requires.form c.requires.other r.0 r.1
    c.first_piece.result.0.now (pieces_of c.first_piece.result.1) (ap split_at_slashes (sym c.behind_slash.ensures) ∙ c.first_piece.ensures)

pub only_folder-way-requires : goal.only_folder-way-requires
only_folder-way-requires c =
    walk_named c.args.shape.now.tree c.args.names.now c.is_tree.ensures c.are_names.ensures.folders c.are_names.ensures.files c.args.path.now c.requires.form c.requires.other c.loop-left.here c.loop-left.name.now (pieces_of c.loop-left.left) c.loop-left.invariant

pub returns-in_default-way : goal.returns-in_default-way
returns-in_default-way c =
    let rest : pieces_of c.loop-left.left ≡ c.first_piece-in-Some.result.0.now ∷ pieces_of c.first_piece-in-Some.result.1 = ap pieces_of c.in-Some.is ∙ c.first_piece-in-Some.ensures in
    let walked = subst (λ l. Walked c.args.shape.now.tree c.args.names.now c.args.path.now c.loop-left.here c.loop-left.name.now l) rest c.loop-left.invariant in
    walk_stops c.args.shape.now.tree c.args.names.now c.is_tree.ensures c.are_names.ensures.folders c.are_names.ensures.files c.args.path.now c.requires.form c.requires.other c.loop-left.here c.loop-left.name.now c.first_piece-in-Some.result.0.now (pieces_of c.first_piece-in-Some.result.1) c.only_folder-way.result walked c.only_folder-way.ensures c.in_default-way.not-At

pub loop-left-preserved : goal.loop-left-preserved
loop-left-preserved c =
    let rest : pieces_of c.loop-left.left ≡ c.first_piece-in-Some.result.0.now ∷ pieces_of c.first_piece-in-Some.result.1 = ap pieces_of c.in-Some.is ∙ c.first_piece-in-Some.ensures in
    let walked = subst (λ l. Walked c.args.shape.now.tree c.args.names.now c.args.path.now c.loop-left.here c.loop-left.name.now l) rest c.loop-left.invariant in
    let way = subst (λ (w : Way). IsWay (λ k. is_folder_in c.loop-left.here c.loop-left.name.now (folder_entry (tree_store c.args.shape.now.tree c.args.names.now) k)) w) c.in-At.is c.only_folder-way.ensures in
    walk_on c.args.shape.now.tree c.args.names.now c.is_tree.ensures c.are_names.ensures.folders c.are_names.ensures.files c.args.path.now c.requires.form c.requires.other c.loop-left.here c.in-At.next c.loop-left.name.now c.first_piece-in-Some.result.0.now (pieces_of c.first_piece-in-Some.result.1) walked way

pub returns : goal.returns
returns c =
    let walked = subst (λ l. Walked c.args.shape.now.tree c.args.names.now c.args.path.now c.loop-left.here c.loop-left.name.now l) (ap pieces_of c.in_default.is) c.loop-left.invariant in
    walk_ends c.args.shape.now.tree c.args.names.now c.is_tree.ensures c.are_names.ensures.folders c.are_names.ensures.files c.args.path.now c.requires.form c.requires.other c.loop-left.here c.loop-left.name.now walked
