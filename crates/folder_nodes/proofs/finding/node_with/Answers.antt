use Rattle.std.proofs.Common.{◌≡◌, ◌∙◌, true, false, subst}
use Rattle.cry_base.specs.Naming.{is_root_path, names_of, front}
use Rattle.folder_nodes.specs.Spelling.{joined, leads_to_folder}
use Rattle.folder_nodes.specs.Titles.{tree_store}
use Rattle.folder_nodes.specs.Ways.{IsWay}
use Rattle.folder_nodes.specs.declared.walking.Way.{Way}
use Rattle.folder_nodes.proofs.Located.{root_told}
use Rattle.folder_nodes.proofs.Walked.{nothing_told}
use Rattle.folder_nodes.proofs.finding.node_with.Goals as goal

pub returns-then-is_root : goal.returns-then-is_root
returns-then-is_root c =
    let root : is_root_path c.args.path.now ≡ true = cc in
    c.root_of.ensures ∙ root_told c.args.shape.now.tree c.args.names.now c.is_tree.ensures c.args.path.now root

pub returns-in-Nowhere : goal.returns-in-Nowhere
returns-in-Nowhere c =
    let other : is_root_path c.args.path.now ≡ false = cc in
    let none = subst (λ (w : Way). IsWay (λ k. leads_to_folder (tree_store c.args.shape.now.tree c.args.names.now) k (joined (front (names_of c.args.path.now)))) w) c.in-Nowhere.is c.walk.ensures in
    nothing_told c.args.shape.now.tree c.args.names.now c.is_tree.ensures c.are_names.ensures.folders c.are_names.ensures.files c.args.path.now c.requires other none
