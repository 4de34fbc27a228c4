use Rattle.std.proofs.Common.{◌∙◌, ap, subst}
use Rattle.cry_base.specs.Naming.{is_path, names_of, front}
use Rattle.folder_nodes.specs.Spelling.{joined, leads_to_folder}
use Rattle.folder_nodes.specs.Titles.{tree_store}
use Rattle.folder_nodes.specs.Ways.{IsWay}
use Rattle.folder_nodes.specs.declared.walking.Way.{Way}
use Rattle.folder_nodes.proofs.Slashes.{parent_form}
use Rattle.folder_nodes.proofs.Walked.{nothing_told, place_told}
use Rattle.folder_nodes.proofs.finding.ends_of.Goals as goal

pub node_with-requires : goal.node_with-requires
node_with-requires c = ap is_path c.front_of.ensures ∙ parent_form c.args.path.now c.requires.form

pub node_with-requires-in-Several : goal.node_with-requires-in-Several
node_with-requires-in-Several c = ap is_path c.front_of-in-Several.ensures ∙ parent_form c.args.path.now c.requires.form

pub returns-in-Nowhere-clause-node : goal.returns-in-Nowhere-clause-node
returns-in-Nowhere-clause-node c =
    let none = subst (λ (w : Way). IsWay (λ k. leads_to_folder (tree_store c.args.shape.now.tree c.args.names.now) k (joined (front (names_of c.args.path.now)))) w) c.in-Nowhere.is c.walk.ensures in
    nothing_told c.args.shape.now.tree c.args.names.now c.is_tree.ensures c.are_names.ensures.folders c.are_names.ensures.files c.args.path.now c.requires.form c.requires.other none

pub returns-in-At-clause-place : goal.returns-in-At-clause-place
returns-in-At-clause-place c =
    let way = subst (λ (w : Way). IsWay (λ k. leads_to_folder (tree_store c.args.shape.now.tree c.args.names.now) k (joined (front (names_of c.args.path.now)))) w) c.in-At.is c.walk.ensures in
    place_told c.args.shape.now.tree c.args.names.now c.is_tree.ensures c.are_names.ensures.folders c.are_names.ensures.files c.args.path.now c.requires.form c.requires.other c.in-At.folder way
