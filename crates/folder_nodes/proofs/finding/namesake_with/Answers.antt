use Rattle.std.proofs.Common.{◌∙◌, map, sym}
use Rattle.cry_base.specs.Naming.{names_of, last_name}
use Rattle.folder_nodes.specs.declared.spots.Spot.{Spot}
use Rattle.folder_nodes.proofs.Located.{HasAll, folder_led, file_led, folder_told, file_told}
use Rattle.folder_nodes.proofs.finding.namesake_with.Goals as goal

pub returns-in-Some : goal.returns-in-Some
returns-in-Some c =
    let all : HasAll c.args.names.now.folders (last_name (names_of c.args.path.now)) (map (λ (q : Spot). q.id) c.folders_named.result) =
    λ t i same. c.folders_named.ensures.all t i (same ∙ sym c.last_piece-name.ensures) in
    let s = c.args.shape.now.tree in
    let n = c.args.names.now in
    folder_told s n c.is_tree.ensures c.args.path.now c.requires.form c.requires.other c.folders_named.result c.folders_named.ensures.rising
    (folder_led s n c.is_tree.ensures c.args.path.now c.requires.form c.requires.other c.are_names.ensures.folders (map (λ (q : Spot). q.id) c.folders_named.result) all)
    c.in-Some.folder c.in-Some.ensures

pub returns-in-None : goal.returns-in-None
returns-in-None c =
    let all : HasAll c.args.names.now.folders (last_name (names_of c.args.path.now)) (map (λ (q : Spot). q.id) c.folders_named.result) =
    λ t i same. c.folders_named.ensures.all t i (same ∙ sym c.last_piece-name.ensures) in
    let others : HasAll c.args.names.now.files (last_name (names_of c.args.path.now)) (map (λ (q : Spot). q.id) c.files_named.result) =
    λ t i same. c.files_named.ensures.all t i (same ∙ sym c.last_piece-name.ensures) in
    let s = c.args.shape.now.tree in
    let n = c.args.names.now in
    c.file_node.ensures
    ∙ file_told s n c.is_tree.ensures c.args.path.now c.requires.form c.requires.other c.folders_named.result c.files_named.result c.folders_named.ensures.rising c.files_named.ensures.rising
    (folder_led s n c.is_tree.ensures c.args.path.now c.requires.form c.requires.other c.are_names.ensures.folders (map (λ (q : Spot). q.id) c.folders_named.result) all)
    (file_led s n c.is_tree.ensures c.args.path.now c.requires.form c.requires.other c.are_names.ensures.files (map (λ (q : Spot). q.id) c.files_named.result) others)
    c.in-None.ensures c.file_with.result c.file_with.ensures
