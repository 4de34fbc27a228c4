use Rattle.std.proofs.Common.{◌∙◌, ℕ, Bool, find, List, ap}
use Rattle.std.specs.Option.{option_map}
use Rattle.cry_base.specs.Store.{folder_entry}
use Rattle.folder_nodes.specs.Spelling.{is_folder_in}
use Rattle.folder_nodes.specs.Titles.{tree_store}
use Rattle.folder_nodes.specs.declared.spots.Spot.{Spot}
use Rattle.folder_nodes.proofs.Tried.{none_passes, one_passes}
use Rattle.folder_nodes.proofs.walking.only_folder.Goals as goal

pub returns-in_default : goal.returns-in_default
returns-in_default c =
    let passes : ℕ → Bool = λ k. is_folder_in c.args.f c.args.name.now (folder_entry (tree_store c.args.shape.now.tree c.args.names.now) k) in
    none_passes passes c.folders_to_try-spots.result c.folders_to_try-spots.ensures.all
    (c.in_default.ensures ∙ ap (λ (l : List Spot). option_map (λ (q : Spot). q.id) (find (λ (q : Spot). passes q.id) l)) c.again.ensures)

pub returns : goal.returns
returns c =
    let passes : ℕ → Bool = λ k. is_folder_in c.args.f c.args.name.now (folder_entry (tree_store c.args.shape.now.tree c.args.names.now) k) in
    one_passes passes c.folders_to_try-spots.result c.folders_to_try-spots.ensures.all c.in-Some.first
    (c.in-Some.ensures ∙ ap (λ (l : List Spot). option_map (λ (q : Spot). q.id) (find (λ (q : Spot). passes q.id) l)) c.again.ensures) c.if-has_another.ensures
