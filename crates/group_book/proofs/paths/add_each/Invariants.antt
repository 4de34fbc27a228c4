use Rattle.std.proofs.Common.{◌≡◌, ◌∷◌, ◌++◌, take}
use Rattle.std.specs.List.{flat_map}
use Rattle.cry_base.specs.declared.ids.FolderId.{FolderId}
use Rattle.folder_nodes.specs.Titles.{name_in, title_at}
use Rattle.group_book.proofs.paths.add_each.Given as goal

abbrev pub invariant-loop-folder : goal.invariant-loop-folder
invariant-loop-folder l = l.text.items ≡ l.initial.text.items ++ flat_map (λ (x : FolderId). 47 ∷ name_in (title_at l.names.folders x.0)) (take l.folder-index l.folders)
