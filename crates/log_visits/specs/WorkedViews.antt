-- Opens the words of views, and those below them, to a computation.
use Rattle.std.specs.Prelude.{[], ◌∷◌, codes}
use Rattle.cry_base.specs.Requests.Request.{AddHolder, MakeFolder, WriteFile, Relocate, Grant}
use Rattle.cry_base.specs.Store.{Store, root_store}
use Rattle.cry_base.specs.WorkedRows.{store_after}
use Rattle.role_graph.specs.WorkedGraph.{graph}
use Rattle.log_visits.specs.OwnPaths.{is_whole, only_if, is_same_file, folders_differ, files_differ, kinds_differ, folders_are_named}
use Rattle.log_visits.specs.OwnPaths.{ways_are_whole, has_own_names}
use Rattle.log_visits.specs.View.{line_path, folder_line, file_line, view, spell_line, spell_view}

-- the store of the row "move away from a grant"
unfoldable pub moved_away : Store
moved_away = store_after root_store (MakeFolder (codes "/s") ∷ MakeFolder (codes "/p") ∷ MakeFolder (codes "/s/d")
    ∷ WriteFile (codes "/s/d/f") (1 ∷ [])
    ∷ AddHolder ∷ Grant 1 (codes "/s") ∷ Relocate (codes "/s/d") (codes "/p") ∷ WriteFile (codes "/p/d/f") (2 ∷ []) ∷ [])

-- every word of a view
unfoldable pub views : Unit {0}
unfolding is_whole only_if is_same_file folders_differ files_differ kinds_differ folders_are_named ways_are_whole has_own_names moved_away
    graph line_path folder_line file_line view spell_line spell_view
views = tt
