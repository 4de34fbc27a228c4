-- What a change of names does to the names of all nodes.
use Rattle.std.specs.Prelude.{◌≡◌, ℕ, cond, List, Some, None}
use Rattle.cry_base.specs.declared.roles.Node.{Node}
use Rattle.folder_nodes.specs.Titles.{Titles, title_of, is_node, new_title}

-- the node has this name and these bytes, and each other node what it had
abbrev pub IsSet : Titles → Titles → Node → List ℕ → List ℕ → Type 0
IsSet old new node name bytes = (other : Node)
    → title_of new other ≡ cond (is_node node other) (Some (new_title node name bytes)) (title_of old other)

-- the node has none, and each other node what it had
abbrev pub IsForgotten : Titles → Titles → Node → Type 0
IsForgotten old new node = (other : Node) → title_of new other ≡ cond (is_node node other) None (title_of old other)
