use Rattle.std.proofs.Common.{◌≡◌, ◌++◌, map, take}
use Rattle.cry_base.specs.Requests.{request_of}
use Rattle.cry_base.specs.Requests.Request.{Revoke}
use Rattle.cry_base.specs.Store.{path_of}
use Rattle.cry_base.specs.declared.ids.FolderId.{FolderId}
use Rattle.folder_nodes.specs.Titles.{tree_store}
use Rattle.group_book.specs.Replacing.{granted_node}
use Rattle.group_book.proofs.expanding.revoke_each.Given as goal

abbrev pub invariant-loop-number : goal.invariant-loop-number
invariant-loop-number l = map request_of l.commands.items ≡ map request_of l.initial.commands.items
    ++ map (λ (x : FolderId). Revoke l.fn.holder.0 (path_of (tree_store l.shape.tree l.names) (granted_node x.0))) (take l.number-index l.numbers)
