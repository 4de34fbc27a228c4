use Rattle.std.proofs.Common.{ℕ, ◌<◌, ◌+◌, ◌++◌, length, map, ap, subst, ◌∙◌}
use Rattle.cry_base.specs.Requests.{request_of}
use Rattle.cry_base.specs.Requests.Request.{Grant}
use Rattle.std.specs.Prelude.{AllPairs}
use Rattle.cry_base.specs.Store.{path_of}
use Rattle.cry_base.specs.declared.ids.FolderId.{FolderId}
use Rattle.folder_nodes.specs.Titles.{tree_store}
use Rattle.group_book.specs.Replacing.{granted_node}
use Rattle.grant_book.specs.Granted.{folders_of}
use Rattle.group_book.proofs.Told.{built, replaces_told}
use Rattle.group_book.proofs.expanding.replace.Goals as goal

pub returns : goal.returns
returns c = λ s is.
    let granted = c.in_ok-grant_each.ensures
    ∙ ap (λ (k : ℕ). map request_of c.push.new.self.items
    ++ map (λ (x : FolderId). Grant (k + 1) (path_of (tree_store c.args.shape.now.tree c.args.names.now) (granted_node x.0))) c.as_slice.result.now)
    c.holders.ensures in
    built (length c.args.grants.now.checks + 1) c.args.old.0 (λ (x : FolderId). path_of (tree_store c.args.shape.now.tree c.args.names.now) (granted_node x.0))
    c.new-commands.result.items c.push.new.self.items c.grant_each.new.commands.items c.revoke_each.new.commands.items
    (folders_of c.args.grants.now.pairs c.args.old.0) c.as_slice.result.now c.as_slice-2.result.now
    c.new-commands.ensures c.in_ok-push.ensures.items granted c.in_ok-revoke_each.ensures
    (c.as_slice.ensures ∙ c.in_ok-numbers.ensures.folders) (c.as_slice-2.ensures ∙ c.in_ok-numbers.ensures.folders)
    ∙ replaces_told c.args.shape.now.tree c.args.names.now c.args.grants.now s c.args.old.0 c.requires.made
    (subst (AllPairs (λ (a b : FolderId). a.0 < b.0)) c.in_ok-numbers.ensures.folders c.in_ok-numbers.ensures.ascending) is
