use Rattle.std.proofs.Common.{◌≡◌, true, false, ap, ◌∙◌}
use Rattle.std.specs.List.{list_any}
use Rattle.cry_base.specs.Naming.{is_path}
use Rattle.folder_nodes.specs.Titles.{tree_store}
use Rattle.holder_client.specs.Beside.{is_entry_at, opens_at}
use Rattle.holder_client.proofs.Besides.{nothing_beside, rows_beside}
use Rattle.holder_client.proofs.opening_path.files_beside.Goals as goal

pub returns-then-not-path_ok : goal.returns-then-not-path_ok
returns-then-not-path_ok c =
    let apart : is_path c.args.path.now ≡ false = cc in
    c.new.ensures.items ∙ nothing_beside (tree_store c.args.shape.now.tree c.args.names.now) c.args.sights.now c.args.entries.now c.args.path.now c.args.files apart

pub returns : goal.returns
returns c =
    let t = tree_store c.args.shape.now.tree c.args.names.now in
    let is : is_path c.args.path.now ≡ true = cc in
    rows_beside t c.args.sights.now c.args.entries.now c.args.path.now c.in_ok-folders.folders c.in_ok-numbers.numbers c.args.files c.files_in.result is
    (λ f. c.in_ok-folders.ensures f ∙ ap (λ p. list_any (opens_at t p f) c.args.sights.now) c.parent_of-parent.ensures)
    (λ x. c.in_ok-numbers.ensures x ∙ ap (λ p. list_any (is_entry_at t p x) c.args.entries.now) c.parent_of-parent.ensures) c.files_in.ensures
