use Rattle.std.proofs.Common.{◌≡◌, ◌∙◌, ap, sym}
use Rattle.std.specs.List.{list_all}
use Rattle.cry_base.specs.Store.{GrantEntry}
use Rattle.role_graph.specs.RightsByReach.{MayBeGranted}
use Rattle.public_fold.specs.RowTests.{can_be_granted}
use Rattle.public_fold.proofs.RowTested.{all_tell, granted_told}
use Rattle.public_fold.proofs.sound_rows.are_granted.Goals as goal

pub returns : goal.returns
returns c =
    let t = c.args.shape.now.tree in
    let passes = λ (g : GrantEntry). can_be_granted t g.folder in
    let all : c.all_granted.result ≡ list_all passes c.args.grants.now.pairs = c.all_granted.ensures ∙ ap (list_all passes) c.pairs.ensures.pairs in
    let told = all_tell GrantEntry passes (λ g. MayBeGranted t g.folder) c.args.grants.now.pairs (λ g. granted_told t g.folder) in
    (λ is. told.0 (sym all ∙ is), λ each. all ∙ told.1 each)
