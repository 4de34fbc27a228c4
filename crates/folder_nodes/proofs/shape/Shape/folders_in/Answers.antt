use Rattle.std.proofs.Common.{◌≡◌, map, filter}
use Rattle.std.proofs.lemmas.Result.{IfOk-weaker}
use Rattle.cry_base.specs.Listed.{Listed}
use Rattle.cry_base.specs.Store.{folder_entry}
use Rattle.cry_base.specs.declared.ids.FolderId.{FolderId}
use Rattle.folder_nodes.specs.Inside.{AreListed, is_child_of}
use Rattle.folder_nodes.specs.declared.spots.Spot.{Spot}
use Rattle.folder_nodes.proofs.Insides.{child_among, listed}
use Rattle.folder_nodes.proofs.shape.Shape.folders_in.Goals as goal

pub returns : goal.returns
returns c =
    let s = c.args.self.now.tree in
    let f = c.args.f.0 in
    let spots = c.folders_inside.result in
    IfOk-weaker c.folders_among.result
    (λ (l : Listed FolderId). map (λ (g : FolderId). g.0) l.items ≡ map (λ (q : Spot). q.id) (filter (λ (q : Spot). is_child_of f (folder_entry s q.id)) spots))
    (λ (l : Listed FolderId). AreListed (λ g. is_child_of f (folder_entry s g)) (map (λ (g : FolderId). g.0) l.items))
    (λ l e. listed (λ g. is_child_of f (folder_entry s g)) spots (map (λ (g : FolderId). g.0) l.items) c.folders_inside.ensures.rising
    (child_among s f (map (λ (q : Spot). q.id) spots) c.folders_inside.ensures.all) e) c.folders_among.ensures
