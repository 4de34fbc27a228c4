use Rattle.std.proofs.Common.{◌≡◌, map, filter}
use Rattle.std.proofs.lemmas.Result.{IfOk-weaker}
use Rattle.cry_base.specs.Listed.{Listed}
use Rattle.cry_base.specs.Store.{file_entry}
use Rattle.cry_base.specs.declared.ids.FileId.{FileId}
use Rattle.folder_nodes.specs.Inside.{AreListed, is_file_of}
use Rattle.folder_nodes.specs.declared.spots.Spot.{Spot}
use Rattle.folder_nodes.proofs.Insides.{file_among, listed}
use Rattle.folder_nodes.proofs.shape.Shape.files_in.Goals as goal

pub returns : goal.returns
returns c =
    let s = c.args.self.now.tree in
    let f = c.args.f.0 in
    let spots = c.files_inside.result in
    IfOk-weaker c.files_among.result
    (λ (l : Listed FileId). map (λ (g : FileId). g.0) l.items ≡ map (λ (q : Spot). q.id) (filter (λ (q : Spot). is_file_of f (file_entry s q.id)) spots))
    (λ (l : Listed FileId). AreListed (λ g. is_file_of f (file_entry s g)) (map (λ (g : FileId). g.0) l.items))
    (λ l e. listed (λ g. is_file_of f (file_entry s g)) spots (map (λ (g : FileId). g.0) l.items) c.files_inside.ensures.rising
    (file_among s f (map (λ (q : Spot). q.id) spots) c.files_inside.ensures.all) e) c.files_among.ensures
