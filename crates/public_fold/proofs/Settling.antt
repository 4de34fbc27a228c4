-- Grants stand in the store of a valid journal, and no folder has a clearance number.
use Rattle.std.proofs.Common.{◌≡◌, ◌<◌, ⊎_elim, refl, ap, arith}
use Rattle.std.proofs.lemmas.Bool.{cases_eq}
use Rattle.cry_base.specs.Clearances.{clear_base}
use Rattle.cry_base.specs.Sets.{In}
use Rattle.cry_base.specs.Store.{Store, FolderEntry}
use Rattle.role_graph.specs.RightsByReach.{IsSettled}
use Rattle.public_fold.specs.Journal.{Journal, store_of}
use Rattle.public_fold.specs.Rooted.{IsRooted}
use Rattle.public_fold.specs.Valid.{IsValid}
use Rattle.public_fold.proofs.KeyMoves.{journal_sound}
use Rattle.public_fold.proofs.RolesAfter.{folder_below}
use Rattle.public_fold.proofs.RowEnds.{parent_stands}
pub use Rattle.public_fold.proofs.Causes.{no_cause}

parent_below : (s : Store) (e : FolderEntry) → IsRooted s → In e s.folders → e.parent < clear_base
parent_below s e ok i = ⊎_elim
    (λ (z : e.parent ≡ 0). omega (arith, z))
    (λ n. folder_below s e.parent ok (parent_stands s e ok i n))
    (cases_eq e.parent 0)

pub rooted_settled : (s : Store) → IsRooted s → IsSettled s
rooted_settled s ok = record {
  own_parent = λ a b i j e. ap (λ (z : FolderEntry). z.parent) (ok.numbered.own a b i j e);
  no_zero = ok.numbered.no_zero;
  granted_stands = ok.granted_stands;
  folders_below = λ e i. (folder_below s e.id ok (e, i, refl), parent_below s e ok i);
  files_below = λ x i. folder_below s x.folder ok (ok.file_folder x i);
}

pub journal_settled : (m : Journal) → IsValid m → IsSettled (store_of m)
journal_settled m v = rooted_settled (store_of m) (journal_sound m v).rooted
