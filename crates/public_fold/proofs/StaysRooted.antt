-- What everyone may see stays rooted through a note that fits.
use Rattle.std.proofs.Common.{◌≡◌, ℕ, Bool, true, List, ⊎_elim, refl, ap, subst}
use Rattle.cry_base.specs.Sets.{In}
use Rattle.cry_base.specs.Stepping.{with_new_holder, with_new_folder, with_new_file, with_folder, with_file, without_folder, without_file, without_grant}
use Rattle.cry_base.specs.Store.{Store, GrantEntry, no_store, root_store}
use Rattle.role_graph.specs.PublicStore.{FoldersBelow}
use Rattle.grant_book.specs.Granted.{grant_of}
use Rattle.grant_book.proofs.Matched.{granted_more}
use Rattle.record_format.specs.Noted.{Note}
use Rattle.record_format.specs.Noted.Note.{Root, NewHolder, NewFolder, NewFile, Rewrite, NameFile, NameFolder, DropFile, DropFolder, ShiftFile, ShiftFolder, Give, Take, StrictRoot, Upgrade}
use Rattle.move_plan.specs.Fitting.{fits}
use Rattle.public_fold.specs.Changing.{checks_then, pairs_then, tree_then}
use Rattle.public_fold.specs.Rooted.{IsRooted, MayStand}
use Rattle.public_fold.specs.Told.{told_store}
use Rattle.public_fold.proofs.NoteMoves.{note_rooted}
use Rattle.public_fold.proofs.RolesAfter.{folder_below}
use Rattle.public_fold.proofs.SeenAfter.{seen, store_after}
use Rattle.public_fold.proofs.SeenSame.{granting}

-- with no other grants, in whatever order
fewer_rooted : (s : Store) (gs : List GrantEntry) → ((g : GrantEntry) → In g gs → In g s.grants) → IsRooted s → IsRooted (granting s gs)
fewer_rooted s gs stood ok = record {
  counted = record { each_folder = ok.counted.each_folder; each_file = ok.counted.each_file; each_holder = ok.counted.each_holder };
  numbered = ok.numbered;
  own_file = ok.own_file;
  root_stands = ok.root_stands;
  folder_level = ok.folder_level;
  file_folder = ok.file_folder;
  granted_stands = λ g i. ok.granted_stands g (stood g i);
  held = λ g i. ok.held g (stood g i);
  folders_below = ok.folders_below;
  files_below = ok.files_below;
}

-- the grants that the code keeps are those after the note
pair_granted : (t : Store) (checks : List (List ℕ)) (pairs : List GrantEntry) (note : Note) (g : GrantEntry) → In g (pairs_then pairs note) → In g (told_store (seen t checks pairs) note).grants
unfolding told_store pairs_then with_new_holder with_new_folder with_new_file with_folder with_file without_folder without_file without_grant root_store no_store
pair_granted t checks pairs Root g i = i
pair_granted t checks pairs (NewHolder h check) g i = i
pair_granted t checks pairs (NewFolder f p) g i = i
pair_granted t checks pairs (NewFile x f) g i = i
pair_granted t checks pairs (Rewrite x) g i = i
pair_granted t checks pairs (NameFile x) g i = i
pair_granted t checks pairs (NameFolder f) g i = i
pair_granted t checks pairs (DropFile x) g i = i
pair_granted t checks pairs (DropFolder f) g i = i
pair_granted t checks pairs (ShiftFile x q) g i = i
pair_granted t checks pairs (ShiftFolder f q) g i = i
pair_granted t checks pairs (Give h f) g i = (granted_more pairs pairs (grant_of h f) (λ e. (λ j. j, λ j. j)) g).0 i
pair_granted t checks pairs (Take h f) g i = i
pair_granted t checks pairs StrictRoot g i = i
pair_granted t checks pairs Upgrade g i = i

pub seen_rooted : (strict : Bool) (t : Store) (checks : List (List ℕ)) (pairs : List GrantEntry) (note : Note) → MayStand (seen t checks pairs) → fits strict (seen t checks pairs) note ≡ true
    → IsRooted (seen (tree_then t note) (checks_then checks note) (pairs_then pairs note))
seen_rooted strict t checks pairs note ok fit =
    let told = told_store (seen t checks pairs) note in
    let after : IsRooted (seen (tree_then t note) (checks_then checks note) told.grants) = subst IsRooted (store_after t checks pairs note) (note_rooted strict (seen t checks pairs) note fit ok) in
    fewer_rooted (seen (tree_then t note) (checks_then checks note) told.grants) (pairs_then pairs note) (pair_granted t checks pairs note) after

-- no folder has a clearance number
pub folders_below : (s : Store) → MayStand s → FoldersBelow s
unfolding no_store
folders_below s may e i = ⊎_elim
    (λ (none : s ≡ no_store). absurd (subst (In e) (ap (λ (z : Store). z.folders) none) i))
    (λ rooted. folder_below s e.id rooted (e, i, refl))
    may
