-- The store of a valid journal has names of its own.
use Rattle.std.proofs.Common.{ℕ, List, [], ◌∷◌}
use Rattle.cry_base.specs.Store.{FolderEntry}
use Rattle.public_fold.specs.Journal.{Journal, store_of}
use Rattle.public_fold.specs.Tree.{LeadsUp}
use Rattle.public_fold.specs.Valid.{IsValid}
use Rattle.public_fold.proofs.Keeping.{journal_tree}
use Rattle.public_fold.proofs.OwnPaths.{folder_leads, file_leads}
use Rattle.log_visits.specs.OwnPaths.{IsWhole, HasOwnNames}

whole : (w : List FolderEntry) (f : ℕ) → LeadsUp w f → IsWhole w
whole [] f l = l
whole (e ∷ []) f l = l.2
whole (e ∷ d ∷ ds) f l = (l.1, whole (d ∷ ds) e.parent l.2)

pub own_names : (m : Journal) → IsValid m → HasOwnNames (store_of m)
own_names m v =
    let ok = journal_tree m v in record {
      two_folders = ok.two_folders;
      two_files = λ a b i j p n. ok.own_file a b i j (ok.two_files a b i j p n);
      folder_and_file = ok.folder_and_file;
      folder_name = ok.folder_name;
      file_name = ok.file_name;
      one_root = ok.numbered.one_root;
      folder_way = λ a i. whole _ a.id (folder_leads m v a i);
      file_way = λ b j. whole _ b.folder (file_leads m v b j);
    }
