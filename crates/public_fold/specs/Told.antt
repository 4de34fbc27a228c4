-- What a note makes of the store that everyone may see. This project's own, docs/FORMAT.md, "The key step".
use Rattle.std.specs.Prelude.{[], ◌∷◌, ◌++◌}
use Rattle.cry_base.specs.Store.{Store, root_store}
use Rattle.cry_base.specs.Stepping.{with_new_holder, with_new_folder, with_new_file, with_folder, with_file, without_folder, without_file}
use Rattle.cry_base.specs.Stepping.{without_grant}
use Rattle.record_format.specs.Noted.{Note}
use Rattle.record_format.specs.Noted.Note.{Root, NewHolder, NewFolder, NewFile, Rewrite, NameFile, NameFolder, DropFile, DropFolder}
use Rattle.record_format.specs.Noted.Note.{ShiftFile, ShiftFolder, Give, Take, StrictRoot, Upgrade}

-- the store after a note, as everyone may see it: no name, no byte of a file, no holder's key
unfoldable pub told_store : Store → Note → Store
told_store s Root = root_store
told_store s (NewHolder h check) = with_new_holder s []
told_store s (NewFolder f p) = with_new_folder s p []
told_store s (NewFile x f) = with_new_file s f [] []
told_store s (Rewrite x) = s
told_store s (NameFile x) = s
told_store s (NameFolder f) = s
told_store s (DropFile x) = without_file s x
told_store s (DropFolder f) = without_folder s f
told_store s (ShiftFile x g) = with_file s x (λ e. record e { folder = g })
told_store s (ShiftFolder g q) = with_folder s g (λ e. record e { parent = q })
told_store s (Give h f) = record s { grants = s.grants ++ record { holder = h; folder = f } ∷ [] }
told_store s (Take h f) = without_grant s h f
told_store s StrictRoot = root_store
told_store s Upgrade = s
