-- The notes of the model as the records of a store have them: one type of the code's for each.
use Rattle.record_format.specs.Noted.{Note}
use Rattle.record_format.specs.Noted.Note.{Root, NewHolder, NewFolder, NewFile, Rewrite, NameFile, NameFolder, DropFile, DropFolder}
use Rattle.record_format.specs.Noted.Note.{ShiftFile, ShiftFolder, Give, Take, StrictRoot, Upgrade}
use Rattle.record_format.specs.declared.note.Note.{Note as Declared}
use Rattle.record_format.specs.declared.note.Note.TheVariants as declared

-- the note with its numbers as ids
unfoldable pub declared_note : Note → Declared
declared_note Root = declared.Root
declared_note (NewHolder holder check) = declared.NewHolder (record { 0 = holder }) check
declared_note (NewFolder folder parent) = declared.NewFolder (record { 0 = folder }) (record { 0 = parent })
declared_note (NewFile file folder) = declared.NewFile (record { 0 = file }) (record { 0 = folder })
declared_note (Rewrite file) = declared.Rewrite (record { 0 = file })
declared_note (NameFile file) = declared.NameFile (record { 0 = file })
declared_note (NameFolder folder) = declared.NameFolder (record { 0 = folder })
declared_note (DropFile file) = declared.DropFile (record { 0 = file })
declared_note (DropFolder folder) = declared.DropFolder (record { 0 = folder })
declared_note (ShiftFile file into) = declared.ShiftFile (record { 0 = file }) (record { 0 = into })
declared_note (ShiftFolder folder into) = declared.ShiftFolder (record { 0 = folder }) (record { 0 = into })
declared_note (Give holder folder) = declared.Give (record { 0 = holder }) (record { 0 = folder })
declared_note (Take holder folder) = declared.Take (record { 0 = holder }) (record { 0 = folder })
declared_note StrictRoot = declared.StrictRoot
declared_note Upgrade = declared.Upgrade
