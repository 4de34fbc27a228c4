-- What a payload's note tells everyone. This project's own, docs/FORMAT.md, "Notes and payloads".
use Rattle.record_format.specs.Noted.{Note}
use Rattle.record_format.specs.Noted.Note.{Root, NewHolder, NewFolder, NewFile, Rewrite, NameFile, NameFolder, DropFile, DropFolder}
use Rattle.record_format.specs.Noted.Note.{ShiftFile, ShiftFolder, Give, Take, StrictRoot, Upgrade}
use Rattle.record_format.specs.declared.note.Note.{Note as Declared}
use Rattle.record_format.specs.declared.note.Note.TheVariants as declared

-- the note of a payload as a note of the model: its ids as numbers
unfoldable pub told_note : Declared → Note
told_note declared.Root = Root
told_note (declared.NewHolder holder check) = NewHolder holder.0 check
told_note (declared.NewFolder folder parent) = NewFolder folder.0 parent.0
told_note (declared.NewFile file folder) = NewFile file.0 folder.0
told_note (declared.Rewrite file) = Rewrite file.0
told_note (declared.NameFile file) = NameFile file.0
told_note (declared.NameFolder folder) = NameFolder folder.0
told_note (declared.DropFile file) = DropFile file.0
told_note (declared.DropFolder folder) = DropFolder folder.0
told_note (declared.ShiftFile file into) = ShiftFile file.0 into.0
told_note (declared.ShiftFolder folder into) = ShiftFolder folder.0 into.0
told_note (declared.Give holder folder) = Give holder.0 folder.0
told_note (declared.Take holder folder) = Take holder.0 folder.0
told_note declared.StrictRoot = StrictRoot
told_note declared.Upgrade = Upgrade
