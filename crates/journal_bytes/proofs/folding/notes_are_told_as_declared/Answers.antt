use Rattle.std.proofs.Common.{◌≡◌, refl}
use Rattle.record_format.specs.Told.{told_note}
use Rattle.record_format.specs.Noted.{Note}
use Rattle.record_format.specs.Noted.Note.{Root, NewHolder, NewFolder, NewFile, Rewrite, NameFile, NameFolder, DropFile, DropFolder, ShiftFile, ShiftFolder, Give, Take, StrictRoot, Upgrade}
use Rattle.journal_bytes.specs.Notes.{declared_note}
use Rattle.journal_bytes.proofs.NotesDeclared.{told_back}
use Rattle.journal_bytes.proofs.folding.notes_are_told_as_declared.Goals as goal

told : (note : Note) → told_note (declared_note note) ≡ note
unfolding told_note declared_note
told Root = refl
told (NewHolder holder check) = refl
told (NewFolder folder parent) = refl
told (NewFile file folder) = refl
told (Rewrite file) = refl
told (NameFile file) = refl
told (NameFolder folder) = refl
told (DropFile file) = refl
told (DropFolder folder) = refl
told (ShiftFile file into) = refl
told (ShiftFolder folder into) = refl
told (Give holder folder) = refl
told (Take holder folder) = refl
told StrictRoot = refl
told Upgrade = refl

pub returns : goal.returns
returns c = record { told = told; declared = told_back }
