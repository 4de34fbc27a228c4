-- A note of the model and the note of a payload are told from each other.
use Rattle.std.proofs.Common.{◌≡◌, refl}
use Rattle.record_format.specs.Told.{told_note}
use Rattle.record_format.specs.declared.note.Note.{Note as Declared}
use Rattle.record_format.specs.declared.note.Note.TheVariants as declared
use Rattle.journal_bytes.specs.Notes.{declared_note}

pub told_back : (note : Declared) → declared_note (told_note note) ≡ note
unfolding told_note declared_note
told_back declared.Root = refl
told_back (declared.NewHolder holder check) = refl
told_back (declared.NewFolder folder parent) = refl
told_back (declared.NewFile file folder) = refl
told_back (declared.Rewrite file) = refl
told_back (declared.NameFile file) = refl
told_back (declared.NameFolder folder) = refl
told_back (declared.DropFile file) = refl
told_back (declared.DropFolder folder) = refl
told_back (declared.ShiftFile file into) = refl
told_back (declared.ShiftFolder folder into) = refl
told_back (declared.Give holder folder) = refl
told_back (declared.Take holder folder) = refl
told_back declared.StrictRoot = refl
told_back declared.Upgrade = refl
