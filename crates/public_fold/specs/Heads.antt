-- What everyone may see of the records of a step: a skeleton's heads. This project's own, docs/FORMAT.md, "Records".
use Rattle.std.specs.Prelude.{◌≡◌, ℕ, Bool, ◌&&◌, ◌==◌, List, [], ◌∷◌, map}
use Rattle.record_format.specs.Noted.{Note}
use Rattle.record_format.specs.Noted.Note.{Root, NewHolder, NewFolder, NewFile, Rewrite, NameFile, NameFolder, DropFile, DropFolder}
use Rattle.record_format.specs.Noted.Note.{ShiftFile, ShiftFolder, Give, Take, StrictRoot, Upgrade}
use Rattle.record_format.specs.Plain.{PlainContent}
use Rattle.public_fold.specs.Fitted.{has_length}
use Rattle.public_fold.specs.Records.{Piece, Content}
use Rattle.public_fold.specs.KeyStep.{Stepped}
use Rattle.public_fold.specs.declared.heads.ContentHead.{ContentHead}
use Rattle.public_fold.specs.declared.heads.Skeleton.{Skeleton}

-- a content without its text
abbrev pub content_head : Content → ContentHead
content_head c = record { kind = c.piece.kind; object = c.piece.object; key_serial = record { 0 = c.key_serial }; nonce = c.nonce }

-- what is due to be sealed, by kind and number alone
abbrev pub textless : ℕ → ℕ → Piece
textless kind object = record { kind = kind; object = object; name = []; bytes = [] }

-- what a note's command seals: a folder's name, a file, a holder's key
unfoldable pub due_of : Note → List Piece
due_of Root = textless 1 1 ∷ []
due_of (NewHolder h check) = textless 3 h ∷ []
due_of (NewFolder f p) = textless 1 f ∷ []
due_of (NewFile x f) = textless 2 x ∷ []
due_of (Rewrite x) = textless 2 x ∷ []
due_of (NameFile x) = textless 2 x ∷ []
due_of (NameFolder f) = textless 1 f ∷ []
due_of (DropFile x) = []
due_of (DropFolder f) = []
due_of (ShiftFile x g) = []
due_of (ShiftFolder g q) = []
due_of (Give h f) = []
due_of (Take h f) = []
due_of StrictRoot = textless 1 1 ∷ []
due_of Upgrade = []

-- the keys that the step gives, and the heads of what it publishes
pub record IsSkeleton (step : Stepped) (s : Skeleton) : Type 0 where
  pub keys : s.keys.items ≡ step.given
  pub links : s.links.items ≡ step.links
  pub contents : s.contents.items ≡ map content_head step.contents

-- the record has the head, and a right length
unfoldable pub is_content_of : ContentHead → PlainContent → Bool
is_content_of h r =
    (r.kind == h.kind)
    && ((r.object == h.object)
    && ((r.key_serial.0 == h.key_serial.0)
    && ((r.nonce == h.nonce) && has_length r)))
