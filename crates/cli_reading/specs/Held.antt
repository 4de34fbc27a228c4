-- What a command answers that only reads a store, where its words name a head. This project's own, docs/PROGRAM.md, "The program".
use Rattle.std.specs.Prelude.{◌⊎◌, ℕ, List, Option, Some, None, Result, Ok, Err}
use Rattle.cry_base.specs.declared.client.Bundle.{Bundle}
use Rattle.head_tree.specs.declared.head.Head.{Head}
use Rattle.log_heads.specs.Published.{hashes_in}
use Rattle.cli_base.specs.declared.status.Status.{Status}
use Rattle.cli_heads.specs.Testing.{BeginsSo, FailsHead, IsHeld}

-- the log of an image begins with the batches that the head names, if there is one
abbrev pub HeldTo : Option Head → List ℕ → Type 0
HeldTo None image = Unit {0}
HeldTo (Some head) image = IsHeld head (hashes_in image)

-- and so with all leaves that have this head, or two texts collide
abbrev pub BeginsTo : Option Head → List ℕ → Type 0
BeginsTo None image = Unit {0}
BeginsTo (Some head) image = BeginsSo head image

-- nothing is printed, since the log doesn't begin so
abbrev pub FailsTo : Head → List ℕ → Result (List ℕ) Status → Type 0
FailsTo head image (Ok text) = ⊥
FailsTo head image (Err status) = FailsHead head (hashes_in image) status

-- What may be answered to a bundle over an image. The head is tested before all else.
abbrev pub MayGive : Option Head → (Bundle → List ℕ → Result (List ℕ) Status → Type 0) → Bundle → List ℕ → Result (List ℕ) Status → Type 0
MayGive None Gives bundle image answer = Gives bundle image answer
MayGive (Some head) Gives bundle image answer = IsHeld head (hashes_in image) × Gives bundle image answer ⊎ FailsTo head image answer
