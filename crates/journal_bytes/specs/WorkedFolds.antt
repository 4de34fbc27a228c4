-- Opens the words of the fold over a journal's payloads to a computation. Of what is sealed the length alone is computed.
use Rattle.std.specs.Prelude.{[], ◌∷◌, ◌++◌, codes}
use Rattle.chacha_seal.specs.Sealing.{sealed}
use Rattle.chacha_seal.specs.Stream.{xor_stream, xor_from}
use Rattle.cry_base.specs.Requests.Request.{MakeFolder, WriteFile, Relocate, Remove}
use Rattle.public_fold.specs.Journal.{Journal}
use Rattle.public_fold.specs.Journal.Entry.{Session}
use Rattle.public_fold.specs.WorkedSteps.{does, fresh}
use Rattle.key_links.specs.Sealed.{sealed_link, sealed_content}
use Rattle.log_visits.specs.WorkedVerdicts.{verdicts}
use Rattle.journal_bytes.specs.Folds.{log_of, public_stand, fold_of}
use Rattle.journal_bytes.specs.WorkedBytes.{journal_bytes}

-- a file that is moved into a folder, both dropped
unfoldable pub dropping_soon : Journal
dropping_soon = fresh ++ (Session ∷ does 5 (MakeFolder (codes "/a")) ∷ does 1 (WriteFile (codes "/x") (3 ∷ []))
    ∷ does 0 (Relocate (codes "/x") (codes "/a"))
    ∷ does 0 (Remove (codes "/a/x")) ∷ does 0 (Remove (codes "/a")) ∷ [])

-- every word of such a fold
unfoldable pub folds : Unit {0}
unfolding dropping_soon sealed xor_stream xor_from sealed_link sealed_content verdicts log_of public_stand fold_of journal_bytes
folds = tt
