-- Worked rows of scripts and attempts, and the words that open them to a computation.
use Rattle.std.specs.Prelude.{Option, ℕ, zero, suc, ◌-◌, List, [], ◌∷◌, ◌++◌, map, codes, Some, None}
use Rattle.cry_base.specs.Requests.Request.{AddHolder, MakeFolder, WriteFile}
use Rattle.cry_base.specs.declared.limits.Limits.{Limits}
use Rattle.public_fold.specs.KeyStep.{Stepped}
use Rattle.public_fold.specs.Journal.{Journal}
use Rattle.public_fold.specs.Journal.Entry.{Session}
use Rattle.public_fold.specs.WorkedSteps.{does, fresh, journals}
use Rattle.journal_bytes.specs.Attempts.{begun_journal, epoch_attempt, command_attempt, attempts_at, course_then, attempts}
use Rattle.journal_bytes.specs.Script.{draws_of, due_payload, due_end, answer_with, answer, done_reply, keys_from, accepted_going}
use Rattle.journal_bytes.specs.Script.{line_going, line_reply, script_replies, script_going, opened, script}

-- "grant" without its last batch
unfoldable pub granting_stopped : Journal
granting_stopped = fresh ++ (Session ∷ does 5 (MakeFolder (codes "/a")) ∷ does 1 (WriteFile (codes "/a/x") (0 ∷ 255 ∷ []))
    ∷ does 1 AddHolder ∷ [])

-- the nonces of a step's links
unfoldable pub nonces_in : Option Stepped → List ℕ
nonces_in None = []
nonces_in (Some s) = map (λ l. l.nonce) s.links

-- n bytes from b down, each one less than the one before
unfoldable pub down_from : ℕ → ℕ → List ℕ
down_from b zero = []
down_from b (suc n) = b ∷ down_from (b - 1) n

-- the limits of version 2, and limits with another end of the store
unfoldable pub limited : ℕ → Limits
limited store_bytes = record { store_bytes = store_bytes; file_bytes = 1048576 }

unfoldable pub limits_now : Limits
limits_now = limited 1073741824

-- every word of scripts and attempts
unfoldable pub scripts : Unit {0}
unfolding journals granting_stopped nonces_in down_from limited limits_now begun_journal epoch_attempt command_attempt attempts_at
    course_then attempts draws_of due_payload due_end answer_with answer done_reply keys_from accepted_going line_going line_reply
    script_replies script_going opened script
scripts = tt
