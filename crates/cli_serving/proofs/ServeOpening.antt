-- How `serve` ends over a journal where no line behind the first was begun.
use Rattle.std.proofs.Common.{◌≡◌, ◌⊎◌, ◌∙◌, ⊎_elim, inl, ℕ, List, [], Option, Some, None, Err, refl, sym, subst}
use Rattle.commit_journal.specs.declared.fault.OpenFault.{OpenFault}
use Rattle.commit_journal.specs.declared.fault.OpenFault.TheVariants as opening
use Rattle.cry_base.specs.declared.limits.Limits.{Limits}
use Rattle.journal_bytes.specs.Journals.{ShowsJournal}
use Rattle.public_fold.specs.Journal.{Journal}
use Rattle.cli_base.specs.Lines.{InputLine}
use Rattle.cli_running.specs.Running.{GivesOwner, key_in_lines}
use Rattle.cli_sessions.proofs.StoreOpening.{seen_unopened, unopened}
use Rattle.cli_sessions.specs.Opening.{open_status}
use Rattle.cli_sessions.specs.Script.{IsReading}
use Rattle.cli_sessions.specs.Sessions.{script_status}
use Rattle.cli_sessions.specs.declared.script.ScriptFault.{ScriptFault}
use Rattle.cli_sessions.specs.declared.script.ScriptFault.TheVariants.{Applying, BadLine, OutOfMemory, ReadFault, WriteFault}
use Rattle.cli_serving.specs.Serves.{Serves}

module _ (limits : Limits) (key : List ℕ) (m : Journal) (left was shown written : Option (List ℕ)) (may_leave : List ℕ → Type 0) (KeepsTo : Journal → Type 0)
    (shows : ShowsJournal key m shown) (kept : KeepsTo m) where
  -- the first line isn't an owner's, or wasn't read
  pub unread_serves : (fault : ScriptFault) → IsReading fault → (before after : List InputLine) → GivesOwner (Err fault) before after → key_in_lines before ≡ Some key
      → Serves (script_status fault) limits key m [] [] (seen_unopened left was shown written) may_leave KeepsTo
  unread_serves (BadLine line) reading before after gives hands = let both : None ≡ Some key = sym gives.0 ∙ hands in absurd cc
  unread_serves ReadFault reading before after gives hands = inl (refl, refl, unopened key m left was shown written KeepsTo shows kept)
  unread_serves OutOfMemory reading before after gives hands = inl (refl, refl, unopened key m left was shown written KeepsTo shows kept)
  unread_serves WriteFault reading before after gives hands = absurd reading
  unread_serves (Applying fault) reading before after gives hands = absurd reading

  -- a store that shows a journal isn't opened where the disk failed, or memory was wanting
  pub unopened_serves : (fault : OpenFault) → (fault ≡ opening.DiskFault) ⊎ (fault ≡ opening.OutOfMemory)
      → Serves (open_status fault) limits key m [] [] (seen_unopened left was shown written) may_leave KeepsTo
  unopened_serves fault why =
      ⊎_elim
      (λ (e : fault ≡ opening.DiskFault). subst (λ (f : OpenFault). Serves (open_status f) limits key m [] [] (seen_unopened left was shown written) may_leave KeepsTo) (sym e)
      (inl (refl, refl, unopened key m left was shown written KeepsTo shows kept)))
      (λ (e : fault ≡ opening.OutOfMemory). subst (λ (f : OpenFault). Serves (open_status f) limits key m [] [] (seen_unopened left was shown written) may_leave KeepsTo) (sym e)
      (inl (refl, refl, unopened key m left was shown written KeepsTo shows kept)))
      why
