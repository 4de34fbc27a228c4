-- How the lines of a generated script end, over the owner of a fresh store.
use Rattle.std.proofs.Common.{◌≡◌, ◌<◌, ◌≤◌, ℕ, List, [], length, Option, Some, None, Result, Ok, Err, arith, refl, ap, subst, ◌∙◌}
use Rattle.cry_base.specs.Requests.{Request}
use Rattle.cry_io.specs.Stops.{IsDurable}
use Rattle.journal_bytes.specs.Bytes.{image_of}
use Rattle.cli_making.specs.Generating.{Applies, Begins, IsScript, script_lines, unheard}
use Rattle.cli_sessions.specs.Sessions.{HasApplied, IsStop, StopsApplying, KeepsFrom, script_status, version_limits}
use Rattle.cli_base.specs.Lines.{LineState, lines_ahead}
use Rattle.cli_sessions.specs.Script.{Asks, Ran, ReadsByCount, WritesByCount}
use Rattle.cli_sessions.specs.Stopping.{LinesKeepUpTo}
use Rattle.cli_sessions.specs.declared.script.ScriptFault.{ScriptFault}
use Rattle.cli_sessions.specs.declared.script.ScriptFault.TheVariants.{BadLine, ReadFault, WriteFault, OutOfMemory, Applying}
use Rattle.cli_base.specs.declared.status.Status.{Status}
use Rattle.cli_making.proofs.GeneratedLines.{asked_script, script_ahead, script_never_bad}
use Rattle.cli_sessions.proofs.RunEnds.{IsCalm, TallyTold, applies_all, stops_as}
use Rattle.cli_sessions.proofs.RunLemmas.{Fails, IsPresent, Stand, Step, leaves, moments, rests_there, scene}
use Rattle.cli_base.proofs.InputLemmas.{fresh_reader}
use Rattle.public_fold.specs.Journal.{Journal}
use Rattle.store_gen.specs.Rule.{script_of}
use Rattle.store_owner.specs.Owned.{OwnerView}
use Rattle.store_owner.specs.declared.apply_fault.ApplyFault.TheVariants as faults

-- what a fresh reader has ahead of it, of a script
script_is_ahead : (old : LineState) (script : List ℕ) (seed count : ℕ) → old ≡ fresh_reader → count ≤ 50000 → script ≡ script_of seed count
    → lines_ahead old script ≡ script_lines seed count
script_is_ahead old script seed count fresh few is =
    ap (λ (s : LineState). lines_ahead s script) fresh ∙ ap (λ text. lines_ahead fresh_reader text) is ∙ script_ahead seed count few

module _ (R D : Type 0) (left : R → Option (List ℕ)) (random_faults : R → ℕ) (shown : D → Option (List ℕ)) (disk_faults : D → ℕ)
    (may_leave : D → List ℕ → Type 0) (moment : D → ℕ) (since : D → ℕ → List ℕ → List ℕ → Type 0)
    (start end : OwnerView × R × D) (old new : LineState) (script rest : List ℕ) (fresh : old ≡ fresh_reader) where
  abbrev HasRan : Result (Unit {0}) ScriptFault → Type 0
  HasRan result = Ran (Step R D left random_faults shown disk_faults may_leave moment since) (Fails R D left random_faults shown disk_faults may_leave moment since)
      (Stand R D left random_faults shown disk_faults may_leave moment since) result start end old new (Some script) (Some rest) None None

  never_bad : (line : ℕ) → IsScript script → HasRan (Err (BadLine line)) → ⊥
  never_bad line is ran =
      let seed : ℕ = is.0 in
      let count : ℕ = is.1 in
      let taken = ran.lines script rest refl refl in
      let asks : Asks ran.went.asked (script_lines seed count) taken.0 =
      subst (λ ls. Asks ran.went.asked ls taken.0) (script_is_ahead old script seed count fresh is.2 is.3) taken.1.0 in
      script_never_bad seed count ran.went.asked taken.0 asks taken.2

  -- they stop only where a command met a fault, or memory was wanting
  pub stops : (fault : ScriptFault) → IsScript script → HasRan (Err fault) → ReadsByCount {U = Unit {0}} (Err fault) 0 0 → WritesByCount {U = Unit {0}} (Err fault) 0 0
      → IsStop (script_status fault)
  stops (BadLine line) is ran reads writes = absurd (never_bad line is ran)
  stops ReadFault is ran reads writes = absurd (let no : 0 < 0 = reads in omega (arith, no))
  stops WriteFault is ran reads writes = absurd (let no : 0 < 0 = writes in omega (arith, no))
  stops OutOfMemory is ran reads writes = tt
  stops (Applying faults.RandomFault) is ran reads writes = tt
  stops (Applying (faults.RandomShort had need)) is ran reads writes = tt
  stops (Applying faults.DiskFault) is ran reads writes = tt
  stops (Applying faults.Closed) is ran reads writes = tt
  stops (Applying faults.OutOfMemory) is ran reads writes = tt

  module _ (present : IsPresent R D left random_faults shown disk_faults may_leave moment since) (durable : IsDurable (may_leave start.2) (shown start.2))
      (seed count : ℕ) (few : count ≤ 50000) (is : script ≡ script_of seed count) (key : List ℕ) (m : Journal) (begins : Begins key m start.0 (shown start.2)) where
    abbrev KeepsTo : Journal → Type 0
    KeepsTo = LinesKeepUpTo key m (shown start.2) (shown end.2) (since end.2 (moment start.2))

    abbrev Told : Result (Unit {0}) Status → Type 0
    Told result = Applies result seed count key m end.0 (unheard (left start.1) (left end.1) (shown end.2)) (may_leave end.2) KeepsTo

    none_kept : KeepsFrom (length (image_of key m)) None (shown start.2)
    none_kept = λ x y was now. absurd (let no : None ≡ Some x = was in cc)

    pub applies_to_end : TallyTold → HasRan (Ok tt) → IsDurable (may_leave end.2) (shown end.2) → Told (Ok tt)
    applies_to_end told ran calm =
        let all = applies_all (OwnerView × R × D) (scene R D left random_faults shown disk_faults may_leave moment since)
        (leaves R D left random_faults shown disk_faults may_leave moment since) (moments R D left random_faults shown disk_faults may_leave moment since)
        (Step R D left random_faults shown disk_faults may_leave moment since) (Fails R D left random_faults shown disk_faults may_leave moment since)
        (Stand R D left random_faults shown disk_faults may_leave moment since) (λ x n commands so. so)
        (λ x r reply y step. step.0) (λ x r fault y failed. failed.0) version_limits key m start end begins.stands (present start.2)
        (rests_there version_limits key m start.0 (shown start.2) (may_leave start.2) begins.stands durable) None none_kept
        old new (Some script) (Some rest) None None script rest refl refl told ran calm begins.counted in
        let asks : Asks all.0 (script_lines seed count) [] = subst (λ ls. Asks all.0 ls []) (script_is_ahead old script seed count fresh few is) all.1 in
        subst (λ (asked : List Request). HasApplied version_limits key m asked end.0 (unheard (left start.1) (left end.1) (shown end.2)) (may_leave end.2) KeepsTo)
        (asked_script seed count all.0 asks) all.2

    pub applies_to_stop : (fault : ScriptFault) → IsStop (script_status fault) → HasRan (Err fault) → IsCalm (may_leave end.2) (shown end.2) (Err fault)
        → Told (Err (script_status fault))
    applies_to_stop fault stop ran calm =
        let stopped = stops_as (OwnerView × R × D) (scene R D left random_faults shown disk_faults may_leave moment since)
        (leaves R D left random_faults shown disk_faults may_leave moment since) (moments R D left random_faults shown disk_faults may_leave moment since)
        (Step R D left random_faults shown disk_faults may_leave moment since) (Fails R D left random_faults shown disk_faults may_leave moment since)
        (Stand R D left random_faults shown disk_faults may_leave moment since) (λ x n commands so. so)
        (λ x r reply y step. step.0) (λ x r fault y failed. failed.0) version_limits key m start end begins.stands (present start.2)
        (rests_there version_limits key m start.0 (shown start.2) (may_leave start.2) begins.stands durable) None none_kept
        old new (Some script) (Some rest) None None script rest refl refl fault stop ran calm in
        subst (λ ls. StopsApplying (script_status fault) version_limits key m ls (unheard (left start.1) (left end.1) (shown end.2)) (may_leave end.2) KeepsTo)
        (script_is_ahead old script seed count fresh few is) stopped
