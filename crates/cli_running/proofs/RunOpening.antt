-- How a run ends at its first line, and where the store is opened or isn't.
use Rattle.std.proofs.Common.{◌≡◌, ℕ, IsTrue, List, [], false, Option, None, Some, Result, Ok, Err, inl, ⊎_elim, ◌⊎◌, refl, sym, ap, subst, ◌∙◌}
use Rattle.std.proofs.lemmas.Bool.{false≢true}
use Rattle.commit_journal.specs.declared.fault.OpenFault.{OpenFault}
use Rattle.commit_journal.specs.declared.fault.OpenFault.TheVariants as opening
use Rattle.cry_base.specs.declared.limits.Limits.{Limits}
use Rattle.journal_bytes.specs.Journals.{ShowsJournal}
use Rattle.cli_base.specs.Lines.{InputLine, LineState, lines_ahead}
use Rattle.cry_io.specs.declared.streams.Source as source
use Rattle.std.specs.Prelude.{is_some}
use Rattle.cry_io.specs.Told.{WhereBothTold}
use Rattle.cli_sessions.specs.Taking.{TakesOne}
use Rattle.cli_running.specs.FirstLine.{HandedIn}
use Rattle.cli_running.specs.Running.{CountsOwner, FirstIsBad, GivesOwner, is_after_opening, is_before_opening, is_run_answer, key_in_lines, lines_in}
use Rattle.cli_sessions.specs.Opening.{Judges, open_status}
use Rattle.cli_sessions.proofs.StoreOpening.{seen_unopened, unopened}
use Rattle.cli_sessions.proofs.RunEnds.{still_told}
use Rattle.cli_sessions.specs.Sessions.{Ends, script_status}
use Rattle.cli_sessions.specs.Script.{IsReading}
use Rattle.cli_sessions.specs.declared.script.ScriptFault.{ScriptFault}
use Rattle.cli_sessions.specs.declared.script.ScriptFault.TheVariants.{BadLine, ReadFault, WriteFault, OutOfMemory, Applying}
use Rattle.cli_base.specs.declared.status.Status.{Status}
use Rattle.cli_base.specs.declared.status.Status.TheVariants as statuses
use Rattle.log_visits.specs.Judging.{Failure}
use Rattle.public_fold.specs.Journal.{Journal}
use Rattle.cli_base.proofs.InputLemmas.{fresh_reader}

-- what the first line gives, of an input that tells
pub gives_first : (result : Result (List ℕ) ScriptFault) (reader : LineState) (typed : List ℕ) (after : List InputLine) → reader ≡ fresh_reader
    → GivesOwner result (lines_ahead reader typed) after → GivesOwner result (lines_in typed) after
gives_first result reader typed after is gives = subst (λ (r : LineState). GivesOwner result (lines_ahead r typed) after) is gives

pub first_is_bad : (fault : ScriptFault) → IsReading fault → (before after : List InputLine) → GivesOwner (Err fault) before after → FirstIsBad (script_status fault)
first_is_bad (BadLine line) reading before after gives = gives.1
first_is_bad ReadFault reading before after gives = tt
first_is_bad OutOfMemory reading before after gives = tt
first_is_bad WriteFault reading before after gives = absurd reading
first_is_bad (Applying fault) reading before after gives = absurd reading

none_is_none : (key : List ℕ) (o : Option (List ℕ)) → o ≡ None → o ≡ Some key → ⊥
none_is_none key o none some = let both = sym none ∙ some in absurd cc

pub bad_first_is_unjudged : (fault : ScriptFault) → IsReading fault → (before after : List InputLine) → GivesOwner (Err fault) before after
    → (key : List ℕ) → key_in_lines before ≡ Some key → (v : Option Failure) → Judges (script_status fault) v
bad_first_is_unjudged (BadLine line) reading before after gives key hands v = absurd (none_is_none key (key_in_lines before) gives.0 hands)
bad_first_is_unjudged ReadFault reading before after gives key hands v = tt
bad_first_is_unjudged OutOfMemory reading before after gives key hands v = tt
bad_first_is_unjudged WriteFault reading before after gives key hands v = absurd reading
bad_first_is_unjudged (Applying fault) reading before after gives key hands v = absurd reading

-- the same, whether or not the input tells of itself
pub first_line_is_bad : (fault : ScriptFault) → IsReading fault → (old new : ℕ) → CountsOwner (Err fault) old new → FirstIsBad (script_status fault)
first_line_is_bad (BadLine line) reading old new count = count
first_line_is_bad ReadFault reading old new count = tt
first_line_is_bad OutOfMemory reading old new count = tt
first_line_is_bad WriteFault reading old new count = absurd reading
first_line_is_bad (Applying fault) reading old new count = absurd reading

pub first_ends : (fault : ScriptFault) → IsReading fault → (before after : List InputLine) → GivesOwner (Err fault) before after
    → (key : List ℕ) → key_in_lines before ≡ Some key → (limits : Limits) (m : Journal) (lines : List InputLine) (left was shown written : Option (List ℕ)) (may_leave : List ℕ → Type 0)
    (KeepsTo : Journal → Type 0) → ShowsJournal key m shown → KeepsTo m → Ends (script_status fault) limits key m [] lines (seen_unopened left was shown written) may_leave KeepsTo
first_ends (BadLine line) reading before after gives key hands limits m lines left was shown written may_leave KeepsTo shows kept = absurd (none_is_none key (key_in_lines before) gives.0 hands)
first_ends ReadFault reading before after gives key hands limits m lines left was shown written may_leave KeepsTo shows kept = inl (refl, unopened key m left was shown written KeepsTo shows kept)
first_ends OutOfMemory reading before after gives key hands limits m lines left was shown written may_leave KeepsTo shows kept = inl (refl, unopened key m left was shown written KeepsTo shows kept)
first_ends WriteFault reading before after gives key hands limits m lines left was shown written may_leave KeepsTo shows kept = absurd reading
first_ends (Applying fault) reading before after gives key hands limits m lines left was shown written may_leave KeepsTo shows kept = absurd reading

-- a line that hands in a key isn't bad
pub key_is_given : {P : Type 0} (key : List ℕ) (before after : List InputLine) → GivesOwner (Ok key) before after → key_in_lines before ≡ None → P
key_is_given key before after gives none = absurd (none_is_none key (key_in_lines before) none gives.0)

pub same_key : (given key : List ℕ) (before after : List InputLine) → GivesOwner (Ok given) before after → key_in_lines before ≡ Some key → given ≡ key
same_key given key before after gives hands = let both = sym gives.0 ∙ hands in cc

-- a store that shows a journal isn't opened where the disk failed, or memory was wanting
pub unopened_ends : (fault : OpenFault) → (fault ≡ opening.DiskFault) ⊎ (fault ≡ opening.OutOfMemory)
    → (limits : Limits) (key : List ℕ) (m : Journal) (lines : List InputLine) (left was shown written : Option (List ℕ)) (may_leave : List ℕ → Type 0)
    (KeepsTo : Journal → Type 0) → ShowsJournal key m shown → KeepsTo m
    → Ends (open_status fault) limits key m [] lines (seen_unopened left was shown written) may_leave KeepsTo
unopened_ends fault why limits key m lines left was shown written may_leave KeepsTo shows kept =
    ⊎_elim
    (λ (e : fault ≡ opening.DiskFault). subst (λ (f : OpenFault). Ends (open_status f) limits key m [] lines (seen_unopened left was shown written) may_leave KeepsTo) (sym e) (inl (refl, unopened key m left was shown written KeepsTo shows kept)))
    (λ (e : fault ≡ opening.OutOfMemory). subst (λ (f : OpenFault). Ends (open_status f) limits key m [] lines (seen_unopened left was shown written) may_leave KeepsTo) (sym e) (inl (refl, unopened key m left was shown written KeepsTo shows kept)))
    why

-- line 1 is bad where it hands in no key, and nowhere else
pub first_alone : (fault : ScriptFault) → IsReading fault → (before after : List InputLine) → GivesOwner (Err fault) before after → script_status fault ≡ statuses.BadScript 1 → key_in_lines before ≡ None
first_alone (BadLine line) reading before after gives is = gives.0
first_alone ReadFault reading before after gives is = absurd cc
first_alone OutOfMemory reading before after gives is = absurd cc
first_alone WriteFault reading before after gives is = absurd reading
first_alone (Applying fault) reading before after gives is = absurd reading

pub not_before : {P : Type 0} (status : Status) → is_before_opening status ≡ false → status ≡ statuses.BadScript 1 → P
not_before status behind is = absurd (false≢true (sym behind ∙ ap is_before_opening is))

pub unopened_is_no_line : {P : Type 0} (fault : OpenFault) (line : ℕ) → open_status fault ≡ statuses.BadScript line → P
unopened_is_no_line opening.NotAStore line is = absurd cc
unopened_is_no_line opening.WrongKey line is = absurd cc
unopened_is_no_line (opening.Damaged at) line is = absurd cc
unopened_is_no_line (opening.Tampered batch at) line is = absurd cc
unopened_is_no_line opening.DiskFault line is = absurd cc
unopened_is_no_line opening.OutOfMemory line is = absurd cc

-- nothing is drawn before the opening
pub reading_draws_none : {P : Type 0} (fault : ScriptFault) (left need : ℕ) → IsReading fault → script_status fault ≡ statuses.RandomShort left need → P
reading_draws_none (BadLine line) left need reading is = absurd cc
reading_draws_none ReadFault left need reading is = absurd cc
reading_draws_none OutOfMemory left need reading is = absurd cc
reading_draws_none WriteFault left need reading is = absurd reading
reading_draws_none (Applying fault) left need reading is = absurd reading

pub unopened_draws_none : {P : Type 0} (fault : OpenFault) (left need : ℕ) → open_status fault ≡ statuses.RandomShort left need → P
unopened_draws_none opening.NotAStore left need is = absurd cc
unopened_draws_none opening.WrongKey left need is = absurd cc
unopened_draws_none (opening.Damaged at) left need is = absurd cc
unopened_draws_none (opening.Tampered batch at) left need is = absurd cc
unopened_draws_none opening.DiskFault left need is = absurd cc
unopened_draws_none opening.OutOfMemory left need is = absurd cc

-- ---- the first line was taken before

pub handed : {S : Type 0} (inputs : source.Ghosts S) (key : List ℕ) (begun reader : LineState) (first now : S) → begun ≡ fresh_reader
    → is_some (inputs.left now) ≡ is_some (inputs.left first)
    → WhereBothTold (inputs.left first) (inputs.left now) (λ before after. GivesOwner (Ok key) (lines_ahead begun before) (lines_ahead reader after))
    → WhereBothTold (inputs.left first) (inputs.left now) (TakesOne (Ok key) begun reader) → HandedIn inputs key reader first now
handed inputs key begun reader first now fresh told gives takes = record {
  told = told;
  gives = subst (λ (r : LineState). WhereBothTold (inputs.left first) (inputs.left now)
      (λ before after. GivesOwner (Ok key) (lines_ahead r before) (lines_ahead reader after))) fresh gives;
  takes = subst (λ (r : LineState). WhereBothTold (inputs.left first) (inputs.left now) (TakesOne (Ok key) r reader)) fresh takes;
}

pub handed_lines : {S : Type 0} (inputs : source.Ghosts S) (key : List ℕ) (reader : LineState) (first now : S) → HandedIn inputs key reader first now
    → (x : List ℕ) → inputs.left first ≡ Some x → (y : List ℕ) × (inputs.left now ≡ Some y) × GivesOwner (Ok key) (lines_in x) (lines_ahead reader y)
handed_lines inputs key reader first now handed x was =
    let after = still_told (inputs.left now) (inputs.left first) x handed.told was in
    (after.0, after.1, handed.gives x after.0 was after.1)

-- a store that isn't opened ends a run so
pub unopened_answers : (fault : OpenFault) → IsTrue (is_run_answer (open_status fault))
unopened_answers opening.NotAStore = refl
unopened_answers opening.WrongKey = refl
unopened_answers (opening.Damaged at) = refl
unopened_answers (opening.Tampered batch at) = refl
unopened_answers opening.DiskFault = refl
unopened_answers opening.OutOfMemory = refl

pub unopened_isnt_done : {P : Type 0} (fault : OpenFault) → open_status fault ≡ statuses.Done → P
unopened_isnt_done opening.NotAStore is = absurd cc
unopened_isnt_done opening.WrongKey is = absurd cc
unopened_isnt_done (opening.Damaged at) is = absurd cc
unopened_isnt_done (opening.Tampered batch at) is = absurd cc
unopened_isnt_done opening.DiskFault is = absurd cc
unopened_isnt_done opening.OutOfMemory is = absurd cc

pub unopened_is_early : (fault : OpenFault) → is_after_opening (open_status fault) ≡ false
unopened_is_early opening.NotAStore = refl
unopened_is_early opening.WrongKey = refl
unopened_is_early (opening.Damaged at) = refl
unopened_is_early (opening.Tampered batch at) = refl
unopened_is_early opening.DiskFault = refl
unopened_is_early opening.OutOfMemory = refl

-- and one that ends at its first line is none that ends behind the opening
pub first_is_early : (fault : ScriptFault) → IsReading fault → (old new : ℕ) → CountsOwner (Err fault) old new → is_after_opening (script_status fault) ≡ false
first_is_early (BadLine line) reading old new count = subst (λ l. is_after_opening (statuses.BadScript l) ≡ false) (sym count) refl
first_is_early ReadFault reading old new count = refl
first_is_early OutOfMemory reading old new count = refl
first_is_early WriteFault reading old new count = absurd reading
first_is_early (Applying fault) reading old new count = absurd reading

pub unopened_isnt_behind : {P : Type 0} (fault : OpenFault) → IsTrue (is_after_opening (open_status fault)) → P
unopened_isnt_behind opening.NotAStore is = absurd (false≢true is)
unopened_isnt_behind opening.WrongKey is = absurd (false≢true is)
unopened_isnt_behind (opening.Damaged at) is = absurd (false≢true is)
unopened_isnt_behind (opening.Tampered batch at) is = absurd (false≢true is)
unopened_isnt_behind opening.DiskFault is = absurd (false≢true is)
unopened_isnt_behind opening.OutOfMemory is = absurd (false≢true is)

pub unopened_isnt_first : {P : Type 0} (fault : OpenFault) → IsTrue (is_before_opening (open_status fault)) → P
unopened_isnt_first opening.NotAStore is = absurd (false≢true is)
unopened_isnt_first opening.WrongKey is = absurd (false≢true is)
unopened_isnt_first (opening.Damaged at) is = absurd (false≢true is)
unopened_isnt_first (opening.Tampered batch at) is = absurd (false≢true is)
unopened_isnt_first opening.DiskFault is = absurd (false≢true is)
unopened_isnt_first opening.OutOfMemory is = absurd (false≢true is)

pub not_first : {P : Type 0} (status : Status) → is_before_opening status ≡ false → IsTrue (is_before_opening status) → P
not_first status behind is = absurd (false≢true (sym behind ∙ is))
