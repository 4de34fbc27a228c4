-- How a whole call of `upgrade` ends: at its input, where the store is opened or isn't, and behind that.
use Rattle.std.proofs.Common.{◌≡◌, ◌⊎◌, ⊎_elim, inl, inr, ℕ, List, Option, Result, Ok, Err, sym, subst, ◌∙◌}
use Rattle.std.specs.Prelude.{IsTrue}
use Rattle.commit_journal.specs.declared.fault.OpenFault.{OpenFault}
use Rattle.commit_journal.specs.declared.fault.OpenFault.TheVariants as opening
use Rattle.cry_base.specs.declared.commands.Reply.{Reply}
use Rattle.cry_io.specs.Told.{WhereBothTold}
use Rattle.journal_bytes.specs.Journals.{ShowsJournal}
use Rattle.log_visits.specs.Judging.{Failure}
use Rattle.public_fold.specs.Journal.{Journal}
use Rattle.cli_base.specs.Input.{InputDecides, ReadsOwner, input_status, owner_answer}
use Rattle.cli_base.specs.declared.input.InputFault.{InputFault}
use Rattle.cli_base.specs.declared.input.InputFault.TheVariants.{BadLine, Failed, OutOfMemory}
use Rattle.cli_base.specs.declared.status.Status.{Status}
use Rattle.cli_base.specs.declared.status.Status.TheVariants as statuses
use Rattle.cli_sessions.proofs.ScriptLemmas.{same_told}
use Rattle.cli_sessions.proofs.StoreOpening.{each_unopened, seen_unopened, unopened}
use Rattle.cli_sessions.specs.Opening.{Judges, open_status}
use Rattle.cli_sessions.specs.Sessions.{IsUnopened, Seen}
use Rattle.cli_upgrading.proofs.UpgradeCases.{behind_cases}
use Rattle.cli_upgrading.specs.Upgrading.{EndsUpgrade, HandsInAlone, HasAnswered, HasRested, PrintsReply, TakesAlone, WasCutShort}
use Rattle.cli_upgrading.specs.Upgrading.{is_behind_opening}

-- ---- the input hands in no key

pub input_cases : (P : Status → Type 0) → ((line : ℕ) → P (statuses.BadScript line)) → P statuses.ReadFault → P statuses.OutOfMemory → (fault : InputFault) → P (input_status fault)
input_cases P bad failed memory (BadLine line) = bad line
input_cases P bad failed memory Failed = failed
input_cases P bad failed memory OutOfMemory = memory

pub unread_decides : (fault : InputFault) (typed left : List ℕ) → ReadsOwner (Err fault) typed left → InputDecides (input_status fault) (owner_answer typed)
unread_decides (BadLine line) typed left reads = reads.0
unread_decides Failed typed left reads = tt
unread_decides OutOfMemory typed left reads = tt

pub unread_takes : (fault : InputFault) (typed left : List ℕ) → ReadsOwner (Err fault) typed left → TakesAlone (input_status fault) typed left
unread_takes (BadLine line) typed left reads = reads.1
unread_takes Failed typed left reads = reads
unread_takes OutOfMemory typed left reads = tt

no_key : {P : Type 0} (answer : Result (List ℕ) ℕ) (line : ℕ) (key : List ℕ) → answer ≡ Err line → answer ≡ Ok key → P
no_key answer line key bad hands = let both = sym bad ∙ hands in absurd cc

pub unread_judges : (fault : InputFault) (typed left key : List ℕ) (verdict : Option Failure) → ReadsOwner (Err fault) typed left → HandsInAlone typed key
    → Judges (input_status fault) verdict
unread_judges (BadLine line) typed left key verdict reads hands = no_key (owner_answer typed) line key reads.0 hands
unread_judges Failed typed left key verdict reads hands = tt
unread_judges OutOfMemory typed left key verdict reads hands = tt

pub unread_ends : (fault : InputFault) (typed left key : List ℕ) (m : Journal) (random shown written : Option (List ℕ)) (may : List ℕ → Type 0) (KeepsTo : Journal → Type 0)
    → ReadsOwner (Err fault) typed left → HandsInAlone typed key → ShowsJournal key m shown → KeepsTo m
    → EndsUpgrade (input_status fault) key m (seen_unopened random shown shown written) may KeepsTo
unread_ends (BadLine line) typed left key m random shown written may KeepsTo reads hands shows kept = no_key (owner_answer typed) line key reads.0 hands
unread_ends Failed typed left key m random shown written may KeepsTo reads hands shows kept = unopened key m random shown shown written KeepsTo shows kept
unread_ends OutOfMemory typed left key m random shown written may KeepsTo reads hands shows kept = inl (unopened key m random shown shown written KeepsTo shows kept)

-- no other answer than these
pub undone_input : {P : Type 0} (fault : InputFault) (status : Status) → ((line : ℕ) → statuses.BadScript line ≡ status → P) → (statuses.ReadFault ≡ status → P)
    → (statuses.OutOfMemory ≡ status → P) → input_status fault ≡ status → P
undone_input {P} fault status bad failed memory is = input_cases (λ s. s ≡ status → P) bad failed memory fault is

-- the input hands in one key
pub same_owner : (typed own key : List ℕ) → owner_answer typed ≡ Ok own → HandsInAlone typed key → own ≡ key
same_owner typed own key is hands = let both = sym is ∙ hands in cc

-- nothing is printed
pub unprinted : (status : Status) (written : Option (List ℕ)) (reply : Reply) → ((x y : List ℕ) → y ≡ x → PrintsReply status reply x y)
    → WhereBothTold written written (PrintsReply status reply)
unprinted status written reply prints = λ x y before after. prints x y (same_told written x y before after)

-- ---- the store isn't opened

pub unopened_ends : (fault : OpenFault) → (fault ≡ opening.DiskFault) ⊎ (fault ≡ opening.OutOfMemory) → (key : List ℕ) (m : Journal) (left was shown written : Option (List ℕ))
    (may : List ℕ → Type 0) (KeepsTo : Journal → Type 0) → ShowsJournal key m shown → KeepsTo m
    → EndsUpgrade (open_status fault) key m (seen_unopened left was shown written) may KeepsTo
unopened_ends fault why key m left was shown written may KeepsTo shows kept =
    ⊎_elim
    (λ (e : fault ≡ opening.DiskFault). subst (λ (f : OpenFault). EndsUpgrade (open_status f) key m (seen_unopened left was shown written) may KeepsTo) (sym e)
    (inl (unopened key m left was shown written KeepsTo shows kept)))
    (λ (e : fault ≡ opening.OutOfMemory). subst (λ (f : OpenFault). EndsUpgrade (open_status f) key m (seen_unopened left was shown written) may KeepsTo) (sym e)
    (inl (unopened key m left was shown written KeepsTo shows kept)))
    why

pub unopened_is_no_draw : {P : Type 0} (fault : OpenFault) (left need : ℕ) → open_status fault ≡ statuses.RandomShort left need → P
unopened_is_no_draw {P} fault left need =
    each_unopened (λ s. s ≡ statuses.RandomShort left need → P) (λ e. absurd cc) (λ e. absurd cc) (λ at e. absurd cc) (λ batch at e. absurd cc)
    (λ e. absurd cc) (λ e. absurd cc) fault

-- ---- behind the opening

module _ (key : List ℕ) (m : Journal) (seen : Seen) (may : List ℕ → Type 0) (KeepsTo More : Journal → Type 0) (more : (reached : Journal) → KeepsTo reached → More reached) where
  answered_more : HasAnswered key m seen may KeepsTo → HasAnswered key m seen may More
  answered_more a = record {
    first = a.first;
    reply = a.reply;
    drawn = a.drawn;
    drawn_sizes = a.drawn_sizes;
    now = a.now;
    answers = a.answers;
    draws = a.draws;
    leaves = a.leaves;
    kept = more a.now a.kept;
  }

  rested_more : (version : ℕ) → HasRested version key m seen may KeepsTo → HasRested version key m seen may More
  rested_more version r = record { is_version = r.is_version; leaves = r.leaves; kept = more m r.kept }

  cut_more : WasCutShort key m seen may KeepsTo → WasCutShort key m seen may More
  cut_more c = record {
    first = c.first;
    is_accepted = c.is_accepted;
    drawn = c.drawn;
    drawn_count = c.drawn_count;
    drawn_sizes = c.drawn_sizes;
    draws = c.draws;
    holds = c.holds;
    kept = more _ c.kept;
  }

  unopened_more : IsUnopened key m seen KeepsTo → IsUnopened key m seen More
  unopened_more is = record { undrawn = is.undrawn; shows_still = is.shows_still; unprinted = is.unprinted; kept = more m is.kept }

  pub upgrade_more : (status : Status) → IsTrue (is_behind_opening status) → EndsUpgrade status key m seen may KeepsTo → EndsUpgrade status key m seen may More
  unfolding answered_more
  upgrade_more status is =
      behind_cases (λ s. EndsUpgrade s key m seen may KeepsTo → EndsUpgrade s key m seen may More)
      (λ e. (answered_more e.0, e.1)) (λ e. (answered_more e.0, e.1)) (λ e. (rested_more 1 e.0, e.1)) (λ left need e. (rested_more 1 e.0, e.1, e.2))
      (λ e. (rested_more 2 e.0, e.1))
      (λ e. ⊎_elim (λ u. inl (unopened_more u)) (λ c. inr (cut_more c)) e)
      (λ e. ⊎_elim (λ u. inl (unopened_more u)) (λ r. inr (⊎_elim (λ q. inl (rested_more 1 q.0, q.1)) (λ a. inr (answered_more a)) r)) e)
      status is
