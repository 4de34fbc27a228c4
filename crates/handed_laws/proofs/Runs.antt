-- What a run of the owner reached, and what it handed the disk up to there.
use Rattle.std.proofs.Common.{◌≡◌, ◌≤◌, ⊎_elim, ℕ, ◌+◌, Bool, true, false, cond, List, [], ◌∷◌, ◌++◌, All, length, Option, Some, None, append_assoc, arith, refl, sym, ap, subst, ◌∙◌, length-append}
use Rattle.std.specs.Prelude.{nat_lt}
use Rattle.std.proofs.lemmas.Bool.{ltb-false}
use Rattle.std.proofs.lemmas.List.Elements.{All-cons, All-head, All-nil, All-tail}
use Rattle.commit_journal.specs.Holding.{IsPrefix}
use Rattle.commit_journal.proofs.KeptLemmas.{prefix_same, prefix_trans}
use Rattle.cry_base.specs.Limits.{most_file_bytes, most_store_bytes}
use Rattle.cry_base.specs.Refusing.{refusal_in}
use Rattle.cry_base.specs.Requests.{Request}
use Rattle.cry_base.specs.declared.commands.Refusal.{Refusal}
use Rattle.cli_base.specs.Lines.{InputLine}
use Rattle.cli_base.specs.declared.status.Status.{Status}
use Rattle.cli_base.specs.declared.status.Status.TheVariants as statuses
use Rattle.cli_sessions.specs.Sessions.{Ends, HasRun, IsUnopened, LeavesAt, RanCut, RanTo, RanUnwritten, Seen, SessionOver, StopsApplying, version_limits}
use Rattle.journal_bytes.specs.Keys.{AreWhole, drawn_by}
use Rattle.journal_bytes.specs.Journals.{HoldsBetween}
use Rattle.journal_bytes.specs.Script.{answer, answer_with, draws_of, due_end, journal_then}
use Rattle.journal_bytes.proofs.NextValid.{next_valid, next_whole}
use Rattle.public_fold.specs.Journal.{Entry, Journal, keys_of, nothing, stand_after, store_of}
use Rattle.public_fold.specs.Journal.Entry.{Did, Made, Session, Upgraded}
use Rattle.public_fold.specs.KeyStep.{is_strict}
use Rattle.public_fold.specs.Valid.{BeginsWell, IsValid}
use Rattle.public_fold.proofs.Prefixes.{prefix_valid}
use Rattle.store_owner.specs.Drawing.{AreKeys}
use Rattle.stop_laws.proofs.LeftByOwner.{session_begins}

-- ---- journals that begin others

two_at_least : (m : Journal) → BeginsWell m → 2 ≤ length m
two_at_least [] begins = absurd begins
two_at_least (Session ∷ []) begins = absurd begins
two_at_least (Session ∷ Session ∷ entries) begins = absurd begins
two_at_least (Session ∷ Made version keys ∷ entries) begins = omega arith
two_at_least (Session ∷ Did request keys ∷ entries) begins = absurd begins
two_at_least (Session ∷ Upgraded keys ∷ entries) begins = absurd begins
two_at_least (Made version keys ∷ entries) begins = absurd begins
two_at_least (Did request keys ∷ entries) begins = absurd begins
two_at_least (Upgraded keys ∷ entries) begins = absurd begins

all_front : {X : Type 0} (P : X → Type 0) (xs ys : List X) → All P (xs ++ ys) → All P xs
all_front P [] ys all = All-nil P
all_front P (x ∷ xs) ys all = All-cons P x xs (All-head P x (xs ++ ys) all) (all_front P xs ys (All-tail P x (xs ++ ys) all))

-- one that begins with a valid one, and begins a valid one
pub front_valid : (m now held : Journal) → IsValid m → IsPrefix m now → IsPrefix now held → IsValid held → IsValid now
front_valid m now held valid longer to held_valid =
    let least = two_at_least m valid.0 in
    let long : length m + length longer.0 ≡ length now = sym (length-append m longer.0) ∙ ap (λ (l : Journal). length l) longer.1 in
    prefix_valid now to.0 (omega (arith, least, long)) (subst IsValid (sym to.1) held_valid)

pub front_whole : (key : List ℕ) (now held : Journal) → IsPrefix now held → AreWhole key held → AreWhole key now
front_whole key now held to whole =
    let sized : Entry → Type 0 = λ entry. All (λ (k : List ℕ). length k ≡ 32) (drawn_by entry) in
    record { owner_size = whole.owner_size; drawn_sizes = all_front sized now to.0 (subst (All sized) (sym to.1) whole.drawn_sizes) }

-- ---- a command that is accepted

pub accepted : (first : Option Refusal) (full : Bool) → answer_with first full ≡ None → (first ≡ None) × (full ≡ false)
unfolding answer_with
accepted (Some why) full is = absurd (let no : ⊥ = cc in no)
accepted None true is = absurd (let no : ⊥ = cc in no)
accepted None false is = (refl, refl)

pub not_refused : (m : Journal) (b : Bool) (r : Request) → answer version_limits m b r ≡ None
    → (refusal_in (is_strict (keys_of m)) (store_of m) r most_file_bytes ≡ None) × (due_end m b r ≤ most_store_bytes)
unfolding answer keys_of store_of
not_refused m b r is =
    let both = accepted (refusal_in (is_strict (stand_after nothing m).keys) (stand_after nothing m).store r most_file_bytes) (nat_lt most_store_bytes (due_end m b r)) is in
    (both.0, ltb-false most_store_bytes (due_end m b r) both.1)

-- ---- one run

-- what it reached, up to which it kept what it found
pub record Reaches (key : List ℕ) (m : Journal) (KeepsTo : Journal → Type 0) : Type 0 where
  pub reached : Journal
  pub longer : IsPrefix m reached
  pub valid : IsValid reached
  pub whole_keys : AreWhole key reached
  pub kept : KeepsTo reached

module _ (key : List ℕ) (m : Journal) (m_valid : IsValid m) (lines : List InputLine) (seen : Seen) (may_leave : List ℕ → Type 0) (KeepsTo : Journal → Type 0) where
  abbrev Reached : Type 0
  Reached = Reaches key m KeepsTo

  pub settled : (asked : List Request) (session : SessionOver version_limits m asked) → LeavesAt key m session.now seen may_leave → KeepsTo session.now → Reached
  settled asked session leaves kept =
      let whole = leaves.settled.shows.2 in
      record { reached = session.now; longer = session_begins version_limits m asked session; valid = whole.valid; whole_keys = whole.whole_keys; kept = kept }

  ran : (rest : List InputLine) → HasRun version_limits key m lines rest seen may_leave KeepsTo → Reached
  ran rest run = settled run.asked run.session run.leaves run.kept

  cut : RanCut version_limits key m lines seen may_leave KeepsTo → Reached
  cut run = settled run.asked run.session run.leaves run.kept

  to_next : (to : RanTo version_limits m lines seen) → LeavesAt key m to.session.now seen may_leave → KeepsTo to.session.now → Reached
  to_next to leaves kept = settled to.asked to.session leaves kept

  -- the next command was accepted, and met a fault of the disk
  pub next_reached : (asked : List Request) (session : SessionOver version_limits m asked) (next : Request) → answer version_limits session.now session.begun next ≡ None
      → (last : List (List ℕ)) → length last ≡ draws_of session.now next → AreKeys last
      → HoldsBetween key session.now (journal_then session.now session.begun next last) seen.shown may_leave → KeepsTo (journal_then session.now session.begun next last) → Reached
  next_reached asked session next is_accepted last count sizes holds kept =
      let now = session.now in
      let begins = session_begins version_limits m asked session in
      let at = holds.shows.2 in
      let valid = front_valid m now at.held m_valid begins at.from at.stands_for.valid in
      let whole = front_whole key now at.held at.from at.stands_for.whole_keys in
      let fine = not_refused now session.begun next is_accepted in
      let then = journal_then now session.begun next last in
      let step = cond session.begun [] (Session ∷ []) in
      record {
        reached = then;
        longer = prefix_trans m now then begins (step ++ Did next last ∷ [], sym (append_assoc now step (Did next last ∷ [])));
        valid = next_valid now session.begun next last most_file_bytes valid (omega arith) fine.0 count sizes fine.1;
        whole_keys = next_whole key now session.begun next last whole sizes;
        kept = kept;
      }

  unwritten : RanUnwritten version_limits key m lines seen may_leave KeepsTo → Reached
  unwritten run =
      next_reached run.ran.asked run.ran.session run.ran.next run.ran.is_accepted run.last run.last_count run.last_sizes run.holds run.kept

  pub unopened : AreWhole key m → IsUnopened key m seen KeepsTo → Reached
  unopened keys is = record { reached = m; longer = prefix_same m; valid = m_valid; whole_keys = keys; kept = is.kept }

  -- by what `run` says of its end
  pub reached_by : AreWhole key m → (status : Status) (asked : List Request) → Ends status version_limits key m asked lines seen may_leave KeepsTo → Reached
  reached_by keys statuses.Done asked run = ran [] run.0
  reached_by keys (statuses.BadScript line) asked run = ran run.0 run.2
  reached_by keys statuses.ReadFault asked run = ⊎_elim (λ is. unopened keys is.1) (λ all. ran all.0 all.1) run
  reached_by keys (statuses.RandomShort left need) asked run = to_next run.0.ran run.0.leaves run.0.kept
  reached_by keys statuses.RandomFault asked run = to_next run.0.ran run.0.leaves run.0.kept
  reached_by keys statuses.WriteFault asked run = cut run.0
  reached_by keys statuses.DiskFault asked run = ⊎_elim (λ is. unopened keys is.1) (λ all. unwritten all.0) run
  reached_by keys statuses.OutOfMemory asked run = ⊎_elim (λ is. unopened keys is.1) (λ all. cut all.0) run
  reached_by keys statuses.Usage asked run = absurd run
  reached_by keys statuses.NotAStore asked run = absurd run
  reached_by keys (statuses.Damaged at) asked run = absurd run
  reached_by keys statuses.WrongKey asked run = absurd run
  reached_by keys (statuses.Tampered batch at) asked run = absurd run
  reached_by keys statuses.NotBlank asked run = absurd run
  reached_by keys (statuses.NoHolder known) asked run = absurd run
  reached_by keys statuses.Unseen asked run = absurd run
  reached_by keys statuses.NeedsUpgrade asked run = ran lines run.1
  reached_by keys statuses.AlreadyNew asked run = absurd run
  reached_by keys (statuses.Behind have want) asked run = absurd run
  reached_by keys (statuses.Forked batches) asked run = absurd run
  reached_by keys statuses.BadProof asked run = absurd run

  -- by what `gen` says of a script that stopped
  pub stopped_by : (status : Status) → StopsApplying status version_limits key m lines seen may_leave KeepsTo → Reached
  stopped_by (statuses.RandomShort left need) run = to_next run.ran run.leaves run.kept
  stopped_by statuses.RandomFault run = to_next run.ran run.leaves run.kept
  stopped_by statuses.DiskFault run = unwritten run
  stopped_by statuses.OutOfMemory run = cut run
  stopped_by statuses.Done run = absurd run
  stopped_by (statuses.BadScript line) run = absurd run
  stopped_by statuses.ReadFault run = absurd run
  stopped_by statuses.WriteFault run = absurd run
  stopped_by statuses.Usage run = absurd run
  stopped_by statuses.NotAStore run = absurd run
  stopped_by (statuses.Damaged at) run = absurd run
  stopped_by statuses.WrongKey run = absurd run
  stopped_by (statuses.Tampered batch at) run = absurd run
  stopped_by statuses.NotBlank run = absurd run
  stopped_by (statuses.NoHolder known) run = absurd run
  stopped_by statuses.Unseen run = absurd run
  stopped_by statuses.NeedsUpgrade run = absurd run
  stopped_by statuses.AlreadyNew run = absurd run
  stopped_by (statuses.Behind have want) run = absurd run
  stopped_by (statuses.Forked batches) run = absurd run
  stopped_by statuses.BadProof run = absurd run
