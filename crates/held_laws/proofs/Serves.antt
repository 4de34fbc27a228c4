-- What a call of `serve` made of the journal that it found, and what may be left of it.
use Rattle.std.proofs.Common.{⊎_elim, ℕ, List, [], ◌++◌}
use Rattle.cli_base.specs.declared.status.Status.{Status}
use Rattle.cli_base.specs.declared.status.Status.TheVariants as statuses
use Rattle.cli_serving.specs.Served.{HasServed}
use Rattle.cli_serving.specs.Serves.{Serves, ServesAll, ServesCut, ServesLast, ServesUnwritten}
use Rattle.cli_sessions.specs.Sessions.{IsUnopened, LeavesAt, Seen, SessionOver, version_limits}
use Rattle.cry_base.specs.Requests.{Request}
use Rattle.journal_bytes.specs.Keys.{AreWhole}
use Rattle.public_fold.specs.Journal.{Journal}
use Rattle.public_fold.specs.Valid.{IsValid}
use Rattle.script_text.specs.Seats.{Turn}
use Rattle.held_laws.proofs.Gone.{Gone, next_gone, settled, unopened}

module _ (key : List ℕ) (m : Journal) (m_valid : IsValid m) (seen : Seen) (may_leave : List ℕ → Type 0) (KeepsTo : Journal → Type 0) where
  abbrev Here : Type 0
  Here = Gone key m seen.shown may_leave KeepsTo

  at_rest : (asked : List Request) (session : SessionOver version_limits m asked) → LeavesAt key m session.now seen may_leave → KeepsTo session.now → Here
  at_rest asked session leaves kept = settled key m m_valid [] seen may_leave KeepsTo asked session leaves kept

  done : (turns : List Turn) (asked : List Request) (text : List ℕ) → HasServed version_limits key m turns asked text seen may_leave KeepsTo → Here
  done turns asked text served = at_rest asked served.session served.leaves served.kept

  whole : (turns : List Turn) (asked : List Request) → ServesAll version_limits key m turns asked seen may_leave KeepsTo → Here
  whole turns asked all = done turns asked all.text all.served

  cut : (turns : List Turn) (asked : List Request) → ServesCut version_limits key m turns asked seen may_leave KeepsTo → Here
  cut turns asked all = done turns asked (all.first ++ all.last) all.served

  last : (turns : List Turn) (asked : List Request) → ServesLast version_limits key m turns asked seen may_leave KeepsTo → Here
  last turns asked all = at_rest asked all.to.session all.leaves all.kept

  unwritten : (turns : List Turn) (asked : List Request) → ServesUnwritten version_limits key m turns asked seen may_leave KeepsTo → Here
  unwritten turns asked run =
      next_gone key m m_valid [] seen may_leave KeepsTo asked run.ran.to.session run.ran.next run.ran.is_accepted run.last run.last_count run.last_sizes run.holds run.kept

  closed : AreWhole key m → IsUnopened key m seen KeepsTo → Here
  closed keys is = unopened key m m_valid [] seen may_leave KeepsTo keys is.kept

  -- by what `serve` says of its end
  pub served_gone : AreWhole key m → (status : Status) (turns : List Turn) (asked : List Request) → Serves status version_limits key m turns asked seen may_leave KeepsTo
      → Here
  served_gone keys statuses.Done turns asked run = whole turns asked run
  served_gone keys (statuses.BadScript line) turns asked run = whole turns asked run
  served_gone keys statuses.NeedsUpgrade turns asked run = whole turns asked run.1
  served_gone keys statuses.ReadFault turns asked run = ⊎_elim (λ is. closed keys is.2) (λ all. whole turns asked all) run
  served_gone keys statuses.WriteFault turns asked run = ⊎_elim (λ all. cut turns asked all) (λ all. last turns asked all) run
  served_gone keys (statuses.RandomShort left need) turns asked run = at_rest asked run.ran.to.session run.leaves run.kept
  served_gone keys statuses.RandomFault turns asked run = at_rest asked run.ran.to.session run.leaves run.kept
  served_gone keys statuses.DiskFault turns asked run =
      ⊎_elim (λ is. closed keys is.2) (λ opened. ⊎_elim (λ all. whole all.0 asked all.3) (λ one. unwritten turns asked one) opened) run
  served_gone keys statuses.OutOfMemory turns asked run =
      ⊎_elim
      (λ is. closed keys is.2)
      (λ opened. ⊎_elim (λ all. whole all.0 asked all.3) (λ more. ⊎_elim (λ all. cut turns asked all) (λ all. last turns asked all) more) opened)
      run
  served_gone keys (statuses.Damaged at) turns asked run = whole run.0 asked run.3.all
  served_gone keys (statuses.Tampered batch at) turns asked run = whole run.0 asked run.3.all
  served_gone keys statuses.Usage turns asked run = absurd run
  served_gone keys statuses.NotAStore turns asked run = absurd run
  served_gone keys statuses.WrongKey turns asked run = absurd run
  served_gone keys statuses.NotBlank turns asked run = absurd run
  served_gone keys (statuses.NoHolder known) turns asked run = absurd run
  served_gone keys statuses.Unseen turns asked run = absurd run
  served_gone keys statuses.AlreadyNew turns asked run = absurd run
  served_gone keys (statuses.Behind have want) turns asked run = absurd run
  served_gone keys (statuses.Forked batches) turns asked run = absurd run
  served_gone keys statuses.BadProof turns asked run = absurd run
