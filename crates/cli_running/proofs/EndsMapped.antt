-- How `run` ends, where more is known of what it kept.
use Rattle.std.proofs.Common.{⊎_elim, inl, inr, ℕ, List, []}
use Rattle.cry_base.specs.Requests.{Request}
use Rattle.cry_base.specs.declared.limits.Limits.{Limits}
use Rattle.cli_base.specs.Lines.{InputLine}
use Rattle.cli_sessions.specs.Sessions.{Ends, HasRun, IsUnopened, RanCut, RanUnwritten, Seen}
use Rattle.cli_base.specs.declared.status.Status.{Status}
use Rattle.cli_base.specs.declared.status.Status.TheVariants as statuses
use Rattle.public_fold.specs.Journal.{Journal}

module _ (limits : Limits) (key : List ℕ) (m : Journal) (lines : List InputLine) (seen : Seen) (may_leave : List ℕ → Type 0) (KeepsTo More : Journal → Type 0)
    (more : (reached : Journal) → KeepsTo reached → More reached) where
  abbrev has_run : (rest : List InputLine) → HasRun limits key m lines rest seen may_leave KeepsTo → HasRun limits key m lines rest seen may_leave More
  has_run rest run = record {
    asked = run.asked;
    asks = run.asks;
    session = run.session;
    stood = run.stood;
    draws = run.draws;
    leaves = run.leaves;
    kept = more run.session.now run.kept;
    prints = run.prints;
  }

  abbrev ran_cut : RanCut limits key m lines seen may_leave KeepsTo → RanCut limits key m lines seen may_leave More
  ran_cut run = record {
    asked = run.asked;
    rest = run.rest;
    asks = run.asks;
    session = run.session;
    stood = run.stood;
    draws = run.draws;
    leaves = run.leaves;
    kept = more run.session.now run.kept;
    prints = run.prints;
  }

  unopened : IsUnopened key m seen KeepsTo → IsUnopened key m seen More
  unopened is = record { undrawn = is.undrawn; shows_still = is.shows_still; unprinted = is.unprinted; kept = more m is.kept }

  abbrev ran_unwritten : RanUnwritten limits key m lines seen may_leave KeepsTo → RanUnwritten limits key m lines seen may_leave More
  ran_unwritten run = record {
    ran = run.ran;
    last = run.last;
    last_count = run.last_count;
    last_sizes = run.last_sizes;
    draws = run.draws;
    holds = run.holds;
    kept = more _ run.kept;
  }

  pub ends_more : (status : Status) (asked : List Request) → Ends status limits key m asked lines seen may_leave KeepsTo → Ends status limits key m asked lines seen may_leave More
  ends_more statuses.Done asked run = (has_run [] run.0, run.1)
  ends_more (statuses.BadScript line) asked run = (run.0, run.1, has_run run.0 run.2, run.3, run.4)
  ends_more statuses.ReadFault asked run = ⊎_elim (λ is. inl (is.0, unopened is.1)) (λ all. inr (all.0, has_run all.0 all.1, all.2)) run
  ends_more (statuses.RandomShort left need) asked run = (
    record {
      ran = run.0.ran;
      is_need = run.0.is_need;
      is_short = run.0.is_short;
      were_left = run.0.were_left;
      nothing_left = run.0.nothing_left;
      leaves = run.0.leaves;
      kept = more run.0.ran.session.now run.0.kept;
    },
    run.1,
  )
  ends_more statuses.RandomFault asked run =
      (record { ran = run.0.ran; drew = run.0.drew; leaves = run.0.leaves; kept = more run.0.ran.session.now run.0.kept }, run.1)
  ends_more statuses.WriteFault asked run = (ran_cut run.0, run.1)
  ends_more statuses.DiskFault asked run = ⊎_elim (λ is. inl (is.0, unopened is.1)) (λ all. inr (ran_unwritten all.0, all.1)) run
  ends_more statuses.OutOfMemory asked run = ⊎_elim (λ is. inl (is.0, unopened is.1)) (λ all. inr (ran_cut all.0, all.1)) run
  ends_more statuses.Usage asked run = absurd run
  ends_more statuses.NotAStore asked run = absurd run
  ends_more (statuses.Damaged at) asked run = absurd run
  ends_more statuses.WrongKey asked run = absurd run
  ends_more (statuses.Tampered batch at) asked run = absurd run
  ends_more statuses.NotBlank asked run = absurd run
  ends_more (statuses.NoHolder known) asked run = absurd run
  ends_more statuses.Unseen asked run = absurd run
  ends_more statuses.NeedsUpgrade asked run = (run.0, has_run lines run.1, run.2)
  ends_more statuses.AlreadyNew asked run = absurd run
  ends_more (statuses.Behind have want) asked run = absurd run
  ends_more (statuses.Forked batches) asked run = absurd run
  ends_more statuses.BadProof asked run = absurd run
