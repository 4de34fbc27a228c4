-- How `serve` ends, where more is known of what it kept.
use Rattle.std.proofs.Common.{⊎_elim, inl, inr, ℕ, List, ◌++◌}
use Rattle.cry_base.specs.Requests.{Request}
use Rattle.cry_base.specs.declared.limits.Limits.{Limits}
use Rattle.log_visits.specs.declared.fault.ClientFault.{ClientFault}
use Rattle.log_visits.specs.declared.fault.ClientFault.TheVariants as client
use Rattle.public_fold.specs.Journal.{Journal}
use Rattle.script_text.specs.Seats.{Turn}
use Rattle.cli_base.specs.declared.status.Status.{Status}
use Rattle.cli_base.specs.declared.status.Status.TheVariants as statuses
use Rattle.cli_sessions.specs.Sessions.{IsUnopened, Seen}
use Rattle.cli_serving.specs.Served.{HasServed}
use Rattle.cli_serving.specs.Serves.{Serves, ServesAll, ServesAmiss, ServesCut, ServesLast}

module _ (limits : Limits) (key : List ℕ) (m : Journal) (seen : Seen) (may_leave : List ℕ → Type 0) (KeepsTo More : Journal → Type 0) (more : (reached : Journal) → KeepsTo reached → More reached) where
  abbrev served_more : (turns : List Turn) (asked : List Request) (text : List ℕ) → HasServed limits key m turns asked text seen may_leave KeepsTo
      → HasServed limits key m turns asked text seen may_leave More
  served_more turns asked text served = record {
    session = served.session;
    goes = served.goes;
    asks = served.asks;
    draws = served.draws;
    leaves = served.leaves;
    kept = more served.session.now served.kept;
    answered = served.answered;
    prints = served.prints;
  }

  abbrev all_more : (turns : List Turn) (asked : List Request) → ServesAll limits key m turns asked seen may_leave KeepsTo → ServesAll limits key m turns asked seen may_leave More
  all_more turns asked serves = record { text = serves.text; served = served_more turns asked serves.text serves.served; prints = serves.prints }

  abbrev cut_more : (turns : List Turn) (asked : List Request) → ServesCut limits key m turns asked seen may_leave KeepsTo → ServesCut limits key m turns asked seen may_leave More
  cut_more turns asked serves = record {
    front = serves.front;
    ask = serves.ask;
    turns_are = serves.turns_are;
    first = serves.first;
    last = serves.last;
    served = served_more turns asked (serves.first ++ serves.last) serves.served;
    answered_first = serves.answered_first;
    answers_first = serves.answers_first;
    prints = serves.prints;
  }

  abbrev amiss_more : (met : ClientFault) (n : ℕ) (turns : List Turn) (asked : List Request) → ServesAmiss met n limits key m turns asked seen may_leave KeepsTo → ServesAmiss met n limits key m turns asked seen may_leave More
  amiss_more met n turns asked serves = record {
    all = all_more turns asked serves.all;
    seat = serves.seat;
    seat_is = serves.seat_is;
    all_read = serves.all_read;
    fails = serves.fails;
    dishonest = serves.dishonest;
    amiss = serves.amiss;
  }

  abbrev last_more : (turns : List Turn) (asked : List Request) → ServesLast limits key m turns asked seen may_leave KeepsTo → ServesLast limits key m turns asked seen may_leave More
  last_more turns asked serves = record { to = serves.to; draws = serves.draws; leaves = serves.leaves; kept = more serves.to.session.now serves.kept }

  abbrev unopened_more : IsUnopened key m seen KeepsTo → IsUnopened key m seen More
  unopened_more is = record { undrawn = is.undrawn; shows_still = is.shows_still; unprinted = is.unprinted; kept = more m is.kept }

  pub serves_more : (status : Status) (turns : List Turn) (asked : List Request) → Serves status limits key m turns asked seen may_leave KeepsTo → Serves status limits key m turns asked seen may_leave More
  serves_more statuses.Done turns asked serves = all_more turns asked serves
  serves_more (statuses.BadScript line) turns asked serves = all_more turns asked serves
  serves_more statuses.NeedsUpgrade turns asked serves = (serves.0, all_more turns asked serves.1)
  serves_more statuses.ReadFault turns asked serves = ⊎_elim (λ is. inl (is.0, is.1, unopened_more is.2)) (λ done. inr (all_more turns asked done)) serves
  serves_more statuses.WriteFault turns asked serves = ⊎_elim (λ is. inl (cut_more turns asked is)) (λ is. inr (last_more turns asked is)) serves
  serves_more (statuses.RandomShort left need) turns asked serves = record {
    ran = serves.ran;
    is_need = serves.is_need;
    is_short = serves.is_short;
    were_left = serves.were_left;
    nothing_left = serves.nothing_left;
    leaves = serves.leaves;
    kept = more serves.ran.to.session.now serves.kept;
  }
  serves_more statuses.RandomFault turns asked serves = record {
    ran = serves.ran;
    drew = serves.drew;
    leaves = serves.leaves;
    kept = more serves.ran.to.session.now serves.kept;
  }
  serves_more statuses.DiskFault turns asked serves =
      ⊎_elim (λ is. inl (is.0, is.1, unopened_more is.2))
      (λ behind. inr (⊎_elim (λ read. inl (read.0, read.1, read.2, all_more read.0 asked read.3))
      (λ stops. inr (record {
        ran = stops.ran;
        last = stops.last;
        last_count = stops.last_count;
        last_sizes = stops.last_sizes;
        draws = stops.draws;
        holds = stops.holds;
        kept = more _ stops.kept;
      }))
      behind))
      serves
  serves_more statuses.OutOfMemory turns asked serves =
      ⊎_elim (λ is. inl (is.0, is.1, unopened_more is.2))
      (λ behind. inr (⊎_elim (λ done. inl (done.0, done.1, done.2, all_more done.0 asked done.3))
      (λ ends. inr (⊎_elim (λ is. inl (cut_more turns asked is)) (λ is. inr (last_more turns asked is)) ends))
      behind))
      serves
  serves_more statuses.NotAStore turns asked serves = absurd serves
  serves_more statuses.WrongKey turns asked serves = absurd serves
  serves_more (statuses.Damaged at) turns asked serves = (serves.0, serves.1, serves.2, amiss_more (client.Damaged at) serves.1 serves.0 asked serves.3)
  serves_more (statuses.Tampered batch at) turns asked serves = (serves.0, serves.1, serves.2, amiss_more (client.Tampered batch at) serves.1 serves.0 asked serves.3)
  serves_more statuses.Usage turns asked serves = absurd serves
  serves_more statuses.NotBlank turns asked serves = absurd serves
  serves_more (statuses.NoHolder known) turns asked serves = absurd serves
  serves_more statuses.Unseen turns asked serves = absurd serves
  serves_more statuses.AlreadyNew turns asked serves = absurd serves
  serves_more (statuses.Behind have want) turns asked serves = absurd serves
  serves_more (statuses.Forked batches) turns asked serves = absurd serves
  serves_more statuses.BadProof turns asked serves = absurd serves
