-- A session's calls leave what the definition of seats says.
use Rattle.std.proofs.Common.{◌≡◌, ℕ, ◌+◌, ◌<◌, true, false, cond, List, [], ◌∷◌, ◌++◌, length, take, Result, Ok, Err, arith, length-append, sym, ap, subst, ◌∙◌}
use Rattle.std.specs.Prelude.{max, nat_lt}
use Rattle.std.proofs.lemmas.Bool.Decides.{nat_tests}
use Rattle.std.proofs.lemmas.List.{length-take-le}
use Rattle.commit_journal.specs.Answering.{Fault}
use Rattle.commit_journal.specs.Placed.{PlainPlaced}
use Rattle.commit_journal.specs.Streaming.{ShowsGiven}
use Rattle.cry_base.specs.Listed.{Listed}
use Rattle.cry_base.specs.declared.client.Bundle.TheVariants as bundles
use Rattle.cry_base.specs.declared.client.Line as code
use Rattle.cry_base.specs.declared.ids.HolderId.{HolderId}
use Rattle.holder_client.specs.Lines.{plain_view}
use Rattle.journal_bytes.specs.Folds.{log_of}
use Rattle.journal_bytes.specs.Journals.{StandsWholeForJournal}
use Rattle.log_visits.specs.Answering.{AnswersAs, AnswersBy, IsFault}
use Rattle.log_visits.specs.Judging.{Failure, bundle_log, view_with}
use Rattle.log_visits.specs.View.{Line}
use Rattle.log_visits.specs.declared.fault.ClientFault.{ClientFault}
use Rattle.log_visits.specs.declared.fault.ClientFault.TheVariants as faults
use Rattle.public_fold.specs.Journal.{Journal}
use Rattle.read_steps.specs.Steps.{IsSession, SessionView, next_batch, owner_in}
use Rattle.session_laws.specs.Answers.{RepliesTo}
use Rattle.session_laws.specs.Replying.{pinned_view}
use Rattle.session_laws.specs.Seats.{Seat, PlainReply, new_seat, repinned, show_reply, stepped}
use Rattle.session_laws.specs.Serving.{IsHonestKey}
use Rattle.session_laws.specs.Sessions.{IsFromOutside, IsSeatOf, TellsReply}
use Rattle.session_laws.proofs.FrontsRead.{front_goes_on, front_shown, front_stays}
use Rattle.session_laws.proofs.LogsGrown.{log_many}
use Rattle.session_laws.proofs.SeatsForward.{pin_within}
use Rattle.session_laws.proofs.SeatsShown.{front_shows}
use Rattle.session_laws.proofs.WholeRead.{bundle_whole, holder_whole}

same_ok : {A : Type 0} (x y : A) → (let r : Result A Fault = Ok x in r) ≡ Ok y → x ≡ y
same_ok x y is = cc

-- a fault that isn't one of bytes that answer
outside : {A : Type 0} (fault : ClientFault) (wanted : Result A Fault) (x : A) → wanted ≡ Ok x → IsFault fault wanted → IsFromOutside fault
outside faults.NotAStore wanted x is fails = absurd (cc)
outside faults.WrongKey wanted x is fails = absurd (cc)
outside (faults.Damaged at) wanted x is fails = absurd (cc)
outside (faults.Tampered batch at) wanted x is fails = absurd (cc)
outside (faults.NoHolder known) wanted x is fails = absurd fails
outside faults.Unseen wanted x is fails = absurd fails
outside faults.DiskFault wanted x is fails = tt
outside faults.OutOfMemory wanted x is fails = tt

-- ---- a session that is begun

module _ (owner : List ℕ) (m : Journal) (bytes : List ℕ) (whole : StandsWholeForJournal owner m bytes) where
  -- as many are published as there are entries
  published : (h : HolderId) (key : List ℕ) (log : List PlainPlaced) → bundle_log (bundles.Holder h key) bytes ≡ Ok log → length log ≡ length m
  published h key log is =
      ap (λ (l : List PlainPlaced). length l) (same_ok log (log_of owner m) (sym is ∙ bundle_whole owner m bytes h key whole)) ∙ log_many owner m

  pub seat_begun : (h : HolderId) (key : List ℕ) (session : SessionView) → session.bundle ≡ bundles.Holder h key → session.log.given ≡ [] → IsSession session →
      AnswersBy (λ (s : SessionView) (log : List PlainPlaced). s.pinned ≡ length log) (Ok session) (bundle_log (bundles.Holder h key) bytes) →
      IsSeatOf owner m (new_seat m h.0 key) session
  unfolding new_seat
  seat_begun h key session bundle none is answers = record {
    bundle = bundle;
    front = record {
      no_owner = is.owner ∙ ap owner_in bundle;
      placed = is.placed;
      given = none;
      within = omega arith;
    };
    pinned = answers.2 ∙ published h key answers.0 answers.1;
    within = record { read = omega arith; pinned = omega arith };
  }

  pub seat_pinned : (seat : Seat) (old new : SessionView) → IsSeatOf owner m seat old →
      AnswersBy (λ (u : Unit {0}) (log : List PlainPlaced). new ≡ record old { pinned = max old.pinned (length log) }) (Ok tt) (bundle_log old.bundle bytes) →
      IsSeatOf owner m (repinned m seat) new
  unfolding repinned
  seat_pinned seat old new is answers =
      let log : List PlainPlaced = answers.0 in
      let read : bundle_log old.bundle bytes ≡ Ok log = answers.1 in
      let many : length log ≡ length m =
      published (record { 0 = seat.holder }) seat.key log (ap (λ b. bundle_log b bytes) (sym is.bundle) ∙ read)
      in
      subst (IsSeatOf owner m (record seat { pinned = max seat.pinned (length m) })) (sym answers.2)
      (record {
        bundle = is.bundle;
        front = is.front;
        pinned = ap (λ n. max n (length log)) is.pinned ∙ ap (max seat.pinned) many;
        within = pin_within m seat is.within;
      })

  pub seat_stepped : (seat : Seat) (old new : SessionView) → IsSeatOf owner m seat old → seat.read < seat.pinned → new.bundle ≡ old.bundle → new.pinned ≡ old.pinned →
      IsSession new → AnswersBy (λ (u : Unit {0}) turn. new.log.given ≡ old.log.given ++ turn.placed ∷ []) (Ok tt) (next_batch old.log bytes) →
      IsSeatOf owner m (stepped seat) new
  unfolding stepped
  seat_stepped seat old new is left bundle pinned new_is answers =
      let few : nat_lt seat.read seat.pinned ≡ true = grind (arith, nat_tests) in
      let held = is.within in
      let more : seat.read < length m = omega (arith, held.pinned, left) in
      let next = front_goes_on owner m seat.read old.log bytes whole.valid whole.whole_keys (holder_whole owner m bytes whole) is.front more in
      let turn = same_ok answers.0 next.0 (sym answers.1 ∙ next.1) in
      subst (λ test. IsSeatOf owner m (cond test (record seat { read = seat.read + 1 }) seat) new) (sym few)
      (record {
        bundle = bundle ∙ is.bundle;
        front = record {
          no_owner = new_is.owner ∙ ap owner_in (bundle ∙ is.bundle);
          placed = new_is.placed;
          given = answers.2 ∙ ap (λ t. old.log.given ++ t.placed ∷ []) turn ∙ next.2;
          within = omega (arith, more);
        };
        pinned = pinned ∙ is.pinned;
        within = record { read = omega (arith, left); pinned = held.pinned };
      })

  pub seat_can_show : (seat : Seat) (session : SessionView) → IsSeatOf owner m seat session → ShowsGiven session.log bytes
  seat_can_show seat session is =
      front_shown owner m seat.read session.log bytes whole.valid whole.whole_keys (holder_whole owner m bytes whole) is.front

  pub seat_log : (h : HolderId) (key : List ℕ) (fault : ClientFault) → IsFault fault (bundle_log (bundles.Holder h key) bytes) → IsFromOutside fault
  seat_log h key fault fails = outside fault (bundle_log (bundles.Holder h key) bytes) (log_of owner m) (bundle_whole owner m bytes h key whole) fails

  pub seat_batch : (seat : Seat) (session : SessionView) (fault : ClientFault) → IsSeatOf owner m seat session → seat.read < seat.pinned →
      IsFault fault (next_batch session.log bytes) → IsFromOutside fault
  seat_batch seat session fault is left fails =
      let held = is.within in
      let next = front_goes_on owner m seat.read session.log bytes whole.valid whole.whole_keys (holder_whole owner m bytes whole) is.front (omega (arith, held.pinned, left)) in
      outside fault (next_batch session.log bytes) next.0 next.1 fails

  -- ---- what is shown

  told : (result : Result (Listed code.Line) ClientFault) (wanted : Result (List Line) Failure) (reply : PlainReply) → AnswersAs plain_view result wanted → RepliesTo wanted reply →
      TellsReply result reply
  told (Ok lines) wanted reply answers replies = subst (λ z. RepliesTo z reply) answers replies
  told (Err faults.NotAStore) wanted reply answers replies = subst (λ z. RepliesTo z reply) answers replies
  told (Err faults.WrongKey) wanted reply answers replies = subst (λ z. RepliesTo z reply) answers replies
  told (Err (faults.Damaged at)) wanted reply answers replies = subst (λ z. RepliesTo z reply) answers replies
  told (Err (faults.Tampered batch at)) wanted reply answers replies = subst (λ z. RepliesTo z reply) answers replies
  told (Err (faults.NoHolder known)) wanted reply answers replies = subst (λ z. RepliesTo z reply) answers replies
  told (Err faults.Unseen) wanted reply answers replies = subst (λ z. RepliesTo z reply) answers replies
  told (Err faults.DiskFault) wanted reply answers replies = tt
  told (Err faults.OutOfMemory) wanted reply answers replies = tt

  -- for every key
  pub seat_view : (seat : Seat) (session : SessionView) → IsSeatOf owner m seat session → seat.read ≡ seat.pinned → view_with session.bundle (Ok session.log.given) ≡ pinned_view owner m seat
  unfolding pinned_view
  seat_view seat session is all =
      let given : session.log.given ≡ take seat.pinned (log_of owner m) = is.front.given ∙ ap (λ n. take n (log_of owner m)) all in
      ap (λ b. view_with b (Ok session.log.given)) is.bundle
      ∙ ap (λ (l : List PlainPlaced). view_with (bundles.Holder (record { 0 = seat.holder }) seat.key) (Ok l)) given

  pub replies_so : (seat : Seat) (session : SessionView) → IsSeatOf owner m seat session → seat.read ≡ seat.pinned → IsHonestKey m seat.holder seat.key →
      RepliesTo (view_with session.bundle (Ok session.log.given)) (show_reply m seat)
  unfolding show_reply pinned_view
  replies_so seat session is all honest =
      let held = is.within in
      let not_less : nat_lt seat.read seat.pinned ≡ false = grind (arith, nat_tests) in
      rw (seat_view seat session is all, not_less) (front_shows owner m whole.valid whole.whole_keys seat.pinned (record { 0 = seat.holder }) seat.key held.pinned honest)

  pub seat_shown : (seat : Seat) (session : SessionView) (result : Result (Listed code.Line) ClientFault) → IsSeatOf owner m seat session → seat.read ≡ seat.pinned →
      IsHonestKey m seat.holder seat.key → AnswersAs plain_view result (view_with session.bundle (Ok session.log.given)) → TellsReply result (show_reply m seat)
  seat_shown seat session result is all honest answers =
      told result (view_with session.bundle (Ok session.log.given)) (show_reply m seat) answers (replies_so seat session is all honest)

-- ---- the journal goes on

pub seat_grows : (owner : List ℕ) (m more : Journal) (seat : Seat) (session : SessionView) → IsSeatOf owner m seat session → IsSeatOf owner (m ++ more) seat session
seat_grows owner m more seat session is =
    let held = is.within in
    record {
      bundle = is.bundle;
      front = front_stays owner m more seat.read session.log is.front;
      pinned = is.pinned;
      within = record { read = held.read; pinned = omega (arith, held.pinned, length-append m more) };
    }

pub seat_counts : (owner : List ℕ) (m : Journal) (seat : Seat) (session : SessionView) → IsSeatOf owner m seat session → length session.log.given ≡ seat.read
seat_counts owner m seat session is =
    let many = log_many owner m in
    ap (λ (l : List PlainPlaced). length l) is.front.given ∙ length-take-le seat.read (log_of owner m) (omega (arith, many, is.front.within))
