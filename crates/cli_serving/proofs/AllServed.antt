-- Lines of `serve` over an owner and a disk that stand for a journal: the session goes and the lines are answered as the definition of seats
-- says, and the disk is where the session stands. First where all were done, then where a session's line was the last, then the owner's.
use Rattle.std.proofs.Common.{◌≡◌, ◌≢◌, ◌⊎◌, ◌+◌, Bool, true, ⊎_elim, inl, inr, ℕ, cond, List, [], ◌∷◌, ◌++◌, drop, length, Option, Some, None, Err, append_assoc, arith, refl, sym, ap, subst, ◌∙◌}
use Rattle.std.proofs.lemmas.List.{append_cancel_left}
use Rattle.batch_log.specs.Handing.{IsStage, IsTornStage, all_written}
use Rattle.batch_log.proofs.Handed.{at_end}
use Rattle.batch_log.proofs.Moments.{in_both}
use Rattle.batch_log.proofs.WrittenMoments.{told_one}
use Rattle.commit_journal.specs.Holding.{IsKept, IsPrefix}
use Rattle.commit_journal.proofs.KeptLemmas.{prefix_same, prefix_trans}
use Rattle.cry_base.specs.Requests.{Request}
use Rattle.cry_base.specs.declared.commands.Reply.{Reply}
use Rattle.cry_base.proofs.Members.{In-append}
use Rattle.cry_io.specs.Stops.{IsDurable}
use Rattle.cry_io.specs.Told.{WhereBothTold}
use Rattle.cry_io.proofs.ToldLemmas.{both_told_through}
use Rattle.group_book.specs.Asked.{asked_of}
use Rattle.journal_bytes.specs.Bytes.{image_of}
use Rattle.journal_bytes.specs.Journals.{StandsForJournal}
use Rattle.journal_bytes.specs.Script.{Going, answer, journal_then, opened, script_going, script_replies}
use Rattle.public_fold.specs.Journal.{Journal}
use Rattle.public_fold.specs.Journal.Entry.{Session, Did}
use Rattle.public_fold.specs.Valid.{IsValid}
use Rattle.read_steps.specs.Steps.{SessionView}
use Rattle.log_visits.specs.declared.fault.ClientFault.{ClientFault}
use Rattle.script_text.specs.Seats.{SeatAsk, Turn}
use Rattle.script_text.specs.Seats.SeatAsk.{Begins, Shows}
use Rattle.script_text.specs.Seats.Turn.{ToOwner, ToSeat}
use Rattle.script_text.specs.Tasks.{Task}
use Rattle.session_laws.specs.Replying.{AnswersTurns}
use Rattle.session_laws.specs.Seats.{PlainReply, Seat, seat_at}
use Rattle.session_laws.specs.Serving.{HaveHonestKeys, served_text, served_then, spell_plain_reply}
use Rattle.session_laws.specs.Sessions.{IsFromOutside}
use Rattle.store_owner.specs.Applying.{Answers}
use Rattle.store_owner.specs.Deeds.Deed.{Commanded}
use Rattle.store_owner.specs.Drawing.{joined}
use Rattle.store_owner.specs.Owned.{OwnerView, limits_in}
use Rattle.store_owner.specs.Sessions.{StandsAt, with_draws}
use Rattle.store_owner.specs.Stopping.{ComesToRest, RestsAt, StopsBetween, journal_writes}
use Rattle.store_owner.proofs.OwnerGoesOn.{drops_more}
use Rattle.store_owner.proofs.PublishedCommands.{rests_for}
use Rattle.store_owner.specs.declared.apply_fault.ApplyFault.{ApplyFault}
use Rattle.store_owner.specs.declared.apply_fault.ApplyFault.TheVariants as faults
use Rattle.cli_sessions.specs.Sessions.{KeepsBehind, KeepsFrom, LeavesAt, Seen, version_limits}
use Rattle.cli_sessions.specs.Stopping.{LinesKeepUpTo}
use Rattle.cli_sessions.specs.Script.{Answered, IsAsked, PrintsCut, StandsFor, spell_replies}
use Rattle.cli_sessions.specs.Script.Answered.{Begun}
use Rattle.cli_sessions.proofs.LineScripts.{Reached as Reach, line_stands, reached_on}
use Rattle.cli_sessions.proofs.AnsweredScripts.{joined_more}
use Rattle.cli_sessions.proofs.OwnerEnds.{owner_end}
use Rattle.cli_sessions.proofs.RunEnds.{accepted_there, still_told}
use Rattle.cli_sessions.proofs.ScriptLemmas.{whole_is_cut}
use Rattle.cli_sessions.proofs.StoodLemmas.{StandsThere, front_line, going_append, replies_append}
use Rattle.session_laws.proofs.KeysHonest.{seat_in}
use Rattle.session_laws.proofs.SeatsForward.{script_grows}
use Rattle.cli_sessions.proofs.RunLemmas.{Fails, IsCounted, IsPresent, Stand, Step, leaves, moments, rests_there, scene}
use Rattle.cli_sessions.proofs.StopLemmas.{Stays, rests_settled, stays_on, stops_on}
use Rattle.cli_sessions.specs.OwnerSteps.{Scene, StandsIn}
use Rattle.cli_serving.specs.Seating.{FailsSeat, SeatWent}
use Rattle.cli_serving.specs.Served.{HasServed, turns_ask}
use Rattle.cli_serving.specs.Serves.{PrintsAllOf, PrintsFrontOf, ServesAll, ServesAmiss, ServesCut, ServesLast, ServesNext, ServesShort, ServesTo, ServesUndrawn, ServesUnwritten}
use Rattle.cli_serving.specs.Turned.{SeatsTurn, Turned}
use Rattle.cli_serving.specs.Went.{LineDone}
use Rattle.cli_serving.proofs.OwnerTurns.{At, at_line, at_read, at_start, at_whole, stands_before}
use Rattle.cli_serving.proofs.ReadBetween.{commands_behind}
use Rattle.cli_serving.proofs.ReadOn.{Reads, StaysSame, read_nothing, reads_then, step_on}
use Rattle.cli_serving.proofs.SeatTurns.{IsAmiss, MayFailSeat, seat_amiss, seat_may_fail}
use Rattle.cli_serving.proofs.TurnsServed.{Served, seated, seats_honest, serving, turns_served}

-- a disk that rests still rests when it was only read
rests_read : (key : List ℕ) (m : Journal) (was shown : Option (List ℕ)) (left leaves : List ℕ → Type 0) (first now : ℕ) (past since : ℕ → List ℕ → List ℕ → Type 0) →
    StaysSame was shown left leaves first now past since → RestsAt key m was left → RestsAt key m shown leaves
rests_read key m was shown left leaves first now past since read rests = record {
  shows = (rests.shows.0, read.shows ∙ rests.shows.1, rests.shows.2);
  durable = λ c may. read.shows ∙ rests.durable c ((read.stops c).0 may);
}

-- and it was kept, and was handed nothing
lines_read : (key : List ℕ) (m j : Journal) (start first now : ℕ) (showed was shown : Option (List ℕ)) (left leaves : List ℕ → Type 0) (past since : ℕ → List ℕ → List ℕ → Type 0) →
    Stays key m j start first showed was left past → StaysSame was shown left leaves first now past since → LinesKeepUpTo key m showed shown (since start) j
lines_read key m j start first now showed was shown left leaves past since stays read = record {
  grown = stays.grown;
  kept = in_both start first past since (λ s c. IsKept (StandsForJournal key) m m j c) stays.order read.time stays.kept
      (λ s c at.
      let is = read.same s c at in
      (let held : IsKept (StandsForJournal key) m m j c = record {
        held = j;
        from = stays.grown;
        to = inr (prefix_same j);
        stands_for = rests_for key j was left stays.rests c (stays.rests.durable c is.1);
      } in held));
  hands = λ x x_is.
      let writes = journal_writes key m j in
      in_both start first past since (λ s c. IsStage writes x s ⊎ (Unit {0} × (shown ≡ Some s) × IsTornStage writes x s)) stays.order read.time
      (λ s c at. ⊎_elim (λ done. inl done) (λ torn. inr (torn.0, read.shows ∙ torn.1, torn.2)) (stays.hands x x_is s c at))
      (λ s c at. inl (subst (λ r. IsStage writes x r) (told_one was (all_written writes x) s (stays.handed x x_is) (read.same s c at).0) (at_end writes x)));
}

module _ (R D : Type 0) (left : R → Option (List ℕ)) (random_faults : R → ℕ) (shown : D → Option (List ℕ)) (disk_faults : D → ℕ)
    (may_leave : D → List ℕ → Type 0) (moment : D → ℕ) (since : D → ℕ → List ℕ → List ℕ → Type 0)
    (present : IsPresent R D left random_faults shown disk_faults may_leave moment since) (counted : IsCounted R D left random_faults shown disk_faults may_leave moment since)
    (start : OwnerView × R × D) (key : List ℕ) (m : Journal) (stands : StandsAt version_limits key (opened m []) start.0 (shown start.2)) (durable : IsDurable (may_leave start.2) (shown start.2))
    (first_shown : Option (List ℕ)) (first_kept : KeepsFrom (length (image_of key m)) first_shown (shown start.2)) where
  abbrev X : Type 0
  X = OwnerView × R × D

  abbrev Goes : X → Request → Reply → X → Type 0
  Goes = Step R D left random_faults shown disk_faults may_leave moment since

  abbrev Meets : X → Request → ApplyFault → X → Type 0
  Meets = Fails R D left random_faults shown disk_faults may_leave moment since

  abbrev Means : X → ℕ → List Request → Type 0
  Means = Stand R D left random_faults shown disk_faults may_leave moment since

  abbrev Sees : X → X → Type 0
  Sees = Reads R D left random_faults shown disk_faults may_leave moment since

  abbrev place : X → Scene
  place = scene R D left random_faults shown disk_faults may_leave moment since

  abbrev shows : X → Option (List ℕ)
  shows x = shown x.2

  abbrev left_of : X → Option (List ℕ)
  left_of x = left x.1

  abbrev g : Going
  g = opened m []

  pub rests : RestsAt key g.journal (shown start.2) (may_leave start.2)
  unfolding opened
  rests = rests_there version_limits key m start.0 (shown start.2) (may_leave start.2) stands durable

  abbrev Here : List Request → List Reply → List (List ℕ) → Going → X → Type 0
  Here = At X place (leaves R D left random_faults shown disk_faults may_leave moment since) (moments R D left random_faults shown disk_faults may_leave moment since) Goes Meets
      (λ x r reply y step. step.0) start version_limits key g stands (present start.2) rests Means (λ x n commands so. so) Sees
      (read_nothing R D left random_faults shown disk_faults may_leave moment since present counted) (reads_then R D left random_faults shown disk_faults may_leave moment since present counted)
      (step_on R D left random_faults shown disk_faults may_leave moment since present counted)
      (λ x z reads. ap left reads.1) (λ x z reads. reads.2.same.shows) (λ x z reads n commands so. subst (λ o. StandsIn o n commands) reads.0 so)

  abbrev Went : List Turn → List Request → List ℕ → List SessionView → X → Type 0
  Went turns asked text sessions x = Turned (LineDone Goes Meets Means) Sees shows start turns asked text sessions x

  -- where the lines stand, all of them done
  pub record Reached (turns : List Turn) (asked : List Request) (text : List ℕ) (sessions : List SessionView) (x : X) : Type 0 where
    pub so : Served X version_limits key Here left_of start g turns asked text sessions x

  pub reached : (turns : List Turn) (asked : List Request) (text : List ℕ) (sessions : List SessionView) (x : X) → Went turns asked text sessions x → Reached turns asked text sessions x
  reached turns asked text sessions x went = record {
    so = turns_served X version_limits key Here left_of shows (LineDone Goes Meets Means) Sees
        (at_line X place (leaves R D left random_faults shown disk_faults may_leave moment since) (moments R D left random_faults shown disk_faults may_leave moment since) Goes Meets
        (λ x r reply y step. step.0) start version_limits key g stands (present start.2) rests Means (λ x n commands so. so) Sees
        (read_nothing R D left random_faults shown disk_faults may_leave moment since present counted) (reads_then R D left random_faults shown disk_faults may_leave moment since present counted)
        (step_on R D left random_faults shown disk_faults may_leave moment since present counted)
        (λ x z reads. ap left reads.1) (λ x z reads. reads.2.same.shows) (λ x z reads n commands so. subst (λ o. StandsIn o n commands) reads.0 so))
        (at_read X place (leaves R D left random_faults shown disk_faults may_leave moment since) (moments R D left random_faults shown disk_faults may_leave moment since) Goes Meets
        (λ x r reply y step. step.0) start version_limits key g stands (present start.2) rests Means (λ x n commands so. so) Sees
        (read_nothing R D left random_faults shown disk_faults may_leave moment since present counted) (reads_then R D left random_faults shown disk_faults may_leave moment since present counted)
        (step_on R D left random_faults shown disk_faults may_leave moment since present counted)
        (λ x z reads. ap left reads.1) (λ x z reads. reads.2.same.shows) (λ x z reads n commands so. subst (λ o. StandsIn o n commands) reads.0 so))
        (at_whole X place (leaves R D left random_faults shown disk_faults may_leave moment since) (moments R D left random_faults shown disk_faults may_leave moment since) Goes Meets
        (λ x r reply y step. step.0) start version_limits key g stands (present start.2) rests Means (λ x n commands so. so) Sees
        (read_nothing R D left random_faults shown disk_faults may_leave moment since present counted) (reads_then R D left random_faults shown disk_faults may_leave moment since present counted)
        (step_on R D left random_faults shown disk_faults may_leave moment since present counted)
        (λ x z reads. ap left reads.1) (λ x z reads. reads.2.same.shows) (λ x z reads n commands so. subst (λ o. StandsIn o n commands) reads.0 so))
        start g
        (at_start X place (leaves R D left random_faults shown disk_faults may_leave moment since) (moments R D left random_faults shown disk_faults may_leave moment since) Goes Meets
        (λ x r reply y step. step.0) start version_limits key g stands (present start.2) rests Means (λ x n commands so. so) Sees
        (read_nothing R D left random_faults shown disk_faults may_leave moment since present counted) (reads_then R D left random_faults shown disk_faults may_leave moment since present counted)
        (step_on R D left random_faults shown disk_faults may_leave moment since present counted)
        (λ x z reads. ap left reads.1) (λ x z reads. reads.2.same.shows) (λ x z reads n commands so. subst (λ o. StandsIn o n commands) reads.0 so))
        turns asked text sessions x went;
  }

  -- what `serve` sees at the end
  abbrev seen_at : X → Option (List ℕ) → Option (List ℕ) → Seen
  seen_at x written_before written_after = record {
    left_before = left start.1;
    left_after = left x.1;
    was = first_shown;
    shown = shown x.2;
    written_before = written_before;
    written_after = written_after;
  }

  module _ (asked : List Request) (given : List Reply) (drawn : List (List ℕ)) (now : Going) (x : X) (at : Here asked given drawn now x) where
    keeps_at : KeepsBehind key m now.journal first_shown (shown x.2)
    unfolding opened
    keeps_at =
        let z : X = at.z in
        let tail = at.reached.tail in
        let n = length (image_of key m) in
        let there = at.reached.there in
        let log_end : z.0.journal.end ≡ length (image_of key at.reached.at.journal) + 1 = owner_end key at.reached.at.journal z.0 there.has_key there.owner_is in
        let began : start.0.journal.end ≡ n + 1 = owner_end key m start.0 stands.has_key stands.owner_is in
        let kept : KeepsBehind key m at.reached.at.journal first_shown (shown z.2) = record {
          behind = λ c y e f.
              let s = stands.disk_stands.0 in
              subst (λ k. drop k y ≡ drop k c) log_end
              (tail.behind s y stands.disk_stands.1 f ∙ drops_more n z.0.journal.end c s (omega (arith, began, tail.further)) (first_kept c s e stands.disk_stands.1));
          unchanged = λ same.
              let long = ap (λ (j : Journal). length j) same in
              ⊎_elim
              (λ (still : shown z.2 ≡ shown start.2). subst (λ o. KeepsFrom n first_shown o) (sym still) first_kept)
              (λ longer. absurd (let none : ⊥ = omega (arith, longer, long) in none)) tail.unchanged;
        }
        in
        subst (λ o. KeepsBehind key m now.journal first_shown o) (sym at.read.2.same.shows) (subst (λ (h : Going). KeepsBehind key m h.journal first_shown (shown z.2)) at.at_is kept)

    rests_at : RestsAt key now.journal (shown x.2) (may_leave x.2)
    rests_at =
        let z : X = at.z in
        rests_read key now.journal (shown z.2) (shown x.2) (may_leave z.2) (may_leave x.2) (moment z.2) (moment x.2) (since z.2) (since x.2) at.read.2.same
        (subst (λ (h : Going). RestsAt key h.journal (shown z.2) (may_leave z.2)) at.at_is at.reached.stays.rests)

    kept_at : LinesKeepUpTo key m (shown start.2) (shown x.2) (since x.2 (moment start.2)) now.journal
    unfolding opened
    kept_at =
        let z : X = at.z in
        lines_read key m now.journal (moment start.2) (moment z.2) (moment x.2) (shown start.2) (shown z.2) (shown x.2) (may_leave z.2) (may_leave x.2) (since z.2) (since x.2)
        (subst (λ (h : Going). Stays key m h.journal (moment start.2) (moment z.2) (shown start.2) (shown z.2) (may_leave z.2) (since z.2)) at.at_is at.reached.stays) at.read.2.same

    valid_at : IsValid now.journal
    valid_at = subst (λ (h : Going). IsValid h.journal) at.at_is at.reached.there.owner_is.valid

  module _ (turns : List Turn) (asked : List Request) (text : List ℕ) (sessions : List SessionView) (x : X) (so : Served X version_limits key Here left_of start g turns asked text sessions x)
      (y : X) (reads : Sees x y) (written_before written_after : Option (List ℕ)) where
    at_last : Here asked so.given so.drawn so.now y
    at_last = record {
      z = so.stands.z;
      reached = so.stands.reached;
      at_is = so.stands.at_is;
      drawn_is = so.stands.drawn_is;
      read = reads_then R D left random_faults shown disk_faults may_leave moment since present counted so.stands.z x y so.stands.read reads;
    }

    -- all that was answered up to here
    has_served : HasServed version_limits key m turns asked text (seen_at y written_before written_after) (may_leave y.2) (LinesKeepUpTo key m (shown start.2) (shown y.2) (since y.2 (moment start.2)))
    unfolding opened
    has_served =
        let rests_now = rests_at asked so.given so.drawn so.now y at_last in
        record {
          session = record {
            drawn = so.drawn;
            drawn_sizes = so.drawn_sizes;
            replies = so.given;
            now = so.now.journal;
            begun = so.now.begun;
            goes = so.scripted;
            replied = so.replied;
          };
          goes = so.goes;
          asks = so.asks;
          draws = subst (λ l. WhereBothTold (left start.1) l (λ a b. a ≡ joined so.drawn ++ b)) (sym (ap left reads.1)) so.next_bytes;
          leaves = record {
            settled = rests_settled key so.now.journal (shown y.2) (may_leave y.2) rests_now;
            none_pending = rests_now.durable;
            keeps = keeps_at asked so.given so.drawn so.now y at_last;
          };
          kept = kept_at asked so.given so.drawn so.now y at_last;
          answered = so.answered;
          prints = so.answers so.now.journal (valid_at asked so.given so.drawn so.now y at_last) (prefix_same so.now.journal);
        }

  -- lines that were all done, and reads behind them
  pub all_served : (turns : List Turn) (asked : List Request) (text : List ℕ) (sessions : List SessionView) (x y : X) (written_before written_after : Option (List ℕ)) → Went turns asked text sessions x → Sees x y →
      HasServed version_limits key m turns asked text (seen_at y written_before written_after) (may_leave y.2) (LinesKeepUpTo key m (shown start.2) (shown y.2) (since y.2 (moment start.2)))
  all_served turns asked text sessions x y written_before written_after went reads =
      has_served turns asked text sessions x (reached turns asked text sessions x went).so y reads written_before written_after

  -- ---- lines that end in a session's

  abbrev KeptTo : X → Journal → Type 0
  KeptTo y = LinesKeepUpTo key m (shown start.2) (shown y.2) (since y.2 (moment start.2))

  fewer_turns : (final : Journal) (turns : List Turn) (t : Turn) → HaveHonestKeys final (turns ++ t ∷ []) → HaveHonestKeys final turns
  fewer_turns final turns t honest h k i = honest h k ((In-append Turn (ToSeat (Begins h k)) turns (t ∷ [])).1 (inl i))

  -- its reply wasn't printed whole
  pub cut_served : (first : List Turn) (asked : List Request) (text : List ℕ) (sessions later : List SessionView) (x y : X) (ask : SeatAsk) (reply : PlainReply) (before after : Option (List ℕ)) →
      Went first asked text sessions x → SeatWent (shown x.2) ask sessions reply later → Sees x y → PrintsFrontOf text (spell_plain_reply reply) (seen_at y before after) →
      ServesCut version_limits key m (first ++ ToSeat ask ∷ []) asked (seen_at y before after) (may_leave y.2) (KeptTo y)
  unfolding opened reached all_served has_served turns_served seated
  cut_served first asked text sessions later x y ask reply before after went seat reads printed = record {
    front = first;
    ask = ask;
    turns_are = refl;
    first = text;
    last = spell_plain_reply reply;
    served = all_served (first ++ ToSeat ask ∷ []) asked (text ++ spell_plain_reply reply) later y y before after (SeatsTurn ask reply went seat reads)
        (read_nothing R D left random_faults shown disk_faults may_leave moment since present counted y);
    answered_first = (reached first asked text sessions x went).so.answered;
    answers_first = λ honest.
        let so = (reached first asked text sessions x went).so in
        so.answers so.now.journal (valid_at asked so.given so.drawn so.now x so.stands) (prefix_same so.now.journal) (fewer_turns so.now.journal first (ToSeat ask) honest);
    prints = printed;
  }

  -- its reading met a fault
  pub failed_served : (first : List Turn) (asked : List Request) (text : List ℕ) (sessions : List SessionView) (x y : X) (before after : Option (List ℕ)) → Went first asked text sessions x → Sees x y →
      WhereBothTold before after (λ b a. a ≡ b ++ text) → ServesAll version_limits key m first asked (seen_at y before after) (may_leave y.2) (KeptTo y)
  failed_served first asked text sessions x y before after went reads printed = record {
    text = text;
    served = all_served first asked text sessions x y before after went reads;
    prints = printed;
  }

  -- a fault that the disk and memory aren't to blame for comes of a line that shows, and of a key that isn't honest
  module _ (first : List Turn) (asked : List Request) (text : List ℕ) (sessions : List SessionView) (x y : X) (ask : SeatAsk) (met : ClientFault) (before after : Option (List ℕ))
      (went : Went first asked text sessions x) (reads : Sees x y) (fails : FailsSeat (shown x.2) ask sessions met) (inside : IsFromOutside met → ⊥)
      (printed : WhereBothTold before after (λ b a. a ≡ b ++ text)) where
    abbrev up_to : Served X version_limits key Here left_of start g first asked text sessions x
    up_to = (reached first asked text sessions x went).so

    abbrev whole_up_to : RestsAt key up_to.now.journal (shown x.2) (may_leave x.2)
    whole_up_to = rests_at asked up_to.given up_to.drawn up_to.now x up_to.stands

    abbrev is_amiss : IsAmiss key up_to.now.journal whole_up_to.shows.0 whole_up_to.shows.2 (shown x.2) whole_up_to.shows.1 up_to.seats sessions up_to.are ask met
    is_amiss = seat_amiss key up_to.now.journal whole_up_to.shows.0 whole_up_to.shows.2 (shown x.2) whole_up_to.shows.1 up_to.seats sessions up_to.are ask met fails inside

    pub amiss_served : (n : ℕ) × (ask ≡ Shows n) × ServesAmiss met n version_limits key m first asked (seen_at y before after) (may_leave y.2) (KeptTo y)
    unfolding opened reached has_served
    amiss_served =
        let is = is_amiss in (
          is.n,
          is.ask_is,
          record {
            all = record {
              text = text;
              served = has_served first asked text sessions x up_to y reads before after;
              prints = printed;
            };
            seat = is.seat;
            seat_is = λ rest. ap (λ (l : List Seat). seat_at l is.n) (up_to.seats_are rest) ∙ is.seat_is;
            all_read = is.all_read;
            fails = is.fails;
            dishonest = is.dishonest;
            amiss = λ honest.
                is.dishonest
                (seats_honest version_limits g first up_to.drawn up_to.now up_to.now.journal up_to.seats (valid_at asked up_to.given up_to.drawn up_to.now x up_to.stands) (prefix_same up_to.now.journal) honest (up_to.seats_are [])
                is.seat (seat_in up_to.seats is.n is.seat is.seat_is));
          },
        )

  -- and whatever the keys are, it isn't that there is no store, or that a key is wrong
  pub may_fail : (first : List Turn) (asked : List Request) (text : List ℕ) (sessions : List SessionView) (x : X) (ask : SeatAsk) (met : ClientFault) →
      Went first asked text sessions x → FailsSeat (shown x.2) ask sessions met → MayFailSeat met
  may_fail first asked text sessions x ask met went fails =
      let so = (reached first asked text sessions x went).so in
      let whole = rests_at asked so.given so.drawn so.now x so.stands in
      seat_may_fail key so.now.journal whole.shows.0 whole.shows.2 (shown x.2) whole.shows.1 so.seats sessions so.are ask met fails

  -- ---- lines that end in a line of the owner's

  abbrev There : List Request → List Reply → X → Type 0
  There asked given w = Reach X place (leaves R D left random_faults shown disk_faults may_leave moment since) (moments R D left random_faults shown disk_faults may_leave moment since) Goes Meets
      (λ x r reply y step. step.0) start version_limits key g stands (present start.2) rests asked given w

  module _ (first : List Turn) (first_asked : List Request) (text : List ℕ) (sessions : List SessionView) (x : X) (went : Went first first_asked text sessions x) where
    abbrev so : Served X version_limits key Here left_of start g first first_asked text sessions x
    so = (reached first first_asked text sessions x went).so

    -- where the owner is behind the first commands of the last line, and whatever was read since
    pub record FurtherOn (some : List Request) (replies : List Reply) (w : X) : Type 0 where
      pub y : X
      pub next : There (first_asked ++ some) (so.given ++ replies) y
      pub more : List (List ℕ)
      pub drawn_more : next.went.drawn ≡ so.stands.reached.went.drawn ++ more
      pub reads : Sees y w

    answered_from : (some : List Request) (replies : List Reply) (y w : X) → Sees y w → Answered Goes so.stands.z some replies y → FurtherOn some replies w
    answered_from some replies y w reads answered =
        let on = reached_on X place (leaves R D left random_faults shown disk_faults may_leave moment since) (moments R D left random_faults shown disk_faults may_leave moment since) Goes Meets
        (λ x r reply y step. step.0) start version_limits key g stands (present start.2) rests first_asked so.given so.stands.z so.stands.reached some replies y answered in
        record { y = y; next = on.0; more = on.1; drawn_more = on.2; reads = reads }

    -- there may be none
    pub answered_behind : (some : List Request) (replies : List Reply) (w : X) → Answered Goes x some replies w → FurtherOn some replies w
    answered_behind some replies w answered =
        ⊎_elim
        (λ none.
        subst (λ (rs : List Request). FurtherOn rs replies w) (sym none.0)
        (subst (λ (told : List Reply). FurtherOn [] told w) (sym none.1)
        (answered_from [] [] so.stands.z w (subst (λ (s : X). Sees so.stands.z s) (sym none.2) so.stands.read) Begun)))
        (λ all. answered_from some replies w w (read_nothing R D left random_faults shown disk_faults may_leave moment since present counted w) all)
        (commands_behind X Goes Sees (step_on R D left random_faults shown disk_faults may_leave moment since present counted) so.stands.z x so.stands.read some replies w answered)

    module _ (task : Task) (commands block : List Request) (replies : List Reply) (stands_for : StandsFor Means x task commands) (is_asked : IsAsked true commands block replies)
        (some others : List Request) (block_is : block ≡ some ++ others) (w : X) (behind : FurtherOn some replies w) where
      abbrev y : X
      y = behind.y

      abbrev next : There (first_asked ++ some) (so.given ++ replies) y
      next = behind.next

      abbrev now : Going
      now = next.at

      drawn_split : (rest : List ℕ) → joined next.went.drawn ++ rest ≡ joined so.drawn ++ (joined behind.more ++ rest)
      drawn_split rest =
          ap (λ (keys : List (List ℕ)). joined keys ++ rest) behind.drawn_more ∙ joined_more so.stands.reached.went.drawn behind.more rest
          ∙ ap (λ (keys : List (List ℕ)). joined keys ++ (joined behind.more ++ rest)) so.stands.drawn_is

      abbrev from : List ℕ → Going
      from rest = with_draws g (joined next.went.drawn ++ rest)

      abbrev before_last : List ℕ → Going
      before_last rest = with_draws so.now (joined behind.more ++ rest)

      there : (rest : List ℕ) → script_going version_limits (from rest) first_asked ≡ before_last rest
      there rest = ap (λ (bytes : List ℕ). script_going version_limits (with_draws g bytes) first_asked) (drawn_split rest) ∙ so.scripted (joined behind.more ++ rest)

      goes_first : (rest : List ℕ) → (served_then version_limits (serving (from rest)) first).going ≡ script_going version_limits (from rest) first_asked
      goes_first rest =
          ap (λ (bytes : List ℕ). (served_then version_limits (serving (with_draws g bytes)) first).going) (drawn_split rest) ∙ so.goes (joined behind.more ++ rest) ∙ sym (there rest)

      goes_on : IsPrefix so.now.journal now.journal
      goes_on =
          let end : script_going version_limits (before_last []) some ≡ with_draws now [] =
          ap (λ (h : Going). script_going version_limits h some) (sym (there [])) ∙ sym (going_append version_limits (from []) first_asked some) ∙ next.went.goes []
          in
          subst (λ (h : Going). IsPrefix so.now.journal h.journal) end (script_grows version_limits (before_last []) some)

      replied_now : (rest : List ℕ) → script_replies version_limits (before_last rest) some ≡ replies
      replied_now rest =
          let first_replied : script_replies version_limits (from rest) first_asked ≡ so.given =
          ap (λ (bytes : List ℕ). script_replies version_limits (with_draws g bytes) first_asked) (drawn_split rest) ∙ so.replied (joined behind.more ++ rest)
          in
          append_cancel_left so.given (script_replies version_limits (before_last rest) some) replies
          (sym (replies_append version_limits (from rest) first_asked some
          ∙ ap (λ (rs : List Reply). rs ++ script_replies version_limits (script_going version_limits (from rest) first_asked) some) first_replied
          ∙ ap (λ (h : Going). so.given ++ script_replies version_limits h some) (there rest))
          ∙ next.went.replied rest)

      stands_now : StandsThere so.now.journal task commands
      stands_now =
          subst (λ (h : Going). StandsThere h.journal task commands) so.stands.at_is
          (line_stands X place (leaves R D left random_faults shown disk_faults may_leave moment since) (moments R D left random_faults shown disk_faults may_leave moment since) Goes Meets
          (λ x r reply y step. step.0) start version_limits key g stands (present start.2) rests Means (λ x n commands so. so) so.stands.z so.stands.reached.at so.stands.reached.there task commands
          (stands_before X place (leaves R D left random_faults shown disk_faults may_leave moment since) (moments R D left random_faults shown disk_faults may_leave moment since) Goes Meets
          (λ x r reply y step. step.0) start version_limits key g stands (present start.2) rests Means (λ x n commands so. so) Sees
          (read_nothing R D left random_faults shown disk_faults may_leave moment since present counted) (reads_then R D left random_faults shown disk_faults may_leave moment since present counted)
          (step_on R D left random_faults shown disk_faults may_leave moment since present counted)
          (λ x z reads. ap left reads.1) (λ x z reads. reads.2.same.shows) (λ x z reads n commands so. subst (λ o. StandsIn o n commands) reads.0 so)
          so.stands.z x so.stands.read task commands stands_for))

      -- these commands begin what the line stands for
      front_now : (rest : List ℕ) → IsPrefix block (asked_of version_limits (script_going version_limits (from rest) first_asked) task)
      front_now rest =
          let more : List Reply = script_replies version_limits (script_going version_limits (before_last rest) some) others in
          let told : replies ++ more ≡ script_replies version_limits (before_last rest) block =
          ap (λ (rs : List Reply). rs ++ more) (sym (replied_now rest)) ∙ sym (replies_append version_limits (before_last rest) some others)
          ∙ ap (λ (rs : List Request). script_replies version_limits (before_last rest) rs) (sym block_is)
          in
          subst (λ (h : Going). IsPrefix block (asked_of version_limits h task)) (sym (there rest))
          (front_line version_limits (before_last rest) task commands block replies stands_now is_asked (more, told))

      answered_first : (rest : List ℕ) → AnswersTurns key version_limits (serving (from rest)) first text
      answered_first rest =
          subst (λ (bytes : List ℕ). AnswersTurns key version_limits (serving (with_draws g bytes)) first text) (sym (drawn_split rest)) (so.answered (joined behind.more ++ rest))

      answers_first : HaveHonestKeys now.journal (first ++ ToOwner task ∷ []) → (rest : List ℕ) → served_text version_limits (serving (from rest)) first ≡ text
      answers_first honest rest =
          ap (λ (bytes : List ℕ). served_text version_limits (serving (with_draws g bytes)) first) (drawn_split rest)
          ∙ so.answers now.journal next.there.owner_is.valid goes_on (fewer_turns now.journal first (ToOwner task) honest) (joined behind.more ++ rest)

      abbrev turns : List Turn
      turns = first ++ ToOwner task ∷ []

      abbrev asked : List Request
      asked = first_asked ++ some

      serves_to : (seen : Seen) (Prints : List ℕ → List Reply → Type 0) → Prints text replies → ServesTo version_limits key m turns asked seen Prints
      unfolding opened
      serves_to seen Prints printed = record {
        first = first;
        task = task;
        turns_are = refl;
        first_asked = first_asked;
        some = some;
        asked_are = refl;
        text = text;
        replies = replies;
        session = record {
          drawn = next.went.drawn;
          drawn_sizes = next.went.drawn_sizes;
          replies = so.given ++ replies;
          now = now.journal;
          begun = now.begun;
          goes = next.went.goes;
          replied = next.went.replied;
        };
        asks_first = λ rest. ap (λ (bytes : List ℕ). turns_ask version_limits (serving (with_draws g bytes)) first) (drawn_split rest) ∙ so.asks (joined behind.more ++ rest);
        goes_first = goes_first;
        stood = λ rest. prefix_trans some block (asked_of version_limits (script_going version_limits (from rest) first_asked) task) (others, sym block_is) (front_now rest);
        replied = λ rest. ap (λ (h : Going). script_replies version_limits h some) (there rest) ∙ replied_now rest;
        answered = answered_first;
        answers = answers_first;
        prints = printed;
      }

      here : (e : X) → Sees y e → Here asked (so.given ++ replies) next.went.drawn now e
      here e reads = record { z = y; reached = next; at_is = refl; drawn_is = refl; read = reads }

      -- the commands were all answered that were asked
      pub last_served : (before after : Option (List ℕ)) → WhereBothTold before after (λ b a. PrintsCut replies (b ++ text) a) →
          ServesLast version_limits key m turns asked (seen_at w before after) (may_leave w.2) (KeptTo w)
      unfolding opened serves_to
      last_served before after printed =
          let at = here w behind.reads in
          let rests_now = rests_at asked (so.given ++ replies) next.went.drawn now w at in
          record {
            to = serves_to (seen_at w before after) (λ t rs. WhereBothTold before after (λ b a. PrintsCut rs (b ++ t) a)) printed;
            draws = subst (λ l. WhereBothTold (left start.1) l (λ a b. a ≡ joined next.went.drawn ++ b)) (sym (ap left behind.reads.1)) next.went.next_bytes;
            leaves = record {
              settled = rests_settled key now.journal (shown w.2) (may_leave w.2) rests_now;
              none_pending = rests_now.durable;
              keeps = keeps_at asked (so.given ++ replies) next.went.drawn now w at;
            };
            kept = kept_at asked (so.given ++ replies) next.went.drawn now w at;
          }

      -- ---- one more was asked, and met a fault

      module _ (last : Request) (others_are : others ≡ last ∷ []) (e : X) (before after : Option (List ℕ)) (printed : WhereBothTold before after (λ b a. a ≡ (b ++ text) ++ spell_replies replies)) where
        abbrev seen : Seen
        seen = seen_at e before after

        abbrev MetBy : ApplyFault → Type 0
        MetBy fault = Meets y last fault e

        accepted : answer (limits_in y.0) now.journal y.0.journal.has_epoch last ≡ None → answer version_limits now.journal now.begun last ≡ None
        accepted is = accepted_there version_limits key now (place y) last next.there is

        serves_next : answer version_limits now.journal now.begun last ≡ None → ServesNext version_limits key m turns asked seen
        unfolding opened serves_to
        serves_next is = record {
          to = serves_to seen (PrintsAllOf seen) (λ b a is_b is_a. printed b a is_b is_a ∙ append_assoc b text (spell_replies replies));
          next = last;
          stood = λ rest.
              subst (λ (rs : List Request). IsPrefix rs (asked_of version_limits (script_going version_limits (from rest) first_asked) task)) (block_is ∙ ap (λ (rs : List Request). some ++ rs) others_are) (front_now rest);
          is_accepted = is;
        }

        -- a fault that isn't the disk's leaves it at rest
        abbrev RestsStill : Type 0
        RestsStill = ComesToRest y.0.key now.journal now.journal (shown y.2) (shown e.2) (may_leave y.2) (may_leave e.2) (since e.2 (moment y.2))

        stays_there : (fault : ApplyFault) → MetBy fault → RestsStill → Stays key m now.journal (moment start.2) (moment e.2) (shown start.2) (shown e.2) (may_leave e.2) (since e.2)
        unfolding opened
        stays_there fault met comes =
            stays_on key m now.journal now.journal (moment start.2) (moment y.2) (moment e.2) (shown start.2) (shown y.2) (shown e.2) (may_leave y.2) (may_leave e.2) (since y.2) (since e.2)
            next.stays (prefix_same now.journal)
            (subst (λ k. ComesToRest k now.journal now.journal (shown y.2) (shown e.2) (may_leave y.2) (may_leave e.2) (since e.2 (moment y.2))) next.there.has_key comes) met.0.later met.0.time

        leaves_still : (fault : ApplyFault) → MetBy fault → RestsStill → fault ≢ faults.DiskFault → LeavesAt key m now.journal seen (may_leave e.2)
        leaves_still fault met comes other =
            let stays = stays_there fault met comes in
            record {
              settled = rests_settled key now.journal (shown e.2) (may_leave e.2) stays.rests;
              none_pending = stays.rests.durable;
              keeps = subst (λ o. KeepsBehind key m now.journal first_shown o) (sym (met.0.unwritten other))
                  (keeps_at asked (so.given ++ replies) next.went.drawn now y (here y (read_nothing R D left random_faults shown disk_faults may_leave moment since present counted y)));
            }

        kept_still : (fault : ApplyFault) → MetBy fault → RestsStill → KeptTo e now.journal
        kept_still fault met comes = let stays = stays_there fault met comes in record { grown = stays.grown; kept = stays.kept; hands = stays.hands }

        told : (fault : ApplyFault) → MetBy fault → Answers (Err fault) now.journal (Commanded last) y.0 e.0 (left y.1) (left e.1) (shown y.2) (shown e.2) (may_leave y.2) (may_leave e.2) (since e.2 (moment y.2))
        told fault met = met.0.answers now.journal next.there.owner_is

        pub short_served : (given need : ℕ) → MetBy (faults.RandomShort given need) → ServesShort version_limits key m turns asked given need seen (may_leave e.2) (KeptTo e)
        unfolding opened serves_to serves_next
        short_served given need met =
            let is = told (faults.RandomShort given need) met in
            record {
              ran = serves_next (accepted is.0);
              is_need = is.2;
              is_short = is.3;
              were_left = λ b first_is.
                  let middle = still_told (left y.1) (left start.1) b next.left_told first_is in
                  (middle.0, next.went.next_bytes b middle.0 first_is middle.1, is.4 middle.0 middle.1);
              nothing_left = is.5;
              leaves = leaves_still (faults.RandomShort given need) met is.6 (λ same. absurd cc);
              kept = kept_still (faults.RandomShort given need) met is.6;
            }

        pub undrawn_served : MetBy faults.RandomFault → ServesUndrawn version_limits key m turns asked seen (may_leave e.2) (KeptTo e)
        unfolding opened serves_to serves_next
        undrawn_served met =
            let is = told faults.RandomFault met in
            record {
              ran = serves_next (accepted is.0);
              drew = λ b first_is.
                  let middle = still_told (left y.1) (left start.1) b next.left_told first_is in
                  (middle.0, next.went.next_bytes b middle.0 first_is middle.1);
              leaves = leaves_still faults.RandomFault met is.2 (λ same. absurd cc);
              kept = kept_still faults.RandomFault met is.2;
            }

        pub unwritten_served : MetBy faults.DiskFault → ServesUnwritten version_limits key m turns asked seen (may_leave e.2) (KeptTo e)
        unfolding opened serves_to serves_next
        unwritten_served met =
            let is = told faults.DiskFault met in
            let cut_short = is.2 in
            let then : Journal = journal_then now.journal now.begun last cut_short.drawn in
            let Stops : List ℕ → Bool → Type 0 = λ k b.
            StopsBetween k now.journal (journal_then now.journal b last cut_short.drawn) (shown y.2) (shown e.2) (may_leave y.2) (may_leave e.2) (since e.2 (moment y.2)) in
            let keyed : Stops key y.0.journal.has_epoch = subst (λ k. Stops k y.0.journal.has_epoch) next.there.has_key cut_short.stops in
            let stops : Stops key now.begun = subst (λ b. Stops key b) next.there.has_begun keyed in
            let session = cond now.begun [] (Session ∷ []) in
            let more : IsPrefix now.journal then =
            (session ++ Did last cut_short.drawn ∷ [], sym (append_assoc now.journal session (Did last cut_short.drawn ∷ []))) in
            let held = stops_on key m now.journal then (moment start.2) (moment y.2) (shown start.2) (shown y.2) (shown e.2) (may_leave y.2) (may_leave e.2) (since y.2) (since e.2)
            next.stays more stops met.0.time in
            record {
              ran = serves_next (accepted is.0);
              last = cut_short.drawn;
              last_count = cut_short.drawn_count;
              last_sizes = cut_short.drawn_sizes;
              draws = both_told_through (left start.1) (left y.1) (left e.1) (λ a b. a ≡ joined next.went.drawn ++ b) (λ a b. a ≡ joined cut_short.drawn ++ b)
                  (λ a b. a ≡ joined (next.went.drawn ++ cut_short.drawn) ++ b) next.left_told next.went.next_bytes cut_short.next_bytes
                  (λ a b c first_is then_is. first_is ∙ ap (λ rest. joined next.went.drawn ++ rest) then_is ∙ sym (joined_more next.went.drawn cut_short.drawn c));
              holds = held.0;
              kept = held.1;
            }

        -- for want of memory it wasn't begun
        pub without_served : MetBy faults.OutOfMemory → ServesLast version_limits key m turns asked seen (may_leave e.2) (KeptTo e)
        unfolding opened serves_to
        without_served met =
            let is = told faults.OutOfMemory met in
            record {
              to = serves_to seen (λ t rs. WhereBothTold before after (λ b a. PrintsCut rs (b ++ t) a)) (λ b a is_b is_a. whole_is_cut replies (b ++ text) a (printed b a is_b is_a));
              draws = subst (λ l. WhereBothTold (left start.1) l (λ a b. a ≡ joined next.went.drawn ++ b)) (sym (met.0.undrawn refl)) next.went.next_bytes;
              leaves = leaves_still faults.OutOfMemory met is.1 (λ same. absurd cc);
              kept = kept_still faults.OutOfMemory met is.1;
            }
