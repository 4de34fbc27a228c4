-- How lines of `serve` end over an owner and a disk that stand for a journal, by how they went.
use Rattle.std.proofs.Common.{◌≡◌, ⊎_elim, inl, inr, ℕ, List, [], ◌∷◌, ◌++◌, length, length-append, take, Option, Result, Ok, Err, arith, refl, sym, ap, subst, ◌∙◌}
use Rattle.std.proofs.lemmas.List.{append-nil}
use Rattle.std.proofs.Math.Seq.{take-append_seam, take-length}
use Rattle.cry_base.specs.Requests.{Request}
use Rattle.cry_base.specs.declared.commands.Reply.{Reply}
use Rattle.cry_io.specs.Stops.{IsDurable}
use Rattle.cry_io.specs.Told.{WhereBothTold}
use Rattle.journal_bytes.specs.Bytes.{image_of}
use Rattle.journal_bytes.specs.Script.{opened}
use Rattle.log_visits.specs.declared.fault.ClientFault.{ClientFault}
use Rattle.log_visits.specs.declared.fault.ClientFault.TheVariants as client
use Rattle.public_fold.specs.Journal.{Journal}
use Rattle.read_steps.specs.Steps.{SessionView}
use Rattle.script_text.specs.Seats.{SeatAsk, Turn}
use Rattle.script_text.specs.Seats.SeatAsk.{Shows}
use Rattle.script_text.specs.Seats.Turn.{ToOwner, ToSeat}
use Rattle.session_laws.specs.Seats.{PlainReply}
use Rattle.session_laws.specs.Serving.{spell_plain_reply}
use Rattle.session_laws.specs.Sessions.{IsFromOutside}
use Rattle.store_owner.specs.Owned.{OwnerView}
use Rattle.store_owner.specs.Sessions.{StandsAt}
use Rattle.store_owner.specs.declared.apply_fault.ApplyFault.{ApplyFault}
use Rattle.store_owner.specs.declared.apply_fault.ApplyFault.TheVariants as faults
use Rattle.cli_base.specs.Reading.{reading_status}
use Rattle.cli_base.specs.declared.status.Status.{Status}
use Rattle.cli_base.specs.declared.status.Status.TheVariants as statuses
use Rattle.cli_sessions.specs.Script.{Answered, PrintsCut}
use Rattle.cli_sessions.specs.Script.Answered.{Begun, Then}
use Rattle.cli_sessions.specs.Sessions.{KeepsFrom, Seen, apply_status, version_limits}
use Rattle.cli_sessions.specs.Stopping.{LinesKeepUpTo}
use Rattle.cli_sessions.specs.declared.script.ScriptFault.{ScriptFault}
use Rattle.cli_sessions.specs.declared.script.ScriptFault.TheVariants as script
use Rattle.cli_sessions.proofs.RunLemmas.{Fails, IsCounted, IsPresent, Stand, Step}
use Rattle.cli_sessions.proofs.ScriptLemmas.{same_told}
use Rattle.cli_serving.specs.Lines.{serve_status}
use Rattle.cli_serving.specs.Seating.{SeatWent}
use Rattle.cli_serving.specs.Serves.{PrintsFrontOf, Serves, ServesAll, ServesAmiss, ServesCut, ServesLast, ServesShort, ServesUndrawn, ServesUnwritten}
use Rattle.cli_serving.specs.Turned.{NoTurn}
use Rattle.cli_serving.specs.Went.{AllDone, InOwners, InSeats, ServeWent}
use Rattle.cli_serving.specs.declared.serve_fault.ServeFault.{ServeFault}
use Rattle.cli_serving.specs.declared.serve_fault.ServeFault.TheVariants as serve
use Rattle.cli_serving.proofs.AllServed.{FurtherOn, all_served, amiss_served, answered_behind, cut_served, failed_served, last_served, may_fail, short_served, undrawn_served, unwritten_served, without_served}
use Rattle.cli_serving.proofs.ReadOn.{Reads, fault_on, read_nothing}
use Rattle.cli_serving.proofs.SeatTurns.{MayFailSeat}

-- each command that was answered has its reply
one_each : {X : Type 0} (Step : X → Request → Reply → X → Type 0) (x : X) (asked : List Request) (replies : List Reply) (y : X) → Answered Step x asked replies y → length replies ≡ length asked
one_each Step x asked replies y Begun = refl
one_each Step x asked replies y (Then {asked = rs} {replies = told} {x = z} {y = w} {request = r} {reply = reply} before step) =
    let few = one_each Step x rs told z before in
    omega (arith, few, length-append told (reply ∷ []), length-append rs (r ∷ []))

-- those that were answered are the first ones
first_ones : (some others : List Request) (replies : List Reply) → length replies ≡ length some → take (length replies) (some ++ others) ≡ some
first_ones some others replies many = ap (λ n. take n (some ++ others)) many ∙ take-append_seam some others

module _ (R D : Type 0) (left : R → Option (List ℕ)) (random_faults : R → ℕ) (shown : D → Option (List ℕ)) (disk_faults : D → ℕ)
    (may_leave : D → List ℕ → Type 0) (moment : D → ℕ) (since : D → ℕ → List ℕ → List ℕ → Type 0)
    (present : IsPresent R D left random_faults shown disk_faults may_leave moment since) (counted : IsCounted R D left random_faults shown disk_faults may_leave moment since)
    (start : OwnerView × R × D) (key : List ℕ) (m : Journal) (stands : StandsAt version_limits key (opened m []) start.0 (shown start.2)) (durable : IsDurable (may_leave start.2) (shown start.2))
    (first_shown : Option (List ℕ)) (first_kept : KeepsFrom (length (image_of key m)) first_shown (shown start.2)) where
  abbrev X : Type 0
  X = OwnerView × R × D

  abbrev Goes : X → Request → Reply → X → Type 0
  Goes = Step R D left random_faults shown disk_faults may_leave moment since

  abbrev Meets : X → Request → ApplyFault → X → Type 0
  Meets = Fails R D left random_faults shown disk_faults may_leave moment since

  abbrev Means : X → ℕ → List Request → Type 0
  Means = Stand R D left random_faults shown disk_faults may_leave moment since

  abbrev Sees : X → X → Type 0
  Sees = Reads R D left random_faults shown disk_faults may_leave moment since

  abbrev shows : X → Option (List ℕ)
  shows x = shown x.2

  abbrev seen_at : X → Option (List ℕ) → Option (List ℕ) → Seen
  seen_at x written_before written_after = record {
    left_before = left start.1;
    left_after = left x.1;
    was = first_shown;
    shown = shown x.2;
    written_before = written_before;
    written_after = written_after;
  }

  abbrev KeptTo : X → Journal → Type 0
  KeptTo y = LinesKeepUpTo key m (shown start.2) (shown y.2) (since y.2 (moment start.2))

  module _ (end : X) (before after : Option (List ℕ)) where
    abbrev seen : Seen
    seen = seen_at end before after

    abbrev ServedAll : List Turn → List Request → Type 0
    ServedAll turns asked = ServesAll version_limits key m turns asked seen (may_leave end.2) (KeptTo end)

    abbrev ServedCut : List Turn → List Request → Type 0
    ServedCut turns asked = ServesCut version_limits key m turns asked seen (may_leave end.2) (KeptTo end)

    abbrev ServedLast : List Turn → List Request → Type 0
    ServedLast turns asked = ServesLast version_limits key m turns asked seen (may_leave end.2) (KeptTo end)

    all_done : (turns : List Turn) (asked : List Request) → AllDone Goes Meets Means Sees shows start end turns asked before after → ServedAll turns asked
    all_done turns asked done = record {
      text = done.text;
      served = all_served R D left random_faults shown disk_faults may_leave moment since present counted start key m stands durable first_shown first_kept turns asked done.text done.sessions end end before after
          done.turned (read_nothing R D left random_faults shown disk_faults may_leave moment since present counted end);
      prints = done.printed;
    }

    -- ---- a session's line is the last

    abbrev EndsInSeats : Result (Unit {0}) ServeFault → List Turn → List Request → Type 0
    EndsInSeats result turns asked = InSeats Goes Meets Means Sees shows result start end turns asked before after

    seat_cut : (result : Result (Unit {0}) ServeFault) (turns : List Turn) (asked : List Request) (ends : EndsInSeats result turns asked) (reply : PlainReply) (later : List SessionView)
        → SeatWent (shows ends.x) ends.ask ends.sessions reply later → PrintsFrontOf ends.text (spell_plain_reply reply) seen → ServedCut turns asked
    seat_cut result turns asked ends reply later seat printed =
        subst (λ (ts : List Turn). ServedCut ts asked) (sym ends.turns_are)
        (cut_served R D left random_faults shown disk_faults may_leave moment since present counted start key m stands durable first_shown first_kept
        ends.first asked ends.text ends.sessions later ends.x end ends.ask reply before after ends.turned seat ends.read printed)

    -- without memory nothing of its reply was printed
    seat_without : (turns : List Turn) (asked : List Request) → EndsInSeats (Err (serve.Script script.OutOfMemory)) turns asked → ServedCut turns asked
    seat_without turns asked ends =
        let told = ends.ends in
        seat_cut (Err (serve.Script script.OutOfMemory)) turns asked ends told.0 told.1 told.2
        (λ b a is_b is_a. (0, told.3 b a is_b is_a ∙ ap (λ l. b ++ l) (sym (append-nil ends.text))))

    seat_failed : (met : ClientFault) (turns : List Turn) (asked : List Request) (ends : EndsInSeats (Err (serve.Reading met)) turns asked) → ServedAll ends.first asked
    seat_failed met turns asked ends =
        failed_served R D left random_faults shown disk_faults may_leave moment since present counted start key m stands durable first_shown first_kept
        ends.first asked ends.text ends.sessions ends.x end before after ends.turned ends.read ends.ends.1

    seat_amiss : (met : ClientFault) (turns : List Turn) (asked : List Request) (ends : EndsInSeats (Err (serve.Reading met)) turns asked) → (IsFromOutside met → ⊥)
        → (first : List Turn) × (n : ℕ) × (turns ≡ first ++ ToSeat (Shows n) ∷ []) × ServesAmiss met n version_limits key m first asked seen (may_leave end.2) (KeptTo end)
    seat_amiss met turns asked ends inside =
        let is =
        amiss_served R D left random_faults shown disk_faults may_leave moment since present counted start key m stands durable first_shown first_kept
        ends.first asked ends.text ends.sessions ends.x end ends.ask met before after ends.turned ends.read ends.ends.0 inside ends.ends.1
        in
        (ends.first, is.0, ends.turns_are ∙ ap (λ (ask : SeatAsk). ends.first ++ ToSeat ask ∷ []) is.1, is.2)

    seat_may : (met : ClientFault) (turns : List Turn) (asked : List Request) → EndsInSeats (Err (serve.Reading met)) turns asked → MayFailSeat met
    seat_may met turns asked ends =
        may_fail R D left random_faults shown disk_faults may_leave moment since present counted start key m stands durable first_shown first_kept
        ends.first asked ends.text ends.sessions ends.x ends.ask met ends.turned ends.ends.0

    abbrev EndsSo : Status → List Turn → List Request → Type 0
    EndsSo status turns asked = Serves status version_limits key m turns asked seen (may_leave end.2) (KeptTo end)

    reading_ends : (met : ClientFault) (turns : List Turn) (asked : List Request) → EndsInSeats (Err (serve.Reading met)) turns asked → EndsSo (reading_status met) turns asked
    reading_ends client.NotAStore turns asked ends = absurd (seat_may client.NotAStore turns asked ends)
    reading_ends client.WrongKey turns asked ends = absurd (seat_may client.WrongKey turns asked ends)
    reading_ends (client.Damaged at) turns asked ends = seat_amiss (client.Damaged at) turns asked ends (λ none. none)
    reading_ends (client.Tampered batch at) turns asked ends = seat_amiss (client.Tampered batch at) turns asked ends (λ none. none)
    reading_ends (client.NoHolder known) turns asked ends = absurd (seat_may (client.NoHolder known) turns asked ends)
    reading_ends client.Unseen turns asked ends = absurd (seat_may client.Unseen turns asked ends)
    reading_ends client.DiskFault turns asked ends = inr (inl (ends.first, ToSeat ends.ask, ends.turns_are, seat_failed client.DiskFault turns asked ends))
    reading_ends client.OutOfMemory turns asked ends = inr (inl (ends.first, ToSeat ends.ask ∷ [], ends.turns_are, seat_failed client.OutOfMemory turns asked ends))

    -- ---- a line of the owner's is the last

    abbrev EndsInOwners : ScriptFault → List Turn → List Request → Type 0
    EndsInOwners met turns asked = InOwners Goes Meets Means Sees shows met start end turns asked before after

    -- of whose commands all were answered that were asked
    owners_last : (met : ScriptFault) (turns : List Turn) (asked : List Request) (owners : EndsInOwners met turns asked) → Answered Goes owners.x owners.block owners.replies end
        → WhereBothTold before after (λ b a. PrintsCut owners.replies (b ++ owners.text) a) → ServedLast turns asked
    owners_last met turns asked owners answered printed =
        let many = one_each Goes owners.x owners.block owners.replies end answered in
        let asked_is : asked ≡ owners.first_asked ++ owners.block =
        owners.asked_are ∙ ap (λ (rs : List Request). owners.first_asked ++ rs) (ap (λ n. take n owners.block) many ∙ take-length owners.block) in
        subst (λ (ts : List Turn). ServedLast ts asked) (sym owners.turns_are)
        (subst (λ (rs : List Request). ServedLast (owners.first ++ ToOwner owners.task ∷ []) rs) (sym asked_is)
        (last_served R D left random_faults shown disk_faults may_leave moment since present counted start key m stands durable first_shown first_kept
        owners.first owners.first_asked owners.text owners.sessions owners.x owners.turned
        owners.task owners.last.commands owners.block owners.replies owners.last.stands_for owners.last.asked owners.block [] (sym (append-nil owners.block)) end
        (answered_behind R D left random_faults shown disk_faults may_leave moment since present counted start key m stands durable first_shown first_kept
        owners.first owners.first_asked owners.text owners.sessions owners.x owners.turned
        owners.block owners.replies end answered)
        before after printed))

    -- of whose commands one met a fault
    module _ (fault : ApplyFault) (turns : List Turn) (asked : List Request) (owners : EndsInOwners (script.Applying fault) turns asked) where
      abbrev w : X
      w = owners.last.stands.0

      abbrev front : List Request
      front = owners.last.stands.1

      abbrev last : Request
      last = owners.last.stands.2

      abbrev behind : FurtherOn R D left random_faults shown disk_faults may_leave moment since present counted start key m stands durable first_shown first_kept owners.first owners.first_asked owners.text owners.sessions owners.x owners.turned front owners.replies w
      behind = answered_behind R D left random_faults shown disk_faults may_leave moment since present counted start key m stands durable first_shown first_kept
          owners.first owners.first_asked owners.text owners.sessions owners.x owners.turned
          front owners.replies w owners.last.stands.4

      met_behind : Meets behind.y last fault end
      met_behind = fault_on R D left random_faults shown disk_faults may_leave moment since present counted behind.y w behind.reads last fault end owners.last.stands.5

      asked_front : asked ≡ owners.first_asked ++ front
      asked_front =
          owners.asked_are ∙ ap (λ (rs : List Request). owners.first_asked ++ take (length owners.replies) rs) owners.last.stands.3
          ∙ ap (λ (rs : List Request). owners.first_asked ++ rs) (first_ones front (last ∷ []) owners.replies (one_each Goes owners.x front owners.replies w owners.last.stands.4))

      so_told : (Ends : List Turn → List Request → Type 0) → Ends (owners.first ++ ToOwner owners.task ∷ []) (owners.first_asked ++ front) → Ends turns asked
      so_told Ends ends =
          subst (λ (ts : List Turn). Ends ts asked) (sym owners.turns_are)
          (subst (λ (rs : List Request). Ends (owners.first ++ ToOwner owners.task ∷ []) rs) (sym asked_front) ends)

    fault_ends : (fault : ApplyFault) (turns : List Turn) (asked : List Request) → EndsInOwners (script.Applying fault) turns asked → EndsSo (apply_status fault) turns asked
    fault_ends (faults.RandomShort given need) turns asked owners =
        let stands_last = owners.last.stands in
        so_told (faults.RandomShort given need) turns asked owners (λ ts rs. ServesShort version_limits key m ts rs given need seen (may_leave end.2) (KeptTo end))
        (short_served R D left random_faults shown disk_faults may_leave moment since present counted start key m stands durable first_shown first_kept
        owners.first owners.first_asked owners.text owners.sessions owners.x owners.turned
        owners.task owners.last.commands owners.block owners.replies owners.last.stands_for owners.last.asked stands_last.1 (stands_last.2 ∷ []) stands_last.3 stands_last.0
        (behind (faults.RandomShort given need) turns asked owners) stands_last.2 refl end before after owners.printed
        given need (met_behind (faults.RandomShort given need) turns asked owners))
    fault_ends faults.RandomFault turns asked owners =
        let stands_last = owners.last.stands in
        so_told faults.RandomFault turns asked owners (λ ts rs. ServesUndrawn version_limits key m ts rs seen (may_leave end.2) (KeptTo end))
        (undrawn_served R D left random_faults shown disk_faults may_leave moment since present counted start key m stands durable first_shown first_kept
        owners.first owners.first_asked owners.text owners.sessions owners.x owners.turned
        owners.task owners.last.commands owners.block owners.replies owners.last.stands_for owners.last.asked stands_last.1 (stands_last.2 ∷ []) stands_last.3 stands_last.0
        (behind faults.RandomFault turns asked owners) stands_last.2 refl end before after owners.printed
        (met_behind faults.RandomFault turns asked owners))
    fault_ends faults.DiskFault turns asked owners =
        let stands_last = owners.last.stands in
        inr (inr (so_told faults.DiskFault turns asked owners (λ ts rs. ServesUnwritten version_limits key m ts rs seen (may_leave end.2) (KeptTo end))
        (unwritten_served R D left random_faults shown disk_faults may_leave moment since present counted start key m stands durable first_shown first_kept
        owners.first owners.first_asked owners.text owners.sessions owners.x owners.turned
        owners.task owners.last.commands owners.block owners.replies owners.last.stands_for owners.last.asked stands_last.1 (stands_last.2 ∷ []) stands_last.3 stands_last.0
        (behind faults.DiskFault turns asked owners) stands_last.2 refl end before after owners.printed
        (met_behind faults.DiskFault turns asked owners))))
    fault_ends faults.Closed turns asked owners = absurd (owners.last.stands.5.0.never_closed refl)
    fault_ends faults.OutOfMemory turns asked owners =
        let stands_last = owners.last.stands in
        inr (inr (inr (so_told faults.OutOfMemory turns asked owners ServedLast
        (without_served R D left random_faults shown disk_faults may_leave moment since present counted start key m stands durable first_shown first_kept
        owners.first owners.first_asked owners.text owners.sessions owners.x owners.turned
        owners.task owners.last.commands owners.block owners.replies owners.last.stands_for owners.last.asked stands_last.1 (stands_last.2 ∷ []) stands_last.3 stands_last.0
        (behind faults.OutOfMemory turns asked owners) stands_last.2 refl end before after owners.printed
        (met_behind faults.OutOfMemory turns asked owners)))))

    -- ---- by how the lines went

    pub serves_so : (result : Result (Unit {0}) ServeFault) (turns : List Turn) (asked : List Request) → ServeWent Goes Meets Means Sees shows result start end turns asked before after → EndsSo (serve_status result) turns asked
    serves_so (Ok tt) turns asked went = all_done turns asked went
    serves_so (Err (serve.Script (script.BadLine line))) turns asked went = all_done turns asked went
    serves_so (Err (serve.Script script.ReadFault)) turns asked went = inr (all_done turns asked went)
    serves_so (Err (serve.Script script.WriteFault)) turns asked went =
        ⊎_elim
        (λ (owners : EndsInOwners script.WriteFault turns asked). inr (owners_last script.WriteFault turns asked owners owners.last.stands owners.printed))
        (λ (ends : EndsInSeats (Err (serve.Script script.WriteFault)) turns asked). inl (seat_cut (Err (serve.Script script.WriteFault)) turns asked ends ends.ends.0 ends.ends.1 ends.ends.2 ends.ends.3))
        went
    serves_so (Err (serve.Script script.OutOfMemory)) turns asked went =
        ⊎_elim
        (λ (done : AllDone Goes Meets Means Sees shows start end turns asked before after). inr (inl (turns, [], sym (append-nil turns), all_done turns asked done)))
        (λ more.
        ⊎_elim
        (λ (owners : EndsInOwners script.OutOfMemory turns asked). inr (inr (inr (owners_last script.OutOfMemory turns asked owners owners.last.stands owners.printed))))
        (λ (ends : EndsInSeats (Err (serve.Script script.OutOfMemory)) turns asked). inr (inr (inl (seat_without turns asked ends))))
        more)
        went
    serves_so (Err (serve.Script (script.Applying fault))) turns asked went = fault_ends fault turns asked went
    serves_so (Err (serve.Reading met)) turns asked went = reading_ends met turns asked went

  pub serves_over : (result : Result (Unit {0}) ServeFault) (end : X) (turns : List Turn) (asked : List Request) (before after : Option (List ℕ))
      → ServeWent Goes Meets Means Sees shows result start end turns asked before after
      → Serves (serve_status result) version_limits key m turns asked (seen_at end before after) (may_leave end.2) (KeptTo end)
  serves_over result end turns asked before after went = serves_so end before after result turns asked went

  -- the owner is asked nothing, where the store isn't of the version that is written
  pub serves_none : (written : Option (List ℕ)) → Serves statuses.NeedsUpgrade version_limits key m [] [] (seen_at start written written) (may_leave start.2) (KeptTo start)
  serves_none written = (
    refl,
    all_done start written written [] [] (record {
      text = [];
      sessions = [];
      turned = NoTurn;
      printed = λ b a is_b is_a. same_told written b a is_b is_a ∙ sym (append-nil b);
    }),
  )
