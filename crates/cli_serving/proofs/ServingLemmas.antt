-- Lines of `serve` that are answered one after another.
use Rattle.std.proofs.Common.{◌≡◌, ℕ, ◌+◌, true, List, [], ◌∷◌, ◌++◌, length, take, map, Option, Some, Ok, Err, inl, inr, append_assoc, arith, refl, sym, ap, subst, ◌∙◌, length-append}
use Rattle.std.specs.Prelude.{is_some}
use Rattle.std.specs.List.{flat_map}
use Rattle.std.proofs.lemmas.List.{append-nil, map-append}
use Rattle.cry_base.specs.Requests.{Request}
use Rattle.cry_base.specs.declared.commands.Reply.{Reply}
use Rattle.cry_io.specs.Told.{WhereBothTold}
use Rattle.cry_io.proofs.ToldLemmas.{told_again}
use Rattle.log_visits.specs.declared.fault.ClientFault.{ClientFault}
use Rattle.log_visits.specs.declared.fault.ClientFault.TheVariants as client
use Rattle.read_steps.specs.Steps.{SessionView}
use Rattle.script_text.specs.Printing.{spell_reply}
use Rattle.script_text.specs.Seats.{SeatAsk, Turn, turn_in}
use Rattle.script_text.specs.Seats.Turn.{ToOwner, ToSeat}
use Rattle.script_text.specs.Tasks.{Task}
use Rattle.session_laws.specs.Serving.{spell_plain_reply}
use Rattle.store_owner.specs.declared.apply_fault.ApplyFault.{ApplyFault}
use Rattle.cli_base.specs.Input.{TakesLines}
use Rattle.cli_base.specs.Lines.{InputLine, LineState, bytes_ahead, lines_ahead}
use Rattle.cli_base.specs.Lines.InputLine.{Whole}
use Rattle.cli_sessions.specs.Script.{IsReading, LineAnswered, PrintsReplies}
use Rattle.cli_sessions.specs.Taking.{AreTaken, HoldsFew}
use Rattle.cli_sessions.proofs.ScriptLemmas.{same_told}
use Rattle.cli_sessions.proofs.Takings.{takes_behind, taken_few, taken_on}
use Rattle.cli_sessions.specs.declared.script.ScriptFault.{ScriptFault}
use Rattle.cli_sessions.specs.declared.script.ScriptFault.TheVariants as script
use Rattle.cli_serving.specs.Lines.{AskTurns}
use Rattle.cli_serving.specs.Taking.{CountsReading, CountsTurn, GivesTurn, ServesRan, TakesTurn}
use Rattle.cli_serving.specs.TurnAnswers.{FailsByCount, TurnAnswered}
use Rattle.cli_serving.specs.Turned.{NoTurn, OwnersTurn, SeatsTurn, Turned}
use Rattle.cli_serving.specs.Went.{AllDone, InOwners, InSeats, LineDone, SeatEnds}
use Rattle.cli_serving.specs.declared.serve_fault.ServeFault.{ServeFault}
use Rattle.cli_serving.specs.declared.serve_fault.ServeFault.TheVariants.{Reading, Script}

-- ---- what lines ask for

turns_none : (before : List InputLine) → AskTurns [] before before
turns_none before = record { lines = []; before_is = refl; turns_are = refl }

turns_more : (turns : List Turn) (turn : Turn) (line : List ℕ) (before middle after : List InputLine) → AskTurns turns before middle
    → middle ≡ Whole line ∷ after → turn_in line ≡ Some turn → AskTurns (turns ++ turn ∷ []) before after
turns_more turns turn line before middle after asks middle_is is = record {
  lines = asks.lines ++ line ∷ [];
  before_is =
      asks.before_is ∙ ap (λ rest. map Whole asks.lines ++ rest) middle_is
      ∙ sym (append_assoc (map Whole asks.lines) (Whole line ∷ []) after)
      ∙ ap (λ front. front ++ after) (sym (map-append Whole asks.lines (line ∷ [])));
  turns_are =
      map-append turn_in asks.lines (line ∷ []) ∙ ap (λ o. map turn_in asks.lines ++ o ∷ []) is
      ∙ ap (λ front. front ++ Some turn ∷ []) asks.turns_are ∙ sym (map-append Some turns (turn ∷ []));
}

-- ---- the lines

-- where the lines stand between two of them
pub record Serving {X : Type 0} (Step : X → Request → Reply → X → Type 0) (Fails : X → Request → ApplyFault → X → Type 0) (Stand : X → ℕ → List Request → Type 0) (Reads : X → X → Type 0)
    (shown : X → Option (List ℕ)) (start x : X) (sessions : List SessionView) (old now : LineState) (left_first left written_first written : Option (List ℕ)) : Type 0 where
  pub turns : List Turn
  pub asked : List Request
  pub text : List ℕ
  pub turned : Turned (LineDone Step Fails Stand) Reads shown start turns asked text sessions x
  pub given : now.given ≡ old.given + length turns
  pub lines : WhereBothTold left_first left (λ before after. AskTurns turns (lines_ahead old before) (lines_ahead now after))
  pub taken : WhereBothTold left_first left (AreTaken (length turns) old now)
  pub printed : WhereBothTold written_first written (λ before after. after ≡ before ++ text)

module _ (X : Type 0) (Step : X → Request → Reply → X → Type 0) (Fails : X → Request → ApplyFault → X → Type 0) (Stand : X → ℕ → List Request → Type 0) (Reads : X → X → Type 0)
    (shown : X → Option (List ℕ)) (faults : X → ℕ) (start : X) where
  -- no line was begun
  pub serving_at_start : (sessions : List SessionView) → sessions ≡ [] → (old : LineState) (left written : Option (List ℕ))
      → Serving Step Fails Stand Reads shown start start sessions old old left left written written
  serving_at_start sessions none old left written = record {
    turns = [];
    asked = [];
    text = [];
    turned = subst (λ (l : List SessionView). Turned (LineDone Step Fails Stand) Reads shown start [] [] [] l start) (sym none) NoTurn;
    given = omega arith;
    lines = λ x y was now. subst (λ z. AskTurns [] (lines_ahead old x) (lines_ahead old z)) (sym (same_told left x y was now)) (turns_none (lines_ahead old x));
    taken = λ x y was now. subst (λ z. AreTaken 0 old old x z) (sym (same_told left x y was now)) ([], refl, refl);
    printed = λ x y was now. same_told written x y was now ∙ sym (append-nil x);
  }

  -- of lines that ended in a session's, whose reading met a fault
  counts_reading : (met : ClientFault) (end : X) (turns : List Turn) (asked : List Request) (before after : Option (List ℕ))
      → (went : InSeats Step Fails Stand Reads shown (Err (Reading met)) start end turns asked before after) → FailsByCount (Err (Reading met)) (faults went.x) (faults end)
      → CountsReading Step Fails Stand Reads shown faults (Err (Reading met)) start end turns asked before after went
  counts_reading client.NotAStore end turns asked before after went counts = tt
  counts_reading client.WrongKey end turns asked before after went counts = tt
  counts_reading (client.Damaged at) end turns asked before after went counts = tt
  counts_reading (client.Tampered batch at) end turns asked before after went counts = tt
  counts_reading (client.NoHolder known) end turns asked before after went counts = tt
  counts_reading client.Unseen end turns asked before after went counts = tt
  counts_reading client.DiskFault end turns asked before after went counts = counts
  counts_reading client.OutOfMemory end turns asked before after went counts = tt

  module _ (x : X) (sessions : List SessionView) (old now : LineState) (first middle out_first out : Option (List ℕ))
      (so_far : Serving Step Fails Stand Reads shown start x sessions old now first middle out_first out) (told : is_some middle ≡ is_some first) (new : LineState) (last : Option (List ℕ)) where
    all_done : (y : X) (out_last : Option (List ℕ)) → y ≡ x → out_last ≡ out → AllDone Step Fails Stand Reads shown start y so_far.turns so_far.asked out_first out_last
    all_done y out_last same same_out = record {
      text = so_far.text;
      sessions = sessions;
      turned = subst (λ (z : X). Turned (LineDone Step Fails Stand) Reads shown start so_far.turns so_far.asked so_far.text sessions z) (sym same) so_far.turned;
      printed = λ b a was is. so_far.printed b a was (sym same_out ∙ is);
    }

    -- there is no line more
    pub serves_to_end : WhereBothTold middle last (λ b a. (lines_ahead now b ≡ []) × (lines_ahead new a ≡ []))
        → ServesRan Step Fails Stand Reads shown faults (Ok tt) start x old new first last out_first out
    serves_to_end none = record {
      turns = so_far.turns;
      asked = so_far.asked;
      went = all_done x out refl refl;
      failed = tt;
      lines = λ b a was is.
          let again = told_again first middle b told was in
          let gone = none again.0 a again.1 is in
          (subst (λ rest. AskTurns so_far.turns (lines_ahead old b) rest) gone.0 (so_far.lines b again.0 was again.1), gone.1);
      number = tt;
      taken = λ b a was is. tt;
    }

    -- no memory, and nothing was begun of a line
    without_memory : (y : X) (out_last : Option (List ℕ)) → y ≡ x → out_last ≡ out
        → ServesRan Step Fails Stand Reads shown faults (Err (Script script.OutOfMemory)) start y old new first last out_first out_last
    without_memory y out_last same same_out = record {
      turns = so_far.turns;
      asked = so_far.asked;
      went = inl (all_done y out_last same same_out);
      failed = tt;
      lines = λ b a was is.
          let again = told_again first middle b told was in
          (lines_ahead now again.0, so_far.lines b again.0 was again.1);
      number = tt;
      taken = λ b a was is. tt;
    }

    -- the next line isn't read
    pub serves_to_read : (fault : ScriptFault) → WhereBothTold middle last (λ b a. GivesTurn (Err fault) (lines_ahead now b) (lines_ahead new a))
        → WhereBothTold middle last (TakesTurn (Err fault) now new) → CountsTurn (Err fault) now new → IsReading fault
        → ServesRan Step Fails Stand Reads shown faults (Err (Script fault)) start x old new first last out_first out
    serves_to_read (script.BadLine line) gives takes count reading = record {
      turns = so_far.turns;
      asked = so_far.asked;
      went = all_done x out refl refl;
      failed = tt;
      lines = λ b a was is.
          let again = told_again first middle b told was in
          (lines_ahead now again.0, so_far.lines b again.0 was again.1, gives again.0 a again.1 is);
      number = count ∙ omega (arith, so_far.given);
      taken = λ b a was is.
          let again = told_again first middle b told was in
          takes_behind (length so_far.turns) 1 (length so_far.turns + 1) old now b again.0 a refl (so_far.taken b again.0 was again.1) (takes again.0 a again.1 is);
    }
    serves_to_read script.ReadFault gives takes count reading = record {
      turns = so_far.turns;
      asked = so_far.asked;
      went = all_done x out refl refl;
      failed = tt;
      lines = λ b a was is.
          let again = told_again first middle b told was in
          subst (λ rest. AskTurns so_far.turns (lines_ahead old b) rest) (sym (gives again.0 a again.1 is)) (so_far.lines b again.0 was again.1);
      number = tt;
      taken = λ b a was is.
          let again = told_again first middle b told was in
          let front = so_far.taken b again.0 was again.1 in
          let none = takes again.0 a again.1 is in
          (front.0, front.1, front.2 ∙ ap (λ rest. front.0 ++ rest) (sym none.0));
    }
    serves_to_read script.OutOfMemory gives takes count reading = without_memory x out refl refl
    serves_to_read script.WriteFault gives takes count reading = absurd reading
    serves_to_read (script.Applying fault) gives takes count reading = absurd reading

    module _ (turn : Turn) (gives : WhereBothTold middle last (λ b a. (line : List ℕ) × (lines_ahead now b ≡ Whole line ∷ lines_ahead new a) × (turn_in line ≡ Some turn)))
        (takes : WhereBothTold middle last (λ b a. AreTaken 1 now new b a × HoldsFew new)) (later : List SessionView) (y : X) (out_last : Option (List ℕ)) (out_told : is_some out ≡ is_some out_first) where
      -- the lines with one more
      lines_more : WhereBothTold first last (λ b a. AskTurns (so_far.turns ++ turn ∷ []) (lines_ahead old b) (lines_ahead new a))
      lines_more = λ b a was is.
          let again = told_again first middle b told was in
          let given = gives again.0 a again.1 is in
          turns_more so_far.turns turn given.0 (lines_ahead old b) (lines_ahead now again.0) (lines_ahead new a) (so_far.lines b again.0 was again.1) given.1 given.2

      -- so it is with what was taken
      taken_more : WhereBothTold first last (λ b a. AreTaken (length (so_far.turns ++ turn ∷ [])) old new b a × HoldsFew new)
      taken_more = λ b a was is.
          let again = told_again first middle b told was in
          let one = takes again.0 a again.1 is in (
            taken_on (length so_far.turns) (length (so_far.turns ++ turn ∷ [])) old now new b again.0 a
                (length-append so_far.turns (turn ∷ [])) (so_far.taken b again.0 was again.1) one.0,
            one.1,
          )

      taken_then : WhereBothTold first last (λ b a. TakesLines (length (so_far.turns ++ turn ∷ [])) (bytes_ahead old b) a)
      taken_then = λ b a was is. let more = taken_more b a was is in taken_few (length (so_far.turns ++ turn ∷ [])) old new b a more.0 more.1

      -- what is printed behind it
      printed_on : (P : List ℕ → List ℕ → Type 0) → WhereBothTold out out_last P → WhereBothTold out_first out_last (λ b a. P (b ++ so_far.text) a)
      printed_on P prints = λ b a was is.
          let again = told_again out_first out b out_told was in
          subst (λ middle. P middle a) (so_far.printed b again.0 was again.1) (prints again.0 a again.1 is)

      one_more : (text : List ℕ) → WhereBothTold out out_last (λ b a. a ≡ b ++ text) → WhereBothTold out_first out_last (λ b a. a ≡ b ++ (so_far.text ++ text))
      one_more text prints = λ b a was is. printed_on (λ b a. a ≡ b ++ text) prints b a was is ∙ append_assoc b so_far.text text

      nothing_more : out_last ≡ out → WhereBothTold out_first out_last (λ b a. a ≡ b ++ so_far.text)
      nothing_more same = λ b a was is. so_far.printed b a was (sym same ∙ is)

      -- what the lines did, with one more
      turned_with : (t : Turn) → turn ≡ t → (asked : List Request) (text : List ℕ)
          → Turned (LineDone Step Fails Stand) Reads shown start (so_far.turns ++ t ∷ []) asked text later y
          → Turned (LineDone Step Fails Stand) Reads shown start (so_far.turns ++ turn ∷ []) asked text later y
      turned_with t is asked text turned =
          subst (λ (l : Turn). Turned (LineDone Step Fails Stand) Reads shown start (so_far.turns ++ l ∷ []) asked text later y) (sym is) turned

      serving_with : new.given ≡ now.given + 1 → (asked : List Request) (text : List ℕ)
          → Turned (LineDone Step Fails Stand) Reads shown start (so_far.turns ++ turn ∷ []) asked (so_far.text ++ text) later y
          → WhereBothTold out out_last (λ b a. a ≡ b ++ text) → Serving Step Fails Stand Reads shown start y later old new first last out_first out_last
      serving_with count asked text turned prints = record {
        turns = so_far.turns ++ turn ∷ [];
        asked = asked;
        text = so_far.text ++ text;
        turned = turned;
        given = omega (arith, count, so_far.given, length-append so_far.turns (turn ∷ []));
        lines = lines_more;
        taken = λ b a was is. (taken_more b a was is).0;
        printed = one_more text prints;
      }

      -- a line was answered
      pub serves_on : (t : Turn) → turn ≡ t → new.given ≡ now.given + 1 → TurnAnswered Step Fails Stand Reads shown faults (Ok tt) x t sessions later y out out_last
          → Serving Step Fails Stand Reads shown start y later old new first last out_first out_last
      serves_on (ToOwner task) is count answered =
          let line = answered.1 in
          let turned = subst (λ (l : List SessionView). Turned (LineDone Step Fails Stand) Reads shown start (so_far.turns ++ ToOwner task ∷ []) (so_far.asked ++ line.block)
          (so_far.text ++ flat_map spell_reply line.replies) l y) (sym answered.0) (OwnersTurn so_far.turned line.went) in
          serving_with count (so_far.asked ++ line.block) (flat_map spell_reply line.replies)
          (turned_with (ToOwner task) is (so_far.asked ++ line.block) (so_far.text ++ flat_map spell_reply line.replies) turned) line.printed
      serves_on (ToSeat ask) is count answered =
          let done = answered.1 in
          serving_with count so_far.asked (spell_plain_reply done.0)
          (turned_with (ToSeat ask) is so_far.asked (so_far.text ++ spell_plain_reply done.0) (SeatsTurn ask done.0 so_far.turned done.1 answered.0)) done.2

      -- the lines ended in the owner's
      in_owners : (task : Task) → turn ≡ ToOwner task → (met : ScriptFault) → (line : LineAnswered Step Fails Stand true (Err met) x task y out out_last)
          → InOwners Step Fails Stand Reads shown met start y (so_far.turns ++ turn ∷ []) (so_far.asked ++ take (length line.replies) line.block) out_first out_last
      in_owners task is met line = record {
        first = so_far.turns;
        first_asked = so_far.asked;
        text = so_far.text;
        sessions = sessions;
        x = x;
        turned = so_far.turned;
        task = task;
        block = line.block;
        replies = line.replies;
        last = line.went;
        turns_are = ap (λ t. so_far.turns ++ t ∷ []) is;
        asked_are = refl;
        printed = printed_on (PrintsReplies (Err met) line.replies) line.printed;
      }

      -- and in a session's
      in_seats : (ask : SeatAsk) → turn ≡ ToSeat ask → (fault : ServeFault) → SeatEnds (Err fault) (shown x) ask sessions so_far.text out_first out_last → Reads x y
          → InSeats Step Fails Stand Reads shown (Err fault) start y (so_far.turns ++ turn ∷ []) so_far.asked out_first out_last
      in_seats ask is fault ends read = record {
        first = so_far.turns;
        text = so_far.text;
        sessions = sessions;
        x = x;
        turned = so_far.turned;
        ask = ask;
        ends = ends;
        read = read;
        turns_are = ap (λ t. so_far.turns ++ t ∷ []) is;
      }

      -- so the lines ended
      pub serves_to_fault : (t : Turn) → turn ≡ t → (fault : ServeFault) → TurnAnswered Step Fails Stand Reads shown faults (Err fault) x t sessions later y out out_last
          → ServesRan Step Fails Stand Reads shown faults (Err fault) start y old new first last out_first out_last
      unfolding in_seats
      serves_to_fault (ToOwner task) is (Script (script.BadLine line)) answered = absurd answered.1
      serves_to_fault (ToOwner task) is (Script script.ReadFault) answered = absurd answered.1
      serves_to_fault (ToOwner task) is (Script script.WriteFault) answered = record {
        turns = so_far.turns ++ turn ∷ [];
        asked = so_far.asked ++ take (length answered.1.replies) answered.1.block;
        went = inl (in_owners task is script.WriteFault answered.1);
        failed = tt;
        lines = lines_more;
        number = tt;
        taken = taken_then;
      }
      serves_to_fault (ToOwner task) is (Script script.OutOfMemory) (same, inl none) = without_memory y out_last none.0 none.1
      serves_to_fault (ToOwner task) is (Script script.OutOfMemory) (same, inr line) = record {
        turns = so_far.turns ++ turn ∷ [];
        asked = so_far.asked ++ take (length line.replies) line.block;
        went = inr (inl (in_owners task is script.OutOfMemory line));
        failed = tt;
        lines = λ b a was at. (lines_ahead new a, lines_more b a was at);
        number = tt;
        taken = λ b a was at. tt;
      }
      serves_to_fault (ToOwner task) is (Script (script.Applying fault)) answered = record {
        turns = so_far.turns ++ turn ∷ [];
        asked = so_far.asked ++ take (length answered.1.replies) answered.1.block;
        went = in_owners task is (script.Applying fault) answered.1;
        failed = tt;
        lines = lines_more;
        number = tt;
        taken = taken_then;
      }
      serves_to_fault (ToOwner task) is (Reading met) answered = absurd answered.1
      serves_to_fault (ToSeat ask) is (Script (script.BadLine line)) answered = absurd answered.1
      serves_to_fault (ToSeat ask) is (Script script.ReadFault) answered = absurd answered.1
      serves_to_fault (ToSeat ask) is (Script script.WriteFault) answered =
          let done = answered.1 in
          record {
            turns = so_far.turns ++ turn ∷ [];
            asked = so_far.asked;
            went = inr (in_seats ask is (Script script.WriteFault) (
              done.0,
              later,
              done.1,
              λ b a was at.
                  let cut = printed_on (λ b a. (n : ℕ) × (a ≡ b ++ take n (spell_plain_reply done.0))) done.2 b a was at in
                  (cut.0, cut.1 ∙ append_assoc b so_far.text (take cut.0 (spell_plain_reply done.0))),
            ) answered.0);
            failed = tt;
            lines = lines_more;
            number = tt;
            taken = taken_then;
          }
      serves_to_fault (ToSeat ask) is (Script script.OutOfMemory) answered = record {
        turns = so_far.turns ++ turn ∷ [];
        asked = so_far.asked;
        went = inr (inr (in_seats ask is (Script script.OutOfMemory) (answered.1.0, later, answered.1.1, nothing_more answered.1.2) answered.0));
        failed = tt;
        lines = λ b a was at. (lines_ahead new a, lines_more b a was at);
        number = tt;
        taken = λ b a was at. tt;
      }
      serves_to_fault (ToSeat ask) is (Script (script.Applying fault)) answered = absurd answered.1
      serves_to_fault (ToSeat ask) is (Reading met) answered =
          let went = in_seats ask is (Reading met) (answered.1.0, nothing_more answered.1.1) answered.0 in
          record {
            turns = so_far.turns ++ turn ∷ [];
            asked = so_far.asked;
            went = went;
            failed = counts_reading met y (so_far.turns ++ turn ∷ []) so_far.asked out_first out_last went answered.2;
            lines = lines_more;
            number = tt;
            taken = taken_then;
          }
