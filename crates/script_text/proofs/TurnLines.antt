-- A line of `serve` is read as what it asks for, and no other line as one.
use Rattle.std.proofs.Common.{◌≡◌, ℕ, ◌+◌, List, ◌∷◌, ◌++◌, length, take, drop, Option, Some, None, Result, Ok, Err, refl, sym, ap, subst, ◌∙◌}
use Rattle.std.specs.Prelude.{codes, position, option_map, ◌↔◌, IfOk}
use Rattle.std.proofs.lemmas.List.{take_at, drop_at, drop-drop}
use Rattle.std.proofs.lemmas.Option.{option_and_then_some, same_Some}
use Rattle.cry_base.specs.Requests.Request.{AddHolder, MakeFolder, WriteFile, Remove, Rename, Relocate, Grant, Revoke}
use Rattle.script_text.specs.Reading.{IsKey, IsNumber, behind, key_of, number_of}
use Rattle.script_text.specs.Seats.{IsAskLine, IsSeatLine, IsTurnLine, ReadsTurn, SeatAsk, Turn, by_word, seat_of, session_of, turn_in, turn_of}
use Rattle.script_text.specs.Seats.SeatAsk.{Begins, Pins, Shows, Steps}
use Rattle.script_text.specs.Seats.Turn.{ToOwner, ToSeat}
use Rattle.script_text.specs.Tasks.{IsTaskLine, Task, task_in}
use Rattle.script_text.specs.Tasks.Task.{Does, Replaces}
use Rattle.script_text.specs.declared.fault.LineFault.{LineFault}
use Rattle.script_text.specs.declared.fault.LineFault.TheVariants.{BadLine, OutOfMemory}
use Rattle.script_text.specs.declared.seats.TurnLine.{TurnLine}
use Rattle.script_text.proofs.BundleLines.{cut_found, key_found, key_told}
use Rattle.script_text.proofs.CommandLines.{asked_for, map_some}
use Rattle.script_text.proofs.Fields.{behind_told, cut_told, is_space}
use Rattle.script_text.proofs.Numbers.{number_found, number_told}
use Rattle.script_text.proofs.TaskLines.{task_found, task_told}

-- ---- what is read is what the line asks for

seat_told : (ask : ℕ → SeatAsk) (word line fields : List ℕ) (found : SeatAsk) → line ≡ word ++ fields → seat_of ask fields ≡ Some found
    → (seat : ℕ) × (ask seat ≡ found) × IsSeatLine word line seat
unfolding seat_of
seat_told ask word line fields found spelled is =
    let n = map_some ask (number_of fields) found is in
    (n.0, n.2, record { number = fields; spelled = spelled; is_number = number_told fields n.0 n.1 })

session_told : (line fields : List ℕ) (found : SeatAsk) → line ≡ codes "session " ++ fields → session_of fields ≡ Some found → IsAskLine line found
unfolding session_of
session_told line fields found spelled is =
    option_and_then_some _ (position is_space fields) found is
    (λ space at_space then. option_and_then_some _ (number_of (take space fields)) found then
    (λ holder is_number last.
    let key = map_some (Begins holder) (key_of (drop (space + 1) fields)) found last in
    subst (IsAskLine line) key.2 (record {
      number = take space fields;
      digits = drop (space + 1) fields;
      spelled = spelled ∙ ap (λ f. codes "session " ++ f) (cut_told fields space at_space);
      is_number = number_told (take space fields) holder is_number;
      is_key = key_told (drop (space + 1) fields) key.0 key.1;
    })))

word_told : {P : Type 0} (word line : List ℕ) (read : List ℕ → Option SeatAsk) (other : Option Turn) (turn : Turn) (at : Option (List ℕ))
    → behind word line ≡ at → by_word at read other ≡ Some turn
    → ((fields : List ℕ) (ask : SeatAsk) → line ≡ word ++ fields → read fields ≡ Some ask → ToSeat ask ≡ turn → P) → (other ≡ Some turn → P) → P
word_told word line read other turn (Some fields) at is here there =
    let found = map_some ToSeat (read fields) turn is in here fields found.0 (behind_told word line fields at) found.1 found.2
word_told word line read other turn None at is here there = there is

pub turn_told : (line : List ℕ) (turn : Turn) → turn_in line ≡ Some turn → IsTurnLine line turn
unfolding turn_in
turn_told line turn is =
    let P : Turn → Type 0 = IsTurnLine line in
    word_told (codes "session ") line session_of _ turn (behind (codes "session ") line) refl is
    (λ fields ask spelled asks same. subst P same (session_told line fields ask spelled asks))
    (λ is. word_told (codes "step ") line (seat_of Steps) _ turn (behind (codes "step ") line) refl is
    (λ fields ask spelled asks same. let t = seat_told Steps (codes "step ") line fields ask spelled asks in subst P (ap ToSeat t.1 ∙ same) t.2)
    (λ is. word_told (codes "pin ") line (seat_of Pins) _ turn (behind (codes "pin ") line) refl is
    (λ fields ask spelled asks same. let t = seat_told Pins (codes "pin ") line fields ask spelled asks in subst P (ap ToSeat t.1 ∙ same) t.2)
    (λ is. word_told (codes "show ") line (seat_of Shows) _ turn (behind (codes "show ") line) refl is
    (λ fields ask spelled asks same. let t = seat_told Shows (codes "show ") line fields ask spelled asks in subst P (ap ToSeat t.1 ∙ same) t.2)
    (λ is. let t = map_some ToOwner (task_in line) turn is in subst P t.2 (task_told line t.0 t.1)))))

-- ---- what the line asks for is read

-- no line of `run` begins with a session's word
as_task : (line : List ℕ) (task : Task) → IsTaskLine line task → turn_in line ≡ option_map ToOwner (task_in line)
unfolding turn_in behind
as_task line (Does AddHolder) is = rw is refl
as_task line (Does (MakeFolder path)) is = rw is.spelled refl
as_task line (Does (WriteFile path bytes)) is = rw is.spelled refl
as_task line (Does (Remove path)) is = rw is.spelled refl
as_task line (Does (Rename path name)) is = rw is.spelled refl
as_task line (Does (Relocate path into)) is = rw is.spelled refl
as_task line (Does (Grant holder path)) is = rw is.spelled refl
as_task line (Does (Revoke holder path)) is = rw is.spelled refl
as_task line (Replaces holder) is = rw is.spelled refl

session_word : (fields : List ℕ) → turn_in (codes "session " ++ fields) ≡ option_map ToSeat (session_of fields)
unfolding turn_in behind
session_word fields = refl

step_word : (fields : List ℕ) → turn_in (codes "step " ++ fields) ≡ option_map ToSeat (seat_of Steps fields)
unfolding turn_in behind
step_word fields = refl

pin_word : (fields : List ℕ) → turn_in (codes "pin " ++ fields) ≡ option_map ToSeat (seat_of Pins fields)
unfolding turn_in behind
pin_word fields = refl

show_word : (fields : List ℕ) → turn_in (codes "show " ++ fields) ≡ option_map ToSeat (seat_of Shows fields)
unfolding turn_in behind
show_word fields = refl

seat_found : (ask : ℕ → SeatAsk) (number : List ℕ) (seat : ℕ) → IsNumber number seat → option_map ToSeat (seat_of ask number) ≡ Some (ToSeat (ask seat))
unfolding seat_of
seat_found ask number seat is = ap (λ o. option_map ToSeat (option_map ask o)) (number_found number seat is)

session_found : (number digits : List ℕ) (holder : ℕ) (key : List ℕ) → IsNumber number holder → IsKey digits key
    → session_of (number ++ 32 ∷ digits) ≡ Some (Begins holder key)
unfolding session_of
session_found number digits holder key is_number is_key =
    let front : take (length number) (number ++ 32 ∷ digits) ≡ number = take_at number (32 ∷ digits) (length number) refl in
    let back : drop (length number + 1) (number ++ 32 ∷ digits) ≡ digits =
    sym (drop-drop 1 (length number) (number ++ 32 ∷ digits)) ∙ ap (drop 1) (drop_at number (32 ∷ digits) (length number) refl) in
    rw (cut_found number digits holder is_number, front, number_found number holder is_number, back, key_found digits key is_key) refl

pub turn_found : (line : List ℕ) (turn : Turn) → IsTurnLine line turn → turn_in line ≡ Some turn
turn_found line (ToOwner task) is = as_task line task is ∙ ap (option_map ToOwner) (task_found line task is)
turn_found line (ToSeat (Begins holder key)) is =
    ap turn_in is.spelled ∙ session_word (is.number ++ 32 ∷ is.digits)
    ∙ ap (option_map ToSeat) (session_found is.number is.digits holder key is.is_number is.is_key)
turn_found line (ToSeat (Steps seat)) is = ap turn_in is.spelled ∙ step_word is.number ∙ seat_found Steps is.number seat is.is_number
turn_found line (ToSeat (Pins seat)) is = ap turn_in is.spelled ∙ pin_word is.number ∙ seat_found Pins is.number seat is.is_number
turn_found line (ToSeat (Shows seat)) is = ap turn_in is.spelled ∙ show_word is.number ∙ seat_found Shows is.number seat is.is_number

pub one_turn : (line : List ℕ) (one other : Turn) → IsTurnLine line one → IsTurnLine line other → one ≡ other
one_turn line one other is_one is_other = same_Some one other (sym (turn_found line one is_one) ∙ turn_found line other is_other)

-- ---- what an answer says of the line

pub ok_told : (line : List ℕ) (r : Result TurnLine LineFault) → ReadsTurn r (turn_in line) → IfOk r (λ turn. IsTurnLine line (turn_of turn))
ok_told line (Ok turn) reads = turn_told line (turn_of turn) reads
ok_told line (Err fault) reads = tt

pub bad_line_told : (line : List ℕ) (r : Result TurnLine LineFault) → ReadsTurn r (turn_in line) → (r ≡ Err BadLine) ↔ ((turn : Turn) → ¬ IsTurnLine line turn)
bad_line_told line (Ok turn) reads = (λ is other spelled. cc, λ none. absurd (none (turn_of turn) (turn_told line (turn_of turn) reads)))
bad_line_told line (Err BadLine) reads = (λ is turn spelled. let found = turn_found line turn spelled in cc, λ none. refl)
bad_line_told line (Err OutOfMemory) reads = (
  λ is turn spelled. cc,
  λ none. let asked = asked_for (turn_in line) reads in absurd (none asked.0 (turn_told line asked.0 asked.1)),
)
