-- What lines of `serve` did is what the definition of seats says, over an owner who stands for a journal.
use Rattle.std.proofs.Common.{◌≡◌, ⊎_elim, ℕ, List, [], ◌∷◌, ◌++◌, length, Option, Some, append_assoc, inl, refl, sym, ap, subst, ◌∙◌}
use Rattle.std.specs.Prelude.{is_some}
use Rattle.std.specs.List.{flat_map}
use Rattle.std.proofs.lemmas.List.{append-nil}
use Rattle.std.proofs.lemmas.List.Elements.{All-append, All-nil}
use Rattle.commit_journal.specs.Holding.{IsPrefix}
use Rattle.commit_journal.proofs.KeptLemmas.{prefix_trans}
use Rattle.cry_base.specs.Requests.{Request}
use Rattle.cry_base.specs.Sets.{In}
use Rattle.cry_base.specs.declared.commands.Reply.{Reply}
use Rattle.cry_base.specs.declared.limits.Limits.{Limits}
use Rattle.cry_base.proofs.Members.{In-append}
use Rattle.cry_io.specs.Told.{WhereBothTold}
use Rattle.cry_io.proofs.ToldLemmas.{both_told_through}
use Rattle.group_book.specs.Asked.{asked_of}
use Rattle.journal_bytes.specs.Journals.{StandsWholeForJournal}
use Rattle.journal_bytes.specs.Script.{Going, answer, line_going, line_reply, script_going, script_replies}
use Rattle.public_fold.specs.Journal.{Journal}
use Rattle.public_fold.specs.Valid.{BeginsWell, IsValid}
use Rattle.read_steps.specs.Steps.{SessionView}
use Rattle.script_text.specs.Printing.{spell_reply}
use Rattle.script_text.specs.Seats.{SeatAsk, Turn}
use Rattle.script_text.specs.Seats.SeatAsk.{Begins}
use Rattle.script_text.specs.Seats.Turn.{ToOwner, ToSeat}
use Rattle.script_text.specs.Tasks.{Task}
use Rattle.session_laws.specs.Replying.{AnswersAsk, AnswersTurn, AnswersTurns}
use Rattle.session_laws.specs.Seats.{PlainReply, Seat, seat_reply, seats_then}
use Rattle.session_laws.specs.Serving.{HaveHonestKeys, IsHonestKey, Serving, served_text, served_then, spell_plain_reply, turn_text, turn_then}
use Rattle.session_laws.proofs.HoldersStay.{honest_front}
use Rattle.session_laws.proofs.KeysHonest.{served_keys}
use Rattle.session_laws.proofs.LinesReplied.{answered_on}
use Rattle.session_laws.proofs.SeatsForward.{script_grows, stands_follow, text_follows}
use Rattle.store_owner.specs.Drawing.{AreKeys, joined}
use Rattle.store_owner.specs.Sessions.{with_draws}
use Rattle.cli_sessions.proofs.AnsweredScripts.{joined_more}
use Rattle.cli_serving.specs.Seating.{SeatWent}
use Rattle.cli_serving.specs.Served.{turn_asks, turns_ask}
use Rattle.cli_serving.specs.Turned.{NoTurn, OwnersTurn, SeatsTurn, Turned}
use Rattle.cli_serving.proofs.LinesGo.{LineGoes}
use Rattle.cli_serving.proofs.SeatTurns.{AreSeats, seat_answers, seat_replies, seats_behind, seats_grow}

-- one line more
pub text_more : (limits : Limits) (s : Serving) (turns : List Turn) (t : Turn) → served_text limits s (turns ++ t ∷ []) ≡ served_text limits s turns ++ turn_text limits (served_then limits s turns) t
unfolding served_text
text_more limits s turns t =
    text_follows limits s turns (t ∷ []) ∙ ap (λ l. served_text limits s turns ++ l) (append-nil (turn_text limits (served_then limits s turns) t))

pub then_more : (limits : Limits) (s : Serving) (turns : List Turn) (t : Turn) → served_then limits s (turns ++ t ∷ []) ≡ turn_then limits (served_then limits s turns) t
unfolding served_then
then_more limits s turns t = stands_follow limits s turns (t ∷ [])

pub asked_more : (limits : Limits) (s : Serving) (turns : List Turn) (t : Turn) → turns_ask limits s (turns ++ t ∷ []) ≡ turns_ask limits s turns ++ turn_asks limits (served_then limits s turns) t
unfolding turns_ask served_then
asked_more limits s [] t = append-nil (turn_asks limits s t)
asked_more limits s (u ∷ turns) t =
    let next : Serving = turn_then limits s u in
    ap (λ (rs : List Request). turn_asks limits s u ++ rs) (asked_more limits next turns t)
    ∙ sym (append_assoc (turn_asks limits s u) (turns_ask limits next turns) (turn_asks limits (served_then limits next turns) t))

pub answered_more : (owner : List ℕ) (limits : Limits) (s : Serving) (turns : List Turn) (t : Turn) (text last : List ℕ) → AnswersTurns owner limits s turns text → AnswersTurn owner limits (served_then limits s turns) t last
    → AnswersTurns owner limits s (turns ++ t ∷ []) (text ++ last)
answered_more owner limits s turns t text last here one = answered_on owner limits s turns (t ∷ []) text last here (last, [], sym (append-nil last), one, refl)

-- `serve` begins where the owner's session does, with no seat
abbrev pub serving : Going → Serving
serving g = record { going = g; seats = [] }

same_told : (told : Option (List ℕ)) (x y : List ℕ) → told ≡ Some x → told ≡ Some y → x ≡ y
same_told told x y one other = let both = sym one ∙ other in cc

-- the keys of the seats that lines began are honest where these lines' are in a journal that goes on
pub seats_honest : (limits : Limits) (g : Going) (turns : List Turn) (drawn : List (List ℕ)) (now : Going) (final : Journal) (seats : List Seat) → IsValid final → IsPrefix now.journal final → HaveHonestKeys final turns →
    (served_then limits (serving (with_draws g (joined drawn ++ []))) turns).seats ≡ seats → (seat : Seat) → In seat seats → IsHonestKey now.journal seat.holder seat.key
seats_honest limits g turns drawn now final seats valid front honest are seat i =
    let begun : In (ToSeat (Begins seat.holder seat.key)) turns =
    ⊎_elim (λ old. absurd old.1) (λ there. there)
    (served_keys limits (serving (with_draws g (joined drawn ++ []))) turns seat (subst (λ (l : List Seat). In seat l) (sym are) i))
    in
    honest_front now.journal front.0 seat.holder seat.key (subst BeginsWell (sym front.1) valid.0)
    (subst (λ (m : Journal). IsHonestKey m seat.holder seat.key) (sym front.1) (honest seat.holder seat.key begun))

module _ (X : Type 0) (limits : Limits) (key : List ℕ) (At : List Request → List Reply → List (List ℕ) → Going → X → Type 0) (left : X → Option (List ℕ)) (start : X) (g : Going) where
  -- where the lines stand, and who has which seat; and what is printed, for keys that are honest in a journal that goes on from here
  pub record Served (turns : List Turn) (asked : List Request) (text : List ℕ) (sessions : List SessionView) (x : X) : Type 0 where
    pub now : Going
    pub drawn : List (List ℕ)
    pub drawn_sizes : AreKeys drawn
    pub told : is_some (left x) ≡ is_some (left start)
    pub next_bytes : WhereBothTold (left start) (left x) (λ x y. x ≡ joined drawn ++ y)
    pub given : List Reply
    pub stands : At asked given drawn now x
    pub goes : (rest : List ℕ) → (served_then limits (serving (with_draws g (joined drawn ++ rest))) turns).going ≡ with_draws now rest
    pub asks : (rest : List ℕ) → turns_ask limits (serving (with_draws g (joined drawn ++ rest))) turns ≡ asked
    pub scripted : (rest : List ℕ) → script_going limits (with_draws g (joined drawn ++ rest)) asked ≡ with_draws now rest
    pub replied : (rest : List ℕ) → script_replies limits (with_draws g (joined drawn ++ rest)) asked ≡ given
    pub seats : List Seat
    pub seats_are : (rest : List ℕ) → (served_then limits (serving (with_draws g (joined drawn ++ rest))) turns).seats ≡ seats
    pub are : AreSeats key now.journal seats sessions
    pub answered : (rest : List ℕ) → AnswersTurns key limits (serving (with_draws g (joined drawn ++ rest))) turns text
    pub answers : (final : Journal) → IsValid final → IsPrefix now.journal final → HaveHonestKeys final turns
        → (rest : List ℕ) → served_text limits (serving (with_draws g (joined drawn ++ rest))) turns ≡ text

module _ (X : Type 0) (limits : Limits) (key : List ℕ) (At : List Request → List Reply → List (List ℕ) → Going → X → Type 0) (left shown : X → Option (List ℕ))
    (Line : X → Task → List Request → List Reply → X → Type 0) (Reads : X → X → Type 0)
    (line : (asked : List Request) (given : List Reply) (drawn : List (List ℕ)) (g : Going) (x : X) (task : Task) (block : List Request) (replies : List Reply) (y : X)
    → At asked given drawn g x → Line x task block replies y
    → (h : Going) × (one : LineGoes limits g task block replies h (left x) (left y)) × At (asked ++ block) (given ++ replies) (drawn ++ one.drawn) h y)
    (reads : (asked : List Request) (given : List Reply) (drawn : List (List ℕ)) (g : Going) (x y : X) → At asked given drawn g x → Reads x y → (left y ≡ left x) × At asked given drawn g y)
    (whole : (asked : List Request) (given : List Reply) (drawn : List (List ℕ)) (g : Going) (x : X) → At asked given drawn g x
    → (bytes : List ℕ) × (shown x ≡ Some bytes) × StandsWholeForJournal key g.journal bytes)
    (start : X) (g : Going) where
  abbrev Went : List Turn → List Request → List ℕ → List SessionView → X → Type 0
  Went turns asked text sessions x = Turned Line Reads shown start turns asked text sessions x

  abbrev So : List Turn → List Request → List ℕ → List SessionView → X → Type 0
  So = Served X limits key At left start g

  pub begins : At [] [] [] g start → So [] [] [] [] start
  unfolding served_then served_text turns_ask script_going script_replies
  begins at = record {
    now = g;
    drawn = [];
    drawn_sizes = All-nil (λ (k : List ℕ). length k ≡ 32);
    told = refl;
    next_bytes = λ x y was then. same_told (left start) x y was then;
    given = [];
    stands = at;
    goes = λ rest. refl;
    asks = λ rest. refl;
    scripted = λ rest. refl;
    replied = λ rest. refl;
    seats = [];
    seats_are = λ rest. refl;
    are = tt;
    answered = λ rest. refl;
    answers = λ final valid front honest rest. refl;
  }

  pub fewer : (final : Journal) (turns : List Turn) (t : Turn) → HaveHonestKeys final (turns ++ t ∷ []) → HaveHonestKeys final turns
  fewer final turns t honest h k i = honest h k ((In-append Turn (ToSeat (Begins h k)) turns (t ∷ [])).1 (inl i))

  script_more : (asked block : List Request) (h : Going) → script_going limits h (asked ++ block) ≡ script_going limits (script_going limits h asked) block
  unfolding script_going
  script_more [] block h = refl
  script_more (r ∷ asked) block h = script_more asked block (line_going h r (answer limits h.journal h.begun r))

  replies_more : (asked block : List Request) (h : Going) → script_replies limits h (asked ++ block) ≡ script_replies limits h asked ++ script_replies limits (script_going limits h asked) block
  unfolding script_going script_replies
  replies_more [] block h = refl
  replies_more (r ∷ asked) block h = ap (λ (rs : List Reply). line_reply h r (answer limits h.journal h.begun r) ∷ rs) (replies_more asked block (line_going h r (answer limits h.journal h.begun r)))

  -- ---- a line of the owner's

  pub owners : (turns : List Turn) (asked : List Request) (text : List ℕ) (sessions : List SessionView) (x y : X) (task : Task) (block : List Request) (replies : List Reply)
      → So turns asked text sessions x → Line x task block replies y → So (turns ++ ToOwner task ∷ []) (asked ++ block) (text ++ flat_map spell_reply replies) sessions y
  unfolding turn_then turn_text turn_asks
  owners turns asked text sessions x y task block replies so went =
      let next = line asked so.given so.drawn so.now x task block replies y so.stands went in
      let h : Going = next.0 in
      let one : LineGoes limits so.now task block replies h (left x) (left y) = next.1 in
      let from : List ℕ → Serving = λ rest. serving (with_draws g (joined (so.drawn ++ one.drawn) ++ rest)) in
      let split : (rest : List ℕ) → from rest ≡ serving (with_draws g (joined so.drawn ++ (joined one.drawn ++ rest))) =
      λ rest. ap (λ (bytes : List ℕ). serving (with_draws g bytes)) (joined_more so.drawn one.drawn rest)
      in
      let here : (rest : List ℕ) → (served_then limits (from rest) turns).going ≡ with_draws so.now (joined one.drawn ++ rest) =
      λ rest. ap (λ (s : Serving). (served_then limits s turns).going) (split rest) ∙ so.goes (joined one.drawn ++ rest)
      in
      let block_is : (rest : List ℕ) → asked_of limits (served_then limits (from rest) turns).going task ≡ block =
      λ rest. ap (λ (at : Going). asked_of limits at task) (here rest) ∙ sym (one.stood rest)
      in
      let grown : IsPrefix so.now.journal h.journal =
      subst (λ (z : Going). IsPrefix so.now.journal z.journal) (one.goes []) (script_grows limits (with_draws so.now (joined one.drawn ++ [])) block)
      in
      record {
        now = h;
        drawn = so.drawn ++ one.drawn;
        drawn_sizes = All-append (λ (k : List ℕ). length k ≡ 32) so.drawn one.drawn so.drawn_sizes one.drawn_sizes;
        told = one.told ∙ so.told;
        next_bytes = both_told_through (left start) (left x) (left y) (λ a b. a ≡ joined so.drawn ++ b) (λ b c. b ≡ joined one.drawn ++ c) (λ a c. a ≡ joined (so.drawn ++ one.drawn) ++ c)
            so.told so.next_bytes one.next_bytes
            (λ a b c first then. first ∙ ap (λ rest. joined so.drawn ++ rest) then ∙ sym (joined_more so.drawn one.drawn c));
        given = so.given ++ replies;
        stands = next.2;
        goes = λ rest.
            ap (λ (s : Serving). s.going) (then_more limits (from rest) turns (ToOwner task))
            ∙ ap (λ (rs : List Request). script_going limits (served_then limits (from rest) turns).going rs) (block_is rest)
            ∙ ap (λ (at : Going). script_going limits at block) (here rest)
            ∙ one.goes rest;
        asks = λ rest.
            asked_more limits (from rest) turns (ToOwner task)
            ∙ ap (λ (s : Serving). turns_ask limits s turns ++ turn_asks limits (served_then limits (from rest) turns) (ToOwner task)) (split rest)
            ∙ ap (λ (rs : List Request). rs ++ turn_asks limits (served_then limits (from rest) turns) (ToOwner task)) (so.asks (joined one.drawn ++ rest))
            ∙ ap (λ (rs : List Request). asked ++ rs) (block_is rest);
        scripted = λ rest.
            ap (λ (bytes : List ℕ). script_going limits (with_draws g bytes) (asked ++ block)) (joined_more so.drawn one.drawn rest)
            ∙ script_more asked block (with_draws g (joined so.drawn ++ (joined one.drawn ++ rest)))
            ∙ ap (λ (at : Going). script_going limits at block) (so.scripted (joined one.drawn ++ rest))
            ∙ one.goes rest;
        replied = λ rest.
            ap (λ (bytes : List ℕ). script_replies limits (with_draws g bytes) (asked ++ block)) (joined_more so.drawn one.drawn rest)
            ∙ replies_more asked block (with_draws g (joined so.drawn ++ (joined one.drawn ++ rest)))
            ∙ ap (λ (rs : List Reply). rs ++ script_replies limits (script_going limits (with_draws g (joined so.drawn ++ (joined one.drawn ++ rest))) asked) block) (so.replied (joined one.drawn ++ rest))
            ∙ ap (λ (at : Going). so.given ++ script_replies limits at block) (so.scripted (joined one.drawn ++ rest))
            ∙ ap (λ (rs : List Reply). so.given ++ rs) (one.replied rest);
        seats = so.seats;
        seats_are = λ rest.
            ap (λ (s : Serving). s.seats) (then_more limits (from rest) turns (ToOwner task))
            ∙ ap (λ (s : Serving). (served_then limits s turns).seats) (split rest)
            ∙ so.seats_are (joined one.drawn ++ rest);
        are = subst (λ (j : Journal). AreSeats key j so.seats sessions) grown.1 (seats_grow key so.now.journal grown.0 so.seats sessions so.are);
        answered = λ rest.
            answered_more key limits (from rest) turns (ToOwner task) text (flat_map spell_reply replies)
            (subst (λ (s : Serving). AnswersTurns key limits s turns text) (sym (split rest)) (so.answered (joined one.drawn ++ rest)))
            (sym (ap (λ (rs : List Request). flat_map spell_reply (script_replies limits (served_then limits (from rest) turns).going rs)) (block_is rest)
            ∙ ap (λ (at : Going). flat_map spell_reply (script_replies limits at block)) (here rest)
            ∙ ap (λ (rs : List Reply). flat_map spell_reply rs) (one.replied rest)));
        answers = λ final valid front honest rest.
            text_more limits (from rest) turns (ToOwner task)
            ∙ ap (λ (s : Serving). served_text limits s turns ++ turn_text limits (served_then limits (from rest) turns) (ToOwner task)) (split rest)
            ∙ ap (λ l. l ++ turn_text limits (served_then limits (from rest) turns) (ToOwner task))
            (so.answers final valid (prefix_trans so.now.journal h.journal final grown front) (fewer final turns (ToOwner task) honest) (joined one.drawn ++ rest))
            ∙ ap (λ (rs : List Request). text ++ flat_map spell_reply (script_replies limits (served_then limits (from rest) turns).going rs)) (block_is rest)
            ∙ ap (λ (at : Going). text ++ flat_map spell_reply (script_replies limits at block)) (here rest)
            ∙ ap (λ (rs : List Reply). text ++ flat_map spell_reply rs) (one.replied rest);
      }

  -- ---- a session's line

  unfoldable pub seated : (turns : List Turn) (asked : List Request) (text : List ℕ) (sessions later : List SessionView) (x y : X) (ask : SeatAsk) (reply : PlainReply)
      → So turns asked text sessions x → SeatWent (shown x) ask sessions reply later → Reads x y → So (turns ++ ToSeat ask ∷ []) asked (text ++ spell_plain_reply reply) later y
  unfolding turn_then turn_text turn_asks
  seated turns asked text sessions later x y ask reply so went read =
      let after = reads asked so.given so.drawn so.now x y so.stands read in
      let from : List ℕ → Serving = λ rest. serving (with_draws g (joined so.drawn ++ rest)) in
      let m : Journal = so.now.journal in
      let journal_is : (rest : List ℕ) → (served_then limits (from rest) turns).going.journal ≡ m = λ rest. ap (λ (at : Going). at.journal) (so.goes rest) in
      let there = whole asked so.given so.drawn so.now x so.stands in
      record {
        now = so.now;
        drawn = so.drawn;
        drawn_sizes = so.drawn_sizes;
        told = ap is_some after.0 ∙ so.told;
        next_bytes = subst (λ l. WhereBothTold (left start) l (λ a b. a ≡ joined so.drawn ++ b)) (sym after.0) so.next_bytes;
        given = so.given;
        stands = after.1;
        goes = λ rest. ap (λ (s : Serving). s.going) (then_more limits (from rest) turns (ToSeat ask)) ∙ so.goes rest;
        asks = λ rest. asked_more limits (from rest) turns (ToSeat ask) ∙ ap (λ (rs : List Request). rs ++ []) (so.asks rest) ∙ append-nil asked;
        scripted = so.scripted;
        replied = so.replied;
        seats = seats_then m so.seats ask;
        seats_are = λ rest.
            ap (λ (s : Serving). s.seats) (then_more limits (from rest) turns (ToSeat ask))
            ∙ ap (λ (j : Journal). seats_then j (served_then limits (from rest) turns).seats ask) (journal_is rest)
            ∙ ap (λ (l : List Seat). seats_then m l ask) (so.seats_are rest);
        are = seats_behind key m there.0 there.2 (shown x) there.1 so.seats sessions so.are ask reply later went;
        answered = λ rest.
            let at : Serving = served_then limits (from rest) turns in
            let told = seat_answers key m there.0 there.2 (shown x) there.1 so.seats sessions so.are ask reply later went in
            answered_more key limits (from rest) turns (ToSeat ask) text (spell_plain_reply reply) (so.answered rest) (
              reply,
              subst (λ (j : Journal). AnswersAsk key j at.seats ask reply) (sym (journal_is rest))
                  (subst (λ (l : List Seat). AnswersAsk key m l ask reply) (sym (so.seats_are rest)) told),
              refl,
            );
        answers = λ final valid front honest rest.
            let fewer_honest = fewer final turns (ToSeat ask) honest in
            let told = seat_replies key m there.0 there.2 (shown x) there.1 so.seats sessions so.are
            (seats_honest limits g turns so.drawn so.now final so.seats valid front fewer_honest (so.seats_are []))
            ask reply later went
            in
            text_more limits (from rest) turns (ToSeat ask)
            ∙ ap (λ l. l ++ turn_text limits (served_then limits (from rest) turns) (ToSeat ask)) (so.answers final valid front fewer_honest rest)
            ∙ ap (λ (j : Journal). text ++ spell_plain_reply (seat_reply j (served_then limits (from rest) turns).seats ask)) (journal_is rest)
            ∙ ap (λ (l : List Seat). text ++ spell_plain_reply (seat_reply m l ask)) (so.seats_are rest)
            ∙ ap (λ r. text ++ spell_plain_reply r) (sym told);
      }

  -- ---- all of them

  unfoldable pub turns_served : At [] [] [] g start → (turns : List Turn) (asked : List Request) (text : List ℕ) (sessions : List SessionView) (x : X) → Went turns asked text sessions x → So turns asked text sessions x
  turns_served at turns asked text sessions x NoTurn = begins at
  turns_served at turns asked text sessions x (OwnersTurn {turns = ts} {asked = rs} {text = printed} {sessions = ss} {x = z} {y = y} {task = task} {block = block} {replies = replies} before went) =
      owners ts rs printed ss z y task block replies (turns_served at ts rs printed ss z before) went
  turns_served at turns asked text sessions x (SeatsTurn {turns = ts} {asked = rs} {text = printed} {sessions = ss} {later = later} {x = z} {y = y} ask reply before went read) =
      seated ts rs printed ss later z y ask reply (turns_served at ts rs printed ss z before) went read
