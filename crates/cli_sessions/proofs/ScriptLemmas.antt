-- Lines that are answered one after another.
use Rattle.std.proofs.Common.{◌≡◌, ◌≢◌, ℕ, ◌+◌, Bool, true, false, List, [], ◌∷◌, ◌++◌, length, take, map, Option, Some, Result, Ok, Err, inl, inr, append_assoc, arith, refl, sym, ap, subst, ◌∙◌, length-append}
use Rattle.std.specs.Prelude.{is_some}
use Rattle.std.proofs.lemmas.Grind.{flat_map-append}
use Rattle.std.proofs.lemmas.List.{append-nil, map-append}
use Rattle.commit_journal.specs.Holding.{IsPrefix}
use Rattle.cry_base.specs.declared.commands.Reply.{Reply}
use Rattle.cry_base.specs.declared.commands.Reply.TheVariants.{Done, Made, Refused}
use Rattle.cry_base.specs.Requests.{Request}
use Rattle.cry_io.specs.Told.{WhereBothTold}
use Rattle.cry_io.proofs.ToldLemmas.{told_again}
use Rattle.script_text.specs.Printing.{spell_reply}
use Rattle.script_text.specs.Tasks.{Task, task_in, task_of}
use Rattle.script_text.specs.Tasks.Task.{Does, Replaces}
use Rattle.script_text.specs.declared.tasks.LineTask.{LineTask}
use Rattle.cli_base.specs.Input.{TakesLines}
use Rattle.cli_base.specs.Lines.{InputLine, LineState, bytes_ahead, lines_ahead}
use Rattle.cli_base.specs.Lines.InputLine.{Whole}
use Rattle.cli_sessions.specs.Script.{Answered, AnswersLine, AskFor, AskThese, AsksFor, Blocks, CountsTask, EndsIn, GivesTask, IsAsked, IsReading, LineAnswered, PrintsCut, PrintsReplies, Ran, StandsFor, Stands, commands_in, spell_replies}
use Rattle.cli_sessions.specs.Script.Answered.{Begun, Then}
use Rattle.cli_sessions.specs.Script.Blocks.{NoLine, OneMore}
use Rattle.cli_sessions.specs.Taking.{AreTaken, HoldsFew, TakesTask}
use Rattle.cli_sessions.proofs.Takings.{takes_behind, taken_few, taken_on}
use Rattle.cli_sessions.specs.declared.script.ScriptFault.{ScriptFault}
use Rattle.store_owner.specs.declared.apply_fault.ApplyFault.{ApplyFault}
use Rattle.cli_sessions.specs.declared.script.ScriptFault.TheVariants.{BadLine, ReadFault, WriteFault, OutOfMemory, Applying}

-- ---- what lines ask for

pub asks_none : (before : List InputLine) → AskThese [] [] [] before before
asks_none before = (record { lines = []; tasks = []; blocks = []; before_is = refl; tasks_are = refl; asks_for = tt; asked_are = refl }, refl, refl)

ask_for_more : (tasks : List Task) (blocks : List (List Request)) (task : Task) (block : List Request) → AskFor tasks blocks → AsksFor task block
    → AskFor (tasks ++ task ∷ []) (blocks ++ block ∷ [])
ask_for_more [] [] task block all one = (one, tt)
ask_for_more [] (b ∷ bs) task block all one = absurd all
ask_for_more (t ∷ ts) [] task block all one = absurd all
ask_for_more (t ∷ ts) (b ∷ bs) task block all one = (all.0, ask_for_more ts bs task block all.1 one)

pub commands_more : (bs : List (List Request)) (block : List Request) → commands_in (bs ++ block ∷ []) ≡ commands_in bs ++ block
commands_more bs block = flat_map-append (λ (b : List Request). b) bs (block ∷ []) ∙ ap (λ l. commands_in bs ++ l) (append-nil block)

asks_more : (tasks : List Task) (bs : List (List Request)) (asked : List Request) (task : Task) (block : List Request) (line : List ℕ) (before middle after : List InputLine)
    → AskThese tasks bs asked before middle → middle ≡ Whole line ∷ after → task_in line ≡ Some task → AsksFor task block
    → AskThese (tasks ++ task ∷ []) (bs ++ block ∷ []) (asked ++ block) before after
asks_more tasks bs asked task block line before middle after so_far middle_is is asks_for =
    let asks = so_far.0 in
    let all : AskFor tasks bs = subst (λ (ts : List Task). AskFor ts bs) so_far.1 (subst (λ (l : List (List Request)). AskFor asks.tasks l) so_far.2 asks.asks_for) in (
      record {
        lines = asks.lines ++ line ∷ [];
        tasks = tasks ++ task ∷ [];
        blocks = bs ++ block ∷ [];
        before_is =
            asks.before_is ∙ ap (λ rest. map Whole asks.lines ++ rest) middle_is
            ∙ sym (append_assoc (map Whole asks.lines) (Whole line ∷ []) after)
            ∙ ap (λ front. front ++ after) (sym (map-append Whole asks.lines (line ∷ [])));
        tasks_are =
            map-append task_in asks.lines (line ∷ []) ∙ ap (λ o. map task_in asks.lines ++ o ∷ []) is
            ∙ ap (λ front. front ++ Some task ∷ []) (asks.tasks_are ∙ ap (λ (ts : List Task). map Some ts) so_far.1) ∙ sym (map-append Some tasks (task ∷ []));
        asks_for = ask_for_more tasks bs task block all asks_for;
        asked_are = ap (λ l. l ++ block) (asks.asked_are ∙ ap commands_in so_far.2) ∙ sym (commands_more bs block);
      },
      refl,
      refl,
    )

-- what was asked of a line's commands are the first of them
asked_front : (cut : Bool) (commands block : List Request) (replies : List Reply) → IsAsked cut commands block replies → IsPrefix block commands
asked_front cut [] [] replies is = ([], refl)
asked_front cut [] (a ∷ block) replies is = absurd is
asked_front cut (c ∷ commands) [] replies is = (c ∷ commands, refl)
asked_front cut (c ∷ commands) (a ∷ block) [] is = (commands, ap (λ x. x ∷ (block ++ commands)) is.0 ∙ ap (λ b. c ∷ (b ++ commands)) is.1)
asked_front cut (c ∷ commands) (a ∷ block) (Refused why ∷ replies) is = (commands, ap (λ x. x ∷ (block ++ commands)) is.0 ∙ ap (λ b. c ∷ (b ++ commands)) is.1)
asked_front cut (c ∷ commands) (a ∷ block) (Done ∷ replies) is =
    let rest = asked_front cut commands block replies is.1 in
    (rest.0, ap (λ x. x ∷ (block ++ rest.0)) is.0 ∙ ap (λ l. c ∷ l) rest.1)
asked_front cut (c ∷ commands) (a ∷ block) (Made holder key ∷ replies) is =
    let rest = asked_front cut commands block replies is.1 in
    (rest.0, ap (λ x. x ∷ (block ++ rest.0)) is.0 ∙ ap (λ l. c ∷ l) rest.1)

front_of_one : (commands block : List Request) (r : Request) → commands ≡ r ∷ [] → IsPrefix block commands → block ≢ [] → block ≡ r ∷ []
front_of_one commands [] r is front some = absurd (some refl)
front_of_one commands (b ∷ []) r is front some = let e : b ∷ front.0 ≡ r ∷ [] = front.1 ∙ is in cc
front_of_one commands (b ∷ c ∷ block) r is front some = let e : b ∷ c ∷ (block ++ front.0) ≡ r ∷ [] = front.1 ∙ is in absurd cc

line_asks : {X : Type 0} (Stand : X → ℕ → List Request → Type 0) (cut : Bool) (x : X) (task : Task) (commands block : List Request) (replies : List Reply)
    → StandsFor Stand x task commands → IsAsked cut commands block replies → block ≢ [] → AsksFor task block
line_asks Stand cut x (Does r) commands block replies stands is some = front_of_one commands block r stands (asked_front cut commands block replies is) some
line_asks Stand cut x (Replaces n) commands block replies stands is some = (some, commands, stands.1, asked_front cut commands block replies is)

-- ---- commands that are answered one after another

answered_more : {X : Type 0} (Step : X → Request → Reply → X → Type 0) (start x y : X) (asked block : List Request) (replies some : List Reply)
    → Answered Step start asked replies x → Answered Step x block some y → Answered Step start (asked ++ block) (replies ++ some) y
answered_more Step start x y asked block replies some first Begun =
    subst (λ a. Answered Step start a (replies ++ []) x) (sym (append-nil asked)) (subst (λ a. Answered Step start asked a x) (sym (append-nil replies)) first)
answered_more Step start x y asked block replies some first (Then {asked = rs} {replies = told} {x = z} {y = w} {request = r} {reply = reply} before step) =
    let both = Then (answered_more Step start x z asked rs replies told first before) step in
    subst (λ a. Answered Step start a (replies ++ (told ++ reply ∷ [])) w) (append_assoc asked rs (r ∷ []))
    (subst (λ a. Answered Step start ((asked ++ rs) ++ r ∷ []) a w) (append_assoc replies told (reply ∷ [])) both)

pub stands_more : {X : Type 0} (Step : X → Request → Reply → X → Type 0) (Fails : X → Request → ApplyFault → X → Type 0) (result : Result (Unit {0}) ScriptFault) (start x y : X)
    (asked block : List Request) (replies some : List Reply) → Answered Step start asked replies x → Stands Step Fails result x block some y
    → Stands Step Fails result start (asked ++ block) (replies ++ some) y
stands_more Step Fails (Ok tt) start x y asked block replies some first then = answered_more Step start x y asked block replies some first then
stands_more Step Fails (Err (BadLine line)) start x y asked block replies some first then = answered_more Step start x y asked block replies some first then
stands_more Step Fails (Err ReadFault) start x y asked block replies some first then = answered_more Step start x y asked block replies some first then
stands_more Step Fails (Err WriteFault) start x y asked block replies some first then = answered_more Step start x y asked block replies some first then
stands_more Step Fails (Err OutOfMemory) start x y asked block replies some first then = answered_more Step start x y asked block replies some first then
stands_more Step Fails (Err (Applying fault)) start x y asked block replies some first then = (
  then.0,
  asked ++ then.1,
  then.2,
  ap (λ l. asked ++ l) then.3 ∙ sym (append_assoc asked then.1 (then.2 ∷ [])),
  answered_more Step start x then.0 asked then.1 replies some first then.4,
  then.5,
)

-- ---- what is printed

pub spell_one : (reply : Reply) → spell_replies (reply ∷ []) ≡ spell_reply reply
spell_one reply = append-nil (spell_reply reply)

spell_both : (replies some : List Reply) → spell_replies (replies ++ some) ≡ spell_replies replies ++ spell_replies some
spell_both replies some = flat_map-append spell_reply replies some

-- all replies were printed
pub whole_is_cut : (replies : List Reply) (before after : List ℕ) → after ≡ before ++ spell_replies replies → PrintsCut replies before after
whole_is_cut replies before after is =
    (replies, [], 0, sym (append-nil replies), omega arith, is ∙ ap (λ text. before ++ text) (sym (append-nil (spell_replies replies))))

-- of one reply a front was
pub one_is_cut : (reply : Reply) (n : ℕ) (before after : List ℕ) → after ≡ before ++ take n (spell_reply reply) → PrintsCut (reply ∷ []) before after
one_is_cut reply n before after is = ([], reply ∷ [], n, refl, omega arith, is ∙ ap (λ text. before ++ take n text) (sym (spell_one reply)))

-- behind others
cut_more : (replies some : List Reply) (before middle after : List ℕ) → middle ≡ before ++ spell_replies replies → PrintsCut some middle after
    → PrintsCut (replies ++ some) before after
cut_more replies some before middle after is cut = (
  replies ++ cut.0,
  cut.1,
  cut.2,
  ap (λ l. replies ++ l) cut.3 ∙ sym (append_assoc replies cut.0 cut.1),
  cut.4,
  cut.5 ∙ ap (λ text. text ++ (spell_replies cut.0 ++ take cut.2 (spell_replies cut.1))) is
      ∙ append_assoc before (spell_replies replies) (spell_replies cut.0 ++ take cut.2 (spell_replies cut.1))
      ∙ ap (λ text. before ++ text) (sym (append_assoc (spell_replies replies) (spell_replies cut.0) (take cut.2 (spell_replies cut.1))))
      ∙ ap (λ text. before ++ (text ++ take cut.2 (spell_replies cut.1))) (sym (spell_both replies cut.0)),
)

all_more : (replies some : List Reply) (before middle after : List ℕ) → middle ≡ before ++ spell_replies replies → after ≡ middle ++ spell_replies some
    → after ≡ before ++ spell_replies (replies ++ some)
all_more replies some before middle after is more =
    more ∙ ap (λ text. text ++ spell_replies some) is ∙ append_assoc before (spell_replies replies) (spell_replies some)
    ∙ ap (λ text. before ++ text) (sym (spell_both replies some))

pub prints_more : (result : Result (Unit {0}) ScriptFault) (replies some : List Reply) (before middle after : List ℕ) → middle ≡ before ++ spell_replies replies
    → PrintsReplies result some middle after → PrintsReplies result (replies ++ some) before after
prints_more (Ok tt) replies some before middle after is more = all_more replies some before middle after is more
prints_more (Err (BadLine line)) replies some before middle after is more = all_more replies some before middle after is more
prints_more (Err ReadFault) replies some before middle after is more = all_more replies some before middle after is more
prints_more (Err WriteFault) replies some before middle after is more = cut_more replies some before middle after is more
prints_more (Err OutOfMemory) replies some before middle after is more = cut_more replies some before middle after is more
prints_more (Err (Applying fault)) replies some before middle after is more = all_more replies some before middle after is more

pub same_told : {X : Type 0} (o : Option X) (x y : X) → o ≡ Some x → o ≡ Some y → y ≡ x
same_told o x y one other = let both = sym one ∙ other in cc

-- ---- the lines

-- where the lines stand between two of them
pub record Going {X : Type 0} (Step : X → Request → Reply → X → Type 0) (Fails : X → Request → ApplyFault → X → Type 0) (Stand : X → ℕ → List Request → Type 0) (start x : X)
    (old now : LineState) (left_first left written_first written : Option (List ℕ)) : Type 0 where
  pub tasks : List Task
  pub blocks : List (List Request)
  pub asked : List Request
  pub asked_are : asked ≡ commands_in blocks
  pub replies : List Reply
  pub by_lines : Blocks Step Fails Stand start tasks blocks replies x
  pub answered : Answered Step start asked replies x
  pub given : now.given ≡ old.given + length tasks
  pub lines : WhereBothTold left_first left (λ before after. AskThese tasks blocks asked (lines_ahead old before) (lines_ahead now after))
  pub taken : WhereBothTold left_first left (AreTaken (length tasks) old now)
  pub printed : WhereBothTold written_first written (λ before after. after ≡ before ++ spell_replies replies)

-- nothing was asked
pub nothing_ran : {X : Type 0} (Step : X → Request → Reply → X → Type 0) (Fails : X → Request → ApplyFault → X → Type 0) (Stand : X → ℕ → List Request → Type 0) (x : X) (old : LineState)
    (left written : Option (List ℕ)) → Ran Step Fails Stand (Err ReadFault) x x old old left left written written
nothing_ran Step Fails Stand x old left written = record {
  went = record { tasks = []; blocks = []; asked = []; asked_are = refl; replies = []; by_lines = NoLine; stands = Begun };
  lines = λ y z was now. subst (λ l. AskThese [] [] [] (lines_ahead old y) (lines_ahead old l)) (sym (same_told left y z was now)) (asks_none (lines_ahead old y));
  number = tt;
  taken = λ y z was now. subst (λ l. AreTaken 0 old old y l) (sym (same_told left y z was now)) ([], refl, refl);
  printed = λ y z was now. same_told written y z was now ∙ sym (append-nil y);
}

module _ (X : Type 0) (Step : X → Request → Reply → X → Type 0) (Fails : X → Request → ApplyFault → X → Type 0) (Stand : X → ℕ → List Request → Type 0) (start : X) where
  pub going_at_start : (old : LineState) (left written : Option (List ℕ)) → Going Step Fails Stand start start old old left left written written
  going_at_start old left written = record {
    tasks = [];
    blocks = [];
    asked = [];
    asked_are = refl;
    replies = [];
    by_lines = NoLine;
    answered = Begun;
    given = omega arith;
    lines = λ x y was now. subst (λ z. AskThese [] [] [] (lines_ahead old x) (lines_ahead old z)) (sym (same_told left x y was now)) (asks_none (lines_ahead old x));
    taken = λ x y was now. subst (λ z. AreTaken 0 old old x z) (sym (same_told left x y was now)) ([], refl, refl);
    printed = λ x y was now. same_told written x y was now ∙ sym (append-nil x);
  }

  module _ (x : X) (old now : LineState) (first middle out_first out : Option (List ℕ)) (going : Going Step Fails Stand start x old now first middle out_first out)
      (told : is_some middle ≡ is_some first) (new : LineState) (last : Option (List ℕ)) where
    -- there is no line more
    pub ends_there : WhereBothTold middle last (λ b a. (lines_ahead now b ≡ []) × (lines_ahead new a ≡ [])) → Ran Step Fails Stand (Ok tt) start x old new first last out_first out
    ends_there none = record {
      went = record {
        tasks = going.tasks;
        blocks = going.blocks;
        asked = going.asked;
        asked_are = going.asked_are;
        replies = going.replies;
        by_lines = going.by_lines;
        stands = going.answered;
      };
      lines = λ b a was is.
          let again = told_again first middle b told was in
          let gone = none again.0 a again.1 is in
          (subst (λ rest. AskThese going.tasks going.blocks going.asked (lines_ahead old b) rest) gone.0 (going.lines b again.0 was again.1), gone.1);
      number = tt;
      taken = λ b a was is. tt;
      printed = going.printed;
    }

    -- no memory, and nothing was asked of a line
    out_of_memory : (y : X) (out_last : Option (List ℕ)) → y ≡ x → out_last ≡ out → Ran Step Fails Stand (Err OutOfMemory) start y old new first last out_first out_last
    out_of_memory y out_last same same_out = record {
      went = record {
        tasks = going.tasks;
        blocks = going.blocks;
        asked = going.asked;
        asked_are = going.asked_are;
        replies = going.replies;
        by_lines = inl (subst (λ z. Blocks Step Fails Stand start going.tasks going.blocks going.replies z) (sym same) going.by_lines);
        stands = subst (λ z. Answered Step start going.asked going.replies z) (sym same) going.answered;
      };
      lines = λ b a was is.
          let again = told_again first middle b told was in
          (lines_ahead now again.0, going.lines b again.0 was again.1);
      number = tt;
      taken = λ b a was is. tt;
      printed = λ b a was is. whole_is_cut going.replies b a (going.printed b a was (sym same_out ∙ is));
    }

    -- the next line isn't read
    pub stops_reading : (fault : ScriptFault) → WhereBothTold middle last (λ b a. GivesTask (Err fault) (lines_ahead now b) (lines_ahead new a))
        → WhereBothTold middle last (TakesTask (Err fault) now new) → CountsTask (Err fault) now new → IsReading fault → Ran Step Fails Stand (Err fault) start x old new first last out_first out
    stops_reading (BadLine line) gives takes count reading = record {
      went = record {
        tasks = going.tasks;
        blocks = going.blocks;
        asked = going.asked;
        asked_are = going.asked_are;
        replies = going.replies;
        by_lines = going.by_lines;
        stands = going.answered;
      };
      lines = λ b a was is.
          let again = told_again first middle b told was in
          (lines_ahead now again.0, going.lines b again.0 was again.1, gives again.0 a again.1 is);
      number = count ∙ omega (arith, going.given);
      taken = λ b a was is.
          let again = told_again first middle b told was in
          takes_behind (length going.tasks) 1 (length going.tasks + 1) old now b again.0 a refl (going.taken b again.0 was again.1) (takes again.0 a again.1 is);
      printed = going.printed;
    }
    stops_reading ReadFault gives takes count reading = record {
      went = record {
        tasks = going.tasks;
        blocks = going.blocks;
        asked = going.asked;
        asked_are = going.asked_are;
        replies = going.replies;
        by_lines = going.by_lines;
        stands = going.answered;
      };
      lines = λ b a was is.
          let again = told_again first middle b told was in
          subst (λ rest. AskThese going.tasks going.blocks going.asked (lines_ahead old b) rest) (sym (gives again.0 a again.1 is)) (going.lines b again.0 was again.1);
      number = tt;
      taken = λ b a was is.
          let again = told_again first middle b told was in
          let so_far = going.taken b again.0 was again.1 in
          let none = takes again.0 a again.1 is in
          (so_far.0, so_far.1, so_far.2 ∙ ap (λ rest. so_far.0 ++ rest) (sym none.0));
      printed = going.printed;
    }
    stops_reading OutOfMemory gives takes count reading = out_of_memory x out refl refl
    stops_reading WriteFault gives takes count reading = absurd reading
    stops_reading (Applying fault) gives takes count reading = absurd reading

    module _ (task : LineTask) (gives : WhereBothTold middle last (λ b a. GivesTask (Ok (Some task)) (lines_ahead now b) (lines_ahead new a)))
        (takes : WhereBothTold middle last (TakesTask (Ok (Some task)) now new)) (y : X) (out_last : Option (List ℕ)) (out_told : is_some out ≡ is_some out_first) where
      -- the lines with one more
      lines_more : (block : List Request) → AsksFor (task_of task) block
          → WhereBothTold first last (λ b a. AskThese (going.tasks ++ task_of task ∷ []) (going.blocks ++ block ∷ []) (going.asked ++ block) (lines_ahead old b) (lines_ahead new a))
      lines_more block asks = λ b a was is.
          let again = told_again first middle b told was in
          let given = gives again.0 a again.1 is in
          asks_more going.tasks going.blocks going.asked (task_of task) block given.0 (lines_ahead old b) (lines_ahead now again.0) (lines_ahead new a)
          (going.lines b again.0 was again.1) given.1 given.2 asks

      -- so it is with what was taken
      taken_more : WhereBothTold first last (λ b a. AreTaken (length (going.tasks ++ task_of task ∷ [])) old new b a × HoldsFew new)
      taken_more = λ b a was is.
          let again = told_again first middle b told was in
          let one = takes again.0 a again.1 is in (
            taken_on (length going.tasks) (length (going.tasks ++ task_of task ∷ [])) old now new b again.0 a
                (length-append going.tasks (task_of task ∷ [])) (going.taken b again.0 was again.1) one.0,
            one.1,
          )

      taken_then : WhereBothTold first last (λ b a. TakesLines (length (going.tasks ++ task_of task ∷ [])) (bytes_ahead old b) a)
      taken_then = λ b a was is. let more = taken_more b a was is in taken_few (length (going.tasks ++ task_of task ∷ [])) old new b a more.0 more.1

      printed_more : (result : Result (Unit {0}) ScriptFault) (some : List Reply) → WhereBothTold out out_last (PrintsReplies result some)
          → WhereBothTold out_first out_last (PrintsReplies result (going.replies ++ some))
      printed_more result some prints = λ b a was is.
          let again = told_again out_first out b out_told was in
          prints_more result going.replies some b again.0 a (going.printed b again.0 was again.1) (prints again.0 a again.1 is)

      abbrev Line : Bool → Result (Unit {0}) ScriptFault → Type 0
      Line cut result = LineAnswered Step Fails Stand cut result x (task_of task) y out out_last

      asks_block : (cut : Bool) (result : Result (Unit {0}) ScriptFault) (line : Line cut result) → AsksFor (task_of task) line.block
      asks_block cut result line =
          line_asks Stand cut x (task_of task) line.went.commands line.block line.replies line.went.stands_for line.went.asked line.went.some_asked

      stands_there : (cut : Bool) (result : Result (Unit {0}) ScriptFault) (line : Line cut result) → Stands Step Fails result start (going.asked ++ line.block) (going.replies ++ line.replies) y
      stands_there cut result line = stands_more Step Fails result start x y going.asked line.block going.replies line.replies going.answered line.went.stands

      asked_there : (block : List Request) → going.asked ++ block ≡ commands_in (going.blocks ++ block ∷ [])
      asked_there block = ap (λ l. l ++ block) going.asked_are ∙ sym (commands_more going.blocks block)

      ends_in : (result : Result (Unit {0}) ScriptFault) (line : Line true result)
          → EndsIn Step Fails Stand result start (going.tasks ++ task_of task ∷ []) (going.blocks ++ line.block ∷ []) (going.replies ++ line.replies) y
      ends_in result line = record {
        first_tasks = going.tasks;
        first_blocks = going.blocks;
        first_replies = going.replies;
        x = x;
        first = going.by_lines;
        task = task_of task;
        block = line.block;
        some = line.replies;
        last = line.went;
        tasks_are = refl;
        blocks_are = refl;
        replies_are = refl;
      }

      -- a line is answered
      pub goes_on : CountsTask (Ok (Some task)) now new → AnswersLine Step Fails Stand (Ok tt) x (task_of task) y out out_last
          → Going Step Fails Stand start y old new first last out_first out_last
      goes_on count line = record {
        tasks = going.tasks ++ task_of task ∷ [];
        blocks = going.blocks ++ line.block ∷ [];
        asked = going.asked ++ line.block;
        asked_are = asked_there line.block;
        replies = going.replies ++ line.replies;
        by_lines = OneMore going.by_lines line.went;
        answered = stands_there false (Ok tt) line;
        given = omega (arith, count.0, going.given, length-append going.tasks (task_of task ∷ []));
        lines = lines_more line.block (asks_block false (Ok tt) line);
        taken = λ b a was is. (taken_more b a was is).0;
        printed = printed_more (Ok tt) line.replies line.printed;
      }

      -- or meets a fault
      pub stops_answering : (fault : ScriptFault) → AnswersLine Step Fails Stand (Err fault) x (task_of task) y out out_last
          → Ran Step Fails Stand (Err fault) start y old new first last out_first out_last
      stops_answering (BadLine line) answer = absurd answer
      stops_answering ReadFault answer = absurd answer
      stops_answering WriteFault line = record {
        went = record {
          tasks = going.tasks ++ task_of task ∷ [];
          blocks = going.blocks ++ line.block ∷ [];
          asked = going.asked ++ line.block;
          asked_are = asked_there line.block;
          replies = going.replies ++ line.replies;
          by_lines = ends_in (Err WriteFault) line;
          stands = stands_there true (Err WriteFault) line;
        };
        lines = lines_more line.block (asks_block true (Err WriteFault) line);
        number = tt;
        taken = taken_then;
        printed = printed_more (Err WriteFault) line.replies line.printed;
      }
      stops_answering OutOfMemory (inl none) = out_of_memory y out_last none.0 none.1
      stops_answering OutOfMemory (inr line) = record {
        went = record {
          tasks = going.tasks ++ task_of task ∷ [];
          blocks = going.blocks ++ line.block ∷ [];
          asked = going.asked ++ line.block;
          asked_are = asked_there line.block;
          replies = going.replies ++ line.replies;
          by_lines = inr (ends_in (Err OutOfMemory) line);
          stands = stands_there true (Err OutOfMemory) line;
        };
        lines = λ b a was is. (lines_ahead new a, lines_more line.block (asks_block true (Err OutOfMemory) line) b a was is);
        number = tt;
        taken = λ b a was is. tt;
        printed = printed_more (Err OutOfMemory) line.replies line.printed;
      }
      stops_answering (Applying fault) line = record {
        went = record {
          tasks = going.tasks ++ task_of task ∷ [];
          blocks = going.blocks ++ line.block ∷ [];
          asked = going.asked ++ line.block;
          asked_are = asked_there line.block;
          replies = going.replies ++ line.replies;
          by_lines = ends_in (Err (Applying fault)) line;
          stands = stands_there true (Err (Applying fault)) line;
        };
        lines = lines_more line.block (asks_block true (Err (Applying fault)) line);
        number = tt;
        taken = taken_then;
        printed = printed_more (Err (Applying fault)) line.replies line.printed;
      }
