-- The lines of a generated script, read one after another.
use Rattle.std.proofs.Common.{◌≡◌, ◌≤◌, ℕ, Bool, true, false, ◌+◌, ◌-◌, ◌*◌, List, [], ◌∷◌, ◌++◌, length, map, Some, None, inl, inr, arith, refl, sym, ap, subst, ◌∙◌, length-append}
use Rattle.std.proofs.lemmas.List.{append-nil}
use Rattle.cry_base.specs.Requests.{Request}
use Rattle.cry_base.specs.Sets.{In}
use Rattle.cry_base.specs.Texts.{ended_lines}
use Rattle.cry_base.specs.declared.limits.Limits.{Limits}
use Rattle.group_book.specs.Asked.{StoodFor, asked_of}
use Rattle.journal_bytes.specs.Script.{Going, opened, script_going}
use Rattle.public_fold.specs.Journal.{Journal}
use Rattle.store_owner.specs.Drawing.{joined}
use Rattle.script_text.specs.Commands.{request_in}
use Rattle.script_text.specs.Tasks.{Task, task_in}
use Rattle.script_text.specs.Tasks.Task.{Does}
use Rattle.script_text.proofs.CommandLines.{command_told}
use Rattle.script_text.proofs.TaskLines.{task_found}
use Rattle.script_text.specs.Cutting.{IsOneLine}
use Rattle.store_gen.specs.Rule.{requests, script_of}
use Rattle.store_gen.specs.Spelling.{spelled}
use Rattle.store_gen.proofs.Commands.{script_read}
use Rattle.store_gen.proofs.Newlines.{script_one_line}
use Rattle.store_gen.proofs.ScriptLengths.{script_short}
use Rattle.cli_making.specs.Generating.{script_lines}
use Rattle.cli_base.specs.Lines.{InputLine, input_limit, lines_of}
use Rattle.cli_base.specs.Lines.InputLine.{Whole}
use Rattle.cli_sessions.specs.Script.{AskFor, Asks, IsBadFirst, commands_in}
use Rattle.cli_sessions.specs.Sessions.{Stood}
use Rattle.cli_base.proofs.LineLemmas.{cut_lines, no_lines}

-- lines that all end, within the limit
lines_ended : (room : ℕ) (rs : List Request) → ((r : Request) → In r rs → IsOneLine (spelled r)) → length (ended_lines (map spelled rs)) ≤ room
    → lines_of room (ended_lines (map spelled rs)) ≡ map Whole (map spelled rs)
unfolding ended_lines
lines_ended room [] one within = no_lines room
lines_ended room (r ∷ rs) one within =
    let long : length (spelled r ++ 10 ∷ ended_lines (map spelled rs)) ≤ room = within in
    let whole = length-append (spelled r) (10 ∷ ended_lines (map spelled rs)) in
    let after : ℕ = room - (length (spelled r) + 1) in
    cut_lines room (spelled r) (ended_lines (map spelled rs)) after (one r (inl refl)) (omega (arith, long, whole))
    ∙ ap (λ ls. Whole (spelled r) ∷ ls) (lines_ended after rs (λ x i. one x (inr i)) (omega (arith, long, whole)))

-- so are those of a script
pub script_ahead : (seed count : ℕ) → count ≤ 50000 → lines_of input_limit (script_of seed count) ≡ script_lines seed count
unfolding script_of
script_ahead seed count few =
    let short : length (ended_lines (map spelled (requests seed count))) ≤ 16 * (20 + count) = script_short seed count in
    lines_ended input_limit (requests seed count) (script_one_line seed count) (omega (arith, short, few))

same_wholes : (xs ys : List (List ℕ)) → map Whole xs ≡ map Whole ys → xs ≡ ys
same_wholes [] [] e = refl
same_wholes [] (y ∷ ys) e = absurd cc
same_wholes (x ∷ xs) [] e = absurd cc
same_wholes (x ∷ xs) (y ∷ ys) e =
    let first : x ≡ y = cc in
    let others : map Whole xs ≡ map Whole ys = cc in
    let rest = same_wholes xs ys others in
    λ i. first i ∷ rest i

same_tasks : (xs ys : List Task) → map Some xs ≡ map Some ys → xs ≡ ys
same_tasks [] [] e = refl
same_tasks [] (y ∷ ys) e = absurd cc
same_tasks (x ∷ xs) [] e = absurd cc
same_tasks (x ∷ xs) (y ∷ ys) e =
    let first : x ≡ y = cc in
    let others : map Some xs ≡ map Some ys = cc in
    let rest = same_tasks xs ys others in
    λ i. first i ∷ rest i

-- a command's line is one of a session
tasks_read : (lines : List (List ℕ)) (rs : List Request) → map request_in lines ≡ map Some rs → map task_in lines ≡ map Some (map Does rs)
tasks_read [] [] e = refl
tasks_read [] (r ∷ rs) e = absurd cc
tasks_read (line ∷ lines) [] e = absurd cc
tasks_read (line ∷ lines) (r ∷ rs) e =
    let first : request_in line ≡ Some r = cc in
    let others : map request_in lines ≡ map Some rs = cc in
    ap (λ o. o ∷ map task_in lines) (task_found line (Does r) (command_told line r first)) ∙ ap (λ os. Some (Does r) ∷ os) (tasks_read lines rs others)

-- each for its one command
abbrev ones : List Request → List (List Request)
ones [] = []
ones (r ∷ rs) = (r ∷ []) ∷ ones rs

ones_asked : (rs : List Request) → AskFor (map Does rs) (ones rs)
ones_asked [] = tt
ones_asked (r ∷ rs) = (refl, ones_asked rs)

ones_are : (rs : List Request) → rs ≡ commands_in (ones rs)
ones_are [] = refl
ones_are (r ∷ rs) = ap (λ l. r ∷ l) (ones_are rs)

asked_ones : (rs : List Request) (blocks : List (List Request)) → AskFor (map Does rs) blocks → commands_in blocks ≡ rs
asked_ones [] [] asks = refl
asked_ones [] (b ∷ blocks) asks = absurd asks
asked_ones (r ∷ rs) [] asks = absurd asks
asked_ones (r ∷ rs) (b ∷ blocks) asks = ap (λ l. l ++ commands_in blocks) asks.0 ∙ ap (λ l. r ∷ l) (asked_ones rs blocks asks.1)

ones_stood : (cut : Bool) (limits : Limits) (g : Going) (rs : List Request) → StoodFor cut limits g (map Does rs) (ones rs)
unfolding asked_of
ones_stood cut limits g [] = tt
ones_stood true limits g (r ∷ []) = ([], refl)
ones_stood false limits g (r ∷ []) = refl
ones_stood cut limits g (r ∷ next ∷ rs) = (refl, ones_stood cut limits (script_going limits g (r ∷ [])) (next ∷ rs))

-- where all lines of a script were asked, that is what it asks for
pub asked_script : (seed count : ℕ) (asked : List Request) → Asks asked (script_lines seed count) [] → asked ≡ requests seed count
asked_script seed count asked asks =
    let rs : List Request = requests seed count in
    let same : asks.lines ≡ map spelled rs = same_wholes asks.lines (map spelled rs) (sym (append-nil (map Whole asks.lines)) ∙ sym asks.before_is) in
    let tasks : asks.tasks ≡ map Does rs = same_tasks asks.tasks (map Does rs) (sym asks.tasks_are ∙ ap (λ ls. map task_in ls) same ∙ tasks_read (map spelled rs) rs (script_read seed count)) in
    asks.asked_are ∙ asked_ones rs asks.blocks (subst (λ (ts : List Task). AskFor ts asks.blocks) tasks asks.asks_for)

-- and it asks for that
pub asks_script : (seed count : ℕ) → Asks (requests seed count) (script_lines seed count) []
asks_script seed count = record {
  lines = map spelled (requests seed count);
  tasks = map Does (requests seed count);
  blocks = ones (requests seed count);
  before_is = sym (append-nil (script_lines seed count));
  tasks_are = tasks_read (map spelled (requests seed count)) (requests seed count) (script_read seed count);
  asks_for = ones_asked (requests seed count);
  asked_are = ones_are (requests seed count);
}

-- in whatever session
pub script_stood : (cut : Bool) (limits : Limits) (m : Journal) (drawn : List (List ℕ)) (seed count : ℕ) → Stood cut limits m drawn (asks_script seed count)
unfolding asks_script
script_stood cut limits m drawn seed count = λ rest. ones_stood cut limits (opened m (joined drawn ++ rest)) (requests seed count)

-- lines that ask for something aren't bad
never_bad : (front lines : List (List ℕ)) (rs : List Task) (rest : List InputLine) → map Whole lines ≡ map Whole front ++ rest
    → map task_in lines ≡ map Some rs → IsBadFirst rest → ⊥
never_bad [] [] rs rest e read bad = subst IsBadFirst (sym e) bad
never_bad [] (line ∷ lines) [] rest e read bad = absurd cc
never_bad [] (line ∷ lines) (r ∷ rs) rest e read bad =
    let none : task_in line ≡ None = subst IsBadFirst (sym e) bad in
    let some : task_in line ≡ Some r = cc in
    absurd (let both = sym none ∙ some in cc)
never_bad (x ∷ front) [] rs rest e read bad = absurd cc
never_bad (x ∷ front) (line ∷ lines) [] rest e read bad = absurd cc
never_bad (x ∷ front) (line ∷ lines) (r ∷ rs) rest e read bad =
    let more : map Whole lines ≡ map Whole front ++ rest = cc in
    let others : map task_in lines ≡ map Some rs = cc in
    never_bad front lines rs rest more others bad

pub script_never_bad : (seed count : ℕ) (asked : List Request) (rest : List InputLine) → Asks asked (script_lines seed count) rest → IsBadFirst rest → ⊥
script_never_bad seed count asked rest asks bad =
    never_bad asks.lines (map spelled (requests seed count)) (map Does (requests seed count)) rest asks.before_is
    (tasks_read (map spelled (requests seed count)) (requests seed count) (script_read seed count)) bad
