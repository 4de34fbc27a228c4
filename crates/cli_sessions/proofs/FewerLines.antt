-- Lines without the last command that they were asked for.
use Rattle.std.proofs.Common.{◌≡◌, ◌≢◌, ℕ, true, List, [], ◌∷◌, ◌++◌, length, map, Some, arith, refl, sym, ap, subst, ◌∙◌, length-append}
use Rattle.std.proofs.lemmas.List.{append-nil, length-map}
use Rattle.commit_journal.proofs.KeptLemmas.{prefix_trans}
use Rattle.cry_base.specs.Requests.{Request}
use Rattle.cry_base.specs.declared.limits.Limits.{Limits}
use Rattle.group_book.specs.Asked.{StoodFor, asked_of}
use Rattle.journal_bytes.specs.Script.{Going, script_going}
use Rattle.script_text.specs.Tasks.{Task, task_in}
use Rattle.script_text.specs.Tasks.Task.{Does, Replaces}
use Rattle.cli_base.specs.Lines.{InputLine}
use Rattle.cli_base.specs.Lines.InputLine.{Whole}
use Rattle.cli_sessions.specs.Script.{AskFor, AskThese, Asks, AsksFor, commands_in}

-- the lines that ask for this are as many as their tasks
pub lines_counted : (tasks : List Task) (blocks : List (List Request)) (asked : List Request) (before after : List InputLine) → (these : AskThese tasks blocks asked before after)
    → length these.0.lines ≡ length tasks
lines_counted tasks blocks asked before after these =
    let asks : Asks asked before after = these.0 in
    sym (length-map asks.lines task_in) ∙ ap length asks.tasks_are ∙ length-map asks.tasks Some ∙ ap length these.1

-- a line more before others
stood_before : (limits : Limits) (g : Going) (t : Task) (b : List Request) (ts : List Task) (bs : List (List Request)) → b ≡ asked_of limits g t
    → StoodFor true limits (script_going limits g b) ts bs → StoodFor true limits g (t ∷ ts) (b ∷ bs)
stood_before limits g t b [] [] is stood = ([], append-nil b ∙ is)
stood_before limits g t b [] (c ∷ bs) is stood = absurd stood
stood_before limits g t b (u ∷ ts) [] is stood = absurd stood
stood_before limits g t b (u ∷ ts) (c ∷ bs) is stood = (is, stood)

nothing : (rs : List Request) → rs ≢ [] → length rs ≡ 0 → ⊥
nothing [] some is = some refl
nothing (r ∷ rs) some is = omega (arith, is)

split_last : (front back asked : List Request) (next : Request) → back ≢ [] → asked ++ next ∷ [] ≡ front ++ back
    → (others : List Request) × (asked ≡ front ++ others) × (others ++ next ∷ [] ≡ back)
split_last [] back asked next some is = (asked, refl, is)
split_last (x ∷ front) back [] next some is =
    let none : [] ≡ front ++ back = cc in
    let short = ap length none ∙ length-append front back in
    absurd (nothing back some (omega (arith, short)))
split_last (x ∷ front) back (r ∷ asked) next some is =
    let first : r ≡ x = cc in
    let others : asked ++ next ∷ [] ≡ front ++ back = cc in
    let rest = split_last front back asked next some others in
    (rest.0, ap (λ rs. r ∷ rs) rest.1 ∙ ap (λ y. y ∷ (front ++ rest.0)) first, rest.2)

some_commands : (t : Task) (b : List Request) → AsksFor t b → b ≢ []
some_commands (Does r) b asks is = let no : r ∷ [] ≡ [] = sym asks ∙ is in absurd cc
some_commands (Replaces n) b asks is = asks.0 is

more_commands : (t : Task) (b : List Request) (bs : List (List Request)) → AsksFor t b → commands_in (b ∷ bs) ≢ []
more_commands t [] bs asks is = some_commands t [] asks refl
more_commands t (r ∷ b) bs asks is = absurd cc

-- a line asks for the first of its commands too, if there were more
fewer_for : (t : Task) (r : Request) (rs : List Request) (next : Request) → AsksFor t ((r ∷ rs) ++ next ∷ []) → AsksFor t (r ∷ rs)
fewer_for (Does request) r rs next asks =
    let long = ap length asks in
    absurd (omega (arith, long, length-append rs (next ∷ [])))
fewer_for (Replaces n) r rs next asks = ((λ is. absurd cc), asks.1, asks.2, prefix_trans (r ∷ rs) ((r ∷ rs) ++ next ∷ []) asks.1 (next ∷ [], refl) asks.3)

-- the lines, what they ask for, and those behind them
pub record Fewer (lines : List (List ℕ)) (tasks : List Task) (blocks : List (List Request)) (asked : List Request) (after : List InputLine) : Type 0 where
  pub first : List (List ℕ)
  pub ts : List Task
  pub bs : List (List Request)
  pub rest : List InputLine
  pub lines_are : map Whole lines ++ after ≡ map Whole first ++ rest
  pub tasks_are : map task_in first ≡ map Some ts
  pub asks_for : AskFor ts bs
  pub asked_are : asked ≡ commands_in bs
  pub stood : (limits : Limits) (g : Going) → StoodFor true limits g tasks blocks → StoodFor true limits g ts bs

-- the last line was asked for one command, and is none of them now; or for more
one_fewer : (line : List ℕ) (t : Task) (b : List Request) (asked : List Request) (next : Request) (after : List InputLine) → task_in line ≡ Some t → AsksFor t b
    → asked ++ next ∷ [] ≡ b → Fewer (line ∷ []) (t ∷ []) (b ∷ []) asked after
one_fewer line t b [] next after is asks same = record {
  first = [];
  ts = [];
  bs = [];
  rest = Whole line ∷ after;
  lines_are = refl;
  tasks_are = refl;
  asks_for = tt;
  asked_are = refl;
  stood = λ limits g stood. tt;
}
one_fewer line t b (r ∷ asked) next after is asks same = record {
  first = line ∷ [];
  ts = t ∷ [];
  bs = (r ∷ asked) ∷ [];
  rest = after;
  lines_are = refl;
  tasks_are = ap (λ o. o ∷ []) is;
  asks_for = (fewer_for t r asked next (subst (AsksFor t) (sym same) asks), tt);
  asked_are = sym (append-nil (r ∷ asked));
  stood = λ limits g stood. prefix_trans (r ∷ asked) b (asked_of limits g t) (next ∷ [], same) stood;
}

fewer : (lines : List (List ℕ)) (tasks : List Task) (blocks : List (List Request)) (asked : List Request) (next : Request) (after : List InputLine)
    → map task_in lines ≡ map Some tasks → AskFor tasks blocks → asked ++ next ∷ [] ≡ commands_in blocks → Fewer lines tasks blocks asked after
fewer [] [] [] [] next after are asks same = absurd cc
fewer [] [] [] (r ∷ asked) next after are asks same = absurd cc
fewer [] [] (b ∷ bs) asked next after are asks same = absurd asks
fewer [] (t ∷ ts) blocks asked next after are asks same = absurd cc
fewer (line ∷ lines) [] blocks asked next after are asks same = absurd cc
fewer (line ∷ lines) (t ∷ ts) [] asked next after are asks same = absurd asks
fewer (line ∷ []) (t ∷ []) (b ∷ []) asked next after are asks same =
    let is : task_in line ≡ Some t = cc in
    one_fewer line t b asked next after is asks.0 (same ∙ append-nil b)
fewer (line ∷ []) (t ∷ u ∷ ts) blocks asked next after are asks same = absurd cc
fewer (line ∷ other ∷ lines) (t ∷ []) blocks asked next after are asks same = absurd cc
fewer (line ∷ []) (t ∷ []) (b ∷ c ∷ bs) asked next after are asks same = absurd asks.1
fewer (line ∷ other ∷ lines) (t ∷ u ∷ ts) (b ∷ []) asked next after are asks same = absurd asks.1
fewer (line ∷ other ∷ lines) (t ∷ u ∷ ts) (b ∷ c ∷ bs) asked next after are asks same =
    let is : task_in line ≡ Some t = cc in
    let others : map task_in (other ∷ lines) ≡ map Some (u ∷ ts) = cc in
    let split = split_last b (commands_in (c ∷ bs)) asked next (more_commands u c bs asks.1.0) same in
    let rest = fewer (other ∷ lines) (u ∷ ts) (c ∷ bs) split.0 next after others asks.1 split.2 in
    record {
      first = line ∷ rest.first;
      ts = t ∷ rest.ts;
      bs = b ∷ rest.bs;
      rest = rest.rest;
      lines_are = ap (λ ls. Whole line ∷ ls) rest.lines_are;
      tasks_are = ap (λ o. o ∷ map task_in rest.first) is ∙ ap (λ os. Some t ∷ os) rest.tasks_are;
      asks_for = (asks.0, rest.asks_for);
      asked_are = split.1 ∙ ap (λ rs. b ++ rs) rest.asked_are;
      stood = λ limits g stood. stood_before limits g t b rest.ts rest.bs stood.0 (rest.stood limits (script_going limits g b) stood.1);
    }

-- without the last command the lines ask for the others; and where they stood for theirs they do so too
pub asks_fewer : (asked : List Request) (next : Request) (before after : List InputLine) → (asks : Asks (asked ++ next ∷ []) before after)
    → (rest : List InputLine) × (some : Asks asked before rest)
    × ((limits : Limits) (g : Going) → StoodFor true limits g asks.tasks asks.blocks → StoodFor true limits g some.tasks some.blocks)
asks_fewer asked next before after asks =
    let less = fewer asks.lines asks.tasks asks.blocks asked next after asks.tasks_are asks.asks_for asks.asked_are in (
      less.rest,
      record {
        lines = less.first;
        tasks = less.ts;
        blocks = less.bs;
        before_is = asks.before_is ∙ less.lines_are;
        tasks_are = less.tasks_are;
        asks_for = less.asks_for;
        asked_are = less.asked_are;
      },
      less.stood,
    )
