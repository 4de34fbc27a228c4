-- What an owner answers to lines, one after another, by the commands that they stand for, is what the session's script replies.
use Rattle.std.proofs.Common.{◌≡◌, ⊎_elim, inl, inr, ℕ, Bool, true, false, List, [], ◌∷◌, ◌++◌, drop, append_assoc, arith, refl, sym, ap, subst, ◌∙◌}
use Rattle.std.specs.Prelude.{is_some}
use Rattle.std.proofs.lemmas.Grind.{flat_map-append}
use Rattle.std.proofs.lemmas.List.{append-nil, append_cancel_left}
use Rattle.commit_journal.specs.Holding.{IsPrefix}
use Rattle.cry_base.specs.Requests.{Request}
use Rattle.cry_base.specs.declared.commands.Reply.{Reply}
use Rattle.cry_base.specs.declared.limits.Limits.{Limits}
use Rattle.group_book.specs.Asked.{StoodFor, asked_of}
use Rattle.journal_bytes.specs.Script.{Going, script_going, script_replies}
use Rattle.script_text.specs.Tasks.{Task}
use Rattle.script_text.specs.Tasks.Task.{Does, Replaces}
use Rattle.cli_sessions.specs.OwnerSteps.{AnswersIn, Scene, StandsIn}
use Rattle.cli_sessions.specs.Script.{Answered, Blocks, IsAsked, StandsFor, commands_in}
use Rattle.cli_sessions.specs.Script.Answered.{Begun, Then}
use Rattle.cli_sessions.specs.Script.Blocks.{NoLine, OneMore}
use Rattle.cli_sessions.proofs.AnsweredScripts.{Goes, IsNow, IsScene, goes_drawn, goes_further, goes_nowhere, joined_more}
use Rattle.cli_sessions.proofs.StoodLemmas.{StandsThere, exact_line, front_line, replies_append, stood_more}
use Rattle.cli_sessions.proofs.StopLemmas.{Stays, goes_grow, stays_begun, stays_on}
use Rattle.public_fold.specs.Journal.{store_of}
use Rattle.store_owner.specs.Drawing.{joined}
use Rattle.store_owner.specs.Sessions.{AnswersBehind, with_draws}
use Rattle.store_owner.specs.Stopping.{RestsAt}
use Rattle.store_owner.specs.Tallied.{counted_in}
use Rattle.store_owner.specs.declared.apply_fault.ApplyFault.{ApplyFault}
use Rattle.store_owner.proofs.OwnerGoesOn.{drops_more}
use Rattle.store_owner.proofs.OwnerKeeps.{store_kept}
use Rattle.store_owner.proofs.Scripted.{answered_counting}

pub commands_more : (blocks : List (List Request)) (block : List Request) → commands_in (blocks ++ block ∷ []) ≡ commands_in blocks ++ block
commands_more blocks block = flat_map-append (λ (b : List Request). b) blocks (block ∷ []) ∙ ap (λ last. commands_in blocks ++ last) (append-nil block)

module _ (X : Type 0) (scene : X → Scene) (leaves : X → List ℕ → Type 0) (since : X → ℕ → List ℕ → List ℕ → Type 0) (Step : X → Request → Reply → X → Type 0) (Fails : X → Request → ApplyFault → X → Type 0)
    (is : (x : X) (r : Request) (reply : Reply) (y : X) → Step x r reply y → AnswersIn (scene x) r reply (scene y) (leaves x) (leaves y) (since x) (since y)) (start : X)
    (limits : Limits) (key : List ℕ) (g : Going) (stands : IsScene limits key g (scene start)) (now : IsNow X scene leaves since Step is start)
    (rests : RestsAt key g.journal (scene start).shown (leaves start)) where
  -- where a session stands that answered these commands so
  pub record Reached (asked : List Request) (given : List Reply) (x : X) : Type 0 where
    pub at : Going
    pub went : Goes limits g asked given at (scene start).left (scene x).left
    pub there : IsScene limits key at (scene x)
    pub tail : AnswersBehind g at (scene start).owner (scene x).owner (scene start).shown (scene x).shown
    pub stays : Stays key g.journal at.journal (scene start).moment (scene x).moment (scene start).shown (scene x).shown (leaves x) (since x)
    pub counted : (scene start).owner.tally ≡ counted_in g.journal → (scene x).owner.tally ≡ counted_in at.journal
    pub left_told : is_some (scene x).left ≡ is_some (scene start).left

  pub reached_none : Reached [] [] start
  reached_none = record {
    at = g;
    went = goes_nowhere limits g (scene start).left;
    there = stands;
    tail = record {
      behind = λ x y e f. let one : y ≡ x = cc in ap (λ b. drop (scene start).owner.journal.end b) one;
      further = omega arith;
      no_shorter = omega arith;
      unchanged = inl refl;
    };
    stays = stays_begun key g.journal (scene start).moment (scene start).shown (leaves start) (since start) now rests;
    counted = λ all. all;
    left_told = refl;
  }

  -- the keys drawn go on
  abbrev GoesFrom : {asked : List Request} {given : List Reply} {x : X} → Reached asked given x → List Request → List Reply → X → Type 0
  GoesFrom before whole told y = (after : Reached whole told y) × (more : List (List ℕ)) × (after.went.drawn ≡ before.went.drawn ++ more)

  -- a command more
  reached_more : (asked : List Request) (given : List Reply) (x : X) (before : Reached asked given x) (r : Request) (reply : Reply) (y : X) → Step x r reply y
      → GoesFrom before (asked ++ r ∷ []) (given ++ reply ∷ []) y
  reached_more asked given x before r reply y step =
      let h : Going = before.at in
      let there = before.there in
      let tail = before.tail in
      let one = is x r reply y step in
      let more = answered_counting limits key h r reply (scene x).owner (scene y).owner (scene x).left (scene y).left (scene x).shown (scene y).shown
      (leaves x) (leaves y) (since y (scene x).moment) there (one.answers h.journal there.owner_is) one.shown_told one.kept in
      let next = more.3 in (
        record {
          at = more.0;
          went = goes_further limits g h more.0 asked given r reply (scene start).left (scene x).left (scene y).left before.left_told before.went more.1;
          there = more.2;
          tail = record {
            behind = λ a c e f. next.behind there.disk_stands.0 c there.disk_stands.1 f
                ∙ drops_more (scene x).owner.journal.end (scene y).owner.journal.end a there.disk_stands.0 next.further (tail.behind a there.disk_stands.0 e there.disk_stands.1);
            further = omega (arith, tail.further, next.further);
            no_shorter = omega (arith, tail.no_shorter, next.no_shorter);
            unchanged = ⊎_elim
                (λ (same : (scene y).shown ≡ (scene x).shown). ⊎_elim (λ first. inl (same ∙ first)) (λ longer. inr (omega (arith, longer, next.no_shorter))) tail.unchanged)
                (λ longer. inr (omega (arith, longer, tail.no_shorter))) next.unchanged;
          };
          stays = stays_on key g.journal h.journal more.0.journal (scene start).moment (scene x).moment (scene y).moment (scene start).shown (scene x).shown (scene y).shown (leaves x) (leaves y) (since x) (since y)
              before.stays (goes_grow limits h more.0 r (joined more.1.drawn ++ []) [] (more.1.goes [])) more.4 one.later one.time;
          counted = λ all. more.5 one.counted (before.counted all);
          left_told = one.left_told ∙ before.left_told;
        },
        more.1.drawn,
        goes_drawn limits g h more.0 asked given r reply (scene start).left (scene x).left (scene y).left before.left_told before.went more.1,
      )

  -- and others
  pub reached_on : (asked : List Request) (given : List Reply) (x : X) (before : Reached asked given x) (block : List Request) (some : List Reply) (y : X) → Answered Step x block some y
      → GoesFrom before (asked ++ block) (given ++ some) y
  reached_on asked given x before block some y Begun =
      subst (λ rs. GoesFrom before rs (given ++ []) y) (sym (append-nil asked))
      (subst (λ replies. GoesFrom before asked replies y) (sym (append-nil given)) (before, [], sym (append-nil before.went.drawn)))
  reached_on asked given x before block some y (Then {asked = rs} {replies = told} {x = z} {y = w} {request = r} {reply = reply} first step) =
      let so_far = reached_on asked given x before rs told z first in
      let one = reached_more (asked ++ rs) (given ++ told) z so_far.0 r reply y step in
      subst (λ all. GoesFrom before all (given ++ (told ++ reply ∷ [])) y) (append_assoc asked rs (r ∷ []))
      (subst (λ all. GoesFrom before ((asked ++ rs) ++ r ∷ []) all y) (append_assoc given told (reply ∷ []))
      (one.0, so_far.1 ++ one.1, one.2 ∙ ap (λ keys. keys ++ one.1) so_far.2 ∙ append_assoc before.went.drawn so_far.1 one.1))

  -- ---- lines

  abbrev pub There : (drawn : List (List ℕ)) (rest : List ℕ) → Going
  There drawn rest = with_draws g (joined drawn ++ rest)

  -- each line was asked for the commands that it stood for
  abbrev pub StoodBy : {asked : List Request} {given : List Reply} {x : X} → Bool → Reached asked given x → List Task → List (List Request) → Type 0
  StoodBy cut reached tasks blocks = (rest : List ℕ) → StoodFor cut limits (There reached.went.drawn rest) tasks blocks

  module _ (Stand : X → ℕ → List Request → Type 0) (so : (x : X) (n : ℕ) (commands : List Request) → Stand x n commands → StandsIn (scene x).owner n commands) where
    -- what a line stands for where the owner is, it stands for in the journal
    pub line_stands : (x : X) (at : Going) → IsScene limits key at (scene x) → (task : Task) (commands : List Request) → StandsFor Stand x task commands
        → StandsThere at.journal task commands
    line_stands x at there (Does r) commands is = is
    line_stands x at there (Replaces n) commands is =
        so x n commands is.0 (store_of at.journal) (store_kept at.journal (scene x).owner there.owner_is)

    -- the replies of a block are those of the session behind the lines before it
    module _ (asked : List Request) (given : List Reply) (x : X) (before : Reached asked given x) (block : List Request) (some : List Reply) (y : X)
        (whole : List Request) (whole_is : whole ≡ asked ++ block) (after : Reached whole (given ++ some) y) (more : List (List ℕ)) (drawn : after.went.drawn ≡ before.went.drawn ++ more)
        (rest : List ℕ) where
      abbrev behind : Going
      behind = with_draws before.at (joined more ++ rest)

      pub drawn_so : There after.went.drawn rest ≡ There before.went.drawn (joined more ++ rest)
      drawn_so = ap (λ keys. There keys rest) drawn ∙ ap (λ bytes. with_draws g bytes) (joined_more before.went.drawn more rest)

      pub went_so : script_going limits (There after.went.drawn rest) asked ≡ behind
      went_so = ap (λ at. script_going limits at asked) drawn_so ∙ before.went.goes (joined more ++ rest)

      pub replied_so : script_replies limits behind block ≡ some
      replied_so =
          let at : Going = There before.went.drawn (joined more ++ rest) in
          let all : script_replies limits at (asked ++ block) ≡ given ++ some =
          ap (λ at. script_replies limits at (asked ++ block)) (sym drawn_so) ∙ ap (λ rs. script_replies limits (There after.went.drawn rest) rs) (sym whole_is) ∙ after.went.replied rest in
          let split : script_replies limits at (asked ++ block) ≡ given ++ script_replies limits behind block =
          replies_append limits at asked block ∙ ap (λ rs. rs ++ script_replies limits (script_going limits at asked) block) (before.went.replied (joined more ++ rest))
          ∙ ap (λ (h : Going). given ++ script_replies limits h block) (before.went.goes (joined more ++ rest)) in
          append_cancel_left given (script_replies limits behind block) some (sym split ∙ all)

    -- all lines were answered
    pub blocks_reach : (tasks : List Task) (blocks : List (List Request)) (given : List Reply) (x : X) → Blocks Step Fails Stand start tasks blocks given x
        → (reached : Reached (commands_in blocks) given x) × StoodBy false reached tasks blocks
    blocks_reach tasks blocks given x NoLine = (reached_none, λ rest. tt)
    blocks_reach tasks blocks given x (OneMore {tasks = ts} {blocks = bs} {replies = told} {some = some} {x = z} {y = y} {task = t} {block = b} first went) =
        let before = blocks_reach ts bs told z first in
        let after = reached_on (commands_in bs) told z before.0 b some y went.stands in
        let after : GoesFrom before.0 (commands_in (bs ++ b ∷ [])) (told ++ some) y =
        subst (λ rs. GoesFrom before.0 rs (told ++ some) y) (sym (commands_more bs b)) after in (
          after.0,
          λ rest.
              let replied = replied_so (commands_in bs) told z before.0 b some y (commands_in (bs ++ b ∷ [])) (commands_more bs b) after.0 after.1 after.2 rest in
              let went_there = went_so (commands_in bs) told z before.0 b some y (commands_in (bs ++ b ∷ [])) (commands_more bs b) after.0 after.1 after.2 rest in
              let drawn = drawn_so (commands_in bs) told z before.0 b some y (commands_in (bs ++ b ∷ [])) (commands_more bs b) after.0 after.1 after.2 rest in
              let at : Going = with_draws before.0.at (joined after.1 ++ rest) in
              let exact : b ≡ asked_of limits at t =
              exact_line limits at t went.commands b some (line_stands z before.0.at before.0.there t went.commands went.stands_for) went.asked ([], append-nil some ∙ sym replied) in
              stood_more false limits (There after.0.went.drawn rest) ts bs t b
              (subst (λ (h : Going). StoodFor false limits h ts bs) (sym drawn) (before.1 (joined after.1 ++ rest)))
              (subst (λ (h : Going). b ≡ asked_of limits h t) (sym went_there) exact),
        )

    -- and behind them the first commands of one more, of which others may have been asked
    pub ends_reach : (tasks : List Task) (blocks : List (List Request)) (given : List Reply) (x : X) → Blocks Step Fails Stand start tasks blocks given x
        → (t : Task) (commands block : List Request) (some : List Reply) → StandsFor Stand x t commands → IsAsked true commands block some
        → (first others : List Request) → block ≡ first ++ others → (y : X) → Answered Step x first some y
        → (reached : Reached (commands_in blocks ++ first) (given ++ some) y) × StoodBy true reached (tasks ++ t ∷ []) (blocks ++ block ∷ [])
    ends_reach tasks blocks given x lines t commands block some stands_for asked first others whole y answered =
        let before = blocks_reach tasks blocks given x lines in
        let after = reached_on (commands_in blocks) given x before.0 first some y answered in (
          after.0,
          λ rest.
              let replied = replied_so (commands_in blocks) given x before.0 first some y (commands_in blocks ++ first) refl after.0 after.1 after.2 rest in
              let went_there = went_so (commands_in blocks) given x before.0 first some y (commands_in blocks ++ first) refl after.0 after.1 after.2 rest in
              let drawn = drawn_so (commands_in blocks) given x before.0 first some y (commands_in blocks ++ first) refl after.0 after.1 after.2 rest in
              let at : Going = with_draws before.0.at (joined after.1 ++ rest) in
              let more : List Reply = script_replies limits (script_going limits at first) others in
              let told : some ++ more ≡ script_replies limits at block =
              ap (λ rs. rs ++ more) (sym replied) ∙ sym (replies_append limits at first others) ∙ ap (λ rs. script_replies limits at rs) (sym whole) in
              let front : IsPrefix block (asked_of limits at t) =
              front_line limits at t commands block some (line_stands x before.0.at before.0.there t commands stands_for) asked (more, told) in
              stood_more true limits (There after.0.went.drawn rest) tasks blocks t block
              (subst (λ (h : Going). StoodFor false limits h tasks blocks) (sym drawn) (before.1 (joined after.1 ++ rest)))
              (subst (λ (h : Going). IsPrefix block (asked_of limits h t)) (sym went_there) front),
        )
