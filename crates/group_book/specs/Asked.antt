-- The commands that a line of a session was asked for. This project's own, docs/PROGRAM.md, "Lines".
use Rattle.std.specs.Prelude.{◌≡◌, Bool, true, false, List, [], ◌∷◌, Option, Some, None}
use Rattle.commit_journal.specs.Holding.{IsPrefix}
use Rattle.cry_base.specs.Requests.{Request}
use Rattle.cry_base.specs.declared.commands.Refusal.{Refusal}
use Rattle.cry_base.specs.declared.limits.Limits.{Limits}
use Rattle.journal_bytes.specs.Script.{Going, answer, line_going, script_going}
use Rattle.public_fold.specs.Journal.{store_of}
use Rattle.script_text.specs.Tasks.{Task}
use Rattle.script_text.specs.Tasks.Task.{Does, Replaces}
use Rattle.group_book.specs.Replacing.{stands_for}

-- what is asked behind a command: nothing where it is refused
unfoldable pub asked_behind : Option Refusal → List Request → List Request
asked_behind (Some why) rs = []
asked_behind None rs = rs

-- the commands up to the first that is refused
unfoldable pub up_to_refusal : Limits → Going → List Request → List Request
up_to_refusal limits g [] = []
up_to_refusal limits g (r ∷ rs) = r ∷ asked_behind (answer limits g.journal g.begun r)
    (up_to_refusal limits (line_going g r (answer limits g.journal g.begun r)) rs)

-- what a line asks for where a session stands
unfoldable pub asked_of : Limits → Going → Task → List Request
asked_of limits g (Does r) = r ∷ []
asked_of limits g (Replaces n) = up_to_refusal limits g (stands_for (store_of g.journal) n)

-- the last line was asked for its commands, and where `cut` is true maybe for the first of them alone
abbrev pub StoodForLast : Bool → List Request → List Request → Type 0
StoodForLast true block asked = IsPrefix block asked
StoodForLast false block asked = block ≡ asked

-- Each line was asked for its commands where it came. Where `cut` is true the last one may have been asked for the first of them alone.
abbrev pub StoodFor : Bool → Limits → Going → List Task → List (List Request) → Type 0
StoodFor cut limits g [] [] = Unit {0}
StoodFor cut limits g [] (b ∷ bs) = ⊥
StoodFor cut limits g (t ∷ ts) [] = ⊥
StoodFor cut limits g (t ∷ []) (b ∷ []) = StoodForLast cut b (asked_of limits g t)
StoodFor cut limits g (t ∷ []) (b ∷ c ∷ bs) = ⊥
StoodFor cut limits g (t ∷ u ∷ ts) (b ∷ []) = ⊥
StoodFor cut limits g (t ∷ u ∷ ts) (b ∷ c ∷ bs) =
    (b ≡ asked_of limits g t) × StoodFor cut limits (script_going limits g b) (u ∷ ts) (c ∷ bs)
