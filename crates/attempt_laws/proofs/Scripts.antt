-- What a script does can happen.
use Rattle.std.proofs.Common.{◌≡◌, ◌≤◌, ℕ, zero, suc, ◌-◌, ◌*◌, List, [], ◌∷◌, length, take, drop, Option, Some, None, All, arith, refl, sym, ap, subst, ◌∙◌}
use Rattle.std.proofs.lemmas.List.{length-drop, length-take-le}
use Rattle.std.proofs.lemmas.List.Elements.{All-cons, All-nil}
use Rattle.cry_base.specs.Requests.{Request}
use Rattle.cry_base.specs.declared.commands.Refusal.{Refusal}
use Rattle.cry_base.specs.declared.limits.Limits.{Limits}
use Rattle.journal_bytes.specs.Attempts.{begun_journal, course_then}
use Rattle.journal_bytes.specs.Script.{Going, accepted_going, answer, draws_of, keys_from, line_going, script_going}
use Rattle.attempt_laws.specs.Happenings.{CanHappen, IsCourse}
use Rattle.attempt_laws.specs.Scripted.{HasDraws, course_of, line_event, script_events}
use Rattle.attempt_laws.specs.Trials.{course_after, course_behind}

keys_many : (n : ℕ) (draws : List ℕ) → length (keys_from n draws) ≡ n
unfolding keys_from
keys_many zero draws = refl
keys_many (suc n) draws = ap suc (keys_many n (drop 32 draws))

abbrev IsKey : List ℕ → Type 0
IsKey key = length key ≡ 32

keys_sized : (n : ℕ) (draws : List ℕ) → 32 * n ≤ length draws → All IsKey (keys_from n draws)
unfolding keys_from
keys_sized zero draws h = All-nil IsKey
keys_sized (suc n) draws h =
    All-cons IsKey (take 32 draws) (keys_from n (drop 32 draws)) (length-take-le 32 draws (omega arith))
    (keys_sized n (drop 32 draws) (let less : length (drop 32 draws) ≡ length draws - 32 = length-drop 32 draws in omega (arith, less)))

line_then : (g : Going) (r : Request) (o : Option Refusal) → course_behind (course_of g) (line_event g r o) ≡ course_of (line_going g r o)
unfolding course_behind course_then begun_journal line_event line_going accepted_going
line_then g r None = refl
line_then g r (Some why) = refl

line_happens : (limits : Limits) (g : Going) (r : Request) (o : Option Refusal) → answer limits g.journal g.begun r ≡ o
    → (answer limits g.journal g.begun r ≡ None → 32 * draws_of g.journal r ≤ length g.draws) → CanHappen limits (course_of g) (line_event g r o)
unfolding line_event
line_happens limits g r None e enough =
    let n = draws_of g.journal r in ((tt, e), keys_many n g.draws, keys_sized n g.draws (enough e))
line_happens limits g r (Some why) e enough = (tt, (why, e))

pub script_happens : (limits : Limits) (g : Going) (lines : List Request) → HasDraws limits g lines
    → IsCourse limits (course_of g) (script_events limits g lines)
unfolding script_events
script_happens limits g [] enough = tt
script_happens limits g (r ∷ rs) enough =
    let o = answer limits g.journal g.begun r in
    let rest = script_happens limits (line_going g r o) rs enough.1 in
    let later = script_events limits (line_going g r o) rs in
    (line_happens limits g r o refl enough.0, subst (λ c. IsCourse limits c later) (sym (line_then g r o)) rest)

pub script_after : (limits : Limits) (g : Going) (lines : List Request)
    → course_after (course_of g) (script_events limits g lines) ≡ course_of (script_going limits g lines)
unfolding course_after script_events script_going
script_after limits g [] = refl
script_after limits g (r ∷ rs) =
    let o = answer limits g.journal g.begun r in
    ap (λ c. course_after c (script_events limits (line_going g r o) rs)) (line_then g r o) ∙ script_after limits (line_going g r o) rs
