-- Commands up to the first that is refused.
use Rattle.std.proofs.Common.{ℕ, ⊎_elim, ◌≡◌, List, [], ◌∷◌, ◌++◌, sym, Option, Some, None, refl, ap, ◌∙◌, subst}
use Rattle.commit_journal.specs.Holding.{IsPrefix}
use Rattle.cry_base.specs.Requests.{Request}
use Rattle.cry_base.specs.Requests.Request.{AddHolder, MakeFolder, WriteFile, Remove, Rename, Relocate, Grant, Revoke}
use Rattle.cry_base.specs.declared.commands.Reply.TheVariants as replies
use Rattle.public_fold.specs.Journal.{Journal}
use Rattle.cry_base.specs.declared.commands.Refusal.{Refusal}
use Rattle.cry_base.specs.declared.limits.Limits.{Limits}
use Rattle.group_book.specs.Asked.{asked_behind, up_to_refusal}
use Rattle.group_laws.specs.Handing.{NoneIsRefused}
use Rattle.group_laws.proofs.Accepted.{behind, first_accepted, rest_accepted}
use Rattle.journal_bytes.specs.Script.{Going, answer, done_reply, draws_of, keys_from, line_going, line_reply, script_replies}

front_of : (o : Option Refusal) (r : Request) (asked rs : List Request) → IsPrefix asked rs → IsPrefix (r ∷ asked_behind o asked) (r ∷ rs)
unfolding asked_behind
front_of None r asked rs w = (w.0, ap (λ l. r ∷ l) w.1)
front_of (Some why) r asked rs w = (rs, refl)

pub begins : (limits : Limits) (g : Going) (rs : List Request) → IsPrefix (up_to_refusal limits g rs) rs
unfolding up_to_refusal
begins limits g [] = ([], refl)
begins limits g (r ∷ rs) = front_of (answer limits g.journal g.begun r) r (up_to_refusal limits (line_going g r (answer limits g.journal g.begun r)) rs) rs (begins limits (line_going g r (answer limits g.journal g.begun r)) rs)

pub whole : (limits : Limits) (g : Going) (rs : List Request) → NoneIsRefused (script_replies limits g (up_to_refusal limits g rs)) → up_to_refusal limits g rs ≡ rs
unfolding up_to_refusal asked_behind line_going behind
whole limits g [] none = refl
whole limits g (r ∷ rs) none =
    let is = first_accepted limits g r (asked_behind (answer limits g.journal g.begun r) (up_to_refusal limits (line_going g r (answer limits g.journal g.begun r)) rs)) none in
    let asked : up_to_refusal limits g (r ∷ rs) ≡ r ∷ up_to_refusal limits (behind g r) rs =
    ap (λ o. r ∷ asked_behind o (up_to_refusal limits (line_going g r o) rs)) is in
    let more = rest_accepted limits g r (up_to_refusal limits (behind g r) rs) (subst (λ l. NoneIsRefused (script_replies limits g l)) asked none) in
    asked ∙ ap (λ l. r ∷ l) (whole limits (behind g r) rs more)

-- ---- what stands before one that is asked

not_done : (m : Journal) (r : Request) (keys : List (List ℕ)) (why : Refusal) → replies.Refused why ≡ done_reply m r keys → ⊥
unfolding done_reply
not_done m AddHolder keys why e = cc
not_done m (MakeFolder path) keys why e = cc
not_done m (WriteFile path bytes) keys why e = cc
not_done m (Remove path) keys why e = cc
not_done m (Rename path name) keys why e = cc
not_done m (Relocate path into) keys why e = cc
not_done m (Grant holder path) keys why e = cc
not_done m (Revoke holder path) keys why e = cc

is_done : (g : Going) (r : Request) (why : Refusal) → replies.Refused why ≡ line_reply g r None → ⊥
unfolding line_reply
is_done g r why e = not_done g.journal r (keys_from (draws_of g.journal r) g.draws) why e

nothing_left : (front : List Request) (next : Request) (more : List Request) → front ++ next ∷ more ≡ [] → ⊥
nothing_left [] next more e = cc
nothing_left (f ∷ fs) next more e = cc

-- where more is asked behind a command, it was accepted
went_on : (o : Option Refusal) (asked front : List Request) (next : Request) (more : List Request) → front ++ next ∷ more ≡ asked_behind o asked → (o ≡ None) × (front ++ next ∷ more ≡ asked)
unfolding asked_behind
went_on None asked front next more e = (refl, e)
went_on (Some why) asked front next more e = absurd (nothing_left front next more e)

pub behind_accepted : (limits : Limits) (g : Going) (rs front : List Request) (next : Request) (more : List Request) → up_to_refusal limits g rs ≡ front ++ next ∷ more → NoneIsRefused (script_replies limits g front)
unfolding up_to_refusal script_replies
behind_accepted limits g [] front next more e = absurd (nothing_left front next more (sym e))
behind_accepted limits g (r ∷ rs) [] next more e = λ why i. i
behind_accepted limits g (r ∷ rs) (f ∷ fs) next more e =
    let o = answer limits g.journal g.begun r in
    let one : f ≡ r = same_first e in
    let w = went_on o (up_to_refusal limits (line_going g r o) rs) fs next more (same_rest e) in
    let later = behind_accepted limits (line_going g r o) rs fs next more (sym w.1) in
    subst (λ x. NoneIsRefused (line_reply g x (answer limits g.journal g.begun x) ∷ script_replies limits (line_going g x (answer limits g.journal g.begun x)) fs)) (sym one)
    (λ why i. ⊎_elim (λ (q : replies.Refused why ≡ line_reply g r o). is_done g r why (q ∙ ap (line_reply g r) w.0)) (λ j. later why j) i)
  where
    same_first : {xs ys : List Request} → r ∷ xs ≡ f ∷ ys → f ≡ r
    same_first q = cc

    same_rest : {xs ys : List Request} → r ∷ xs ≡ f ∷ ys → ys ≡ xs
    same_rest q = cc
