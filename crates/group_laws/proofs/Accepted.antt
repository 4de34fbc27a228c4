-- Commands of which none is refused, one after another.
use Rattle.std.proofs.Common.{◌≡◌, ℕ, Bool, true, false, cond, List, [], ◌∷◌, ◌++◌, Option, Some, None, inl, inr, refl, sym, ap, ◌∙◌, subst}
use Rattle.cry_base.proofs.Members.{In-append}
use Rattle.cry_base.specs.Requests.{Request}
use Rattle.cry_base.specs.Sets.{In}
use Rattle.cry_base.specs.Stepping.{effect}
use Rattle.cry_base.specs.declared.commands.Refusal.{Refusal}
use Rattle.cry_base.specs.declared.commands.Reply.{Reply}
use Rattle.cry_base.specs.declared.commands.Reply.TheVariants as replies
use Rattle.cry_base.specs.declared.limits.Limits.{Limits}
use Rattle.journal_bytes.specs.Script.{Going, accepted_going, answer, draws_of, keys_from, line_going, line_reply, script_going, script_replies}
use Rattle.public_fold.specs.Journal.{Journal, Stand, entry_store, first_key, nothing, stand_after, stand_then, store_of}
use Rattle.public_fold.specs.Journal.Entry.{Did, Session}
use Rattle.public_fold.proofs.Prefixes.{stand_after-append}
use Rattle.group_laws.specs.Handing.{NoneIsRefused}

-- where a session stands behind a command that is accepted
unfoldable pub behind : Going → Request → Going
behind g r = accepted_going g r (draws_of g.journal r)

pub first_accepted : (limits : Limits) (g : Going) (r : Request) (rs : List Request) → NoneIsRefused (script_replies limits g (r ∷ rs)) → answer limits g.journal g.begun r ≡ None
unfolding script_replies line_reply
first_accepted limits g r rs none = by_answer (answer limits g.journal g.begun r) (λ why is. none why (inl (ap (line_reply g r) (sym is))))
  where
    by_answer : (o : Option Refusal) → ((why : Refusal) → o ≡ Some why → ⊥) → o ≡ None
    by_answer None never = refl
    by_answer (Some why) never = absurd (never why refl)

pub goes_behind : (limits : Limits) (g : Going) (r : Request) (rs : List Request) → answer limits g.journal g.begun r ≡ None → script_going limits g (r ∷ rs) ≡ script_going limits (behind g r) rs
unfolding script_going line_going behind
goes_behind limits g r rs is = ap (λ o. script_going limits (line_going g r o) rs) is

pub rest_accepted : (limits : Limits) (g : Going) (r : Request) (rs : List Request) → NoneIsRefused (script_replies limits g (r ∷ rs)) → NoneIsRefused (script_replies limits (behind g r) rs)
unfolding script_replies line_going behind
rest_accepted limits g r rs none why i =
    none why (inr (subst (λ o. In (replies.Refused why) (script_replies limits (line_going g r o) rs)) (sym (first_accepted limits g r rs none)) i))

pub stand_behind : (g : Going) (r : Request) → (keys : List (List ℕ)) × (stand_after nothing (behind g r).journal ≡ stand_then (stand_after nothing (g.journal ++ cond g.begun [] (Session ∷ []))) (Did r keys))
unfolding behind accepted_going stand_after
stand_behind g r = (keys_from (draws_of g.journal r) g.draws, stand_after-append nothing (g.journal ++ cond g.begun [] (Session ∷ [])) (Did r (keys_from (draws_of g.journal r) g.draws) ∷ []))

pub between_store : (m : Journal) (b : Bool) → (stand_after nothing (m ++ cond b [] (Session ∷ []))).store ≡ (stand_after nothing m).store
unfolding stand_after stand_then entry_store
between_store m true = ap (λ (at : Stand). at.store) (stand_after-append nothing m [])
between_store m false = ap (λ (at : Stand). at.store) (stand_after-append nothing m (Session ∷ []))

-- the store behind it is the command's effect
pub store_behind : (g : Going) (r : Request) → (key : List ℕ) × (store_of (behind g r).journal ≡ effect (store_of g.journal) r key)
unfolding store_of stand_then entry_store
store_behind g r =
    let w = stand_behind g r in
    (first_key w.0, ap (λ (at : Stand). at.store) w.1 ∙ ap (λ s. effect s r (first_key w.0)) (between_store g.journal g.begun))

-- ---- commands behind others

pub replies_append : (limits : Limits) (g : Going) (xs ys : List Request) → script_replies limits g (xs ++ ys) ≡ script_replies limits g xs ++ script_replies limits (script_going limits g xs) ys
unfolding script_replies script_going
replies_append limits g [] ys = refl
replies_append limits g (x ∷ xs) ys =
    ap (λ l. line_reply g x (answer limits g.journal g.begun x) ∷ l) (replies_append limits (line_going g x (answer limits g.journal g.begun x)) xs ys)

pub going_append : (limits : Limits) (g : Going) (xs ys : List Request) → script_going limits g (xs ++ ys) ≡ script_going limits (script_going limits g xs) ys
unfolding script_going
going_append limits g [] ys = refl
going_append limits g (x ∷ xs) ys = going_append limits (line_going g x (answer limits g.journal g.begun x)) xs ys

pub front_accepted : (limits : Limits) (g : Going) (xs ys : List Request) → NoneIsRefused (script_replies limits g (xs ++ ys)) → NoneIsRefused (script_replies limits g xs)
front_accepted limits g xs ys none why i = none why (subst (In (replies.Refused why)) (sym (replies_append limits g xs ys)) ((In-append Reply (replies.Refused why) (script_replies limits g xs) (script_replies limits (script_going limits g xs) ys)).1 (inl i)))

pub back_accepted : (limits : Limits) (g : Going) (xs ys : List Request) → NoneIsRefused (script_replies limits g (xs ++ ys)) → NoneIsRefused (script_replies limits (script_going limits g xs) ys)
back_accepted limits g xs ys none why i = none why (subst (In (replies.Refused why)) (sym (replies_append limits g xs ys)) ((In-append Reply (replies.Refused why) (script_replies limits g xs) (script_replies limits (script_going limits g xs) ys)).1 (inr i)))
