-- Lines that were asked each for the commands that they stood for.
use Rattle.std.proofs.Common.{◌≡◌, ◌≢◌, ℕ, Bool, true, false, List, [], ◌∷◌, ◌++◌, Option, Some, None, refl, sym, ap, subst, ◌∙◌}
use Rattle.std.proofs.lemmas.Bool.{false≢true}
use Rattle.std.proofs.lemmas.List.{append-nil}
use Rattle.commit_journal.specs.Holding.{IsPrefix}
use Rattle.commit_journal.proofs.KeptLemmas.{prefix_same}
use Rattle.cry_base.specs.Requests.{Request}
use Rattle.cry_base.specs.Requests.Request.{AddHolder, Grant, MakeFolder, Relocate, Remove, Rename, Revoke, WriteFile}
use Rattle.cry_base.specs.declared.commands.Refusal.{Refusal}
use Rattle.cry_base.specs.declared.commands.Reply.{Reply}
use Rattle.cry_base.specs.declared.commands.Reply.TheVariants.{Done, Made, Refused}
use Rattle.cry_base.specs.declared.limits.Limits.{Limits}
use Rattle.group_book.specs.Asked.{StoodFor, StoodForLast, asked_behind, asked_of, up_to_refusal}
use Rattle.group_book.specs.Replacing.{stands_for}
use Rattle.journal_bytes.specs.Script.{Going, answer, done_reply, line_going, line_reply, opened, script_going, script_replies}
use Rattle.public_fold.specs.Journal.{Journal, store_of}
use Rattle.script_text.specs.Tasks.{Task}
use Rattle.script_text.specs.Tasks.Task.{Does, Replaces}
use Rattle.cli_base.specs.Lines.{InputLine}
use Rattle.cli_sessions.specs.Script.{Asks, IsAsked, commands_in}
use Rattle.cli_sessions.specs.Sessions.{Stood}
use Rattle.cli_sessions.proofs.AnsweredScripts.{joined_more}
use Rattle.store_owner.specs.Drawing.{joined}

-- ---- commands one after another

pub going_append : (limits : Limits) (g : Going) (first more : List Request) → script_going limits g (first ++ more) ≡ script_going limits (script_going limits g first) more
unfolding script_going
going_append limits g [] more = refl
going_append limits g (r ∷ first) more = going_append limits (line_going g r (answer limits g.journal g.begun r)) first more

pub replies_append : (limits : Limits) (g : Going) (first more : List Request)
    → script_replies limits g (first ++ more) ≡ script_replies limits g first ++ script_replies limits (script_going limits g first) more
unfolding script_going script_replies
replies_append limits g [] more = refl
replies_append limits g (r ∷ first) more =
    ap (λ rs. line_reply g r (answer limits g.journal g.begun r) ∷ rs) (replies_append limits (line_going g r (answer limits g.journal g.begun r)) first more)

-- ---- a reply tells whether a command was refused

done_isnt_refused : (m : Journal) (r : Request) (keys : List (List ℕ)) (why : Refusal) → Refused why ≡ done_reply m r keys → (w : Refusal) × (None ≡ Some w)
unfolding done_reply
done_isnt_refused m AddHolder keys why is = absurd cc
done_isnt_refused m (MakeFolder path) keys why is = absurd cc
done_isnt_refused m (WriteFile path bytes) keys why is = absurd cc
done_isnt_refused m (Remove path) keys why is = absurd cc
done_isnt_refused m (Rename path name) keys why is = absurd cc
done_isnt_refused m (Relocate path into) keys why is = absurd cc
done_isnt_refused m (Grant holder path) keys why is = absurd cc
done_isnt_refused m (Revoke holder path) keys why is = absurd cc

refused_by : (g : Going) (r : Request) (said : Option Refusal) (why : Refusal) → Refused why ≡ line_reply g r said → (w : Refusal) × (said ≡ Some w)
unfolding line_reply
refused_by g r None why is = done_isnt_refused g.journal r _ why is
refused_by g r (Some w) why is = (w, refl)

accepted_by : (g : Going) (r : Request) (said : Option Refusal) (reply : Reply) → ((why : Refusal) → reply ≢ Refused why) → reply ≡ line_reply g r said → said ≡ None
unfolding line_reply
accepted_by g r None reply other is = refl
accepted_by g r (Some w) reply other is = absurd (other w is)

-- ---- what was asked of a line's commands

none_behind : (said : Option Refusal) → asked_behind said [] ≡ []
unfolding asked_behind
none_behind None = refl
none_behind (Some why) = refl

up_to_one : (limits : Limits) (g : Going) (r : Request) → up_to_refusal limits g (r ∷ []) ≡ r ∷ []
unfolding up_to_refusal
up_to_one limits g r = ap (λ rs. r ∷ rs) (none_behind (answer limits g.journal g.begun r))

up_to_none : (limits : Limits) (g : Going) → up_to_refusal limits g [] ≡ []
unfolding up_to_refusal
up_to_none limits g = refl

-- the first was refused, or was not: what is asked behind it
behind_refused : (said : Option Refusal) (w : Refusal) (rs : List Request) → said ≡ Some w → asked_behind said rs ≡ []
unfolding asked_behind
behind_refused (Some why) w rs is = refl
behind_refused None w rs is = absurd cc

behind_accepted : (said : Option Refusal) (rs : List Request) → said ≡ None → asked_behind said rs ≡ rs
unfolding asked_behind
behind_accepted None rs is = refl
behind_accepted (Some why) rs is = absurd cc

-- the replies so far begin those of a script
abbrev Told : Limits → Going → List Request → List Reply → Type 0
Told limits g block given = IsPrefix given (script_replies limits g block)

module _ (limits : Limits) (g : Going) (c : Request) (cs : List Request) where
  abbrev said : Option Refusal
  said = answer limits g.journal g.begun c

  abbrev next : Going
  next = line_going g c said

  told_first : (block : List Request) (reply : Reply) (given : List Reply) → Told limits g (c ∷ block) (reply ∷ given)
      → (reply ≡ line_reply g c said) × Told limits next block given
  unfolding script_replies
  told_first block reply given told =
      let whole : (reply ∷ (given ++ told.0)) ≡ line_reply g c said ∷ script_replies limits next block = told.1 in
      let one : reply ≡ line_reply g c said = cc in
      let others : given ++ told.0 ≡ script_replies limits next block = cc in
      (one, (told.0, others))

  up_to : up_to_refusal limits g (c ∷ cs) ≡ c ∷ asked_behind said (up_to_refusal limits next cs)
  unfolding up_to_refusal
  up_to = refl

  -- it was refused, and is the last
  refused_last : (block : List Request) (why : Refusal) (given : List Reply) → Told limits g (c ∷ block) (Refused why ∷ given) → c ∷ [] ≡ up_to_refusal limits g (c ∷ cs)
  refused_last block why given told =
      let w = refused_by g c said why (told_first block (Refused why) given told).0 in
      sym (up_to ∙ ap (λ rs. c ∷ rs) (behind_refused said w.0 (up_to_refusal limits next cs) w.1))

  -- it was accepted, and others come
  accepted_first : (block : List Request) (reply : Reply) (given : List Reply) → ((why : Refusal) → reply ≢ Refused why) → Told limits g (c ∷ block) (reply ∷ given)
      → up_to_refusal limits g (c ∷ cs) ≡ c ∷ up_to_refusal limits next cs
  accepted_first block reply given other told =
      up_to ∙ ap (λ rs. c ∷ rs) (behind_accepted said (up_to_refusal limits next cs) (accepted_by g c said reply other (told_first block reply given told).0))

-- all of them were asked, up to the first that was refused
module _ (limits : Limits) (g : Going) (c : Request) (cs : List Request) (a : Request) (block : List Request) (reply : Reply) (given : List Reply) (other : (why : Refusal) → reply ≢ Refused why)
    (same : a ≡ c) (told : Told limits g (a ∷ block) (reply ∷ given)) where
  abbrev behind : Going
  behind = line_going g c (answer limits g.journal g.begun c)

  here : Told limits g (c ∷ block) (reply ∷ given)
  here = subst (λ x. Told limits g (x ∷ block) (reply ∷ given)) same told

  told_behind : Told limits behind block given
  told_behind = (told_first limits g c cs block reply given here).1

  exact_more : block ≡ up_to_refusal limits behind cs → a ∷ block ≡ up_to_refusal limits g (c ∷ cs)
  exact_more is = ap (λ x. x ∷ block) same ∙ ap (λ rs. c ∷ rs) is ∙ sym (accepted_first limits g c cs block reply given other here)

  front_more : IsPrefix block (up_to_refusal limits behind cs) → IsPrefix (a ∷ block) (up_to_refusal limits g (c ∷ cs))
  front_more is = (is.0, ap (λ x. x ∷ (block ++ is.0)) same ∙ ap (λ rs. c ∷ rs) is.1 ∙ sym (accepted_first limits g c cs block reply given other here))

exact_asked : (limits : Limits) (g : Going) (commands block : List Request) (given : List Reply) → IsAsked false commands block given → Told limits g block given
    → block ≡ up_to_refusal limits g commands
exact_asked limits g [] [] given asked told = sym (up_to_none limits g)
exact_asked limits g [] (a ∷ block) given asked told = absurd asked
exact_asked limits g (c ∷ cs) [] given asked told = absurd (false≢true asked)
exact_asked limits g (c ∷ cs) (a ∷ block) [] asked told = absurd (false≢true asked.2)
exact_asked limits g (c ∷ cs) (a ∷ block) (Refused why ∷ given) asked told =
    let first : Told limits g (c ∷ block) (Refused why ∷ given) = subst (λ x. Told limits g (x ∷ block) (Refused why ∷ given)) asked.0 told in
    ap (λ x. x ∷ block) asked.0 ∙ ap (λ rs. c ∷ rs) asked.1 ∙ refused_last limits g c cs block why given first
exact_asked limits g (c ∷ cs) (a ∷ block) (Done ∷ given) asked told =
    exact_more limits g c cs a block Done given (λ why is. absurd cc) asked.0 told
    (exact_asked limits (line_going g c (answer limits g.journal g.begun c)) cs block given asked.1 (told_behind limits g c cs a block Done given (λ why is. absurd cc) asked.0 told))
exact_asked limits g (c ∷ cs) (a ∷ block) (Made holder key ∷ given) asked told =
    exact_more limits g c cs a block (Made holder key) given (λ why is. absurd cc) asked.0 told
    (exact_asked limits (line_going g c (answer limits g.journal g.begun c)) cs block given asked.1 (told_behind limits g c cs a block (Made holder key) given (λ why is. absurd cc) asked.0 told))

-- a front of these
front_asked : (limits : Limits) (g : Going) (commands block : List Request) (given : List Reply) → IsAsked true commands block given → Told limits g block given
    → IsPrefix block (up_to_refusal limits g commands)
front_asked limits g [] [] given asked told = subst (IsPrefix []) (sym (up_to_none limits g)) (prefix_same [])
front_asked limits g [] (a ∷ block) given asked told = absurd asked
front_asked limits g (c ∷ cs) [] given asked told = (up_to_refusal limits g (c ∷ cs), refl)
front_asked limits g (c ∷ cs) (a ∷ block) [] asked told =
    let more : List Request = asked_behind (answer limits g.journal g.begun c) (up_to_refusal limits (line_going g c (answer limits g.journal g.begun c)) cs) in
    (more, ap (λ x. x ∷ (block ++ more)) asked.0 ∙ ap (λ rs. c ∷ (rs ++ more)) asked.1 ∙ sym (up_to limits g c cs))
front_asked limits g (c ∷ cs) (a ∷ block) (Refused why ∷ given) asked told =
    let first : Told limits g (c ∷ block) (Refused why ∷ given) = subst (λ x. Told limits g (x ∷ block) (Refused why ∷ given)) asked.0 told in
    let whole : a ∷ block ≡ up_to_refusal limits g (c ∷ cs) = ap (λ x. x ∷ block) asked.0 ∙ ap (λ rs. c ∷ rs) asked.1 ∙ refused_last limits g c cs block why given first in
    subst (IsPrefix (a ∷ block)) whole (prefix_same (a ∷ block))
front_asked limits g (c ∷ cs) (a ∷ block) (Done ∷ given) asked told =
    front_more limits g c cs a block Done given (λ why is. absurd cc) asked.0 told
    (front_asked limits (line_going g c (answer limits g.journal g.begun c)) cs block given asked.1 (told_behind limits g c cs a block Done given (λ why is. absurd cc) asked.0 told))
front_asked limits g (c ∷ cs) (a ∷ block) (Made holder key ∷ given) asked told =
    front_more limits g c cs a block (Made holder key) given (λ why is. absurd cc) asked.0 told
    (front_asked limits (line_going g c (answer limits g.journal g.begun c)) cs block given asked.1 (told_behind limits g c cs a block (Made holder key) given (λ why is. absurd cc) asked.0 told))

-- what a line stands for in a journal
abbrev pub StandsThere : Journal → Task → List Request → Type 0
StandsThere m (Does r) commands = commands ≡ r ∷ []
StandsThere m (Replaces n) commands = commands ≡ stands_for (store_of m) n

pub exact_line : (limits : Limits) (g : Going) (task : Task) (commands block : List Request) (given : List Reply) → StandsThere g.journal task commands → IsAsked false commands block given
    → Told limits g block given → block ≡ asked_of limits g task
unfolding asked_of
exact_line limits g (Does r) commands block given stands asked told =
    exact_asked limits g commands block given asked told ∙ ap (λ rs. up_to_refusal limits g rs) stands ∙ up_to_one limits g r
exact_line limits g (Replaces n) commands block given stands asked told = exact_asked limits g commands block given asked told ∙ ap (λ rs. up_to_refusal limits g rs) stands

pub front_line : (limits : Limits) (g : Going) (task : Task) (commands block : List Request) (given : List Reply) → StandsThere g.journal task commands → IsAsked true commands block given
    → Told limits g block given → IsPrefix block (asked_of limits g task)
unfolding asked_of
front_line limits g (Does r) commands block given stands asked told =
    subst (IsPrefix block) (ap (λ rs. up_to_refusal limits g rs) stands ∙ up_to_one limits g r) (front_asked limits g commands block given asked told)
front_line limits g (Replaces n) commands block given stands asked told =
    subst (IsPrefix block) (ap (λ rs. up_to_refusal limits g rs) stands) (front_asked limits g commands block given asked told)

-- ---- a line more

pub stood_more : (cut : Bool) (limits : Limits) (g : Going) (ts : List Task) (bs : List (List Request)) (t : Task) (b : List Request) → StoodFor false limits g ts bs
    → StoodForLast cut b (asked_of limits (script_going limits g (commands_in bs)) t) → StoodFor cut limits g (ts ++ t ∷ []) (bs ++ b ∷ [])
unfolding script_going
stood_more cut limits g [] [] t b before last = last
stood_more cut limits g [] (c ∷ bs) t b before last = absurd before
stood_more cut limits g (u ∷ ts) [] t b before last = absurd before
stood_more cut limits g (u ∷ []) (c ∷ []) t b before last =
    (before, subst (λ rs. StoodForLast cut b (asked_of limits (script_going limits g rs) t)) (append-nil c) last)
stood_more cut limits g (u ∷ []) (c ∷ d ∷ bs) t b before last = absurd before
stood_more cut limits g (u ∷ v ∷ ts) (c ∷ []) t b before last = absurd before
stood_more cut limits g (u ∷ v ∷ ts) (c ∷ d ∷ bs) t b before last = (
  before.0,
  stood_more cut limits (script_going limits g c) (v ∷ ts) (d ∷ bs) t b before.1
      (subst (λ (h : Going). StoodForLast cut b (asked_of limits h t)) (going_append limits g c (commands_in (d ∷ bs))) last),
)

-- all of it is the first of it
pub stood_cut : (limits : Limits) (g : Going) (ts : List Task) (bs : List (List Request)) → StoodFor false limits g ts bs → StoodFor true limits g ts bs
stood_cut limits g [] [] stood = stood
stood_cut limits g [] (c ∷ bs) stood = stood
stood_cut limits g (u ∷ ts) [] stood = absurd stood
stood_cut limits g (u ∷ []) (c ∷ []) stood = subst (IsPrefix c) stood (prefix_same c)
stood_cut limits g (u ∷ []) (c ∷ d ∷ bs) stood = absurd stood
stood_cut limits g (u ∷ v ∷ ts) (c ∷ []) stood = absurd stood
stood_cut limits g (u ∷ v ∷ ts) (c ∷ d ∷ bs) stood = (stood.0, stood_cut limits (script_going limits g c) (v ∷ ts) (d ∷ bs) stood.1)

-- ---- sessions

-- so it is if more keys were drawn behind
pub stood_behind : (cut : Bool) (limits : Limits) (m : Journal) (drawn more : List (List ℕ)) (asked : List Request) (before after : List InputLine) (asks : Asks asked before after)
    → Stood cut limits m drawn asks → Stood cut limits m (drawn ++ more) asks
stood_behind cut limits m drawn more asked before after asks stood rest =
    subst (λ bytes. StoodFor cut limits (opened m bytes) asks.tasks asks.blocks) (sym (joined_more drawn more rest)) (stood (joined more ++ rest))

pub all_stood : (limits : Limits) (m : Journal) (drawn : List (List ℕ)) (asked : List Request) (before after : List InputLine) (asks : Asks asked before after)
    → Stood false limits m drawn asks → Stood true limits m drawn asks
all_stood limits m drawn asked before after asks stood rest = stood_cut limits (opened m (joined drawn ++ rest)) asks.tasks asks.blocks (stood rest)
