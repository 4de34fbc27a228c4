-- What an owner answers to commands, one after another, is what the session's script replies.
use Rattle.std.proofs.Common.{◌≡◌, ◌≤◌, ⊎_elim, inl, inr, ℕ, List, [], ◌∷◌, ◌++◌, drop, length, Option, Some, append_assoc, arith, refl, sym, ap, ◌∙◌}
use Rattle.std.specs.Prelude.{is_some}
use Rattle.batch_log.proofs.Moments.{goes_on_then}
use Rattle.commit_journal.specs.Holding.{GoesOn as TimeGoesOn}
use Rattle.std.proofs.lemmas.Grind.{flat_map-append}
use Rattle.std.proofs.lemmas.List.Elements.{All-append, All-nil}
use Rattle.cry_base.specs.Requests.{Request}
use Rattle.cry_base.specs.declared.commands.Reply.{Reply}
use Rattle.cry_base.specs.declared.limits.Limits.{Limits}
use Rattle.cry_io.specs.Told.{WhereBothTold}
use Rattle.cry_io.proofs.ToldLemmas.{both_told_through}
use Rattle.journal_bytes.specs.Script.{Going, answer, line_going, line_reply, script_going, script_replies}
use Rattle.cli_sessions.specs.OwnerSteps.{AnswersIn, Scene}
use Rattle.cli_sessions.specs.Script.{Answered}
use Rattle.cli_sessions.specs.Script.Answered.{Begun, Then}
use Rattle.cli_sessions.proofs.StopLemmas.{Stays, goes_grow, stays_begun, stays_on, time_still}
use Rattle.store_owner.specs.Drawing.{AreKeys, joined}
use Rattle.store_owner.specs.Sessions.{AnswersBehind, GoesOn, StandsAt, with_draws}
use Rattle.store_owner.specs.Stopping.{RestsAt}
use Rattle.store_owner.specs.Taking.{TakesKeys}
use Rattle.store_owner.specs.Tallied.{counted_in}
use Rattle.store_owner.proofs.OwnerGoesOn.{drops_more}
use Rattle.store_owner.proofs.Scripted.{answered_counting}
use Rattle.store_owner.proofs.Taken.{takes_more, takes_none}

-- one command more at the end of a script
pub going_more : (limits : Limits) (g : Going) (rs : List Request) (r : Request) → script_going limits g (rs ++ r ∷ [])
    ≡ line_going (script_going limits g rs) r (answer limits (script_going limits g rs).journal (script_going limits g rs).begun r)
unfolding script_going
going_more limits g [] r = refl
going_more limits g (first ∷ rs) r = going_more limits (line_going g first (answer limits g.journal g.begun first)) rs r

replies_more : (limits : Limits) (g : Going) (rs : List Request) (r : Request) → script_replies limits g (rs ++ r ∷ [])
    ≡ script_replies limits g rs ++ line_reply (script_going limits g rs) r (answer limits (script_going limits g rs).journal (script_going limits g rs).begun r) ∷ []
unfolding script_going script_replies
replies_more limits g [] r = refl
replies_more limits g (first ∷ rs) r =
    ap (λ replies. line_reply g first (answer limits g.journal g.begun first) ∷ replies) (replies_more limits (line_going g first (answer limits g.journal g.begun first)) rs r)

pub joined_more : (first more : List (List ℕ)) (rest : List ℕ) → joined (first ++ more) ++ rest ≡ joined first ++ (joined more ++ rest)
joined_more first more rest = ap (λ bytes. bytes ++ rest) (flat_map-append (λ (key : List ℕ). key) first more) ∙ append_assoc (joined first) (joined more) rest

abbrev pub IsScene : Limits → List ℕ → Going → Scene → Type 0
IsScene limits key g x = StandsAt limits key g x.owner x.shown

-- the session goes from g to h by these commands, with these replies and the keys that were drawn for them
pub record Goes (limits : Limits) (g : Going) (asked : List Request) (given : List Reply) (h : Going) (left_before left_after : Option (List ℕ)) : Type 0 where
  pub drawn : List (List ℕ)
  pub drawn_sizes : AreKeys drawn
  pub next_bytes : WhereBothTold left_before left_after (λ x y. x ≡ joined drawn ++ y)
  pub goes : (rest : List ℕ) → script_going limits (with_draws g (joined drawn ++ rest)) asked ≡ with_draws h rest
  pub replied : (rest : List ℕ) → script_replies limits (with_draws g (joined drawn ++ rest)) asked ≡ given

same_told : (told : Option (List ℕ)) (x y : List ℕ) → told ≡ Some x → told ≡ Some y → x ≡ y
same_told told x y one other = let both = sym one ∙ other in cc

pub goes_nowhere : (limits : Limits) (g : Going) (left : Option (List ℕ)) → Goes limits g [] [] g left left
unfolding script_going script_replies
goes_nowhere limits g left = record {
  drawn = [];
  drawn_sizes = All-nil (λ (key : List ℕ). length key ≡ 32);
  next_bytes = λ x y was now. same_told left x y was now;
  goes = λ rest. refl;
  replied = λ rest. refl;
}

pub goes_further : (limits : Limits) (g h k : Going) (rs : List Request) (given : List Reply) (r : Request) (reply : Reply) (first middle last : Option (List ℕ))
    → is_some middle ≡ is_some first → Goes limits g rs given h first middle → GoesOn limits h k r reply middle last
    → Goes limits g (rs ++ r ∷ []) (given ++ reply ∷ []) k first last
goes_further limits g h k rs given r reply first middle last told some more = record {
  drawn = some.drawn ++ more.drawn;
  drawn_sizes = All-append (λ (key : List ℕ). length key ≡ 32) some.drawn more.drawn some.drawn_sizes more.drawn_sizes;
  next_bytes = both_told_through first middle last (λ x y. x ≡ joined some.drawn ++ y) (λ y z. y ≡ joined more.drawn ++ z) (λ x z. x ≡ joined (some.drawn ++ more.drawn) ++ z)
      told some.next_bytes more.next_bytes
      (λ x y z here then. here ∙ ap (λ rest. joined some.drawn ++ rest) then ∙ sym (joined_more some.drawn more.drawn z));
  goes = λ rest.
      ap (λ bytes. script_going limits (with_draws g bytes) (rs ++ r ∷ [])) (joined_more some.drawn more.drawn rest)
      ∙ going_more limits (with_draws g (joined some.drawn ++ (joined more.drawn ++ rest))) rs r
      ∙ ap (λ (at : Going). line_going at r (answer limits at.journal at.begun r)) (some.goes (joined more.drawn ++ rest))
      ∙ more.goes rest;
  replied = λ rest.
      let here = with_draws g (joined some.drawn ++ (joined more.drawn ++ rest)) in
      ap (λ bytes. script_replies limits (with_draws g bytes) (rs ++ r ∷ [])) (joined_more some.drawn more.drawn rest)
      ∙ replies_more limits here rs r
      ∙ ap (λ (at : Going). script_replies limits here rs ++ line_reply at r (answer limits at.journal at.begun r) ∷ []) (some.goes (joined more.drawn ++ rest))
      ∙ ap (λ replies. replies ++ line_reply (with_draws h (joined more.drawn ++ rest)) r (answer limits h.journal h.begun r) ∷ []) (some.replied (joined more.drawn ++ rest))
      ∙ ap (λ last. given ++ last ∷ []) (more.replied rest);
}

pub goes_drawn : (limits : Limits) (g h k : Going) (rs : List Request) (given : List Reply) (r : Request) (reply : Reply) (first middle last : Option (List ℕ))
    → (told : is_some middle ≡ is_some first) (some : Goes limits g rs given h first middle) (more : GoesOn limits h k r reply middle last)
    → (goes_further limits g h k rs given r reply first middle last told some more).drawn ≡ some.drawn ++ more.drawn
unfolding goes_further
goes_drawn limits g h k rs given r reply first middle last told some more = refl

module _ (X : Type 0) (scene : X → Scene) (leaves : X → List ℕ → Type 0) (since : X → ℕ → List ℕ → List ℕ → Type 0) (Step : X → Request → Reply → X → Type 0)
    (is : (x : X) (r : Request) (reply : Reply) (y : X) → Step x r reply y → AnswersIn (scene x) r reply (scene y) (leaves x) (leaves y) (since x) (since y)) (start : X) where
  -- the counts of faults never fall
  pub counts_rise : (asked : List Request) (given : List Reply) (end : X) → Answered Step start asked given end
      → ((scene start).random_faults ≤ (scene end).random_faults) × ((scene start).disk_faults ≤ (scene end).disk_faults)
  counts_rise asked given end Begun = (omega arith, omega arith)
  counts_rise asked given end (Then {asked = rs} {replies = told} {x = x} {y = y} {request = r} {reply = reply} before step) =
      let so_far = counts_rise rs told x before in
      let one = is x r reply y step in
      (omega (arith, so_far.0, one.random_counts), omega (arith, so_far.1, one.disk_counts))

  -- and what is told stays told
  pub told_stays : (asked : List Request) (given : List Reply) (end : X) → Answered Step start asked given end
      → (is_some (scene end).left ≡ is_some (scene start).left) × (is_some (scene end).shown ≡ is_some (scene start).shown)
  told_stays asked given end Begun = (refl, refl)
  told_stays asked given end (Then {asked = rs} {replies = told} {x = x} {y = y} {request = r} {reply = reply} before step) =
      let so_far = told_stays rs told x before in
      let one = is x r reply y step in
      (one.left_told ∙ so_far.0, one.shown_told ∙ so_far.1)

  -- the owner's key stays
  pub key_stays : (asked : List Request) (given : List Reply) (end : X) → Answered Step start asked given end → (scene end).owner.key ≡ (scene start).owner.key
  key_stays asked given end Begun = refl
  key_stays asked given end (Then {asked = rs} {replies = told} {x = x} {y = y} {request = r} {reply = reply} before step) =
      (is x r reply y step).same_key ∙ key_stays rs told x before

  -- and whole keys are taken of the random source
  pub keys_taken : (asked : List Request) (given : List Reply) (end : X) → Answered Step start asked given end → TakesKeys (scene start).left (scene end).left
  keys_taken asked given end Begun = takes_none (scene start).left
  keys_taken asked given end (Then {asked = rs} {replies = told} {x = x} {y = y} {request = r} {reply = reply} before step) =
      takes_more (scene start).left (scene x).left (scene y).left (told_stays rs told x before).0 (keys_taken rs told x before) (is x r reply y step).draws

  -- what is so at a start: since this moment there is no other
  abbrev pub IsNow : Type 0
  IsNow = (s c : List ℕ) → since start (scene start).moment s c → ((scene start).shown ≡ Some s) × leaves start c

  -- and the moment is one since an earlier one
  abbrev pub CountsNow : Type 0
  CountsNow = (t : ℕ) (s c : List ℕ) → t ≤ (scene start).moment → (scene start).shown ≡ Some s → leaves start c → since start t s c

  -- time goes on
  pub time_goes : IsNow → CountsNow → (asked : List Request) (given : List Reply) (end : X) → Answered Step start asked given end
      → ((scene start).moment ≤ (scene end).moment) × TimeGoesOn (scene start).moment (since start) (since end)
  time_goes now counts asked given end Begun = (omega arith, time_still (scene start).moment (since start) (scene start).shown (leaves start) now counts)
  time_goes now counts asked given end (Then {asked = rs} {replies = told} {x = x} {y = y} {request = r} {reply = reply} before step) =
      let so_far = time_goes now counts rs told x before in
      let one = is x r reply y step in
      (omega (arith, so_far.0, one.later), goes_on_then (scene start).moment (scene x).moment (since start) (since x) (since y) so_far.0 so_far.1 one.time)

  -- the session goes so, and stands where the owner does; what stands behind the log stays, and all that is shown where the journal grew
  -- no longer; the disk rests there, if it rested at the start; and the owner counted all of its journal, if so it was at the start
  pub answered_script : (limits : Limits) (key : List ℕ) (g : Going) → IsScene limits key g (scene start) → IsNow → RestsAt key g.journal (scene start).shown (leaves start)
      → (asked : List Request) (given : List Reply) (end : X)
      → Answered Step start asked given end → (h : Going) × Goes limits g asked given h (scene start).left (scene end).left × IsScene limits key h (scene end)
      × AnswersBehind g h (scene start).owner (scene end).owner (scene start).shown (scene end).shown
      × Stays key g.journal h.journal (scene start).moment (scene end).moment (scene start).shown (scene end).shown (leaves end) (since end)
      × ((scene start).owner.tally ≡ counted_in g.journal → (scene end).owner.tally ≡ counted_in h.journal)
  answered_script limits key g stands now rests asked given end Begun = (
    g,
    goes_nowhere limits g (scene start).left,
    stands,
    record {
      behind = λ x y e f. let one : y ≡ x = cc in ap (λ b. drop (scene start).owner.journal.end b) one;
      further = omega arith;
      no_shorter = omega arith;
      unchanged = inl refl;
    },
    stays_begun key g.journal (scene start).moment (scene start).shown (leaves start) (since start) now rests,
    λ all. all,
  )
  answered_script limits key g stands now rests asked given end (Then {asked = rs} {replies = told} {x = x} {y = y} {request = r} {reply = reply} before step) =
      let so_far = answered_script limits key g stands now rests rs told x before in
      let h : Going = so_far.0 in
      let there = so_far.2 in
      let tail = so_far.3 in
      let one = is x r reply y step in
      let more = answered_counting limits key h r reply (scene x).owner (scene y).owner (scene x).left (scene y).left (scene x).shown (scene y).shown
      (leaves x) (leaves y) (since y (scene x).moment) there (one.answers h.journal there.owner_is) one.shown_told one.kept in
      let next = more.3 in (
        more.0,
        goes_further limits g h more.0 rs told r reply (scene start).left (scene x).left (scene y).left (told_stays rs told x before).0 so_far.1 more.1,
        more.2,
        record {
          behind = λ a c e f. next.behind there.disk_stands.0 c there.disk_stands.1 f
              ∙ drops_more (scene x).owner.journal.end (scene y).owner.journal.end a there.disk_stands.0 next.further (tail.behind a there.disk_stands.0 e there.disk_stands.1);
          further = omega (arith, tail.further, next.further);
          no_shorter = omega (arith, tail.no_shorter, next.no_shorter);
          unchanged = ⊎_elim
              (λ (same : (scene y).shown ≡ (scene x).shown). ⊎_elim (λ first. inl (same ∙ first)) (λ longer. inr (omega (arith, longer, next.no_shorter))) tail.unchanged)
              (λ longer. inr (omega (arith, longer, tail.no_shorter))) next.unchanged;
        },
        stays_on key g.journal h.journal more.0.journal (scene start).moment (scene x).moment (scene y).moment (scene start).shown (scene x).shown (scene y).shown (leaves x) (leaves y) (since x) (since y)
            so_far.4 (goes_grow limits h more.0 r (joined more.1.drawn ++ []) [] (more.1.goes [])) more.4 one.later one.time,
        λ all. more.5 one.counted (so_far.5 all),
      )
