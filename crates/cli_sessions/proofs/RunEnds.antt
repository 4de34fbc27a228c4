-- How the lines of a run end, on a disk that shows a journal.
use Rattle.std.proofs.Common.{◌≡◌, ◌≢◌, ⊎_elim, ℕ, Bool, true, false, cond, drop, List, [], ◌∷◌, ◌++◌, length, length-append, ◌+◌, ◌*◌, Option, Some, None, Result, Ok, Err, inr, append_assoc, arith, refl, sym, ap, subst, ◌∙◌}
use Rattle.std.specs.Prelude.{is_some}
use Rattle.std.proofs.lemmas.Bool.{false≢true}
use Rattle.std.proofs.lemmas.List.{append-nil}
use Rattle.commit_journal.specs.Holding.{IsPrefix}
use Rattle.commit_journal.proofs.KeptLemmas.{prefix_same}
use Rattle.cry_base.specs.Requests.{Request}
use Rattle.cry_base.specs.declared.commands.Reply.{Reply}
use Rattle.cry_base.specs.declared.limits.Limits.{Limits}
use Rattle.cry_io.specs.Stops.{IsDurable}
use Rattle.cry_io.specs.Told.{WhereBothTold}
use Rattle.cry_io.proofs.ToldLemmas.{both_told_through}
use Rattle.journal_bytes.specs.Bytes.{image_of}
use Rattle.journal_bytes.specs.Script.{Going, answer, draws_of, journal_then, opened}
use Rattle.group_book.specs.Asked.{StoodFor}
use Rattle.script_text.specs.Tasks.{Task}
use Rattle.cli_sessions.specs.Sessions.{HasApplied, IsStop, StopsApplying, Ends, HasRun, KeepsBehind, KeepsFrom, LeavesAt, PrintsThese, RanCut, RanShort, RanTo, RanUndrawn, RanUnwritten, Seen, SessionOver, Stood as StoodSo, ended_status, script_status}
use Rattle.cli_base.specs.Lines.{InputLine, LineState, lines_ahead}
use Rattle.cli_sessions.specs.OwnerSteps.{AnswersIn, FailsIn, Scene, StandsIn}
use Rattle.cli_sessions.specs.Script.{Answered, AskThese, Asks, Blocks, EndsIn, IsBadFirst, PrintsCut, Ran, answered_in, commands_in, spell_replies}
use Rattle.cli_sessions.specs.Stopping.{LinesKeepUpTo}
use Rattle.cli_sessions.specs.declared.script.ScriptFault.{ScriptFault}
use Rattle.cli_sessions.specs.declared.script.ScriptFault.TheVariants.{BadLine, ReadFault, WriteFault, OutOfMemory, Applying}
use Rattle.cli_sessions.proofs.AnsweredScripts.{IsNow, IsScene, joined_more}
use Rattle.cli_sessions.proofs.FewerLines.{asks_fewer, lines_counted}
use Rattle.cli_sessions.proofs.LineScripts.{Reached, StoodBy, blocks_reach, commands_more, ends_reach}
use Rattle.cli_sessions.proofs.OwnerEnds.{owner_end}
use Rattle.cli_sessions.proofs.StopLemmas.{Stays, rests_settled, stays_on, stops_on}
use Rattle.cli_sessions.proofs.ScriptLemmas.{asks_none, whole_is_cut}
use Rattle.cli_sessions.proofs.StoodLemmas.{stood_cut}
use Rattle.public_fold.specs.Journal.{Journal}
use Rattle.public_fold.specs.Journal.Entry.{Session, Did}
use Rattle.store_owner.proofs.OwnerGoesOn.{drops_more}
use Rattle.store_owner.specs.Deeds.Deed.{Commanded}
use Rattle.store_owner.specs.Stopping.{ComesToRest, RestsAt, StopsBetween}
use Rattle.store_owner.specs.Applying.{Answers}
use Rattle.store_owner.specs.Drawing.{joined}
use Rattle.store_owner.specs.Owned.{IsOwnerOf, OwnerView, limits_in}
use Rattle.store_owner.specs.Tallied.{counted_in, tally_in, tally_of}
use Rattle.store_owner.specs.declared.apply_fault.ApplyFault.{ApplyFault}
use Rattle.store_owner.specs.declared.apply_fault.ApplyFault.TheVariants as faults

pub still_told : (after before : Option (List ℕ)) (x : List ℕ) → is_some after ≡ is_some before → before ≡ Some x → (y : List ℕ) × (after ≡ Some y)
still_told (Some y) before x same e = (y, refl)
still_told None before x same e = absurd (false≢true (same ∙ ap is_some e))

-- where the log of an owner ends
end_at : (limits : Limits) (key : List ℕ) (g : Going) (x : Scene) → IsScene limits key g x → x.owner.journal.end ≡ length (image_of key g.journal) + 1
end_at limits key g x stands = owner_end key g.journal x.owner stands.has_key stands.owner_is

pub accepted_there : (limits : Limits) (key : List ℕ) (g : Going) (x : Scene) (r : Request) → IsScene limits key g x
    → answer (limits_in x.owner) g.journal x.owner.journal.has_epoch r ≡ None → answer limits g.journal g.begun r ≡ None
accepted_there limits key g x r stands e =
    subst (λ (l : Limits). answer l g.journal g.begun r ≡ None) stands.has_limits (subst (λ b. answer (limits_in x.owner) g.journal b r ≡ None) stands.has_begun e)

-- the figures of an owner who counted all of a journal are the journal's
abbrev pub TallyTold : Type 0
TallyTold = (m : Journal) (o : OwnerView) → IsOwnerOf m o → o.tally ≡ counted_in m → tally_in o ≡ tally_of m

-- a stop leaves what is shown, unless the last command met a fault of the disk
abbrev pub IsCalm : (List ℕ → Type 0) → Option (List ℕ) → Result (Unit {0}) ScriptFault → Type 0
IsCalm may_leave shown (Err (Applying faults.DiskFault)) = Unit {0}
IsCalm may_leave shown result = IsDurable may_leave shown

-- what was asked is the same, and the last command too
last_same : (xs ys : List Request) (x y : Request) → xs ++ x ∷ [] ≡ ys ++ y ∷ [] → (xs ≡ ys) × (x ≡ y)
last_same [] [] x y is = (refl, cc)
last_same [] (b ∷ ys) x y is =
    let none : [] ≡ ys ++ y ∷ [] = cc in
    absurd (omega (arith, ap length none, length-append ys (y ∷ [])))
last_same (a ∷ xs) [] x y is =
    let none : xs ++ x ∷ [] ≡ [] = cc in
    absurd (omega (arith, ap length none, length-append xs (x ∷ [])))
last_same (a ∷ xs) (b ∷ ys) x y is =
    let first : a ≡ b = cc in
    let others : xs ++ x ∷ [] ≡ ys ++ y ∷ [] = cc in
    let rest = last_same xs ys x y others in
    (ap (λ c. c ∷ xs) first ∙ ap (λ rs. b ∷ rs) rest.0, rest.1)

module _ (X : Type 0) (scene : X → Scene) (leaves : X → List ℕ → Type 0) (since : X → ℕ → List ℕ → List ℕ → Type 0)
    (Step : X → Request → Reply → X → Type 0) (Fails : X → Request → ApplyFault → X → Type 0) (Stand : X → ℕ → List Request → Type 0)
    (so : (x : X) (n : ℕ) (commands : List Request) → Stand x n commands → StandsIn (scene x).owner n commands)
    (is : (x : X) (r : Request) (reply : Reply) (y : X) → Step x r reply y → AnswersIn (scene x) r reply (scene y) (leaves x) (leaves y) (since x) (since y))
    (fails : (x : X) (r : Request) (fault : ApplyFault) (y : X) → Fails x r fault y → FailsIn (scene x) r fault (scene y) (leaves x) (leaves y) (since x) (since y))
    (limits : Limits) (key : List ℕ) (m : Journal) (start end : X) (stands : IsScene limits key (opened m []) (scene start))
    (at_first : IsNow X scene leaves since Step is start) (rests_first : RestsAt key m (scene start).shown (leaves start))
    (first_shown : Option (List ℕ)) (first_kept : KeepsFrom (length (image_of key m)) first_shown (scene start).shown)
    (old new : LineState) (left_before left_after out_before out_after : Option (List ℕ)) (b a : List ℕ) (was : left_before ≡ Some b) (now : left_after ≡ Some a) where
  abbrev HasRan : Result (Unit {0}) ScriptFault → Type 0
  HasRan result = Ran Step Fails Stand result start end old new left_before left_after out_before out_after

  abbrev ended : Seen
  ended = record {
    left_before = (scene start).left;
    left_after = (scene end).left;
    was = first_shown;
    shown = (scene end).shown;
    written_before = out_before;
    written_after = out_after;
  }

  abbrev Calm : Type 0
  Calm = IsDurable (leaves end) (scene end).shown

  -- the journals up to which the lines kept what they found
  abbrev KeepsTo : Journal → Type 0
  KeepsTo = LinesKeepUpTo key m (scene start).shown (scene end).shown (since end (scene start).moment)

  abbrev StaysAt : Journal → X → Type 0
  StaysAt j x = Stays key m j (scene start).moment (scene x).moment (scene start).shown (scene x).shown (leaves x) (since x)

  -- where the session stands once this was answered
  pub record StandsThere (cut : Bool) (tasks : List Task) (blocks : List (List Request)) (asked : List Request) (given : List Reply) (x : X) : Type 0 where
    pub at : Going
    pub session : SessionOver limits m asked
    pub same_now : session.now ≡ at.journal
    pub same_begun : session.begun ≡ at.begun
    pub same_replies : session.replies ≡ given
    pub drew : WhereBothTold (scene start).left (scene x).left (λ y z. y ≡ joined session.drawn ++ z)
    pub there : IsScene limits key at (scene x)
    pub keeps : KeepsBehind key m session.now first_shown (scene x).shown
    pub left_told : is_some (scene x).left ≡ is_some (scene start).left
    pub stays : StaysAt session.now x
    pub counted : (scene start).owner.tally ≡ counted_in m → (scene x).owner.tally ≡ counted_in session.now
    pub stood : (rest : List ℕ) → StoodFor cut limits (opened m (joined session.drawn ++ rest)) tasks blocks

  rests_opened : RestsAt key (opened m []).journal (scene start).shown (leaves start)
  unfolding opened
  rests_opened = rests_first

  -- by the answers alone
  abbrev Reach : List Request → List Reply → X → Type 0
  Reach asked given x = Reached X scene leaves since Step Fails is start limits key (opened m []) stands at_first rests_opened asked given x

  abbrev Stood : Bool → {asked : List Request} {given : List Reply} {x : X} → Reach asked given x → List Task → List (List Request) → Type 0
  Stood cut reached tasks blocks = StoodBy X scene leaves since Step Fails is start limits key (opened m []) stands at_first rests_opened cut reached tasks blocks

  stands_there : (cut : Bool) (tasks : List Task) (blocks : List (List Request)) (asked : List Request) (given : List Reply) (x : X)
      → (reached : Reach asked given x) × Stood cut reached tasks blocks → StandsThere cut tasks blocks asked given x
  unfolding opened
  stands_there cut tasks blocks asked given x by =
      let reached = by.0 in
      let went = reached.went in
      let g : Going = reached.at in
      let there = reached.there in
      let tail = reached.tail in
      let n = length (image_of key m) in
      let log_end = end_at limits key g (scene x) there in
      let began = end_at limits key (opened m []) (scene start) stands in
      record {
        at = g;
        session = record {
          drawn = went.drawn;
          drawn_sizes = went.drawn_sizes;
          replies = given;
          now = g.journal;
          begun = g.begun;
          goes = went.goes;
          replied = went.replied;
        };
        same_now = refl;
        same_begun = refl;
        same_replies = refl;
        drew = went.next_bytes;
        there = there;
        keeps = record {
          behind = λ c y e f.
              let s = stands.disk_stands.0 in
              subst (λ k. drop k y ≡ drop k c) log_end
              (tail.behind s y stands.disk_stands.1 f ∙ drops_more n (scene x).owner.journal.end c s (omega (arith, began, tail.further)) (first_kept c s e stands.disk_stands.1));
          unchanged = λ same.
              let long = ap (λ (j : Journal). length j) same in
              ⊎_elim
              (λ (shown : (scene x).shown ≡ (scene start).shown). subst (λ o. KeepsFrom n first_shown o) (sym shown) first_kept)
              (λ longer. absurd (let none : ⊥ = omega (arith, longer, long) in none)) tail.unchanged;
        };
        left_told = reached.left_told;
        stays = reached.stays;
        counted = reached.counted;
        stood = by.1;
      }

  -- all lines were answered that were begun
  all_there : (tasks : List Task) (blocks : List (List Request)) (asked : List Request) (given : List Reply) → asked ≡ commands_in blocks → Blocks Step Fails Stand start tasks blocks given end
      → StandsThere false tasks blocks asked given end
  all_there tasks blocks asked given are lines =
      stands_there false tasks blocks asked given end
      (subst (λ rs. (reached : Reach rs given end) × Stood false reached tasks blocks) (sym are)
      (blocks_reach X scene leaves since Step Fails is start limits key (opened m []) stands at_first rests_opened Stand so tasks blocks given end lines))

  -- of the last one the first commands were
  last_there : (result : Result (Unit {0}) ScriptFault) (tasks : List Task) (blocks : List (List Request)) (given : List Reply) (ends : EndsIn Step Fails Stand result start tasks blocks given end)
      → (first others : List Request) → ends.block ≡ first ++ others → (y : X) → Answered Step ends.x first ends.some y
      → (asked : List Request) → asked ≡ commands_in ends.first_blocks ++ first → StandsThere true tasks blocks asked given y
  last_there result tasks blocks given ends first others whole y answered asked are =
      stands_there true tasks blocks asked given y
      (subst (λ ts. (reached : Reach asked given y) × Stood true reached ts blocks) (sym ends.tasks_are)
      (subst (λ bs. (reached : Reach asked given y) × Stood true reached (ends.first_tasks ++ ends.task ∷ []) bs) (sym ends.blocks_are)
      (subst (λ gs. (reached : Reach asked gs y) × Stood true reached (ends.first_tasks ++ ends.task ∷ []) (ends.first_blocks ++ ends.block ∷ [])) (sym ends.replies_are)
      (subst (λ rs. (reached : Reach rs (ends.first_replies ++ ends.some) y) × Stood true reached (ends.first_tasks ++ ends.task ∷ []) (ends.first_blocks ++ ends.block ∷ [])) (sym are)
      (ends_reach X scene leaves since Step Fails is start limits key (opened m []) stands at_first rests_opened Stand so ends.first_tasks ends.first_blocks ends.first_replies ends.x ends.first
      ends.task ends.last.commands ends.block ends.some ends.last.stands_for ends.last.asked first others whole y answered)))))

  -- the last one was answered to its end, or as far as it was asked
  cut_there : (result : Result (Unit {0}) ScriptFault) (tasks : List Task) (blocks : List (List Request)) (asked : List Request) (given : List Reply)
      → asked ≡ commands_in blocks → (ends : EndsIn Step Fails Stand result start tasks blocks given end) → Answered Step ends.x ends.block ends.some end
      → StandsThere true tasks blocks asked given end
  cut_there result tasks blocks asked given are ends answered =
      last_there result tasks blocks given ends ends.block [] (sym (append-nil ends.block)) end answered asked
      (are ∙ ap commands_in ends.blocks_are ∙ commands_more ends.first_blocks ends.block)

  stood_in : (cut : Bool) (drawn : List (List ℕ)) (tasks : List Task) (blocks : List (List Request)) (asked : List Request) (before after : List InputLine)
      → (these : AskThese tasks blocks asked before after) → ((rest : List ℕ) → StoodFor cut limits (opened m (joined drawn ++ rest)) tasks blocks)
      → StoodSo cut limits m drawn these.0
  stood_in cut drawn tasks blocks asked before after these stood rest =
      subst (λ ts. StoodFor cut limits (opened m (joined drawn ++ rest)) ts these.0.blocks) (sym these.1)
      (subst (λ bs. StoodFor cut limits (opened m (joined drawn ++ rest)) tasks bs) (sym these.2) (stood rest))

  leaves_settled : (cut : Bool) (tasks : List Task) (blocks : List (List Request)) (asked : List Request) (given : List Reply) (s : StandsThere cut tasks blocks asked given end) → Calm → LeavesAt key m s.session.now ended (leaves end)
  leaves_settled cut tasks blocks asked given s calm = record {
    settled = rests_settled key s.session.now (scene end).shown (leaves end) s.stays.rests;
    none_pending = calm;
    keeps = s.keeps;
  }

  kept_to : (cut : Bool) (tasks : List Task) (blocks : List (List Request)) (asked : List Request) (given : List Reply) (s : StandsThere cut tasks blocks asked given end) → KeepsTo s.session.now
  kept_to cut tasks blocks asked given s = record { grown = s.stays.grown; kept = s.stays.kept; hands = s.stays.hands }

  printed : (cut : Bool) (tasks : List Task) (blocks : List (List Request)) (asked : List Request) (given : List Reply) (x : X) (s : StandsThere cut tasks blocks asked given x) → WhereBothTold out_before out_after (λ y z. z ≡ y ++ spell_replies given)
      → PrintsThese s.session.replies ended
  printed cut tasks blocks asked given x s prints = subst (λ (rs : List Reply). PrintsThese rs ended) (sym s.same_replies) prints

  pub ran_all : HasRan (Ok tt) → Calm → HasRun limits key m (lines_ahead old b) [] ended (leaves end) KeepsTo
  ran_all ran calm =
      let went = ran.went in
      let s = all_there went.tasks went.blocks went.asked went.replies went.asked_are went.by_lines in
      let these = (ran.lines b a was now).0 in
      record {
        asked = went.asked;
        asks = these.0;
        session = s.session;
        stood = stood_in false s.session.drawn went.tasks went.blocks went.asked (lines_ahead old b) [] these s.stood;
        draws = s.drew;
        leaves = leaves_settled false went.tasks went.blocks went.asked went.replies s calm;
        kept = kept_to false went.tasks went.blocks went.asked went.replies s;
        prints = printed false went.tasks went.blocks went.asked went.replies end s ran.printed;
      }

  pub ran_to_bad : (line : ℕ) → HasRan (Err (BadLine line)) → old.given ≡ 1 → Calm
      → (rest : List InputLine) × IsBadFirst rest × (run : HasRun limits key m (lines_ahead old b) rest ended (leaves end) KeepsTo) × (line ≡ length run.asks.lines + 2)
  ran_to_bad line ran first calm =
      let went = ran.went in
      let s = all_there went.tasks went.blocks went.asked went.replies went.asked_are went.by_lines in
      let taken = ran.lines b a was now in
      let count = lines_counted went.tasks went.blocks went.asked (lines_ahead old b) taken.0 taken.1 in (
        taken.0,
        taken.2,
        record {
          asked = went.asked;
          asks = taken.1.0;
          session = s.session;
          stood = stood_in false s.session.drawn went.tasks went.blocks went.asked (lines_ahead old b) taken.0 taken.1 s.stood;
          draws = s.drew;
          leaves = leaves_settled false went.tasks went.blocks went.asked went.replies s calm;
          kept = kept_to false went.tasks went.blocks went.asked went.replies s;
          prints = printed false went.tasks went.blocks went.asked went.replies end s ran.printed;
        },
        omega (arith, ran.number, first, count),
      )

  pub ran_to_fault : HasRan (Err ReadFault) → Calm → (rest : List InputLine) × HasRun limits key m (lines_ahead old b) rest ended (leaves end) KeepsTo
  ran_to_fault ran calm =
      let went = ran.went in
      let s = all_there went.tasks went.blocks went.asked went.replies went.asked_are went.by_lines in
      let these = ran.lines b a was now in (
        lines_ahead new a,
        record {
          asked = went.asked;
          asks = these.0;
          session = s.session;
          stood = stood_in false s.session.drawn went.tasks went.blocks went.asked (lines_ahead old b) (lines_ahead new a) these s.stood;
          draws = s.drew;
          leaves = leaves_settled false went.tasks went.blocks went.asked went.replies s calm;
          kept = kept_to false went.tasks went.blocks went.asked went.replies s;
          prints = printed false went.tasks went.blocks went.asked went.replies end s ran.printed;
        },
      )

  -- nothing was asked
  pub ran_none : Blocks Step Fails Stand start [] [] [] end → WhereBothTold out_before out_after (λ y z. z ≡ y ++ spell_replies []) → Calm → (lines : List InputLine)
      → (run : HasRun limits key m lines lines ended (leaves end) KeepsTo) × (run.asked ≡ [])
  ran_none answered prints calm lines =
      let s = all_there [] [] [] [] refl answered in
      let these = asks_none lines in (
        record {
          asked = [];
          asks = these.0;
          session = s.session;
          stood = stood_in false s.session.drawn [] [] [] lines lines these s.stood;
          draws = s.drew;
          leaves = leaves_settled false [] [] [] [] s calm;
          kept = kept_to false [] [] [] [] s;
          prints = printed false [] [] [] [] end s prints;
        },
        refl,
      )

  cut_prints : (cut : Bool) (tasks : List Task) (blocks : List (List Request)) (asked : List Request) (given : List Reply) (x : X) (s : StandsThere cut tasks blocks asked given x) → WhereBothTold out_before out_after (PrintsCut given)
      → WhereBothTold out_before out_after (PrintsCut s.session.replies)
  cut_prints cut tasks blocks asked given x s prints = λ y z before after. subst (λ rs. PrintsCut rs y z) (sym s.same_replies) (prints y z before after)

  pub ran_cut : HasRan (Err WriteFault) → Calm → RanCut limits key m (lines_ahead old b) ended (leaves end) KeepsTo
  ran_cut ran calm =
      let went = ran.went in
      let s = cut_there (Err WriteFault) went.tasks went.blocks went.asked went.replies went.asked_are went.by_lines went.by_lines.last.stands in
      let these = ran.lines b a was now in
      record {
        asked = went.asked;
        rest = lines_ahead new a;
        asks = these.0;
        session = s.session;
        stood = stood_in true s.session.drawn went.tasks went.blocks went.asked (lines_ahead old b) (lines_ahead new a) these s.stood;
        draws = s.drew;
        leaves = leaves_settled true went.tasks went.blocks went.asked went.replies s calm;
        kept = kept_to true went.tasks went.blocks went.asked went.replies s;
        prints = cut_prints true went.tasks went.blocks went.asked went.replies end s ran.printed;
      }

  -- where all lines were answered that were begun, the last one was too
  cut_all : (tasks : List Task) (blocks : List (List Request)) (asked : List Request) (given : List Reply) → StandsThere false tasks blocks asked given end → StandsThere true tasks blocks asked given end
  cut_all tasks blocks asked given s = record {
    at = s.at;
    session = s.session;
    same_now = s.same_now;
    same_begun = s.same_begun;
    same_replies = s.same_replies;
    drew = s.drew;
    there = s.there;
    keeps = s.keeps;
    left_told = s.left_told;
    stays = s.stays;
    counted = s.counted;
    stood = λ rest. stood_cut limits (opened m (joined s.session.drawn ++ rest)) tasks blocks (s.stood rest);
  }

  pub ran_out : HasRan (Err OutOfMemory) → Calm → RanCut limits key m (lines_ahead old b) ended (leaves end) KeepsTo
  ran_out ran calm =
      let went = ran.went in
      let s : StandsThere true went.tasks went.blocks went.asked went.replies end =
      ⊎_elim (λ all. cut_all went.tasks went.blocks went.asked went.replies (all_there went.tasks went.blocks went.asked went.replies went.asked_are all))
      (λ (ends : EndsIn Step Fails Stand (Err OutOfMemory) start went.tasks went.blocks went.replies end).
      cut_there (Err OutOfMemory) went.tasks went.blocks went.asked went.replies went.asked_are ends ends.last.stands) went.by_lines in
      let taken = ran.lines b a was now in
      record {
        asked = went.asked;
        rest = taken.0;
        asks = taken.1.0;
        session = s.session;
        stood = stood_in true s.session.drawn went.tasks went.blocks went.asked (lines_ahead old b) taken.0 taken.1 s.stood;
        draws = s.drew;
        leaves = leaves_settled true went.tasks went.blocks went.asked went.replies s calm;
        kept = kept_to true went.tasks went.blocks went.asked went.replies s;
        prints = cut_prints true went.tasks went.blocks went.asked went.replies end s ran.printed;
      }

  -- where the last command met a fault: the session that it met, and what was replied before it
  pub record Stopped (fault : ApplyFault) : Type 0 where
    pub asked : List Request
    pub given : List Reply
    pub next : Request
    pub tasks : List Task
    pub blocks : List (List Request)
    pub x : X
    pub s : StandsThere true tasks blocks asked given x
    pub failed : FailsIn (scene x) next fault (scene end) (leaves x) (leaves end) (since x) (since end)
    pub these : AskThese tasks blocks (asked ++ next ∷ []) (lines_ahead old b) (lines_ahead new a)
    pub prints : PrintsThese s.session.replies ended

  stopped : (fault : ApplyFault) → HasRan (Err (Applying fault)) → Stopped fault
  stopped fault ran =
      let went = ran.went in
      let ends = went.by_lines in
      let stands = ends.last.stands in
      let first : List Request = stands.1 in
      let last : Request = stands.2 in
      let asked : List Request = went.stands.1 in
      let whole : went.asked ≡ (commands_in ends.first_blocks ++ first) ++ last ∷ [] =
      went.asked_are ∙ ap commands_in ends.blocks_are ∙ commands_more ends.first_blocks ends.block ∙ ap (λ rs. commands_in ends.first_blocks ++ rs) stands.3
      ∙ sym (append_assoc (commands_in ends.first_blocks) first (last ∷ [])) in
      let same = last_same asked (commands_in ends.first_blocks ++ first) went.stands.2 last (sym went.stands.3 ∙ whole) in
      let s = last_there (Err (Applying fault)) went.tasks went.blocks went.replies ends first (last ∷ []) stands.3 stands.0 stands.4 asked same.0 in
      record {
        asked = asked;
        given = went.replies;
        next = last;
        tasks = went.tasks;
        blocks = went.blocks;
        x = stands.0;
        s = s;
        failed = fails stands.0 last fault end stands.5;
        these = subst (λ rs. AskThese went.tasks went.blocks rs (lines_ahead old b) (lines_ahead new a)) (whole ∙ ap (λ rs. rs ++ last ∷ []) (sym same.0)) (ran.lines b a was now);
        prints = printed true went.tasks went.blocks asked went.replies stands.0 s ran.printed;
      }

  -- the command is accepted where the owner stands, and so where the session does
  abbrev AcceptedThere : (fault : ApplyFault) → Stopped fault → Type 0
  AcceptedThere fault t = answer (limits_in (scene t.x).owner) t.s.at.journal (scene t.x).owner.journal.has_epoch t.next ≡ None

  accepted : (fault : ApplyFault) (t : Stopped fault) → AcceptedThere fault t → answer limits t.s.session.now t.s.session.begun t.next ≡ None
  accepted fault t e =
      subst (λ (j : Journal). answer limits j t.s.session.begun t.next ≡ None) (sym t.s.same_now)
      (subst (λ h. answer limits t.s.at.journal h t.next ≡ None) (sym t.s.same_begun) (accepted_there limits key t.s.at (scene t.x) t.next t.s.there e))

  abbrev ran_to : (fault : ApplyFault) (t : Stopped fault) → AcceptedThere fault t → RanTo limits m (lines_ahead old b) ended
  ran_to fault t e = record {
    asked = t.asked;
    next = t.next;
    rest = lines_ahead new a;
    asks = t.these.0;
    session = t.s.session;
    stood = stood_in true t.s.session.drawn t.tasks t.blocks (t.asked ++ t.next ∷ []) (lines_ahead old b) (lines_ahead new a) t.these t.s.stood;
    is_accepted = accepted fault t e;
    prints = t.prints;
  }

  answers_there : (fault : ApplyFault) (t : Stopped fault)
      → Answers (Err fault) t.s.at.journal (Commanded t.next) (scene t.x).owner (scene end).owner (scene t.x).left (scene end).left (scene t.x).shown (scene end).shown
      (leaves t.x) (leaves end) (since end (scene t.x).moment)
  answers_there fault t = t.failed.answers t.s.at.journal t.s.there.owner_is

  -- a fault that isn't the disk's leaves it at rest
  abbrev RestsStill : (fault : ApplyFault) (t : Stopped fault) → Type 0
  RestsStill fault t = ComesToRest (scene t.x).owner.key t.s.at.journal t.s.at.journal (scene t.x).shown (scene end).shown (leaves t.x) (leaves end) (since end (scene t.x).moment)

  stays_there : (fault : ApplyFault) (t : Stopped fault) → RestsStill fault t → StaysAt t.s.session.now end
  stays_there fault t comes =
      let Comes : List ℕ → Journal → Type 0 = λ k j. ComesToRest k j j (scene t.x).shown (scene end).shown (leaves t.x) (leaves end) (since end (scene t.x).moment) in
      let here : Comes key t.s.session.now = subst (λ j. Comes key j) (sym t.s.same_now) (subst (λ k. Comes k t.s.at.journal) t.s.there.has_key comes) in
      stays_on key m t.s.session.now t.s.session.now (scene start).moment (scene t.x).moment (scene end).moment (scene start).shown (scene t.x).shown (scene end).shown (leaves t.x) (leaves end)
      (since t.x) (since end) t.s.stays (prefix_same t.s.session.now) here t.failed.later t.failed.time

  leaves_still : (fault : ApplyFault) (t : Stopped fault) → RestsStill fault t → fault ≢ faults.DiskFault → Calm → LeavesAt key m t.s.session.now ended (leaves end)
  leaves_still fault t comes other calm = record {
    settled = rests_settled key t.s.session.now (scene end).shown (leaves end) (stays_there fault t comes).rests;
    none_pending = calm;
    keeps = subst (λ o. KeepsBehind key m t.s.session.now first_shown o) (sym (t.failed.unwritten other)) t.s.keeps;
  }

  kept_still : (fault : ApplyFault) (t : Stopped fault) → RestsStill fault t → KeepsTo t.s.session.now
  kept_still fault t comes = let stays = stays_there fault t comes in record { grown = stays.grown; kept = stays.kept; hands = stays.hands }

  pub ran_short : (given need : ℕ) → HasRan (Err (Applying (faults.RandomShort given need))) → Calm → RanShort limits key m (lines_ahead old b) given need ended (leaves end) KeepsTo
  ran_short given need ran calm =
      let t = stopped (faults.RandomShort given need) ran in
      let told = answers_there (faults.RandomShort given need) t in
      record {
        ran = ran_to (faults.RandomShort given need) t told.0;
        is_need = told.2 ∙ ap (λ (j : Journal). 32 * draws_of j t.next) (sym t.s.same_now);
        is_short = told.3;
        were_left = λ x first.
            let middle = still_told (scene t.x).left (scene start).left x t.s.left_told first in
            (middle.0, t.s.drew x middle.0 first middle.1, told.4 middle.0 middle.1);
        nothing_left = told.5;
        leaves = leaves_still (faults.RandomShort given need) t told.6 (λ e. absurd cc) calm;
        kept = kept_still (faults.RandomShort given need) t told.6;
      }

  pub ran_undrawn : HasRan (Err (Applying faults.RandomFault)) → Calm → RanUndrawn limits key m (lines_ahead old b) ended (leaves end) KeepsTo
  ran_undrawn ran calm =
      let t = stopped faults.RandomFault ran in
      let told = answers_there faults.RandomFault t in
      record {
        ran = ran_to faults.RandomFault t told.0;
        drew = λ x first.
            let middle = still_told (scene t.x).left (scene start).left x t.s.left_told first in
            (middle.0, t.s.drew x middle.0 first middle.1);
        leaves = leaves_still faults.RandomFault t told.2 (λ e. absurd cc) calm;
        kept = kept_still faults.RandomFault t told.2;
      }

  pub ran_unwritten : HasRan (Err (Applying faults.DiskFault)) → RanUnwritten limits key m (lines_ahead old b) ended (leaves end) KeepsTo
  ran_unwritten ran =
      let t = stopped faults.DiskFault ran in
      let met = answers_there faults.DiskFault t in
      let cut_short = met.2 in
      let Stops : List ℕ → Journal → Bool → Type 0 = λ k j b.
      StopsBetween k j (journal_then j b t.next cut_short.drawn) (scene t.x).shown (scene end).shown (leaves t.x) (leaves end) (since end (scene t.x).moment) in
      let keyed : Stops key t.s.at.journal (scene t.x).owner.journal.has_epoch = subst (λ k. Stops k t.s.at.journal (scene t.x).owner.journal.has_epoch) t.s.there.has_key cut_short.stops in
      let begun : Stops key t.s.at.journal t.s.session.begun = subst (λ b. Stops key t.s.at.journal b) (t.s.there.has_begun ∙ sym t.s.same_begun) keyed in
      let stops : Stops key t.s.session.now t.s.session.begun = subst (λ j. Stops key j t.s.session.begun) (sym t.s.same_now) begun in
      let session = cond t.s.session.begun [] (Session ∷ []) in
      let more : IsPrefix t.s.session.now (journal_then t.s.session.now t.s.session.begun t.next cut_short.drawn) =
      (session ++ Did t.next cut_short.drawn ∷ [], sym (append_assoc t.s.session.now session (Did t.next cut_short.drawn ∷ []))) in
      let left = stops_on key m t.s.session.now (journal_then t.s.session.now t.s.session.begun t.next cut_short.drawn) (scene start).moment (scene t.x).moment (scene start).shown (scene t.x).shown (scene end).shown
      (leaves t.x) (leaves end) (since t.x) (since end) t.s.stays more stops t.failed.time in
      record {
        ran = ran_to faults.DiskFault t met.0;
        last = cut_short.drawn;
        last_count = cut_short.drawn_count ∙ ap (λ (j : Journal). draws_of j t.next) (sym t.s.same_now);
        last_sizes = cut_short.drawn_sizes;
        draws = both_told_through (scene start).left (scene t.x).left (scene end).left (λ x y. x ≡ joined t.s.session.drawn ++ y) (λ y z. y ≡ joined cut_short.drawn ++ z)
            (λ x z. x ≡ joined (t.s.session.drawn ++ cut_short.drawn) ++ z) t.s.left_told t.s.drew cut_short.next_bytes
            (λ x y z here then. here ∙ ap (λ rest. joined t.s.session.drawn ++ rest) then ∙ sym (joined_more t.s.session.drawn cut_short.drawn z));
        holds = left.0;
        kept = left.1;
      }

  pub ran_without : HasRan (Err (Applying faults.OutOfMemory)) → Calm → RanCut limits key m (lines_ahead old b) ended (leaves end) KeepsTo
  ran_without ran calm =
      let t = stopped faults.OutOfMemory ran in
      let told = answers_there faults.OutOfMemory t in
      let fewer = asks_fewer t.asked t.next (lines_ahead old b) (lines_ahead new a) t.these.0 in
      let stood = stood_in true t.s.session.drawn t.tasks t.blocks (t.asked ++ t.next ∷ []) (lines_ahead old b) (lines_ahead new a) t.these t.s.stood in
      record {
        asked = t.asked;
        rest = fewer.0;
        asks = fewer.1;
        session = t.s.session;
        stood = λ rest. fewer.2 limits (opened m (joined t.s.session.drawn ++ rest)) (stood rest);
        draws = subst (λ left. WhereBothTold (scene start).left left (λ y z. y ≡ joined t.s.session.drawn ++ z)) (sym (t.failed.undrawn refl)) t.s.drew;
        leaves = leaves_still faults.OutOfMemory t told.1 (λ e. absurd cc) calm;
        kept = kept_still faults.OutOfMemory t told.1;
        prints = λ x y before after. whole_is_cut t.s.session.replies x y (t.prints x y before after);
      }

  pub never_closed : HasRan (Err (Applying faults.Closed)) → ⊥
  never_closed ran = (stopped faults.Closed ran).failed.never_closed refl

  abbrev answered_by : (result : Result (Unit {0}) ScriptFault) → HasRan result → List Request
  answered_by result ran = answered_in Step Fails Stand result start end ran.went

  -- all of it by the status
  pub ends_as : (result : Result (Unit {0}) ScriptFault) (ran : HasRan result) → old.given ≡ 1 → IsCalm (leaves end) (scene end).shown result
      → Ends (ended_status result) limits key m (answered_by result ran) (lines_ahead old b) ended (leaves end) KeepsTo
  unfolding ran_all ran_to_bad ran_to_fault ran_cut ran_out ran_short ran_undrawn ran_unwritten ran_without stopped
  ends_as (Ok tt) ran first calm = (ran_all ran calm, refl)
  ends_as (Err (BadLine line)) ran first calm = let bad = ran_to_bad line ran first calm in (bad.0, bad.1, bad.2, bad.3, refl)
  ends_as (Err ReadFault) ran first calm = let cut = ran_to_fault ran calm in inr (cut.0, cut.1, refl)
  ends_as (Err WriteFault) ran first calm = (ran_cut ran calm, refl)
  ends_as (Err OutOfMemory) ran first calm = inr (ran_out ran calm, refl)
  ends_as (Err (Applying faults.RandomFault)) ran first calm = (ran_undrawn ran calm, refl)
  ends_as (Err (Applying (faults.RandomShort given need))) ran first calm = (ran_short given need ran calm, refl)
  ends_as (Err (Applying faults.DiskFault)) ran first calm = inr (ran_unwritten ran, refl)
  ends_as (Err (Applying faults.Closed)) ran first calm = absurd (never_closed ran)
  ends_as (Err (Applying faults.OutOfMemory)) ran first calm = inr (ran_without ran calm, refl)

  -- all lines were answered, and the owner's figures are those of the journal, if it had counted all of m
  pub applies_all : TallyTold → HasRan (Ok tt) → Calm → (scene start).owner.tally ≡ counted_in m
      → (asked : List Request) × Asks asked (lines_ahead old b) [] × HasApplied limits key m asked (scene end).owner ended (leaves end) KeepsTo
  applies_all told ran calm all =
      let went = ran.went in
      let s = all_there went.tasks went.blocks went.asked went.replies went.asked_are went.by_lines in
      let owner_is : IsOwnerOf s.session.now (scene end).owner = subst (λ (j : Journal). IsOwnerOf j (scene end).owner) (sym s.same_now) s.there.owner_is in (
        went.asked,
        (ran.lines b a was now).0.0,
        record {
          session = s.session;
          draws = s.drew;
          leaves = leaves_settled false went.tasks went.blocks went.asked went.replies s calm;
          kept = kept_to false went.tasks went.blocks went.asked went.replies s;
          same_key = s.there.has_key;
          figures = told s.session.now (scene end).owner owner_is (s.counted all);
        },
      )

  -- or they stopped, where neither the input nor the output failed and no line was bad
  pub stops_as : (fault : ScriptFault) → IsStop (script_status fault) → HasRan (Err fault) → IsCalm (leaves end) (scene end).shown (Err fault)
      → StopsApplying (script_status fault) limits key m (lines_ahead old b) ended (leaves end) KeepsTo
  stops_as (BadLine line) stop ran calm = absurd stop
  stops_as ReadFault stop ran calm = absurd stop
  stops_as WriteFault stop ran calm = absurd stop
  stops_as OutOfMemory stop ran calm = ran_out ran calm
  stops_as (Applying faults.RandomFault) stop ran calm = ran_undrawn ran calm
  stops_as (Applying (faults.RandomShort given need)) stop ran calm = ran_short given need ran calm
  stops_as (Applying faults.DiskFault) stop ran calm = ran_unwritten ran
  stops_as (Applying faults.Closed) stop ran calm = absurd (never_closed ran)
  stops_as (Applying faults.OutOfMemory) stop ran calm = ran_without ran calm
