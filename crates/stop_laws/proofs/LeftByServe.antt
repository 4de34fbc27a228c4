-- What a call of `serve` by the owner leaves of a store.
use Rattle.std.proofs.Common.{◌≡◌, ◌≤◌, ⊎_elim, inl, inr, ℕ, suc, true, List, [], ◌∷◌, ◌++◌, length, take, Option, Some, append-nil, append_assoc, arith, refl, sym, ap, subst, ◌∙◌}
use Rattle.std.specs.Prelude.{min}
use Rattle.std.proofs.lemmas.List.{take_all, take_min}
use Rattle.std.proofs.lemmas.Grind.{flat_map-append}
use Rattle.std.proofs.lemmas.List.Elements.{All-append}
use Rattle.commit_journal.specs.Holding.{IsPrefix}
use Rattle.commit_journal.proofs.KeptLemmas.{prefix_same, prefix_trans}
use Rattle.cry_base.specs.Requests.{Request}
use Rattle.cry_base.specs.declared.commands.Reply.{Reply}
use Rattle.cry_base.specs.declared.limits.Limits.{Limits}
use Rattle.cry_io.specs.Told.{WhereBothTold}
use Rattle.cli_base.specs.Outside.{PrintsFront}
use Rattle.cli_base.specs.declared.status.Status.{Status}
use Rattle.cli_base.specs.declared.status.Status.TheVariants as statuses
use Rattle.cli_serving.specs.Served.{HasServed, serving_over}
use Rattle.cli_serving.specs.Serves.{Serves, ServesAll, ServesCut, ServesLast, ServesNext, ServesTo, ServesUnwritten}
use Rattle.cli_sessions.specs.Script.{PrintsCut, spell_replies}
use Rattle.cli_sessions.specs.Sessions.{IsUnopened, LeavesAt, Seen, seen_from, version_limits}
use Rattle.cli_sessions.specs.Stopping.{KeepsUpTo}
use Rattle.cli_sessions.proofs.AnsweredScripts.{joined_more}
use Rattle.cli_sessions.proofs.StoodLemmas.{going_append}
use Rattle.group_book.specs.Asked.{asked_of}
use Rattle.journal_bytes.specs.Journals.{HoldsBetween, ShowsJournal}
use Rattle.journal_bytes.specs.Script.{Going, journal_then, opened, script_going, script_replies}
use Rattle.public_fold.specs.Journal.{Journal}
use Rattle.script_text.specs.Printing.{spell_reply}
use Rattle.script_text.specs.Seats.{Turn}
use Rattle.script_text.specs.Seats.SeatAsk.{Shows}
use Rattle.script_text.specs.Seats.Turn.{ToOwner, ToSeat}
use Rattle.script_text.specs.Tasks.{Task}
use Rattle.session_laws.specs.Serving.{served_then}
use Rattle.store_owner.specs.Drawing.{joined}
use Rattle.store_owner.proofs.Scripted.{Whole}
use Rattle.stop_laws.specs.Runs.{HoldsTurns}
use Rattle.stop_laws.specs.Turns.{AnsweredTurns, BeginsNext, GoesThrough, IsServedOf, owner_behind}
use Rattle.stop_laws.proofs.LeftByOwner.{Leaves, rested, session_begins, unopened}
use Rattle.stop_laws.proofs.Made.{next_goes}

-- ---- fronts of what is printed

text_front : (first last : List ℕ) (n : ℕ) → (k : ℕ) × (k ≤ length (first ++ last)) × (first ++ take n last ≡ take k (first ++ last))
text_front [] last n = (min n (length last), omega arith, sym (take_min n last))
text_front (x ∷ first) last n =
    let front = text_front first last n in
    let within = front.1 in
    (suc front.0, omega (arith, within), ap (λ rest. x ∷ rest) front.2)

printed_front : (first last before after : List ℕ) (n : ℕ) → after ≡ before ++ (first ++ take n last) → PrintsFront (first ++ last) before after
printed_front first last before after n is = let front = text_front first last n in (front.0, front.1, is ∙ ap (λ text. before ++ text) front.2)

printed_whole : (text before after : List ℕ) → after ≡ before ++ text → PrintsFront text before after
printed_whole text before after is = (length text, omega arith, is ∙ ap (λ t. before ++ t) (sym (take_all (length text) text (omega arith))))

-- without more than the last reply
printed_cut : (text : List ℕ) (replies : List Reply) (before after : List ℕ) → PrintsCut replies (before ++ text) after → PrintsFront (text ++ spell_replies replies) before after
printed_cut text replies before after cut =
    let whole = spell_replies cut.0 in
    let rest = spell_replies cut.1 in
    let n = cut.2 in
    let spelled : text ++ spell_replies replies ≡ (text ++ whole) ++ rest =
    ap (λ (rs : List Reply). text ++ spell_replies rs) cut.3 ∙ ap (λ t. text ++ t) (flat_map-append spell_reply cut.0 cut.1) ∙ sym (append_assoc text whole rest) in
    let is : after ≡ before ++ ((text ++ whole) ++ take n rest) =
    cut.5 ∙ append_assoc before text (whole ++ take n rest) ∙ ap (λ t. before ++ t) (sym (append_assoc text whole (take n rest))) in
    subst (λ t. PrintsFront t before after) (sym spelled) (printed_front (text ++ whole) rest before after n is)

-- ---- what lines made, and what they acknowledge

no_more : (limits : Limits) (g : Going) → script_going limits g [] ≡ g
unfolding script_going
no_more limits g = refl

none_replied : (limits : Limits) (g : Going) → script_replies limits g [] ≡ []
unfolding script_replies
none_replied limits g = refl

next_begins : (limits : Limits) (g : Going) (some : List Request) (task : Task) (rest : List Turn) → IsPrefix some (asked_of limits g task)
    → BeginsNext limits g some (ToOwner task ∷ rest)
next_begins limits g [] task rest is = tt
next_begins limits g (r ∷ some) task rest is = is

pub served_front : (m : Journal) (turns : List Turn) (j front : Journal) → IsPrefix front j → IsServedOf m turns j → IsServedOf m turns front
served_front m turns j front shorter is = record { made = is.made; front = prefix_trans front j is.made.now shorter is.front }

pub turns_more : (key : List ℕ) (was : Option (List ℕ)) (turns : List Turn) (before after : Option (List ℕ)) (j more : Journal) → IsPrefix j more
    → HoldsTurns key was turns before after j → HoldsTurns key was turns before after more
turns_more key was turns before after j more longer holds =
    ⊎_elim
    (λ none. inl none)
    (λ all. inr (
      all.0,
      all.1,
      record {
        made = all.2.made;
        text = all.2.text;
        answered = all.2.answered;
        replies = all.2.replies;
        replied = all.2.replied;
        prints = all.2.prints;
        holds = prefix_trans all.2.made.now j more all.2.holds longer;
      },
    ))
    holds

-- ---- one call

module _ (key : List ℕ) (l h m : Journal) (left_before left_after was shown written_before written_after : Option (List ℕ))
    (could_leave : List ℕ → Type 0) (since : List ℕ → List ℕ → Type 0) (may_leave : List ℕ → Type 0)
    (held : HoldsBetween key l h was could_leave) (low_m : IsPrefix l m) (m_high : IsPrefix m h) (shows : ShowsJournal key m was)
    (counted : (s c : List ℕ) → shown ≡ Some s → may_leave c → since s c) (turns : List Turn) where
  abbrev seen : Seen
  seen = seen_from left_before left_after was shown written_before written_after

  abbrev KeepsTo : Journal → Type 0
  KeepsTo = KeepsUpTo key m was shown could_leave since

  abbrev Makes : Journal → Journal → Type 0
  Makes first j = IsServedOf first turns j

  abbrev Holds : Journal → Type 0
  Holds j = HoldsTurns key was turns written_before written_after j

  abbrev Left : Type 0
  Left = Leaves key l h was shown Makes Holds since may_leave

  abbrev Printed : List ℕ → Type 0
  Printed text = WhereBothTold written_before written_after (PrintsFront text)

  -- where lines were done, and the disk rests where the owner's session stands
  at_rest : (made : GoesThrough m turns) → IsPrefix m made.now → LeavesAt key m made.now seen may_leave → KeepsTo made.now
      → AnsweredTurns key m turns written_before written_after made.now → Left
  at_rest made longer leaves kept answered =
      rested key l h m left_before left_after was shown written_before written_after could_leave since may_leave held low_m m_high shows counted Makes Holds
      made.now longer leaves kept (inr (m, m_high, shows, record { made = made; front = prefix_same made.now })) (inr (m, shows, answered))

  -- all of them were done
  served_all : (done rest : List Turn) (asked : List Request) (text : List ℕ) → turns ≡ done ++ rest
      → HasServed version_limits key m done asked text seen may_leave KeepsTo → Printed text → Left
  served_all done rest asked text are served printed =
      let session = served.session in
      let made : GoesThrough m turns = record {
        done = done;
        rest = rest;
        turns_are = are;
        some = [];
        drawn = session.drawn;
        drawn_sizes = session.drawn_sizes;
        begins = λ draws. tt;
        now = session.now;
        begun = session.begun;
        goes = λ draws. no_more version_limits (owner_behind m session.drawn draws done) ∙ served.goes draws;
      } in
      at_rest made (session_begins version_limits m asked session) served.leaves served.kept
      (record {
        made = made;
        text = text;
        answered = served.answered;
        replies = [];
        replied = λ draws. none_replied version_limits (owner_behind m session.drawn draws done);
        prints = λ b a is_b is_a. subst (λ t. PrintsFront t b a) (sym (append-nil text)) (printed b a is_b is_a);
        holds = prefix_same session.now;
      })

  whole : (done rest : List Turn) (asked : List Request) → turns ≡ done ++ rest → ServesAll version_limits key m done asked seen may_leave KeepsTo → Left
  whole done rest asked are all = served_all done rest asked all.text are all.served (λ b a is_b is_a. printed_whole all.text b a (all.prints b a is_b is_a))

  done_all : (asked : List Request) → ServesAll version_limits key m turns asked seen may_leave KeepsTo → Left
  done_all asked all = whole turns [] asked (sym (append-nil turns)) all

  cut : (asked : List Request) → ServesCut version_limits key m turns asked seen may_leave KeepsTo → Left
  cut asked all =
      served_all turns [] asked (all.first ++ all.last) (sym (append-nil turns)) all.served
      (λ b a is_b is_a. let front = all.prints b a is_b is_a in printed_front all.first all.last b a front.0 front.1)

  -- the last is the owner's, and some of its commands were answered
  module _ (asked : List Request) (Prints : List ℕ → List Reply → Type 0) (to : ServesTo version_limits key m turns asked seen Prints) where
    abbrev now : Journal
    now = to.session.now

    abbrev from : List ℕ → Going
    from draws = opened m (joined to.session.drawn ++ draws)

    some_goes : (draws : List ℕ) → script_going version_limits (owner_behind m to.session.drawn draws to.first) to.some
        ≡ record { journal = now; begun = to.session.begun; draws = draws }
    some_goes draws =
        ap (λ (g : Going). script_going version_limits g to.some) (to.goes_first draws)
        ∙ sym (going_append version_limits (from draws) to.first_asked to.some)
        ∙ ap (λ (rs : List Request). script_going version_limits (from draws) rs) (sym to.asked_are)
        ∙ to.session.goes draws

    abbrev some_made : GoesThrough m turns
    some_made = record {
      done = to.first;
      rest = ToOwner to.task ∷ [];
      turns_are = to.turns_are;
      some = to.some;
      drawn = to.session.drawn;
      drawn_sizes = to.session.drawn_sizes;
      begins = λ draws.
          subst (λ (g : Going). BeginsNext version_limits g to.some (ToOwner to.task ∷ [])) (sym (to.goes_first draws))
          (next_begins version_limits (script_going version_limits (from draws) to.first_asked) to.some to.task [] (to.stood draws));
      now = now;
      begun = to.session.begun;
      goes = some_goes;
    }

    some_answered : Printed (to.text ++ spell_replies to.replies) → AnsweredTurns key m turns written_before written_after now
    some_answered printed = record {
      made = some_made;
      text = to.text;
      answered = to.answered;
      replies = to.replies;
      replied = λ draws. ap (λ (g : Going). script_replies version_limits g to.some) (to.goes_first draws) ∙ to.replied draws;
      prints = printed;
      holds = prefix_same now;
    }

    some_left : Printed (to.text ++ spell_replies to.replies) → LeavesAt key m now seen may_leave → KeepsTo now → Left
    some_left printed leaves kept = at_rest some_made (session_begins version_limits m asked to.session) leaves kept (some_answered printed)

  last : (asked : List Request) → ServesLast version_limits key m turns asked seen may_leave KeepsTo → Left
  last asked all =
      some_left asked (λ text replies. WhereBothTold written_before written_after (λ b a. PrintsCut replies (b ++ text) a)) all.to
      (λ b a is_b is_a. printed_cut all.to.text all.to.replies b a (all.to.prints b a is_b is_a)) all.leaves all.kept

  -- and the next one was accepted
  module _ (asked : List Request) (ran : ServesNext version_limits key m turns asked seen) where
    abbrev Told : List ℕ → List Reply → Type 0
    Told text replies = WhereBothTold written_before written_after (λ b a. a ≡ b ++ (text ++ spell_replies replies))

    all_printed : Printed (ran.to.text ++ spell_replies ran.to.replies)
    all_printed b a is_b is_a = printed_whole (ran.to.text ++ spell_replies ran.to.replies) b a (ran.to.prints b a is_b is_a)

    next_left : LeavesAt key m ran.to.session.now seen may_leave → KeepsTo ran.to.session.now → Left
    next_left leaves kept = some_left asked Told ran.to all_printed leaves kept

  -- it drew its keys, and met a fault of the disk
  unwritten : (asked : List Request) → ServesUnwritten version_limits key m turns asked seen may_leave KeepsTo → Left
  unwritten asked run =
      let ran = run.ran in
      let to = ran.to in
      let session = to.session in
      let next = ran.next in
      let then : Journal = journal_then session.now session.begun next run.last in
      let from : List ℕ → Going = λ draws. opened m (joined session.drawn ++ (joined run.last ++ draws)) in
      let behind : (draws : List ℕ) → owner_behind m (session.drawn ++ run.last) draws to.first ≡ script_going version_limits (from draws) to.first_asked = λ draws.
      ap (λ (bytes : List ℕ). (served_then version_limits (serving_over m bytes) to.first).going) (joined_more session.drawn run.last draws) ∙ to.goes_first (joined run.last ++ draws) in
      let made : GoesThrough m turns = record {
        done = to.first;
        rest = ToOwner to.task ∷ [];
        turns_are = to.turns_are;
        some = to.some ++ next ∷ [];
        drawn = session.drawn ++ run.last;
        drawn_sizes = All-append Whole session.drawn run.last session.drawn_sizes run.last_sizes;
        begins = λ draws.
            subst (λ (g : Going). BeginsNext version_limits g (to.some ++ next ∷ []) (ToOwner to.task ∷ [])) (sym (behind draws))
            (next_begins version_limits (script_going version_limits (from draws) to.first_asked) (to.some ++ next ∷ []) to.task [] (ran.stood (joined run.last ++ draws)));
        now = then;
        begun = true;
        goes = λ draws.
            ap (λ (g : Going). script_going version_limits g (to.some ++ next ∷ [])) (behind draws)
            ∙ sym (going_append version_limits (from draws) to.first_asked (to.some ++ next ∷ []))
            ∙ ap (λ (rs : List Request). script_going version_limits (from draws) rs)
            (sym (append_assoc to.first_asked to.some (next ∷ [])) ∙ ap (λ (rs : List Request). rs ++ next ∷ []) (sym to.asked_are))
            ∙ next_goes m asked next session ran.is_accepted run.last run.last_count run.last_sizes draws;
      } in
      record {
        low = session.now;
        high = then;
        grown = prefix_trans l m session.now low_m (session_begins version_limits m asked session);
        holds = run.holds;
        kept = run.kept.kept l h held low_m;
        made = inr (m, m_high, shows, record { made = made; front = prefix_same then });
        acknowledged = inr (m, shows, some_answered asked (Told asked ran) to (all_printed asked ran));
      }

  closed : IsUnopened key m seen KeepsTo → Left
  closed is =
      unopened key l h m left_before left_after was shown written_before written_after could_leave since may_leave held low_m m_high shows counted Makes Holds is
      (inl is.unprinted)

  pub served_left : (status : Status) (asked : List Request) → Serves status version_limits key m turns asked seen may_leave KeepsTo → Left
  served_left statuses.Done asked run = done_all asked run
  served_left (statuses.BadScript line) asked run = done_all asked run
  served_left statuses.NeedsUpgrade asked run = done_all asked run.1
  served_left statuses.ReadFault asked run = ⊎_elim (λ is. closed is.2) (λ all. done_all asked all) run
  served_left statuses.WriteFault asked run = ⊎_elim (λ all. cut asked all) (λ all. last asked all) run
  served_left (statuses.RandomShort left need) asked run = next_left asked run.ran run.leaves run.kept
  served_left statuses.RandomFault asked run = next_left asked run.ran run.leaves run.kept
  served_left statuses.DiskFault asked run =
      ⊎_elim (λ is. closed is.2) (λ opened. ⊎_elim (λ all. whole all.0 (all.1 ∷ []) asked all.2 all.3) (λ one. unwritten asked one) opened) run
  served_left statuses.OutOfMemory asked run =
      ⊎_elim
      (λ is. closed is.2)
      (λ opened. ⊎_elim (λ all. whole all.0 all.1 asked all.2 all.3) (λ more. ⊎_elim (λ all. cut asked all) (λ all. last asked all) more) opened)
      run
  served_left (statuses.Damaged at) asked run = whole run.0 (ToSeat (Shows run.1) ∷ []) asked run.2 run.3.all
  served_left (statuses.Tampered batch at) asked run = whole run.0 (ToSeat (Shows run.1) ∷ []) asked run.2 run.3.all
  served_left statuses.Usage asked run = absurd run
  served_left statuses.NotAStore asked run = absurd run
  served_left statuses.WrongKey asked run = absurd run
  served_left statuses.NotBlank asked run = absurd run
  served_left (statuses.NoHolder known) asked run = absurd run
  served_left statuses.Unseen asked run = absurd run
  served_left statuses.AlreadyNew asked run = absurd run
  served_left (statuses.Behind have want) asked run = absurd run
  served_left (statuses.Forked batches) asked run = absurd run
  served_left statuses.BadProof asked run = absurd run
