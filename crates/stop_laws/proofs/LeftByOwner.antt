-- What a run or an upgrade by the owner leaves of a store.
use Rattle.std.proofs.Common.{◌≡◌, ◌⊎◌, ⊎_elim, inl, inr, ℕ, true, false, List, [], ◌∷◌, ◌++◌, length, Option, Some, arith, sym, ap, subst, ◌∙◌}
use Rattle.std.proofs.Math.Seq.{take-length}
use Rattle.commit_journal.specs.Holding.{IsBetween, IsPrefix}
use Rattle.commit_journal.proofs.KeptLemmas.{prefix_same, prefix_trans}
use Rattle.cry_base.specs.Requests.{Request}
use Rattle.cry_base.specs.declared.commands.Reply.{Reply}
use Rattle.cry_base.specs.declared.limits.Limits.{Limits}
use Rattle.cry_io.specs.Told.{WhereBothTold}
use Rattle.cli_base.specs.Lines.{InputLine}
use Rattle.cli_base.specs.Outside.{PrintsAll, PrintsFront}
use Rattle.cli_sessions.specs.Sessions.{Ends, HasRun, IsUnopened, LeavesAt, RanCut, RanTo, RanUnwritten, Seen, SessionOver, Stood, seen_from, version_limits}
use Rattle.cli_running.specs.Running.{lines_behind, lines_in}
use Rattle.cli_upgrading.specs.Upgrading.{EndsUpgrade, HasAnswered, HasRested, PrintsReply, WasCutShort}
use Rattle.cli_sessions.specs.Script.{Asks, PrintsCut}
use Rattle.cli_sessions.specs.Stopping.{KeepsUpTo}
use Rattle.cli_base.specs.declared.status.Status.{Status}
use Rattle.cli_base.specs.declared.status.Status.TheVariants as statuses
use Rattle.cli_sessions.proofs.FewerLines.{asks_fewer}
use Rattle.cli_sessions.proofs.StoodLemmas.{all_stood}
use Rattle.cli_sessions.proofs.ScriptLemmas.{whole_is_cut}
use Rattle.cli_sessions.proofs.StopLemmas.{line_grows, settled_holds_journal}
use Rattle.journal_bytes.specs.Journals.{HoldsBetween, Kept, ShowsJournal, StandsForJournal}
use Rattle.journal_bytes.specs.Script.{Going, answer, line_going, opened, script_going}
use Rattle.journal_bytes.specs.Upgrading.{upgraded_then}
use Rattle.public_fold.specs.Journal.{Journal}
use Rattle.script_text.specs.Printing.{spell_reply}
use Rattle.store_owner.specs.Drawing.{joined}
use Rattle.stop_laws.specs.Coming.{IsMadeOf, IsUpgradeOf}
use Rattle.stop_laws.specs.Runs.{HoldsRun, HoldsUpgrade}
use Rattle.stop_laws.proofs.Made.{answered_begins, next_made, session_made}

-- ---- a session makes a journal longer, and takes nothing away

session_grows : (limits : Limits) (g : Going) (rs : List Request) → IsPrefix g.journal (script_going limits g rs).journal
unfolding script_going
session_grows limits g [] = prefix_same g.journal
session_grows limits g (r ∷ rs) =
    let next = line_going g r (answer limits g.journal g.begun r) in
    prefix_trans g.journal next.journal (script_going limits next rs).journal (line_grows g r (answer limits g.journal g.begun r)) (session_grows limits next rs)

pub front_grows : (limits : Limits) (g : Going) (first more : List Request) → IsPrefix (script_going limits g first).journal (script_going limits g (first ++ more)).journal
unfolding script_going
front_grows limits g [] more = session_grows limits g more
front_grows limits g (r ∷ first) more = front_grows limits (line_going g r (answer limits g.journal g.begun r)) first more

pub session_begins : (limits : Limits) (m : Journal) (asked : List Request) (session : SessionOver limits m asked) → IsPrefix m session.now
unfolding opened
session_begins limits m asked session =
    subst (λ (g : Going). IsPrefix m g.journal) (session.goes []) (session_grows limits (opened m (joined session.drawn ++ [])) asked)

-- ---- one call

-- What a call left of a disk that held between two journals: what it reached is a front of the higher one, or it made that of the journal
-- that it found; and the lower one has what it acknowledged.
pub record Leaves (key : List ℕ) (l h : Journal) (was shown : Option (List ℕ)) (Makes : Journal → Journal → Type 0) (Holds : Journal → Type 0) (since : List ℕ → List ℕ → Type 0) (may_leave : List ℕ → Type 0) : Type 0 where
  pub low : Journal
  pub high : Journal
  pub grown : IsPrefix l low
  pub holds : HoldsBetween key low high shown may_leave
  pub kept : Kept key l h high since
  pub made : IsPrefix high h ⊎ ((m : Journal) × IsPrefix m h × ShowsJournal key m was × Makes m high)
  pub acknowledged : Holds low

module _ (key : List ℕ) (l h m : Journal) (left_before left_after was shown written_before written_after : Option (List ℕ))
    (could_leave : List ℕ → Type 0) (since : List ℕ → List ℕ → Type 0) (may_leave : List ℕ → Type 0)
    (held : HoldsBetween key l h was could_leave) (low_m : IsPrefix l m) (m_high : IsPrefix m h) (shows : ShowsJournal key m was)
    (counted : (s c : List ℕ) → shown ≡ Some s → may_leave c → since s c) where
  abbrev seen : Seen
  seen = seen_from left_before left_after was shown written_before written_after

  abbrev KeepsTo : Journal → Type 0
  KeepsTo = KeepsUpTo key m was shown could_leave since

  -- whatever such calls make and hold
  module _ (Makes : Journal → Journal → Type 0) (Holds : Journal → Type 0) where
    abbrev LeftBy : Type 0
    LeftBy = Leaves key l h was shown Makes Holds since may_leave

    -- behind the opening, at rest
    pub rested : (now : Journal) → IsPrefix m now → LeavesAt key m now seen may_leave → KeepsTo now
        → IsPrefix now h ⊎ ((m : Journal) × IsPrefix m h × ShowsJournal key m was × Makes m now) → Holds now → LeftBy
    rested now longer leaves kept made acknowledged = record {
      low = now;
      high = now;
      grown = prefix_trans l m now low_m longer;
      holds = settled_holds_journal key now shown may_leave leaves.settled;
      kept = kept.kept l h held low_m;
      made = made;
      acknowledged = acknowledged;
    }

    -- before the opening, or in it
    pub unopened : IsUnopened key m seen KeepsTo → Holds l → LeftBy
    unopened is acknowledged =
        let kept = is.kept.kept l h held low_m in
        let still = is.shows_still in
        record {
          low = l;
          high = h;
          grown = prefix_same l;
          holds = record {
            shows = (still.0, still.1, record { held = m; from = low_m; to = m_high; stands_for = still.2 });
            leaves = λ c left.
                let k = kept still.0 c (counted still.0 c still.1 left) in
                (let at : IsBetween (StandsForJournal key) l h c = record {
                  held = k.held;
                  from = k.from;
                  to = ⊎_elim (λ p. p) (λ p. prefix_trans k.held m h p m_high) k.to;
                  stands_for = k.stands_for;
                } in at);
          };
          kept = λ s c at.
              let k = kept s c at in
              record { held = k.held; from = k.from; to = ⊎_elim (λ p. inl p) (λ p. inl (prefix_trans k.held m h p m_high)) k.to; stands_for = k.stands_for };
          made = inl (prefix_same h);
          acknowledged = acknowledged;
        }

  -- ---- a run

  module _ (typed : List ℕ) where
    abbrev lines : List InputLine
    lines = lines_behind (lines_in typed)

    abbrev MakesLines : Journal → Journal → Type 0
    MakesLines first j = IsMadeOf first lines j

    abbrev HoldsLines : Journal → Type 0
    HoldsLines j = HoldsRun key was typed written_before written_after j

    abbrev Left : Type 0
    Left = Leaves key l h was shown MakesLines HoldsLines since may_leave

    settled : (asked : List Request) (rest : List InputLine) (asks : Asks asked lines rest) (session : SessionOver version_limits m asked)
        → Stood true version_limits m session.drawn asks → LeavesAt key m session.now seen may_leave → KeepsTo session.now
        → WhereBothTold written_before written_after (PrintsCut session.replies) → Left
    settled asked rest asks session stood leaves kept prints =
        rested MakesLines HoldsLines session.now (session_begins version_limits m asked session) leaves kept
        (inr (m, m_high, shows, session_made m asked lines rest asks session stood))
        (inr (m, shows, record { asked = asked; rest = rest; asks = asks; session = session; stood = stood; prints = prints; holds = prefix_same session.now }))

    ran_on : (rest : List InputLine) → HasRun version_limits key m lines rest seen may_leave KeepsTo → Left
    ran_on rest run = settled run.asked rest run.asks run.session (all_stood version_limits m run.session.drawn run.asked lines rest run.asks run.stood) run.leaves run.kept
        (λ x y before after. whole_is_cut run.session.replies x y (run.prints x y before after))

    cut : RanCut version_limits key m lines seen may_leave KeepsTo → Left
    cut run = settled run.asked run.rest run.asks run.session run.stood run.leaves run.kept run.prints

    to_next : (ran : RanTo version_limits m lines seen) → LeavesAt key m ran.session.now seen may_leave → KeepsTo ran.session.now → Left
    to_next ran leaves kept =
        let fewer = asks_fewer ran.asked ran.next lines ran.rest ran.asks in
        settled ran.asked fewer.0 fewer.1 ran.session (λ rest. fewer.2 version_limits (opened m (joined ran.session.drawn ++ rest)) (ran.stood rest)) leaves kept
        (λ x y before after. whole_is_cut ran.session.replies x y (ran.prints x y before after))

    unwritten : RanUnwritten version_limits key m lines seen may_leave KeepsTo → Left
    unwritten run =
        let ran = run.ran in
        let fewer = asks_fewer ran.asked ran.next lines ran.rest ran.asks in
        record {
          low = ran.session.now;
          high = _;
          grown = prefix_trans l m ran.session.now low_m (session_begins version_limits m ran.asked ran.session);
          holds = run.holds;
          kept = run.kept.kept l h held low_m;
          made = inr (m, m_high, shows, next_made m ran.asked ran.next ran.session ran.is_accepted run.last run.last_count run.last_sizes lines ran.rest ran.asks ran.stood);
          acknowledged = inr (
            m,
            shows,
            record {
              asked = ran.asked;
              rest = fewer.0;
              asks = fewer.1;
              session = ran.session;
              stood = λ rest. fewer.2 version_limits (opened m (joined ran.session.drawn ++ rest)) (ran.stood rest);
              prints = λ x y before after. whole_is_cut ran.session.replies x y (ran.prints x y before after);
              holds = prefix_same ran.session.now;
            },
          );
        }

    closed : IsUnopened key m seen KeepsTo → Left
    closed is = unopened MakesLines HoldsLines is (inl is.unprinted)

    pub left_by : (status : Status) (asked : List Request) → Ends status version_limits key m asked lines seen may_leave KeepsTo → Left
    left_by statuses.Done asked run = ran_on [] run.0
    left_by (statuses.BadScript line) asked run = ran_on run.0 run.2
    left_by statuses.NeedsUpgrade asked run = ran_on lines run.1
    left_by statuses.ReadFault asked run = ⊎_elim (λ is. closed is.1) (λ all. ran_on all.0 all.1) run
    left_by (statuses.RandomShort left need) asked run = to_next run.0.ran run.0.leaves run.0.kept
    left_by statuses.RandomFault asked run = to_next run.0.ran run.0.leaves run.0.kept
    left_by statuses.WriteFault asked run = cut run.0
    left_by statuses.DiskFault asked run = ⊎_elim (λ is. closed is.1) (λ all. unwritten all.0) run
    left_by statuses.OutOfMemory asked run = ⊎_elim (λ is. closed is.1) (λ all. cut all.0) run
    left_by statuses.Usage asked run = absurd run
    left_by statuses.NotAStore asked run = absurd run
    left_by (statuses.Damaged at) asked run = absurd run
    left_by statuses.WrongKey asked run = absurd run
    left_by (statuses.Tampered batch at) asked run = absurd run
    left_by statuses.NotBlank asked run = absurd run
    left_by (statuses.NoHolder known) asked run = absurd run
    left_by statuses.Unseen asked run = absurd run
    left_by statuses.AlreadyNew asked run = absurd run
    left_by (statuses.Behind have want) asked run = absurd run
    left_by (statuses.Forked batches) asked run = absurd run
    left_by statuses.BadProof asked run = absurd run

  -- ---- an upgrade

  abbrev HoldsReply : Journal → Type 0
  HoldsReply j = HoldsUpgrade key was written_before written_after j

  abbrev LeftUpgraded : Type 0
  LeftUpgraded = Leaves key l h was shown IsUpgradeOf HoldsReply since may_leave

  abbrev PrintsNone : Type 0
  PrintsNone = WhereBothTold written_before written_after (λ before after. after ≡ before)

  answered : (done : HasAnswered key m seen may_leave KeepsTo) → HoldsReply done.now → LeftUpgraded
  answered done acknowledged =
      rested IsUpgradeOf HoldsReply done.now (answered_begins m done.drawn done.reply done.now done.answers) done.leaves done.kept
      (⊎_elim
      (λ is. inr (
        m,
        m_high,
        shows,
        record {
          first = done.first;
          is_accepted = is.0;
          drawn = done.drawn;
          drawn_count = is.1;
          drawn_sizes = done.drawn_sizes;
          front = subst (IsPrefix done.now) is.3 (prefix_same done.now);
        },
      ))
      (λ full. inl (subst (λ j. IsPrefix j h) (sym full.3) m_high))
      done.answers)
      acknowledged

  replied : (done : HasAnswered key m seen may_leave KeepsTo) → WhereBothTold written_before written_after (PrintsFront (spell_reply done.reply)) → LeftUpgraded
  replied done prints =
      answered done
      (inr (
        m,
        shows,
        record {
          reply = done.reply;
          drawn = done.drawn;
          drawn_sizes = done.drawn_sizes;
          now = done.now;
          answers = done.answers;
          prints = prints;
          holds = prefix_same done.now;
        },
      ))

  at_rest : (version : ℕ) → HasRested version key m seen may_leave KeepsTo → PrintsNone → LeftUpgraded
  at_rest version rest none = rested IsUpgradeOf HoldsReply m (prefix_same m) rest.leaves rest.kept (inl m_high) (inl none)

  cut_short : WasCutShort key m seen may_leave KeepsTo → PrintsNone → LeftUpgraded
  cut_short run none = record {
    low = m;
    high = upgraded_then m false run.drawn;
    grown = low_m;
    holds = run.holds;
    kept = run.kept.kept l h held low_m;
    made = inr (
      m,
      m_high,
      shows,
      record {
        first = run.first;
        is_accepted = run.is_accepted;
        drawn = run.drawn;
        drawn_count = run.drawn_count;
        drawn_sizes = run.drawn_sizes;
        front = prefix_same (upgraded_then m false run.drawn);
      },
    );
    acknowledged = inl none;
  }

  never_begun : IsUnopened key m seen KeepsTo → PrintsNone → LeftUpgraded
  never_begun is none = unopened IsUpgradeOf HoldsReply is (inl none)

  whole_front : (piece before after : List ℕ) → PrintsAll piece before after → PrintsFront piece before after
  whole_front piece before after is = (length piece, omega arith, is ∙ ap (λ p. before ++ p) (sym (take-length piece)))

  pub upgraded_by : (status : Status) → (reply : Reply) × WhereBothTold written_before written_after (PrintsReply status reply)
      → EndsUpgrade status key m seen may_leave KeepsTo → LeftUpgraded
  upgraded_by statuses.Done printed call = replied call.0 (λ x y before after. whole_front (spell_reply call.0.reply) x y (call.1 x y before after))
  upgraded_by statuses.WriteFault printed call = replied call.0 call.1
  upgraded_by statuses.AlreadyNew printed call = at_rest 2 call.0 printed.1
  upgraded_by (statuses.RandomShort left need) printed call = at_rest 1 call.0 printed.1
  upgraded_by statuses.RandomFault printed call = at_rest 1 call.0 printed.1
  upgraded_by statuses.ReadFault printed call = never_begun call printed.1
  upgraded_by statuses.DiskFault printed call = ⊎_elim (λ is. never_begun is printed.1) (λ run. cut_short run printed.1) call
  upgraded_by statuses.OutOfMemory printed call =
      ⊎_elim (λ is. never_begun is printed.1) (λ opened. ⊎_elim (λ rest. at_rest 1 rest.0 printed.1) (λ done. answered done (inl printed.1)) opened) call
  upgraded_by (statuses.BadScript line) printed call = absurd call
  upgraded_by statuses.NeedsUpgrade printed call = absurd call
  upgraded_by statuses.Usage printed call = absurd call
  upgraded_by statuses.NotAStore printed call = absurd call
  upgraded_by (statuses.Damaged at) printed call = absurd call
  upgraded_by statuses.WrongKey printed call = absurd call
  upgraded_by (statuses.Tampered batch at) printed call = absurd call
  upgraded_by statuses.NotBlank printed call = absurd call
  upgraded_by (statuses.NoHolder known) printed call = absurd call
  upgraded_by statuses.Unseen printed call = absurd call
  upgraded_by (statuses.Behind have want) printed call = absurd call
  upgraded_by (statuses.Forked batches) printed call = absurd call
  upgraded_by statuses.BadProof printed call = absurd call
