-- Lines of the owner's between which the disk is only read, over a journal: what was drawn for them, asked and replied, and where they end.
use Rattle.std.proofs.Common.{◌≡◌, ◌≢◌, ℕ, false, drop, arith, inl, List, [], ◌∷◌, ◌++◌, length, Some, Ok, All, refl, sym, ap, subst, ◌∙◌}
use Rattle.std.specs.Prelude.{is_some}
use Rattle.std.proofs.lemmas.List.{append-nil, append_cancel_left}
use Rattle.std.proofs.lemmas.List.Elements.{All-nil, All-tail}
use Rattle.cry_base.specs.Requests.{Request}
use Rattle.cry_base.specs.declared.commands.Reply.{Reply}
use Rattle.cry_base.specs.declared.limits.Limits.{Limits}
use Rattle.cry_io.specs.Told.{WhereBothTold}
use Rattle.cry_io.proofs.ToldLemmas.{told_again}
use Rattle.journal_bytes.specs.Journals.{StandsWholeForJournal}
use Rattle.journal_bytes.specs.Script.{Going, script_going, script_replies}
use Rattle.script_text.specs.Tasks.{Task}
use Rattle.script_text.specs.Tasks.Task.{Does, Replaces}
use Rattle.store_owner.specs.Drawing.{AreKeys, joined}
use Rattle.store_owner.specs.Sessions.{with_draws}
use Rattle.store_owner.specs.Stopping.{RestsAt}
use Rattle.store_owner.specs.declared.apply_fault.ApplyFault.{ApplyFault}
use Rattle.cli_sessions.specs.OwnerSteps.{AnswersIn, Scene, StandsIn}
use Rattle.cli_sessions.specs.Script.{Answered, LineWent, StandsFor}
use Rattle.cli_sessions.proofs.AnsweredScripts.{IsNow, IsScene, joined_more}
use Rattle.cli_sessions.proofs.LineScripts.{Reached, line_stands, reached_on, replied_so, went_so}
use Rattle.cli_sessions.proofs.ScriptLemmas.{same_told}
use Rattle.cli_sessions.proofs.StopLemmas.{stays_begun}
use Rattle.cli_sessions.proofs.StoodLemmas.{exact_line, going_append}
use Rattle.cli_serving.proofs.ReadBetween.{block_behind}
use Rattle.cli_serving.proofs.LinesGo.{LineGoes}

all_back : {X : Type 0} (P : X → Type 0) (xs ys : List X) → All P (xs ++ ys) → All P ys
all_back P [] ys all = all
all_back P (x ∷ xs) ys all = all_back P xs ys (All-tail P x (xs ++ ys) all)

module _ (X : Type 0) (scene : X → Scene) (leaves : X → List ℕ → Type 0) (since : X → ℕ → List ℕ → List ℕ → Type 0) (Step : X → Request → Reply → X → Type 0) (Fails : X → Request → ApplyFault → X → Type 0)
    (is : (x : X) (r : Request) (reply : Reply) (y : X) → Step x r reply y → AnswersIn (scene x) r reply (scene y) (leaves x) (leaves y) (since x) (since y)) (start : X)
    (limits : Limits) (key : List ℕ) (g : Going) (stands : IsScene limits key g (scene start)) (now : IsNow X scene leaves since Step is start)
    (rests : RestsAt key g.journal (scene start).shown (leaves start))
    (Stand : X → ℕ → List Request → Type 0) (so : (x : X) (n : ℕ) (commands : List Request) → Stand x n commands → StandsIn (scene x).owner n commands)
    (Reads : X → X → Type 0)
    (nothing : (x : X) → Reads x x)
    (reads_on : (x y z : X) → Reads x y → Reads y z → Reads x z)
    (behind : (x z : X) → Reads x z → (request : Request) (reply : Reply) (y : X) → Step z request reply y → Step x request reply y)
    (same_left : (x z : X) → Reads x z → (scene z).left ≡ (scene x).left)
    (same_shown : (x z : X) → Reads x z → (scene z).shown ≡ (scene x).shown)
    (same_stand : (x z : X) → Reads x z → (n : ℕ) (commands : List Request) → Stand z n commands → Stand x n commands) where
  abbrev pub There : List Request → List Reply → X → Type 0
  There asked given z = Reached X scene leaves since Step Fails is start limits key g stands now rests asked given z

  -- where the owner is behind these commands, and whatever was read since
  pub record At (asked : List Request) (given : List Reply) (drawn : List (List ℕ)) (h : Going) (x : X) : Type 0 where
    pub z : X
    pub reached : There asked given z
    pub at_is : reached.at ≡ h
    pub drawn_is : reached.went.drawn ≡ drawn
    pub read : Reads z x

  none_asked : There [] [] start
  unfolding script_going script_replies
  none_asked = record {
    at = g;
    went = record {
      drawn = [];
      drawn_sizes = All-nil (λ (k : List ℕ). length k ≡ 32);
      next_bytes = λ x y was then. sym (same_told (scene start).left x y was then);
      goes = λ rest. refl;
      replied = λ rest. refl;
    };
    there = stands;
    tail = record {
      behind = λ x y e f. let one : y ≡ x = cc in ap (λ b. drop (scene start).owner.journal.end b) one;
      further = omega arith;
      no_shorter = omega arith;
      unchanged = inl refl;
    };
    stays = stays_begun key g.journal (scene start).moment (scene start).shown (leaves start) (since start) now rests;
    counted = λ all. all;
    left_told = refl;
  }

  pub at_start : At [] [] [] g start
  unfolding none_asked
  at_start = record {
    z = start;
    reached = none_asked;
    at_is = refl;
    drawn_is = refl;
    read = nothing start;
  }

  pub at_read : (asked : List Request) (given : List Reply) (drawn : List (List ℕ)) (h : Going) (x y : X) → At asked given drawn h x → Reads x y →
      ((scene y).left ≡ (scene x).left) × At asked given drawn h y
  at_read asked given drawn h x y at reads = (
    same_left x y reads,
    record { z = at.z; reached = at.reached; at_is = at.at_is; drawn_is = at.drawn_is; read = reads_on at.z x y at.read reads },
  )

  pub at_whole : (asked : List Request) (given : List Reply) (drawn : List (List ℕ)) (h : Going) (x : X) → At asked given drawn h x →
      (bytes : List ℕ) × ((scene x).shown ≡ Some bytes) × StandsWholeForJournal key h.journal bytes
  at_whole asked given drawn h x at =
      let shows = at.reached.stays.rests.shows in (
        shows.0,
        same_shown at.z x at.read ∙ shows.1,
        subst (λ (k : Going). StandsWholeForJournal key k.journal shows.0) at.at_is shows.2,
      )

  -- ---- a line

  pub stands_before : (x z : X) → Reads x z → (task : Task) (commands : List Request) → StandsFor Stand z task commands → StandsFor Stand x task commands
  stands_before x z reads (Does r) commands for = for
  stands_before x z reads (Replaces n) commands for = (same_stand x z reads n commands for.0, for.1)

  module _ (asked : List Request) (given : List Reply) (z x : X) (reached : There asked given z) (read : Reads z x) (block : List Request) (replies : List Reply) (y : X)
      (some : block ≢ []) (done : Answered Step x block replies y) where
    answered : Answered Step z block replies y
    answered = block_behind X Step Reads behind z x read block replies y some done

    pub after : (next : There (asked ++ block) (given ++ replies) y) × (more : List (List ℕ)) × (next.went.drawn ≡ reached.went.drawn ++ more)
    after = reached_on X scene leaves since Step Fails is start limits key g stands now rests asked given z reached block replies y answered

    abbrev pub at_now : List ℕ → Going
    at_now rest = with_draws reached.at (joined after.1 ++ rest)

    pub replied_there : (rest : List ℕ) → script_replies limits (at_now rest) block ≡ replies
    replied_there rest =
        replied_so X scene leaves since Step Fails is start limits key g stands now rests Stand so asked given z reached block replies y (asked ++ block) refl after.0 after.1 after.2 rest

    pub goes_there : (rest : List ℕ) → script_going limits (at_now rest) block ≡ with_draws after.0.at rest
    goes_there rest =
        let from = with_draws g (joined after.0.went.drawn ++ rest) in
        ap (λ (h : Going). script_going limits h block)
        (sym (went_so X scene leaves since Step Fails is start limits key g stands now rests Stand so asked given z reached block replies y (asked ++ block) refl after.0 after.1 after.2 rest))
        ∙ sym (going_append limits from asked block)
        ∙ after.0.went.goes rest

    next_bytes : WhereBothTold (scene x).left (scene y).left (λ a b. a ≡ joined after.1 ++ b)
    next_bytes a b is_a is_b =
        let is_z : (scene z).left ≡ Some a = sym (same_left z x read) ∙ is_a in
        let first = told_again (scene z).left (scene start).left a (sym reached.left_told) is_z in
        let before : first.0 ≡ joined reached.went.drawn ++ a = reached.went.next_bytes first.0 a first.1 is_z in
        let then : first.0 ≡ joined after.0.went.drawn ++ b = after.0.went.next_bytes first.0 b first.1 is_b in
        let both : joined after.0.went.drawn ++ b ≡ joined reached.went.drawn ++ (joined after.1 ++ b) =
        ap (λ (keys : List (List ℕ)). joined keys ++ b) after.2 ∙ joined_more reached.went.drawn after.1 b
        in
        append_cancel_left (joined reached.went.drawn) a (joined after.1 ++ b) (sym before ∙ (then ∙ both))

    -- where the session stands before them
    pub stood_there : (rest : List ℕ) → script_going limits (with_draws g (joined after.0.went.drawn ++ rest)) asked ≡ at_now rest
    stood_there rest = went_so X scene leaves since Step Fails is start limits key g stands now rests Stand so asked given z reached block replies y (asked ++ block) refl after.0 after.1 after.2 rest

  module _ (asked : List Request) (given : List Reply) (z x : X) (reached : There asked given z) (read : Reads z x) (task : Task) (block : List Request) (replies : List Reply) (y : X)
      (went : LineWent Step Fails Stand false (Ok tt) x task block replies y) where
    abbrev next : (next : There (asked ++ block) (given ++ replies) y) × (more : List (List ℕ)) × (next.went.drawn ≡ reached.went.drawn ++ more)
    next = after asked given z x reached read block replies y went.some_asked went.stands

    abbrev here : List ℕ → Going
    here rest = at_now asked given z x reached read block replies y went.some_asked went.stands rest

    line_there : (one : LineGoes limits reached.at task block replies next.0.at (scene x).left (scene y).left) × (one.drawn ≡ next.1)
    line_there = (
      record {
        drawn = next.1;
        drawn_sizes = all_back (λ (k : List ℕ). length k ≡ 32) reached.went.drawn next.1 (subst (λ (keys : List (List ℕ)). AreKeys keys) next.2 next.0.went.drawn_sizes);
        told = next.0.left_told ∙ sym reached.left_told ∙ ap is_some (sym (same_left z x read));
        next_bytes = next_bytes asked given z x reached read block replies y went.some_asked went.stands;
        stood = λ rest.
            exact_line limits (here rest) task went.commands block replies
            (line_stands X scene leaves since Step Fails is start limits key g stands now rests Stand so z reached.at reached.there task went.commands (stands_before z x read task went.commands went.stands_for))
            went.asked ([], append-nil replies ∙ sym (replied_there asked given z x reached read block replies y went.some_asked went.stands rest));
        goes = goes_there asked given z x reached read block replies y went.some_asked went.stands;
        replied = replied_there asked given z x reached read block replies y went.some_asked went.stands;
      },
      refl,
    )

    line_goes : (h : Going) × (one : LineGoes limits reached.at task block replies h (scene x).left (scene y).left)
        × At (asked ++ block) (given ++ replies) (reached.went.drawn ++ one.drawn) h y
    unfolding line_there
    line_goes = (
      next.0.at,
      line_there.0,
      record { z = y; reached = next.0; at_is = refl; drawn_is = next.2; read = nothing y },
    )

  pub at_line : (asked : List Request) (given : List Reply) (drawn : List (List ℕ)) (h : Going) (x : X) (task : Task) (block : List Request) (replies : List Reply) (y : X)
      → At asked given drawn h x → LineWent Step Fails Stand false (Ok tt) x task block replies y
      → (k : Going) × (one : LineGoes limits h task block replies k (scene x).left (scene y).left) × At (asked ++ block) (given ++ replies) (drawn ++ one.drawn) k y
  at_line asked given drawn h x task block replies y at went =
      subst (λ (keys : List (List ℕ)). (k : Going) × (one : LineGoes limits h task block replies k (scene x).left (scene y).left) × At (asked ++ block) (given ++ replies) (keys ++ one.drawn) k y) at.drawn_is
      (subst (λ (j : Going). (k : Going) × (one : LineGoes limits j task block replies k (scene x).left (scene y).left) × At (asked ++ block) (given ++ replies) (at.reached.went.drawn ++ one.drawn) k y) at.at_is
      (line_goes asked given at.z x at.reached at.read task block replies y went))
