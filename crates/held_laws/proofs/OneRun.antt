-- What one run under a head tried, and what it left.
use Rattle.std.proofs.Common.{◌≡◌, ◌≤◌, ◌⊎◌, ⊎_elim, inl, inr, ℕ, zero, suc, ◌+◌, Bool, true, false, List, [], ◌∷◌, ◌++◌, length, drop, Option, Some, append-nil, append_assoc, arith, refl, sym, ap, subst, ◌∙◌}
use Rattle.std.proofs.lemmas.Bool.{false≢true}
use Rattle.std.proofs.lemmas.List.{append_cancel_left}
use Rattle.std.proofs.Math.Seq.{drop-append_seam}
use Rattle.batch_log.specs.Handing.{IsStage, IsTornStage}
use Rattle.batch_log.specs.Steps.{written_at}
use Rattle.batch_log.specs.Moments.{FromThenOn}
use Rattle.batch_log.proofs.Handed.{at_start, stage_before, stage_behind, torn_after, torn_before}
use Rattle.batch_log.proofs.InOrder.{on_ends}
use Rattle.commit_journal.specs.Handing.{Hands, Write, all_written, batch_writes, log_writes, opening_writes}
use Rattle.commit_journal.specs.Holding.{IsPrefix}
use Rattle.commit_journal.specs.Image.{Batch, batch_veil, empty_slot, image, spell_batch}
use Rattle.commit_journal.specs.Standing.{last_tag}
use Rattle.commit_journal.proofs.KeptLemmas.{prefix_trans}
use Rattle.cry_base.specs.Limits.{most_store_bytes}
use Rattle.cry_io.specs.declared.disk.Disk as disk
use Rattle.cli_running.specs.Running.{lines_behind, lines_in}
use Rattle.cli_sessions.specs.Sessions.{seen_from}
use Rattle.cli_sessions.specs.Stopping.{KeepsUpTo}
use Rattle.public_fold.specs.Journal.{Entry, Journal}
use Rattle.public_fold.specs.Journal.Entry.{Session}
use Rattle.public_fold.specs.Valid.{IsValid}
use Rattle.journal_bytes.specs.Bytes.{batches_of}
use Rattle.journal_bytes.specs.Journals.{HoldsBetween, ShowsJournal, StandsForJournal}
use Rattle.journal_bytes.proofs.Grown.{batches_grow, journal_recovered}
use Rattle.store_owner.specs.Published.{HasPublished, published_batches}
use Rattle.store_owner.specs.Stopping.{journal_writes}
use Rattle.store_owner.proofs.HandedBatches.{journal_writes_are}
use Rattle.attempt_laws.specs.Spent.{number_of}
use Rattle.attempt_laws.specs.Trials.{Trial, batch_in, trial_writes}
use Rattle.attempt_laws.proofs.Epochs.{epoch_in, epoch_session}
use Rattle.attempt_laws.proofs.Rising.{Rises, spent}
use Rattle.attempt_laws.proofs.Written.{entered_is}
use Rattle.stop_laws.proofs.Kept.{calm_stays}
use Rattle.stop_laws.specs.Runs.{RunOver, ServeOver, UpgradeOver}
use Rattle.handed_laws.specs.Unveiled.{IsHanded, ShowsJoined, batches_behind, unveiled_by}
use Rattle.handed_laws.proofs.Handed.{run_shows}
use Rattle.held_laws.specs.Held.{HeldRun, IsTried, MakesNoEmptyVeil, trials_behind}
use Rattle.held_laws.proofs.Gone.{Gone, gone_by, gone_by_upgrade}
use Rattle.held_laws.proofs.Serves.{served_gone}
use Rattle.cry_base.specs.Sets.{In}
use Rattle.held_laws.proofs.Leaves.{LeavesLog, leaves_log}
use Rattle.held_laws.proofs.Masked.{AllAgree, LiesBehind, begins_epoch, session_lies, trials_agree}
use Rattle.held_laws.proofs.Spending.{AreDeeds, IsMade, deeds_epoch, deeds_front, first_of, session_rises, writes_are}

-- ---- the first of some writes

few_handed : (last : Type 0) (n : ℕ) (ws more : List Write) (y s : List ℕ) → n ≤ length ws → IsHanded last n (ws ++ more) y s → IsStage ws y s ⊎ (last × IsTornStage ws y s)
unfolding IsHanded IsStage IsTornStage
few_handed last zero ws more y s few is = inl (subst (IsStage ws y) (sym is) (at_start ws y))
few_handed last (suc n) [] more y s few is = absurd (let no : ⊥ = omega (arith, few) in no)
few_handed last (suc n) (w ∷ ws) more y s few (inl deeper) =
    ⊎_elim
    (λ stage. inl (inr stage))
    (λ torn. inr (torn.0, inr torn.1))
    (few_handed last n ws more (written_at w.place w.bytes y) s (omega (arith, few)) deeper)
few_handed last (suc n) (w ∷ ws) more y s few (inr torn) = inr (torn.1, inl torn.2)

-- where no batch is unveiled, the first one isn't
few_unveiled : (n : ℕ) (b : Batch) (bs : List Batch) → unveiled_by n (b ∷ bs) ≡ [] → n ≤ 3
unfolding unveiled_by
few_unveiled zero b bs none = omega arith
few_unveiled (suc zero) b bs none = omega arith
few_unveiled (suc (suc zero)) b bs none = omega arith
few_unveiled (suc (suc (suc n))) b bs none = absurd cc

none_behind : {X : Type 0} (xs ys : List X) → ys ≡ [] → xs ++ ys ≡ xs
none_behind xs ys is = ap (λ l. xs ++ l) is ∙ append-nil xs

nothing_more : {X : Type 0} (xs ys : List X) → xs ++ ys ≡ [] → xs ≡ []
nothing_more [] ys is = refl
nothing_more (x ∷ xs) ys is = absurd cc

-- ---- the first batch behind a journal

record FirstBehind (key : List ℕ) (m reached : Journal) : Type 0 where
  more : List Batch
  is : batches_behind key m reached ≡ batch_in key (record { behind = m; entry = Session }) ∷ more
  writes : journal_writes key m reached ≡ log_writes key (batches_of key m) (batch_in key (record { behind = m; entry = Session }) ∷ more)

first_behind : (key : List ℕ) (m reached : Journal) → IsPrefix (m ++ Session ∷ []) reached → FirstBehind key m reached
first_behind key m reached longer =
    let bs = batches_of key m in
    let b = batch_in key (record { behind = m; entry = Session }) in
    let grown = batches_grow key (m ++ Session ∷ []) reached longer in
    let all : batches_of key reached ≡ bs ++ b ∷ grown.0 =
    sym grown.1 ∙ ap (λ (l : List Batch). l ++ grown.0) (entered_is key m Session) ∙ append_assoc bs (b ∷ []) grown.0 in
    record {
      more = grown.0;
      is = ap (λ (l : List Batch). drop (length bs) l) all ∙ drop-append_seam bs (b ∷ grown.0);
      writes = journal_writes_are key m reached (b ∷ grown.0) all;
    }

-- ---- which of the two journals was left

-- the journal itself, or one that has the session's epoch
left_is : (m h reached : Journal) (commands : List Entry) → reached ≡ m ++ Session ∷ commands → IsPrefix m h → IsPrefix h reached
    → (h ≡ m) ⊎ ((rest : List Entry) × (h ≡ m ++ Session ∷ rest) × IsPrefix rest commands)
left_is m h reached commands is ([], from) to = inl (sym from ∙ append-nil m)
left_is m h reached commands is (entry ∷ rest, from) to =
    let both : entry ∷ (rest ++ to.0) ≡ Session ∷ commands =
    append_cancel_left m (entry ∷ (rest ++ to.0)) (Session ∷ commands) (sym (append_assoc m (entry ∷ rest) to.0) ∙ ap (λ (l : Journal). l ++ to.0) from ∙ to.1 ∙ is) in
    let first : entry ≡ Session = cc in
    let others : rest ++ to.0 ≡ commands = cc in
    inr (rest, sym from ∙ ap (λ (e : Entry). m ++ e ∷ rest) first, (to.0, others))

has_entry : (m rest : List Entry) (e : Entry) → (first : Entry) × (others : List Entry) × (m ++ e ∷ rest ≡ first ∷ others)
has_entry [] rest e = (e, rest, refl)
has_entry (x ∷ m) rest e = (x, m ++ e ∷ rest, refl)

left_log : (key : List ℕ) (j : Journal) (first : Entry) (others : Journal) (left : List ℕ) → j ≡ first ∷ others → StandsForJournal key j left → LeavesLog key left (length j) (epoch_in j)
left_log key j first others left is stands =
    subst (λ (l : Journal). LeavesLog key left (length l) (epoch_in l)) (sym is)
    (leaves_log key first others left (subst (λ (l : Journal). StandsForJournal key l left) is stands))

begun_epoch : (m h : Journal) (rest : List Entry) → h ≡ m ++ Session ∷ rest → AreDeeds rest → epoch_in h ≡ epoch_in m + 1
begun_epoch m h rest is are = ap epoch_in (is ∙ sym (append_assoc m (Session ∷ []) rest)) ∙ deeds_epoch (m ++ Session ∷ []) rest are ∙ epoch_session m

first_entry : (m : Journal) → IsValid m → (first : Entry) × (others : Journal) × (m ≡ first ∷ others)
first_entry [] valid = absurd valid.0
first_entry (entry ∷ m) valid = (entry, m, refl)

-- ---- one run

-- a session that began its epoch spends numbers of that epoch, and its epoch is in the log that it left
pub record Spends (key left : List ℕ) (m : Journal) (tried : List Trial) : Type 0 where
  pub rises : Rises number_of (spent tried) (first_of (epoch_in m + 1)) (first_of (epoch_in m + 2))
  pub batches : ℕ
  pub leaves : LeavesLog key left batches (epoch_in m + 1)

-- it began its epoch, which a stop took back: the journal alone is in the log that it left
pub record Loses (key left : List ℕ) (m : Journal) (tried : List Trial) : Type 0 where
  pub one : tried ≡ begins_epoch m ∷ []
  pub leaves : LeavesLog key left (length m) (epoch_in m)

pub record Tried {D : Type 0} (disks : disk.Ghosts D) (key : List ℕ) (run : HeldRun disks key) : Type 0 where
  pub tried : List Trial
  pub is : IsTried disks key run tried
  pub lies : (u : Trial) → In u tried → LiesBehind run.found u
  pub agree : AllAgree tried
  pub spends : (tried ≡ []) ⊎ (Loses key run.left run.found tried ⊎ Spends key run.left run.found tried)

module _ {D : Type 0} (disks : disk.Ghosts D)
    (counted : (d : D) (t : ℕ) (s c : List ℕ) → t ≤ disks.moment d → disks.shown d ≡ Some s → disks.may_leave d c → disks.since d t s c)
    (present : (d : D) (s c : List ℕ) → disks.since d (disks.moment d) s c → (disks.shown d ≡ Some s) × disks.may_leave d c) (key : List ℕ)
    (veiled : MakesNoEmptyVeil key) (run : HeldRun disks key) where
  abbrev m : Journal
  m = run.found

  abbrev was : Option (List ℕ)
  was = disks.shown run.before

  abbrev shown : Option (List ℕ)
  shown = disks.shown run.after

  abbrev since : List ℕ → List ℕ → Type 0
  since = disks.since run.after (disks.moment run.before)

  abbrev fills : List Write
  fills = opening_writes most_store_bytes key run.image

  abbrev AllHanded : List Write → Type 0
  AllHanded ws = Hands ws (Unit {0}) was shown since

  shows_found : ShowsJournal key m was
  shows_found = (run.image, run.shows, run.stands_for)

  abbrev Goes : Type 0
  Goes = Gone key m shown (disks.may_leave run.after) (KeepsUpTo key m was shown (disks.may_leave run.before) since)

  goes : Goes
  goes =
      ⊎_elim
      (λ (r : RunOver disks key run.before run.after).
      gone_by key m run.stands_for.valid (lines_behind (lines_in r.typed)) (seen_from r.left_before r.left_after was shown r.written_before r.written_after) (disks.may_leave run.after)
      (KeepsUpTo key m was shown (disks.may_leave run.before) since) run.stands_for.whole_keys r.status r.asked (r.ran key m r.hands_in shows_found))
      (λ other. ⊎_elim
      (λ (v : ServeOver disks key run.before run.after).
      served_gone key m run.stands_for.valid (seen_from v.left_before v.left_after was shown v.written_before v.written_after) (disks.may_leave run.after)
      (KeepsUpTo key m was shown (disks.may_leave run.before) since) run.stands_for.whole_keys v.status v.turns v.asked (v.ran key m v.hands_in shows_found))
      (λ (u : UpgradeOver disks key run.before run.after).
      gone_by_upgrade key m run.stands_for.valid [] (seen_from u.left_before u.left_after was shown u.written_before u.written_after) (disks.may_leave run.after)
      (KeepsUpTo key m was shown (disks.may_leave run.before) since) run.stands_for.whole_keys u.status (u.ran key m u.hands_in shows_found))
      other)
      run.call

  -- no stop takes back what was published
  stays_published : FromThenOn disks.moment disks.since run.before run.after (HasPublished key)
  stays_published =
      let calm = calm_stays key was (disks.may_leave run.before) run.calm in
      ⊎_elim
      (λ (r : RunOver disks key run.before run.after). r.published key m r.hands_in shows_found calm)
      (λ other. ⊎_elim
      (λ (v : ServeOver disks key run.before run.after). v.published key m v.hands_in shows_found calm)
      (λ (u : UpgradeOver disks key run.before run.after). u.published key m u.hands_in shows_found calm)
      other)
      run.call

  -- all that it made was handed over
  hands_all : (entries : List Entry) (gone : Goes) → gone.reached ≡ m ++ entries → AllHanded (fills ++ trial_writes key (trials_behind m entries))
  hands_all entries gone is =
      subst AllHanded (ap (λ (ws : List Write). fills ++ ws) (ap (λ (j : Journal). journal_writes key m j) is ∙ sym (writes_are key m entries))) (gone.kept.hands run.image run.shows)

  abbrev alone : List Write
  alone = log_writes key (batches_of key m) (batch_in key (record { behind = m; entry = Session }) ∷ [])

  abbrev IsAlone : List ℕ → Type 0
  IsAlone s = IsStage (fills ++ alone) run.image s ⊎ (Unit {0} × (shown ≡ Some s) × IsTornStage (fills ++ alone) run.image s)

  -- where the journal alone was left, no command's batch was handed over
  module _ (gone : Goes) (longer : IsPrefix (m ++ Session ∷ []) gone.reached) (stands : StandsForJournal key m run.left) (end : List ℕ) (is_end : shown ≡ Some end) where
    abbrev y : List ℕ
    y = all_written fills run.image

    joined_alone : (s c : List ℕ) → since s c → ShowsJoined key m gone.reached y shown s → IsAlone s
    unfolding log_writes
    joined_alone s c at joined =
        let bs = batches_of key m in
        let b = batch_in key (record { behind = m; entry = Session }) in
        let first = first_behind key m gone.reached longer in
        let has : HasPublished key s run.left =
        on_ends D disks.moment disks.since (HasPublished key) run.before run.after stays_published shown (disks.may_leave run.after) (λ s c now. present run.after s c now)
        (λ t s c early is left. counted run.after t s c early is left) s c end run.left at is_end run.leaves in
        let unveiled = unveiled_by joined.0 (batches_behind key m gone.reached) in
        let within = prefix_trans (bs ++ unveiled) (published_batches key s) bs joined.2 (subst (IsPrefix (published_batches key s)) (journal_recovered key m run.left stands) has) in
        let none : unveiled ++ within.0 ≡ [] =
        append_cancel_left bs (unveiled ++ within.0) [] (sym (append_assoc bs unveiled within.0) ∙ within.1 ∙ sym (append-nil bs)) in
        let few : joined.0 ≤ 3 = few_unveiled joined.0 b first.more (sym (ap (unveiled_by joined.0) first.is) ∙ nothing_more unveiled within.0 none) in
        let writes = batch_writes (length (image key bs) + 1) (spell_batch key (last_tag key bs) empty_slot b ++ 0 ∷ []) (batch_veil key b) in
        ⊎_elim
        (λ stage. inl (stage_behind fills alone run.image s stage))
        (λ torn. inr (tt, torn.0, torn_after fills alone run.image s torn.1))
        (few_handed (shown ≡ Some s) joined.0 writes (log_writes key (bs ++ b ∷ []) first.more) y s few
        (subst (λ (ws : List Write). IsHanded (shown ≡ Some s) joined.0 ws y s) first.writes joined.1))

    hands_alone : AllHanded (fills ++ trial_writes key (trials_behind m (Session ∷ [])))
    unfolding trials_behind trial_writes
    hands_alone x is_x s c at =
        let same : run.image ≡ x = let both = sym run.shows ∙ is_x in cc in
        let shape : fills ++ alone ≡ fills ++ (alone ++ []) = ap (λ (ws : List Write). fills ++ ws) (sym (append-nil alone)) in
        let from : IsPrefix m gone.reached = prefix_trans m (m ++ Session ∷ []) gone.reached (Session ∷ [], refl) longer in
        let shows = run_shows key m gone.reached run.image was shown since run.shows run.stands_for from gone.valid gone.whole_keys (λ b i. veiled b.epoch b.number)
        (gone.kept.hands run.image run.shows) s c at in
        let here : IsAlone s =
        ⊎_elim
        (λ stage. inl (stage_before fills alone run.image s stage))
        (λ other. ⊎_elim (λ torn. inr (tt, torn.0, torn_before fills alone run.image s torn.1)) (λ joined. joined_alone s c at joined) other)
        shows in
        subst (λ (z : List ℕ). IsStage (fills ++ (alone ++ [])) z s ⊎ (Unit {0} × (shown ≡ Some s) × IsTornStage (fills ++ (alone ++ [])) z s)) same
        (subst (λ (ws : List Write). IsStage ws run.image s ⊎ (Unit {0} × (shown ≡ Some s) × IsTornStage ws run.image s)) shape here)

  one_trial : trials_behind m (Session ∷ []) ≡ begins_epoch m ∷ []
  unfolding trials_behind
  one_trial = refl

  -- a session that began its epoch
  began : (gone : Goes) (commands : List Entry) → gone.reached ≡ m ++ Session ∷ commands → AreDeeds commands → HoldsBetween key m gone.reached shown (disks.may_leave run.after) → Tried disks key run
  began gone commands is are holds =
      let at = holds.leaves run.left run.leaves in
      ⊎_elim
      (λ (same : at.held ≡ m).
      let longer : IsPrefix (m ++ Session ∷ []) gone.reached = (commands, append_assoc m (Session ∷ []) commands ∙ sym is) in
      let stands = subst (λ (j : Journal). StandsForJournal key j run.left) same at.stands_for in
      let first = first_entry m run.stands_for.valid in
      let result : Tried disks key run = record {
        tried = trials_behind m (Session ∷ []);
        is = record { entries = Session ∷ []; behind = refl; hands = hands_alone gone longer stands holds.shows.0 holds.shows.1 };
        lies = session_lies m [] tt;
        agree = trials_agree m (Session ∷ []);
        spends = inr (inl (record { one = one_trial; leaves = left_log key m first.0 first.1 run.left first.2 stands }));
      } in result)
      (λ more.
      let rest_are = deeds_front more.0 more.2.0 (subst AreDeeds (sym more.2.1) are) in
      let some = has_entry m more.0 Session in
      let log = left_log key at.held some.0 some.1 run.left (more.1 ∙ some.2) at.stands_for in
      let result : Tried disks key run = record {
        tried = trials_behind m (Session ∷ commands);
        is = record { entries = Session ∷ commands; behind = refl; hands = hands_all (Session ∷ commands) gone is };
        lies = session_lies m commands are;
        agree = trials_agree m (Session ∷ commands);
        spends = inr (inr (record {
          rises = session_rises m commands are (subst IsValid is gone.valid);
          batches = length at.held;
          leaves = subst (LeavesLog key run.left (length at.held)) (begun_epoch m at.held more.0 more.1 rest_are) log;
        }));
      } in result)
      (left_is m at.held gone.reached commands is at.from at.to)

  none_tried : trials_behind m [] ≡ []
  unfolding trials_behind
  none_tried = refl

  by_session : (gone : Goes) (b : Bool) → gone.begun ≡ b → Tried disks key run
  by_session gone false is =
      let made = subst (λ (b : Bool). IsMade m b gone.reached) is gone.made in
      record {
        tried = trials_behind m [];
        is = record { entries = []; behind = refl; hands = hands_all [] gone (made.is ∙ ap (λ (l : List Entry). m ++ l) made.session) };
        lies = λ u i. absurd (subst (λ (ts : List Trial). In u ts) none_tried i);
        agree = trials_agree m [];
        spends = inl none_tried;
      }
  by_session gone true is =
      let made = subst (λ (b : Bool). IsMade m b gone.reached) is gone.made in
      ⊎_elim
      (λ (none : gone.begun ≡ false). absurd (false≢true (sym none ∙ is)))
      (λ holds. began gone made.session.0 (made.is ∙ ap (λ (l : List Entry). m ++ l) made.session.1) made.session.2 holds)
      gone.lasts

  pub one_run : Tried disks key run
  one_run = by_session goes goes.begun refl
