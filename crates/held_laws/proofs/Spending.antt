-- What the entries of one session spend, and by which writes they join their journal.
use Rattle.std.proofs.Common.{◌≡◌, ◌≤◌, ℕ, ◌+◌, ◌*◌, ◌^◌, Bool, true, false, List, [], ◌∷◌, ◌++◌, Option, Some, None, append-nil, append_assoc, arith, refl, sym, ap, subst, ◌∙◌}
use Rattle.cry_base.specs.Requests.{Request}
use Rattle.cry_base.specs.declared.limits.Limits.{Limits}
use Rattle.cry_base.specs.declared.commands.Refusal.{Refusal}
use Rattle.commit_journal.specs.Handing.{Write, log_writes}
use Rattle.public_fold.specs.Journal.{Entry, Journal, keys_of, nothing, stand_after}
use Rattle.public_fold.specs.Journal.Entry.{Did, Made, Session, Upgraded}
use Rattle.public_fold.specs.KeyStep.{next_epoch, next_serial}
use Rattle.public_fold.specs.Valid.{IsValid}
use Rattle.journal_bytes.specs.Bytes.{batches_of}
use Rattle.journal_bytes.specs.Script.{Going, accepted_going, answer, draws_of, journal_then, keys_from, line_going, script_going}
use Rattle.journal_bytes.specs.Upgrading.{upgraded_then}
use Rattle.store_owner.specs.Stopping.{journal_writes}
use Rattle.store_owner.proofs.HandedBatches.{no_writes, writes_both}
use Rattle.attempt_laws.specs.Spent.{Spender, all_spenders, number_of, spenders_in}
use Rattle.attempt_laws.specs.Trials.{attempt_of, batch_in, held, trial_writes}
use Rattle.attempt_laws.proofs.Called.{entry_writes}
use Rattle.attempt_laws.proofs.Epochs.{epoch_command, epoch_in, epoch_session, epoch_upgraded, keys_session}
use Rattle.attempt_laws.proofs.Rising.{Rises, command_rises, count_low, next_in, rises-append, rises_to, spent, upgrade_rises}
use Rattle.held_laws.specs.Held.{trials_behind}

-- ---- the entries of one session

-- commands and upgrades alone
abbrev pub AreDeeds : List Entry → Type 0
AreDeeds [] = Unit {0}
AreDeeds (Session ∷ entries) = ⊥
AreDeeds (Made version keys ∷ entries) = ⊥
AreDeeds (Did r keys ∷ entries) = AreDeeds entries
AreDeeds (Upgraded keys ∷ entries) = AreDeeds entries

-- nothing, where the session has begun no epoch; else its epoch, and these
abbrev pub IsSession : Bool → List Entry → Type 0
IsSession false entries = entries ≡ []
IsSession true entries = (commands : List Entry) × (entries ≡ Session ∷ commands) × AreDeeds commands

deed_more : (commands : List Entry) (r : Request) (keys : List (List ℕ)) → AreDeeds commands → AreDeeds (commands ++ Did r keys ∷ [])
deed_more [] r keys are = tt
deed_more (Session ∷ commands) r keys are = absurd are
deed_more (Made version drawn ∷ commands) r keys are = absurd are
deed_more (Did asked drawn ∷ commands) r keys are = deed_more commands r keys are
deed_more (Upgraded drawn ∷ commands) r keys are = deed_more commands r keys are

pub deeds_front : (front more : List Entry) → AreDeeds (front ++ more) → AreDeeds front
deeds_front [] more are = tt
deeds_front (Session ∷ front) more are = absurd are
deeds_front (Made version drawn ∷ front) more are = absurd are
deeds_front (Did r drawn ∷ front) more are = deeds_front front more are
deeds_front (Upgraded drawn ∷ front) more are = deeds_front front more are

-- a journal that a session made of another
pub record IsMade (m : Journal) (begun : Bool) (j : Journal) : Type 0 where
  pub entries : List Entry
  pub is : j ≡ m ++ entries
  pub session : IsSession begun entries

pub made_next : (m : Journal) (b : Bool) (j : Journal) (r : Request) (keys : List (List ℕ)) → IsMade m b j → IsMade m true (journal_then j b r keys)
made_next m true j r keys made =
    let commands = made.session.0 in
    let all = commands ++ Did r keys ∷ [] in
    record {
      entries = Session ∷ all;
      is = ap (λ l. l ++ Did r keys ∷ []) (append-nil j ∙ made.is ∙ ap (λ l. m ++ l) made.session.1) ∙ append_assoc m (Session ∷ commands) (Did r keys ∷ []);
      session = (all, refl, deed_more commands r keys made.session.2);
    }
made_next m false j r keys made =
    let none : j ≡ m = made.is ∙ ap (λ l. m ++ l) made.session ∙ append-nil m in
    record {
      entries = Session ∷ Did r keys ∷ [];
      is = ap (λ l. (l ++ Session ∷ []) ++ Did r keys ∷ []) none ∙ append_assoc m (Session ∷ []) (Did r keys ∷ []);
      session = (Did r keys ∷ [], refl, tt);
    }

-- so did an upgrade
pub made_upgraded : (m : Journal) (keys : List (List ℕ)) → IsMade m true (upgraded_then m false keys)
made_upgraded m keys = record {
  entries = Session ∷ Upgraded keys ∷ [];
  is = append_assoc m (Session ∷ []) (Upgraded keys ∷ []);
  session = (Upgraded keys ∷ [], refl, tt);
}

pub made_by_script : (limits : Limits) (m : Journal) (g : Going) (rs : List Request) → IsMade m g.begun g.journal
    → IsMade m (script_going limits g rs).begun (script_going limits g rs).journal
unfolding script_going line_going accepted_going
made_by_script limits m g [] made = made
made_by_script limits m g (r ∷ rs) made =
    made_by_script limits m (line_going g r (answer limits g.journal g.begun r)) rs (by_line (answer limits g.journal g.begun r))
  where
    by_line : (o : Option Refusal) → IsMade m (line_going g r o).begun (line_going g r o).journal
    by_line None = made_next m g.begun g.journal r (keys_from (draws_of g.journal r) g.draws) made
    by_line (Some why) = made

-- ---- what they spend

deeds_rise : (m : Journal) (commands : List Entry) → AreDeeds commands
    → Rises number_of (spent (trials_behind m commands)) (next_in m) (next_in (m ++ commands))
unfolding trials_behind all_spenders attempt_of
deeds_rise m [] are = let same : next_in (m ++ []) ≡ next_in m = ap next_in (append-nil m) in omega (arith, same)
deeds_rise m (Session ∷ commands) are = absurd are
deeds_rise m (Made version keys ∷ commands) are = absurd are
deeds_rise m (Did r keys ∷ commands) are =
    let then = m ++ Did r keys ∷ [] in
    let here = spenders_in (held (stand_after nothing m) (Did r keys)) in
    let rest = spent (trials_behind then commands) in
    subst (λ l. Rises number_of (here ++ rest) (next_in m) (next_in l)) (append_assoc m (Did r keys ∷ []) commands)
    (rises-append Spender number_of here rest (next_in m) (next_in then) (next_in (then ++ commands)) (command_rises m r keys) (deeds_rise then commands are))
deeds_rise m (Upgraded keys ∷ commands) are =
    let then = m ++ Upgraded keys ∷ [] in
    let here = spenders_in (held (stand_after nothing m) (Upgraded keys)) in
    let rest = spent (trials_behind then commands) in
    subst (λ l. Rises number_of (here ++ rest) (next_in m) (next_in l)) (append_assoc m (Upgraded keys ∷ []) commands)
    (rises-append Spender number_of here rest (next_in m) (next_in then) (next_in (then ++ commands)) (upgrade_rises m keys) (deeds_rise then commands are))

pub deeds_epoch : (m : Journal) (commands : List Entry) → AreDeeds commands → epoch_in (m ++ commands) ≡ epoch_in m
deeds_epoch m [] are = ap epoch_in (append-nil m)
deeds_epoch m (Session ∷ commands) are = absurd are
deeds_epoch m (Made version keys ∷ commands) are = absurd are
deeds_epoch m (Did r keys ∷ commands) are =
    ap epoch_in (sym (append_assoc m (Did r keys ∷ []) commands)) ∙ deeds_epoch (m ++ Did r keys ∷ []) commands are ∙ epoch_command m r keys
deeds_epoch m (Upgraded keys ∷ commands) are =
    ap epoch_in (sym (append_assoc m (Upgraded keys ∷ []) commands)) ∙ deeds_epoch (m ++ Upgraded keys ∷ []) commands are ∙ epoch_upgraded m keys

-- the numbers of an epoch
abbrev pub first_of : ℕ → ℕ
first_of epoch = epoch * 2 ^ 32

begins_at : (m : Journal) → next_in (m ++ Session ∷ []) ≡ first_of (epoch_in m + 1)
unfolding next_serial next_epoch
begins_at m =
    let same : next_in (m ++ Session ∷ []) ≡ next_serial (next_epoch (keys_of m)) = ap next_serial (keys_session m) in omega (arith, same)

ends_below : (m : Journal) → IsValid m → next_in m ≤ first_of (epoch_in m + 1)
unfolding next_serial
ends_below m valid = let low = count_low m valid in omega (arith, low)

-- those of a session lie in its epoch, which is the one above the journal's last
pub session_rises : (m : Journal) (commands : List Entry) → AreDeeds commands → IsValid (m ++ Session ∷ commands)
    → Rises number_of (spent (trials_behind m (Session ∷ commands))) (first_of (epoch_in m + 1)) (first_of (epoch_in m + 2))
unfolding trials_behind all_spenders attempt_of held spenders_in
session_rises m commands are valid =
    let begun = m ++ Session ∷ [] in
    let all = begun ++ commands in
    let same : all ≡ m ++ Session ∷ commands = append_assoc m (Session ∷ []) commands in
    let low : next_in begun ≡ first_of (epoch_in m + 1) = begins_at m in
    let high : next_in all ≤ first_of (epoch_in all + 1) = ends_below all (subst IsValid (sym same) valid) in
    let epoch : epoch_in all ≡ epoch_in m + 1 = deeds_epoch begun commands are ∙ epoch_session m in
    let rise = deeds_rise begun commands are in
    subst (λ n. Rises number_of (spent (trials_behind begun commands)) n (first_of (epoch_in m + 2))) low
    (rises_to Spender number_of (spent (trials_behind begun commands)) (next_in begun) (next_in all) (first_of (epoch_in m + 2)) (omega (arith, high, epoch)) rise)

-- ---- their writes

pub writes_are : (key : List ℕ) (m : Journal) (entries : List Entry) → trial_writes key (trials_behind m entries) ≡ journal_writes key m (m ++ entries)
unfolding trials_behind trial_writes
writes_are key m [] = sym (ap (λ (l : Journal). journal_writes key m l) (append-nil m) ∙ no_writes key m)
writes_are key m (entry ∷ entries) =
    let then = m ++ entry ∷ [] in
    let here = log_writes key (batches_of key m) (batch_in key (record { behind = m; entry = entry }) ∷ []) in
    ap (λ (ws : List Write). here ++ ws) (writes_are key then entries)
    ∙ ap (λ (ws : List Write). ws ++ journal_writes key then (then ++ entries)) (sym (entry_writes key m entry))
    ∙ sym (writes_both key m then (then ++ entries) (entry ∷ [], refl) (entries, refl))
    ∙ ap (λ (l : Journal). journal_writes key m l) (append_assoc m (entry ∷ []) entries)
