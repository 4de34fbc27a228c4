-- Which trials share a veil key.
use Rattle.std.proofs.Common.{◌≡◌, ◌<◌, ◌≤◌, ◌⊎◌, ⊎_elim, inl, inr, ℕ, ◌+◌, List, [], ◌∷◌, ◌++◌, length, arith, sym, ap, ◌∙◌, length-append}
use Rattle.chacha_seal.specs.Sealing.{masked, veil_of}
use Rattle.cry_base.specs.Sets.{In}
use Rattle.cry_base.proofs.Members.{In-append}
use Rattle.commit_journal.specs.Image.{masked_payload}
use Rattle.public_fold.specs.Journal.{Entry, Journal}
use Rattle.public_fold.specs.Journal.Entry.{Did, Made, Session, Upgraded}
use Rattle.journal_bytes.specs.Bytes.{entry_body}
use Rattle.attempt_laws.specs.Trials.{MaskOnePayload, Trial, attempt_of, batch_in}
use Rattle.attempt_laws.proofs.Epochs.{epoch_command, epoch_in, epoch_session, epoch_upgraded}
use Rattle.attempt_laws.proofs.Written.{epochs_agree, numbers_agree}
use Rattle.held_laws.specs.Held.{trials_behind}
use Rattle.held_laws.proofs.Spending.{AreDeeds}

abbrev pub trial_epoch : Trial → ℕ
trial_epoch t = epoch_in (t.behind ++ t.entry ∷ [])

abbrev pub begins_epoch : Journal → Trial
begins_epoch m = record { behind = m; entry = Session }

-- two with one veil key are one, or both begin an epoch
abbrev pub Agree : Trial → Trial → Type 0
Agree t u = trial_epoch t ≡ trial_epoch u → length t.behind ≡ length u.behind → (t ≡ u) ⊎ ((t.entry ≡ Session) × (u.entry ≡ Session))

abbrev pub AllAgree : List Trial → Type 0
AllAgree ts = (t u : Trial) → In t ts → In u ts → Agree t u

other_way : (t u : Trial) → Agree t u → Agree u t
other_way t u agree epochs numbers = ⊎_elim (λ same. inl (sym same)) (λ both. inr (both.1, both.0)) (agree (sym epochs) (sym numbers))

pub agree_both : (xs ys : List Trial) → AllAgree xs → AllAgree ys → ((t u : Trial) → In t xs → In u ys → Agree t u) → AllAgree (xs ++ ys)
agree_both xs ys first second cross t u i j =
    ⊎_elim
    (λ t_first. ⊎_elim (λ u_first. first t u t_first u_first) (λ u_second. cross t u t_first u_second) ((In-append Trial u xs ys).0 j))
    (λ t_second. ⊎_elim (λ u_first. other_way u t (cross u t u_first t_second)) (λ u_second. second t u t_second u_second) ((In-append Trial u xs ys).0 j))
    ((In-append Trial t xs ys).0 i)

-- ---- the trials behind a journal

trials_on : (m : Journal) (entries : List Entry) (u : Trial) → In u (trials_behind m entries) → length m ≤ length u.behind
unfolding trials_behind
trials_on m [] u i = absurd i
trials_on m (entry ∷ entries) u (inl is) = let same : length u.behind ≡ length m = ap (λ (t : Trial). length t.behind) is in omega (arith, same)
trials_on m (entry ∷ entries) u (inr later) =
    let more : length (m ++ entry ∷ []) ≤ length u.behind = trials_on (m ++ entry ∷ []) entries u later in
    let long = length-append m (entry ∷ []) in
    omega (arith, more, long)

pub trials_agree : (m : Journal) (entries : List Entry) → AllAgree (trials_behind m entries)
unfolding trials_behind
trials_agree m [] t u i j epochs numbers = absurd i
trials_agree m (entry ∷ entries) t u (inl one) (inl other) epochs numbers = inl (one ∙ sym other)
trials_agree m (entry ∷ entries) t u (inl one) (inr later) epochs numbers =
    let here : length t.behind ≡ length m = ap (λ (z : Trial). length z.behind) one in
    let more : length (m ++ entry ∷ []) ≤ length u.behind = trials_on (m ++ entry ∷ []) entries u later in
    let long = length-append m (entry ∷ []) in
    absurd (let no : ⊥ = omega (arith, here, more, long, numbers) in no)
trials_agree m (entry ∷ entries) t u (inr later) (inl other) epochs numbers =
    let here : length u.behind ≡ length m = ap (λ (z : Trial). length z.behind) other in
    let more : length (m ++ entry ∷ []) ≤ length t.behind = trials_on (m ++ entry ∷ []) entries t later in
    let long = length-append m (entry ∷ []) in
    absurd (let no : ⊥ = omega (arith, here, more, long, numbers) in no)
trials_agree m (entry ∷ entries) t u (inr one) (inr other) epochs numbers = trials_agree (m ++ entry ∷ []) entries t u one other epochs numbers

deeds_in : (m : Journal) (commands : List Entry) → AreDeeds commands → (u : Trial) → In u (trials_behind m commands) → trial_epoch u ≡ epoch_in m
unfolding trials_behind
deeds_in m [] are u i = absurd i
deeds_in m (Session ∷ commands) are u i = absurd are
deeds_in m (Made version keys ∷ commands) are u i = absurd are
deeds_in m (Did r keys ∷ commands) are u (inl is) = ap trial_epoch is ∙ epoch_command m r keys
deeds_in m (Did r keys ∷ commands) are u (inr later) = deeds_in (m ++ Did r keys ∷ []) commands are u later ∙ epoch_command m r keys
deeds_in m (Upgraded keys ∷ commands) are u (inl is) = ap trial_epoch is ∙ epoch_upgraded m keys
deeds_in m (Upgraded keys ∷ commands) are u (inr later) = deeds_in (m ++ Upgraded keys ∷ []) commands are u later ∙ epoch_upgraded m keys

-- one of the epoch above the journal's last: it begins that epoch, or stands behind the batch that does
abbrev pub LiesBehind : Journal → Trial → Type 0
LiesBehind m u = (trial_epoch u ≡ epoch_in m + 1) × ((u.entry ≡ Session) ⊎ (length m < length u.behind))

pub session_lies : (m : Journal) (commands : List Entry) → AreDeeds commands → (u : Trial) → In u (trials_behind m (Session ∷ commands)) → LiesBehind m u
unfolding trials_behind
session_lies m commands are u (inl is) = (ap trial_epoch is ∙ epoch_session m, inl (ap (λ (t : Trial). t.entry) is))
session_lies m commands are u (inr later) =
    let begun = m ++ Session ∷ [] in
    let more : length begun ≤ length u.behind = trials_on begun commands u later in
    let long = length-append m (Session ∷ []) in
    (deeds_in begun commands are u later ∙ epoch_session m, inr (omega (arith, more, long)))

-- ---- what the veil key masks

no_payload : (key : List ℕ) (m : Journal) (entry : Entry) → entry ≡ Session → (batch_in key (record { behind = m; entry = entry })).payload ≡ []
unfolding batch_in entry_body
no_payload key m entry is = ap (λ (e : Entry). (batch_in key (record { behind = m; entry = e })).payload) is

pub mask_once : (key : List ℕ) (ts : List Trial) → AllAgree ts → MaskOnePayload key ts
unfolding attempt_of
mask_once key ts agree t u i j epochs numbers =
    let number : length t.behind + 1 ≡ length u.behind + 1 = sym (numbers_agree key t) ∙ numbers ∙ numbers_agree key u in
    ⊎_elim
    (λ same. (ap (λ (z : Trial). (batch_in key z).payload) same, ap (λ (z : Trial). masked_payload key (batch_in key z)) same))
    (λ both.
    let payloads : (batch_in key t).payload ≡ (batch_in key u).payload = no_payload key t.behind t.entry both.0 ∙ sym (no_payload key u.behind u.entry both.1) in
    (payloads, λ k. masked (veil_of key (epochs k) (numbers k)) (payloads k)))
    (agree t u i j (sym (epochs_agree key t) ∙ epochs ∙ epochs_agree key u) (omega (arith, number)))
