-- Two batches of all that were written share a veil key only where both begin an epoch behind one journal.
use Rattle.std.proofs.Common.{◌≡◌, ◌<◌, ◌≤◌, ℕ, zero, suc, ◌+◌, Bool, true, false, cond, ◌⊎◌, inl, inr, ⊎_elim, List, [], ◌∷◌, ◌++◌, length, append-nil, arith, refl, sym, ap, subst, ◌∙◌}
use Rattle.std.specs.Prelude.{slice_index_or}
use Rattle.std.proofs.lemmas.List.{length-append}
use Rattle.std.proofs.lemmas.Bool.{false≢true}
use Rattle.cry_base.specs.Sets.{In}
use Rattle.cry_base.proofs.Members.{In-append}
use Rattle.public_fold.specs.Journal.{Journal}
use Rattle.public_fold.specs.Journal.Entry.{Session, Made, Did, Upgraded}
use Rattle.journal_bytes.specs.Attempts.{Course, begun_journal, course_then}
use Rattle.journal_bytes.specs.Attempts.Event.{IsRefused, Enters, IsAbandoned, LosesEpoch, Ends, Reopens}
use Rattle.journal_bytes.proofs.NextEntry.{between}
use Rattle.store_owner.specs.Deeds.{Deed, deed_entry}
use Rattle.store_owner.specs.Deeds.Deed.{Commanded, Upgrading}
use Rattle.attempt_laws.specs.Trials.{Befalls, BeginsEpoch, Happening, ShareVeil, ShareWithThemselves, Trial, UpgradeEnters, UpgradeIsAbandoned, UpgradeIsRefused}
use Rattle.attempt_laws.specs.Trials.{all_trials, attempt_of, course_behind, deed_trial, epoch_trial, made_course, trials, trials_at, trials_with}
use Rattle.attempt_laws.proofs.Epochs.{course, epoch_between, epoch_deed, epoch_in, epoch_made, epoch_session, length_between}

-- an epoch and a number, as one: both rise, and where neither does, this doesn't
abbrev pub rank : Trial → ℕ
rank t = epoch_in (t.behind ++ t.entry ∷ []) + (length t.behind + 1)

-- that of what is written next
abbrev next_rank : Journal → Bool → ℕ
next_rank m b = epoch_in (between m b) + (length m + 1)

abbrev session_behind : Journal → Trial
session_behind m = record { behind = m; entry = Session }

abbrev deed_behind : Journal → Deed → List (List ℕ) → Trial
deed_behind m d keys = record { behind = m; entry = deed_entry d keys }

-- a batch that is written from here on: where it has the next rank and no epoch is begun, it is the epoch's
abbrev IsAhead : Journal → Bool → Trial → Type 0
IsAhead m b u = (next_rank m b < rank u) ⊎ ((next_rank m b ≡ rank u) × (b ≡ false → u ≡ session_behind m))

ahead_low : (m : Journal) (b : Bool) (u : Trial) → IsAhead m b u → next_rank m b ≤ rank u
ahead_low m b u h = ⊎_elim
    (λ (l : next_rank m b < rank u). omega (arith, l))
    (λ e. let same : next_rank m b ≡ rank u = e.0 in omega (arith, same))
    h

-- two that share a rank both begin an epoch behind one journal
abbrev pub AreOne : Trial → Trial → Type 0
AreOne t u = (t.entry ≡ Session) × (t ≡ u)

abbrev pub AreApart : List Trial → Type 0
AreApart [] = Unit {0}
AreApart (t ∷ ts) = ((u : Trial) → In u ts → rank t ≡ rank u → AreOne t u) × AreApart ts

apart-append : (xs ys : List Trial) → AreApart xs → AreApart ys
    → ((t u : Trial) → In t xs → In u ys → rank t ≡ rank u → AreOne t u) → AreApart (xs ++ ys)
apart-append [] ys a b cross = b
apart-append (x ∷ xs) ys a b cross = (
  λ u i e. ⊎_elim (λ l. a.0 u l e) (λ r. cross x u (inl refl) r e) ((In-append Trial u xs ys).0 i),
  apart-append xs ys a.1 b (λ t u i j e. cross t u (inr i) j e),
)

-- ---- the ranks of what is written

deed_rank : (m : Journal) (b : Bool) (d : Deed) (keys : List (List ℕ))
    → rank (deed_behind (between m b) d keys) ≡ next_rank m b + cond b 0 1
deed_rank m b d keys =
    let same : epoch_in (between m b ++ deed_entry d keys ∷ []) ≡ epoch_in (between m b) = epoch_deed (between m b) d keys in
    let long : length (between m b) ≡ length m + cond b 0 1 = length_between m b in
    omega (arith, same, long)

entered_rank : (m : Journal) (b : Bool) (d : Deed) (keys : List (List ℕ))
    → next_rank (between m b ++ deed_entry d keys ∷ []) true ≡ next_rank m b + cond b 0 1 + 1
entered_rank m b d keys =
    let n = between m b ++ deed_entry d keys ∷ [] in
    let nil : epoch_in (n ++ []) ≡ epoch_in n = ap epoch_in (append-nil n) in
    let same : epoch_in (between m b ++ deed_entry d keys ∷ []) ≡ epoch_in (between m b) = epoch_deed (between m b) d keys in
    let more : length (between m b ++ deed_entry d keys ∷ []) ≡ length (between m b) + 1 = length-append (between m b) (deed_entry d keys ∷ []) in
    let long : length (between m b) ≡ length m + cond b 0 1 = length_between m b in
    omega (arith, nil, same, more, long)

abandoned_rank : (m : Journal) (b : Bool) → next_rank (between m b) false ≡ next_rank m b + cond b 0 1 + 1
abandoned_rank m b =
    let next : epoch_in (between m b ++ Session ∷ []) ≡ epoch_in (between m b) + 1 = epoch_session (between m b) in
    let long : length (between m b) ≡ length m + cond b 0 1 = length_between m b in
    omega (arith, next, long)

begun_rank : (m : Journal) (b : Bool) → next_rank (between m b) true ≡ next_rank m b + cond b 0 1
begun_rank m b =
    let nil : epoch_in (between m b ++ []) ≡ epoch_in (between m b) = ap epoch_in (append-nil (between m b)) in
    let long : length (between m b) ≡ length m + cond b 0 1 = length_between m b in
    omega (arith, nil, long)

ended_rank : (m : Journal) → next_rank m false ≡ next_rank m true + 1
ended_rank m =
    let a : epoch_in (between m true) ≡ epoch_in m + 0 = epoch_between m true in
    let b : epoch_in (between m false) ≡ epoch_in m + 1 = epoch_between m false in
    omega (arith, a, b)

-- ---- what is written at one happening
-- the epoch's batch and that of a command or an upgrade, as they are written together
abbrev trials_both : Journal → Bool → Deed → List (List ℕ) → List Trial
trials_both m b d keys = epoch_trial (course m b) ++ deed_trial (course m b) d keys ∷ []

epoch_is : (m : Journal) (b : Bool) (t : Trial) → In t (epoch_trial (course m b)) → (b ≡ false) × (t ≡ session_behind m)
unfolding epoch_trial
epoch_is m true t i = absurd i
epoch_is m false t i = ⊎_elim (λ (e : t ≡ session_behind m). (refl, e)) (λ n. absurd n) i

both_are : (m : Journal) (b : Bool) (d : Deed) (keys : List (List ℕ)) (t : Trial) → In t (trials_both m b d keys)
    → ((b ≡ false) × (t ≡ session_behind m)) ⊎ (t ≡ deed_behind (between m b) d keys)
unfolding deed_trial begun_journal
both_are m b d keys t i = ⊎_elim
    (λ l. inl (epoch_is m b t l))
    (λ s. ⊎_elim (λ (e : t ≡ deed_behind (between m b) d keys). inr e) (λ n. absurd n) s)
    ((In-append Trial t (epoch_trial (course m b)) (deed_trial (course m b) d keys ∷ [])).0 i)

session_ahead : (m : Journal) (b : Bool) (t : Trial) → b ≡ false → t ≡ session_behind m → IsAhead m b t
session_ahead m true t h e = absurd (false≢true (sym h))
session_ahead m false t h e = inr (sym (ap rank e), λ _. e)

deed_ahead : (m : Journal) (b : Bool) (d : Deed) (keys : List (List ℕ)) → IsAhead m b (deed_behind (between m b) d keys)
deed_ahead m true d keys =
    let same : rank (deed_behind (between m true) d keys) ≡ next_rank m true + 0 = deed_rank m true d keys in
    let told : next_rank m true ≡ rank (deed_behind (between m true) d keys) = omega (arith, same) in
    inr (told, λ h. absurd (false≢true (sym h)))
deed_ahead m false d keys =
    let same : rank (deed_behind (between m false) d keys) ≡ next_rank m false + 1 = deed_rank m false d keys in
    let told : next_rank m false < rank (deed_behind (between m false) d keys) = omega (arith, same) in inl told

both_ahead : (m : Journal) (b : Bool) (d : Deed) (keys : List (List ℕ)) (t : Trial) → In t (trials_both m b d keys) → IsAhead m b t
both_ahead m b d keys t i = ⊎_elim
    (λ l. session_ahead m b t l.0 l.1)
    (λ (e : t ≡ deed_behind (between m b) d keys). subst (λ z. IsAhead m b z) (sym e) (deed_ahead m b d keys))
    (both_are m b d keys t i)

both_low : (m : Journal) (b : Bool) (d : Deed) (keys : List (List ℕ)) (t : Trial) → In t (trials_both m b d keys)
    → rank t ≤ next_rank m b + cond b 0 1
both_low m b d keys t i = ⊎_elim
    (λ l. session_low b l.0 l.1)
    (λ (e : t ≡ deed_behind (between m b) d keys).
    let same : rank t ≡ next_rank m b + cond b 0 1 = ap rank e ∙ deed_rank m b d keys in omega (arith, same))
    (both_are m b d keys t i)
  where
    session_low : (b : Bool) → b ≡ false → t ≡ session_behind m → rank t ≤ next_rank m b + cond b 0 1
    session_low true h e = absurd (false≢true (sym h))
    session_low false h e = let same : rank t ≡ next_rank m false = ap rank e in omega (arith, same)

epoch_apart : (m : Journal) (b : Bool) → AreApart (epoch_trial (course m b))
unfolding epoch_trial
epoch_apart m true = tt
epoch_apart m false = (λ u i e. absurd i, tt)

both_apart : (m : Journal) (b : Bool) (d : Deed) (keys : List (List ℕ)) → AreApart (trials_both m b d keys)
unfolding deed_trial begun_journal
both_apart m b d keys =
    apart-append (epoch_trial (course m b)) (deed_trial (course m b) d keys ∷ []) (epoch_apart m b) (λ u i e. absurd i, tt)
    (λ t u i j e. ⊎_elim
    (λ (s : u ≡ deed_behind (between m b) d keys).
    let is = epoch_is m b t i in absurd (differ b is.0 is.1 (e ∙ ap rank s ∙ deed_rank m b d keys)))
    (λ n. absurd n) j)
  where
    differ : {t : Trial} (b : Bool) → b ≡ false → t ≡ session_behind m → rank t ≡ next_rank m b + cond b 0 1 → ⊥
    differ {t} true h e s = false≢true (sym h)
    differ {t} false h e s = let same : rank t ≡ next_rank m false = ap rank e in absurd (omega (arith, same, s))

-- ---- each happening

ended_ahead : (m : Journal) (b : Bool) (u : Trial) → IsAhead m false u → IsAhead m b u
ended_ahead m false u h = h
ended_ahead m true u h =
    let low : next_rank m false ≤ rank u = ahead_low m false u h in
    let more : next_rank m false ≡ next_rank m true + 1 = ended_rank m in
    let told : next_rank m true < rank u = omega (arith, low, more) in inl told

begun_ahead : (m : Journal) (b : Bool) (u : Trial) → IsAhead (between m b) true u → IsAhead m b u
begun_ahead m false u h =
    let low : next_rank (between m false) true ≤ rank u = ahead_low (between m false) true u h in
    let more : next_rank (between m false) true ≡ next_rank m false + 1 = begun_rank m false in
    let told : next_rank m false < rank u = omega (arith, low, more) in inl told
begun_ahead m true u h =
    let more : next_rank (between m true) true ≡ next_rank m true + 0 = begun_rank m true in ⊎_elim
    (λ (l : next_rank (between m true) true < rank u). let told : next_rank m true < rank u = omega (arith, l, more) in inl told)
    (λ e.
    let same : next_rank (between m true) true ≡ rank u = e.0 in
    let told : next_rank m true ≡ rank u = omega (arith, same, more) in inr (told, λ g. absurd (false≢true (sym g))))
    h

entered_ahead : (m : Journal) (b : Bool) (d : Deed) (keys : List (List ℕ)) (u : Trial)
    → IsAhead (between m b ++ deed_entry d keys ∷ []) true u → IsAhead m b u
entered_ahead m b d keys u h =
    let low : next_rank (between m b ++ deed_entry d keys ∷ []) true ≤ rank u = ahead_low (between m b ++ deed_entry d keys ∷ []) true u h in
    let more : next_rank (between m b ++ deed_entry d keys ∷ []) true ≡ next_rank m b + cond b 0 1 + 1 = entered_rank m b d keys in
    let told : next_rank m b < rank u = omega (arith, low, more) in inl told

abandoned_ahead : (m : Journal) (b : Bool) (u : Trial) → IsAhead (between m b) false u → IsAhead m b u
abandoned_ahead m b u h =
    let low : next_rank (between m b) false ≤ rank u = ahead_low (between m b) false u h in
    let more : next_rank (between m b) false ≡ next_rank m b + cond b 0 1 + 1 = abandoned_rank m b in
    let told : next_rank m b < rank u = omega (arith, low, more) in inl told

abbrev IsBehind : Course → Trial → Type 0
IsBehind c u = IsAhead c.journal c.begun u

written_ahead : (m : Journal) (b : Bool) (now : Happening) (t : Trial) → In t (trials_at (course m b) now) → IsAhead m b t
unfolding trials_at trials_with
written_ahead m b (Befalls (IsRefused r)) t i = absurd i
written_ahead m b (Befalls (Enters r keys)) t i = both_ahead m b (Commanded r) keys t i
written_ahead m b (Befalls (IsAbandoned r keys)) t i = both_ahead m b (Commanded r) keys t i
written_ahead m b (Befalls LosesEpoch) t i = session_ahead m b t (epoch_is m b t i).0 (epoch_is m b t i).1
written_ahead m b (Befalls Ends) t i = absurd i
written_ahead m b (Befalls Reopens) t i = absurd i
written_ahead m b BeginsEpoch t i = session_ahead m b t (epoch_is m b t i).0 (epoch_is m b t i).1
written_ahead m b UpgradeIsRefused t i = absurd i
written_ahead m b (UpgradeEnters keys) t i = both_ahead m b Upgrading keys t i
written_ahead m b (UpgradeIsAbandoned keys) t i = both_ahead m b Upgrading keys t i

later_ahead : (m : Journal) (b : Bool) (now : Happening) (u : Trial) → IsBehind (course_behind (course m b) now) u → IsAhead m b u
unfolding course_behind course_then begun_journal
later_ahead m b (Befalls (IsRefused r)) u h = h
later_ahead m b (Befalls (Enters r keys)) u h = entered_ahead m b (Commanded r) keys u h
later_ahead m b (Befalls (IsAbandoned r keys)) u h = abandoned_ahead m b u h
later_ahead m b (Befalls LosesEpoch) u h = ended_ahead m b u h
later_ahead m b (Befalls Ends) u h = ended_ahead m b u h
later_ahead m b (Befalls Reopens) u h = ended_ahead m b u h
later_ahead m b BeginsEpoch u h = begun_ahead m b u h
later_ahead m b UpgradeIsRefused u h = h
later_ahead m b (UpgradeEnters keys) u h = entered_ahead m b Upgrading keys u h
later_ahead m b (UpgradeIsAbandoned keys) u h = abandoned_ahead m b u h

now_apart : (m : Journal) (b : Bool) (now : Happening) → AreApart (trials_at (course m b) now)
unfolding trials_at trials_with
now_apart m b (Befalls (IsRefused r)) = tt
now_apart m b (Befalls (Enters r keys)) = both_apart m b (Commanded r) keys
now_apart m b (Befalls (IsAbandoned r keys)) = both_apart m b (Commanded r) keys
now_apart m b (Befalls LosesEpoch) = epoch_apart m b
now_apart m b (Befalls Ends) = tt
now_apart m b (Befalls Reopens) = tt
now_apart m b BeginsEpoch = epoch_apart m b
now_apart m b UpgradeIsRefused = tt
now_apart m b (UpgradeEnters keys) = both_apart m b Upgrading keys
now_apart m b (UpgradeIsAbandoned keys) = both_apart m b Upgrading keys

-- an epoch that was lost is attempted again as it was
lost_again : (m : Journal) (b : Bool) (t u : Trial) → In t (epoch_trial (course m b)) → IsAhead m false u → rank t ≡ rank u → AreOne t u
lost_again m b t u i h e =
    let s : t ≡ session_behind m = (epoch_is m b t i).1 in
    let same : rank t ≡ next_rank m false = ap rank s in ⊎_elim
    (λ (l : next_rank m false < rank u). absurd (omega (arith, l, same, e)))
    (λ (w : (next_rank m false ≡ rank u) × (false ≡ false → u ≡ session_behind m)). (ap (λ (z : Trial). z.entry) s, s ∙ sym (w.1 refl)))
    h

begun_once : (m : Journal) (b : Bool) (t u : Trial) → In t (epoch_trial (course m b)) → IsAhead (between m b) true u
    → rank t ≡ rank u → AreOne t u
begun_once m true t u i h e = absurd (false≢true (sym (epoch_is m true t i).0))
begun_once m false t u i h e =
    let same : rank t ≡ next_rank m false = ap rank (epoch_is m false t i).1 in
    let low : next_rank (between m false) true ≤ rank u = ahead_low (between m false) true u h in
    let more : next_rank (between m false) true ≡ next_rank m false + 1 = begun_rank m false in
    absurd (omega (arith, same, low, more, e))

deed_once : (m : Journal) (b : Bool) (d : Deed) (keys : List (List ℕ)) (t u : Trial) → In t (trials_both m b d keys)
    → next_rank m b + cond b 0 1 + 1 ≤ rank u → rank t ≡ rank u → AreOne t u
deed_once m b d keys t u i low e =
    let top : rank t ≤ next_rank m b + cond b 0 1 = both_low m b d keys t i in absurd (omega (arith, top, low, e))

now_once : (m : Journal) (b : Bool) (now : Happening) (t u : Trial) → In t (trials_at (course m b) now)
    → IsBehind (course_behind (course m b) now) u → rank t ≡ rank u → AreOne t u
unfolding trials_at trials_with course_behind course_then begun_journal
now_once m b (Befalls (IsRefused r)) t u i h e = absurd i
now_once m b (Befalls (Enters r keys)) t u i h e =
    let low = ahead_low (between m b ++ Did r keys ∷ []) true u h in
    deed_once m b (Commanded r) keys t u i (subst (λ n. n ≤ rank u) (entered_rank m b (Commanded r) keys) low) e
now_once m b (Befalls (IsAbandoned r keys)) t u i h e =
    deed_once m b (Commanded r) keys t u i (subst (λ n. n ≤ rank u) (abandoned_rank m b) (ahead_low (between m b) false u h)) e
now_once m b (Befalls LosesEpoch) t u i h e = lost_again m b t u i h e
now_once m b (Befalls Ends) t u i h e = absurd i
now_once m b (Befalls Reopens) t u i h e = absurd i
now_once m b BeginsEpoch t u i h e = begun_once m b t u i h e
now_once m b UpgradeIsRefused t u i h e = absurd i
now_once m b (UpgradeEnters keys) t u i h e =
    let low = ahead_low (between m b ++ Upgraded keys ∷ []) true u h in
    deed_once m b Upgrading keys t u i (subst (λ n. n ≤ rank u) (entered_rank m b Upgrading keys) low) e
now_once m b (UpgradeIsAbandoned keys) t u i h e =
    deed_once m b Upgrading keys t u i (subst (λ n. n ≤ rank u) (abandoned_rank m b) (ahead_low (between m b) false u h)) e

-- ---- all of them

trials_ahead : (c : Course) (later : List Happening) (u : Trial) → In u (trials c later) → IsBehind c u
unfolding trials
trials_ahead c [] u i = absurd i
trials_ahead c (now ∷ later) u i = ⊎_elim
    (λ l. written_ahead c.journal c.begun now u l)
    (λ r. later_ahead c.journal c.begun now u (trials_ahead (course_behind c now) later u r))
    ((In-append Trial u (trials_at c now) (trials (course_behind c now) later)).0 i)

trials_apart : (c : Course) (later : List Happening) → AreApart (trials c later)
unfolding trials
trials_apart c [] = tt
trials_apart c (now ∷ later) =
    let then = course_behind c now in
    apart-append (trials_at c now) (trials then later) (now_apart c.journal c.begun now) (trials_apart then later)
    (λ t u i j e. now_once c.journal c.begun now t u i (trials_ahead then later u j) e)

pub all_apart : (version : ℕ) (keys : List (List ℕ)) (later : List Happening) → AreApart (all_trials version keys later)
unfolding all_trials made_course
all_apart version keys later =
    let m : Journal = Session ∷ Made version keys ∷ [] in
    let one : epoch_in (Session ∷ []) ≡ epoch_in [] + 1 = epoch_session [] in
    let two : epoch_in m ≡ epoch_in (Session ∷ []) = epoch_made (Session ∷ []) version keys in
    let three : epoch_in (m ++ Session ∷ []) ≡ epoch_in m + 1 = epoch_session m in
    let after : (u : Trial) → In u (trials (made_course version keys) later) → epoch_in m + 4 ≤ rank u = λ u i.
    let ahead = trials_ahead (made_course version keys) later u i in
    let low : epoch_in (m ++ Session ∷ []) + (2 + 1) ≤ rank u = ahead_low m false u ahead in omega (arith, low, three)
    in (
      λ u i e. ⊎_elim
          (λ (s : u ≡ record { behind = Session ∷ []; entry = Made version keys }).
          let first : epoch_in (Session ∷ []) + 1 ≡ epoch_in m + 2 = e ∙ ap rank s in absurd (omega (arith, two, first)))
          (λ r.
          let low : epoch_in m + 4 ≤ rank u = after u r in
          let first : epoch_in (Session ∷ []) + 1 ≡ rank u = e in absurd (omega (arith, two, low, first)))
          i,
      (
        λ u i e.
            let low : epoch_in m + 4 ≤ rank u = after u i in
            let first : epoch_in m + 2 ≡ rank u = e in absurd (omega (arith, low, first)),
        trials_apart (made_course version keys) later,
      ),
    )

-- ---- by places

ranks_share : (t u : Trial) → ShareVeil t u → rank t ≡ rank u
unfolding attempt_of
ranks_share t u h =
    let a : epoch_in (t.behind ++ t.entry ∷ []) ≡ epoch_in (u.behind ++ u.entry ∷ []) = h.0 in
    let b : length t.behind + 1 ≡ length u.behind + 1 = h.1 in
    omega (arith, a, b)

in_at : (ts : List Trial) (i : ℕ) (d : Trial) → i < length ts → In (slice_index_or ts i d) ts
in_at [] i d h = absurd (omega arith)
in_at (t ∷ ts) zero d h = inl refl
in_at (t ∷ ts) (suc i) d h = inr (in_at ts i d (omega arith))

pub apart_share : (ts : List Trial) → AreApart ts → ShareWithThemselves ts
apart_share [] a i j d h k s = absurd (omega arith)
apart_share (t ∷ ts) a zero zero d h k s = inl refl
apart_share (t ∷ ts) a zero (suc j) d h k s = let u = slice_index_or ts j d in inr (a.0 u (in_at ts j d (omega arith)) (ranks_share t u s))
apart_share (t ∷ ts) a (suc i) zero d h k s =
    let u = slice_index_or ts i d in
    let told : AreOne t u = a.0 u (in_at ts i d (omega arith)) (sym (ranks_share u t s)) in
    inr (ap (λ (z : Trial). z.entry) (sym told.1) ∙ told.0, sym told.1)
apart_share (t ∷ ts) a (suc i) (suc j) d h k s = ⊎_elim
    (λ (e : i ≡ j). inl (ap suc e))
    (λ e. inr e)
    (apart_share ts a.1 i j d (omega arith) (omega arith) s)

pub apart_same : (ts : List Trial) → AreApart ts → (t u : Trial) → In t ts → In u ts → ShareVeil t u → t ≡ u
apart_same [] a t u i j s = absurd i
apart_same (x ∷ ts) a t u i j s = ⊎_elim
    (λ (e : t ≡ x). ⊎_elim
    (λ (f : u ≡ x). e ∙ sym f)
    (λ r. e ∙ (a.0 u r (ap rank (sym e) ∙ ranks_share t u s)).1)
    j)
    (λ l. ⊎_elim
    (λ (f : u ≡ x). sym (a.0 t l (ap rank (sym f) ∙ sym (ranks_share t u s))).1 ∙ sym f)
    (λ r. apart_same ts a.1 t u l r s)
    j)
    i
