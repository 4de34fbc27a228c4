-- Numbers of the counter rise from one thing that spends them to the next, over all attempts.
use Rattle.std.proofs.Common.{◌≡◌, ◌<◌, ◌≤◌, ℕ, zero, suc, ◌+◌, ◌*◌, ◌^◌, Bool, true, false, List, [], ◌∷◌, ◌++◌, length, map, Option, None, Some, append-nil, append_assoc, arith, refl, sym, ap, subst, ◌∙◌}
use Rattle.std.specs.Prelude.{nat_lt, slice_index_or}
use Rattle.std.proofs.lemmas.Bool.{ltb-false}
use Rattle.cry_base.specs.Limits.{most_file_bytes, most_store_bytes}
use Rattle.cry_base.specs.Refusing.{refusal_in}
use Rattle.cry_base.specs.Requests.{Request}
use Rattle.cry_base.specs.declared.commands.Refusal.{Refusal}
use Rattle.cry_base.specs.declared.limits.Limits.{Limits}
use Rattle.cry_base.specs.declared.roles.Edge.{Edge}
use Rattle.cry_base.specs.declared.roles.Role.{Role}
use Rattle.move_plan.specs.Change.{Change, change_of}
use Rattle.cry_base.specs.Stepping.{effect}
use Rattle.cry_base.specs.Store.{root_store}
use Rattle.role_graph.specs.Edges.{edges}
use Rattle.move_plan.specs.Noting.{note_of}
use Rattle.record_format.specs.Noted.Note.{Upgrade}
use Rattle.public_fold.specs.Journal.{Journal, first_key, nothing, root_note, entry_step, keys_of, note_step, stand_after, store_of}
use Rattle.public_fold.specs.Journal.Entry.{Session, Made, Did, Upgraded}
use Rattle.public_fold.specs.KeyStep.{KeyState, content_of, contents_from, given, is_strict, key_step, keys_then, link_of, links_from, next_epoch, next_serial, numbered, published, published_edges, renewed, step_with}
use Rattle.public_fold.specs.Records.{Content, Link, Piece, pieces_of}
use Rattle.public_fold.specs.Valid.{IsValid, IsVersion}
use Rattle.public_fold.proofs.Serials.{numbered-length}
use Rattle.public_fold.proofs.SerialsKept.{journal_count}
use Rattle.journal_bytes.specs.Attempts.{Course, begun_journal, course_then}
use Rattle.journal_bytes.specs.Attempts.Event.{IsRefused, Enters, IsAbandoned, LosesEpoch, Ends, Reopens}
use Rattle.journal_bytes.specs.Script.{answer, answer_with}
use Rattle.journal_bytes.specs.Upgrading.{upgrade_answer}
use Rattle.journal_bytes.proofs.NextEntry.{between}
use Rattle.store_owner.specs.Deeds.{Deed, deed_answer, deed_end, deed_entry, deed_refusal}
use Rattle.store_owner.specs.Deeds.Deed.{Commanded, Upgrading}
use Rattle.store_owner.proofs.DeedSteps.{deed_begun, deed_valid}
use Rattle.store_owner.proofs.MadeOwner.{made_valid}
use Rattle.attempt_laws.specs.Happenings.{CanHappen, IsAccepted, IsCourse, IsDrawnFor}
use Rattle.attempt_laws.specs.Spent.{AContent, AKey, ALink, Differ, Spender, all_spenders, number_of, spenders_in}
use Rattle.attempt_laws.specs.Trials.{Befalls, BeginsEpoch, Happening, Trial, UpgradeEnters, UpgradeIsAbandoned, UpgradeIsRefused, all_trials, attempt_of}
use Rattle.attempt_laws.specs.Trials.{course_after, course_behind, deed_trial, epoch_trial, held, made_course, trials, trials_at, trials_with}
use Rattle.attempt_laws.proofs.Epochs.{course, epoch_deed, keys_more, keys_session}

-- ---- lists whose numbers rise

-- the numbers rise, each at least low and below high
abbrev pub Rises : {X : Type 0} → (X → ℕ) → List X → ℕ → ℕ → Type 0
Rises number [] low high = low ≤ high
Rises number (x ∷ xs) low high = (low ≤ number x) × Rises number xs (number x + 1) high

pub rises_from : (X : Type 0) (number : X → ℕ) (xs : List X) (low next high : ℕ) → low ≤ next → Rises number xs next high
    → Rises number xs low high
rises_from X number [] low next high h r = omega (arith, h, r)
rises_from X number (x ∷ xs) low next high h r = let first : next ≤ number x = r.0 in (omega (arith, h, first), r.1)

pub rises_to : (X : Type 0) (number : X → ℕ) (xs : List X) (low next high : ℕ) → next ≤ high → Rises number xs low next
    → Rises number xs low high
rises_to X number [] low next high h r = omega (arith, h, r)
rises_to X number (x ∷ xs) low next high h r = (r.0, rises_to X number xs (number x + 1) next high h r.1)

pub rises-append : (X : Type 0) (number : X → ℕ) (xs ys : List X) (low next high : ℕ) → Rises number xs low next
    → Rises number ys next high → Rises number (xs ++ ys) low high
rises-append X number [] ys low next high r s = rises_from X number ys low next high r s
rises-append X number (x ∷ xs) ys low next high r s = (r.0, rises-append X number xs ys (number x + 1) next high r.1 s)

rises_above : (X : Type 0) (number : X → ℕ) (xs : List X) (low high i : ℕ) (d : X) → Rises number xs low high → i < length xs
    → low ≤ number (slice_index_or xs i d)
rises_above X number [] low high i d r h = absurd (omega arith)
rises_above X number (x ∷ xs) low high zero d r h = r.0
rises_above X number (x ∷ xs) low high (suc i) d r h =
    let first : low ≤ number x = r.0 in
    let more : number x + 1 ≤ number (slice_index_or xs i d) = rises_above X number xs (number x + 1) high i d r.1 (omega arith) in
    omega (arith, first, more)

pub rising_differ : (X : Type 0) (number : X → ℕ) (xs : List X) (low high : ℕ) → Rises number xs low high → Differ number xs
rising_differ X number [] low high r i j d h k e = absurd (omega arith)
rising_differ X number (x ∷ xs) low high r zero zero d h k e = refl
rising_differ X number (x ∷ xs) low high r zero (suc j) d h k e =
    let more : number x + 1 ≤ number (slice_index_or xs j d) = rises_above X number xs (number x + 1) high j d r.1 (omega arith) in
    let same : number x ≡ number (slice_index_or xs j d) = e in absurd (omega (arith, more, same))
rising_differ X number (x ∷ xs) low high r (suc i) zero d h k e =
    let more : number x + 1 ≤ number (slice_index_or xs i d) = rises_above X number xs (number x + 1) high i d r.1 (omega arith) in
    let same : number (slice_index_or xs i d) ≡ number x = e in absurd (omega (arith, more, same))
rising_differ X number (x ∷ xs) low high r (suc i) (suc j) d h k e =
    ap suc (rising_differ X number xs (number x + 1) high r.1 i j d (omega arith) (omega arith) e)

-- ---- one step

numbered_rise : (X : Type 0) (made : X × ℕ → Spender) (told : (x : X × ℕ) → number_of (made x) ≡ x.1) (n : ℕ) (xs : List X)
    → Rises number_of (map made (numbered n xs)) n (n + length xs)
unfolding numbered
numbered_rise X made told n [] = omega arith
numbered_rise X made told n (x ∷ xs) =
    let same : number_of (made (x, n)) ≡ n = told (x, n) in
    let rest : Rises number_of (map made (numbered (n + 1) xs)) (n + 1) ((n + 1) + length xs) = numbered_rise X made told (n + 1) xs in
    let high : (n + 1) + length xs ≤ n + length (x ∷ xs) = omega arith in
    let low : number_of (made (x, n)) + 1 ≤ n + 1 = omega (arith, same) in (
      omega (arith, same),
      rises_from Spender number_of (map made (numbered (n + 1) xs)) (number_of (made (x, n)) + 1) (n + 1) (n + length (x ∷ xs)) low
          (rises_to Spender number_of (map made (numbered (n + 1) xs)) (n + 1) ((n + 1) + length xs) (n + length (x ∷ xs)) high rest),
    )

map_twice : (X Y Z : Type 0) (f : X → Y) (g : Y → Z) (xs : List X) → map g (map f xs) ≡ map (λ x. g (f x)) xs
map_twice X Y Z f g [] = refl
map_twice X Y Z f g (x ∷ xs) = ap (λ l. g (f x) ∷ l) (map_twice X Y Z f g xs)

module _ (k : KeyState) (before : List Edge) (c : Change) (pieces : List Piece) where
  first_link : ℕ
  first_link = next_serial k + length (given k c (renewed k before c))

  first_content : ℕ
  first_content = next_serial k + length (given k c (renewed k before c)) + length (published_edges before c (renewed k before c))

  keys_rise : Rises number_of (map AKey (key_step k before c pieces).given) (next_serial k) first_link
  unfolding key_step step_with published given number_of first_link
  keys_rise =
      subst (λ n. Rises number_of (map AKey (numbered (next_serial k) (renewed k before c ++ c.fresh))) (next_serial k) (next_serial k + n))
      (sym (numbered-length Role (next_serial k) (renewed k before c ++ c.fresh)))
      (numbered_rise Role AKey (λ _. refl) (next_serial k) (renewed k before c ++ c.fresh))

  links_rise : Rises number_of (map ALink (key_step k before c pieces).links) first_link first_content
  unfolding key_step step_with published links_from link_of number_of first_link first_content
  links_rise =
      let keys = keys_then k c (renewed k before c) in
      let es = published_edges before c (renewed k before c) in
      let n = next_serial k + length (given k c (renewed k before c)) in
      subst (λ l. Rises number_of l n (n + length es)) (sym (map_twice (Edge × ℕ) Link Spender (link_of keys) ALink (numbered n es)))
      (numbered_rise Edge (λ e. ALink (link_of keys e)) (λ _. refl) n es)

  contents_rise : Rises number_of (map AContent (key_step k before c pieces).contents) first_content (first_content + length pieces)
  unfolding key_step step_with published contents_from content_of number_of first_content
  contents_rise =
      let keys = keys_then k c (renewed k before c) in
      let n = next_serial k + length (given k c (renewed k before c)) + length (published_edges before c (renewed k before c)) in
      let one = map_twice (Piece × ℕ) Content Spender (content_of keys) AContent (numbered n pieces) in
      subst (λ l. Rises number_of l n (n + length pieces)) (sym one)
      (numbered_rise Piece (λ p. AContent (content_of keys p)) (λ _. refl) n pieces)

  after_is : next_serial (key_step k before c pieces).after ≡ first_content + length pieces
  unfolding next_serial key_step step_with published first_content
  after_is =
      let many = length (given k c (renewed k before c)) in
      after_counts (k.epoch * 2 ^ 32) k.count many (length (published_edges before c (renewed k before c))) (length pieces)
    where
      after_counts : (a n g e p : ℕ) → a + (n + g + e + p) ≡ ((a + n) + g + e) + p
      after_counts a n g e p = omega arith

  pub step_rises : Rises number_of (spenders_in (Some (key_step k before c pieces)))
      (next_serial k) (next_serial (key_step k before c pieces).after)
  unfolding spenders_in
  step_rises =
      let step = key_step k before c pieces in
      let keys = map AKey step.given in
      let links = map ALink step.links in
      let contents = map AContent step.contents in
      let both = rises-append Spender number_of keys links (next_serial k) first_link first_content keys_rise links_rise in
      let last = first_content + length pieces in
      subst (λ n. Rises number_of (keys ++ links ++ contents) (next_serial k) n) (sym after_is)
      (rises-append Spender number_of (keys ++ links) contents (next_serial k) first_content last both contents_rise)

abbrev pub next_in : Journal → ℕ
next_in m = next_serial (keys_of m)

-- ---- what is written behind a journal

pub command_rises : (m : Journal) (r : Request) (keys : List (List ℕ))
    → Rises number_of (spenders_in (held (stand_after nothing m) (Did r keys))) (next_in m) (next_in (m ++ Did r keys ∷ []))
unfolding held keys_of entry_step note_step
command_rises m r keys =
    let at = stand_after nothing m in
    let note = note_of at.store r [] in
    subst (λ k. Rises number_of (spenders_in (held at (Did r keys))) (next_serial at.keys) (next_serial k)) (sym (keys_more m (Did r keys)))
    (step_rises at.keys (edges at.store) (change_of (is_strict at.keys) at.store note) (pieces_of note (effect at.store r (first_key keys))))

pub upgrade_rises : (m : Journal) (keys : List (List ℕ))
    → Rises number_of (spenders_in (held (stand_after nothing m) (Upgraded keys))) (next_in m) (next_in (m ++ Upgraded keys ∷ []))
unfolding held keys_of entry_step note_step
upgrade_rises m keys =
    let at = stand_after nothing m in
    subst (λ k. Rises number_of (spenders_in (held at (Upgraded keys))) (next_serial at.keys) (next_serial k)) (sym (keys_more m (Upgraded keys)))
    (step_rises at.keys (edges at.store) (change_of (is_strict at.keys) at.store Upgrade) (pieces_of Upgrade at.store))

deed_rises : (m : Journal) (d : Deed) (keys : List (List ℕ))
    → Rises number_of (spenders_in (held (stand_after nothing m) (deed_entry d keys))) (next_in m) (next_in (m ++ deed_entry d keys ∷ []))
deed_rises m (Commanded r) keys = command_rises m r keys
deed_rises m Upgrading keys = upgrade_rises m keys

made_rises : (m : Journal) (version : ℕ) (keys : List (List ℕ))
    → Rises number_of (spenders_in (held (stand_after nothing m) (Made version keys))) (next_in m) (next_in (m ++ Made version keys ∷ []))
unfolding held keys_of entry_step note_step
made_rises m version keys =
    let at = stand_after nothing m in
    let root = root_note version in
    subst (λ k. Rises number_of (spenders_in (held at (Made version keys))) (next_serial at.keys) (next_serial k)) (sym (keys_more m (Made version keys)))
    (step_rises at.keys (edges at.store) (change_of (is_strict at.keys) at.store root) (pieces_of root root_store))

-- the next epoch begins above all that was counted, and above all that a journal counted
above : (k : KeyState) → k.count ≤ 4294967296 → next_serial k ≤ next_serial (next_epoch k)
unfolding next_serial next_epoch
above k h = omega (arith, h)

epoch_above : (m : Journal) → (keys_of m).count ≤ 4294967296 → next_in m ≤ next_in (m ++ Session ∷ [])
epoch_above m low = subst (λ k. next_in m ≤ next_serial k) (sym (keys_session m)) (above (keys_of m) low)

-- a session that follows an abandoned command or upgrade begins the same epoch as if that weren't there
begins_alike : (m : Journal) (d : Deed) (keys : List (List ℕ))
    → next_in ((m ++ deed_entry d keys ∷ []) ++ Session ∷ []) ≡ next_in (m ++ Session ∷ [])
unfolding next_serial next_epoch
begins_alike m d keys =
    ap next_serial (keys_session (m ++ deed_entry d keys ∷ []))
    ∙ ap (λ n. (n + 1) * 2 ^ 32 + 0) (epoch_deed m d keys)
    ∙ sym (ap next_serial (keys_session m))

pub count_low : (m : Journal) → IsValid m → (keys_of m).count ≤ 4294967296
count_low m valid = let low : (keys_of m).count ≤ most_store_bytes = journal_count m valid in omega (arith, low)

-- the next number for a session: that of the epoch that it begins, where it has begun none
abbrev low_in : Journal → Bool → ℕ
low_in m b = next_in (between m b)

abbrev low_on : Course → ℕ
low_on c = low_in c.journal c.begun

low_begun : (m : Journal) → low_in m true ≡ next_in m
low_begun m = ap next_in (append-nil m)

low_ended : (m : Journal) (b : Bool) → IsValid m → low_in m b ≤ low_in m false
low_ended m false valid = omega arith
low_ended m true valid =
    let same : low_in m true ≡ next_in m = low_begun m in
    let above : next_in m ≤ low_in m false = epoch_above m (count_low m valid) in omega (arith, same, above)

-- ---- what the batches of some trials spend

abbrev pub spent : List Trial → List Spender
spent ts = all_spenders (map attempt_of ts)

pub spent-append : (xs ys : List Trial) → spent (xs ++ ys) ≡ spent xs ++ spent ys
unfolding all_spenders
spent-append [] ys = refl
spent-append (x ∷ xs) ys =
    ap (λ l. spenders_in (attempt_of x).holds ++ l) (spent-append xs ys)
    ∙ sym (append_assoc (spenders_in (attempt_of x).holds) (spent xs) (spent ys))

spent_epoch : (m : Journal) (b : Bool) → spent (epoch_trial (course m b)) ≡ []
unfolding all_spenders epoch_trial attempt_of held spenders_in
spent_epoch m true = refl
spent_epoch m false = refl

abbrev spent_by_both : Journal → Bool → Deed → List (List ℕ) → List Spender
spent_by_both m b d keys = spent (epoch_trial (course m b) ++ deed_trial (course m b) d keys ∷ [])

both_rise : (m : Journal) (b : Bool) (d : Deed) (keys : List (List ℕ))
    → Rises number_of (spent_by_both m b d keys) (low_in m b) (next_in (between m b ++ deed_entry d keys ∷ []))
unfolding all_spenders deed_trial begun_journal attempt_of
both_rise m b d keys =
    let at = stand_after nothing (between m b) in
    let held_then = spenders_in (held at (deed_entry d keys)) in
    subst (λ l. Rises number_of l (low_in m b) (next_in (between m b ++ deed_entry d keys ∷ [])))
    (sym (spent-append (epoch_trial (course m b)) (deed_trial (course m b) d keys ∷ [])
    ∙ ap (λ l. l ++ (held_then ++ [])) (spent_epoch m b)
    ∙ append-nil held_then))
    (deed_rises (between m b) d keys)

epoch_rises : (m : Journal) (b : Bool) (low high : ℕ) → low ≤ high → Rises number_of (spent (epoch_trial (course m b))) low high
epoch_rises m b low high h = subst (λ l. Rises number_of l low high) (sym (spent_epoch m b)) h

-- ---- each happening

answered : (o : Option Refusal) (full : Bool) → answer_with o full ≡ None → (o ≡ None) × (full ≡ false)
unfolding answer_with
answered (Some why) full = λ e. absurd cc
answered None true = λ e. absurd cc
answered None false = λ e. (refl, refl)

module _ (limits : Limits) (store_low : limits.store_bytes ≤ most_store_bytes) (files_low : limits.file_bytes ≤ most_file_bytes) where
  ends_low : (m : Journal) (b : Bool) (d : Deed) → nat_lt limits.store_bytes (deed_end m b d) ≡ false → deed_end m b d ≤ most_store_bytes
  ends_low m b d fits =
      let low : deed_end m b d ≤ limits.store_bytes = ltb-false limits.store_bytes (deed_end m b d) fits in omega (arith, low, store_low)

  not_refused : (m : Journal) (b : Bool) (d : Deed) → deed_answer limits m b d ≡ None
      → (deed_refusal (is_strict (keys_of m)) (store_of m) d limits.file_bytes ≡ None) × (deed_end m b d ≤ most_store_bytes)
  unfolding answer upgrade_answer keys_of store_of
  not_refused m b (Commanded r) fine =
      let both = answered (refusal_in (is_strict (stand_after nothing m).keys) (stand_after nothing m).store r limits.file_bytes) (nat_lt limits.store_bytes (deed_end m b (Commanded r))) fine in
      (both.0, ends_low m b (Commanded r) both.1)
  not_refused m b Upgrading fine =
      let both = answered None (nat_lt limits.store_bytes (deed_end m b Upgrading)) fine in
      (both.0, ends_low m b Upgrading both.1)

  entered_valid : (m : Journal) (b : Bool) (d : Deed) (keys : List (List ℕ)) → IsValid m → IsDrawnFor limits (course m b) d keys
      → IsValid (between m b ++ deed_entry d keys ∷ [])
  entered_valid m b d keys valid can =
      let fine = not_refused m b d can.0.1 in
      deed_valid m b d keys limits.file_bytes valid files_low fine.0 can.0.0 can.1 can.2 fine.1

  begun_valid : (m : Journal) (b : Bool) (d : Deed) → IsValid m → IsAccepted limits (course m b) d → IsValid (between m b)
  begun_valid m b d valid fine = deed_begun m b d valid (not_refused m b d fine.1).1

  valid_behind : (m : Journal) (b : Bool) (now : Happening) → IsValid m → CanHappen limits (course m b) now
      → IsValid (course_behind (course m b) now).journal
  unfolding course_behind course_then begun_journal
  valid_behind m b (Befalls (IsRefused r)) valid can = valid
  valid_behind m b (Befalls (Enters r keys)) valid can = entered_valid m b (Commanded r) keys valid can
  valid_behind m b (Befalls (IsAbandoned r keys)) valid can = begun_valid m b (Commanded r) valid can.0
  valid_behind m b (Befalls LosesEpoch) valid can = valid
  valid_behind m b (Befalls Ends) valid can = valid
  valid_behind m b (Befalls Reopens) valid can = valid
  valid_behind m b BeginsEpoch valid can = begun_valid m b can.1.0 valid can.1.1
  valid_behind m b UpgradeIsRefused valid can = valid
  valid_behind m b (UpgradeEnters keys) valid can = entered_valid m b Upgrading keys valid can
  valid_behind m b (UpgradeIsAbandoned keys) valid can = begun_valid m b Upgrading valid can.0

  entered_rises : (m : Journal) (b : Bool) (d : Deed) (keys : List (List ℕ))
      → Rises number_of (spent_by_both m b d keys) (low_in m b) (low_in (between m b ++ deed_entry d keys ∷ []) true)
  entered_rises m b d keys =
      let same = low_begun (between m b ++ deed_entry d keys ∷ []) in
      subst (λ n. Rises number_of (spent_by_both m b d keys) (low_in m b) n) (sym same) (both_rise m b d keys)

  abandoned_rises : (m : Journal) (b : Bool) (d : Deed) (keys : List (List ℕ)) → IsValid (between m b ++ deed_entry d keys ∷ [])
      → Rises number_of (spent_by_both m b d keys) (low_in m b) (low_in (between m b) false)
  abandoned_rises m b d keys valid =
      let n = between m b ++ deed_entry d keys ∷ [] in
      let above : next_in n ≤ next_in (n ++ Session ∷ []) = epoch_above n (count_low n valid) in
      let same : next_in (n ++ Session ∷ []) ≡ next_in (between m b ++ Session ∷ []) = begins_alike (between m b) d keys in
      let low : next_in n ≤ low_in (between m b) false = omega (arith, above, same) in
      rises_to Spender number_of (spent_by_both m b d keys) (low_in m b) (next_in n) (low_in (between m b) false) low (both_rise m b d keys)

  now_rises : (m : Journal) (b : Bool) (now : Happening) → IsValid m → CanHappen limits (course m b) now
      → Rises number_of (spent (trials_at (course m b) now)) (low_in m b) (low_on (course_behind (course m b) now))
  unfolding all_spenders trials_at trials_with course_behind course_then begun_journal
  now_rises m b (Befalls (IsRefused r)) valid can = omega arith
  now_rises m b (Befalls (Enters r keys)) valid can = entered_rises m b (Commanded r) keys
  now_rises m b (Befalls (IsAbandoned r keys)) valid can =
      abandoned_rises m b (Commanded r) keys (entered_valid m b (Commanded r) keys valid can)
  now_rises m b (Befalls LosesEpoch) valid can = epoch_rises m b (low_in m b) (low_in m false) (low_ended m b valid)
  now_rises m b (Befalls Ends) valid can = low_ended m b valid
  now_rises m b (Befalls Reopens) valid can = low_ended m b valid
  now_rises m b BeginsEpoch valid can =
      let same : low_in (between m b) true ≡ low_in m b = low_begun (between m b) in
      epoch_rises m b (low_in m b) (low_in (between m b) true) (omega (arith, same))
  now_rises m b UpgradeIsRefused valid can = omega arith
  now_rises m b (UpgradeEnters keys) valid can = entered_rises m b Upgrading keys
  now_rises m b (UpgradeIsAbandoned keys) valid can =
      abandoned_rises m b Upgrading keys (entered_valid m b Upgrading keys valid can)

  -- ---- all of them

  trials_rise : (c : Course) (later : List Happening) → IsValid c.journal → IsCourse limits c later
      → (high : ℕ) × Rises number_of (spent (trials c later)) (low_in c.journal c.begun) high
  unfolding all_spenders trials
  trials_rise c [] valid can = (low_in c.journal c.begun, omega arith)
  trials_rise c (now ∷ later) valid can =
      let then = course_behind c now in
      let rest = trials_rise then later (valid_behind c.journal c.begun now valid can.0) can.1 in
      let mine = now_rises c.journal c.begun now valid can.0 in
      let one = spent (trials_at c now) in
      let more = spent (trials then later) in (
        rest.0,
        subst (λ l. Rises number_of l (low_in c.journal c.begun) rest.0) (sym (spent-append (trials_at c now) (trials then later)))
            (rises-append Spender number_of one more (low_on c) (low_on then) rest.0 mine rest.1),
      )

  pub course_valid : (c : Course) (later : List Happening) → IsValid c.journal → IsCourse limits c later
      → IsValid (course_after c later).journal
  unfolding course_after
  course_valid c [] valid can = valid
  course_valid c (now ∷ later) valid can = course_valid (course_behind c now) later (valid_behind c.journal c.begun now valid can.0) can.1

pub all_differ : (limits : Limits) (version : ℕ) (keys : List (List ℕ)) (later : List Happening) → limits.store_bytes ≤ most_store_bytes
    → limits.file_bytes ≤ most_file_bytes → IsVersion version → length keys ≡ 5 → IsCourse limits (made_course version keys) later
    → Differ number_of (spent (all_trials version keys later))
unfolding all_trials all_spenders attempt_of held spenders_in made_course
all_differ limits version keys later store_low files_low known five can =
    let m : Journal = Session ∷ Made version keys ∷ [] in
    let valid = made_valid version keys known five in
    let rest = trials_rise limits store_low files_low (made_course version keys) later valid can in
    let made = spenders_in (held (stand_after nothing (Session ∷ [])) (Made version keys)) in
    let first : Rises number_of made (next_in (Session ∷ [])) (next_in m) = made_rises (Session ∷ []) version keys in
    let low = next_in (Session ∷ []) in
    let above = rises_to Spender number_of made low (next_in m) (low_in m false) (epoch_above m (count_low m valid)) first in
    rising_differ Spender number_of (spent (all_trials version keys later)) low rest.0
    (rises-append Spender number_of made (spent (trials (made_course version keys) later)) low (low_in m false) rest.0 above rest.1)
