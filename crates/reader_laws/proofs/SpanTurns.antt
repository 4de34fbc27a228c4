-- What one turn of a walk answers, by the tests of the batch that follows.
use Rattle.std.proofs.Common.{◌≡◌, ◌≢◌, ℕ, ◌+◌, Bool, true, false, cond, eqb, eq-eqb, List, [], length, take, drop, Option, None, Some, Result, Ok, Err, refl, sym, ap, subst, ◌∙◌, arith}
use Rattle.std.specs.Prelude.{nat_le}
use Rattle.std.specs.Str.{bytes_eq}
use Rattle.std.proofs.lemmas.Bool.{eqb-true}
use Rattle.std.proofs.lemmas.Bool.Decides.{nat_tests}
use Rattle.std.proofs.lemmas.Slice.Eq.{bytes_eq-Decides}
use Rattle.cry_base.specs.Layout.{batch_len}
use Rattle.hmac_seal.specs.Hmac.{hmac}
use Rattle.chacha_seal.specs.Sealing.{masked, veil_of}
use Rattle.commit_journal.specs.Answering.{Fault, Damaged, Tampered, and_then}
use Rattle.commit_journal.specs.Log.{PlainTurn, body_of, check_in, gate_in, head_at, head_of, is_batch, payload_in, placed_body, published_turn, slot_in, start_of, tag_due, tag_in, tagged_turn, turn_of}
use Rattle.commit_journal.specs.Logs.{recovered_turn, tagged_recovered, turn_by}
use Rattle.commit_journal.specs.Placed.{PlainBody, PlainPlaced}
use Rattle.reader_laws.specs.Spans.{EndsWithin, Fails, Follows, HasOwnerTag, HolderReads, IsBatch, IsHidden, PassesSlot, LogReader, NoBatch, NoForm, OwnerReads, OwnerWrites, Passes, Span, WrongSlot, WrongTag, batch_in, behind, body_in, veil_in}

-- what a list of bytes says of a batch, and what a walk knows between two: types that their crate keeps to itself
abbrev TypeOf : {A : Type 0} → A → Type 0
TypeOf {A} a = A

abbrev Read : {A : Type 0} → Result A Fault → Type 0
Read {A} a = A

abbrev pub Head : Type 0
Head = TypeOf (head_of [])

abbrev pub Past : Type 0
Past = Read (start_of [] [])

abbrev pub head_in : List ℕ → Span → Head
head_in bytes s = head_of (take 13 (drop s.start bytes))

abbrev pub past_behind : List ℕ → Option Span → Past
past_behind bytes before = let k = behind bytes before in record { at = k.at; number = k.number; epoch = k.epoch; tag = k.tag; gate = k.gate }

-- ---- who reads judges a batch so

abbrev pub Judges : Type 0
Judges = Past → Head → List ℕ → Result (Option PlainTurn) Fault

abbrev pub judge_of : LogReader → Judges
judge_of (OwnerReads owner) = tagged_turn owner
judge_of HolderReads = published_turn
judge_of (OwnerWrites owner limit) = λ past head batch.
    cond (nat_le (past.at + (batch_len + head.size)) limit) (tagged_recovered owner past head batch) (Err (Damaged past.at))

-- the tests and the veil key, as the code has them
abbrev is_within : LogReader → ℕ → ℕ → Bool
is_within (OwnerReads owner) at size = true
is_within HolderReads at size = true
is_within (OwnerWrites owner limit) at size = nat_le (at + (batch_len + size)) limit

abbrev has_tag : LogReader → Past → Head → List ℕ → Bool
has_tag (OwnerReads owner) past head batch = bytes_eq (tag_due owner past.tag head.size batch) (tag_in head.size batch)
has_tag HolderReads past head batch = true
has_tag (OwnerWrites owner limit) past head batch = bytes_eq (tag_due owner past.tag head.size batch) (tag_in head.size batch)

abbrev makes_check : Head → List ℕ → Bool
makes_check head batch = bytes_eq (hmac (slot_in batch) (payload_in head.size batch)) (check_in head.size batch)

abbrev is_shown : LogReader → Head → List ℕ → Bool
is_shown (OwnerReads owner) head batch = makes_check head batch
is_shown HolderReads head batch = makes_check head batch
is_shown (OwnerWrites owner limit) head batch = true

abbrev veil_for : LogReader → Head → List ℕ → List ℕ
veil_for (OwnerReads owner) head batch = slot_in batch
veil_for HolderReads head batch = slot_in batch
veil_for (OwnerWrites owner limit) head batch = veil_of owner head.epoch.0 head.number

abbrev by_body : Past → Head → List ℕ → Result PlainBody ℕ → Result (Option PlainTurn) Fault
by_body past head batch body = and_then (placed_body past body) (λ b. Ok (Some (turn_of past head batch b)))

abbrev by_gate : Past → Head → ℕ → Result (Option PlainTurn) Fault
by_gate past head gate = cond (eqb gate 1) (Err (Tampered head.number (past.at + 13))) (Ok None)

abbrev tagged : LogReader → Judges
tagged who past head batch =
    cond (has_tag who past head batch)
    (cond (is_shown who head batch)
    (by_body past head batch (body_of head (masked (veil_for who head batch) (payload_in head.size batch))))
    (by_gate past head (gate_in head.size batch)))
    (Err (Tampered head.number (past.at + 77 + head.size)))

abbrev judged : LogReader → Judges
judged who past head batch = cond (is_within who past.at head.size) (tagged who past head batch) (Err (Damaged past.at))

judged_so : (who : LogReader) (past : Past) (head : Head) (batch : List ℕ) → judge_of who past head batch ≡ judged who past head batch
unfolding tagged_turn published_turn tagged_recovered recovered_turn
judged_so (OwnerReads owner) past head batch = refl
judged_so HolderReads past head batch = refl
judged_so (OwnerWrites owner limit) past head batch = refl

-- ---- the span that follows

abbrev pub next_span : List ℕ → Option Span → Span
next_span bytes before = record { start = (behind bytes before).at; size = (head_of (take 13 (drop (behind bytes before).at bytes))).size }

span_is : (a b c d : ℕ) → a ≡ c → b ≡ d → (let s : Span = record { start = a; size = b } in s) ≡ record { start = c; size = d }
span_is a b c d first second = rw (first, second) refl

pub only_next : (bytes : List ℕ) (before : Option Span) (s : Span) → Follows bytes before s → s ≡ next_span bytes before
only_next bytes before s follows =
    span_is s.start s.size (behind bytes before).at (head_of (take 13 (drop (behind bytes before).at bytes))).size follows.start
    (follows.size ∙ ap (λ n. (head_of (take 13 (drop n bytes))).size) follows.start)

pub next_follows : (bytes : List ℕ) (before : Option Span) → (behind bytes before).gate ≡ 1 → Follows bytes before (next_span bytes before)
next_follows bytes before opened = record { opened = opened; start = refl; size = refl }

-- ---- the tests tell what they test

tells_tag : (who : LogReader) (bytes : List ℕ) (before : Option Span) → let s = next_span bytes before in
    has_tag who (past_behind bytes before) (head_in bytes s) (batch_in bytes s) ≡ true → HasOwnerTag who bytes before s
tells_tag (OwnerReads owner) bytes before is = (bytes_eq-Decides _ _).0 is
tells_tag HolderReads bytes before is = tt
tells_tag (OwnerWrites owner limit) bytes before is = (bytes_eq-Decides _ _).0 is

tells_within : (who : LogReader) (s : Span) → is_within who s.start s.size ≡ true → EndsWithin who s
tells_within (OwnerReads owner) s is = tt
tells_within HolderReads s is = tt
tells_within (OwnerWrites owner limit) s is = grind (arith, nat_tests)

told_within : (who : LogReader) (s : Span) → EndsWithin who s → is_within who s.start s.size ≡ true
told_within (OwnerReads owner) s has = refl
told_within HolderReads s has = refl
told_within (OwnerWrites owner limit) s has = grind (arith, nat_tests)

told_tag : (who : LogReader) (bytes : List ℕ) (before : Option Span) → let s = next_span bytes before in
    HasOwnerTag who bytes before s → has_tag who (past_behind bytes before) (head_in bytes s) (batch_in bytes s) ≡ true
told_tag (OwnerReads owner) bytes before has = (bytes_eq-Decides _ _).1 has
told_tag HolderReads bytes before has = refl
told_tag (OwnerWrites owner limit) bytes before has = (bytes_eq-Decides _ _).1 has

tells_shown : (who : LogReader) (bytes : List ℕ) (before : Option Span) → let s = next_span bytes before in
    is_shown who (head_in bytes s) (batch_in bytes s) ≡ true → PassesSlot who bytes s
tells_shown (OwnerReads owner) bytes before is = (bytes_eq-Decides _ _).0 is
tells_shown HolderReads bytes before is = (bytes_eq-Decides _ _).0 is
tells_shown (OwnerWrites owner limit) bytes before is = tt

told_shown : (who : LogReader) (bytes : List ℕ) (before : Option Span) → let s = next_span bytes before in
    PassesSlot who bytes s → is_shown who (head_in bytes s) (batch_in bytes s) ≡ true
told_shown (OwnerReads owner) bytes before is = (bytes_eq-Decides _ _).1 is
told_shown HolderReads bytes before is = (bytes_eq-Decides _ _).1 is
told_shown (OwnerWrites owner limit) bytes before is = refl

-- the veil key is that of the definition
same_veil : (who : LogReader) (bytes : List ℕ) (before : Option Span) → let s = next_span bytes before in
    veil_in who bytes s ≡ veil_for who (head_in bytes s) (batch_in bytes s)
same_veil (OwnerReads owner) bytes before = refl
same_veil HolderReads bytes before = refl
same_veil (OwnerWrites owner limit) bytes before = refl

-- a test that says no
pub tells_not : {P : Type 0} (test : Bool) → (P → test ≡ true) → test ≡ false → P → ⊥
tells_not true told is p = absurd (cc)
tells_not false told is p = let wrong : false ≡ true = told p in absurd (cc)

told_not : {P : Type 0} (test : Bool) → (test ≡ true → P) → (P → ⊥) → test ≡ false
told_not true tells denied = absurd (denied (tells refl))
told_not false tells denied = refl

pub gate_told : (gate : ℕ) → gate ≢ 1 → eqb gate 1 ≡ false
gate_told gate shut = grind (arith, nat_tests)

pub gate_tells : (gate : ℕ) → eqb gate 1 ≡ false → gate ≢ 1
gate_tells gate shut = λ is. let open_gate = eq-eqb gate 1 is in absurd (cc)

-- ---- one turn

-- what the turn behind an open gate answers: a batch that passes, the end before a hidden one, or the fault of the first test that fails
pub data Turns (who : LogReader) (bytes : List ℕ) (before : Option Span) (turn : Result (Option PlainTurn) Fault) : Type 0 where
  More : (s : Span) (p : PlainPlaced) → Passes who bytes before s p → turn ≡ Ok (Some (record { placed = p; past = past_behind bytes (Some s) })) → Turns who bytes before turn
  Last : (s : Span) → IsHidden who bytes before s → turn ≡ Ok None → Turns who bytes before turn
  Bad : (s : Span) (fault : Fault) → Follows bytes before s → Fails who bytes before s fault → turn ≡ Err fault → Turns who bytes before turn

module _ (who : LogReader) (bytes : List ℕ) (before : Option Span) (opened : (behind bytes before).gate ≡ 1) where
  abbrev s : Span
  s = next_span bytes before

  abbrev past : Past
  past = past_behind bytes before

  turns_body : (body : Result PlainBody ℕ) → body_in who bytes s ≡ body → IsBatch who bytes before s → HasOwnerTag who bytes before s → PassesSlot who bytes s →
      Turns who bytes before (by_body past (head_in bytes s) (batch_in bytes s) body)
  unfolding and_then
  turns_body (Ok body) is stands tagged shown =
      More s (turn_of past (head_in bytes s) (batch_in bytes s) body).placed
      (record { follows = next_follows bytes before opened; stands = stands; tagged = tagged; published = shown; body = body; has_form = is; is_read = refl })
      refl
  turns_body (Err place) is stands tagged shown =
      Bad s (Damaged (past.at + 45 + place)) (next_follows bytes before opened) (NoForm stands tagged shown place is refl) refl

  turns_gate : (shut : Bool) → eqb (behind bytes (Some s)).gate 1 ≡ shut → IsBatch who bytes before s → HasOwnerTag who bytes before s → (PassesSlot who bytes s → ⊥) →
      Turns who bytes before (cond shut (Err (Tampered (head_in bytes s).number (past.at + 13))) (Ok None))
  turns_gate true is stands tagged hidden =
      Bad s (Tampered (head_in bytes s).number (past.at + 13)) (next_follows bytes before opened)
      (WrongSlot stands tagged hidden (eqb-true (behind bytes (Some s)).gate 1 is) refl) refl
  turns_gate false is stands tagged hidden =
      Last s (record { follows = next_follows bytes before opened; stands = stands; tagged = tagged; hidden = hidden; closed = gate_tells (behind bytes (Some s)).gate is }) refl

  turns_shown : (test : Bool) → is_shown who (head_in bytes s) (batch_in bytes s) ≡ test → IsBatch who bytes before s → HasOwnerTag who bytes before s →
      Turns who bytes before (cond test
      (by_body past (head_in bytes s) (batch_in bytes s) (body_in who bytes s))
      (by_gate past (head_in bytes s) (behind bytes (Some s)).gate))
  turns_shown true is stands tagged = turns_body (body_in who bytes s) refl stands tagged (tells_shown who bytes before is)
  turns_shown false is stands tagged =
      turns_gate (eqb (behind bytes (Some s)).gate 1) refl stands tagged (tells_not (is_shown who (head_in bytes s) (batch_in bytes s)) (told_shown who bytes before) is)

  turns_tag : (test : Bool) → has_tag who past (head_in bytes s) (batch_in bytes s) ≡ test → IsBatch who bytes before s →
      Turns who bytes before (cond test
      (cond (is_shown who (head_in bytes s) (batch_in bytes s))
      (by_body past (head_in bytes s) (batch_in bytes s) (body_in who bytes s))
      (by_gate past (head_in bytes s) (behind bytes (Some s)).gate))
      (Err (Tampered (head_in bytes s).number (past.at + 77 + s.size))))
  turns_tag true is stands = turns_shown (is_shown who (head_in bytes s) (batch_in bytes s)) refl stands (tells_tag who bytes before is)
  turns_tag false is stands =
      Bad s (Tampered (head_in bytes s).number (past.at + 77 + s.size)) (next_follows bytes before opened)
      (WrongTag stands (tells_not (has_tag who past (head_in bytes s) (batch_in bytes s)) (told_tag who bytes before) is) refl) refl

  turns_batch : IsBatch who bytes before s → Turns who bytes before (tagged who past (head_in bytes s) (batch_in bytes s))
  turns_batch stands =
      subst (λ (veil : List ℕ). Turns who bytes before (cond (has_tag who past (head_in bytes s) (batch_in bytes s))
      (cond (is_shown who (head_in bytes s) (batch_in bytes s))
      (by_body past (head_in bytes s) (batch_in bytes s) (body_of (head_in bytes s) (masked veil (payload_in s.size (batch_in bytes s)))))
      (by_gate past (head_in bytes s) (behind bytes (Some s)).gate))
      (Err (Tampered (head_in bytes s).number (past.at + 77 + s.size))))) (same_veil who bytes before)
      (turns_tag (has_tag who past (head_in bytes s) (batch_in bytes s)) refl stands)

  turns_within : (test : Bool) → is_within who s.start s.size ≡ test → is_batch past (head_in bytes s) (length (drop past.at bytes)) ≡ true →
      Turns who bytes before (cond test (tagged who past (head_in bytes s) (batch_in bytes s)) (Err (Damaged past.at)))
  turns_within true is stands = turns_batch (stands, tells_within who s is)
  turns_within false is stands =
      Bad s (Damaged past.at) (next_follows bytes before opened)
      (NoBatch (λ stands_too. tells_not (is_within who s.start s.size) (told_within who s) is stands_too.1) refl) refl

  turns_judged : is_batch past (head_in bytes s) (length (drop past.at bytes)) ≡ true → Turns who bytes before (judge_of who past (head_in bytes s) (batch_in bytes s))
  turns_judged stands =
      subst (Turns who bytes before) (sym (judged_so who past (head_in bytes s) (batch_in bytes s))) (turns_within (is_within who s.start s.size) refl stands)

  turns_head : (test : Bool) → is_batch past (head_in bytes s) (length (drop past.at bytes)) ≡ test →
      Turns who bytes before (and_then (cond test (Ok (head_in bytes s)) (Err (Damaged past.at))) (λ h. judge_of who past h (take (batch_len + h.size) (drop past.at bytes))))
  unfolding and_then
  turns_head true is = turns_judged is
  turns_head false is =
      Bad s (Damaged past.at) (next_follows bytes before opened) (NoBatch (λ stands. let wrong : true ≡ false = sym stands.0 ∙ is in absurd (cc)) refl) refl

  pub turns : Turns who bytes before (turn_by (judge_of who) past (drop past.at bytes))
  unfolding turn_by head_at
  turns = turns_head (is_batch past (head_in bytes s) (length (drop past.at bytes))) refl

-- ---- and the other way

module _ (who : LogReader) (bytes : List ℕ) (before : Option Span) where
  -- a batch that stands there is judged
  judges_it : let s = next_span bytes before in is_batch (past_behind bytes before) (head_in bytes s) (length (drop s.start bytes)) ≡ true →
      turn_by (judge_of who) (past_behind bytes before) (drop (behind bytes before).at bytes) ≡ judged who (past_behind bytes before) (head_in bytes s) (batch_in bytes s)
  unfolding turn_by head_at and_then
  judges_it stands = rw stands (judged_so who (past_behind bytes before) (head_in bytes (next_span bytes before)) (batch_in bytes (next_span bytes before)))

  tags_it : let s = next_span bytes before in IsBatch who bytes before s →
      turn_by (judge_of who) (past_behind bytes before) (drop (behind bytes before).at bytes) ≡ tagged who (past_behind bytes before) (head_in bytes s) (batch_in bytes s)
  tags_it stands =
      let s = next_span bytes before in
      judges_it stands.0 ∙ ap (λ (test : Bool). cond test (tagged who (past_behind bytes before) (head_in bytes s) (batch_in bytes s)) (Err (Damaged (behind bytes before).at))) (told_within who s stands.1)

  next_passes : (p : PlainPlaced) → let s = next_span bytes before in Passes who bytes before s p →
      turn_by (judge_of who) (past_behind bytes before) (drop (behind bytes before).at bytes) ≡ Ok (Some (record { placed = p; past = past_behind bytes (Some s) }))
  unfolding and_then
  next_passes p passes =
      let s = next_span bytes before in
      let body : body_of (head_in bytes s) (masked (veil_for who (head_in bytes s) (batch_in bytes s)) (payload_in s.size (batch_in bytes s))) ≡ Ok passes.body =
      ap (λ (veil : List ℕ). body_of (head_in bytes s) (masked veil (payload_in s.size (batch_in bytes s)))) (sym (same_veil who bytes before)) ∙ passes.has_form
      in
      tags_it passes.stands
      ∙ rw (told_tag who bytes before passes.tagged, told_shown who bytes before passes.published, body) refl
      ∙ ap (λ (q : PlainPlaced). Ok (Some (record { placed = q; past = past_behind bytes (Some s) }))) (sym passes.is_read)

  next_hidden : let s = next_span bytes before in IsHidden who bytes before s →
      turn_by (judge_of who) (past_behind bytes before) (drop (behind bytes before).at bytes) ≡ Ok None
  next_hidden is =
      let s = next_span bytes before in
      let hidden = told_not (is_shown who (head_in bytes s) (batch_in bytes s)) (tells_shown who bytes before) is.hidden in
      tags_it is.stands ∙ rw (told_tag who bytes before is.tagged, hidden, gate_told (behind bytes (Some s)).gate is.closed) refl

  no_batch : let s = next_span bytes before in (test : Bool) → is_batch (past_behind bytes before) (head_in bytes s) (length (drop s.start bytes)) ≡ test →
      (IsBatch who bytes before s → ⊥) →
      and_then (cond test (Ok (head_in bytes s)) (Err (Damaged s.start))) (λ h. judge_of who (past_behind bytes before) h (take (batch_len + h.size) (drop s.start bytes))) ≡ Err (Damaged s.start)
  unfolding and_then
  no_batch true is none =
      let s = next_span bytes before in
      let outside = told_not (is_within who s.start s.size) (tells_within who s) (λ within. none (is, within)) in
      judged_so who (past_behind bytes before) (head_in bytes s) (batch_in bytes s)
      ∙ ap (λ (test : Bool). cond test (tagged who (past_behind bytes before) (head_in bytes s) (batch_in bytes s)) (Err (Damaged s.start))) outside
  no_batch false is none = refl

  next_fails : (fault : Fault) → Fails who bytes before (next_span bytes before) fault →
      turn_by (judge_of who) (past_behind bytes before) (drop (behind bytes before).at bytes) ≡ Err fault
  unfolding turn_by head_at and_then
  next_fails fault (NoBatch none is) =
      let s = next_span bytes before in
      no_batch (is_batch (past_behind bytes before) (head_in bytes s) (length (drop s.start bytes))) refl none ∙ ap (λ (f : Fault). Err f) (sym is)
  next_fails fault (WrongTag stands wrong is) =
      let s = next_span bytes before in
      let denied = told_not (has_tag who (past_behind bytes before) (head_in bytes s) (batch_in bytes s)) (tells_tag who bytes before) wrong in
      tags_it stands ∙ rw denied (ap (λ (f : Fault). Err f) (sym is))
  next_fails fault (WrongSlot stands tagged hidden gate is) =
      let s = next_span bytes before in
      let denied = told_not (is_shown who (head_in bytes s) (batch_in bytes s)) (tells_shown who bytes before) hidden in
      tags_it stands ∙ rw (told_tag who bytes before tagged, denied, eq-eqb (behind bytes (Some s)).gate 1 gate) (ap (λ (f : Fault). Err f) (sym is))
  next_fails fault (NoForm stands tagged shown place formless is) =
      let s = next_span bytes before in
      let body : body_of (head_in bytes s) (masked (veil_for who (head_in bytes s) (batch_in bytes s)) (payload_in s.size (batch_in bytes s))) ≡ Err place =
      ap (λ (veil : List ℕ). body_of (head_in bytes s) (masked veil (payload_in s.size (batch_in bytes s)))) (sym (same_veil who bytes before)) ∙ formless
      in
      tags_it stands ∙ rw (told_tag who bytes before tagged, told_shown who bytes before shown, body) (ap (λ (f : Fault). Err f) (sym is))

  pub turn_passes : (s : Span) (p : PlainPlaced) → Passes who bytes before s p →
      turn_by (judge_of who) (past_behind bytes before) (drop (behind bytes before).at bytes) ≡ Ok (Some (record { placed = p; past = past_behind bytes (Some s) }))
  turn_passes s p passes =
      let same = only_next bytes before s passes.follows in
      next_passes p (subst (λ (z : Span). Passes who bytes before z p) same passes)
      ∙ ap (λ (z : Span). Ok (Some (record { placed = p; past = past_behind bytes (Some z) }))) (sym same)

  pub turn_hidden : (s : Span) → IsHidden who bytes before s → turn_by (judge_of who) (past_behind bytes before) (drop (behind bytes before).at bytes) ≡ Ok None
  turn_hidden s is = next_hidden (subst (IsHidden who bytes before) (only_next bytes before s is.follows) is)

  pub turn_fails : (s : Span) (fault : Fault) → Follows bytes before s → Fails who bytes before s fault →
      turn_by (judge_of who) (past_behind bytes before) (drop (behind bytes before).at bytes) ≡ Err fault
  turn_fails s fault follows fails = next_fails fault (subst (λ (z : Span). Fails who bytes before z fault) (only_next bytes before s follows) fails)
