-- A spelled batch behind an open gate is read as it was spelled, and so is a whole image.
use Rattle.std.proofs.Common.{◌≡◌, ◌≢◌, ℕ, ◌+◌, ◌-◌, ◌<◌, ◌≤◌, ◌^◌, true, false, eqb, eq-eqb, List, [], ◌∷◌, ◌++◌, length, take, drop, Option, Some, Result, Ok, append_assoc, arith, refl, sym, ap, subst, ◌∙◌, length-append}
use Rattle.std.specs.Prelude.{nat_le, codes, slice_range, slice_index}
use Rattle.std.specs.Str.{bytes_eq}
use Rattle.std.proofs.Math.Seq.{drop-append_seam}
use Rattle.std.proofs.lemmas.Bool.Decides.{nat_tests}
use Rattle.std.proofs.lemmas.List.{append-nil}
use Rattle.std.proofs.lemmas.Slice.Eq.{bytes_eq-Decides}
use Rattle.cry_base.specs.Layout.{batch_len, header_len}
use Rattle.cry_base.specs.Limits.{most_store_bytes}
use Rattle.hmac_seal.specs.Hmac.{hmac}
use Rattle.hmac_seal.proofs.HmacLemmas.{length-hmac}
use Rattle.chacha_seal.specs.Sealing.{check_of, masked, owner_tag_key}
use Rattle.chacha_seal.proofs.SealingLemmas.{masked-masked, length-masked, length-veil_of, length-check_of}
use Rattle.record_format.specs.Spellable.{IsSpellable}
use Rattle.record_format.specs.Spelling.{spell_payload}
use Rattle.record_format.proofs.PayloadLaws.{reads_back}
use Rattle.commit_journal.specs.declared.head.Head.{Head}
use Rattle.commit_journal.specs.declared.past.Past.{Past}
use Rattle.commit_journal.specs.Answering.{Fault, and_then}
use Rattle.commit_journal.specs.Image.{Batch, type_byte, batch_head, batch_veil, masked_payload, batch_check, owner_tag, spell_batch, spell_header, spell_batches, image}
use Rattle.commit_journal.specs.Laws.{batch_of, batches_from, placed_from, AreBodies}
use Rattle.commit_journal.specs.Log.{PlainTurn, slot_in, payload_in, check_in, tag_in, gate_in, is_batch, body_of, placed_body, as_commands, turn_of, tag_due, tagged_turn, head_of, head_at, turn_at, before, log_at, start_of, start_at, log_verdict}
use Rattle.commit_journal.specs.Placed.{PlainBody, Commands, NewEpoch}
use Rattle.commit_journal.proofs.Judged.{start_long, head_tested, turn_is, published_is}
use Rattle.commit_journal.proofs.Pieces.{piece, item, front, length-head_bytes, head_is}
use Rattle.commit_journal.proofs.Walked.{walks_on, walk_closed}

-- ---- the parts of a batch in memory

abbrev pub joined : List ℕ → List ℕ → List ℕ → List ℕ → List ℕ → ℕ → List ℕ
joined head slot payload check tag gate = head ++ (slot ++ (payload ++ (check ++ (tag ++ gate ∷ []))))

pub record Parts (head slot payload check tag : List ℕ) (gate size : ℕ) (whole : List ℕ) : Type 0 where
  pub head_is : take 13 whole ≡ head
  pub slot_is : slot_in whole ≡ slot
  pub payload_is : payload_in size whole ≡ payload
  pub check_is : check_in size whole ≡ check
  pub tag_is : tag_in size whole ≡ tag
  pub gate_is : gate_in size whole ≡ gate
  pub long : length whole ≡ batch_len + size

parts_of : (head slot payload check tag : List ℕ) (gate : ℕ) → length head ≡ 13 → length slot ≡ 32 → length check ≡ 32 → length tag ≡ 32 →
    Parts head slot payload check tag gate (length payload) (joined head slot payload check tag gate)
parts_of head slot payload check tag gate head_length slot_length check_length tag_length =
    let whole = joined head slot payload check tag gate in
    let one = length-append head slot in
    let two = length-append (head ++ slot) payload in
    let three = length-append ((head ++ slot) ++ payload) check in
    let four = length-append (((head ++ slot) ++ payload) ++ check) tag in
    record {
      head_is = front head (slot ++ (payload ++ (check ++ (tag ++ gate ∷ [])))) whole 13 refl head_length;
      slot_is = piece head slot (payload ++ (check ++ (tag ++ gate ∷ []))) whole 13 45 refl head_length (omega arith);
      payload_is = piece (head ++ slot) payload (check ++ (tag ++ gate ∷ [])) whole 45 (45 + length payload) (simp append_assoc) (omega arith) (omega arith);
      check_is = piece ((head ++ slot) ++ payload) check (tag ++ gate ∷ []) whole (45 + length payload) (77 + length payload) (simp append_assoc) (omega arith) (omega arith);
      tag_is = piece (((head ++ slot) ++ payload) ++ check) tag (gate ∷ []) whole (77 + length payload) (109 + length payload) (simp append_assoc) (omega arith) (omega arith);
      gate_is = item ((((head ++ slot) ++ payload) ++ check) ++ tag) [] whole gate (109 + length payload) (simp append_assoc) (omega arith);
      long = omega (
        arith,
        length-append head (slot ++ (payload ++ (check ++ (tag ++ gate ∷ [])))),
        length-append slot (payload ++ (check ++ (tag ++ gate ∷ []))),
        length-append payload (check ++ (tag ++ gate ∷ [])),
        length-append check (tag ++ gate ∷ []),
        length-append tag (gate ∷ []),
      );
    }

length-owner_tag : (owner previous : List ℕ) (b : Batch) → length (owner_tag owner previous b) ≡ 32
unfolding owner_tag
length-owner_tag owner previous b = length-hmac _ _

-- the bytes of a batch up to the gate behind it
abbrev pub batch_bytes : List ℕ → List ℕ → Batch → ℕ → List ℕ
batch_bytes owner previous b gate =
    joined (batch_head b) (batch_veil owner b) (masked_payload owner b) (batch_check owner b) (owner_tag owner previous b) gate

batch_parts : (owner previous : List ℕ) (b : Batch) (gate : ℕ) →
    Parts (batch_head b) (batch_veil owner b) (masked_payload owner b) (batch_check owner b) (owner_tag owner previous b) gate (length b.payload) (batch_bytes owner previous b gate)
batch_parts owner previous b gate =
    let same = length-masked (batch_veil owner b) b.payload in
    subst (λ (n : ℕ). Parts (batch_head b) (batch_veil owner b) (masked_payload owner b) (batch_check owner b) (owner_tag owner previous b) gate n (batch_bytes owner previous b gate))
    same
    (parts_of (batch_head b) (batch_veil owner b) (masked_payload owner b) (batch_check owner b) (owner_tag owner previous b) gate
    (length-head_bytes b.type_of b.number b.epoch (length b.payload)) (length-veil_of owner b.epoch b.number) (length-hmac _ _) (length-owner_tag owner previous b))

-- a spelled batch with the gate behind it
with_gate : (owner previous : List ℕ) (b : Batch) (gate : ℕ) (more : List ℕ) →
    spell_batch owner previous (batch_veil owner b) b ++ gate ∷ more ≡ batch_bytes owner previous b gate ++ more
unfolding spell_batch
with_gate owner previous b gate more = simp append_assoc

-- ---- one turn

abbrev pub next_batch : Past → PlainBody → Batch
next_batch past body = batch_of past.number past.epoch.0 body

abbrev pub next_head : Past → PlainBody → Head
next_head past body = record {
  type_byte = type_byte (next_batch past body).type_of;
  number = (next_batch past body).number;
  epoch = record { 0 = (next_batch past body).epoch };
  size = length (next_batch past body).payload;
}

-- what is known behind the next batch
abbrev pub next_past : List ℕ → Past → PlainBody → ℕ → Past
next_past owner past body gate = record {
  at = past.at + (batch_len + length (next_batch past body).payload);
  number = (next_batch past body).number;
  epoch = record { 0 = (next_batch past body).epoch };
  tag = owner_tag owner past.tag (next_batch past body);
  gate = gate;
}

abbrev pub next_turn : List ℕ → Past → PlainBody → ℕ → PlainTurn
next_turn owner past body gate = record {
  placed = record { batch = (next_batch past body).number; epoch = record { 0 = (next_batch past body).epoch }; place = past.at + 45; body = body };
  past = next_past owner past body gate;
}

-- the body may come next
abbrev pub MayFollow : ℕ → PlainBody → Type 0
MayFollow epoch (Commands payload) = (1 ≤ epoch) × IsSpellable payload
MayFollow epoch NewEpoch = Unit {0}

next_fits : (past : Past) (body : PlainBody) (left : ℕ) → MayFollow past.epoch.0 body → batch_len + length (next_batch past body).payload ≤ left →
    past.at + (batch_len + length (next_batch past body).payload) ≤ most_store_bytes → is_batch past (next_head past body) left ≡ true
unfolding is_batch
next_fits past (Commands payload) left may inside small =
    let one : nat_le (batch_len + length (spell_payload payload)) left ≡ true = grind (arith, nat_tests) in
    let two : nat_le (past.at + (batch_len + length (spell_payload payload))) most_store_bytes ≡ true = grind (arith, nat_tests) in
    let three : eqb (past.number + 1) (past.number + 1) ≡ true = eq-eqb _ _ refl in
    let four : nat_le 1 past.epoch.0 ≡ true = let begun = may.0 in grind (arith, nat_tests) in
    let five : eqb past.epoch.0 past.epoch.0 ≡ true = eq-eqb _ _ refl in
    rw (one, two, three, four, five) refl
next_fits past NewEpoch left may inside small =
    let one : nat_le batch_len left ≡ true = grind (arith, nat_tests) in
    let two : nat_le (past.at + batch_len) most_store_bytes ≡ true = grind (arith, nat_tests) in
    let three : eqb (past.number + 1) (past.number + 1) ≡ true = eq-eqb _ _ refl in
    let five : eqb (past.epoch.0 + 1) (past.epoch.0 + 1) ≡ true = eq-eqb _ _ refl in
    rw (one, two, three, five) refl

pub next_body : (past : Past) (body : PlainBody) → MayFollow past.epoch.0 body → body_of (next_head past body) (next_batch past body).payload ≡ Ok body
unfolding body_of
next_body past (Commands payload) may = ap as_commands (reads_back payload may.1)
next_body past NewEpoch may = refl

tag_as_due : (owner : List ℕ) (previous : List ℕ) (b : Batch) (gate : ℕ) →
    tag_due owner previous (length b.payload) (batch_bytes owner previous b gate) ≡ owner_tag owner previous b
unfolding tag_due owner_tag
tag_as_due owner previous b gate =
    let parts = batch_parts owner previous b gate in
    ap (λ h. hmac (owner_tag_key owner) (previous ++ (h ++ (payload_in (length b.payload) (batch_bytes owner previous b gate) ++ check_in (length b.payload) (batch_bytes owner previous b gate))))) parts.head_is
    ∙ ap (λ m. hmac (owner_tag_key owner) (previous ++ (batch_head b ++ (m ++ check_in (length b.payload) (batch_bytes owner previous b gate))))) parts.payload_is
    ∙ ap (λ k. hmac (owner_tag_key owner) (previous ++ (batch_head b ++ (masked_payload owner b ++ k)))) parts.check_is

-- a batch in memory, with its tag and published
judged_as_spelled : (owner : List ℕ) (past : Past) (body : PlainBody) (gate : ℕ) → MayFollow past.epoch.0 body →
    tagged_turn owner past (next_head past body) (batch_bytes owner past.tag (next_batch past body) gate) ≡ Ok (Some (next_turn owner past body gate))
unfolding tagged_turn and_then
judged_as_spelled owner past body gate may =
    let b = next_batch past body in
    let head = next_head past body in
    let size = length b.payload in
    let whole = batch_bytes owner past.tag b gate in
    let parts = batch_parts owner past.tag b gate in
    let veil = batch_veil owner b in
    let test : bytes_eq (tag_due owner past.tag size whole) (tag_in size whole) ≡ true =
    (bytes_eq-Decides (tag_due owner past.tag size whole) (tag_in size whole)).1 (tag_as_due owner past.tag b gate ∙ sym parts.tag_is)
    in
    let ends : 45 + size + 32 ≡ 77 + size = omega arith in
    let check : batch_check owner b ≡ slice_range whole (45 + size) (45 + size + 32) =
    sym parts.check_is ∙ ap (λ n. slice_range whole (45 + size) n) (sym ends)
    in
    let mac : batch_check owner b ≡ hmac veil (slice_range whole 45 (45 + size) ++ []) =
    ap (λ m. hmac veil m) (sym parts.payload_is ∙ sym (append-nil (payload_in size whole)))
    in
    let plain : masked (slot_in whole) (payload_in size whole) ≡ b.payload =
    ap (λ v. masked v (payload_in size whole)) parts.slot_is ∙ ap (λ m. masked veil m) parts.payload_is ∙ masked-masked veil b.payload
    in
    let read : body_of head (masked (slot_in whole) (payload_in size whole)) ≡ Ok body = ap (body_of head) plain ∙ next_body past body may in
    let turn : PlainBody → Result (Option PlainTurn) Fault = λ x. Ok (Some (turn_of past head whole x)) in
    rw test refl
    ∙ published_is past head whole veil (batch_check owner b) (batch_check owner b) (sym parts.slot_is) check mac refl
    ∙ ap (λ r. and_then (placed_body past r) turn) read
    ∙ ap (λ t. Ok (Some (record (turn_of past head whole body) { past = record (turn_of past head whole body).past { tag = t } }))) parts.tag_is
    ∙ ap (λ g. Ok (Some (record (turn_of past head whole body) { past = record (turn_of past head whole body).past { tag = owner_tag owner past.tag b; gate = g } }))) parts.gate_is

next_number : (past : Past) (body : PlainBody) → past.number + 1 < 2 ^ 32 → (next_batch past body).number < 2 ^ 32
next_number past (Commands payload) fits = fits
next_number past NewEpoch fits = fits

next_epoch : (past : Past) (body : PlainBody) → past.epoch.0 + 1 < 2 ^ 32 → (next_batch past body).epoch < 2 ^ 32
next_epoch past (Commands payload) fits = omega arith
next_epoch past NewEpoch fits = fits

pub turn_spelled : (owner : List ℕ) (past : Past) (body : PlainBody) (gate : ℕ) (more : List ℕ) → MayFollow past.epoch.0 body →
    past.number + 1 < 2 ^ 32 → past.epoch.0 + 1 < 2 ^ 32 → past.at + (batch_len + length (next_batch past body).payload) ≤ most_store_bytes →
    turn_at owner past (spell_batch owner past.tag (batch_veil owner (next_batch past body)) (next_batch past body) ++ gate ∷ more)
    ≡ Ok (Some (next_turn owner past body gate))
turn_spelled owner past body gate more may number_fits epoch_fits small =
    let b = next_batch past body in
    let head = next_head past body in
    let size = length b.payload in
    let whole = batch_bytes owner past.tag b gate in
    let rest = spell_batch owner past.tag (batch_veil owner b) b ++ gate ∷ more in
    let parts = batch_parts owner past.tag b gate in
    let is : rest ≡ whole ++ more = with_gate owner past.tag b gate more in
    let long : length rest ≡ batch_len + size + length more = omega (arith, ap length is, length-append whole more, parts.long) in
    let first : take 13 rest ≡ batch_head b =
    front (batch_head b) _ rest 13 (is ∙ append_assoc (batch_head b) _ more) (length-head_bytes b.type_of b.number b.epoch size)
    in
    let number : b.number < 2 ^ 32 = next_number past body number_fits in
    let epoch : b.epoch < 2 ^ 32 = next_epoch past body epoch_fits in
    let spelled : head ≡ head_of (batch_head b) = sym (head_is b.type_of b.number b.epoch size number epoch (omega arith)) in
    let fits : is_batch past head (length rest) ≡ true = next_fits past body (length rest) may (omega arith) small in
    let stands : head_at past rest ≡ Ok head = head_tested past rest (batch_head b) head (length rest) true (sym first) spelled refl (sym fits) in
    let all : whole ≡ take (batch_len + size) rest = sym (front whole more rest (batch_len + size) is parts.long) in
    turn_is owner past rest head whole stands all ∙ judged_as_spelled owner past body gate may

-- ---- the walk over spelled batches

number_rises : (past : Past) (body : PlainBody) → (next_batch past body).number ≡ past.number + 1
number_rises past (Commands payload) = refl
number_rises past NewEpoch = refl

epoch_bound : (past : Past) (body : PlainBody) → (next_batch past body).epoch ≤ past.epoch.0 + 1
epoch_bound past (Commands payload) = omega arith
epoch_bound past NewEpoch = omega arith

first_may : (epoch number : ℕ) (body : PlainBody) (bodies : List PlainBody) → AreBodies epoch (body ∷ bodies) → MayFollow epoch body
first_may epoch number (Commands payload) bodies are = (are.0, are.1)
first_may epoch number NewEpoch bodies are = tt

others_may : (epoch number : ℕ) (body : PlainBody) (bodies : List PlainBody) → AreBodies epoch (body ∷ bodies) → AreBodies (batch_of number epoch body).epoch bodies
others_may epoch number (Commands payload) bodies are = are.2
others_may epoch number NewEpoch bodies are = are

pub length-spell_batch : (owner previous : List ℕ) (b : Batch) → length (spell_batch owner previous (batch_veil owner b) b) ≡ 109 + length b.payload
length-spell_batch owner previous b =
    let bytes = spell_batch owner previous (batch_veil owner b) b in
    omega (
      arith,
      length-append bytes (0 ∷ []),
      ap length (with_gate owner previous b 0 [] ∙ append-nil (batch_bytes owner previous b 0)),
      (batch_parts owner previous b 0).long,
    )

-- a list that an item follows begins with something
begins : (xs : List ℕ) (y : ℕ) (ys : List ℕ) → (x : ℕ) × (rest : List ℕ) × (xs ++ y ∷ ys ≡ x ∷ rest)
begins [] y ys = (y, ys, refl)
begins (x ∷ xs) y ys = (x, xs ++ y ∷ ys, refl)

same_heads : (x y : ℕ) (xs ys : List ℕ) → x ∷ xs ≡ y ∷ ys → (x ≡ y) × (xs ≡ ys)
same_heads x y xs ys is = (cc, cc)

abbrev pub rest_of : List ℕ → Past → List PlainBody → List ℕ
rest_of owner past bodies = spell_batches owner past.tag (batches_from past.number past.epoch.0 bodies)

pub walk_spelled : (owner : List ℕ) (bodies : List PlainBody) (past : Past) (rest : List ℕ) (gate : ℕ) (behind : List ℕ) →
    AreBodies past.epoch.0 bodies → past.number ≤ past.at → past.epoch.0 ≤ past.number →
    past.at + length (rest_of owner past bodies) ≤ most_store_bytes → gate ≢ 1 →
    past.gate ∷ rest ≡ rest_of owner past bodies ++ gate ∷ behind →
    log_at owner past 0 rest ≡ Ok (placed_from past.at past.number past.epoch.0 bodies)
unfolding spell_batches before
walk_spelled owner [] past rest gate behind are number_small epoch_small fits shut is =
    let heads = same_heads past.gate gate rest behind is in
    let closed : eqb past.gate 1 ≡ false = let g = heads.0 in grind (arith, nat_tests) in
    walk_closed owner past rest closed
walk_spelled owner (body ∷ bodies) past rest gate behind are number_small epoch_small fits shut is =
    let b = next_batch past body in
    let bytes = spell_batch owner past.tag (batch_veil owner b) b in
    let tag = owner_tag owner past.tag b in
    let others = spell_batches owner tag (batches_from b.number b.epoch bodies) in
    let next = begins others gate behind in
    let g = next.0 in
    let more = next.1 in
    let heads = same_heads past.gate 1 rest ((bytes ++ others) ++ gate ∷ behind) is in
    let open_gate : eqb past.gate 1 ≡ true = eq-eqb past.gate 1 heads.0 in
    let rest_is : rest ≡ bytes ++ g ∷ more = heads.1 ∙ append_assoc bytes others (gate ∷ behind) ∙ ap (λ r. bytes ++ r) next.2 in
    let long = length-spell_batch owner past.tag b in
    let small : past.at + (batch_len + length b.payload) ≤ most_store_bytes = omega (arith, fits, long, length-append bytes others) in
    let turn = turn_spelled owner past body g more (first_may past.epoch.0 past.number body bodies are) (omega arith) (omega arith) small in
    let now = next_past owner past body g in
    let far : now.at - past.at ≡ batch_len + length b.payload = omega arith in
    let whole = length-append bytes (g ∷ []) in
    let there : drop (now.at - past.at) rest ≡ more =
    ap (λ n. drop n rest) (far ∙ omega (arith, long, whole))
    ∙ ap (λ r. drop (length (bytes ++ g ∷ [])) r) (rest_is ∙ sym (append_assoc bytes (g ∷ []) more))
    ∙ drop-append_seam (bytes ++ g ∷ []) more
    in
    let onward = walk_spelled owner bodies now more gate behind (others_may past.epoch.0 past.number body bodies are)
    (omega (arith, number_rises past body)) (omega (arith, number_rises past body, epoch_bound past body))
    (omega (arith, fits, long, length-append bytes others)) shut (sym next.2)
    in
    walks_on owner past rest (next_turn owner past body g) open_gate (ap (turn_at owner past) rest_is ∙ turn) (omega arith)
    ∙ ap (λ r. before ((next_turn owner past body g).placed ∷ []) (log_at owner now 0 r)) there
    ∙ ap (before ((next_turn owner past body g).placed ∷ [])) onward

-- ---- the whole image

abbrev pub first_past : List ℕ → ℕ → Past
first_past owner gate = record { at = header_len; number = 0; epoch = record { 0 = 0 }; tag = check_of owner; gate = gate }

abbrev pub magic : List ℕ
magic = codes "CRYPTREE" ++ 1 ∷ []

start_is : (owner header : List ℕ) (gate : ℕ) → take 9 header ≡ magic → slice_range header 9 41 ≡ check_of owner → slice_index header 41 ≡ gate →
    start_of owner header ≡ Ok (first_past owner gate)
unfolding start_of
start_is owner header gate one two three =
    let a : bytes_eq (take 9 header) magic ≡ true = (bytes_eq-Decides (take 9 header) magic).1 one in
    let b : bytes_eq (slice_range header 9 41) (check_of owner) ≡ true = (bytes_eq-Decides (slice_range header 9 41) (check_of owner)).1 two in
    rw (a, b, two, three) refl

start_spelled : (owner : List ℕ) (gate : ℕ) → start_of owner (spell_header owner ++ gate ∷ []) ≡ Ok (first_past owner gate)
unfolding spell_header
start_spelled owner gate =
    let header = (codes "CRYPTREE" ++ 1 ∷ check_of owner) ++ gate ∷ [] in
    let long = length-check_of owner in
    start_is owner header gate
    (front magic (check_of owner ++ gate ∷ []) header 9 refl refl)
    (piece magic (check_of owner) (gate ∷ []) header 9 41 refl refl (omega arith))
    (item (magic ++ check_of owner) [] header gate 41 refl (omega (arith, length-append magic (check_of owner))))

pub length-header : (owner : List ℕ) → length (spell_header owner) ≡ 41
unfolding spell_header
length-header owner = omega (arith, length-check_of owner)

pub image_read : (owner : List ℕ) (bodies : List PlainBody) (gate : ℕ) (behind : List ℕ) → AreBodies 0 bodies →
    length (image owner (batches_from 0 0 bodies)) + 1 ≤ most_store_bytes → gate ≢ 1 →
    log_verdict owner (image owner (batches_from 0 0 bodies) ++ gate ∷ behind) ≡ Ok (placed_from header_len 0 0 bodies)
unfolding image log_verdict and_then
image_read owner bodies gate behind are fits shut =
    let header = spell_header owner in
    let batches = spell_batches owner (check_of owner) (batches_from 0 0 bodies) in
    let next = begins batches gate behind in
    let g = next.0 in
    let more = next.1 in
    let s = (header ++ batches) ++ gate ∷ behind in
    let is : s ≡ (header ++ g ∷ []) ++ more =
    append_assoc header batches (gate ∷ behind) ∙ ap (λ r. header ++ r) next.2 ∙ sym (append_assoc header (g ∷ []) more)
    in
    let long : length (header ++ g ∷ []) ≡ header_len = omega (arith, length-append header (g ∷ []), length-header owner) in
    let first : take header_len s ≡ header ++ g ∷ [] = front (header ++ g ∷ []) more s header_len is long in
    let rest : drop header_len s ≡ more =
    ap (λ n. drop n s) (sym long) ∙ ap (λ r. drop (length (header ++ g ∷ [])) r) is ∙ drop-append_seam (header ++ g ∷ []) more
    in
    let enough : header_len ≤ length s = omega (arith, ap length is, length-append (header ++ g ∷ []) more, long) in
    let start : start_at owner s ≡ Ok (first_past owner g) = start_long owner s enough ∙ ap (start_of owner) first ∙ start_spelled owner g in
    ap (λ p. and_then p (λ past. log_at owner past 0 (drop header_len s))) start
    ∙ ap (λ r. log_at owner (first_past owner g) 0 r) rest
    ∙ walk_spelled owner bodies (first_past owner g) more gate behind are (omega arith) (omega arith)
    (omega (arith, fits, length-append header batches, length-header owner)) shut (sym next.2)
