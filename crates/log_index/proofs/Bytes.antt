-- What a checkpoint file's bytes are made of, and that they tell the checkpoint.
use Rattle.std.proofs.Common.{◌≡◌, ℕ, ◌+◌, ◌≤◌, List, [], ◌++◌, length, take, drop, Ok, refl, sym, ap, ◌∙◌, append_assoc, length-append, arith, ◌<◌}
use Rattle.std.proofs.lemmas.List.{append-nil, drop_at, length-take, take-append-drop, take_at}
use Rattle.std.proofs.Math.Seq.{take-append-add}
use Rattle.hmac_seal.specs.Hmac.{hmac}
use Rattle.hmac_seal.proofs.HmacLemmas.{length-hmac}
use Rattle.index_format.specs.Plain.{IndexBody}
use Rattle.index_format.specs.Reading.{body_at, head_at}
use Rattle.index_format.specs.Spelling.{spell_body, spell_front, spell_head}
use Rattle.index_format.specs.Writable.{IsHead, IsWritableBody}
use Rattle.index_format.specs.declared.head.IndexHead.{IndexHead}
use Rattle.index_format.proofs.Lengths.{length-spell_front, length-spell_head}
use Rattle.index_format.proofs.StateLaws.{body_field, head_field, no_prefix}
use Rattle.record_format.proofs.FieldLaws.{IsBytes, ok_is}
use Rattle.log_index.specs.Plain.{PlainCheckpoint, front_of, head_of, index_tag_key, plain_of, spell_index}
use Rattle.log_index.specs.Sound.{IsShown, IsSoundBody, IsSoundIndex}

pub head_fits : (p : PlainCheckpoint) → IsSoundIndex p → IsHead (head_of p)
head_fits p is_sound = record { batch = is_sound.batch; tag = is_sound.tag; body_len = is_sound.body_len }

-- what stands behind the head
behind_of : List ℕ → PlainCheckpoint → List ℕ → List ℕ
behind_of owner p rest = spell_body p.body ++ (hmac (index_tag_key owner) (front_of p) ++ rest)

index_parts : (owner : List ℕ) (p : PlainCheckpoint) (rest : List ℕ) → spell_index owner p ++ rest ≡ spell_head (head_of p) ++ behind_of owner p rest
unfolding spell_index spell_front behind_of
index_parts owner p rest = simp append_assoc

shown_head : (owner bytes : List ℕ) (p : PlainCheckpoint) (shown : IsShown owner p bytes) → head_at bytes ≡ Ok (head_of p, behind_of owner p shown.1)
shown_head owner bytes p shown =
    ap head_at (shown.2 ∙ index_parts owner p shown.1) ∙ head_field.again (head_of p) (behind_of owner p shown.1) (head_fits p shown.0)

shown_body : (owner : List ℕ) (p : PlainCheckpoint) (rest : List ℕ) → IsSoundIndex p → body_at (behind_of owner p rest) ≡ Ok (p.body, hmac (index_tag_key owner) (front_of p) ++ rest)
unfolding behind_of
shown_body owner p rest is_sound = body_field.again p.body (hmac (index_tag_key owner) (front_of p) ++ rest) is_sound.body.writable

pub shown_once : (owner bytes : List ℕ) (p q : PlainCheckpoint) → IsShown owner p bytes → IsShown owner q bytes → p ≡ q
shown_once owner bytes p q one two =
    let heads : (head_of p, behind_of owner p one.1) ≡ (head_of q, behind_of owner q two.1) =
    ok_is (head_of p, behind_of owner p one.1) (head_of q, behind_of owner q two.1) (sym (shown_head owner bytes p one) ∙ shown_head owner bytes q two) in
    let head : head_of p ≡ head_of q = ap (λ (x : IndexHead × List ℕ). x.0) heads in
    let behind : behind_of owner p one.1 ≡ behind_of owner q two.1 = ap (λ (x : IndexHead × List ℕ). x.1) heads in
    let bodies = ok_is (p.body, hmac (index_tag_key owner) (front_of p) ++ one.1) (q.body, hmac (index_tag_key owner) (front_of q) ++ two.1)
    (sym (shown_body owner p one.1 one.0) ∙ ap body_at behind ∙ shown_body owner q two.1 two.0) in
    let body : p.body ≡ q.body = ap (λ (x : IndexBody × List ℕ). x.0) bodies in
    let batch : p.batch ≡ q.batch = ap (λ (h : IndexHead). h.batch) head in
    let tag : p.tag ≡ q.tag = ap (λ (h : IndexHead). h.tag) head in
    rw (batch, tag, body) refl

-- ---- a file of its own length

index_whole : (owner : List ℕ) (p : PlainCheckpoint) → spell_index owner p ≡ spell_head (head_of p) ++ (spell_body p.body ++ hmac (index_tag_key owner) (front_of p))
unfolding spell_index spell_front
index_whole owner p = append_assoc (spell_head (head_of p)) (spell_body p.body) (hmac (index_tag_key owner) (front_of p))

length-index : (owner : List ℕ) (p : PlainCheckpoint) → IsSoundIndex p → length (spell_index owner p) ≡ 81 + length (spell_body p.body)
unfolding spell_index
length-index owner p is_sound =
    let front = length-spell_front p.batch p.tag (spell_body p.body) is_sound.tag in
    let tag = length-hmac (index_tag_key owner) (front_of p) in
    omega (arith, length-append (front_of p) (hmac (index_tag_key owner) (front_of p)), front, tag)

pub shown_long : (owner bytes : List ℕ) (p : PlainCheckpoint) → IsShown owner p bytes → 81 + length (spell_body p.body) ≤ length bytes
shown_long owner bytes p shown =
    let whole = ap length shown.2 in
    omega (arith, whole, length-append (spell_index owner p) shown.1, length-index owner p shown.0)

-- the head that 49 bytes spell
head_alone : (front : List ℕ) (p : PlainCheckpoint) (head : IndexHead) → IsSoundIndex p → front ≡ spell_head (head_of p) → head_at front ≡ Ok (head, []) → head_of p ≡ head
head_alone front p head is_sound is_head found =
    let read : head_at front ≡ Ok (head_of p, []) =
    ap head_at (is_head ∙ sym (append-nil (spell_head (head_of p)))) ∙ head_field.again (head_of p) [] (head_fits p is_sound) in
    ap (λ (x : IndexHead × List ℕ). x.0) (ok_is (head_of p, []) (head, []) (sym read ∙ found))

front_shown : (owner bytes : List ℕ) (p : PlainCheckpoint) → IsShown owner p bytes → take 49 bytes ≡ spell_head (head_of p)
front_shown owner bytes p shown =
    ap (take 49) (shown.2 ∙ index_parts owner p shown.1)
    ∙ take_at (spell_head (head_of p)) (behind_of owner p shown.1) 49 (length-spell_head (head_of p) (head_fits p shown.0))

-- no file is shown where the first bytes spell no head
pub no_head_none_shown : (owner bytes front : List ℕ) → front ≡ take 49 bytes → ((head : IndexHead) → head_at front ≡ Ok (head, []) → ⊥) → (p : PlainCheckpoint) → IsShown owner p bytes → ⊥
no_head_none_shown owner bytes front is_front none p shown =
    none (head_of p)
    (ap head_at (is_front ∙ front_shown owner bytes p shown ∙ sym (append-nil (spell_head (head_of p)))) ∙ head_field.again (head_of p) [] (head_fits p shown.0))

pub shown_has_head : (owner bytes front : List ℕ) (head : IndexHead) (p : PlainCheckpoint) → front ≡ take 49 bytes → head_at front ≡ Ok (head, []) → IsShown owner p bytes → head_of p ≡ head
shown_has_head owner bytes front head p is_front found shown = head_alone front p head shown.0 (is_front ∙ front_shown owner bytes p shown) found

-- bytes that are too few for the body that their head tells of
pub too_short_none_shown : (owner bytes front : List ℕ) (head : IndexHead) → front ≡ take 49 bytes → head_at front ≡ Ok (head, []) → length bytes < 49 + (head.body_len + 32)
    → (p : PlainCheckpoint) → IsShown owner p bytes → ⊥
too_short_none_shown owner bytes front head is_front found short p shown =
    let len : length (spell_body p.body) ≡ head.body_len = ap (λ (h : IndexHead). h.body_len) (shown_has_head owner bytes front head p is_front found shown) in
    omega (arith, len, short, shown_long owner bytes p shown)

-- the first bytes, and those behind them, are the first bytes
front_and_behind : (bytes : List ℕ) (n : ℕ) → 49 + n ≤ length bytes → take 49 bytes ++ take n (drop 49 bytes) ≡ take (49 + n) bytes
front_and_behind bytes n inside =
    let parts = take-append-drop 49 bytes in
    let long : length (take 49 bytes) ≡ 49 = omega (arith, length-take 49 bytes) in
    sym (ap (take (49 + n)) (sym parts) ∙ ap (λ k. take (k + n) (take 49 bytes ++ drop 49 bytes)) (sym long) ∙ take-append-add (take 49 bytes) (drop 49 bytes) n)

-- a file that is shown is the bytes up to its length
pub shown_is_file : (owner bytes front behind : List ℕ) (head : IndexHead) (p : PlainCheckpoint) → front ≡ take 49 bytes → behind ≡ take (head.body_len + 32) (drop 49 bytes)
    → head_at front ≡ Ok (head, []) → IsShown owner p bytes → front ++ behind ≡ spell_index owner p
shown_is_file owner bytes front behind head p is_front is_behind found shown =
    let n = head.body_len + 32 in
    let len : length (spell_body p.body) ≡ head.body_len = ap (λ (h : IndexHead). h.body_len) (shown_has_head owner bytes front head p is_front found shown) in
    let inside : 49 + n ≤ length bytes = omega (arith, len, shown_long owner bytes p shown) in
    let long : length (spell_index owner p) ≡ 49 + n = omega (arith, len, length-index owner p shown.0) in
    rw (is_front, is_behind) (front_and_behind bytes n inside ∙ ap (take (49 + n)) shown.2 ∙ take_at (spell_index owner p) shown.1 (49 + n) long)

-- bytes that begin with a file show it
pub file_is_shown : (owner bytes front behind : List ℕ) (n : ℕ) (p : PlainCheckpoint) → front ≡ take 49 bytes → behind ≡ take n (drop 49 bytes) → 49 + n ≤ length bytes
    → IsSoundIndex p → front ++ behind ≡ spell_index owner p → IsShown owner p bytes
file_is_shown owner bytes front behind n p is_front is_behind inside is_sound is_file =
    let first : take (49 + n) bytes ≡ spell_index owner p = sym (front_and_behind bytes n inside) ∙ rw (← is_front, ← is_behind) is_file in
    (is_sound, drop (49 + n) bytes, sym (take-append-drop (49 + n) bytes) ∙ ap (λ xs. xs ++ drop (49 + n) bytes) first)

-- ---- a file by its parts

-- what a file's parts are, where its head is this one
pub record IsSplit (owner : List ℕ) (p : PlainCheckpoint) (head : IndexHead) (front body tag : List ℕ) : Type 0 where
  pub is_head : head_of p ≡ head
  pub is_body : body ≡ spell_body p.body
  pub is_tag : tag ≡ hmac (index_tag_key owner) (front ++ body)

pub file_is_split : (owner front behind : List ℕ) (head : IndexHead) (p : PlainCheckpoint) → length front ≡ 49 → head_at front ≡ Ok (head, []) → IsSoundIndex p → front ++ behind ≡ spell_index owner p
    → IsSplit owner p head front (take head.body_len behind) (drop head.body_len behind)
unfolding spell_front
file_is_split owner front behind head p long found is_sound is_file =
    let body = spell_body p.body in
    let tag = hmac (index_tag_key owner) (front_of p) in
    let fits = head_fits p is_sound in
    let whole = is_file ∙ index_whole owner p in
    let is_front : front ≡ spell_head (head_of p) =
    sym (take_at front behind 49 long) ∙ ap (take 49) whole ∙ take_at (spell_head (head_of p)) (body ++ tag) 49 (length-spell_head (head_of p) fits) in
    let is_behind : behind ≡ body ++ tag =
    sym (drop_at front behind 49 long) ∙ ap (drop 49) whole ∙ drop_at (spell_head (head_of p)) (body ++ tag) 49 (length-spell_head (head_of p) fits) in
    let is_head = head_alone front p head is_sound is_front found in
    let len : length body ≡ head.body_len = ap (λ (h : IndexHead). h.body_len) is_head in
    let is_body : take head.body_len behind ≡ body = ap (take head.body_len) is_behind ∙ take_at body tag head.body_len len in
    let is_tag : drop head.body_len behind ≡ tag = ap (drop head.body_len) is_behind ∙ drop_at body tag head.body_len len in
    record {
      is_head = is_head;
      is_body = is_body;
      is_tag = is_tag ∙ ap (hmac (index_tag_key owner)) (sym (rw (is_front, is_body) refl));
    }

-- what is read of a head and a body under the owner's tag is a file of these
pub parts_are_file : (owner front behind : List ℕ) (head : IndexHead) (b : IndexBody) → IsBytes front → head_at front ≡ Ok (head, []) → length behind ≡ head.body_len + 32
    → take head.body_len behind ≡ spell_body b → drop head.body_len behind ≡ hmac (index_tag_key owner) (front ++ take head.body_len behind)
    → front ++ behind ≡ spell_index owner (plain_of head b)
unfolding spell_index spell_front
parts_are_file owner front behind head b are found long is_body is_tag =
    let took = (head_field.takes front (head, []) are found).0 in
    let is_front : front ≡ spell_head head = took ∙ append-nil (spell_head head) in
    let len : length (spell_body b) ≡ head.body_len = ap length (sym is_body) ∙ omega (arith, long, length-take head.body_len behind) in
    let same : head_of (plain_of head b) ≡ head = rw len refl in
    let fronts : front ++ take head.body_len behind ≡ front_of (plain_of head b) = rw (same, is_body, is_front) refl in
    ap (λ xs. front ++ xs) (sym (take-append-drop head.body_len behind))
    ∙ sym (append_assoc front (take head.body_len behind) (drop head.body_len behind))
    ∙ rw (is_tag, fronts) refl

pub parts_are_sound : (front : List ℕ) (head : IndexHead) (b : IndexBody) (body : List ℕ) → IsBytes front → head_at front ≡ Ok (head, []) → length body ≡ head.body_len
    → body ≡ spell_body b → 1 ≤ head.batch → IsSoundBody head.batch b → IsSoundIndex (plain_of head b)
parts_are_sound front head b body are found long is_body first is_sound =
    let fits = (head_field.takes front (head, []) are found).1 in
    record {
      first = first;
      batch = fits.batch;
      tag = fits.tag;
      body_len = omega (arith, fits.body_len, long, ap length is_body);
      body = is_sound;
    }

-- a body is sound where another with the same bytes is
pub same_bytes_same_body : (b other : IndexBody) → IsWritableBody b → IsWritableBody other → spell_body b ≡ spell_body other → b ≡ other
same_bytes_same_body b other fits other_fits same = (no_prefix body_field other b [] other_fits fits (same ∙ sym (append-nil (spell_body other)))).0
