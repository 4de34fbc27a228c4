-- A batch that is put together part by part.
use Rattle.std.proofs.Common.{◌≡◌, ℕ, ◌-◌, ◌≤◌, List, [], ◌∷◌, ◌++◌, length, take, drop, append_assoc, arith, refl, sym, ap, ◌∙◌, length-append}
use Rattle.std.proofs.Math.Seq.{take-append_seam, drop-append_seam, take-length}
use Rattle.std.proofs.Math.ListN.{drop_of_length-le}
use Rattle.std.proofs.lemmas.List.{length-take-le, length-drop, append-nil}
use Rattle.hmac_seal.specs.Hmac.{hmac}
use Rattle.chacha_seal.specs.Sealing.{owner_tag_key, masked}
use Rattle.chacha_seal.specs.Stream.{xor_stream, xor_from}
use Rattle.commit_journal.proofs.Pieces.{length-head_bytes}
use Rattle.batch_log.specs.Steps.{with_slot}
use Rattle.commit_journal.specs.Image.{Batch, batch_head, batch_veil, masked_payload, batch_check, owner_tag, spell_batch, empty_slot}
use Rattle.commit_journal.specs.Journals.{epoch_batch}
use borrow.Rule.Slice.PartMut.{post_of, put_mid}

-- the front of a whole list is the list
take-all : (n : ℕ) (xs : List ℕ) → n ≡ length xs → take n xs ≡ xs
take-all n xs whole = ap (λ m. take m xs) whole ∙ take-length xs

-- a text whose bytes from 45 on were written over in place
pub with_payload : (items part : List ℕ) → 45 ≤ length items → length part ≡ length items - 45 →
    (whole : List ℕ) → whole ≡ take 45 items ++ (part ++ post_of 45 (length items - 45) items) →
    take (length items) (whole ++ drop (length whole) items) ≡ take 45 items ++ part
with_payload items part long same whole is =
    let nothing : post_of 45 (length items - 45) items ≡ [] =
    drop_of_length-le (drop 45 items) (omega (arith, length-drop 45 items))
    in
    let short : whole ≡ take 45 items ++ part =
    is ∙ ap (λ r. take 45 items ++ (part ++ r)) nothing ∙ ap (λ r. take 45 items ++ r) (append-nil part)
    in
    let sized : length items ≡ length whole =
    omega (arith, ap length short, length-append (take 45 items) part, length-take-le 45 items long)
    in
    ap (λ n. take n (whole ++ drop (length whole) items)) sized
    ∙ take-append_seam whole (drop (length whole) items)
    ∙ short

-- a slice from 45 to the end
pub behind_the_slot : (bytes items : List ℕ) → bytes ≡ items → take (length bytes - 45) (drop 45 bytes) ≡ drop 45 items
behind_the_slot bytes items is =
    take-all (length bytes - 45) (drop 45 bytes) (sym (length-drop 45 bytes)) ∙ ap (λ x. drop 45 x) is

-- the message of an owner tag, added part by part
pub tagged_parts : (previous head payload check : List ℕ) →
    ((([] ++ previous) ++ head) ++ payload) ++ check ≡ previous ++ (head ++ (payload ++ check))
tagged_parts previous head payload check =
    append_assoc (previous ++ head) payload check ∙ append_assoc previous head (payload ++ check)

-- three pieces put behind a list
pub put_thrice : (old x1 x2 x3 first second third : List ℕ) →
    x1 ≡ old ++ first → x2 ≡ x1 ++ second → x3 ≡ x2 ++ third → x3 ≡ old ++ (first ++ (second ++ third))
put_thrice old x1 x2 x3 first second third e1 e2 e3 =
    e3 ∙ ap (λ x. x ++ third) (e2 ∙ ap (λ x. x ++ second) e1)
    ∙ append_assoc (old ++ first) second third
    ∙ append_assoc old first (second ++ third)

pub length-empty_slot : length empty_slot ≡ 32
unfolding empty_slot
length-empty_slot = refl

-- the parts of a batch that ends with its payload
pub record Parts (b : Batch) (slot rest x : List ℕ) : Type 0 where
  pub head : take 13 x ≡ batch_head b
  pub front : take 45 x ≡ batch_head b ++ slot
  pub behind : drop 45 x ≡ rest

pub parts_of : (b : Batch) (slot rest x : List ℕ) → length slot ≡ 32 → x ≡ batch_head b ++ (slot ++ rest) → Parts b slot rest x
parts_of b slot rest x slot_length is =
    let head_length = length-head_bytes b.type_of b.number b.epoch (length b.payload) in
    let front_length : length (batch_head b ++ slot) ≡ 45 = length-append (batch_head b) slot ∙ omega (arith, head_length, slot_length) in
    let regrouped : x ≡ (batch_head b ++ slot) ++ rest = is ∙ sym (append_assoc (batch_head b) slot rest) in
    record {
      head = ap (λ n. take n x) (sym head_length) ∙ ap (λ y. take (length (batch_head b)) y) is ∙ take-append_seam (batch_head b) (slot ++ rest);
      front = ap (λ n. take n x) (sym front_length) ∙ ap (λ y. take (length (batch_head b ++ slot)) y) regrouped ∙ take-append_seam (batch_head b ++ slot) rest;
      behind = ap (λ n. drop n x) (sym front_length) ∙ ap (λ y. drop (length (batch_head b ++ slot)) y) regrouped ∙ drop-append_seam (batch_head b ++ slot) rest;
    }

-- the tag over the parts of a masked batch is the owner tag
pub owner_tag_is : (owner previous veil slot x : List ℕ) (b : Batch) → veil ≡ batch_veil owner b →
    Parts b slot (masked veil b.payload) x →
    hmac (owner_tag_key owner) (previous ++ (take 13 x ++ (drop 45 x ++ hmac veil (drop 45 x)))) ≡ owner_tag owner previous b
unfolding owner_tag
owner_tag_is owner previous veil slot x b is parts = rw (parts.head, parts.behind, is) refl

-- a masked batch with its tags behind it is spelled
pub spelled : (owner previous veil slot x tag y : List ℕ) (b : Batch) → veil ≡ batch_veil owner b →
    x ≡ batch_head b ++ (slot ++ masked veil b.payload) → tag ≡ owner_tag owner previous b →
    y ≡ x ++ (hmac veil (masked veil b.payload) ++ (tag ++ 0 ∷ [])) →
    y ≡ spell_batch owner previous slot b ++ 0 ∷ []
unfolding spell_batch
spelled owner previous veil slot x tag y b is masked_is tag_is put =
    rw (put, masked_is, tag_is, is) (simp append_assoc)

-- a spelled batch with other bytes in its slot
pub with_slot-spelled : (owner previous slot veil : List ℕ) (b : Batch) → length slot ≡ 32 →
    with_slot veil (spell_batch owner previous slot b ++ 0 ∷ []) ≡ spell_batch owner previous veil b ++ 0 ∷ []
unfolding spell_batch
with_slot-spelled owner previous slot veil b slot_length =
    let rest = masked_payload owner b ++ (batch_check owner b ++ owner_tag owner previous b) in
    let x = (batch_head b ++ (slot ++ rest)) ++ 0 ∷ [] in
    let regrouped : x ≡ batch_head b ++ (slot ++ (rest ++ 0 ∷ [])) = simp append_assoc in
    let parts = parts_of b slot (rest ++ 0 ∷ []) x slot_length regrouped in
    ap (λ h. h ++ (veil ++ drop 45 x)) parts.head
    ∙ ap (λ r. batch_head b ++ (veil ++ r)) parts.behind
    ∙ sym (append_assoc (batch_head b) (veil ++ rest) (0 ∷ []) ∙ ap (λ r. batch_head b ++ r) (append_assoc veil rest (0 ∷ [])))

-- no bytes under a veil
pub masked-nil : (veil : List ℕ) → masked veil [] ≡ []
unfolding masked xor_stream xor_from
masked-nil veil = refl

-- the check of a batch without a payload
epoch_check : (owner veil check : List ℕ) (number epoch : ℕ) → veil ≡ batch_veil owner (epoch_batch number epoch) → check ≡ hmac veil [] →
    check ≡ batch_check owner (epoch_batch number epoch)
epoch_check owner veil check number epoch is check_is =
    let b = epoch_batch number epoch in
    check_is ∙ ap (λ v. hmac v []) is ∙ ap (λ p. hmac (batch_veil owner b) p) (sym (masked-nil (batch_veil owner b)))

-- its owner tag
pub epoch_tag : (owner previous veil head check tag : List ℕ) (number epoch : ℕ) → veil ≡ batch_veil owner (epoch_batch number epoch) →
    head ≡ batch_head (epoch_batch number epoch) → check ≡ hmac veil [] → tag ≡ hmac (owner_tag_key owner) (previous ++ (head ++ check)) →
    tag ≡ owner_tag owner previous (epoch_batch number epoch)
unfolding owner_tag
epoch_tag owner previous veil head check tag number epoch is head_is check_is tag_is =
    let b = epoch_batch number epoch in
    let key = owner_tag_key owner in
    tag_is
    ∙ ap (λ h. hmac key (previous ++ (h ++ check))) head_is
    ∙ ap (λ k. hmac key (previous ++ (batch_head b ++ k))) (epoch_check owner veil check number epoch is check_is)
    ∙ ap (λ p. hmac key (previous ++ (batch_head b ++ (p ++ batch_check owner b)))) (sym (masked-nil (batch_veil owner b)))

-- and its bytes
pub epoch_spelled : (owner previous veil head check tag front back bytes : List ℕ) (number epoch : ℕ) → veil ≡ batch_veil owner (epoch_batch number epoch) →
    head ≡ batch_head (epoch_batch number epoch) → check ≡ hmac veil [] → tag ≡ owner_tag owner previous (epoch_batch number epoch) →
    front ≡ head ++ empty_slot → back ≡ check ++ (tag ++ 0 ∷ []) → bytes ≡ front ++ back →
    bytes ≡ spell_batch owner previous empty_slot (epoch_batch number epoch) ++ 0 ∷ []
unfolding spell_batch
epoch_spelled owner previous veil head check tag front back bytes number epoch is head_is check_is tag_is front_is back_is bytes_is =
    let b = epoch_batch number epoch in
    let none : masked_payload owner b ≡ [] = masked-nil (batch_veil owner b) in
    let checked = epoch_check owner veil check number epoch is check_is in
    let regrouped : (batch_head b ++ empty_slot) ++ (batch_check owner b ++ (owner_tag owner previous b ++ 0 ∷ []))
    ≡ (batch_head b ++ (empty_slot ++ ([] ++ (batch_check owner b ++ owner_tag owner previous b)))) ++ 0 ∷ [] = simp append_assoc
    in
    bytes_is
    ∙ ap (λ f. f ++ back) (front_is ∙ ap (λ h. h ++ empty_slot) head_is)
    ∙ ap (λ r. (batch_head b ++ empty_slot) ++ r) (back_is ∙ ap (λ k. k ++ (tag ++ 0 ∷ [])) checked ∙ ap (λ t. batch_check owner b ++ (t ++ 0 ∷ [])) tag_is)
    ∙ regrouped
    ∙ ap (λ p. (batch_head b ++ (empty_slot ++ (p ++ (batch_check owner b ++ owner_tag owner previous b)))) ++ 0 ∷ []) (sym none)

-- a list that was written over from its start, and then behind that
pub two_parts : (n k : ℕ) (first second a b zeros rest : List ℕ) → a ≡ first → b ≡ second → length first ≡ n → drop k zeros ≡ rest →
    put_mid n k (a ++ zeros) b ≡ first ++ (second ++ rest)
two_parts n k first second a b zeros rest a_is b_is at rest_is =
    ap (λ x. put_mid n k (x ++ zeros) b) a_is
    ∙ ap (λ y. put_mid n k (first ++ zeros) y) b_is
    ∙ ap (λ m. put_mid m k (first ++ zeros) second) (sym at)
    ∙ ap (λ f. f ++ (second ++ drop k (drop (length first) (first ++ zeros)))) (take-append_seam first zeros)
    ∙ ap (λ r. first ++ (second ++ drop k r)) (drop-append_seam first zeros)
    ∙ ap (λ r. first ++ (second ++ r)) rest_is

-- the parts of a batch that begins as an empty text
pub untagged_is : (old head slot payload begun batch : List ℕ) → old ≡ [] → begun ≡ old ++ (head ++ slot) → batch ≡ begun ++ payload →
    batch ≡ head ++ (slot ++ payload)
untagged_is old head slot payload begun batch empty begun_is batch_is =
    batch_is ∙ ap (λ r. r ++ payload) (begun_is ∙ ap (λ o. o ++ (head ++ slot)) empty) ∙ append_assoc head slot payload
