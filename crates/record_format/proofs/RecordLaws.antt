-- What is read as a link, a content or a note is spelled so, and what is spelled so is read.
use Rattle.std.proofs.Common.{◌≡◌, ℕ, ◌^◌, ◌<◌, List, ◌∷◌, ◌++◌, length, Ok, refl, ap, subst, ◌∙◌, append_assoc, arith, lit≤}
use Rattle.record_format.specs.declared.link.LinkRecord.{LinkRecord}
use Rattle.record_format.specs.Plain.{PlainContent}
use Rattle.record_format.specs.Reading.{link_at, content_at}
use Rattle.record_format.specs.Spelling.{be32, be64, link_head, spell_link, content_head, spell_content}
use Rattle.record_format.specs.Spellable.{IsLink, IsContent, shortest_text, longest_text}
use Rattle.record_format.proofs.Lengths.{longest_text_most}
use Rattle.record_format.proofs.FieldLaws.{IsBytes, IsField, took_then, ok_is, again_then, Within, within_then, byte_field, bytes_field, field32, field64, between_field}

-- ---- a link

link_parts : (r : LinkRecord) (rest : List ℕ) → spell_link r ++ rest
    ≡ 1 ∷ r.kind ∷ (be32 r.from_id ++ (be32 r.to_id ++ (be64 r.from_serial.0 ++ (be64 r.to_serial.0 ++ (be64 r.nonce ++ (r.cipher ++ (r.tag ++ rest)))))))
unfolding spell_link link_head
link_parts r rest = simp append_assoc

link_takes : (bytes : List ℕ) (x : LinkRecord × List ℕ) → IsBytes bytes → link_at bytes ≡ Ok x → (bytes ≡ spell_link x.0 ++ x.1) × IsLink x.0
unfolding link_at
link_takes bytes x are e =
    took_then (byte_field 1 1) _ bytes x are e (λ one r1 p1 a1 f1 e1.
    took_then (byte_field 1 11) _ r1 x a1 e1 (λ kind r2 p2 a2 f2 e2.
    took_then field32 _ r2 x a2 e2 (λ from_id r3 p3 a3 f3 e3.
    took_then field32 _ r3 x a3 e3 (λ to_id r4 p4 a4 f4 e4.
    took_then field64 _ r4 x a4 e4 (λ from_serial r5 p5 a5 f5 e5.
    took_then field64 _ r5 x a5 e5 (λ to_serial r6 p6 a6 f6 e6.
    took_then field64 _ r6 x a6 e6 (λ nonce r7 p7 a7 f7 e7.
    took_then (bytes_field 32) _ r7 x a7 e7 (λ cipher r8 p8 a8 f8 e8.
    took_then (bytes_field 32) _ r8 x a8 e8 (λ tag r9 p9 a9 f9 e9.
    let made : LinkRecord = record {
      kind = kind;
      from_id = from_id;
      to_id = to_id;
      from_serial = record { 0 = from_serial };
      to_serial = record { 0 = to_serial };
      nonce = nonce;
      cipher = cipher;
      tag = tag;
    } in
    let one-is : one ≡ 1 = omega arith in
    let whole : bytes ≡ spell_link made ++ r9 = rw (link_parts made r9, p1, p2, p3, p4, p5, p6, p7, p8, p9, one-is) refl in
    let fits : IsLink made = record {
      kind_from_one = f2.0;
      kind_to_eleven = f2.1;
      from_id = f3;
      to_id = f4;
      from_serial = f5;
      to_serial = f6;
      nonce = f7;
      cipher = f8;
      tag = f9;
    } in
    subst (λ (y : LinkRecord × List ℕ). (bytes ≡ spell_link y.0 ++ y.1) × IsLink y.0) (ok_is (made, r9) x e9) (whole, fits))))))))))

link_again : (r : LinkRecord) (rest : List ℕ) → IsLink r → link_at (spell_link r ++ rest) ≡ Ok (r, rest)
unfolding link_at
link_again r rest fits =
    ap link_at (link_parts r rest)
    ∙ (again_then (byte_field 1 1) _ 1 _ (lit≤ tt, lit≤ tt)
    ∙ (again_then (byte_field 1 11) _ r.kind _ (fits.kind_from_one, fits.kind_to_eleven)
    ∙ (again_then field32 _ r.from_id _ fits.from_id
    ∙ (again_then field32 _ r.to_id _ fits.to_id
    ∙ (again_then field64 _ r.from_serial.0 _ fits.from_serial
    ∙ (again_then field64 _ r.to_serial.0 _ fits.to_serial
    ∙ (again_then field64 _ r.nonce _ fits.nonce
    ∙ (again_then (bytes_field 32) _ r.cipher _ fits.cipher
    ∙ again_then (bytes_field 32) _ r.tag rest fits.tag))))))))

link_within : (bytes : List ℕ) → Within (length bytes) (link_at bytes)
unfolding link_at
link_within bytes =
    let n = length bytes in
    within_then (byte_field 1 1) n _ bytes (omega arith) (λ one l1.
    within_then (byte_field 1 11) n _ one.1 l1 (λ kind l2.
    within_then field32 n _ kind.1 l2 (λ from_id l3.
    within_then field32 n _ from_id.1 l3 (λ to_id l4.
    within_then field64 n _ to_id.1 l4 (λ from_serial l5.
    within_then field64 n _ from_serial.1 l5 (λ to_serial l6.
    within_then field64 n _ to_serial.1 l6 (λ nonce l7.
    within_then (bytes_field 32) n _ nonce.1 l7 (λ cipher l8.
    within_then (bytes_field 32) n _ cipher.1 l8 (λ tag l9. l9)))))))))

pub link_field : IsField link_at spell_link IsLink
link_field = record { takes = link_takes; again = link_again; within = link_within }

-- ---- a content

content_parts : (r : PlainContent) (rest : List ℕ) → spell_content r ++ rest
    ≡ 2 ∷ r.kind ∷ (be32 r.object ++ (be64 r.key_serial.0 ++ (be64 r.nonce ++ (be32 (length r.cipher) ++ (r.cipher ++ (r.tag ++ rest))))))
unfolding spell_content content_head
content_parts r rest = simp append_assoc

content_takes : (bytes : List ℕ) (x : PlainContent × List ℕ) → IsBytes bytes → content_at bytes ≡ Ok x → (bytes ≡ spell_content x.0 ++ x.1) × IsContent x.0
unfolding content_at
content_takes bytes x are e =
    took_then (byte_field 2 2) _ bytes x are e (λ two r1 p1 a1 f1 e1.
    took_then (byte_field 1 3) _ r1 x a1 e1 (λ kind r2 p2 a2 f2 e2.
    took_then field32 _ r2 x a2 e2 (λ object r3 p3 a3 f3 e3.
    took_then field64 _ r3 x a3 e3 (λ key_serial r4 p4 a4 f4 e4.
    took_then field64 _ r4 x a4 e4 (λ nonce r5 p5 a5 f5 e5.
    took_then (between_field (shortest_text kind) (longest_text kind)) _ r5 x a5 e5 (λ len r6 p6 a6 f6 e6.
    took_then (bytes_field len) _ r6 x a6 e6 (λ cipher r7 p7 a7 f7 e7.
    took_then (bytes_field 32) _ r7 x a7 e7 (λ tag r8 p8 a8 f8 e8.
    let made : PlainContent = record {
      kind = kind;
      object = object;
      key_serial = record { 0 = key_serial };
      nonce = nonce;
      cipher = cipher;
      tag = tag;
    } in
    let two-is : two ≡ 2 = omega arith in
    let whole : bytes ≡ spell_content made ++ r8 = rw (content_parts made r8, p1, p2, p3, p4, p5, p6, p7, p8, two-is, f7) refl in
    let fits : IsContent made = record {
      kind_from_one = f2.0;
      kind_to_three = f2.1;
      object = f3;
      key_serial = f4;
      nonce = f5;
      text_from = rw f7 f6.1;
      text_to = rw f7 f6.2;
      tag = f8;
    } in
    subst (λ (y : PlainContent × List ℕ). (bytes ≡ spell_content y.0 ++ y.1) × IsContent y.0) (ok_is (made, r8) x e8) (whole, fits)))))))))

content_again : (r : PlainContent) (rest : List ℕ) → IsContent r → content_at (spell_content r ++ rest) ≡ Ok (r, rest)
unfolding content_at
content_again r rest fits =
    let short : length r.cipher < 2 ^ 32 = omega (arith, fits.text_to, longest_text_most r.kind) in
    ap content_at (content_parts r rest)
    ∙ (again_then (byte_field 2 2) _ 2 _ (lit≤ tt, lit≤ tt)
    ∙ (again_then (byte_field 1 3) _ r.kind _ (fits.kind_from_one, fits.kind_to_three)
    ∙ (again_then field32 _ r.object _ fits.object
    ∙ (again_then field64 _ r.key_serial.0 _ fits.key_serial
    ∙ (again_then field64 _ r.nonce _ fits.nonce
    ∙ (again_then (between_field (shortest_text r.kind) (longest_text r.kind)) _ (length r.cipher) _ (short, fits.text_from, fits.text_to)
    ∙ (again_then (bytes_field (length r.cipher)) _ r.cipher _ refl
    ∙ again_then (bytes_field 32) _ r.tag rest fits.tag)))))))

content_within : (bytes : List ℕ) → Within (length bytes) (content_at bytes)
unfolding content_at
content_within bytes =
    let n = length bytes in
    within_then (byte_field 2 2) n _ bytes (omega arith) (λ two l1.
    within_then (byte_field 1 3) n _ two.1 l1 (λ kind l2.
    within_then field32 n _ kind.1 l2 (λ object l3.
    within_then field64 n _ object.1 l3 (λ key_serial l4.
    within_then field64 n _ key_serial.1 l4 (λ nonce l5.
    within_then (between_field (shortest_text kind.0) (longest_text kind.0)) n _ nonce.1 l5 (λ len l6.
    within_then (bytes_field len.0) n _ len.1 l6 (λ cipher l7.
    within_then (bytes_field 32) n _ cipher.1 l7 (λ tag l8. l8))))))))

pub content_field : IsField content_at spell_content IsContent
content_field = record { takes = content_takes; again = content_again; within = content_within }
