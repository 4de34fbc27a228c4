-- Records that are sealed and opened in place are those of the definitions.
use Rattle.std.proofs.Common.{◌≡◌, ℕ, List, ◌++◌, length, take, drop, Ok, Err, Result, refl, sym, ap, ◌∙◌, subst}
use Rattle.std.specs.Prelude.{IfOk, IsOk, OnOk}
use Rattle.std.proofs.Math.Seq.{take-append_seam}
use Rattle.std.proofs.lemmas.Bool.{false≢true}
use Rattle.cry_base.specs.declared.ids.Serial.{Serial}
use Rattle.chacha_seal.specs.Keys.{KeyParts}
use Rattle.chacha_seal.specs.Sealing.{sealed, seal_tag}
use Rattle.chacha_seal.proofs.SealingLemmas.{length-sealed, sealed-sealed}
use Rattle.record_format.specs.declared.link.LinkRecord.{LinkRecord}
use Rattle.record_format.specs.Plain.{PlainContent}
use Rattle.record_format.specs.Spelling.{link_head, content_head}
use Rattle.key_links.specs.Opened.{IsAuthenticContent, IsAuthenticLink, target_of, text_of}
use Rattle.key_links.specs.Sealed.{sealed_link, sealed_content}

-- bytes as many as there were, left behind a loan of a whole text
pub left_behind : (items bytes : List ℕ) → length bytes ≡ length items → take (length items) (bytes ++ drop (length bytes) items) ≡ bytes
left_behind items bytes same =
    ap (λ n. take n (bytes ++ drop (length bytes) items)) (sym same) ∙ take-append_seam bytes (drop (length bytes) items)

serial : ℕ → Serial
serial n = record { 0 = n }

same_serial : (s : Serial) (n : ℕ) → s.0 ≡ n → s ≡ record { 0 = n }
unfolding serial
same_serial s n is = ap serial is

-- a link whose cipher bytes were the target's key, and its tag blank, when its head was taken
pub link_is : (kind given id id' n nonce : ℕ) (s s' : Serial) (from to : KeyParts) (plain blank cipher header tag : List ℕ) →
    given ≡ kind → id ≡ from.id → id' ≡ to.id → s.0 ≡ from.serial → s'.0 ≡ to.serial → n ≡ nonce → plain ≡ to.bytes →
    header ≡ link_head (record { kind = given; from_id = id; to_id = id'; from_serial = s; to_serial = s'; nonce = n; cipher = plain; tag = blank }) →
    cipher ≡ sealed from.bytes nonce plain → tag ≡ seal_tag from.bytes header cipher →
    let it : LinkRecord = record { kind = given; from_id = id; to_id = id'; from_serial = s; to_serial = s'; nonce = n; cipher = cipher; tag = tag } in
    it ≡ sealed_link kind from to nonce
unfolding sealed_link link_head
link_is kind given id id' n nonce s s' from to plain blank cipher header tag e0 e1 e2 e3 e4 e5 e6 e7 e8 e9 =
    let f = same_serial s from.serial e3 in
    let t = same_serial s' to.serial e4 in
    rw (e9, e7, e8, e6, e5, e0, e1, e2, f, t) refl

-- a content whose cipher bytes were the text, and its tag blank, when its head was taken
pub content_is : (kind given object n nonce : ℕ) (s : Serial) (key : KeyParts) (text blank cipher header tag : List ℕ) →
    given ≡ kind → s.0 ≡ key.serial → n ≡ nonce →
    header ≡ content_head (record { kind = given; object = object; key_serial = s; nonce = n; cipher = text; tag = blank }) →
    cipher ≡ sealed key.bytes nonce text → tag ≡ seal_tag key.bytes header cipher →
    let it : PlainContent = record { kind = given; object = object; key_serial = s; nonce = n; cipher = cipher; tag = tag } in
    it ≡ sealed_content kind key object nonce text
unfolding sealed_content content_head
content_is kind given object n nonce s key text blank cipher header tag e0 e1 e2 e3 e4 e5 =
    let f = same_serial s key.serial e1 in
    rw (e5, e3, e4, e2, e0, f, length-sealed key.bytes nonce text) refl

-- ---- what was sealed is opened

pub opened_link : (kind : ℕ) (from to : KeyParts) (nonce : ℕ) (r : LinkRecord) → r ≡ sealed_link kind from to nonce → IsAuthenticLink from r × (target_of from r ≡ to)
unfolding sealed_link link_head
opened_link kind from to nonce r is =
    let with : List ℕ → KeyParts = λ bytes. record { id = to.id; serial = to.serial; bytes = bytes } in
    subst (λ q. IsAuthenticLink from q × (target_of from q ≡ to)) (sym is) (refl, ap with (sealed-sealed from.bytes nonce to.bytes))

pub opened_content : (kind : ℕ) (key : KeyParts) (object nonce : ℕ) (text : List ℕ) (r : PlainContent) → r ≡ sealed_content kind key object nonce text → IsAuthenticContent key r × (text_of key r ≡ text)
unfolding sealed_content content_head
opened_content kind key object nonce text r is =
    subst (λ q. IsAuthenticContent key q × (text_of key q ≡ text)) (sym is) (refl, sealed-sealed key.bytes nonce text)

-- a result that isn't an error
pub on_ok : {X E : Type 0} (P : Type 0) (r : Result X E) → IsOk r → OnOk r P → P
on_ok P (Ok x) ok p = p
on_ok P (Err e) ok p = absurd (false≢true ok)

pub ok_is : {X E : Type 0} (x : X) (r : Result X E) → IsOk r → IfOk r (λ y. y ≡ x) → r ≡ Ok x
ok_is x (Ok y) ok is = ap Ok is
ok_is x (Err e) ok is = absurd (false≢true ok)
