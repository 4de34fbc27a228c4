-- A record of the bytes with a right tag under a key of the journal is one that the journal published, or forged.
use Rattle.std.proofs.Common.{◌≡◌, ◌≢◌, ⊎_elim, inl, inr, ℕ, true, false, List, [], ◌∷◌, ◌++◌, Ok, refl, sym, ap, subst, ◌∙◌}
use Rattle.std.specs.Prelude.{◌⊎◌}
use Rattle.std.specs.Str.{bytes_eq}
use Rattle.std.proofs.lemmas.Bool.{false≢true}
use Rattle.std.proofs.lemmas.Slice.Eq.{bytes_eq-Decides}
use Rattle.chacha_seal.specs.Keys.{KeyParts}
use Rattle.chacha_seal.specs.Sealing.{seal_tag, sealed}
use Rattle.commit_journal.specs.Placed.{PlainPlaced}
use Rattle.cry_base.specs.Sets.{In}
use Rattle.cry_base.specs.declared.client.Bundle.{Bundle}
use Rattle.cry_base.proofs.Members.{In-flat_map}
use Rattle.log_visits.specs.Judging.{bundle_log}
use Rattle.log_visits.specs.Placing.{PlacedContent, PlacedLink, log_contents, log_links}
use Rattle.journal_bytes.specs.Keys.{AreWhole, all_keys, key_bytes}
use Rattle.public_fold.specs.Journal.{Journal}
use Rattle.public_fold.specs.Records.{Content, text_of}
use Rattle.public_fold.specs.Valid.{IsValid}
use Rattle.record_format.specs.Plain.{PlainContent, PlainPayload}
use Rattle.record_format.specs.Reading.{content_at, link_at}
use Rattle.record_format.specs.Spellable.{IsContent, IsLink}
use Rattle.record_format.specs.Spelling.{content_head, link_head, spell_content, spell_link}
use Rattle.record_format.specs.declared.link.LinkRecord.{LinkRecord}
use Rattle.record_format.proofs.FieldLaws.{ok_is}
use Rattle.record_format.proofs.RecordLaws.{content_field, link_field}
use Rattle.trail_audit.specs.Forged.{IsForged, records_of}
use Rattle.trail_audit.specs.Records.{ALink, AContent, IsTagged, PlainRecord, payload_records, payloads_in, records_in, sealing_serial, spell_record}
use Rattle.forgery_laws.specs.Written.{AreBytes, HasForged, IsPublishedUnder, WasPublished}
use Rattle.forgery_laws.proofs.InImage.{log_payloads}
use Rattle.forgery_laws.proofs.Own.{All-In, content_payload, in_contents, in_links, link_payload, own_content, own_link}

-- ---- bytes tell records apart

pub same_or_not : (xs ys : List ℕ) → (xs ≡ ys) ⊎ (xs ≢ ys)
same_or_not xs ys =
    (elim (bytes_eq xs ys) as (λ b. bytes_eq xs ys ≡ b → (xs ≡ ys) ⊎ (xs ≢ ys)) [
      | true ↦ λ t. inl ((bytes_eq-Decides xs ys).0 t)
      | false ↦ λ t. inr (λ e. false≢true (sym t ∙ (bytes_eq-Decides xs ys).1 e))
    ]) refl

link_spelled : (a b : LinkRecord) → IsLink a → IsLink b → spell_link a ≡ spell_link b → a ≡ b
link_spelled a b of_a of_b same =
    let e = sym (link_field.again a [] of_a) ∙ ap (λ s. link_at (s ++ [])) same ∙ link_field.again b [] of_b in
    ap (λ (x : LinkRecord × List ℕ). x.0) (ok_is (a, []) (b, []) e)

content_spelled : (a b : PlainContent) → IsContent a → IsContent b → spell_content a ≡ spell_content b → a ≡ b
content_spelled a b of_a of_b same =
    let e = sym (content_field.again a [] of_a) ∙ ap (λ s. content_at (s ++ [])) same ∙ content_field.again b [] of_b in
    ap (λ (x : PlainContent × List ℕ). x.0) (ok_is (a, []) (b, []) e)

-- a link's first byte is 1, a content's 2
no_content : (l : LinkRecord) (c : PlainContent) → spell_link l ≡ spell_content c → ⊥
unfolding spell_link spell_content link_head content_head
no_content l c e = absurd cc

-- ---- the records that a reader reads stand in the bytes

-- each record of the log stands there, and has the form of its kind
pub record AreRecords (bytes : List ℕ) (log : List PlainPlaced) : Type 0 where
  pub links : (q : PlacedLink) → In q (log_links log) → In (ALink q.link) (records_in bytes) × IsLink q.link
  pub contents : (q : PlacedContent) → In q (log_contents log) → In (AContent q.content) (records_in bytes) × IsContent q.content

pub log_records : (bundle : Bundle) (bytes : List ℕ) (log : List PlainPlaced) → AreBytes bytes → bundle_log bundle bytes ≡ Ok log → AreRecords bytes log
unfolding records_in
log_records bundle bytes log are e = record {
  links = λ q i.
      let w = link_payload log q i in
      let payload = w.2.0 in
      let told = log_payloads bundle bytes log are e w.0 w.1 payload w.2.1 in (
        (In-flat_map PlainPayload PlainRecord payload_records (ALink q.link) (payloads_in bytes)).1 (payload, told.there, in_links payload q.link w.2.2),
        All-In LinkRecord IsLink payload.links q.link told.form.links w.2.2,
      );
  contents = λ q i.
      let w = content_payload log q i in
      let payload = w.2.0 in
      let told = log_payloads bundle bytes log are e w.0 w.1 payload w.2.1 in (
        (In-flat_map PlainPayload PlainRecord payload_records (AContent q.content) (payloads_in bytes)).1 (payload, told.there, in_contents payload q.content w.2.2),
        All-In PlainContent IsContent payload.contents q.content told.form.contents w.2.2,
      );
}

-- ---- published or forged

-- the bytes are those of a key of the journal
abbrev pub IsKeyOf : List ℕ → Journal → List ℕ → Type 0
IsKeyOf owner m bytes = (key : KeyParts) × In key (all_keys owner m) × (bytes ≡ key.bytes)

-- the content of the history that a text is of
pub record IsTextOf (m : Journal) (kind object : ℕ) (text : List ℕ) : Type 0 where
  pub content : Content
  pub published : WasPublished m content
  pub kind_is : kind ≡ content.piece.kind
  pub object_is : object ≡ content.piece.object
  pub text_is : text ≡ text_of content.piece

module _ (owner : List ℕ) (m : Journal) where
  -- a record of the journal, sealed under the key, has these bytes
  abbrev IsAmong : List ℕ → PlainRecord → List PlainRecord → Type 0
  IsAmong key r rs = (own : PlainRecord) × In own rs × (key_bytes owner m (sealing_serial own) ≡ key) × (spell_record own ≡ spell_record r)

  abbrev IsNoneOf : List ℕ → PlainRecord → List PlainRecord → Type 0
  IsNoneOf key r rs = (own : PlainRecord) → In own rs → key_bytes owner m (sealing_serial own) ≡ key → spell_record own ≢ spell_record r

  more : (key : List ℕ) (r x : PlainRecord) (rs : List PlainRecord) → IsAmong key r rs → IsAmong key r (x ∷ rs)
  more key r x rs w = (w.0, inr w.1, w.2, w.3)

  none_more : (key : List ℕ) (r x : PlainRecord) (rs : List PlainRecord) → (key_bytes owner m (sealing_serial x) ≡ key → spell_record x ≢ spell_record r) → IsNoneOf key r rs → IsNoneOf key r (x ∷ rs)
  none_more key r x rs first none own i k = ⊎_elim
      (λ (e : own ≡ x). λ s. first (ap (λ z. key_bytes owner m (sealing_serial z)) (sym e) ∙ k) (ap spell_record (sym e) ∙ s))
      (λ u. none own u k) i

  decided : (key : List ℕ) (r : PlainRecord) (rs : List PlainRecord) → IsAmong key r rs ⊎ IsNoneOf key r rs
  decided key r [] = inr (λ own i. absurd i)
  decided key r (x ∷ rs) = ⊎_elim
      (λ w. inl (more key r x rs w))
      (λ none. ⊎_elim
      (λ k. ⊎_elim
      (λ s. inl (x, inl refl, k, s))
      (λ other. inr (none_more key r x rs (λ same. other) none))
      (same_or_not (spell_record x) (spell_record r)))
      (λ other. inr (none_more key r x rs (λ same. absurd (other same)) none))
      (same_or_not (key_bytes owner m (sealing_serial x)) key))
      (decided key r rs)

  pub published_or_forged : (bytes : List ℕ) (r : PlainRecord) (key : KeyParts) → In r (records_in bytes) → In key (all_keys owner m) → IsTagged key.bytes r → IsPublishedUnder owner m key r ⊎ IsForged owner m bytes r
  published_or_forged bytes r key i there tagged = ⊎_elim
      (λ w. inl w)
      (λ none. inr (record { stands = i; key = key; of_journal = there; tagged = tagged; of_no_entry = none }))
      (decided key.bytes r (records_of owner m))

module _ (owner : List ℕ) (m : Journal) (valid : IsValid m) (whole : AreWhole owner m) (bytes : List ℕ) where
  authentic : (r : PlainRecord) → In r (records_in bytes) → (key : KeyParts) → In key (all_keys owner m) → IsTagged key.bytes r → IsPublishedUnder owner m key r ⊎ HasForged owner m bytes
  authentic r i key there tagged = ⊎_elim
      (λ w. inl w)
      (λ forged. inr (r, forged))
      (published_or_forged owner m bytes r key i there tagged)

  -- ---- a link leads to a key of the journal

  link_by : (l : LinkRecord) (key : KeyParts) → IsLink l → (own : PlainRecord) → In own (records_of owner m) → key_bytes owner m (sealing_serial own) ≡ key.bytes → spell_record own ≡ spell_record (ALink l)
      → IsKeyOf owner m (sealed key.bytes l.nonce l.cipher)
  unfolding spell_record sealing_serial key_bytes
  link_by l key form (AContent c) i k s = absurd (no_content l c (sym s))
  link_by l key form (ALink own) i k s =
      let told = own_link owner m valid whole own i in
      let is : own ≡ l = link_spelled own l told.form form s in
      (told.target, told.there, (λ j. sealed (sym k j) (sym is j).nonce (sym is j).cipher) ∙ told.opens)

  pub link_leads : (l : LinkRecord) → In (ALink l) (records_in bytes) × IsLink l → (key : List ℕ) → IsKeyOf owner m key → l.tag ≡ seal_tag key (link_head l) l.cipher
      → IsKeyOf owner m (sealed key l.nonce l.cipher) ⊎ HasForged owner m bytes
  link_leads l there key own tagged =
      let k : KeyParts = own.0 in
      let right : IsTagged k.bytes (ALink l) = tagged ∙ ap (λ b. seal_tag b (link_head l) l.cipher) own.2 in
      ⊎_elim
      (λ w. inl (subst (λ b. IsKeyOf owner m (sealed b l.nonce l.cipher)) (sym own.2) (link_by l k there.1 w.0 w.1 w.2 w.3)))
      (λ forged. inr forged)
      (authentic (ALink l) there.0 k own.1 right)

  -- ---- a content opens to a text of the journal

  content_by : (c : PlainContent) (key : KeyParts) → IsContent c → (own : PlainRecord) → In own (records_of owner m) → key_bytes owner m (sealing_serial own) ≡ key.bytes → spell_record own ≡ spell_record (AContent c)
      → IsTextOf m c.kind c.object (sealed key.bytes c.nonce c.cipher)
  unfolding spell_record sealing_serial key_bytes
  content_by c key form (ALink l) i k s = absurd (no_content l c s)
  content_by c key form (AContent own) i k s =
      let told = own_content owner m valid whole own i in
      let is : own ≡ c = content_spelled own c told.form form s in
      record {
        content = told.content;
        published = told.published;
        kind_is = ap (λ (z : PlainContent). z.kind) (sym is) ∙ told.kind;
        object_is = ap (λ (z : PlainContent). z.object) (sym is) ∙ told.object;
        text_is = (λ j. sealed (sym k j) (sym is j).nonce (sym is j).cipher) ∙ told.opens;
      }

  pub content_opens : (c : PlainContent) → In (AContent c) (records_in bytes) × IsContent c → (key : List ℕ) → IsKeyOf owner m key → c.tag ≡ seal_tag key (content_head c) c.cipher
      → IsTextOf m c.kind c.object (sealed key c.nonce c.cipher) ⊎ HasForged owner m bytes
  content_opens c there key own tagged =
      let k : KeyParts = own.0 in
      let right : IsTagged k.bytes (AContent c) = tagged ∙ ap (λ b. seal_tag b (content_head c) c.cipher) own.2 in
      ⊎_elim
      (λ w. inl (subst (λ b. IsTextOf m c.kind c.object (sealed b c.nonce c.cipher)) (sym own.2) (content_by c k there.1 w.0 w.1 w.2 w.3)))
      (λ forged. inr forged)
      (authentic (AContent c) there.0 k own.1 right)
