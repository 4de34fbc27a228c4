-- What an audit shows of any bytes to a reader with a key of the journal: names and files that it wrote, or a forged record stands in
-- the bytes.
use Rattle.std.proofs.Common.{◌≡◌, ◌≢◌, ⊎_elim, inl, inr, ◌==◌, ℕ, true, false, List, [], ◌∷◌, filter, map, Ok, refl, sym, ap, subst, ◌∙◌, arith}
use Rattle.std.specs.Prelude.{◌⊎◌}
use Rattle.std.proofs.Math.Dec.{eqb}
use Rattle.std.proofs.lemmas.Bool.{and_parts, eqb-true}
use Rattle.std.proofs.lemmas.Bool.Decides.{eqb_tells}
use Rattle.chacha_seal.specs.Keys.{KeyParts}
use Rattle.chacha_seal.specs.Sealing.{seal_tag}
use Rattle.closure_laws.specs.Seen.{sight_of}
use Rattle.cry_base.specs.Listed.{Listed}
use Rattle.cry_base.specs.Sets.{In}
use Rattle.cry_base.specs.declared.client.Bundle.{Bundle}
use Rattle.cry_base.specs.declared.client.Bundle.TheVariants as bundles
use Rattle.cry_base.specs.declared.client.Seen.{Seen}
use Rattle.cry_base.specs.declared.roles.Node.TheVariants.{Folder, File}
use Rattle.cry_base.proofs.Members.{In-filter, In-flat_map, In-map}
use Rattle.log_visits.specs.Asking.{audited}
use Rattle.log_visits.specs.Judging.{OfBytes, first_key}
use Rattle.log_visits.specs.Placing.{PlacedContent, PlacedLink, log_contents, log_links}
use Rattle.log_visits.specs.Visiting.{Reading}
use Rattle.commit_journal.specs.Answering.{Tampered}
use Rattle.journal_bytes.specs.Keys.{AreWhole}
use Rattle.public_fold.specs.Journal.{Journal}
use Rattle.public_fold.specs.Records.{Content, text_of}
use Rattle.public_fold.specs.Valid.{IsValid}
use Rattle.record_format.specs.Plain.{PlainContent}
use Rattle.record_format.specs.Spelling.{content_head}
use Rattle.record_format.specs.declared.link.LinkRecord.{LinkRecord}
use Rattle.trail_audit.specs.Auditing.{bundle_key, links_read, sealing_id}
use Rattle.trail_audit.specs.Auditing.RecordFault.{WrongContent}
use Rattle.trail_audit.specs.Derived.{MayAnswer, Passes, PlainSeen, audit_of, content_shown, is_sealed_by, plain_seen, seen_of_sight, shown_by, text_shown, text_with}
use Rattle.record_format.specs.Spellable.{IsLink}
use Rattle.trail_audit.specs.Records.{ALink, records_in}
use Rattle.trail_audit.specs.Right.{IsRight}
use Rattle.trail_audit.specs.Right.IsRight.{OfBundle, Behind}
use Rattle.trail_audit.proofs.Revealed.{file_seen, folder_seen, other_seen}
use Rattle.forgery_laws.specs.Written.{AreBytes, HasForged, HasKeyOf, IsWrittenSeen}
use Rattle.forgery_laws.proofs.Authentic.{AreRecords, IsKeyOf, IsTextOf, content_opens, link_leads, same_or_not}
use Rattle.forgery_laws.proofs.Lines.{reading_told}
use Rattle.forgery_laws.proofs.Visited.{file_text, folder_text}

-- ---- the text of a piece shows the piece

folder_sight : (batch : ℕ) (x : Content) → x.piece.kind ≡ 1 → (let s : PlainSeen = record { batch = batch; node = Folder (record { 0 = x.piece.object }); name = x.piece.name; bytes = [] } in s) ≡ seen_of_sight (sight_of batch x)
unfolding seen_of_sight sight_of
folder_sight batch x is = rw is refl

file_sight : (batch : ℕ) (x : Content) → x.piece.kind ≡ 2 → (let s : PlainSeen = record { batch = batch; node = File (record { 0 = x.piece.object }); name = x.piece.name; bytes = x.piece.bytes } in s) ≡ seen_of_sight (sight_of batch x)
unfolding seen_of_sight sight_of
file_sight batch x is = rw is refl

one_alone : (s t : PlainSeen) → In s (t ∷ []) → s ≡ t
one_alone s t i = ⊎_elim (λ (e : s ≡ t). e) (λ n. absurd n) i

text_sight : (batch : ℕ) (c : PlainContent) (x : Content) (s : PlainSeen) → c.kind ≡ x.piece.kind → c.object ≡ x.piece.object → In s (text_shown batch c (text_of x.piece)) → (x.piece.kind ≢ 3) × (s ≡ seen_of_sight (sight_of batch x))
text_sight batch c x s kind object i = ⊎_elim
    (λ (one : (eqb c.kind 1 ≡ true) × (c.kind ≡ 1)).
    let is : x.piece.kind ≡ 1 = sym kind ∙ one.1 in (
      λ e. absurd (omega (arith, is, e)),
      one_alone s _ (subst (λ (l : List PlainSeen). In s l) (folder_seen batch c (text_of x.piece) one.1) i)
          ∙ (λ j. record { batch = batch; node = Folder (record { 0 = object j }); name = folder_text x.piece is j; bytes = [] }) ∙ folder_sight batch x is,
    ))
    (λ (other : (eqb c.kind 1 ≡ false) × (c.kind ≢ 1)). ⊎_elim
    (λ (two : (eqb c.kind 2 ≡ true) × (c.kind ≡ 2)).
    let is : x.piece.kind ≡ 2 = sym kind ∙ two.1 in (
      λ e. absurd (omega (arith, is, e)),
      one_alone s _ (subst (λ (l : List PlainSeen). In s l) (file_seen batch c (text_of x.piece) x.piece.name x.piece.bytes two.1 (file_text x.piece is)) i)
          ∙ (λ j. record { batch = batch; node = File (record { 0 = object j }); name = x.piece.name; bytes = x.piece.bytes }) ∙ file_sight batch x is,
    ))
    (λ (none : (eqb c.kind 2 ≡ false) × (c.kind ≢ 2)). absurd (subst (λ (l : List PlainSeen). In s l) (other_seen batch c (text_of x.piece) other.1 none.1) i))
    (eqb_tells c.kind 2))
    (eqb_tells c.kind 1)

-- all of them, or one exception
gathered : (X : Type 0) (P : X → Type 0) (Q : Type 0) (xs : List X) → ((x : X) → In x xs → P x ⊎ Q) → ((x : X) → In x xs → P x) ⊎ Q
gathered X P Q [] each = inl (λ x i. absurd i)
gathered X P Q (y ∷ ys) each = ⊎_elim
    (λ first. ⊎_elim
    (λ rest. inl (λ x i. ⊎_elim (λ (e : x ≡ y). subst P (sym e) first) (λ u. rest x u) i))
    (λ q. inr q)
    (gathered X P Q ys (λ x i. each x (inr i))))
    (λ q. inr q)
    (each y (inl refl))

-- ---- an audit of what was read

module _ (owner : List ℕ) (m : Journal) (valid : IsValid m) (whole : AreWhole owner m) (bytes : List ℕ) (bundle : Bundle) (r : Reading) (are : AreRecords bytes r.log) where
  first_is : (b : Bundle) → (bundle_key b r).bytes ≡ (first_key b).1
  unfolding bundle_key first_key
  first_is (bundles.Owner key) = refl
  first_is (bundles.Holder h key) = refl

  -- each right key is one of the journal's
  right_is : HasKeyOf owner m bundle → {key : KeyParts} → IsRight (links_read r) (bundle_key bundle r) key → IsKeyOf owner m key.bytes ⊎ HasForged owner m bytes
  unfolding links_read
  right_is has OfBundle = inl (subst (IsKeyOf owner m) (sym (first_is bundle)) has)
  right_is has (Behind {key = key} l right there leads) =
      let q = (In-map PlacedLink LinkRecord (λ (p : PlacedLink). p.link) l (log_links r.log)).0 there in
      ⊎_elim
      (λ own. link_leads owner m valid whole bytes l (subst (λ z. In (ALink z) (records_in bytes) × IsLink z) (sym q.2) (are.links q.0 q.1)) key.bytes own leads.tagged)
      (λ forged. inr forged)
      (right_is has right)

  names_key : (c : PlainContent) (key : KeyParts) → is_sealed_by c key ≡ true → (sealing_id c ≡ key.id) × (c.key_serial.0 ≡ key.serial)
  unfolding is_sealed_by
  names_key c key t =
      let both = and_parts (sealing_id c == key.id) (c.key_serial.0 == key.serial) t in
      (eqb-true (sealing_id c) key.id both.0, eqb-true c.key_serial.0 key.serial both.1)

  -- one content under one right key
  entry_written : HasKeyOf owner m bundle → (answer : List PlainSeen) (passes : Passes r bundle answer) (s : PlainSeen) (c : PlacedContent) (key : KeyParts) → In c (log_contents r.log)
      → IsRight (links_read r) (bundle_key bundle r) key → is_sealed_by c.content key ≡ true → In s (shown_by c key) → IsWrittenSeen m s ⊎ HasForged owner m bytes
  unfolding shown_by text_with seen_of_sight sight_of
  entry_written has answer passes s c key there right sealed i =
      let named = names_key c.content key sealed in
      let tagged : c.content.tag ≡ seal_tag key.bytes (content_head c.content) c.content.cipher = ⊎_elim
      (λ is. is)
      (λ wrong. absurd (passes.none_bad (OfBytes (Tampered c.batch c.at)) (WrongContent c there (record { key = key; right = right; id = named.0; serial = named.1 }) wrong)))
      (same_or_not c.content.tag (seal_tag key.bytes (content_head c.content) c.content.cipher)) in
      ⊎_elim
      (λ own. ⊎_elim
      (λ (is : IsTextOf m c.content.kind c.content.object (text_with c.content key)).
      let shown = subst (λ (t : List ℕ). In s (text_shown c.batch c.content t)) is.text_is i in
      let told = text_sight c.batch c.content is.content s is.kind_is is.object_is shown in
      let batch : c.batch ≡ s.batch = sym (ap (λ (z : PlainSeen). z.batch) told.1) in
      inl (record { content = is.content; published = is.published; no_key = told.0; shown = told.1 ∙ ap (λ n. seen_of_sight (sight_of n is.content)) batch }))
      (λ forged. inr forged)
      (content_opens owner m valid whole bytes c.content (are.contents c there) key.bytes own tagged))
      (λ forged. inr forged)
      (right_is has right)

  pub audit_written : HasKeyOf owner m bundle → (answer : List PlainSeen) → Passes r bundle answer → ((s : PlainSeen) → In s answer → IsWrittenSeen m s) ⊎ HasForged owner m bytes
  unfolding audit_of content_shown links_read
  audit_written has answer passes =
      let keys = passes.audit.keys in
      let contents = log_contents r.log in
      gathered PlainSeen (IsWrittenSeen m) (HasForged owner m bytes) answer (λ s i.
      let of_content = (In-flat_map PlacedContent PlainSeen (content_shown keys) s contents).0 (subst (λ (l : List PlainSeen). In s l) passes.audit.seen i) in
      let c = of_content.0 in
      let of_key = (In-flat_map KeyParts PlainSeen (shown_by c) s (filter (is_sealed_by c.content) keys)).0 of_content.2 in
      let kept = In-filter KeyParts (is_sealed_by c.content) of_key.0 keys of_key.1 in
      entry_written has answer passes s c of_key.0 of_content.1 ((passes.audit.right.right of_key.0).0 kept.0) kept.1 of_key.2)

pub passes_written : (owner : List ℕ) (m : Journal) (bytes : List ℕ) (bundle : Bundle) (r : Reading) (answer : List PlainSeen) → IsValid m → AreWhole owner m → AreBytes bytes → HasKeyOf owner m bundle
    → audited bundle bytes ≡ Ok r → Passes r bundle answer → ((s : PlainSeen) → In s answer → IsWrittenSeen m s) ⊎ HasForged owner m bytes
passes_written owner m bytes bundle r answer valid whole are has read passes =
    audit_written owner m valid whole bytes bundle r (reading_told bundle bytes r are read).records has answer passes

pub answer_audited : (owner : List ℕ) (m : Journal) (bytes : List ℕ) (bundle : Bundle) (answer : Listed Seen) → IsValid m → AreWhole owner m → AreBytes bytes → HasKeyOf owner m bundle
    → MayAnswer bundle bytes (Ok answer) → ((s : Seen) → In s answer.items → IsWrittenSeen m (plain_seen s)) ⊎ HasForged owner m bytes
answer_audited owner m bytes bundle answer valid whole are has may = ⊎_elim
    (λ each. inl (λ s i. each (plain_seen s) ((In-map Seen PlainSeen plain_seen (plain_seen s) answer.items).1 (s, i, refl))))
    (λ forged. inr forged)
    (passes_written owner m bytes bundle may.0 (map plain_seen answer.items) valid whole are has may.1 may.2)
