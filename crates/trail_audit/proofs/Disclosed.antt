-- What right keys show of the contents of a journal's log: pieces of its history.
use Rattle.std.proofs.Common.{◌≡◌, ◌≢◌, ◌+◌, ◌==◌, ℕ, true, false, filter, arith, List, [], ◌∷◌, ◌++◌, length, map, Option, None, Some, inl, inr, ⊎_elim, refl, sym, ap, subst, ◌∙◌, append_assoc}
use Rattle.std.specs.Prelude.{unwrap_or}
use Rattle.std.proofs.Math.Dec.{eqb}
use Rattle.std.proofs.lemmas.Bool.{and_parts, eqb-true}
use Rattle.std.proofs.lemmas.Bool.Decides.{eqb_tells}
use Rattle.chacha_seal.specs.Keys.{KeyParts}
use Rattle.chacha_seal.specs.Sealing.{sealed}
use Rattle.closure_laws.specs.History.{Derives, Published, history, own_serial, published_from}
use Rattle.closure_laws.specs.Seen.{IsSeen, Sight, sight_of}
use Rattle.commit_journal.specs.Laws.{batch_of, placed_from}
use Rattle.cry_base.specs.Layout.{batch_len, header_len}
use Rattle.cry_base.specs.Sets.{In}
use Rattle.cry_base.specs.declared.roles.Node.TheVariants.{Folder, File}
use Rattle.cry_base.specs.declared.roles.Role.{Role}
use Rattle.cry_base.proofs.Members.{In-append, In-filter, In-flat_map, In-map}
use Rattle.log_visits.specs.Placing.{PlacedContent, body_contents, contents_at, log_contents, log_links}
use Rattle.journal_bytes.specs.Bytes.{bodies_from, bodies_of, content_record, entry_body, keys_then, step_payload}
use Rattle.journal_bytes.specs.Folds.{log_of}
use Rattle.journal_bytes.specs.Keys.{AreWhole, all_keys, entry_keys, keys_from, bytes_in, key_bytes, owner_parts}
use Rattle.journal_bytes.proofs.Counted.{HasSerial, HaveKeys, have_at_first, have_then}
use Rattle.journal_bytes.proofs.Grown.{batch_number, found_first}
use Rattle.journal_bytes.proofs.Sealable.{content_from}
use Rattle.journal_bytes.proofs.StepKeys.{newest-in}
use Rattle.journal_bytes.proofs.Weighed.{AreFed, begins_fed}
use Rattle.key_links.specs.Sealed.{sealed_content}
use Rattle.key_links.proofs.SealedLemmas.{opens_content}
use Rattle.public_fold.specs.Journal.{Entry, Journal, Stand, entry_step, note_step, nothing, stand_then, steps_from, steps_of}
use Rattle.public_fold.specs.Journal.Entry.{Session, Made, Did, Upgraded}
use Rattle.public_fold.specs.KeyStep.{KeyState, key_step, newest, present, published, step_with}
use Rattle.public_fold.specs.Records.{Content, Piece, sealing_role, text_of}
use Rattle.public_fold.specs.Valid.{IsValid}
use Rattle.record_format.specs.Plain.{PlainContent}
use Rattle.record_format.specs.Sizes.{content_size}
use Rattle.role_graph.specs.Rights.{Who}
use Rattle.role_graph.specs.Roles.{role_id}
use Rattle.trail_audit.specs.Auditing.{sealing_id}
use Rattle.trail_audit.specs.Derived.{PlainSeen, audit_of, content_shown, is_sealed_by, seen_of_sight, shown_by, text_shown, text_with}
use Rattle.trail_audit.specs.Right.{IsRight}
use Rattle.trail_audit.specs.Trails.{records_of_links}
use Rattle.trail_audit.proofs.Derivable.{derived_alone}
use Rattle.trail_audit.proofs.Revealed.{file_seen, folder_seen, other_seen}

-- ---- a serial under which a content is sealed has a key

serial_by : (keys : List KeyParts) (k : KeyState) (r : Role) → HaveKeys keys k → (o : Option ℕ) → newest k.keys r ≡ o → HasSerial keys (unwrap_or o 0)
serial_by keys k r have None is = have.owner
serial_by keys k r have (Some n) is = let w = newest-in k.keys r n is in let h = have.each w.0 w.1 in (h.0, h.1, h.2 ∙ w.2)

serial_there : (keys : List KeyParts) (k : KeyState) (r : Role) → HaveKeys keys k → HasSerial keys (present k.keys r)
unfolding present
serial_there keys k r have = serial_by keys k r have (newest k.keys r) refl

content_there : (keys : List KeyParts) (at : Stand) (entry : Entry) → HaveKeys keys (entry_step at entry).after → (x : Content) → In x (entry_step at entry).contents → HasSerial keys x.key_serial
unfolding entry_step note_step key_step step_with published
content_there keys at Session have x i = absurd i
content_there keys at (Made version drawn) have x i =
    subst (HasSerial keys) (sym (content_from _ _ _ x i).1) (serial_there keys (entry_step at (Made version drawn)).after (sealing_role x.piece) have)
content_there keys at (Did request drawn) have x i =
    subst (HasSerial keys) (sym (content_from _ _ _ x i).1) (serial_there keys (entry_step at (Did request drawn)).after (sealing_role x.piece) have)
content_there keys at (Upgraded drawn) have x i =
    subst (HasSerial keys) (sym (content_from _ _ _ x i).1) (serial_there keys (entry_step at (Upgraded drawn)).after (sealing_role x.piece) have)

-- ---- the contents of the log are those of the history

placed_content : (batch at : ℕ) (cs : List PlainContent) (p : PlacedContent) → In p (contents_at batch at cs) → In p.content cs × (p.batch ≡ batch)
unfolding contents_at
placed_content batch at [] p i = absurd i
placed_content batch at (c ∷ cs) p i = ⊎_elim
    (λ (e : p ≡ record { batch = batch; at = at; content = c }). (inl (ap (λ (z : PlacedContent). z.content) e), ap (λ (z : PlacedContent). z.batch) e))
    (λ u. let w = placed_content batch (at + content_size c) cs p u in (inr w.0, w.1)) i

step_content : (keys : List KeyParts) (batch at : ℕ) (xs : List Content) (p : PlacedContent) → In p (contents_at batch at (map (content_record keys) xs)) →
    (x : Content) × In x xs × (p.content ≡ content_record keys x) × (p.batch ≡ batch)
step_content keys batch at xs p i =
    let w = placed_content batch at (map (content_record keys) xs) p i in
    let v = (In-map Content PlainContent (content_record keys) p.content xs).0 w.0 in (v.0, v.1, v.2, w.1)

body_content : (keys : List KeyParts) (at : Stand) (entry : Entry) (batch place : ℕ) (p : PlacedContent) → In p (body_contents batch place (entry_body keys at entry)) →
    (x : Content) × In x (entry_step at entry).contents × (p.content ≡ content_record keys x) × (p.batch ≡ batch)
unfolding entry_body body_contents step_payload
body_content keys at Session batch place p i = absurd i
body_content keys at (Made version drawn) batch place p i = step_content keys batch _ (entry_step at (Made version drawn)).contents p i
body_content keys at (Did request drawn) batch place p i = step_content keys batch _ (entry_step at (Did request drawn)).contents p i
body_content keys at (Upgraded drawn) batch place p i = step_content keys batch _ (entry_step at (Upgraded drawn)).contents p i

-- a content of a log is that of a batch of the history, sealed under the key that has its serial
abbrev pub IsOfHistory : List KeyParts → List Published → PlacedContent → Type 0
IsOfHistory keys h p = (b : Published) × In b h × (p.batch ≡ b.batch) × ((x : Content) × In x b.contents × (p.content ≡ content_record keys x))

same_record : (keys more : List KeyParts) (x : Content) → HasSerial keys x.key_serial → content_record keys x ≡ content_record (keys ++ more) x
unfolding content_record
same_record keys more x has = λ i. sealed_content x.piece.kind
    (record { id = role_id (sealing_role x.piece); serial = x.key_serial; bytes = sym (found_first keys more x.key_serial has) i }) x.piece.object x.nonce (text_of x.piece)

log_content : (keys : List KeyParts) (at : Stand) (entries : List Entry) (place number epoch : ℕ) → HaveKeys keys at.keys → AreFed at entries →
    (p : PlacedContent) → In p (log_contents (placed_from place number epoch (bodies_from keys at entries))) → IsOfHistory (keys ++ keys_from at entries) (published_from (number + 1) (steps_from at entries)) p
unfolding log_contents bodies_from published_from steps_from keys_from keys_then stand_then
log_content keys at [] place number epoch have fed p i = absurd i
log_content keys at (entry ∷ entries) place number epoch have fed p i =
    let keys_with = keys_then keys at entry in
    let body = entry_body keys_with at entry in
    let batch = batch_of number epoch body in
    let next = stand_then at entry in
    let have_more = have_then keys at entry have fed.0 in
    let all = append_assoc keys (entry_keys at entry) (keys_from next entries) in
    ⊎_elim
    (λ (here : In p (body_contents batch.number (place + 45) body)).
    let w = body_content keys_with at entry batch.number (place + 45) p here in (
      record { batch = number + 1; links = (entry_step at entry).links; contents = (entry_step at entry).contents },
      inl refl,
      w.3 ∙ batch_number number epoch body,
      (w.0, w.1, w.2 ∙ same_record keys_with (keys_from next entries) w.0 (content_there keys_with at entry have_more w.0 w.1) ∙ ap (λ (ks : List KeyParts). content_record ks w.0) all),
    ))
    (λ later.
    let w = subst (λ (ks : List KeyParts). IsOfHistory ks (published_from (batch.number + 1) (steps_from next entries)) p) all
    (log_content keys_with next entries (place + (batch_len + length batch.payload)) batch.number batch.epoch have_more fed.1 p later)
    in
    let v = subst (λ n. IsOfHistory (keys ++ (entry_keys at entry ++ keys_from next entries)) (published_from (n + 1) (steps_from next entries)) p) (batch_number number epoch body) w in
    (v.0, inr v.1, v.2, v.3))
    ((In-append PlacedContent p (body_contents batch.number (place + 45) body) (log_contents (placed_from (place + (batch_len + length batch.payload)) batch.number batch.epoch (bodies_from keys_with next entries)))).0 i)

pub journal_content : (owner : List ℕ) (m : Journal) → IsValid m → AreWhole owner m → (p : PlacedContent) → In p (log_contents (log_of owner m)) → IsOfHistory (all_keys owner m) (history m) p
unfolding log_of bodies_of all_keys history steps_of
journal_content owner m valid whole p i = log_content (owner_parts owner ∷ []) nothing m header_len 0 0 (have_at_first owner whole.owner_size) (begins_fed m valid.0 whole.drawn_sizes) p i

-- ---- what a key of the journal opens of them

opened_text : (keys : List KeyParts) (key : KeyParts) (c : PlainContent) (x : Content) → c ≡ content_record keys x → c.key_serial.0 ≡ key.serial → key.bytes ≡ bytes_in keys key.serial → text_with c key ≡ text_of x.piece
unfolding text_with content_record sealed_content
opened_text keys key c x is named drawn =
    let own : KeyParts = record { id = role_id (sealing_role x.piece); serial = x.key_serial; bytes = bytes_in keys x.key_serial } in
    let same : key.bytes ≡ own.bytes = drawn ∙ ap (bytes_in keys) (sym named ∙ ap (λ (r : PlainContent). r.key_serial.0) is) in
    ap (λ (r : PlainContent). sealed key.bytes r.nonce r.cipher) is
    ∙ ap (λ (b : List ℕ). sealed b x.nonce (sealed_content x.piece.kind own x.piece.object x.nonce (text_of x.piece)).cipher) same
    ∙ opens_content x.piece.kind own x.piece.object x.nonce (text_of x.piece)

folder_text : (p : Piece) → p.kind ≡ 1 → text_of p ≡ p.name
unfolding text_of
folder_text p is = rw is refl

file_text : (p : Piece) → p.kind ≡ 2 → text_of p ≡ length p.name ∷ (p.name ++ p.bytes)
unfolding text_of
file_text p is = rw is refl

folder_sight : (batch : ℕ) (x : Content) → x.piece.kind ≡ 1 → (let s : PlainSeen = record { batch = batch; node = Folder (record { 0 = x.piece.object }); name = x.piece.name; bytes = [] } in s) ≡ seen_of_sight (sight_of batch x)
unfolding seen_of_sight sight_of
folder_sight batch x is = rw is refl

file_sight : (batch : ℕ) (x : Content) → x.piece.kind ≡ 2 → (let s : PlainSeen = record { batch = batch; node = File (record { 0 = x.piece.object }); name = x.piece.name; bytes = x.piece.bytes } in s) ≡ seen_of_sight (sight_of batch x)
unfolding seen_of_sight sight_of
file_sight batch x is = rw is refl

one_alone : (s t : PlainSeen) → In s (t ∷ []) → s ≡ t
one_alone s t i = ⊎_elim (λ (e : s ≡ t). e) (λ n. absurd n) i

-- the text of a piece shows the piece, and a holder's key shows nothing
text_sight : (batch : ℕ) (c : PlainContent) (x : Content) (s : PlainSeen) → c.kind ≡ x.piece.kind → c.object ≡ x.piece.object → In s (text_shown batch c (text_of x.piece)) → (x.piece.kind ≢ 3) × (s ≡ seen_of_sight (sight_of batch x))
text_sight batch c x s kind object i = ⊎_elim
    (λ (one : (eqb c.kind 1 ≡ true) × (c.kind ≡ 1)).
    let is : x.piece.kind ≡ 1 = sym kind ∙ one.1 in (
      λ e. absurd (omega (arith, is, e)),
      one_alone s _ (subst (λ (l : List PlainSeen). In s l) (folder_seen batch c (text_of x.piece) one.1) i)
          ∙ (λ j. record { batch = batch; node = Folder (record { 0 = object j }); name = folder_text x.piece is j; bytes = [] }) ∙ folder_sight batch x is,
    ))
    (λ (other : (eqb c.kind 1 ≡ false) × (c.kind ≢ 1)). ⊎_elim
    (λ (two : (eqb c.kind 2 ≡ true) × (c.kind ≡ 2)).
    let is : x.piece.kind ≡ 2 = sym kind ∙ two.1 in (
      λ e. absurd (omega (arith, is, e)),
      one_alone s _ (subst (λ (l : List PlainSeen). In s l) (file_seen batch c (text_of x.piece) x.piece.name x.piece.bytes two.1 (file_text x.piece is)) i)
          ∙ (λ j. record { batch = batch; node = File (record { 0 = object j }); name = x.piece.name; bytes = x.piece.bytes }) ∙ file_sight batch x is,
    ))
    (λ (none : (eqb c.kind 2 ≡ false) × (c.kind ≢ 2)). absurd (subst (λ (l : List PlainSeen). In s l) (other_seen batch c (text_of x.piece) other.1 none.1) i))
    (eqb_tells c.kind 2))
    (eqb_tells c.kind 1)

names_serial : (c : PlainContent) (key : KeyParts) → is_sealed_by c key ≡ true → c.key_serial.0 ≡ key.serial
unfolding is_sealed_by
names_serial c key sealed = eqb-true c.key_serial.0 key.serial (and_parts (sealing_id c == key.id) (c.key_serial.0 == key.serial) sealed).1

record_head : (keys : List KeyParts) (c : PlainContent) (x : Content) → c ≡ content_record keys x → (c.kind ≡ x.piece.kind) × (c.object ≡ x.piece.object) × (c.key_serial.0 ≡ x.key_serial)
unfolding content_record sealed_content
record_head keys c x is = (ap (λ (r : PlainContent). r.kind) is, ap (λ (r : PlainContent). r.object) is, ap (λ (r : PlainContent). r.key_serial.0) is)

-- each entry of an audit is of a content that the history derives
pub shown_is_seen : (owner : List ℕ) (m : Journal) → IsValid m → AreWhole owner m → (who : Who) (own : KeyParts) (keys : List KeyParts) → own_serial m who ≡ Some own.serial → own.bytes ≡ key_bytes owner m own.serial →
    ((key : KeyParts) → In key keys → IsRight (records_of_links (log_links (log_of owner m))) own key) → (s : PlainSeen) → In s (audit_of keys (log_contents (log_of owner m))) → (x : Sight) × IsSeen m who x × (s ≡ seen_of_sight x)
unfolding audit_of content_shown shown_by key_bytes
shown_is_seen owner m valid whole who own keys serial drawn right s i =
    let contents = log_contents (log_of owner m) in
    let of_content = (In-flat_map PlacedContent PlainSeen (content_shown keys) s contents).0 i in
    let c = of_content.0 in
    let of_key = (In-flat_map KeyParts PlainSeen (shown_by c) s (filter (is_sealed_by c.content) keys)).0 of_content.2 in
    let key = of_key.0 in
    let kept = In-filter KeyParts (is_sealed_by c.content) key keys of_key.1 in
    let derived = derived_alone owner m valid whole own drawn (right key kept.0) in
    let b = journal_content owner m valid whole c of_content.1 in
    let x = b.3.0 in
    let head = record_head (all_keys owner m) c.content x b.3.2 in
    let named = names_serial c.content key kept.1 in
    let text = opened_text (all_keys owner m) key c.content x b.3.2 named derived.1 in
    let shown = subst (λ n. In s (text_shown n c.content (text_of x.piece))) b.2 (subst (λ (t : List ℕ). In s (text_shown c.batch c.content t)) text of_key.2) in
    let told = text_sight b.0.batch c.content x s head.0 head.1 shown in
    let way = subst (λ n. Derives (history m) own.serial n) (sym named ∙ head.2) derived.0 in
    (sight_of b.0.batch x, (b.0, b.1, (x, b.3.1, refl, told.0, (own.serial, serial, way))), told.1)
