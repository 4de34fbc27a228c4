-- What the right keys of a valid journal's log show is what its history derives, in order, and no record is bad under them.
use Rattle.std.proofs.Common.{◌≡◌, ◌≢◌, ⊎_elim, inl, inr, ℕ, ◌≤◌, Bool, true, false, not, ◌&&◌, ◌==◌, List, [], ◌∷◌, ◌++◌, filter, length, map, cond, Some, arith, refl, sym, ap, subst, ◌∙◌}
use Rattle.std.specs.List.{flat_map}
use Rattle.std.specs.Cmp.Derive.{both_true}
use Rattle.std.proofs.Math.Dec.{eqb}
use Rattle.std.proofs.lemmas.Bool.{and_parts, cases_Bool, eq-eqb, eqb-true, false_from_ne_true, false≢true, ne_eqb}
use Rattle.std.proofs.lemmas.Bool.Decides.{eqb_tells}
use Rattle.std.proofs.lemmas.Grind.{flat_map-append}
use Rattle.std.proofs.lemmas.List.{append-nil, map-append}
use Rattle.chacha_seal.specs.Keys.{KeyParts}
use Rattle.chacha_seal.specs.Sealing.{sealed}
use Rattle.closure_laws.specs.History.{Derives, Published, derived, history, own_serial}
use Rattle.closure_laws.specs.Seen.{seen, sight_of, sights_from, sights_in}
use Rattle.closure_laws.proofs.Gaining.{derived_told}
use Rattle.cry_base.specs.Sets.{In, has}
use Rattle.cry_base.specs.declared.client.Bundle.{Bundle}
use Rattle.cry_base.specs.declared.roles.Node.TheVariants.{Folder, File}
use Rattle.cry_base.proofs.Reaching.{has-in, in-has}
use Rattle.log_visits.specs.Judging.{Failure}
use Rattle.log_visits.specs.Placing.{PlacedContent, log_contents, log_links}
use Rattle.log_visits.specs.Visiting.{is_file_text, is_folder_text}
use Rattle.key_links.specs.Sealed.{sealed_content}
use Rattle.key_links.proofs.SealedLemmas.{opens_content}
use Rattle.record_format.specs.Plain.{PlainContent}
use Rattle.role_graph.specs.Rights.{Who}
use Rattle.role_graph.specs.Roles.{data_of, file_role, role_id}
use Rattle.role_graph.proofs.Granting.{nat_tells}
use Rattle.public_fold.specs.Journal.{Journal}
use Rattle.public_fold.specs.Records.{Content, Piece, sealing_role, text_of}
use Rattle.public_fold.specs.Valid.{IsValid}
use Rattle.journal_bytes.specs.Bytes.{content_record}
use Rattle.journal_bytes.specs.Folds.{log_of}
use Rattle.journal_bytes.specs.Keys.{AreWhole, all_keys, bytes_in}
use Rattle.journal_bytes.specs.Opening.{reading_of}
use Rattle.trail_audit.specs.Auditing.{RecordFault, bundle_key, is_text, links_read, sealing_id}
use Rattle.trail_audit.specs.Auditing.RecordFault.{WrongLink, WrongContent, WrongText}
use Rattle.trail_audit.specs.Derived.{PlainSeen, audit_of, content_shown, is_sealed_by, seen_of_sight, shown_by, text_shown, text_with}
use Rattle.trail_audit.specs.Records.{AContent, IsTagged}
use Rattle.trail_audit.specs.Trails.{AreRightKeys, EachOnce}
use Rattle.trail_audit.proofs.Disclosed.{journal_content}
use Rattle.trail_audit.proofs.Leading.{content_tagged}
use Rattle.trail_audit.proofs.Revealed.{file_form, file_seen, folder_form, folder_seen, other_form, other_seen}
use Rattle.audit_laws.specs.Audited.{audit_of_journal}
use Rattle.audit_laws.proofs.Keyed.{journal_apart, own_bytes}
use Rattle.audit_laws.proofs.Recorded.{Head, IsKeyedContent, head_in, head_of, heads_in, journal_logged}
use Rattle.audit_laws.proofs.RightKeys.{key_as, keys_are, link_tagged, right_there}

-- ---- one key of a list

filter_none : (X : Type 0) (test : X → Bool) (xs : List X) → ((x : X) → In x xs → test x ≡ true → ⊥) → filter test xs ≡ []
filter_none X test [] none = refl
filter_none X test (x ∷ xs) none =
    ap (λ b. cond b (x ∷ filter test xs) (filter test xs)) (false_from_ne_true (test x) (λ t. none x (inl refl) t))
    ∙ filter_none X test xs (λ y i. none y (inr i))

filter_one : (test : KeyParts → Bool) (keys : List KeyParts) (key : KeyParts) → EachOnce keys → In key keys → test key ≡ true → ((k : KeyParts) → In k keys → test k ≡ true → k ≡ key) → filter test keys ≡ key ∷ []
filter_one test [] key once i passes alone = absurd i
filter_one test (k ∷ keys) key once i passes alone = ⊎_elim
    (λ (here : key ≡ k).
    ap (λ b. cond b (k ∷ filter test keys) (filter test keys)) (ap test (sym here) ∙ passes)
    ∙ ap (λ ks. k ∷ ks) (filter_none KeyParts test keys (λ x j t. once.0 (subst (λ z. In z keys) (alone x (inr j) t ∙ here) j)))
    ∙ ap (λ z. z ∷ []) (sym here))
    (λ there.
    ap (λ b. cond b (k ∷ filter test keys) (filter test keys)) (false_from_ne_true (test k) (λ t. once.0 (subst (λ z. In z keys) (sym (alone k (inl refl) t)) there)))
    ∙ filter_one test keys key once.1 there passes (λ x j t. alone x (inr j) t))
    i

-- ---- what a piece shows

folder_text : (p : Piece) → p.kind ≡ 1 → text_of p ≡ p.name
unfolding text_of
folder_text p is = rw is refl

file_text : (p : Piece) → p.kind ≡ 2 → text_of p ≡ length p.name ∷ (p.name ++ p.bytes)
unfolding text_of
file_text p is = rw is refl

folder_sight : (batch : ℕ) (p : Piece) → p.kind ≡ 1 → (let s : PlainSeen = record { batch = batch; node = Folder (record { 0 = p.object }); name = p.name; bytes = [] } in s) ≡ seen_of_sight (record { batch = batch; piece = p })
unfolding seen_of_sight
folder_sight batch p is = rw is refl

file_sight : (batch : ℕ) (p : Piece) → p.kind ≡ 2 → (let s : PlainSeen = record { batch = batch; node = File (record { 0 = p.object }); name = p.name; bytes = p.bytes } in s) ≡ seen_of_sight (record { batch = batch; piece = p })
unfolding seen_of_sight
file_sight batch p is = rw is refl

-- the role whose key seals a piece has the number that its content names
abbrev id_sealed : ℕ → ℕ → ℕ
id_sealed kind object = cond (kind == 3) 0 object

sealing_number : (p : Piece) → 1 ≤ p.kind → p.kind ≤ 3 → id_sealed p.kind p.object ≡ role_id (sealing_role p)
unfolding sealing_role role_id data_of file_role
sealing_number p low high = ⊎_elim
    (λ (one : (eqb p.kind 1 ≡ true) × (p.kind ≡ 1)). rw one.1 refl)
    (λ (other : (eqb p.kind 1 ≡ false) × (p.kind ≢ 1)). ⊎_elim
    (λ (two : (eqb p.kind 2 ≡ true) × (p.kind ≡ 2)). rw two.1 refl)
    (λ (none : (eqb p.kind 2 ≡ false) × (p.kind ≢ 2)).
    let first = other.1 in
    let second = none.1 in
    let three : p.kind ≡ 3 = omega (arith, low, high, first, second) in rw three refl)
    (eqb_tells p.kind 2))
    (eqb_tells p.kind 1)

-- a piece of the history, if it is no holder's key
abbrev sights_of_piece : ℕ → Piece → List PlainSeen
sights_of_piece batch p = cond (not (p.kind == 3)) (seen_of_sight (record { batch = batch; piece = p }) ∷ []) []

piece_shown : (batch : ℕ) (c : PlainContent) (p : Piece) → 1 ≤ p.kind → p.kind ≤ 3 → c.kind ≡ p.kind → c.object ≡ p.object → text_shown batch c (text_of p) ≡ sights_of_piece batch p
piece_shown batch c p low high kind object = ⊎_elim
    (λ (one : (eqb p.kind 1 ≡ true) × (p.kind ≡ 1)).
    folder_seen batch c (text_of p) (kind ∙ one.1)
    ∙ (λ i. record { batch = batch; node = Folder (record { 0 = object i }); name = folder_text p one.1 i; bytes = [] } ∷ [])
    ∙ ap (λ s. s ∷ []) (folder_sight batch p one.1)
    ∙ ap (λ b. cond (not b) (seen_of_sight (record { batch = batch; piece = p }) ∷ []) []) (sym (ne_eqb p.kind 3 (λ e. let is = one.1 in absurd (omega (arith, is, e))))))
    (λ (other : (eqb p.kind 1 ≡ false) × (p.kind ≢ 1)). ⊎_elim
    (λ (two : (eqb p.kind 2 ≡ true) × (p.kind ≡ 2)).
    file_seen batch c (text_of p) p.name p.bytes (kind ∙ two.1) (file_text p two.1)
    ∙ (λ i. record { batch = batch; node = File (record { 0 = object i }); name = p.name; bytes = p.bytes } ∷ [])
    ∙ ap (λ s. s ∷ []) (file_sight batch p two.1)
    ∙ ap (λ b. cond (not b) (seen_of_sight (record { batch = batch; piece = p }) ∷ []) []) (sym (ne_eqb p.kind 3 (λ e. let is = two.1 in absurd (omega (arith, is, e))))))
    (λ (none : (eqb p.kind 2 ≡ false) × (p.kind ≢ 2)).
    let first = other.1 in
    let second = none.1 in
    let three : p.kind ≡ 3 = omega (arith, low, high, first, second) in
    other_seen batch c (text_of p) (λ e. first (sym kind ∙ e)) (λ e. second (sym kind ∙ e))
    ∙ ap (λ b. cond (not b) (seen_of_sight (record { batch = batch; piece = p }) ∷ []) []) (sym (eq-eqb p.kind 3 three)))
    (eqb_tells p.kind 2))
    (eqb_tells p.kind 1)

-- ---- a content that was sealed under one of the keys

-- the content's record, and the key that it was sealed under
pub record IsSealedUnder (keys : List KeyParts) (x : Content) (c : PlainContent) : Type 0 where
  pub key : KeyParts
  pub there : In key keys
  pub serial : key.serial ≡ x.key_serial
  pub named_serial : c.key_serial.0 ≡ x.key_serial
  pub named_id : sealing_id c ≡ key.id
  pub kind : c.kind ≡ x.piece.kind
  pub object : c.object ≡ x.piece.object
  pub tagged : IsTagged key.bytes (AContent c)
  pub text : text_with c key ≡ text_of x.piece

sealed_head : (kind : ℕ) (key : KeyParts) (object nonce : ℕ) (text : List ℕ) → let c = sealed_content kind key object nonce text in (c.kind ≡ kind) × (c.object ≡ object) × (c.key_serial.0 ≡ key.serial) × (sealing_id c ≡ id_sealed kind object)
unfolding sealed_content sealing_id
sealed_head kind key object nonce text = (refl, refl, refl, refl)

sealed_text : (kind : ℕ) (key : KeyParts) (object nonce : ℕ) (text : List ℕ) → text_with (sealed_content kind key object nonce text) key ≡ text
unfolding text_with sealed_content
sealed_text kind key object nonce text = unfold sealed_content in opens_content kind key object nonce text

opened_as : (c : PlainContent) (key : KeyParts) → text_with c key ≡ sealed key.bytes c.nonce c.cipher
unfolding text_with
opened_as c key = refl

module _ (owner : List ℕ) (m : Journal) (valid : IsValid m) (whole : AreWhole owner m) where
  abbrev all : List KeyParts
  all = all_keys owner m

  record_is : (x : Content) (is : IsKeyedContent all x) → content_record all x ≡ sealed_content x.piece.kind is.key.key x.piece.object x.nonce (text_of x.piece)
  unfolding content_record
  record_is x is =
      let has = is.key in
      let bytes : bytes_in all x.key_serial ≡ has.key.bytes = ap (bytes_in all) (sym has.serial) ∙ own_bytes owner m valid has.key has.there in
      ap (λ k. sealed_content x.piece.kind k x.piece.object x.nonce (text_of x.piece)) (key_as has.key (role_id (sealing_role x.piece)) x.key_serial (bytes_in all x.key_serial) has.id has.serial bytes)

  pub sealed_under : (x : Content) → IsKeyedContent all x → (c : PlainContent) → c ≡ content_record all x → IsSealedUnder all x c
  sealed_under x is c same =
      let key = is.key.key in
      let made = sealed_content x.piece.kind key x.piece.object x.nonce (text_of x.piece) in
      let eq : c ≡ made = same ∙ record_is x is in
      let head = sealed_head x.piece.kind key x.piece.object x.nonce (text_of x.piece) in record {
        key = key;
        there = is.key.there;
        serial = is.key.serial;
        named_serial = ap (λ (r : PlainContent). r.key_serial.0) eq ∙ head.2 ∙ is.key.serial;
        named_id = ap sealing_id eq ∙ head.3 ∙ sealing_number x.piece is.kind_from_one is.kind_to_three ∙ sym is.key.id;
        kind = ap (λ (r : PlainContent). r.kind) eq ∙ head.0;
        object = ap (λ (r : PlainContent). r.object) eq ∙ head.1;
        tagged = subst (λ (r : PlainContent). IsTagged key.bytes (AContent r)) (sym eq) (content_tagged x.piece.kind key x.piece.object x.nonce (text_of x.piece));
        text = ap (λ r. text_with r key) eq ∙ sealed_text x.piece.kind key x.piece.object x.nonce (text_of x.piece);
      }

  -- the key that a content names among those of the journal is its own
  own_key : (x : Content) (c : PlainContent) (is : IsSealedUnder all x c) (key : KeyParts) → In key all → c.key_serial.0 ≡ key.serial → key ≡ is.key
  own_key x c is key there named = journal_apart owner m valid key is.key there is.there (sym named ∙ is.named_serial ∙ sym is.serial)

  names_serial : (c : PlainContent) (key : KeyParts) → is_sealed_by c key ≡ true → c.key_serial.0 ≡ key.serial
  unfolding is_sealed_by
  names_serial c key t = eqb-true c.key_serial.0 key.serial (and_parts (sealing_id c == key.id) (c.key_serial.0 == key.serial) t).1

  names_own : (x : Content) (c : PlainContent) (is : IsSealedUnder all x c) → is_sealed_by c is.key ≡ true
  unfolding is_sealed_by
  names_own x c is = both_true (eq-eqb (sealing_id c) is.key.id is.named_id) (eq-eqb c.key_serial.0 is.key.serial (is.named_serial ∙ sym is.serial))

  -- ---- what keys show of it

  module _ (own : KeyParts) (keys : List KeyParts) (there : In own all) (right : AreRightKeys (log_links (log_of owner m)) own keys) where
    abbrev serials : List ℕ
    serials = derived (history m) own.serial

    -- a content and its batch
    shown_head : Head → List PlainSeen
    shown_head h = content_shown keys (record { batch = h.0; at = 0; content = h.1 })

    abbrev is_seen : Content → Bool
    is_seen x = not (x.piece.kind == 3) && has ◌==◌ serials x.key_serial

    opened : (x : Content) (c : PlainContent) (is : IsSealedUnder all x c) → has ◌==◌ serials x.key_serial ≡ true → filter (is_sealed_by c) keys ≡ is.key ∷ []
    opened x c is t =
        let way : Derives (history m) own.serial x.key_serial = (derived_told (history m) own.serial x.key_serial).0 (has-in ℕ ◌==◌ nat_tells serials x.key_serial t) in
        filter_one (is_sealed_by c) keys is.key right.once
        ((keys_are owner m valid whole own keys there right is.key).1 (is.there, subst (Derives (history m) own.serial) (sym is.serial) way))
        (names_own x c is)
        (λ k i named. own_key x c is k ((keys_are owner m valid whole own keys there right k).0 i).0 (names_serial c k named))

    closed : (x : Content) (c : PlainContent) → IsSealedUnder all x c → has ◌==◌ serials x.key_serial ≡ false → filter (is_sealed_by c) keys ≡ []
    closed x c is f = filter_none KeyParts (is_sealed_by c) keys (λ k i named.
        let known = (keys_are owner m valid whole own keys there right k).0 i in
        let same = own_key x c is k known.0 (names_serial c k named) in
        let way : Derives (history m) own.serial x.key_serial = subst (Derives (history m) own.serial) (ap (λ (z : KeyParts). z.serial) same ∙ is.serial) known.1 in
        false≢true (sym f ∙ in-has ℕ ◌==◌ nat_tells serials x.key_serial ((derived_told (history m) own.serial x.key_serial).1 way)))

    content_sight : (batch : ℕ) (x : Content) → IsKeyedContent all x → shown_head (head_in all batch x) ≡ cond (is_seen x) (seen_of_sight (sight_of batch x) ∷ []) []
    unfolding content_shown shown_by shown_head sight_of
    content_sight batch x is =
        let c = content_record all x in
        let under = sealed_under x is c refl in ⊎_elim
        (λ (t : has ◌==◌ serials x.key_serial ≡ true).
        ap (λ ks. flat_map (λ key. text_shown batch c (text_with c key)) ks) (opened x c under t)
        ∙ append-nil (text_shown batch c (text_with c under.key))
        ∙ ap (text_shown batch c) under.text
        ∙ piece_shown batch c x.piece is.kind_from_one is.kind_to_three under.kind under.object
        ∙ ap (λ b. cond b (seen_of_sight (record { batch = batch; piece = x.piece }) ∷ []) []) (with_true (not (x.piece.kind == 3)) (has ◌==◌ serials x.key_serial) t))
        (λ (f : has ◌==◌ serials x.key_serial ≡ false).
        ap (λ ks. flat_map (λ key. text_shown batch c (text_with c key)) ks) (closed x c under f)
        ∙ ap (λ b. cond b (seen_of_sight (record { batch = batch; piece = x.piece }) ∷ []) []) (with_false (not (x.piece.kind == 3)) (has ◌==◌ serials x.key_serial) f))
        (cases_Bool (has ◌==◌ serials x.key_serial))
      where
        with_true : (a b : Bool) → b ≡ true → a ≡ (a && b)
        with_true a b t = (elim a as (λ z. z ≡ (z && b)) [ true ↦ sym t | false ↦ refl ])

        with_false : (a b : Bool) → b ≡ false → false ≡ (a && b)
        with_false a b f = (elim a as (λ z. false ≡ (z && b)) [ true ↦ sym f | false ↦ refl ])

    -- one content more
    more_sights : (batch : ℕ) (x : Content) (xs : List Content) (b : Bool) → is_seen x ≡ b
        → cond b (seen_of_sight (sight_of batch x) ∷ []) [] ++ map seen_of_sight (map (sight_of batch) (filter is_seen xs)) ≡ map seen_of_sight (map (sight_of batch) (filter is_seen (x ∷ xs)))
    more_sights batch x xs true t = sym (ap (λ b. map seen_of_sight (map (sight_of batch) (cond b (x ∷ filter is_seen xs) (filter is_seen xs)))) t)
    more_sights batch x xs false f = sym (ap (λ b. map seen_of_sight (map (sight_of batch) (cond b (x ∷ filter is_seen xs) (filter is_seen xs)))) f)

    batch_sights : (batch : ℕ) (xs : List Content) → ((x : Content) → In x xs → IsKeyedContent all x) → flat_map shown_head (map (head_in all batch) xs) ≡ map seen_of_sight (map (sight_of batch) (filter is_seen xs))
    batch_sights batch [] each = refl
    batch_sights batch (x ∷ xs) each =
        (λ i. content_sight batch x (each x (inl refl)) i ++ batch_sights batch xs (λ y j. each y (inr j)) i)
        ∙ more_sights batch x xs (is_seen x) refl

    history_sights : (h : List Published) → ((b : Published) → In b h → (x : Content) → In x b.contents → IsKeyedContent all x) → flat_map shown_head (flat_map (heads_in all) h) ≡ map seen_of_sight (flat_map (sights_in serials) h)
    unfolding sights_in
    history_sights [] each = refl
    history_sights (b ∷ h) each =
        flat_map-append shown_head (heads_in all b) (flat_map (heads_in all) h)
        ∙ (λ i. batch_sights b.batch b.contents (each b (inl refl)) i ++ history_sights h (λ d j. each d (inr j)) i)
        ∙ sym (map-append seen_of_sight (map (sight_of b.batch) (filter is_seen b.contents)) (flat_map (sights_in serials) h))

    by_heads : (ps : List PlacedContent) → audit_of keys ps ≡ flat_map shown_head (map head_of ps)
    unfolding audit_of content_shown shown_by shown_head
    by_heads [] = refl
    by_heads (p ∷ ps) = ap (λ ss. content_shown keys p ++ ss) (by_heads ps)

    pub audit_is : audit_of keys (log_contents (log_of owner m)) ≡ map seen_of_sight (sights_from (history m) (Some own.serial))
    unfolding sights_from
    audit_is =
        let logged = journal_logged owner m valid whole in
        by_heads (log_contents (log_of owner m)) ∙ ap (flat_map shown_head) logged.contents ∙ history_sights (history m) logged.pieces

  pub audit_seen : (who : Who) (own : KeyParts) (keys : List KeyParts) → In own all → own_serial m who ≡ Some own.serial → AreRightKeys (log_links (log_of owner m)) own keys → audit_of keys (log_contents (log_of owner m)) ≡ audit_of_journal m who
  unfolding audit_of_journal seen
  audit_seen who own keys there serial right = audit_is own keys there right ∙ ap (λ o. map seen_of_sight (sights_from (history m) o)) (sym serial)

  -- ---- no record is bad

  text_form : (x : Content) (c : PlainContent) → IsKeyedContent all x → IsSealedUnder all x c → is_text c (text_of x.piece) ≡ true
  text_form x c is under = ⊎_elim
      (λ (one : (eqb x.piece.kind 1 ≡ true) × (x.piece.kind ≡ 1)).
      folder_form c (text_of x.piece) (under.kind ∙ one.1) ∙ (λ i. is_folder_text (under.object i) (folder_text x.piece one.1 i)) ∙ is.form.folder one.1)
      (λ (other : (eqb x.piece.kind 1 ≡ false) × (x.piece.kind ≢ 1)). ⊎_elim
      (λ (two : (eqb x.piece.kind 2 ≡ true) × (x.piece.kind ≡ 2)).
      file_form c (text_of x.piece) (under.kind ∙ two.1) ∙ ap is_file_text (file_text x.piece two.1) ∙ is.form.file two.1)
      (λ (none : (eqb x.piece.kind 2 ≡ false) × (x.piece.kind ≢ 2)).
      let first = other.1 in
      let second = none.1 in
      other_form c (text_of x.piece) (λ e. first (sym under.kind ∙ e)) (λ e. second (sym under.kind ∙ e)))
      (eqb_tells x.piece.kind 2))
      (eqb_tells x.piece.kind 1)

  -- a content of the log, and what it was sealed from
  record IsLogged (c : PlainContent) : Type 0 where
    piece : Content
    is_keyed : IsKeyedContent all piece
    is_under : IsSealedUnder all piece c

  logged : (p : PlacedContent) → In p (log_contents (log_of owner m)) → IsLogged p.content
  logged p i =
      let w = journal_content owner m valid whole p i in
      let is = (journal_logged owner m valid whole).pieces w.0 w.1 w.3.0 w.3.1 in
      record { piece = w.3.0; is_keyed = is; is_under = sealed_under w.3.0 is p.content w.3.2 }

  pub no_fault : (bundle : Bundle) (failure : Failure) → In (bundle_key bundle (reading_of owner m)) all → RecordFault (reading_of owner m) bundle failure → ⊥
  unfolding links_read
  no_fault bundle failure there (WrongLink l i source wrong) =
      wrong (link_tagged owner m valid whole source.key l i (right_there owner m valid whole (bundle_key bundle (reading_of owner m)) there source.right) source.serial)
  no_fault bundle failure there (WrongContent c i seal wrong) =
      let is = logged c i in
      let same = own_key is.piece c.content is.is_under seal.key (right_there owner m valid whole (bundle_key bundle (reading_of owner m)) there seal.right) seal.serial in
      wrong (subst (λ (k : KeyParts). IsTagged k.bytes (AContent c.content)) (sym same) is.is_under.tagged)
  no_fault bundle failure there (WrongText c i seal tagged form) =
      let is = logged c i in
      let same = own_key is.piece c.content is.is_under seal.key (right_there owner m valid whole (bundle_key bundle (reading_of owner m)) there seal.right) seal.serial in
      let text : text_with c.content seal.key ≡ text_of is.piece.piece = ap (text_with c.content) same ∙ is.is_under.text in
      false≢true (sym form ∙ ap (is_text c.content) (sym (opened_as c.content seal.key) ∙ text) ∙ text_form is.piece c.content is.is_keyed is.is_under)
