-- What keys show of contents, as they are opened one after another, and the faults on the way.
use Rattle.std.proofs.Common.{◌≡◌, ◌≢◌, ◌+◌, ◌<◌, ◌&&◌, ℕ, Bool, true, false, List, [], ◌∷◌, ◌++◌, filter, get_or, length, map, take, ⊎_elim, refl, sym, ap, subst, ◌∙◌, append_assoc}
use Rattle.std.specs.List.{flat_map}
use Rattle.std.specs.Cmp.Derive.{both_true}
use Rattle.std.proofs.Math.Seq.{take-append_seam, drop-append_seam}
use Rattle.std.proofs.lemmas.Bool.{eq-eqb, eqb-true, ne_eqb, false≢true}
use Rattle.std.proofs.lemmas.Grind.{flat_map-append}
use Rattle.std.proofs.lemmas.List.{append-nil, map-append, take_more}
use Rattle.std.proofs.lemmas.List.Elements.{filter-append}
use Rattle.chacha_seal.specs.Keys.{KeyParts}
use Rattle.cry_base.specs.Sets.{In}
use Rattle.cry_base.proofs.Members.{In-append}
use Rattle.cry_base.specs.declared.client.Bundle.{Bundle}
use Rattle.cry_base.specs.declared.client.Bundle.TheVariants as bundles
use Rattle.cry_base.specs.declared.ids.HolderId.{HolderId}
use Rattle.public_fold.specs.KeyStep.{present}
use Rattle.role_graph.specs.Roles.{holder_role}
use Rattle.cry_base.specs.declared.roles.Node.{Node}
use Rattle.cry_base.specs.declared.roles.Node.TheVariants.{Folder, File}
use Rattle.commit_journal.specs.Answering.{Damaged, Tampered}
use Rattle.log_visits.specs.Judging.{Failure, OfBytes}
use Rattle.log_visits.specs.Placing.{PlacedContent, PlacedLink, log_contents, log_links}
use Rattle.log_visits.specs.Visiting.{Reading, is_file_text, is_folder_text}
use Rattle.log_visits.specs.declared.fault.ClientFault.{ClientFault}
use Rattle.log_visits.specs.declared.fault.ClientFault.TheVariants as faults
use Rattle.record_format.specs.Plain.{PlainContent}
use Rattle.role_graph.proofs.Rising.{get_or-In}
use Rattle.trail_audit.specs.Auditing.{RecordFault, bundle_key, is_text, links_read, sealing_id}
use Rattle.trail_audit.specs.Auditing.RecordFault.{WrongLink, WrongContent, WrongText}
use Rattle.trail_audit.specs.Derived.{AreSeen, ContentFault, IsOpened, IsToldOf, Passes, PlainSeen, audit_of, content_shown, file_shown, is_sealed_by, plain_seen, shown_by, text_shown, text_with}
use Rattle.trail_audit.specs.Trails.{AreRightKeys, LinkFault}
use Rattle.cry_base.specs.declared.client.Seen.{Seen}

-- ---- texts of the kinds

pub folder_form : (c : PlainContent) (text : List ℕ) → c.kind ≡ 1 → is_text c text ≡ is_folder_text c.object text
unfolding is_text
folder_form c text is = rw is refl

pub file_form : (c : PlainContent) (text : List ℕ) → c.kind ≡ 2 → is_text c text ≡ is_file_text text
unfolding is_text
file_form c text is = rw is refl

pub other_form : (c : PlainContent) (text : List ℕ) → c.kind ≢ 1 → c.kind ≢ 2 → is_text c text ≡ true
unfolding is_text
other_form c text not_one not_two = rw (ne_eqb c.kind 1 not_one, ne_eqb c.kind 2 not_two) refl

pub folder_seen : (batch : ℕ) (c : PlainContent) (text : List ℕ) → c.kind ≡ 1 → text_shown batch c text ≡ record { batch = batch; node = Folder (record { 0 = c.object }); name = text; bytes = [] } ∷ []
unfolding text_shown
folder_seen batch c text is = rw is refl

pub file_seen : (batch : ℕ) (c : PlainContent) (text name bytes : List ℕ) → c.kind ≡ 2 → text ≡ length name ∷ (name ++ bytes) →
    text_shown batch c text ≡ record { batch = batch; node = File (record { 0 = c.object }); name = name; bytes = bytes } ∷ []
unfolding text_shown file_shown
file_seen batch c text name bytes is parts = rw (is, parts, take-append_seam name bytes, drop-append_seam name bytes) refl

pub other_seen : (batch : ℕ) (c : PlainContent) (text : List ℕ) → c.kind ≢ 1 → c.kind ≢ 2 → text_shown batch c text ≡ []
unfolding text_shown
other_seen batch c text not_one not_two = rw (ne_eqb c.kind 1 not_one, ne_eqb c.kind 2 not_two) refl

-- one that was added
pub seen_added : (old new : List Seen) (item : Seen) (all : List PlainSeen) → new ≡ old ++ item ∷ [] → plain_seen item ∷ [] ≡ all → map plain_seen new ≡ map plain_seen old ++ all
seen_added old new item all is same = ap (map plain_seen) is ∙ map-append plain_seen old (item ∷ []) ∙ ap (λ (s : List PlainSeen). map plain_seen old ++ s) same

pub seen_alike : (batch b : ℕ) (node n : Node) (name m bytes k : List ℕ) → batch ≡ b → node ≡ n → name ≡ m → bytes ≡ k →
    (let s : PlainSeen = record { batch = batch; node = node; name = name; bytes = bytes } in s ∷ []) ≡ record { batch = b; node = n; name = m; bytes = k } ∷ []
seen_alike batch b node n name m bytes k same_batch same_node same_name same_bytes = rw (same_batch, same_node, same_name, same_bytes) refl

-- ---- one content and one key

pub nothing_shown : (c : PlacedContent) (key : KeyParts) → is_sealed_by c.content key ≡ false → content_shown (key ∷ []) c ≡ []
unfolding content_shown
nothing_shown c key elsewhere = rw elsewhere refl

pub one_shown : (c : PlacedContent) (key : KeyParts) → is_sealed_by c.content key ≡ true → content_shown (key ∷ []) c ≡ text_shown c.batch c.content (text_with c.content key)
unfolding content_shown shown_by
one_shown c key sealed = rw sealed (append-nil (text_shown c.batch c.content (text_with c.content key)))

-- ---- more keys, more contents

pub content_fault_in : (cs ds : List PlacedContent) (keys more : List KeyParts) (fault : ClientFault) → ((c : PlacedContent) → In c cs → In c ds) → ((k : KeyParts) → In k keys → In k more) →
    ContentFault cs keys fault → ContentFault ds more fault
content_fault_in cs ds keys more (faults.Tampered batch at) wider longer w = (w.0, wider w.0 w.1, w.2, w.3, (w.4.0, longer w.4.0 w.4.1, w.4.2, w.4.3))
content_fault_in cs ds keys more (faults.Damaged at) wider longer w = (w.0, wider w.0 w.1, w.2, (w.3.0, longer w.3.0 w.3.1, w.3.2, w.3.3, w.3.4))
content_fault_in cs ds keys more faults.OutOfMemory wider longer w = tt
content_fault_in cs ds keys more faults.NotAStore wider longer w = absurd w
content_fault_in cs ds keys more faults.WrongKey wider longer w = absurd w
content_fault_in cs ds keys more (faults.NoHolder known) wider longer w = absurd w
content_fault_in cs ds keys more faults.Unseen wider longer w = absurd w
content_fault_in cs ds keys more faults.DiskFault wider longer w = absurd w

-- one item of a list stands there
pub one_of : {X : Type 0} (xs : List X) (i : ℕ) (x : X) → i < length xs → x ≡ get_or xs i x → (y : X) → In y (x ∷ []) → In y xs
one_of {X} xs i x within is y here = subst (λ (z : X). In z xs) (sym (⊎_elim (λ (e : y ≡ x). e) (λ n. absurd n) here ∙ is)) (get_or-In X xs i x within)

pub next_taken : {X : Type 0} (xs : List X) (i : ℕ) (x : X) → i < length xs → x ≡ get_or xs i x → take (i + 1) xs ≡ take i xs ++ x ∷ []
next_taken {X} xs i x within is = take_more xs i x within ∙ ap (λ (y : X). take i xs ++ y ∷ []) (sym is)

opened_more : (keys more : List KeyParts) (c : PlacedContent) → IsOpened keys c → IsOpened more c → IsOpened (keys ++ more) c
opened_more keys more c first next = λ k i sealed. ⊎_elim (λ (j : In k keys). first k j sealed) (λ (j : In k more). next k j sealed) ((In-append KeyParts k keys more).0 i)

shown_more : (keys more : List KeyParts) (c : PlacedContent) → content_shown (keys ++ more) c ≡ content_shown keys c ++ content_shown more c
unfolding content_shown
shown_more keys more c = ap (flat_map (shown_by c)) (filter-append (is_sealed_by c.content) keys more) ∙ flat_map-append (shown_by c) (filter (is_sealed_by c.content) keys) (filter (is_sealed_by c.content) more)

pub opened_next : (keys : List KeyParts) (i : ℕ) (key : KeyParts) (c : PlacedContent) → i < length keys → key ≡ get_or keys i key → IsOpened (take i keys) c → IsOpened (key ∷ []) c → IsOpened (take (i + 1) keys) c
opened_next keys i key c within is first next =
    subst (λ (ks : List KeyParts). IsOpened ks c) (sym (next_taken keys i key within is)) (opened_more (take i keys) (key ∷ []) c first next)

pub shown_next : (keys : List KeyParts) (i : ℕ) (key : KeyParts) (c : PlacedContent) (start before after : List PlainSeen) → i < length keys → key ≡ get_or keys i key → before ≡ start ++ content_shown (take i keys) c →
    after ≡ before ++ content_shown (key ∷ []) c → after ≡ start ++ content_shown (take (i + 1) keys) c
shown_next keys i key c start before after within is so_far next =
    next
    ∙ ap (λ (s : List PlainSeen). s ++ content_shown (key ∷ []) c) so_far
    ∙ append_assoc start (content_shown (take i keys) c) (content_shown (key ∷ []) c)
    ∙ ap (λ (s : List PlainSeen). start ++ s) (sym (shown_more (take i keys) (key ∷ []) c))
    ∙ ap (λ (ks : List KeyParts). start ++ content_shown ks c) (sym (next_taken keys i key within is))

pub all_opened_next : (contents : List PlacedContent) (i : ℕ) (c : PlacedContent) (keys : List KeyParts) → i < length contents → c ≡ get_or contents i c → ((d : PlacedContent) → In d (take i contents) → IsOpened keys d) → IsOpened keys c →
    (d : PlacedContent) → In d (take (i + 1) contents) → IsOpened keys d
all_opened_next contents i c keys within is so_far here = λ d j. ⊎_elim
    (λ (k : In d (take i contents)). so_far d k)
    (λ (k : In d (c ∷ [])). ⊎_elim (λ (e : d ≡ c). subst (IsOpened keys) (sym e) here) (λ n. absurd n) k)
    ((In-append PlacedContent d (take i contents) (c ∷ [])).0 (subst (λ (cs : List PlacedContent). In d cs) (next_taken contents i c within is) j))

pub audit_next : (contents : List PlacedContent) (i : ℕ) (c : PlacedContent) (keys : List KeyParts) (start before after : List PlainSeen) → i < length contents → c ≡ get_or contents i c → before ≡ start ++ audit_of keys (take i contents) →
    after ≡ before ++ content_shown keys c → after ≡ start ++ audit_of keys (take (i + 1) contents)
unfolding audit_of
audit_next contents i c keys start before after within is so_far next =
    next
    ∙ ap (λ (s : List PlainSeen). s ++ content_shown keys c) so_far
    ∙ append_assoc start (audit_of keys (take i contents)) (content_shown keys c)
    ∙ ap (λ (s : List PlainSeen). start ++ (flat_map (content_shown keys) (take i contents) ++ s)) (sym (append-nil (content_shown keys c)))
    ∙ ap (λ (s : List PlainSeen). start ++ s) (sym (flat_map-append (content_shown keys) (take i contents) (c ∷ [])))
    ∙ ap (λ (cs : List PlacedContent). start ++ flat_map (content_shown keys) cs) (sym (next_taken contents i c within is))

-- contents behind others
pub seen_on : (first next : List PlacedContent) (keys : List KeyParts) (start middle end : List PlainSeen) → AreSeen keys first start middle → AreSeen keys next middle end → AreSeen keys (first ++ next) start end
unfolding audit_of
seen_on first next keys start middle end one two = record {
  opened = λ c i. ⊎_elim (λ (j : In c first). one.opened c j) (λ (j : In c next). two.opened c j) ((In-append PlacedContent c first next).0 i);
  shown =
      two.shown
      ∙ ap (λ (s : List PlainSeen). s ++ audit_of keys next) one.shown
      ∙ append_assoc start (audit_of keys first) (audit_of keys next)
      ∙ ap (λ (s : List PlainSeen). start ++ s) (sym (flat_map-append (content_shown keys) first next));
}

pub none_seen : (keys : List KeyParts) (start : List PlainSeen) → AreSeen keys [] start start
unfolding audit_of
none_seen keys start = record { opened = λ c i. absurd i; shown = sym (append-nil start) }

-- ---- a whole audit

pub holder_key_is : (bundle : Bundle) (h : HolderId) (key : List ℕ) (r : Reading) (serial : ℕ) → bundle ≡ bundles.Holder h key → serial ≡ present r.stand.keys.keys (holder_role h.0) →
    (let k : KeyParts = record { id = h.0; serial = serial; bytes = key } in k) ≡ bundle_key bundle r
unfolding bundle_key
holder_key_is bundle h key r serial is same =
    ap (λ s. (let k : KeyParts = record { id = h.0; serial = s; bytes = key } in k)) same ∙ sym (ap (λ (b : Bundle). bundle_key b r) is)

names_key : (c : PlainContent) (key : KeyParts) → sealing_id c ≡ key.id → c.key_serial.0 ≡ key.serial → is_sealed_by c key ≡ true
unfolding is_sealed_by
names_key c key id serial = both_true (eq-eqb (sealing_id c) key.id id) (eq-eqb c.key_serial.0 key.serial serial)

none_bad : (r : Reading) (bundle : Bundle) (keys : List KeyParts) → AreRightKeys (log_links r.log) (bundle_key bundle r) keys → ((c : PlacedContent) → In c (log_contents r.log) → IsOpened keys c) →
    (failure : Failure) → RecordFault r bundle failure → ⊥
unfolding links_read text_with
none_bad r bundle keys right opened failure (WrongLink l there source wrong) = wrong (right.tagged source.key ((right.right source.key).1 source.right) l there (source.id, source.serial))
none_bad r bundle keys right opened failure (WrongContent c there seal wrong) = wrong (opened c there seal.key ((right.right seal.key).1 seal.right) (names_key c.content seal.key seal.id seal.serial)).tagged
none_bad r bundle keys right opened failure (WrongText c there seal tagged form) =
    let by = opened c there seal.key ((right.right seal.key).1 seal.right) (names_key c.content seal.key seal.id seal.serial) in
    false≢true (sym form ∙ by.form)

pub passes : (r : Reading) (bundle : Bundle) (keys : List KeyParts) (answer : List PlainSeen) → AreRightKeys (log_links r.log) (bundle_key bundle r) keys →
    ((c : PlacedContent) → In c (log_contents r.log) → IsOpened keys c) → answer ≡ audit_of keys (log_contents r.log) → Passes r bundle answer
passes r bundle keys answer right opened seen = record {
  none_bad = none_bad r bundle keys right opened;
  audit = record { keys = keys; right = right; seen = seen };
}

wrong_link : (r : Reading) (bundle : Bundle) (batch at : ℕ) → LinkFault (log_links r.log) (bundle_key bundle r) (faults.Tampered batch at) → RecordFault r bundle (OfBytes (Tampered batch at))
unfolding links_read
wrong_link r bundle batch at w =
    let l = w.2.0 in
    subst (λ b. RecordFault r bundle (OfBytes (Tampered b at))) w.2.2
    (subst (λ a. RecordFault r bundle (OfBytes (Tampered l.batch a))) w.2.3
    (WrongLink l w.2.1 (record { key = w.0; right = w.1; id = w.2.4.0; serial = w.2.4.1 }) w.2.5))

pub link_told : (r : Reading) (bundle : Bundle) (links : List PlacedLink) (key : KeyParts) (fault : ClientFault) → links ≡ log_links r.log → key ≡ bundle_key bundle r → LinkFault links key fault → IsToldOf (RecordFault r bundle) fault
link_told r bundle links key (faults.Tampered batch at) of_links of_key w =
    wrong_link r bundle batch at
    (subst (λ (k : KeyParts). LinkFault (log_links r.log) k (faults.Tampered batch at)) of_key (subst (λ (ls : List PlacedLink). LinkFault ls key (faults.Tampered batch at)) of_links w))
link_told r bundle links key faults.OutOfMemory of_links of_key w = tt
link_told r bundle links key faults.NotAStore of_links of_key w = absurd w
link_told r bundle links key faults.WrongKey of_links of_key w = absurd w
link_told r bundle links key (faults.Damaged at) of_links of_key w = absurd w
link_told r bundle links key (faults.NoHolder known) of_links of_key w = absurd w
link_told r bundle links key faults.Unseen of_links of_key w = absurd w
link_told r bundle links key faults.DiskFault of_links of_key w = tt

both_are : {s t : Bool} → (s && t) ≡ true → (s ≡ true) × (t ≡ true)
both_are {s} {t} both = (elim s as (λ b. (b && t) ≡ true → (b ≡ true) × (t ≡ true)) [ true ↦ λ e. (refl, e) | false ↦ λ e. absurd (false≢true e) ]) both

wrong_content : (r : Reading) (bundle : Bundle) (keys : List KeyParts) (batch at : ℕ) → AreRightKeys (log_links r.log) (bundle_key bundle r) keys → ContentFault (log_contents r.log) keys (faults.Tampered batch at) → RecordFault r bundle (OfBytes (Tampered batch at))
unfolding is_sealed_by links_read
wrong_content r bundle keys batch at right w =
    let c = w.0 in
    let both = both_are w.4.2 in
    subst (λ b. RecordFault r bundle (OfBytes (Tampered b at))) w.2
    (subst (λ a. RecordFault r bundle (OfBytes (Tampered c.batch a))) w.3
    (WrongContent c w.1 (record { key = w.4.0; right = (right.right w.4.0).0 w.4.1; id = eqb-true (sealing_id c.content) w.4.0.id both.0; serial = eqb-true c.content.key_serial.0 w.4.0.serial both.1 }) w.4.3))

wrong_text : (r : Reading) (bundle : Bundle) (keys : List KeyParts) (at : ℕ) → AreRightKeys (log_links r.log) (bundle_key bundle r) keys → ContentFault (log_contents r.log) keys (faults.Damaged at) → RecordFault r bundle (OfBytes (Damaged at))
unfolding is_sealed_by links_read text_with
wrong_text r bundle keys at right w =
    let c = w.0 in
    let both = both_are w.3.2 in
    subst (λ a. RecordFault r bundle (OfBytes (Damaged a))) w.2
    (WrongText c w.1 (record { key = w.3.0; right = (right.right w.3.0).0 w.3.1; id = eqb-true (sealing_id c.content) w.3.0.id both.0; serial = eqb-true c.content.key_serial.0 w.3.0.serial both.1 }) w.3.3 w.3.4)

pub content_told : (r : Reading) (bundle : Bundle) (keys : List KeyParts) (fault : ClientFault) → AreRightKeys (log_links r.log) (bundle_key bundle r) keys → ContentFault (log_contents r.log) keys fault → IsToldOf (RecordFault r bundle) fault
content_told r bundle keys (faults.Tampered batch at) right w = wrong_content r bundle keys batch at right w
content_told r bundle keys (faults.Damaged at) right w = wrong_text r bundle keys at right w
content_told r bundle keys faults.OutOfMemory right w = tt
content_told r bundle keys faults.NotAStore right w = absurd w
content_told r bundle keys faults.WrongKey right w = absurd w
content_told r bundle keys (faults.NoHolder known) right w = absurd w
content_told r bundle keys faults.Unseen right w = absurd w
content_told r bundle keys faults.DiskFault right w = tt
