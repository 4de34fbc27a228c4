-- A link that is opened as the definition says, and the ring behind it.
use Rattle.std.proofs.Common.{◌≡◌, ◌≢◌, ℕ, Bool, true, false, cond, List, [], ◌∷◌, Option, None, Some, option_map, Result, Ok, Err, refl, sym, ap, subst, ◌∙◌}
use Rattle.std.specs.Prelude.{IfSome, IsTrue}
use Rattle.std.specs.Str.{bytes_eq}
use Rattle.std.proofs.lemmas.Bool.{and_parts, eqb-true, false_from_ne_true, false≢true}
use Rattle.std.proofs.lemmas.Slice.Eq.{bytes_eq-Decides}
use Rattle.chacha_seal.specs.Keys.{KeyParts}
use Rattle.chacha_seal.specs.Sealing.{sealed, seal_tag}
use Rattle.commit_journal.specs.Answering.{Fault, Damaged, Tampered, and_then}
use Rattle.cry_base.specs.Layout.{header_len}
use Rattle.cry_base.specs.declared.roles.Edge.{Edge}
use Rattle.cry_base.specs.declared.roles.Role.{Role}
use Rattle.log_visits.specs.Found.{IsFree, IsLinkFor, link_here, content_here}
use Rattle.commit_journal.specs.Placed.{PlainPlaced}
use Rattle.log_visits.specs.Answering.{IsFault}
use Rattle.log_visits.specs.declared.fault.ClientFault.{ClientFault}
use Rattle.log_visits.specs.declared.last_links.FoundLink.{FoundLink}
use Rattle.log_visits.specs.declared.fault.ClientFault.TheVariants as faults
use Rattle.std.specs.Option.{IsSome}
use Rattle.log_visits.specs.Holding.{ArePresent, HoldsKeys, HasKind}
use Rattle.log_visits.specs.Placing.{PlacedLink, PlacedContent, last_one, is_for_edge, log_links, link_for, content_for}
use Rattle.log_visits.specs.Verdict.{open_link, open_content}
use Rattle.log_visits.specs.Visiting.{Reading, Opened, needed, with_key, visit_edge, visit_text}
use Rattle.log_visits.specs.Visiting as opened
use Rattle.key_links.specs.Ended.{kind_from, kind_to, role_with, source_role, target_role, HasSource}
use Rattle.key_links.specs.Opened.{IsAuthenticLink, IsAuthenticContent, text_of}
use Rattle.key_links.specs.Ringed.{Ringed, key_of, IsWithKey}
use Rattle.public_fold.specs.KeyStep.{KeyState, present}
use Rattle.record_format.specs.Plain.{PlainContent}
use Rattle.record_format.specs.declared.link.LinkRecord.{LinkRecord}
use Rattle.record_format.specs.Spelling.{link_head, content_head}
use Rattle.role_graph.specs.Roles.{role_id, same_role}
use Rattle.role_graph.proofs.Comparing.{same_role_tells}

-- ---- the head of what was found

-- the last one that passes passes
last_passes_or : {X : Type 0} (test : X → Bool) (later : Option X) (x y : X) → (later ≡ Some y → test y ≡ true) → (b : Bool) → test x ≡ b →
    elim later [ Some z ↦ Some z | None ↦ cond b (Some x) None ] ≡ Some y → test y ≡ true
last_passes_or test (Some z) x y passes b t is = passes is
last_passes_or test None x y passes true t is = let same : x ≡ y = cc in subst (λ z. test z ≡ true) same t
last_passes_or test None x y passes false t is = absurd (cc)

pub last_passes : {X : Type 0} (test : X → Bool) (xs : List X) (y : X) → last_one test xs ≡ Some y → test y ≡ true
unfolding last_one
last_passes test [] y is = absurd (cc)
last_passes test (x ∷ xs) y is = last_passes_or test (last_one test xs) x y (last_passes test xs y) (test x) refl is

-- the head of an edge's link
pub record IsLinkOf (k : KeyState) (e : Edge) (l : LinkRecord) : Type 0 where
  pub kind : l.kind ≡ e.kind
  pub from_id : l.from_id ≡ role_id e.from
  pub to_id : l.to_id ≡ role_id e.to
  pub from_serial : l.from_serial.0 ≡ present k.keys e.from
  pub to_serial : l.to_serial.0 ≡ present k.keys e.to

pub head_of : (k : KeyState) (e : Edge) (batch at : ℕ) (l : LinkRecord) → IsTrue (is_for_edge k e (link_here batch at l)) → IsLinkOf k e l
unfolding is_for_edge
head_of k e batch at l passes =
    let one = and_parts _ _ passes in
    let two = and_parts _ _ one.1 in
    let three = and_parts _ _ two.1 in
    let four = and_parts _ _ three.1 in
    record {
      kind = eqb-true l.kind e.kind one.0;
      from_id = eqb-true l.from_id (role_id e.from) two.0;
      to_id = eqb-true l.to_id (role_id e.to) three.0;
      from_serial = eqb-true l.from_serial.0 (present k.keys e.from) four.0;
      to_serial = eqb-true l.to_serial.0 (present k.keys e.to) four.1;
    }

-- what is known of a link that may be there, of the one that is
pub head_found : (k : KeyState) (log : List PlainPlaced) (e : Edge) (batch at : ℕ) (l : LinkRecord) → link_for k log e ≡ Some (link_here batch at l) → IsLinkOf k e l
unfolding link_for
head_found k log e batch at l is = head_of k e batch at l (last_passes (is_for_edge k e) (log_links log) (link_here batch at l) is)

pub form_of : (k : KeyState) (e : Edge) (o : Option FoundLink) (l : FoundLink) → o ≡ Some l → IfSome o (IsLinkFor k e) → IsLinkFor k e l
form_of k e o l is form = subst (λ x. IfSome x (IsLinkFor k e)) is form

pub source_is : (k : KeyState) (e : Edge) (l : LinkRecord) → HasKind e → IsLinkOf k e l → source_role l ≡ e.from
source_is k e l kind head = ap (λ n. role_with (kind_from n) l.from_id) head.kind ∙ ap (role_with (kind_from e.kind)) head.from_id ∙ kind.source

pub target_is : (k : KeyState) (e : Edge) (l : LinkRecord) → HasKind e → IsLinkOf k e l → target_role l ≡ e.to
target_is k e l kind head = ap (λ n. role_with (kind_to n) l.to_id) head.kind ∙ ap (role_with (kind_to e.kind)) head.to_id ∙ kind.target

pub has_source : (k : KeyState) (e : Edge) (l : LinkRecord) (ring : Ringed) (key : KeyParts) → HasKind e → IsLinkOf k e l → ArePresent k.keys ring →
    key_of ring e.from ≡ Some key → HasSource ring l
has_source k e l ring key kind head are there =
    let parts = are e.from key there in
    (key, ap (key_of ring) (source_is k e l kind head) ∙ there, (refl, head.from_id ∙ sym parts.0, head.from_serial ∙ sym parts.1))

-- ---- the definition's answer

wanting_or : (r : Reading) (o : Opened) (e : Edge) (key : Option (List ℕ)) (link : Option PlacedLink) → link ≡ None →
    needed key (λ k. needed link (λ l. and_then (open_link l.batch l.at k l.link) (with_key o e.to))) ≡ Err (Damaged header_len)
unfolding needed
wanting_or r o e None link none = refl
wanting_or r o e (Some k) link none = rw none refl

pub link_wanting : (r : Reading) (o : Opened) (e : Edge) → link_for r.stand.keys r.log e ≡ None → visit_edge r o e ≡ Err (Damaged header_len)
unfolding visit_edge
link_wanting r o e none = wanting_or r o e (opened.key_of o.keys e.from) (link_for r.stand.keys r.log e) none

pub key_wanting : (r : Reading) (o : Opened) (e : Edge) → opened.key_of o.keys e.from ≡ None → visit_edge r o e ≡ Err (Damaged header_len)
unfolding visit_edge needed
key_wanting r o e none = rw none refl

-- where both are there it is the link's
pub link_decides : (r : Reading) (o : Opened) (e : Edge) (key : List ℕ) (l : PlacedLink) → opened.key_of o.keys e.from ≡ Some key → link_for r.stand.keys r.log e ≡ Some l →
    visit_edge r o e ≡ and_then (open_link l.batch l.at key l.link) (with_key o e.to)
unfolding visit_edge needed
link_decides r o e key l k_is l_is = rw (k_is, l_is) refl

pub authentic_opens : (batch at : ℕ) (key : KeyParts) (l : LinkRecord) → IsAuthenticLink key l → open_link batch at key.bytes l ≡ Ok (sealed key.bytes l.nonce l.cipher)
unfolding open_link
authentic_opens batch at key l right = rw ((bytes_eq-Decides l.tag (seal_tag key.bytes (link_head l) l.cipher)).1 right) refl

pub other_is_tampered : (batch at : ℕ) (key : KeyParts) (l : LinkRecord) → (IsAuthenticLink key l → ⊥) → open_link batch at key.bytes l ≡ Err (Tampered batch at)
unfolding open_link
other_is_tampered batch at key l wrong =
    let due = seal_tag key.bytes (link_head l) l.cipher in
    let test : bytes_eq l.tag due ≡ false = false_from_ne_true (bytes_eq l.tag due) (λ t. wrong ((bytes_eq-Decides l.tag due).0 t)) in
    rw test refl

pub link_followed : (r : Reading) (o : Opened) (e : Edge) (key : KeyParts) (batch at : ℕ) (l : LinkRecord) → opened.key_of o.keys e.from ≡ Some key.bytes →
    link_for r.stand.keys r.log e ≡ Some (link_here batch at l) → IsAuthenticLink key l →
    visit_edge r o e ≡ Ok (record o { keys = (e.to, sealed key.bytes l.nonce l.cipher) ∷ o.keys })
unfolding and_then with_key
link_followed r o e key batch at l k_is l_is right =
    link_decides r o e key.bytes (link_here batch at l) k_is l_is ∙ rw (authentic_opens batch at key l right) refl

pub link_refused : (r : Reading) (o : Opened) (e : Edge) (key : KeyParts) (batch at : ℕ) (l : LinkRecord) → opened.key_of o.keys e.from ≡ Some key.bytes →
    link_for r.stand.keys r.log e ≡ Some (link_here batch at l) → (IsAuthenticLink key l → ⊥) → visit_edge r o e ≡ Err (Tampered batch at)
unfolding and_then
link_refused r o e key batch at l k_is l_is wrong =
    link_decides r o e key.bytes (link_here batch at l) k_is l_is ∙ rw (other_is_tampered batch at key l wrong) refl

-- ---- the ring behind it

same_keeps : (told : Role → Bool) (new old : Ringed) (to role : Role) (key : KeyParts) (keys : List (Role × List ℕ)) → IsWithKey new old to key → HoldsKeys told old keys → IsTrue (told role) →
    (b : Bool) → same_role to role ≡ b → cond b (Some key.bytes) (opened.key_of keys role) ≡ option_map (λ k. k.bytes) (key_of new role)
same_keeps told new old to role key keys with holds is_told true same =
    let here : key_of new role ≡ Some key = subst (λ x. key_of new x ≡ Some key) ((same_role_tells to role).0 same) with.here in
    sym (ap (option_map (λ (k : KeyParts). k.bytes)) here)
same_keeps told new old to role key keys with holds is_told false same =
    let other : role ≢ to = λ is. absurd (let t : same_role to role ≡ true = (same_role_tells to role).1 (sym is) in cc) in
    holds role is_told ∙ sym (ap (option_map (λ (k : KeyParts). k.bytes)) (with.others role other))

pub keys_kept : (told : Role → Bool) (new old : Ringed) (to : Role) (key : KeyParts) (keys : List (Role × List ℕ)) → IsWithKey new old to key → HoldsKeys told old keys →
    HoldsKeys told new ((to, key.bytes) ∷ keys)
unfolding opened.key_of
keys_kept told new old to key keys with holds = λ role is_told. same_keeps told new old to role key keys with holds is_told (same_role to role) refl

present_or : (keys : List (Role × ℕ)) (new old : Ringed) (to role : Role) (key k : KeyParts) → IsWithKey new old to key → ArePresent keys old →
    (key.id ≡ role_id to) → (key.serial ≡ present keys to) → key_of new role ≡ Some k → (b : Bool) → same_role to role ≡ b → (k.id ≡ role_id role) × (k.serial ≡ present keys role)
present_or keys new old to role key k with are id serial there true same =
    let is : to ≡ role = (same_role_tells to role).0 same in
    let here : key_of new role ≡ Some key = subst (λ x. key_of new x ≡ Some key) is with.here in
    let one : key ≡ k = cc in
    (subst (λ x. x.id ≡ role_id role) one (id ∙ ap role_id is), subst (λ x. x.serial ≡ present keys role) one (serial ∙ ap (present keys) is))
present_or keys new old to role key k with are id serial there false same =
    let other : role ≢ to = λ is. absurd (let t : same_role to role ≡ true = (same_role_tells to role).1 (sym is) in cc) in
    are role k (sym (with.others role other) ∙ there)

pub still_present : (keys : List (Role × ℕ)) (new old : Ringed) (to : Role) (key : KeyParts) → IsWithKey new old to key → ArePresent keys old →
    key.id ≡ role_id to → key.serial ≡ present keys to → ArePresent keys new
still_present keys new old to key with are id serial = λ role k there. present_or keys new old to role key k with are id serial there (same_role to role) refl

-- ---- what a call knows

pub the_one : {X : Type 0} (o : Option X) → IsSome o → (x : X) × (o ≡ Some x)
the_one (Some x) is = (x, refl)
the_one None is = absurd (false≢true is)

pub no_one : {X : Type 0} (o : Option X) → (IsSome o → ⊥) → o ≡ None
no_one (Some x) none = absurd (none refl)
no_one None none = refl

-- a fault that may come at any time is any fault that is wanted
pub free_fault : {Y : Type 0} (fault : ClientFault) (wanted : Result Y Fault) → IsFree fault → IsFault fault wanted
free_fault faults.NotAStore wanted free = absurd free
free_fault faults.WrongKey wanted free = absurd free
free_fault (faults.Damaged at) wanted free = absurd free
free_fault (faults.Tampered batch at) wanted free = absurd free
free_fault (faults.NoHolder known) wanted free = absurd free
free_fault faults.Unseen wanted free = absurd free
free_fault faults.DiskFault wanted free = tt
free_fault faults.OutOfMemory wanted free = tt

-- ---- texts

wanting_text_or : (key : Option (List ℕ)) (content : Option PlacedContent) (go_on : ℕ → List ℕ → Result Opened Fault) → content ≡ None →
    needed key (λ k. needed content (λ c. and_then (open_content c.batch c.at k c.content) (go_on c.at))) ≡ Err (Damaged header_len)
unfolding needed
wanting_text_or None content go_on none = refl
wanting_text_or (Some k) content go_on none = rw none refl

pub content_wanting : (r : Reading) (o : Opened) (role : Role) (kind object : ℕ) (go_on : ℕ → List ℕ → Result Opened Fault) → content_for r.log kind object ≡ None →
    visit_text r o role kind object go_on ≡ Err (Damaged header_len)
unfolding visit_text
content_wanting r o role kind object go_on none = wanting_text_or (opened.key_of o.keys role) (content_for r.log kind object) go_on none

pub text_key_wanting : (r : Reading) (o : Opened) (role : Role) (kind object : ℕ) (go_on : ℕ → List ℕ → Result Opened Fault) → opened.key_of o.keys role ≡ None →
    visit_text r o role kind object go_on ≡ Err (Damaged header_len)
unfolding visit_text needed
text_key_wanting r o role kind object go_on none = rw none refl

text_decides : (r : Reading) (o : Opened) (role : Role) (kind object : ℕ) (go_on : ℕ → List ℕ → Result Opened Fault) (key : List ℕ) (c : PlacedContent) →
    opened.key_of o.keys role ≡ Some key → content_for r.log kind object ≡ Some c →
    visit_text r o role kind object go_on ≡ and_then (open_content c.batch c.at key c.content) (go_on c.at)
unfolding visit_text needed
text_decides r o role kind object go_on key c k_is c_is = rw (k_is, c_is) refl

pub text_read : (r : Reading) (o : Opened) (role : Role) (kind object : ℕ) (go_on : ℕ → List ℕ → Result Opened Fault) (key : KeyParts) (batch at : ℕ) (c : PlainContent) →
    opened.key_of o.keys role ≡ Some key.bytes → content_for r.log kind object ≡ Some (content_here batch at c) → IsAuthenticContent key c →
    visit_text r o role kind object go_on ≡ go_on at (text_of key c)
unfolding and_then open_content
text_read r o role kind object go_on key batch at c k_is c_is right =
    text_decides r o role kind object go_on key.bytes (content_here batch at c) k_is c_is
    ∙ rw ((bytes_eq-Decides c.tag (seal_tag key.bytes (content_head c) c.cipher)).1 right) refl

pub text_refused : (r : Reading) (o : Opened) (role : Role) (kind object : ℕ) (go_on : ℕ → List ℕ → Result Opened Fault) (key : KeyParts) (batch at : ℕ) (c : PlainContent) →
    opened.key_of o.keys role ≡ Some key.bytes → content_for r.log kind object ≡ Some (content_here batch at c) → (IsAuthenticContent key c → ⊥) →
    visit_text r o role kind object go_on ≡ Err (Tampered batch at)
unfolding and_then open_content
text_refused r o role kind object go_on key batch at c k_is c_is wrong =
    let due = seal_tag key.bytes (content_head c) c.cipher in
    let test : bytes_eq c.tag due ≡ false = false_from_ne_true (bytes_eq c.tag due) (λ t. wrong ((bytes_eq-Decides c.tag due).0 t)) in
    text_decides r o role kind object go_on key.bytes (content_here batch at c) k_is c_is ∙ rw test refl
