-- Each key that visits open is the one that was drawn as the present key of its role.
use Rattle.std.proofs.Common.{◌≡◌, ◌≢◌, inl, inr, ℕ, Bool, true, false, cond, ◌==◌, List, [], ◌∷◌, map, Option, Some, None, Result, Ok, Err, refl, sym, ap, subst, ◌∙◌}
use Rattle.std.specs.Prelude.{if◌then◌else◌, unwrap_or}
use Rattle.std.proofs.lemmas.Bool.{false≢true}
use Rattle.chacha_seal.specs.Keys.{KeyParts}
use Rattle.commit_journal.specs.Answering.{Fault, Damaged, and_then}
use Rattle.cry_base.specs.Sets.{In}
use Rattle.cry_base.specs.Stepping.{with_folder}
use Rattle.cry_base.specs.Store.{HolderEntry}
use Rattle.cry_base.specs.declared.roles.Edge.{Edge}
use Rattle.cry_base.specs.declared.roles.Role.{Role}
use Rattle.cry_base.specs.declared.roles.Role.TheVariants.{Owner}
use Rattle.log_visits.specs.Placing.{PlacedLink, PlacedContent, content_for, is_for_edge, last_one, link_for, log_links}
use Rattle.log_visits.specs.Verdict.{open_content, open_link}
use Rattle.log_visits.specs.Visiting.{Opened, Reading, is_file_text, is_folder_text, key_of, needed, visit, visit_all, visit_edge, visit_text, with_holder_key, with_key, with_name_at, with_parts, with_text_at}
use Rattle.log_visits.specs.Visits.{Visit}
use Rattle.log_visits.specs.Visits.Visit.{ToKey, ToName, ToFile, ToHolder}
use Rattle.log_visits.proofs.Following.{head_found}
use Rattle.log_visits.proofs.Opened.{opens_link}
use Rattle.key_links.specs.Sealed.{sealed_link}
use Rattle.record_format.specs.declared.link.LinkRecord.{LinkRecord}
use Rattle.role_graph.specs.Roles.{data_of, file_role, holder_role, role_id, same_role}
use Rattle.role_graph.proofs.Comparing.{same_role_tells}
use Rattle.public_fold.specs.Journal.{Journal, keys_of, store_of}
use Rattle.public_fold.specs.KeyStep.{KeyState, newest, present}
use Rattle.public_fold.specs.Records.{Link}
use Rattle.public_fold.specs.Valid.{IsValid}
use Rattle.journal_bytes.specs.Bytes.{link_record}
use Rattle.journal_bytes.specs.Folds.{public_stand}
use Rattle.journal_bytes.specs.Keys.{AreWhole, all_keys, bytes_in, bytes_of, owner_parts}
use Rattle.journal_bytes.specs.Opening.{AreDrawn, owner_starts, reading_of}
use Rattle.journal_bytes.proofs.LogsWalked.{journal_holder, journal_walked}
use Rattle.journal_bytes.proofs.Walked.{IsLinkUnder}

-- ---- what a visit that doesn't fail went through

pub needed_told : (A B : Type 0) (o : Option A) (f : A → Result B Fault) (y : B) → needed o f ≡ Ok y → (x : A) × (o ≡ Some x) × (f x ≡ Ok y)
unfolding needed
needed_told A B None f y e = absurd cc
needed_told A B (Some x) f y e = (x, refl, e)

pub then_told : (A B : Type 0) (o : Result A Fault) (f : A → Result B Fault) (y : B) → and_then o f ≡ Ok y → (x : A) × (o ≡ Ok x) × (f x ≡ Ok y)
unfolding and_then
then_told A B (Err fault) f y e = absurd cc
then_told A B (Ok x) f y e = (x, refl, e)

pub same_ok : (A : Type 0) (x y : A) → (let r : Result A Fault = Ok x in r) ≡ Ok y → x ≡ y
same_ok A x y e = cc

last_in : (X : Type 0) (test : X → Bool) (xs : List X) (y : X) → last_one test xs ≡ Some y → In y xs
unfolding last_one
last_in X test [] y e = absurd cc
last_in X test (x ∷ xs) y e =
    (elim (last_one test xs) as (λ o. last_one test xs ≡ o → elim o as (λ z. Option X) [ Some z ↦ Some z | None ↦ if test x then Some x else None ] ≡ Some y → In y (x ∷ xs)) [
      | Some z ↦ λ q f. inr (last_in X test xs y (q ∙ f))
      | None ↦ λ q f. inl (first_in (test x) f)
    ]) refl e
  where
    first_in : (b : Bool) → (if b then Some x else None) ≡ Some y → y ≡ x
    first_in true f = cc
    first_in false f = absurd cc

-- ---- links

newest_present : (keys : List (Role × ℕ)) (r : Role) (o : Option ℕ) → newest keys r ≡ o → present keys r ≢ 0 → newest keys r ≡ Some (present keys r)
unfolding present
newest_present keys r None e some = absurd (some (ap (λ o. unwrap_or o 0) e))
newest_present keys r (Some n) e some = e ∙ ap Some (sym (ap (λ o. unwrap_or o 0) e))

present_newest : (keys : List (Role × ℕ)) (r : Role) (n : ℕ) → newest keys r ≡ Some n → present keys r ≡ n
unfolding present
present_newest keys r n e = ap (λ o. unwrap_or o 0) e

-- what a link leads to under the key of its source
link_opened : (keys : List KeyParts) (batch at : ℕ) (key : List ℕ) (r : LinkRecord) (l : Link) → r ≡ link_record keys l → key ≡ bytes_in keys l.from_serial → open_link batch at key r ≡ Ok (bytes_in keys l.to_serial)
unfolding link_record
link_opened keys batch at key r l is same =
    ap (open_link batch at key) is
    ∙ ap (λ k. open_link batch at k (link_record keys l)) same
    ∙ opens_link batch at l.edge.kind (record { id = role_id l.edge.from; serial = l.from_serial; bytes = bytes_in keys l.from_serial }) (record { id = role_id l.edge.to; serial = l.to_serial; bytes = bytes_in keys l.to_serial }) l.nonce

record_serials : (keys : List KeyParts) (r : LinkRecord) (l : Link) → r ≡ link_record keys l → (r.from_serial.0 ≡ l.from_serial) × (r.to_serial.0 ≡ l.to_serial)
unfolding link_record sealed_link
record_serials keys r l is = (ap (λ (x : LinkRecord). x.from_serial.0) is, ap (λ (x : LinkRecord). x.to_serial.0) is)

-- one key more
pub more_drawn : (keys : List KeyParts) (k : KeyState) (opened : List (Role × List ℕ)) (role : Role) (n : ℕ) → newest k.keys role ≡ Some n → AreDrawn keys k opened → AreDrawn keys k ((role, bytes_in keys n) ∷ opened)
unfolding key_of
more_drawn keys k opened role n newer drawn other bytes =
    elim (same_role role other) as (λ b. same_role role other ≡ b → (if b then Some (bytes_in keys n) else key_of opened other) ≡ Some bytes → (n : ℕ) × (newest k.keys other ≡ Some n) × (bytes ≡ bytes_in keys n)) [
      | true ↦ λ t e. (n, ap (newest k.keys) (sym ((same_role_tells role other).0 t)) ∙ newer, let same : bytes ≡ bytes_in keys n = cc in same)
      | false ↦ λ t e. drawn other bytes e
    ] refl

link_in : (r : Reading) (e : Edge) (p : PlacedLink) → link_for r.stand.keys r.log e ≡ Some p → In p (log_links r.log)
unfolding link_for
link_in r e p found = last_in PlacedLink (is_for_edge r.stand.keys e) (log_links r.log) p found

-- the link that is found for an edge leads to the present key of its target
pub found_opens : (keys : List KeyParts) (r : Reading) (o : Opened) (e : Edge) (key : List ℕ) (p : PlacedLink) → ((p : PlacedLink) → In p (log_links r.log) → IsLinkUnder keys p.link) → AreDrawn keys r.stand.keys o.keys
    → key_of o.keys e.from ≡ Some key → link_for r.stand.keys r.log e ≡ Some p
    → (open_link p.batch p.at key p.link ≡ Ok (bytes_in keys (present r.stand.keys.keys e.to))) × (newest r.stand.keys.keys e.to ≡ Some (present r.stand.keys.keys e.to))
found_opens keys r o e key p right drawn has found =
    let k = r.stand.keys in
    let own = drawn e.from key has in
    let is = right p (link_in r e p found) in
    let head = head_found k r.log e p.batch p.at p.link found in
    let serials = record_serials keys p.link is.link is.is_sealed in
    let from : is.link.from_serial ≡ own.0 = sym serials.0 ∙ head.from_serial ∙ present_newest k.keys e.from own.0 own.1 in
    let to : is.link.to_serial ≡ present k.keys e.to = sym serials.1 ∙ head.to_serial in
    let opened = link_opened keys p.batch p.at key p.link is.link is.is_sealed (own.2 ∙ ap (bytes_in keys) (sym from)) in
    (opened ∙ ap (λ n. Ok (bytes_in keys n)) to, newest_present k.keys e.to (newest k.keys e.to) refl (λ z. is.not_zero (to ∙ z)))

edge_drawn : (keys : List KeyParts) (r : Reading) (before after : Opened) (e : Edge) → ((p : PlacedLink) → In p (log_links r.log) → IsLinkUnder keys p.link) → AreDrawn keys r.stand.keys before.keys
    → visit_edge r before e ≡ Ok after → AreDrawn keys r.stand.keys after.keys
unfolding visit_edge with_key
edge_drawn keys r before after e right drawn done =
    let k = r.stand.keys in
    let a = needed_told (List ℕ) Opened (key_of before.keys e.from) (λ key. needed (link_for r.stand.keys r.log e) (λ l. and_then (open_link l.batch l.at key l.link) (with_key before e.to))) after done in
    let b = needed_told PlacedLink Opened (link_for r.stand.keys r.log e) (λ l. and_then (open_link l.batch l.at a.0 l.link) (with_key before e.to)) after a.2 in
    let p : PlacedLink = b.0 in
    let c = then_told (List ℕ) Opened (open_link p.batch p.at a.0 p.link) (with_key before e.to) after b.2 in
    let opened = found_opens keys r before e a.0 p right drawn a.1 b.1 in
    let text : c.0 ≡ bytes_in keys (present k.keys e.to) = same_ok (List ℕ) c.0 (bytes_in keys (present k.keys e.to)) (sym c.1 ∙ opened.0) in
    let newer = opened.1 in
    let stands : (e.to, c.0) ∷ before.keys ≡ after.keys = ap (λ (o : Opened). o.keys) (same_ok Opened (record before { keys = (e.to, c.0) ∷ before.keys }) after c.2) in
    subst (AreDrawn keys k) stands (subst (λ (bytes : List ℕ). AreDrawn keys k ((e.to, bytes) ∷ before.keys)) (sym text) (more_drawn keys k before.keys e.to (present k.keys e.to) newer drawn))

-- a key more, and nothing else
pub key_told : (r : Reading) (o after : Opened) (e : Edge) → visit_edge r o e ≡ Ok after → (bytes : List ℕ) × ((let x : Opened = record o { keys = (e.to, bytes) ∷ o.keys } in x) ≡ after)
unfolding visit_edge with_key
key_told r o after e done =
    let a = needed_told (List ℕ) Opened (key_of o.keys e.from) (λ key. needed (link_for r.stand.keys r.log e) (λ l. and_then (open_link l.batch l.at key l.link) (with_key o e.to))) after done in
    let b = needed_told PlacedLink Opened (link_for r.stand.keys r.log e) (λ l. and_then (open_link l.batch l.at a.0 l.link) (with_key o e.to)) after a.2 in
    let p : PlacedLink = b.0 in
    let c = then_told (List ℕ) Opened (open_link p.batch p.at a.0 p.link) (with_key o e.to) after b.2 in
    (c.0, same_ok Opened (record o { keys = (e.to, c.0) ∷ o.keys }) after c.2)

-- ---- texts leave the keys

-- what a visit of a text went through
pub record IsTextRead (r : Reading) (o : Opened) (role : Role) (kind object : ℕ) (go_on : ℕ → List ℕ → Result Opened Fault) (after : Opened) : Type 0 where
  pub key : List ℕ
  pub has_key : key_of o.keys role ≡ Some key
  pub content : PlacedContent
  pub has_content : content_for r.log kind object ≡ Some content
  pub text : List ℕ
  pub opens : open_content content.batch content.at key content.content ≡ Ok text
  pub goes_on : go_on content.at text ≡ Ok after

pub text_told : (r : Reading) (o : Opened) (role : Role) (kind object : ℕ) (go_on : ℕ → List ℕ → Result Opened Fault) (after : Opened) → visit_text r o role kind object go_on ≡ Ok after → IsTextRead r o role kind object go_on after
unfolding visit_text
text_told r o role kind object go_on after done =
    let a = needed_told (List ℕ) Opened (key_of o.keys role) (λ key. needed (content_for r.log kind object) (λ c. and_then (open_content c.batch c.at key c.content) (go_on c.at))) after done in
    let b = needed_told PlacedContent Opened (content_for r.log kind object) (λ c. and_then (open_content c.batch c.at a.0 c.content) (go_on c.at)) after a.2 in
    let c : PlacedContent = b.0 in
    let d = then_told (List ℕ) Opened (open_content c.batch c.at a.0 c.content) (go_on c.at) after b.2 in
    record { key = a.0; has_key = a.1; content = c; has_content = b.1; text = d.0; opens = d.1; goes_on = d.2 }

if_ok : Bool → Opened → ℕ → Result Opened Fault
if_ok b x at = if b then Ok x else Err (Damaged at)

chosen : (b : Bool) (x y : Opened) (at : ℕ) → if_ok b x at ≡ Ok y → (b ≡ true) × (x ≡ y)
unfolding if_ok
chosen true x y at e = (refl, same_ok Opened x y e)
chosen false x y at e = absurd cc

-- a folder's name, a file's parts, a holder's key
pub name_told : (o after : Opened) (f at : ℕ) (text : List ℕ) → with_name_at o f at text ≡ Ok after
    → (let x : Opened = record o { store = with_folder o.store f (λ e. record e { name = text }) } in x) ≡ after
unfolding with_name_at if_ok
name_told o after f at text e = (chosen (is_folder_text f text) (record o { store = with_folder o.store f (λ e. record e { name = text }) }) after at e).1

pub parts_told : (o after : Opened) (x at : ℕ) (text : List ℕ) → with_text_at o x at text ≡ Ok after → (is_file_text text ≡ true) × (with_parts o x text ≡ after)
unfolding with_text_at if_ok
parts_told o after x at text e = chosen (is_file_text text) (with_parts o x text) after at e

pub holder_told : (o after : Opened) (h at : ℕ) (text : List ℕ) → with_holder_key o h at text ≡ Ok after
    → (let x : Opened = record o { store = record o.store { holders = map (λ (e : HolderEntry). cond (e.number == h) (record e { key = text }) e) o.store.holders } } in x) ≡ after
unfolding with_holder_key
holder_told o after h at text e = same_ok Opened (record o { store = record o.store { holders = map (λ (e : HolderEntry). cond (e.number == h) (record e { key = text }) e) o.store.holders } }) after e

parts_keys : (o : Opened) (x : ℕ) (text : List ℕ) → (with_parts o x text).keys ≡ o.keys
unfolding with_parts
parts_keys o x [] = refl
parts_keys o x (n ∷ rest) = refl

-- no visit of a text is one of a key
is_key_visit : Visit → Bool
is_key_visit (ToKey e) = true
is_key_visit (ToName f) = false
is_key_visit (ToFile x) = false
is_key_visit (ToHolder h) = false

pub name_no_key : (f : ℕ) (e : Edge) → ToName f ≡ ToKey e → ⊥
unfolding is_key_visit
name_no_key f e q = false≢true (ap is_key_visit q)

pub file_no_key : (x : ℕ) (e : Edge) → ToFile x ≡ ToKey e → ⊥
unfolding is_key_visit
file_no_key x e q = false≢true (ap is_key_visit q)

pub holder_no_key : (h : ℕ) (e : Edge) → ToHolder h ≡ ToKey e → ⊥
unfolding is_key_visit
holder_no_key h e q = false≢true (ap is_key_visit q)

-- a visit that opens no key
pub text_keys : (r : Reading) (v : Visit) (o after : Opened) → visit r v o ≡ Ok after → ((e : Edge) → v ≡ ToKey e → ⊥) → o.keys ≡ after.keys
unfolding visit
text_keys r (ToKey e) o after done other = absurd (other e refl)
text_keys r (ToName f) o after done other =
    let told = text_told r o (data_of f) 1 f (with_name_at o f) after done in
    ap (λ (z : Opened). z.keys) (name_told o after f told.content.at told.text told.goes_on)
text_keys r (ToFile x) o after done other =
    let told = text_told r o (file_role x) 2 x (with_text_at o x) after done in
    sym (parts_keys o x told.text) ∙ ap (λ (z : Opened). z.keys) (parts_told o after x told.content.at told.text told.goes_on).1
text_keys r (ToHolder h) o after done other =
    let told = text_told r o Owner 3 h (with_holder_key o h) after done in
    ap (λ (z : Opened). z.keys) (holder_told o after h told.content.at told.text told.goes_on)

-- ---- all visits

pub visit_drawn : (keys : List KeyParts) (r : Reading) (v : Visit) (before after : Opened) → ((p : PlacedLink) → In p (log_links r.log) → IsLinkUnder keys p.link) → AreDrawn keys r.stand.keys before.keys
    → visit r v before ≡ Ok after → AreDrawn keys r.stand.keys after.keys
unfolding visit
visit_drawn keys r (ToKey e) before after right drawn done = edge_drawn keys r before after e right drawn done
visit_drawn keys r (ToName f) before after right drawn done = subst (AreDrawn keys r.stand.keys) (text_keys r (ToName f) before after done (λ e q. name_no_key f e q)) drawn
visit_drawn keys r (ToFile x) before after right drawn done = subst (AreDrawn keys r.stand.keys) (text_keys r (ToFile x) before after done (λ e q. file_no_key x e q)) drawn
visit_drawn keys r (ToHolder h) before after right drawn done = subst (AreDrawn keys r.stand.keys) (text_keys r (ToHolder h) before after done (λ e q. holder_no_key h e q)) drawn

pub visits_drawn : (keys : List KeyParts) (r : Reading) (vs : List Visit) (before after : Opened) → ((p : PlacedLink) → In p (log_links r.log) → IsLinkUnder keys p.link) → AreDrawn keys r.stand.keys before.keys
    → visit_all r vs before ≡ Ok after → AreDrawn keys r.stand.keys after.keys
unfolding visit_all
visits_drawn keys r [] before after right drawn done = subst (λ (o : Opened). AreDrawn keys r.stand.keys o.keys) (same_ok Opened before after done) drawn
visits_drawn keys r (v ∷ vs) before after right drawn done =
    let w = then_told Opened Opened (visit r v before) (visit_all r vs) after done in
    visits_drawn keys r vs w.0 after right (visit_drawn keys r v before w.0 right drawn w.1) w.2

-- ---- journals

-- whatever is visited, the keys that are open stay the journal's
pub journal_drawn : (owner : List ℕ) (m : Journal) → IsValid m → AreWhole owner m → (vs : List Visit) (before after : Opened) → AreDrawn (all_keys owner m) (keys_of m) before.keys
    → visit_all (reading_of owner m) vs before ≡ Ok after → AreDrawn (all_keys owner m) (keys_of m) after.keys
unfolding public_stand
journal_drawn owner m valid whole vs before after drawn done =
    visits_drawn (all_keys owner m) (reading_of owner m) vs before after (journal_walked owner m valid whole).each_link drawn done

none_drawn : (keys : List KeyParts) (k : KeyState) → AreDrawn keys k []
unfolding key_of
none_drawn keys k role bytes e = absurd cc

one_drawn : (keys : List KeyParts) (k : KeyState) (role : Role) (bytes : List ℕ) (n : ℕ) → newest k.keys role ≡ Some n → bytes ≡ bytes_in keys n → AreDrawn keys k ((role, bytes) ∷ [])
one_drawn keys k role bytes n newer same =
    subst (λ b. AreDrawn keys k ((role, b) ∷ [])) (sym same) (more_drawn keys k [] role n newer (none_drawn keys k))

owner_bytes : (owner : List ℕ) (m : Journal) → owner ≡ bytes_in (all_keys owner m) 0
unfolding all_keys owner_parts bytes_in bytes_of
owner_bytes owner m = refl

pub owner_drawn : (owner : List ℕ) (m : Journal) → IsValid m → AreWhole owner m → AreDrawn (all_keys owner m) (keys_of m) ((Owner, owner) ∷ [])
owner_drawn owner m valid whole = one_drawn (all_keys owner m) (keys_of m) Owner owner 0 (journal_walked owner m valid whole).owner_first (owner_bytes owner m)

pub holder_drawn : (owner : List ℕ) (m : Journal) → IsValid m → AreWhole owner m → (e : HolderEntry) → In e (store_of m).holders → AreDrawn (all_keys owner m) (keys_of m) ((holder_role e.number, e.key) ∷ [])
holder_drawn owner m valid whole e i =
    let w = journal_holder owner m valid whole e i in one_drawn (all_keys owner m) (keys_of m) (holder_role e.number) e.key w.0 w.1 w.2

pub owner_opens : (owner : List ℕ) (m : Journal) → IsValid m → AreWhole owner m → (vs : List Visit) (after : Opened)
    → visit_all (reading_of owner m) vs (owner_starts owner m) ≡ Ok after → AreDrawn (all_keys owner m) (keys_of m) after.keys
owner_opens owner m valid whole vs after done = journal_drawn owner m valid whole vs (owner_starts owner m) after (owner_drawn owner m valid whole) done
