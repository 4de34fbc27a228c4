-- The names, files and holders' keys that visits open are those of the journal's store.
use Rattle.std.proofs.Common.{◌≡◌, inl, inr, ℕ, Bool, true, false, cond, ◌==◌, ◌||◌, List, [], ◌∷◌, ◌++◌, length, take, drop, map, Option, Some, Result, Ok, append_assoc, append-nil, refl, sym, ap, subst, ◌∙◌}
use Rattle.std.specs.List.{list_any}
use Rattle.std.proofs.Math.Seq.{drop-append_seam, take-append_seam}
use Rattle.std.proofs.lemmas.Bool.{eq-eqb, eqb-true, false≢true, ne_eqb}
use Rattle.chacha_seal.specs.Keys.{KeyParts}
use Rattle.commit_journal.specs.Answering.{Fault}
use Rattle.cry_base.specs.Sets.{In}
use Rattle.cry_base.specs.Stepping.{with_file, with_folder}
use Rattle.cry_base.specs.Store.{Store, FolderEntry, FileEntry, HolderEntry}
use Rattle.cry_base.specs.declared.roles.Edge.{Edge}
use Rattle.cry_base.specs.declared.roles.Role.{Role}
use Rattle.cry_base.specs.declared.roles.Role.TheVariants.{Owner}
use Rattle.log_visits.specs.Placing.{PlacedContent, PlacedLink, content_for, log_contents, log_links}
use Rattle.log_visits.specs.Verdict.{open_content}
use Rattle.log_visits.specs.Visiting.{Opened, Reading, is_file_text, visit, visit_all, with_holder_key, with_name_at, with_parts, with_text_at}
use Rattle.log_visits.specs.Visits.{Visit}
use Rattle.log_visits.specs.Visits.Visit.{ToKey, ToName, ToFile, ToHolder}
use Rattle.log_visits.proofs.Opened.{opens_content}
use Rattle.key_links.specs.Sealed.{sealed_content}
use Rattle.move_plan.specs.Fitting.{public_of}
use Rattle.role_graph.specs.Roles.{data_of, file_role}
use Rattle.public_fold.specs.KeyStep.{newest}
use Rattle.journal_bytes.specs.Keys.{bytes_in}
use Rattle.journal_bytes.specs.Opening.{AreDrawn, AreLast, IsLast, is_to_file, is_to_holder, is_to_name, key_with, seen_by}
use Rattle.journal_bytes.specs.Texting.{file_text}
use Rattle.journal_bytes.proofs.OpenedKeys.{IsTextRead, holder_told, key_told, name_told, parts_told, same_ok, text_told, then_told, visit_drawn}
use Rattle.journal_bytes.proofs.Walked.{IsLinkUnder}

-- ---- lists

changed_in : (X : Type 0) (h g k : X → X) (xs : List X) → ((x : X) → In x xs → g (h x) ≡ k x) → map g (map h xs) ≡ map k xs
changed_in X h g k [] same = refl
changed_in X h g k (x ∷ xs) same = λ i. same x (inl refl) i ∷ changed_in X h g k xs (λ y j. same y (inr j)) i

same_in : (X : Type 0) (f g : X → X) (xs : List X) → ((x : X) → f x ≡ g x) → map f xs ≡ map g xs
same_in X f g [] same = refl
same_in X f g (x ∷ xs) same = λ i. same x i ∷ same_in X f g xs same i

kept_in : (X : Type 0) (f : X → X) (xs : List X) → ((x : X) → In x xs → f x ≡ x) → map f xs ≡ xs
kept_in X f [] same = refl
kept_in X f (x ∷ xs) same = λ i. same x (inl refl) i ∷ kept_in X f xs (λ y j. same y (inr j)) i

any_skip : (X : Type 0) (p : X → Bool) (xs : List X) (v : X) → p v ≡ false → list_any p (xs ++ v ∷ []) ≡ list_any p xs
any_skip X p [] v t = ap (λ b. b || false) t
any_skip X p (x ∷ xs) v t = ap (λ b. p x || b) (any_skip X p xs v t)

or_last : (a b c : Bool) → (a || (b || c)) ≡ ((a || b) || c)
or_last true b c = refl
or_last false b c = refl

or_none : (a : Bool) → (a || false) ≡ a
or_none true = refl
or_none false = refl

any_last : (X : Type 0) (p : X → Bool) (xs : List X) (v : X) → list_any p (xs ++ v ∷ []) ≡ (list_any p xs || p v)
any_last X p [] v = or_none (p v)
any_last X p (x ∷ xs) v = ap (λ b. p x || b) (any_last X p xs v) ∙ or_last (p x) (list_any p xs) (p v)

-- ---- what is seen with one visit more

abbrev bare_folder : FolderEntry → FolderEntry
bare_folder e = record e { name = [] }

abbrev bare_file : FileEntry → FileEntry
bare_file e = record e { name = []; bytes = [] }

abbrev bare_holder : HolderEntry → HolderEntry
bare_holder e = record e { key = [] }

abbrev folders_by : List Visit → Store → List FolderEntry
folders_by vs s = map (λ (e : FolderEntry). cond (list_any (is_to_name e.id) vs) e (bare_folder e)) s.folders

abbrev files_by : List Visit → Store → List FileEntry
files_by vs s = map (λ (e : FileEntry). cond (list_any (is_to_file e.id) vs) e (bare_file e)) s.files

abbrev holders_by : List Visit → Store → List HolderEntry
holders_by vs s = map (λ (e : HolderEntry). cond (list_any (is_to_holder e.number) vs) e (bare_holder e)) s.holders

folders_skip : (vs : List Visit) (v : Visit) (s : Store) → ((f : ℕ) → is_to_name f v ≡ false) → folders_by vs s ≡ folders_by (vs ++ v ∷ []) s
folders_skip vs v s out =
    same_in FolderEntry (λ e. cond (list_any (is_to_name e.id) vs) e (bare_folder e)) (λ e. cond (list_any (is_to_name e.id) (vs ++ v ∷ [])) e (bare_folder e)) s.folders
    (λ e. ap (λ b. cond b e (bare_folder e)) (sym (any_skip Visit (is_to_name e.id) vs v (out e.id))))

files_skip : (vs : List Visit) (v : Visit) (s : Store) → ((x : ℕ) → is_to_file x v ≡ false) → files_by vs s ≡ files_by (vs ++ v ∷ []) s
files_skip vs v s out =
    same_in FileEntry (λ e. cond (list_any (is_to_file e.id) vs) e (bare_file e)) (λ e. cond (list_any (is_to_file e.id) (vs ++ v ∷ [])) e (bare_file e)) s.files
    (λ e. ap (λ b. cond b e (bare_file e)) (sym (any_skip Visit (is_to_file e.id) vs v (out e.id))))

holders_skip : (vs : List Visit) (v : Visit) (s : Store) → ((h : ℕ) → is_to_holder h v ≡ false) → holders_by vs s ≡ holders_by (vs ++ v ∷ []) s
holders_skip vs v s out =
    same_in HolderEntry (λ e. cond (list_any (is_to_holder e.number) vs) e (bare_holder e)) (λ e. cond (list_any (is_to_holder e.number) (vs ++ v ∷ [])) e (bare_holder e)) s.holders
    (λ e. ap (λ b. cond b e (bare_holder e)) (sym (any_skip Visit (is_to_holder e.number) vs v (out e.number))))

-- an entry that gets its own text is seen
folder_seen : (e : FolderEntry) (f : ℕ) (text : List ℕ) (b : Bool) → (e.id ≡ f → text ≡ e.name)
    → cond ((cond b e (bare_folder e)).id == f) (record (cond b e (bare_folder e)) { name = text }) (cond b e (bare_folder e)) ≡ cond (b || (f == e.id)) e (bare_folder e)
folder_seen e f text true own =
    (elim (e.id == f) as (λ t. e.id == f ≡ t → cond t (record e { name = text }) e ≡ e) [
      | true ↦ λ t. (λ i. record e { name = own (eqb-true e.id f t) i })
      | false ↦ λ t. refl
    ]) refl
folder_seen e f text false own =
    (elim (e.id == f) as (λ t. e.id == f ≡ t → cond t (record e { name = text }) (bare_folder e) ≡ cond (f == e.id) e (bare_folder e)) [
      | true ↦ λ t. let same = eqb-true e.id f t in (λ i. record e { name = own same i }) ∙ ap (λ c. cond c e (bare_folder e)) (sym (eq-eqb f e.id (sym same)))
      | false ↦ λ t. ap (λ c. cond c e (bare_folder e)) (sym (ne_eqb f e.id (λ q. false≢true (sym t ∙ eq-eqb e.id f (sym q)))))
    ]) refl

file_seen : (e : FileEntry) (x : ℕ) (name bytes : List ℕ) (b : Bool) → (e.id ≡ x → (name ≡ e.name) × (bytes ≡ e.bytes))
    → cond ((cond b e (bare_file e)).id == x) (record (cond b e (bare_file e)) { name = name; bytes = bytes }) (cond b e (bare_file e)) ≡ cond (b || (x == e.id)) e (bare_file e)
file_seen e x name bytes true own =
    (elim (e.id == x) as (λ t. e.id == x ≡ t → cond t (record e { name = name; bytes = bytes }) e ≡ e) [
      | true ↦ λ t. (λ i. record e { name = (own (eqb-true e.id x t)).0 i; bytes = (own (eqb-true e.id x t)).1 i })
      | false ↦ λ t. refl
    ]) refl
file_seen e x name bytes false own =
    (elim (e.id == x) as (λ t. e.id == x ≡ t → cond t (record e { name = name; bytes = bytes }) (bare_file e) ≡ cond (x == e.id) e (bare_file e)) [
      | true ↦ λ t. let same = eqb-true e.id x t in (λ i. record e { name = (own same).0 i; bytes = (own same).1 i }) ∙ ap (λ c. cond c e (bare_file e)) (sym (eq-eqb x e.id (sym same)))
      | false ↦ λ t. ap (λ c. cond c e (bare_file e)) (sym (ne_eqb x e.id (λ q. false≢true (sym t ∙ eq-eqb e.id x (sym q)))))
    ]) refl

holder_seen : (e : HolderEntry) (h : ℕ) (text : List ℕ) (b : Bool) → (e.number ≡ h → text ≡ e.key)
    → cond ((cond b e (bare_holder e)).number == h) (record (cond b e (bare_holder e)) { key = text }) (cond b e (bare_holder e)) ≡ cond (b || (h == e.number)) e (bare_holder e)
holder_seen e h text true own =
    (elim (e.number == h) as (λ t. e.number == h ≡ t → cond t (record e { key = text }) e ≡ e) [
      | true ↦ λ t. (λ i. record e { key = own (eqb-true e.number h t) i })
      | false ↦ λ t. refl
    ]) refl
holder_seen e h text false own =
    (elim (e.number == h) as (λ t. e.number == h ≡ t → cond t (record e { key = text }) (bare_holder e) ≡ cond (h == e.number) e (bare_holder e)) [
      | true ↦ λ t. let same = eqb-true e.number h t in (λ i. record e { key = own same i }) ∙ ap (λ c. cond c e (bare_holder e)) (sym (eq-eqb h e.number (sym same)))
      | false ↦ λ t. ap (λ c. cond c e (bare_holder e)) (sym (ne_eqb h e.number (λ q. false≢true (sym t ∙ eq-eqb e.number h (sym q)))))
    ]) refl

name_more : (vs : List Visit) (s : Store) (f : ℕ) (text : List ℕ) → ((e : FolderEntry) → In e s.folders → e.id ≡ f → text ≡ e.name)
    → with_folder (seen_by vs s) f (λ e. record e { name = text }) ≡ seen_by (vs ++ ToName f ∷ []) s
unfolding with_folder seen_by is_to_name is_to_file is_to_holder
name_more vs s f text own =
    let folders = changed_in FolderEntry (λ e. cond (list_any (is_to_name e.id) vs) e (bare_folder e)) (λ e. cond (e.id == f) (record e { name = text }) e) (λ e. cond (list_any (is_to_name e.id) (vs ++ ToName f ∷ [])) e (bare_folder e)) s.folders
    (λ e i. folder_seen e f text (list_any (is_to_name e.id) vs) (own e i) ∙ ap (λ b. cond b e (bare_folder e)) (sym (any_last Visit (is_to_name e.id) vs (ToName f)))) in
    let files = files_skip vs (ToName f) s (λ x. refl) in
    let holders = holders_skip vs (ToName f) s (λ h. refl) in
    λ i. record (public_of s) { folders = folders i; files = files i; holders = holders i }

file_more : (vs : List Visit) (s : Store) (x : ℕ) (name bytes : List ℕ) → ((e : FileEntry) → In e s.files → e.id ≡ x → (name ≡ e.name) × (bytes ≡ e.bytes))
    → with_file (seen_by vs s) x (λ e. record e { name = name; bytes = bytes }) ≡ seen_by (vs ++ ToFile x ∷ []) s
unfolding with_file seen_by is_to_name is_to_file is_to_holder
file_more vs s x name bytes own =
    let folders = folders_skip vs (ToFile x) s (λ f. refl) in
    let files = changed_in FileEntry (λ e. cond (list_any (is_to_file e.id) vs) e (bare_file e)) (λ e. cond (e.id == x) (record e { name = name; bytes = bytes }) e) (λ e. cond (list_any (is_to_file e.id) (vs ++ ToFile x ∷ [])) e (bare_file e)) s.files
    (λ e i. file_seen e x name bytes (list_any (is_to_file e.id) vs) (own e i) ∙ ap (λ b. cond b e (bare_file e)) (sym (any_last Visit (is_to_file e.id) vs (ToFile x)))) in
    let holders = holders_skip vs (ToFile x) s (λ h. refl) in
    λ i. record (public_of s) { folders = folders i; files = files i; holders = holders i }

abbrev with_key_of : Store → ℕ → List ℕ → Store
with_key_of s h text = record s { holders = map (λ (e : HolderEntry). cond (e.number == h) (record e { key = text }) e) s.holders }

holder_more : (vs : List Visit) (s : Store) (h : ℕ) (text : List ℕ) → ((e : HolderEntry) → In e s.holders → e.number ≡ h → text ≡ e.key)
    → with_key_of (seen_by vs s) h text ≡ seen_by (vs ++ ToHolder h ∷ []) s
unfolding seen_by is_to_name is_to_file is_to_holder
holder_more vs s h text own =
    let folders = folders_skip vs (ToHolder h) s (λ f. refl) in
    let files = files_skip vs (ToHolder h) s (λ x. refl) in
    let holders = changed_in HolderEntry (λ e. cond (list_any (is_to_holder e.number) vs) e (bare_holder e)) (λ e. cond (e.number == h) (record e { key = text }) e) (λ e. cond (list_any (is_to_holder e.number) (vs ++ ToHolder h ∷ [])) e (bare_holder e)) s.holders
    (λ e i. holder_seen e h text (list_any (is_to_holder e.number) vs) (own e i) ∙ ap (λ b. cond b e (bare_holder e)) (sym (any_last Visit (is_to_holder e.number) vs (ToHolder h)))) in
    λ i. record (public_of s) { folders = folders i; files = files i; holders = holders i }

key_more : (vs : List Visit) (s : Store) (v : Visit) → ((f : ℕ) → is_to_name f v ≡ false) → ((x : ℕ) → is_to_file x v ≡ false) → ((h : ℕ) → is_to_holder h v ≡ false) → seen_by vs s ≡ seen_by (vs ++ v ∷ []) s
unfolding seen_by
key_more vs s v f x h =
    let folders = folders_skip vs v s f in
    let files = files_skip vs v s x in
    let holders = holders_skip vs v s h in
    λ i. record (public_of s) { folders = folders i; files = files i; holders = holders i }

-- ---- the text that is opened

pub same_some : (X : Type 0) (x y : X) (o : Option X) → o ≡ Some x → o ≡ Some y → x ≡ y
same_some X x y o a b = let e : Some x ≡ Some y = sym a ∙ b in cc

content_is : (r : Reading) (kind object : ℕ) (c : PlacedContent) (keys : List KeyParts) (role : Role) (text : List ℕ) → (last : IsLast keys r.stand.keys (log_contents r.log) role kind object text) → content_for r.log kind object ≡ Some c → c ≡ last.placed
unfolding content_for
content_is r kind object c keys role text last found = same_some PlacedContent c last.placed _ found last.is_last

text_is : (keys : List KeyParts) (r : Reading) (o : Opened) (role : Role) (kind object : ℕ) (text : List ℕ) (go_on : ℕ → List ℕ → Result Opened Fault) (after : Opened) → AreDrawn keys r.stand.keys o.keys
    → IsLast keys r.stand.keys (log_contents r.log) role kind object text → (told : IsTextRead r o role kind object go_on after) → told.text ≡ text
text_is keys r o role kind object text go_on after drawn last told =
    let c = told.content in
    let own = drawn role told.key told.has_key in
    let sealed : c.content ≡ sealed_content kind (key_with keys role last.serial) object last.nonce text = ap (λ (z : PlacedContent). z.content) (content_is r kind object c keys role text last told.has_content) ∙ last.is_sealed in
    let serial : own.0 ≡ last.serial = same_some ℕ own.0 last.serial (newest r.stand.keys.keys role) own.1 last.is_present in
    let key : told.key ≡ bytes_in keys last.serial = own.2 ∙ ap (bytes_in keys) serial in
    same_ok (List ℕ) told.text text
    (sym told.opens
    ∙ ap (λ z. open_content c.batch c.at told.key z) sealed
    ∙ ap (λ k. open_content c.batch c.at k (sealed_content kind (key_with keys role last.serial) object last.nonce text)) key
    ∙ opens_content c.batch c.at kind (key_with keys role last.serial) object last.nonce text)

-- ---- one visit

parts_of : (text name bytes : List ℕ) (n : ℕ) (rest : List ℕ) → text ≡ n ∷ rest → text ≡ file_text name bytes → (take n rest ≡ name) × (drop n rest ≡ bytes)
parts_of text name bytes n rest is own =
    let both : n ∷ rest ≡ length name ∷ (name ++ bytes) = sym is ∙ own in
    let first : n ≡ length name = cc in
    let others : rest ≡ name ++ bytes = cc in
    ((λ i. take (first i) (others i)) ∙ take-append_seam name bytes, (λ i. drop (first i) (others i)) ∙ drop-append_seam name bytes)

parts_more : (vs : List Visit) (s : Store) (o : Opened) (x : ℕ) (text : List ℕ) → is_file_text text ≡ true → o.store ≡ seen_by vs s → ((e : FileEntry) → In e s.files → e.id ≡ x → text ≡ file_text e.name e.bytes)
    → (with_parts o x text).store ≡ seen_by (vs ++ ToFile x ∷ []) s
unfolding with_parts is_file_text
parts_more vs s o x [] t seen own = absurd (false≢true t)
parts_more vs s o x (n ∷ rest) t seen own =
    ap (λ z. with_file z x (λ e. record e { name = take n rest; bytes = drop n rest })) seen
    ∙ file_more vs s x (take n rest) (drop n rest) (λ e i q. parts_of (n ∷ rest) e.name e.bytes n rest refl (own e i q))

edge_more : (vs : List Visit) (s : Store) (e : Edge) → seen_by vs s ≡ seen_by (vs ++ ToKey e ∷ []) s
unfolding is_to_name is_to_file is_to_holder
edge_more vs s e = key_more vs s (ToKey e) (λ f. refl) (λ x. refl) (λ h. refl)

seen_step : (keys : List KeyParts) (s : Store) (r : Reading) (vs : List Visit) (v : Visit) (o after : Opened) → AreLast keys s r.stand.keys (log_contents r.log) → AreDrawn keys r.stand.keys o.keys
    → o.store ≡ seen_by vs s → visit r v o ≡ Ok after → after.store ≡ seen_by (vs ++ v ∷ []) s
unfolding visit
seen_step keys s r vs (ToKey e) o after last drawn seen done =
    ap (λ (z : Opened). z.store) (sym (key_told r o after e done).1) ∙ seen ∙ edge_more vs s e
seen_step keys s r vs (ToName f) o after last drawn seen done =
    let told = text_told r o (data_of f) 1 f (with_name_at o f) after done in
    ap (λ (z : Opened). z.store) (sym (name_told o after f told.content.at told.text told.goes_on))
    ∙ ap (λ z. with_folder z f (λ e. record e { name = told.text })) seen
    ∙ name_more vs s f told.text (λ e i q.
    text_is keys r o (data_of f) 1 f e.name (with_name_at o f) after drawn (subst (λ n. IsLast keys r.stand.keys (log_contents r.log) (data_of n) 1 n e.name) q (last.folders e i)) told)
seen_step keys s r vs (ToFile x) o after last drawn seen done =
    let told = text_told r o (file_role x) 2 x (with_text_at o x) after done in
    let parts = parts_told o after x told.content.at told.text told.goes_on in
    ap (λ (z : Opened). z.store) (sym parts.1)
    ∙ parts_more vs s o x told.text parts.0 seen (λ e i q.
    text_is keys r o (file_role x) 2 x (file_text e.name e.bytes) (with_text_at o x) after drawn (subst (λ n. IsLast keys r.stand.keys (log_contents r.log) (file_role n) 2 n (file_text e.name e.bytes)) q (last.files e i)) told)
seen_step keys s r vs (ToHolder h) o after last drawn seen done =
    let told = text_told r o Owner 3 h (with_holder_key o h) after done in
    ap (λ (z : Opened). z.store) (sym (holder_told o after h told.content.at told.text told.goes_on))
    ∙ ap (λ z. with_key_of z h told.text) seen
    ∙ holder_more vs s h told.text (λ e i q.
    text_is keys r o Owner 3 h e.key (with_holder_key o h) after drawn (subst (λ n. IsLast keys r.stand.keys (log_contents r.log) Owner 3 n e.key) q (last.holders e i)) told)

-- ---- all visits

pub visits_seen : (keys : List KeyParts) (s : Store) (r : Reading) (vs done : List Visit) (o after : Opened) → ((p : PlacedLink) → In p (log_links r.log) → IsLinkUnder keys p.link) → AreLast keys s r.stand.keys (log_contents r.log)
    → AreDrawn keys r.stand.keys o.keys → o.store ≡ seen_by done s → visit_all r vs o ≡ Ok after → after.store ≡ seen_by (done ++ vs) s
unfolding visit_all
visits_seen keys s r [] done o after right last drawn seen all =
    ap (λ (z : Opened). z.store) (sym (same_ok Opened o after all)) ∙ seen ∙ ap (λ vs. seen_by vs s) (sym (append-nil done))
visits_seen keys s r (v ∷ vs) done o after right last drawn seen all =
    let w = then_told Opened Opened (visit r v o) (visit_all r vs) after all in
    visits_seen keys s r vs (done ++ v ∷ []) w.0 after right last (visit_drawn keys r v o w.0 right drawn w.1) (seen_step keys s r done v o w.0 last drawn seen w.1) w.2
    ∙ ap (λ z. seen_by z s) (append_assoc done (v ∷ []) vs)

-- nothing is visited yet
pub unseen : (s : Store) → public_of s ≡ seen_by [] s
unfolding public_of seen_by
unseen s = refl

-- all is visited
pub all_seen : (vs : List Visit) (s : Store) → ((e : FolderEntry) → In e s.folders → list_any (is_to_name e.id) vs ≡ true) → ((e : FileEntry) → In e s.files → list_any (is_to_file e.id) vs ≡ true)
    → ((e : HolderEntry) → In e s.holders → list_any (is_to_holder e.number) vs ≡ true) → seen_by vs s ≡ s
unfolding seen_by public_of
all_seen vs s folders files holders =
    let f = kept_in FolderEntry (λ e. cond (list_any (is_to_name e.id) vs) e (bare_folder e)) s.folders (λ e i. ap (λ b. cond b e (bare_folder e)) (folders e i)) in
    let x = kept_in FileEntry (λ e. cond (list_any (is_to_file e.id) vs) e (bare_file e)) s.files (λ e i. ap (λ b. cond b e (bare_file e)) (files e i)) in
    let h = kept_in HolderEntry (λ e. cond (list_any (is_to_holder e.number) vs) e (bare_holder e)) s.holders (λ e i. ap (λ b. cond b e (bare_holder e)) (holders e i)) in
    λ i. record s { folders = f i; files = x i; holders = h i }
