-- What visits of any bytes open with a key of the journal: its keys, and names and files that it wrote, or a forged record stands in
-- the bytes.
use Rattle.std.proofs.Common.{◌≡◌, ⊎_elim, inl, inr, ℕ, Bool, true, false, cond, ◌==◌, List, [], ◌∷◌, ◌++◌, length, take, drop, map, Option, Some, None, Result, Ok, refl, sym, ap, subst, ◌∙◌}
use Rattle.std.specs.Prelude.{◌⊎◌, ◌&&◌, if◌then◌else◌}
use Rattle.std.specs.Str.{bytes_eq}
use Rattle.std.proofs.Math.Seq.{drop-append_seam, take-append_seam}
use Rattle.std.proofs.lemmas.Bool.{and_parts, eq-eqb, eqb-true, false≢true}
use Rattle.std.proofs.lemmas.Slice.Eq.{bytes_eq-Decides}
use Rattle.chacha_seal.specs.Sealing.{seal_tag, sealed}
use Rattle.commit_journal.specs.Answering.{Fault, Tampered, and_then}
use Rattle.commit_journal.proofs.Followed.{guard_ok}
use Rattle.cry_base.specs.Sets.{In}
use Rattle.cry_base.specs.Stepping.{with_file, with_folder}
use Rattle.cry_base.specs.Store.{Store, FolderEntry, FileEntry, HolderEntry}
use Rattle.cry_base.specs.declared.roles.Edge.{Edge}
use Rattle.cry_base.specs.declared.roles.Role.{Role}
use Rattle.cry_base.specs.declared.roles.Role.TheVariants.{Owner}
use Rattle.cry_base.proofs.Members.{In-map}
use Rattle.log_visits.specs.Placing.{PlacedContent, PlacedLink, content_for, is_for_edge, last_one, link_for, log_contents, log_links}
use Rattle.log_visits.specs.Verdict.{open_content, open_link}
use Rattle.log_visits.specs.Visiting.{Opened, Reading, is_file_text, key_of, needed, visit, visit_all, visit_edge, with_holder_key, with_key, with_name_at, with_parts, with_text_at}
use Rattle.log_visits.specs.Visits.{Visit}
use Rattle.log_visits.specs.Visits.Visit.{ToKey, ToName, ToFile, ToHolder}
use Rattle.log_visits.proofs.Following.{last_passes}
use Rattle.journal_bytes.proofs.OpenedKeys.{IsTextRead, holder_told, key_told, name_told, needed_told, parts_told, same_ok, text_told, then_told}
use Rattle.move_plan.specs.Fitting.{public_of}
use Rattle.public_fold.specs.Journal.{Journal}
use Rattle.public_fold.specs.Records.{Piece, text_of}
use Rattle.public_fold.specs.Valid.{IsValid}
use Rattle.record_format.specs.Plain.{PlainContent}
use Rattle.record_format.specs.Spelling.{content_head, link_head}
use Rattle.record_format.specs.declared.link.LinkRecord.{LinkRecord}
use Rattle.role_graph.specs.Roles.{data_of, file_role, same_role}
use Rattle.journal_bytes.specs.Keys.{AreWhole}
use Rattle.forgery_laws.specs.Written.{HasForged, WasFiled, WasNamed}
use Rattle.forgery_laws.proofs.Authentic.{AreRecords, IsKeyOf, IsTextOf, content_opens, link_leads}

-- ---- what was opened had a right tag

link_opened : (batch at : ℕ) (key : List ℕ) (l : LinkRecord) (text : List ℕ) → open_link batch at key l ≡ Ok text → (l.tag ≡ seal_tag key (link_head l) l.cipher) × (sealed key l.nonce l.cipher ≡ text)
unfolding open_link
link_opened batch at key l text e =
    let due = seal_tag key (link_head l) l.cipher in
    let w = guard_ok (bytes_eq l.tag due) (sealed key l.nonce l.cipher) text (Tampered batch at) e in
    ((bytes_eq-Decides l.tag due).0 w.0, w.1)

content_opened : (batch at : ℕ) (key : List ℕ) (c : PlainContent) (text : List ℕ) → open_content batch at key c ≡ Ok text → (c.tag ≡ seal_tag key (content_head c) c.cipher) × (sealed key c.nonce c.cipher ≡ text)
unfolding open_content
content_opened batch at key c text e =
    let due = seal_tag key (content_head c) c.cipher in
    let w = guard_ok (bytes_eq c.tag due) (sealed key c.nonce c.cipher) text (Tampered batch at) e in
    ((bytes_eq-Decides c.tag due).0 w.0, w.1)

-- what is found stands in the list
last_in : (X : Type 0) (test : X → Bool) (xs : List X) (y : X) → last_one test xs ≡ Some y → In y xs
unfolding last_one
last_in X test [] y e = absurd cc
last_in X test (x ∷ xs) y e =
    (elim (last_one test xs) as (λ o. last_one test xs ≡ o → elim o as (λ z. Option X) [ Some z ↦ Some z | None ↦ if test x then Some x else None ] ≡ Some y → In y (x ∷ xs)) [
      | Some z ↦ λ q f. inr (last_in X test xs y (q ∙ f))
      | None ↦ λ q f. inl (first_in (test x) f)
    ]) refl e
  where
    first_in : (b : Bool) → (if b then Some x else None) ≡ Some y → y ≡ x
    first_in true f = cc
    first_in false f = absurd cc

-- ---- texts

pub folder_text : (p : Piece) → p.kind ≡ 1 → text_of p ≡ p.name
unfolding text_of
folder_text p is = rw is refl

pub file_text : (p : Piece) → p.kind ≡ 2 → text_of p ≡ length p.name ∷ (p.name ++ p.bytes)
unfolding text_of
file_text p is = rw is refl

named_by : (m : Journal) (f : ℕ) (text : List ℕ) → IsTextOf m 1 f text → WasNamed m f text
named_by m f text is = record {
  content = is.content;
  published = is.published;
  kind = sym is.kind_is;
  object = sym is.object_is;
  named = sym (folder_text is.content.piece (sym is.kind_is)) ∙ sym is.text_is;
}

filed_by : (m : Journal) (x n : ℕ) (rest : List ℕ) → IsTextOf m 2 x (n ∷ rest) → WasFiled m x (take n rest) (drop n rest)
filed_by m x n rest is =
    let p = is.content.piece in
    let both : n ∷ rest ≡ length p.name ∷ (p.name ++ p.bytes) = is.text_is ∙ file_text p (sym is.kind_is) in
    let first : n ≡ length p.name = cc in
    let others : rest ≡ p.name ++ p.bytes = cc in
    record {
      content = is.content;
      published = is.published;
      kind = sym is.kind_is;
      object = sym is.object_is;
      named = sym ((λ i. take (first i) (others i)) ∙ take-append_seam p.name p.bytes);
      filled = sym ((λ i. drop (first i) (others i)) ∙ drop-append_seam p.name p.bytes);
    }

-- ---- what everyone may see stays as it was

map_after : (X Y : Type 0) (f : X → Y) (g : X → X) (xs : List X) → ((x : X) → f (g x) ≡ f x) → map f (map g xs) ≡ map f xs
map_after X Y f g [] same = refl
map_after X Y f g (x ∷ xs) same = λ i. same x i ∷ map_after X Y f g xs same i

cond_same : (X Y : Type 0) (f : X → Y) (b : Bool) (x y : X) → f x ≡ f y → f (cond b x y) ≡ f y
cond_same X Y f true x y same = same
cond_same X Y f false x y same = refl

folder_public : (s : Store) (f : ℕ) (text : List ℕ) → public_of (with_folder s f (λ e. record e { name = text })) ≡ public_of s
unfolding public_of with_folder
folder_public s f text =
    let bare : FolderEntry → FolderEntry = λ e. record e { name = [] } in
    let same = map_after FolderEntry FolderEntry bare (λ e. cond (e.id == f) (record e { name = text }) e) s.folders (λ e. cond_same FolderEntry FolderEntry bare (e.id == f) (record e { name = text }) e refl) in
    λ i. record s {
      folders = same i;
      files = map (λ (e : FileEntry). record e { name = []; bytes = [] }) s.files;
      holders = map (λ (e : HolderEntry). record e { key = [] }) s.holders;
    }

file_public : (s : Store) (x : ℕ) (name bytes : List ℕ) → public_of (with_file s x (λ e. record e { name = name; bytes = bytes })) ≡ public_of s
unfolding public_of with_file
file_public s x name bytes =
    let bare : FileEntry → FileEntry = λ e. record e { name = []; bytes = [] } in
    let same = map_after FileEntry FileEntry bare (λ e. cond (e.id == x) (record e { name = name; bytes = bytes }) e) s.files (λ e. cond_same FileEntry FileEntry bare (e.id == x) (record e { name = name; bytes = bytes }) e refl) in
    λ i. record s {
      folders = map (λ (e : FolderEntry). record e { name = [] }) s.folders;
      files = same i;
      holders = map (λ (e : HolderEntry). record e { key = [] }) s.holders;
    }

holder_public : (s : Store) (h : ℕ) (text : List ℕ) → public_of (record s { holders = map (λ (e : HolderEntry). cond (e.number == h) (record e { key = text }) e) s.holders }) ≡ public_of s
unfolding public_of
holder_public s h text =
    let bare : HolderEntry → HolderEntry = λ e. record e { key = [] } in
    let same = map_after HolderEntry HolderEntry bare (λ e. cond (e.number == h) (record e { key = text }) e) s.holders (λ e. cond_same HolderEntry HolderEntry bare (e.number == h) (record e { key = text }) e refl) in
    λ i. record s {
      folders = map (λ (e : FolderEntry). record e { name = [] }) s.folders;
      files = map (λ (e : FileEntry). record e { name = []; bytes = [] }) s.files;
      holders = same i;
    }

-- ---- entries after a visit

is_name_of : Visit → ℕ → Bool
is_name_of (ToKey e) f = false
is_name_of (ToName g) f = g == f
is_name_of (ToFile x) f = false
is_name_of (ToHolder h) f = false

is_file_of : Visit → ℕ → Bool
is_file_of (ToKey e) x = false
is_file_of (ToName g) x = false
is_file_of (ToFile y) x = y == x
is_file_of (ToHolder h) x = false

same_name : (v : Visit) (f : ℕ) → ToName f ≡ v → is_name_of v f ≡ true
unfolding is_name_of
same_name v f e = subst (λ w. is_name_of w f ≡ true) e (eq-eqb f f refl)

same_file : (v : Visit) (x : ℕ) → ToFile x ≡ v → is_file_of v x ≡ true
unfolding is_file_of
same_file v x e = subst (λ w. is_file_of w x ≡ true) e (eq-eqb x x refl)

-- ---- visits that leave the folders

edge_stays : (r : Reading) (o after : Opened) (e : Edge) → visit_edge r o e ≡ Ok after → o.store ≡ after.store
edge_stays r o after e done = ap (λ (z : Opened). z.store) (key_told r o after e done).1

parts_stay : (o : Opened) (x : ℕ) (text : List ℕ) → (with_parts o x text).store.folders ≡ o.store.folders
unfolding with_parts with_file
parts_stay o x [] = refl
parts_stay o x (n ∷ rest) = refl

step_stays : (r : Reading) (v : Visit) (o after : Opened) → ((f : ℕ) → v ≡ ToName f → ⊥) → visit r v o ≡ Ok after → after.store.folders ≡ o.store.folders
unfolding visit
step_stays r (ToKey e) o after other done = ap (λ (z : Store). z.folders) (sym (edge_stays r o after e done))
step_stays r (ToName f) o after other done = absurd (other f refl)
step_stays r (ToFile x) o after other done =
    let told = text_told r o (file_role x) 2 x (with_text_at o x) after done in
    ap (λ (z : Opened). z.store.folders) (sym (parts_told o after x told.content.at told.text told.goes_on).1) ∙ parts_stay o x told.text
step_stays r (ToHolder h) o after other done =
    let told = text_told r o Owner 3 h (with_holder_key o h) after done in
    ap (λ (z : Opened). z.store.folders) (sym (holder_told o after h told.content.at told.text told.goes_on))

pub folders_stay : (r : Reading) (vs : List Visit) (o after : Opened) → ((v : Visit) → In v vs → (f : ℕ) → v ≡ ToName f → ⊥) → visit_all r vs o ≡ Ok after → after.store.folders ≡ o.store.folders
unfolding visit_all
folders_stay r [] o after other done = ap (λ (z : Opened). z.store.folders) (sym (same_ok Opened o after done))
folders_stay r (v ∷ vs) o after other done =
    let w = then_told Opened Opened (visit r v o) (visit_all r vs) after done in
    folders_stay r vs w.0 after (λ u i. other u (inr i)) w.2 ∙ step_stays r v o w.0 (other v (inl refl)) w.1

module _ (owner : List ℕ) (m : Journal) (valid : IsValid m) (whole : AreWhole owner m) (bytes : List ℕ) (r : Reading) (are : AreRecords bytes r.log) where
  -- each key that is open is one of the journal's
  abbrev pub AreKeys : List (Role × List ℕ) → Type 0
  AreKeys keys = (role : Role) (key : List ℕ) → key_of keys role ≡ Some key → IsKeyOf owner m key

  -- the names and files that were visited are ones that the journal wrote
  pub record IsSound (visited : Visit → Type 0) (o : Opened) : Type 0 where
    pub keys : AreKeys o.keys
    pub tree : public_of o.store ≡ public_of r.stand.store
    pub folders : (e : FolderEntry) → In e o.store.folders → visited (ToName e.id) → WasNamed m e.id e.name
    pub files : (e : FileEntry) → In e o.store.files → visited (ToFile e.id) → WasFiled m e.id e.name e.bytes

  one_key : (role : Role) (key : List ℕ) (keys : List (Role × List ℕ)) → IsKeyOf owner m key → AreKeys keys → AreKeys ((role, key) ∷ keys)
  unfolding key_of
  one_key role key keys own others other k =
      elim (same_role role other) as (λ b. (if b then Some key else key_of keys other) ≡ Some k → IsKeyOf owner m k) [
        | true ↦ λ e. let same : key ≡ k = cc in subst (IsKeyOf owner m) same own
        | false ↦ λ e. others other k e
      ]

  -- the one key that is open at first
  pub one_key_first : (key : Role × List ℕ) → IsKeyOf owner m key.1 → AreKeys (key ∷ [])
  unfolding key_of
  one_key_first key own = one_key key.0 key.1 [] own (λ role k e. absurd cc)

  -- what a visit adds
  abbrev With : (Visit → Type 0) → Visit → Visit → Type 0
  With visited v w = (w ≡ v) ⊎ visited w

  -- a visit that shows neither a name nor a file
  plain_step : (visited : Visit → Type 0) (v : Visit) (o after : Opened) → ((f : ℕ) → is_name_of v f ≡ false) → ((x : ℕ) → is_file_of v x ≡ false) → IsSound visited o
      → AreKeys after.keys → after.store.folders ≡ o.store.folders → after.store.files ≡ o.store.files → public_of after.store ≡ public_of o.store → IsSound (With visited v) after
  plain_step visited v o after no_name no_file sound keys folders files tree = record {
    keys = keys;
    tree = tree ∙ sound.tree;
    folders = λ e i w. sound.folders e (subst (λ l. In e l) folders i)
        (⊎_elim (λ s. absurd (false≢true (sym (no_name e.id) ∙ same_name v e.id s))) (λ u. u) w);
    files = λ e i w. sound.files e (subst (λ l. In e l) files i)
        (⊎_elim (λ s. absurd (false≢true (sym (no_file e.id) ∙ same_file v e.id s))) (λ u. u) w);
  }

  -- ---- a link

  key_step : (visited : Visit → Type 0) (o after : Opened) (e : Edge) → IsSound visited o → visit_edge r o e ≡ Ok after → IsSound (With visited (ToKey e)) after ⊎ HasForged owner m bytes
  unfolding visit_edge with_key link_for is_name_of is_file_of
  key_step visited o after e sound done =
      let a = needed_told (List ℕ) Opened (key_of o.keys e.from) (λ key. needed (link_for r.stand.keys r.log e) (λ l. and_then (open_link l.batch l.at key l.link) (with_key o e.to))) after done in
      let b = needed_told PlacedLink Opened (link_for r.stand.keys r.log e) (λ l. and_then (open_link l.batch l.at a.0 l.link) (with_key o e.to)) after a.2 in
      let p : PlacedLink = b.0 in
      let c = then_told (List ℕ) Opened (open_link p.batch p.at a.0 p.link) (with_key o e.to) after b.2 in
      let there = last_in PlacedLink (is_for_edge r.stand.keys e) (log_links r.log) p b.1 in
      let opens = link_opened p.batch p.at a.0 p.link c.0 c.1 in
      let is : (let x : Opened = record o { keys = (e.to, c.0) ∷ o.keys } in x) ≡ after = same_ok Opened (record o { keys = (e.to, c.0) ∷ o.keys }) after c.2 in
      ⊎_elim
      (λ own. inl (subst (IsSound (With visited (ToKey e))) is
      (plain_step visited (ToKey e) o (record o { keys = (e.to, c.0) ∷ o.keys }) (λ f. refl) (λ x. refl) sound
      (one_key e.to c.0 o.keys (subst (IsKeyOf owner m) opens.1 own) sound.keys) refl refl refl)))
      (λ forged. inr forged)
      (link_leads owner m valid whole bytes p.link (are.links p there) a.0 (sound.keys e.from a.0 a.1) opens.0)

  -- ---- a text

  -- the text that was read is one of the journal's
  text_read : (visited : Visit → Type 0) (o after : Opened) (role : Role) (kind object : ℕ) (go_on : ℕ → List ℕ → Result Opened Fault) → IsSound visited o → (told : IsTextRead r o role kind object go_on after)
      → IsTextOf m kind object told.text ⊎ HasForged owner m bytes
  unfolding content_for
  text_read visited o after role kind object go_on sound told =
      let c : PlacedContent = told.content in
      let test : PlacedContent → Bool = λ d. (d.content.kind == kind) && (d.content.object == object) in
      let there = last_in PlacedContent test (log_contents r.log) c told.has_content in
      let passes = and_parts (c.content.kind == kind) (c.content.object == object) (last_passes test (log_contents r.log) c told.has_content) in
      let opens = content_opened c.batch c.at told.key c.content told.text told.opens in
      ⊎_elim
      (λ is. inl (record {
        content = is.content;
        published = is.published;
        kind_is = sym (eqb-true c.content.kind kind passes.0) ∙ is.kind_is;
        object_is = sym (eqb-true c.content.object object passes.1) ∙ is.object_is;
        text_is = sym opens.1 ∙ is.text_is;
      }))
      (λ forged. inr forged)
      (content_opens owner m valid whole bytes c.content (are.contents c there) told.key (sound.keys role told.key told.has_key) opens.0)

  name_after : (visited : Visit → Type 0) (o : Opened) (f : ℕ) (text : List ℕ) → IsSound visited o → WasNamed m f text
      → IsSound (With visited (ToName f)) (record o { store = with_folder o.store f (λ e. record e { name = text }) })
  unfolding with_folder is_name_of is_file_of
  name_after visited o f text sound named = record {
    keys = sound.keys;
    tree = folder_public o.store f text ∙ sound.tree;
    folders = λ e i w.
        let u = (In-map FolderEntry FolderEntry (λ d. cond (d.id == f) (record d { name = text }) d) e o.store.folders).0 i in
        subst (λ (d : FolderEntry). WasNamed m d.id d.name) (sym u.2)
        (of_entry u.0 u.1 (u.0.id == f) refl (subst (λ (d : FolderEntry). With visited (ToName f) (ToName d.id)) u.2 w));
    files = λ e i w. sound.files e i (⊎_elim (λ s. absurd (false≢true (same_file (ToName f) e.id s))) (λ u. u) w);
  }
    where
      of_entry : (d : FolderEntry) → In d o.store.folders → (b : Bool) → d.id == f ≡ b
          → With visited (ToName f) (ToName (cond (d.id == f) (record d { name = text }) d).id)
          → WasNamed m (cond (d.id == f) (record d { name = text }) d).id (cond (d.id == f) (record d { name = text }) d).name
      of_entry d i true t w =
          subst (λ b. WasNamed m (cond b (record d { name = text }) d).id (cond b (record d { name = text }) d).name) (sym t)
          (subst (λ n. WasNamed m n text) (sym (eqb-true d.id f t)) named)
      of_entry d i false t w =
          subst (λ b. WasNamed m (cond b (record d { name = text }) d).id (cond b (record d { name = text }) d).name) (sym t)
          (sound.folders d i (⊎_elim
          (λ s. absurd (false≢true (sym t ∙ eq-eqb d.id f (sym (eqb-true f d.id (same_name (ToName f) d.id s))))))
          (λ u. u)
          (subst (λ b. With visited (ToName f) (ToName (cond b (record d { name = text }) d).id)) t w)))

  file_after : (visited : Visit → Type 0) (o : Opened) (x : ℕ) (name content : List ℕ) → IsSound visited o → WasFiled m x name content
      → IsSound (With visited (ToFile x)) (record o { store = with_file o.store x (λ e. record e { name = name; bytes = content }) })
  unfolding with_file is_name_of is_file_of
  file_after visited o x name content sound filed = record {
    keys = sound.keys;
    tree = file_public o.store x name content ∙ sound.tree;
    folders = λ e i w. sound.folders e i (⊎_elim (λ s. absurd (false≢true (same_name (ToFile x) e.id s))) (λ u. u) w);
    files = λ e i w.
        let u = (In-map FileEntry FileEntry (λ d. cond (d.id == x) (record d { name = name; bytes = content }) d) e o.store.files).0 i in
        subst (λ (d : FileEntry). WasFiled m d.id d.name d.bytes) (sym u.2)
        (of_entry u.0 u.1 (u.0.id == x) refl (subst (λ (d : FileEntry). With visited (ToFile x) (ToFile d.id)) u.2 w));
  }
    where
      of_entry : (d : FileEntry) → In d o.store.files → (b : Bool) → d.id == x ≡ b
          → With visited (ToFile x) (ToFile (cond (d.id == x) (record d { name = name; bytes = content }) d).id)
          → (let z = cond (d.id == x) (record d { name = name; bytes = content }) d in WasFiled m z.id z.name z.bytes)
      of_entry d i true t w =
          subst (λ b. let z = cond b (record d { name = name; bytes = content }) d in WasFiled m z.id z.name z.bytes) (sym t)
          (subst (λ n. WasFiled m n name content) (sym (eqb-true d.id x t)) filed)
      of_entry d i false t w =
          subst (λ b. let z = cond b (record d { name = name; bytes = content }) d in WasFiled m z.id z.name z.bytes) (sym t)
          (sound.files d i (⊎_elim
          (λ s. absurd (false≢true (sym t ∙ eq-eqb d.id x (sym (eqb-true x d.id (same_file (ToFile x) d.id s))))))
          (λ u. u)
          (subst (λ b. With visited (ToFile x) (ToFile (cond b (record d { name = name; bytes = content }) d).id)) t w)))

  parts_after : (visited : Visit → Type 0) (o : Opened) (x : ℕ) (text : List ℕ) → is_file_text text ≡ true → IsSound visited o → IsTextOf m 2 x text → IsSound (With visited (ToFile x)) (with_parts o x text)
  unfolding with_parts is_file_text
  parts_after visited o x [] form sound is = absurd (false≢true form)
  parts_after visited o x (n ∷ rest) form sound is = file_after visited o x (take n rest) (drop n rest) sound (filed_by m x n rest is)

  -- ---- one visit, and all

  step : (visited : Visit → Type 0) (v : Visit) (o after : Opened) → IsSound visited o → visit r v o ≡ Ok after → IsSound (With visited v) after ⊎ HasForged owner m bytes
  unfolding visit is_name_of is_file_of
  step visited (ToKey e) o after sound done = key_step visited o after e sound done
  step visited (ToName f) o after sound done =
      let told = text_told r o (data_of f) 1 f (with_name_at o f) after done in
      ⊎_elim
      (λ is. inl (subst (IsSound (With visited (ToName f))) (name_told o after f told.content.at told.text told.goes_on)
      (name_after visited o f told.text sound (named_by m f told.text is))))
      (λ forged. inr forged)
      (text_read visited o after (data_of f) 1 f (with_name_at o f) sound told)
  step visited (ToFile x) o after sound done =
      let told = text_told r o (file_role x) 2 x (with_text_at o x) after done in
      let parts = parts_told o after x told.content.at told.text told.goes_on in
      ⊎_elim
      (λ is. inl (subst (IsSound (With visited (ToFile x))) parts.1 (parts_after visited o x told.text parts.0 sound is)))
      (λ forged. inr forged)
      (text_read visited o after (file_role x) 2 x (with_text_at o x) sound told)
  step visited (ToHolder h) o after sound done =
      let told = text_told r o Owner 3 h (with_holder_key o h) after done in
      inl (subst (IsSound (With visited (ToHolder h))) (holder_told o after h told.content.at told.text told.goes_on)
      (plain_step visited (ToHolder h) o (record o { store = record o.store { holders = map (λ (e : HolderEntry). cond (e.number == h) (record e { key = told.text }) e) o.store.holders } })
      (λ f. refl) (λ x. refl) sound sound.keys refl refl (holder_public o.store h told.text)))

  wider : (few many : Visit → Type 0) (o : Opened) → ((v : Visit) → many v → few v) → IsSound few o → IsSound many o
  wider few many o each sound = record {
    keys = sound.keys;
    tree = sound.tree;
    folders = λ e i w. sound.folders e i (each (ToName e.id) w);
    files = λ e i w. sound.files e i (each (ToFile e.id) w);
  }

  pub visits_sound : (vs : List Visit) (visited : Visit → Type 0) (o after : Opened) → IsSound visited o → visit_all r vs o ≡ Ok after → IsSound (λ w. In w vs ⊎ visited w) after ⊎ HasForged owner m bytes
  unfolding visit_all
  visits_sound [] visited o after sound done =
      inl (subst (IsSound (λ w. In w [] ⊎ visited w)) (same_ok Opened o after done) (wider visited (λ w. In w [] ⊎ visited w) o (λ v. ⊎_elim (λ n. absurd n) (λ u. u)) sound))
  visits_sound (v ∷ vs) visited o after sound done =
      let w = then_told Opened Opened (visit r v o) (visit_all r vs) after done in
      ⊎_elim
      (λ first. ⊎_elim
      (λ all. inl (wider (λ z. In z vs ⊎ With visited v z) (λ z. In z (v ∷ vs) ⊎ visited z) after
      (λ z. ⊎_elim (λ i. ⊎_elim (λ e. inr (inl e)) (λ u. inl u) i) (λ u. inr (inr u))) all))
      (λ forged. inr forged)
      (visits_sound vs (With visited v) w.0 after first w.2))
      (λ forged. inr forged)
      (step visited v o w.0 sound w.1)
