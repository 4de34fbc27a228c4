-- What doesn't stand behind a log, and has no record in the next batch, doesn't stand behind that batch.
use Rattle.std.proofs.Common.{◌≡◌, ◌⊎◌, ℕ, ◌+◌, Bool, true, false, cond, ◌==◌, ◌&&◌, List, [], ◌∷◌, ◌++◌, map, None, Result, Ok, Err, inl, inr, ⊎_elim, refl, sym, ap, subst, ◌∙◌, arith}
use Rattle.std.specs.Prelude.{if◌then◌else◌, is_some}
use Rattle.std.proofs.lemmas.Bool.{and_from, and_parts, eq-eqb, eqb-true, false≢true}
use Rattle.commit_journal.specs.Answering.{Fault, Damaged, and_then}
use Rattle.commit_journal.specs.Placed.{PlainBody, Commands, NewEpoch, PlainPlaced}
use Rattle.commit_journal.specs.Places.{content_offset}
use Rattle.cry_base.specs.Sets.{In}
use Rattle.cry_base.specs.Store.{Store, FolderEntry, FileEntry, HolderEntry}
use Rattle.cry_base.specs.declared.roles.Edge.{Edge}
use Rattle.cry_base.specs.declared.roles.Role.{Role}
use Rattle.cry_base.specs.declared.roles.Role.TheVariants as roles
use Rattle.cry_base.proofs.Members.{In-append, In-map}
use Rattle.public_fold.specs.Fitted.{are_due, fits_step, has_content_head, has_heads, has_length, has_link_head, payload_fits, told_stand, told_step}
use Rattle.public_fold.specs.Journal.{Stand, nothing}
use Rattle.public_fold.specs.Keyed.{HasRole}
use Rattle.public_fold.specs.KeyStep.{next_epoch, present}
use Rattle.public_fold.specs.Records.{Content, Link}
use Rattle.public_fold.specs.StandFits.{note_fits}
use Rattle.public_fold.specs.Texts.{AreWritten, HasContent}
use Rattle.public_fold.specs.Turns.{StandHolds}
use Rattle.public_fold.proofs.TextsWritten.{note_written}
use Rattle.public_fold.proofs.TurnsHold.{first_fits, fit_told, payload_holds}
use Rattle.record_format.specs.Plain.{PlainContent, PlainPayload}
use Rattle.record_format.specs.Sizes.{content_size}
use Rattle.record_format.specs.Told.{told_note}
use Rattle.role_graph.specs.Edges.{IsEdge, edges}
use Rattle.role_graph.specs.RightsByReach.{HasFolder}
use Rattle.role_graph.proofs.Edging.{edges_told}
use Rattle.log_visits.specs.Folding.{folded, stand_behind}
use Rattle.log_visits.specs.Found.{HasObject, head_of_edge, is_of, is_sought}
use Rattle.log_visits.specs.Indexed.{IsGone, IsLeft}
use Rattle.log_visits.specs.Placing.{PlacedContent, PlacedLink, body_contents, body_links, contents_at, last_one}
use Rattle.log_visits.specs.declared.last_contents.ContentHead.{ContentHead}
use Rattle.log_visits.specs.declared.last_links.LinkHead.{LinkHead}
use Rattle.log_visits.proofs.FoldedHolds.{due_found, first_stand, for_edge, last_found, log_with, payload_records}
use Rattle.log_visits.proofs.NewestLinks.{sought_for}

-- ---- one batch more is folded

then_each : {A B C : Type 0} (x : Result A Fault) (f : A → Result C Fault) (g : A → Result B Fault) (h : B → Result C Fault) → ((a : A) → f a ≡ and_then (g a) h) → and_then x f ≡ and_then (and_then x g) h
unfolding and_then
then_each (Ok a) f g h same = same a
then_each (Err fault) f g h same = refl

pub folded_more : (at : Stand) (log : List PlainPlaced) (p : PlainPlaced) → folded at (log ++ p ∷ []) ≡ and_then (folded at log) (λ behind. folded behind (p ∷ []))
unfolding folded and_then
folded_more at [] p = refl
folded_more at (q ∷ log) p = then_each (stand_behind at q.place q.body) (λ b. folded b (log ++ p ∷ [])) (λ b. folded b log) (λ b. folded b (p ∷ [])) (λ b. folded_more b log p)

passed : {A B : Type 0} (x : Result A Fault) (f : A → Result B Fault) (y : B) → and_then x f ≡ Ok y → (a : A) × (x ≡ Ok a) × (f a ≡ Ok y)
unfolding and_then
passed (Ok a) f y e = (a, refl, e)
passed (Err fault) f y e = absurd cc

-- what stands behind a log and one batch more stands behind that batch, where it comes behind the log
fold_before : (log : List PlainPlaced) (p : PlainPlaced) (behind : Stand) → folded nothing (log ++ p ∷ []) ≡ Ok behind →
    (at : Stand) × (folded nothing log ≡ Ok at) × (stand_behind at p.place p.body ≡ Ok behind)
unfolding folded
fold_before log p behind folds =
    let w = passed (folded nothing log) (λ b. folded b (p ∷ [])) behind (sym (folded_more nothing log p) ∙ folds) in
    let v = passed (stand_behind w.0 p.place p.body) (λ b. folded b []) behind w.2 in
    let same : v.0 ≡ behind = cc in
    (w.0, w.1, v.1 ∙ ap Ok same)

-- a payload that fits comes where all holds that should
holds_before : (log : List PlainPlaced) (at : Stand) (q : PlainPayload) → folded nothing log ≡ Ok at → payload_fits at q ≡ true → (links : List Link) × StandHolds at links
holds_before [] at q folds t = absurd (first_fits q (subst (λ (z : Stand). payload_fits z q ≡ true) (sym (first_stand at folds)) t))
holds_before (p ∷ log) at q folds t = let w = log_with p log at folds in (w.0, w.1)

-- ---- links

-- a link for each edge that stands
links_now : Stand → List Link
links_now at = map (λ e. record { edge = e; from_serial = present at.keys.keys e.from; to_serial = present at.keys.keys e.to; nonce = 0 }) (edges at.store)

only_now : (at : Stand) (links : List Link) → StandHolds at links → StandHolds at (links_now at)
unfolding links_now
only_now at links ok = record {
  store = ok.store;
  keys = record {
    closed = ok.keys.closed;
    no_root = ok.keys.no_root;
    dirty_stands = ok.keys.dirty_stands;
    linked = λ e i.
        let link : Edge → Link = λ e. record { edge = e; from_serial = present at.keys.keys e.from; to_serial = present at.keys.keys e.to; nonce = 0 } in
        (link e, (In-map Edge Link link (link e) (edges at.store)).1 (e, i, refl), refl, refl, refl);
    keyed = ok.keys.keyed;
  };
  serials = ok.serials;
  count = ok.count;
}

now_stands : (at : Stand) (l : Link) → In l (links_now at) → In l.edge (edges at.store)
unfolding links_now
now_stands at l i =
    let w = (In-map Edge Link (λ e. record { edge = e; from_serial = present at.keys.keys e.from; to_serial = present at.keys.keys e.to; nonce = 0 }) l (edges at.store)).0 i in
    subst (λ (e : Edge). In e (edges at.store)) (sym (ap (λ (x : Link). x.edge) w.2)) w.1

-- a payload has a link of each edge that comes to stand
link_comes : (at : Stand) (q : PlainPayload) (links : List Link) (batch place : ℕ) (e : Edge) → payload_fits at q ≡ true → StandHolds at links → (IsEdge at.store e → ⊥) → IsEdge (told_stand at (told_note q.note)).store e →
    is_some (last_one (is_sought (head_of_edge e)) (body_links batch place (Commands q))) ≡ true
link_comes at q links batch place e t ok not_before stands =
    let note = told_note q.note in
    let new = told_stand at note in
    let after = payload_holds at q (links_now at) t (only_now at links ok) in
    let l = after.keys.linked e ((edges_told new.store e).1 stands) in
    ⊎_elim
    (λ i. absurd (not_before ((edges_told at.store e).0 (subst (λ (x : Edge). In x (edges at.store)) l.2 (now_stands at l.0 i)))))
    (λ i.
    let p = payload_records at q batch place t l.0 i in
    last_found PlacedLink (is_sought (head_of_edge e)) (body_links batch place (Commands q)) p.0 p.1 (sought_for new.keys e p.0 (for_edge new.keys e l.0 p.0 p.2 l.2 l.3 l.4)))
    ((In-append Link l.0 (links_now at) (told_step at note).links).0 l.1)

fits_or : (at behind : Stand) (q : PlainPayload) (place : ℕ) → stand_behind at place (Commands q) ≡ Ok behind → (payload_fits at q ≡ true) × (told_stand at (told_note q.note) ≡ behind)
unfolding stand_behind
fits_or at behind q place is =
    (elim (payload_fits at q) as (λ b. payload_fits at q ≡ b → (let x : Result Stand Fault = if b then Ok (told_stand at (told_note q.note)) else Err (Damaged place) in x) ≡ Ok behind → (payload_fits at q ≡ true) × (told_stand at (told_note q.note) ≡ behind)) [
      | true ↦ λ t e. let same : told_stand at (told_note q.note) ≡ behind = cc in (t, same)
      | false ↦ λ t e. absurd cc
    ]) refl is

same_store : (at behind : Stand) (place : ℕ) → stand_behind at place NewEpoch ≡ Ok behind → at.store ≡ behind.store
unfolding stand_behind
same_store at behind place is = let same : (let x : Stand = record at { keys = next_epoch at.keys } in x) ≡ behind = cc in ap (λ (z : Stand). z.store) same

pub still_left : (log : List PlainPlaced) (p : PlainPlaced) (head : LinkHead) → IsLeft log head → last_one (is_sought head) (body_links p.batch p.place p.body) ≡ None → IsLeft (log ++ p ∷ []) head
still_left log p head left none = λ behind e folds stands is.
    let w = fold_before log p behind folds in
    of_body p.body w.0 behind e w.1 w.2 stands is none
  where
    of_body : (body : PlainBody) (at behind : Stand) (e : Edge) → folded nothing log ≡ Ok at → stand_behind at p.place body ≡ Ok behind → IsEdge behind.store e → head_of_edge e ≡ head →
        last_one (is_sought head) (body_links p.batch p.place body) ≡ None → ⊥
    of_body NewEpoch at behind e folds is stands head_is none = left at e folds (subst (λ (s : Store). IsEdge s e) (sym (same_store at behind p.place is)) stands) head_is
    of_body (Commands q) at behind e folds is stands head_is none =
        let fit = fits_or at behind q p.place is in
        let holds = holds_before log at q folds fit.0 in
        let there = link_comes at q holds.0 p.batch p.place e fit.0 holds.1 (λ s. left at e folds s head_is) (subst (λ (z : Stand). IsEdge z.store e) (sym fit.1) stands) in
        false≢true (sym (ap is_some (subst (λ h. last_one (is_sought h) (body_links p.batch p.place (Commands q)) ≡ None) (sym head_is) none)) ∙ there)

-- ---- contents

content_of : ℕ → ℕ → Content
content_of kind object = record { piece = record { kind = kind; object = object; name = []; bytes = [] }; key_serial = 0; nonce = 0 }

-- a content for each folder, file and holder that stands
contents_now : Store → List Content
contents_now s = map (λ e. content_of 1 e.id) s.folders ++ (map (λ e. content_of 2 e.id) s.files ++ map (λ e. content_of 3 e.number) s.holders)

abbrev IsNow : Store → Content → Type 0
IsNow s c = ((e : FolderEntry) × In e s.folders × (c ≡ content_of 1 e.id)) ⊎ (((e : FileEntry) × In e s.files × (c ≡ content_of 2 e.id)) ⊎ ((e : HolderEntry) × In e s.holders × (c ≡ content_of 3 e.number)))

now_told : (s : Store) (c : Content) → In c (contents_now s) → IsNow s c
unfolding contents_now
now_told s c i =
    let folders = map (λ (e : FolderEntry). content_of 1 e.id) s.folders in
    let files = map (λ (e : FileEntry). content_of 2 e.id) s.files in
    let holders = map (λ (e : HolderEntry). content_of 3 e.number) s.holders in
    ⊎_elim
    (λ j. inl ((In-map FolderEntry Content (λ e. content_of 1 e.id) c s.folders).0 j))
    (λ j. ⊎_elim
    (λ k. inr (inl ((In-map FileEntry Content (λ e. content_of 2 e.id) c s.files).0 k)))
    (λ k. inr (inr ((In-map HolderEntry Content (λ e. content_of 3 e.number) c s.holders).0 k)))
    ((In-append Content c files holders).0 j))
    ((In-append Content c folders (files ++ holders)).0 i)

now_written : (s : Store) → AreWritten s (contents_now s)
unfolding contents_now content_of
now_written s =
    let folders = map (λ (e : FolderEntry). content_of 1 e.id) s.folders in
    let files = map (λ (e : FileEntry). content_of 2 e.id) s.files in
    let holders = map (λ (e : HolderEntry). content_of 3 e.number) s.holders in record {
      folders = λ e i. let c = content_of 1 e.id in (c, (In-append Content c folders (files ++ holders)).1 (inl ((In-map FolderEntry Content (λ d. content_of 1 d.id) c s.folders).1 (e, i, refl))), refl, refl);
      files = λ e i. let c = content_of 2 e.id in
          (c, (In-append Content c folders (files ++ holders)).1 (inr ((In-append Content c files holders).1 (inl ((In-map FileEntry Content (λ d. content_of 2 d.id) c s.files).1 (e, i, refl))))), refl, refl);
      holders = λ e i. let c = content_of 3 e.number in
          (c, (In-append Content c folders (files ++ holders)).1 (inr ((In-append Content c files holders).1 (inr ((In-map HolderEntry Content (λ d. content_of 3 d.number) c s.holders).1 (e, i, refl))))), refl, refl);
    }

folder_now : (s : Store) (c : Content) (f : ℕ) → IsNow s c → c.piece.kind ≡ 1 → c.piece.object ≡ f → HasFolder s f
unfolding content_of
folder_now s c f is kind object = ⊎_elim
    (λ w. (w.0, w.1, sym (ap (λ (x : Content). x.piece.object) w.2) ∙ object))
    (λ v. ⊎_elim
    (λ w. let bad : c.piece.kind ≡ 2 = ap (λ (x : Content). x.piece.kind) w.2 in absurd (omega (arith, bad, kind)))
    (λ w. let bad : c.piece.kind ≡ 3 = ap (λ (x : Content). x.piece.kind) w.2 in absurd (omega (arith, bad, kind))) v) is

file_now : (s : Store) (c : Content) (x : ℕ) → IsNow s c → c.piece.kind ≡ 2 → c.piece.object ≡ x → (e : FileEntry) × In e s.files × (e.id ≡ x)
unfolding content_of
file_now s c x is kind object = ⊎_elim
    (λ w. let bad : c.piece.kind ≡ 1 = ap (λ (y : Content). y.piece.kind) w.2 in absurd (omega (arith, bad, kind)))
    (λ v. ⊎_elim
    (λ w. (w.0, w.1, sym (ap (λ (y : Content). y.piece.object) w.2) ∙ object))
    (λ w. let bad : c.piece.kind ≡ 3 = ap (λ (y : Content). y.piece.kind) w.2 in absurd (omega (arith, bad, kind))) v) is

payload_note : (at : Stand) (q : PlainPayload) → payload_fits at q ≡ true → (note_fits at (told_note q.note) (told_step at (told_note q.note)) ≡ true)
    × (are_due has_content_head (told_step at (told_note q.note)).contents q.contents ≡ true)
unfolding payload_fits fits_step has_heads
payload_note at q t =
    let step = told_step at (told_note q.note) in
    let fit = and_parts (note_fits at (told_note q.note) step) (are_due has_link_head step.links q.links && are_due has_content_head step.contents q.contents) t in
    (fit.0, (and_parts (are_due has_link_head step.links q.links) (are_due has_content_head step.contents q.contents) fit.1).1)

later_or_now : (s : Store) (more : List Content) (kind object : ℕ) → HasContent (contents_now s ++ more) kind object → ((c : Content) × IsNow s c × (c.piece.kind ≡ kind) × (c.piece.object ≡ object)) ⊎ HasContent more kind object
later_or_now s more kind object w = ⊎_elim
    (λ i. inl (w.0, now_told s w.0 i, w.2, w.3))
    (λ i. inr (w.0, i, w.2, w.3))
    ((In-append Content w.0 (contents_now s) more).0 w.1)

-- what comes to stand has a content in the step
abbrev role_by : ℕ → Bool → Bool → Role
role_by object one two = cond one (roles.Data (record { 0 = object })) (cond two (roles.File (record { 0 = object })) roles.Owner)

module _ (at : Stand) (q : PlainPayload) (links : List Link) (t : payload_fits at q ≡ true) (ok : StandHolds at links) where
  abbrev new : Store
  new = (told_stand at (told_note q.note)).store

  abbrev more : List Content
  more = (told_step at (told_note q.note)).contents

  all_written : AreWritten new (contents_now at.store ++ more)
  all_written = note_written at (told_note q.note) (contents_now at.store) (fit_told at (told_note q.note) (payload_note at q t).0).0 ok.store (now_written at.store)

  folder_comes : (f : ℕ) → (HasFolder at.store f → ⊥) → HasFolder new f → HasContent more 1 f
  folder_comes f not_before has = ⊎_elim
      (λ w. absurd (not_before (folder_now at.store w.0 f w.1 w.2 w.3)))
      (λ w. w)
      (later_or_now at.store more 1 f (subst (HasContent (contents_now at.store ++ more) 1) has.2 (all_written.folders has.0 has.1)))

  file_comes : (x : ℕ) → (((e : FileEntry) × In e at.store.files × (e.id ≡ x)) → ⊥) → ((e : FileEntry) × In e new.files × (e.id ≡ x)) → HasContent more 2 x
  file_comes x not_before has = ⊎_elim
      (λ w. absurd (not_before (file_now at.store w.0 x w.1 w.2 w.3)))
      (λ w. w)
      (later_or_now at.store more 2 x (subst (HasContent (contents_now at.store ++ more) 2) has.2 (all_written.files has.0 has.1)))

  abbrev Comes : ℕ → ℕ → Bool → Bool → Type 0
  Comes kind object one two = (HasRole at.store (role_by object one two) → ⊥) → HasRole new (role_by object one two) → HasContent more kind object

  object_comes : (kind object : ℕ) → (HasObject at.store kind object → ⊥) → HasObject new kind object → HasContent more kind object
  object_comes kind object = by_kind (kind == 1) (kind == 2) refl refl
    where
      by_kind : (one two : Bool) → (kind == 1) ≡ one → (kind == 2) ≡ two → Comes kind object one two
      by_kind true two is also = λ not_before has. subst (λ k. HasContent more k object) (sym (eqb-true kind 1 is)) (folder_comes object not_before has)
      by_kind false true is also = λ not_before has. subst (λ k. HasContent more k object) (sym (eqb-true kind 2 also)) (file_comes object not_before has)
      by_kind false false is also = λ not_before has. absurd (not_before tt)

content_placed : (batch at : ℕ) (contents : List PlainContent) (r : PlainContent) → In r contents → (c : PlacedContent) × In c (contents_at batch at contents) × (c.content ≡ r)
unfolding contents_at
content_placed batch at [] r i = absurd i
content_placed batch at (x ∷ contents) r i =
    let first : PlacedContent = record { batch = batch; at = at; content = x } in ⊎_elim
    (λ (e : r ≡ x). let told : (c : PlacedContent) × In c (first ∷ contents_at batch (at + content_size x) contents) × (c.content ≡ r) = (first, inl refl, sym e) in told)
    (λ u. let w = content_placed batch (at + content_size x) contents r u in let told : (c : PlacedContent) × In c (first ∷ contents_at batch (at + content_size x) contents) × (c.content ≡ r) = (w.0, inr w.1, w.2) in told) i

head_is_of : (c : Content) (r : PlainContent) (kind object : ℕ) → has_content_head c r ≡ true → c.piece.kind ≡ kind → c.piece.object ≡ object → ((r.kind == kind) && (r.object == object)) ≡ true
unfolding has_content_head
head_is_of c r kind object t k o =
    let a = and_parts (r.kind == c.piece.kind) ((r.object == c.piece.object) && ((r.key_serial.0 == c.key_serial) && ((r.nonce == c.nonce) && has_length r))) t in
    let b = and_parts (r.object == c.piece.object) ((r.key_serial.0 == c.key_serial) && ((r.nonce == c.nonce) && has_length r)) a.1 in
    and_from (r.kind == kind) (r.object == object)
    (eq-eqb r.kind kind (eqb-true r.kind c.piece.kind a.0 ∙ k)) (eq-eqb r.object object (eqb-true r.object c.piece.object b.0 ∙ o))

content_comes : (at : Stand) (q : PlainPayload) (links : List Link) (batch place kind object : ℕ) → payload_fits at q ≡ true → StandHolds at links → (HasObject at.store kind object → ⊥) →
    HasObject (told_stand at (told_note q.note)).store kind object → is_some (last_one (is_of kind object) (body_contents batch place (Commands q))) ≡ true
unfolding body_contents
content_comes at q links batch place kind object t ok not_before stands =
    let w = object_comes at q links t ok kind object not_before stands in
    let r = due_found Content PlainContent has_content_head (told_step at (told_note q.note)).contents q.contents w.0 (payload_note at q t).1 w.1 in
    let first = place + content_offset q 0 in
    let p = content_placed batch first q.contents r.0 r.1 in
    last_found PlacedContent (is_of kind object) (contents_at batch first q.contents) p.0 p.1
    (subst (λ (x : PlainContent). ((x.kind == kind) && (x.object == object)) ≡ true) (sym p.2) (head_is_of w.0 r.0 kind object r.2 w.2 w.3))

pub still_gone : (log : List PlainPlaced) (p : PlainPlaced) (head : ContentHead) → IsGone log head → last_one (is_of head.kind head.object) (body_contents p.batch p.place p.body) ≡ None → IsGone (log ++ p ∷ []) head
still_gone log p head gone none = λ behind folds has.
    let w = fold_before log p behind folds in
    of_body p.body w.0 behind w.1 w.2 has none
  where
    of_body : (body : PlainBody) (at behind : Stand) → folded nothing log ≡ Ok at → stand_behind at p.place body ≡ Ok behind → HasObject behind.store head.kind head.object →
        last_one (is_of head.kind head.object) (body_contents p.batch p.place body) ≡ None → ⊥
    of_body NewEpoch at behind folds is has none = gone at folds (subst (λ (s : Store). HasObject s head.kind head.object) (sym (same_store at behind p.place is)) has)
    of_body (Commands q) at behind folds is has none =
        let fit = fits_or at behind q p.place is in
        let holds = holds_before log at q folds fit.0 in
        let there = content_comes at q holds.0 p.batch p.place head.kind head.object fit.0 holds.1 (gone at folds) (subst (λ (z : Stand). HasObject z.store head.kind head.object) (sym fit.1) has) in
        false≢true (sym (ap is_some none) ∙ there)
