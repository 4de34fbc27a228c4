-- Visits in an order in which each has its key never fail where each record is as it is due.
use Rattle.std.proofs.Common.{◌≡◌, ⊎_elim, inl, ◌⊎◌, ℕ, true, cond, ◌==◌, List, [], ◌∷◌, map, Option, Some, None, Result, Ok, Err, refl, sym, ap, subst, ◌∙◌}
use Rattle.std.specs.Prelude.{IsSome, if◌then◌else◌, is_some}
use Rattle.std.proofs.lemmas.Bool.{false≢true}
use Rattle.chacha_seal.specs.Keys.{KeyParts}
use Rattle.commit_journal.specs.Answering.{Fault, Damaged, and_then}
use Rattle.cry_base.specs.Sets.{In}
use Rattle.cry_base.specs.Stepping.{with_folder}
use Rattle.cry_base.specs.Store.{Store, FolderEntry, FileEntry, HolderEntry}
use Rattle.cry_base.specs.declared.roles.Edge.{Edge}
use Rattle.cry_base.specs.declared.roles.Role.{Role}
use Rattle.cry_base.specs.declared.roles.Role.TheVariants.{Owner}
use Rattle.cry_base.proofs.Members.{In-map}
use Rattle.log_visits.specs.Placing.{PlacedContent, PlacedLink, content_for, link_for, log_contents, log_links}
use Rattle.log_visits.specs.Verdict.{open_content}
use Rattle.log_visits.specs.Visiting.{Opened, Reading, is_file_text, is_folder_text, key_of, needed, visit, visit_all, visit_text, with_holder_key, with_key, with_name_at, with_parts, with_text_at}
use Rattle.log_visits.specs.Visits.{Visit}
use Rattle.log_visits.specs.Visits.Visit.{ToKey, ToName, ToFile, ToHolder}
use Rattle.log_visits.proofs.Following.{link_decides}
use Rattle.log_visits.proofs.Opened.{opens_content}
use Rattle.key_links.specs.Sealed.{sealed_content}
use Rattle.move_plan.specs.Fitting.{public_of}
use Rattle.role_graph.specs.Edges.{IsEdge}
use Rattle.role_graph.specs.Roles.{data_of, file_role}
use Rattle.public_fold.specs.KeyStep.{newest, present}
use Rattle.journal_bytes.specs.Keys.{bytes_in}
use Rattle.journal_bytes.specs.Opening.{AreDrawn, AreLast, IsLast, key_with}
use Rattle.journal_bytes.specs.Texting.{file_text}
use Rattle.journal_bytes.proofs.OpenedKeys.{found_opens, visits_drawn}
use Rattle.journal_bytes.proofs.OpenedTexts.{same_some}
use Rattle.journal_bytes.proofs.OwnerVisits.{all_stay, edge_open}
use Rattle.journal_bytes.proofs.Walked.{IsLinkUnder}
use Rattle.log_visits.proofs.Ordered.{AreOrdered, CanVisit, LeadsTo, can_more}

-- a store's records as they are due in a log
pub record IsOpenable (keys : List KeyParts) (s : Store) (r : Reading) : Type 0 where
  pub right : (p : PlacedLink) → In p (log_links r.log) → IsLinkUnder keys p.link
  pub last : AreLast keys s r.stand.keys (log_contents r.log)
  pub linked : (e : Edge) → IsEdge (public_of s) e → is_some (link_for r.stand.keys r.log e) ≡ true
  pub folder_forms : (e : FolderEntry) → In e s.folders → is_folder_text e.id e.name ≡ true
  pub file_forms : (e : FileEntry) → In e s.files → is_file_text (file_text e.name e.bytes) ≡ true

the_one : (X : Type 0) (o : Option X) → IsSome o → (x : X) × (o ≡ Some x)
the_one X None some = absurd (false≢true some)
the_one X (Some x) some = (x, refl)

abbrev Goes : Reading → Visit → Opened → Type 0
Goes r v o = (after : Opened) × (visit r v o ≡ Ok after)

abbrev pub AllGo : Reading → List Visit → Opened → Type 0
AllGo r vs o = (after : Opened) × (visit_all r vs o ≡ Ok after)

edge_goes : (keys : List KeyParts) (s : Store) (r : Reading) (o : Opened) (e : Edge) → IsOpenable keys s r → AreDrawn keys r.stand.keys o.keys → IsEdge (public_of s) e → IsSome (key_of o.keys e.from) → Goes r (ToKey e) o
unfolding visit and_then with_key
edge_goes keys s r o e ok drawn stands has =
    let key = the_one (List ℕ) (key_of o.keys e.from) has in
    let link = the_one PlacedLink (link_for r.stand.keys r.log e) (ok.linked e stands) in
    let p : PlacedLink = link.0 in
    let opened = found_opens keys r o e key.0 p ok.right drawn key.1 link.1 in
    let bytes = bytes_in keys (present r.stand.keys.keys e.to) in
    (record o { keys = (e.to, bytes) ∷ o.keys }, link_decides r o e key.0 p key.1 link.1 ∙ ap (λ z. and_then z (with_key o e.to)) opened.0)

text_goes : (keys : List KeyParts) (r : Reading) (o : Opened) (role : Role) (kind object : ℕ) (text : List ℕ) (go_on : ℕ → List ℕ → Result Opened Fault) → AreDrawn keys r.stand.keys o.keys
    → IsLast keys r.stand.keys (log_contents r.log) role kind object text → IsSome (key_of o.keys role) → (at : ℕ) × (visit_text r o role kind object go_on ≡ go_on at text)
unfolding visit_text needed and_then content_for
text_goes keys r o role kind object text go_on drawn last has =
    let key = the_one (List ℕ) (key_of o.keys role) has in
    let own = drawn role key.0 key.1 in
    let c : PlacedContent = last.placed in
    let serial : own.0 ≡ last.serial = same_some ℕ own.0 last.serial (newest r.stand.keys.keys role) own.1 last.is_present in
    let bytes : key.0 ≡ bytes_in keys last.serial = own.2 ∙ ap (bytes_in keys) serial in
    let opens : open_content c.batch c.at key.0 c.content ≡ Ok text =
    ap (open_content c.batch c.at key.0) last.is_sealed
    ∙ ap (λ k. open_content c.batch c.at k (sealed_content kind (key_with keys role last.serial) object last.nonce text)) bytes
    ∙ opens_content c.batch c.at kind (key_with keys role last.serial) object last.nonce text
    in
    (c.at, rw (key.1, last.is_last, opens) refl)

name_goes : (keys : List KeyParts) (s : Store) (r : Reading) (o : Opened) (e : FolderEntry) → IsOpenable keys s r → AreDrawn keys r.stand.keys o.keys → In e s.folders → IsSome (key_of o.keys (data_of e.id)) → Goes r (ToName e.id) o
unfolding visit with_name_at
name_goes keys s r o e ok drawn i has =
    let told = text_goes keys r o (data_of e.id) 1 e.id e.name (with_name_at o e.id) drawn (ok.last.folders e i) has in
    let after : Opened = record o { store = with_folder o.store e.id (λ d. record d { name = e.name }) } in
    (after, told.1 ∙ ap (λ b. if b then Ok after else Err (Damaged told.0)) (ok.folder_forms e i))

file_goes : (keys : List KeyParts) (s : Store) (r : Reading) (o : Opened) (e : FileEntry) → IsOpenable keys s r → AreDrawn keys r.stand.keys o.keys → In e s.files → IsSome (key_of o.keys (file_role e.id)) → Goes r (ToFile e.id) o
unfolding visit with_text_at
file_goes keys s r o e ok drawn i has =
    let text = file_text e.name e.bytes in
    let told = text_goes keys r o (file_role e.id) 2 e.id text (with_text_at o e.id) drawn (ok.last.files e i) has in
    let after : Opened = with_parts o e.id text in
    (after, told.1 ∙ ap (λ b. if b then Ok after else Err (Damaged told.0)) (ok.file_forms e i))

holder_goes : (keys : List KeyParts) (s : Store) (r : Reading) (o : Opened) (e : HolderEntry) → IsOpenable keys s r → AreDrawn keys r.stand.keys o.keys → In e s.holders → IsSome (key_of o.keys Owner) → Goes r (ToHolder e.number) o
unfolding visit with_holder_key
holder_goes keys s r o e ok drawn i has =
    let told = text_goes keys r o Owner 3 e.number e.key (with_holder_key o e.number) drawn (ok.last.holders e i) has in
    (record o { store = record o.store { holders = map (λ (d : HolderEntry). cond (d.number == e.number) (record d { key = e.key }) d) o.store.holders } }, told.1)

-- what stands without names, bytes and keys stands with them
named_folder : (s : Store) (f : ℕ) → (e : FolderEntry) × In e (public_of s).folders × (e.id ≡ f) → (e : FolderEntry) × In e s.folders × (e.id ≡ f)
unfolding public_of
named_folder s f w =
    let v = (In-map FolderEntry FolderEntry (λ d. record d { name = [] }) w.0 s.folders).0 w.1 in (v.0, v.1, sym (ap (λ (d : FolderEntry). d.id) v.2) ∙ w.2)

named_file : (s : Store) (x : ℕ) → (e : FileEntry) × In e (public_of s).files × (e.id ≡ x) → (e : FileEntry) × In e s.files × (e.id ≡ x)
unfolding public_of
named_file s x w =
    let v = (In-map FileEntry FileEntry (λ d. record d { name = []; bytes = [] }) w.0 s.files).0 w.1 in (v.0, v.1, sym (ap (λ (d : FileEntry). d.id) v.2) ∙ w.2)

keyed_holder : (s : Store) (h : ℕ) → (e : HolderEntry) × In e (public_of s).holders × (e.number ≡ h) → (e : HolderEntry) × In e s.holders × (e.number ≡ h)
unfolding public_of
keyed_holder s h w =
    let v = (In-map HolderEntry HolderEntry (λ d. record d { key = [] }) w.0 s.holders).0 w.1 in (v.0, v.1, sym (ap (λ (d : HolderEntry). d.number) v.2) ∙ w.2)

module _ (keys : List KeyParts) (s : Store) (r : Reading) (ok : IsOpenable keys s r) where
  visit_goes : (o : Opened) → AreDrawn keys r.stand.keys o.keys → (v : Visit) → CanVisit (public_of s) (λ role. IsSome (key_of o.keys role)) v → Goes r v o
  visit_goes o drawn (ToKey e) can = edge_goes keys s r o e ok drawn can.0 can.1
  visit_goes o drawn (ToName f) can =
      let e = named_folder s f can.0 in
      subst (λ n. Goes r (ToName n) o) e.2 (name_goes keys s r o e.0 ok drawn e.1 (subst (λ n. IsSome (key_of o.keys (data_of n))) (sym e.2) can.1))
  visit_goes o drawn (ToFile x) can =
      let e = named_file s x can.0 in
      subst (λ n. Goes r (ToFile n) o) e.2 (file_goes keys s r o e.0 ok drawn e.1 (subst (λ n. IsSome (key_of o.keys (file_role n))) (sym e.2) can.1))
  visit_goes o drawn (ToHolder h) can =
      let e = keyed_holder s h can.0 in
      subst (λ n. Goes r (ToHolder n) o) e.2 (holder_goes keys s r o e.0 ok drawn e.1 can.1)

  one_goes : (v : Visit) (o : Opened) → (go : Goes r v o) → visit_all r (v ∷ []) o ≡ Ok go.0
  unfolding visit_all and_then
  one_goes v o go = ap (λ z. and_then z (visit_all r [])) go.1

  is_led : (o after : Opened) (v : Visit) (role : Role) → visit_all r (v ∷ []) o ≡ Ok after → LeadsTo v role → IsSome (key_of after.keys role)
  is_led o after (ToKey e) role done leads = subst (λ z. IsSome (key_of after.keys z)) (sym leads) (edge_open r (ToKey e ∷ []) o after e done (inl refl))
  is_led o after (ToName f) role done leads = absurd leads
  is_led o after (ToFile x) role done leads = absurd leads
  is_led o after (ToHolder h) role done leads = absurd leads

  -- visits of which each has its key pass
  pub ordered_go : (vs : List Visit) (is_open : Role → Type 0) (o : Opened) → AreDrawn keys r.stand.keys o.keys → ((role : Role) → is_open role → IsSome (key_of o.keys role)) → AreOrdered (public_of s) is_open vs → AllGo r vs o
  unfolding visit_all and_then
  ordered_go [] is_open o drawn cover ordered = (o, refl)
  ordered_go (v ∷ vs) is_open o drawn cover ordered =
      let go = visit_goes o drawn v (can_more (public_of s) is_open (λ role. IsSome (key_of o.keys role)) cover v ordered.0) in
      let one = one_goes v o go in
      let rest = ordered_go vs (λ role. is_open role ⊎ LeadsTo v role) go.0 (visits_drawn keys r (v ∷ []) o go.0 ok.right drawn one)
      (λ role. ⊎_elim (λ p. all_stay r (v ∷ []) o go.0 role one (cover role p)) (λ l. is_led o go.0 v role one l)) ordered.1 in
      (rest.0, ap (λ z. and_then z (visit_all r vs)) go.1 ∙ rest.1)
