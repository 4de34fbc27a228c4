-- The owner's visits to a valid journal never fail.
use Rattle.std.proofs.Common.{◌≡◌, ⊎_elim, inl, inr, ℕ, Bool, true, false, cond, ◌==◌, ◌&&◌, List, [], ◌∷◌, ◌++◌, map, Option, Some, None, Result, Ok, Err, append-nil, refl, sym, ap, subst, ◌∙◌}
use Rattle.std.specs.Prelude.{IsSome, IsTrue, filter, if◌then◌else◌, is_some, nat_lt, not}
use Rattle.std.specs.List.{flat_map}
use Rattle.std.proofs.lemmas.Bool.{false≢true}
use Rattle.chacha_seal.specs.Keys.{KeyParts}
use Rattle.commit_journal.specs.Answering.{Fault, Damaged, and_then}
use Rattle.cry_base.specs.Clearances.{clear_number}
use Rattle.cry_base.specs.Sets.{In}
use Rattle.cry_base.specs.Stepping.{with_folder}
use Rattle.cry_base.specs.Store.{Store, FolderEntry, FileEntry, HolderEntry}
use Rattle.cry_base.specs.declared.roles.Edge.{Edge}
use Rattle.cry_base.specs.declared.roles.Role.{Role}
use Rattle.cry_base.specs.declared.roles.Role.TheVariants.{Owner}
use Rattle.cry_base.proofs.Members.{In-filter, In-map}
use Rattle.log_visits.specs.Placing.{PlacedContent, PlacedLink, content_for, link_for, log_contents, log_links}
use Rattle.log_visits.specs.Verdict.{open_content}
use Rattle.log_visits.specs.Visiting.{Opened, Reading, key_of, needed, visit, visit_all, visit_text, with_holder_key, with_key, with_name_at, with_parts, with_text_at}
use Rattle.log_visits.specs.Visits.{Visit, all_visits, allowed_visits, clearance_visits, entry_edge, entry_file_visits, entry_folder_visits, entry_visits, file_visits, files_that, folders_that, holder_visits, into_file, is_entry, is_entry_file, is_higher, is_deeper, lower_visits, name_visits, upper_visit, upper_visits, visits_to_names, writing_visits}
use Rattle.log_visits.specs.Visits.Visit.{ToKey, ToName, ToFile, ToHolder}
use Rattle.log_visits.proofs.FoldedHolds.{each_edge_found}
use Rattle.log_visits.proofs.Following.{link_decides}
use Rattle.log_visits.proofs.Opened.{opens_content}
use Rattle.key_links.specs.Sealed.{sealed_content}
use Rattle.move_plan.specs.Change.{folder_of_file, parent_of_folder}
use Rattle.move_plan.specs.Fitting.{public_of}
use Rattle.move_plan.proofs.Public.{edges_public}
use Rattle.role_graph.specs.Edges.{IsEdge, clearance_edges, edge, edges, file_edge, folder_edges, has_grants, in_order}
use Rattle.role_graph.specs.Rights.{allowed_to, file_allowed_to, named_to}
use Rattle.role_graph.specs.Rights.Who.{TheOwner}
use Rattle.role_graph.specs.Roles.{back_of, clear_of, data_of, file_role, files_of, sub_of}
use Rattle.role_graph.proofs.Edging.{In-order, edges_told}
use Rattle.public_fold.specs.Journal.{Journal, keys_of, store_of}
use Rattle.public_fold.specs.KeyStep.{KeyState, newest, present}
use Rattle.public_fold.specs.Valid.{IsValid}
use Rattle.public_fold.proofs.Keeping.{HasTree, journal_tree}
use Rattle.public_fold.proofs.Levels.{level_stands}
use Rattle.public_fold.proofs.Treeing.{file_own}
use Rattle.journal_bytes.specs.Folds.{fold_of, log_of, public_stand}
use Rattle.journal_bytes.specs.Keys.{AreWhole, all_keys, bytes_in}
use Rattle.journal_bytes.specs.Opening.{AreDrawn, AreLast, IsLast, key_with, owner_starts, owner_visits, reading_of}
use Rattle.journal_bytes.specs.Texting.{file_text}
use Rattle.journal_bytes.proofs.SeenFits.{place_seen}
use Rattle.journal_bytes.proofs.Followed.{journal_followed}
use Rattle.journal_bytes.proofs.LogsWalked.{journal_walked}
use Rattle.journal_bytes.proofs.OpenedKeys.{found_opens, owner_drawn, visits_drawn}
use Rattle.journal_bytes.proofs.OpenedTexts.{same_some}
use Rattle.journal_bytes.proofs.OwnerVisits.{all_of, all_stay, allowed_of, edge_open, entry_of, owner_open}
use Rattle.journal_bytes.proofs.PlainTexts.{IsPlain, file_form, folder_form, journal_plain}
use Rattle.journal_bytes.proofs.Walked.{IsLinkUnder}

-- ---- what the visits are to

-- what has a number among those without names stands with it
named_back : (X : Type 0) (id : X → ℕ) (bare : X → X) → ((x : X) → id (bare x) ≡ id x) → (xs : List X) (n : ℕ) → In n (map id (map bare xs)) → (x : X) × In x xs × (id x ≡ n)
named_back X id bare keeps [] n i = absurd i
named_back X id bare keeps (x ∷ xs) n i = ⊎_elim
    (λ (q : n ≡ id (bare x)). (x, inl refl, sym (q ∙ keeps x)))
    (λ u. let w = named_back X id bare keeps xs n u in (w.0, inr w.1, w.2))
    i

-- a folder, a file, a holder that is visited stands
stands_folder : (test : ℕ → Bool) (s : Store) (f : ℕ) → In f (folders_that test (public_of s)) → (e : FolderEntry) × In e s.folders × (e.id ≡ f)
unfolding folders_that public_of
stands_folder test s f i =
    let ids = map (λ (d : FolderEntry). d.id) (public_of s).folders in
    named_back FolderEntry (λ d. d.id) (λ d. record d { name = [] }) (λ d. refl) s.folders f (In-filter ℕ test f ids ((In-order ℕ nat_lt f (filter test ids)).0 i)).0

in_filtered : (X : Type 0) (id : X → ℕ) (test : X → Bool) (xs : List X) (n : ℕ) → In n (map id (filter test xs)) → In n (map id xs)
in_filtered X id test xs n i =
    let w = (In-map X ℕ id n (filter test xs)).0 i in (In-map X ℕ id n xs).1 (w.0, (In-filter X test w.0 xs w.1).0, w.2)

stands_file : (test : FileEntry → Bool) (s : Store) (x : ℕ) → In x (files_that test (public_of s)) → (e : FileEntry) × In e s.files × (e.id ≡ x)
unfolding files_that public_of
stands_file test s x i =
    let xs = (public_of s).files in
    named_back FileEntry (λ d. d.id) (λ d. record d { name = []; bytes = [] }) (λ d. refl) s.files x
    (in_filtered FileEntry (λ d. d.id) test xs x ((In-order ℕ nat_lt x (map (λ (d : FileEntry). d.id) (filter test xs))).0 i))

-- a file that is visited for its Clearance has a grant
granted_file : (s : Store) (x : ℕ) → In x (files_that (λ d. has_grants (public_of s) (clear_number d.id)) (public_of s)) → (e : FileEntry) × In e s.files × (e.id ≡ x) × IsTrue (has_grants s (clear_number e.id))
unfolding files_that public_of has_grants
granted_file s x i =
    let test : FileEntry → Bool = λ d. has_grants (public_of s) (clear_number d.id) in
    let bare : FileEntry → FileEntry = λ d. record d { name = []; bytes = [] } in
    let xs = map bare s.files in
    let w = (In-map FileEntry ℕ (λ d. d.id) x (filter test xs)).0 ((In-order ℕ nat_lt x (map (λ (d : FileEntry). d.id) (filter test xs))).0 i) in
    let passes = In-filter FileEntry test w.0 xs w.1 in
    let e = (In-map FileEntry FileEntry bare w.0 s.files).0 passes.0 in
    let same : w.0.id ≡ e.0.id = ap (λ (d : FileEntry). d.id) e.2 in
    (e.0, e.1, sym (w.2 ∙ same), subst (λ n. IsTrue (has_grants s (clear_number n))) same passes.1)

abbrev numbers_of : Store → List ℕ
numbers_of s = in_order nat_lt (map (λ (e : HolderEntry). e.number) s.holders)

stands_holder : (s : Store) (h : ℕ) → In h (numbers_of (public_of s)) → (e : HolderEntry) × In e s.holders × (e.number ≡ h)
unfolding public_of
stands_holder s h i =
    named_back HolderEntry (λ d. d.number) (λ d. record d { key = [] }) (λ d. refl) s.holders h ((In-order ℕ nat_lt h (map (λ (d : HolderEntry). d.number) (public_of s).holders)).0 i)

-- an edge within a folder stands
own_edge : (s : Store) (e : FolderEntry) (f : ℕ) (d : Edge) → In e s.folders → e.id ≡ f → In d (folder_edges f) → IsEdge s d
own_edge s e f d i same j = inl (e, i, subst (λ n. In d (folder_edges n)) (sym same) j)

-- no folder is allowed and no entry, and none named and not allowed
none_left : (X : Type 0) (test : X → Bool) (xs : List X) → ((x : X) → test x ≡ false) → filter test xs ≡ []
none_left X test [] out = refl
none_left X test (x ∷ xs) out = ap (λ b. cond b (x ∷ filter test xs) (filter test xs)) (out x) ∙ none_left X test xs out

no_folder : (test : ℕ → Bool) (s : Store) → ((f : ℕ) → test f ≡ false) → folders_that test s ≡ []
unfolding folders_that in_order
no_folder test s out = ap (in_order nat_lt) (none_left ℕ test (map (λ (e : FolderEntry). e.id) s.folders) out)

-- the owner comes into no file by a grant
entry_alone : (s : Store) → entry_visits s TheOwner ≡ entry_folder_visits s TheOwner
unfolding entry_visits entry_file_visits files_that is_entry_file in_order
entry_alone s =
    ap (λ (es : List FileEntry). entry_folder_visits s TheOwner ++ map (λ x. ToKey (entry_edge TheOwner (clear_number x))) (in_order nat_lt (map (λ (e : FileEntry). e.id) es)))
    (none_left FileEntry (is_entry_file s TheOwner) s.files (λ e. refl))
    ∙ append-nil (entry_folder_visits s TheOwner)

no_lower : (s : Store) → lower_visits s TheOwner ≡ []
unfolding lower_visits allowed_to is_entry in_order
no_lower s =
    ap (λ fs. map (λ f. ToKey (edge 6 (sub_of (parent_of_folder s f)) (sub_of f))) (in_order (is_higher s) fs)) (no_folder (λ f. allowed_to s TheOwner f && not (is_entry s TheOwner f)) s (λ f. refl))

no_upper : (s : Store) → upper_visits s TheOwner ≡ []
unfolding upper_visits allowed_to named_to in_order
no_upper s =
    ap (λ fs. flat_map (upper_visit s TheOwner) (in_order (is_deeper s) fs)) (no_folder (λ f. named_to s TheOwner f && not (allowed_to s TheOwner f)) s (λ f. refl))

-- the folder that a file is in
own_folder : (s : Store) (e : FileEntry) (x : ℕ) → HasTree s → In e s.files → e.id ≡ x → folder_of_file s x ≡ e.folder
unfolding folder_of_file
own_folder s e x tree i same = ap (λ o. elim o as (λ z. ℕ) [ None ↦ 0 | Some d ↦ d.folder ]) (file_own s e x tree i same)

file_folder : (s : Store) (e : FileEntry) (x : ℕ) → HasTree s → In e s.files → e.id ≡ x → folder_of_file (public_of s) x ≡ e.folder
file_folder s e x tree i same = place_seen s x ∙ own_folder s e x tree i same

-- ---- what a visit needs

-- a store's records as they are due in a log
record IsOpenable (keys : List KeyParts) (s : Store) (r : Reading) : Type 0 where
  right : (p : PlacedLink) → In p (log_links r.log) → IsLinkUnder keys p.link
  last : AreLast keys s r.stand.keys (log_contents r.log)
  linked : (e : Edge) → In e (edges s) → is_some (link_for r.stand.keys r.log e) ≡ true
  tree : HasTree s
  plain : IsPlain s

the_one : (X : Type 0) (o : Option X) → IsSome o → (x : X) × (o ≡ Some x)
the_one X None some = absurd (false≢true some)
the_one X (Some x) some = (x, refl)

abbrev Goes : Reading → Visit → Opened → Type 0
Goes r v o = (after : Opened) × (visit r v o ≡ Ok after)

abbrev AllGo : Reading → List Visit → Opened → Type 0
AllGo r vs o = (after : Opened) × (visit_all r vs o ≡ Ok after)

edge_goes : (keys : List KeyParts) (s : Store) (r : Reading) (o : Opened) (e : Edge) → IsOpenable keys s r → AreDrawn keys r.stand.keys o.keys → IsEdge s e → IsSome (key_of o.keys e.from) → Goes r (ToKey e) o
unfolding visit and_then with_key
edge_goes keys s r o e ok drawn stands has =
    let key = the_one (List ℕ) (key_of o.keys e.from) has in
    let link = the_one PlacedLink (link_for r.stand.keys r.log e) (ok.linked e ((edges_told s e).1 stands)) in
    let p : PlacedLink = link.0 in
    let opened = found_opens keys r o e key.0 p ok.right drawn key.1 link.1 in
    let bytes = bytes_in keys (present r.stand.keys.keys e.to) in
    (record o { keys = (e.to, bytes) ∷ o.keys }, link_decides r o e key.0 p key.1 link.1 ∙ ap (λ z. and_then z (with_key o e.to)) opened.0)

text_goes : (keys : List KeyParts) (r : Reading) (o : Opened) (role : Role) (kind object : ℕ) (text : List ℕ) (go_on : ℕ → List ℕ → Result Opened Fault) → AreDrawn keys r.stand.keys o.keys
    → IsLast keys r.stand.keys (log_contents r.log) role kind object text → IsSome (key_of o.keys role) → (at : ℕ) × (visit_text r o role kind object go_on ≡ go_on at text)
unfolding visit_text needed and_then content_for
text_goes keys r o role kind object text go_on drawn last has =
    let key = the_one (List ℕ) (key_of o.keys role) has in
    let own = drawn role key.0 key.1 in
    let c : PlacedContent = last.placed in
    let serial : own.0 ≡ last.serial = same_some ℕ own.0 last.serial (newest r.stand.keys.keys role) own.1 last.is_present in
    let bytes : key.0 ≡ bytes_in keys last.serial = own.2 ∙ ap (bytes_in keys) serial in
    let opens : open_content c.batch c.at key.0 c.content ≡ Ok text =
    ap (open_content c.batch c.at key.0) last.is_sealed
    ∙ ap (λ k. open_content c.batch c.at k (sealed_content kind (key_with keys role last.serial) object last.nonce text)) bytes
    ∙ opens_content c.batch c.at kind (key_with keys role last.serial) object last.nonce text
    in
    (c.at, rw (key.1, last.is_last, opens) refl)

name_goes : (keys : List KeyParts) (s : Store) (r : Reading) (o : Opened) (e : FolderEntry) → IsOpenable keys s r → AreDrawn keys r.stand.keys o.keys → In e s.folders → IsSome (key_of o.keys (data_of e.id)) → Goes r (ToName e.id) o
unfolding visit with_name_at
name_goes keys s r o e ok drawn i has =
    let told = text_goes keys r o (data_of e.id) 1 e.id e.name (with_name_at o e.id) drawn (ok.last.folders e i) has in
    let after : Opened = record o { store = with_folder o.store e.id (λ d. record d { name = e.name }) } in
    (after, told.1 ∙ ap (λ b. if b then Ok after else Err (Damaged told.0)) (folder_form s ok.tree ok.plain e i))

file_goes : (keys : List KeyParts) (s : Store) (r : Reading) (o : Opened) (e : FileEntry) → IsOpenable keys s r → AreDrawn keys r.stand.keys o.keys → In e s.files → IsSome (key_of o.keys (file_role e.id)) → Goes r (ToFile e.id) o
unfolding visit with_text_at
file_goes keys s r o e ok drawn i has =
    let text = file_text e.name e.bytes in
    let told = text_goes keys r o (file_role e.id) 2 e.id text (with_text_at o e.id) drawn (ok.last.files e i) has in
    let after : Opened = with_parts o e.id text in
    (after, told.1 ∙ ap (λ b. if b then Ok after else Err (Damaged told.0)) (file_form s ok.tree ok.plain e i))

holder_goes : (keys : List KeyParts) (s : Store) (r : Reading) (o : Opened) (e : HolderEntry) → IsOpenable keys s r → AreDrawn keys r.stand.keys o.keys → In e s.holders → IsSome (key_of o.keys Owner) → Goes r (ToHolder e.number) o
unfolding visit with_holder_key
holder_goes keys s r o e ok drawn i has =
    let told = text_goes keys r o Owner 3 e.number e.key (with_holder_key o e.number) drawn (ok.last.holders e i) has in
    (record o { store = record o.store { holders = map (λ (d : HolderEntry). cond (d.number == e.number) (record d { key = e.key }) d) o.store.holders } }, told.1)

-- ---- several visits

none_fails : (r : Reading) (o : Opened) → visit_all r [] o ≡ Ok o
unfolding visit_all
none_fails r o = refl

none_goes : (r : Reading) (o : Opened) → AllGo r [] o
none_goes r o = (o, none_fails r o)

both_visits : (r : Reading) (xs ys : List Visit) (o : Opened) → visit_all r (xs ++ ys) o ≡ and_then (visit_all r xs o) (visit_all r ys)
unfolding visit_all and_then
both_visits r [] ys o = refl
both_visits r (v ∷ xs) ys o =
    (elim (visit r v o) as (λ (z : Result Opened Fault). and_then z (visit_all r (xs ++ ys)) ≡ and_then (and_then z (visit_all r xs)) (visit_all r ys)) [
      | Ok p ↦ both_visits r xs ys p
      | Err fault ↦ refl
    ])

-- what was opened stays open, and stays the journal's
record IsLater (keys : List KeyParts) (k : KeyState) (o p : Opened) : Type 0 where
  drawn : AreDrawn keys k p.keys
  stays : (role : Role) → IsSome (key_of o.keys role) → IsSome (key_of p.keys role)

now : (keys : List KeyParts) (k : KeyState) (o : Opened) → AreDrawn keys k o.keys → IsLater keys k o o
now keys k o drawn = record { drawn = drawn; stays = λ role some. some }

module _ (keys : List KeyParts) (s : Store) (r : Reading) (ok : IsOpenable keys s r) where
  later : (vs : List Visit) (o p q : Opened) → IsLater keys r.stand.keys o p → visit_all r vs p ≡ Ok q → IsLater keys r.stand.keys o q
  later vs o p q is done = record {
    drawn = visits_drawn keys r vs p q ok.right is.drawn done;
    stays = λ role some. all_stay r vs p q role done (is.stays role some);
  }

  more_go : (xs ys : List Visit) (o : Opened) → (go : AllGo r xs o) → AllGo r ys go.0 → AllGo r (xs ++ ys) o
  unfolding and_then
  more_go xs ys o go rest = (rest.0, both_visits r xs ys o ∙ ap (λ z. and_then z (visit_all r ys)) go.1 ∙ rest.1)

  one_goes : (v : Visit) (o : Opened) → Goes r v o → AllGo r (v ∷ []) o
  unfolding visit_all and_then
  one_goes v o go = (go.0, ap (λ z. and_then z (visit_all r [])) go.1)

  two_go : (v w : Visit) (o : Opened) → (go : Goes r v o) → ((p : Opened) → visit_all r (v ∷ []) o ≡ Ok p → Goes r w p) → AllGo r (v ∷ w ∷ []) o
  two_go v w o go rest =
      let first = one_goes v o go in
      more_go (v ∷ []) (w ∷ []) o first (one_goes w first.0 (rest first.0 first.1))

  each_goes : (F : ℕ → List Visit) (fs : List ℕ) (o p : Opened) → IsLater keys r.stand.keys o p → ((f : ℕ) → In f fs → (q : Opened) → IsLater keys r.stand.keys o q → AllGo r (F f) q) → AllGo r (flat_map F fs) p
  each_goes F [] o p is go = none_goes r p
  each_goes F (f ∷ fs) o p is go =
      let first = go f (inl refl) p is in
      more_go (F f) (flat_map F fs) p first (each_goes F fs o first.0 (later (F f) o p first.0 is first.1) (λ g i. go g (inr i)))

  -- ---- the owner's visits, part by part

  entries_go : (o p : Opened) → IsLater keys r.stand.keys o p → IsSome (key_of o.keys Owner) → AllGo r (entry_visits (public_of s) TheOwner) p
  unfolding entry_folder_visits entry_edge is_entry folder_edges edge
  entries_go o p is has =
      subst (λ vs. AllGo r vs p) (sym (entry_alone (public_of s)))
      (each_goes (λ f. ToKey (edge 1 Owner (clear_of f)) ∷ ToKey (edge 3 (clear_of f) (sub_of f)) ∷ []) (folders_that (is_entry (public_of s) TheOwner) (public_of s)) o p is (λ f i q l.
      let e = stands_folder (is_entry (public_of s) TheOwner) s f i in
      let one = edge 1 Owner (clear_of f) in
      let two = edge 3 (clear_of f) (sub_of f) in
      two_go (ToKey one) (ToKey two) q
      (edge_goes keys s r q one ok l.drawn (own_edge s e.0 f one e.1 e.2 (inl refl)) (l.stays Owner has))
      (λ t done. edge_goes keys s r t two ok (later (ToKey one ∷ []) o q t l done).drawn (own_edge s e.0 f two e.1 e.2 (inr (inl refl))) (edge_open r (ToKey one ∷ []) q t one done (inl refl)))))

  abbrev AreOpen : (ℕ → Role) → Opened → Type 0
  AreOpen role o = (e : FolderEntry) → In e s.folders → IsSome (key_of o.keys (role e.id))

  is_open : (role : ℕ → Role) (o q : Opened) (e : FolderEntry) (f : ℕ) → AreOpen role o → IsLater keys r.stand.keys o q → In e s.folders → e.id ≡ f → IsSome (key_of q.keys (role f))
  is_open role o q e f open_before l i same = l.stays (role f) (subst (λ n. IsSome (key_of o.keys (role n))) same (open_before e i))

  insides_go : (o p : Opened) → IsLater keys r.stand.keys o p → AreOpen sub_of o → AllGo r (allowed_visits (public_of s) TheOwner) p
  unfolding allowed_visits allowed_to folder_edges edge
  insides_go o p is has =
      each_goes (λ f. ToKey (edge 4 (sub_of f) (back_of f)) ∷ ToKey (edge 5 (sub_of f) (files_of f)) ∷ []) (folders_that (allowed_to (public_of s) TheOwner) (public_of s)) o p is (λ f i q l.
      let e = stands_folder (allowed_to (public_of s) TheOwner) s f i in
      let one = edge 4 (sub_of f) (back_of f) in
      let two = edge 5 (sub_of f) (files_of f) in
      two_go (ToKey one) (ToKey two) q
      (edge_goes keys s r q one ok l.drawn (own_edge s e.0 f one e.1 e.2 (inr (inr (inl refl)))) (is_open sub_of o q e.0 f has l e.1 e.2))
      (λ t done. let m = later (ToKey one ∷ []) o q t l done in
      edge_goes keys s r t two ok m.drawn (own_edge s e.0 f two e.1 e.2 (inr (inr (inr (inl refl))))) (is_open sub_of o t e.0 f has m e.1 e.2)))

  names_go : (o p : Opened) → IsLater keys r.stand.keys o p → AreOpen back_of o → AllGo r (name_visits (public_of s) TheOwner) p
  unfolding name_visits named_to folder_edges edge
  names_go o p is has =
      each_goes (λ f. ToKey (edge 7 (back_of f) (data_of f)) ∷ ToName f ∷ []) (folders_that (named_to (public_of s) TheOwner) (public_of s)) o p is (λ f i q l.
      let e = stands_folder (named_to (public_of s) TheOwner) s f i in
      let one = edge 7 (back_of f) (data_of f) in
      two_go (ToKey one) (ToName f) q
      (edge_goes keys s r q one ok l.drawn (own_edge s e.0 f one e.1 e.2 (inr (inr (inr (inr (inl refl)))))) (is_open back_of o q e.0 f has l e.1 e.2))
      (λ t done. let m = later (ToKey one ∷ []) o q t l done in
      subst (λ n. Goes r (ToName n) t) e.2
      (name_goes keys s r t e.0 ok m.drawn e.1 (subst (λ n. IsSome (key_of t.keys (data_of n))) (sym e.2) (edge_open r (ToKey one ∷ []) q t one done (inl refl))))))

  files_go : (o p : Opened) → IsLater keys r.stand.keys o p → AreOpen files_of o → AllGo r (file_visits (public_of s) TheOwner (files_that (file_allowed_to (public_of s) TheOwner) (public_of s))) p
  unfolding file_visits into_file allowed_to file_edge edge
  files_go o p is has =
      each_goes (λ x. ToKey (file_edge (folder_of_file (public_of s) x) x) ∷ ToFile x ∷ []) (files_that (file_allowed_to (public_of s) TheOwner) (public_of s)) o p is (λ x i q l.
      let e = stands_file (file_allowed_to (public_of s) TheOwner) s x i in
      let f = file_folder s e.0 x ok.tree e.1 e.2 in
      let one = file_edge (folder_of_file (public_of s) x) x in
      let same : one ≡ file_edge e.0.folder e.0.id = (λ j. file_edge (f j) (sym e.2 j)) in
      let level = ok.tree.file_level e.0 e.1 in
      let d = level_stands level.0 s.folders e.0.folder level.1 in
      two_go (ToKey one) (ToFile x) q
      (edge_goes keys s r q one ok l.drawn (inr (inr (inr (inl (e.0, e.1, same))))) (is_open files_of o q d.0 (folder_of_file (public_of s) x) has l d.1 (d.2 ∙ sym f)))
      (λ t done. let m = later (ToKey one ∷ []) o q t l done in
      subst (λ n. Goes r (ToFile n) t) e.2
      (file_goes keys s r t e.0 ok m.drawn e.1 (subst (λ n. IsSome (key_of t.keys (file_role n))) (sym e.2) (edge_open r (ToKey one ∷ []) q t one done (inl refl))))))

  numbers_go : (ns : List ℕ) (o p : Opened) → IsLater keys r.stand.keys o p → IsSome (key_of o.keys Owner) → ((h : ℕ) → In h ns → (e : HolderEntry) × In e s.holders × (e.number ≡ h)) → AllGo r (map ToHolder ns) p
  numbers_go [] o p is has stands = none_goes r p
  numbers_go (h ∷ ns) o p is has stands =
      let e = stands h (inl refl) in
      let first = one_goes (ToHolder h) p (subst (λ n. Goes r (ToHolder n) p) e.2 (holder_goes keys s r p e.0 ok is.drawn e.1 (is.stays Owner has))) in
      more_go (ToHolder h ∷ []) (map ToHolder ns) p first (numbers_go ns o first.0 (later (ToHolder h ∷ []) o p first.0 is first.1) has (λ k i. stands k (inr i)))

  holders_go : (o p : Opened) → IsLater keys r.stand.keys o p → IsSome (key_of o.keys Owner) → AllGo r (holder_visits (public_of s)) p
  unfolding holder_visits
  holders_go o p is has = numbers_go (numbers_of (public_of s)) o p is has (stands_holder s)

  -- the Clearances of files
  abbrev into_clearance : ℕ → Edge
  into_clearance x = edge 1 Owner (clear_of (clear_number x))

  clearance_stands : (e : FileEntry) (x : ℕ) → In e s.files → e.id ≡ x → IsTrue (has_grants s (clear_number e.id)) → IsEdge s (into_clearance x)
  unfolding clearance_edges
  clearance_stands e x i same has = inr (inr (inr (inr (e, i, has, inl (λ j. into_clearance (sym same j))))))

  keys_go : (xs : List ℕ) (o p : Opened) → IsLater keys r.stand.keys o p → IsSome (key_of o.keys Owner) → ((x : ℕ) → In x xs → IsEdge s (into_clearance x)) → AllGo r (map (λ x. ToKey (into_clearance x)) xs) p
  unfolding edge
  keys_go [] o p is has stand = none_goes r p
  keys_go (x ∷ xs) o p is has stand =
      let v = ToKey (into_clearance x) in
      let first = one_goes v p (edge_goes keys s r p (into_clearance x) ok is.drawn (stand x (inl refl)) (is.stays Owner has)) in
      more_go (v ∷ []) (map (λ y. ToKey (into_clearance y)) xs) p first (keys_go xs o first.0 (later (v ∷ []) o p first.0 is first.1) has (λ y i. stand y (inr i)))

  clearances_go : (o p : Opened) → IsLater keys r.stand.keys o p → IsSome (key_of o.keys Owner) → AllGo r (clearance_visits (public_of s)) p
  unfolding clearance_visits
  clearances_go o p is has =
      keys_go (files_that (λ d. has_grants (public_of s) (clear_number d.id)) (public_of s)) o p is has (λ x i. let w = granted_file s x i in clearance_stands w.0 x w.1 w.2 w.3)

  subs_open : (o p : Opened) → visit_all r (entry_visits (public_of s) TheOwner) o ≡ Ok p → AreOpen sub_of p
  unfolding edge
  subs_open o p done e i =
      let two = edge 3 (clear_of e.id) (sub_of e.id) in edge_open r (entry_visits (public_of s) TheOwner) o p two done (entry_of s e (ToKey two) i (inr (inl refl)))

  backs_open : (o p : Opened) → visit_all r (allowed_visits (public_of s) TheOwner) o ≡ Ok p → AreOpen back_of p
  unfolding edge
  backs_open o p done e i =
      let one = edge 4 (sub_of e.id) (back_of e.id) in edge_open r (allowed_visits (public_of s) TheOwner) o p one done (allowed_of s e (ToKey one) i (inl refl))

  files_open : (o p : Opened) → visit_all r (allowed_visits (public_of s) TheOwner) o ≡ Ok p → AreOpen files_of p
  unfolding edge
  files_open o p done e i =
      let two = edge 5 (sub_of e.id) (files_of e.id) in edge_open r (allowed_visits (public_of s) TheOwner) o p two done (allowed_of s e (ToKey two) i (inr (inl refl)))

  joined : (xs ys : List Visit) (o p q : Opened) → visit_all r xs o ≡ Ok p → visit_all r ys p ≡ Ok q → visit_all r (xs ++ ys) o ≡ Ok q
  unfolding and_then
  joined xs ys o p q first rest = both_visits r xs ys o ∙ ap (λ z. and_then z (visit_all r ys)) first ∙ rest

  none_lower : (o : Opened) → visit_all r (lower_visits (public_of s) TheOwner) o ≡ Ok o
  none_lower o = ap (λ vs. visit_all r vs o) (no_lower (public_of s)) ∙ none_fails r o

  none_upper : (o : Opened) → visit_all r (upper_visits (public_of s) TheOwner) o ≡ Ok o
  none_upper o = ap (λ vs. visit_all r vs o) (no_upper (public_of s)) ∙ none_fails r o

  abbrev tree_visits : List Visit
  tree_visits =
      entry_visits (public_of s) TheOwner
      ++ (lower_visits (public_of s) TheOwner ++ (allowed_visits (public_of s) TheOwner ++ (upper_visits (public_of s) TheOwner ++ name_visits (public_of s) TheOwner)))

  -- once the folders' keys are open
  folders_read : (o e i n : Opened) → visit_all r (entry_visits (public_of s) TheOwner) o ≡ Ok e → visit_all r (allowed_visits (public_of s) TheOwner) e ≡ Ok i → visit_all r (name_visits (public_of s) TheOwner) i ≡ Ok n
      → visit_all r tree_visits o ≡ Ok n
  folders_read o e i n first second third =
      let L = lower_visits (public_of s) TheOwner in
      let I = allowed_visits (public_of s) TheOwner in
      let U = upper_visits (public_of s) TheOwner in
      let N = name_visits (public_of s) TheOwner in
      joined (entry_visits (public_of s) TheOwner) (L ++ (I ++ (U ++ N))) o e n first
      (joined L (I ++ (U ++ N)) e e n (none_lower e) (joined I (U ++ N) e i n second (joined U N i i n (none_upper i) third)))

  record IsTreeRead (o : Opened) : Type 0 where
    after : Opened
    read : visit_all r tree_visits o ≡ Ok after
    is_later : IsLater keys r.stand.keys o after
    files_are_open : AreOpen files_of after

  tree_goes : (o : Opened) → AreDrawn keys r.stand.keys o.keys → IsSome (key_of o.keys Owner) → IsTreeRead o
  tree_goes o drawn has =
      let at = now keys r.stand.keys o drawn in
      let e = entries_go o o at has in
      let at_e = now keys r.stand.keys e.0 (later (entry_visits (public_of s) TheOwner) o o e.0 at e.1).drawn in
      let i = insides_go e.0 e.0 at_e (subs_open o e.0 e.1) in
      let at_i = now keys r.stand.keys i.0 (later (allowed_visits (public_of s) TheOwner) e.0 e.0 i.0 at_e i.1).drawn in
      let n = names_go i.0 i.0 at_i (backs_open e.0 i.0 i.1) in
      let read = folders_read o e.0 i.0 n.0 e.1 i.1 n.1 in
      let at_n = later (name_visits (public_of s) TheOwner) i.0 i.0 n.0 at_i n.1 in
      record {
        after = n.0;
        read = read;
        is_later = later tree_visits o o n.0 at read;
        files_are_open = λ d j. at_n.stays (files_of d.id) (files_open e.0 i.0 i.1 d j);
      }

  all_read : (o n f h c : Opened) → visit_all r tree_visits o ≡ Ok n → visit_all r (file_visits (public_of s) TheOwner (files_that (file_allowed_to (public_of s) TheOwner) (public_of s))) n ≡ Ok f
      → visit_all r (holder_visits (public_of s)) f ≡ Ok h → visit_all r (clearance_visits (public_of s)) h ≡ Ok c → visit_all r (all_of s) o ≡ Ok c
  unfolding all_visits visits_to_names writing_visits
  all_read o n f h c first second third fourth =
      let F = file_visits (public_of s) TheOwner (files_that (file_allowed_to (public_of s) TheOwner) (public_of s)) in
      joined (tree_visits ++ F) (writing_visits (public_of s)) o f c (joined tree_visits F o n f first second)
      (joined (holder_visits (public_of s)) (clearance_visits (public_of s)) f h c third fourth)

  owner_goes : (o : Opened) → AreDrawn keys r.stand.keys o.keys → IsSome (key_of o.keys Owner) → AllGo r (all_of s) o
  owner_goes o drawn has =
      let tree = tree_goes o drawn has in
      let f = files_go tree.after tree.after (now keys r.stand.keys tree.after tree.is_later.drawn) tree.files_are_open in
      let at_f = later (file_visits (public_of s) TheOwner (files_that (file_allowed_to (public_of s) TheOwner) (public_of s))) o tree.after f.0 tree.is_later f.1 in
      let h = holders_go o f.0 at_f has in
      let at_h = later (holder_visits (public_of s)) o f.0 h.0 at_f h.1 in
      let c = clearances_go o h.0 at_h has in
      (c.0, all_read o tree.after f.0 h.0 c.0 tree.read f.1 h.1 c.1)

-- ---- journals

linked_edges : (owner : List ℕ) (m : Journal) → IsValid m → AreWhole owner m → (e : Edge) → In e (edges (store_of m)) → is_some (link_for (keys_of m) (log_of owner m) e) ≡ true
unfolding fold_of public_stand
linked_edges owner m valid whole e i =
    each_edge_found (log_of owner m) (public_stand m) (journal_followed owner m valid whole) e (subst (λ es. In e es) (sym (edges_public (store_of m))) i)

journal_openable : (owner : List ℕ) (m : Journal) → IsValid m → AreWhole owner m → IsOpenable (all_keys owner m) (store_of m) (reading_of owner m)
unfolding public_stand
journal_openable owner m valid whole =
    let walked = journal_walked owner m valid whole in record {
      right = walked.each_link;
      last = walked.contents_present;
      linked = linked_edges owner m valid whole;
      tree = journal_tree m valid;
      plain = journal_plain owner m valid whole;
    }

-- the owner's visits come to their end
pub journal_opened : (owner : List ℕ) (m : Journal) → IsValid m → AreWhole owner m → (after : Opened) × (visit_all (reading_of owner m) (owner_visits m) (owner_starts owner m) ≡ Ok after)
unfolding public_stand
journal_opened owner m valid whole =
    owner_goes (all_keys owner m) (store_of m) (reading_of owner m) (journal_openable owner m valid whole) (owner_starts owner m) (owner_drawn owner m valid whole) (owner_open owner)
