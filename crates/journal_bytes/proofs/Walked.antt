-- The records of a log while a journal goes on: each link is sealed from and to keys that were drawn, and the last content of each
-- name, file and holder's key is the present one.
use Rattle.std.proofs.Common.{◌≡◌, ◌≢◌, ◌⊎◌, ⊎_elim, inl, inr, ℕ, ◌+◌, ◌≤◌, Bool, true, false, cond, not, ◌==◌, List, [], ◌∷◌, ◌++◌, map, length, Option, Some, None, arith, refl, sym, ap, subst, ◌∙◌}
use Rattle.std.specs.Prelude.{if◌then◌else◌, unwrap_or}
use Rattle.std.specs.List.{list_all}
use Rattle.std.proofs.lemmas.Bool.{and_from, and_parts, eq-eqb, eqb-true, false_from_ne_true, false≢true}
use Rattle.chacha_seal.specs.Keys.{KeyParts}
use Rattle.cry_base.specs.Sets.{In}
use Rattle.cry_base.specs.Store.{Store, FolderEntry, FileEntry, HolderEntry}
use Rattle.cry_base.specs.declared.roles.Edge.{Edge}
use Rattle.cry_base.specs.declared.roles.Role.{Role}
use Rattle.cry_base.specs.declared.roles.Role.TheVariants.{Owner}
use Rattle.cry_base.proofs.Members.{In-append, In-map}
use Rattle.log_visits.specs.Found.{is_of}
use Rattle.log_visits.specs.Placing.{PlacedContent, PlacedLink, contents_at, last_one, links_at}
use Rattle.key_links.specs.Sealed.{sealed_content, sealed_link}
use Rattle.kind_table.specs.Kinds.{kind_of}
use Rattle.kind_table.specs.declared.kinds.RoleKind.{RoleKind}
use Rattle.kind_table.specs.declared.kinds.RoleKind.TheVariants as kinds
use Rattle.kind_table.specs.declared.eleven.TheConstants.{ELEVEN}
use Rattle.kind_table.specs.declared.table.Row.{Row}
use Rattle.move_plan.specs.Change.{Change}
use Rattle.record_format.specs.Plain.{PlainContent}
use Rattle.record_format.specs.Sizes.{content_size}
use Rattle.record_format.specs.declared.link.LinkRecord.{LinkRecord}
use Rattle.role_graph.specs.Edges.{edges}
use Rattle.role_graph.specs.Roles.{data_of, file_role, holder_role, is_root_role, is_sealing_role, role_id, same_role, variant_of}
use Rattle.role_graph.specs.Tabled.{row_of}
use Rattle.role_graph.proofs.Comparing.{same_role_tells}
use Rattle.public_fold.specs.Keyed.{HasRole, KeysHold}
use Rattle.public_fold.specs.KeyStep.{KeyState, Stepped, content_of, contents_from, given, key_step, newest, next_serial, numbered, present, published, published_edges, renewed, step_with}
use Rattle.public_fold.specs.Records.{Content, Link, Piece, sealing_role, text_of}
use Rattle.public_fold.proofs.GrantLaws.{sealing_wanted}
use Rattle.public_fold.proofs.KeepingKeys.{IsMove, renewed_stands, same_key}
use Rattle.public_fold.proofs.KeepingKeys as keeping
use Rattle.public_fold.proofs.Serials.{keys_between}
use Rattle.journal_bytes.specs.Bytes.{content_record, link_record}
use Rattle.journal_bytes.specs.Opening.{AreLast, IsLast, key_with}
use Rattle.journal_bytes.specs.Sealing.{EachOnce, IsSealable}
use Rattle.journal_bytes.specs.Texting.{file_text}
use Rattle.journal_bytes.proofs.Counted.{HasSerial, HaveKeys, keys_after}
use Rattle.journal_bytes.proofs.Grown.{found_first}
use Rattle.journal_bytes.proofs.Kept.{IsKept, IsNotNow, IsNow}
use Rattle.journal_bytes.proofs.Sealable.{ArePieces, content_from, step_sealable}

-- ---- keys

-- the newest key of a role is one of the keys
pub newest_of : (keys : List (Role × ℕ)) (r : Role) (n : ℕ) → newest keys r ≡ Some n → (q : Role × ℕ) × In q keys × (q.0 ≡ r) × (q.1 ≡ n)
unfolding newest
newest_of [] r n = λ e. absurd cc
newest_of (x ∷ xs) r n =
    (elim (same_role x.0 r) as (λ b. same_role x.0 r ≡ b → cond b (Some x.1) (newest xs r) ≡ Some n → (q : Role × ℕ) × In q (x ∷ xs) × (q.0 ≡ r) × (q.1 ≡ n)) [
      | true ↦ λ t e. let h : x.1 ≡ n = cc in (x, inl refl, (same_role_tells x.0 r).0 t, h)
      | false ↦ λ t e. let w = newest_of xs r n e in (w.0, inr w.1, w.2, w.3)
    ]) refl

pub newest_serial : (keys : List KeyParts) (k : KeyState) (r : Role) (n : ℕ) → HaveKeys keys k → newest k.keys r ≡ Some n → HasSerial keys n
newest_serial keys k r n have e = let w = newest_of k.keys r n e in subst (HasSerial keys) w.3 (have.each w.0 w.1)

-- the owner's key alone has serial 0
abbrev pub IsZeroOwners : List (Role × ℕ) → Type 0
IsZeroOwners keys = (q : Role × ℕ) → In q keys → q.1 ≡ 0 → q.0 ≡ Owner

-- ---- links

-- a link's record is sealed under keys that there are
pub record IsLinkUnder (keys : List KeyParts) (r : LinkRecord) : Type 0 where
  pub link : Link
  pub is_sealed : r ≡ link_record keys link
  pub has_from : HasSerial keys link.from_serial
  pub has_to : HasSerial keys link.to_serial
  pub not_zero : link.to_serial ≢ 0

more_serial : (keys more : List KeyParts) (n : ℕ) → HasSerial keys n → HasSerial (keys ++ more) n
more_serial keys more n has = (has.0, (In-append KeyParts has.0 keys more).1 (inl has.1), has.2)

link_stays : (keys more : List KeyParts) (r : LinkRecord) → IsLinkUnder keys r → IsLinkUnder (keys ++ more) r
unfolding link_record
link_stays keys more r is =
    let l = is.link in record {
      link = l;
      is_sealed = is.is_sealed
          ∙ (λ i. sealed_link l.edge.kind
          (record { id = role_id l.edge.from; serial = l.from_serial; bytes = sym (found_first keys more l.from_serial is.has_from) i })
          (record { id = role_id l.edge.to; serial = l.to_serial; bytes = sym (found_first keys more l.to_serial is.has_to) i })
          l.nonce);
      has_from = more_serial keys more l.from_serial is.has_from;
      has_to = more_serial keys more l.to_serial is.has_to;
      not_zero = is.not_zero;
    }

placed_link : (batch at : ℕ) (rs : List LinkRecord) (p : PlacedLink) → In p (links_at batch at rs) → In p.link rs
unfolding links_at
placed_link batch at [] p i = absurd i
placed_link batch at (r ∷ rs) p i = ⊎_elim
    (λ (q : p ≡ record { batch = batch; at = at; link = r }). inl (ap (λ (z : PlacedLink). z.link) q))
    (λ u. inr (placed_link batch (at + 98) rs p u)) i

placed_content : (batch at : ℕ) (rs : List PlainContent) (p : PlacedContent) → In p (contents_at batch at rs) → In p.content rs
unfolding contents_at
placed_content batch at [] p i = absurd i
placed_content batch at (r ∷ rs) p i = ⊎_elim
    (λ (q : p ≡ record { batch = batch; at = at; content = r }). inl (ap (λ (z : PlacedContent). z.content) q))
    (λ u. inr (placed_content batch (at + content_size r) rs p u)) i

-- no row leads to the owner
is_owner : RoleKind → Bool
is_owner kinds.Owner = true
is_owner kinds.Holder = false
is_owner kinds.Clear = false
is_owner kinds.Sub = false
is_owner kinds.Back = false
is_owner kinds.Files = false
is_owner kinds.Data = false
is_owner kinds.File = false

pub In-list_all : (X : Type 0) (test : X → Bool) (xs : List X) (x : X) → list_all test xs ≡ true → In x xs → test x ≡ true
In-list_all X test [] x all here = absurd here
In-list_all X test (y ∷ ys) x all here =
    let both = and_parts (test y) (list_all test ys) all in
    ⊎_elim (λ (e : x ≡ y). ap test e ∙ both.0) (λ others. In-list_all X test ys x both.1 others) here

other_target : (e : Edge) → In (row_of e) ELEVEN.rows → e.to ≢ Owner
unfolding row_of is_owner kind_of
other_target e i q =
    let passes : not (is_owner (kind_of e.to)) ≡ true = In-list_all Row (λ r. not (is_owner r.to)) ELEVEN.rows (row_of e) refl i in
    let fails : not (is_owner (kind_of e.to)) ≡ false = ap (λ r. not (is_owner (kind_of r))) q in
    false≢true (sym fails ∙ passes)

step_link : (keys : List KeyParts) (step : Stepped) (l : Link) → IsSealable step → HaveKeys keys step.after → IsZeroOwners step.after.keys → In l step.links → IsLinkUnder keys (link_record keys l)
step_link keys step l seal have zero i = record {
  link = l;
  is_sealed = refl;
  has_from = newest_serial keys step.after l.edge.from l.from_serial have (seal.sources l i);
  has_to = newest_serial keys step.after l.edge.to l.to_serial have (seal.targets l i);
  not_zero = λ z.
      let w = newest_of step.after.keys l.edge.to l.to_serial (seal.targets l i) in
      other_target l.edge (seal.tabled l i) (sym w.2 ∙ zero w.0 w.1 (w.3 ∙ z));
}

new_links : (keys : List KeyParts) (step : Stepped) (batch at : ℕ) → IsSealable step → HaveKeys keys step.after → IsZeroOwners step.after.keys
    → (p : PlacedLink) → In p (links_at batch at (map (link_record keys) step.links)) → IsLinkUnder keys p.link
new_links keys step batch at seal have zero p i =
    let w = (In-map Link LinkRecord (link_record keys) p.link step.links).0 (placed_link batch at (map (link_record keys) step.links) p i) in
    subst (IsLinkUnder keys) (sym w.2) (step_link keys step w.0 seal have zero w.1)

-- ---- the last content

none_passes : (X : Type 0) (test : X → Bool) (ys : List X) → ((y : X) → In y ys → test y ≡ false) → last_one test ys ≡ None
unfolding last_one
none_passes X test [] none = refl
none_passes X test (y ∷ ys) none =
    ap (λ o. elim o as (λ z. Option X) [ Some z ↦ Some z | None ↦ if test y then Some y else None ]) (none_passes X test ys (λ z i. none z (inr i)))
    ∙ ap (λ b. if b then Some y else None) (none y (inl refl))

last_before : (X : Type 0) (test : X → Bool) (xs ys : List X) → ((y : X) → In y ys → test y ≡ false) → last_one test (xs ++ ys) ≡ last_one test xs
unfolding last_one
last_before X test [] ys none = none_passes X test ys none
last_before X test (x ∷ xs) ys none =
    ap (λ o. elim o as (λ z. Option X) [ Some z ↦ Some z | None ↦ if test x then Some x else None ]) (last_before X test xs ys none)

last_now : (X : Type 0) (test : X → Bool) (xs : List X) (y : X) → test y ≡ true → last_one test (xs ++ y ∷ []) ≡ Some y
unfolding last_one
last_now X test [] y t = ap (λ b. if b then Some y else None) t
last_now X test (x ∷ xs) y t =
    ap (λ o. elim o as (λ z. Option X) [ Some z ↦ Some z | None ↦ if test x then Some x else None ]) (last_now X test xs y t)

-- the contents of a step in a batch
abbrev new_contents : List KeyParts → List (Role × ℕ) → ℕ → ℕ → ℕ → List Piece → List PlacedContent
new_contents keys newer n batch at ps = contents_at batch at (map (content_record keys) (contents_from newer n ps))

abbrev sealing_of : ℕ → ℕ → Role
sealing_of kind object = cond (kind == 1) (data_of object) (cond (kind == 2) (file_role object) Owner)

present_is : (keys : List (Role × ℕ)) (r : Role) (n : ℕ) → newest keys r ≡ Some n → newest keys r ≡ Some (present keys r)
unfolding present
present_is keys r n e = e ∙ ap Some (sym (ap (λ o. unwrap_or o 0) e))

one_last : (keys : List KeyParts) (k : KeyState) (n batch at : ℕ) (old : List PlacedContent) (p : Piece) (kind object : ℕ) (text : List ℕ) (m : ℕ) → newest k.keys (sealing_of kind object) ≡ Some m
    → p.kind ≡ kind → p.object ≡ object → text_of p ≡ text → IsLast keys k (old ++ new_contents keys k.keys n batch at (p ∷ [])) (sealing_of kind object) kind object text
unfolding contents_at contents_from numbered content_of content_record sealing_role sealed_content
one_last keys k n batch at old p kind object text m newer pk po pt =
    let role : sealing_role p ≡ sealing_of kind object = λ i. sealing_of (pk i) (po i) in
    let new : PlacedContent = record { batch = batch; at = at; content = content_record keys (content_of k.keys (p, n)) } in record {
      placed = new;
      is_last = last_now PlacedContent (is_of kind object) old new (and_from (p.kind == kind) (p.object == object) (eq-eqb p.kind kind pk) (eq-eqb p.object object po));
      serial = present k.keys (sealing_of kind object);
      is_present = present_is k.keys (sealing_of kind object) m newer;
      nonce = n;
      is_sealed = λ i. sealed_content (pk i) (key_with keys (role i) (present k.keys (role i))) (po i) n (pt i);
    }

now_last : (keys : List KeyParts) (k : KeyState) (n batch at : ℕ) (old : List PlacedContent) (ps : List Piece) (kind object : ℕ) (text : List ℕ) (m : ℕ) → newest k.keys (sealing_of kind object) ≡ Some m
    → IsNow ps kind object text → IsLast keys k (old ++ new_contents keys k.keys n batch at ps) (sealing_of kind object) kind object text
now_last keys k n batch at old ps kind object text m newer now =
    subst (λ (z : List Piece). IsLast keys k (old ++ new_contents keys k.keys n batch at z) (sealing_of kind object) kind object text) (sym now.1)
    (one_last keys k n batch at old now.0 kind object text m newer now.2 now.3 now.4)

record_kind : (keys : List KeyParts) (c : Content) → ((content_record keys c).kind ≡ c.piece.kind) × ((content_record keys c).object ≡ c.piece.object)
unfolding content_record sealed_content
record_kind keys c = (refl, refl)

others_fail : (keys : List KeyParts) (newer : List (Role × ℕ)) (n batch at : ℕ) (ps : List Piece) (kind object : ℕ) → IsNotNow ps kind object → (y : PlacedContent) → In y (new_contents keys newer n batch at ps) → is_of kind object y ≡ false
others_fail keys newer n batch at ps kind object none y i =
    false_from_ne_true (is_of kind object y) (λ t.
    let w = (In-map Content PlainContent (content_record keys) y.content (contents_from newer n ps)).0 (placed_content batch at (map (content_record keys) (contents_from newer n ps)) y i) in
    let both = and_parts (y.content.kind == kind) (y.content.object == object) t in
    let told = record_kind keys w.0 in
    none w.0.piece (content_from newer n ps w.0 w.1).0
    (sym told.0 ∙ ap (λ (c : PlainContent). c.kind) (sym w.2) ∙ eqb-true y.content.kind kind both.0)
    (sym told.1 ∙ ap (λ (c : PlainContent). c.object) (sym w.2) ∙ eqb-true y.content.object object both.1))

left_last : (keys more : List KeyParts) (k after : KeyState) (n batch at : ℕ) (old : List PlacedContent) (ps : List Piece) (role : Role) (kind object : ℕ) (text : List ℕ) → HaveKeys keys k
    → newest after.keys role ≡ newest k.keys role → IsNotNow ps kind object → IsLast keys k old role kind object text
    → IsLast (keys ++ more) after (old ++ new_contents (keys ++ more) after.keys n batch at ps) role kind object text
left_last keys more k after n batch at old ps role kind object text have same none last = record {
  placed = last.placed;
  is_last = last_before PlacedContent (is_of kind object) old (new_contents (keys ++ more) after.keys n batch at ps) (others_fail (keys ++ more) after.keys n batch at ps kind object none) ∙ last.is_last;
  serial = last.serial;
  is_present = same ∙ last.is_present;
  nonce = last.nonce;
  is_sealed = last.is_sealed
      ∙ (λ i. sealed_content kind (record { id = role_id role; serial = last.serial; bytes = sym (found_first keys more last.serial (newest_serial keys k role last.serial have last.is_present)) i }) object last.nonce text);
}

-- ---- a step

-- the key of a holder is the one that was drawn as the present key of its role
abbrev pub IsHolderKeyed : List KeyParts → KeyState → HolderEntry → Type 0
IsHolderKeyed keys k e = (q : KeyParts) × In q keys × (newest k.keys (holder_role e.number) ≡ Some q.serial) × (q.bytes ≡ e.key)

abbrev pub AreHoldersKeyed : List KeyParts → Store → KeyState → Type 0
AreHoldersKeyed keys s k = (e : HolderEntry) → In e s.holders → IsHolderKeyed keys k e

-- each link is sealed under keys that there are, and the last contents are the present ones
pub record IsWalked (keys : List KeyParts) (s : Store) (k : KeyState) (links : List PlacedLink) (contents : List PlacedContent) : Type 0 where
  pub have : HaveKeys keys k
  pub zero : IsZeroOwners k.keys
  pub each_link : (p : PlacedLink) → In p links → IsLinkUnder keys p.link
  pub contents_present : AreLast keys s k contents
  pub owner_first : newest k.keys Owner ≡ Some 0
  pub holders_keyed : AreHoldersKeyed keys s k

no_zero : (k : KeyState) (n : ℕ) → 1 ≤ k.epoch → next_serial k ≤ n → n ≡ 0 → ⊥
unfolding next_serial
no_zero k n begun low z = omega (arith, low, z, begun)

module _ (keys more : List KeyParts) (s t : Store) (k : KeyState) (c : Change) (links : List Link) (ps : List Piece) (mv : IsMove s c t) (ok : KeysHold s k links) (once : EachOnce c.fresh) (due : ArePieces t ps) where
  zero_after : 1 ≤ k.epoch → IsZeroOwners k.keys → IsZeroOwners (key_step k (edges s) c ps).after.keys
  zero_after begun zero q i z = ⊎_elim
      (λ new. let low = (keys_between k (edges s) c ps q new).0 in absurd (no_zero k q.1 begun low z))
      (λ old. zero q old z)
      (keys_after k (edges s) c ps q i)

  not_keyed : (r : Role) → HasRole s r → HasRole t r → (In r (renewed k (edges s) c) → ⊥) → newest (key_step k (edges s) c ps).after.keys r ≡ newest k.keys r
  unfolding key_step step_with published
  not_keyed r old new out =
      same_key s t k c links mv ok r
      (λ i. ⊎_elim out (λ f. mv.fresh_is_new r f old) ((In-append Role r (renewed k (edges s) c) c.fresh).0 i))
      (λ g. ⊎_elim (λ w. w.1 g) (λ f. mv.fresh_stays r f g) ((mv.roles r).0 new))

  sealing_kept : (r : Role) → is_sealing_role r ≡ true → HasRole s r → HasRole t r → (In r c.wanted → ⊥) → newest (key_step k (edges s) c ps).after.keys r ≡ newest k.keys r
  sealing_kept r sealing old new unwanted = not_keyed r old new (λ i. unwanted (sealing_wanted s k c r sealing (λ u. false≢true (sym (mv.strict_seals_none r u) ∙ sealing)) i))

  owner_kept : newest (key_step k (edges s) c ps).after.keys Owner ≡ newest k.keys Owner
  unfolding is_root_role variant_of
  owner_kept = not_keyed Owner tt tt (λ i. false≢true (sym (renewed_stands s t k c links mv ok Owner i).1.1))

  root_kept : (r : Role) → is_root_role r ≡ true → HasRole s r → HasRole t r → newest (key_step k (edges s) c ps).after.keys r ≡ newest k.keys r
  root_kept r root old new = not_keyed r old new (λ i. false≢true (sym (renewed_stands s t k c links mv ok r i).1.1 ∙ root))

  -- a holder stood, or its key is drawn now
  step_holders : AreHoldersKeyed keys s k → ((e : HolderEntry) → In e t.holders → In e s.holders ⊎ IsHolderKeyed more (key_step k (edges s) c ps).after e) → AreHoldersKeyed (keys ++ more) t (key_step k (edges s) c ps).after
  unfolding holder_role is_root_role variant_of
  step_holders keyed_before now e i = ⊎_elim
      (λ old. let w = keyed_before e old in
      (w.0, (In-append KeyParts w.0 keys more).1 (inl w.1), root_kept (holder_role e.number) refl (e, old, refl) (e, i, refl) ∙ w.2, w.3))
      (λ new. (new.0, (In-append KeyParts new.0 keys more).1 (inr new.1), new.2, new.3))
      (now e i)

  keyed : (r : Role) → HasRole t r → (n : ℕ) × (newest (key_step k (edges s) c ps).after.keys r ≡ Some n)
  keyed r = ((keeping.keys_after s t k c links mv ok ps).keyed r).0

  folder_last : (n batch at : ℕ) (old : List PlacedContent) → HaveKeys keys k → IsKept s t c.wanted ps → AreLast keys s k old → (e : FolderEntry) → In e t.folders
      → IsLast (keys ++ more) (key_step k (edges s) c ps).after (old ++ new_contents (keys ++ more) (key_step k (edges s) c ps).after.keys n batch at ps) (data_of e.id) 1 e.id e.name
  unfolding data_of is_sealing_role variant_of
  folder_last n batch at old have kept last e i =
      let after = (key_step k (edges s) c ps).after in ⊎_elim
      (λ now. let m = keyed (data_of e.id) (e, i, refl) in now_last (keys ++ more) after n batch at old ps 1 e.id e.name m.0 m.1 now)
      (λ left. let d = left.1 in
      left_last keys more k after n batch at old ps (data_of e.id) 1 e.id e.name have
      (sealing_kept (data_of e.id) refl (d.0, d.1, d.2) (e, i, refl) left.0.1) left.0.0
      (subst (λ z. IsLast keys k old (data_of e.id) 1 e.id z) d.3 (subst (λ z. IsLast keys k old (data_of z) 1 z d.0.name) d.2 (last.folders d.0 d.1))))
      (kept.folders e i)

  file_last : (n batch at : ℕ) (old : List PlacedContent) → HaveKeys keys k → IsKept s t c.wanted ps → AreLast keys s k old → (e : FileEntry) → In e t.files
      → IsLast (keys ++ more) (key_step k (edges s) c ps).after (old ++ new_contents (keys ++ more) (key_step k (edges s) c ps).after.keys n batch at ps) (file_role e.id) 2 e.id (file_text e.name e.bytes)
  unfolding file_role is_sealing_role variant_of
  file_last n batch at old have kept last e i =
      let after = (key_step k (edges s) c ps).after in ⊎_elim
      (λ now. let m = keyed (file_role e.id) (e, i, refl) in now_last (keys ++ more) after n batch at old ps 2 e.id (file_text e.name e.bytes) m.0 m.1 now)
      (λ left. let d = left.1 in
      left_last keys more k after n batch at old ps (file_role e.id) 2 e.id (file_text e.name e.bytes) have
      (sealing_kept (file_role e.id) refl (d.0, d.1, d.2) (e, i, refl) left.0.1) left.0.0
      (subst (λ z. IsLast keys k old (file_role e.id) 2 e.id z) (λ j. file_text (d.3 j) (d.4 j)) (subst (λ z. IsLast keys k old (file_role z) 2 z (file_text d.0.name d.0.bytes)) d.2 (last.files d.0 d.1))))
      (kept.files e i)

  holder_last : (n batch at : ℕ) (old : List PlacedContent) → HaveKeys keys k → IsKept s t c.wanted ps → AreLast keys s k old → (e : HolderEntry) → In e t.holders
      → IsLast (keys ++ more) (key_step k (edges s) c ps).after (old ++ new_contents (keys ++ more) (key_step k (edges s) c ps).after.keys n batch at ps) Owner 3 e.number e.key
  holder_last n batch at old have kept last e i =
      let after = (key_step k (edges s) c ps).after in ⊎_elim
      (λ now. let m = keyed Owner tt in now_last (keys ++ more) after n batch at old ps 3 e.number e.key m.0 m.1 now)
      (λ left. left_last keys more k after n batch at old ps Owner 3 e.number e.key have owner_kept left.0 (last.holders e left.1))
      (kept.holders e i)

  step_contents : (batch at : ℕ) (old : List PlacedContent) → HaveKeys keys k → IsKept s t c.wanted ps → AreLast keys s k old
      → AreLast (keys ++ more) t (key_step k (edges s) c ps).after (old ++ contents_at batch at (map (content_record (keys ++ more)) (key_step k (edges s) c ps).contents))
  unfolding key_step step_with published
  step_contents batch at old have kept last =
      let n = next_serial k + length (given k c (renewed k (edges s) c)) + length (published_edges (edges s) c (renewed k (edges s) c)) in
      record { folders = folder_last n batch at old have kept last; files = file_last n batch at old have kept last; holders = holder_last n batch at old have kept last }

  -- what holds of the records lasts through a step
  pub step_walked : (batch first second : ℕ) (ls : List PlacedLink) (cs : List PlacedContent) → 1 ≤ k.epoch → HaveKeys (keys ++ more) (key_step k (edges s) c ps).after → IsKept s t c.wanted ps
      → ((e : HolderEntry) → In e t.holders → In e s.holders ⊎ IsHolderKeyed more (key_step k (edges s) c ps).after e) → IsWalked keys s k ls cs
      → IsWalked (keys ++ more) t (key_step k (edges s) c ps).after (ls ++ links_at batch first (map (link_record (keys ++ more)) (key_step k (edges s) c ps).links)) (cs ++ contents_at batch second (map (content_record (keys ++ more)) (key_step k (edges s) c ps).contents))
  step_walked batch first second ls cs begun have kept holders is =
      let step = key_step k (edges s) c ps in
      let zero = zero_after begun is.zero in
      record {
        have = have;
        zero = zero;
        each_link = λ p i. ⊎_elim
            (λ old. link_stays keys more p.link (is.each_link p old))
            (λ new. new_links (keys ++ more) step batch first (step_sealable s t k c links ps mv ok once due) have zero p new)
            ((In-append PlacedLink p ls (links_at batch first (map (link_record (keys ++ more)) step.links))).0 i);
        contents_present = step_contents batch second cs is.have kept is.contents_present;
        owner_first = owner_kept ∙ is.owner_first;
        holders_keyed = step_holders is.holders_keyed holders;
      }
