-- The steps of commands in valid journals can be sealed.
use Rattle.std.proofs.Common.{◌≡◌, ◌≢◌, ⊎_elim, inl, inr, ℕ, ◌+◌, ◌≤◌, Bool, true, false, cond, ◌==◌, List, [], ◌∷◌, ◌++◌, length, map, Option, Some, None, arith, refl, sym, ap, subst, ◌∙◌}
use Rattle.std.specs.Prelude.{unwrap_or}
use Rattle.std.proofs.lemmas.Bool.{eqb-true, false≢true}
use Rattle.std.proofs.lemmas.List.{length-map}
use Rattle.cry_base.specs.Clearances.{file_of}
use Rattle.cry_base.specs.Sets.{In}
use Rattle.cry_base.specs.Refusing.{refusal_in}
use Rattle.cry_base.specs.Requests.{Request}
use Rattle.cry_base.specs.Stepping.{effect, without_grant}
use Rattle.cry_base.specs.Store.{Store, FolderEntry, FileEntry, HolderEntry, folder_entry, file_entry, holder_entry}
use Rattle.cry_base.specs.declared.roles.Edge.{Edge}
use Rattle.cry_base.specs.declared.roles.Role.{Role}
use Rattle.cry_base.specs.declared.roles.Role.TheVariants.{Owner}
use Rattle.cry_base.proofs.Finding.{find-found}
use Rattle.cry_base.proofs.Members.{In-append, In-filter, In-map}
use Rattle.role_graph.specs.Ascending.{IsAscending}
use Rattle.role_graph.specs.Edges.{edges, grant_edge, has_grants, IsEdge}
use Rattle.role_graph.specs.Roles.{clear_of, sub_of, back_of, files_of, data_of, file_role, folder_roles, is_root_role, variant_of}
use Rattle.role_graph.proofs.Edging.{edges_told}
use Rattle.role_graph.proofs.Rising.{ascending_ascends, before_self}
use Rattle.role_graph.proofs.RowsOfEdges.{each_edge}
use Rattle.move_plan.specs.Change.{Change, edges_of_first, given_on, no_change, row_change, change_of, taken_from, without_roles}
use Rattle.move_plan.specs.Noting.{note_of}
use Rattle.record_format.specs.Noted.{Note}
use Rattle.record_format.specs.Noted.Note.{Root, NewHolder, NewFolder, NewFile, Rewrite, NameFile, NameFolder, DropFile, DropFolder, ShiftFile, ShiftFolder, Give, Take, StrictRoot, Upgrade}
use Rattle.public_fold.specs.Journal.{Journal, nothing, first_key, note_step, entry_step, stand_after, store_of, keys_of, steps_of}
use Rattle.public_fold.specs.Journal.Entry.{Did}
use Rattle.public_fold.specs.Keyed.{HasRole, KeysHold, links_of}
use Rattle.public_fold.specs.KeyStep.{KeyState, is_strict, content_of, contents_from, edges_then, given, is_published, key_step, keys_then, link_of, links_from, newest, next_serial, numbered, present, published, published_edges, renewed, step_with}
use Rattle.public_fold.specs.Records.{Content, Link, Piece, file_piece, folder_piece, holder_piece, pieces_of, sealing_role}
use Rattle.public_fold.specs.Valid.{IsValid}
use Rattle.public_fold.proofs.EdgesThen.{then_told}
use Rattle.public_fold.proofs.KeepingKeys.{IsMove, keys_after, renewed_stands}
use Rattle.public_fold.proofs.KeyMoves.{command_moves, journal_holds, journal_sound}
use Rattle.public_fold.proofs.Numbers.{journal_numbers}
use Rattle.public_fold.proofs.Serials.{numbered-length}
use Rattle.journal_bytes.specs.Sealing.{EachOnce, IsSealable}
use Rattle.journal_bytes.proofs.StepKeys.{numbered-roles}

-- ---- each role once

once_append : (xs ys : List Role) → EachOnce xs → EachOnce ys → ((r : Role) → In r xs → In r ys → ⊥) → EachOnce (xs ++ ys)
once_append [] ys first more apart = more
once_append (x ∷ xs) ys first more apart = (
  λ i. ⊎_elim (λ u. first.0 u) (λ v. apart x (inl refl) v) ((In-append Role x xs ys).0 i),
  once_append xs ys first.1 more (λ r u v. apart r (inr u) v),
)

pub ascending_once : (rs : List Role) → IsAscending rs → EachOnce rs
ascending_once [] up = tt
ascending_once (r ∷ rs) up = (λ i. before_self r (up.0 r i), ascending_once rs up.1)

folder_once : (f : ℕ) → EachOnce (folder_roles f)
unfolding folder_roles clear_of sub_of back_of files_of data_of variant_of
folder_once f =
    let differ : (a b : Role) → (variant_of a ≡ variant_of b → ⊥) → a ≡ b → ⊥ = λ a b n e. n (ap variant_of e) in
    let clear : In (clear_of f) (sub_of f ∷ back_of f ∷ files_of f ∷ data_of f ∷ []) → ⊥ = (⊎_elim (differ (clear_of f) (sub_of f) (λ (h : 2 ≡ 3). omega arith)) (⊎_elim (differ (clear_of f) (back_of f) (λ (h : 2 ≡ 4). omega arith)) (⊎_elim (differ (clear_of f) (files_of f) (λ (h : 2 ≡ 5). omega arith)) (⊎_elim (differ (clear_of f) (data_of f) (λ (h : 2 ≡ 6). omega arith)) (λ n. n))))) in
    let sub : In (sub_of f) (back_of f ∷ files_of f ∷ data_of f ∷ []) → ⊥ = (⊎_elim (differ (sub_of f) (back_of f) (λ (h : 3 ≡ 4). omega arith)) (⊎_elim (differ (sub_of f) (files_of f) (λ (h : 3 ≡ 5). omega arith)) (⊎_elim (differ (sub_of f) (data_of f) (λ (h : 3 ≡ 6). omega arith)) (λ n. n)))) in
    let back : In (back_of f) (files_of f ∷ data_of f ∷ []) → ⊥ = (⊎_elim (differ (back_of f) (files_of f) (λ (h : 4 ≡ 5). omega arith)) (⊎_elim (differ (back_of f) (data_of f) (λ (h : 4 ≡ 6). omega arith)) (λ n. n))) in
    let files : In (files_of f) (data_of f ∷ []) → ⊥ = (⊎_elim (differ (files_of f) (data_of f) (λ (h : 5 ≡ 6). omega arith)) (λ n. n)) in
    let data_last : In (data_of f) [] → ⊥ = (λ n. n) in
    (clear, (sub, (back, (files, (data_last, tt)))))

-- one of two changes brings no role twice, where neither does
chosen_once : (b : Bool) (c d : Change) → EachOnce c.fresh → EachOnce d.fresh → EachOnce (cond b c d).fresh
chosen_once true c d first second = first
chosen_once false c d first second = second

given_once_on : (s : Store) (h f : ℕ) (file : Option ℕ) → EachOnce (given_on s h f file).fresh
unfolding given_on no_change
given_once_on s h f None = tt
given_once_on s h f (Some x) =
    chosen_once (has_grants s f) (record no_change { added = grant_edge h f ∷ [] }) (record no_change { fresh = clear_of f ∷ []; added = edges_of_first s h x }) tt (λ i. i, tt)

taken_once_from : (s : Store) (h f : ℕ) (file : Option ℕ) → EachOnce (taken_from s h f file).fresh
unfolding taken_from without_roles no_change
taken_once_from s h f None = tt
taken_once_from s h f (Some x) =
    chosen_once (has_grants (without_grant s h f) f) (record no_change { removed = grant_edge h f ∷ []; wanted = clear_of f ∷ [] }) (without_roles s (clear_of f ∷ [])) tt tt

-- no note brings a role twice
row_once : (s : Store) (note : Note) → EachOnce (row_change s note).fresh
unfolding row_change without_roles no_change
row_once s Root = folder_once 1
row_once s (NewHolder h check) = (λ i. i, tt)
row_once s (NewFolder f p) = folder_once f
row_once s (NewFile x f) = (λ i. i, tt)
row_once s (Rewrite x) = tt
row_once s (NameFile x) = tt
row_once s (NameFolder f) = tt
row_once s (DropFile x) = tt
row_once s (DropFolder f) = tt
row_once s (ShiftFile x g) = tt
row_once s (ShiftFolder g q) = tt
row_once s (Give h f) = given_once_on s h f (file_of f)
row_once s (Take h f) = taken_once_from s h f (file_of f)
row_once s StrictRoot = folder_once 1
row_once s Upgrade = tt

pub fresh_once : (strict : Bool) (s : Store) (note : Note) → EachOnce (change_of strict s note).fresh
unfolding change_of
fresh_once strict s note = row_once s note

-- ---- what is sealed

-- the piece's key is that of a role that stands, and its kind is one of three
pub record IsPiece (t : Store) (p : Piece) : Type 0 where
  pub stands : HasRole t (sealing_role p)
  pub kind_from_one : 1 ≤ p.kind
  pub kind_to_three : p.kind ≤ 3

-- one piece at most, and each is one
abbrev pub ArePieces : Store → List Piece → Type 0
ArePieces t ps = (length ps ≤ 1) × ((p : Piece) → In p ps → IsPiece t p)

none_due : (t : Store) → ArePieces t []
none_due t = (omega arith, λ p i. absurd i)

one_due : (t : Store) (p : Piece) → IsPiece t p → ArePieces t (p ∷ [])
one_due t p is = (omega arith, λ q i. ⊎_elim (λ (e : q ≡ p). subst (IsPiece t) (sym e) is) (λ n. absurd n) i)

folder_due : (t : Store) (f : ℕ) → ArePieces t (folder_piece t f)
unfolding folder_piece folder_entry sealing_role data_of
folder_due t f =
    (elim (folder_entry t f) as (λ (o : Option FolderEntry). folder_entry t f ≡ o → ArePieces t (elim o [ None ↦ [] | Some e ↦ record { kind = 1; object = f; name = e.name; bytes = [] } ∷ [] ])) [
      | None ↦ λ is. none_due t
      | Some e ↦ λ is. let there = find-found FolderEntry (λ x. x.id == f) t.folders e is in
          one_due t (record { kind = 1; object = f; name = e.name; bytes = [] })
          (record { stands = (e, there.0, eqb-true e.id f there.1); kind_from_one = omega arith; kind_to_three = omega arith })
    ]) refl

file_due : (t : Store) (x : ℕ) → ArePieces t (file_piece t x)
unfolding file_piece file_entry sealing_role file_role
file_due t x =
    (elim (file_entry t x) as (λ (o : Option FileEntry). file_entry t x ≡ o → ArePieces t (elim o [ None ↦ [] | Some e ↦ record { kind = 2; object = x; name = e.name; bytes = e.bytes } ∷ [] ])) [
      | None ↦ λ is. none_due t
      | Some e ↦ λ is. let there = find-found FileEntry (λ y. y.id == x) t.files e is in
          one_due t (record { kind = 2; object = x; name = e.name; bytes = e.bytes })
          (record { stands = (e, there.0, eqb-true e.id x there.1); kind_from_one = omega arith; kind_to_three = omega arith })
    ]) refl

holder_due : (t : Store) (h : ℕ) → ArePieces t (holder_piece t h)
unfolding holder_piece sealing_role
holder_due t h =
    elim (holder_entry t h) as (λ (o : Option HolderEntry). ArePieces t (elim o [ None ↦ [] | Some e ↦ record { kind = 3; object = h; name = []; bytes = e.key } ∷ [] ])) [
      | None ↦ none_due t
      | Some e ↦ one_due t (record { kind = 3; object = h; name = []; bytes = e.key }) (record { stands = tt; kind_from_one = omega arith; kind_to_three = omega arith })
    ]

pub pieces_due : (note : Note) (t : Store) → ArePieces t (pieces_of note t)
unfolding pieces_of
pieces_due Root t = folder_due t 1
pieces_due (NewHolder h check) t = holder_due t h
pieces_due (NewFolder f p) t = folder_due t f
pieces_due (NewFile x f) t = file_due t x
pieces_due (Rewrite x) t = file_due t x
pieces_due (NameFile x) t = file_due t x
pieces_due (NameFolder f) t = folder_due t f
pieces_due (DropFile x) t = none_due t
pieces_due (DropFolder f) t = none_due t
pieces_due (ShiftFile x g) t = none_due t
pieces_due (ShiftFolder g q) t = none_due t
pieces_due (Give h f) t = none_due t
pieces_due (Take h f) t = none_due t
pieces_due StrictRoot t = folder_due t 1
pieces_due Upgrade t = none_due t

-- ---- a step that moves one store to another

numbered-fst : (X : Type 0) (n : ℕ) (xs : List X) (q : X × ℕ) → In q (numbered n xs) → In q.0 xs
unfolding numbered
numbered-fst X n [] q i = absurd i
numbered-fst X n (x ∷ xs) q i = ⊎_elim (λ (e : q ≡ (x, n)). inl (ap (λ (z : X × ℕ). z.0) e)) (λ u. inr (numbered-fst X (n + 1) xs q u)) i

pub present_is : (keys : List (Role × ℕ)) (r : Role) (n : ℕ) → newest keys r ≡ Some n → newest keys r ≡ Some (present keys r)
unfolding present
present_is keys r n e = e ∙ ap Some (sym (ap (λ o. unwrap_or o 0) e))

pub link_from : (keys : List (Role × ℕ)) (n : ℕ) (es : List Edge) (l : Link) → In l (links_from keys n es) → In l.edge es × (l.from_serial ≡ present keys l.edge.from) × (l.to_serial ≡ present keys l.edge.to)
unfolding links_from link_of
link_from keys n es l i =
    let w = (In-map (Edge × ℕ) Link (link_of keys) l (numbered n es)).0 i in
    let edge : l.edge ≡ w.0.0 = ap (λ (x : Link). x.edge) w.2 in (
      subst (λ e. In e es) (sym edge) (numbered-fst Edge n es w.0 w.1),
      ap (λ (x : Link). x.from_serial) w.2 ∙ ap (λ (e : Edge). present keys e.from) (sym edge),
      ap (λ (x : Link). x.to_serial) w.2 ∙ ap (λ (e : Edge). present keys e.to) (sym edge),
    )

pub content_from : (keys : List (Role × ℕ)) (n : ℕ) (ps : List Piece) (c : Content) → In c (contents_from keys n ps) → In c.piece ps × (c.key_serial ≡ present keys (sealing_role c.piece))
unfolding contents_from content_of
content_from keys n ps c i =
    let w = (In-map (Piece × ℕ) Content (content_of keys) c (numbered n ps)).0 i in
    let piece : c.piece ≡ w.0.0 = ap (λ (x : Content). x.piece) w.2 in (
      subst (λ p. In p ps) (sym piece) (numbered-fst Piece n ps w.0 w.1),
      ap (λ (x : Content). x.key_serial) w.2 ∙ ap (λ (p : Piece). present keys (sealing_role p)) (sym piece),
    )

module _ (s t : Store) (k : KeyState) (c : Change) (links : List Link) (pieces : List Piece) (mv : IsMove s c t) (ok : KeysHold s k links) (once : EachOnce c.fresh) (due : ArePieces t pieces) where
  roles_once : EachOnce (renewed k (edges s) c ++ c.fresh)
  unfolding renewed
  roles_once =
      once_append (renewed k (edges s) c) c.fresh (ascending_once (renewed k (edges s) c) (ascending_ascends _)) once
      (λ r i j. mv.fresh_is_new r j (renewed_stands s t k c links mv ok r i).0)

  not_owner : (r : Role) → In r (renewed k (edges s) c ++ c.fresh) → r ≢ Owner
  unfolding is_root_role variant_of
  not_owner r i e =
      ⊎_elim
      (λ u. false≢true (sym (renewed_stands s t k c links mv ok r u).1.1 ∙ ap is_root_role e))
      (λ v. mv.fresh_is_new Owner (subst (λ x. In x c.fresh) e v) tt)
      ((In-append Role r (renewed k (edges s) c) c.fresh).0 i)

  edge_stands : (e : Edge) → In e (published_edges (edges s) c (renewed k (edges s) c)) → IsEdge t e
  unfolding published_edges
  edge_stands e i = (mv.leads e).0 ((then_told s c e).0 (In-filter Edge (is_published c (renewed k (edges s) c)) e (edges_then (edges s) c) i).0)

  keyed : (r : Role) → HasRole t r → newest (key_step k (edges s) c pieces).after.keys r ≡ Some (present (key_step k (edges s) c pieces).after.keys r)
  keyed r stands =
      let has = ((keys_after s t k c links mv ok pieces).keyed r).0 stands in
      present_is (key_step k (edges s) c pieces).after.keys r has.0 has.1

  links_told : (l : Link) → In l (key_step k (edges s) c pieces).links → IsEdge t l.edge × (l.from_serial ≡ present (key_step k (edges s) c pieces).after.keys l.edge.from) × (l.to_serial ≡ present (key_step k (edges s) c pieces).after.keys l.edge.to)
  unfolding key_step step_with published
  links_told l i =
      let plan_of = renewed k (edges s) c in
      let w = link_from (keys_then k c plan_of) (next_serial k + length (given k c plan_of)) (published_edges (edges s) c plan_of) l i in
      (edge_stands l.edge w.0, w.1, w.2)

  contents_told : (x : Content) → In x (key_step k (edges s) c pieces).contents → IsPiece t x.piece × (x.key_serial ≡ present (key_step k (edges s) c pieces).after.keys (sealing_role x.piece))
  unfolding key_step step_with published
  contents_told x i =
      let plan_of = renewed k (edges s) c in
      let w = content_from (keys_then k c plan_of) (next_serial k + length (given k c plan_of) + length (published_edges (edges s) c plan_of)) pieces x i in
      (due.1 x.piece w.0, w.1)

  given_roles : map (λ (key : Role × ℕ). key.0) (key_step k (edges s) c pieces).given ≡ renewed k (edges s) c ++ c.fresh
  unfolding key_step step_with published given
  given_roles = numbered-roles (next_serial k) (renewed k (edges s) c ++ c.fresh)

  few_contents : length (key_step k (edges s) c pieces).contents ≤ 1
  unfolding key_step step_with published contents_from
  few_contents =
      let plan_of = renewed k (edges s) c in
      let n = next_serial k + length (given k c plan_of) + length (published_edges (edges s) c plan_of) in
      let many : length (map (content_of (keys_then k c plan_of)) (numbered n pieces)) ≡ length pieces = length-map (numbered n pieces) _ ∙ numbered-length Piece n pieces in
      let few = due.0 in omega (arith, many, few)

  pub step_sealable : IsSealable (key_step k (edges s) c pieces)
  step_sealable = record {
    given_once = subst EachOnce (sym given_roles) roles_once;
    no_owner = λ key i.
        not_owner key.0 (subst (In key.0) given_roles ((In-map (Role × ℕ) Role (λ x. x.0) key.0 (key_step k (edges s) c pieces).given).1 (key, i, refl)));
    tabled = λ l i. each_edge t l.edge ((edges_told t l.edge).1 (links_told l i).0);
    sources = λ l i. let w = links_told l i in keyed l.edge.from (mv.ends_after l.edge w.0).0 ∙ ap Some (sym w.1);
    targets = λ l i. let w = links_told l i in keyed l.edge.to (mv.ends_after l.edge w.0).1 ∙ ap Some (sym w.2);
    one_content = few_contents;
    kinds = λ x i. let p = (contents_told x i).0 in (p.kind_from_one, p.kind_to_three);
    sealing = λ x i. let w = contents_told x i in keyed (sealing_role x.piece) w.0.stands ∙ ap Some (sym w.1);
  }

-- ---- in journals

pub command_sealable : (m : Journal) → IsValid m → (request : Request) (drawn : List (List ℕ)) (file_bytes : ℕ) → refusal_in (is_strict (keys_of m)) (store_of m) request file_bytes ≡ None
    → IsSealable (entry_step (stand_after nothing m) (Did request drawn))
unfolding entry_step note_step store_of keys_of steps_of
command_sealable m valid request drawn file_bytes none =
    let at = stand_after nothing m in
    let note = note_of at.store request [] in
    let t = effect at.store request (first_key drawn) in
    step_sealable at.store t at.keys (change_of (is_strict at.keys) at.store note) (links_of (steps_of m)) (pieces_of note t)
    (command_moves (is_strict at.keys) at.store request (first_key drawn) [] file_bytes none (journal_numbers m valid) (journal_sound m valid)) (journal_holds m valid) (fresh_once (is_strict at.keys) at.store note) (pieces_due note t)
