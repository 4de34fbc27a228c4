-- The edges at a role that are at the clearance keys of files.
use Rattle.std.proofs.Common.{◌≡◌, ℕ, ◌^◌, ◌<◌, ◌≤◌, Bool, true, false, cond, ◌==◌, ◌||◌, List, [], ◌∷◌, ◌++◌, map, filter, find, Option, Some, None, inl, inr, refl, sym, ap, ◌∙◌, arith, append-nil}
use Rattle.std.specs.List.{flat_map, list_any}
use Rattle.std.proofs.lemmas.Bool.{eqb-true, eq-eqb, ne_eqb, false≢true}
use Rattle.std.proofs.lemmas.List.Elements.{filter-append}
use Rattle.cry_base.specs.Clearances.{clear_base, clear_number}
use Rattle.cry_base.specs.Sets.{In}
use Rattle.cry_base.specs.Store.{Store, FileEntry, GrantEntry, file_entry}
use Rattle.cry_base.specs.declared.ids.FileId.{FileId}
use Rattle.cry_base.specs.declared.ids.FolderId.{FolderId}
use Rattle.cry_base.specs.declared.ids.HolderId.{HolderId}
use Rattle.cry_base.specs.declared.roles.Edge.{Edge}
use Rattle.cry_base.specs.declared.roles.Role.{Role}
use Rattle.cry_base.specs.declared.roles.Role.TheVariants.{Owner, Holder, Clear, Sub, Back, Files, Data, File}
use Rattle.cry_base.proofs.Finding.{find-found}
use Rattle.folder_nodes.specs.Bare.{file_of_row}
use Rattle.folder_nodes.specs.Inside.{AreListed, is_file_of}
use Rattle.folder_nodes.specs.Looking.{folder_id_of}
use Rattle.folder_nodes.specs.Trees.{IsTree}
use Rattle.folder_nodes.specs.declared.rows.FileRow.{FileRow}
use Rattle.role_graph.specs.Adjacent.{clearances, into, out_of, plain_edges}
use Rattle.role_graph.specs.Edges.{clearance_edges, edge, has_grants, unordered}
use Rattle.role_graph.specs.PublicStore.{public_store}
use Rattle.role_graph.specs.Roles.{back_of, clear_of, file_role, role_id, same_role, variant_of}
use Rattle.role_graph.proofs.Adding.{flat_map_map}
use Rattle.role_graph.proofs.AtRoles.{ByNumber, files_listed, flat_alike, flat_filtered, flat_none, given, no_edges, only}

-- the edges at a role are the plain ones and those at clearances
pub from_both : (s : Store) (r : Role) → out_of (plain_edges s) r ++ out_of (clearances s) r ≡ out_of (unordered s) r
unfolding out_of plain_edges clearances unordered
from_both s r = sym (filter-append (λ (e : Edge). same_role e.from r) (plain_edges s) (clearances s))

pub into_both : (s : Store) (r : Role) → into (plain_edges s) r ++ into (clearances s) r ≡ into (unordered s) r
unfolding into plain_edges clearances unordered
into_both s r = sym (filter-append (λ (e : Edge). same_role e.to r) (plain_edges s) (clearances s))

-- ---- those of the files that pass

filter_cond : (p : Edge → Bool) (b : Bool) (l : List Edge) → filter p (cond b l []) ≡ cond b (filter p l) []
filter_cond p true l = refl
filter_cond p false l = refl

by_file : (p : Edge → Bool) (s : Store) → filter p (clearances s) ≡ flat_map (λ (e : FileEntry). cond (has_grants s (clear_number e.id)) (filter p (clearance_edges e.folder e.id)) []) s.files
unfolding clearances
by_file p s =
    flat_filtered FileEntry p (λ e. cond (has_grants s (clear_number e.id)) (clearance_edges e.folder e.id) []) s.files
    ∙ flat_alike FileEntry (λ e. filter p (cond (has_grants s (clear_number e.id)) (clearance_edges e.folder e.id) []))
    (λ e. cond (has_grants s (clear_number e.id)) (filter p (clearance_edges e.folder e.id)) [])
    (λ e. filter_cond p (has_grants s (clear_number e.id)) (clearance_edges e.folder e.id)) s.files

nothing_if : (b : Bool) → cond b no_edges no_edges ≡ no_edges
nothing_if true = refl
nothing_if false = refl

none_of : (p : Edge → Bool) (s : Store) → ((f x : ℕ) → filter p (clearance_edges f x) ≡ []) → filter p (clearances s) ≡ []
none_of p s none =
    by_file p s
    ∙ flat_alike FileEntry (λ e. cond (has_grants s (clear_number e.id)) (filter p (clearance_edges e.folder e.id)) []) (λ e. no_edges)
    (λ e. ap (λ l. cond (has_grants s (clear_number e.id)) l no_edges) (none e.folder e.id) ∙ nothing_if (has_grants s (clear_number e.id))) s.files
    ∙ flat_none FileEntry s.files

swapped : (q b : Bool) (l : List Edge) → cond q (cond b l []) [] ≡ cond b (cond q l []) []
swapped true b l = refl
swapped false true l = refl
swapped false false l = refl

-- where one file passes, whose number is told
at_file : (s : Store) (p : Edge → Bool) (id : FileEntry → ℕ) (n : ℕ) (h : FileEntry → List Edge) → ByNumber FileEntry id s.files
    → ((e : FileEntry) → filter p (clearance_edges e.folder e.id) ≡ cond (id e == n) (h e) [])
    → filter p (clearances s) ≡ given FileEntry (λ e. cond (has_grants s (clear_number e.id)) (h e) []) (find (λ e. id e == n) s.files)
at_file s p id n h up is =
    by_file p s
    ∙ flat_alike FileEntry (λ e. cond (has_grants s (clear_number e.id)) (filter p (clearance_edges e.folder e.id)) []) (λ e. cond (id e == n) (cond (has_grants s (clear_number e.id)) (h e) []) [])
    (λ e. ap (λ l. cond (has_grants s (clear_number e.id)) l no_edges) (is e) ∙ swapped (has_grants s (clear_number e.id)) (id e == n) (h e)) s.files
    ∙ only FileEntry id (λ e. cond (has_grants s (clear_number e.id)) (h e) []) n s.files up

-- what the file with a number gives
abbrev at_entry : Store → (FileEntry → List Edge) → Option FileEntry → List Edge
at_entry s h o = given FileEntry (λ e. cond (has_grants s (clear_number e.id)) (h e) []) o

entry_told : (s : Store) (x : ℕ) (e : FileEntry) → file_entry s x ≡ Some e → e.id ≡ x
unfolding file_entry
entry_told s x e p = eqb-true e.id x (find-found FileEntry (λ (z : FileEntry). z.id == x) s.files e p).1

no_file : (s : Store) (h : FileEntry → List Edge) (o : Option FileEntry) → folder_id_of o ≡ None → at_entry s h o ≡ []
no_file s h None p = refl
no_file s h (Some e) p = absurd cc

no_grant : (s : Store) (x : ℕ) (h : FileEntry → List Edge) → has_grants s (clear_number x) ≡ false → (o : Option FileEntry) → file_entry s x ≡ o → at_entry s h o ≡ []
no_grant s x h none None p = refl
no_grant s x h none (Some e) p =
    ap (λ b. cond b (h e) no_edges) (ap (λ n. has_grants s (clear_number n)) (entry_told s x e p) ∙ none)

granted_file : (s : Store) (x : ℕ) (f : FolderId) (h : FileEntry → List Edge) (l : List Edge) → has_grants s (clear_number x) ≡ true
    → ((e : FileEntry) → e.id ≡ x → e.folder ≡ f.0 → h e ≡ l) → (o : Option FileEntry) → file_entry s x ≡ o → folder_id_of o ≡ Some f → at_entry s h o ≡ l
granted_file s x f h l granted is None p q = absurd cc
granted_file s x f h l granted is (Some e) p q =
    let id = entry_told s x e p in
    let same : record { 0 = e.folder } ≡ f = cc in
    ap (λ b. cond b (h e) no_edges) (ap (λ n. has_grants s (clear_number n)) id ∙ granted) ∙ is e id (ap (λ (z : FolderId). z.0) same)

-- ---- by clearance number

cleared_ascend : (s : Store) → IsTree s → ByNumber FileEntry (λ e. clear_number e.id) s.files
cleared_ascend s tree i j d lt within = let less = tree.files_ascend i j d lt within in omega (arith, less)

find_none : (test : FileEntry → Bool) → ((e : FileEntry) → test e ≡ false) → (xs : List FileEntry) → find test xs ≡ None
find_none test none [] = refl
find_none test none (x ∷ xs) = ap (λ b. cond b (Some x) (find test xs)) (none x) ∙ find_none test none xs

find_alike : (p q : FileEntry → Bool) → ((e : FileEntry) → p e ≡ q e) → (xs : List FileEntry) → find p xs ≡ find q xs
find_alike p q same [] = refl
find_alike p q same (x ∷ xs) = λ i. cond (same x i) (Some x) (find_alike p q same xs i)

same_test : (n x : ℕ) → (clear_number n == clear_number x) ≡ (n == x)
same_test n x = (elim (n == x) as (λ b. n == x ≡ b → (clear_number n == clear_number x) ≡ b) [
  | true ↦ λ t. eq-eqb (clear_number n) (clear_number x) (ap (λ k. clear_number k) (eqb-true n x t))
  | false ↦ λ t. ne_eqb (clear_number n) (clear_number x) (λ e. let same : n ≡ x = omega (arith, e) in false≢true (sym t ∙ eq-eqb n x same))
]) refl

none_below : (s : Store) (c : ℕ) → c < clear_base → find (λ (e : FileEntry). clear_number e.id == c) s.files ≡ None
none_below s c low = find_none (λ e. clear_number e.id == c) (λ e. ne_eqb (clear_number e.id) c (λ same. omega (arith, same, low))) s.files

one_cleared : (s : Store) (c x : ℕ) → c ≡ clear_number x → find (λ (e : FileEntry). clear_number e.id == c) s.files ≡ file_entry s x
unfolding file_entry
one_cleared s c x is =
    ap (λ n. find (λ (e : FileEntry). clear_number e.id == n) s.files) is
    ∙ find_alike (λ e. clear_number e.id == clear_number x) (λ e. e.id == x) (λ e. same_test e.id x) s.files

both : (b : Bool) (x y : Edge) → cond b (x ∷ cond b (y ∷ []) []) (cond b (y ∷ []) []) ≡ cond b (x ∷ y ∷ []) []
both true x y = refl
both false x y = refl

abbrev out_edges : FileEntry → List Edge
out_edges e = edge 10 (clear_of (clear_number e.id)) (file_role e.id) ∷ edge 11 (clear_of (clear_number e.id)) (back_of e.folder) ∷ []

abbrev in_edges : FileEntry → List Edge
in_edges e = edge 1 Owner (clear_of (clear_number e.id)) ∷ []

from_clear : (s : Store) → IsTree s → (c : FolderId) → out_of (clearances s) (Clear c) ≡ at_entry s out_edges (find (λ (e : FileEntry). clear_number e.id == c.0) s.files)
unfolding out_of clearance_edges edge same_role variant_of role_id clear_of back_of file_role
from_clear s tree c =
    at_file s (λ (e : Edge). same_role e.from (Clear c)) (λ e. clear_number e.id) c.0 out_edges (cleared_ascend s tree)
    (λ e. both (clear_number e.id == c.0) (edge 10 (clear_of (clear_number e.id)) (file_role e.id)) (edge 11 (clear_of (clear_number e.id)) (back_of e.folder)))

into_clear : (s : Store) → IsTree s → (c : FolderId) → into (clearances s) (Clear c) ≡ at_entry s in_edges (find (λ (e : FileEntry). clear_number e.id == c.0) s.files)
unfolding into clearance_edges edge same_role variant_of role_id clear_of back_of file_role
into_clear s tree c =
    at_file s (λ (e : Edge). same_role e.to (Clear c)) (λ e. clear_number e.id) c.0 in_edges (cleared_ascend s tree) (λ e. refl)

into_file : (s : Store) → IsTree s → (x : FileId) → into (clearances s) (File x) ≡ at_entry s (λ e. edge 10 (clear_of (clear_number e.id)) (file_role e.id) ∷ []) (file_entry s x.0)
unfolding into file_entry clearance_edges edge same_role variant_of role_id clear_of back_of file_role
into_file s tree x =
    at_file s (λ (e : Edge). same_role e.to (File x)) (λ e. e.id) x.0 (λ e. edge 10 (clear_of (clear_number e.id)) (file_role e.id) ∷ []) tree.files_ascend (λ e. refl)

-- ---- what the code finds

module _ (t : Store) (gs : List GrantEntry) (tree : IsTree (public_store t gs)) where
  s : Store
  s = public_store t gs

  abbrev is_granted : ℕ → Bool
  is_granted c = list_any (λ (g : GrantEntry). g.folder == c) gs

  granted_is : (b : Bool) (c x : ℕ) → is_granted c ≡ b → c ≡ clear_number x → has_grants s (clear_number x) ≡ b
  unfolding s has_grants
  granted_is b c x g e = ap (λ n. is_granted n) (sym e) ∙ g

  folder_is : (x : ℕ) (o : Option FolderId) → o ≡ folder_id_of (file_entry t x) → folder_id_of (file_entry s x) ≡ o
  unfolding s file_entry
  folder_is x o e = sym e

  pub low_from : (c : FolderId) → c.0 < clear_base → out_of (clearances (public_store t gs)) (Clear c) ≡ []
  unfolding s
  low_from c low = from_clear s tree c ∙ ap (at_entry s out_edges) (none_below s c.0 low)

  pub low_into : (c : FolderId) → c.0 < clear_base → into (clearances (public_store t gs)) (Clear c) ≡ []
  unfolding s
  low_into c low = into_clear s tree c ∙ ap (at_entry s in_edges) (none_below s c.0 low)

  pub lone_from : (c : FolderId) (x : FileId) → c.0 ≡ clear_number x.0 → is_granted c.0 ≡ false → out_of (clearances (public_store t gs)) (Clear c) ≡ []
  unfolding s
  lone_from c x is none =
      from_clear s tree c ∙ ap (at_entry s out_edges) (one_cleared s c.0 x.0 is)
      ∙ no_grant s x.0 out_edges (granted_is false c.0 x.0 none is) (file_entry s x.0) refl

  pub lone_into : (c : FolderId) (x : FileId) → c.0 ≡ clear_number x.0 → is_granted c.0 ≡ false → into (clearances (public_store t gs)) (Clear c) ≡ []
  unfolding s
  lone_into c x is none =
      into_clear s tree c ∙ ap (at_entry s in_edges) (one_cleared s c.0 x.0 is)
      ∙ no_grant s x.0 in_edges (granted_is false c.0 x.0 none is) (file_entry s x.0) refl

  pub gone_from : (c : FolderId) (x : FileId) → c.0 ≡ clear_number x.0 → None ≡ folder_id_of (file_entry t x.0) → out_of (clearances (public_store t gs)) (Clear c) ≡ []
  unfolding s
  gone_from c x is none =
      from_clear s tree c ∙ ap (at_entry s out_edges) (one_cleared s c.0 x.0 is)
      ∙ no_file s out_edges (file_entry s x.0) (folder_is x.0 None none)

  pub gone_into : (c : FolderId) (x : FileId) → c.0 ≡ clear_number x.0 → None ≡ folder_id_of (file_entry t x.0) → into (clearances (public_store t gs)) (Clear c) ≡ []
  unfolding s
  gone_into c x is none =
      into_clear s tree c ∙ ap (at_entry s in_edges) (one_cleared s c.0 x.0 is)
      ∙ no_file s in_edges (file_entry s x.0) (folder_is x.0 None none)

  pub cleared_from : (c : FolderId) (x : FileId) (f : FolderId) → c.0 ≡ clear_number x.0 → is_granted c.0 ≡ true → Some f ≡ folder_id_of (file_entry t x.0)
      → out_of (clearances (public_store t gs)) (Clear c) ≡ edge 10 (clear_of c.0) (file_role x.0) ∷ edge 11 (clear_of c.0) (back_of f.0) ∷ []
  unfolding s
  cleared_from c x f is granted stands =
      from_clear s tree c ∙ ap (at_entry s out_edges) (one_cleared s c.0 x.0 is)
      ∙ granted_file s x.0 f out_edges (edge 10 (clear_of c.0) (file_role x.0) ∷ edge 11 (clear_of c.0) (back_of f.0) ∷ []) (granted_is true c.0 x.0 granted is)
      (λ e id folder i. edge 10 (clear_of ((ap (λ n. clear_number n) id ∙ sym is) i)) (file_role (id i)) ∷ edge 11 (clear_of ((ap (λ n. clear_number n) id ∙ sym is) i)) (back_of (folder i)) ∷ [])
      (file_entry s x.0) refl (folder_is x.0 (Some f) stands)

  pub cleared_into : (c : FolderId) (x : FileId) (f : FolderId) → c.0 ≡ clear_number x.0 → is_granted c.0 ≡ true → Some f ≡ folder_id_of (file_entry t x.0)
      → into (clearances (public_store t gs)) (Clear c) ≡ edge 1 Owner (clear_of c.0) ∷ []
  unfolding s
  cleared_into c x f is granted stands =
      into_clear s tree c ∙ ap (at_entry s in_edges) (one_cleared s c.0 x.0 is)
      ∙ granted_file s x.0 f in_edges (edge 1 Owner (clear_of c.0) ∷ []) (granted_is true c.0 x.0 granted is)
      (λ e id folder i. edge 1 Owner (clear_of ((ap (λ n. clear_number n) id ∙ sym is) i)) ∷ [])
      (file_entry s x.0) refl (folder_is x.0 (Some f) stands)

  -- into a file's key
  abbrev file_edges : FileEntry → List Edge
  file_edges e = edge 10 (clear_of (clear_number e.id)) (file_role e.id) ∷ []

  pub lone_file : (x : FileId) → is_granted (clear_number x.0) ≡ false → into (clearances (public_store t gs)) (File x) ≡ []
  unfolding s
  lone_file x none = into_file s tree x ∙ no_grant s x.0 file_edges (granted_is false (clear_number x.0) x.0 none refl) (file_entry s x.0) refl

  pub gone_file : (x : FileId) → None ≡ folder_id_of (file_entry t x.0) → into (clearances (public_store t gs)) (File x) ≡ []
  unfolding s
  gone_file x none = into_file s tree x ∙ no_file s file_edges (file_entry s x.0) (folder_is x.0 None none)

  pub cleared_file : (x : FileId) (c f : FolderId) → c.0 ≡ clear_number x.0 → is_granted (clear_number x.0) ≡ true → Some f ≡ folder_id_of (file_entry t x.0)
      → into (clearances (public_store t gs)) (File x) ≡ edge 10 (clear_of c.0) (file_role x.0) ∷ []
  unfolding s
  cleared_file x c f is granted stands =
      into_file s tree x
      ∙ granted_file s x.0 f file_edges (edge 10 (clear_of c.0) (file_role x.0) ∷ []) (granted_is true (clear_number x.0) x.0 granted refl)
      (λ e id folder i. edge 10 (clear_of ((ap (λ n. clear_number n) id ∙ sym is) i)) (file_role (id i)) ∷ [])
      (file_entry s x.0) refl (folder_is x.0 (Some f) stands)

  -- out of the owner's key
  pub owner_from : (rows : List FileRow) → map file_of_row rows ≡ t.files
      → flat_map (λ (r : FileRow). cond (is_granted (clear_number r.id.0)) (edge 1 Owner (clear_of (clear_number r.id.0)) ∷ []) []) rows ≡ out_of (clearances (public_store t gs)) Owner
  unfolding s out_of has_grants clearance_edges edge same_role variant_of role_id clear_of back_of file_role
  owner_from rows are = sym (
      by_file (λ (e : Edge). same_role e.from Owner) s
      ∙ ap (flat_map (λ (e : FileEntry). cond (is_granted (clear_number e.id)) (edge 1 Owner (clear_of (clear_number e.id)) ∷ []) [])) (sym are)
      ∙ flat_map_map FileRow FileEntry Edge (λ e. cond (is_granted (clear_number e.id)) (edge 1 Owner (clear_of (clear_number e.id)) ∷ []) []) file_of_row rows)

  -- into a backlink key
  back_edges : ℕ → ℕ → List Edge
  back_edges f x = cond (is_granted (clear_number x)) (edge 11 (clear_of (clear_number x)) (back_of f) ∷ []) []

  back_kept : (f : ℕ) (xs : List FileEntry) → flat_map (λ (e : FileEntry). cond (is_granted (clear_number e.id)) (cond (e.folder == f) (edge 11 (clear_of (clear_number e.id)) (back_of e.folder) ∷ []) []) []) xs
      ≡ flat_map (back_edges f) (map (λ (e : FileEntry). e.id) (filter (λ (e : FileEntry). e.folder == f) xs))
  unfolding back_edges
  back_kept f [] = refl
  back_kept f (x ∷ xs) = (elim (x.folder == f) as (λ b. x.folder == f ≡ b →
      cond (is_granted (clear_number x.id)) (cond b (edge 11 (clear_of (clear_number x.id)) (back_of x.folder) ∷ []) []) []
      ++ flat_map (λ (e : FileEntry). cond (is_granted (clear_number e.id)) (cond (e.folder == f) (edge 11 (clear_of (clear_number e.id)) (back_of e.folder) ∷ []) []) []) xs
      ≡ flat_map (back_edges f) (map (λ (e : FileEntry). e.id) (cond b (x ∷ filter (λ (e : FileEntry). e.folder == f) xs) (filter (λ (e : FileEntry). e.folder == f) xs)))) [
        | true ↦ λ t i. cond (is_granted (clear_number x.id)) (edge 11 (clear_of (clear_number x.id)) (back_of (eqb-true x.folder f t i)) ∷ []) [] ++ back_kept f xs i
        | false ↦ λ t. ap (λ l. l ++ flat_map (λ (e : FileEntry). cond (is_granted (clear_number e.id)) (cond (e.folder == f) (edge 11 (clear_of (clear_number e.id)) (back_of e.folder) ∷ []) []) []) xs)
            (nothing_if (is_granted (clear_number x.id))) ∙ back_kept f xs
      ]) refl

  pub back_into : (f : FolderId) (ids : List FileId) → AreListed (λ x. is_file_of f.0 (file_entry t x)) (map (λ (x : FileId). x.0) ids)
      → flat_map (λ (x : FileId). cond (is_granted (clear_number x.0)) (edge 11 (clear_of (clear_number x.0)) (back_of f.0) ∷ []) []) ids ≡ into (clearances (public_store t gs)) (Back f)
  unfolding s into has_grants back_edges file_entry clearance_edges edge same_role variant_of role_id clear_of back_of file_role
  back_into f ids are = sym (
      by_file (λ (e : Edge). same_role e.to (Back f)) s
      ∙ back_kept f.0 t.files
      ∙ ap (flat_map (back_edges f.0)) (sym (files_listed s tree f.0 (map (λ (x : FileId). x.0) ids) are))
      ∙ flat_map_map FileId ℕ Edge (back_edges f.0) (λ (x : FileId). x.0) ids)

  -- no other roles have any
  pub none_from : (r : Role) → ((f x : ℕ) → filter (λ (e : Edge). same_role e.from r) (clearance_edges f x) ≡ []) → out_of (clearances (public_store t gs)) r ≡ []
  unfolding s out_of
  none_from r none = none_of (λ (e : Edge). same_role e.from r) s none

  pub none_into : (r : Role) → ((f x : ℕ) → filter (λ (e : Edge). same_role e.to r) (clearance_edges f x) ≡ []) → into (clearances (public_store t gs)) r ≡ []
  unfolding s into
  none_into r none = none_of (λ (e : Edge). same_role e.to r) s none

  pub no_holder_from : (z : HolderId) → out_of (clearances (public_store t gs)) (Holder z) ≡ []
  unfolding clearance_edges edge same_role variant_of role_id clear_of back_of file_role
  no_holder_from z = none_from (Holder z) (λ f x. refl)

  pub no_sub_from : (z : FolderId) → out_of (clearances (public_store t gs)) (Sub z) ≡ []
  unfolding clearance_edges edge same_role variant_of role_id clear_of back_of file_role
  no_sub_from z = none_from (Sub z) (λ f x. refl)

  pub no_back_from : (z : FolderId) → out_of (clearances (public_store t gs)) (Back z) ≡ []
  unfolding clearance_edges edge same_role variant_of role_id clear_of back_of file_role
  no_back_from z = none_from (Back z) (λ f x. refl)

  pub no_files_from : (z : FolderId) → out_of (clearances (public_store t gs)) (Files z) ≡ []
  unfolding clearance_edges edge same_role variant_of role_id clear_of back_of file_role
  no_files_from z = none_from (Files z) (λ f x. refl)

  pub no_data_from : (z : FolderId) → out_of (clearances (public_store t gs)) (Data z) ≡ []
  unfolding clearance_edges edge same_role variant_of role_id clear_of back_of file_role
  no_data_from z = none_from (Data z) (λ f x. refl)

  pub no_file_from : (z : FileId) → out_of (clearances (public_store t gs)) (File z) ≡ []
  unfolding clearance_edges edge same_role variant_of role_id clear_of back_of file_role
  no_file_from z = none_from (File z) (λ f x. refl)

  pub no_owner_into : into (clearances (public_store t gs)) Owner ≡ []
  unfolding clearance_edges edge same_role variant_of role_id clear_of back_of file_role
  no_owner_into = none_into Owner (λ f x. refl)

  pub no_holder_into : (z : HolderId) → into (clearances (public_store t gs)) (Holder z) ≡ []
  unfolding clearance_edges edge same_role variant_of role_id clear_of back_of file_role
  no_holder_into z = none_into (Holder z) (λ f x. refl)

  pub no_sub_into : (z : FolderId) → into (clearances (public_store t gs)) (Sub z) ≡ []
  unfolding clearance_edges edge same_role variant_of role_id clear_of back_of file_role
  no_sub_into z = none_into (Sub z) (λ f x. refl)

  pub no_files_into : (z : FolderId) → into (clearances (public_store t gs)) (Files z) ≡ []
  unfolding clearance_edges edge same_role variant_of role_id clear_of back_of file_role
  no_files_into z = none_into (Files z) (λ f x. refl)

  pub no_data_into : (z : FolderId) → into (clearances (public_store t gs)) (Data z) ≡ []
  unfolding clearance_edges edge same_role variant_of role_id clear_of back_of file_role
  no_data_into z = none_into (Data z) (λ f x. refl)

-- ---- what is added, where a look-up finds a clearance number or none

pub nothing_more : (l m : List Edge) → m ≡ [] → l ≡ l ++ m
nothing_more l m none = sym (append-nil l) ∙ ap (λ x. l ++ x) (sym none)

pub none_granted : (b : Bool) (v : FolderId) → None ≡ cond b (Some v) None → b ≡ false
none_granted true v e = absurd cc
none_granted false v e = refl

pub some_granted : (b : Bool) (v c : FolderId) → Some c ≡ cond b (Some v) None → (b ≡ true) × (c ≡ v)
some_granted true v c e = (refl, cc)
some_granted false v c e = absurd cc

pub skipped : (l m : List Edge) (b : Bool) (v : FolderId) → None ≡ cond b (Some v) None → l ≡ l ++ cond b m []
skipped l m b v e = nothing_more l (cond b m []) (ap (λ z. cond z m []) (none_granted b v e))

pub taken : (l : List Edge) (k : FolderId → Edge) (b : Bool) (v c : FolderId) → Some c ≡ cond b (Some v) None → l ++ k c ∷ [] ≡ l ++ cond b (k v ∷ []) []
taken l k b v c e =
    let told = some_granted b v c e in
    ap (λ z. l ++ k z ∷ []) told.1 ∙ ap (λ z. l ++ cond z (k v ∷ []) []) (sym told.0)

-- no grant is on so high a number
pub far_none : (gs : List GrantEntry) (x : ℕ) → ((e : GrantEntry) → In e gs → e.folder < 2 ^ 32) → clear_base ≤ x → list_any (λ (g : GrantEntry). g.folder == clear_number x) gs ≡ false
far_none [] x low far = refl
far_none (g ∷ gs) x low far =
    let small = low g (inl refl) in
    or_false (g.folder == clear_number x) (list_any (λ (e : GrantEntry). e.folder == clear_number x) gs)
    (ne_eqb g.folder (clear_number x) (λ e. omega (arith, small, far, e))) (far_none gs x (λ e i. low e (inr i)) far)
  where
    or_false : (a b : Bool) → a ≡ false → b ≡ false → a || b ≡ false
    or_false a b p q = ap (λ z. z || b) p ∙ q
