-- What taking a grant back publishes.
use Rattle.std.proofs.Common.{◌≡◌, ◌≢◌, ◌⊎◌, ℕ, ◌+◌, ◌-◌, ◌*◌, ◌<◌, Bool, true, false, cond, not, ◌==◌, ◌&&◌, ◌||◌, Some, None, List, [], ◌∷◌, ◌++◌, map, filter, flat_map, length, suc, inl, inr, ⊎_elim, refl, sym, ap, ◌∙◌, subst, arith, zero-add}
use Rattle.std.proofs.lemmas.Bool.{eqb-true, false≢true, lt-leb, not-true}
use Rattle.cry_base.specs.Clearances.{clear_base, clear_number, is_clear_number}
use Rattle.std.proofs.lemmas.List.{append-nil, length-append, length-map}
use Rattle.std.proofs.lemmas.List.Elements.{filter-append}
use Rattle.cry_base.specs.Sets.{In, has}
use Rattle.cry_base.specs.Sets.Path.{Here, On}
use Rattle.cry_base.specs.Stepping.{without_grant}
use Rattle.cry_base.specs.Store.{Store, FolderEntry, FileEntry, GrantEntry}
use Rattle.cry_base.specs.declared.roles.Edge.{Edge}
use Rattle.cry_base.specs.declared.roles.Role.{Role}
use Rattle.cry_base.proofs.Members.{In-filter, In-map, filter-In}
use Rattle.role_graph.specs.Ascending.{IsAscending}
use Rattle.role_graph.specs.Edges.{Reaches, edge, edge_before, edges, clearance_edges, file_edge, folder_edges, grant_edge, has_grants, in_order, pairs_of, parent_edges, same_edge}
use Rattle.role_graph.specs.Roles.{back_of, clear_of, data_of, file_role, files_of, holder_role, is_clear_role, is_root_role, role_id, same_role, sub_of, variant_of}
use Rattle.role_graph.proofs.Rising.{ascending_ascends, ascending_told, same_list}
use Rattle.role_graph.proofs.Typing.{typed}
use Rattle.rekey_walk.specs.Dirty.{mark_all, plan}
use Rattle.rekey_walk.proofs.Marking.{mark_all_told, plan_told}
use Rattle.rekey_walk.proofs.Sources.{strict_told}
use Rattle.record_format.specs.Noted.Note.{Take}
use Rattle.move_plan.specs.Change.{Change, change_of, edges_at, is_last_grant, is_upgrade, no_change, row_change, strict_of, taken_from, without_roles}
use Rattle.rekey_walk.specs.Strict.{strict_roles}
use Rattle.public_fold.specs.Fitted.{told_step}
use Rattle.public_fold.specs.Journal.{Stand, note_step}
use Rattle.public_fold.specs.KeyStep.{KeyState, contents_from, dirty_left, edges_left, edges_then, given, is_published, is_strict, key_step, keys_then, links_from, planned, next_serial, numbered, published, published_edges, renewed, step_with, without}
use Rattle.public_fold.specs.Records.{pieces_of}
use Rattle.public_fold.specs.Told.{told_store}
use Rattle.public_fold.proofs.EdgesAfter.{were_granted}
use Rattle.public_fold.proofs.EdgesThen.{at_told, left_told}
use Rattle.public_fold.proofs.GrantLaws.{as_many_links, no_one, no_roles, none_renewed, order_counts}
use Rattle.public_fold.proofs.SameOrder.{edge_of_grant, filter_made}

-- ---- one key is renewed

ends_no_root : (s : Store) (es : List Edge) → ((e : Edge) → In e es → In e (edges s)) → (r w : Role) → is_root_role w ≡ true → Reaches es r w → r ≡ w
unfolding pairs_of
ends_no_root s es sub r _ root Here = refl
ends_no_root s es sub r _ root (On {b = b} {c = c} way step) =
    let w = (In-map Edge (Role × Role) (λ e. (e.from, e.to)) (b, c) es).0 step in
    absurd (false≢true (sym (typed s w.0 (sub w.0 w.1)).0 ∙ subst (λ z. is_root_role z ≡ true) (ap (λ (p : Role × Role). p.1) w.2) root))

from_roots : (s : Store) (es : List Edge) → ((e : Edge) → In e es → In e (edges s)) → (r w : Role) → is_clear_role w ≡ true → is_root_role r ≡ false → Reaches es r w → r ≡ w
unfolding pairs_of
from_roots s es sub r _ clear other Here = refl
from_roots s es sub r _ clear other (On {b = b} {c = c} way step) =
    let w = (In-map Edge (Role × Role) (λ e. (e.from, e.to)) (b, c) es).0 step in
    let root : is_root_role b ≡ true = subst (λ z. is_root_role z ≡ true) (sym (ap (λ (p : Role × Role). p.0) w.2)) ((typed s w.0 (sub w.0 w.1)).2 (subst (λ z. is_clear_role z ≡ true) (ap (λ (p : Role × Role). p.1) w.2) clear)) in
    let same : r ≡ b = ends_no_root s es sub r b root way in
    absurd (false≢true (sym other ∙ subst (λ z. is_root_role z ≡ true) (sym same) root))

stays_no_root : (s : Store) (r w : Role) → is_root_role r ≡ false → Reaches (edges s) r w → is_root_role w ≡ false
unfolding pairs_of
stays_no_root s r _ other Here = other
stays_no_root s r _ other (On {b = b} {c = c} way step) =
    let w = (In-map Edge (Role × Role) (λ e. (e.from, e.to)) (b, c) (edges s)).0 step in
    subst (λ z. is_root_role z ≡ false) (sym (ap (λ (p : Role × Role). p.1) w.2)) (typed s w.0 w.1).0

clear_no_root : (f : ℕ) → is_root_role (clear_of f) ≡ false
unfolding is_root_role variant_of clear_of
clear_no_root f = refl

clear_is_clear : (f : ℕ) → is_clear_role (clear_of f) ≡ true
unfolding is_clear_role variant_of clear_of
clear_is_clear f = refl

-- nothing but a root leads to a root, so no role is strict for a revocation
roots_alone : (s : Store) (r x : Role) → is_root_role x ≡ true → Reaches (edges s) r x → is_root_role r ≡ true
unfolding pairs_of
roots_alone s r _ t Here = t
roots_alone s r _ t (On {b = b} {c = c} way step) =
    let w = (In-map Edge (Role × Role) (λ (e : Edge). (e.from, e.to)) (b, c) (edges s)).0 step in
    absurd (false≢true (sym (typed s w.0 w.1).0 ∙ subst (λ z. is_root_role z ≡ true) (ap (λ (p : Role × Role). p.1) w.2) t))

holder_is_root : (h f : ℕ) (e : Edge) → In e (grant_edge h f ∷ []) → is_root_role e.from ≡ true
unfolding grant_edge edge holder_role is_root_role variant_of
holder_is_root h f e i = ⊎_elim (λ q. ap (λ (x : Edge). is_root_role x.from) q) (λ n. absurd n) i

-- a grant is taken back, and no clearance goes
abbrev plain_take : ℕ → ℕ → Change
plain_take h f = record no_change { removed = grant_edge h f ∷ []; wanted = clear_of f ∷ [] }

not_false : (b : Bool) → not b ≡ false → b ≡ true
not_false true t = refl
not_false false t = absurd (false≢true (sym t))

take_is : (s : Store) (h f : ℕ) → is_last_grant s h f ≡ false → row_change s (Take h f) ≡ plain_take h f
unfolding row_change taken_from is_last_grant
take_is s h f t =
    (elim (is_clear_number f) as (λ b. (b && not (has_grants (without_grant s h f) f)) ≡ false → taken_from s h f (cond b (Some (f - clear_base)) None) ≡ plain_take h f) [
      | true ↦ λ u. ap (λ b. cond b (plain_take h f) (without_roles s (clear_of f ∷ []))) (not_false (has_grants (without_grant s h f) f) u)
      | false ↦ λ u. refl
    ]) t

take_strict : (strict : Bool) (s : Store) (h f : ℕ) → strict_of strict s (Take h f) (plain_take h f) ≡ []
unfolding strict_of is_upgrade no_change
take_strict true s h f = no_roles (strict_roles (edges s) (grant_edge h f ∷ []) []) (λ r i.
    let w = (strict_told (edges s) (grant_edge h f ∷ []) [] r).0 i in
    false≢true (sym w.1.0 ∙ roots_alone s r w.0.0.from (holder_is_root h f w.0.0 w.0.1) w.0.2))
take_strict false s h f = refl

take_change : (strict : Bool) (s : Store) (h f : ℕ) → is_last_grant s h f ≡ false → change_of strict s (Take h f) ≡ plain_take h f
unfolding change_of no_change
take_change strict s h f t =
    let row = take_is s h f t in
    let none : strict_of strict s (Take h f) (row_change s (Take h f)) ≡ [] = ap (strict_of strict s (Take h f)) row ∙ take_strict strict s h f in
    λ i. record (row i) { strict = none i }

module _ (s : Store) (k : KeyState) (h f : ℕ) (clean : (r : Role) → In r k.dirty → is_root_role r ≡ false) where
  left_no_root : (r : Role) → In r (dirty_left k (edges s) (plain_take h f)) → is_root_role r ≡ false
  unfolding dirty_left without no_change grant_edge edge
  left_no_root r i =
      let marked = (In-filter Role (λ x. not (has same_role [] x)) r (mark_all k.dirty (edges s) (clear_of f ∷ [])) i).0 in
      ⊎_elim (λ d. clean r d)
      (λ w. stays_no_root s w.0 r (⊎_elim (λ (e : w.0 ≡ clear_of f). subst (λ z. is_root_role z ≡ false) (sym e) (clear_no_root f)) (λ n. absurd n) w.1) w.2)
      ((mark_all_told k.dirty (edges s) (clear_of f ∷ []) r).0 marked)

  clear_left : In (clear_of f) (dirty_left k (edges s) (plain_take h f))
  unfolding dirty_left without no_change grant_edge edge has
  clear_left =
      filter-In Role (λ x. not (has same_role [] x)) (clear_of f) (mark_all k.dirty (edges s) (clear_of f ∷ []))
      ((mark_all_told k.dirty (edges s) (clear_of f ∷ []) (clear_of f)).1 (inr (clear_of f, inl refl, Here))) refl

  renewed_rises : IsAscending (renewed k (edges s) (plain_take h f))
  unfolding renewed
  renewed_rises = ascending_ascends _

  pub one_renewed : renewed k (edges s) (plain_take h f) ≡ clear_of f ∷ []
  unfolding renewed planned no_change
  one_renewed =
      let c = plain_take h f in
      let dirty = dirty_left k (edges s) c in
      let left = edges_left (edges s) c in
      let all = plan dirty left (clear_of f ∷ []) in
      same_list (renewed k (edges s) c) (clear_of f ∷ []) renewed_rises (λ q i. absurd i, tt)
      (λ r i.
      let told = (plan_told dirty left (clear_of f ∷ []) r).0 ((ascending_told r all).0 i) in
      let w : told.1.0 ≡ clear_of f = ⊎_elim (λ e. e) (λ n. absurd n) told.1.1 in
      inl (from_roots s left (λ e j. ((left_told (edges s) c e).0 j).0) r told.1.0 (subst (λ z. is_clear_role z ≡ true) (sym w) (clear_is_clear f)) (left_no_root r told.0) told.1.2 ∙ w))
      (λ r i. (ascending_told r all).1 (⊎_elim
      (λ (e : r ≡ clear_of f). subst (λ z. In z all) (sym e) ((plan_told dirty left (clear_of f ∷ []) (clear_of f)).1 (clear_left, (clear_of f, inl refl, Here)))) (λ n. absurd n) i))

-- ---- which edges are published

filter_both : (X : Type 0) (p n : X → Bool) (xs : List X) → filter p (filter n xs) ≡ filter (λ x. n x && p x) xs
filter_both X p n [] = refl
filter_both X p n (x ∷ xs) = elim (n x) as (λ b. filter p (cond b (x ∷ filter n xs) (filter n xs)) ≡ cond (b && p x) (x ∷ filter (λ x. n x && p x) xs) (filter (λ x. n x && p x) xs)) [
  | true ↦ ap (λ (l : List X). cond (p x) (x ∷ l) l) (filter_both X p n xs)
  | false ↦ filter_both X p n xs
]

module _ (s : Store) (h f : ℕ) where
  -- an edge that is left, and has the renewed key at an end
  counts : Edge → Bool
  counts e = not (has same_edge (grant_edge h f ∷ []) e) && is_published (plain_take h f) (clear_of f ∷ []) e

  own_two : (n : ℕ) → length (filter counts (folder_edges n)) ≡ cond (n == f) 2 0
  unfolding counts folder_edges edge is_published has same_edge same_role variant_of role_id clear_of sub_of back_of files_of data_of holder_role grant_edge no_change
  own_two n = (elim (n == f) as (λ b. n == f ≡ b → length (filter counts (folder_edges n)) ≡ cond b 2 0) [
    | true ↦ λ t. rw t refl
    | false ↦ λ t. rw t refl
  ]) refl

  parents_none : (fs : List FolderEntry) → filter counts (flat_map (λ e. cond (e.parent == 0) [] (parent_edges e.id e.parent)) fs) ≡ []
  unfolding counts parent_edges edge is_published has same_edge same_role variant_of role_id clear_of sub_of back_of holder_role grant_edge no_change
  parents_none [] = refl
  parents_none (e ∷ es) = elim (e.parent == 0) as (λ b. filter counts (cond b [] (parent_edges e.id e.parent) ++ flat_map (λ (x : FolderEntry). cond (x.parent == 0) [] (parent_edges x.id x.parent)) es) ≡ []) [
    | true ↦ parents_none es
    | false ↦ parents_none es
  ]

  files_none : (xs : List FileEntry) → filter counts (map (λ (e : FileEntry). file_edge e.folder e.id) xs) ≡ []
  unfolding counts file_edge edge is_published has same_edge same_role variant_of role_id clear_of files_of file_role holder_role grant_edge no_change
  files_none [] = refl
  files_none (e ∷ es) = files_none es

  grant_counts : (g : GrantEntry) → counts (edge_of_grant g) ≡ (not (g.holder == h && g.folder == f) && g.folder == f)
  unfolding counts edge is_published has same_edge same_role variant_of role_id clear_of holder_role grant_edge no_change
  grant_counts g = (elim (g.holder == h) as (λ a. g.holder == h ≡ a → counts (edge_of_grant g) ≡ (not (a && g.folder == f) && g.folder == f)) [
    | true ↦ λ t. (elim (g.folder == f) as (λ b. g.folder == f ≡ b → counts (edge_of_grant g) ≡ (not b && b)) [
      | true ↦ λ u. rw (t, u) refl
      | false ↦ λ u. rw (t, u) refl
    ]) refl
    | false ↦ λ t. (elim (g.folder == f) as (λ b. g.folder == f ≡ b → counts (edge_of_grant g) ≡ b) [
      | true ↦ λ u. rw (t, u) refl
      | false ↦ λ u. rw (t, u) refl
    ]) refl
  ]) refl

  own_count : (fs : List FolderEntry) → length (filter counts (flat_map (λ e. folder_edges e.id) fs)) ≡ length (filter (λ e. e.id == f) fs) + length (filter (λ e. e.id == f) fs)
  own_count [] = refl
  own_count (e ∷ es) =
      ap length (filter-append counts (folder_edges e.id) (flat_map (λ (x : FolderEntry). folder_edges x.id) es))
      ∙ length-append (filter counts (folder_edges e.id)) (filter counts (flat_map (λ (x : FolderEntry). folder_edges x.id) es))
      ∙ (λ i. own_two e.id i + own_count es i)
      ∙ (elim (e.id == f) as (λ b. cond b 2 0 + (length (filter (λ (x : FolderEntry). x.id == f) es) + length (filter (λ (x : FolderEntry). x.id == f) es)) ≡ length (cond b (e ∷ filter (λ (x : FolderEntry). x.id == f) es) (filter (λ (x : FolderEntry). x.id == f) es)) + length (cond b (e ∷ filter (λ (x : FolderEntry). x.id == f) es) (filter (λ (x : FolderEntry). x.id == f) es))) [
        | true ↦ two_more (length (filter (λ (x : FolderEntry). x.id == f) es))
        | false ↦ zero-add _
      ])
    where
      two_more : (n : ℕ) → 2 + (n + n) ≡ suc n + suc n
      two_more n = omega arith

  grants_count : (gs : List GrantEntry) → length (filter counts (map edge_of_grant gs)) ≡ length (filter (λ g. g.folder == f) (filter (λ g. not (g.holder == h && g.folder == f)) gs))
  grants_count gs =
      ap length (filter_made counts edge_of_grant gs)
      ∙ length-map (filter (λ g. counts (edge_of_grant g)) gs) edge_of_grant
      ∙ ap (λ (p : GrantEntry → Bool). length (filter p gs)) (λ i g. grant_counts g i)
      ∙ ap length (sym (filter_both GrantEntry (λ g. g.folder == f) (λ g. not (g.holder == h && g.folder == f)) gs))

  -- the three edges at the file's clearance
  clear_three : (q x : ℕ) → length (filter counts (clearance_edges q x)) ≡ cond (clear_number x == f) 3 0
  unfolding counts clearance_edges edge is_published has same_edge same_role variant_of role_id clear_of back_of file_role holder_role grant_edge no_change
  clear_three q x = (elim (clear_number x == f) as (λ b. clear_number x == f ≡ b → length (filter counts (clearance_edges q x)) ≡ cond b 3 0) [
    | true ↦ λ t. rw t refl
    | false ↦ λ t. rw t refl
  ]) refl

  clears : List FileEntry → List Edge
  clears xs = flat_map (λ e. cond (has_grants s (clear_number e.id)) (clearance_edges e.folder e.id) []) xs

  cleared_three : (b : Bool) (q x : ℕ) → (clear_number x ≡ f → b ≡ true) → length (filter counts (cond b (clearance_edges q x) [])) ≡ cond (clear_number x == f) 3 0
  cleared_three true q x named = clear_three q x
  cleared_three false q x named = (elim (clear_number x == f) as (λ b. clear_number x == f ≡ b → ◌≡◌ {A = ℕ} 0 (cond b 3 0)) [
    | true ↦ λ t. absurd (false≢true (named (eqb-true (clear_number x) f t)))
    | false ↦ λ t. refl
  ]) refl

  three_times : (b : Bool) (n : ℕ) → cond b 3 0 + 3 * n ≡ 3 * (cond b 1 0 + n)
  three_times true n = omega arith
  three_times false n = omega arith

  one_counted : (b : Bool) (e : FileEntry) (l : List FileEntry) → cond b 1 0 + length l ≡ length (cond b (e ∷ l) l)
  one_counted true e l = omega arith
  one_counted false e l = omega arith

  clear_count : (xs : List FileEntry) → has_grants s f ≡ true ⊎ ((x : FileEntry) → clear_number x.id ≢ f) → length (filter counts (clears xs)) ≡ 3 * length (filter (λ e. clear_number e.id == f) xs)
  unfolding clears
  clear_count [] granted = refl
  clear_count (e ∷ es) granted =
      let here = cond (has_grants s (clear_number e.id)) (clearance_edges e.folder e.id) [] in
      let has = λ (q : clear_number e.id ≡ f). ⊎_elim (λ t. ap (λ n. has_grants s n) q ∙ t) (λ n. absurd (n e q)) granted in
      ap length (filter-append counts here (clears es))
      ∙ length-append (filter counts here) (filter counts (clears es))
      ∙ (λ i. cleared_three (has_grants s (clear_number e.id)) e.folder e.id has i + clear_count es granted i)
      ∙ three_times (clear_number e.id == f) (length (filter (λ (x : FileEntry). clear_number x.id == f) es))
      ∙ ap (λ n. 3 * n) (one_counted (clear_number e.id == f) e (filter (λ (x : FileEntry). clear_number x.id == f) es))

  -- how many are published
  pub links_left : ℕ
  links_left =
      length (filter (λ e. e.id == f) s.folders) + length (filter (λ e. e.id == f) s.folders)
      + length (filter (λ g. g.folder == f) (filter (λ g. not (g.holder == h && g.folder == f)) s.grants))
      + 3 * length (filter (λ e. clear_number e.id == f) s.files)

  split : has_grants s f ≡ true ⊎ ((x : FileEntry) → clear_number x.id ≢ f)
      → length (filter counts ((((flat_map (λ (e : FolderEntry). folder_edges e.id) s.folders ++ flat_map (λ (e : FolderEntry). cond (e.parent == 0) [] (parent_edges e.id e.parent)) s.folders) ++ map edge_of_grant s.grants) ++ map (λ (e : FileEntry). file_edge e.folder e.id) s.files) ++ clears s.files))
      ≡ links_left
  unfolding links_left
  split granted =
      let own = flat_map (λ (e : FolderEntry). folder_edges e.id) s.folders in
      let parents = flat_map (λ (e : FolderEntry). cond (e.parent == 0) [] (parent_edges e.id e.parent)) s.folders in
      let grants = map edge_of_grant s.grants in
      let files = map (λ (e : FileEntry). file_edge e.folder e.id) s.files in
      let plain : filter counts (((own ++ parents) ++ grants) ++ files) ≡ filter counts own ++ filter counts grants =
      filter-append counts ((own ++ parents) ++ grants) files
      ∙ (λ i. filter-append counts (own ++ parents) grants i ++ files_none s.files i)
      ∙ append-nil (filter counts (own ++ parents) ++ filter counts grants)
      ∙ (λ i. filter-append counts own parents i ++ filter counts grants)
      ∙ (λ i. (filter counts own ++ parents_none s.folders i) ++ filter counts grants)
      ∙ ap (λ (l : List Edge). l ++ filter counts grants) (append-nil (filter counts own)) in
      ap length (filter-append counts (((own ++ parents) ++ grants) ++ files) (clears s.files))
      ∙ length-append (filter counts (((own ++ parents) ++ grants) ++ files)) (filter counts (clears s.files))
      ∙ (λ i. length (plain i) + clear_count s.files granted i)
      ∙ ap (λ n. n + 3 * length (filter (λ (e : FileEntry). clear_number e.id == f) s.files))
      (length-append (filter counts own) (filter counts grants) ∙ (λ i. own_count s.folders i + grants_count s.grants i))

  pub edges_count : has_grants s f ≡ true ⊎ ((x : FileEntry) → clear_number x.id ≢ f) → length (published_edges (edges s) (plain_take h f) (clear_of f ∷ [])) ≡ links_left
  unfolding published_edges edges_then edges_left without edges no_change counts clears
  edges_count granted =
      let p = is_published (plain_take h f) (clear_of f ∷ []) in
      let n : Edge → Bool = λ e. not (has same_edge (grant_edge h f ∷ []) e) in
      let own = flat_map (λ (e : FolderEntry). folder_edges e.id) s.folders in
      let parents = flat_map (λ (e : FolderEntry). cond (e.parent == 0) [] (parent_edges e.id e.parent)) s.folders in
      let all = (((own ++ parents) ++ map edge_of_grant s.grants) ++ map (λ (e : FileEntry). file_edge e.folder e.id) s.files) ++ clears s.files in
      order_counts Edge edge_before p (filter n (in_order edge_before all) ++ [])
      ∙ ap (λ (l : List Edge). length (filter p l)) (append-nil (filter n (in_order edge_before all)))
      ∙ ap length (filter_both Edge p n (in_order edge_before all))
      ∙ order_counts Edge edge_before (λ e. n e && p e) all
      ∙ split granted

-- where no root is dirty a grant that is taken back, unless it is a file's last one, gives the clearance key anew, and publishes a link
-- for each edge at it that is left
taken_step : (s : Store) (k : KeyState) (h f : ℕ) → ((r : Role) → In r k.dirty → is_root_role r ≡ false) → has_grants s f ≡ true ⊎ ((x : FileEntry) → clear_number x.id ≢ f)
    → (length (key_step k (edges s) (plain_take h f) []).links ≡ links_left s h f) × ((key_step k (edges s) (plain_take h f) []).given ≡ (clear_of f, next_serial k) ∷ [])
unfolding key_step step_with published given numbered no_change
taken_step s k h f clean granted =
    let c = plain_take h f in
    let one = one_renewed s k h f clean in (
      as_many_links _ _ (published_edges (edges s) c (renewed k (edges s) c))
          ∙ ap (λ (l : List Role). length (published_edges (edges s) c l)) one
          ∙ edges_count s h f granted,
      ap (λ (l : List Role). numbered (next_serial k) (l ++ [])) one,
    )

revoked : (at : Stand) (h f : ℕ) → ((r : Role) → In r at.keys.dirty → is_root_role r ≡ false) → is_last_grant at.store h f ≡ false → has_grants at.store f ≡ true ⊎ ((x : FileEntry) → clear_number x.id ≢ f)
    → (length (told_step at (Take h f)).links ≡ links_left at.store h f) × ((told_step at (Take h f)).given ≡ (clear_of f, next_serial at.keys) ∷ [])
unfolding told_step note_step pieces_of
revoked at h f clean others granted =
    let s = at.store in
    let same = take_change (is_strict at.keys) s h f others in
    let told = taken_step s at.keys h f clean granted in (
      ap (λ c. length (key_step at.keys (edges s) c []).links) same ∙ told.0,
      ap (λ c. (key_step at.keys (edges s) c []).given) same ∙ told.1,
    )

-- no file has the number of a folder, and taking back a folder's grant takes no clearance away
plain_number : (f x : ℕ) → f < clear_base → clear_number x ≢ f
plain_number f x below q = omega (arith, below, q)

never_last : (s : Store) (h f : ℕ) → f < clear_base → is_last_grant s h f ≡ false
unfolding is_last_grant
never_last s h f below = ap (λ b. b && not (has_grants (without_grant s h f) f)) (lt-leb clear_base f below)

folder_links : (s : Store) (h f : ℕ) → f < clear_base → length (filter (λ (e : FolderEntry). e.id == f) s.folders) ≡ 1 → links_left s h f ≡ 2 + length (filter (λ (g : GrantEntry). g.folder == f) (filter (λ (g : GrantEntry). not (g.holder == h && g.folder == f)) s.grants))
unfolding links_left
folder_links s h f below once =
    let none : filter (λ (e : FileEntry). clear_number e.id == f) s.files ≡ [] = no_one FileEntry (λ e. clear_number e.id == f) s.files (λ x i t. plain_number f x.id below (eqb-true (clear_number x.id) f t)) in
    let zero : length (filter (λ (e : FileEntry). clear_number e.id == f) s.files) ≡ 0 = ap length none in omega (arith, once, zero)

file_links : (s : Store) (h f : ℕ) → length (filter (λ (e : FolderEntry). e.id == f) s.folders) ≡ 0 → length (filter (λ (e : FileEntry). clear_number e.id == f) s.files) ≡ 1 → links_left s h f ≡ 3 + length (filter (λ (g : GrantEntry). g.folder == f) (filter (λ (g : GrantEntry). not (g.holder == h && g.folder == f)) s.grants))
unfolding links_left
file_links s h f none once = omega (arith, none, once)

-- a folder's grant
pub revoke_step : (at : Stand) (h f : ℕ) → f < clear_base → ((r : Role) → In r at.keys.dirty → is_root_role r ≡ false) → length (filter (λ e. e.id == f) at.store.folders) ≡ 1
    → (length (told_step at (Take h f)).links ≡ 2 + length (filter (λ g. g.folder == f) (told_store at.store (Take h f)).grants))
    × ((told_step at (Take h f)).given ≡ (clear_of f, next_serial at.keys) ∷ [])
unfolding told_store without_grant
revoke_step at h f below clean once =
    let told = revoked at h f clean (never_last at.store h f below) (inr (λ x. plain_number f x.id below)) in
    (told.0 ∙ folder_links at.store h f below once, told.1)

-- a file's grant, where another one is left
still_granted : (s : Store) (h f : ℕ) → has_grants (without_grant s h f) f ≡ true → (is_last_grant s h f ≡ false) × (has_grants s f ≡ true)
unfolding is_last_grant
still_granted s h f t = (ap (λ b. is_clear_number f && not b) t ∙ and_false (is_clear_number f), were_granted s h f f t)
  where
    and_false : (b : Bool) → (b && not true) ≡ false
    and_false true = refl
    and_false false = refl

pub file_revoke_step : (at : Stand) (h f : ℕ) → ((r : Role) → In r at.keys.dirty → is_root_role r ≡ false) → length (filter (λ e. e.id == f) at.store.folders) ≡ 0
    → length (filter (λ e. clear_number e.id == f) at.store.files) ≡ 1 → has_grants (told_store at.store (Take h f)) f ≡ true
    → (length (told_step at (Take h f)).links ≡ 3 + length (filter (λ g. g.folder == f) (told_store at.store (Take h f)).grants))
    × ((told_step at (Take h f)).given ≡ (clear_of f, next_serial at.keys) ∷ [])
unfolding told_store
file_revoke_step at h f clean none once left =
    let granted = still_granted at.store h f left in
    let told = revoked at h f clean granted.0 (inl granted.1) in
    (unfold without_grant in told.0 ∙ file_links at.store h f none once, told.1)

-- ---- a file's last grant

last_is : (s : Store) (h f : ℕ) → is_last_grant s h f ≡ true → row_change s (Take h f) ≡ without_roles s (clear_of f ∷ [])
unfolding row_change taken_from is_last_grant
last_is s h f t =
    (elim (is_clear_number f) as (λ b. (b && not (has_grants (without_grant s h f) f)) ≡ true → taken_from s h f (cond b (Some (f - clear_base)) None) ≡ without_roles s (clear_of f ∷ [])) [
      | true ↦ λ u. ap (λ b. cond b (plain_take h f) (without_roles s (clear_of f ∷ []))) (not-true (has_grants (without_grant s h f) f) u)
      | false ↦ λ u. absurd (false≢true u)
    ]) t

-- what leads to where such an edge begins is a root or goes
last_strict : (strict : Bool) (s : Store) (h f : ℕ) → strict_of strict s (Take h f) (without_roles s (clear_of f ∷ [])) ≡ []
unfolding strict_of is_upgrade without_roles no_change
last_strict true s h f = no_roles (strict_roles (edges s) (edges_at s (clear_of f ∷ [])) (clear_of f ∷ [])) (λ r i.
    let w = (strict_told (edges s) (edges_at s (clear_of f ∷ [])) (clear_of f ∷ []) r).0 i in
    let at = (at_told s (clear_of f ∷ []) w.0.0).0 w.0.1 in
    let same = λ (x : Role) (j : In x (clear_of f ∷ [])). ⊎_elim (λ (q : x ≡ clear_of f). q) (λ z. absurd z) j in ⊎_elim
    (λ j. let from = same w.0.0.from j in
    let is_clear : is_clear_role w.0.0.from ≡ true = ap is_clear_role from ∙ clear_is_clear f in
    w.1.1 (inl (from_roots s (edges s) (λ e k. k) r w.0.0.from is_clear w.1.0 w.0.2 ∙ from)))
    (λ j. let is_clear : is_clear_role w.0.0.to ≡ true = ap is_clear_role (same w.0.0.to j) ∙ clear_is_clear f in
    false≢true (sym w.1.0 ∙ roots_alone s r w.0.0.from ((typed s w.0.0 at.0).2 is_clear) w.0.2))
    at.1)
last_strict false s h f = refl

last_change : (strict : Bool) (s : Store) (h f : ℕ) → is_last_grant s h f ≡ true → change_of strict s (Take h f) ≡ without_roles s (clear_of f ∷ [])
unfolding change_of without_roles no_change
last_change strict s h f t =
    let row = last_is s h f t in
    let none : strict_of strict s (Take h f) (row_change s (Take h f)) ≡ [] = ap (strict_of strict s (Take h f)) row ∙ last_strict strict s h f in
    λ i. record (row i) { strict = none i }

last_parts : (s : Store) (f : ℕ) → ((without_roles s (clear_of f ∷ [])).strict ≡ []) × ((without_roles s (clear_of f ∷ [])).wanted ≡ []) × ((without_roles s (clear_of f ∷ [])).fresh ≡ []) × ((without_roles s (clear_of f ∷ [])).added ≡ [])
unfolding without_roles no_change
last_parts s f = (refl, refl, refl, refl)

-- where no key is given and no edge comes, nothing is published
none_published : (es : List Edge) (c : Change) → c.fresh ≡ [] → c.added ≡ [] → published_edges es c [] ≡ []
unfolding published_edges is_published has
none_published es c fresh added = no_one Edge (is_published c []) (edges_then es c) (λ e i t. false≢true ((λ j. has same_edge (sym added j) e || has same_role ([] ++ sym fresh j) e.from || has same_role ([] ++ sym fresh j) e.to) ∙ t))

last_taken : (s : Store) (k : KeyState) (f : ℕ) → ((key_step k (edges s) (without_roles s (clear_of f ∷ [])) []).links ≡ []) × ((key_step k (edges s) (without_roles s (clear_of f ∷ [])) []).given ≡ [])
unfolding key_step step_with published given links_from numbered
last_taken s k f =
    let c = without_roles s (clear_of f ∷ []) in
    let told = last_parts s f in
    let none = none_renewed k (edges s) c told.0 told.1 in (
      ap (λ (es : List Edge). links_from (keys_then k c (renewed k (edges s) c)) (next_serial k + length (numbered (next_serial k) (renewed k (edges s) c ++ c.fresh))) es)
          (ap (λ (l : List Role). published_edges (edges s) c l) none ∙ none_published (edges s) c told.2 told.3),
      (λ i. numbered (next_serial k) (none i ++ told.2 i)),
    )

pub last_revoke_step : (at : Stand) (h f : ℕ) → is_last_grant at.store h f ≡ true → ((told_step at (Take h f)).links ≡ []) × ((told_step at (Take h f)).given ≡ [])
unfolding told_step note_step pieces_of
last_revoke_step at h f last =
    let s = at.store in
    let same = last_change (is_strict at.keys) s h f last in
    let told = last_taken s at.keys f in (
      ap (λ c. (key_step at.keys (edges s) c []).links) same ∙ told.0,
      ap (λ c. (key_step at.keys (edges s) c []).given) same ∙ told.1,
    )

-- no grant that is taken back publishes a content
pub revoke_contents : (at : Stand) (h f : ℕ) → (told_step at (Take h f)).contents ≡ []
unfolding told_step note_step key_step step_with published pieces_of contents_from numbered
revoke_contents at h f = refl
