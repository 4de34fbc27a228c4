-- Strict roles stand, don't go, are no roots, and have all but roots that leads to them.
use Rattle.std.proofs.Common.{◌≡◌, ℕ, Bool, true, false, cond, ◌⊎◌, ◌↔◌, List, [], ◌∷◌, ◌++◌, map, flat_map, inl, inr, ⊎_elim, refl, sym, ap, ◌∙◌, subst}
use Rattle.std.proofs.lemmas.Bool.{false≢true}
use Rattle.cry_base.specs.Sets.{In, Path}
use Rattle.cry_base.specs.Sets.Path.{Here, On}
use Rattle.cry_base.specs.Clearances.{clear_number}
use Rattle.cry_base.specs.Store.{Store, FileEntry, FolderEntry}
use Rattle.cry_base.specs.declared.roles.Edge.{Edge}
use Rattle.cry_base.specs.declared.roles.Role.{Role}
use Rattle.cry_base.specs.declared.roles.Role.TheVariants.{Owner, Holder, Clear, Sub, Back, Files, Data, File}
use Rattle.cry_base.proofs.Members.{In-append, In-flat_map, In-map}
use Rattle.role_graph.specs.Edges.{IsEdge, Reaches, edges, has_grants}
use Rattle.role_graph.specs.Roles.{clear_of, sub_of, back_of, files_of, is_root_role, is_sealing_role, variant_of}
use Rattle.role_graph.proofs.Edging.{edges_told}
use Rattle.role_graph.proofs.Growing.{pair_edge}
use Rattle.role_graph.proofs.Typing.{typed}
use Rattle.rekey_walk.specs.Strict.{strict_roles}
use Rattle.rekey_walk.proofs.Sources.{strict_back, strict_told}
use Rattle.move_plan.specs.Change.{Change, change_of, clearance_in, inner_roles, is_upgrade, no_change, row_change, strict_of}
use Rattle.record_format.specs.Noted.{Note}
use Rattle.record_format.specs.Noted.Note.{Root, NewHolder, NewFolder, NewFile, Rewrite, NameFile, NameFolder, DropFile, DropFolder, ShiftFile, ShiftFolder, Give, Take, StrictRoot, Upgrade}
use Rattle.public_fold.specs.Keyed.{HasRole}
use Rattle.public_fold.proofs.EdgesThen.{IsThen}
use Rattle.public_fold.proofs.KeepingKeys.{IsMove}

-- what a note's row does to edges and roles
pub record IsRowMove (s : Store) (c : Change) (t : Store) : Type 0 where
  pub leads : (e : Edge) → IsThen s c e ↔ IsEdge t e
  pub roles : (r : Role) → HasRole t r ↔ ((HasRole s r × (In r c.gone → ⊥)) ⊎ In r c.fresh)
  pub removed_stand : (e : Edge) → In e c.removed → IsEdge s e
  pub fresh_is_new : (r : Role) → In r c.fresh → HasRole s r → ⊥
  pub fresh_stays : (r : Role) → In r c.fresh → In r c.gone → ⊥
  pub sources : (e : Edge) → In e c.added → (is_root_role e.from ≡ true) ⊎ (In e.from c.wanted ⊎ In e.from c.fresh)
  pub ends_before : (e : Edge) → IsEdge s e → HasRole s e.from × HasRole s e.to
  pub ends_after : (e : Edge) → IsEdge t e → HasRole t e.from × HasRole t e.to

-- a way begins with a pair, where it has one
leaves : {X : Type 0} {pairs : List (X × X)} {a c : X} → Path pairs a c → (a ≡ c) ⊎ ((q : X × X) × In q pairs × (q.0 ≡ a))
leaves Here = inl refl
leaves {X} {pairs} {a} (On {b = b} {c = c} way step) = ⊎_elim
    (λ (e : a ≡ b). let told : (q : X × X) × In q pairs × (q.0 ≡ a) = ((b, c), step, sym e) in inr told)
    (λ w. inr w) (leaves way)

reaches_from : (es : List Edge) (r x : Role) → Reaches es r x → (r ≡ x) ⊎ ((e : Edge) × In e es × (e.from ≡ r))
reaches_from es r x way = ⊎_elim (λ e. inl e)
    (λ w. let p = pair_edge es w.0 w.1 in inr (p.0, p.1, sym (ap (λ (q : Role × Role). q.0) p.2) ∙ w.2)) (leaves way)

-- the roles of what stands that are no roots and seal nothing
module _ (s : Store) where
  abbrev clears : List Role
  clears = map (λ (e : FolderEntry). clear_of e.id) s.folders

  abbrev cleared : List Role
  cleared = flat_map (λ (e : FileEntry). clearance_in s e.id) s.files

  abbrev subs : List Role
  subs = map (λ (e : FolderEntry). sub_of e.id) s.folders

  abbrev backs : List Role
  backs = map (λ (e : FolderEntry). back_of e.id) s.folders

  abbrev files : List Role
  files = map (λ (e : FolderEntry). files_of e.id) s.folders

  abbrev IsInner : Role → Type 0
  IsInner r = HasRole s r × ((is_root_role r ≡ false) × (is_sealing_role r ≡ false))

  clearance_told : (x : ℕ) (r : Role) → In r (clearance_in s x) ↔ ((has_grants s (clear_number x) ≡ true) × (r ≡ clear_of (clear_number x)))
  unfolding clearance_in
  clearance_told x r = by (has_grants s (clear_number x))
    where
      by : (b : Bool) → In r (cond b (clear_of (clear_number x) ∷ []) []) ↔ ((b ≡ true) × (r ≡ clear_of (clear_number x)))
      by true = (λ i. (refl, ⊎_elim (λ q. q) (λ n. absurd n) i), λ w. inl w.1)
      by false = (λ i. absurd i, λ w. absurd (false≢true w.0))

  inner_parts : (r : Role) → In r (inner_roles s) ↔ (In r clears ⊎ (In r cleared ⊎ (In r subs ⊎ (In r backs ⊎ In r files))))
  unfolding inner_roles
  inner_parts r =
      let zero = In-append Role r clears (cleared ++ (subs ++ (backs ++ files))) in
      let one = In-append Role r cleared (subs ++ (backs ++ files)) in
      let two = In-append Role r subs (backs ++ files) in
      let three = In-append Role r backs files in (
        λ i. ⊎_elim (λ a. inl a) (λ t. inr (⊎_elim (λ d. inl d) (λ u. inr (⊎_elim (λ b. inl b) (λ v. inr (three.0 v)) (two.0 u))) (one.0 t))) (zero.0 i),
        λ w. zero.1 (⊎_elim (λ a. inl a) (λ t. inr (one.1 (⊎_elim (λ d. inl d) (λ u. inr (two.1 (⊎_elim (λ b. inl b) (λ v. inr (three.1 v)) u))) t))) w),
      )

  is_inner : (r : Role) → In r (inner_roles s) → IsInner r
  unfolding clear_of sub_of back_of files_of is_root_role is_sealing_role variant_of
  is_inner r i =
      let found = λ (role : FolderEntry → Role) (j : In r (map role s.folders)). (In-map FolderEntry Role role r s.folders).0 j in ⊎_elim
      (λ a. let w = found (λ e. clear_of e.id) a in subst IsInner (sym w.2) (inl (w.0, w.1, refl), (refl, refl)))
      (λ t. ⊎_elim
      (λ d. let w = (In-flat_map FileEntry Role (λ e. clearance_in s e.id) r s.files).0 d in
      let c = (clearance_told w.0.id r).0 w.2 in subst IsInner (sym c.1) (inr ((w.0, w.1, refl), c.0), (refl, refl)))
      (λ u. ⊎_elim
      (λ b. let w = found (λ e. sub_of e.id) b in subst IsInner (sym w.2) ((w.0, w.1, refl), (refl, refl)))
      (λ v. ⊎_elim
      (λ c. let w = found (λ e. back_of e.id) c in subst IsInner (sym w.2) ((w.0, w.1, refl), (refl, refl)))
      (λ d. let w = found (λ e. files_of e.id) d in subst IsInner (sym w.2) ((w.0, w.1, refl), (refl, refl))) v) u) t)
      ((inner_parts r).0 i)

  pub inner_is : (r : Role) → HasRole s r → is_root_role r ≡ false → is_sealing_role r ≡ false → In r (inner_roles s)
  unfolding clear_of sub_of back_of files_of is_root_role is_sealing_role variant_of
  inner_is Owner h root seals = absurd (false≢true (sym root))
  inner_is (Holder k) h root seals = absurd (false≢true (sym root))
  inner_is (Clear f) h root seals = (inner_parts (Clear f)).1 (⊎_elim
      (λ w. inl ((In-map FolderEntry Role (λ e. clear_of e.id) (Clear f) s.folders).1 (w.0, w.1, ap clear_of (sym w.2))))
      (λ w. inr (inl ((In-flat_map FileEntry Role (λ e. clearance_in s e.id) (Clear f) s.files).1 (
        w.0.0,
        w.0.1,
        (clearance_told w.0.0.id (Clear f)).1 (subst (λ n. has_grants s n ≡ true) (sym w.0.2) w.1, ap clear_of (sym w.0.2)),
      ))))
      h)
  inner_is (Sub f) h root seals = (inner_parts (Sub f)).1 (inr (inr (inl ((In-map FolderEntry Role (λ e. sub_of e.id) (Sub f) s.folders).1 (h.0, h.1, ap sub_of (sym h.2))))))
  inner_is (Back f) h root seals = (inner_parts (Back f)).1 (inr (inr (inr (inl ((In-map FolderEntry Role (λ e. back_of e.id) (Back f) s.folders).1 (h.0, h.1, ap back_of (sym h.2)))))))
  inner_is (Files f) h root seals = (inner_parts (Files f)).1 (inr (inr (inr (inr ((In-map FolderEntry Role (λ e. files_of e.id) (Files f) s.folders).1 (h.0, h.1, ap files_of (sym h.2)))))))
  inner_is (Data f) h root seals = absurd (false≢true (sym seals))
  inner_is (File x) h root seals = absurd (false≢true (sym seals))

-- an upgrade takes no role away
upgrade_keeps : (s : Store) (note : Note) (r : Role) → is_upgrade note ≡ true → In r (row_change s note).gone → ⊥
unfolding is_upgrade row_change no_change
upgrade_keeps s Root r t i = i
upgrade_keeps s (NewHolder h check) r t i = i
upgrade_keeps s (NewFolder f p) r t i = i
upgrade_keeps s (NewFile x f) r t i = i
upgrade_keeps s (Rewrite x) r t i = i
upgrade_keeps s (NameFile x) r t i = i
upgrade_keeps s (NameFolder f) r t i = i
upgrade_keeps s (DropFile x) r t i = false≢true t
upgrade_keeps s (DropFolder f) r t i = false≢true t
upgrade_keeps s (ShiftFile x g) r t i = i
upgrade_keeps s (ShiftFolder g q) r t i = i
upgrade_keeps s (Give h f) r t i = false≢true t
upgrade_keeps s (Take h f) r t i = false≢true t
upgrade_keeps s StrictRoot r t i = i
upgrade_keeps s Upgrade r t i = i

module _ (s t : Store) (row : Change) (mv : IsRowMove s row t) where
  abbrev listed : Bool → Bool → List Role
  listed all strict = cond all (inner_roles s) (cond strict (strict_roles (edges s) row.removed row.gone) [])

  led_stands : (r : Role) → (e : Edge) × In e row.removed × Reaches (edges s) r e.from → HasRole s r
  led_stands r w = ⊎_elim
      (λ (q : r ≡ w.0.from). subst (HasRole s) (sym q) (mv.ends_before w.0 (mv.removed_stand w.0 w.1)).0)
      (λ u. subst (HasRole s) u.2 (mv.ends_before u.0 ((edges_told s u.0).0 u.1)).0)
      (reaches_from (edges s) r w.0.from w.2)

  listed_stand : (all strict : Bool) (r : Role) → (all ≡ true → In r row.gone → ⊥) → In r (listed all strict)
      → HasRole s r × ((In r row.gone → ⊥) × (is_root_role r ≡ false))
  listed_stand true strict r stays i = let w = is_inner s r i in (w.0, (stays refl, w.1.0))
  listed_stand false true r stays i = let w = (strict_told (edges s) row.removed row.gone r).0 i in (led_stands r w.0, (w.1.1, w.1.0))
  listed_stand false false r stays i = absurd i

  -- an edge begins at no role that seals
  led_seals_none : (r : Role) → (e : Edge) × In e row.removed × Reaches (edges s) r e.from → is_sealing_role r ≡ false
  led_seals_none r w = ⊎_elim
      (λ (q : r ≡ w.0.from). ap is_sealing_role q ∙ (typed s w.0 ((edges_told s w.0).1 (mv.removed_stand w.0 w.1))).1)
      (λ u. ap is_sealing_role (sym u.2) ∙ (typed s u.0 u.1).1)
      (reaches_from (edges s) r w.0.from w.2)

  listed_seals_none : (all strict : Bool) (r : Role) → In r (listed all strict) → is_sealing_role r ≡ false
  listed_seals_none true strict r i = (is_inner s r i).1.1
  listed_seals_none false true r i = led_seals_none r ((strict_told (edges s) row.removed row.gone r).0 i).0
  listed_seals_none false false r i = absurd i

  listed_back : (all strict : Bool) (e : Edge) → IsEdge s e → In e.to (listed all strict) → is_root_role e.from ≡ false → (In e.from row.gone → ⊥)
      → In e.from (listed all strict)
  listed_back true strict e w to no_root stays = inner_is s e.from (mv.ends_before e w).0 no_root (typed s e ((edges_told s e).1 w)).1
  listed_back false true e w to no_root stays = strict_back (edges s) row.removed row.gone e ((edges_told s e).1 w) to no_root stays
  listed_back false false e w to no_root stays = absurd to

-- with its strict roles the row is a move
pub strict_moves : (strict : Bool) (s t : Store) (note : Note) → IsRowMove s (row_change s note) t → IsMove s (change_of strict s note) t
unfolding change_of strict_of
strict_moves strict s t note mv = record {
  leads = mv.leads;
  roles = mv.roles;
  removed_stand = mv.removed_stand;
  fresh_is_new = mv.fresh_is_new;
  fresh_stays = mv.fresh_stays;
  sources = mv.sources;
  ends_before = mv.ends_before;
  ends_after = mv.ends_after;
  strict_stand = λ r i. listed_stand s t (row_change s note) mv (is_upgrade note) strict r (upgrade_keeps s note r) i;
  strict_seals_none = λ r i. listed_seals_none s t (row_change s note) mv (is_upgrade note) strict r i;
  strict_back = λ e w to no_root stays. listed_back s t (row_change s note) mv (is_upgrade note) strict e w to no_root stays;
}
