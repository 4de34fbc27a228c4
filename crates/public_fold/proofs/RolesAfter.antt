-- The roles after each note.
use Rattle.std.proofs.Common.{◌≡◌, ℕ, ◌+◌, ◌<◌, ◌≤◌, Bool, true, false, cond, not, ◌==◌, ◌⊎◌, ◌↔◌, [], ◌∷◌, ◌++◌, filter, inl, inr, ⊎_elim, refl, sym, ap, ◌∙◌, subst, arith}
use Rattle.std.proofs.lemmas.Bool.{eqb-false, ne_eqb, not-true, not_from_false, false≢true, cases_eq}
use Rattle.cry_base.specs.Clearances.{clear_base, clear_number}
use Rattle.cry_base.specs.Sets.{In}
use Rattle.cry_base.specs.Store.{Store, FolderEntry, FileEntry, HolderEntry, GrantEntry}
use Rattle.cry_base.specs.Stepping.{with_folder, with_file, without_folder, without_file, without_grant}
use Rattle.cry_base.specs.declared.roles.Role.{Role}
use Rattle.cry_base.specs.declared.roles.Role.TheVariants.{Owner, Holder, Clear, Sub, Back, Files, Data, File}
use Rattle.cry_base.proofs.Members.{In-append, In-map, In-filter, filter-In}
use Rattle.role_graph.specs.Roles.{holder_role, clear_of, sub_of, back_of, files_of, data_of, file_role, folder_roles}
use Rattle.role_graph.specs.Edges.{has_grants}
use Rattle.role_graph.specs.RightsByReach.{HasClearNumber, HasFolder, IsClearance}
use Rattle.move_plan.specs.Change.{Change, clearance_in, roles_of_file}
use Rattle.public_fold.specs.Keyed.{HasRole}
use Rattle.public_fold.proofs.Levels.{last_or, earlier, last_in}
use Rattle.public_fold.proofs.Shifting.{folder_cases}
use Rattle.public_fold.proofs.EdgesAfter.{clear_in_roles, file_pick, in_roles, less_granted, more_granted, number_same, off_granted, were_granted}
use Rattle.public_fold.proofs.EdgesThen.{grants_on, grants_told}
use Rattle.public_fold.specs.Rooted.{IsRooted}

-- a holder or a file has this number
abbrev pub HasHolder : Store → ℕ → Type 0
HasHolder s h = (e : HolderEntry) × In e s.holders × (e.number ≡ h)

abbrev pub HasFile : Store → ℕ → Type 0
HasFile s x = (e : FileEntry) × In e s.files × (e.id ≡ x)

-- grants are held by holders that were made
abbrev pub AreHeld : Store → Type 0
AreHeld s = (g : GrantEntry) → In g s.grants → HasHolder s g.holder

-- numbers of folders are below those of clearances
pub folder_below : (s : Store) (f : ℕ) → IsRooted s → HasFolder s f → f < clear_base
folder_below s f ok w =
    let low : w.0.id ≤ s.folders_made = ok.counted.each_folder w.0 w.1 in
    let below : s.folders_made < clear_base = ok.folders_below in
    let same : w.0.id ≡ f = w.2 in omega arith

pub no_clear_folder : (s : Store) (x : ℕ) → IsRooted s → HasFolder s (clear_number x) → ⊥
no_clear_folder s x ok w = let below = folder_below s (clear_number x) ok w in omega (arith, below)

pub apart_number : (s : Store) (f : ℕ) → IsRooted s → HasFolder s f → HasClearNumber s f → ⊥
apart_number s f ok w n = no_clear_folder s n.0.id ok (w.0, w.1, w.2 ∙ sym n.2)

-- a role of a folder stands where the folder does, unless it is a file's clearance
pub role_has_folder : (s : Store) (f : ℕ) (r : Role) → In r (folder_roles f) → HasRole s r → HasFolder s f ⊎ IsClearance s f
unfolding folder_roles clear_of sub_of back_of files_of data_of
role_has_folder s f r i h = ⊎_elim (λ q. subst (HasRole s) q h)
    (λ a. ⊎_elim (λ q. inl (subst (HasRole s) q h))
    (λ b. ⊎_elim (λ q. inl (subst (HasRole s) q h))
    (λ c. ⊎_elim (λ q. inl (subst (HasRole s) q h))
    (λ d. ⊎_elim (λ q. inl (subst (HasRole s) q h)) (λ n. absurd n) d) c) b) a) i

pub folder_has_role : (s : Store) (f : ℕ) (r : Role) → In r (folder_roles f) → HasFolder s f → HasRole s r
unfolding folder_roles clear_of sub_of back_of files_of data_of
folder_has_role s f r i h = ⊎_elim (λ q. subst (HasRole s) (sym q) (inl h))
    (λ a. ⊎_elim (λ q. subst (HasRole s) (sym q) h)
    (λ b. ⊎_elim (λ q. subst (HasRole s) (sym q) h)
    (λ c. ⊎_elim (λ q. subst (HasRole s) (sym q) h)
    (λ d. ⊎_elim (λ q. subst (HasRole s) (sym q) h) (λ n. absurd n) d) c) b) a) i

clear_has_role : (s : Store) (f : ℕ) (r : Role) → r ≡ clear_of f → IsClearance s f → HasRole s r
unfolding clear_of
clear_has_role s f r q w = subst (HasRole s) (sym q) (inr w)

role_has_clear : (s : Store) (f : ℕ) (r : Role) → r ≡ clear_of f → HasRole s r → HasFolder s f ⊎ IsClearance s f
unfolding clear_of
role_has_clear s f r q h = subst (HasRole s) q h

holder_has_role : (s : Store) (h : ℕ) (r : Role) → r ≡ holder_role h → HasHolder s h → HasRole s r
unfolding holder_role
holder_has_role s h r q w = subst (HasRole s) (sym q) w

role_has_holder : (s : Store) (h : ℕ) (r : Role) → r ≡ holder_role h → HasRole s r → HasHolder s h
unfolding holder_role
role_has_holder s h r q w = subst (HasRole s) q w

file_has_role : (s : Store) (x : ℕ) (r : Role) → r ≡ file_role x → HasFile s x → HasRole s r
unfolding file_role
file_has_role s x r q w = subst (HasRole s) (sym q) w

role_has_file : (s : Store) (x : ℕ) (r : Role) → r ≡ file_role x → HasRole s r → HasFile s x
unfolding file_role
role_has_file s x r q w = subst (HasRole s) q w

-- the roles after a change
abbrev pub RolesMove : Store → Change → Store → Type 0
RolesMove s c t = (r : Role) → HasRole t r ↔ ((HasRole s r × (In r c.gone → ⊥)) ⊎ In r c.fresh)

-- by what holders, folders, files and clearances come and go
record RowsMove (s : Store) (c : Change) (t : Store) : Type 0 where
  holders_now : (h : ℕ) → HasHolder t h → HasHolder s h ⊎ In (holder_role h) c.fresh
  folders_now : (f : ℕ) → HasFolder t f → HasFolder s f ⊎ ((r : Role) → In r (folder_roles f) → In r c.fresh)
  files_now : (x : ℕ) → HasFile t x → HasFile s x ⊎ In (file_role x) c.fresh
  clears_now : (f : ℕ) → IsClearance t f → IsClearance s f ⊎ In (clear_of f) c.fresh
  holders_still : (h : ℕ) → HasHolder s h → HasHolder t h
  folders_still : (f : ℕ) → HasFolder s f → HasFolder t f ⊎ ((r : Role) → In r (folder_roles f) → In r c.gone)
  files_still : (x : ℕ) → HasFile s x → HasFile t x ⊎ In (file_role x) c.gone
  clears_still : (f : ℕ) → IsClearance s f → IsClearance t f ⊎ In (clear_of f) c.gone
  gone_go : (r : Role) → HasRole t r → In r c.gone → ⊥
  fresh_stand : (r : Role) → In r c.fresh → HasRole t r

module _ (s : Store) (c : Change) (t : Store) (mv : RowsMove s c t) where
  folder_now : (f : ℕ) (r : Role) → In r (folder_roles f) → HasRole t r → HasFolder t f → (HasRole s r × (In r c.gone → ⊥)) ⊎ In r c.fresh
  folder_now f r i h w = ⊎_elim (λ u. inl (folder_has_role s f r i u, mv.gone_go r h)) (λ n. inr (n r i)) (mv.folders_now f w)

  roles_now : (r : Role) → HasRole t r → (HasRole s r × (In r c.gone → ⊥)) ⊎ In r c.fresh
  unfolding folder_roles clear_of sub_of back_of files_of data_of holder_role file_role
  roles_now Owner h = inl (tt, mv.gone_go Owner h)
  roles_now (Holder k) h = ⊎_elim (λ w. inl (w, mv.gone_go (Holder k) h)) (λ i. inr i) (mv.holders_now k.0 h)
  roles_now (Clear f) h = ⊎_elim
      (λ w. folder_now f.0 (Clear f) (inl refl) h w)
      (λ w. ⊎_elim (λ u. inl (inr u, mv.gone_go (Clear f) h)) (λ i. inr i) (mv.clears_now f.0 w)) h
  roles_now (Sub f) h = folder_now f.0 (Sub f) (inr (inl refl)) h h
  roles_now (Back f) h = folder_now f.0 (Back f) (inr (inr (inl refl))) h h
  roles_now (Files f) h = folder_now f.0 (Files f) (inr (inr (inr (inl refl)))) h h
  roles_now (Data f) h = folder_now f.0 (Data f) (inr (inr (inr (inr (inl refl))))) h h
  roles_now (File x) h = ⊎_elim (λ w. inl (w, mv.gone_go (File x) h)) (λ i. inr i) (mv.files_now x.0 h)

  folder_still : (f : ℕ) (r : Role) → In r (folder_roles f) → HasFolder s f → (In r c.gone → ⊥) → HasRole t r
  folder_still f r i h out = ⊎_elim (λ w. folder_has_role t f r i w) (λ g. absurd (out (g r i))) (mv.folders_still f h)

  roles_still : (r : Role) → HasRole s r → (In r c.gone → ⊥) → HasRole t r
  unfolding folder_roles clear_of sub_of back_of files_of data_of holder_role file_role
  roles_still Owner h out = tt
  roles_still (Holder k) h out = mv.holders_still k.0 h
  roles_still (Clear f) h out = ⊎_elim
      (λ w. folder_still f.0 (Clear f) (inl refl) w out)
      (λ w. ⊎_elim (λ u. inr u) (λ i. absurd (out i)) (mv.clears_still f.0 w)) h
  roles_still (Sub f) h out = folder_still f.0 (Sub f) (inr (inl refl)) h out
  roles_still (Back f) h out = folder_still f.0 (Back f) (inr (inr (inl refl))) h out
  roles_still (Files f) h out = folder_still f.0 (Files f) (inr (inr (inr (inl refl)))) h out
  roles_still (Data f) h out = folder_still f.0 (Data f) (inr (inr (inr (inr (inl refl))))) h out
  roles_still (File x) h out = ⊎_elim (λ w. w) (λ g. absurd (out g)) (mv.files_still x.0 h)

  roles_move : RolesMove s c t
  roles_move r = (λ h. roles_now r h, λ w. ⊎_elim (λ u. roles_still r u.0 u.1) (λ i. mv.fresh_stand r i) w)

one_is : (e d : Role) → In e (d ∷ []) → e ≡ d
one_is e d i = ⊎_elim (λ q. q) (λ z. absurd z) i

-- nothing comes or goes
pub same_roles : (s t : Store) (c : Change) → c.gone ≡ [] → c.fresh ≡ [] → ((h : ℕ) → HasHolder s h ↔ HasHolder t h) → ((f : ℕ) → HasFolder s f ↔ HasFolder t f) → ((x : ℕ) → HasFile s x ↔ HasFile t x) → ((f : ℕ) → IsClearance s f ↔ IsClearance t f) → RolesMove s c t
same_roles s t c g f holders folders files clears = roles_move s c t (record {
  holders_now = λ h w. inl ((holders h).1 w);
  folders_now = λ f w. inl ((folders f).1 w);
  files_now = λ x w. inl ((files x).1 w);
  clears_now = λ f w. inl ((clears f).1 w);
  holders_still = λ h w. (holders h).0 w;
  folders_still = λ f w. inl ((folders f).0 w);
  files_still = λ x w. inl ((files x).0 w);
  clears_still = λ f w. inl ((clears f).0 w);
  gone_go = λ r h i. subst (In r) g i;
  fresh_stand = λ r i. absurd (subst (In r) f i);
})

-- nothing at all changes
pub kept_roles : (s : Store) (c : Change) → c.gone ≡ [] → c.fresh ≡ [] → RolesMove s c s
kept_roles s c g f = same_roles s s c g f (λ h. (λ w. w, λ w. w)) (λ h. (λ w. w, λ w. w)) (λ h. (λ w. w, λ w. w)) (λ h. (λ w. w, λ w. w))

file_kept : (s : Store) (x : ℕ) (change : FileEntry → FileEntry) → ((e : FileEntry) → (change e).id ≡ e.id) → (n : ℕ) → HasFile s n ↔ HasFile (with_file s x change) n
unfolding with_file
file_kept s x change ids n =
    let pick : FileEntry → FileEntry = λ y. cond (y.id == x) (change y) y in
    let id : (y : FileEntry) → (cond (y.id == x) (change y) y).id ≡ y.id = λ y. ⊎_elim (λ w. ap (λ (z : FileEntry). z.id) w.1 ∙ ids y) (λ w. ap (λ (z : FileEntry). z.id) w.1) (file_pick x change y) in (
      λ w. (pick w.0, (In-map FileEntry FileEntry pick (pick w.0) s.files).1 (w.0, w.1, refl), id w.0 ∙ w.2),
      λ w. let u = (In-map FileEntry FileEntry pick w.0 s.files).0 w.1 in (u.0, u.1, sym (id u.0) ∙ sym (ap (λ (z : FileEntry). z.id) u.2) ∙ w.2),
    )

-- where files keep their numbers, so do clearances
number_kept : (s t : Store) (c : ℕ) → ((n : ℕ) → HasFile s n → HasFile t n) → HasClearNumber s c → HasClearNumber t c
number_kept s t c files w = let u = files w.0.id (w.0, w.1, refl) in (u.0, u.1, ap (λ n. clear_number n) u.2 ∙ w.2)

folder_kept : (s : Store) (x : ℕ) (change : FolderEntry → FolderEntry) → ((e : FolderEntry) → (change e).id ≡ e.id) → (n : ℕ) → HasFolder s n ↔ HasFolder (with_folder s x change) n
unfolding with_folder
folder_kept s x change ids n =
    let pick : FolderEntry → FolderEntry = λ y. cond (y.id == x) (change y) y in
    let id : (y : FolderEntry) → (cond (y.id == x) (change y) y).id ≡ y.id = λ y. ⊎_elim (λ w. ap (λ (z : FolderEntry). z.id) w.1 ∙ ids y) (λ w. ap (λ (z : FolderEntry). z.id) w.1) (folder_cases x change y) in (
      λ w. (pick w.0, (In-map FolderEntry FolderEntry pick (pick w.0) s.folders).1 (w.0, w.1, refl), id w.0 ∙ w.2),
      λ w. let u = (In-map FolderEntry FolderEntry pick w.0 s.folders).0 w.1 in (u.0, u.1, sym (id u.0) ∙ sym (ap (λ (z : FolderEntry). z.id) u.2) ∙ w.2),
    )

pub file_changed_roles : (s : Store) (x : ℕ) (change : FileEntry → FileEntry) (c : Change) → ((e : FileEntry) → (change e).id ≡ e.id) → c.gone ≡ [] → c.fresh ≡ [] → RolesMove s c (with_file s x change)
unfolding with_file has_grants
file_changed_roles s x change c ids g f =
    let t : Store = with_file s x change in
    same_roles s t c g f (λ h. (λ w. w, λ w. w)) (λ h. (λ w. w, λ w. w)) (file_kept s x change ids)
    (λ n. (λ w. (number_kept s t n (λ k u. (file_kept s x change ids k).0 u) w.0, w.1), λ w. (number_kept t s n (λ k u. (file_kept s x change ids k).1 u) w.0, w.1)))

pub folder_changed_roles : (s : Store) (x : ℕ) (change : FolderEntry → FolderEntry) (c : Change) → ((e : FolderEntry) → (change e).id ≡ e.id) → c.gone ≡ [] → c.fresh ≡ [] → RolesMove s c (with_folder s x change)
unfolding with_folder has_grants
folder_changed_roles s x change c ids g f = same_roles s (with_folder s x change) c g f (λ h. (λ w. w, λ w. w)) (folder_kept s x change ids) (λ h. (λ w. w, λ w. w)) (λ h. (λ w. w, λ w. w))

-- one more holder, folder or file
pub new_holder_roles : (s : Store) (n : HolderEntry) (t : Store) (c : Change) → t ≡ record s { holders = s.holders ++ n ∷ []; holders_made = s.holders_made + 1 } → c.gone ≡ [] → c.fresh ≡ holder_role n.number ∷ [] → RolesMove s c t
unfolding has_grants
new_holder_roles s n t c is g f =
    let new : Store = record s { holders = s.holders ++ n ∷ []; holders_made = s.holders_made + 1 } in
    subst (RolesMove s c) (sym is) (roles_move s c new (record {
      holders_now = λ h w. ⊎_elim (λ i. inl (w.0, i, w.2)) (λ q. inr (subst (In (holder_role h)) (sym f) (inl (ap holder_role (sym w.2 ∙ ap (λ (e : HolderEntry). e.number) q))))) (last_or HolderEntry w.0 n s.holders w.1);
      folders_now = λ k w. inl w;
      files_now = λ x w. inl w;
      clears_now = λ k w. inl w;
      holders_still = λ h w. (w.0, earlier HolderEntry w.0 n s.holders w.1, w.2);
      folders_still = λ k w. inl w;
      files_still = λ x w. inl w;
      clears_still = λ k w. inl w;
      gone_go = λ r h i. subst (In r) g i;
      fresh_stand = λ r i. holder_has_role new n.number r (one_is r (holder_role n.number) (subst (In r) f i)) (n, last_in HolderEntry n s.holders, refl);
    }))

pub new_folder_roles : (s : Store) (n : FolderEntry) (t : Store) (c : Change) → t ≡ record s { folders = s.folders ++ n ∷ []; folders_made = s.folders_made + 1 } → c.gone ≡ [] → c.fresh ≡ folder_roles n.id → RolesMove s c t
unfolding has_grants
new_folder_roles s n t c is g f =
    let new : Store = record s { folders = s.folders ++ n ∷ []; folders_made = s.folders_made + 1 } in
    subst (RolesMove s c) (sym is) (roles_move s c new (record {
      holders_now = λ h w. inl w;
      folders_now = λ k w. ⊎_elim (λ i. inl (w.0, i, w.2)) (λ q. inr (λ r i. subst (In r) (sym f) (subst (λ m. In r (folder_roles m)) (sym w.2 ∙ ap (λ (e : FolderEntry). e.id) q) i))) (last_or FolderEntry w.0 n s.folders w.1);
      files_now = λ x w. inl w;
      clears_now = λ k w. inl w;
      holders_still = λ h w. w;
      folders_still = λ k w. inl (w.0, earlier FolderEntry w.0 n s.folders w.1, w.2);
      files_still = λ x w. inl w;
      clears_still = λ k w. inl w;
      gone_go = λ r h i. subst (In r) g i;
      fresh_stand = λ r i. folder_has_role new n.id r (subst (In r) f i) (n, last_in FolderEntry n s.folders, refl);
    }))

-- a new file, which nobody has a grant on
pub new_file_roles : (s : Store) (n : FileEntry) (t : Store) (c : Change) → has_grants s (clear_number n.id) ≡ false → t ≡ record s { files = s.files ++ n ∷ []; files_made = s.files_made + 1 } → c.gone ≡ [] → c.fresh ≡ file_role n.id ∷ [] → RolesMove s c t
unfolding has_grants
new_file_roles s n t c none is g f =
    let new : Store = record s { files = s.files ++ n ∷ []; files_made = s.files_made + 1 } in
    subst (RolesMove s c) (sym is) (roles_move s c new (record {
      holders_now = λ h w. inl w;
      folders_now = λ k w. inl w;
      files_now = λ x w. ⊎_elim (λ i. inl (w.0, i, w.2)) (λ q. inr (subst (In (file_role x)) (sym f) (inl (ap file_role (sym w.2 ∙ ap (λ (e : FileEntry). e.id) q))))) (last_or FileEntry w.0 n s.files w.1);
      clears_now = λ k w. ⊎_elim
          (λ i. inl ((w.0.0, i, w.0.2), w.1))
          (λ q. absurd (false≢true (sym none ∙ subst (λ m. has_grants s m ≡ true) (sym w.0.2 ∙ ap (λ (e : FileEntry). clear_number e.id) q) w.1)))
          (last_or FileEntry w.0.0 n s.files w.0.1);
      holders_still = λ h w. w;
      folders_still = λ k w. inl w;
      files_still = λ x w. inl (w.0, earlier FileEntry w.0 n s.files w.1, w.2);
      clears_still = λ k w. inl ((w.0.0, earlier FileEntry w.0.0 n s.files w.0.1, w.0.2), w.1);
      gone_go = λ r h i. subst (In r) g i;
      fresh_stand = λ r i. file_has_role new n.id r (one_is r (file_role n.id) (subst (In r) f i)) (n, last_in FileEntry n s.files, refl);
    }))

-- a folder that stands goes
pub no_folder_roles : (s : Store) (f : ℕ) (c : Change) → IsRooted s → HasFolder s f → c.gone ≡ folder_roles f → c.fresh ≡ [] → RolesMove s c (without_folder s f)
unfolding without_folder
no_folder_roles s f c ok there g n =
    let kept : FolderEntry → Bool = λ y. not (y.id == f) in
    let t : Store = record s { folders = filter kept s.folders; grants = filter (λ g. not (g.folder == f)) s.grants } in
    let was = λ (k : ℕ) (w : IsClearance t k). let told : IsClearance s k = (w.0, grants_on t s k (λ g i. (In-filter GrantEntry (λ g. not (g.folder == f)) g s.grants i).0) w.1) in told in
    roles_move s c t (record {
      holders_now = λ h w. inl w;
      folders_now = λ k w. inl (w.0, (In-filter FolderEntry kept w.0 s.folders w.1).0, w.2);
      files_now = λ x w. inl w;
      clears_now = λ k w. inl (was k w);
      holders_still = λ h w. w;
      folders_still = λ k w. ⊎_elim
          (λ q. inr (λ r i. subst (In r) (sym g) (subst (λ m. In r (folder_roles m)) (sym w.2 ∙ q) i)))
          (λ o. inl (w.0, filter-In FolderEntry kept w.0 s.folders w.1 (not_from_false (w.0.id == f) (ne_eqb w.0.id f o)), w.2))
          (cases_eq w.0.id f);
      files_still = λ x w. inl w;
      clears_still = λ k w. inl (w.0, off_granted s.grants s t f k refl refl w.1 (λ q. apart_number s f ok there (subst (HasClearNumber s) q w.0)));
      gone_go = λ r h i. ⊎_elim
          (λ w. eqb-false w.0.id f (not-true (w.0.id == f) (In-filter FolderEntry kept w.0 s.folders w.1).1) w.2)
          (λ w. apart_number s f ok there (was f w).0)
          (role_has_folder t f r (subst (In r) g i) h);
      fresh_stand = λ r i. absurd (subst (In r) n i);
    })

-- a file goes, with the grants on it
in_file_roles : (s : Store) (x : ℕ) (r : Role) → In r (roles_of_file s x) → (r ≡ clear_of (clear_number x)) ⊎ (r ≡ file_role x)
unfolding roles_of_file clearance_in
in_file_roles s x r i = ⊎_elim (λ u. inl (by (has_grants s (clear_number x)) u)) (λ u. inr (one_is r (file_role x) u))
    ((In-append Role r (cond (has_grants s (clear_number x)) (clear_of (clear_number x) ∷ []) []) (file_role x ∷ [])).0 i)
  where
    by : (b : Bool) → In r (cond b (clear_of (clear_number x) ∷ []) []) → r ≡ clear_of (clear_number x)
    by true u = one_is r (clear_of (clear_number x)) u
    by false u = absurd u

pub no_file_roles : (s : Store) (x : ℕ) (c : Change) → IsRooted s → c.gone ≡ roles_of_file s x → c.fresh ≡ [] → RolesMove s c (without_file s x)
unfolding without_file
no_file_roles s x c ok g n =
    let kept : FileEntry → Bool = λ y. not (y.id == x) in
    let t : Store = record s { files = filter kept s.files; grants = filter (λ g. not (g.folder == clear_number x)) s.grants } in
    let was = λ (y : FileEntry) (i : In y t.files). In-filter FileEntry kept y s.files i in
    let off = λ (y : FileEntry) (i : In y t.files). eqb-false y.id x (not-true (y.id == x) (was y i).1) in
    roles_move s c t (record {
      holders_now = λ h w. inl w;
      folders_now = λ k w. inl w;
      files_now = λ y w. inl (w.0, (was w.0 w.1).0, w.2);
      clears_now = λ k w. inl ((w.0.0, (was w.0.0 w.0.1).0, w.0.2), grants_on t s k (λ g i. (In-filter GrantEntry (λ g. not (g.folder == clear_number x)) g s.grants i).0) w.1);
      holders_still = λ h w. w;
      folders_still = λ k w. inl w;
      files_still = λ y w. ⊎_elim
          (λ q. inr (subst (In (file_role y)) (sym g) (in_roles s x (file_role y) (ap file_role (sym w.2 ∙ q)))))
          (λ o. inl (w.0, filter-In FileEntry kept w.0 s.files w.1 (not_from_false (w.0.id == x) (ne_eqb w.0.id x o)), w.2))
          (cases_eq w.0.id x);
      clears_still = λ k w. ⊎_elim
          (λ q. let same : k ≡ clear_number x = sym w.0.2 ∙ ap (λ n. clear_number n) q in
          inr (subst (In (clear_of k)) (sym g) (clear_in_roles s x (clear_of k) (subst (λ n. has_grants s n ≡ true) same w.1) (ap clear_of same))))
          (λ o. inl (
            (w.0.0, filter-In FileEntry kept w.0.0 s.files w.0.1 (not_from_false (w.0.0.id == x) (ne_eqb w.0.0.id x o)), w.0.2),
            off_granted s.grants s t (clear_number x) k refl refl w.1 (λ q. o (number_same w.0.0.id x (w.0.2 ∙ q))),
          ))
          (cases_eq w.0.0.id x);
      gone_go = λ r h i. ⊎_elim
          (λ q. ⊎_elim
          (λ w. no_clear_folder s x ok w)
          (λ w. off w.0.0 w.0.1 (number_same w.0.0.id x w.0.2))
          (role_has_clear t (clear_number x) r q h))
          (λ q. let w = role_has_file t x r q h in off w.0 w.1 w.2)
          (in_file_roles s x r (subst (In r) g i));
      fresh_stand = λ r i. absurd (subst (In r) n i);
    })

-- what stands hangs on no grant
still : (s : Store) (h f k : ℕ) → HasClearNumber s k → HasClearNumber (without_grant s h f) k
unfolding without_grant
still s h f k w = w

stood : (s : Store) (h f k : ℕ) → HasClearNumber (without_grant s h f) k → HasClearNumber s k
unfolding without_grant
stood s h f k w = w

folder_was : (s : Store) (h f k : ℕ) → HasFolder (without_grant s h f) k → HasFolder s k
unfolding without_grant
folder_was s h f k w = w

-- a grant comes, on what is no file's clearance number but that of a file with a grant
more_clears : (s : Store) (n : GrantEntry) (f : ℕ) → IsClearance (record s { grants = s.grants ++ n ∷ [] }) f → IsClearance s f ⊎ (n.folder ≡ f)
more_clears s n f w = ⊎_elim (λ t. inl (w.0, t)) (λ q. inr q) (more_granted s n f w.1)

still_clears : (s : Store) (n : GrantEntry) (f : ℕ) → IsClearance s f → IsClearance (record s { grants = s.grants ++ n ∷ [] }) f
still_clears s n f w = (w.0, grants_on s (record s { grants = s.grants ++ n ∷ [] }) f (λ g i. earlier GrantEntry g n s.grants i) w.1)

pub new_grant_roles : (s : Store) (n : GrantEntry) (c : Change) → ((x : FileEntry) → In x s.files → n.folder ≡ clear_number x.id → has_grants s n.folder ≡ true) → c.gone ≡ [] → c.fresh ≡ [] → RolesMove s c (record s { grants = s.grants ++ n ∷ [] })
new_grant_roles s n c again g f =
    let new : Store = record s { grants = s.grants ++ n ∷ [] } in
    same_roles s new c g f (λ h. (λ w. w, λ w. w)) (λ h. (λ w. w, λ w. w)) (λ h. (λ w. w, λ w. w)) (λ k. (
      λ w. still_clears s n k w,
      λ w. ⊎_elim (λ u. u) (λ q. (w.0, subst (λ m. has_grants s m ≡ true) q (again w.0.0 w.0.1 (q ∙ sym w.0.2)))) (more_clears s n k w),
    ))

-- the first grant of a file
pub first_grant_roles : (s : Store) (h : ℕ) (x : FileEntry) (c : Change) → In x s.files → c.gone ≡ [] → c.fresh ≡ clear_of (clear_number x.id) ∷ [] → RolesMove s c (record s { grants = s.grants ++ record { holder = h; folder = clear_number x.id } ∷ [] })
first_grant_roles s h x c there g f =
    let n : GrantEntry = record { holder = h; folder = clear_number x.id } in
    let new : Store = record s { grants = s.grants ++ n ∷ [] } in
    roles_move s c new (record {
      holders_now = λ h w. inl w;
      folders_now = λ k w. inl w;
      files_now = λ k w. inl w;
      clears_now = λ k w. ⊎_elim (λ u. inl u) (λ q. inr (subst (In (clear_of k)) (sym f) (inl (ap clear_of (sym q))))) (more_clears s n k w);
      holders_still = λ h w. w;
      folders_still = λ k w. inl w;
      files_still = λ k w. inl w;
      clears_still = λ k w. inl (still_clears s n k w);
      gone_go = λ r h i. subst (In r) g i;
      fresh_stand = λ r i. clear_has_role new (clear_number x.id) r (one_is r (clear_of (clear_number x.id)) (subst (In r) f i))
          ((x, there, refl), (grants_told new (clear_number x.id)).1 (n, last_in GrantEntry n s.grants, refl));
    })

-- a grant goes, and where it is on a file another one stays
pub no_grant_roles : (s : Store) (h f : ℕ) (c : Change) → ((x : FileEntry) → In x s.files → clear_number x.id ≡ f → has_grants (without_grant s h f) f ≡ true) → c.gone ≡ [] → c.fresh ≡ [] → RolesMove s c (without_grant s h f)
no_grant_roles s h f c left g n =
    same_roles s (without_grant s h f) c g n (unfold without_grant in λ h. (λ w. w, λ w. w)) (unfold without_grant in λ h. (λ w. w, λ w. w)) (unfold without_grant in λ h. (λ w. w, λ w. w)) (λ k. (
      λ w. (
        still s h f k w.0,
        ⊎_elim
            (λ q. subst (λ m. has_grants (without_grant s h f) m ≡ true) (sym q) (left w.0.0 w.0.1 (w.0.2 ∙ q)))
            (λ o. less_granted s h f k w.1 o)
            (cases_eq k f),
      ),
      λ w. (stood s h f k w.0, were_granted s h f k w.1),
    ))

-- a file's last grant goes
pub last_grant_roles : (s : Store) (h f : ℕ) (c : Change) → IsRooted s → HasClearNumber s f → has_grants (without_grant s h f) f ≡ false → c.gone ≡ clear_of f ∷ [] → c.fresh ≡ [] → RolesMove s c (without_grant s h f)
last_grant_roles s h f c ok there none g n =
    let t : Store = without_grant s h f in
    roles_move s c t (record {
      holders_now = λ k w. unfold without_grant in inl w;
      folders_now = λ k w. unfold without_grant in inl w;
      files_now = λ k w. unfold without_grant in inl w;
      clears_now = λ k w. inl (stood s h f k w.0, were_granted s h f k w.1);
      holders_still = λ k w. unfold without_grant in w;
      folders_still = λ k w. unfold without_grant in inl w;
      files_still = λ k w. unfold without_grant in inl w;
      clears_still = λ k w. ⊎_elim
          (λ q. inr (subst (In (clear_of k)) (sym g) (inl (ap clear_of q))))
          (λ o. inl (still s h f k w.0, less_granted s h f k w.1 o))
          (cases_eq k f);
      gone_go = λ r k i. ⊎_elim
          (λ w. apart_number s f ok (folder_was s h f f w) there)
          (λ w. false≢true (sym none ∙ w.1))
          (role_has_clear t f r (one_is r (clear_of f) (subst (In r) g i)) k);
      fresh_stand = λ r i. absurd (subst (In r) n i);
    })
