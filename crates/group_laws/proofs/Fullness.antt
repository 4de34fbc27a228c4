-- Behind commands of a replacement that were accepted the next one is refused for a full store alone.
use Rattle.std.proofs.Common.{◌≡◌, ℕ, ◌+◌, ◌<◌, Bool, true, false, not, ◌&&◌, ◌||◌, ◌==◌, cond, ◌⊎◌, List, [], ◌∷◌, ◌++◌, map, Option, Some, None, is_none, inl, inr, ⊎_elim, refl, sym, ap, ◌∙◌, subst, arith}
use Rattle.std.specs.Prelude.{codes, find, nat_lt, option_map}
use Rattle.std.specs.List.{list_any}
use Rattle.std.specs.Option.{unwrap_or}
use Rattle.std.proofs.lemmas.Bool.{eq-eqb, eqb-true}
use Rattle.std.proofs.lemmas.List.{append-nil}
use Rattle.cry_base.proofs.Finding.{find-found, found-find}
use Rattle.cry_base.proofs.Members.{In-append}
use Rattle.cry_base.proofs.Paths.{path_told}
use Rattle.cry_base.specs.Clearances.{clear_base}
use Rattle.cry_base.proofs.Versions.{accepted_in, file_of_folder, refusal_of_others, refusal_strict}
use Rattle.cry_base.specs.Naming.{is_path, spell_path}
use Rattle.cry_base.specs.Refusing.{causes, changes_root, finds_name_taken, finds_no_holder, finds_no_path, goes_too_deep, granted_id, grants_again, grants_on_file, has_bad_name, is_file, is_too_long, moves_into_itself, needs_folder, refusal_in, refusal_of, removes_children, revokes_nothing, writes_folder}
use Rattle.cry_base.specs.Requests.{Request, paths_of}
use Rattle.cry_base.specs.Requests.Request.{AddHolder, Grant, Revoke}
use Rattle.cry_base.specs.Sets.{In}
use Rattle.cry_base.specs.Store.{Store, GrantEntry, HolderEntry, folder_node, has_grant, holder_entry, node_at, node_names, nodes_of, path_of}
use Rattle.cry_base.specs.declared.commands.Refusal.{Refusal}
use Rattle.cry_base.specs.declared.commands.Refusal.TheVariants.{BadName, Exists, Full, HasGrant, InsideItself, IsFolder, IsRoot, NoGrant, NoHolder, NoPath, NotEmpty, NotFolder, TooDeep, TooLong}
use Rattle.cry_base.specs.declared.limits.Limits.{Limits}
use Rattle.cry_base.specs.declared.roles.Node.{Node}
use Rattle.grant_book.specs.Granted.{grant_of, is_grant}
use Rattle.grant_book.proofs.Ordered.{any_grant_told}
use Rattle.group_book.specs.Replacing.{ascending, granted_node, node_by, stands_for, stands_for_entry}
use Rattle.group_book.proofs.Sorted.{Rises, ascending_rises}
use Rattle.group_laws.specs.Handing.{NoneIsRefused}
use Rattle.group_laws.proofs.Accepted.{back_accepted, behind, between_store, first_accepted, front_accepted, goes_behind, going_append, rest_accepted, stand_behind}
use Rattle.group_laws.proofs.Granting.{AreFound, AreGranted, AreTaken, granted_all, granting, holder_more, revoking, taken_all, tree_on}
use Rattle.group_laws.proofs.Viewing.{is_false}
use Rattle.group_laws.proofs.Handed.{are_found, folder_in, new_has_none, node_told, number_told, stands_told}
use Rattle.journal_bytes.specs.Script.{Going, answer, answer_with, due_end, script_going, script_replies}
use Rattle.journal_bytes.proofs.Refused.{found_same}
use Rattle.move_plan.specs.Change.{change_of}
use Rattle.public_fold.specs.Journal.{Journal, Stand, entry_step, keys_of, note_step, nothing, stand_after, stand_then, store_of}
use Rattle.public_fold.specs.Journal.Entry.{Did, Session}
use Rattle.public_fold.specs.KeyStep.{is_strict, key_step, published, step_with, version_then}
use Rattle.public_fold.specs.Valid.{IsValid}
use Rattle.public_fold.proofs.Accepting.{accepted}
use Rattle.public_fold.proofs.Keeping.{journal_tree}
use Rattle.public_fold.proofs.OwnPaths.{path_finds}
use Rattle.public_fold.proofs.Prefixes.{stand_after-append}
use Rattle.public_fold.proofs.Versioned.{command_version, session_version}
use Rattle.public_fold.proofs.Treeing.{node_is_named, node_stands, root_names}
use Rattle.role_graph.specs.Rights.{IsGranted, granted_to}

-- ---- when a grant is given or taken back

grant_causes : Bool → Bool → Bool → Bool → Bool → Option Refusal
grant_causes bad no_path no_holder again nothing = option_map (λ (cause : Bool × Refusal). cause.1) (find (λ (cause : Bool × Refusal). cause.0)
    ((bad, BadName) ∷ (no_path, NoPath) ∷ (false, IsRoot) ∷ (false, NotFolder) ∷ (false, IsFolder) ∷ (false, Exists) ∷ (false, NotEmpty) ∷ (false, InsideItself) ∷ (false, TooDeep)
    ∷ (no_holder, NoHolder) ∷ (again, HasGrant) ∷ (nothing, NoGrant) ∷ (false, TooLong) ∷ []))

grant_told : (s : Store) (h : ℕ) (path : List ℕ) (n : ℕ) → refusal_of s (Grant h path) n
    ≡ grant_causes (not (is_path path && true)) (is_none (node_at s path) || false) (is_none (holder_entry s h)) (has_grant s h (granted_id (node_at s path))) false
unfolding refusal_of causes has_bad_name finds_no_path changes_root needs_folder writes_folder finds_name_taken removes_children moves_into_itself goes_too_deep finds_no_holder grants_again revokes_nothing is_too_long paths_of grant_causes
grant_told s h path n = refl

revoke_told : (s : Store) (h : ℕ) (path : List ℕ) (n : ℕ) → refusal_of s (Revoke h path) n
    ≡ grant_causes (not (is_path path && true)) (is_none (node_at s path) || false) (is_none (holder_entry s h)) false (not (has_grant s h (granted_id (node_at s path))))
unfolding refusal_of causes has_bad_name finds_no_path changes_root needs_folder writes_folder finds_name_taken removes_children moves_into_itself goes_too_deep finds_no_holder grants_again revokes_nothing is_too_long paths_of grant_causes
revoke_told s h path n = refl

pub never_refused : (s : Store) (n : ℕ) → refusal_of s AddHolder n ≡ None
unfolding refusal_of causes has_bad_name finds_no_path changes_root needs_folder writes_folder finds_name_taken removes_children moves_into_itself goes_too_deep finds_no_holder grants_again revokes_nothing is_too_long paths_of
never_refused s n = refl

grant_passes : (s : Store) (h : ℕ) (path : List ℕ) (n : ℕ) (node : Node) → is_path path ≡ true → node_at s path ≡ Some node → is_none (holder_entry s h) ≡ false → has_grant s h (granted_id (Some node)) ≡ false → refusal_of s (Grant h path) n ≡ None
unfolding grant_causes
grant_passes s h path n node form finds holder absent =
    grant_told s h path n
    ∙ (λ i. grant_causes (not (form i && true)) (is_none (finds i) || false) (holder i) (has_grant s h (granted_id (finds i))) false)
    ∙ ap (λ b. grant_causes false false false b false) absent

revoke_passes : (s : Store) (h : ℕ) (path : List ℕ) (n : ℕ) (node : Node) → is_path path ≡ true → node_at s path ≡ Some node → is_none (holder_entry s h) ≡ false → has_grant s h (granted_id (Some node)) ≡ true → refusal_of s (Revoke h path) n ≡ None
unfolding grant_causes
revoke_passes s h path n node form finds holder there =
    revoke_told s h path n
    ∙ (λ i. grant_causes (not (form i && true)) (is_none (finds i) || false) (holder i) false (not (has_grant s h (granted_id (finds i)))))
    ∙ ap (λ b. grant_causes false false false false (not b)) there

pub nobody_refused : (s : Store) (h : ℕ) (path : List ℕ) (n : ℕ) (node : Node) → is_path path ≡ true → node_at s path ≡ Some node → is_none (holder_entry s h) ≡ true → refusal_of s (Revoke h path) n ≡ Some NoHolder
unfolding grant_causes
nobody_refused s h path n node form finds nobody =
    revoke_told s h path n
    ∙ (λ i. grant_causes (not (form i && true)) (is_none (finds i) || false) (nobody i) false (not (has_grant s h (granted_id (node_at s path)))))

-- ---- the answer

answer_full : (b : Bool) → (answer_with None b ≡ None) ⊎ (answer_with None b ≡ Some Full)
unfolding answer_with
answer_full true = inr refl
answer_full false = inl refl

-- the store may have grants on files, or this command is none on a file
abbrev pub MayGrant : Journal → Request → Type 0
MayGrant m r = ((keys_of m).version ≡ 2) ⊎ (grants_on_file (store_of m) r ≡ false)

passes_in : (m : Journal) (r : Request) (n : ℕ) → MayGrant m r → refusal_of (store_of m) r n ≡ None → refusal_in (is_strict (keys_of m)) (store_of m) r n ≡ None
unfolding is_strict
passes_in m r n may passes = ⊎_elim
    (λ (version : (keys_of m).version ≡ 2). ap (λ b. refusal_in b (store_of m) r n) (eq-eqb (keys_of m).version 2 version) ∙ refusal_strict (store_of m) r n ∙ passes)
    (λ (none : grants_on_file (store_of m) r ≡ false). refusal_of_others ((keys_of m).version == 2) (store_of m) r n none ∙ passes)
    may

-- what isn't refused for another cause may be so as full
pub full_alone : (limits : Limits) (m : Journal) (begun : Bool) (r : Request) → MayGrant m r → refusal_of (store_of m) r limits.file_bytes ≡ None → (answer limits m begun r ≡ None) ⊎ (answer limits m begun r ≡ Some Full)
unfolding answer keys_of store_of
full_alone limits m begun r may passes =
    let none = passes_in m r limits.file_bytes may passes in
    let full = nat_lt limits.store_bytes (due_end m begun r) in
    ⊎_elim
    (λ a. inl (ap (λ o. answer_with o full) none ∙ a))
    (λ b. inr (ap (λ o. answer_with o full) none ∙ b))
    (answer_full full)

on_no_file : (s : Store) → grants_on_file s AddHolder ≡ false
unfolding grants_on_file
on_no_file s = refl

grant_on : (s : Store) (h : ℕ) (path : List ℕ) (node : Node) → node_at s path ≡ Some node → is_file (Some node) ≡ false → grants_on_file s (Grant h path) ≡ false
unfolding grants_on_file
grant_on s h path node finds folder = ap is_file finds ∙ folder

revoke_on : (s : Store) (h : ℕ) (path : List ℕ) (node : Node) → node_at s path ≡ Some node → is_file (Some node) ≡ false → grants_on_file s (Revoke h path) ≡ false
unfolding grants_on_file
revoke_on s h path node finds folder = ap is_file finds ∙ folder

-- none of the numbers is a file's
abbrev pub AreFolders : List ℕ → Type 0
AreFolders ks = (k : ℕ) → In k ks → is_file (Some (granted_node k)) ≡ false

below_are_folders : (k : ℕ) → k < clear_base → is_file (Some (granted_node k)) ≡ false
unfolding granted_node node_by is_file folder_node
below_are_folders k low = ap (λ o. is_file (Some (node_by k o))) (file_of_folder k low)

-- ---- the version stays

passed : (o : Option Refusal) (b : Bool) → answer_with o b ≡ None → o ≡ None
unfolding answer_with
passed None b is = refl
passed (Some why) b is = absurd cc

did_version : (at : Stand) (r : Request) (keys : List (List ℕ)) (n : ℕ) → refusal_of at.store r n ≡ None → (stand_then at (Did r keys)).keys.version ≡ at.keys.version
unfolding stand_then entry_step note_step key_step step_with published version_then change_of
did_version at r keys n passes = ap (λ o. unwrap_or o at.keys.version) (command_version at.store r (accepted at.store r n passes))

between_version : (m : Journal) (b : Bool) → (stand_after nothing (m ++ cond b [] (Session ∷ []))).keys.version ≡ (stand_after nothing m).keys.version
unfolding stand_after
between_version m true = ap (λ (at : Stand). at.keys.version) (stand_after-append nothing m [])
between_version m false = ap (λ (at : Stand). at.keys.version) (stand_after-append nothing m (Session ∷ [])) ∙ session_version (stand_after nothing m)

version_behind : (limits : Limits) (g : Going) (r : Request) → answer limits g.journal g.begun r ≡ None → (keys_of (behind g r).journal).version ≡ (keys_of g.journal).version
unfolding answer keys_of
version_behind limits g r is =
    let before = stand_after nothing g.journal in
    let at = stand_after nothing (g.journal ++ cond g.begun [] (Session ∷ [])) in
    let passes : refusal_of before.store r limits.file_bytes ≡ None =
    accepted_in (is_strict before.keys) before.store r limits.file_bytes (passed (refusal_in (is_strict before.keys) before.store r limits.file_bytes) (nat_lt limits.store_bytes (due_end g.journal g.begun r)) is) in
    let w = stand_behind g r in
    ap (λ (x : Stand). x.keys.version) w.1
    ∙ did_version at r w.0 limits.file_bytes (ap (λ (s : Store). refusal_of s r limits.file_bytes) (between_store g.journal g.begun) ∙ passes)
    ∙ between_version g.journal g.begun

pub version_kept : (limits : Limits) (g : Going) (rs : List Request) → NoneIsRefused (script_replies limits g rs) → (keys_of (script_going limits g rs).journal).version ≡ (keys_of g.journal).version
unfolding script_going
version_kept limits g [] none = refl
version_kept limits g (r ∷ rs) none =
    let is = first_accepted limits g r rs none in
    ap (λ (h : Going). (keys_of h.journal).version) (goes_behind limits g r rs is)
    ∙ version_kept limits (behind g r) rs (rest_accepted limits g r rs none)
    ∙ version_behind limits g r is

-- ---- which command comes next

-- the next command is that of a number, behind those of the numbers before it
pub record IsAt (F : List ℕ → Request) (p : ℕ → List ℕ) (ks : List ℕ) (front : List Request) (next : Request) : Type 0 where
  pub done : List ℕ
  pub number : ℕ
  pub left : List ℕ
  pub numbers : ks ≡ done ++ number ∷ left
  pub front_is : front ≡ map F (map p done)
  pub next_is : next ≡ F (p number)

split : (F : List ℕ → Request) (p : ℕ → List ℕ) (ks : List ℕ) (ys front : List Request) (next : Request) (rest : List Request) → front ++ next ∷ rest ≡ map F (map p ks) ++ ys →
    IsAt F p ks front next ⊎ ((more : List Request) × (front ≡ map F (map p ks) ++ more) × (more ++ next ∷ rest ≡ ys))
split F p [] ys front next rest e = inr (front, refl, e)
split F p (k ∷ ks) ys [] next rest e = inl (record { done = []; number = k; left = ks; numbers = refl; front_is = refl; next_is = first_one e })
  where
    first_one : next ∷ rest ≡ F (p k) ∷ (map F (map p ks) ++ ys) → next ≡ F (p k)
    first_one q = cc
split F p (k ∷ ks) ys (f ∷ fs) next rest e = on (first_one e) (split F p ks ys fs next rest (others e))
  where
    first_one : f ∷ (fs ++ next ∷ rest) ≡ F (p k) ∷ (map F (map p ks) ++ ys) → f ≡ F (p k)
    first_one q = cc

    others : f ∷ (fs ++ next ∷ rest) ≡ F (p k) ∷ (map F (map p ks) ++ ys) → fs ++ next ∷ rest ≡ map F (map p ks) ++ ys
    others q = cc

    on : f ≡ F (p k) → IsAt F p ks fs next ⊎ ((more : List Request) × (fs ≡ map F (map p ks) ++ more) × (more ++ next ∷ rest ≡ ys)) →
        IsAt F p (k ∷ ks) (f ∷ fs) next ⊎ ((more : List Request) × (f ∷ fs ≡ F (p k) ∷ (map F (map p ks) ++ more)) × (more ++ next ∷ rest ≡ ys))
    on first u = ⊎_elim
        (λ (w : IsAt F p ks fs next). inl (record {
          done = k ∷ w.done;
          number = w.number;
          left = w.left;
          numbers = ap (λ l. k ∷ l) w.numbers;
          front_is = λ i. first i ∷ w.front_is i;
          next_is = w.next_is;
        }))
        (λ (w : (more : List Request) × (fs ≡ map F (map p ks) ++ more) × (more ++ next ∷ rest ≡ ys)). inr (w.0, λ i. first i ∷ w.1 i, w.2))
        u

-- a number stands once in a list that ascends
once : (a : List ℕ) (k : ℕ) (b : List ℕ) → Rises (a ++ k ∷ b) → In k a → ⊥
once [] k b up i = i
once (x ∷ a) k b up i = ⊎_elim
    (λ (e : k ≡ x). let above : x < k = up.0 k ((In-append ℕ k a (k ∷ b)).1 (inr (inl refl))) in omega (arith, above, e))
    (λ j. once a k b up.1 j) i

-- ---- what stands for each command

formed : (m : Journal) → IsValid m → (node : Node) → In node (nodes_of (store_of m)) → is_path (path_of (store_of m) node) ≡ true
unfolding path_of
formed m valid node i =
    (path_told (spell_path (node_names (store_of m) node))).1 (node_names (store_of m) node, node_is_named (store_of m) node (journal_tree m valid) (node_stands (store_of m) node i), refl)

holder_there : (s : Store) (h : ℕ) (e : HolderEntry) → In e s.holders → e.number ≡ h → is_none (holder_entry s h) ≡ false
unfolding holder_entry
holder_there s h e i is =
    let w = found-find HolderEntry (λ (x : HolderEntry). x.number == h) e s.holders i (eq-eqb e.number h is) in
    ap (λ (o : Option HolderEntry). is_none o) w.1

granted_there : (s : Store) (h f : ℕ) → IsGranted s h f → has_grant s h f ≡ true
unfolding has_grant
granted_there s h f i = (any_grant_told h f s.grants).1 i

not_granted : (s : Store) (h f : ℕ) → (IsGranted s h f → ⊥) → has_grant s h f ≡ false
unfolding has_grant
not_granted s h f never = is_false (list_any (is_grant h f) s.grants) (λ t. never ((any_grant_told h f s.grants).0 t))

holder_in : (s : Store) (h : ℕ) (e : HolderEntry) → holder_entry s h ≡ Some e → In e s.holders × (e.number ≡ h)
unfolding holder_entry
holder_in s h e is = let w = find-found HolderEntry (λ (x : HolderEntry). x.number == h) s.holders e is in (w.0, eqb-true e.number h w.1)

nothing_left : (more : List Request) (next : Request) (rest : List Request) → more ++ next ∷ rest ≡ [] → ⊥
nothing_left [] next rest e = cc
nothing_left (x ∷ xs) next rest e = cc

module _ (limits : Limits) (g : Going) (n : ℕ) (valid : IsValid g.journal) (version : ((keys_of g.journal).version ≡ 2) ⊎ AreFolders (ascending (granted_to (store_of g.journal) n))) (some : (e : HolderEntry) × (holder_entry (store_of g.journal) n ≡ Some e)) where
  abbrev s : Store
  s = store_of g.journal

  abbrev new : ℕ
  new = (store_of g.journal).holders_made + 1

  abbrev ks : List ℕ
  ks = ascending (granted_to (store_of g.journal) n)

  abbrev path : ℕ → List ℕ
  path k = path_of (store_of g.journal) (granted_node k)

  abbrev Passes : Going → Request → Type 0
  Passes h next = (answer limits h.journal h.begun next ≡ None) ⊎ (answer limits h.journal h.begun next ≡ Some Full)

  some_found : (done : List ℕ) (k : ℕ) (left : List ℕ) → ks ≡ done ++ k ∷ left → AreFound s done
  some_found done k left is j i = are_found g.journal valid n j (subst (In j) (sym is) ((In-append ℕ j done (k ∷ left)).1 (inl i)))

  k_in : (done : List ℕ) (k : ℕ) (left : List ℕ) → ks ≡ done ++ k ∷ left → In k ks
  k_in done k left is = subst (In k) (sym is) ((In-append ℕ k done (k ∷ left)).1 (inr (inl refl)))

  not_done : (done : List ℕ) (k : ℕ) (left : List ℕ) → ks ≡ done ++ k ∷ left → In k done → ⊥
  not_done done k left is = once done k left (subst Rises is (ascending_rises (granted_to s n)))

  -- a grant
  grant_next : (front : List Request) (next : Request) → IsAt (Grant new) path ks front next → NoneIsRefused (script_replies limits (behind g AddHolder) front)
      → ((keys_of (behind g AddHolder).journal).version ≡ 2) ⊎ AreFolders ks → Passes (script_going limits (behind g AddHolder) front) next
  grant_next front next w none kept =
      let h1 = behind g AddHolder in
      let more = holder_more g in
      let h = script_going limits h1 front in
      let accepted_front = subst (λ l. NoneIsRefused (script_replies limits h1 l)) w.front_is none in
      let given = subst (λ l. AreGranted (store_of h1.journal) (store_of (script_going limits h1 l).journal) new w.done) (sym w.front_is)
      (granted_all limits s new w.done (some_found w.done w.number w.left w.numbers) h1 more.tree accepted_front) in
      let t = store_of h.journal in
      let tree = tree_on s (store_of h1.journal) t more.tree given.same in
      let node = node_told g.journal valid n w.number (k_in w.done w.number w.left w.numbers) in
      let found = are_found g.journal valid n w.number (k_in w.done w.number w.left w.numbers) in
      let made : HolderEntry = record { number = new; key = more.key } in
      let holder = holder_there t new made (subst (In made) (sym (given.same.holders ∙ more.holders)) ((In-append HolderEntry made s.holders (made ∷ [])).1 (inr (inl refl)))) refl in
      let absent = not_granted t new w.number (λ i. ⊎_elim
      (λ j. new_has_none g.journal valid w.number (subst (In (grant_of new w.number)) more.grants j))
      (λ (u : (new ≡ new) × In w.number w.done). not_done w.done w.number w.left w.numbers u.1)
      ((given.grants (grant_of new w.number)).0 i)) in
      let finds = found_same t s (path w.number) tree ∙ found.finds in
      let may : MayGrant h.journal next = ⊎_elim
      (λ (v : (keys_of h1.journal).version ≡ 2). inl (version_kept limits h1 front none ∙ v))
      (λ (f : AreFolders ks). inr (ap (grants_on_file t) w.next_is ∙ grant_on t new (path w.number) (granted_node w.number) finds (f w.number (k_in w.done w.number w.left w.numbers))))
      kept in
      full_alone limits h.journal h.begun next may
      (ap (λ r. refusal_of t r limits.file_bytes) w.next_is
      ∙ grant_passes t new (path w.number) limits.file_bytes (granted_node w.number) (formed g.journal valid (granted_node w.number) node.stands)
      finds holder (ap (has_grant t new) found.number ∙ absent))

  -- a revocation, behind all grants
  revoke_next : (front : List Request) (next : Request) → IsAt (Revoke n) path ks front next → NoneIsRefused (script_replies limits (behind g AddHolder) (granting s new ks ++ front))
      → ((keys_of (behind g AddHolder).journal).version ≡ 2) ⊎ AreFolders ks → Passes (script_going limits (behind g AddHolder) (granting s new ks ++ front)) next
  revoke_next front next w none kept =
      let h1 = behind g AddHolder in
      let more = holder_more g in
      let h2 = script_going limits h1 (granting s new ks) in
      let h = script_going limits h2 front in
      let given = granted_all limits s new ks (are_found g.journal valid n) h1 more.tree (front_accepted limits h1 (granting s new ks) front none) in
      let tree2 = tree_on s (store_of h1.journal) (store_of h2.journal) more.tree given.same in
      let behind_grants = back_accepted limits h1 (granting s new ks) front none in
      let taken = subst (λ l. AreTaken (store_of h2.journal) (store_of (script_going limits h2 l).journal) n w.done) (sym w.front_is)
      (taken_all limits s n w.done (some_found w.done w.number w.left w.numbers) h2 tree2 (subst (λ l. NoneIsRefused (script_replies limits h2 l)) w.front_is behind_grants)) in
      let t = store_of h.journal in
      let tree = tree_on s (store_of h2.journal) t tree2 taken.same in
      let here = k_in w.done w.number w.left w.numbers in
      let node = node_told g.journal valid n w.number here in
      let found = are_found g.journal valid n w.number here in
      let old = holder_in s n some.0 some.1 in
      let holder = holder_there t n some.0 (subst (In some.0) (sym (taken.same.holders ∙ given.same.holders ∙ more.holders)) ((In-append HolderEntry some.0 s.holders _).1 (inl old.0))) old.1 in
      let there = granted_there t n w.number ((taken.grants (grant_of n w.number)).1 (
        (given.grants (grant_of n w.number)).1 (inl (subst (In (grant_of n w.number)) (sym more.grants) ((number_told s n w.number).0 here))),
        λ (u : (n ≡ n) × In w.number w.done). not_done w.done w.number w.left w.numbers u.1,
      )) in
      let finds = found_same t s (path w.number) tree ∙ found.finds in
      let may : MayGrant h.journal next = ⊎_elim
      (λ (v : (keys_of h1.journal).version ≡ 2).
      inl (ap (λ (x : Going). (keys_of x.journal).version) (sym (going_append limits h1 (granting s new ks) front)) ∙ version_kept limits h1 (granting s new ks ++ front) none ∙ v))
      (λ (f : AreFolders ks). inr (ap (grants_on_file t) w.next_is ∙ revoke_on t n (path w.number) (granted_node w.number) finds (f w.number here)))
      kept in
      subst (λ (x : Going). Passes x next) (sym (going_append limits h1 (granting s new ks) front))
      (full_alone limits h.journal h.begun next may
      (ap (λ r. refusal_of t r limits.file_bytes) w.next_is
      ∙ revoke_passes t n (path w.number) limits.file_bytes (granted_node w.number) (formed g.journal valid (granted_node w.number) node.stands)
      finds holder (ap (has_grant t n) found.number ∙ there)))

  next_passes : (front : List Request) (next : Request) (rest : List Request) → front ++ next ∷ rest ≡ AddHolder ∷ (granting s new ks ++ revoking s n ks) → NoneIsRefused (script_replies limits g front) → Passes (script_going limits g front) next
  unfolding script_going
  next_passes [] next rest is none =
      let one : next ≡ AddHolder = first_of is in
      full_alone limits g.journal g.begun next (inr (ap (grants_on_file s) one ∙ on_no_file s)) (ap (λ r. refusal_of s r limits.file_bytes) one ∙ never_refused s limits.file_bytes)
    where
      first_of : next ∷ rest ≡ AddHolder ∷ (granting s new ks ++ revoking s n ks) → next ≡ AddHolder
      first_of q = cc
  next_passes (f ∷ fs) next rest is none =
      let one : f ≡ AddHolder = first_of is in
      let none1 = subst (λ r. NoneIsRefused (script_replies limits g (r ∷ fs))) one none in
      let accepted = first_accepted limits g AddHolder fs none1 in
      let h1 = behind g AddHolder in
      let none2 = rest_accepted limits g AddHolder fs none1 in
      let kept : ((keys_of h1.journal).version ≡ 2) ⊎ AreFolders ks = ⊎_elim (λ (v : (keys_of g.journal).version ≡ 2). inl (version_behind limits g AddHolder accepted ∙ v)) (λ (f : AreFolders ks). inr f) version in
      subst (λ r. Passes (script_going limits g (r ∷ fs)) next) (sym one)
      (subst (λ (x : Going). Passes x next) (sym (goes_behind limits g AddHolder fs accepted))
      (⊎_elim
      (λ (w : IsAt (Grant new) path ks fs next). grant_next fs next w none2 kept)
      (λ (w : (more : List Request) × (fs ≡ granting s new ks ++ more) × (more ++ next ∷ rest ≡ revoking s n ks)).
      ⊎_elim
      (λ (v : IsAt (Revoke n) path ks w.0 next).
      subst (λ l. Passes (script_going limits h1 l) next) (sym w.1) (revoke_next w.0 next v (subst (λ l. NoneIsRefused (script_replies limits h1 l)) w.1 none2) kept))
      (λ (v : (more : List Request) × (w.0 ≡ revoking s n ks ++ more) × (more ++ next ∷ rest ≡ [])). absurd (nothing_left v.0 next rest v.2))
      (split (Revoke n) path ks [] w.0 next rest (w.2 ∙ sym (append-nil (revoking s n ks)))))
      (split (Grant new) path ks (revoking s n ks) fs next rest (others is))))
    where
      first_of : f ∷ (fs ++ next ∷ rest) ≡ AddHolder ∷ (granting s new ks ++ revoking s n ks) → f ≡ AddHolder
      first_of q = cc

      others : f ∷ (fs ++ next ∷ rest) ≡ AddHolder ∷ (granting s new ks ++ revoking s n ks) → fs ++ next ∷ rest ≡ granting s new ks ++ revoking s n ks
      others q = cc

  pub refused_as_full : (front : List Request) (next : Request) (rest : List Request) → stands_for s n ≡ front ++ next ∷ rest → NoneIsRefused (script_replies limits g front) → Passes (script_going limits g front) next
  refused_as_full front next rest is none = next_passes front next rest (sym is ∙ stands_told s n some) none

-- ---- of either version

-- where no grant is on a file, none of the numbers is one's
pub numbers_are_folders : (m : Journal) (n : ℕ) → ((g : GrantEntry) → In g (store_of m).grants → g.folder < clear_base) → AreFolders (ascending (granted_to (store_of m) n))
numbers_are_folders m n below k i = below_are_folders k (below (grant_of n k) ((number_told (store_of m) n k).0 i))

-- ---- a number that nobody has

root_path : (m : Journal) → IsValid m → path_of (store_of m) (folder_node 1) ≡ codes "/"
unfolding path_of node_names folder_node spell_path
root_path m valid = let ok = journal_tree m valid in ap spell_path (root_names (store_of m) 1 ok.numbered ok.root_stands)

root_entry : (m : Journal) → IsValid m → In (folder_node 1) (nodes_of (store_of m))
root_entry m valid = let l = (journal_tree m valid).root_stands in subst (λ (k : ℕ). In (folder_node k) (nodes_of (store_of m))) l.2 (folder_in (store_of m) l.0 l.1)

-- the path of the root finds it
root_found : (m : Journal) → IsValid m → node_at (store_of m) (codes "/") ≡ Some (folder_node 1)
root_found m valid =
    let ok = journal_tree m valid in
    let w = root_entry m valid in
    ap (node_at (store_of m)) (sym (root_path m valid)) ∙ path_finds m valid (folder_node 1) w

root_no_file : (m : Journal) (n : ℕ) → IsValid m → grants_on_file (store_of m) (Revoke n (codes "/")) ≡ false
unfolding grants_on_file is_file folder_node
root_no_file m n valid = ap is_file (root_found m valid)

pub unknown : (limits : Limits) (m : Journal) (begun : Bool) (n : ℕ) → IsValid m → holder_entry (store_of m) n ≡ None →
    (stands_for (store_of m) n ≡ Revoke n (codes "/") ∷ []) × (answer limits m begun (Revoke n (codes "/")) ≡ Some NoHolder)
unfolding stands_for stands_for_entry answer answer_with store_of
unknown limits m begun n valid nobody =
    let at = stand_after nothing m in
    let root = root_found m valid in
    let form = subst (λ path. is_path path ≡ true) (root_path m valid) (formed m valid (folder_node 1) (root_entry m valid)) in
    let none : is_none (holder_entry at.store n) ≡ true = ap (λ (o : Option HolderEntry). is_none o) nobody in
    let refused : refusal_in (is_strict at.keys) at.store (Revoke n (codes "/")) limits.file_bytes ≡ Some NoHolder =
    refusal_of_others (is_strict at.keys) at.store (Revoke n (codes "/")) limits.file_bytes (root_no_file m n valid)
    ∙ nobody_refused at.store n (codes "/") limits.file_bytes (folder_node 1) form root none in (
      ap (stands_for_entry at.store n) nobody,
      ap (λ o. answer_with o (nat_lt limits.store_bytes (due_end m begun (Revoke n (codes "/"))))) refused,
    )
