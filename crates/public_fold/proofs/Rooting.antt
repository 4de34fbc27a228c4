-- A rooted store stays rooted when something comes, goes or moves as a note that fits says.
use Rattle.std.proofs.Common.{◌≡◌, ◌≢◌, ℕ, suc, ◌+◌, ◌<◌, ◌≤◌, Bool, true, false, cond, not, ◌==◌, ◌&&◌, List, [], ◌∷◌, ◌++◌, map, filter, Option, Some, None, inl, inr, ⊎_elim, refl, sym, ap, ◌∙◌, subst, arith}
use Rattle.std.specs.Prelude.{is_some}
use Rattle.std.proofs.lemmas.Bool.{and_parts, eqb-true, eqb-false, ne_eqb, not-true, not_from_false, or_cases, or_from, false≢true, cases_Bool}
use Rattle.cry_base.specs.Sets.{In}
use Rattle.cry_base.specs.Store.{Store, FolderEntry, FileEntry, HolderEntry, GrantEntry, folder_entry, file_entry, holder_entry}
use Rattle.cry_base.specs.Stepping.{with_new_holder, with_new_folder, with_new_file, with_folder, with_file, without_folder, without_file, without_grant}
use Rattle.cry_base.proofs.Finding.{find-found}
use Rattle.cry_base.proofs.Members.{In-map, In-filter, filter-In}
use Rattle.cry_base.specs.Clearances.{clear_base, clear_number, file_of}
use Rattle.role_graph.specs.RightsByReach.{HasClearNumber, HasFolder, MayBeGranted}
use Rattle.move_plan.specs.Fitting.{clear_stands, folder_stands, file_stands, is_file_there, may_be_granted}
use Rattle.cry_base.proofs.Versions.{file_number}
use Rattle.public_fold.specs.Rooted.{IsRooted}
use Rattle.public_fold.specs.Tree.{AtLevel}
use Rattle.public_fold.proofs.Counting as counting
use Rattle.public_fold.proofs.EdgesAfter.{file_pick}
use Rattle.public_fold.proofs.Growing.{childless_level}
use Rattle.public_fold.proofs.Levels.{last_or, earlier, last_in, numbered_more, numbered_off, level_more, level_positive}
use Rattle.public_fold.proofs.RolesAfter.{HasHolder, HasFile}
use Rattle.public_fold.proofs.Shifting.{folder_cases, goes_through, root_through, numbered_changed, stays, goes}

-- what the tests of a note tell
pub folder_there : (s : Store) (f : ℕ) → folder_stands s f ≡ true → HasFolder s f
unfolding folder_stands folder_entry
folder_there s f t = found (folder_entry s f) refl t
  where
    found : (o : Option FolderEntry) → folder_entry s f ≡ o → is_some o ≡ true → HasFolder s f
    found None e t = absurd (false≢true t)
    found (Some w) e t = let told = find-found FolderEntry (λ e. e.id == f) s.folders w e in (w, told.0, eqb-true w.id f told.1)

pub file_there : (s : Store) (x : ℕ) → file_stands s x ≡ true → HasFile s x
unfolding file_stands file_entry
file_there s x t = found (file_entry s x) refl t
  where
    found : (o : Option FileEntry) → file_entry s x ≡ o → is_some o ≡ true → HasFile s x
    found None e t = absurd (false≢true t)
    found (Some w) e t = let told = find-found FileEntry (λ e. e.id == x) s.files w e in (w, told.0, eqb-true w.id x told.1)

pub holder_there : (s : Store) (h : ℕ) → is_some (holder_entry s h) ≡ true → HasHolder s h
unfolding holder_entry
holder_there s h t = found (holder_entry s h) refl t
  where
    found : (o : Option HolderEntry) → holder_entry s h ≡ o → is_some o ≡ true → HasHolder s h
    found None e t = absurd (false≢true t)
    found (Some w) e t = let told = find-found HolderEntry (λ e. e.number == h) s.holders w e in (w, told.0, eqb-true w.number h told.1)

-- what may be granted has a number of a folder or of a file that stands
pub granted_there : (strict : Bool) (s : Store) (f : ℕ) → may_be_granted strict s f ≡ true → MayBeGranted s f
unfolding may_be_granted clear_stands is_file_there
granted_there strict s f t = ⊎_elim
    (λ u. inl (folder_there s f u))
    (λ u. inr (by_file (file_of f) refl (and_parts strict (is_file_there s (file_of f)) u).1))
    (or_cases (folder_stands s f) (strict && is_file_there s (file_of f)) t)
  where
    by_file : (o : Option ℕ) → file_of f ≡ o → is_file_there s o ≡ true → HasClearNumber s f
    by_file None e t = absurd (false≢true t)
    by_file (Some x) e t = let w = file_there s x t in (w.0, w.1, ap (λ n. clear_number n) w.2 ∙ sym (file_number f x e))

-- a folder that stands is at a level
pub level_of : (s : Store) (f : ℕ) → IsRooted s → HasFolder s f → (n : ℕ) × AtLevel n s.folders f
level_of s f ok w = let l = ok.folder_level w.0 w.1 in (l.0, subst (AtLevel l.0 s.folders) w.2 l.1)

pub new_holder : (s : Store) → IsRooted s → IsRooted (with_new_holder s [])
unfolding with_new_holder
new_holder s ok =
    let n : HolderEntry = record { number = s.holders_made + 1; key = [] } in record {
      counted = unfold with_new_holder in counting.new_holder s [] ok.counted;
      numbered = ok.numbered;
      own_file = ok.own_file;
      root_stands = ok.root_stands;
      folder_level = ok.folder_level;
      file_folder = ok.file_folder;
      granted_stands = ok.granted_stands;
      held = λ g i. let w = ok.held g i in (w.0, earlier HolderEntry w.0 n s.holders w.1, w.2);
      folders_below = ok.folders_below;
      files_below = ok.files_below;
    }

pub new_folder : (s : Store) (p : ℕ) → IsRooted s → HasFolder s p → s.folders_made + 1 < clear_base → IsRooted (with_new_folder s p [])
unfolding with_new_folder
new_folder s p ok there few =
    let n : FolderEntry = record { id = s.folders_made + 1; parent = p; name = [] } in
    let fs : List FolderEntry = s.folders in
    let more = λ (e : FolderEntry) (i : In e fs). earlier FolderEntry e n fs i in
    let above = level_of s p ok there in
    let some = level_positive above.0 fs p ok.numbered above.1 in
    let stays = λ (f : ℕ) (w : HasFolder s f). let told : (e : FolderEntry) × In e (fs ++ n ∷ []) × (e.id ≡ f) = (w.0, more w.0 w.1, w.2) in told in record {
      counted = unfold with_new_folder in counting.new_folder s p [] ok.counted;
      numbered = numbered_more fs n ok.numbered (λ e i q. let h : e.id ≤ s.folders_made = ok.counted.each_folder e i in omega arith) (λ z. omega arith) some;
      own_file = ok.own_file;
      root_stands = level_more 0 fs (fs ++ n ∷ []) 1 more ok.root_stands;
      folder_level = λ e i. ⊎_elim
          (λ u. let l = ok.folder_level e u in (l.0, level_more l.0 fs (fs ++ n ∷ []) e.id more l.1))
          (λ q. (suc above.0, (n, last_in FolderEntry n fs, sym (ap (λ (y : FolderEntry). y.id) q), some, level_more above.0 fs (fs ++ n ∷ []) p more above.1)))
          (last_or FolderEntry e n fs i);
      file_folder = λ x i. stays x.folder (ok.file_folder x i);
      granted_stands = λ g i. ⊎_elim (λ w. inl (stays g.folder w)) (λ w. inr w) (ok.granted_stands g i);
      held = ok.held;
      folders_below = few;
      files_below = ok.files_below;
    }

pub new_file : (s : Store) (f : ℕ) → IsRooted s → HasFolder s f → s.files_made + 1 < clear_base → IsRooted (with_new_file s f [] [])
unfolding with_new_file
new_file s f ok there few =
    let n : FileEntry = record { id = s.files_made + 1; folder = f; name = []; bytes = [] } in
    let either = λ (e : FileEntry) (i : In e (s.files ++ n ∷ [])). last_or FileEntry e n s.files i in
    let fresh = λ (a b : FileEntry) (i : In a s.files) (q : b ≡ n) (e : a.id ≡ b.id).
    let h : a.id ≤ s.files_made = ok.counted.each_file a i in let g : b.id ≡ s.files_made + 1 = ap (λ (y : FileEntry). y.id) q in let no : ⊥ = omega arith in no in record {
      counted = unfold with_new_file in counting.new_file s f [] [] ok.counted;
      numbered = ok.numbered;
      own_file = λ a b i j e. ⊎_elim
          (λ u. ⊎_elim (λ v. ok.own_file a b u v e) (λ q. absurd (fresh a b u q e)) (either b j))
          (λ p. ⊎_elim (λ v. absurd (fresh b a v p (sym e))) (λ q. p ∙ sym q) (either b j))
          (either a i);
      root_stands = ok.root_stands;
      folder_level = ok.folder_level;
      file_folder = λ x i. ⊎_elim (λ u. ok.file_folder x u) (λ q. subst (HasFolder s) (sym (ap (λ (y : FileEntry). y.folder) q)) there) (either x i);
      granted_stands = λ g i. ⊎_elim (λ w. inl w) (λ w. inr (w.0, earlier FileEntry w.0 n s.files w.1, w.2)) (ok.granted_stands g i);
      held = ok.held;
      folders_below = ok.folders_below;
      files_below = few;
    }

pub no_file : (s : Store) (x : ℕ) → IsRooted s → IsRooted (without_file s x)
unfolding without_file
no_file s x ok =
    let was = λ (e : FileEntry) (i : In e (filter (λ (y : FileEntry). not (y.id == x)) s.files)). In-filter FileEntry (λ y. not (y.id == x)) e s.files i in
    let grant = λ (g : GrantEntry) (i : In g (filter (λ (g : GrantEntry). not (g.folder == clear_number x)) s.grants)). In-filter GrantEntry (λ g. not (g.folder == clear_number x)) g s.grants i in record {
      counted = unfold without_file in counting.no_file s x ok.counted;
      numbered = ok.numbered;
      own_file = λ a b i j. ok.own_file a b (was a i).0 (was b j).0;
      root_stands = ok.root_stands;
      folder_level = ok.folder_level;
      file_folder = λ y i. ok.file_folder y (was y i).0;
      granted_stands = λ g i. let w = grant g i in ⊎_elim
          (λ u. inl u)
          (λ u. inr (
            u.0,
            filter-In FileEntry (λ (y : FileEntry). not (y.id == x)) u.0 s.files u.1 (not_from_false (u.0.id == x) (ne_eqb u.0.id x (λ q.
                eqb-false g.folder (clear_number x) (not-true (g.folder == clear_number x) w.1) (sym u.2 ∙ ap (λ n. clear_number n) q)))),
            u.2,
          ))
          (ok.granted_stands g w.0);
      held = λ g i. ok.held g (grant g i).0;
      folders_below = ok.folders_below;
      files_below = ok.files_below;
    }

pub no_folder : (s : Store) (f : ℕ) → IsRooted s → f ≢ 1 → ((a : FolderEntry) → In a s.folders → a.parent ≢ f) → ((b : FileEntry) → In b s.files → b.folder ≢ f) → IsRooted (without_folder s f)
unfolding without_folder
no_folder s f ok other no_child no_inner =
    let fs : List FolderEntry = s.folders in
    let left : List FolderEntry = filter (λ (e : FolderEntry). not (e.id == f)) fs in
    let was = λ (e : FolderEntry) (i : In e left). In-filter FolderEntry (λ e. not (e.id == f)) e fs i in
    let grant = λ (g : GrantEntry) (i : In g (filter (λ (g : GrantEntry). not (g.folder == f)) s.grants)). In-filter GrantEntry (λ g. not (g.folder == f)) g s.grants i in
    let stays = λ (g : ℕ) (w : HasFolder s g) (o : g ≢ f).
    let told : (e : FolderEntry) × In e left × (e.id ≡ g) = (w.0, filter-In FolderEntry (λ e. not (e.id == f)) w.0 fs w.1 (not_from_false (w.0.id == f) (ne_eqb w.0.id f (λ q. o (sym w.2 ∙ q)))), w.2) in told in record {
      counted = unfold without_folder in counting.no_folder s f ok.counted;
      numbered = numbered_off fs f ok.numbered;
      own_file = ok.own_file;
      root_stands = childless_level 0 fs f 1 no_child (λ z. other (sym z)) ok.root_stands;
      folder_level = λ e i. let w = was e i in let l = ok.folder_level e w.0 in
          (l.0, childless_level l.0 fs f e.id no_child (eqb-false e.id f (not-true (e.id == f) w.1)) l.1);
      file_folder = λ x i. stays x.folder (ok.file_folder x i) (no_inner x i);
      granted_stands = λ g i. let w = grant g i in ⊎_elim
          (λ u. inl (stays g.folder u (eqb-false g.folder f (not-true (g.folder == f) w.1))))
          (λ u. inr u) (ok.granted_stands g w.0);
      held = λ g i. ok.held g (grant g i).0;
      folders_below = ok.folders_below;
      files_below = ok.files_below;
    }

pub shift_file : (s : Store) (x q : ℕ) → IsRooted s → HasFolder s q → IsRooted (with_file s x (λ e. record e { folder = q }))
unfolding with_file
shift_file s x q ok there =
    let put : FileEntry → FileEntry = λ e. record e { folder = q } in
    let pick : FileEntry → FileEntry = λ e. cond (e.id == x) (put e) e in
    let was = λ (e : FileEntry) (i : In e (map pick s.files)). (In-map FileEntry FileEntry pick e s.files).0 i in
    let same = λ (u : FileEntry). let told : (pick u).id ≡ u.id = ⊎_elim (λ w. ap (λ (y : FileEntry). y.id) w.1) (λ w. ap (λ (y : FileEntry). y.id) w.1) (file_pick x put u) in told in
    let id = λ (e u : FileEntry) (s : e ≡ pick u). ap (λ (y : FileEntry). y.id) s ∙ same u in record {
      counted = unfold with_file in counting.one_file s x put (λ e. refl) ok.counted;
      numbered = ok.numbered;
      own_file = λ a b i j e. let u = was a i in let v = was b j in
          u.2 ∙ ap pick (ok.own_file u.0 v.0 u.1 v.1 (sym (id a u.0 u.2) ∙ e ∙ id b v.0 v.2)) ∙ sym v.2;
      root_stands = ok.root_stands;
      folder_level = ok.folder_level;
      file_folder = λ e i. let u = was e i in ⊎_elim
          (λ c. subst (HasFolder s) (sym (ap (λ (y : FileEntry). y.folder) (u.2 ∙ c.1))) there)
          (λ c. subst (HasFolder s) (sym (ap (λ (y : FileEntry). y.folder) (u.2 ∙ c.1))) (ok.file_folder u.0 u.1))
          (file_pick x put u.0);
      granted_stands = λ g i. ⊎_elim
          (λ w. inl w)
          (λ w. inr (pick w.0, (In-map FileEntry FileEntry pick (pick w.0) s.files).1 (w.0, w.1, refl), ap (λ n. clear_number n) (same w.0) ∙ w.2))
          (ok.granted_stands g i);
      held = ok.held;
      folders_below = ok.folders_below;
      files_below = ok.files_below;
    }

pub shift_folder : (s : Store) (f q : ℕ) → IsRooted s → f ≢ 1 → HasFolder s f → HasFolder s q → goes_through s.folders q f ≡ false → IsRooted (with_folder s f (λ e. record e { parent = q }))
unfolding with_folder
shift_folder s f q ok other here there outside =
    let fs : List FolderEntry = s.folders in
    let put : FolderEntry → FolderEntry = λ e. record e { parent = q } in
    let pick : FolderEntry → FolderEntry = λ e. cond (e.id == f) (put e) e in
    let same = λ (u : FolderEntry). let told : (pick u).id ≡ u.id = ⊎_elim (λ w. ap (λ (y : FolderEntry). y.id) w.1) (λ w. ap (λ (y : FolderEntry). y.id) w.1) (folder_cases f put u) in told in
    let at = level_of s f ok here in
    let into = level_of s q ok there in
    let some = level_positive into.0 fs q ok.numbered into.1 in
    let below : AtLevel into.0 (map pick fs) q = stays fs f q into.0 q ok.numbered into.1 outside in
    let r = ok.root_stands in
    let level = λ (e : FolderEntry) (i : In e fs). let l = ok.folder_level e i in
    let told : (n : ℕ) × AtLevel n (map pick fs) e.id = ⊎_elim
    (λ t. let w = goes fs f q l.0 at.0 into.0 e.id ok.numbered some l.1 at.1 below t in let told : (n : ℕ) × AtLevel n (map pick fs) e.id = (w.0, w.1) in told)
    (λ t. (l.0, stays fs f q l.0 e.id ok.numbered l.1 t))
    (cases_Bool (goes_through fs e.id f)) in told in
    let still = λ (g : ℕ) (w : HasFolder s g).
    let told : (e : FolderEntry) × In e (map pick fs) × (e.id ≡ g) = (pick w.0, (In-map FolderEntry FolderEntry pick (pick w.0) fs).1 (w.0, w.1, refl), same w.0 ∙ w.2) in told in record {
      counted = unfold with_folder in counting.one_folder s f put (λ e. refl) ok.counted;
      numbered = numbered_changed fs s.files f put (λ e. refl) ok.numbered (λ e i h z. absurd (some z));
      own_file = ok.own_file;
      root_stands = stays fs f q 0 1 ok.numbered r (root_through fs f 1 ok.numbered r ∙ or_from (r.0.id == f) false (ne_eqb r.0.id f (λ z. other (sym z ∙ r.2))) refl);
      folder_level = λ e i. let u = (In-map FolderEntry FolderEntry pick e fs).0 i in
          subst (λ g. (n : ℕ) × AtLevel n (map pick fs) g) (sym (ap (λ (y : FolderEntry). y.id) u.2 ∙ same u.0)) (level u.0 u.1);
      file_folder = λ x i. still x.folder (ok.file_folder x i);
      granted_stands = λ g i. ⊎_elim (λ w. inl (still g.folder w)) (λ w. inr w) (ok.granted_stands g i);
      held = ok.held;
      folders_below = ok.folders_below;
      files_below = ok.files_below;
    }

pub give : (s : Store) (h f : ℕ) → IsRooted s → HasHolder s h → MayBeGranted s f → IsRooted (record s { grants = s.grants ++ record { holder = h; folder = f } ∷ [] })
give s h f ok made there =
    let n : GrantEntry = record { holder = h; folder = f } in
    let either = λ (g : GrantEntry) (i : In g (s.grants ++ n ∷ [])). last_or GrantEntry g n s.grants i in record {
      counted = record { each_folder = ok.counted.each_folder; each_file = ok.counted.each_file; each_holder = ok.counted.each_holder };
      numbered = ok.numbered;
      own_file = ok.own_file;
      root_stands = ok.root_stands;
      folder_level = ok.folder_level;
      file_folder = ok.file_folder;
      granted_stands = λ g i. ⊎_elim (λ u. ok.granted_stands g u) (λ q. subst (MayBeGranted s) (sym (ap (λ (y : GrantEntry). y.folder) q)) there) (either g i);
      held = λ g i. ⊎_elim (λ u. ok.held g u) (λ q. subst (HasHolder s) (sym (ap (λ (y : GrantEntry). y.holder) q)) made) (either g i);
      folders_below = ok.folders_below;
      files_below = ok.files_below;
    }

pub take : (s : Store) (h f : ℕ) → IsRooted s → IsRooted (without_grant s h f)
unfolding without_grant
take s h f ok =
    let was = λ (g : GrantEntry) (i : In g (filter (λ (y : GrantEntry). not (y.holder == h && y.folder == f)) s.grants)). (In-filter GrantEntry (λ y. not (y.holder == h && y.folder == f)) g s.grants i).0 in record {
      counted = unfold without_grant in counting.no_grant s h f ok.counted;
      numbered = ok.numbered;
      own_file = ok.own_file;
      root_stands = ok.root_stands;
      folder_level = ok.folder_level;
      file_folder = ok.file_folder;
      granted_stands = λ g i. ok.granted_stands g (was g i);
      held = λ g i. ok.held g (was g i);
      folders_below = ok.folders_below;
      files_below = ok.files_below;
    }
