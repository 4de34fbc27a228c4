-- What is allowed and named by computing is what the definitions by paths say.
use Rattle.std.proofs.Common.{◌≡◌, ℕ, Bool, true, false, cond, ◌==◌, ◌&&◌, ◌↔◌, List, [], ◌∷◌, map, filter, Option, Some, None, IsTrue, inl, inr, ⊎_elim, refl, sym, ap, ◌∙◌, subst}
use Rattle.std.proofs.lemmas.Bool.{eqb-true, eq-eqb, and_parts, and_from, or_cases, or_left, or_right, false≢true}
use Rattle.cry_base.specs.Clearances.{clear_number}
use Rattle.cry_base.specs.Sets.{In, Path, Tells, reach, has}
use Rattle.cry_base.specs.Store.{Store, GrantEntry, FolderEntry, FileEntry, folder_entry, file_entry, has_grant}
use Rattle.cry_base.specs.declared.roles.Node.{Node}
use Rattle.cry_base.specs.declared.roles.Node.TheVariants.{Folder, File}
use Rattle.cry_base.proofs.Members.{In-any}
use Rattle.cry_base.proofs.Reaching.{reach_told, has-in, in-has}
use Rattle.role_graph.specs.Rights.{downs, ups, IsGranted, IsAllowed, IsFileAllowed, IsNamed, granted_to, allowed, file_allowed, named, Who, IsAllowedTo, IsFileAllowedTo, IsNamedTo}
use Rattle.role_graph.specs.Rights.{IsShown, IsOpen, allowed_to, file_allowed_to, named_to, is_some_and, shown, node_allowed}
use Rattle.role_graph.specs.Rights.Who.{TheOwner, TheHolder}

pub nat_tells : Tells ◌==◌
nat_tells a b = (eqb-true a b, eq-eqb a b)

abbrev entry_of : ℕ → ℕ → GrantEntry
entry_of h g = record { holder = h; folder = g }

granted-in : (h g : ℕ) (gs : List GrantEntry) → In g (map (λ x. x.folder) (filter (λ x. x.holder == h) gs)) → In (entry_of h g) gs
granted-in h g [] = λ i. i
granted-in h g (e ∷ gs) =
    (elim (e.holder == h) as (λ b. e.holder == h ≡ b → In g (map (λ (x : GrantEntry). x.folder) (cond b (e ∷ filter (λ x. x.holder == h) gs) (filter (λ x. x.holder == h) gs))) → In (entry_of h g) (e ∷ gs)) [
      | true ↦ λ t i. ⊎_elim
          (λ (f : g ≡ e.folder). inl (λ k. record { holder = sym (eqb-true e.holder h t) k; folder = f k }))
          (λ r. inr (granted-in h g gs r)) i
      | false ↦ λ t i. inr (granted-in h g gs i)
    ]) refl

in-granted : (h g : ℕ) (gs : List GrantEntry) → In (entry_of h g) gs → In g (map (λ x. x.folder) (filter (λ x. x.holder == h) gs))
in-granted h g [] = λ i. i
in-granted h g (e ∷ gs) = λ i.
    (elim (e.holder == h) as (λ b. e.holder == h ≡ b → In g (map (λ (x : GrantEntry). x.folder) (cond b (e ∷ filter (λ x. x.holder == h) gs) (filter (λ x. x.holder == h) gs)))) [
      | true ↦ λ t. ⊎_elim (λ (s : entry_of h g ≡ e). inl (ap (λ (x : GrantEntry). x.folder) s)) (λ r. inr (in-granted h g gs r)) i
      | false ↦ λ t. ⊎_elim
          (λ (s : entry_of h g ≡ e). absurd (false≢true (sym t ∙ eq-eqb e.holder h (sym (ap (λ (x : GrantEntry). x.holder) s)))))
          (λ r. in-granted h g gs r) i
    ]) refl

-- from a folder with a grant along pairs of folders
along : (s : Store) (h f : ℕ) (pairs : List (ℕ × ℕ)) → IsTrue (has ◌==◌ (reach ◌==◌ pairs (granted_to s h)) f) ↔ ((g : ℕ) × IsGranted s h g × Path pairs g f)
unfolding granted_to
along s h f pairs = (
  λ t. let told = (reach_told ℕ ◌==◌ nat_tells pairs (granted_to s h) f).0 (has-in ℕ ◌==◌ nat_tells (reach ◌==◌ pairs (granted_to s h)) f t) in
      (told.0, granted-in h told.0 s.grants told.1, told.2),
  λ told. in-has ℕ ◌==◌ nat_tells (reach ◌==◌ pairs (granted_to s h)) f
      ((reach_told ℕ ◌==◌ nat_tells pairs (granted_to s h) f).1 (told.0, in-granted h told.0 s.grants told.1, told.2)),
)

pub allowed_told : (s : Store) (h f : ℕ) → IsTrue (allowed s h f) ↔ IsAllowed s h f
unfolding allowed
allowed_told s h f = along s h f (downs s)

pub named_told : (s : Store) (h f : ℕ) → IsTrue (named s h f) ↔ IsNamed s h f
unfolding named
named_told s h f = (
  λ t. ⊎_elim (λ a. inl ((allowed_told s h f).0 a)) (λ b. inr ((along s h f (ups s)).0 b))
      (or_cases (allowed s h f) (has ◌==◌ (reach ◌==◌ (ups s) (granted_to s h)) f) t),
  λ n. ⊎_elim
      (λ a. or_left (allowed s h f) (has ◌==◌ (reach ◌==◌ (ups s) (granted_to s h)) f) ((allowed_told s h f).1 a))
      (λ b. or_right (allowed s h f) (has ◌==◌ (reach ◌==◌ (ups s) (granted_to s h)) f) ((along s h f (ups s)).1 b)) n,
)

-- a grant that is found is one that stands
granted_told : (s : Store) (h c : ℕ) → IsTrue (has_grant s h c) ↔ IsGranted s h c
unfolding has_grant
granted_told s h c =
    let any = In-any GrantEntry (λ g. g.holder == h && g.folder == c) (λ g. g ≡ entry_of h c) (λ g. (
      λ t. let both = and_parts (g.holder == h) (g.folder == c) t in
          let holder = eqb-true g.holder h both.0 in
          let folder = eqb-true g.folder c both.1 in
          λ i. record { holder = holder i; folder = folder i },
      λ e. and_from (g.holder == h) (g.folder == c) (eq-eqb g.holder h (ap (λ (x : GrantEntry). x.holder) e)) (eq-eqb g.folder c (ap (λ (x : GrantEntry). x.folder) e)),
    )) s.grants in (
      λ t. let w = any.0 t in subst (λ (g : GrantEntry). In g s.grants) w.2 w.1,
      λ i. any.1 (entry_of h c, i, refl),
    )

pub file_allowed_told : (s : Store) (h : ℕ) (e : FileEntry) → IsTrue (file_allowed s h e) ↔ IsFileAllowed s h e
unfolding file_allowed
file_allowed_told s h e = (
  λ t. ⊎_elim (λ a. inl ((allowed_told s h e.folder).0 a)) (λ b. inr ((granted_told s h (clear_number e.id)).0 b))
      (or_cases (allowed s h e.folder) (has_grant s h (clear_number e.id)) t),
  λ n. ⊎_elim
      (λ a. or_left (allowed s h e.folder) (has_grant s h (clear_number e.id)) ((allowed_told s h e.folder).1 a))
      (λ b. or_right (allowed s h e.folder) (has_grant s h (clear_number e.id)) ((granted_told s h (clear_number e.id)).1 b)) n,
)

pub file_allowed_to_told : (s : Store) (who : Who) (e : FileEntry) → IsTrue (file_allowed_to s who e) ↔ IsFileAllowedTo s who e
unfolding file_allowed_to
file_allowed_to_told s TheOwner e = (λ t. tt, λ u. refl)
file_allowed_to_told s (TheHolder h) e = file_allowed_told s h e

pub allowed_to_told : (s : Store) (who : Who) (f : ℕ) → IsTrue (allowed_to s who f) ↔ IsAllowedTo s who f
unfolding allowed_to
allowed_to_told s TheOwner f = (λ t. tt, λ u. refl)
allowed_to_told s (TheHolder h) f = allowed_told s h f

pub named_to_told : (s : Store) (who : Who) (f : ℕ) → IsTrue (named_to s who f) ↔ IsNamedTo s who f
unfolding named_to
named_to_told s TheOwner f = (λ t. tt, λ u. refl)
named_to_told s (TheHolder h) f = named_told s h f

some_and_told : (X : Type 0) (o : Option X) (test : X → Bool) (P : X → Type 0) → ((x : X) → IsTrue (test x) ↔ P x) → IsTrue (is_some_and o test) ↔ ((x : X) × (o ≡ Some x) × P x)
unfolding is_some_and
some_and_told X None test P told = (λ t. absurd (false≢true t), λ w. let e = w.1 in cc)
some_and_told X (Some y) test P told = (
  λ t. (y, refl, (told y).0 t),
  λ w. let e : Some y ≡ Some w.0 = w.1 in let same : y ≡ w.0 = cc in (told y).1 (subst P (sym same) w.2),
)

pub shown_told : (s : Store) (who : Who) (node : Node) → IsTrue (shown s who node) ↔ IsShown s who node
unfolding shown
shown_told s who (Folder f) = some_and_told FolderEntry (folder_entry s f.0) (λ e. named_to s who f.0) (λ e. IsNamedTo s who f.0) (λ e. named_to_told s who f.0)
shown_told s who (File x) = some_and_told FileEntry (file_entry s x.0) (file_allowed_to s who) (IsFileAllowedTo s who) (file_allowed_to_told s who)

pub open_told : (s : Store) (who : Who) (node : Node) → IsTrue (node_allowed s who node) ↔ IsOpen s who node
unfolding node_allowed
open_told s who (Folder f) = some_and_told FolderEntry (folder_entry s f.0) (λ e. allowed_to s who f.0) (λ e. IsAllowedTo s who f.0) (λ e. allowed_to_told s who f.0)
open_told s who (File x) = some_and_told FileEntry (file_entry s x.0) (file_allowed_to s who) (IsFileAllowedTo s who) (file_allowed_to_told s who)
