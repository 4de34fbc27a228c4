-- Steps up the tree, one parent after another.
use Rattle.std.proofs.Common.{◌≡◌, ◌≢◌, ℕ, suc, ◌+◌, ◌-◌, ◌≤◌, true, false, ◌==◌, ◌||◌, length, Option, Some, None, refl, sym, ap, ◌∙◌, subst, arith}
use Rattle.std.specs.Prelude.{IsSome}
use Rattle.std.proofs.lemmas.Bool.{eqb-true, eq-eqb, ne_eqb}
use Rattle.cry_base.specs.Store.{Store, FolderEntry, way_to_root, folder_entry, folder_node, depth_of, is_within}
use Rattle.folder_nodes.specs.Looking.{parent_number_of}
use Rattle.folder_nodes.specs.Trees.{IsTree}
use Rattle.folder_nodes.proofs.Added.{nothing_at_zero, parent_cases}
use Rattle.folder_nodes.proofs.Rowed.{some_of}
use Rattle.folder_nodes.proofs.Treed.{rises, levels_are, way_on, way_off, depth_told, within_on, within_off}

-- so many folders are on the way of f before here, and here one stands
abbrev pub Climbs : Store → ℕ → ℕ → ℕ → Type 0
Climbs s f here d = (length (way_to_root s f) ≡ d + length (way_to_root s here)) × IsSome (folder_entry s here)

pub levels_few : (s : Store) → IsTree s → (f : ℕ) → length (way_to_root s f) ≤ 65
levels_few s tree f = let w = rises s tree f in let e : length (way_to_root s f) ≡ w.0 = levels_are s w.0 f w.2 in omega (arith, e, w.1)

pub level_on : (s : Store) → IsTree s → (f : ℕ) (e : FolderEntry) → folder_entry s f ≡ Some e → length (way_to_root s f) ≡ suc (length (way_to_root s e.parent))
level_on s tree f e p = ap length (way_on s tree f e p)

some_told : (X : Type 0) (o : Option X) (x : X) → o ≡ Some x → IsSome o
some_told X None x e = absurd (cc)
some_told X (Some y) x e = refl

-- a parent that isn't 0 stands
parent_stands : (s : Store) → IsTree s → (f : ℕ) (e : FolderEntry) → folder_entry s f ≡ Some e → e.parent ≢ 0 → IsSome (folder_entry s e.parent)
parent_stands s tree f e p ne =
    let cases = parent_cases s tree f e p in
    (elim (f == 1) as (λ b. f == 1 ≡ b → IsSome (folder_entry s e.parent)) [
      | true ↦ λ t. absurd (ne (cases.0 (eqb-true f 1 t)))
      | false ↦ λ t. let w = cases.1 (λ one. absurd (let u : f == 1 ≡ true = eq-eqb f 1 one in cc)) in some_told FolderEntry (folder_entry s e.parent) w.0 w.1
    ]) refl

pub climb_on : (s : Store) → IsTree s → (f here d r : ℕ) → Climbs s f here d → r ≡ parent_number_of (folder_entry s here) → r ≢ 0 → Climbs s f r (d + 1)
climb_on s tree f here d r up is_parent ne =
    let w = some_of FolderEntry (folder_entry s here) up.1 in
    let same : r ≡ w.0.parent = is_parent ∙ ap parent_number_of w.1 in
    let level : length (way_to_root s here) ≡ suc (length (way_to_root s w.0.parent)) = level_on s tree here w.0 w.1 in
    subst (λ z. Climbs s f z (d + 1)) (sym same) (omega (arith, up.0, level), parent_stands s tree here w.0 w.1 (λ z. ne (same ∙ z)))

pub climb_end : (s : Store) → IsTree s → (f here d r : ℕ) → Climbs s f here d → r ≡ parent_number_of (folder_entry s here) → r ≡ 0 → d ≡ depth_of s (folder_node f)
climb_end s tree f here d r up is_parent none =
    let w = some_of FolderEntry (folder_entry s here) up.1 in
    let same : w.0.parent ≡ 0 = sym (is_parent ∙ ap parent_number_of w.1) ∙ none in
    let level : length (way_to_root s here) ≡ suc (length (way_to_root s w.0.parent)) = level_on s tree here w.0 w.1 in
    let top : length (way_to_root s w.0.parent) ≡ 0 = ap (λ z. length (way_to_root s z)) same ∙ ap length (way_off s 0 (nothing_at_zero s tree)) in
    let told : depth_of s (folder_node f) ≡ length (way_to_root s f) - 1 = depth_told s f in
    omega (arith, up.0, level, top, told)

pub climb_full : (s : Store) → IsTree s → (f here d : ℕ) → Climbs s f here d → 64 ≤ d → 64 ≡ depth_of s (folder_node f)
climb_full s tree f here d up full =
    let w = some_of FolderEntry (folder_entry s here) up.1 in
    let level : length (way_to_root s here) ≡ suc (length (way_to_root s w.0.parent)) = level_on s tree here w.0 w.1 in
    let few : length (way_to_root s f) ≤ 65 = levels_few s tree f in
    let told : depth_of s (folder_node f) ≡ length (way_to_root s f) - 1 = depth_told s f in
    omega (arith, up.0, level, few, told, full)

-- what is within f is within here, and so many folders are left at most
abbrev pub Seeks : Store → ℕ → ℕ → ℕ → ℕ → Type 0
Seeks s f above here n = (is_within s f above ≡ is_within s here above) × (n + length (way_to_root s here) ≤ 65)

pub seek_start : (s : Store) → IsTree s → (f above : ℕ) → Seeks s f above f 0
seek_start s tree f above = (refl, let few : length (way_to_root s f) ≤ 65 = levels_few s tree f in omega (arith, few))

pub seek_on : (s : Store) → IsTree s → (f above here n : ℕ) (e : FolderEntry) → Seeks s f above here n → folder_entry s here ≡ Some e → e.id ≢ above → Seeks s f above e.parent (n + 1)
seek_on s tree f above here n e seeks p apart =
    let level : length (way_to_root s here) ≡ suc (length (way_to_root s e.parent)) = level_on s tree here e p in
    (seeks.0 ∙ within_on s tree here above e p ∙ ap (λ b. b || is_within s e.parent above) (ne_eqb e.id above apart), omega (arith, seeks.1, level))

pub seek_found : (s : Store) → IsTree s → (f above here n : ℕ) (e : FolderEntry) → Seeks s f above here n → folder_entry s here ≡ Some e → e.id ≡ above → true ≡ is_within s f above
seek_found s tree f above here n e seeks p same =
    sym (seeks.0 ∙ within_on s tree here above e p ∙ ap (λ b. b || is_within s e.parent above) (eq-eqb e.id above same))

pub seek_top : (s : Store) (f above here n : ℕ) → Seeks s f above here n → folder_entry s here ≡ None → false ≡ is_within s f above
seek_top s f above here n seeks p = sym (seeks.0 ∙ within_off s here above p)

pub seek_over : (s : Store) → IsTree s → (f above here n : ℕ) → Seeks s f above here n → 65 ≤ n → false ≡ is_within s f above
seek_over s tree f above here n seeks full =
    (elim (folder_entry s here) as (λ o. folder_entry s here ≡ o → false ≡ is_within s f above) [
      | None ↦ λ p. seek_top s f above here n seeks p
      | Some e ↦ λ p. absurd (let level : length (way_to_root s here) ≡ suc (length (way_to_root s e.parent)) = level_on s tree here e p in omega (arith, seeks.1, level, full))
    ]) refl
