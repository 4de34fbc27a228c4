-- A table for each kind of role: what is found in them, and how many keys fit.
use Rattle.std.proofs.Common.{◌≡◌, ℕ, zero, suc, ◌<◌, ◌≤◌, ◌+◌, ◌-◌, Bool, true, false, cond, List, [], ◌∷◌, map, length, get_or, set, Option, Some, None, refl, sym, ap, subst, ◌∙◌, ⊎_elim, ◌⊎◌, arith}
use Rattle.std.proofs.lemmas.Bool.{cases_lt, cases_order}
use Rattle.std.proofs.lemmas.List.{get_or-map, get_or-set_other, get_or-set_same, length-map, length-set, map-set}
use Rattle.cry_base.specs.declared.roles.Role.{Role}
use Rattle.cry_base.specs.declared.roles.Role.TheVariants.{Owner, Holder, Clear, Sub, Back, Files, Data, File}
use Rattle.role_graph.specs.Roles.{same_role}
use Rattle.role_graph.proofs.Comparing.{same_role_tells}
use Rattle.public_fold.specs.KeyTables.{KeyRows, kind_of, least, serial_at, serial_in}
use Rattle.public_fold.specs.declared.key_rows.KeyRow.{KeyRow}

-- what holds of each kind's number holds of a role's
pub each_kind : (P : ℕ → Type 0) → P 0 → P 1 → P 2 → P 3 → P 4 → P 5 → P 6 → (role : Role) → P (kind_of role)
unfolding kind_of
each_kind P a b c d e f g Owner = a
each_kind P a b c d e f g (Holder h) = a
each_kind P a b c d e f g (Clear x) = b
each_kind P a b c d e f g (Sub x) = c
each_kind P a b c d e f g (Back x) = d
each_kind P a b c d e f g (Files x) = e
each_kind P a b c d e f g (Data x) = f
each_kind P a b c d e f g (File x) = g

-- none of the numbers is below the least, and what none is below the least isn't either
pub least_le : (ns : List ℕ) (i d : ℕ) → i < length ns → least ns ≤ get_or ns i d
unfolding least
least_le [] i d within = absurd (omega (arith, within))
least_le (n ∷ []) zero d within = omega arith
least_le (n ∷ []) (suc i) d within = absurd (omega (arith, within))
least_le (n ∷ m ∷ ms) zero d within = omega arith
least_le (n ∷ m ∷ ms) (suc i) d within = let rest = least_le (m ∷ ms) i d (omega (arith, within)) in omega (arith, rest)

pub least_ge : (ns : List ℕ) (k : ℕ) → 0 < length ns → ((i d : ℕ) → i < length ns → k ≤ get_or ns i d) → k ≤ least ns
unfolding least
least_ge [] k some all = absurd (omega (arith, some))
least_ge (n ∷ []) k some all = all 0 0 (omega arith)
least_ge (n ∷ m ∷ ms) k some all =
    let first : k ≤ n = all 0 0 (omega arith) in
    let rest = least_ge (m ∷ ms) k (omega arith) (λ i d within. all (suc i) d (omega (arith, within))) in
    omega (arith, first, rest)

-- where one of them changes
pub least_set : (ns : List ℕ) (k n more : ℕ) → k < length ns → ((d : ℕ) → get_or ns k d ≤ n + more) → least ns ≤ least (set ns k n) + more
least_set ns k n more within up =
    let size = length-set ns k n in
    let low : least ns - more ≤ least (set ns k n) = least_ge (set ns k n) (least ns - more) (omega (arith, size, within))
    (λ i d inside.
    let before = least_le ns i d (omega (arith, inside, size)) in
    let other : (i ≡ k → ⊥) → least ns - more ≤ get_or (set ns k n) i d = λ apart.
    let same = get_or-set_other ns k i n d apart in omega (arith, before, same) in
    ⊎_elim
    (λ (e : i ≡ k).
    let now : get_or (set ns k n) i d ≡ n = ap (λ j. get_or (set ns k n) j d) e ∙ get_or-set_same ns k n d within in
    let was : get_or ns i d ≡ get_or ns k d = ap (λ j. get_or ns j d) e in
    let most = up d in
    omega (arith, before, now, was, most))
    (λ (o : (i < k) ⊎ (k < i)). other (λ e. ⊎_elim (λ l. omega (arith, l, e)) (λ l. omega (arith, l, e)) o))
    (cases_order i k)) in
    omega (arith, low)

-- where one table changes, what is found changes at the roles of its kind alone
one_changed : (tables : List (List KeyRow)) (k : ℕ) (rows : List KeyRow) (p : Role → Bool) (v : Option ℕ) → k < length tables
    → ((role : Role) → p role ≡ true → kind_of role ≡ k)
    → ((role : Role) → serial_at rows role ≡ cond (p role) v (serial_at (get_or tables k []) role))
    → (role : Role) → serial_at (get_or (set tables k rows) (kind_of role) []) role ≡ cond (p role) v (serial_at (get_or tables (kind_of role) []) role)
one_changed tables k rows p v within only came role =
    let other : (kind_of role ≡ k → ⊥) → serial_at (get_or (set tables k rows) (kind_of role) []) role ≡ cond (p role) v (serial_at (get_or tables (kind_of role) []) role) = λ apart.
    ap (λ l. serial_at l role) (get_or-set_other tables k (kind_of role) rows [] apart)
    ∙ (elim (p role) as (λ t. p role ≡ t → serial_at (get_or tables (kind_of role) []) role ≡ cond t v (serial_at (get_or tables (kind_of role) []) role)) [
      | true ↦ λ t. absurd (apart (only role t))
      | false ↦ λ t. refl
    ]) refl in
    ⊎_elim
    (λ (e : kind_of role ≡ k). subst (λ j. serial_at (get_or (set tables k rows) j []) role ≡ cond (p role) v (serial_at (get_or tables j []) role)) (sym e)
    (ap (λ l. serial_at l role) (get_or-set_same tables k rows [] within) ∙ came role))
    (λ (o : (kind_of role < k) ⊎ (k < kind_of role)). other (λ e. ⊎_elim (λ l. omega (arith, l, e)) (λ l. omega (arith, l, e)) o))
    (cases_order (kind_of role) k)

module _ {X : Type 0} (rows : X → List KeyRow) (xs : List X) (k : ℕ) (x y : X) (before after : KeyRows)
    (was : before.tables ≡ map rows xs) (is : after.tables ≡ map rows (set xs k y)) (within : k < length xs) where
  changed : (p : Role → Bool) (v : Option ℕ) → ((role : Role) → p role ≡ true → kind_of role ≡ k)
      → ((role : Role) → serial_at (rows y) role ≡ cond (p role) v (serial_at (rows (get_or xs k x)) role))
      → (role : Role) → serial_in after role ≡ cond (p role) v (serial_in before role)
  unfolding serial_in
  changed p v only came role =
      ap (λ l. serial_at (get_or l (kind_of role) []) role) (is ∙ map-set rows xs k y)
      ∙ one_changed (map rows xs) k (rows y) p v (subst (λ n. k < n) (sym (length-map xs rows)) within) only
      (λ r. came r ∙ ap (λ l. cond (p r) v (serial_at l r)) (sym (get_or-map rows xs k x [] within))) role
      ∙ ap (λ l. cond (p role) v (serial_at (get_or l (kind_of role) []) role)) (sym was)

  -- a key that comes into the table of its kind
  pub put_in : (key : Role × ℕ) → k ≡ kind_of key.0
      → ((role : Role) → serial_at (rows y) role ≡ cond (same_role key.0 role) (Some key.1) (serial_at (rows (get_or xs k x)) role))
      → (role : Role) → serial_in after role ≡ cond (same_role key.0 role) (Some key.1) (serial_in before role)
  put_in key kind = changed (same_role key.0) (Some key.1) (λ role same. ap kind_of (sym ((same_role_tells key.0 role).0 same)) ∙ sym kind)

  -- and one that goes from it
  pub gone_from : (gone : Role) → k ≡ kind_of gone
      → ((role : Role) → serial_at (rows y) role ≡ cond (same_role role gone) None (serial_at (rows (get_or xs k x)) role))
      → (role : Role) → serial_in after role ≡ cond (same_role role gone) None (serial_in before role)
  gone_from gone kind = changed (λ role. same_role role gone) None (λ role same. ap kind_of ((same_role_tells role gone).0 same) ∙ sym kind)

-- for how many keys there is room, at one table, and once it changed
module _ {X : Type 0} (spare : X → ℕ) (xs : List X) (k : ℕ) (x y : X) (within : k < length xs) where
  within_map : k < length (map spare xs)
  within_map = subst (λ n. k < n) (sym (length-map xs spare)) within

  pub room_in : least (map spare xs) ≤ spare (get_or xs k x)
  room_in =
      let least = least_le (map spare xs) k 0 within_map in
      let here = get_or-map spare xs k x 0 within in
      omega (arith, least, here)

  pub room_left : (more : ℕ) → spare (get_or xs k x) ≤ spare y + more → least (map spare xs) ≤ least (map spare (set xs k y)) + more
  room_left more up =
      subst (λ l. least (map spare xs) ≤ least l + more) (sym (map-set spare xs k y))
      (least_set (map spare xs) k (spare y) more within_map
      (λ d. let here = get_or-map spare xs k x d within in omega (arith, up, here)))

  pub room_kept : (n : ℕ) → n ≤ least (map spare xs) → spare (get_or xs k x) ≤ spare y → n ≤ least (map spare (set xs k y))
  room_kept n fits up = let left = room_left 0 (omega (arith, up)) in omega (arith, fits, left)

  -- once the tables before this one have room, and this one too
  pub room_more : (more : ℕ) → more ≤ spare y → ((i d : ℕ) → i < k → more ≤ get_or (map spare xs) i d)
      → (i d : ℕ) → i < k + 1 → more ≤ get_or (map spare (set xs k y)) i d
  room_more more here before i d below =
      subst (λ l. more ≤ get_or l i d) (sym (map-set spare xs k y))
      (⊎_elim
      (λ (low : i < k). let same = get_or-set_other (map spare xs) k i (spare y) d (λ e. omega (arith, low, e)) in
      let room = before i d low in omega (arith, same, room))
      (λ (high : k ≤ i). let at : i ≡ k = omega (arith, high, below) in
      let now : get_or (set (map spare xs) k (spare y)) i d ≡ spare y = ap (λ j. get_or (set (map spare xs) k (spare y)) j d) at ∙ get_or-set_same (map spare xs) k (spare y) d within_map in
      omega (arith, now, here))
      (cases_lt i k))

-- from equal tables the same is found
pub same_tables : (t u : KeyRows) → u.tables ≡ t.tables → (role : Role) → serial_in u role ≡ serial_in t role
unfolding serial_in
same_tables t u same role = ap (λ l. serial_at (get_or l (kind_of role) []) role) same
