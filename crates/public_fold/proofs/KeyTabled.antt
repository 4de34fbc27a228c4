-- What a table of keys finds when keys come or go.
use Rattle.std.proofs.Common.{◌≡◌, ℕ, ◌+◌, ◌*◌, ◌<◌, ◌≤◌, Bool, true, false, cond, ◌==◌, ◌&&◌, ◌||◌, List, ◌∷◌, ◌++◌, length, get_or, drop, Some, None, refl, sym, ap, ◌∙◌, arith}
use Rattle.std.specs.Prelude.{Option, IsSome, unwrap_or}
use Rattle.std.specs.Option.{option_map}
use Rattle.std.proofs.lemmas.Bool.{false≢true}
use Rattle.std.proofs.lemmas.Bool.Decides.{nat_tests}
use Rattle.std.proofs.lemmas.List.{at_drop_more, at_drop_all}
use Rattle.cry_base.specs.Sets.{has}
use Rattle.cry_base.specs.declared.roles.Role.{Role}
use Rattle.cry_base.specs.declared.roles.Role.TheVariants.{Owner, Holder, Clear, Sub, Back, Files, Data, File}
use Rattle.cry_base.proofs.Reaching.{has-in, in-has}
use Rattle.folder_nodes.proofs.Joined.{eq_turned}
use Rattle.role_graph.specs.Roles.{variant_of, role_id, same_role}
use Rattle.role_graph.proofs.Comparing.{same_role_tells}
use Rattle.sorted_table.specs.Rows.{row_at, with_row, without, replaced}
use Rattle.public_fold.specs.KeyStep.{keys_without, newest, present}
use Rattle.public_fold.specs.KeyTables.{IsTableOf, KeyRows, role_rank, row_place, serial_at, serial_in}
use Rattle.public_fold.specs.declared.key_rows.KeyRow.{KeyRow}
use Rattle.public_fold.proofs.KeepingKeys.{newest-first, newest-later, without-gone, without-kept}
use Rattle.folder_nodes.proofs.Placing.{found_with, found_without, found_replaced}

variants : (role : Role) → variant_of role < 8
unfolding variant_of
variants Owner = omega arith
variants (Holder h) = omega arith
variants (Clear f) = omega arith
variants (Sub f) = omega arith
variants (Back f) = omega arith
variants (Files f) = omega arith
variants (Data f) = omega arith
variants (File x) = omega arith

same_pair : (i v j w : ℕ) → v < 8 → w < 8 → (i * 8 + v == j * 8 + w) ≡ (v == w && i == j)
same_pair i v j w small other = grind (arith, nat_tests)

-- two roles of one rank are one
same_rank : (a b : Role) → (role_rank a == role_rank b) ≡ same_role a b
unfolding role_rank same_role
same_rank a b = same_pair (role_id a) (variant_of a) (role_id b) (variant_of b) (variants a) (variants b)

map_cond : {X Y : Type 0} (f : X → Y) (b : Bool) (o p : Option X) → option_map f (cond b o p) ≡ cond b (option_map f o) (option_map f p)
map_cond f true o p = refl
map_cond f false o p = refl

module _ (rows : List KeyRow) where
  -- a key that comes is found, and the others as before
  pub serial-with : (key : Role × ℕ) (row : KeyRow) (role : Role) → row.place ≡ role_rank key.0 → row.serial.0 ≡ key.1
      → serial_at (with_row row_place rows row) role ≡ cond (same_role key.0 role) (Some key.1) (serial_at rows role)
  unfolding serial_at
  serial-with key row role place serial =
      ap (option_map (λ r. r.serial.0)) (found_with KeyRow row_place rows row (role_rank role))
      ∙ map_cond (λ (r : KeyRow). r.serial.0) (row.place == role_rank role) (Some row) (row_at row_place rows (role_rank role))
      ∙ ap (λ b. cond b (Some row.serial.0) (serial_at rows role)) (ap (λ n. n == role_rank role) place ∙ same_rank key.0 role)
      ∙ ap (λ n. cond (same_role key.0 role) (Some n) (serial_at rows role)) serial

  -- so is one that comes in the place of its role's
  pub serial-replaced : (key : Role × ℕ) (row : KeyRow) (role : Role) → row.place ≡ role_rank key.0 → row.serial.0 ≡ key.1
      → IsSome (row_at row_place rows row.place)
      → serial_at (replaced row_place rows row) role ≡ cond (same_role key.0 role) (Some key.1) (serial_at rows role)
  unfolding serial_at
  serial-replaced key row role place serial there =
      ap (option_map (λ r. r.serial.0)) (found_replaced KeyRow row_place rows row (role_rank role) there)
      ∙ map_cond (λ (r : KeyRow). r.serial.0) (row.place == role_rank role) (Some row) (row_at row_place rows (role_rank role))
      ∙ ap (λ b. cond b (Some row.serial.0) (serial_at rows role)) (ap (λ n. n == role_rank role) place ∙ same_rank key.0 role)
      ∙ ap (λ n. cond (same_role key.0 role) (Some n) (serial_at rows role)) serial

  -- a key that goes isn't found any more, and the others are found as before
  pub serial-without : (gone role : Role) → serial_at (without row_place rows (role_rank gone)) role ≡ cond (same_role role gone) None (serial_at rows role)
  unfolding serial_at
  serial-without gone role =
      ap (option_map (λ r. r.serial.0)) (found_without KeyRow row_place rows (role_rank gone) (role_rank role))
      ∙ map_cond (λ (r : KeyRow). r.serial.0) (role_rank gone == role_rank role) None (row_at row_place rows (role_rank role))
      ∙ ap (λ b. cond b None (serial_at rows role)) (eq_turned (role_rank gone) (role_rank role) ∙ same_rank role gone)

-- a key that came stands before the others
pub with_key : (keys : List (Role × ℕ)) (rows after : KeyRows) (key : Role × ℕ) → ((role : Role) → serial_in after role ≡ cond (same_role key.0 role) (Some key.1) (serial_in rows role)) → IsTableOf keys rows → IsTableOf (key ∷ keys) after
unfolding newest
with_key keys rows after key came is = λ role. came role ∙ ap (λ o. cond (same_role key.0 role) (Some key.1) o) (is role)

cond_twice : {X : Type 0} (a b : Bool) (o x : X) → cond b o (cond a o x) ≡ cond (a || b) o x
cond_twice true true o x = refl
cond_twice true false o x = refl
cond_twice false b o x = refl

-- the keys of one role go, and then those of the others
pub gone_more : (gone : List Role) (rows after : KeyRows) (i : ℕ) (d role : Role) → i < length gone
    → serial_in after role ≡ cond (same_role role (get_or gone i d)) None (serial_in rows role)
    → cond (has same_role (drop (i + 1) gone) role) None (serial_in after role) ≡ cond (has same_role (drop i gone) role) None (serial_in rows role)
unfolding has
gone_more gone rows after i d role h went =
    let rest : Bool = has same_role (drop (i + 1) gone) role in
    ap (λ o. cond rest None o) went
    ∙ cond_twice (same_role role (get_or gone i d)) rest None (serial_in rows role)
    ∙ sym (at_drop_more (λ l. cond (has same_role l role) None (serial_in rows role)) gone i d h)

pub gone_all : (gone : List Role) (rows : KeyRows) (i : ℕ) (role : Role) → length gone ≤ i → cond (has same_role (drop i gone) role) None (serial_in rows role) ≡ serial_in rows role
unfolding has
gone_all gone rows i role h = at_drop_all (λ l. cond (has same_role l role) None (serial_in rows role)) gone i h

-- the newest key among those whose role isn't gone
pub newest-left : (gone : List Role) (keys : List (Role × ℕ)) (role : Role) → newest (keys_without gone keys) role ≡ cond (has same_role gone role) None (newest keys role)
newest-left gone keys role =
    (elim (has same_role gone role) as (λ b. has same_role gone role ≡ b → newest (keys_without gone keys) role ≡ cond b None (newest keys role)) [
      | true ↦ λ t. without-gone gone keys role (has-in Role same_role same_role_tells gone role t)
      | false ↦ λ f. without-kept gone keys role (λ i. false≢true (sym f ∙ in-has Role same_role same_role_tells gone role i))
    ]) refl

-- after a step a role has the key that it is given, else none where its keys go, and else the one that it had
module _ (given keys : List (Role × ℕ)) (gone : List Role) (role : Role) where
  pub present-given : (n : ℕ) → newest given role ≡ Some n → n ≡ present (given ++ keys_without gone keys) role
  unfolding present
  present-given n first = sym (ap (λ o. unwrap_or o 0) (newest-first given (keys_without gone keys) role n first))

  newest-behind : newest given role ≡ None → newest (given ++ keys_without gone keys) role ≡ cond (has same_role gone role) None (newest keys role)
  newest-behind none = newest-later given (keys_without gone keys) role none ∙ newest-left gone keys role

  pub present-gone : newest given role ≡ None → has same_role gone role ≡ true → 0 ≡ present (given ++ keys_without gone keys) role
  unfolding present
  present-gone none goes = sym (ap (λ o. unwrap_or o 0) (newest-behind none ∙ ap (λ b. cond b None (newest keys role)) goes))

  pub present-kept : newest given role ≡ None → has same_role gone role ≡ false → present keys role ≡ present (given ++ keys_without gone keys) role
  unfolding present
  present-kept none stays = sym (ap (λ o. unwrap_or o 0) (newest-behind none ∙ ap (λ b. cond b None (newest keys role)) stays))
