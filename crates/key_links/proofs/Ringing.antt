-- What a ring has for each role when a key comes or goes.
use Rattle.std.proofs.Common.{◌≡◌, ◌≢◌, ℕ, ◌==◌, List, [], ◌∷◌, ◌++◌, true, false, cond, Option, Some, None, refl, sym, ap, subst, ◌∙◌}
use Rattle.std.specs.Option.{option_map, option_to_list}
use Rattle.std.specs.Prelude.{◌↔◌, IsSome}
use Rattle.std.proofs.lemmas.Bool.{eq-eqb, ne_eqb}
use Rattle.cry_base.specs.declared.ids.Serial.{Serial}
use Rattle.cry_base.specs.declared.roles.Role.{Role}
use Rattle.cry_base.specs.declared.roles.Role.TheVariants.{Owner}
use Rattle.chacha_seal.specs.Keys.{KeyParts}
use Rattle.key_links.specs.Drawn.{number_of}
use Rattle.key_links.specs.declared.any_key.AnyKey.{AnyKey}
use Rattle.key_links.specs.declared.any_key.AnyKey.TheVariants as any
use Rattle.key_links.specs.Ringed.{Ringed, role_of, parts_of, rank_of, key_rank, found, key_of, serial_in, IsWithKey, IsWithoutKey, IsAlone}
use Rattle.key_links.proofs.Looked.{found_without}
use Rattle.key_links.specs.ByKind.{IsFoundBeside}
use Rattle.key_links.proofs.Ranks.{same_rank}
use Rattle.sorted_table.proofs.Found.{row_at-Some}
use Rattle.sorted_table.specs.Rows.{row_at, without}

-- the key that is found for a role is for it
pub found_is : (keys : List AnyKey) (role : Role) (key : AnyKey) → found keys role ≡ Some key → role_of key ≡ role
unfolding found key_rank
found_is keys role key e = same_rank (role_of key) role ((row_at-Some AnyKey key_rank keys (rank_of role) key e).1)

-- a key that was put in
pub with_key : (old : Ringed) (spare : ℕ) (after : List AnyKey) (key : AnyKey) → IsFoundBeside key old.keys after →
    IsWithKey (record { keys = after; spare = spare }) old (role_of key) (parts_of key)
unfolding key_of found key_rank
with_key old spare after key look = record {
  here = ap (option_map parts_of) (look (key_rank key) ∙ ap (λ b. cond b (Some key) (row_at key_rank old.keys (key_rank key))) (eq-eqb (key_rank key) (key_rank key) refl));
  others = λ other apart. ap (option_map parts_of) (look (rank_of other) ∙ ap (λ b. cond b (Some key) (row_at key_rank old.keys (rank_of other))) (ne_eqb (key_rank key) (rank_of other) (λ same. apart (sym (same_rank (role_of key) other same)))));
}

-- the key of a role taken out
pub without_key : (old new : Ringed) (role : Role) → new.keys ≡ without key_rank old.keys (rank_of role) → IsWithoutKey new old role
unfolding key_of found
without_key old new role is =
    let look : (k : ℕ) → row_at key_rank new.keys k ≡ cond (rank_of role == k) None (row_at key_rank old.keys k) =
    λ k. ap (λ keys. row_at key_rank keys k) is ∙ found_without AnyKey key_rank old.keys (rank_of role) k in
    record {
      gone = ap (option_map parts_of) (look (rank_of role) ∙ ap (λ b. cond b None (row_at key_rank old.keys (rank_of role))) (eq-eqb (rank_of role) (rank_of role) refl));
      others = λ other apart. ap (option_map parts_of) (look (rank_of other) ∙ ap (λ b. cond b None (row_at key_rank old.keys (rank_of other))) (ne_eqb (rank_of role) (rank_of other) (λ same. apart (sym (same_rank role other same)))));
    }

-- where a key is the only one
pub alone : (spare : ℕ) (rows : List AnyKey) (key : AnyKey) → rows ≡ [] → IsAlone (record { keys = key ∷ rows; spare = spare }) (role_of key) (parts_of key)
unfolding key_of found key_rank
alone spare rows key none =
    let look : (k : ℕ) → row_at key_rank (key ∷ rows) k ≡ cond (key_rank key == k) (Some key) None =
    λ k. ap (λ ks. row_at key_rank (key ∷ ks) k) none in
    record {
      here = ap (option_map parts_of) (look (key_rank key) ∙ ap (λ b. cond b (Some key) None) (eq-eqb (key_rank key) (key_rank key) refl));
      others = λ other apart. ap (option_map parts_of) (look (rank_of other) ∙ ap (λ b. cond b (Some key) None) (ne_eqb (key_rank key) (rank_of other) (λ same. apart (sym (same_rank (role_of key) other same)))));
    }

-- a look-up that ends at the root key, and those that go on among the others
module _ (keys rows : List AnyKey) (root : Option AnyKey) (role : Role) (place : ℕ) (is : option_to_list root ++ rows ≡ keys) (at : place ≡ rank_of role) where
  pub root_found : (key : AnyKey) → root ≡ Some key → key_rank key == place ≡ true → Some key ≡ found keys role
  unfolding found
  root_found key there test =
      sym (ap (λ b. cond b (Some key) (row_at key_rank rows (rank_of role))) (ap (λ n. key_rank key == n) (sym at) ∙ test))
      ∙ ap (λ ks. row_at key_rank ks (rank_of role)) (ap (λ r. option_to_list r ++ rows) (sym there) ∙ is)

  pub beside_found : (key : AnyKey) → root ≡ Some key → key_rank key == place ≡ false → row_at key_rank rows place ≡ found keys role
  unfolding found
  beside_found key there test =
      ap (row_at key_rank rows) at
      ∙ sym (ap (λ b. cond b (Some key) (row_at key_rank rows (rank_of role))) (ap (λ n. key_rank key == n) (sym at) ∙ test))
      ∙ ap (λ ks. row_at key_rank ks (rank_of role)) (ap (λ r. option_to_list r ++ rows) (sym there) ∙ is)

  pub rest_found : root ≡ None → row_at key_rank rows place ≡ found keys role
  unfolding found
  rest_found there = ap (row_at key_rank rows) at ∙ ap (λ ks. row_at key_rank ks (rank_of role)) (ap (λ r. option_to_list r ++ rows) (sym there) ∙ is)

serial : ℕ → Serial
serial n = record { 0 = n }

-- the serial of the key that was found, and none where none was
pub present_is : (ring : Ringed) (role : Role) (key : AnyKey) (s : Serial) → Some key ≡ found ring.keys role → s.0 ≡ (parts_of key).serial → Some s ≡ serial_in ring role
unfolding serial_in key_of serial
present_is ring role key s there same =
    ap (λ n. Some (serial n)) same ∙ ap (λ o. option_map (λ k. serial k.serial) (option_map parts_of o)) there

pub absent_is : (ring : Ringed) (role : Role) → None ≡ found ring.keys role → None ≡ serial_in ring role
unfolding serial_in key_of
absent_is ring role none = ap (λ o. option_map (λ k. record { 0 = k.serial }) (option_map parts_of o)) none

-- a serial is told exactly where there is a key
pub is_there : (ring : Ringed) (role : Role) (o : Option Serial) → o ≡ serial_in ring role → (IsSome o ↔ IsSome (key_of ring role))
unfolding serial_in serial
is_there ring role o is =
    subst (λ q. IsSome q ↔ IsSome (key_of ring role)) (sym is)
    (elim (key_of ring role) as (λ k. IsSome (option_map (λ (key : KeyParts). serial key.serial) k) ↔ IsSome k) [
      | None ↦ (λ there. there, λ there. there)
      | Some key ↦ (λ there. refl, λ there. refl)
    ])

key_number : (key : AnyKey) → role_of key ≢ Owner → (parts_of key).id ≡ number_of (role_of key)
unfolding role_of parts_of number_of
key_number (any.Owner key) other = absurd (other refl)
key_number (any.Holder key) other = refl
key_number (any.Clear key) other = refl
key_number (any.Sub key) other = refl
key_number (any.Back key) other = refl
key_number (any.Files key) other = refl
key_number (any.Data key) other = refl
key_number (any.File key) other = refl

-- the key of a holder, a folder or a file has its number
pub key_numbered : (ring : Ringed) (role : Role) (key : KeyParts) → role ≢ Owner → key_of ring role ≡ Some key → key.id ≡ number_of role
unfolding key_of
key_numbered ring role key other is =
    (elim (found ring.keys role) as (λ o. found ring.keys role ≡ o → option_map parts_of o ≡ Some key → key.id ≡ number_of role) [
      | None ↦ λ e none. absurd (cc)
      | Some any ↦ λ e some.
          let same : parts_of any ≡ key = cc in
          let of : role_of any ≡ role = found_is ring.keys role any e in
          ap (λ k. k.id) (sym same) ∙ key_number any (λ owner. other (sym of ∙ owner)) ∙ ap number_of of
    ]) refl is
