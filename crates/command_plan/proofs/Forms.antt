-- What a command's paths and name in form are each.
use Rattle.std.proofs.Common.{◌≡◌, ℕ, ◌≤◌, Bool, true, false, not, ◌&&◌, nat_le, List, [], length, inl, inr, ⊎_elim, refl, ap, arith}
use Rattle.std.specs.Prelude.{bytes_eq, codes}
use Rattle.std.specs.List.{list_all}
use Rattle.std.proofs.lemmas.Bool.{and_parts, leb-true}
use Rattle.cry_base.specs.Naming.{is_between, is_name, is_name_byte, is_path, is_root_path, last_name, names_behind, names_of}
use Rattle.cry_base.specs.Refusing.{has_bad_name}
use Rattle.cry_base.specs.Requests.{paths_of}
use Rattle.folder_nodes.specs.Titles.{MayBeNamed}
use Rattle.folder_nodes.proofs.Downward.{bytes_told}
use Rattle.folder_nodes.proofs.Slashes.{path_parts}
use Rattle.cry_base.specs.Requests.Request.{MakeFolder, WriteFile, Rename}

-- the last name of a path is one, or the root's
pub last_named : (path : List ℕ) → is_path path ≡ true → MayBeNamed (last_name (names_of path))
unfolding is_root_path last_name names_of names_behind
last_named path form =
    (elim (is_root_path path) as (λ b. is_root_path path ≡ b → MayBeNamed (last_name (names_of path))) [
      | true ↦ λ root. inl (ap (λ p. last_name (names_of p)) (bytes_told path (codes "/") root))
      | false ↦ λ other. inr (path_parts path form other).1
    ]) refl

-- a name has 1 to 64 bytes
pub name_size : (name : List ℕ) → is_name name ≡ true → (1 ≤ length name) × (length name ≤ 64)
unfolding is_name is_between
name_size name t =
    let a = and_parts (is_between 1 64 (length name) && list_all is_name_byte name && not (bytes_eq name (codes "."))) (not (bytes_eq name (codes ".."))) t in
    let b = and_parts (is_between 1 64 (length name) && list_all is_name_byte name) (not (bytes_eq name (codes "."))) a.0 in
    let c = and_parts (is_between 1 64 (length name)) (list_all is_name_byte name) b.0 in
    let d = and_parts (nat_le 1 (length name)) (nat_le (length name) 64) c.0 in
    (leb-true 1 (length name) d.0, leb-true (length name) 64 d.1)

-- a name has at most 64 bytes
pub short : (name : List ℕ) → MayBeNamed name → length name ≤ 64
short name may = ⊎_elim (λ (none : name ≡ []). let same : length name ≡ 0 = ap length none in omega arith) (λ (is : is_name name ≡ true). (name_size name is).1) may

one : (a : Bool) → not (a && true) ≡ false → a ≡ true
one true e = refl
one false e = absurd (cc)

both : (a b : Bool) → not (a && b) ≡ false → (a ≡ true) × (b ≡ true)
both true true e = (refl, refl)
both true false e = absurd (cc)
both false b e = absurd (cc)

pub folder_form : (path : List ℕ) → has_bad_name (MakeFolder path) ≡ false → is_path path ≡ true
unfolding has_bad_name paths_of
folder_form path e = one (is_path path) e

pub bytes_form : (path bytes : List ℕ) → has_bad_name (WriteFile path bytes) ≡ false → is_path path ≡ true
unfolding has_bad_name paths_of
bytes_form path bytes e = one (is_path path) e

pub name_form : (path name : List ℕ) → has_bad_name (Rename path name) ≡ false → (is_path path ≡ true) × (is_name name ≡ true)
unfolding has_bad_name paths_of
name_form path name e = both (is_path path) (is_name name) e
