-- Paths are what names spell, and a path finds a node that has it.
use Rattle.std.proofs.Common.{◌≡◌, ℕ, Bool, true, false, cond, not, ◌&&◌, ◌==◌, ◌↔◌, List, [], ◌∷◌, ◌++◌, length, flat_map, IsTrue, refl, sym, ap, ◌∙◌, subst, append-nil}
use Rattle.std.specs.List.{list_all}
use Rattle.std.specs.Prelude.{bytes_eq, codes}
use Rattle.std.proofs.lemmas.Bool.{eqb-true, ne_eqb, false≢true, and_parts, and_from, cond-false}
use Rattle.cry_base.specs.Naming.{is_between, is_name_byte, is_name, spell_path, onto_first, split_at_slashes, names_behind, names_of, is_path, IsPath}

abbrev slashed : List ℕ → List ℕ
slashed n = 47 ∷ n

-- pieces put together again, with a slash before each, are the bytes with a slash before them
onto_joined : (b : ℕ) (pieces : List (List ℕ)) (bytes : List ℕ) → 47 ∷ bytes ≡ flat_map slashed pieces → 47 ∷ b ∷ bytes ≡ flat_map slashed (onto_first b pieces)
unfolding onto_first
onto_joined b [] bytes e = cc
onto_joined b (p ∷ ps) bytes e = let rest : bytes ≡ p ++ flat_map slashed ps = cc in ap (λ l. 47 ∷ b ∷ l) rest

joined : (bytes : List ℕ) → 47 ∷ bytes ≡ flat_map slashed (split_at_slashes bytes)
unfolding split_at_slashes
joined [] = refl
joined (b ∷ bytes) =
    (elim (b == 47) as (λ t. b == 47 ≡ t → 47 ∷ b ∷ bytes ≡ flat_map slashed (cond t ([] ∷ split_at_slashes bytes) (onto_first b (split_at_slashes bytes)))) [
      | true ↦ λ e. ap (λ z. 47 ∷ z ∷ bytes) (eqb-true b 47 e) ∙ ap (λ l. 47 ∷ l) (joined bytes)
      | false ↦ λ e. onto_joined b (split_at_slashes bytes) bytes (joined bytes)
    ]) refl

-- spelling is joining, but for the root
spelled : (pieces : List (List ℕ)) (b : ℕ) (l : List ℕ) → 47 ∷ b ∷ l ≡ flat_map slashed pieces → 47 ∷ b ∷ l ≡ spell_path pieces
unfolding spell_path
spelled [] b l e = cc
spelled (p ∷ ps) b l e = e

behind_spells : (bytes : List ℕ) → 47 ∷ bytes ≡ spell_path (names_behind bytes)
unfolding names_behind
behind_spells [] = unfold spell_path in refl
behind_spells (b ∷ bytes) = spelled (split_at_slashes (b ∷ bytes)) b bytes (joined (b ∷ bytes))

path_spelled : (path : List ℕ) → is_path path ≡ true → IsPath path
unfolding is_path
path_spelled [] t = absurd (false≢true t)
path_spelled (slash ∷ bytes) t =
    let both = and_parts (slash == 47) (list_all is_name (names_behind bytes)) t in
    (names_behind bytes, both.1, ap (λ z. z ∷ bytes) (eqb-true slash 47 both.0) ∙ behind_spells bytes)

-- no byte of a name is a slash
abbrev no_slash : ℕ → Bool
no_slash b = not (b == 47)

slash_in_no_name : (b : ℕ) → is_name_byte b ≡ true → b == 47 ≡ false
unfolding is_name_byte is_between
slash_in_no_name b t = ne_eqb b 47 (λ e. false≢true (subst (λ z. is_name_byte z ≡ true) e t))

-- a piece without a slash, before a slash or at the end
split_word : (w rest : List ℕ) → list_all is_name_byte w ≡ true → split_at_slashes (w ++ 47 ∷ rest) ≡ w ∷ split_at_slashes rest
unfolding split_at_slashes onto_first
split_word [] rest t = refl
split_word (b ∷ w) rest t =
    let both = and_parts (is_name_byte b) (list_all is_name_byte w) t in
    cond-false (b == 47) ([] ∷ split_at_slashes (w ++ 47 ∷ rest)) (onto_first b (split_at_slashes (w ++ 47 ∷ rest))) (slash_in_no_name b both.0)
    ∙ ap (onto_first b) (split_word w rest both.1)

split_end : (w : List ℕ) → list_all is_name_byte w ≡ true → split_at_slashes w ≡ w ∷ []
unfolding split_at_slashes onto_first
split_end [] t = refl
split_end (b ∷ w) t =
    let both = and_parts (is_name_byte b) (list_all is_name_byte w) t in
    cond-false (b == 47) ([] ∷ split_at_slashes w) (onto_first b (split_at_slashes w)) (slash_in_no_name b both.0)
    ∙ ap (onto_first b) (split_end w both.1)

-- a name has a first byte, and its bytes are a name's
name_bytes : (name : List ℕ) → is_name name ≡ true → list_all is_name_byte name ≡ true
unfolding is_name
name_bytes name t =
    let a = and_parts (is_between 1 64 (length name) && list_all is_name_byte name && not (bytes_eq name (codes "."))) (not (bytes_eq name (codes ".."))) t in
    let b = and_parts (is_between 1 64 (length name) && list_all is_name_byte name) (not (bytes_eq name (codes "."))) a.0 in
    (and_parts (is_between 1 64 (length name)) (list_all is_name_byte name) b.0).1

no_empty_name : is_name [] ≡ false
unfolding is_name is_between
no_empty_name = refl

split_names : (name : List ℕ) (names : List (List ℕ)) → is_name name ≡ true → list_all is_name names ≡ true → split_at_slashes (name ++ flat_map slashed names) ≡ name ∷ names
split_names name [] t ts = ap split_at_slashes (append-nil name) ∙ split_end name (name_bytes name t)
split_names name (next ∷ names) t ts =
    let both = and_parts (is_name next) (list_all is_name names) ts in
    split_word name (next ++ flat_map slashed names) (name_bytes name t) ∙ ap (λ l. name ∷ l) (split_names next names both.0 both.1)

behind_names : (name : List ℕ) (names : List (List ℕ)) → is_name name ≡ true → list_all is_name names ≡ true → names_behind (name ++ flat_map slashed names) ≡ name ∷ names
unfolding names_behind
behind_names [] names t ts = absurd (false≢true (sym no_empty_name ∙ t))
behind_names (b ∷ name) names t ts = split_names (b ∷ name) names t ts

spelled_path : (names : List (List ℕ)) → list_all is_name names ≡ true → is_path (spell_path names) ≡ true
unfolding spell_path is_path names_behind
spelled_path [] t = refl
spelled_path (name ∷ names) t =
    let both = and_parts (is_name name) (list_all is_name names) t in
    and_from (47 == 47) (list_all is_name (names_behind (name ++ flat_map slashed names))) refl
    (ap (list_all is_name) (behind_names name names both.0 both.1) ∙ t)

pub path_told : (path : List ℕ) → IsTrue (is_path path) ↔ IsPath path
path_told path = (path_spelled path, λ w. subst (λ p. is_path p ≡ true) (sym w.2) (spelled_path w.0 w.1))

-- the names of a path are those that spell it
names_spelled : (names : List (List ℕ)) → list_all is_name names ≡ true → names_of (spell_path names) ≡ names
unfolding spell_path names_of names_behind
names_spelled [] t = refl
names_spelled (name ∷ names) t =
    let both = and_parts (is_name name) (list_all is_name names) t in behind_names name names both.0 both.1

pub names_told : (names : List (List ℕ)) → IsTrue (list_all is_name names) → names_of (spell_path names) ≡ names
names_told names t = names_spelled names t
