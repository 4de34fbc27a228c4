-- Names with a slash before each, and what is behind the last slash.
use Rattle.std.proofs.Common.{◌≡◌, ◌≢◌, ℕ, ◌+◌, Bool, true, false, cond, not, ◌==◌, ◌&&◌, List, [], ◌∷◌, ◌++◌, length, drop, flat_map, Option, Some, None, IsTrue, refl, sym, ap, ◌∙◌, subst, arith, append_assoc, append-nil, ⊎_elim}
use Rattle.std.specs.Prelude.{bytes_eq, codes, MatchOption}
use Rattle.std.specs.Borrow.{Bor}
use Rattle.std.specs.List.{list_all, count_by}
use Rattle.std.proofs.lemmas.Bool.{eqb-true, ne_eqb, false≢true, and_parts}
use Rattle.std.proofs.lemmas.Grind.{flat_map-append}
use Rattle.std.proofs.lemmas.List.{append_cancel_right}
use Rattle.std.proofs.lemmas.List.Recursion.{is_count_by}
use Rattle.cry_base.specs.Naming.{is_between, is_name_byte, is_name, is_path, is_root_path, spell_path, split_at_slashes, names_behind, names_of, front, last_name, parent_path}
use Rattle.cry_base.proofs.Paths.{path_told, names_told}
use Rattle.folder_nodes.specs.Spelling.{joined}
use Rattle.folder_nodes.specs.Titles.{MayBeNamed}
use Rattle.folder_nodes.proofs.Downward.{bytes_told}

abbrev slashed : List ℕ → List ℕ
slashed n = 47 ∷ n

-- no byte is a slash
abbrev pub free : List ℕ → Bool
free bytes = list_all (λ b. not (b == 47)) bytes

byte_free : (b : ℕ) → is_name_byte b ≡ true → not (b == 47) ≡ true
unfolding is_name_byte is_between
byte_free b t = ap not (ne_eqb b 47 (λ e. false≢true (subst (λ z. is_name_byte z ≡ true) e t)))

all_free : (w : List ℕ) → list_all is_name_byte w ≡ true → free w ≡ true
all_free [] t = refl
all_free (b ∷ w) t =
    let both = and_parts (is_name_byte b) (list_all is_name_byte w) t in
    ap (λ x. x && free w) (byte_free b both.0) ∙ all_free w both.1

pub name_free : (name : List ℕ) → is_name name ≡ true → free name ≡ true
unfolding is_name
name_free name t =
    let a = and_parts (is_between 1 64 (length name) && list_all is_name_byte name && not (bytes_eq name (codes "."))) (not (bytes_eq name (codes ".."))) t in
    let b = and_parts (is_between 1 64 (length name) && list_all is_name_byte name) (not (bytes_eq name (codes "."))) a.0 in
    all_free name (and_parts (is_between 1 64 (length name)) (list_all is_name_byte name) b.0).1

pub may_free : (name : List ℕ) → MayBeNamed name → free name ≡ true
may_free name may = ⊎_elim (λ (e : name ≡ []). ap free e) (λ (t : IsTrue (is_name name)). name_free name t) may

no_empty_name : is_name [] ≡ false
unfolding is_name is_between
no_empty_name = refl

pub name_some : (name : List ℕ) → is_name name ≡ true → name ≢ []
name_some name t = λ e. false≢true (sym no_empty_name ∙ ap is_name (sym e) ∙ t)

-- what is joined
pub joined_nothing : joined [] ≡ []
unfolding joined
joined_nothing = refl

pub joined_push : (xs : List (List ℕ)) (x : List ℕ) → joined (xs ++ x ∷ []) ≡ joined xs ++ 47 ∷ x
unfolding joined
joined_push xs x = flat_map-append slashed xs (x ∷ []) ∙ ap (λ l. flat_map slashed xs ++ l) (append-nil (47 ∷ x))

pub spelled_joined : (xs : List (List ℕ)) → xs ≢ [] → spell_path xs ≡ joined xs
unfolding spell_path joined
spelled_joined [] some = absurd (some refl)
spelled_joined (x ∷ xs) some = refl

pub joined_some : (xs : List (List ℕ)) → joined xs ≡ [] → xs ≡ []
unfolding joined
joined_some [] e = refl
joined_some (x ∷ xs) e = absurd (cc)

pub spelled_root : spell_path [] ≡ 47 ∷ []
unfolding spell_path
spelled_root = refl

-- only one piece without a slash is behind the last slash
after_slash : (ys b : List ℕ) → free (ys ++ 47 ∷ b) ≡ false
after_slash [] b = refl
after_slash (y ∷ ys) b = elim (not (y == 47)) as (λ t. (t && free (ys ++ 47 ∷ b)) ≡ false) [ true ↦ after_slash ys b | false ↦ refl ]

pub same_last : (xs a ys b : List ℕ) → free a ≡ true → free b ≡ true → xs ++ 47 ∷ a ≡ ys ++ 47 ∷ b → a ≡ b
same_last [] a [] b fa fb e = cc
same_last [] a (y ∷ ys) b fa fb e = let rest : a ≡ ys ++ 47 ∷ b = cc in absurd (false≢true (sym (ap free rest ∙ after_slash ys b) ∙ fa))
same_last (x ∷ xs) a [] b fa fb e = let rest : b ≡ xs ++ 47 ∷ a = cc in absurd (false≢true (sym (ap free rest ∙ after_slash xs a) ∙ fb))
same_last (x ∷ xs) a (y ∷ ys) b fa fb e = let rest : xs ++ 47 ∷ a ≡ ys ++ 47 ∷ b = cc in same_last xs a ys b fa fb rest

-- all names but the last, and the last
front_last : (x : List ℕ) (xs : List (List ℕ)) → x ∷ xs ≡ front (x ∷ xs) ++ last_name (x ∷ xs) ∷ []
unfolding front last_name
front_last x [] = refl
front_last x (y ∷ ys) = ap (λ l. x ∷ l) (front_last y ys)

last_all : (x : List ℕ) (xs : List (List ℕ)) → list_all is_name (x ∷ xs) ≡ true → is_name (last_name (x ∷ xs)) ≡ true
unfolding last_name
last_all x [] all = (and_parts (is_name x) true all).0
last_all x (y ∷ ys) all = last_all y ys (and_parts (is_name x) (list_all is_name (y ∷ ys)) all).1

front_all : (xs : List (List ℕ)) → list_all is_name xs ≡ true → list_all is_name (front xs) ≡ true
unfolding front
front_all [] all = refl
front_all (x ∷ []) all = refl
front_all (x ∷ y ∷ ys) all =
    let both = and_parts (is_name x) (list_all is_name (y ∷ ys)) all in
    ap (λ b. b && list_all is_name (front (y ∷ ys))) both.0 ∙ front_all (y ∷ ys) both.1

-- the names of a path
pub names_all : (path : List ℕ) → is_path path ≡ true → (list_all is_name (names_of path) ≡ true) × (path ≡ spell_path (names_of path))
names_all path form =
    let w = (path_told path).0 form in
    let names : names_of path ≡ w.0 = ap names_of w.2 ∙ names_told w.0 w.1 in
    (ap (list_all is_name) names ∙ w.1, w.2 ∙ ap spell_path (sym names))

not_root : (path : List ℕ) → is_root_path path ≡ false → path ≡ spell_path [] → ⊥
unfolding is_root_path spell_path
not_root path apart e = false≢true (sym apart ∙ ap is_root_path e)

parts_of : (path : List ℕ) (names : List (List ℕ)) → is_root_path path ≡ false → list_all is_name names ≡ true → path ≡ spell_path names → (path ≡ joined (front names) ++ 47 ∷ last_name names) × (is_name (last_name names) ≡ true) × (path ≡ joined names)
parts_of path [] other all e = absurd (not_root path other e)
parts_of path (x ∷ xs) other all e =
    let whole : path ≡ joined (x ∷ xs) = e ∙ spelled_joined (x ∷ xs) (λ none. absurd (cc)) in
    (whole ∙ ap joined (front_last x xs) ∙ joined_push (front (x ∷ xs)) (last_name (x ∷ xs)), last_all x xs all, whole)

-- a path that isn't the root's is what is before its last slash, that slash, and its last name
pub path_parts : (path : List ℕ) → is_path path ≡ true → is_root_path path ≡ false → (path ≡ joined (front (names_of path)) ++ 47 ∷ last_name (names_of path)) × (is_name (last_name (names_of path)) ≡ true) × (path ≡ joined (names_of path))
path_parts path form other = let w = names_all path form in parts_of path (names_of path) other w.0 w.1

-- no names spell the root's path, and no others do
pub no_names : is_root_path (spell_path []) ≡ true
unfolding is_root_path spell_path
no_names = refl

pub names_apart : (x : List ℕ) (xs : List (List ℕ)) → list_all is_name (x ∷ xs) ≡ true → is_root_path (spell_path (x ∷ xs)) ≡ false
unfolding is_root_path names_of names_behind
names_apart x xs all =
    (elim (bytes_eq (spell_path (x ∷ xs)) (codes "/")) as (λ b. bytes_eq (spell_path (x ∷ xs)) (codes "/") ≡ b → b ≡ false) [
      | true ↦ λ e.
          let root : spell_path (x ∷ xs) ≡ 47 ∷ [] = bytes_told (spell_path (x ∷ xs)) (codes "/") e in
          let none : x ∷ xs ≡ [] = sym (names_told (x ∷ xs) all) ∙ ap names_of root in
          absurd (cc)
      | false ↦ λ e. refl
    ]) refl

pub parent_form : (path : List ℕ) → is_path path ≡ true → is_path (parent_path path) ≡ true
unfolding parent_path
parent_form path form = (path_told (parent_path path)).1 (front (names_of path), front_all (names_of path) (names_all path form).0, refl)

-- the path without its last name
pub parent_some : (path before : List ℕ) → is_path path ≡ true → is_root_path path ≡ false → path ≡ before ++ 47 ∷ last_name (names_of path) → before ≢ [] → before ≡ parent_path path
unfolding parent_path
parent_some path before form other e some =
    let same : before ≡ joined (front (names_of path)) = append_cancel_right before (joined (front (names_of path))) (47 ∷ last_name (names_of path)) (sym e ∙ (path_parts path form other).0) in
    same ∙ sym (spelled_joined (front (names_of path)) (λ none. some (same ∙ ap joined none ∙ joined_nothing)))

pub parent_root : (path before : List ℕ) → is_path path ≡ true → is_root_path path ≡ false → path ≡ before ++ 47 ∷ last_name (names_of path) → before ≡ [] → 47 ∷ [] ≡ parent_path path
unfolding parent_path
parent_root path before form other e none =
    let same : before ≡ joined (front (names_of path)) = append_cancel_right before (joined (front (names_of path))) (47 ∷ last_name (names_of path)) (sym e ∙ (path_parts path form other).0) in
    sym (ap spell_path (joined_some (front (names_of path)) (sym same ∙ none)) ∙ spelled_root)

-- the last of the pieces
pub last_behind : (path : List ℕ) → last_name (names_of path) ≡ last_name (split_at_slashes (drop 1 path))
unfolding last_name names_of names_behind split_at_slashes
last_behind [] = refl
last_behind (slash ∷ []) = refl
last_behind (slash ∷ b ∷ bytes) = refl

pub last_on : (name next : List ℕ) (rest : List (List ℕ)) → last_name (name ∷ next ∷ rest) ≡ last_name (next ∷ rest)
unfolding last_name
last_on name next rest = refl

pub last_alone : (name : List ℕ) → last_name (name ∷ []) ≡ name
unfolding last_name
last_alone name = refl

-- as many slashes as names
slashes : List ℕ → ℕ
slashes [] = 0
slashes (b ∷ bytes) = cond (b == 47) (1 + slashes bytes) (slashes bytes)

free_before : (a rest : List ℕ) → free a ≡ true → slashes (a ++ rest) ≡ slashes rest
unfolding slashes
free_before [] rest t = refl
free_before (b ∷ a) rest t =
    (elim (b == 47) as (λ x. (not x && free a) ≡ true → cond x (1 + slashes (a ++ rest)) (slashes (a ++ rest)) ≡ slashes rest) [
      | true ↦ λ u. absurd (false≢true u)
      | false ↦ λ u. free_before a rest u
    ]) t

counted : (names : List (List ℕ)) → list_all is_name names ≡ true → slashes (joined names) ≡ length names
unfolding joined slashes
counted [] all = refl
counted (x ∷ xs) all =
    let both = and_parts (is_name x) (list_all is_name xs) all in
    let rest : slashes (x ++ flat_map slashed xs) ≡ length xs = free_before x (flat_map slashed xs) (name_free x both.0) ∙ counted xs both.1 in
    omega (arith, rest)

pub names_counted : (path : List ℕ) → is_path path ≡ true → is_root_path path ≡ false → count_by (λ b. b == 47) path ≡ length (names_of path)
unfolding slashes
names_counted path form other =
    sym (is_count_by slashes (λ b. b == 47) refl (λ b bytes. refl) path) ∙ ap slashes (path_parts path form other).2 ∙ counted (names_of path) (names_all path form).0

-- a slash and a name at the end of bytes
pub cut_told : (bytes name before back : List ℕ) (r : Option (Bor (List ℕ))) → bytes ≡ before ++ name → back ≡ 47 ∷ [] → MatchOption r ((f : List ℕ) → before ≢ f ++ back) (λ x. before ≡ x.now ++ back) → MatchOption r ((f : List ℕ) → bytes ≢ f ++ 47 ∷ name) (λ x. bytes ≡ x.now ++ 47 ∷ name)
cut_told bytes name before back None e slash apart = λ f q. apart f (append_cancel_right before (f ++ back) name (sym e ∙ q ∙ sym (append_assoc f (47 ∷ []) name) ∙ ap (λ l. f ++ l ++ name) (sym slash)))
cut_told bytes name before back (Some x) e slash cut = e ∙ ap (λ l. l ++ name) cut ∙ ap (λ l. x.now ++ l ++ name) slash ∙ append_assoc x.now (47 ∷ []) name

pub no_cut : (bytes name : List ℕ) → ((f : List ℕ) → bytes ≢ f ++ name) → (f : List ℕ) → bytes ≡ f ++ 47 ∷ name → ⊥
no_cut bytes name apart f q = apart (f ++ 47 ∷ []) (q ∙ sym (append_assoc f (47 ∷ []) name))

-- a path has a last slash
pub has_last : (path : List ℕ) → is_path path ≡ true → is_root_path path ≡ false → ((f : List ℕ) → path ≢ f ++ 47 ∷ last_name (names_of path)) → ⊥
has_last path form other apart = apart (joined (front (names_of path))) (path_parts path form other).0

-- what a test for no bytes tells
pub is_nothing : (xs : List ℕ) → true ≡ (length xs == 0) → xs ≡ []
is_nothing [] e = refl
is_nothing (x ∷ xs) e = absurd (let none : length (x ∷ xs) ≡ 0 = eqb-true (length (x ∷ xs)) 0 (sym e) in omega (arith, none))

pub is_something : (xs : List ℕ) → false ≡ (length xs == 0) → xs ≢ []
is_something [] e = λ _. false≢true e
is_something (x ∷ xs) e = λ none. absurd (cc)
