-- What stores of the two versions refuse, and what grants name by a number.
use Rattle.std.proofs.Common.{◌≡◌, ℕ, ◌-◌, ◌<◌, ◌≤◌, Bool, true, false, cond, not, ◌&&◌, ◌||◌, List, ◌∷◌, drop, Option, Some, None, option_map, refl, ap, ◌∙◌, arith}
use Rattle.std.specs.Prelude.{find, is_none}
use Rattle.std.specs.List.{list_all}
use Rattle.std.proofs.lemmas.Bool.{false≢true, leb-true, lt-leb, le-leb}
use Rattle.cry_base.specs.Clearances.{clear_base, clear_number, is_clear_number, file_of}
use Rattle.cry_base.specs.Naming.{is_path}
use Rattle.cry_base.specs.Refusing.{is_file, grants_on_file, needs_folder, has_bad_name, finds_no_path, changes_root, causes_with, causes, refusal_of, causes_in, refusal_in}
use Rattle.cry_base.specs.Requests.{Request, paths_of}
use Rattle.cry_base.specs.Requests.Request.{AddHolder, MakeFolder, WriteFile, Remove, Rename, Relocate, Grant, Revoke}
use Rattle.cry_base.specs.Store.{Store, node_at}
use Rattle.cry_base.specs.declared.commands.Refusal.{Refusal}
use Rattle.cry_base.specs.declared.commands.Refusal.TheVariants.{BadName, NoPath, IsRoot, NotFolder}
use Rattle.cry_base.specs.declared.roles.Node.{Node}

-- the first of causes that applies
abbrev first_of : List (Bool × Refusal) → Option Refusal
first_of causes = option_map (λ cause. cause.1) (find (λ cause. cause.0) causes)

-- which cause is the first one, where the fourth applies or not
abbrev first_with : Bool → Store → Request → ℕ → Option Refusal
first_with lacks_folder s r file_bytes = first_of (causes_with lacks_folder s r file_bytes)

and_not_true : (b : Bool) → (b && not true) ≡ false
and_not_true true = refl
and_not_true false = refl

pub refusal_strict : (s : Store) (r : Request) (file_bytes : ℕ) → refusal_in true s r file_bytes ≡ refusal_of s r file_bytes
unfolding refusal_in causes_in refusal_of causes
refusal_strict s r file_bytes = ap (λ b. first_with (b || needs_folder s r) s r file_bytes) (and_not_true (grants_on_file s r))

pub refusal_of_others : (strict : Bool) (s : Store) (r : Request) (file_bytes : ℕ) → grants_on_file s r ≡ false → refusal_in strict s r file_bytes ≡ refusal_of s r file_bytes
unfolding refusal_in causes_in refusal_of causes
refusal_of_others strict s r file_bytes e = ap (λ b. first_with ((b && not strict) || needs_folder s r) s r file_bytes) e

-- the causes behind the fourth one
others : Store → Request → ℕ → List (Bool × Refusal)
others s r file_bytes = drop 4 (causes_with true s r file_bytes)

-- where the fourth cause applies, some cause does
some_of_four : (a b c : Bool) (rest : List (Bool × Refusal)) → first_of ((a, BadName) ∷ (b, NoPath) ∷ (c, IsRoot) ∷ (true, NotFolder) ∷ rest) ≡ None → ⊥
some_of_four true b c rest e = cc
some_of_four false true c rest e = cc
some_of_four false false true rest e = cc
some_of_four false false false rest e = cc

some_refuses : (s : Store) (r : Request) (file_bytes : ℕ) → first_with true s r file_bytes ≡ None → ⊥
unfolding others
some_refuses s r file_bytes e = some_of_four (has_bad_name r) (finds_no_path s r) (changes_root r) (others s r file_bytes) e

pub accepted_in : (strict : Bool) (s : Store) (r : Request) (file_bytes : ℕ) → refusal_in strict s r file_bytes ≡ None → refusal_of s r file_bytes ≡ None
unfolding refusal_in causes_in refusal_of causes
accepted_in strict s r file_bytes e =
    (elim (grants_on_file s r && not strict) as (λ b. first_with (b || needs_folder s r) s r file_bytes ≡ None → first_with (needs_folder s r) s r file_bytes ≡ None) [
      | true ↦ λ none. absurd (some_refuses s r file_bytes none)
      | false ↦ λ none. none
    ]) e

-- where a file is found, something is
file_is_there : (o : Option Node) → is_file o ≡ true → is_none o ≡ false
unfolding is_file
file_is_there None t = absurd (false≢true t)
file_is_there (Some node) t = refl

-- where it is the first one that applies
fourth : (a b : Bool) (rest : List (Bool × Refusal)) → a ≡ false → b ≡ false → first_of ((a, BadName) ∷ (b, NoPath) ∷ (false, IsRoot) ∷ (true, NotFolder) ∷ rest) ≡ Some NotFolder
fourth a b rest e f =
    ap (λ c. first_of ((c, BadName) ∷ (b, NoPath) ∷ (false, IsRoot) ∷ (true, NotFolder) ∷ rest)) e
    ∙ ap (λ c. first_of ((false, BadName) ∷ (c, NoPath) ∷ (false, IsRoot) ∷ (true, NotFolder) ∷ rest)) f

pub refused_in_first : (s : Store) (r : Request) (file_bytes : ℕ) → list_all is_path (paths_of r) ≡ true → grants_on_file s r ≡ true → refusal_in false s r file_bytes ≡ Some NotFolder
unfolding refusal_in causes_in grants_on_file has_bad_name finds_no_path changes_root paths_of needs_folder others
refused_in_first s AddHolder file_bytes form t = absurd (false≢true t)
refused_in_first s (MakeFolder path) file_bytes form t = absurd (false≢true t)
refused_in_first s (WriteFile path bytes) file_bytes form t = absurd (false≢true t)
refused_in_first s (Remove path) file_bytes form t = absurd (false≢true t)
refused_in_first s (Rename path name) file_bytes form t = absurd (false≢true t)
refused_in_first s (Relocate path into) file_bytes form t = absurd (false≢true t)
refused_in_first s (Grant holder path) file_bytes form t =
    ap (λ b. first_with ((b && true) || false) s (Grant holder path) file_bytes) t
    ∙ fourth (has_bad_name (Grant holder path)) (is_none (node_at s path) || false) (others s (Grant holder path) file_bytes) (ap not form) (ap (λ b. b || false) (file_is_there (node_at s path) t))
refused_in_first s (Revoke holder path) file_bytes form t =
    ap (λ b. first_with ((b && true) || false) s (Revoke holder path) file_bytes) t
    ∙ fourth (has_bad_name (Revoke holder path)) (is_none (node_at s path) || false) (others s (Revoke holder path) file_bytes) (ap not form) (ap (λ b. b || false) (file_is_there (node_at s path) t))

-- a clearance number names its file, and no folder's number names one
pub file_of_number : (x : ℕ) → file_of (clear_number x) ≡ Some x
file_of_number x =
    ap (λ b. cond b (Some (clear_number x - clear_base)) None) (le-leb clear_base (clear_number x) (omega arith))
    ∙ ap Some (let same : clear_number x - clear_base ≡ x = omega arith in same)

pub file_of_folder : (f : ℕ) → f < clear_base → file_of f ≡ None
file_of_folder f below = ap (λ b. cond b (Some (f - clear_base)) None) (lt-leb clear_base f below)

pub file_number : (f x : ℕ) → file_of f ≡ Some x → f ≡ clear_number x
file_number f x =
    (elim (is_clear_number f) as (λ b. is_clear_number f ≡ b → cond b (Some (f - clear_base)) None ≡ Some x → f ≡ clear_number x) [
      | true ↦ λ t e. let same : f - clear_base ≡ x = cc in let above : clear_base ≤ f = leb-true clear_base f t in omega (arith, same, above)
      | false ↦ λ t e. absurd (cc)
    ]) refl
