-- Names stay of a size when a folder is named, or a file of that size.
use Rattle.std.proofs.Common.{◌≡◌, ◌≤◌, ℕ, Bool, true, false, cond, ◌==◌, List, [], ◌++◌, length, take, drop, Option, Some, sym, ap, subst, ◌∙◌, arith}
use Rattle.std.specs.Prelude.{nat_le, ◌&&◌}
use Rattle.std.proofs.Math.Seq.{drop-append_seam}
use Rattle.std.proofs.lemmas.Bool.{and_parts}
use Rattle.std.proofs.lemmas.Bool.Decides.{nat_tests}
use Rattle.cry_base.specs.Limits.{most_file_bytes}
use Rattle.cry_base.specs.Naming.{is_name}
use Rattle.cry_base.specs.declared.roles.Node.TheVariants.{Folder, File}
use Rattle.folder_nodes.specs.Titles.{Title, Titles, bytes_in, title_at}
use Rattle.log_visits.specs.Holding.{AreSized, HasParts}
use Rattle.log_visits.specs.Visiting.{is_file_text}
use Rattle.log_visits.proofs.Naming.{IsNamed}

pub unnamed_sized : (names : Titles) → names.files ≡ [] → AreSized names
unnamed_sized names none x = subst (λ (ts : List Title). length (bytes_in (title_at ts x)) ≤ most_file_bytes) (sym none) (omega arith)

pub folder_sized : (f : ℕ) (name bytes : List ℕ) (new given old : Titles) → IsNamed (Folder (record { 0 = f })) name bytes new given → given.files ≡ old.files → AreSized old → AreSized new
folder_sized f name bytes new given old named files sized x =
    subst (λ (o : Option Title). length (bytes_in o) ≤ most_file_bytes) (sym (named (File (record { 0 = x })) ∙ ap (λ ts. title_at ts x) files)) (sized x)

low_of : (size : ℕ) → nat_le size most_file_bytes ≡ true → size ≤ most_file_bytes
low_of size t = grind (arith, nat_tests)

-- the bytes that a file's text has
pub parts_sized : (text name bytes : List ℕ) → HasParts text name bytes → length bytes ≤ most_file_bytes
unfolding is_file_text
parts_sized text name bytes parts =
    let n = length name in
    let rest = name ++ bytes in
    let fits : (nat_le n (length rest) && (is_name (take n rest) && nat_le (length (drop n rest)) most_file_bytes)) ≡ true = ap is_file_text (sym parts.1) ∙ parts.0 in
    let inner = and_parts (nat_le n (length rest)) (is_name (take n rest) && nat_le (length (drop n rest)) most_file_bytes) fits in
    let low = and_parts (is_name (take n rest)) (nat_le (length (drop n rest)) most_file_bytes) inner.1 in
    subst (λ (b : List ℕ). length b ≤ most_file_bytes) (drop-append_seam name bytes) (low_of (length (drop n rest)) low.1)

one_sized : (b : Bool) (t : Title) (o : Option Title) → length t.bytes ≤ most_file_bytes → length (bytes_in o) ≤ most_file_bytes → length (bytes_in (cond b (Some t) o)) ≤ most_file_bytes
one_sized true t o new old = new
one_sized false t o new old = old

pub file_sized : (f : ℕ) (name bytes : List ℕ) (new given old : Titles) → length bytes ≤ most_file_bytes → IsNamed (File (record { 0 = f })) name bytes new given → given.files ≡ old.files →
    AreSized old → AreSized new
file_sized f name bytes new given old low named files sized x =
    subst (λ (o : Option Title). length (bytes_in o) ≤ most_file_bytes) (sym (named (File (record { 0 = x }))))
    (one_sized (f == x) (record { id = f; name = name; bytes = bytes }) (title_at given.files x) low
    (subst (λ (ts : List Title). length (bytes_in (title_at ts x)) ≤ most_file_bytes) (sym files) (sized x)))
