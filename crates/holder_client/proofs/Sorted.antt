-- Lines that are sorted by the bytes of their paths.
use Rattle.std.proofs.Common.{◌≡◌, ℕ, Bool, ◌==◌, ◌&&◌, ◌||◌, List, [], ◌∷◌, ◌++◌, map, Ordering, refl, ap, subst, ◌∙◌}
use Rattle.std.specs.Prelude.{IfOk, Result, Ok, Err, nat_lt}
use Rattle.std.specs.List.{flat_map}
use Rattle.std.specs.Cmp.{IsStrictWeakOrder}
use Rattle.std.specs.Cmp.Lexicographic.{nat_list_cmp_total, slice_cmp}
use Rattle.std.specs.Ordering.{is_lt, nat_cmp}
use Rattle.std.proofs.lemmas.List.Sorted.{ranks_by}
use Rattle.std.specs.List.Sorted.{IsSortedBy, IsStableBy}
use Rattle.cry_base.specs.Listed.{Listed}
use Rattle.cry_base.specs.Store.{Store}
use Rattle.cry_base.specs.Texts.{bytes_before}
use Rattle.cry_base.specs.declared.client.Line.{Line}
use Rattle.holder_client.specs.Lines.{is_before, lines_of, plain_line, read_line, read_view}
use Rattle.holder_client.specs.declared.reading.ReadFile.{ReadFile}
use Rattle.log_visits.specs.declared.sights.Sight.{Sight}
use Rattle.log_visits.specs.View.{Line as PlainLine, line_path}
use Rattle.log_visits.proofs.InOrder.{first_less, order_mapped}
use Rattle.role_graph.specs.Edges.{in_order}
use Rattle.role_graph.proofs.Ordered.{stable_is_in_order}

abbrev pub line_before : Line → Line → Bool
line_before a b = is_before (plain_line a) (plain_line b)

pub lines_sorted : (xs ys : List Line) → IsStrictWeakOrder line_before → IsSortedBy line_before ys → IsStableBy line_before xs ys → map plain_line ys ≡ in_order is_before (map plain_line xs)
lines_sorted xs ys order up stable =
    ap (map plain_line) (stable_is_in_order Line line_before order xs ys up stable) ∙ order_mapped Line PlainLine plain_line line_before is_before xs (λ a b i j. refl)

-- bytes are compared as a dictionary does
by_bytes : (xs ys : List ℕ) → is_lt (slice_cmp nat_cmp xs ys) ≡ bytes_before xs ys
unfolding bytes_before
by_bytes [] [] = refl
by_bytes [] (y ∷ ys) = refl
by_bytes (x ∷ xs) [] = refl
by_bytes (x ∷ xs) (y ∷ ys) = first_less (nat_lt x y) (x == y) (slice_cmp nat_cmp xs ys) ∙ ap (λ b. nat_lt x y || (x == y && b)) (by_bytes xs ys)

abbrev by_path : Line → Line → Bool
by_path a b = is_lt (slice_cmp nat_cmp (line_path (plain_line a)) (line_path (plain_line b)))

same_before : by_path ≡ line_before
same_before = λ i a b. by_bytes (line_path (plain_line a)) (line_path (plain_line b)) i

pub lines_order : IsStrictWeakOrder line_before
lines_order = subst IsStrictWeakOrder same_before (ranks_by nat_list_cmp_total (λ (l : Line). line_path (plain_line l)))

pub compared : (a b : Line) (r : Ordering) (xs ys : List ℕ) → r ≡ slice_cmp nat_cmp xs ys → xs ≡ line_path (plain_line a) → ys ≡ line_path (plain_line b) → is_lt r ≡ line_before a b
compared a b r xs ys is one other = ap is_lt (is ∙ ap (λ l. slice_cmp nat_cmp l ys) one ∙ ap (slice_cmp nat_cmp (line_path (plain_line a))) other) ∙ by_bytes (line_path (plain_line a)) (line_path (plain_line b))

-- the lines of folders, then those of files, sorted
pub view_made : {E : Type 0} (t : Store) (sights : List Sight) (files : List ReadFile) (first all sorted : List Line) (result : Result (Listed Line) E) → map plain_line first ≡ flat_map (lines_of t) sights →
    map plain_line all ≡ map plain_line first ++ map (read_line t) files → map plain_line sorted ≡ in_order is_before (map plain_line all) → IfOk result (λ l. l.items ≡ sorted) →
    IfOk result (λ l. map plain_line l.items ≡ read_view t sights files)
view_made t sights files first all sorted (Ok l) folders both order same =
    ap (map plain_line) same ∙ order ∙ ap (in_order is_before) (both ∙ ap (λ ls. ls ++ map (read_line t) files) folders)
view_made t sights files first all sorted (Err e) folders both order same = tt
