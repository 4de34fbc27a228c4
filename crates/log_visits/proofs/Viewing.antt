-- A view has the lines of what is shown, by the bytes of their paths.
use Rattle.std.proofs.Common.{◌≡◌, ℕ, ◌<◌, Bool, true, false, cond, ◌&&◌, ◌||◌, ◌==◌, ◌↔◌, List, [], ◌∷◌, ◌++◌, map, filter, inl, inr, ⊎_elim, refl, ap, ◌∙◌, arith}
use Rattle.std.specs.Prelude.{nat_lt}
use Rattle.std.proofs.lemmas.Bool.{and_parts, or_cases, ltb-true, le-ltb, eqb-true, ne_eqb, and_left, and_right, false≢true}
use Rattle.cry_base.specs.Sets.{In}
use Rattle.cry_base.specs.Store.{Store, FolderEntry, FileEntry}
use Rattle.cry_base.specs.Texts.{bytes_before}
use Rattle.cry_base.proofs.Members.{In-append, In-map, In-filter, filter-In}
use Rattle.role_graph.specs.Edges.{put_in_order, in_order}
use Rattle.role_graph.specs.Rights.{Who, file_allowed_to, named_to}
use Rattle.role_graph.proofs.Edging.{In-order}
use Rattle.role_graph.proofs.Granting.{file_allowed_to_told, named_to_told}
use Rattle.log_visits.specs.View.{Line, line_path, folder_line, file_line, view, IsLine, Ascends}

abbrev line_before : Line → Line → Bool
line_before a b = bytes_before (line_path a) (line_path b)

pub view_told : (s : Store) (who : Who) (l : Line) → In l (view s who) ↔ IsLine s who l
unfolding view
view_told s who l =
    let fs = filter (λ (e : FolderEntry). named_to s who e.id) s.folders in
    let xs = filter (file_allowed_to s who) s.files in
    let sorted = In-order Line line_before l (map (folder_line s who) fs ++ map (file_line s) xs) in
    let both = In-append Line l (map (folder_line s who) fs) (map (file_line s) xs) in
    let mf = In-map FolderEntry Line (folder_line s who) l fs in
    let mx = In-map FileEntry Line (file_line s) l xs in (
      λ i. ⊎_elim
          (λ a. let w = mf.0 a in let u = In-filter FolderEntry (λ e. named_to s who e.id) w.0 s.folders w.1 in
          inl (w.0, u.0, (named_to_told s who w.0.id).0 u.1, w.2))
          (λ b. let w = mx.0 b in let u = In-filter FileEntry (file_allowed_to s who) w.0 s.files w.1 in
          inr (w.0, u.0, (file_allowed_to_told s who w.0).0 u.1, w.2))
          (both.0 (sorted.0 i)),
      λ w. sorted.1 (both.1 (⊎_elim
          (λ a. inl (mf.1 (a.0, filter-In FolderEntry (λ e. named_to s who e.id) a.0 s.folders a.1 ((named_to_told s who a.0.id).1 a.2), a.3)))
          (λ b. inr (mx.1 (b.0, filter-In FileEntry (file_allowed_to s who) b.0 s.files b.1 ((file_allowed_to_told s who b.0).1 b.2), b.3))) w)),
    )

-- of two lists of bytes not both stand before the other
not_both : (xs ys : List ℕ) → bytes_before xs ys ≡ true → bytes_before ys xs ≡ false
unfolding bytes_before
not_both [] [] h = refl
not_both [] (y ∷ ys) h = refl
not_both (x ∷ xs) [] h = absurd (false≢true h)
not_both (x ∷ xs) (y ∷ ys) h = ⊎_elim
    (λ l. let less : x < y = ltb-true x y l in
    or_false (nat_lt y x) (y == x && bytes_before ys xs) (le-ltb y x (omega arith)) (and_left (y == x) (bytes_before ys xs) (ne_eqb y x (λ e. omega arith))))
    (λ r. let both = and_parts (x == y) (bytes_before xs ys) r in let same : x ≡ y = eqb-true x y both.0 in
    or_false (nat_lt y x) (y == x && bytes_before ys xs) (le-ltb y x (omega arith)) (and_right (y == x) (bytes_before ys xs) (not_both xs ys both.1)))
    (or_cases (nat_lt x y) (x == y && bytes_before xs ys) h)
  where
    or_false : (a b : Bool) → a ≡ false → b ≡ false → (a || b) ≡ false
    or_false a b p q = ap (λ z. z || b) p ∙ q

put_ascends : (x : Line) (ys : List Line) → Ascends ys → Ascends (put_in_order line_before x ys)
unfolding put_in_order
put_ascends x [] a = tt
put_ascends x (y ∷ ys) a =
    (elim (line_before y x) as (λ b. line_before y x ≡ b → Ascends (cond b (y ∷ put_in_order line_before x ys) (x ∷ y ∷ ys))) [
      | true ↦ λ t. behind y x ys a (not_both (line_path y) (line_path x) t) (put_ascends x ys (rest y ys a))
      | false ↦ λ t. (t, a)
    ]) refl
  where
    rest : (y : Line) (ys : List Line) → Ascends (y ∷ ys) → Ascends ys
    rest y [] a = tt
    rest y (z ∷ zs) a = a.1

    behind : (y x : Line) (ys : List Line) → Ascends (y ∷ ys) → line_before x y ≡ false → Ascends (put_in_order line_before x ys) → Ascends (y ∷ put_in_order line_before x ys)
    behind y x [] a n = λ p. (n, tt)
    behind y x (z ∷ zs) a n =
        elim (line_before z x) as (λ b. Ascends (cond b (z ∷ put_in_order line_before x zs) (x ∷ z ∷ zs)) → Ascends (y ∷ cond b (z ∷ put_in_order line_before x zs) (x ∷ z ∷ zs))) [
          | true ↦ λ p. (a.0, p)
          | false ↦ λ p. (n, p)
        ]

order_ascends : (xs : List Line) → Ascends (in_order line_before xs)
unfolding in_order
order_ascends [] = tt
order_ascends (x ∷ xs) = put_ascends x (in_order line_before xs) (order_ascends xs)

pub view_ascends : (s : Store) (who : Who) → Ascends (view s who)
unfolding view
view_ascends s who = order_ascends (map (folder_line s who) (filter (λ e. named_to s who e.id) s.folders) ++ map (file_line s) (filter (file_allowed_to s who) s.files))
