-- Lists that are written over in one of their parts, in whole or in part.
use Rattle.std.proofs.Common.{◌≡◌, ◌⊎◌, inl, inr, ℕ, ◌+◌, ◌≤◌, ◌<◌, List, [], ◌∷◌, ◌++◌, length, take, drop, get_or, append_assoc, arith, refl, sym, ap, subst, ◌∙◌, length-append}
use Rattle.std.proofs.Math.ListN.{get_or-append, drop_of_length-le}
use Rattle.std.proofs.Math.Seq.{take-append_seam, drop-append_seam, drop-append-add}
use Rattle.std.proofs.lemmas.Bool.{cases_lt}
use Rattle.std.proofs.lemmas.List.{append-nil, ext_get_or, get_or-take, length-take-le, length-drop, places, take-append-drop}
use Rattle.cry_io.specs.Stops.{Torn, Written}

-- ---- a write that was done

-- a part of a list, written over by one as long
pub written_over : (place : ℕ) (a b c bytes new : List ℕ) → place ≡ length a → length bytes ≡ length b →
    Written place bytes (a ++ (b ++ c)) new → new ≡ a ++ (bytes ++ c)
written_over place a b c bytes new at same written =
    let old = a ++ (b ++ c) in
    let front : take place old ≡ a = ap (λ p. take p old) at ∙ take-append_seam a (b ++ c) in
    let behind : drop (place + length bytes) old ≡ c =
    ap (λ p. drop (p + length bytes) old) at
    ∙ ap (λ n. drop (length a + n) old) same
    ∙ drop-append-add a (b ++ c) (length b)
    ∙ drop-append_seam b c
    in
    written
    ∙ ap (λ r. (r ++ bytes) ++ drop (place + length bytes) old) front
    ∙ ap (λ r. (a ++ bytes) ++ r) behind
    ∙ append_assoc a bytes c

-- bytes written behind a list, over what follows it
pub written_behind : (place : ℕ) (a c bytes new : List ℕ) → place ≡ length a → Written place bytes (a ++ c) new →
    new ≡ a ++ (bytes ++ drop (length bytes) c)
written_behind place a c bytes new at written =
    let old = a ++ c in
    let front : take place old ≡ a = ap (λ p. take p old) at ∙ take-append_seam a c in
    let behind : drop (place + length bytes) old ≡ drop (length bytes) c =
    ap (λ p. drop (p + length bytes) old) at ∙ drop-append-add a c (length bytes)
    in
    written
    ∙ ap (λ r. (r ++ bytes) ++ drop (place + length bytes) old) front
    ∙ ap (λ r. (a ++ bytes) ++ r) behind
    ∙ append_assoc a bytes (drop (length bytes) c)

-- bytes written onto an empty disk
pub written_first : (old bytes new : List ℕ) → length old ≡ 0 → Written 0 bytes old new → new ≡ bytes
written_first [] bytes new empty written =
    let nothing : drop (length bytes) [] ≡ [] = drop_of_length-le [] (omega arith) in
    written_behind 0 [] [] bytes new refl written ∙ ap (λ r. bytes ++ r) nothing ∙ append-nil bytes
written_first (x ∷ xs) bytes new empty written = absurd (omega (arith, empty))

-- ---- a write that was done in part

-- one that was not begun
pub nothing_torn : (place n : ℕ) (old : List ℕ) → Torn place n old old
nothing_torn place n old = record {
  no_shorter = omega arith;
  no_longer = grind (arith, places);
  before = λ i within under. refl;
  behind = λ i within over. refl;
}

-- a write that was done, but whose sync failed, is one that may be torn
pub written_may_be_torn : (place : ℕ) (bytes old new : List ℕ) → place ≤ length old → Written place bytes old new → Torn place (length bytes) old new
written_may_be_torn place bytes old new inside written = subst (λ (n : List ℕ). Torn place (length bytes) old n) (sym written) (record {
  no_shorter = grind (arith, places);
  no_longer = grind (arith, places);
  before = λ i within under. grind (arith, places);
  behind = λ i within over. grind (arith, places);
})

-- what stands before a torn write stays
pub torn_behind : (place n : ℕ) (a c y : List ℕ) → place ≡ length a → Torn place n (a ++ c) y → y ≡ a ++ drop (length a) y
torn_behind place n a c y at torn =
    let all = length-append a c in
    let long = torn.no_shorter in
    let front : take (length a) y ≡ a =
    ext_get_or 0 (take (length a) y) a (length-take-le (length a) y (omega (arith, all, long)))
    (λ i within.
    let under : i < length a = omega (arith, within, length-take-le (length a) y (omega (arith, all, long))) in
    get_or-take (length a) y i 0 under ∙ torn.before i (omega (arith, all, under)) (omega (arith, at, under)) ∙ get_or-append a c 0 i under)
    in
    sym (take-append-drop (length a) y) ∙ ap (λ r. r ++ drop (length a) y) front

-- a torn write within a list leaves any bytes in its place
pub torn_over : (place n : ℕ) (a b c y : List ℕ) → place ≡ length a → n ≡ length b → Torn place n (a ++ (b ++ c)) y
    → (bytes : List ℕ) × (length bytes ≡ n) × (y ≡ a ++ (bytes ++ c))
torn_over place n a b c y at size torn =
    let bytes = take n (drop place y) in
    let one = length-append a (b ++ c) in
    let two = length-append b c in
    let low = torn.no_shorter in
    let high = torn.no_longer in
    let long : length y ≡ length a + n + length c = grind (arith, places) in
    let short : length bytes ≡ n = length-take-le n (drop place y) (omega (arith, long, at, length-drop place y)) in (
      bytes,
      short,
      ext_get_or 0 y (a ++ (bytes ++ c)) (omega (arith, long, short, length-append a (bytes ++ c), length-append bytes c))
          (λ i within. at_place i within (cases_lt i place) (cases_lt i (place + n))),
    )
  where
    at_place : (i : ℕ) → i < length y → (i < place) ⊎ (place ≤ i) → (i < place + n) ⊎ (place + n ≤ i) → get_or y i 0 ≡ get_or (a ++ (take n (drop place y) ++ c)) i 0
    at_place i within (inl under) _ = torn.before i (grind (arith, places)) under ∙ grind (arith, places)
    at_place i within (inr from) (inl to) = grind (arith, places)
    at_place i within (inr from) (inr over) = torn.behind i (grind (arith, places)) over ∙ grind (arith, places)
