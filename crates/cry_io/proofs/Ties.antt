-- The bytes of a disk in memory still stand for what has happened, after a write and after a sync.
use Rattle.std.proofs.Common.{rules, ◌≡◌, ◌<◌, ◌≤◌, ◌+◌, ◌-◌, ◌⊎◌, ℕ, Bool, true, false, cond, List, ◌∷◌, ◌++◌, length, take, drop, map, min, max, replicate, get_or, refl, sym, ap, ◌∙◌, inl, inr, arith, nat_lt}
use Rattle.std.specs.List.{range_with_len}
use Rattle.std.proofs.lemmas.Bool.{cases_lt}
use Rattle.std.proofs.lemmas.Bool.Decides.{nat_tests}
use Rattle.std.proofs.lemmas.List.{places, same_lists, take_at, length-take, ext_get_or}
use Rattle.std.proofs.lemmas.List.FromFn.{length-map-range_with_len, get_or-map-range_with_len}
use Rattle.cry_io.specs.Events.{Event, Stays, Wrote}
use Rattle.cry_io.specs.Stops.{Torn}
use Rattle.cry_io.specs.Platters.{IsOutcome, IsTied}

-- a vector that was lent whole and given back
pub whole : {X : Type 0} (n : ℕ) (new old : List X) → length new ≡ n → take n (new ++ drop (length new) old) ≡ new
whole n new old long = take_at new (drop (length new) old) n long

-- what stood before a write that may have led to these bytes: stable bytes in the range, the same elsewhere
middle : ℕ → ℕ → ℕ → List ℕ → List ℕ → List ℕ
middle place end size stable left =
    map (λ i. cond (nat_lt i place) (get_or left i 0) (cond (nat_lt i end) (get_or stable i 0) (get_or left i 0))) (range_with_len 0 (min size (length left)))

module _ (place end size : ℕ) (stable left : List ℕ) where
  length-middle : length (middle place end size stable left) ≡ min size (length left)
  unfolding middle
  length-middle = length-map-range_with_len _ 0 (min size (length left))

  middle_at : (i : ℕ) → i < min size (length left) → get_or (middle place end size stable left) i 0
      ≡ cond (nat_lt i place) (get_or left i 0) (cond (nat_lt i end) (get_or stable i 0) (get_or left i 0))
  unfolding middle
  middle_at i within = get_or-map-range_with_len _ 0 (min size (length left)) i i 0 within (omega arith)

  middle_below : (i : ℕ) → i < min size (length left) → i < place → get_or (middle place end size stable left) i 0 ≡ get_or left i 0
  middle_below i within under = middle_at i within ∙ grind (arith, nat_tests)

  middle_inside : (i : ℕ) → i < min size (length left) → place ≤ i → i < end → get_or (middle place end size stable left) i 0 ≡ get_or stable i 0
  middle_inside i within from to = middle_at i within ∙ grind (arith, nat_tests)

  middle_above : (i : ℕ) → i < min size (length left) → place ≤ i → end ≤ i → get_or (middle place end size stable left) i 0 ≡ get_or left i 0
  middle_above i within from over = middle_at i within ∙ grind (arith, nat_tests)

-- each outcome after a write comes by the write from an outcome before it
module _ (place n size : ℕ) (stable : List ℕ) (stable_size : ℕ) (pending : List Bool) (left : List ℕ) where
  abbrev end : ℕ
  end = place + n

  abbrev between : List ℕ
  between = middle place end size stable left

  abbrev marked : List Bool
  marked = take place pending ++ replicate (end - place) true ++ drop end pending

  marked_outside : (i : ℕ) → end ≤ length pending → (i < place) ⊎ (end ≤ i) → get_or marked i false ≡ get_or pending i false
  marked_outside i fits (inl under) = grind (arith, places)
  marked_outside i fits (inr over) = grind (arith, places)

  outcome_before : stable_size ≤ size → end ≤ length pending → IsOutcome (max size end) stable stable_size marked left
      → IsOutcome size stable stable_size pending between
  outcome_before no_shorter fits out = record {
    no_shorter = let e = length-middle place end size stable left in let o = out.no_shorter in omega arith;
    no_longer = let e = length-middle place end size stable left in omega arith;
    stays = λ i within quiet. stays i within quiet (cases_lt i place) (cases_lt i end);
  } where
    stays : (i : ℕ) → i < stable_size → get_or pending i false ≡ false → (i < place) ⊎ (place ≤ i) → (i < end) ⊎ (end ≤ i)
        → get_or between i 0 ≡ get_or stable i 0
    stays i within quiet (inl under) _ = let o = out.no_shorter in
        middle_below place end size stable left i (omega arith) under ∙ out.stays i within (marked_outside i fits (inl under) ∙ quiet)
    stays i within quiet (inr from) (inl to) = let o = out.no_shorter in middle_inside place end size stable left i (omega arith) from to
    stays i within quiet (inr from) (inr over) = let o = out.no_shorter in
        middle_above place end size stable left i (omega arith) from over ∙ out.stays i within (marked_outside i fits (inr over) ∙ quiet)

  torn_from : length left ≤ max size end → Torn place n between left
  torn_from no_longer = record {
    no_shorter = let e = length-middle place end size stable left in omega arith;
    no_longer = let e = length-middle place end size stable left in omega arith;
    before = λ i within under. let e = length-middle place end size stable left in sym (middle_below place end size stable left i (omega arith) under);
    behind = λ i within over. let e = length-middle place end size stable left in sym (middle_above place end size stable left i (omega arith) (omega arith) over);
  }

-- a write over what is shown is a write over the bytes
shown_written : (place size : ℕ) (bytes shown : List ℕ) → place ≤ size → size ≤ length shown → place + length bytes ≤ length shown
    → take place (take size shown) ++ bytes ++ drop (place + length bytes) (take size shown)
    ≡ take (max size (place + length bytes)) (take place shown ++ bytes ++ drop (place + length bytes) shown)
shown_written place size bytes shown inside fits room = same_lists _ _ (search (rules, places)) (λ k d h. grind (arith, places))

pub tied_write : (events : List Event) (shown : List ℕ) (size : ℕ) (stable : List ℕ) (stable_size : ℕ) (pending : List Bool)
    (place : ℕ) (bytes : List ℕ) → IsTied events shown size stable stable_size pending
    → place ≤ size → place + length bytes ≤ length shown
    → IsTied (Wrote place bytes ∷ events) (take place shown ++ bytes ++ drop (place + length bytes) shown) (max size (place + length bytes))
    stable stable_size (take place pending ++ replicate (place + length bytes - place) true ++ drop (place + length bytes) pending)
tied_write events shown size stable stable_size pending place bytes tied inside room = record {
  shown_is = ap (λ s. take place s ++ bytes ++ drop (place + length bytes) s) tied.shown_is ∙ shown_written place size bytes shown inside tied.size_fits room;
  size_fits = grind (arith, places);
  no_shorter = let e = tied.no_shorter in omega arith;
  stable_len = grind (arith, places);
  pending_len = grind (arith, places);
  leaves = λ left out. (
    middle place (place + length bytes) size stable left,
    tied.leaves _ (outcome_before place (length bytes) size stable stable_size pending left tied.no_shorter (let e = tied.pending_len in omega arith) out),
    torn_from place (length bytes) size stable stable_size pending left out.no_longer,
  );
}

pub tied_sync : (events : List Event) (shown : List ℕ) (size : ℕ) (stable : List ℕ) (stable_size : ℕ) (pending : List Bool)
    → IsTied events shown size stable stable_size pending
    → IsTied (Stays (take size shown) ∷ events) shown size (take 0 stable ++ take size shown ++ drop (0 + length (take size shown)) stable) size
    (take 0 pending ++ replicate (size - 0) false ++ drop size pending)
tied_sync events shown size stable stable_size pending tied = record {
  shown_is = refl;
  size_fits = tied.size_fits;
  no_shorter = omega arith;
  stable_len = grind (arith, places);
  pending_len = grind (arith, places);
  leaves = λ left out. ext_get_or 0 left (take size shown) (let a = out.no_shorter in let b = out.no_longer in let e = length-take size shown in let f = tied.size_fits in omega arith)
      (λ i within. let a = out.no_longer in let lt : i < size = omega arith in out.stays i lt (grind (arith, places)) ∙ grind (arith, places));
}

-- the same, of bytes that are equal to these
pub tied_same : (events events' : List Event) (shown shown' : List ℕ) (size size' : ℕ) (stable stable' : List ℕ) (stable_size : ℕ) (pending pending' : List Bool)
    → events' ≡ events → shown' ≡ shown → size' ≡ size → stable' ≡ stable → pending' ≡ pending
    → IsTied events shown size stable stable_size pending → IsTied events' shown' size' stable' stable_size pending'
tied_same events events' shown shown' size size' stable stable' stable_size pending pending' a b d e f tied = rw (a, b, d, e, f) tied
