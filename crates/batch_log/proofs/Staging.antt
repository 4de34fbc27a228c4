-- What a step of a commit leaves at its place.
use Rattle.std.proofs.Common.{◌≡◌, ℕ, ◌+◌, ◌-◌, ◌≤◌, List, [], ◌∷◌, ◌++◌, length, take, drop, append_assoc, arith, refl, sym, ap, subst, ◌∙◌, length-append}
use Rattle.std.specs.Prelude.{slice_index, slice_range}
use Rattle.std.proofs.Math.Seq.{take-append_seam, drop-append_seam}
use Rattle.std.proofs.lemmas.List.{length-take-le, length-drop, places, take-append-drop}
use Rattle.cry_io.specs.Stops.{Written}
use Rattle.batch_log.specs.Steps.{EndsAt, HoldsBatch, IsGatedAt, IsStageable, IsStagedAt, StandsAt, with_slot, zero_slot}
use Rattle.batch_log.proofs.Committed.{own_slot}
use Rattle.batch_log.proofs.Lists.{written_behind}

-- what was written stands there
pub stands_written : (end : ℕ) (body x y : List ℕ) → end ≤ length x → Written end body x y → StandsAt end body y
stands_written end body x y inside written =
    let front = take end x in
    let behind = drop (end + length body) x in
    let long : length front ≡ end = length-take-le end x inside in
    let is : y ≡ front ++ (body ++ behind) = written ∙ append_assoc front body behind in
    let far : end + length body - end ≡ length body = omega arith in
    ap (λ r. slice_range r end (end + length body)) is
    ∙ ap (λ n. take n (drop end (front ++ (body ++ behind)))) far
    ∙ ap (λ n. take (length body) (drop n (front ++ (body ++ behind)))) (sym long)
    ∙ ap (λ r. take (length body) r) (drop-append_seam front (body ++ behind))
    ∙ take-append_seam body behind

-- and the closed gate before it stays
pub staged_written : (end : ℕ) (body x y : List ℕ) → Written end body x y → EndsAt end x → IsStagedAt end body y
staged_written end body x y written ends =
    let gated = ends.front ++ ends.gate ∷ [] in
    let long : length gated ≡ end = let l = length-append ends.front (ends.gate ∷ []) in let p = ends.place in omega (arith, l, p) in
    let is : x ≡ gated ++ ends.behind = ends.bytes_are ∙ sym (append_assoc ends.front (ends.gate ∷ []) ends.behind) in
    let rest = body ++ drop (length body) ends.behind in
    let inside : end ≤ length x = omega (arith, long, ap length is, length-append gated ends.behind) in
    record {
      closed = record {
        front = ends.front;
        gate = ends.gate;
        behind = rest;
        place = ends.place;
        closed = ends.closed;
        bytes_are = written_behind end gated ends.behind body y (sym long) (subst (λ (r : List ℕ). Written end body r y) is written)
            ∙ append_assoc ends.front (ends.gate ∷ []) rest;
      };
      stands = stands_written end body x y inside written;
    }

-- the gate was opened
pub gated_written : (end : ℕ) (body x y : List ℕ) → 1 ≤ end → 45 ≤ length body → end + length body ≤ length x → StandsAt end body x
    → Written (end - 1) (1 ∷ []) x y → HoldsBatch end body y
gated_written end body x y from whole inside stands written =
    let place = end - 1 in
    let front = take place x in
    let behind = drop (length body) (drop end x) in
    let next : place + 1 ≡ end = omega (arith, from) in
    let far : end + length body - end ≡ length body = omega arith in
    let body_is : take (length body) (drop end x) ≡ body = ap (λ n. take n (drop end x)) (sym far) ∙ stands in
    let rest : drop (place + 1) x ≡ body ++ behind =
    ap (λ n. drop n x) next ∙ sym (take-append-drop (length body) (drop end x)) ∙ ap (λ r. r ++ behind) body_is in
    let slot = own_slot body whole in
    record {
      front = front;
      slot = slot.0;
      behind = behind;
      place = let long : length front ≡ place = length-take-le place x (omega (arith, inside)) in omega (arith, long, from);
      slot_size = slot.1;
      bytes_are = written ∙ append_assoc front (1 ∷ []) (drop (place + 1) x) ∙ ap (λ r. front ++ (1 ∷ r)) rest
          ∙ ap (λ b. front ++ (1 ∷ (b ++ behind))) slot.2;
    }

-- a batch behind an open gate is as long as it is
pub holds_gated : (end : ℕ) (body x : List ℕ) → 45 ≤ length body → HoldsBatch end body x → IsGatedAt end (length body) x
holds_gated end body x whole holds =
    let is = holds.bytes_are in
    let place = holds.place in
    let size = holds.slot_size in
    let held = with_slot holds.slot body in
    let last : end - 1 ≡ length holds.front = omega (arith, place) in
    let one = length-append (take 13 body) (holds.slot ++ drop 45 body) in
    let two = length-append holds.slot (drop 45 body) in
    let long : length held ≡ length body = omega (arith, one, two, size, whole, length-take-le 13 body (omega (arith, whole)), length-drop 45 body) in
    record {
      opened = ap (λ r. slice_index r (end - 1)) is ∙ grind (arith, places);
      inside = omega (arith, ap length is, length-append holds.front (1 ∷ (held ++ holds.behind)), length-append held holds.behind, long, place);
    }

-- a batch that may be staged has its front, a payload of any size, and its back
pub stageable_long : (body : List ℕ) → IsStageable body → 110 ≤ length body
unfolding zero_slot
stageable_long body s =
    let one = length-append s.head (zero_slot ++ (s.rest ++ 0 ∷ [])) in
    let two = length-append zero_slot (s.rest ++ 0 ∷ []) in
    let three = length-append s.rest (0 ∷ []) in
    let size : length zero_slot ≡ 32 = refl in
    let h = s.head_size in
    let r = s.rest_size in
    omega (arith, ap length s.body_is, one, two, three, size, h, r)
