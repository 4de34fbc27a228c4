-- What was known before the batches of the contents that an index has.
use Rattle.std.proofs.Common.{◌≡◌, ◌+◌, ◌-◌, ℕ, true, false, cond, List, [], ◌∷◌, ◌++◌, length, Option, None, Some, Ok, IfSome, sym, subst, arith}
use Rattle.std.specs.HashMap.{HashMap, get}
use Rattle.std.specs.Map.{lookup}
use Rattle.commit_journal.specs.declared.past.Past.{Past}
use Rattle.commit_journal.specs.Placed.{PlainPlaced}
use Rattle.commit_journal.specs.Streaming.{LogState, again_in}
use Rattle.log_visits.specs.declared.last_contents.ContentHead.{ContentHead}
use Rattle.log_visits.specs.declared.last_contents.ContentSpot.{ContentSpot}
use Rattle.log_visits.specs.Indexed.{HaveStarts, StartsAt, same_content_heads}
use Rattle.log_visits.proofs.Lasts.{at_end, at_more}

-- a spot that is noted has what was known before its batch
pub start_noted : {S : Type 0} (last new : HashMap ContentHead ContentSpot S) (head : ContentHead) (spot : ContentSpot) (starts : List Past) →
    ((q : ContentHead) → get same_content_heads new q ≡ cond (same_content_heads head q) (Some spot) (get same_content_heads last q)) → HaveStarts last starts → StartsAt starts spot.position spot.start →
    HaveStarts new starts
start_noted last new head spot starts updates have at = record {
  found = λ q.
      let old = get same_content_heads last q in
      subst (λ o. IfSome o (λ s. StartsAt starts s.position s.start)) (sym (updates q))
      (elim (same_content_heads head q) as (λ b. IfSome (cond b (Some spot) old) (λ s. StartsAt starts s.position s.start)) [ true ↦ at | false ↦ have.found q ]);
}

pub no_starts : {S : Type 0} (last : HashMap ContentHead ContentSpot S) → last.entries ≡ [] → HaveStarts last []
no_starts last none = record { found = λ q. subst (λ es. IfSome (lookup (same_content_heads q) es) (λ s. StartsAt [] s.position s.start)) (sym none) tt }

spot_grows : (starts more : List Past) (o : Option ContentSpot) → IfSome o (λ s. StartsAt starts s.position s.start) → IfSome o (λ s. StartsAt (starts ++ more) s.position s.start)
spot_grows starts more None is = tt
spot_grows starts more (Some spot) is = (is.0, at_more starts more spot.position spot.start is.1)

pub starts_grow : {S : Type 0} (last : HashMap ContentHead ContentSpot S) (starts more : List Past) → HaveStarts last starts → HaveStarts last (starts ++ more)
starts_grow last starts more have = record { found = λ q. spot_grows starts more (get same_content_heads last q) (have.found q) }

-- a batch that comes next
pub starts_next : (starts : List Past) (start : Past) (batch : ℕ) → start.number ≡ length starts → batch ≡ length starts + 1 → StartsAt (starts ++ start ∷ []) (batch - 1) start
starts_next starts start batch number next =
    (omega (arith, number, next), at_end starts start (batch - 1) (omega (arith, next)))

-- a spot that was found has what was known before its batch
pub start_found : {S : Type 0} (last : HashMap ContentHead ContentSpot S) (starts : List Past) (head : ContentHead) (found : Option ContentSpot) → HaveStarts last starts → get same_content_heads last head ≡ found →
    IfSome found (λ s. StartsAt starts s.position s.start)
start_found last starts head found have is = subst (λ o. IfSome o (λ s. StartsAt starts s.position s.start)) is (have.found head)

-- the batch of a spot is read again by what was known before it
pub reread_from : (log : LogState) (s : List ℕ) (start : Past) (position : ℕ) (p : PlainPlaced) → start.number ≡ position → again_in log (position + 1) s ≡ Ok p → again_in log (start.number + 1) s ≡ Ok p
reread_from log s start position p number again = subst (λ n. again_in log (n + 1) s ≡ Ok p) (sym number) again
