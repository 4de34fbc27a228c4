-- The spots of the last records of a log.
use Rattle.std.proofs.Common.{◌≡◌, ◌+◌, ◌*◌, ◌<◌, ◌≤◌, ℕ, zero, suc, Bool, true, false, cond, List, [], ◌∷◌, ◌++◌, get_or, length, take, map, Option, None, Some, refl, sym, ap, subst, ◌∙◌, append_assoc, arith}
use Rattle.std.specs.List.{flat_map, sum_by}
use Rattle.std.proofs.lemmas.List.{length-map, take_all, take_more}
use Rattle.std.specs.Prelude.{All}
use Rattle.std.proofs.lemmas.List.Elements.{All-get_or}
use Rattle.std.proofs.lemmas.List.Sums.{sum_by-cons}
use Rattle.std.proofs.lemmas.Option.{get_or_from_slice_get, slice_get-get_or, slice_get_within}
use Rattle.commit_journal.specs.Placed.{PlainPlaced, plain_body, plain_placed}
use Rattle.commit_journal.specs.Places.{EndsWithin, HasContent, HasLink, IsContentPlace, IsLinkPlace, IsStanding, content_offset, link_offset}
use Rattle.commit_journal.specs.declared.placed.Body.{Body}
use Rattle.commit_journal.specs.declared.placed.Body.TheVariants as bodies
use Rattle.commit_journal.specs.declared.placed.Placed.{Placed}
use Rattle.record_format.specs.Plain.{PlainContent, plain_content, plain_payload}
use Rattle.record_format.specs.Sizes.{content_size}
use Rattle.record_format.specs.declared.content.ContentRecord.{ContentRecord}
use Rattle.record_format.specs.declared.link.LinkRecord.{LinkRecord}
use Rattle.log_visits.specs.declared.spot_table.RecordSpot.{RecordSpot}
use Rattle.log_visits.specs.declared.spot_table.SpotTable.{SpotTable}
use Rattle.log_visits.specs.Found.{content_here, is_of, is_sought, link_here}
use Rattle.log_visits.specs.Indexed.{head_of_content, head_of_link, same_content_heads, same_link_heads}
use Rattle.log_visits.specs.declared.last_contents.ContentHead.{ContentHead}
use Rattle.log_visits.specs.declared.last_links.LinkHead.{LinkHead}
use Rattle.log_visits.specs.Placing.{PlacedContent, PlacedLink, body_contents, body_links, contents_at, last_one, links_at}
use Rattle.log_visits.specs.Spots.{IsAt, contents_in, links_in}
use Rattle.log_visits.specs.Spotted.{HasContentSpot, HasLinkSpot, HasRecordAt, HasSpot, IsSpotOf, content_spot, link_spot, placed_contents, placed_links}
use Rattle.log_visits.proofs.IndexKept.{log_with_next}
use Rattle.log_visits.proofs.Lasts.{at_item, at_mapped, last_with_next, same_item}

-- a record that is noted is the last one that has its head
pub spot_noted : {H X : Type 0} (same : H → H → Bool) (test : H → X → Bool) (records : PlainPlaced → List X) (log : List PlainPlaced) (old new : H → Option RecordSpot) (head : H) (spot : RecordSpot) (x : X) →
    ((q : H) → test q x ≡ same head q) → ((q : H) → new q ≡ cond (same head q) (Some spot) (old q)) → HasRecordAt records log spot x → (q : H) (so_far : List X) →
    HasSpot old test records log q so_far → HasSpot new test records log q (so_far ++ x ∷ [])
spot_noted same test records log old new head spot x tests updates at q so_far has = record {
  found =
      let before = last_one (test q) so_far in
      subst (λ o. IsSpotOf records log o (last_one (test q) (so_far ++ x ∷ []))) (sym (updates q))
      (subst (λ w. IsSpotOf records log (cond (same head q) (Some spot) (old q)) w) (sym (last_with_next (test q) so_far x ∙ ap (λ b. cond b (Some x) before) (tests q)))
      (elim (same head q) as (λ b. IsSpotOf records log (cond b (Some spot) (old q)) (cond b (Some x) before)) [ true ↦ (x, at, refl) | false ↦ has.found ]));
}

-- the records so far of a batch, and the next one
pub more_spots : {H X : Type 0} (test : H → X → Bool) (records : PlainPlaced → List X) (log : List PlainPlaced) (spots : H → Option RecordSpot) (q : H) (so_far xs : List X) (i : ℕ) (x : X) →
    IsAt xs i x → HasSpot spots test records log q ((so_far ++ take i xs) ++ x ∷ []) → HasSpot spots test records log q (so_far ++ take (i + 1) xs)
more_spots test records log spots q so_far xs i x at has =
    let within = slice_get_within xs i x at in
    let is : get_or xs i x ≡ x = get_or_from_slice_get xs i x x at in
    subst (HasSpot spots test records log q)
    (append_assoc so_far (take i xs) (x ∷ []) ∙ ap (λ ys. so_far ++ ys) (ap (λ z. take i xs ++ z ∷ []) (sym is) ∙ sym (take_more xs i x within)))
    has

-- the records of the batches so far, and of the next one
pub spots_more : {H X : Type 0} (test : H → X → Bool) (records : PlainPlaced → List X) (log : List PlainPlaced) (old new : H → Option RecordSpot) (i : ℕ) (p : PlainPlaced) → IsAt log i p →
    ((q : H) (so_far : List X) → HasSpot old test records log q so_far → HasSpot new test records log q (so_far ++ records p)) →
    ((q : H) → HasSpot old test records log q (flat_map records (take i log))) → (q : H) → HasSpot new test records log q (flat_map records (take (i + 1) log))
spots_more test records log old new i p at noted has q =
    let within = slice_get_within log i p at in
    let is : get_or log i p ≡ p = get_or_from_slice_get log i p p at in
    subst (HasSpot new test records log q)
    (log_with_next records (take i log) p ∙ ap (flat_map records) (ap (λ z. take i log ++ z ∷ []) (sym is) ∙ sym (take_more log i p within)))
    (noted q (flat_map records (take i log)) (has q))

-- a table without spots has those of no records
pub no_spots : {H X : Type 0} (test : H → X → Bool) (records : PlainPlaced → List X) (log : List PlainPlaced) (spots : H → Option RecordSpot) → ((q : H) → spots q ≡ None) → (q : H) → HasSpot spots test records log q []
unfolding last_one
no_spots test records log spots none q = record { found = subst (λ o. IsSpotOf records log o None) (sym (none q)) refl }

pub spot_found : {H X : Type 0} (test : H → X → Bool) (records : PlainPlaced → List X) (log : List PlainPlaced) (spots : H → Option RecordSpot) (head : H) (xs : List X) (o : Option RecordSpot) →
    HasSpot spots test records log head xs → spots head ≡ o → IsSpotOf records log o (last_one (test head) xs)
spot_found test records log spots head xs o has is = subst (λ o. IsSpotOf records log o (last_one (test head) xs)) is has.found

-- ---- the records of a batch

links_counted : (batch at : ℕ) (links : List LinkRecord) → length (links_at batch at links) ≡ length links
unfolding links_at
links_counted batch at [] = refl
links_counted batch at (l ∷ links) = ap suc (links_counted batch (at + 98) links)

nth_link : (batch at : ℕ) (links : List LinkRecord) (i : ℕ) (d : PlacedLink) (e : LinkRecord) → i < length links → get_or (links_at batch at links) i d ≡ link_here batch (at + 98 * i) (get_or links i e)
unfolding links_at
nth_link batch at [] i d e within = absurd (omega (arith, within))
nth_link batch at (l ∷ links) zero d e within = let place : at ≡ at + 98 * 0 = omega arith in ap (λ n. link_here batch n l) place
nth_link batch at (l ∷ links) (suc i) d e within =
    let inside : i < length links = omega (arith, within) in
    let place : at + 98 + 98 * i ≡ at + 98 * suc i = omega arith in
    nth_link batch (at + 98) links i d e inside ∙ ap (λ n. link_here batch n (get_or links i e)) place

link_of_list : (batch first : ℕ) (links : List LinkRecord) (i : ℕ) (l : LinkRecord) → IsAt links i l → IsAt (links_at batch first links) i (link_here batch (first + 98 * i) l)
link_of_list batch first links i l at =
    let here = link_here batch (first + 98 * i) l in
    let within = slice_get_within links i l at in
    let inside : i < length (links_at batch first links) = subst (λ n. i < n) (sym (links_counted batch first links)) within in
    slice_get-get_or (links_at batch first links) i here inside
    ∙ ap Some (nth_link batch first links i here l within ∙ ap (λ m. link_here batch (first + 98 * i) m) (get_or_from_slice_get links i l l at))

-- a link of a batch, at its place
pub link_of_body : (placed : Placed) (i at : ℕ) (l : LinkRecord) → IsLinkPlace placed.place i at placed.body → IsAt (links_in (plain_body placed.body)) i l → IsAt (placed_links (plain_placed placed)) i (link_here placed.batch at l)
unfolding body_links
link_of_body placed i at l place here = of_body placed.body place here
  where
    of_body : (body : Body) → IsLinkPlace placed.place i at body → IsAt (links_in (plain_body body)) i l → IsAt (body_links placed.batch placed.place (plain_body body)) i (link_here placed.batch at l)
    of_body (bodies.Commands payload) place here =
        let first = placed.place + link_offset (plain_payload payload) 0 in
        let is : first + 98 * i ≡ at = omega (arith, place) in
        subst (λ n. IsAt (links_at placed.batch first payload.links.items) i (link_here placed.batch n l)) is (link_of_list placed.batch first payload.links.items i l here)
    of_body bodies.NewEpoch place here = absurd place

-- each link of a batch has a place there
pub link_placed : (placed : Placed) (i : ℕ) (l : LinkRecord) → IsAt (links_in (plain_body placed.body)) i l → (n : ℕ) × IsAt (placed_links (plain_placed placed)) i (link_here placed.batch n l)
unfolding body_links
link_placed placed i l here = of_body placed.body here
  where
    of_body : (body : Body) → IsAt (links_in (plain_body body)) i l → (n : ℕ) × IsAt (body_links placed.batch placed.place (plain_body body)) i (link_here placed.batch n l)
    of_body (bodies.Commands payload) here =
        let first = placed.place + link_offset (plain_payload payload) 0 in
        (first + 98 * i, link_of_list placed.batch first payload.links.items i l here)
    of_body bodies.NewEpoch here =
        let none : List LinkRecord = [] in
        absurd (let within = slice_get_within none i l here in omega (arith, within))

-- a batch that has a link has one of its payload
pub link_within : (placed : Placed) (i : ℕ) (l : PlacedLink) → IsStanding placed → IsAt (placed_links (plain_placed placed)) i l → HasLink placed.place i placed.body × (i < length (links_in (plain_body placed.body)))
unfolding body_links
link_within placed i l stands here = of_body placed.body stands.payload here
  where
    of_body : (body : Body) → EndsWithin placed.place body → IsAt (body_links placed.batch placed.place (plain_body body)) i l → HasLink placed.place i body × (i < length (links_in (plain_body body)))
    of_body (bodies.Commands payload) ends here =
        let first = placed.place + link_offset (plain_payload payload) 0 in
        let within : i < length payload.links.items = subst (λ n. i < n) (links_counted placed.batch first payload.links.items) (slice_get_within (links_at placed.batch first payload.links.items) i l here) in
        (((ends.0, omega (arith, ends.1)), within), within)
    of_body bodies.NewEpoch ends here =
        let none : List PlacedLink = [] in
        absurd (let within = slice_get_within none i l here in omega (arith, within))

contents_counted : (batch at : ℕ) (contents : List PlainContent) → length (contents_at batch at contents) ≡ length contents
unfolding contents_at
contents_counted batch at [] = refl
contents_counted batch at (c ∷ contents) = ap suc (contents_counted batch (at + content_size c) contents)

nth_content : (batch at : ℕ) (contents : List PlainContent) (i : ℕ) (d : PlacedContent) (e : PlainContent) → i < length contents →
    get_or (contents_at batch at contents) i d ≡ content_here batch (at + sum_by content_size (take i contents)) (get_or contents i e)
unfolding contents_at
nth_content batch at [] i d e within = absurd (omega (arith, within))
nth_content batch at (c ∷ contents) zero d e within = let place : at ≡ at + 0 = omega arith in ap (λ n. content_here batch n c) place
nth_content batch at (c ∷ contents) (suc i) d e within =
    let inside : i < length contents = omega (arith, within) in
    let size = content_size c in
    let before = sum_by content_size (take i contents) in
    let all : sum_by content_size (take (suc i) (c ∷ contents)) ≡ size + before = sum_by-cons content_size c (take i contents) in
    let place : at + size + before ≡ at + sum_by content_size (take (suc i) (c ∷ contents)) = omega (arith, all) in
    nth_content batch (at + size) contents i d e inside ∙ ap (λ n. content_here batch n (get_or contents i e)) place

content_of_list : (batch first : ℕ) (contents : List PlainContent) (i : ℕ) (c : PlainContent) → IsAt contents i c →
    IsAt (contents_at batch first contents) i (content_here batch (first + sum_by content_size (take i contents)) c)
content_of_list batch first contents i c at =
    let here = content_here batch (first + sum_by content_size (take i contents)) c in
    let within = slice_get_within contents i c at in
    let inside : i < length (contents_at batch first contents) = subst (λ n. i < n) (sym (contents_counted batch first contents)) within in
    slice_get-get_or (contents_at batch first contents) i here inside
    ∙ ap Some (nth_content batch first contents i here c within ∙ ap (λ m. content_here batch (first + sum_by content_size (take i contents)) m) (get_or_from_slice_get contents i c c at))

-- a content of a batch, at its place
pub content_of_body : (placed : Placed) (i at : ℕ) (c : PlainContent) → IsContentPlace placed.place i at placed.body → IsAt (contents_in (plain_body placed.body)) i c →
    IsAt (placed_contents (plain_placed placed)) i (content_here placed.batch at c)
unfolding body_contents
content_of_body placed i at c place here = of_body placed.body place here
  where
    of_body : (body : Body) → IsContentPlace placed.place i at body → IsAt (contents_in (plain_body body)) i c → IsAt (body_contents placed.batch placed.place (plain_body body)) i (content_here placed.batch at c)
    of_body (bodies.Commands payload) place here =
        let contents = (plain_payload payload).contents in
        let first = placed.place + content_offset (plain_payload payload) 0 in
        let is : first + sum_by content_size (take i contents) ≡ at = omega (arith, place) in
        subst (λ n. IsAt (contents_at placed.batch first contents) i (content_here placed.batch n c)) is (content_of_list placed.batch first contents i c here)
    of_body bodies.NewEpoch place here = absurd place

-- each content of a batch has a place there
pub content_placed : (placed : Placed) (i : ℕ) (c : PlainContent) → IsAt (contents_in (plain_body placed.body)) i c → (n : ℕ) × IsAt (placed_contents (plain_placed placed)) i (content_here placed.batch n c)
unfolding body_contents
content_placed placed i c here = of_body placed.body here
  where
    of_body : (body : Body) → IsAt (contents_in (plain_body body)) i c → (n : ℕ) × IsAt (body_contents placed.batch placed.place (plain_body body)) i (content_here placed.batch n c)
    of_body (bodies.Commands payload) here =
        let contents = (plain_payload payload).contents in
        let first = placed.place + content_offset (plain_payload payload) 0 in
        (first + sum_by content_size (take i contents), content_of_list placed.batch first contents i c here)
    of_body bodies.NewEpoch here =
        let none : List PlainContent = [] in
        absurd (let within = slice_get_within none i c here in omega (arith, within))

-- a batch that has a content has one of its payload
pub content_within : (placed : Placed) (i : ℕ) (c : PlacedContent) → IsStanding placed → IsAt (placed_contents (plain_placed placed)) i c → HasContent placed.place i placed.body × (i < length (contents_in (plain_body placed.body)))
unfolding body_contents
content_within placed i c stands here = of_body placed.body stands.payload here
  where
    of_body : (body : Body) → EndsWithin placed.place body → IsAt (body_contents placed.batch placed.place (plain_body body)) i c → HasContent placed.place i body × (i < length (contents_in (plain_body body)))
    of_body (bodies.Commands payload) ends here =
        let contents = (plain_payload payload).contents in
        let first = placed.place + content_offset (plain_payload payload) 0 in
        let within : i < length contents = subst (λ n. i < n) (contents_counted placed.batch first contents) (slice_get_within (contents_at placed.batch first contents) i c here) in
        let long : length contents ≡ length payload.contents.items = length-map payload.contents.items plain_content in
        (((ends.0, omega (arith, ends.1)), omega (arith, within, long)), within)
    of_body bodies.NewEpoch ends here =
        let none : List PlacedContent = [] in
        absurd (let within = slice_get_within none i c here in omega (arith, within))

-- what stands at a spot of a log stands in the batch that it names
pub in_batch : {X : Type 0} (records : PlainPlaced → List X) (log : List Placed) (spot : RecordSpot) (placed : Placed) (x : X) → HasRecordAt records (map plain_placed log) spot x → placed ≡ get_or log spot.position placed →
    IsAt (records (plain_placed placed)) spot.index x
in_batch records log spot placed x there is =
    let within : spot.position < length log = subst (λ n. spot.position < n) (length-map log plain_placed) (slice_get_within (map plain_placed log) spot.position there.0 there.1) in
    let here = at_mapped plain_placed log spot.position placed (at_item log spot.position placed within is) in
    subst (λ (p : PlainPlaced). IsAt (records p) spot.index x) (same_item (map plain_placed log) spot.position there.0 (plain_placed placed) there.1 here) there.2

pub batch_within : {X : Type 0} (records : PlainPlaced → List X) (log : List Placed) (spot : RecordSpot) (x : X) → HasRecordAt records (map plain_placed log) spot x → spot.position < length log
batch_within records log spot x there = subst (λ n. spot.position < n) (length-map log plain_placed) (slice_get_within (map plain_placed log) spot.position there.0 there.1)

pub standing_batch : (log : List Placed) (i : ℕ) (placed : Placed) → All IsStanding log → i < length log → placed ≡ get_or log i placed → IsStanding placed
standing_batch log i placed stand within is = subst IsStanding (sym is) (All-get_or IsStanding log i placed within stand)

-- ---- one batch is noted

links_of_batch : (placed : Placed) → length (placed_links (plain_placed placed)) ≡ length (links_in (plain_body placed.body))
unfolding body_links
links_of_batch placed = of_body placed.body
  where
    of_body : (body : Body) → length (body_links placed.batch placed.place (plain_body body)) ≡ length (links_in (plain_body body))
    of_body (bodies.Commands payload) = links_counted placed.batch (placed.place + link_offset (plain_payload payload) 0) payload.links.items
    of_body bodies.NewEpoch = refl

-- a walk over all links of a batch took in all of them
pub all_links : (placed : Placed) (items : List LinkRecord) (i : ℕ) → items ≡ links_in (plain_body placed.body) → length items ≤ i → take i (placed_links (plain_placed placed)) ≡ placed_links (plain_placed placed)
all_links placed items i is past =
    let long : length (placed_links (plain_placed placed)) ≡ length items = links_of_batch placed ∙ ap length (sym is) in
    take_all i (placed_links (plain_placed placed)) (omega (arith, past, long))

-- the spot of the next link of a batch is noted
pub link_spotted : (placed : Placed) (items : List LinkRecord) (log : List PlainPlaced) (old new : SpotTable LinkHead) (head : LinkHead) (spot : RecordSpot) (i : ℕ) (d : LinkRecord) → items ≡ links_in (plain_body placed.body) →
    IsAt log spot.position (plain_placed placed) → spot.index ≡ i → i < length items → head ≡ head_of_link (get_or items i d) →
    ((q : LinkHead) → link_spot new q ≡ cond (same_link_heads head q) (Some spot) (link_spot old q)) → (q : LinkHead) (so_far : List PlacedLink) →
    HasLinkSpot log old q (so_far ++ take i (placed_links (plain_placed placed))) → HasLinkSpot log new q (so_far ++ take (i + 1) (placed_links (plain_placed placed)))
link_spotted placed items log old new head spot i d is at index within head_is updates q so_far has =
    let xs = placed_links (plain_placed placed) in
    let l = get_or items i d in
    let here : IsAt (links_in (plain_body placed.body)) i l = subst (λ (ls : List LinkRecord). IsAt ls i l) is (slice_get-get_or items i d within) in
    let found = link_placed placed i l here in
    let x = link_here placed.batch found.0 l in
    more_spots is_sought placed_links log (link_spot new) q so_far xs i x found.1
    (spot_noted same_link_heads is_sought placed_links log (link_spot old) (link_spot new) head spot x (λ h. ap (λ k. same_link_heads k h) (sym head_is)) updates
    (plain_placed placed, at, subst (λ n. IsAt xs n x) (sym index) found.1) q (so_far ++ take i xs) has)

contents_of_batch : (placed : Placed) → length (placed_contents (plain_placed placed)) ≡ length (contents_in (plain_body placed.body))
unfolding body_contents
contents_of_batch placed = of_body placed.body
  where
    of_body : (body : Body) → length (body_contents placed.batch placed.place (plain_body body)) ≡ length (contents_in (plain_body body))
    of_body (bodies.Commands payload) = contents_counted placed.batch (placed.place + content_offset (plain_payload payload) 0) (plain_payload payload).contents
    of_body bodies.NewEpoch = refl

-- a walk over all contents of a batch took in all of them
pub all_contents : (placed : Placed) (items : List ContentRecord) (i : ℕ) → map plain_content items ≡ contents_in (plain_body placed.body) → length items ≤ i →
    take i (placed_contents (plain_placed placed)) ≡ placed_contents (plain_placed placed)
all_contents placed items i is past =
    let long : length (placed_contents (plain_placed placed)) ≡ length (map plain_content items) = contents_of_batch placed ∙ ap length (sym is) in
    let plain = length-map items plain_content in
    take_all i (placed_contents (plain_placed placed)) (omega (arith, past, long, plain))

-- the spot of the next content of a batch is noted
pub content_spotted : (placed : Placed) (items : List ContentRecord) (log : List PlainPlaced) (old new : SpotTable ContentHead) (head : ContentHead) (spot : RecordSpot) (i : ℕ) (c : ContentRecord) →
    map plain_content items ≡ contents_in (plain_body placed.body) → IsAt log spot.position (plain_placed placed) → spot.index ≡ i → i < length items → c ≡ get_or items i c → head ≡ head_of_content c →
    ((q : ContentHead) → content_spot new q ≡ cond (same_content_heads head q) (Some spot) (content_spot old q)) → (q : ContentHead) (so_far : List PlacedContent) →
    HasContentSpot log old q (so_far ++ take i (placed_contents (plain_placed placed))) → HasContentSpot log new q (so_far ++ take (i + 1) (placed_contents (plain_placed placed)))
content_spotted placed items log old new head spot i c is at index within item head_is updates q so_far has =
    let xs = placed_contents (plain_placed placed) in
    let test : ContentHead → PlacedContent → Bool = λ h. is_of h.kind h.object in
    let here : IsAt (contents_in (plain_body placed.body)) i (plain_content c) = subst (λ (cs : List PlainContent). IsAt cs i (plain_content c)) is (at_mapped plain_content items i c (at_item items i c within item)) in
    let found = content_placed placed i (plain_content c) here in
    let x = content_here placed.batch found.0 (plain_content c) in
    more_spots test placed_contents log (content_spot new) q so_far xs i x found.1
    (spot_noted same_content_heads test placed_contents log (content_spot old) (content_spot new) head spot x (λ h. ap (λ k. same_content_heads k h) (sym head_is)) updates
    (plain_placed placed, at, subst (λ n. IsAt xs n x) (sym index) found.1) q (so_far ++ take i xs) has)
