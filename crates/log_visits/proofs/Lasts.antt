-- The last one that passes, as a walk over a log goes on.
use Rattle.std.proofs.Common.{◌≡◌, ◌+◌, ◌*◌, ◌<◌, ℕ, zero, suc, Bool, true, false, cond, List, [], ◌∷◌, ◌++◌, get_or, length, take, map, Option, None, Some, refl, sym, ap, subst, ◌∙◌, add-one, append_assoc, arith}
use Rattle.std.specs.HashMap.{HashMap, get}
use Rattle.std.specs.List.{sum_by}
use Rattle.std.proofs.Math.ListN.{get_or-append, get_or-map}
use Rattle.std.proofs.Math.Seq.{get_or-append_seam}
use Rattle.std.proofs.lemmas.List.{length-append, length-map}
use Rattle.std.proofs.lemmas.List.Sums.{sum_by-cons}
use Rattle.std.proofs.lemmas.Option.{get_or_from_slice_get, slice_get-get_or, slice_get_within}
use Rattle.commit_journal.specs.Placed.{PlainPlaced, plain_body, plain_placed}
use Rattle.commit_journal.specs.Places.{EndsWithin, IsStanding}
use Rattle.commit_journal.specs.declared.placed.Body.{Body}
use Rattle.commit_journal.specs.declared.placed.Body.TheVariants as bodies
use Rattle.commit_journal.specs.declared.placed.Placed.{Placed}
use Rattle.record_format.specs.Spellable.{IsContent}
use Rattle.std.specs.List.{slice_get}
use Rattle.std.proofs.lemmas.List.Elements.{All-get_or}
use Rattle.record_format.specs.declared.content.ContentRecord.{ContentRecord}
use Rattle.record_format.specs.declared.link.LinkRecord.{LinkRecord}
use Rattle.record_format.specs.Plain.{PlainContent, plain_content}
use Rattle.record_format.specs.Sizes.{content_size}
use Rattle.log_visits.specs.declared.last_contents.ContentHead.{ContentHead}
use Rattle.log_visits.specs.declared.last_contents.ContentSpot.{ContentSpot}
use Rattle.log_visits.specs.declared.last_links.FoundLink.{FoundLink}
use Rattle.log_visits.specs.declared.last_links.LinkHead.{LinkHead}
use Rattle.std.proofs.lemmas.Bool.{and_parts, eqb-true}
use Rattle.std.specs.Prelude.{MatchResult, Result, Ok, Err}
use Rattle.log_visits.specs.declared.fault.ClientFault.{ClientFault}
use Rattle.log_visits.specs.declared.records.FoundContent.{FoundContent}
use Rattle.log_visits.specs.Found.{FindsAt, IsFree, plain_content_found, content_here, is_of, is_sought, link_here, plain_link}
use Rattle.log_visits.specs.Indexed.{ContentsAreNoted, HasLastContent, HasLastLink, IsContentAt, IsLastAt, LinksAreNoted, head_of_content, head_of_link, same_content_heads, same_link_heads}
use Rattle.log_visits.specs.Placing.{PlacedContent, PlacedLink, contents_at, content_for, last_one, links_at, log_contents}
use Rattle.log_visits.specs.Spots.{IsAt, contents_in}
use Rattle.log_visits.proofs.Following.{last_passes}

-- with one more, that one if it passes, and else the last before it
pub last_with_next : {X : Type 0} (test : X → Bool) (xs : List X) (x : X) → last_one test (xs ++ x ∷ []) ≡ cond (test x) (Some x) (last_one test xs)
unfolding last_one
last_with_next test [] x = refl
last_with_next test (y ∷ xs) x =
    ap (λ o. elim o [ Some z ↦ Some z | None ↦ cond (test y) (Some y) None ]) (last_with_next test xs x)
    ∙ elim (test x) as (λ b. elim (cond b (Some x) (last_one test xs)) [ Some z ↦ Some z | None ↦ cond (test y) (Some y) None ] ≡ cond b (Some x) (last_one test (y ∷ xs))) [ true ↦ refl | false ↦ refl ]

-- within a list no other item stands in for one that lacks
pub item_at : {X : Type 0} (xs : List X) (i : ℕ) (d e : X) → i < length xs → get_or xs i d ≡ get_or xs i e
item_at [] i d e within = absurd (omega (arith, within))
item_at (x ∷ xs) zero d e within = refl
item_at (x ∷ xs) (suc i) d e within = item_at xs i d e (omega (arith, within))

-- a content of a list, as one of the plain ones
pub mapped_item : (contents : List ContentRecord) (i : ℕ) (content : ContentRecord) → i < length contents → content ≡ get_or contents i content →
    (i < length (map plain_content contents)) × (plain_content content ≡ get_or (map plain_content contents) i (plain_content content))
mapped_item contents i content within is = (
  subst (λ n. i < n) (sym (length-map contents plain_content)) within,
  ap plain_content is ∙ sym (get_or-map plain_content contents i content),
)

-- ---- links

-- a link that is noted is the last one that has its head
pub link_noted : {S : Type 0} (last new : HashMap LinkHead FoundLink S) (head : LinkHead) (found : FoundLink) → head ≡ head_of_link found.link →
    ((q : LinkHead) → get same_link_heads new q ≡ cond (same_link_heads head q) (Some found) (get same_link_heads last q)) → LinksAreNoted last new (link_here found.batch found.at found.link ∷ [])
link_noted last new head found is updates = λ q so_far has. record {
  found =
      let x = link_here found.batch found.at found.link in
      let old = get same_link_heads last q in
      ap plain_link (updates q)
      ∙ ap (λ h. plain_link (cond (same_link_heads h q) (Some found) old)) is
      ∙ (elim (is_sought q x) as (λ b. plain_link (cond b (Some found) old) ≡ cond b (Some x) (plain_link old)) [ true ↦ refl | false ↦ refl ])
      ∙ ap (λ o. cond (is_sought q x) (Some x) o) has.found
      ∙ sym (last_with_next (is_sought q) so_far x);
}

links_with_next : (batch at : ℕ) (links : List LinkRecord) (i : ℕ) (d : LinkRecord) → i < length links →
    links_at batch at (take (suc i) links) ≡ links_at batch at (take i links) ++ link_here batch (at + 98 * i) (get_or links i d) ∷ []
unfolding links_at
links_with_next batch at [] i d within = absurd (omega (arith, within))
links_with_next batch at (l ∷ links) zero d within = let place : at ≡ at + 98 * 0 = omega arith in ap (λ n. link_here batch n l ∷ []) place
links_with_next batch at (l ∷ links) (suc i) d within =
    let inside : i < length links = omega (arith, within) in
    let place : at + 98 + 98 * i ≡ at + 98 * suc i = omega arith in
    ap (λ ls. link_here batch at l ∷ ls)
    (links_with_next batch (at + 98) links i d inside ∙ ap (λ n. links_at batch (at + 98) (take i links) ++ link_here batch n (get_or links i d) ∷ []) place)

-- the links so far of a batch, and the next one
pub more_links : {S : Type 0} (last : HashMap LinkHead FoundLink S) (q : LinkHead) (so_far : List PlacedLink) (batch first at : ℕ) (links : List LinkRecord) (i : ℕ) (link : LinkRecord) → i < length links → at ≡ first + 98 * i → link ≡ get_or links i link →
    HasLastLink last q ((so_far ++ links_at batch first (take i links)) ++ link_here batch at link ∷ []) → HasLastLink last q (so_far ++ links_at batch first (take (i + 1) links))
more_links last q so_far batch first at links i link within place is has =
    let before = links_at batch first (take i links) in
    subst (HasLastLink last q)
    (append_assoc so_far before (link_here batch at link ∷ [])
    ∙ ap (λ n. so_far ++ (before ++ link_here batch n link ∷ [])) place
    ∙ ap (λ (l : LinkRecord). so_far ++ (before ++ link_here batch (first + 98 * i) l ∷ [])) is
    ∙ ap (λ ls. so_far ++ ls) (sym (links_with_next batch first links i link within))
    ∙ ap (λ n. so_far ++ links_at batch first (take n links)) (sym (add-one i)))
    has

-- ---- contents

-- a content that is noted is the last one that has its head
pub content_noted : {S : Type 0} (last new : HashMap ContentHead ContentSpot S) (head : ContentHead) (spot : ContentSpot) (content : ContentRecord) (log : List PlainPlaced) → head ≡ head_of_content content →
    ((q : ContentHead) → get same_content_heads new q ≡ cond (same_content_heads head q) (Some spot) (get same_content_heads last q)) → IsContentAt log spot (plain_content content) →
    ContentsAreNoted log last new (content_here spot.batch spot.at (plain_content content) ∷ [])
content_noted last new head spot content log is updates at = λ q so_far has. record {
  found =
      let x = content_here spot.batch spot.at (plain_content content) in
      let old = get same_content_heads last q in
      let before = last_one (is_of q.kind q.object) so_far in
      subst (λ o. IsLastAt log o (last_one (is_of q.kind q.object) (so_far ++ x ∷ []))) (sym (updates q ∙ ap (λ h. cond (same_content_heads h q) (Some spot) old) is))
      (subst (λ w. IsLastAt log (cond (is_of q.kind q.object x) (Some spot) old) w) (sym (last_with_next (is_of q.kind q.object) so_far x))
      (elim (is_of q.kind q.object x) as (λ b. IsLastAt log (cond b (Some spot) old) (cond b (Some x) before)) [ true ↦ (plain_content content, at, refl) | false ↦ has.found ]));
}

contents_with_next : (batch at : ℕ) (contents : List PlainContent) (i : ℕ) (d : PlainContent) → i < length contents →
    contents_at batch at (take (suc i) contents) ≡ contents_at batch at (take i contents) ++ content_here batch (at + sum_by content_size (take i contents)) (get_or contents i d) ∷ []
unfolding contents_at
contents_with_next batch at [] i d within = absurd (omega (arith, within))
contents_with_next batch at (c ∷ contents) zero d within = let place : at ≡ at + 0 = omega arith in ap (λ n. content_here batch n c ∷ []) place
contents_with_next batch at (c ∷ contents) (suc i) d within =
    let inside : i < length contents = omega (arith, within) in
    let size = content_size c in
    let before = sum_by content_size (take i contents) in
    let all : sum_by content_size (take (suc i) (c ∷ contents)) ≡ size + before = sum_by-cons content_size c (take i contents) in
    let place : at + size + before ≡ at + sum_by content_size (take (suc i) (c ∷ contents)) = omega (arith, all) in
    ap (λ cs. content_here batch at c ∷ cs)
    (contents_with_next batch (at + size) contents i d inside ∙ ap (λ n. contents_at batch (at + size) (take i contents) ++ content_here batch n (get_or contents i d) ∷ []) place)

-- the contents so far of a batch, and the next one
pub more_contents : {S : Type 0} (log : List PlainPlaced) (last : HashMap ContentHead ContentSpot S) (q : ContentHead) (so_far : List PlacedContent) (batch first at : ℕ) (contents : List PlainContent) (i : ℕ) (content : PlainContent) → i < length contents →
    at ≡ first + sum_by content_size (take i contents) → content ≡ get_or contents i content →
    HasLastContent log last q ((so_far ++ contents_at batch first (take i contents)) ++ content_here batch at content ∷ []) → HasLastContent log last q (so_far ++ contents_at batch first (take (i + 1) contents))
more_contents log last q so_far batch first at contents i content within place is has =
    let before = contents_at batch first (take i contents) in
    subst (HasLastContent log last q)
    (append_assoc so_far before (content_here batch at content ∷ [])
    ∙ ap (λ n. so_far ++ (before ++ content_here batch n content ∷ [])) place
    ∙ ap (λ (c : PlainContent). so_far ++ (before ++ content_here batch (first + sum_by content_size (take i contents)) c ∷ [])) is
    ∙ ap (λ cs. so_far ++ cs) (sym (contents_with_next batch first contents i content within))
    ∙ ap (λ n. so_far ++ contents_at batch first (take n contents)) (sym (add-one i)))
    has

-- ---- places

pub at_item : {X : Type 0} (xs : List X) (i : ℕ) (x : X) → i < length xs → x ≡ get_or xs i x → IsAt xs i x
at_item xs i x within is = slice_get-get_or xs i x within ∙ ap Some (sym is)

-- one item stands at a place
pub same_item : {X : Type 0} (xs : List X) (i : ℕ) (x y : X) → IsAt xs i x → IsAt xs i y → x ≡ y
same_item xs i x y one other = let both : Some x ≡ Some y = sym one ∙ other in cc

pub at_mapped : {X Y : Type 0} (f : X → Y) (xs : List X) (i : ℕ) (x : X) → IsAt xs i x → IsAt (map f xs) i (f x)
at_mapped f xs i x is =
    let inside : i < length (map f xs) = subst (λ n. i < n) (sym (length-map xs f)) (slice_get_within xs i x is) in
    slice_get-get_or (map f xs) i (f x) inside ∙ ap Some (get_or-map f xs i x ∙ ap f (get_or_from_slice_get xs i x x is))

-- what stands at a position stands there in a longer list
pub at_more : {X : Type 0} (xs ys : List X) (i : ℕ) (x : X) → IsAt xs i x → IsAt (xs ++ ys) i x
at_more xs ys i x is =
    let within = slice_get_within xs i x is in
    let long = length-append xs ys in
    let inside : i < length (xs ++ ys) = omega (arith, within, long) in
    slice_get-get_or (xs ++ ys) i x inside ∙ ap Some (get_or-append xs ys x i within ∙ get_or_from_slice_get xs i x x is)

-- and one more stands behind the others
pub at_end : {X : Type 0} (xs : List X) (x : X) (i : ℕ) → length xs ≡ i → IsAt (xs ++ x ∷ []) i x
at_end xs x i is =
    let long = length-append xs (x ∷ []) in
    let inside : length xs < length (xs ++ x ∷ []) = omega (arith, long) in
    subst (λ n. IsAt (xs ++ x ∷ []) n x) is (slice_get-get_or (xs ++ x ∷ []) (length xs) x inside ∙ ap Some (get_or-append_seam xs x [] x))

pub last_grows : (log more : List PlainPlaced) (o : Option ContentSpot) (wanted : Option PlacedContent) → IsLastAt log o wanted → IsLastAt (log ++ more) o wanted
last_grows log more None wanted is = is
last_grows log more (Some spot) wanted is = (is.0, (is.1.0, at_more log more spot.position is.1.0 is.1.1, is.1.2), is.2)

-- ---- what was found

-- what is taken out of its batch is what is wanted
pub finds_at : (log : List PlainPlaced) (kind object : ℕ) (spot : ContentSpot) (placed : Placed) (result : Result FoundContent ClientFault) → IsLastAt log (Some spot) (content_for log kind object) →
    IsAt log spot.position (plain_placed placed) → FindsAt kind object placed spot result → MatchResult result (λ found. Some (plain_content_found found) ≡ content_for log kind object) IsFree
unfolding content_for
finds_at log kind object spot placed result last at finds =
    let c = last.0 in
    let one : Some last.1.0 ≡ Some (plain_placed placed) = sym last.1.1 ∙ at in
    let same : last.1.0 ≡ plain_placed placed = cc in
    let both = and_parts _ _ (last_passes (is_of kind object) (log_contents log) (content_here spot.batch spot.at c) last.2) in
    let found = finds c (subst (λ (p : PlainPlaced). IsAt (contents_in p.body) spot.index c) same last.1.2) (eqb-true c.kind kind both.0) (eqb-true c.object object both.1) in
    either result found
  where
    either : (result : Result FoundContent ClientFault) → MatchResult result (λ found. plain_content_found found ≡ content_here spot.batch spot.at last.0) IsFree →
        MatchResult result (λ found. Some (plain_content_found found) ≡ content_for log kind object) IsFree
    either (Ok found) is = ap Some is ∙ sym last.2
    either (Err fault) is = is

-- a content of a batch that stands has the format's form
pub standing_form : (placed : Placed) (i : ℕ) (c : PlainContent) → IsStanding placed → IsAt (contents_in (plain_body placed.body)) i c → IsContent c
standing_form placed i c stands is = of_body placed.place placed.body stands.payload is
  where
    of_body : (place : ℕ) (body : Body) → EndsWithin place body → IsAt (contents_in (plain_body body)) i c → IsContent c
    of_body place (bodies.Commands payload) ends at =
        let cs = contents_in (plain_body (bodies.Commands payload)) in
        subst IsContent (get_or_from_slice_get cs i c c at) (All-get_or IsContent cs i c (slice_get_within cs i c at) ends.0.contents)
    of_body place bodies.NewEpoch ends at = absurd (let bad : slice_get (let none : List PlainContent = [] in none) i ≡ Some c = at in let within = slice_get_within (let none : List PlainContent = [] in none) i c bad in omega (arith, within))
