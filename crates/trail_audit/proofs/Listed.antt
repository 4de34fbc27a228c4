-- The links and contents of a log, as a walk over it goes on.
use Rattle.std.proofs.Common.{◌≡◌, ◌+◌, ◌*◌, ◌<◌, ℕ, zero, suc, List, [], ◌∷◌, ◌++◌, get_or, length, take, refl, sym, ap, subst, ◌∙◌, add-one, append_assoc, arith}
use Rattle.std.specs.List.{flat_map, sum_by}
use Rattle.std.proofs.lemmas.Grind.{flat_map-append}
use Rattle.std.proofs.lemmas.List.{append-nil}
use Rattle.std.proofs.lemmas.List.Sums.{sum_by-cons}
use Rattle.commit_journal.specs.Placed.{PlainPlaced}
use Rattle.record_format.specs.declared.link.LinkRecord.{LinkRecord}
use Rattle.record_format.specs.Plain.{PlainContent}
use Rattle.record_format.specs.Sizes.{content_size}
use Rattle.log_visits.specs.Found.{content_here, link_here}
use Rattle.log_visits.specs.Placing.{PlacedContent, PlacedLink, contents_at, links_at}

links_with_next : (batch at : ℕ) (links : List LinkRecord) (i : ℕ) (d : LinkRecord) → i < length links →
    links_at batch at (take (suc i) links) ≡ links_at batch at (take i links) ++ link_here batch (at + 98 * i) (get_or links i d) ∷ []
unfolding links_at
links_with_next batch at [] i d within = absurd (omega (arith, within))
links_with_next batch at (l ∷ links) zero d within = let place : at ≡ at + 98 * 0 = omega arith in ap (λ n. link_here batch n l ∷ []) place
links_with_next batch at (l ∷ links) (suc i) d within =
    let inside : i < length links = omega (arith, within) in
    let place : at + 98 + 98 * i ≡ at + 98 * suc i = omega arith in
    ap (λ ls. link_here batch at l ∷ ls)
    (links_with_next batch (at + 98) links i d inside ∙ ap (λ n. links_at batch (at + 98) (take i links) ++ link_here batch n (get_or links i d) ∷ []) place)

-- the links so far of a batch, and the next one
pub more_links : (found new so_far : List PlacedLink) (batch first at : ℕ) (links : List LinkRecord) (i : ℕ) (link : LinkRecord) → i < length links → at ≡ first + 98 * i → link ≡ get_or links i link →
    found ≡ so_far ++ links_at batch first (take i links) → new ≡ found ++ link_here batch at link ∷ [] → new ≡ so_far ++ links_at batch first (take (i + 1) links)
more_links found new so_far batch first at links i link within place is has next =
    let before = links_at batch first (take i links) in
    next
    ∙ ap (λ (ls : List PlacedLink). ls ++ link_here batch at link ∷ []) has
    ∙ append_assoc so_far before (link_here batch at link ∷ [])
    ∙ ap (λ n. so_far ++ (before ++ link_here batch n link ∷ [])) place
    ∙ ap (λ (l : LinkRecord). so_far ++ (before ++ link_here batch (first + 98 * i) l ∷ [])) is
    ∙ ap (λ ls. so_far ++ ls) (sym (links_with_next batch first links i link within))
    ∙ ap (λ n. so_far ++ links_at batch first (take n links)) (sym (add-one i))

-- what holds of them with the next one holds of one more
pub links_on : (Has : List PlacedLink → Type 0) (before : List PlacedLink) (batch first at : ℕ) (links : List LinkRecord) (i : ℕ) (link : LinkRecord) → i < length links → at ≡ first + 98 * i → link ≡ get_or links i link →
    Has ((before ++ links_at batch first (take i links)) ++ link_here batch at link ∷ []) → Has (before ++ links_at batch first (take (i + 1) links))
links_on Has before batch first at links i link within place is has =
    let so_far = before ++ links_at batch first (take i links) in
    subst Has (more_links so_far (so_far ++ link_here batch at link ∷ []) before batch first at links i link within place is refl refl) has

contents_with_next : (batch at : ℕ) (contents : List PlainContent) (i : ℕ) (d : PlainContent) → i < length contents →
    contents_at batch at (take (suc i) contents) ≡ contents_at batch at (take i contents) ++ content_here batch (at + sum_by content_size (take i contents)) (get_or contents i d) ∷ []
unfolding contents_at
contents_with_next batch at [] i d within = absurd (omega (arith, within))
contents_with_next batch at (c ∷ contents) zero d within = let place : at ≡ at + 0 = omega arith in ap (λ n. content_here batch n c ∷ []) place
contents_with_next batch at (c ∷ contents) (suc i) d within =
    let inside : i < length contents = omega (arith, within) in
    let size = content_size c in
    let before = sum_by content_size (take i contents) in
    let all : sum_by content_size (take (suc i) (c ∷ contents)) ≡ size + before = sum_by-cons content_size c (take i contents) in
    let place : at + size + before ≡ at + sum_by content_size (take (suc i) (c ∷ contents)) = omega (arith, all) in
    ap (λ cs. content_here batch at c ∷ cs)
    (contents_with_next batch (at + size) contents i d inside ∙ ap (λ n. contents_at batch (at + size) (take i contents) ++ content_here batch n (get_or contents i d) ∷ []) place)

-- the contents so far of a batch, and the next one
pub more_contents : (found new so_far : List PlacedContent) (batch first at : ℕ) (contents : List PlainContent) (i : ℕ) (content : PlainContent) → i < length contents →
    at ≡ first + sum_by content_size (take i contents) → content ≡ get_or contents i content →
    found ≡ so_far ++ contents_at batch first (take i contents) → new ≡ found ++ content_here batch at content ∷ [] → new ≡ so_far ++ contents_at batch first (take (i + 1) contents)
more_contents found new so_far batch first at contents i content within place is has next =
    let before = contents_at batch first (take i contents) in
    next
    ∙ ap (λ (cs : List PlacedContent). cs ++ content_here batch at content ∷ []) has
    ∙ append_assoc so_far before (content_here batch at content ∷ [])
    ∙ ap (λ n. so_far ++ (before ++ content_here batch n content ∷ [])) place
    ∙ ap (λ (c : PlainContent). so_far ++ (before ++ content_here batch (first + sum_by content_size (take i contents)) c ∷ [])) is
    ∙ ap (λ cs. so_far ++ cs) (sym (contents_with_next batch first contents i content within))
    ∙ ap (λ n. so_far ++ contents_at batch first (take n contents)) (sym (add-one i))

-- the parts of a log's batches, and those of one more
pub parts_added : {X : Type 0} (parts : PlainPlaced → List X) (log : List PlainPlaced) (p : PlainPlaced) → flat_map parts log ++ parts p ≡ flat_map parts (log ++ p ∷ [])
parts_added {X} parts log p = ap (λ (xs : List X). flat_map parts log ++ xs) (sym (append-nil (parts p))) ∙ sym (flat_map-append parts log (p ∷ []))
