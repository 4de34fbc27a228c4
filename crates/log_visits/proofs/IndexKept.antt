-- What an index keeps of a log, as batches are noted and as it forgets what doesn't stand.
use Rattle.std.proofs.Common.{◌≡◌, ◌⊎◌, ℕ, ◌==◌, Bool, true, false, cond, filter, List, [], ◌∷◌, ◌++◌, length, Option, None, Some, Ok, IfSome, inl, inr, ⊎_elim, refl, sym, ap, subst, ◌∙◌}
use Rattle.std.specs.HashMap.{HashMap, get}
use Rattle.std.specs.List.{flat_map}
use Rattle.std.specs.Map.{lookup}
use Rattle.std.proofs.lemmas.Grind.{flat_map-append}
use Rattle.std.specs.Prelude.{is_some}
use Rattle.std.proofs.lemmas.Bool.{and_parts, eqb-true, false≢true}
use Rattle.std.proofs.lemmas.List.{append-nil}
use Rattle.std.proofs.lemmas.Map.Entries.{lookup-filter-keys}
use Rattle.commit_journal.specs.Placed.{PlainPlaced}
use Rattle.commit_journal.specs.declared.past.Past.{Past}
use Rattle.cry_base.specs.Clearances.{clear_number}
use Rattle.cry_base.specs.Sets.{In}
use Rattle.cry_base.specs.Store.{Store}
use Rattle.cry_base.specs.declared.roles.Edge.{Edge}
use Rattle.cry_base.specs.declared.roles.Role.{Role}
use Rattle.key_links.specs.Ended.{sealing_role}
use Rattle.public_fold.specs.Journal.{Stand, nothing}
use Rattle.public_fold.specs.Keyed.{HasRole}
use Rattle.public_fold.specs.KeyStep.{KeyState, newest, next_epoch}
use Rattle.public_fold.specs.Standing.{IsSeenAs, PublicView}
use Rattle.public_fold.proofs.TurnsHold.{first_stands}
use Rattle.role_graph.specs.Edges.{IsClearanceEdge, IsEdge, IsFileEdge, IsGrantEdge, IsOwnEdge, IsParentEdge, edges, has_grants}
use Rattle.role_graph.specs.PublicStore.{public_store}
use Rattle.role_graph.proofs.Edging.{edges_told}
use Rattle.log_visits.specs.Folding.{folded}
use Rattle.log_visits.specs.Found.{HasObject, IsLinkFor, has_present_serials, head_of_edge, is_of, is_sought, link_here, newest_for, only_if, plain_link}
use Rattle.log_visits.specs.Indexed.{HasEdge, HasStandingAlone, IsKeyed, ContentsAreKept, ContentsAreNoted, HasLastContent, HasLastLink, HaveStarts, IsGone, IsIndexOf, IsLastAt, IsLeft, LinksAreKept, LinksAreNoted, StartsAt, same_content_heads, same_link_heads, stands}
use Rattle.log_visits.specs.Placing.{PlacedLink, body_contents, body_links, is_for_edge, last_one, log_contents, log_links}
use Rattle.log_visits.specs.Spots.{IsAt}
use Rattle.log_visits.specs.declared.index.Index.{Index}
use Rattle.log_visits.specs.declared.last_contents.ContentHead.{ContentHead}
use Rattle.log_visits.specs.declared.last_contents.ContentSpot.{ContentSpot}
use Rattle.log_visits.specs.declared.last_links.FoundLink.{FoundLink}
use Rattle.log_visits.specs.declared.last_links.LinkHead.{LinkHead}
use Rattle.log_visits.proofs.OwnerVisits.{seen_grants}
use Rattle.log_visits.proofs.FoldedHolds.{first_stand, log_with}
use Rattle.log_visits.proofs.HeadedEdges.{head_stands, same_links}
use Rattle.log_visits.proofs.Following.{last_passes}
use Rattle.log_visits.proofs.Lasts.{at_end, last_grows}
use Rattle.log_visits.proofs.NewestLinks.{for_present, last_of_both, later_or}
use Rattle.log_visits.proofs.StillLeft.{still_gone, still_left}

-- an index of nothing is that of a log without batches
pub nothing_indexed : (index : Index) → index.links.entries ≡ [] → index.contents.entries ≡ [] → IsIndexOf index []
unfolding last_one log_links log_contents
nothing_indexed index no_links no_contents = record {
  last_link = λ q. inl (record { found = ap (λ es. plain_link (lookup (same_link_heads q) es)) no_links });
  last_content = λ q. inl (record { found = subst (λ es. IsLastAt [] (lookup (same_content_heads q) es) None) (sym no_contents) refl });
}

-- ---- one batch more

-- the records of a log's batches, and those of one more
pub log_with_next : {X : Type 0} (parts : PlainPlaced → List X) (log : List PlainPlaced) (p : PlainPlaced) → flat_map parts log ++ parts p ≡ flat_map parts (log ++ p ∷ [])
log_with_next {X} parts log p = ap (λ (xs : List X). flat_map parts log ++ xs) (sym (append-nil (parts p))) ∙ sym (flat_map-append parts log (p ∷ []))

no_link : (o : Option FoundLink) → plain_link o ≡ None → o ≡ None
no_link None is = refl
no_link (Some l) is = absurd cc

no_content : (log : List PlainPlaced) (o : Option ContentSpot) → IsLastAt log o None → o ≡ None
no_content log None is = refl
no_content log (Some spot) is = absurd (let bad : None ≡ Some _ = is.2 in cc)

last_of_none : {X : Type 0} (test : X → Bool) → last_one test [] ≡ None
unfolding last_one
last_of_none test = refl

link_noted_on : (old new : Index) (log : List PlainPlaced) (p : PlainPlaced) (head : LinkHead) → LinksAreNoted old.links new.links (body_links p.batch p.place p.body) →
    HasLastLink old.links head (log_links log) ⊎ ((get same_link_heads old.links head ≡ None) × IsLeft log head) →
    HasLastLink new.links head (log_links (log ++ p ∷ [])) ⊎ ((get same_link_heads new.links head ≡ None) × IsLeft (log ++ p ∷ []) head)
unfolding log_links
link_noted_on old new log p head noted has =
    let more = body_links p.batch p.place p.body in
    let all : log_links log ++ more ≡ log_links (log ++ p ∷ []) = log_with_next (λ b. body_links b.batch b.place b.body) log p in
    ⊎_elim
    (λ (is : HasLastLink old.links head (log_links log)). inl (subst (HasLastLink new.links head) all (noted head (log_links log) is)))
    (λ (w : (get same_link_heads old.links head ≡ None) × IsLeft log head).
    let alone : plain_link (get same_link_heads new.links head) ≡ last_one (is_sought head) more = (noted head [] (record { found = ap plain_link w.0 ∙ sym (last_of_none (is_sought head)) })).found in
    (elim (last_one (is_sought head) more) as (λ o. last_one (is_sought head) more ≡ o → HasLastLink new.links head (log_links (log ++ p ∷ [])) ⊎ ((get same_link_heads new.links head ≡ None) × IsLeft (log ++ p ∷ []) head)) [
      | Some x ↦ λ e. inl (subst (HasLastLink new.links head) all (record {
        found = alone ∙ e ∙ ap (λ o. later_or o (last_one (is_sought head) (log_links log))) (sym e) ∙ sym (last_of_both (is_sought head) (log_links log) more);
      }))
      | None ↦ λ e. inr (no_link (get same_link_heads new.links head) (alone ∙ e), still_left log p head w.1 e)
    ]) refl)
    has

content_noted_on : (old new : Index) (log : List PlainPlaced) (p : PlainPlaced) (head : ContentHead) → ContentsAreNoted (log ++ p ∷ []) old.contents new.contents (body_contents p.batch p.place p.body) →
    HasLastContent log old.contents head (log_contents log) ⊎ ((get same_content_heads old.contents head ≡ None) × IsGone log head) →
    HasLastContent (log ++ p ∷ []) new.contents head (log_contents (log ++ p ∷ [])) ⊎ ((get same_content_heads new.contents head ≡ None) × IsGone (log ++ p ∷ []) head)
unfolding log_contents
content_noted_on old new log p head noted has =
    let longer = log ++ p ∷ [] in
    let more = body_contents p.batch p.place p.body in
    let test = is_of head.kind head.object in
    let all : log_contents log ++ more ≡ log_contents longer = log_with_next (λ b. body_contents b.batch b.place b.body) log p in
    ⊎_elim
    (λ (is : HasLastContent log old.contents head (log_contents log)). inl (subst (HasLastContent longer new.contents head) all
    (noted head (log_contents log) (record { found = last_grows log (p ∷ []) (get same_content_heads old.contents head) (last_one test (log_contents log)) is.found }))))
    (λ (w : (get same_content_heads old.contents head ≡ None) × IsGone log head).
    let bare : IsLastAt longer (get same_content_heads old.contents head) None = subst (λ o. IsLastAt longer o None) (sym w.0) refl in
    let begun : HasLastContent longer old.contents head [] = record { found = subst (IsLastAt longer (get same_content_heads old.contents head)) (sym (last_of_none test)) bare } in
    let alone : IsLastAt longer (get same_content_heads new.contents head) (last_one test more) =
    (noted head [] begun).found
    in
    (elim (last_one test more) as (λ o. last_one test more ≡ o → HasLastContent longer new.contents head (log_contents longer) ⊎ ((get same_content_heads new.contents head ≡ None) × IsGone longer head)) [
      | Some x ↦ λ e. inl (subst (HasLastContent longer new.contents head) all (record {
        found = subst (IsLastAt longer (get same_content_heads new.contents head))
            (e ∙ ap (λ o. later_or o (last_one test (log_contents log))) (sym e) ∙ sym (last_of_both test (log_contents log) more)) alone;
      }))
      | None ↦ λ e. inr (no_content longer (get same_content_heads new.contents head) (subst (IsLastAt longer (get same_content_heads new.contents head)) e alone), still_gone log p head w.1 e)
    ]) refl)
    has

-- a batch that was noted behind those of a log
pub batch_noted : (old new : Index) (log : List PlainPlaced) (position : ℕ) (p : PlainPlaced) → length log ≡ position → IsIndexOf old log →
    LinksAreNoted old.links new.links (body_links p.batch p.place p.body) →
    ((all : List PlainPlaced) → IsAt all position p → ContentsAreNoted all old.contents new.contents (body_contents p.batch p.place p.body)) →
    IsIndexOf new (log ++ p ∷ [])
batch_noted old new log position p long has links contents = record {
  last_link = λ q. link_noted_on old new log p q links (has.last_link q);
  last_content = λ q. content_noted_on old new log p q (contents (log ++ p ∷ []) (at_end log p position long)) (has.last_content q);
}

-- ---- what is forgotten

same_contents : (q k : ContentHead) → same_content_heads q k ≡ true → q ≡ k
same_contents q k t =
    let a = and_parts (q.kind == k.kind) (q.object == k.object) t in
    let kind = eqb-true q.kind k.kind a.0 in
    let object = eqb-true q.object k.object a.1 in
    λ i. record { kind = kind i; object = object i }

pub links_kept : {S : Type 0} (old new : HashMap LinkHead FoundLink S) (s : Store) →
    new.entries ≡ filter (λ (e : LinkHead × FoundLink). stands s e.0) old.entries → LinksAreKept s old new
links_kept old new s is = λ q. by_keep q (stands s q) refl
  where
    by_keep : (q : LinkHead) (b : Bool) → stands s q ≡ b →
        ((get same_link_heads new q ≡ get same_link_heads old q) × HasEdge s q) ⊎ ((get same_link_heads new q ≡ None) × (HasEdge s q → ⊥))
    by_keep q true t = inl (
      ap (lookup (same_link_heads q)) is ∙ lookup-filter-keys (same_link_heads q) (stands s) true (λ k same. ap (stands s) (sym (same_links q k same)) ∙ t) old.entries,
      (head_stands s q).0 t,
    )
    by_keep q false t = inr (
      ap (lookup (same_link_heads q)) is ∙ lookup-filter-keys (same_link_heads q) (stands s) false (λ k same. ap (stands s) (sym (same_links q k same)) ∙ t) old.entries,
      λ w. false≢true (sym t ∙ (head_stands s q).1 w),
    )

not_some : {X : Type 0} (o : Option X) → is_some o ≡ false → o ≡ None
not_some None is = refl
not_some (Some x) is = absurd (false≢true (sym is))

pub contents_kept : {S : Type 0} (old new : HashMap ContentHead ContentSpot S) (k : KeyState) →
    new.entries ≡ filter (λ (e : ContentHead × ContentSpot). is_some (newest k.keys (sealing_role e.0.kind e.0.object))) old.entries → ContentsAreKept k old new
contents_kept old new k is = λ q. by_keep q (is_some (newest k.keys (sealing_role q.kind q.object))) refl
  where
    by_keep : (q : ContentHead) (b : Bool) → is_some (newest k.keys (sealing_role q.kind q.object)) ≡ b →
        ((get same_content_heads new q ≡ get same_content_heads old q) × IsKeyed k q) ⊎ ((get same_content_heads new q ≡ None) × (newest k.keys (sealing_role q.kind q.object) ≡ None))
    by_keep q true t = inl (
      ap (lookup (same_content_heads q)) is ∙ lookup-filter-keys (same_content_heads q) (λ h. is_some (newest k.keys (sealing_role h.kind h.object))) true
          (λ h same. ap (λ (x : ContentHead). is_some (newest k.keys (sealing_role x.kind x.object))) (sym (same_contents q h same)) ∙ t) old.entries,
      t,
    )
    by_keep q false t = inr (
      ap (lookup (same_content_heads q)) is ∙ lookup-filter-keys (same_content_heads q) (λ h. is_some (newest k.keys (sealing_role h.kind h.object))) false
          (λ h same. ap (λ (x : ContentHead). is_some (newest k.keys (sealing_role x.kind x.object))) (sym (same_contents q h same)) ∙ t) old.entries,
      not_some (newest k.keys (sealing_role q.kind q.object)) t,
    )

-- an edge that stands behind a log is one that everyone may see
edge_seen : (v : PublicView) (at : Stand) (e : Edge) → IsSeenAs v at → IsEdge at.store e → In e (edges (public_store v.tree v.pairs))
unfolding has_grants
edge_seen v at e seen stands =
    let s = public_store v.tree v.pairs in
    let folders : at.store.folders ≡ s.folders = ap (λ (x : Store). x.folders) seen.store in
    let files : at.store.files ≡ s.files = ap (λ (x : Store). x.files) seen.store in
    (edges_told s e).1 (⊎_elim
    (λ (o : IsOwnEdge at.store e). inl (o.0, subst (In o.0) folders o.1, o.2))
    (λ u. ⊎_elim
    (λ (o : IsParentEdge at.store e). inr (inl (o.0, subst (In o.0) folders o.1, o.2, o.3)))
    (λ w. ⊎_elim
    (λ (o : IsGrantEdge at.store e). inr (inr (inl (o.0, (seen.grants.same o.0).1 o.1, o.2))))
    (λ y. ⊎_elim
    (λ (o : IsFileEdge at.store e). inr (inr (inr (inl (o.0, subst (In o.0) files o.1, o.2)))))
    (λ (o : IsClearanceEdge at.store e). inr (inr (inr (inr (o.0, subst (In o.0) files o.1, seen_grants v at (clear_number o.0.id) seen ∙ o.2, o.3))))) y) w) u) stands)

-- what stands behind a log has a key
role_keyed : (log : List PlainPlaced) (at : Stand) (r : Role) → folded nothing log ≡ Ok at → HasRole at.store r → (n : ℕ) × (newest at.keys.keys r ≡ Some n)
role_keyed [] at r folds has = subst (λ (z : Stand). HasRole z.store r → (n : ℕ) × (newest z.keys.keys r ≡ Some n)) (first_stand at folds) first has
  where
    first : HasRole nothing.store r → (n : ℕ) × (newest nothing.keys.keys r ≡ Some n)
    first = unfold next_epoch in (first_stands.keys.keyed r).0
role_keyed (p ∷ log) at r folds has = ((log_with p log at folds).1.keys.keyed r).0 has

one_stand : (log : List PlainPlaced) (other at : Stand) → folded nothing log ≡ Ok other → folded nothing log ≡ Ok at → other ≡ at
one_stand log other at one folds =
    let both : Ok other ≡ Ok at = sym one ∙ folds in
    cc

pub forgotten : (old new : Index) (v : PublicView) (log : List PlainPlaced) (at : Stand) → IsIndexOf old log → folded nothing log ≡ Ok at → IsSeenAs v at → LinksAreKept (public_store v.tree v.pairs) old.links new.links →
    ContentsAreKept v.keys old.contents new.contents → IsIndexOf new log
forgotten old new v log at has folds seen links contents = record {
  last_link = λ q. ⊎_elim
      (λ kept. ⊎_elim
      (λ is. inl (record { found = ap plain_link kept.0 ∙ is.found }))
      (λ w. inr (kept.0 ∙ w.0, w.1)) (has.last_link q))
      (λ w. inr (w.0, λ other e behind stands is. w.1 (e, edge_seen v at e seen (subst (λ (z : Stand). IsEdge z.store e) (one_stand log other at behind folds) stands), is)))
      (links q);
  last_content = λ q. ⊎_elim
      (λ kept. ⊎_elim
      (λ is. inl (record { found = subst (λ o. IsLastAt log o (last_one (is_of q.kind q.object) (log_contents log))) (sym kept.0) is.found }))
      (λ w. inr (kept.0 ∙ w.0, w.1)) (has.last_content q))
      (λ w. inr (
        w.0,
        λ other behind object.
            let key = role_keyed log other (sealing_role q.kind q.object) behind object in
            let at_once : newest v.keys.keys (sealing_role q.kind q.object) ≡ Some key.0 = ap (λ (k : KeyState). newest k.keys (sealing_role q.kind q.object)) (sym (ap (λ (z : Stand). z.keys) (one_stand log other at behind folds) ∙ seen.keys)) ∙ key.1 in
            let none : newest v.keys.keys (sealing_role q.kind q.object) ≡ None = w.1 in
            absurd cc,
      ))
      (contents q);
}

pub starts_kept : {S : Type 0} (k : KeyState) (old new : HashMap ContentHead ContentSpot S) (starts : List Past) → ContentsAreKept k old new → HaveStarts old starts → HaveStarts new starts
starts_kept k old new starts kept have = record {
  found = λ q. ⊎_elim
      (λ same. subst (λ o. IfSome o (λ s. StartsAt starts s.position s.start)) (sym same.0) (have.found q))
      (λ w. subst (λ o. IfSome o (λ s. StartsAt starts s.position s.start)) (sym w.0) tt)
      (kept q);
}

-- what is left is of what stands
pub standing_alone : (old new : Index) (v : PublicView) → LinksAreKept (public_store v.tree v.pairs) old.links new.links → ContentsAreKept v.keys old.contents new.contents → HasStandingAlone new v
standing_alone old new v links contents = record {
  links = λ q some. ⊎_elim
      (λ kept. kept.1)
      (λ w. absurd (false≢true (sym (ap is_some w.0) ∙ some)))
      (links q);
  contents = λ q some. ⊎_elim
      (λ kept. kept.1)
      (λ w. absurd (false≢true (sym (ap is_some w.0) ∙ some)))
      (contents q);
}

-- ---- what is found

-- what an index has of an edge that stands is its last link
pub link_stands : (index : Index) (log : List PlainPlaced) (at : Stand) (e : Edge) → IsIndexOf index log → folded nothing log ≡ Ok at → IsEdge at.store e → HasLastLink index.links (head_of_edge e) (log_links log)
link_stands index log at e has folds stands = ⊎_elim (λ is. is) (λ w. absurd (w.1 at e folds stands refl)) (has.last_link (head_of_edge e))

pub content_stands : (index : Index) (log : List PlainPlaced) (at : Stand) (head : ContentHead) → IsIndexOf index log → folded nothing log ≡ Ok at → HasObject at.store head.kind head.object →
    HasLastContent log index.contents head (log_contents log)
content_stands index log at head has folds object = ⊎_elim (λ is. is) (λ w. absurd (w.1 at folds object)) (has.last_content head)

-- and what it has of any edge is a link of the edge
pub link_form : (index : Index) (k : KeyState) (log : List PlainPlaced) (e : Edge) (l : FoundLink) → IsIndexOf index log → get same_link_heads index.links (head_of_edge e) ≡ Some l → has_present_serials k e l.link ≡ true →
    IsLinkFor k e l
link_form index k log e l has is passes =
    let here = link_here l.batch l.at l.link in ⊎_elim
    (λ last.
    let last_is : last_one (is_sought (head_of_edge e)) (log_links log) ≡ Some here = sym last.found ∙ ap plain_link is in
    for_present k e here (last_passes (is_sought (head_of_edge e)) (log_links log) here last_is) ∙ passes)
    (λ w. absurd (let none : get same_link_heads index.links (head_of_edge e) ≡ None = w.0 in cc))
    (has.last_link (head_of_edge e))

-- the last link of an edge is its newest, where it is one from present key to present key
pub last_wanting : (k : KeyState) (log : List PlainPlaced) (e : Edge) → last_one (is_sought (head_of_edge e)) (log_links log) ≡ None → newest_for k log e ≡ None
unfolding newest_for
last_wanting k log e is = ap (only_if (is_for_edge k e)) is

pub last_present : (k : KeyState) (log : List PlainPlaced) (e : Edge) (here : PlacedLink) (b : Bool) → last_one (is_sought (head_of_edge e)) (log_links log) ≡ Some here → b ≡ has_present_serials k e here.link →
    newest_for k log e ≡ cond b (Some here) None
unfolding newest_for
last_present k log e here b is passes =
    ap (only_if (is_for_edge k e)) is
    ∙ ap (λ t. cond t (Some here) None) (for_present k e here (last_passes (is_sought (head_of_edge e)) (log_links log) here is) ∙ sym passes)

pub newest_wanting : {S : Type 0} (last : HashMap LinkHead FoundLink S) (k : KeyState) (log : List PlainPlaced) (e : Edge) → HasLastLink last (head_of_edge e) (log_links log) → get same_link_heads last (head_of_edge e) ≡ None →
    newest_for k log e ≡ None
newest_wanting last k log e has is = last_wanting k log e (sym (has.found) ∙ ap plain_link is)

pub newest_present : {S : Type 0} (last : HashMap LinkHead FoundLink S) (k : KeyState) (log : List PlainPlaced) (e : Edge) (l : FoundLink) (b : Bool) → HasLastLink last (head_of_edge e) (log_links log) →
    get same_link_heads last (head_of_edge e) ≡ Some l → b ≡ has_present_serials k e l.link → newest_for k log e ≡ cond b (Some (link_here l.batch l.at l.link)) None
newest_present last k log e l b has is passes = last_present k log e (link_here l.batch l.at l.link) b (sym (has.found) ∙ ap plain_link is) passes
