-- Serials as they are found, from the last link of a trail back.
use Rattle.std.proofs.Common.{◌≡◌, ◌+◌, ◌-◌, ◌<◌, ◌≤◌, ⊎_elim, ℕ, Bool, true, false, ◌==◌, ◌⊎◌, ◌↔◌, List, [], ◌∷◌, ◌++◌, cond, filter, get_or, length, map, take, Option, Some, None, IfSome, IfNone, IsTrue, is_some, inl, inr, refl, sym, ap, subst, ◌∙◌, append_assoc, arith}
use Rattle.std.specs.HashMap.{HashMap, get}
use Rattle.std.specs.Map.{lookup}
use Rattle.std.proofs.lemmas.Bool.{cases_Bool, cases_lt, eq-eqb, eqb-true, false≢true}
use Rattle.std.proofs.lemmas.List.{append-nil, get_or_append_left, get_or_default, get_or-append_right, length-append, take-append-le, get_or_read_under, length-take-le, take_all, take_more}
use Rattle.std.proofs.lemmas.List.Elements.{filter-append}
use Rattle.cry_base.specs.Listed.{Listed}
use Rattle.cry_base.specs.Sets.{In, Path}
use Rattle.cry_base.specs.Sets.Path.{Here, On}
use Rattle.cry_base.proofs.Members.{In-append, In-filter, In-map, filter-In}
use Rattle.record_format.specs.declared.link.LinkRecord.{LinkRecord}
use Rattle.role_graph.proofs.Rising.{get_or-In}
use Rattle.closure_laws.specs.Found.{AreAllFound, AreChained, AreOpen, IsClosed, LeadsBack, StandsAt, ends_at, found_by, links_in, serials_of}
use Rattle.closure_laws.specs.Keeping.{IsTrail, Leads, ends_of, held, held_links}
use Rattle.closure_laws.specs.declared.keeping.HeldLink.{HeldLink}
use Rattle.closure_laws.specs.declared.keeping.LinkRef.{LinkRef}
use Rattle.closure_laws.specs.declared.trail_search.Found.{Found}

-- ---- links of a payload

pub held_more : (payload n : ℕ) (ls : List LinkRecord) (l : LinkRecord)
    → held_links payload n (ls ++ l ∷ []) ≡ held_links payload n ls ++ held l.from_serial.0 l.to_serial.0 (record { payload = payload; link = n + length ls }) ∷ []
held_more payload n [] l = ap (λ k. held l.from_serial.0 l.to_serial.0 (record { payload = payload; link = k }) ∷ []) (omega arith)
held_more payload n (x ∷ ls) l =
    ap (λ hs. held x.from_serial.0 x.to_serial.0 (record { payload = payload; link = n }) ∷ hs)
    (held_more payload (n + 1) ls l ∙ ap (λ k. held_links payload (n + 1) ls ++ held l.from_serial.0 l.to_serial.0 (record { payload = payload; link = k }) ∷ []) (omega arith))

pub held_next : (payload : ℕ) (ls : List LinkRecord) (i n : ℕ) (d : LinkRecord) (old before after : List HeldLink) → i < length ls → n ≡ i → before ≡ old ++ held_links payload 0 (take i ls)
    → after ≡ before ++ held (get_or ls i d).from_serial.0 (get_or ls i d).to_serial.0 (record { payload = payload; link = n }) ∷ [] → after ≡ old ++ held_links payload 0 (take (i + 1) ls)
held_next payload ls i n d old before after within number so_far put =
    let l = get_or ls i d in
    let taken = length-take-le i ls (omega (arith, within)) in
    let place : n ≡ 0 + length (take i ls) = omega (arith, number, taken) in
    put
    ∙ (λ j. so_far j ++ held l.from_serial.0 l.to_serial.0 (record { payload = payload; link = place j }) ∷ [])
    ∙ append_assoc old (held_links payload 0 (take i ls)) (held l.from_serial.0 l.to_serial.0 (record { payload = payload; link = 0 + length (take i ls) }) ∷ [])
    ∙ ap (λ hs. old ++ hs) (sym (held_more payload 0 (take i ls) l))
    ∙ ap (λ z. old ++ held_links payload 0 z) (sym (take_more ls i d within))

-- ---- links by their ends

-- each group has the links that end at its serial
abbrev pub AreGrouped : {S : Type 0} → HashMap ℕ (Listed HeldLink) S → List HeldLink → Type 0
AreGrouped groups links = (s : ℕ) → links_in (get ◌==◌ groups s) ≡ filter (ends_at s) links

pub none_grouped : {S : Type 0} (groups : HashMap ℕ (Listed HeldLink) S) → groups.entries ≡ [] → AreGrouped groups []
none_grouped groups is = λ s. ap (λ es. links_in (lookup (◌==◌ s) es)) is

-- a link more
added : (links : List HeldLink) (l : HeldLink) (s : ℕ) (b : Bool) → (l.to.0 == s) ≡ b
    → cond b (filter (ends_at l.to.0) links ++ l ∷ []) (filter (ends_at s) links) ≡ filter (ends_at s) (links ++ l ∷ [])
added links l s true t =
    ap (λ z. filter (ends_at z) links ++ l ∷ []) (eqb-true l.to.0 s t)
    ∙ ap (λ b. filter (ends_at s) links ++ cond b (l ∷ []) []) (sym t)
    ∙ sym (filter-append (ends_at s) links (l ∷ []))
added links l s false f =
    sym (append-nil (filter (ends_at s) links))
    ∙ ap (λ b. filter (ends_at s) links ++ cond b (l ∷ []) []) (sym f)
    ∙ sym (filter-append (ends_at s) links (l ∷ []))

pub link_grouped : {S : Type 0} (old new : HashMap ℕ (Listed HeldLink) S) (links : List HeldLink) (i : ℕ) (d : HeldLink) → i < length links → AreGrouped old (take i links)
    → ((s : ℕ) → links_in (get ◌==◌ new s) ≡ cond ((get_or links i d).to.0 == s) (links_in (get ◌==◌ old (get_or links i d).to.0) ++ get_or links i d ∷ []) (links_in (get ◌==◌ old s))) → AreGrouped new (take (i + 1) links)
link_grouped old new links i d within grouped updates =
    let l = get_or links i d in
    subst (AreGrouped new) (sym (take_more links i d within))
    (λ s. updates s
    ∙ (λ j. cond (l.to.0 == s) (grouped l.to.0 j ++ l ∷ []) (grouped s j))
    ∙ added (take i links) l s (l.to.0 == s) refl)

pub all_grouped : {S : Type 0} (groups : HashMap ℕ (Listed HeldLink) S) (links : List HeldLink) (i : ℕ) → length links ≤ i → AreGrouped groups (take i links) → AreGrouped groups links
all_grouped groups links i past grouped = subst (AreGrouped groups) (take_all i links past) grouped

-- ---- what was found

-- so many of the serials found were followed back
pub record AreFoundSoFar (links : List HeldLink) (b : ℕ) (done : ℕ) (found : List Found) : Type 0 where
  pub own : In b (serials_of found)
  pub chained : AreChained links b found
  pub closed : (s : ℕ) → In s (serials_of (take done found)) → IsClosed links found s

serial_more : (found rest : List Found) (s : ℕ) → In s (serials_of found) → In s (serials_of (found ++ rest))
serial_more found rest s i =
    let w = (In-map Found ℕ (λ x. x.serial.0) s found).0 i in
    (In-map Found ℕ (λ x. x.serial.0) s (found ++ rest)).1 (w.0, (In-append Found w.0 found rest).1 (inl w.1), w.2)

closed_more : (links : List HeldLink) (found rest : List Found) (s : ℕ) → IsClosed links found s → IsClosed links (found ++ rest) s
closed_more links found rest s closed = λ l i e. serial_more found rest l.from.0 (closed l i e)

-- ---- links that are followed back

-- what a group of an open map has: the links that end at its serial, or none where they were followed
abbrev pub IsGroup : List HeldLink → List Found → ℕ → List HeldLink → Type 0
IsGroup links found s group = (group ≡ filter (ends_at s) links) ⊎ ((group ≡ []) × IsClosed links found s)

starts_closed : (links : List HeldLink) (found : List Found) (place s : ℕ) → IsClosed links (found ++ map (found_by place) (filter (ends_at s) links)) s
starts_closed links found place s = λ l i e.
    let x = found_by place l in
    let starts = map (found_by place) (filter (ends_at s) links) in
    (In-map Found ℕ (λ x. x.serial.0) l.from.0 (found ++ starts)).1
    (x, (In-append Found x found starts).1 (inr ((In-map HeldLink Found (found_by place) x (filter (ends_at s) links)).1 (l, filter-In HeldLink (ends_at s) l links i (eq-eqb l.to.0 s e), refl))), refl)

pub group_closed : (links : List HeldLink) (found : List Found) (place s : ℕ) (group : List HeldLink) → IsGroup links found s group → IsClosed links (found ++ map (found_by place) group) s
group_closed links found place s group is = ⊎_elim
    (λ (all : group ≡ filter (ends_at s) links). subst (λ (g : List HeldLink). IsClosed links (found ++ map (found_by place) g) s) (sym all) (starts_closed links found place s))
    (λ (none : (group ≡ []) × IsClosed links found s). closed_more links found (map (found_by place) group) s none.1)
    is

ends_of_group : (links : List HeldLink) (found : List Found) (s : ℕ) (group : List HeldLink) → IsGroup links found s group → (l : HeldLink) → In l group → In l links × (l.to.0 ≡ s)
ends_of_group links found s group is l i = ⊎_elim
    (λ (all : group ≡ filter (ends_at s) links). let w = In-filter HeldLink (ends_at s) l links (subst (In l) all i) in (w.0, eqb-true l.to.0 s w.1))
    (λ (none : (group ≡ []) × IsClosed links found s). absurd (subst (In l) none.0 i))
    is

pub is_group : {S : Type 0} (links : List HeldLink) (found : List Found) (s : ℕ) (group : List HeldLink) (groups : HashMap ℕ (Listed HeldLink) S) → links_in (get ◌==◌ groups s) ≡ group → AreOpen links found groups → IsGroup links found s group
is_group links found s group groups is open_groups = subst (IsGroup links found s) is (open_groups s)

pub none_closed : (links : List HeldLink) (found : List Found) (s : ℕ) → IsGroup links found s [] → IsClosed links found s
none_closed links found s is = subst (λ (l : List Found). IsClosed links l s) (append-nil found) (group_closed links found 0 s [] is)

-- the map without that group
pub group_taken : {S : Type 0} (links : List HeldLink) (found rest : List Found) (s : ℕ) (old new : HashMap ℕ (Listed HeldLink) S) → get ◌==◌ new s ≡ None → ((q : ℕ) → (s == q) ≡ false → get ◌==◌ new q ≡ get ◌==◌ old q)
    → IsClosed links (found ++ rest) s → AreOpen links found old → AreOpen links (found ++ rest) new
group_taken links found rest s old new gone others closed open_groups = λ q. ⊎_elim
    (λ (t : (s == q) ≡ true).
    let e : s ≡ q = eqb-true s q t in
    inr (subst (λ (n : ℕ). links_in (get ◌==◌ new n) ≡ []) e (ap links_in gone), subst (IsClosed links (found ++ rest)) e closed))
    (λ (f : (s == q) ≡ false). ⊎_elim
    (λ (all : links_in (get ◌==◌ old q) ≡ filter (ends_at q) links). inl (ap links_in (others q f) ∙ all))
    (λ (none : (links_in (get ◌==◌ old q) ≡ []) × IsClosed links found q). inr (ap links_in (others q f) ∙ none.0, closed_more links found rest q none.1))
    (open_groups q))
    (cases_Bool (s == q))

-- an item stands where it stood
stands_more : (found rest : List Found) (i : ℕ) (x : Found) → StandsAt found i x → StandsAt (found ++ rest) i x
stands_more found rest i x at = (omega (arith, at.0, length-append found rest), at.1 ∙ sym (get_or_append_left found rest x i at.0))

-- what a read gives stands there
pub reads : (found : List Found) (i : ℕ) (d : Found) → i < length found → StandsAt found i (get_or found i d)
reads found i d within = (within, get_or_default found i d (get_or found i d) within)

pub reads_slice : (found slice : List Found) (i : ℕ) (d : Found) → slice ≡ found → i < length found → StandsAt found i (get_or slice i d)
reads_slice found slice i d same within = subst (λ (l : List Found). StandsAt found i (get_or l i d)) (sym same) (reads found i d within)

-- what a read gives where nothing stands
abbrev pub nothing_found : Found
nothing_found = record { serial = record { 0 = 0 }; by = record { payload = 0; link = 0 }; next = 0 }

pub stands_same : (found : List Found) (i : ℕ) (x y : Found) → StandsAt found i x → StandsAt found i y → x ≡ y
stands_same found i x y at and = get_or_read_under found i (length found) x y at.1 at.0 refl ∙ sym and.1

leads_more : (links : List HeldLink) (found rest : List Found) (i : ℕ) (x : Found) → LeadsBack links found i x → LeadsBack links (found ++ rest) i x
leads_more links found rest i x back = (back.0, (back.1.0, stands_more found rest x.next back.1.0 back.1.1, back.1.2))

-- new ones that lead back behind those that do
pub group_chained : (links : List HeldLink) (b : ℕ) (found : List Found) (place : ℕ) (y : Found) (group : List HeldLink) → StandsAt found place y → IsGroup links found y.serial.0 group
    → AreChained links b found → AreChained links b (found ++ map (found_by place) group)
group_chained links b found place y group at is chained = λ i x stands.
    let starts = map (found_by place) group in
    let size = length-append found starts in
    ⊎_elim
    (λ (old : i < length found).
    let stood : StandsAt found i x = (old, stands.1 ∙ get_or_append_left found starts x i old) in
    ⊎_elim (λ first. inl first) (λ back. inr (leads_more links found starts i x back)) (chained i x stood))
    (λ (new : length found ≤ i).
    let read : x ≡ get_or starts (i - length found) x = stands.1 ∙ get_or-append_right found starts (length found) i x refl new in
    let there : In x starts = subst (λ (z : Found). In z starts) (sym read) (get_or-In Found starts (i - length found) x (omega (arith, stands.0, size, new))) in
    let w = (In-map HeldLink Found (found_by place) x group).0 there in
    let both = ends_of_group links found y.serial.0 group is w.0 w.1 in
    let link : In (held w.0.from.0 y.serial.0 w.0.at) links = subst (λ (n : ℕ). In (held w.0.from.0 n w.0.at) links) both.1 both.0 in
    inr (subst (λ (z : Found). LeadsBack links (found ++ starts) i z) (sym w.2) (omega (arith, at.0, new), (y, stands_more found starts place y at, link))))
    (cases_lt i (length found))

-- ---- one serial after another

-- the serial that is led to, as it is found
abbrev pub first_found : ℕ → Found
first_found b = record { serial = record { 0 = b }; by = record { payload = 0; link = 0 }; next = 0 }

pub found_first : (links : List HeldLink) (b : ℕ) (old found : List Found) → old ≡ [] → found ≡ old ++ first_found b ∷ [] → AreFoundSoFar links b 0 found
found_first links b old found none one = subst (AreFoundSoFar links b 0) (sym (one ∙ ap (λ (l : List Found). l ++ first_found b ∷ []) none)) (record {
  own = inl refl;
  chained = λ i y stands. let zeroth : i ≡ 0 = omega (arith, stands.0) in
      inl (zeroth, ap (λ (z : Found). z.serial.0) (stands.1 ∙ ap (λ n. get_or (first_found b ∷ []) n y) zeroth));
  closed = λ s i. absurd i;
})

pub found_next : (links : List HeldLink) (b done : ℕ) (found new : List Found) (x : Found) → StandsAt found done x → ((rest : List Found) × (new ≡ found ++ rest)) → AreChained links b new → IsClosed links new x.serial.0
    → AreFoundSoFar links b done found → AreFoundSoFar links b (done + 1) new
found_next links b done found new x at kept chained closed so_far =
    let rest = kept.0 in
    let taken : take (done + 1) new ≡ take done found ++ x ∷ [] =
    ap (take (done + 1)) kept.1 ∙ take-append-le (done + 1) found rest (omega (arith, at.0)) ∙ take_more found done x at.0 ∙ ap (λ (k : Found). take done found ++ k ∷ []) (sym at.1)
    in
    record {
      own = subst (λ (l : List Found). In b (serials_of l)) (sym kept.1) (serial_more found rest b so_far.own);
      chained = chained;
      closed = λ s i.
          let w = (In-map Found ℕ (λ z. z.serial.0) s (take (done + 1) new)).0 i in
          ⊎_elim
          (λ (j : In w.0 (take done found)). subst (λ (l : List Found). IsClosed links l s) (sym kept.1)
          (closed_more links found rest s (so_far.closed s ((In-map Found ℕ (λ z. z.serial.0) s (take done found)).1 (w.0, j, w.2)))))
          (λ (j : In w.0 (x ∷ [])). ⊎_elim (λ (e : w.0 ≡ x). subst (IsClosed links new) (sym (w.2 ∙ ap (λ (z : Found). z.serial.0) e)) closed) (λ n. absurd n) j)
          ((In-append Found w.0 (take done found) (x ∷ [])).0 (subst (λ (l : List Found). In w.0 l) taken w.1));
    }

pub found_all : (links : List HeldLink) (b done : ℕ) (found : List Found) → length found ≤ done → AreFoundSoFar links b done found → AreAllFound links b found
found_all links b done found past so_far = record {
  own = so_far.own;
  chained = so_far.chained;
  closed = λ s i. so_far.closed s (subst (λ (l : List Found). In s (serials_of l)) (sym (take_all done found past)) i);
}

-- from where a trail leads to a serial that was found, that was found too
pub led_from : (links : List HeldLink) (b : ℕ) (found : List Found) → AreAllFound links b found → (a c : ℕ) → Leads links a c → In c (serials_of found) → In a (serials_of found)
led_from links b found all a c way i = by_way way i
  where
    by_way : {d : ℕ} → Path (map ends_of links) a d → In d (serials_of found) → In a (serials_of found)
    by_way Here i = i
    by_way (On {b = e} {c = f} way step) i =
        let w = (In-map HeldLink (ℕ × ℕ) ends_of (e, f) links).0 step in
        let from : e ≡ w.0.from.0 = ap (λ (z : ℕ × ℕ). z.0) w.2 in
        let to : f ≡ w.0.to.0 = ap (λ (z : ℕ × ℕ). z.1) w.2 in
        by_way way (subst (λ (n : ℕ). In n (serials_of found)) (sym from) (all.closed f i w.0 w.1 (sym to)))

-- ---- the place of a serial

pub no_more : (found : List Found) (i : ℕ) (x : Found) (s : ℕ) → StandsAt found i x → (x.serial.0 ≡ s → ⊥) → (In s (serials_of (take i found)) → ⊥) → In s (serials_of (take (i + 1) found)) → ⊥
no_more found i x s at other none there =
    let taken : take (i + 1) found ≡ take i found ++ x ∷ [] = take_more found i x at.0 ∙ ap (λ (k : Found). take i found ++ k ∷ []) (sym at.1) in
    let w = (In-map Found ℕ (λ z. z.serial.0) s (take (i + 1) found)).0 there in ⊎_elim
    (λ (j : In w.0 (take i found)). none ((In-map Found ℕ (λ z. z.serial.0) s (take i found)).1 (w.0, j, w.2)))
    (λ (j : In w.0 (x ∷ [])). ⊎_elim (λ (e : w.0 ≡ x). other (sym (w.2 ∙ ap (λ (z : Found). z.serial.0) e))) (λ n. n) j)
    ((In-append Found w.0 (take i found) (x ∷ [])).0 (subst (λ (l : List Found). In w.0 l) taken w.1))

-- ---- a trail from one place to the next

-- what leads on to a place leads on from the first
abbrev pub LeadsTo : List Found → ℕ → ℕ → List LinkRef → Type 0
LeadsTo found place at trail = (links : List HeldLink) (b : ℕ) (x y : Found) → AreChained links b found → StandsAt found place x → StandsAt found at y
    → (rest : List LinkRef) → IsTrail links y.serial.0 b rest → IsTrail links x.serial.0 b (trail ++ rest)

back_from : (links : List HeldLink) (b : ℕ) (found : List Found) (at : ℕ) (one : Found) → 0 < at → StandsAt found at one → AreChained links b found → LeadsBack links found at one
back_from links b found at one past stands chained = ⊎_elim (λ (first : (at ≡ 0) × (one.serial.0 ≡ b)). absurd (omega (arith, first.0, past))) (λ back. back) (chained at one stands)

pub next_within : (found : List Found) (at : ℕ) (one : Found) → 0 < at → StandsAt found at one → ((links : List HeldLink) × ((b : ℕ) × AreChained links b found)) → one.next < at
next_within found at one past stands told = (back_from told.0 told.1.0 found at one past stands told.1.1).0

pub leads_to_next : (found : List Found) (place at : ℕ) (one : Found) (trail more : List LinkRef) → 0 < at → StandsAt found at one → more ≡ trail ++ one.by ∷ [] → LeadsTo found place at trail → LeadsTo found place one.next more
leads_to_next found place at one trail more past stands joined leads = λ links b x y chained from next rest way.
    let back = back_from links b found at one past stands chained in
    let same : back.1.0 ≡ y = stands_same found one.next back.1.0 y back.1.1 next in
    let link : In (held one.serial.0 y.serial.0 one.by) links = subst (λ (z : Found). In (held one.serial.0 z.serial.0 one.by) links) same back.1.2 in
    let whole : IsTrail links x.serial.0 b (trail ++ one.by ∷ rest) = leads links b x one chained from stands (one.by ∷ rest) (y.serial.0, link, way) in
    let put : trail ++ one.by ∷ rest ≡ more ++ rest = sym (ap (λ (t : List LinkRef). t ++ rest) joined ∙ append_assoc trail (one.by ∷ []) rest) in
    subst (IsTrail links x.serial.0 b) put whole

pub leads_to_first : (found : List Found) (place at : ℕ) (trail : List LinkRef) → at ≡ 0 → 0 < length found → LeadsTo found place at trail → (links : List HeldLink) (b : ℕ) (x : Found) → AreChained links b found → StandsAt found place x → IsTrail links x.serial.0 b trail
leads_to_first (y ∷ ys) place at trail first some leads links b x chained from =
    let stands : StandsAt (y ∷ ys) 0 y = (omega arith, refl) in
    let is : y.serial.0 ≡ b = ⊎_elim (λ (w : (0 ≡ 0) × (y.serial.0 ≡ b)). w.1) (λ (back : LeadsBack links (y ∷ ys) 0 y). absurd (omega (arith, back.0))) (chained 0 y stands) in
    let there : StandsAt (y ∷ ys) at y = subst (λ (n : ℕ). StandsAt (y ∷ ys) n y) (sym first) stands in
    subst (IsTrail links x.serial.0 b) (append-nil trail) (leads links b x y chained from there [] is)
leads_to_first [] place at trail first some leads links b x chained from = absurd (omega (arith, some))

-- ---- a trail is a way

step_first : (pairs : List (ℕ × ℕ)) (a c : ℕ) → In {X = ℕ × ℕ} (a, c) pairs → {b : ℕ} → Path pairs c b → Path pairs a b
step_first pairs a c i Here = On {b = a} {c = c} Here i
step_first pairs a c i (On {b = d} {c = e} way step) = On {b = d} {c = e} (step_first pairs a c i way) step

pub trail_leads : (links : List HeldLink) (a b : ℕ) (trail : List LinkRef) → IsTrail links a b trail → Leads links a b
trail_leads links a b [] is = subst (Path (map ends_of links) a) is Here
trail_leads links a b (at ∷ ats) is =
    step_first (map ends_of links) a is.0 ((In-map HeldLink (ℕ × ℕ) ends_of (a, is.0) links).1 (held a is.0 at, is.1, refl)) (trail_leads links is.0 b ats is.2)

-- whether there is a trail tells whether one leads
pub told_by : (links : List HeldLink) (a b : ℕ) (o : Option (Listed LinkRef)) → IfSome o (λ trail. IsTrail links a b trail.items) → IfNone o (Leads links a b → ⊥) → IsTrue (is_some o) ↔ Leads links a b
told_by links a b (Some trail) found none = (λ t. trail_leads links a b trail.items found, λ way. refl)
told_by links a b None found none = (λ t. absurd (false≢true t), λ way. absurd (none way))
