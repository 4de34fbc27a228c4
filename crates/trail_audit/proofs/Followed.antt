-- The keys that links lead to, as they are followed from one key after another.
use Rattle.std.proofs.Common.{◌≡◌, ◌+◌, ◌<◌, ◌≤◌, ℕ, List, [], ◌∷◌, ◌++◌, get_or, length, take, inl, inr, ⊎_elim, refl, sym, ap, subst, ◌∙◌, append_assoc, arith}
use Rattle.std.proofs.lemmas.List.{append-nil, length-append, take-append-le, take_all, take_more}
use Rattle.chacha_seal.specs.Keys.{KeyParts}
use Rattle.cry_base.specs.Sets.{In}
use Rattle.cry_base.proofs.Members.{In-append, In-map}
use Rattle.log_visits.specs.Placing.{PlacedLink}
use Rattle.log_visits.specs.declared.fault.ClientFault.{ClientFault}
use Rattle.log_visits.specs.declared.fault.ClientFault.TheVariants as faults
use Rattle.record_format.specs.declared.link.LinkRecord.{LinkRecord}
use Rattle.role_graph.proofs.Rising.{get_or-In}
use Rattle.trail_audit.specs.Records.{ALink, IsTagged}
use Rattle.trail_audit.specs.Right.{IsRight, LeadsOn, target_of}
use Rattle.trail_audit.specs.Right.IsRight.{OfBundle, Behind}
use Rattle.trail_audit.specs.Trails.{AreFollowed, AreRightKeys, BeginsAt, EachOnce, IsGrown, IsKept, LinkFault, TagFault, records_of_links}

-- ---- one key more

pub once_more : (keys : List KeyParts) (key : KeyParts) → EachOnce keys → (In key keys → ⊥) → EachOnce (keys ++ key ∷ [])
once_more [] key once new = (λ i. i, tt)
once_more (k ∷ keys) key once new = (
  λ i. ⊎_elim (λ a. once.0 a) (λ b. ⊎_elim (λ (e : k ≡ key). new (inl (sym e))) (λ n. n) b) ((In-append KeyParts k keys (key ∷ [])).0 i),
  once_more keys key once.1 (λ i. new (inr i)),
)

-- ---- links that are followed from one key

pub grown_by_none : (key : KeyParts) (keys : List KeyParts) → IsGrown [] key keys keys
grown_by_none key keys = record {
  more = [];
  joined = sym (append-nil keys);
  targets = λ k i. absurd i;
  once = λ once. once;
  followed = λ l i. absurd i;
}

-- the target of the one link is there
one_followed : (l : PlacedLink) (key : KeyParts) (keys : List KeyParts) → LeadsOn key l.link → In (target_of key l.link) keys → AreFollowed (l ∷ []) key keys
one_followed l key keys leads there = λ m i begins.
    let is : m ≡ l = ⊎_elim (λ (e : m ≡ l). e) (λ n. absurd n) i in (
      subst (λ (z : PlacedLink). IsTagged key.bytes (ALink z.link)) (sym is) leads.tagged,
      subst (λ (z : PlacedLink). In (target_of key z.link) keys) (sym is) there,
    )

-- a link that leads on
pub grown_by_one : (l : PlacedLink) (key target : KeyParts) (old new : List KeyParts) → LeadsOn key l.link → target ≡ target_of key l.link → IsKept target old new → IsGrown (l ∷ []) key old new
grown_by_one l key target old new leads is kept = ⊎_elim
    (λ (k : In target old × (new ≡ old)). record {
      more = [];
      joined = k.1 ∙ sym (append-nil old);
      targets = λ q i. absurd i;
      once = λ once. subst EachOnce (sym k.1) once;
      followed = one_followed l key new leads (subst (λ (ks : List KeyParts). In (target_of key l.link) ks) (sym k.1) (subst (λ (t : KeyParts). In t old) is k.0));
    })
    (λ (k : (In target old → ⊥) × (new ≡ old ++ target ∷ [])). record {
      more = target ∷ [];
      joined = k.1;
      targets = λ q i. (l, inl refl, leads, ⊎_elim (λ (e : q ≡ target). e ∙ is) (λ n. absurd n) i);
      once = λ once. subst EachOnce (sym k.1) (once_more old target once k.0);
      followed = one_followed l key new leads
          (subst (λ (ks : List KeyParts). In (target_of key l.link) ks) (sym k.1) ((In-append KeyParts (target_of key l.link) old (target ∷ [])).1 (inr (inl (sym is)))));
    }) kept

-- some links and then others
pub grown_on : (xs ys : List PlacedLink) (key : KeyParts) (a b c : List KeyParts) → IsGrown xs key a b → IsGrown ys key b c → IsGrown (xs ++ ys) key a c
grown_on xs ys key a b c first next = record {
  more = first.more ++ next.more;
  joined = next.joined ∙ ap (λ (l : List KeyParts). l ++ next.more) first.joined ∙ append_assoc a first.more next.more;
  targets = λ k i. ⊎_elim
      (λ (j : In k first.more). let w = first.targets k j in (w.0, (In-append PlacedLink w.0 xs ys).1 (inl w.1), w.2, w.3))
      (λ (j : In k next.more). let w = next.targets k j in (w.0, (In-append PlacedLink w.0 xs ys).1 (inr w.1), w.2, w.3))
      ((In-append KeyParts k first.more next.more).0 i);
  once = λ once. next.once (first.once once);
  followed = λ l i begins. ⊎_elim
      (λ (j : In l xs). let f = first.followed l j begins in
      (f.0, subst (λ (ks : List KeyParts). In (target_of key l.link) ks) (sym next.joined) ((In-append KeyParts (target_of key l.link) b next.more).1 (inl f.1))))
      (λ (j : In l ys). next.followed l j begins)
      ((In-append PlacedLink l xs ys).0 i);
}

-- the next link of a list
pub grown_by_next : (links : List PlacedLink) (i : ℕ) (l : PlacedLink) (key : KeyParts) (a b c : List KeyParts) → i < length links → l ≡ get_or links i l →
    IsGrown (take i links) key a b → IsGrown (l ∷ []) key b c → IsGrown (take (i + 1) links) key a c
grown_by_next links i l key a b c within is first next =
    subst (λ (ls : List PlacedLink). IsGrown ls key a c) (sym (take_more links i l within ∙ ap (λ (m : PlacedLink). take i links ++ m ∷ []) (sym is)))
    (grown_on (take i links) (l ∷ []) key a b c first next)

pub grown_by_all : (links : List PlacedLink) (i : ℕ) (key : KeyParts) (a b : List KeyParts) → length links ≤ i → IsGrown (take i links) key a b → IsGrown links key a b
grown_by_all links i key a b past grown = subst (λ (ls : List PlacedLink). IsGrown ls key a b) (take_all i links past) grown

-- the fault of one of the links is one of theirs
pub tag_fault_in : (links : List PlacedLink) (i : ℕ) (l : PlacedLink) (key : KeyParts) (fault : ClientFault) → i < length links → l ≡ get_or links i l → TagFault (l ∷ []) key fault → TagFault links key fault
tag_fault_in links i l key (faults.Tampered batch at) within is w =
    let here : w.0 ≡ l = ⊎_elim (λ (e : w.0 ≡ l). e) (λ n. absurd n) w.1 in
    (w.0, subst (λ (m : PlacedLink). In m links) (sym (here ∙ is)) (get_or-In PlacedLink links i l within), w.2, w.3, w.4, w.5)
tag_fault_in links i l key faults.OutOfMemory within is w = tt
tag_fault_in links i l key faults.NotAStore within is w = absurd w
tag_fault_in links i l key faults.WrongKey within is w = absurd w
tag_fault_in links i l key (faults.Damaged at) within is w = absurd w
tag_fault_in links i l key (faults.NoHolder known) within is w = absurd w
tag_fault_in links i l key faults.Unseen within is w = absurd w
tag_fault_in links i l key faults.DiskFault within is w = absurd w

-- ---- one key after another

-- all keys found so far are right, and so many of them were followed
pub record AreFoundSoFar (links : List PlacedLink) (bundle : KeyParts) (done : ℕ) (keys : List KeyParts) : Type 0 where
  pub within : done ≤ length keys
  pub own : In bundle keys
  pub right : (key : KeyParts) → In key keys → IsRight (records_of_links links) bundle key
  pub once : EachOnce keys
  pub followed : (key : KeyParts) → In key (take done keys) → AreFollowed links key keys

pub found_first : (links : List PlacedLink) (bundle : KeyParts) (keys : List KeyParts) → keys ≡ bundle ∷ [] → AreFoundSoFar links bundle 0 keys
found_first links bundle keys is = subst (AreFoundSoFar links bundle 0) (sym is) (record {
  within = omega arith;
  own = inl refl;
  right = λ key i. ⊎_elim (λ (e : key ≡ bundle). subst (IsRight (records_of_links links) bundle) (sym e) OfBundle) (λ n. absurd n) i;
  once = (λ i. i, tt);
  followed = λ key i. absurd i;
})

pub first_kept : (key : KeyParts) (old new : List KeyParts) → old ≡ [] → IsKept key old new → new ≡ key ∷ []
first_kept key old new none kept = ⊎_elim
    (λ (k : In key old × (new ≡ old)). absurd (subst (In key) none k.0))
    (λ (k : (In key old → ⊥) × (new ≡ old ++ key ∷ [])). k.1 ∙ ap (λ (ks : List KeyParts). ks ++ key ∷ []) none) kept

still_followed : (links : List PlacedLink) (key : KeyParts) (old more new : List KeyParts) → new ≡ old ++ more → AreFollowed links key old → AreFollowed links key new
still_followed links key old more new is followed = λ l i begins.
    let f = followed l i begins in
    (f.0, subst (λ (ks : List KeyParts). In (target_of key l.link) ks) (sym is) ((In-append KeyParts (target_of key l.link) old more).1 (inl f.1)))

right_target : (links : List PlacedLink) (bundle key q : KeyParts) (l : PlacedLink) → IsRight (records_of_links links) bundle key → In l links → LeadsOn key l.link → q ≡ target_of key l.link → IsRight (records_of_links links) bundle q
right_target links bundle key q l right there leads is =
    subst (IsRight (records_of_links links) bundle) (sym is)
    (Behind {key = key} l.link right ((In-map PlacedLink LinkRecord (λ (m : PlacedLink). m.link) l.link links).1 (l, there, refl)) leads)

-- the keys that were followed, with one more of the old ones
pub taken_further : (links : List PlacedLink) (done : ℕ) (keys new : List KeyParts) (key : KeyParts) → done < length keys → key ≡ get_or keys done key → IsGrown links key keys new → take done keys ++ key ∷ [] ≡ take (done + 1) new
taken_further links done keys new key within is grown =
    sym (ap (take (done + 1)) grown.joined ∙ take-append-le (done + 1) keys grown.more (omega (arith, within)) ∙ take_more keys done key within ∙ ap (λ (k : KeyParts). take done keys ++ k ∷ []) (sym is))

pub found_next : (links : List PlacedLink) (bundle : KeyParts) (done : ℕ) (keys new : List KeyParts) (key : KeyParts) → done < length keys → key ≡ get_or keys done key → AreFoundSoFar links bundle done keys → IsGrown links key keys new →
    AreFoundSoFar links bundle (done + 1) new
found_next links bundle done keys new key within is so_far grown =
    let here : In key keys = subst (λ (k : KeyParts). In k keys) (sym is) (get_or-In KeyParts keys done key within) in
    let kept : (q : KeyParts) → In q keys → In q new = λ q i. subst (λ (ks : List KeyParts). In q ks) (sym grown.joined) ((In-append KeyParts q keys grown.more).1 (inl i)) in
    let size : length new ≡ length keys + length grown.more = ap length grown.joined ∙ length-append keys grown.more in
    let taken : take (done + 1) new ≡ take done keys ++ key ∷ [] = sym (taken_further links done keys new key within is grown) in
    record {
      within = omega (arith, within, size);
      own = kept bundle so_far.own;
      right = λ q i. ⊎_elim
          (λ (j : In q keys). so_far.right q j)
          (λ (j : In q grown.more). let w = grown.targets q j in right_target links bundle key q w.0 (so_far.right key here) w.1 w.2 w.3)
          ((In-append KeyParts q keys grown.more).0 (subst (λ (ks : List KeyParts). In q ks) grown.joined i));
      once = grown.once so_far.once;
      followed = λ q i. ⊎_elim
          (λ (j : In q (take done keys)). still_followed links q keys grown.more new grown.joined (so_far.followed q j))
          (λ (j : In q (key ∷ [])). ⊎_elim (λ (e : q ≡ key). subst (λ (k : KeyParts). AreFollowed links k new) (sym e) grown.followed) (λ n. absurd n) j)
          ((In-append KeyParts q (take done keys) (key ∷ [])).0 (subst (λ (ks : List KeyParts). In q ks) taken i));
    }

-- once all were followed, no right key is wanting
reached : (links : List PlacedLink) (bundle : KeyParts) (keys : List KeyParts) → In bundle keys → ((key : KeyParts) → In key keys → AreFollowed links key keys) → {key : KeyParts} → IsRight (records_of_links links) bundle key → In key keys
reached links bundle keys own followed OfBundle = own
reached links bundle keys own followed (Behind {key = key} l right there leads) =
    let w = (In-map PlacedLink LinkRecord (λ (m : PlacedLink). m.link) l links).0 there in
    let begins : BeginsAt w.0.link key = subst (λ (m : LinkRecord). BeginsAt m key) w.2 (leads.from_id, leads.from_serial) in
    subst (λ (m : LinkRecord). In (target_of key m) keys) (sym w.2) (followed key (reached links bundle keys own followed right) w.0 w.1 begins).1

pub found_all : (links : List PlacedLink) (bundle : KeyParts) (done : ℕ) (keys : List KeyParts) → length keys ≤ done → AreFoundSoFar links bundle done keys → AreRightKeys links bundle keys
found_all links bundle done keys past so_far =
    let followed : (key : KeyParts) → In key keys → AreFollowed links key keys = λ key i. so_far.followed key (subst (λ (ks : List KeyParts). In key ks) (sym (take_all done keys past)) i) in
    record {
      right = λ key. (so_far.right key, reached links bundle keys so_far.own followed);
      once = so_far.once;
      tagged = λ key i l there begins. (followed key i l there begins).0;
    }

-- the fault of a link under a key that was found is one under a right key
pub link_fault_under : (links : List PlacedLink) (bundle key : KeyParts) (done : ℕ) (keys : List KeyParts) (fault : ClientFault) → done < length keys → key ≡ get_or keys done key → AreFoundSoFar links bundle done keys →
    TagFault links key fault → LinkFault links bundle fault
link_fault_under links bundle key done keys (faults.Tampered batch at) within is so_far w =
    (key, so_far.right key (subst (λ (k : KeyParts). In k keys) (sym is) (get_or-In KeyParts keys done key within)), w)
link_fault_under links bundle key done keys faults.OutOfMemory within is so_far w = tt
link_fault_under links bundle key done keys faults.NotAStore within is so_far w = absurd w
link_fault_under links bundle key done keys faults.WrongKey within is so_far w = absurd w
link_fault_under links bundle key done keys (faults.Damaged at) within is so_far w = absurd w
link_fault_under links bundle key done keys (faults.NoHolder known) within is so_far w = absurd w
link_fault_under links bundle key done keys faults.Unseen within is so_far w = absurd w
link_fault_under links bundle key done keys faults.DiskFault within is so_far w = absurd w
