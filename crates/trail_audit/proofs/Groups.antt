-- Groups as items are added, and what is found in them.
use Rattle.std.proofs.Common.{◌≡◌, ⊎_elim, Bool, true, false, ◌==◌, List, [], ◌∷◌, ◌++◌, cond, filter, refl, sym, ap, subst, ◌∙◌}
use Rattle.std.specs.HashMap.{HashMap, get}
use Rattle.std.specs.Prelude.{Vec}
use Rattle.std.specs.List.{flat_map}
use Rattle.std.specs.Map.{lookup}
use Rattle.std.specs.Cmp.Derive.{both_true}
use Rattle.std.proofs.lemmas.Bool.{and_parts, cases_Bool, eq-eqb, eqb-true, false_from_ne_true, false≢true}
use Rattle.std.proofs.lemmas.List.{append-nil}
use Rattle.std.proofs.lemmas.List.Elements.{filter-append}
use Rattle.chacha_seal.specs.Keys.{KeyParts}
use Rattle.cry_base.specs.Sets.{In}
use Rattle.cry_base.proofs.Members.{In-filter, filter-In}
use Rattle.log_visits.specs.Placing.{PlacedContent, PlacedLink}
use Rattle.log_visits.specs.declared.fault.ClientFault.{ClientFault}
use Rattle.log_visits.specs.declared.fault.ClientFault.TheVariants as faults
use Rattle.trail_audit.specs.Derived.{IsOpened, content_shown, is_sealed_by, shown_by}
use Rattle.trail_audit.specs.Grouped.{HasGroups, content_source, items_of, key_source, link_source, same_sources}
use Rattle.trail_audit.specs.Trails.{BeginsAt, IsGrown, TagFault}
use Rattle.trail_audit.specs.declared.grouped.Source.{Source}

same_is : (a b : Source) → same_sources a b ≡ true → a ≡ b
same_is a b t =
    let both = and_parts (a.id == b.id) (a.serial == b.serial) t in
    λ i. record { id = eqb-true a.id b.id both.0 i; serial = eqb-true a.serial b.serial both.1 i }

is_same : (a b : Source) → a ≡ b → same_sources a b ≡ true
is_same a b e = both_true (eq-eqb a.id b.id (ap (λ (s : Source). s.id) e)) (eq-eqb a.serial b.serial (ap (λ (s : Source). s.serial) e))

same_either : (a b : Source) → same_sources a b ≡ same_sources b a
same_either a b = ⊎_elim
    (λ (t : same_sources a b ≡ true). t ∙ sym (is_same b a (sym (same_is a b t))))
    (λ (f : same_sources a b ≡ false). f ∙ sym (false_from_ne_true (same_sources b a) (λ t. false≢true (sym f ∙ is_same a b (sym (same_is b a t))))))
    (cases_Bool (same_sources a b))

pub no_groups : {T A S : Type 0} (source : T → Source) (groups : HashMap Source (Vec T A) S) → groups.entries ≡ [] → HasGroups source groups []
no_groups source groups is = record { found = λ s. ap (λ es. items_of (lookup (same_sources s) es)) is }

-- an item more
added : {T : Type 0} (source : T → Source) (items : List T) (x : T) (s : Source) (b : Bool) → same_sources (source x) s ≡ b
    → cond b (filter (λ y. same_sources (source x) (source y)) items ++ x ∷ []) (filter (λ y. same_sources s (source y)) items) ≡ filter (λ y. same_sources s (source y)) (items ++ x ∷ [])
added source items x s true t =
    ap (λ z. filter (λ y. same_sources z (source y)) items ++ x ∷ []) (same_is (source x) s t)
    ∙ ap (λ b. filter (λ y. same_sources s (source y)) items ++ cond b (x ∷ []) []) (sym (same_either s (source x) ∙ t))
    ∙ sym (filter-append (λ y. same_sources s (source y)) items (x ∷ []))
added source items x s false f =
    sym (append-nil (filter (λ y. same_sources s (source y)) items))
    ∙ ap (λ b. filter (λ y. same_sources s (source y)) items ++ cond b (x ∷ []) []) (sym (same_either s (source x) ∙ f))
    ∙ sym (filter-append (λ y. same_sources s (source y)) items (x ∷ []))

pub group_added : {T A S : Type 0} (source : T → Source) (old new : HashMap Source (Vec T A) S) (items : List T) (x : T) (of : Source) → of ≡ source x → HasGroups source old items
    → ((s : Source) → items_of (get same_sources new s) ≡ cond (same_sources of s) (items_of (get same_sources old of) ++ x ∷ []) (items_of (get same_sources old s))) → HasGroups source new (items ++ x ∷ [])
group_added source old new items x of is has updates = record {
  found = λ s.
      updates s
      ∙ ap (λ z. cond (same_sources z s) (items_of (get same_sources old z) ++ x ∷ []) (items_of (get same_sources old s))) is
      ∙ (λ i. cond (same_sources (source x) s) (has.found (source x) i ++ x ∷ []) (has.found s i))
      ∙ added source items x s (same_sources (source x) s) refl;
}

-- ---- links

abbrev of_key : KeyParts → PlacedLink → Bool
of_key key l = same_sources (key_source key) (link_source l.link)

begins_of : (key : KeyParts) (l : PlacedLink) → BeginsAt l.link key → of_key key l ≡ true
begins_of key l begins = is_same (key_source key) (link_source l.link) (λ i. record { id = sym begins.0 i; serial = sym begins.1 i })

pub grown_of_group : (links group : List PlacedLink) (key : KeyParts) (old new : List KeyParts) → group ≡ filter (of_key key) links → IsGrown group key old new → IsGrown links key old new
grown_of_group links group key old new is grown = record {
  more = grown.more;
  joined = grown.joined;
  targets = λ k i. let w = grown.targets k i in (w.0, (In-filter PlacedLink (of_key key) w.0 links (subst (In w.0) is w.1)).0, w.2, w.3);
  once = grown.once;
  followed = λ l i begins. grown.followed l (subst (In l) (sym is) (filter-In PlacedLink (of_key key) l links i (begins_of key l begins))) begins;
}

pub tag_fault_of_group : (links group : List PlacedLink) (key : KeyParts) (fault : ClientFault) → group ≡ filter (of_key key) links → TagFault group key fault → TagFault links key fault
tag_fault_of_group links group key (faults.Tampered batch at) is w = (w.0, (In-filter PlacedLink (of_key key) w.0 links (subst (In w.0) is w.1)).0, w.2, w.3, w.4, w.5)
tag_fault_of_group links group key faults.OutOfMemory is w = tt
tag_fault_of_group links group key faults.NotAStore is w = absurd w
tag_fault_of_group links group key faults.WrongKey is w = absurd w
tag_fault_of_group links group key (faults.Damaged at) is w = absurd w
tag_fault_of_group links group key (faults.NoHolder known) is w = absurd w
tag_fault_of_group links group key faults.Unseen is w = absurd w
tag_fault_of_group links group key faults.DiskFault is w = absurd w

-- ---- keys

abbrev of_content : PlacedContent → KeyParts → Bool
of_content c key = same_sources (content_source c.content) (key_source key)

seals : (c : PlacedContent) (key : KeyParts) → of_content c key ≡ is_sealed_by c.content key
unfolding is_sealed_by
seals c key = refl

-- what passes a test twice passed it once
filter_kept : {X : Type 0} (test : X → Bool) (x : X) (ys : List X) (b : Bool) → test x ≡ b → filter test ys ≡ ys → filter test (cond b (x ∷ ys) ys) ≡ cond b (x ∷ ys) ys
filter_kept test x ys true t same = ap (λ b. cond b (x ∷ filter test ys) (filter test ys)) t ∙ ap (λ zs. x ∷ zs) same
filter_kept test x ys false f same = same

filter_twice : {X : Type 0} (test : X → Bool) (xs : List X) → filter test (filter test xs) ≡ filter test xs
filter_twice test [] = refl
filter_twice test (x ∷ xs) = filter_kept test x (filter test xs) (test x) refl (filter_twice test xs)

pub shown_of_group : (c : PlacedContent) (keys group : List KeyParts) → group ≡ filter (of_content c) keys → content_shown group c ≡ content_shown keys c
unfolding content_shown is_sealed_by
shown_of_group c keys group is = ap (λ ks. flat_map (shown_by c) (filter (of_content c) ks)) is ∙ ap (flat_map (shown_by c)) (filter_twice (of_content c) keys)

pub opened_of_group : (c : PlacedContent) (keys group : List KeyParts) → group ≡ filter (of_content c) keys → IsOpened group c → IsOpened keys c
opened_of_group c keys group is opened = λ key i sealed. opened key (subst (In key) (sym is) (filter-In KeyParts (of_content c) key keys i (seals c key ∙ sealed))) sealed

pub among_keys : (c : PlacedContent) (keys group : List KeyParts) → group ≡ filter (of_content c) keys → (key : KeyParts) → In key group → In key keys
among_keys c keys group is key i = (In-filter KeyParts (of_content c) key keys (subst (In key) is i)).0

abbrev of_key_of : KeyParts → KeyParts → Bool
of_key_of key other = same_sources (key_source key) (key_source other)

-- a key is among others where it is in its own group of them
pub from_its_group : (key : KeyParts) (keys group : List KeyParts) → group ≡ filter (of_key_of key) keys → In key group → In key keys
from_its_group key keys group is i = (In-filter KeyParts (of_key_of key) key keys (subst (In key) is i)).0

pub in_its_group : (key : KeyParts) (keys group : List KeyParts) → group ≡ filter (of_key_of key) keys → In key keys → In key group
in_its_group key keys group is i = subst (In key) (sym is) (filter-In KeyParts (of_key_of key) key keys i (is_same (key_source key) (key_source key) refl))
