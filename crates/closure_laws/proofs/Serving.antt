-- Where edges lead from role to role, trails of links lead from present key to present key.
use Rattle.std.proofs.Common.{◌≡◌, ℕ, ◌+◌, List, [], ◌∷◌, map, Some, inl, inr, ⊎_elim, refl, sym, ap, ◌∙◌, subst}
use Rattle.std.specs.Prelude.{unwrap_or}
use Rattle.cry_base.specs.Sets.{In, Path}
use Rattle.cry_base.specs.Sets.Path.{Here, On}
use Rattle.cry_base.specs.declared.roles.Edge.{Edge}
use Rattle.cry_base.specs.declared.roles.Role.{Role}
use Rattle.cry_base.proofs.Members.{In-append, In-map}
use Rattle.role_graph.specs.Edges.{Reaches, edges, pairs_of}
use Rattle.role_graph.specs.Rights.Who.{TheHolder}
use Rattle.role_graph.specs.RightsByReach.{IsRightful, IsStandingRole}
use Rattle.role_graph.specs.Roles.{holder_role}
use Rattle.role_graph.proofs.Rightful.{rights_by_reach}
use Rattle.public_fold.specs.Journal.{Journal, store_of, keys_of, steps_of}
use Rattle.public_fold.specs.Keyed.{links_of}
use Rattle.public_fold.specs.KeyStep.{Stepped, present}
use Rattle.public_fold.specs.Records.{Link}
use Rattle.public_fold.specs.Valid.{IsValid}
use Rattle.public_fold.proofs.KeyMoves.{journal_holds}
use Rattle.public_fold.proofs.Settling.{journal_settled}
use Rattle.closure_laws.specs.History.{published_from, history, trails, Derives, own_serial}

-- a link of some steps is a trail's
on_trail : (n : ℕ) (steps : List Stepped) (l : Link) → In l (links_of steps) → In {X = ℕ × ℕ} (l.from_serial, l.to_serial) (trails (published_from n steps))
unfolding links_of trails published_from
on_trail n [] l i = absurd i
on_trail n (x ∷ xs) l i =
    let pair : Link → ℕ × ℕ = λ k. (k.from_serial, k.to_serial) in
    let both = In-append (ℕ × ℕ) (pair l) (map pair x.links) (trails (published_from (n + 1) xs)) in ⊎_elim
    (λ a. both.1 (inl ((In-map Link (ℕ × ℕ) pair (pair l) x.links).1 (l, a, refl))))
    (λ b. both.1 (inr (on_trail (n + 1) xs l b)))
    ((In-append Link l x.links (links_of xs)).0 i)

-- a way, with each of its places replaced
way_along : {X Y : Type 0} {pairs : List (X × X)} {a c : X} (f : X → Y) (others : List (Y × Y)) → ((q : X × X) → In q pairs → In {X = Y × Y} (f q.0, f q.1) others) → Path pairs a c → Path others (f a) (f c)
way_along f others step Here = Here
way_along f others step (On {b = b} {c = c} way i) = On (way_along f others step way) (step (b, c) i)

pub edges_derive : (m : Journal) → IsValid m → (a b : Role) → Reaches (edges (store_of m)) a b → Derives (history m) (present (keys_of m).keys a) (present (keys_of m).keys b)
unfolding pairs_of history
edges_derive m v a b way =
    let keys = (keys_of m).keys in
    way_along (present keys) (trails (published_from 1 (steps_of m)))
    (λ q i.
    let w = (In-map Edge (Role × Role) (λ e. (e.from, e.to)) q (edges (store_of m))).0 i in
    let l = (journal_holds m v).linked w.0 w.1 in
    let from : l.0.from_serial ≡ present keys q.0 = l.3 ∙ ap (present keys) (sym (ap (λ (z : Role × Role). z.0) w.2)) in
    let to : l.0.to_serial ≡ present keys q.1 = l.4 ∙ ap (present keys) (sym (ap (λ (z : Role × Role). z.1) w.2)) in
    subst (λ (z : ℕ × ℕ). In z (trails (published_from 1 (steps_of m)))) (λ j. (from j, to j)) (on_trail 1 (steps_of m) l.0 l.1)) way

pub rights_derive : (m : Journal) → IsValid m → (h : ℕ) (r : Role) (a : ℕ) → IsStandingRole (store_of m) r → IsRightful (store_of m) h r → own_serial m (TheHolder h) ≡ Some a → Derives (history m) a (present (keys_of m).keys r)
unfolding own_serial present
rights_derive m v h r a stands right own =
    let way = (rights_by_reach (store_of m) (journal_settled m v) h r stands).1 right in
    subst (λ n. Derives (history m) n (present (keys_of m).keys r)) (ap (λ o. unwrap_or o 0) own) (edges_derive m v (holder_role h) r way)
