-- Links that were kept lead where those of the journal do.
use Rattle.std.proofs.Common.{◌≡◌, ◌+◌, ◌==◌, ◌↔◌, ℕ, List, [], ◌∷◌, ◌++◌, map, IsTrue, refl, sym, ap, subst, ◌∙◌, append_assoc}
use Rattle.std.specs.List.{flat_map}
use Rattle.std.proofs.lemmas.Bool.{and_parts, eqb-true, false≢true}
use Rattle.std.proofs.lemmas.List.{append-nil, map-append}
use Rattle.cry_base.specs.Sets.{Path}
use Rattle.public_fold.specs.Fitted.{are_due, has_link_head}
use Rattle.public_fold.specs.Journal.{Journal, steps_of}
use Rattle.public_fold.specs.KeyStep.{Stepped}
use Rattle.public_fold.specs.Keyed.{links_of}
use Rattle.public_fold.specs.Records.{Link}
use Rattle.record_format.specs.declared.link.LinkRecord.{LinkRecord}
use Rattle.role_graph.specs.Roles.{role_id}
use Rattle.closure_laws.specs.History.{Derives, history, published_from, trails}
use Rattle.closure_laws.specs.Keeping.{HaveLinksOf, HistoryState, Leads, ends_of, held_links, kept_with, nothing_kept, with_payload}

abbrev ends : LinkRecord → ℕ × ℕ
ends r = (r.from_serial.0, r.to_serial.0)

held_ends : (payload n : ℕ) (ls : List LinkRecord) → map ends_of (held_links payload n ls) ≡ map ends ls
held_ends payload n [] = refl
held_ends payload n (l ∷ ls) = ap (λ es. ends l ∷ es) (held_ends payload (n + 1) ls)

kept_ends : (h : HistoryState) (payloads : List (List LinkRecord)) → map ends_of (kept_with h payloads).links ≡ map ends_of h.links ++ map ends (flat_map (λ ls. ls) payloads)
kept_ends h [] = sym (append-nil (map ends_of h.links))
kept_ends h (ls ∷ more) =
    let rest = map ends (flat_map (λ ls. ls) more) in
    kept_ends (with_payload h ls) more
    ∙ ap (λ es. es ++ rest) (map-append ends_of h.links (held_links h.payloads 0 ls) ∙ ap (λ es. map ends_of h.links ++ es) (held_ends h.payloads 0 ls))
    ∙ append_assoc (map ends_of h.links) (map ends ls) rest
    ∙ ap (λ es. map ends_of h.links ++ es) (sym (map-append ends ls (flat_map (λ ls. ls) more)))

abbrev serials : Link → ℕ × ℕ
serials l = (l.from_serial, l.to_serial)

head_ends : (l : Link) (r : LinkRecord) → IsTrue (has_link_head l r) → ends r ≡ serials l
unfolding has_link_head
head_ends l r t =
    let a = and_parts (r.kind == l.edge.kind) _ t in
    let b = and_parts (r.from_id == role_id l.edge.from) _ a.1 in
    let c = and_parts (r.to_id == role_id l.edge.to) _ b.1 in
    let d = and_parts (r.from_serial.0 == l.from_serial) _ c.1 in
    let e = and_parts (r.to_serial.0 == l.to_serial) _ d.1 in
    λ i. (eqb-true r.from_serial.0 l.from_serial d.0 i, eqb-true r.to_serial.0 l.to_serial e.0 i)

due_ends : (ls : List Link) (rs : List LinkRecord) → IsTrue (are_due has_link_head ls rs) → map ends rs ≡ map serials ls
unfolding are_due
due_ends [] [] t = refl
due_ends [] (r ∷ rs) t = absurd (false≢true t)
due_ends (l ∷ ls) [] t = absurd (false≢true t)
due_ends (l ∷ ls) (r ∷ rs) t =
    let both = and_parts (has_link_head l r) (are_due has_link_head ls rs) t in
    λ i. head_ends l r both.0 i ∷ due_ends ls rs both.1 i

published_ends : (n : ℕ) (steps : List Stepped) → trails (published_from n steps) ≡ map serials (links_of steps)
unfolding trails published_from links_of
published_ends n [] = refl
published_ends n (s ∷ steps) =
    ap (λ es. map serials s.links ++ es) (published_ends (n + 1) steps) ∙ sym (map-append serials s.links (flat_map (λ s. s.links) steps))

pub kept_derives : (m : Journal) (payloads : List (List LinkRecord)) → HaveLinksOf m payloads → (a b : ℕ) → Leads (kept_with nothing_kept payloads).links a b ↔ Derives (history m) a b
unfolding history
kept_derives m payloads due a b =
    let same : map ends_of (kept_with nothing_kept payloads).links ≡ trails (published_from 1 (steps_of m)) =
    kept_ends nothing_kept payloads ∙ due_ends (links_of (steps_of m)) (flat_map (λ ls. ls) payloads) due ∙ sym (published_ends 1 (steps_of m))
    in (λ way. subst (λ es. Path es a b) same way, λ way. subst (λ es. Path es a b) (sym same) way)
