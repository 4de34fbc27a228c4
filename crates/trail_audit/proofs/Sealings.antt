-- What the contents of a log are sealed under, and which of them no key shows.
use Rattle.std.proofs.Common.{◌≡◌, ◌<◌, ℕ, zero, suc, List, [], ◌∷◌, ◌++◌, filter, get_or, length, ⊎_elim, refl, sym, ap, subst, ◌∙◌, arith}
use Rattle.std.proofs.lemmas.List.{append-nil}
use Rattle.chacha_seal.specs.Keys.{KeyParts}
use Rattle.commit_journal.specs.Placed.{PlainPlaced}
use Rattle.log_visits.specs.Placing.{PlacedContent, body_contents}
use Rattle.trail_audit.specs.Derived.{AreSeen, IsOpened, PlainSeen, audit_of, content_shown}
use Rattle.trail_audit.specs.Grouped.{content_source, key_source, same_sources}
use Rattle.trail_audit.specs.Seals.{AreSeals, AreSealsOf}
use Rattle.trail_audit.specs.declared.grouped.Source.{Source}
use Rattle.trail_audit.specs.declared.seals.Seals.{Seals}
use Rattle.trail_audit.proofs.Groups.{opened_of_group, shown_of_group}
use Rattle.trail_audit.proofs.Revealed.{none_seen}

-- one batch more
pub seals_added : (seals : List Seals) (log : List PlainPlaced) (more : Seals) (p : PlainPlaced) → AreSealsOf seals log → AreSeals more (body_contents p.batch p.place p.body) → AreSealsOf (seals ++ more ∷ []) (log ++ p ∷ [])
seals_added [] [] more p are one = (one, tt)
seals_added (s ∷ seals) (q ∷ log) more p are one = (are.0, seals_added seals log more p are.1 one)
seals_added [] (q ∷ log) more p are one = absurd are
seals_added (s ∷ seals) [] more p are one = absurd are

pub as_many : (seals : List Seals) (log : List PlainPlaced) → AreSealsOf seals log → length seals ≡ length log
as_many [] [] are = refl
as_many (s ∷ seals) (q ∷ log) are = ap suc (as_many seals log are.1)
as_many [] (q ∷ log) are = absurd are
as_many (s ∷ seals) [] are = absurd are

-- those of the batch at a position
pub sealed_at : (seals : List Seals) (log : List PlainPlaced) (i : ℕ) (s : Seals) (p : PlainPlaced) → AreSealsOf seals log → i < length log → AreSeals (get_or seals i s) (body_contents (get_or log i p).batch (get_or log i p).place (get_or log i p).body)
sealed_at [] [] i s p are within = absurd (omega (arith, within))
sealed_at (t ∷ seals) (q ∷ log) zero s p are within = are.0
sealed_at (t ∷ seals) (q ∷ log) (suc i) s p are within = let inside : i < length log = omega (arith, within) in sealed_at seals log i s p are.1 inside
sealed_at [] (q ∷ log) i s p are within = absurd are
sealed_at (t ∷ seals) [] i s p are within = absurd are

-- no content is there
pub nothing_there : (keys : List KeyParts) (contents : List PlacedContent) (start : List PlainSeen) → contents ≡ [] → AreSeen keys contents start start
nothing_there keys contents start none = subst (λ (cs : List PlacedContent). AreSeen keys cs start start) (sym none) (none_seen keys start)

nothing_under : (c : PlacedContent) → content_shown [] c ≡ []
unfolding content_shown
nothing_under c = refl

-- no key is the one that a content names
none_opens : (keys : List KeyParts) (c : PlacedContent) (start : List PlainSeen) → [] ≡ filter (λ (k : KeyParts). same_sources (content_source c.content) (key_source k)) keys → AreSeen keys (c ∷ []) start start
unfolding audit_of
none_opens keys c start none = record {
  opened = λ d i. ⊎_elim (λ (e : d ≡ c). subst (IsOpened keys) (sym e) (opened_of_group c keys [] none (λ key j sealed. absurd j))) (λ n. absurd n) i;
  shown = sym (ap (λ (s : List PlainSeen). start ++ (s ++ [])) (sym (shown_of_group c keys [] none) ∙ nothing_under c) ∙ append-nil start);
}

pub no_key_there : (keys group : List KeyParts) (contents : List PlacedContent) (start : List PlainSeen) (source : Source) → group ≡ filter (λ (k : KeyParts). same_sources source (key_source k)) keys → group ≡ [] →
    (c : PlacedContent) × (contents ≡ c ∷ []) × (content_source c.content ≡ source) → AreSeen keys contents start start
no_key_there keys group contents start source of_source none one =
    subst (λ (cs : List PlacedContent). AreSeen keys cs start start) (sym one.1)
    (none_opens keys one.0 start (sym none ∙ of_source ∙ ap (λ (s : Source). filter (λ (k : KeyParts). same_sources s (key_source k)) keys) (sym one.2)))
