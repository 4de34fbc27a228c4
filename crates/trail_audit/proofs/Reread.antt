-- Batches that are read once more, one after another, and what their contents show.
use Rattle.std.proofs.Common.{◌≡◌, ◌+◌, ◌-◌, ◌<◌, ◌≤◌, ◌⊎◌, ℕ, List, [], ◌∷◌, ◌++◌, get_or, length, take, Some, Result, Ok, Err, inl, inr, ⊎_elim, sym, ap, subst, ◌∙◌, arith}
use Rattle.std.specs.Prelude.{IfErr, MatchResult, OnOk}
use Rattle.std.specs.List.{flat_map, slice_get}
use Rattle.std.proofs.lemmas.Option.{get_or_from_slice_get, slice_get_within}
use Rattle.std.proofs.lemmas.List.{take_more}
use Rattle.chacha_seal.specs.Keys.{KeyParts}
use Rattle.commit_journal.specs.Placed.{NewEpoch, PlainPlaced}
use Rattle.commit_journal.specs.Streaming.{IsStart, LogState, ShowsGiven, again_in}
use Rattle.commit_journal.specs.Streaming.{nothing as before_all}
use Rattle.commit_journal.specs.declared.past.Past.{Past}
use Rattle.commit_journal.proofs.Streamed.{starts_at}
use Rattle.trail_audit.specs.Kept.{KeepsStarts}
use Rattle.commit_journal.specs.declared.fault.OpenFault.{OpenFault}
use Rattle.commit_journal.specs.declared.fault.OpenFault.TheVariants as opening
use Rattle.cry_base.specs.Sets.{In}
use Rattle.cry_base.proofs.Members.{In-flat_map}
use Rattle.log_visits.specs.Answering.{client_fault}
use Rattle.log_visits.specs.Placing.{PlacedContent, body_contents, log_contents}
use Rattle.log_visits.specs.declared.fault.ClientFault.{ClientFault}
use Rattle.log_visits.specs.declared.fault.ClientFault.TheVariants as faults
use Rattle.role_graph.proofs.Rising.{get_or-In}
use Rattle.trail_audit.specs.Derived.{AreSeen, ContentFault, PlainSeen, RereadFault}
use Rattle.trail_audit.specs.Seals.{AreSeals, AreSealsOf}
use Rattle.trail_audit.specs.declared.seals.Seals.{Seals}
use Rattle.trail_audit.proofs.Listed.{parts_added}
use Rattle.trail_audit.proofs.Revealed.{content_fault_in, seen_on}
use Rattle.trail_audit.proofs.Sealings.{sealed_at}

-- the contents of a batch
abbrev pub contents_in : PlainPlaced → List PlacedContent
contents_in p = body_contents p.batch p.place p.body

-- what stands in the place of a batch that isn't there
abbrev nothing : PlainPlaced
nothing = record { batch = 0; epoch = record { 0 = 0 }; place = 0; body = NewEpoch }

-- the batch at a position of a log
abbrev pub batch_at : List PlainPlaced → ℕ → PlainPlaced
batch_at log i = get_or log i nothing

-- it is read as it was given
pub shown_again : (log : LogState) (s : List ℕ) (i : ℕ) → i < length log.given → ShowsGiven log s → again_in log (i + 1) s ≡ Ok (batch_at log.given i)
shown_again log s i within shows =
    let from : 1 ≤ i + 1 = omega arith in
    let to : i + 1 ≤ length log.given = omega (arith, within) in
    let same : i + 1 - 1 ≡ i = omega arith in
    shows (i + 1) nothing from to ∙ ap (λ n. Ok (get_or log.given n nothing)) same

-- what was known before it
pub known_before : (starts : List Past) (log : LogState) (i : ℕ) (start : Past) → KeepsStarts starts log → slice_get starts i ≡ Some start → IsStart log start × (start.number ≡ i)
known_before starts log i start keeps is =
    let there : slice_get log.starts i ≡ Some start = ap (λ (ps : List Past). slice_get ps i) (sym keeps.same) ∙ is in
    let inside = slice_get_within log.starts i start there in
    let known = starts_at 0 i log.starts (log.past ∷ []) keeps.reading.places inside in
    let number : start.number ≡ i = omega (arith, known.2, ap (λ (p : Past). p.number) (get_or_from_slice_get log.starts i start before_all there)) in
    (ap (slice_get log.starts) number ∙ there, number)

pub shown_from : (log : LogState) (s : List ℕ) (i : ℕ) (start : Past) → start.number ≡ i → i < length log.given → ShowsGiven log s → again_in log (start.number + 1) s ≡ Ok (batch_at log.given i)
shown_from log s i start number within shows = ap (λ n. again_in log (n + 1) s) number ∙ shown_again log s i within shows

-- a fault of reading it again may come at any time
pub free_fault : (fault : OpenFault) (contents : List PlacedContent) (keys : List KeyParts) → (fault ≡ opening.DiskFault) ⊎ (fault ≡ opening.OutOfMemory) → RereadFault contents keys (client_fault fault)
free_fault fault contents keys is = ⊎_elim
    (λ (e : fault ≡ opening.DiskFault). inl (ap client_fault e))
    (λ (e : fault ≡ opening.OutOfMemory). inr (subst (λ f. ContentFault contents keys (client_fault f)) (sym e) tt)) is

-- what opening its contents answers
pub batch_seen : {A : Type 0} (result : Result A ClientFault) (contents of_batch : List PlacedContent) (keys : List KeyParts) (old new : List PlainSeen) → contents ≡ of_batch →
    OnOk result (AreSeen keys contents old new) → IfErr result (ContentFault contents keys) → MatchResult result (λ _. AreSeen keys of_batch old new) (RereadFault of_batch keys)
batch_seen (Ok x) contents of_batch keys old new is seen fault = subst (λ (cs : List PlacedContent). AreSeen keys cs old new) is seen
batch_seen (Err other) contents of_batch keys old new is seen fault = inr (subst (λ (cs : List PlacedContent). ContentFault cs keys other) is fault)

with_next : (log : List PlainPlaced) (i : ℕ) → i < length log → log_contents (take (i + 1) log) ≡ log_contents (take i log) ++ contents_in (batch_at log i)
unfolding log_contents
with_next log i within = ap (flat_map contents_in) (take_more log i nothing within) ∙ sym (parts_added contents_in (take i log) (batch_at log i))

-- the batches so far, and the next one
pub seen_next : (log : List PlainPlaced) (i : ℕ) (keys : List KeyParts) (start middle end : List PlainSeen) → i < length log → AreSeen keys (log_contents (take i log)) start middle →
    AreSeen keys (contents_in (batch_at log i)) middle end → AreSeen keys (log_contents (take (i + 1) log)) start end
seen_next log i keys start middle end within so_far next =
    subst (λ (cs : List PlacedContent). AreSeen keys cs start end) (sym (with_next log i within)) (seen_on (log_contents (take i log)) (contents_in (batch_at log i)) keys start middle end so_far next)

among_all : (log : List PlainPlaced) (p : PlainPlaced) → In p log → (c : PlacedContent) → In c (contents_in p) → In c (log_contents log)
unfolding log_contents
among_all log p there c i = (In-flat_map PlainPlaced PlacedContent contents_in c log).1 (p, there, i)

-- a fault of one batch is one of the log
pub fault_of_batch : (log : List PlainPlaced) (i : ℕ) (keys : List KeyParts) (fault : ClientFault) → i < length log → RereadFault (contents_in (batch_at log i)) keys fault → RereadFault (log_contents log) keys fault
fault_of_batch log i keys fault within is = ⊎_elim
    (λ (e : fault ≡ faults.DiskFault). inl e)
    (λ (w : ContentFault (contents_in (batch_at log i)) keys fault). inr (content_fault_in (contents_in (batch_at log i)) (log_contents log) keys keys fault (among_all log (batch_at log i) (get_or-In PlainPlaced log i nothing within)) (λ k j. j) w))
    is

-- what the contents of one batch are sealed under
pub sealed_here : (seals : List Seals) (log : List PlainPlaced) (i : ℕ) (s d : Seals) → AreSealsOf seals log → i < length log → s ≡ get_or seals i d → AreSeals s (contents_in (batch_at log i))
sealed_here seals log i s d are within is = subst (λ (z : Seals). AreSeals z (contents_in (batch_at log i))) (sym is) (sealed_at seals log i d nothing are within)
