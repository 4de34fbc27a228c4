-- A log that is folded batch by batch.
use Rattle.std.proofs.Common.{◌≡◌, ◌+◌, ◌<◌, ◌≤◌, arith, suc, get_or, length, drop, drop-cons, map, ℕ, Bool, List, [], ◌∷◌, true, false, cond, Ok, Err, refl, sym, ap, subst, ◌∙◌}
use Rattle.std.proofs.Math.ListN.{drop_of_length-le}
use Rattle.commit_journal.specs.Answering.{Damaged, and_then}
use Rattle.commit_journal.specs.Logs.{IsInEpoch, AreInEpochs}
use Rattle.commit_journal.specs.Placed.{PlainBody, Commands, NewEpoch, PlainPlaced, plain_placed}
use Rattle.commit_journal.specs.declared.placed.Placed.{Placed}
use Rattle.public_fold.specs.Fitted.{payload_fits, told_step, told_stand}
use Rattle.public_fold.specs.Journal.{Stand, nothing, note_step}
use Rattle.public_fold.specs.KeyStep.{KeyState, no_keys, next_epoch, key_step, step_with, published}
use Rattle.public_fold.specs.Standing.{PublicView, IsSeenAs}
use Rattle.record_format.specs.Noted.{Note}
use Rattle.record_format.specs.Plain.{PlainPayload}
use Rattle.record_format.specs.Told.{told_note}
use Rattle.log_visits.specs.declared.fault.ClientFault.{ClientFault}
use Rattle.log_visits.specs.Answering.{IsFault, AnswersBy}
use Rattle.log_visits.specs.Folding.{stand_behind, folded}
use Rattle.log_visits.proofs.Viewed.{fault_first}

-- the state tells of what stands once the log is folded up to the rest
abbrev pub IsFoldedTo : List PlainPlaced → List PlainPlaced → PublicView → Type 0
IsFoldedTo log rest v = (at : Stand) × IsSeenAs v at × AreInEpochs at.keys.epoch rest × (folded nothing log ≡ folded at rest)

-- ---- one batch

-- a command leaves the epoch
told_epoch : (at : Stand) (note : Note) → (told_stand at note).keys.epoch ≡ at.keys.epoch
unfolding told_stand told_step note_step key_step step_with published
told_epoch at note = refl

-- behind a payload that fits the epoch is as before
commanded_epoch : (at behind : Stand) (place : ℕ) (p : PlainPayload) (may : Bool) → cond may (Ok (told_stand at (told_note p.note))) (Err (Damaged place)) ≡ Ok behind →
    behind.keys.epoch ≡ at.keys.epoch
commanded_epoch at behind place p true made =
    let same : told_stand at (told_note p.note) ≡ behind = cc in ap (λ (b : Stand). b.keys.epoch) (sym same) ∙ told_epoch at (told_note p.note)
commanded_epoch at behind place p false made = absurd (cc)

-- behind a batch its epoch is the one that was begun last
pub behind_epoch : (at behind : Stand) (place epoch : ℕ) (body : PlainBody) → IsInEpoch at.keys.epoch epoch body → stand_behind at place body ≡ Ok behind →
    behind.keys.epoch ≡ epoch
unfolding stand_behind next_epoch
behind_epoch at behind place epoch NewEpoch is made =
    let same : record at { keys = next_epoch at.keys } ≡ behind = cc in ap (λ (b : Stand). b.keys.epoch) (sym same) ∙ sym is
behind_epoch at behind place epoch (Commands p) is made = commanded_epoch at behind place p (payload_fits at p) made ∙ sym is.1

-- an epoch batch begins the next epoch
pub epoch_begun : (old new : PublicView) (at : Stand) (place : ℕ) → new ≡ record old { keys = next_epoch old.keys } → IsSeenAs old at →
    AnswersBy (λ (u : Unit {0}) behind. IsSeenAs new behind) (Ok tt) (stand_behind at place NewEpoch)
unfolding stand_behind
epoch_begun old new at place is seen =
    let behind : Stand = record at { keys = next_epoch at.keys } in
    let so : IsSeenAs (record old { keys = next_epoch old.keys }) behind =
    record { store = seen.store; grants = seen.grants; keys = ap next_epoch seen.keys }
    in
    (behind, refl, subst (λ v. IsSeenAs v behind) (sym is) so)

-- a payload that fits makes its change
pub payload_taken : (new : PublicView) (at : Stand) (place : ℕ) (p : PlainPayload) → payload_fits at p ≡ true → IsSeenAs new (told_stand at (told_note p.note)) →
    AnswersBy (λ (u : Unit {0}) behind. IsSeenAs new behind) (Ok tt) (stand_behind at place (Commands p))
unfolding stand_behind
payload_taken new at place p fits seen = (told_stand at (told_note p.note), rw fits refl, seen)

-- a payload that doesn't is damaged
pub payload_refused : (at : Stand) (place : ℕ) (p : PlainPayload) → payload_fits at p ≡ false → stand_behind at place (Commands p) ≡ Err (Damaged place)
unfolding stand_behind
payload_refused at place p unfit = rw unfit refl

-- ---- the log

pub folding_begins : (v : PublicView) (log : List PlainPlaced) → IsSeenAs v nothing → AreInEpochs 0 log → IsFoldedTo log log v
unfolding nothing no_keys
folding_begins v log seen epochs = (nothing, seen, epochs, refl)

pub batch_in_epoch : (v : PublicView) (log rest : List PlainPlaced) (p : PlainPlaced) → IsFoldedTo log (p ∷ rest) v → IsInEpoch v.keys.epoch p.epoch.0 p.body
batch_in_epoch v log rest p so_far = subst (λ (k : KeyState). IsInEpoch k.epoch p.epoch.0 p.body) so_far.1.keys so_far.2.0

pub folding_goes_on : (old new : PublicView) (log rest : List PlainPlaced) (p : PlainPlaced) → IsFoldedTo log (p ∷ rest) old →
    ((at : Stand) → IsSeenAs old at → AnswersBy (λ (u : Unit {0}) behind. IsSeenAs new behind) (Ok tt) (stand_behind at p.place p.body)) → IsFoldedTo log rest new
unfolding folded and_then
folding_goes_on old new log rest p so_far taken =
    let at = so_far.0 in
    let next = taken at so_far.1 in
    let behind = next.0 in
    let epoch : behind.keys.epoch ≡ p.epoch.0 = behind_epoch at behind p.place p.epoch.0 p.body so_far.2.0 next.1 in
    (behind, next.2, subst (λ e. AreInEpochs e rest) (sym epoch) so_far.2.1, so_far.3 ∙ rw next.1 refl)

pub folding_fails : (old : PublicView) (fault : ClientFault) (log rest : List PlainPlaced) (p : PlainPlaced) → IsFoldedTo log (p ∷ rest) old →
    ((at : Stand) → IsSeenAs old at → IsFault fault (stand_behind at p.place p.body)) → IsFault fault (folded nothing log)
unfolding folded
folding_fails old fault log rest p so_far failed =
    let at = so_far.0 in
    subst (IsFault fault) (sym so_far.3) (fault_first fault (stand_behind at p.place p.body) (λ behind. folded behind rest) (failed at so_far.1))

pub folding_ends : (v : PublicView) (log : List PlainPlaced) → IsFoldedTo log [] v → AnswersBy IsSeenAs (Ok v) (folded nothing log)
unfolding folded
folding_ends v log so_far = (so_far.0, so_far.3, so_far.1)

-- ---- the rest of a log from an index on

pub rest_from : (log : List Placed) (i : ℕ) (p : Placed) → i < length log → p ≡ get_or log i p →
    map plain_placed (drop i log) ≡ plain_placed p ∷ map plain_placed (drop (i + 1) log)
rest_from log i p within is =
    let next : suc i ≡ i + 1 = omega arith in
    ap (λ (ps : List Placed). map plain_placed ps) (drop-cons log i p within)
    ∙ ap (λ (q : Placed). plain_placed q ∷ map plain_placed (drop (suc i) log)) (sym is)
    ∙ ap (λ n. plain_placed p ∷ map plain_placed (drop n log)) next

pub rest_behind : (log : List Placed) (i : ℕ) → length log ≤ i → map plain_placed (drop i log) ≡ []
rest_behind log i short = ap (λ (ps : List Placed). map plain_placed ps) (drop_of_length-le log short)
