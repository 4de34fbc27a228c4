-- What a reader has once one batch more was added.
use Rattle.std.proofs.Common.{◌≡◌, ◌⊎◌, ◌+◌, ◌-◌, ◌<◌, ◌≤◌, ◌^◌, ℕ, ⊎_elim, get_or, true, false, ◌==◌, cond, List, [], ◌∷◌, ◌++◌, length, Option, None, Some, Result, Ok, Err, refl, sym, ap, subst, ◌∙◌, arith}
use Rattle.std.specs.HashMap.{HashMap, get}
use Rattle.std.specs.Map.{lookup}
use Rattle.std.specs.Prelude.{is_some}
use Rattle.std.proofs.lemmas.Bool.{eqb-true, false≢true}
use Rattle.std.proofs.lemmas.List.{length-append}
use Rattle.commit_journal.specs.Answering.{Fault, Damaged, and_then}
use Rattle.commit_journal.specs.Logs.{AreInEpochs, IsInEpoch, epoch_behind}
use Rattle.commit_journal.specs.Placed.{PlainPlaced}
use Rattle.commit_journal.specs.Streaming.{LogState, ShowsGiven, again_in}
use Rattle.commit_journal.specs.declared.fault.OpenFault.{OpenFault}
use Rattle.commit_journal.specs.declared.fault.OpenFault.TheVariants as opening
use Rattle.std.proofs.lemmas.Option.{get_or_from_slice_get, slice_get_within}
use Rattle.log_visits.specs.Spots.{IsAt}
use Rattle.log_visits.specs.Found.{IsFree}
use Rattle.cry_base.specs.declared.client.Bundle.{Bundle}
use Rattle.log_visits.specs.Answering.{AnswersAs, AnswersAsBy, AnswersBy, client_fault}
use Rattle.log_visits.specs.Folding.{folded, stand_behind}
use Rattle.log_visits.specs.Holding.{IsReadingIn}
use Rattle.log_visits.specs.Indexed.{IsIndexOf}
use Rattle.log_visits.specs.Judging.{body_check, may_read, published_check, read_with}
use Rattle.holder_client.specs.Reads.{HasChecks, HasFolded, HasRead, HasReadTo, Publishes}
use Rattle.log_visits.specs.Sights.{same_number}
use Rattle.log_visits.specs.Visiting.{Reading}
use Rattle.holder_client.specs.declared.admission.NewCheck.{NewCheck}
use Rattle.log_visits.specs.declared.fault.ClientFault.{ClientFault}
use Rattle.holder_client.specs.declared.log_reader.Reader.{Reader}
use Rattle.holder_client.proofs.Admitted.{refused_key, taken_key}
use Rattle.log_visits.proofs.Folded.{behind_epoch}
use Rattle.log_visits.proofs.StillLeft.{folded_more}
use Rattle.public_fold.specs.Journal.{Stand, nothing}
use Rattle.public_fold.specs.KeyStep.{KeyState, no_keys}
use Rattle.public_fold.specs.Standing.{IsSeenAs}
use Rattle.role_graph.specs.PublicStore.{GrantsStand}

-- a batch that is shown as it was given is read again
pub reread : (log : LogState) (s : List ℕ) (position : ℕ) (p : PlainPlaced) → IsAt log.given position p → ShowsGiven log s → again_in log (position + 1) s ≡ Ok p
reread log s position p at shows =
    let within = slice_get_within log.given position p at in
    let from : 1 ≤ position + 1 = omega arith in
    let to : position + 1 ≤ length log.given = omega (arith, within) in
    let same : position + 1 - 1 ≡ position = omega arith in
    shows (position + 1) p from to ∙ ap Ok (ap (λ n. get_or log.given n p) same ∙ get_or_from_slice_get log.given position p p at)

-- a fault of reading a batch again that may come at any time
pub free_again : (fault : OpenFault) → (fault ≡ opening.DiskFault) ⊎ (fault ≡ opening.OutOfMemory) → IsFree (client_fault fault)
free_again fault is = ⊎_elim (λ (e : fault ≡ opening.DiskFault). subst (λ f. IsFree (client_fault f)) (sym e) tt) (λ (e : fault ≡ opening.OutOfMemory). subst (λ f. IsFree (client_fault f)) (sym e) tt) is

-- ---- one batch more is folded

folded_on : (first at behind : Stand) (log : List PlainPlaced) (p : PlainPlaced) → folded first log ≡ Ok at → stand_behind at p.place p.body ≡ Ok behind → folded first (log ++ p ∷ []) ≡ Ok behind
unfolding folded and_then
folded_on first at behind log p so_far taken = folded_more first log p ∙ rw (so_far, taken) refl

folded_not : (first at : Stand) (log : List PlainPlaced) (p : PlainPlaced) (fault : Fault) → folded first log ≡ Ok at → stand_behind at p.place p.body ≡ Err fault → folded first (log ++ p ∷ []) ≡ Err fault
unfolding folded and_then
folded_not first at log p fault so_far failed = folded_more first log p ∙ rw (so_far, failed) refl

folded_before : (first : Stand) (log : List PlainPlaced) (p : PlainPlaced) (fault : Fault) → folded first log ≡ Err fault → folded first (log ++ p ∷ []) ≡ Err fault
unfolding and_then
folded_before first log p fault failed = folded_more first log p ∙ rw failed refl

-- ---- epochs

next_in_epoch : (e : ℕ) (log : List PlainPlaced) (p : PlainPlaced) → AreInEpochs e (log ++ p ∷ []) → IsInEpoch (epoch_behind e log) p.epoch.0 p.body
next_in_epoch e [] p are = are.0
next_in_epoch e (q ∷ log) p are = next_in_epoch q.epoch.0 log p are.1

last_epoch : (e : ℕ) (log : List PlainPlaced) (p : PlainPlaced) → epoch_behind e (log ++ p ∷ []) ≡ p.epoch.0
last_epoch e [] p = refl
last_epoch e (q ∷ log) p = last_epoch q.epoch.0 log p

-- ---- checks

abbrev or : Option (List ℕ) → Option (List ℕ) → Option (List ℕ)
or o later = elim o [ Some check ↦ Some check | None ↦ later ]

or_twice : (b x y z : Option (List ℕ)) → y ≡ or x z → or b y ≡ or (or b x) z
or_twice (Some c) x y z is = refl
or_twice None x y z is = is

or_none : (o b : Option (List ℕ)) → b ≡ None → or o b ≡ o
or_none (Some c) b is = refl
or_none None b is = is

or_there : (o b : Option (List ℕ)) → is_some o ≡ true → or o b ≡ o
or_there (Some c) b is = refl
or_there None b is = absurd (false≢true is)

or_new : (o b : Option (List ℕ)) → is_some o ≡ false → or o b ≡ b
or_new (Some c) b is = absurd (false≢true (sym is))
or_new None b is = refl

check_more : (h : ℕ) (log : List PlainPlaced) (p : PlainPlaced) → published_check h (log ++ p ∷ []) ≡ or (published_check h log) (body_check h p.body)
unfolding published_check
check_more h [] p = or_none (body_check h p.body) None refl
check_more h (q ∷ log) p = or_twice (body_check h q.body) (published_check h log) (published_check h (log ++ p ∷ [])) (body_check h p.body) (check_more h log p)

pub no_check : {S : Type 0} (checks : HashMap ℕ (List ℕ) S) (log : List PlainPlaced) (p : PlainPlaced) → ((h : ℕ) → body_check h p.body ≡ None) → HasChecks checks log → HasChecks checks (log ++ p ∷ [])
no_check checks log p none has = λ h. has h ∙ sym (check_more h log p ∙ or_none (published_check h log) (body_check h p.body) (none h))

pub later_check : {S : Type 0} (checks : HashMap ℕ (List ℕ) S) (log : List PlainPlaced) (p : PlainPlaced) (n : NewCheck) → Publishes p.body n → is_some (get same_number checks n.holder.0) ≡ true → HasChecks checks log →
    HasChecks checks (log ++ p ∷ [])
later_check checks log p n new there has = λ h.
    has h ∙ sym (check_more h log p ∙ (elim (n.holder.0 == h) as (λ b. (n.holder.0 == h) ≡ b → or (published_check h log) (body_check h p.body) ≡ published_check h log) [
      | true ↦ λ t. or_there (published_check h log) (body_check h p.body) (sym (ap is_some (has h)) ∙ ap (λ k. is_some (get same_number checks k)) (sym (eqb-true n.holder.0 h t)) ∙ there)
      | false ↦ λ t. or_none (published_check h log) (body_check h p.body) (new h ∙ ap (λ b. cond b (Some n.check) None) t)
    ]) refl)

pub next_check : {S : Type 0} (checks more : HashMap ℕ (List ℕ) S) (log : List PlainPlaced) (p : PlainPlaced) (n : NewCheck) → Publishes p.body n → is_some (get same_number checks n.holder.0) ≡ false →
    ((q : ℕ) → get same_number more q ≡ cond (same_number n.holder.0 q) (Some n.check) (get same_number checks q)) → HasChecks checks log → HasChecks more (log ++ p ∷ [])
next_check checks more log p n new none updates has = λ h.
    updates h ∙ (elim (n.holder.0 == h) as (λ b. (n.holder.0 == h) ≡ b → cond b (Some n.check) (get same_number checks h) ≡ published_check h (log ++ p ∷ [])) [
      | true ↦ λ t.
          let lacks : is_some (published_check h log) ≡ false = sym (ap is_some (has h)) ∙ ap (λ k. is_some (get same_number checks k)) (sym (eqb-true n.holder.0 h t)) ∙ none in
          sym (check_more h log p ∙ or_new (published_check h log) (body_check h p.body) lacks ∙ new h ∙ ap (λ b. cond b (Some n.check) None) t)
      | false ↦ λ t. has h ∙ sym (check_more h log p ∙ or_none (published_check h log) (body_check h p.body) (new h ∙ ap (λ b. cond b (Some n.check) None) t))
    ]) refl

-- ---- readers

pub read_nothing : (reader : Reader) → reader.misfit ≡ None → IsIndexOf reader.index [] → reader.checks.entries ≡ [] → IsSeenAs reader.state nothing → HasRead reader []
unfolding folded published_check nothing no_keys
read_nothing reader fits index none seen =
    subst (λ m. HasReadTo m reader []) (sym fits)
    (let has : HasFolded reader [] = record {
      index = index;
      checks = λ h. ap (λ es. lookup (same_number h) es) none;
      stand = (nothing, refl, seen);
      epoch = sym (ap (λ (k : KeyState). k.epoch) seen.keys);
      count = omega arith;
    } in has)

pub misfit_stays : (reader : Reader) (log : List PlainPlaced) (p : PlainPlaced) (m : Option ℕ) → is_some m ≡ true → HasReadTo m reader log → HasReadTo m reader (log ++ p ∷ [])
misfit_stays reader log p (Some place) is read = folded_before nothing log p (Damaged place) read
misfit_stays reader log p None is read = absurd (false≢true is)

pub none_from : (m : Option ℕ) → is_some m ≡ false → m ≡ None
none_from (Some place) is = absurd (false≢true (sym is))
none_from None is = refl

pub has_folded : (reader : Reader) (log : List PlainPlaced) (m : Option ℕ) → is_some m ≡ false → HasReadTo m reader log → HasFolded reader log
has_folded reader log (Some place) is read = absurd (false≢true (sym is))
has_folded reader log None is read = read

pub follows_on : (reader : Reader) (log : List PlainPlaced) (p : PlainPlaced) → HasFolded reader log → AreInEpochs 0 (log ++ p ∷ []) → IsInEpoch reader.state.keys.epoch p.epoch.0 p.body
follows_on reader log p has are = subst (λ n. IsInEpoch n p.epoch.0 p.body) (sym has.epoch) (next_in_epoch 0 log p are)

pub added : (old new : Reader) (log : List PlainPlaced) (p : PlainPlaced) → HasFolded old log → AreInEpochs 0 (log ++ p ∷ []) → p.batch ≡ length log + 1 → p.batch < 2 ^ 32 →
    ((at : Stand) → IsSeenAs old.state at → AnswersBy (λ (u : Unit {0}) behind. IsSeenAs new.state behind) (Ok tt) (stand_behind at p.place p.body)) →
    ((at : Stand) → folded nothing (log ++ p ∷ []) ≡ Ok at → IsSeenAs new.state at → IsIndexOf new.index (log ++ p ∷ []) × HasChecks new.checks (log ++ p ∷ [])) →
    HasFolded new (log ++ p ∷ [])
added old new log p has are batch small taken kept =
    let at = has.stand.0 in
    let next = taken at has.stand.2 in
    let in_epoch : IsInEpoch at.keys.epoch p.epoch.0 p.body = subst (λ (k : KeyState). IsInEpoch k.epoch p.epoch.0 p.body) (sym has.stand.2.keys) (follows_on old log p has are) in
    let long = length-append log (p ∷ []) in
    let folds = folded_on nothing at next.0 log p has.stand.1 next.1 in
    let both = kept next.0 folds next.2 in
    record {
      index = both.0;
      checks = both.1;
      stand = (next.0, folds, next.2);
      epoch = sym (ap (λ (k : KeyState). k.epoch) next.2.keys) ∙ behind_epoch at next.0 p.place p.epoch.0 p.body in_epoch next.1 ∙ sym (last_epoch 0 log p);
      count = omega (arith, long, batch, small);
    }

pub misfit_met : (old : Reader) (log : List PlainPlaced) (p : PlainPlaced) (place : ℕ) → HasFolded old log → ((at : Stand) → IsSeenAs old.state at → stand_behind at p.place p.body ≡ Err (Damaged place)) →
    folded nothing (log ++ p ∷ []) ≡ Err (Damaged place)
misfit_met old log p place has failed = folded_not nothing has.stand.0 log p (Damaged place) has.stand.1 (failed has.stand.0 has.stand.2)

pub admitted : (bundle : Bundle) (reader : Reader) (log : List PlainPlaced) (result : Result (Unit {0}) ClientFault) → HasFolded reader log →
    ((r : Reading) → IsReadingIn reader.state log r → AnswersAs (λ _. r) result (may_read bundle r)) →
    AnswersAsBy (λ (u : Unit {0}) r. IsReadingIn reader.state log r × GrantsStand r.stand.store) result (read_with bundle (Ok log))
admitted bundle reader log (Ok u) has answer = taken_key bundle log reader.state has.stand answer
admitted bundle reader log (Err fault) has answer = refused_key bundle log reader.state fault has.stand answer
