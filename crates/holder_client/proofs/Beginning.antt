-- What is open before the first visit of whoever reads, and what the visits of names leave.
use Rattle.std.proofs.Common.{◌≡◌, ℕ, List, [], ◌∷◌, Result, refl, sym, ap, subst, ◌∙◌}
use Rattle.std.proofs.lemmas.Bool.{false≢true}
use Rattle.chacha_seal.specs.Keys.{KeyParts}
use Rattle.commit_journal.specs.Answering.{Fault}
use Rattle.cry_base.specs.Sets.{In}
use Rattle.cry_base.specs.Store.{Store}
use Rattle.cry_base.specs.declared.client.Bundle.{Bundle}
use Rattle.cry_base.specs.declared.client.Bundle.TheVariants as bundles
use Rattle.cry_base.specs.declared.ids.HolderId.{HolderId}
use Rattle.cry_base.specs.declared.roles.Role.{Role}
use Rattle.cry_base.specs.declared.roles.Role.TheVariants.{Owner, Holder}
use Rattle.log_visits.specs.Answering.{AnswersBy}
use Rattle.holder_client.specs.Filed.{IsNamedBy, everyone}
use Rattle.log_visits.specs.Holding.{ArePresent, HoldsKeys}
use Rattle.log_visits.specs.Judging.{first_key, opened_first}
use Rattle.log_visits.specs.Opening.{IsNameless, IsOpenedTo, IsToStanding, Tells}
use Rattle.log_visits.specs.Visiting.{Opened, Reading}
use Rattle.log_visits.specs.Visits.{Visit}
use Rattle.log_visits.specs.declared.fault.ClientFault.{ClientFault}
use Rattle.log_visits.specs.declared.opening.OwnersView.{OwnersView}
use Rattle.log_visits.specs.declared.sights.Viewer.{Viewer}
use Rattle.log_visits.specs.declared.sights.Viewer.TheVariants as viewers
use Rattle.log_visits.proofs.Naming.{nothing_named}
use Rattle.log_visits.proofs.Opens.{alone_holds, alone_present, answers_for}
use Rattle.key_links.specs.Ringed.{IsAlone, Ringed}
use Rattle.public_fold.specs.KeyStep.{present}
use Rattle.role_graph.specs.Roles.{holder_role, role_id}

pub tells_all : (viewer : Viewer) → Tells everyone viewer
tells_all viewers.Owner = λ role is. refl
tells_all (viewers.Holder h) = (λ role is. refl, refl)

-- ---- the first ring

pub owner_begins : (bundle : Bundle) (ring : Ringed) (one : KeyParts) (key : List ℕ) → bundle ≡ bundles.Owner key → IsAlone ring Owner one → one ≡ record { id = 0; serial = 0; bytes = key } →
    HoldsKeys everyone ring (first_key bundle ∷ [])
unfolding first_key
owner_begins bundle ring one key is alone parts =
    let same : (Owner, one.bytes) ≡ first_key bundle = ap (λ (k : KeyParts). (Owner, k.bytes)) parts ∙ ap first_key (sym is) in
    subst (λ (k : Role × List ℕ). HoldsKeys everyone ring (k ∷ [])) same (alone_holds everyone ring Owner one alone)

pub owner_present : (keys : List (Role × ℕ)) (ring : Ringed) (one : KeyParts) (key : List ℕ) → IsAlone ring Owner one → one ≡ record { id = 0; serial = 0; bytes = key } → present keys Owner ≡ 0 → ArePresent keys ring
unfolding role_id
owner_present keys ring one key alone parts first =
    alone_present keys ring Owner one alone (ap (λ (k : KeyParts). k.id) parts, ap (λ (k : KeyParts). k.serial) parts ∙ sym first)

pub holder_begins : (bundle : Bundle) (ring : Ringed) (one : KeyParts) (h : HolderId) (serial : ℕ) (key : List ℕ) → bundle ≡ bundles.Holder h key → IsAlone ring (Holder (record { 0 = one.id })) one →
    one ≡ record { id = h.0; serial = serial; bytes = key } → HoldsKeys everyone ring (first_key bundle ∷ [])
unfolding first_key holder_role
holder_begins bundle ring one h serial key is alone parts =
    let same : (Holder (record { 0 = one.id }), one.bytes) ≡ first_key bundle = ap (λ (k : KeyParts). (Holder (record { 0 = k.id }), k.bytes)) parts ∙ ap first_key (sym is) in
    subst (λ (k : Role × List ℕ). HoldsKeys everyone ring (k ∷ [])) same (alone_holds everyone ring (Holder (record { 0 = one.id })) one alone)

pub holder_present : (keys : List (Role × ℕ)) (ring : Ringed) (one : KeyParts) (h : HolderId) (serial : ℕ) (key : List ℕ) → IsAlone ring (Holder (record { 0 = one.id })) one →
    one ≡ record { id = h.0; serial = serial; bytes = key } → serial ≡ present keys (Holder h) → ArePresent keys ring
unfolding role_id
holder_present keys ring one h serial key alone parts newest =
    let number : one.id ≡ h.0 = ap (λ (k : KeyParts). k.id) parts in
    alone_present keys ring (Holder (record { 0 = one.id })) one alone
    (refl, ap (λ (k : KeyParts). k.serial) parts ∙ newest ∙ ap (λ n. present keys (Holder (record { 0 = n }))) (sym number))

-- ---- the visits of names

pub names_begin : (bundle : Bundle) (r : Reading) (visits : List Visit) (view : OwnersView) → IsNameless r.stand.store → HoldsKeys everyone view.ring (first_key bundle ∷ []) → view.names.folders ≡ [] → view.names.files ≡ [] →
    ((v : Visit) → In v visits → IsToStanding r.stand.store v) → IsOpenedTo everyone r.stand.store visits view (opened_first bundle r)
unfolding opened_first
names_begin bundle r visits view less keys no_folders no_files standing = record {
  keys = keys;
  names = nothing_named r.stand.store view.names less no_folders no_files;
  holders = λ e i never. absurd (false≢true (sym never));
  standing = standing;
}

pub names_end : (bare : Store) (result : Result OwnersView ClientFault) (wanted : Result Opened Fault) → AnswersBy (λ (x : OwnersView) o. IsOpenedTo everyone bare [] x o) result wanted →
    AnswersBy (λ (x : OwnersView) o. IsNamedBy bare x o) result wanted
names_end bare result wanted answer = answers_for (λ (x : OwnersView) o. IsOpenedTo everyone bare [] x o) (λ (x : OwnersView) o. IsNamedBy bare x o) result wanted (λ x o is. (is.keys, is.names)) answer
