-- What the laws of journals say of a command and of an upgrade alike.
use Rattle.std.proofs.Common.{◌≡◌, ℕ, ◌≤◌, Bool, not, List, [], length, All, None, refl, sym, ap, subst, ◌∙◌}
use Rattle.chacha_seal.specs.Keys.{KeyParts}
use Rattle.chacha_seal.specs.Sealing.{check_of}
use Rattle.commit_journal.specs.Placed.{Commands}
use Rattle.cry_base.specs.Limits.{most_file_bytes, most_store_bytes}
use Rattle.cry_base.specs.Store.{Store}
use Rattle.cry_base.proofs.Versions.{accepted_in}
use Rattle.folder_nodes.specs.Titles.{Titles, tree_store}
use Rattle.public_fold.proofs.Treeing.{IsTree}
use Rattle.log_visits.proofs.ToldLemmas.{accepted_told}
use Rattle.move_plan.specs.Fitting.{public_of}
use Rattle.public_fold.specs.Changing.{tree_then}
use Rattle.public_fold.specs.Fitted.{told_step}
use Rattle.public_fold.specs.Journal.{Journal, Stand, entry_step, entry_store, first_key, keys_of, note_step, nothing, stand_after, store_of}
use Rattle.public_fold.specs.KeyStep.{Stepped, is_strict}
use Rattle.public_fold.specs.Preparing.{begun}
use Rattle.public_fold.specs.Told.{told_store}
use Rattle.public_fold.specs.Valid.{IsValid}
use Rattle.public_fold.proofs.Accepting.{accepted}
use Rattle.journal_bytes.specs.Bytes.{entry_body, step_payload}
use Rattle.journal_bytes.specs.Keys.{AreWhole, all_keys, drawn_by}
use Rattle.journal_bytes.specs.Notes.{declared_note}
use Rattle.journal_bytes.specs.Owning.{IsTreeOf}
use Rattle.journal_bytes.specs.Sealing.{IsSealable, keys_with}
use Rattle.journal_bytes.specs.Upgrading.{upgrade_end, upgrade_payload}
use Rattle.journal_bytes.proofs.DueTexts.{due_same}
use Rattle.journal_bytes.proofs.NewTitles.{AreBelow}
use Rattle.journal_bytes.proofs.NextBatches.{keys_drawn}
use Rattle.journal_bytes.proofs.NextEntry.{between}
use Rattle.journal_bytes.proofs.NextUpgrade.{told_whole, upgrade_sealable, upgraded_valid}
use Rattle.journal_bytes.proofs.NextValid.{begun_valid, entered_whole, next_valid, session_valid}
use Rattle.journal_bytes.proofs.Sealable.{command_sealable}
use Rattle.journal_bytes.proofs.TitlesAfter.{joined, kept}
use Rattle.journal_bytes.proofs.ToldSkeleton.{told_keys}
use Rattle.store_owner.specs.Deeds.{AreDeedTitles, Deed, deed_draws, deed_end, deed_entry, deed_note, deed_refusal, deed_text, deed_then, Suits}
use Rattle.store_owner.specs.Deeds.Deed.{Commanded, Upgrading}

-- ---- the journal with it

pub deed_begun : (m : Journal) (has : Bool) (d : Deed) → IsValid m → deed_end m has d ≤ most_store_bytes → IsValid (between m has)
unfolding upgrade_end
deed_begun m has (Commanded r) valid low = session_valid m has r valid low
deed_begun m has Upgrading valid low = begun_valid m has (upgrade_payload m) valid low

pub deed_valid : (m : Journal) (has : Bool) (d : Deed) (drawn : List (List ℕ)) (file_bytes : ℕ) → IsValid m → file_bytes ≤ most_file_bytes → deed_refusal (is_strict (keys_of m)) (store_of m) d file_bytes ≡ None → Suits (keys_of m) d
    → length drawn ≡ deed_draws m d → All (λ (key : List ℕ). length key ≡ 32) drawn → deed_end m has d ≤ most_store_bytes → IsValid (deed_then m has d drawn)
deed_valid m has (Commanded r) drawn file_bytes valid bound none suits many sizes low = next_valid m has r drawn file_bytes valid bound none many sizes low
deed_valid m has Upgrading drawn file_bytes valid bound none suits many sizes low = upgraded_valid m has drawn valid suits many low

drawn_is : (d : Deed) (drawn : List (List ℕ)) → drawn_by (deed_entry d drawn) ≡ drawn
unfolding drawn_by
drawn_is (Commanded r) drawn = refl
drawn_is Upgrading drawn = refl

pub deed_whole : (owner : List ℕ) (m : Journal) (has : Bool) (d : Deed) (drawn : List (List ℕ)) → AreWhole owner m → All (λ (key : List ℕ). length key ≡ 32) drawn → AreWhole owner (deed_then m has d drawn)
deed_whole owner m has d drawn whole sizes =
    entered_whole owner m has (deed_entry d drawn) whole (subst (All (λ (key : List ℕ). length key ≡ 32)) (sym (drawn_is d drawn)) sizes)

pub deed_keys : (owner : List ℕ) (m : Journal) (has : Bool) (d : Deed) (drawn : List (List ℕ))
    → keys_with (all_keys owner m) (entry_step (begun (not has) (stand_after nothing m)) (deed_entry d drawn)) drawn ≡ all_keys owner (deed_then m has d drawn)
deed_keys owner m has d drawn =
    ap (λ keys. keys_with (all_keys owner m) (entry_step (begun (not has) (stand_after nothing m)) (deed_entry d drawn)) keys) (sym (drawn_is d drawn))
    ∙ keys_drawn owner m has (deed_entry d drawn)

-- ---- its step

pub deed_step : (at : Stand) (d : Deed) (drawn : List (List ℕ)) → entry_step at (deed_entry d drawn) ≡ note_step at (deed_note at.store d []) (entry_store at.store (deed_entry d drawn))
unfolding entry_step entry_store
deed_step at (Commanded r) drawn = refl
deed_step at Upgrading drawn = refl

pub deed_body : (keys : List KeyParts) (at : Stand) (d : Deed) (drawn : List (List ℕ))
    → entry_body keys at (deed_entry d drawn) ≡ Commands (step_payload keys (declared_note (deed_note at.store d (check_of (first_key drawn)))) (entry_step at (deed_entry d drawn)))
unfolding entry_body
deed_body keys at (Commanded r) drawn = refl
deed_body keys at Upgrading drawn = refl

pub deed_sealable : (m : Journal) → IsValid m → (d : Deed) (drawn : List (List ℕ)) (file_bytes : ℕ) → deed_refusal (is_strict (stand_after nothing m).keys) (stand_after nothing m).store d file_bytes ≡ None
    → IsSealable (entry_step (stand_after nothing m) (deed_entry d drawn))
unfolding store_of keys_of
deed_sealable m valid (Commanded r) drawn file_bytes none = command_sealable m valid r drawn file_bytes none
deed_sealable m valid Upgrading drawn file_bytes none = upgrade_sealable m valid drawn

pub deed_told : (strict : Bool) (s : Store) (d : Deed) (drawn : List (List ℕ)) (check : List ℕ) (file_bytes : ℕ) → deed_refusal strict s d file_bytes ≡ None
    → public_of (entry_store s (deed_entry d drawn)) ≡ told_store (public_of s) (deed_note s d check)
unfolding entry_store
deed_told strict s (Commanded r) drawn check file_bytes none = accepted_told s r (first_key drawn) check file_bytes (accepted_in strict s r file_bytes none)
deed_told strict s Upgrading drawn check file_bytes none = unfold told_store in refl

pub deed_told_keys : (strict : Bool) (at : Stand) (d : Deed) (check : List ℕ) (drawn : List (List ℕ)) (file_bytes : ℕ) → deed_refusal strict at.store d file_bytes ≡ None
    → (told_step (record { store = public_of at.store; keys = at.keys }) (deed_note at.store d check)).after ≡ (entry_step at (deed_entry d drawn)).after
deed_told_keys strict at (Commanded r) check drawn file_bytes none = told_keys at r check drawn file_bytes (accepted_in strict at.store r file_bytes none)
deed_told_keys strict at Upgrading check drawn file_bytes none = ap (λ (s : Stepped). s.after) (told_whole at drawn)

-- ---- its text, and the names after it

pub deed_same : (t s : Store) (d : Deed) → IsTreeOf t s → deed_text t d ≡ deed_text s d
deed_same t s (Commanded r) of = due_same t s r of
deed_same t s Upgrading of = refl

pub deed_tree : (t s : Store) (old new : Titles) → AreBelow t → IsTreeOf (tree_store t old) s → (strict : Bool) (d : Deed) (drawn : List (List ℕ)) (check : List ℕ) (file_bytes : ℕ) → deed_refusal strict s d file_bytes ≡ None
    → IsTree s.folders s.files → AreDeedTitles s d old new → IsTreeOf (tree_store (tree_then t (deed_note s d check)) new) (entry_store s (deed_entry d drawn))
unfolding entry_store
deed_tree t s old new below is strict (Commanded r) drawn check file_bytes none tree titles = joined t s old new below is r (first_key drawn) check (accepted s r file_bytes (accepted_in strict s r file_bytes none)) tree titles
deed_tree t s old new below is strict Upgrading drawn check file_bytes none tree titles = unfold tree_then in kept t s old new titles is
