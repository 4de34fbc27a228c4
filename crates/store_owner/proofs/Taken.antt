-- What a command takes of the random source, whatever its owner stands for.
use Rattle.std.proofs.Common.{◌≡◌, ◌<◌, ◌*◌, ◌^◌, ℕ, not, List, [], ◌++◌, length, Option, None, Some, Result, Ok, Err, append_assoc, sym, ap, subst, ◌∙◌}
use Rattle.std.specs.Prelude.{IfErr, OnOk, is_some}
use Rattle.std.proofs.lemmas.Grind.{flat_map-append}
use Rattle.std.proofs.lemmas.List.Elements.{All-append, All-nil}
use Rattle.commit_journal.specs.Journals.{JournalState}
use Rattle.cry_base.specs.Listed.{Listed}
use Rattle.cry_base.specs.declared.commands.Reply.{Reply}
use Rattle.cry_io.specs.Told.{WhereBothTold}
use Rattle.cry_io.proofs.ToldLemmas.{both_told_through, told_again}
use Rattle.public_fold.specs.Fitted.{told_step}
use Rattle.public_fold.specs.Journal.{Stand}
use Rattle.public_fold.specs.KeyStep.{is_strict}
use Rattle.public_fold.specs.Preparing.{begun}
use Rattle.public_fold.specs.Standing.{IsSeenAs}
use Rattle.record_format.specs.Noted.{Note}
use Rattle.record_format.specs.Told.{told_note}
use Rattle.journal_bytes.specs.Owning.{IsStoreOf}
use Rattle.store_owner.specs.Deeds.{Deed, deed_refusal}
use Rattle.store_owner.specs.Applying.{HasOtherRoom}
use Rattle.store_owner.specs.Drawing.{AreKeys, DrawsKeys, IsFillFault, joined}
use Rattle.store_owner.specs.Owned.{OwnerView}
use Rattle.store_owner.specs.Planning.{IsDrafted}
use Rattle.store_owner.specs.Sound.{IsSound, granted_in, own_store}
use Rattle.store_owner.specs.Taking.{FallsShort, TakesKeys, keys_planned}
use Rattle.store_owner.specs.declared.change.Change.{Change}
use Rattle.store_owner.proofs.OtherRoom.{seen_still, store_still}
use Rattle.store_owner.specs.declared.apply_fault.ApplyFault.{ApplyFault}
use Rattle.store_owner.specs.declared.apply_fault.ApplyFault.TheVariants as faults

same_told : (told : Option (List ℕ)) (x y : List ℕ) → told ≡ Some x → told ≡ Some y → x ≡ y
same_told told x y one other = let both = sym one ∙ other in cc

-- nothing is taken
pub takes_none : (told : Option (List ℕ)) → TakesKeys told told
takes_none told = record { drawn = []; drawn_sizes = All-nil (λ (key : List ℕ). length key ≡ 32); next_bytes = λ x y was now. same_told told x y was now }

-- keys, and then more
pub takes_more : (first middle last : Option (List ℕ)) → is_some middle ≡ is_some first → TakesKeys first middle → TakesKeys middle last → TakesKeys first last
takes_more first middle last told some more = record {
  drawn = some.drawn ++ more.drawn;
  drawn_sizes = All-append (λ (key : List ℕ). length key ≡ 32) some.drawn more.drawn some.drawn_sizes more.drawn_sizes;
  next_bytes = both_told_through first middle last (λ x y. x ≡ joined some.drawn ++ y) (λ y z. y ≡ joined more.drawn ++ z) (λ x z. x ≡ joined (some.drawn ++ more.drawn) ++ z)
      told some.next_bytes more.next_bytes
      (λ x y z here then.
      here ∙ ap (λ rest. joined some.drawn ++ rest) then ∙ sym (append_assoc (joined some.drawn) (joined more.drawn) z)
      ∙ ap (λ bytes. bytes ++ z) (sym (flat_map-append (λ (key : List ℕ). key) some.drawn more.drawn)));
}

-- the keys that were filled
pub takes_filled : (result : Result Reply ApplyFault) (keys : ℕ) (drawn : Listed (List ℕ)) (before after : Option (List ℕ)) → AreKeys drawn.items
    → WhereBothTold before after (DrawsKeys keys (Ok drawn)) → OnOk result (TakesKeys before after)
takes_filled (Ok reply) keys drawn before after sizes bytes = record { drawn = drawn.items; drawn_sizes = sizes; next_bytes = bytes }
takes_filled (Err fault) keys drawn before after sizes bytes = tt

-- the keys that are to be filled are those of the plan
abbrev pub ArePlanned : OwnerView → Deed → ℕ → Type 0
ArePlanned o r keys = (at : Stand) → IsSeenAs o.state at → keys ≡ keys_planned o at r

pub are_planned : (o mid : OwnerView) (r : Deed) (p : Change) → HasOtherRoom o mid → IsStoreOf o.state.tree o.names (granted_in o) (own_store o) → IsDrafted r mid p
    → ArePlanned o r (length p.ready.skeleton.keys.items)
are_planned o mid r p room store drafted = λ at seen.
    let told = drafted.told (own_store o) (store_still (own_store o) o mid room store) in
    let step = drafted.is_skeleton at (seen_still o mid room at seen) in
    ap length step.keys
    ∙ ap (λ (j : JournalState). length (told_step (begun (not j.has_epoch) at) (told_note p.note)).given) room.journal
    ∙ ap (λ (n : Note). length (told_step (begun (not o.journal.has_epoch) at) n).given) told

-- the source ended before they were filled
module _ (o : OwnerView) (r : Deed) (keys : ℕ) (before after : Option (List ℕ)) (sound : IsSound o) (accepted : deed_refusal (is_strict o.state.keys) (own_store o) r o.file_bytes ≡ None)
    (planned : ArePlanned o r keys) (small : 32 * keys < 2 ^ 32) (told : is_some after ≡ is_some before) where
  filled_short : (given wanted : ℕ) → IsFillFault {T = Listed (List ℕ)} keys (Err (faults.RandomShort given wanted))
      → WhereBothTold before after (DrawsKeys keys (Err (faults.RandomShort given wanted))) → FallsShort o r given wanted before after
  filled_short given wanted fault bytes =
      let f = fault small in
      record {
        at = sound.at;
        seen = sound.seen;
        accepted = accepted;
        is_need = λ at seen. f.0 ∙ ap (λ n. 32 * n) (planned at seen);
        is_short = f.1;
        were_left = λ x was. let y = told_again before after x told was in (bytes x y.0 was y.1).0 small;
        nothing_left = λ y now. let x = told_again after before y (sym told) now in (bytes x.0 y x.1 now).1;
      }

  pub falls_short : (fault : ApplyFault) (left need : ℕ) → IsFillFault {T = Listed (List ℕ)} keys (Err fault)
      → WhereBothTold before after (DrawsKeys keys (Err fault)) → fault ≡ faults.RandomShort left need → FallsShort o r left need before after
  falls_short fault left need filled bytes is =
      filled_short left need
      (subst (λ (f : ApplyFault). IsFillFault {T = Listed (List ℕ)} keys (Err f)) is filled)
      (λ x y was now. subst (λ (f : ApplyFault). DrawsKeys keys (Err f) x y) is (bytes x y was now))

-- no other fault than the disk's comes
pub never_short : {P : Type 0} (result : Result Reply ApplyFault) (left need : ℕ) → IfErr result (λ fault. fault ≡ faults.DiskFault) → result ≡ Err (faults.RandomShort left need) → P
never_short (Ok reply) left need disk is = absurd cc
never_short (Err fault) left need disk is = absurd cc

abbrev pub failed : ApplyFault → Result Reply ApplyFault
failed fault = Err fault

pub err_is : (fault other : ApplyFault) → failed fault ≡ failed other → fault ≡ other
err_is fault other is = cc
