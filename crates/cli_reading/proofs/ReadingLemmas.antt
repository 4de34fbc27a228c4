-- How a command ends that only reads a store: where its input hands in no bundle, where nothing is shown, and where something is.
use Rattle.std.proofs.Common.{inl, inr, refl, ◌≡◌, ◌⊎◌, ℕ, Bool, true, false, List, [], ◌++◌, arith, Option, Some, Result, Ok, Err, sym, ap, ◌∙◌, subst}
use Rattle.std.specs.Prelude.{IsTrue, is_ok, is_some}
use Rattle.std.proofs.lemmas.List.{append-nil}
use Rattle.cry_base.specs.declared.client.Bundle.{Bundle}
use Rattle.cry_io.proofs.OnlyRead.{only_read_still}
use Rattle.cry_io.proofs.ToldLemmas.{told_again}
use Rattle.cry_io.specs.Reading.{IsOnlyRead}
use Rattle.cry_io.specs.Told.{WhereTold, WhereBothTold}
use Rattle.cry_io.specs.declared.disk.Disk as disk
use Rattle.cli_base.specs.Input.{ReadsInput, TakesLines, input_answer}
use Rattle.cli_base.specs.Outside.{PrintsAll, PrintsFront}
use Rattle.cli_base.specs.declared.input.InputFault.{InputFault}
use Rattle.cli_base.specs.declared.input.InputFault.TheVariants.{BadLine, Failed, OutOfMemory}
use Rattle.cli_base.specs.declared.status.Status.{Status}
use Rattle.cli_base.specs.declared.status.Status.TheVariants as statuses
use Rattle.cli_reading.specs.Reading.{AnswersAs, AnswersBy, AnswersFor, InputDecides, Reads, TakesInput, TellsText}
use Rattle.cli_reading.specs.Statuses.{input_status, is_unprinted}

-- what may be answered to a bundle
abbrev Shows : Type 1
Shows = Bundle → Result (List ℕ) Status → Type 0

-- over an image
abbrev ShowsOf : Type 1
ShowsOf = Bundle → List ℕ → Result (List ℕ) Status → Type 0

-- ---- where the input hands in no bundle

decided_first : (fault : InputFault) (typed left : List ℕ) → ReadsInput (Err fault) typed left
    → InputDecides (input_status fault) (input_answer typed)
decided_first (BadLine line) typed left reads = reads.0
decided_first Failed typed left reads = tt
decided_first OutOfMemory typed left reads = tt

answered_first : (Gives : Shows) (fault : InputFault) (typed left : List ℕ) (before after : Option (List ℕ))
    → ReadsInput (Err fault) typed left
    → AnswersAs (input_status fault) (AnswersFor Gives (input_answer typed)) before after
answered_first Gives (BadLine line) typed left before after reads =
    subst (λ input. AnswersFor Gives input (Err (statuses.BadScript line))) (sym reads.0) refl
answered_first Gives Failed typed left before after reads = tt
answered_first Gives OutOfMemory typed left before after reads = tt

taken_first : (fault : InputFault) (typed left : List ℕ) → ReadsInput (Err fault) typed left → TakesInput (input_status fault) typed left
taken_first (BadLine line) typed left reads = reads.1
taken_first Failed typed left reads = reads
taken_first OutOfMemory typed left reads = tt

pub reads_no_bundle : {D : Type 0} (Gives : ShowsOf) (disks : disk.Ghosts D) (fault : InputFault) (status : Status)
    (typed left : Option (List ℕ)) (still : D) (before : Option (List ℕ)) → status ≡ input_status fault → is_some left ≡ is_some typed
    → WhereBothTold typed left (ReadsInput (Err fault)) → Reads Gives disks status typed left still still before before
reads_no_bundle {D} Gives disks fault status typed left still before is told reads =
    subst (λ s. Reads Gives disks s typed left still still before before) (sym is) (record {
      decided = λ x was. let again = told_again typed left x told was in decided_first fault x again.0 (reads x again.0 was again.1);
      answered = λ x was image now.
          let again = told_again typed left x told was in
          answered_first (λ bundle. Gives bundle image) fault x again.0 before before (reads x again.0 was again.1);
      takes = λ x y was now. taken_first fault x y (reads x y was now);
      reads_only = only_read_still disks still;
    })

-- ---- where nothing is shown

-- an input that was read to its end
all_taken : (bundle : Bundle) (typed left : List ℕ) → ReadsInput (Ok bundle) typed left → TakesLines 1 typed left
all_taken bundle typed left reads = record {
  front = typed;
  ahead = [];
  taken = sym (append-nil typed) ∙ ap (λ l. typed ++ l) (sym reads.1);
  of_lines = reads.2;
  few = omega arith;
}

-- how it ends behind an input that hands in a bundle
record EndsBehind (status : Status) (input : Result Bundle ℕ) (typed left : List ℕ) : Type 1 where
  decided : InputDecides status input
  answered : (May : Result (List ℕ) Status → Type 0) (before : Option (List ℕ)) → TellsText (Err status) May → AnswersAs status May before before
  takes : TakesInput status typed left

ends_behind : (unseen head : Bool) (status : Status) (input : Result Bundle ℕ) (typed left : List ℕ) → IsTrue (is_unprinted unseen head status)
    → IsTrue (is_ok input) → TakesLines 1 typed left → EndsBehind status input typed left
ends_behind unseen head statuses.Done input typed left told is takes = absurd (let no : false ≡ true = told in cc)
ends_behind unseen head statuses.Usage input typed left told is takes = absurd (let no : false ≡ true = told in cc)
ends_behind unseen head (statuses.BadScript line) input typed left told is takes = absurd (let no : false ≡ true = told in cc)
ends_behind unseen head statuses.ReadFault input typed left told is takes = absurd (let no : false ≡ true = told in cc)
ends_behind unseen head statuses.WriteFault input typed left told is takes = absurd (let no : false ≡ true = told in cc)
ends_behind unseen head statuses.RandomFault input typed left told is takes = absurd (let no : false ≡ true = told in cc)
ends_behind unseen head (statuses.RandomShort short need) input typed left told is takes = absurd (let no : false ≡ true = told in cc)
ends_behind unseen head statuses.NotBlank input typed left told is takes = absurd (let no : false ≡ true = told in cc)
ends_behind unseen head statuses.BadProof input typed left told is takes = absurd (let no : false ≡ true = told in cc)
ends_behind unseen head statuses.NeedsUpgrade input typed left told is takes = absurd (let no : false ≡ true = told in cc)
ends_behind unseen head statuses.AlreadyNew input typed left told is takes = absurd (let no : false ≡ true = told in cc)
ends_behind unseen head statuses.OutOfMemory input typed left told is takes = record { decided = tt; answered = λ May before tells. tt; takes = tt }
ends_behind unseen head statuses.DiskFault input typed left told is takes = record { decided = is; answered = λ May before tells. tt; takes = takes }
ends_behind unseen head statuses.NotAStore input typed left told is takes =
    record { decided = is; answered = λ May before tells. tells; takes = takes }
ends_behind unseen head (statuses.Damaged at) input typed left told is takes =
    record { decided = is; answered = λ May before tells. tells; takes = takes }
ends_behind unseen head statuses.WrongKey input typed left told is takes =
    record { decided = is; answered = λ May before tells. tells; takes = takes }
ends_behind unseen head (statuses.Tampered batch at) input typed left told is takes =
    record { decided = is; answered = λ May before tells. tells; takes = takes }
ends_behind unseen head (statuses.NoHolder known) input typed left told is takes =
    record { decided = is; answered = λ May before tells. tells; takes = takes }
ends_behind unseen head statuses.Unseen input typed left told is takes =
    record { decided = is; answered = λ May before tells. tells; takes = takes }
ends_behind unseen head (statuses.Behind have want) input typed left told is takes =
    record { decided = is; answered = λ May before tells. tells; takes = takes }
ends_behind unseen head (statuses.Forked batches) input typed left told is takes =
    record { decided = is; answered = λ May before tells. tells; takes = takes }

pub reads_nothing : {D : Type 0} (Gives : ShowsOf) (disks : disk.Ghosts D) (bundle : Bundle) (unseen head : Bool) (status : Status)
    (typed left : Option (List ℕ)) (old new : D) (before : Option (List ℕ)) → IsTrue (is_unprinted unseen head status)
    → is_some left ≡ is_some typed → WhereBothTold typed left (ReadsInput (Ok bundle))
    → WhereTold (disks.shown old) (λ image. TellsText (Err status) (Gives bundle image)) → IsOnlyRead disks old new
    → Reads Gives disks status typed left old new before before
reads_nothing {D} Gives disks bundle unseen head status typed left old new before ends told reads gives only =
    let behind : (x y : List ℕ) → typed ≡ Some x → left ≡ Some y → EndsBehind status (Ok bundle) x y =
    λ x y was now. ends_behind unseen head status (Ok bundle) x y ends refl (all_taken bundle x y (reads x y was now))
    in
    record {
      decided = λ x was.
          let again = told_again typed left x told was in
          subst (InputDecides status) (sym (reads x again.0 was again.1).0) (behind x again.0 was again.1).decided;
      answered = λ x was image now.
          let again = told_again typed left x told was in
          subst (λ input. AnswersAs status (AnswersFor (λ b. Gives b image) input) before before) (sym (reads x again.0 was again.1).0)
          ((behind x again.0 was again.1).answered (Gives bundle image) before (gives image now));
      takes = λ x y was now. (behind x y was now).takes;
      reads_only = only;
    }

-- ---- where something is shown

-- a text was printed, or a front of it
abbrev Tells : Status → Option (List ℕ) → Option (List ℕ) → List ℕ → Type 0
Tells status before after text =
    (status ≡ statuses.Done) × WhereBothTold before after (PrintsAll text) ⊎ (status ≡ statuses.WriteFault)
    × WhereBothTold before after (PrintsFront text)

pub reads_text : {D : Type 0} (Gives : ShowsOf) (disks : disk.Ghosts D) (bundle : Bundle) (text : List ℕ) (status : Status)
    (typed left : Option (List ℕ)) (old new : D) (before after : Option (List ℕ)) → Tells status before after text
    → is_some left ≡ is_some typed
    → WhereBothTold typed left (ReadsInput (Ok bundle)) → WhereTold (disks.shown old) (λ image. Gives bundle image (Ok text))
    → IsOnlyRead disks old new → Reads Gives disks status typed left old new before after
reads_text {D} Gives disks bundle text status typed left old new before after tells told reads gives only =
    let handed : (x : List ℕ) → typed ≡ Some x → input_answer x ≡ Ok bundle =
    λ x was. let again = told_again typed left x told was in (reads x again.0 was again.1).0
    in
    let given : (x : List ℕ) → typed ≡ Some x → (image : List ℕ) → disks.shown old ≡ Some image → AnswersBy Gives x image (Ok text) =
    λ x was image now. subst (λ input. AnswersFor (λ b. Gives b image) input (Ok text)) (sym (handed x was)) (gives image now)
    in
    elim tells [
      | inl done ↦ subst (λ s. Reads Gives disks s typed left old new before after) (sym done.0) (record {
        decided = λ x was. ap is_ok (handed x was);
        answered = λ x was image now. (text, given x was image now, done.1);
        takes = λ x y was now. (reads x y was now).1;
        reads_only = only;
      })
      | inr cut ↦ subst (λ s. Reads Gives disks s typed left old new before after) (sym cut.0) (record {
        decided = λ x was. ap is_ok (handed x was);
        answered = λ x was image now. (text, given x was image now, cut.1);
        takes = λ x y was now. all_taken bundle x y (reads x y was now);
        reads_only = only;
      })
    ]
