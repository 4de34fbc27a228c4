-- What `list` and `open` answer of an image that stands for a journal is what the journal's store shows; and what they print of any image
-- to whoever has a key of a journal was written by the journal, or a forged record stands in the image.
use Rattle.std.proofs.Common.{◌≡◌, ⊎_elim, inl, inr, ℕ, List, [], ◌∷◌, Result, Ok, Err, ap, refl, sym, ◌∙◌}
use Rattle.std.specs.Prelude.{◌⊎◌}
use Rattle.cry_base.specs.declared.client.Bundle.{Bundle}
use Rattle.forgery_laws.specs.Written.{AreWrittenLines, HasForged}
use Rattle.forgery_laws.proofs.Lines.{line_opened, lines_listed}
use Rattle.log_visits.specs.Asking.{line_shown}
use Rattle.log_visits.specs.Judging.{Failure, shown_with}
use Rattle.log_visits.specs.View.{Line, spell_view}
use Rattle.public_fold.specs.Journal.{Journal}
use Rattle.reader_laws.proofs.Lines.{line_of_bytes}
use Rattle.reader_laws.proofs.Shown.{bytes_shown}
use Rattle.reader_laws.proofs.WrongKeys.{wrong_line, wrong_view}
use Rattle.cli_base.specs.declared.status.Status.{Status}
use Rattle.cli_reading.specs.Changed.{AreLinesOf}
use Rattle.cli_reading.specs.Promises.List.{ListGives, of_list, view_of}
use Rattle.cli_reading.specs.Promises.Open.{OpenGives, line_of, of_open, spell_alone}
use Rattle.cli_reading.specs.Reading.{IsExactly, answer_as}
use Rattle.cli_reading.proofs.Sound.{IsSound, as_journal}

same_text : (xs ys : List ℕ) → (let r : Result (List ℕ) Status = Ok xs in r) ≡ Ok ys → xs ≡ ys
same_text xs ys e = cc

-- where what is shown is a few lines that were written, or there is an exception, so it is with what is printed
printed_or : {X : Type 0} (lines : X → List Line) (m : Journal) (bundle : Bundle) (image : List ℕ) (E : Type 0) (shown : Result X Failure)
    → ((x : X) → shown ≡ Ok x → AreWrittenLines m bundle image (lines x) ⊎ E) → (answer : Result (List ℕ) Status)
    → IsExactly (answer_as (λ x. spell_view (lines x)) shown) answer → AreLinesOf m bundle image answer ⊎ E
printed_or lines m bundle image E shown each (Err status) same = inl tt
printed_or lines m bundle image E (Err failure) each (Ok text) same = absurd cc
printed_or lines m bundle image E (Ok x) each (Ok text) same =
    ⊎_elim (λ written. inl (lines x, sym (same_text (spell_view (lines x)) text same), written)) (λ e. inr e) (each x refl)

-- what an answer is exactly, it is exactly by another name
same_as : {X : Type 0} (spell : X → List ℕ) (x y : Result X Failure) → x ≡ y → (answer : Result (List ℕ) Status)
    → IsExactly (answer_as spell x) answer → IsExactly (answer_as spell y) answer
same_as spell x y e answer same = sym (ap (answer_as spell) e) ∙ same

pub list_sound : IsSound of_list
list_sound = record {
  journal = λ status typed image before after. as_journal ListGives status typed image before after view_of
      (λ owner m bundle stands honest right. same_as spell_view _ _ (bytes_shown owner m image bundle stands honest right))
      (λ owner m bundle stands honest wrong. same_as spell_view _ _ (wrong_view owner m image bundle stands honest wrong));
  written = λ owner m image bundle are valid whole has.
      printed_or (λ lines. lines) m bundle image (HasForged owner m image) (shown_with bundle image)
      (λ lines is. lines_listed owner m image bundle lines valid whole are has is);
  quiet = λ m bundle image status. tt;
}

pub open_sound : (path : List ℕ) → IsSound (of_open path)
open_sound path = record {
  journal = λ status typed image before after. as_journal (OpenGives path) status typed image before after (line_of path)
      (λ owner m bundle stands honest right. same_as spell_alone _ _ (line_of_bytes owner m image bundle path stands honest right))
      (λ owner m bundle stands honest wrong. same_as spell_alone _ _ (wrong_line owner m image bundle stands honest wrong path));
  written = λ owner m image bundle are valid whole has.
      printed_or (λ line. line ∷ []) m bundle image (HasForged owner m image) (line_shown bundle path image)
      (λ line is. line_opened owner m image bundle path line valid whole are has is);
  quiet = λ m bundle image status. tt;
}
