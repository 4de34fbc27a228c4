-- The bytes of lines that a reader takes one after another.
use Rattle.std.proofs.Common.{◌≡◌, ◌+◌, ℕ, List, [], ◌∷◌, ◌++◌, inl, inr, append_assoc, refl, sym, ap, ◌∙◌}
use Rattle.std.proofs.lemmas.List.{append-nil}
use Rattle.cry_base.specs.Listed.{Listed}
use Rattle.cli_base.specs.Input.{TakesLines}
use Rattle.cli_base.specs.Lines.{LineState, Takes, bytes_ahead}
use Rattle.cli_sessions.specs.Taking.{AreTaken, HoldsFew}
use Rattle.cli_base.specs.declared.lines.Next.TheVariants.{Line}
use Rattle.cli_base.proofs.TakenLines.{of_lines_both, takes_front}

pub takes_behind : (n m k : ℕ) (old now : LineState) (before middle left : List ℕ) → k ≡ n + m → AreTaken n old now before middle
    → TakesLines m (bytes_ahead now middle) left → TakesLines k (bytes_ahead old before) left
takes_behind n m k old now before middle left is taken takes =
    takes_front n m k taken.0 (bytes_ahead now middle) (bytes_ahead old before) left is taken.1 taken.2 takes

pub taken_on : (n k : ℕ) (old now new : LineState) (before middle after : List ℕ) → k ≡ n + 1 → AreTaken n old now before middle
    → AreTaken 1 now new middle after → AreTaken k old new before after
taken_on n k old now new before middle after is taken one = (
  taken.0 ++ one.0,
  of_lines_both n 1 k taken.0 one.0 is taken.1 one.1,
  taken.2 ∙ ap (λ b. taken.0 ++ b) one.2 ∙ sym (append_assoc taken.0 one.0 (bytes_ahead new after)),
)

pub taken_few : (n : ℕ) (old new : LineState) (before left : List ℕ) → AreTaken n old new before left → HoldsFew new → TakesLines n (bytes_ahead old before) left
taken_few n old new before left taken holds = record {
  front = taken.0;
  ahead = new.piece;
  taken = taken.2 ∙ ap (λ l. taken.0 ++ (l ++ (new.piece ++ left))) holds.0;
  of_lines = taken.1;
  few = holds.1;
}

-- a line that is given
pub line_taken : (number : ℕ) (bytes : Listed ℕ) (old new : LineState) (before after : List ℕ)
    → Takes (Line number bytes) old new (bytes_ahead old before) (bytes_ahead new after) → AreTaken 1 old new before after × HoldsFew new
line_taken number bytes old new before after takes =
    let holds : HoldsFew new = (takes.begins, takes.few) in
    elim takes.cut [
      | inl cut ↦ (
        (bytes.items ++ 10 ∷ [], inr (bytes.items, [], takes.one, refl, refl), cut.0 ∙ sym (append_assoc bytes.items (10 ∷ []) (bytes_ahead new after))),
        holds,
      )
      | inr whole ↦ (
        (bytes.items, inl takes.one, whole.0 ∙ sym (append-nil bytes.items) ∙ ap (λ b. bytes.items ++ b) (sym whole.1)),
        holds,
      )
    ]
