-- The bytes of lines that are taken one after another.
use Rattle.std.proofs.Common.{◌≡◌, ◌≢◌, ◌≤◌, ◌+◌, ℕ, zero, suc, List, ◌∷◌, ◌++◌, inl, inr, append_assoc, arith, sym, ap, subst, ◌∙◌}
use Rattle.std.proofs.lemmas.List.{append-nil}
use Rattle.std.proofs.lemmas.List.Elements.{All-append, All-nil}
use Rattle.cli_base.specs.Input.{TakesLines}
use Rattle.script_text.specs.Cutting.{IsOneLine}
use Rattle.cli_base.specs.Lines.{AreOfLines}

abbrev Other : ℕ → Type 0
Other byte = byte ≢ 10

of_more_lines : (n k : ℕ) (bytes : List ℕ) → n ≤ k → AreOfLines n bytes → AreOfLines k bytes
of_more_lines zero zero bytes less lines = lines
of_more_lines zero (suc k) bytes less lines = inl (subst IsOneLine (sym lines) (All-nil Other))
of_more_lines (suc n) zero bytes less lines = absurd (omega (arith, less))
of_more_lines (suc n) (suc k) bytes less lines =
    elim lines [
      | inl one ↦ inl one
      | inr cut ↦ inr (cut.0, cut.1, cut.2, cut.3, of_more_lines n k cut.1 (omega (arith, less)) cut.4)
    ]

-- a line is begun before them
pub of_lines_begun : (m k : ℕ) (begun bytes : List ℕ) → m ≤ suc k → IsOneLine begun → AreOfLines m bytes → AreOfLines (suc k) (begun ++ bytes)
of_lines_begun zero k begun bytes less one lines = inl (subst (λ b. IsOneLine (begun ++ b)) (sym lines) (subst IsOneLine (sym (append-nil begun)) one))
of_lines_begun (suc m) k begun bytes less one lines =
    elim lines [
      | inl other ↦ inl (All-append Other begun bytes one other)
      | inr cut ↦ inr (
        begun ++ cut.0,
        cut.1,
        All-append Other begun cut.0 one cut.2,
        ap (λ b. begun ++ b) cut.3 ∙ sym (append_assoc begun cut.0 (10 ∷ cut.1)),
        of_more_lines m k cut.1 (omega (arith, less)) cut.4,
      )
    ]

pub of_lines_both : (n m k : ℕ) (front back : List ℕ) → k ≡ n + m → AreOfLines n front → AreOfLines m back → AreOfLines k (front ++ back)
of_lines_both zero m k front back is none lines =
    subst (λ f. AreOfLines k (f ++ back)) (sym none) (of_more_lines m k back (omega (arith, is)) lines)
of_lines_both (suc n) m zero front back is some lines = absurd (omega (arith, is))
of_lines_both (suc n) m (suc k) front back is some lines =
    elim some [
      | inl one ↦ of_lines_begun m k front back (omega (arith, is)) one lines
      | inr cut ↦ inr (
        cut.0,
        cut.1 ++ back,
        cut.2,
        ap (λ f. f ++ back) cut.3 ∙ append_assoc cut.0 (10 ∷ cut.1) back,
        of_lines_both n m k cut.1 back (omega (arith, is)) cut.4 lines,
      )
    ]

pub takes_more : (n k : ℕ) (typed left : List ℕ) → n ≤ k → TakesLines n typed left → TakesLines k typed left
takes_more n k typed left less takes = record {
  front = takes.front;
  ahead = takes.ahead;
  taken = takes.taken;
  of_lines = of_more_lines n k takes.front less takes.of_lines;
  few = takes.few;
}

-- bytes of lines, and little that is taken behind them
pub takes_front : (n m k : ℕ) (front bytes typed left : List ℕ) → k ≡ n + m → AreOfLines n front → typed ≡ front ++ bytes → TakesLines m bytes left → TakesLines k typed left
takes_front n m k front bytes typed left is lines are takes = record {
  front = front ++ takes.front;
  ahead = takes.ahead;
  taken = are ∙ ap (λ b. front ++ b) takes.taken ∙ sym (append_assoc front takes.front (takes.ahead ++ left));
  of_lines = of_lines_both n m k front takes.front is lines takes.of_lines;
  few = takes.few;
}
