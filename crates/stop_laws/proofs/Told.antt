-- An upgrade whose whole line `ok` was printed was accepted.
use Rattle.std.proofs.Common.{◌≡◌, ⊎_elim, ℕ, zero, suc, List, [], ◌∷◌, ◌++◌, take, Option, Some, arith, refl, sym, ap, ◌∙◌}
use Rattle.std.proofs.lemmas.List.{append-nil, append_cancel_left}
use Rattle.cry_base.specs.declared.commands.Refusal.TheVariants.{Full}
use Rattle.cry_base.specs.declared.commands.Reply.TheVariants as replies
use Rattle.cli_upgrading.specs.Upgrading.{IsAccepted}
use Rattle.commit_journal.specs.Holding.{IsPrefix}
use Rattle.journal_bytes.specs.Journals.{ShowsJournal}
use Rattle.public_fold.specs.Journal.{Journal}
use Rattle.script_text.specs.Printing.{refused_line, spell_reply}
use Rattle.stop_laws.specs.Runs.{HoldsUpgrade}

first : List ℕ → ℕ
first [] = 0
first (x ∷ xs) = x

-- no front of the line of a refusal is the line `ok`
not_refused : (n : ℕ) → spell_reply replies.Done ≡ take n (spell_reply (replies.Refused Full)) → ⊥
unfolding refused_line first
not_refused zero is = let letter : 111 ≡ 0 = ap first is in let no : ⊥ = omega (arith, letter) in no
not_refused (suc n) is = let letter : 111 ≡ 114 = ap first is in let no : ⊥ = omega (arith, letter) in no

pub told_held : (key : List ℕ) (was : Option (List ℕ)) (written : List ℕ) (j : Journal) → HoldsUpgrade key was (Some written) (Some (written ++ spell_reply replies.Done)) j
    → (m now : Journal) × (drawn : List (List ℕ)) × ShowsJournal key m was × IsAccepted m drawn replies.Done now × IsPrefix now j
told_held key was written j holds =
    let line = spell_reply replies.Done in
    ⊎_elim
    (λ none.
    let nothing : line ≡ [] = append_cancel_left written line [] (none written (written ++ line) refl refl ∙ sym (append-nil written)) in
    absurd cc)
    (λ all.
    let answered = all.2 in
    let front = answered.prints written (written ++ line) refl refl in
    let printed : line ≡ take front.0 (spell_reply answered.reply) = append_cancel_left written line (take front.0 (spell_reply answered.reply)) front.2 in
    ⊎_elim
    (λ is. (all.0, answered.now, answered.drawn, all.1, (is.0, is.1, refl, is.3), answered.holds))
    (λ full. absurd (not_refused front.0 (printed ∙ ap (λ r. take front.0 (spell_reply r)) full.2)))
    answered.answers)
    holds
