-- Items that are printed one after another.
use Rattle.std.proofs.Common.{◌≡◌, ◌<◌, ◌+◌, ℕ, List, ◌∷◌, ◌++◌, drop, length, get_or, append_assoc, sym, ap, ◌∙◌}
use Rattle.std.proofs.lemmas.List.{drop_more}
use Rattle.std.specs.List.{flat_map}

-- one line more was printed
pub printed_more : {X : Type 0} (spell : X → List ℕ) (text whole : List ℕ) (items : List X) (i : ℕ) (item : X) → i < length items
    → get_or items i item ≡ item
    → text ++ flat_map spell (drop i items) ≡ whole → (text ++ spell item) ++ flat_map spell (drop (i + 1) items) ≡ whole
printed_more spell text whole items i item within is before =
    append_assoc text (spell item) (flat_map spell (drop (i + 1) items))
    ∙ ap (λ xs. text ++ flat_map spell xs) (sym (drop_more items i item within ∙ ap (λ x. x ∷ drop (i + 1) items) is))
    ∙ before
