-- Each role has a rank of its own.
use Rattle.std.proofs.Common.{◌≡◌, ℕ, ◌+◌, ◌*◌, ◌/◌, ◌%◌, ◌==◌, cond, refl, sym, ap, ◌∙◌, arith}
use Rattle.cry_base.specs.declared.roles.Role.{Role}
use Rattle.cry_base.specs.declared.roles.Role.TheVariants.{Owner, Holder, Clear, Sub, Back, Files, Data, File}
use Rattle.key_links.specs.Ringed.{rank_of}

-- the role of a kind's place and a number
made : ℕ → ℕ → Role
made place id =
    cond (place == 0) Owner
    (cond (place == 1) (Holder (record { 0 = id }))
    (cond (place == 2) (Clear (record { 0 = id }))
    (cond (place == 3) (Sub (record { 0 = id }))
    (cond (place == 4) (Back (record { 0 = id }))
    (cond (place == 5) (Files (record { 0 = id }))
    (cond (place == 6) (Data (record { 0 = id }))
    (File (record { 0 = id }))))))))

ranked : ℕ → Role
ranked rank = made (rank % 8) (rank / 8)

made_of : (place id rank : ℕ) → rank % 8 ≡ place → rank / 8 ≡ id → ranked rank ≡ made place id
unfolding ranked
made_of place id rank p i = ap (λ a. made a (rank / 8)) p ∙ ap (λ b. made place b) i

ranked_again : (role : Role) → ranked (rank_of role) ≡ role
unfolding made rank_of
ranked_again Owner = made_of 0 0 0 refl refl
ranked_again (Holder h) = made_of 1 h.0 (h.0 * 8 + 1) (omega arith) (omega arith)
ranked_again (Clear f) = made_of 2 f.0 (f.0 * 8 + 2) (omega arith) (omega arith)
ranked_again (Sub f) = made_of 3 f.0 (f.0 * 8 + 3) (omega arith) (omega arith)
ranked_again (Back f) = made_of 4 f.0 (f.0 * 8 + 4) (omega arith) (omega arith)
ranked_again (Files f) = made_of 5 f.0 (f.0 * 8 + 5) (omega arith) (omega arith)
ranked_again (Data f) = made_of 6 f.0 (f.0 * 8 + 6) (omega arith) (omega arith)
ranked_again (File x) = made_of 7 x.0 (x.0 * 8 + 7) (omega arith) (omega arith)

pub same_rank : (a b : Role) → rank_of a ≡ rank_of b → a ≡ b
same_rank a b same = sym (ranked_again a) ∙ ap ranked same ∙ ranked_again b
