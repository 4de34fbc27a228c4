-- The opening's lines are accepted, and then all stands as the generator has it.
use Rattle.std.proofs.Common.{◌≡◌, ℕ, zero, suc, ◌+◌, ◌*◌, ◌<◌, ◌≤◌, Bool, false, cond, List, [], ◌∷◌, ◌++◌, get_or, replicate, Some, None, refl, ap, sym, subst, inl, inr, ⊎_elim, arith}
use Rattle.std.specs.Prelude.{option_map, nat_lt, is_none}
use Rattle.std.proofs.lemmas.Bool.{le-ltb}
use Rattle.cry_base.specs.Sets.{In}
use Rattle.cry_base.specs.Requests.{Request}
use Rattle.cry_base.specs.Store.{Store, FileEntry, HolderEntry, root_store, holder_entry, has_grant}
use Rattle.cry_base.specs.WorkedRows.{plain_store}
use Rattle.cry_base.specs.declared.commands.Refusal.{Refusal}
use Rattle.cry_base.specs.declared.commands.Refusal.TheVariants.{TooLong}
use Rattle.store_gen.specs.Accepting.{AcceptsAll}
use Rattle.store_gen.specs.Rule.{opening, first, eight, home_of}
use Rattle.store_gen.specs.Standing.{Stands, IsFile, the_folders}
use Rattle.store_gen.proofs.Folders.{below_eight}

-- the file tN in the folder dN
abbrev pub file_of : ℕ → FileEntry
file_of n = record { id = n + 1; folder = n + 2; name = 116 ∷ (48 + n) ∷ []; bytes = 0 ∷ [] }

abbrev pub the_files : List FileEntry
the_files = file_of 0 ∷ file_of 1 ∷ file_of 2 ∷ file_of 3 ∷ file_of 4 ∷ file_of 5 ∷ file_of 6 ∷ file_of 7 ∷ []

abbrev pub holder_of : ℕ → List ℕ → HolderEntry
holder_of number key = record { number = number; key = key }

-- the store after the opening
abbrev pub opened_store : (a b c d : List ℕ) → Store
opened_store a b c d = record {
  folders = the_folders;
  files = the_files;
  holders = holder_of 1 a ∷ holder_of 2 b ∷ holder_of 3 c ∷ holder_of 4 d ∷ [];
  grants = [];
  folders_made = 9;
  files_made = 8;
  holders_made = 4;
}

no_grant_yet : (n i : ℕ) → get_or (replicate n false) i false ≡ false
no_grant_yet zero i = refl
no_grant_yet (suc n) zero = refl
no_grant_yet (suc n) (suc i) = no_grant_yet n i

module _ (seed : ℕ) (a b c d : List ℕ) where
  eight_holders : (who : ℕ) → who < 4 → is_none (holder_entry (opened_store a b c d) (who + 1)) ≡ false
  unfolding holder_entry
  eight_holders zero h = refl
  eight_holders (suc zero) h = refl
  eight_holders (suc (suc zero)) h = refl
  eight_holders (suc (suc (suc zero))) h = refl
  eight_holders (suc (suc (suc (suc n)))) h = absurd (omega arith)

  homes_within : (n : ℕ) → n < 8 → get_or eight n 0 < 8
  homes_within = below_eight (λ n. get_or eight n 0 < 8) (omega arith) (omega arith) (omega arith) (omega arith) (omega arith) (omega arith) (omega arith) (omega arith)

  home_is : (n : ℕ) → n < 8 → n + 2 ≡ home_of (first seed) n + 2
  unfolding first
  home_is = below_eight (λ n. n + 2 ≡ home_of (first seed) n + 2) refl refl refl refl refl refl refl refl

  moved_first : (n : ℕ) → n < 8 → (e : FileEntry) → e ≡ file_of n → IsFile (first seed) e
  moved_first n h e is =
      subst (IsFile (first seed)) (sym is) (inl (n, record { below = h; id = refl; name = refl; folder = home_is n h }))

  files_first : (e : FileEntry) → In e the_files → IsFile (first seed) e
  files_first e i =
      ⊎_elim (moved_first 0 (omega arith) e) (λ i. ⊎_elim (moved_first 1 (omega arith) e) (λ i. ⊎_elim (moved_first 2 (omega arith) e) (λ i.
      ⊎_elim (moved_first 3 (omega arith) e) (λ i. ⊎_elim (moved_first 4 (omega arith) e) (λ i. ⊎_elim (moved_first 5 (omega arith) e) (λ i.
      ⊎_elim (moved_first 6 (omega arith) e) (λ i. ⊎_elim (moved_first 7 (omega arith) e) (λ i. absurd i) i) i) i) i) i) i) i) i

  each_first : (n : ℕ) → n < 8 → (e : FileEntry) × In e the_files × (e.id ≡ n + 1)
  each_first = below_eight (λ n. (e : FileEntry) × In e the_files × (e.id ≡ n + 1))
      (file_of 0, inl refl, refl) (file_of 1, inr (inl refl), refl) (file_of 2, inr (inr (inl refl)), refl) (file_of 3, inr (inr (inr (inl refl))), refl)
      (file_of 4, inr (inr (inr (inr (inl refl)))), refl) (file_of 5, inr (inr (inr (inr (inr (inl refl))))), refl)
      (file_of 6, inr (inr (inr (inr (inr (inr (inl refl)))))), refl) (file_of 7, inr (inr (inr (inr (inr (inr (inr (inl refl))))))), refl)

  pub opened_stands : Stands (first seed) (opened_store a b c d)
  unfolding first has_grant
  opened_stands = record {
    ready = record { files = refl; grants = refl; within = homes_within };
    folders = refl;
    holders = eight_holders;
    grants = λ who m w l. sym (no_grant_yet 32 (who * 8 + m));
    all = files_first;
    each = each_first;
    made = omega arith;
  }

-- a byte fits where one may
one_byte : (file_bytes : ℕ) → 1 ≤ file_bytes → option_map (λ (cause : Bool × Refusal). cause.1) (cond (nat_lt file_bytes 1) (Some (nat_lt file_bytes 1, TooLong)) None) ≡ None
one_byte n one = ap (λ (b : Bool). option_map (λ (cause : Bool × Refusal). cause.1) (cond b (Some (b, TooLong)) None)) (le-ltb n 1 one)

pub opening_accepted : (file_bytes : ℕ) → 1 ≤ file_bytes → (rest : List Request)
    → ((a b c d : List ℕ) → AcceptsAll file_bytes (opened_store a b c d) rest) → AcceptsAll file_bytes root_store (opening ++ rest)
unfolding opening plain_store
opening_accepted n one rest then =
    let fits = one_byte n one in (
      refl,
      λ k. (
        refl,
        λ k. (
          refl,
          λ k. (
            refl,
            λ k. (
              refl,
              λ k. (
                refl,
                λ k. (
                  refl,
                  λ k. (
                    refl,
                    λ k. (
                      fits,
                      λ k. (
                        fits,
                        λ k. (
                          fits,
                          λ k. (
                            fits,
                            λ k. (
                              fits,
                              λ k. (
                                fits,
                                λ k. (
                                  fits,
                                  λ k. (
                                    fits,
                                    λ k.
                                        (refl, λ a. (refl, λ b. (refl, λ c. (refl, λ d. then a b c d)))),
                                  ),
                                ),
                              ),
                            ),
                          ),
                        ),
                      ),
                    ),
                  ),
                ),
              ),
            ),
          ),
        ),
      ),
    )
