-- The bytes of the worked journal of a grant.
use Rattle.std.proofs.Common.{◌≡◌, inl, ℕ, ◌+◌, List, [], ◌∷◌, length, map, replicate, All, refl, lit≤, ◌∙◌}
use Rattle.std.proofs.lemmas.List.Elements.{All-nil, All-from_recursion, All-replicate}
use Rattle.commit_journal.specs.Image.{Batch}
use Rattle.cry_base.specs.Requests.{Request}
use Rattle.public_fold.specs.Journal.{nothing}
use Rattle.public_fold.specs.Journal.Entry.{Session, Made}
use Rattle.public_fold.specs.Lengths.{end_of, payloads_from}
use Rattle.public_fold.specs.Valid.{IsValid}
use Rattle.public_fold.specs.WorkedSteps.{journals, some_keys, does, fresh, granting}
use Rattle.journal_bytes.specs.Bytes.{batches_of, image_of}
use Rattle.journal_bytes.specs.Keys.{drawn_by, AreWhole}
use Rattle.journal_bytes.specs.WorkedBytes.{journal_bytes}
use Rattle.journal_bytes.proofs.Weighed.{Sized, valid_weighs, valid_payloads}

grant_valid : IsValid granting
unfolding journals
grant_valid = ((refl, (tt, ((refl, refl), ((refl, refl), ((refl, refl), ((refl, refl), tt))))), inl refl), lit≤ tt)

some_sized : (n : ℕ) → All (λ (key : List ℕ). length key ≡ 32) (some_keys n)
unfolding some_keys
some_sized n = All-replicate (λ (key : List ℕ). length key ≡ 32) n (replicate 32 1) refl

session_sized : Sized Session
unfolding drawn_by
session_sized = All-nil (λ (key : List ℕ). length key ≡ 32)

made_sized : (n : ℕ) → Sized (Made 1 (some_keys n))
unfolding drawn_by
made_sized n = some_sized n

does_sized : (n : ℕ) (r : Request) → Sized (does n r)
unfolding drawn_by does
does_sized n r = some_sized n

grant_whole : (owner : List ℕ) → length owner ≡ 32 → AreWhole owner granting
unfolding granting fresh
grant_whole owner size = record {
  owner_size = size;
  drawn_sizes = All-from_recursion Sized granting
      (session_sized, (made_sized 5, (session_sized, (does_sized 5 _, (does_sized 1 _, (does_sized 1 _, (does_sized 0 _, tt)))))));
}

grant_end : end_of granting ≡ 2558
unfolding journals
grant_end = refl

grant_payloads : map (λ len. 110 + len) (payloads_from nothing granting) ≡ 110 ∷ 667 ∷ 110 ∷ 872 ∷ 287 ∷ 245 ∷ 225 ∷ []
unfolding journals
grant_payloads = refl

pub grant_image : (owner : List ℕ) → length owner ≡ 32 → length (image_of owner granting) + 1 ≡ 2558
grant_image owner size = valid_weighs owner granting grant_valid (grant_whole owner size) ∙ grant_end

pub grant_batches : (owner : List ℕ) → length owner ≡ 32 →
    map (λ (b : Batch). 110 + length b.payload) (batches_of owner granting) ≡ 110 ∷ 667 ∷ 110 ∷ 872 ∷ 287 ∷ 245 ∷ 225 ∷ []
grant_batches owner size = valid_payloads owner granting grant_valid (grant_whole owner size) ∙ grant_payloads

pub grant_numbers : (owner : List ℕ) → map (λ (b : Batch). b.number) (batches_of owner granting) ≡ 1 ∷ 2 ∷ 3 ∷ 4 ∷ 5 ∷ 6 ∷ 7 ∷ []
unfolding journal_bytes
grant_numbers owner = refl

pub grant_epochs : (owner : List ℕ) → map (λ (b : Batch). b.epoch) (batches_of owner granting) ≡ 1 ∷ 1 ∷ 2 ∷ 2 ∷ 2 ∷ 2 ∷ 2 ∷ []
unfolding journal_bytes
grant_epochs owner = refl
