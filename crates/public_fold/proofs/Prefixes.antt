-- What holds of a journal holds of its first entries.
use Rattle.std.proofs.Common.{◌≡◌, ℕ, ◌+◌, ◌≤◌, List, [], ◌∷◌, ◌++◌, length, refl, sym, ap, subst, arith}
use Rattle.std.specs.List.{sum_by}
use Rattle.std.proofs.lemmas.List.Sums.{sum_by-append}
use Rattle.cry_base.specs.Layout.{batch_len, header_len}
use Rattle.cry_base.specs.Limits.{most_store_bytes}
use Rattle.public_fold.specs.Journal.{Entry, Journal, Stand, nothing, entry_step, stand_then, stand_after, steps_from, steps_of}
use Rattle.public_fold.specs.Journal.Entry.{Session, Made, Did, Upgraded}
use Rattle.public_fold.specs.Lengths.{entry_payload, payloads_from, end_of}
use Rattle.public_fold.specs.Valid.{FollowOn, BeginsWell, IsValid}

pub stand_after-append : (at : Stand) (xs ys : List Entry) → stand_after at (xs ++ ys) ≡ stand_after (stand_after at xs) ys
unfolding stand_after
stand_after-append at [] ys = refl
stand_after-append at (x ∷ xs) ys = stand_after-append (stand_then at x) xs ys

pub steps_from-append : (at : Stand) (xs ys : List Entry) → steps_from at (xs ++ ys) ≡ steps_from at xs ++ steps_from (stand_after at xs) ys
unfolding steps_from stand_after
steps_from-append at [] ys = refl
steps_from-append at (x ∷ xs) ys = ap (λ l. entry_step at x ∷ l) (steps_from-append (stand_then at x) xs ys)

-- the steps of a journal stay, whatever follows
pub steps_grow : (m more : Journal) → steps_of (m ++ more) ≡ steps_of m ++ steps_from (stand_after nothing m) more
unfolding steps_of
steps_grow m more = steps_from-append nothing m more

payloads-append : (at : Stand) (xs ys : List Entry) → payloads_from at (xs ++ ys) ≡ payloads_from at xs ++ payloads_from (stand_after at xs) ys
unfolding payloads_from stand_after
payloads-append at [] ys = refl
payloads-append at (x ∷ xs) ys = ap (λ l. entry_payload at x ∷ l) (payloads-append (stand_then at x) xs ys)

sum_grows : (xs ys : List ℕ) → header_len + sum_by (λ len. batch_len + len) xs ≤ header_len + sum_by (λ len. batch_len + len) (xs ++ ys)
sum_grows xs ys = rw (sum_by-append (λ len. batch_len + len) xs ys) (omega arith)

-- the log never gets shorter
pub end_grows : (m more : Journal) → end_of m ≤ end_of (m ++ more)
unfolding end_of
end_grows m more = subst (λ l. header_len + sum_by (λ len. batch_len + len) (payloads_from nothing m) ≤ header_len + sum_by (λ len. batch_len + len) l) (sym (payloads-append nothing m more))
    (sum_grows (payloads_from nothing m) (payloads_from (stand_after nothing m) more))

follow_front : (at : Stand) (xs ys : List Entry) → FollowOn at (xs ++ ys) → FollowOn at xs
follow_front at [] ys f = tt
follow_front at (x ∷ xs) ys f = (f.0, follow_front (stand_then at x) xs ys f.1)

begins_front : (m more : Journal) → 2 ≤ length m → BeginsWell (m ++ more) → BeginsWell m
begins_front [] more h b = absurd (omega arith)
begins_front (Session ∷ []) more h b = absurd (omega arith)
begins_front (Session ∷ Session ∷ es) more h b = b
begins_front (Session ∷ Made version keys ∷ es) more h b = (b.0, follow_front (stand_then (stand_then nothing Session) (Made version keys)) es more b.1, b.2)
begins_front (Session ∷ Did request keys ∷ es) more h b = b
begins_front (Session ∷ Upgraded keys ∷ es) more h b = b
begins_front (Made version keys ∷ es) more h b = b
begins_front (Upgraded keys ∷ es) more h b = b
begins_front (Did request keys ∷ es) more h b = b

pub prefix_valid : (m more : Journal) → 2 ≤ length m → IsValid (m ++ more) → IsValid m
prefix_valid m more h v = (begins_front m more h v.0, let g : end_of m ≤ end_of (m ++ more) = end_grows m more in let w : end_of (m ++ more) ≤ most_store_bytes = v.1 in omega arith)
