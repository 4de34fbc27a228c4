-- Two lists, item by item.
use Rattle.std.proofs.Common.{◌≡◌, ℕ, zero, suc, ◌+◌, ◌<◌, List, [], ◌∷◌, ◌++◌, length, get_or, map, take, refl, sym, ap, ◌∙◌, arith}
use Rattle.std.specs.List.{AllZip}
use Rattle.std.proofs.lemmas.List.{map-append, take_more}

pub zipped_at : {A B : Type 0} (R : A → B → Type 0) (xs : List A) (ys : List B) (i : ℕ) (d : A) (e : B) → AllZip R xs ys → i < length xs → R (get_or xs i d) (get_or ys i e)
zipped_at R [] ys i d e all lt = absurd (omega arith)
zipped_at R (x ∷ xs) [] i d e all lt = absurd all
zipped_at R (x ∷ xs) (y ∷ ys) zero d e all lt = all.0
zipped_at R (x ∷ xs) (y ∷ ys) (suc i) d e all lt = zipped_at R xs ys i d e all.1 (omega arith)

-- one pair more
pub zipped_more : {A B : Type 0} (R : A → B → Type 0) (xs : List A) (ys : List B) (x : A) (y : B) → AllZip R xs ys → R x y → AllZip R (xs ++ x ∷ []) (ys ++ y ∷ [])
zipped_more R [] [] x y all one = (one, tt)
zipped_more R [] (z ∷ zs) x y all one = absurd all
zipped_more R (w ∷ ws) [] x y all one = absurd all
zipped_more R (w ∷ ws) (z ∷ zs) x y all one = (all.0, zipped_more R ws zs x y all.1 one)

taken : {A : Type 0} (xs : List A) (n m : ℕ) (x : A) → m ≡ n + 1 → n < length xs → x ≡ get_or xs n x → take m xs ≡ take n xs ++ x ∷ []
taken xs n m x more lt is = ap (λ k. take k xs) more ∙ take_more xs n x lt ∙ ap (λ z. take n xs ++ z ∷ []) (sym is)

-- what holds of the first n pairs holds of one more
pub one_pair_more : {A B S : Type 0} (R : A → B → Type 0) (Q : A → S → Type 0) (row : S → B) (xs : List A) (ys : List B) (done after : List S) (n m : ℕ) (x : A) (y : B) (s : S)
    → m ≡ n + 1 → n < length xs → n < length ys → x ≡ get_or xs n x → y ≡ get_or ys n y → R x y → Q x s → y ≡ row s → after ≡ done ++ s ∷ []
    → AllZip R (take n xs) (take n ys) → AllZip Q (take n xs) done → take n ys ≡ map row done
    → AllZip R (take m xs) (take m ys) × AllZip Q (take m xs) after × (take m ys ≡ map row after)
one_pair_more R Q row xs ys done after n m x y s more left right is_x is_y holds fits is_row grown before own rows =
    let firsts = taken xs n m x more left is_x in
    let seconds = taken ys n m y more right is_y in (
      rw (firsts, seconds) (zipped_more R (take n xs) (take n ys) x y before holds),
      rw (firsts, grown) (zipped_more Q (take n xs) done x s own fits),
      seconds ∙ rw (rows, is_row) refl ∙ sym (map-append row done (s ∷ [])) ∙ ap (map row) (sym grown),
    )
