-- Records against what is due, one after another.
use Rattle.std.proofs.Common.{◌≡◌, ℕ, suc, ◌+◌, ◌<◌, ◌≤◌, Bool, true, false, ◌&&◌, List, [], ◌∷◌, length, get_or, drop, map, refl, sym, ap, ◌∙◌}
use Rattle.std.proofs.lemmas.Bool.{and_right}
use Rattle.std.proofs.lemmas.List.{at_drop_more, at_drop_all}
use Rattle.public_fold.specs.Fitted.{are_due, has_content_head, has_heads, has_link_head}
use Rattle.public_fold.specs.Heads.{IsSkeleton, content_head, is_content_of}
use Rattle.public_fold.specs.KeyStep.{Stepped}
use Rattle.public_fold.specs.Records.{Content}
use Rattle.record_format.specs.Plain.{PlainContent, PlainPayload}
use Rattle.public_fold.specs.declared.heads.Skeleton.{Skeleton}

-- as many as are due, or they aren't those
pub not_as_many : (X Y : Type 0) (is_due : X → Y → Bool) (xs : List X) (ys : List Y) → (length xs ≡ length ys → ⊥) → are_due is_due xs ys ≡ false
unfolding are_due
not_as_many X Y is_due [] [] n = absurd (n refl)
not_as_many X Y is_due [] (y ∷ ys) n = refl
not_as_many X Y is_due (x ∷ xs) [] n = refl
not_as_many X Y is_due (x ∷ xs) (y ∷ ys) n = and_right (is_due x y) (are_due is_due xs ys) (not_as_many X Y is_due xs ys (λ e. n (ap suc e)))

-- the next one, and those behind it
pub due_more : (X Y Z : Type 0) (is_due : X → Y → Bool) (f : Z → Y) (xs : List X) (zs : List Z) (i : ℕ) (d : X) (e : Z) → i < length xs → i < length zs
    → are_due is_due (drop i xs) (map f (drop i zs)) ≡ (is_due (get_or xs i d) (f (get_or zs i e)) && are_due is_due (drop (i + 1) xs) (map f (drop (i + 1) zs)))
unfolding are_due
due_more X Y Z is_due f xs zs i d e h k =
    at_drop_more (λ (l : List X). are_due is_due l (map f (drop i zs))) xs i d h
    ∙ at_drop_more (λ (l : List Z). are_due is_due (get_or xs i d ∷ drop (i + 1) xs) (map f l)) zs i e k

pub due_all : (X Y Z : Type 0) (is_due : X → Y → Bool) (f : Z → Y) (xs : List X) (zs : List Z) (i : ℕ) → length xs ≤ i → length zs ≤ i → are_due is_due (drop i xs) (map f (drop i zs)) ≡ true
unfolding are_due
due_all X Y Z is_due f xs zs i h k =
    at_drop_all (λ (l : List X). are_due is_due l (map f (drop i zs))) xs i h
    ∙ at_drop_all (λ (l : List Z). are_due is_due [] (map f l)) zs i k

-- the same for links, which are compared as they are
pub link_more : (X Y : Type 0) (is_due : X → Y → Bool) (xs : List X) (ys : List Y) (i : ℕ) (d : X) (e : Y) → i < length xs → i < length ys
    → are_due is_due (drop i xs) (drop i ys) ≡ (is_due (get_or xs i d) (get_or ys i e) && are_due is_due (drop (i + 1) xs) (drop (i + 1) ys))
unfolding are_due
link_more X Y is_due xs ys i d e h k =
    at_drop_more (λ (l : List X). are_due is_due l (drop i ys)) xs i d h
    ∙ at_drop_more (λ (l : List Y). are_due is_due (get_or xs i d ∷ drop (i + 1) xs) l) ys i e k

pub link_all : (X Y : Type 0) (is_due : X → Y → Bool) (xs : List X) (ys : List Y) (i : ℕ) → length xs ≤ i → length ys ≤ i → are_due is_due (drop i xs) (drop i ys) ≡ true
unfolding are_due
link_all X Y is_due xs ys i h k =
    at_drop_all (λ (l : List X). are_due is_due l (drop i ys)) xs i h
    ∙ at_drop_all (λ (l : List Y). are_due is_due [] l) ys i k

-- contents that are due, by their heads alone
heads_due : (cs : List Content) (rs : List PlainContent) → are_due is_content_of (map content_head cs) rs ≡ are_due has_content_head cs rs
unfolding are_due is_content_of has_content_head
heads_due [] [] = refl
heads_due [] (r ∷ rs) = refl
heads_due (c ∷ cs) [] = refl
heads_due (c ∷ cs) (r ∷ rs) = ap (λ b. has_content_head c r && b) (heads_due cs rs)

-- a payload against a skeleton
pub skeleton_due : (step : Stepped) (s : Skeleton) (p : PlainPayload) → IsSkeleton step s → (are_due has_link_head s.links.items p.links && are_due is_content_of s.contents.items p.contents) ≡ has_heads step p
unfolding has_heads
skeleton_due step s p is =
    (λ i. are_due has_link_head (is.links i) p.links && are_due is_content_of (is.contents i) p.contents)
    ∙ ap (λ b. are_due has_link_head step.links p.links && b) (heads_due step.contents p.contents)

pub as_long : (X Y : Type 0) (f : X → Y) (xs : List X) → length (map f xs) ≡ length xs
as_long X Y f [] = refl
as_long X Y f (x ∷ xs) = ap suc (as_long X Y f xs)

-- what the comparison of one record says of all
pub link_past : (X Y : Type 0) (is_due : X → Y → Bool) (xs : List X) (ys : List Y) (i : ℕ) (x : X) (e : Y) (b all : Bool) → i < length xs → i < length ys → x ≡ get_or xs i x → b ≡ is_due x (get_or ys i e)
    → are_due is_due (drop i xs) (drop i ys) ≡ all → (b && are_due is_due (drop (i + 1) xs) (drop (i + 1) ys)) ≡ all
link_past X Y is_due xs ys i x e b all h k at read so_far =
    ap (λ t. t && are_due is_due (drop (i + 1) xs) (drop (i + 1) ys)) (read ∙ ap (λ (z : X). is_due z (get_or ys i e)) at)
    ∙ sym (link_more X Y is_due xs ys i x e h k)
    ∙ so_far

pub content_past : (X Y Z : Type 0) (is_due : X → Y → Bool) (f : Z → Y) (xs : List X) (zs : List Z) (i : ℕ) (d : X) (z : Z) (b all : Bool) → i < length xs → i < length zs → z ≡ get_or zs i z → b ≡ is_due (get_or xs i d) (f z)
    → are_due is_due (drop i xs) (map f (drop i zs)) ≡ all → (b && are_due is_due (drop (i + 1) xs) (map f (drop (i + 1) zs))) ≡ all
content_past X Y Z is_due f xs zs i d z b all h k at read so_far =
    ap (λ t. t && are_due is_due (drop (i + 1) xs) (map f (drop (i + 1) zs))) (read ∙ ap (λ (y : Z). is_due (get_or xs i d) (f y)) at)
    ∙ sym (due_more X Y Z is_due f xs zs i d z h k)
    ∙ so_far
