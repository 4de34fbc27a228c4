-- Lines in pieces.
use Rattle.std.proofs.Common.{◌≡◌, ℕ, zero, suc, ◌+◌, ◌-◌, ◌<◌, List, [], ◌∷◌, ◌++◌, map, refl, ap, sym, ◌∙◌, append_assoc, append-nil, arith, length}
use Rattle.std.specs.Fmt.{decimal}
use Rattle.std.proofs.lemmas.Fmt.{decimal_digit}
use Rattle.cry_base.specs.Texts.{ended_lines}
use Rattle.cry_base.specs.Requests.{Request}
use Rattle.store_gen.specs.Spelling.{spelled}
use Rattle.store_gen.specs.Rule.{asks, advanced, change_of, drawn, drawn_requests, opening, first, requests, script_of}
use Rattle.store_gen.specs.declared.change.Change.{Change}
use Rattle.store_gen.specs.declared.generator.Generator.{Generator}

-- a holder's number is one digit
pub one_digit : (who : ℕ) → who < 4 → decimal (who + 1) ≡ (49 + who) ∷ []
one_digit who h = let same : 48 + (who + 1) ≡ 49 + who = omega arith in decimal_digit (who + 1) (omega arith) ∙ ap (λ (d : ℕ). d ∷ []) same

-- the lines of requests, each with its newline
abbrev pub lines_of : List Request → List ℕ
lines_of rs = ended_lines (map spelled rs)

pub lines_of-append : (xs ys : List Request) → lines_of (xs ++ ys) ≡ lines_of xs ++ lines_of ys
unfolding ended_lines
lines_of-append [] ys = refl
lines_of-append (x ∷ xs) ys =
    ap (λ r. spelled x ++ 10 ∷ r) (lines_of-append xs ys) ∙ sym (append_assoc (spelled x) (10 ∷ lines_of xs) (lines_of ys))

-- one line more
pub drawn_more : (n : ℕ) (g : Generator) → lines_of (drawn_requests (suc n) g) ≡ spelled (asks (change_of (advanced g))) ++ 10 ∷ lines_of (drawn_requests n (drawn g))
unfolding ended_lines drawn_requests
drawn_more n g = refl

-- what a loop over lines keeps: the text so far and the lines to come are the whole
pub one_more : (count line : ℕ) (g h : Generator) (change : Change) (before after whole : List ℕ) → line < count → change ≡ change_of (advanced g) → h ≡ drawn g
    → after ≡ before ++ (spelled (asks change) ++ 10 ∷ []) → before ++ lines_of (drawn_requests (count - line) g) ≡ whole
    → after ++ lines_of (drawn_requests (count - (line + 1)) h) ≡ whole
one_more count line g h change before after whole within is_change is_drawn put is_whole =
    let rest : ℕ = count - (line + 1) in
    let left : count - line ≡ suc rest = omega arith in
    ap (λ (xs : List ℕ). xs ++ lines_of (drawn_requests rest h)) put
    ∙ append_assoc before (spelled (asks change) ++ 10 ∷ []) (lines_of (drawn_requests rest h))
    ∙ ap (λ (xs : List ℕ). before ++ xs) (append_assoc (spelled (asks change)) (10 ∷ []) (lines_of (drawn_requests rest h)))
    ∙ ap (λ (x : Change). before ++ (spelled (asks x) ++ 10 ∷ lines_of (drawn_requests rest h))) is_change
    ∙ ap (λ (x : Generator). before ++ (spelled (asks (change_of (advanced g))) ++ 10 ∷ lines_of (drawn_requests rest x))) is_drawn
    ∙ ap (λ (xs : List ℕ). before ++ xs) (sym (drawn_more rest g))
    ∙ ap (λ (n : ℕ). before ++ lines_of (drawn_requests n g)) (sym left)
    ∙ is_whole

pub none_more : (count line : ℕ) (g : Generator) (text whole : List ℕ) → ¬ line < count → text ++ lines_of (drawn_requests (count - line) g) ≡ whole → text ≡ whole
unfolding ended_lines drawn_requests
none_more count line g text whole past is_whole =
    let none : count - line ≡ 0 = omega arith in
    sym (append-nil text) ∙ ap (λ (n : ℕ). text ++ lines_of (drawn_requests n g)) (sym none) ∙ is_whole

-- a script's text is the opening's lines and those that are drawn
pub script_parts : (seed count : ℕ) → script_of seed count ≡ lines_of opening ++ lines_of (drawn_requests count (first seed))
unfolding script_of requests
script_parts seed count = lines_of-append opening (drawn_requests count (first seed))

length-drawn : (count : ℕ) (g : Generator) → length (drawn_requests count g) ≡ count
unfolding drawn_requests
length-drawn zero g = refl
length-drawn (suc count) g = ap suc (length-drawn count (drawn g))

pub length-requests : (seed count : ℕ) → length (requests seed count) ≡ 20 + count
unfolding requests opening
length-requests seed count = let n = length-drawn count (first seed) in omega (arith, n)
