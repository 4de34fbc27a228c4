-- The bytes that were drawn, cut into keys.
use Rattle.std.proofs.Common.{◌≡◌, ℕ, ◌+◌, ◌*◌, ◌<◌, ◌^◌, List, [], ◌∷◌, ◌++◌, length, take, drop, min, Err, arith, sym, ap, subst, ◌∙◌, append-nil, length-append}
use Rattle.std.proofs.lemmas.Grind.{flat_map-append}
use Rattle.std.proofs.lemmas.List.Elements.{All-append, All-cons, All-nil}
use Rattle.std.proofs.Math.Seq.{take-add, take-append_seam}
use Rattle.cry_base.specs.Listed.{Listed}
use Rattle.key_links.specs.Fresh.{piece}
use Rattle.store_owner.specs.Drawing.{AreKeys, Draws, DrawsKeys, FailsByCount, FillsByCount, IsFaultFor, IsFillFault, IsShortOf, joined}
use Rattle.store_owner.specs.declared.apply_fault.ApplyFault.{ApplyFault}
use Rattle.store_owner.specs.declared.drawing.DrawFault.{DrawFault}
use Rattle.store_owner.specs.declared.drawing.DrawFault.TheVariants as drawing

-- one key more
pub joined_more : (drawn more : List (List ℕ)) (key bytes : List ℕ) (i : ℕ) → more ≡ drawn ++ key ∷ [] → joined drawn ≡ take (32 * i) bytes → key ≡ piece bytes i → joined more ≡ take (32 * (i + 1)) bytes
joined_more drawn more key bytes i is so_far at =
    let next : 32 * i + 32 ≡ 32 * (i + 1) = omega arith in
    ap joined is
    ∙ flat_map-append (λ (k : List ℕ). k) drawn (key ∷ [])
    ∙ ap (λ z. z ++ (key ++ [])) so_far
    ∙ ap (λ z. take (32 * i) bytes ++ z) (append-nil key ∙ at)
    ∙ sym (take-add (32 * i) 32 bytes)
    ∙ ap (λ n. take n bytes) next

pub length-snoc : (xs : List (List ℕ)) (x : List ℕ) → length (xs ++ x ∷ []) ≡ length xs + 1
length-snoc xs x = simp length-append (omega arith)

pub keys_more : (drawn more : List (List ℕ)) (key : List ℕ) → more ≡ drawn ++ key ∷ [] → AreKeys drawn → length key ≡ 32 → AreKeys more
keys_more drawn more key is so_far long = subst AreKeys (sym is) (All-append (λ (k : List ℕ). length k ≡ 32) drawn (key ∷ []) so_far (All-cons (λ (k : List ℕ). length k ≡ 32) key [] long (All-nil (λ (k : List ℕ). length k ≡ 32))))

-- a buffer that was filled as a whole
pub filled_whole : (n : ℕ) (new old : List ℕ) → length new ≡ n → take n (new ++ drop (length new) old) ≡ new
filled_whole n new old long = ap (λ m. take m (new ++ drop (length new) old)) (sym long) ∙ take-append_seam new (drop (length new) old)

min-is : (n : ℕ) → n < 2 ^ 32 → min n 4294967295 ≡ n
min-is n small = grind arith

-- a source that failed or ended
pub bytes_gone : (keys len need : ℕ) (fault : DrawFault) (answer : ApplyFault) (buf x y : List ℕ) → IsFaultFor fault need answer → need ≡ 32 * keys → len ≡ 32 * keys → IsShortOf len fault
    → Draws {U = Unit {0}} (Err fault) buf x y → DrawsKeys keys (Err answer) x y
bytes_gone keys len need drawing.Failed answer buf x y is whole all short drew = subst (λ (a : ApplyFault). DrawsKeys keys (Err a) x y) (sym is) drew
bytes_gone keys len need (drawing.Short left) answer buf x y is whole all short drew =
    subst (λ (a : ApplyFault). DrawsKeys keys (Err a) x y) (sym is)
    (λ small. drew.0 ∙ sym (min-is left (omega arith)), drew.1)

pub fault_told : (keys len need : ℕ) (fault : DrawFault) (answer : ApplyFault) → IsFaultFor fault need answer → need ≡ 32 * keys → len ≡ 32 * keys → IsShortOf len fault → IsFillFault {T = Listed (List ℕ)} keys (Err answer)
fault_told keys len need drawing.Failed answer is whole all short = subst (λ (a : ApplyFault). IsFillFault {T = Listed (List ℕ)} keys (Err a)) (sym is) tt
fault_told keys len need (drawing.Short left) answer is whole all short =
    subst (λ (a : ApplyFault). IsFillFault {T = Listed (List ℕ)} keys (Err a)) (sym is)
    (λ small. let had : min left 4294967295 ≡ left = min-is left (omega arith) in let wanted : min need 4294967295 ≡ need = min-is need (omega arith) in (wanted ∙ whole, omega arith))

pub fault_counted : (need old new : ℕ) (fault : DrawFault) (answer : ApplyFault) → IsFaultFor fault need answer → FailsByCount {U = Unit {0}} (Err fault) old new → FillsByCount {T = Listed (List ℕ)} (Err answer) old new
fault_counted need old new drawing.Failed answer is counts = subst (λ (a : ApplyFault). FillsByCount {T = Listed (List ℕ)} (Err a) old new) (sym is) counts
fault_counted need old new (drawing.Short left) answer is counts = subst (λ (a : ApplyFault). FillsByCount {T = Listed (List ℕ)} (Err a) old new) (sym is) counts
