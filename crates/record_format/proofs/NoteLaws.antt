-- What is read as a note is spelled so, and what is spelled so is read.
use Rattle.std.proofs.Common.{◌≡◌, ℕ, zero, suc, ◌^◌, ◌<◌, ◌≤◌, Bool, true, false, cond, eqb, leb, ◌&&◌, ◌||◌, List, [], ◌∷◌, ◌++◌, length, Ok, refl, ap, subst, ◌∙◌, append_assoc, arith, lit≤}
use Rattle.record_format.specs.declared.note.Note.{Note}
use Rattle.record_format.specs.declared.note.Note.TheVariants.{Root, NewHolder, NewFolder, NewFile, Rewrite, NameFile, NameFolder, DropFile, DropFolder, ShiftFile, ShiftFolder, Give, Take, StrictRoot, Upgrade}
use Rattle.record_format.specs.Fields.{Read}
use Rattle.record_format.specs.Reading.{note_of_none, note_of_one, note_of_two, new_holder_at, one_id_at, two_ids_at, note_fields_at, note_at}
use Rattle.record_format.specs.Spelling.{be32, spell_note}
use Rattle.record_format.specs.Spellable.{IsNote}
use Rattle.record_format.proofs.FieldLaws.{IsBytes, IsField, took_then, ok_is, again_then, Within, Within-more, within_then, byte_field, bytes_field, field32}

-- what is read behind a code is a note of that code
abbrev AreFields : ℕ → (List ℕ → Read Note) → Type 0
AreFields code read = (bytes : List ℕ) (x : Note × List ℕ) → IsBytes bytes → read bytes ≡ Ok x → (code ∷ bytes ≡ spell_note x.0 ++ x.1) × IsNote x.0

new_holder_takes : AreFields 2 new_holder_at
unfolding new_holder_at spell_note
new_holder_takes bytes x are e =
    took_then field32 _ bytes x are e (λ holder r1 p1 a1 f1 e1.
    took_then (bytes_field 32) _ r1 x a1 e1 (λ check r2 p2 a2 f2 e2.
    let made : Note = NewHolder (record { 0 = holder }) check in
    let whole : 2 ∷ bytes ≡ spell_note made ++ r2 = rw (p1, p2) (ap (λ (b : List ℕ). 2 ∷ b) (simp append_assoc)) in
    subst (λ (y : Note × List ℕ). (2 ∷ bytes ≡ spell_note y.0 ++ y.1) × IsNote y.0) (ok_is (made, r2) x e2) (whole, (f1, f2))))

one_takes : (code : ℕ) → ((id : ℕ) → spell_note (note_of_one code id) ≡ code ∷ be32 id) → ((id : ℕ) → id < 2 ^ 32 → IsNote (note_of_one code id)) → AreFields code (one_id_at code)
unfolding one_id_at
one_takes code spelled fit bytes x are e =
    took_then field32 _ bytes x are e (λ id r1 p1 a1 f1 e1.
    let made : Note = note_of_one code id in
    let whole : code ∷ bytes ≡ spell_note made ++ r1 = rw (spelled id, p1) refl in
    subst (λ (y : Note × List ℕ). (code ∷ bytes ≡ spell_note y.0 ++ y.1) × IsNote y.0) (ok_is (made, r1) x e1) (whole, fit id f1))

two_takes : (code : ℕ) → ((first second : ℕ) → spell_note (note_of_two code first second) ≡ code ∷ (be32 first ++ be32 second)) → ((first second : ℕ) → first < 2 ^ 32 → second < 2 ^ 32 → IsNote (note_of_two code first second)) → AreFields code (two_ids_at code)
unfolding two_ids_at
two_takes code spelled fit bytes x are e =
    took_then field32 _ bytes x are e (λ first r1 p1 a1 f1 e1.
    took_then field32 _ r1 x a1 e1 (λ second r2 p2 a2 f2 e2.
    let made : Note = note_of_two code first second in
    let whole : code ∷ bytes ≡ spell_note made ++ r2 = rw (spelled first second, p1, p2) (ap (λ (b : List ℕ). code ∷ b) (simp append_assoc)) in
    subst (λ (y : Note × List ℕ). (code ∷ bytes ≡ spell_note y.0 ++ y.1) × IsNote y.0) (ok_is (made, r2) x e2) (whole, fit first second f1 f2)))

alone_takes : (code : ℕ) → spell_note (note_of_none code) ≡ code ∷ [] → IsNote (note_of_none code) → AreFields code (λ bytes. Ok (note_of_none code, bytes))
alone_takes code spelled fits bytes x are e =
    let made : Note = note_of_none code in
    let whole : code ∷ bytes ≡ spell_note made ++ bytes = rw spelled refl in
    subst (λ (y : Note × List ℕ). (code ∷ bytes ≡ spell_note y.0 ++ y.1) × IsNote y.0) (ok_is (made, bytes) x e) (whole, fits)

fields_take : (code : ℕ) → 1 ≤ code → code ≤ 15 → AreFields code (note_fields_at code)
unfolding note_fields_at spell_note
fields_take zero from to = absurd (omega arith)
fields_take (suc zero) from to = alone_takes 1 refl tt
fields_take (suc (suc zero)) from to = new_holder_takes
fields_take (suc (suc (suc zero))) from to = two_takes 3 (λ a b. refl) (λ a b p q. (p, q))
fields_take (suc (suc (suc (suc zero)))) from to = two_takes 4 (λ a b. refl) (λ a b p q. (p, q))
fields_take (suc (suc (suc (suc (suc zero))))) from to = one_takes 5 (λ id. refl) (λ id p. p)
fields_take (suc (suc (suc (suc (suc (suc zero)))))) from to = one_takes 6 (λ id. refl) (λ id p. p)
fields_take (suc (suc (suc (suc (suc (suc (suc zero))))))) from to = one_takes 7 (λ id. refl) (λ id p. p)
fields_take (suc (suc (suc (suc (suc (suc (suc (suc zero)))))))) from to = one_takes 8 (λ id. refl) (λ id p. p)
fields_take (suc (suc (suc (suc (suc (suc (suc (suc (suc zero))))))))) from to = one_takes 9 (λ id. refl) (λ id p. p)
fields_take (suc (suc (suc (suc (suc (suc (suc (suc (suc (suc zero)))))))))) from to = two_takes 10 (λ a b. refl) (λ a b p q. (p, q))
fields_take (suc (suc (suc (suc (suc (suc (suc (suc (suc (suc (suc zero))))))))))) from to = two_takes 11 (λ a b. refl) (λ a b p q. (p, q))
fields_take (suc (suc (suc (suc (suc (suc (suc (suc (suc (suc (suc (suc zero)))))))))))) from to = two_takes 12 (λ a b. refl) (λ a b p q. (p, q))
fields_take (suc (suc (suc (suc (suc (suc (suc (suc (suc (suc (suc (suc (suc zero))))))))))))) from to = two_takes 13 (λ a b. refl) (λ a b p q. (p, q))
fields_take (suc (suc (suc (suc (suc (suc (suc (suc (suc (suc (suc (suc (suc (suc zero)))))))))))))) from to = alone_takes 14 refl tt
fields_take (suc (suc (suc (suc (suc (suc (suc (suc (suc (suc (suc (suc (suc (suc (suc zero))))))))))))))) from to = alone_takes 15 refl tt
fields_take (suc (suc (suc (suc (suc (suc (suc (suc (suc (suc (suc (suc (suc (suc (suc (suc code)))))))))))))))) from to = absurd (omega arith)

note_takes : (bytes : List ℕ) (x : Note × List ℕ) → IsBytes bytes → note_at bytes ≡ Ok x → (bytes ≡ spell_note x.0 ++ x.1) × IsNote x.0
unfolding note_at
note_takes bytes x are e =
    took_then (byte_field 1 15) _ bytes x are e (λ code r1 p1 a1 f1 e1.
    let took = fields_take code f1.0 f1.1 r1 x a1 e1 in
    (rw p1 took.0, took.1))

one_again : (code id : ℕ) (rest : List ℕ) → 1 ≤ code → code ≤ 15 → ((bytes : List ℕ) → note_fields_at code bytes ≡ one_id_at code bytes) → id < 2 ^ 32 → note_at (code ∷ (be32 id ++ rest)) ≡ Ok (note_of_one code id, rest)
unfolding note_at one_id_at
one_again code id rest from to is_one fits =
    again_then (byte_field 1 15) _ code (be32 id ++ rest) (from, to) ∙ (is_one (be32 id ++ rest) ∙ again_then field32 _ id rest fits)

two_again : (code first second : ℕ) (rest : List ℕ) → 1 ≤ code → code ≤ 15 → ((bytes : List ℕ) → note_fields_at code bytes ≡ two_ids_at code bytes) → (first < 2 ^ 32) × (second < 2 ^ 32)
    → note_at (code ∷ ((be32 first ++ be32 second) ++ rest)) ≡ Ok (note_of_two code first second, rest)
unfolding note_at two_ids_at
two_again code first second rest from to is_two fits =
    ap (λ (b : List ℕ). note_at (code ∷ b)) (append_assoc (be32 first) (be32 second) rest)
    ∙ (again_then (byte_field 1 15) _ code (be32 first ++ (be32 second ++ rest)) (from, to)
    ∙ (is_two (be32 first ++ (be32 second ++ rest))
    ∙ (again_then field32 _ first (be32 second ++ rest) fits.0
    ∙ again_then field32 _ second rest fits.1)))

note_again : (note : Note) (rest : List ℕ) → IsNote note → note_at (spell_note note ++ rest) ≡ Ok (note, rest)
unfolding spell_note note_at note_fields_at new_holder_at
note_again Root rest fits = again_then (byte_field 1 15) _ 1 rest (lit≤ tt, lit≤ tt)
note_again (NewHolder holder check) rest fits =
    ap (λ (b : List ℕ). note_at (2 ∷ b)) (append_assoc (be32 holder.0) check rest)
    ∙ (again_then (byte_field 1 15) _ 2 (be32 holder.0 ++ (check ++ rest)) (lit≤ tt, lit≤ tt)
    ∙ (again_then field32 _ holder.0 (check ++ rest) fits.0
    ∙ again_then (bytes_field 32) _ check rest fits.1))
note_again (NewFolder folder parent) rest fits = two_again 3 folder.0 parent.0 rest (lit≤ tt) (lit≤ tt) (λ b. refl) fits
note_again (NewFile file folder) rest fits = two_again 4 file.0 folder.0 rest (lit≤ tt) (lit≤ tt) (λ b. refl) fits
note_again (Rewrite file) rest fits = one_again 5 file.0 rest (lit≤ tt) (lit≤ tt) (λ b. refl) fits
note_again (NameFile file) rest fits = one_again 6 file.0 rest (lit≤ tt) (lit≤ tt) (λ b. refl) fits
note_again (NameFolder folder) rest fits = one_again 7 folder.0 rest (lit≤ tt) (lit≤ tt) (λ b. refl) fits
note_again (DropFile file) rest fits = one_again 8 file.0 rest (lit≤ tt) (lit≤ tt) (λ b. refl) fits
note_again (DropFolder folder) rest fits = one_again 9 folder.0 rest (lit≤ tt) (lit≤ tt) (λ b. refl) fits
note_again (ShiftFile file into) rest fits = two_again 10 file.0 into.0 rest (lit≤ tt) (lit≤ tt) (λ b. refl) fits
note_again (ShiftFolder folder into) rest fits = two_again 11 folder.0 into.0 rest (lit≤ tt) (lit≤ tt) (λ b. refl) fits
note_again (Give holder folder) rest fits = two_again 12 holder.0 folder.0 rest (lit≤ tt) (lit≤ tt) (λ b. refl) fits
note_again (Take holder folder) rest fits = two_again 13 holder.0 folder.0 rest (lit≤ tt) (lit≤ tt) (λ b. refl) fits
note_again StrictRoot rest fits = again_then (byte_field 1 15) _ 14 rest (lit≤ tt, lit≤ tt)
note_again Upgrade rest fits = again_then (byte_field 1 15) _ 15 rest (lit≤ tt, lit≤ tt)

one_of_four : (n : ℕ) (a b c : Bool) (p q r s : Read Note) → Within n p → Within n q → Within n r → Within n s → Within n (cond a p (cond b q (cond c r s)))
one_of_four n true b c p q r s wp wq wr ws = wp
one_of_four n false true c p q r s wp wq wr ws = wq
one_of_four n false false true p q r s wp wq wr ws = wr
one_of_four n false false false p q r s wp wq wr ws = ws

new_holder_within : (bytes : List ℕ) → Within (length bytes) (new_holder_at bytes)
unfolding new_holder_at
new_holder_within bytes =
    within_then field32 (length bytes) _ bytes (omega arith) (λ holder l1.
    within_then (bytes_field 32) (length bytes) _ holder.1 l1 (λ check l2. l2))

one_within : (code : ℕ) (bytes : List ℕ) → Within (length bytes) (one_id_at code bytes)
unfolding one_id_at
one_within code bytes = within_then field32 (length bytes) _ bytes (omega arith) (λ id l1. l1)

two_within : (code : ℕ) (bytes : List ℕ) → Within (length bytes) (two_ids_at code bytes)
unfolding two_ids_at
two_within code bytes =
    within_then field32 (length bytes) _ bytes (omega arith) (λ first l1.
    within_then field32 (length bytes) _ first.1 l1 (λ second l2. l2))

fields_within : (code : ℕ) (bytes : List ℕ) → Within (length bytes) (note_fields_at code bytes)
unfolding note_fields_at
fields_within code bytes =
    one_of_four (length bytes) (eqb code 1 || leb 14 code) (eqb code 2) (leb 5 code && leb code 9) (Ok (note_of_none code, bytes)) (new_holder_at bytes) (one_id_at code bytes) (two_ids_at code bytes)
    (omega arith) (new_holder_within bytes) (one_within code bytes) (two_within code bytes)

note_within : (bytes : List ℕ) → Within (length bytes) (note_at bytes)
unfolding note_at
note_within bytes =
    within_then (byte_field 1 15) (length bytes) _ bytes (omega arith) (λ code l1.
    Within-more (length code.1) (length bytes) (note_fields_at code.0 code.1) l1 (fields_within code.0 code.1))

pub note_field : IsField note_at spell_note IsNote
note_field = record { takes = note_takes; again = note_again; within = note_within }
