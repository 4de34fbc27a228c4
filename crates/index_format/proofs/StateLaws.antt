-- What is read as a state, a body or a head is spelled so, and what is spelled so is read.
use Rattle.std.proofs.Common.{◌≡◌, ℕ, ◌^◌, ◌<◌, true, false, cond, List, [], ◌++◌, length, Ok, Err, refl, sym, ap, subst, ◌∙◌, append_assoc, All, arith}
use Rattle.std.specs.List.{flat_map}
use Rattle.std.specs.Str.{bytes_eq}
use Rattle.std.proofs.lemmas.List.{append-nil}
use Rattle.std.proofs.lemmas.Slice.Eq.{bytes_eq-Decides}
use Rattle.index_format.specs.Plain.{PlainState, IndexBody}
use Rattle.index_format.specs.declared.head.IndexHead.{IndexHead}
use Rattle.index_format.specs.Reading.{counted_at, state_at, body_at, magic_at, head_at}
use Rattle.index_format.specs.Spelling.{spell_numbers, spell_folder, spell_file, spell_check, spell_grant, spell_key, spell_mark, spell_link_row, spell_content_row, counted, spell_state, spell_body, magic, spell_head}
use Rattle.index_format.specs.Writable.{IsWritable, IsWritableBody, IsHead}
use Rattle.index_format.proofs.RowLaws.{numbers_field, folder_field, file_field, check_field, grant_field, key_field, mark_field, link_row_field, content_row_field}
use Rattle.record_format.specs.Fields.{Read, repeat_at}
use Rattle.record_format.specs.Spelling.{be32}
use Rattle.record_format.proofs.FieldLaws.{IsBytes, IsField, took_then, ok_is, guard_ok, again_then, Within, Within-more, within_then, bytes_field, field32, repeat_field}

-- ---- rows behind their number

counted_parts : {A : Type 0} (spell : A → List ℕ) (rows : List A) (rest : List ℕ) → counted spell rows ++ rest ≡ be32 (length rows) ++ (flat_map spell rows ++ rest)
unfolding counted
counted_parts spell rows rest = append_assoc (be32 (length rows)) (flat_map spell rows) rest

counted_takes : {A : Type 0} {read : List ℕ → Read A} {spell : A → List ℕ} {Fits : A → Type 0} → IsField read spell Fits → (bytes : List ℕ) (x : List A × List ℕ) → IsBytes bytes → counted_at read bytes ≡ Ok x
    → (bytes ≡ counted spell x.0 ++ x.1) × ((length x.0 < 2 ^ 32) × All Fits x.0)
unfolding counted_at
counted_takes {spell} field bytes x are e =
    took_then field32 _ bytes x are e (λ count r1 p1 a1 f1 e1.
    let took = (repeat_field field count).takes r1 x a1 e1 in
    let whole : bytes ≡ counted spell x.0 ++ x.1 = rw (counted_parts spell x.0 x.1, p1, took.0, took.1.0) refl in
    (whole, (rw took.1.0 f1, took.1.1)))

counted_again : {A : Type 0} {read : List ℕ → Read A} {spell : A → List ℕ} {Fits : A → Type 0} → IsField read spell Fits → (rows : List A) (rest : List ℕ) → (length rows < 2 ^ 32) × All Fits rows
    → counted_at read (counted spell rows ++ rest) ≡ Ok (rows, rest)
unfolding counted_at
counted_again {read} {spell} field rows rest fits =
    ap (counted_at read) (counted_parts spell rows rest)
    ∙ (again_then field32 _ (length rows) _ fits.0
    ∙ (repeat_field field (length rows)).again rows rest (refl, fits.1))

counted_within : {A : Type 0} {read : List ℕ → Read A} {spell : A → List ℕ} {Fits : A → Type 0} → IsField read spell Fits → (bytes : List ℕ) → Within (length bytes) (counted_at read bytes)
unfolding counted_at
counted_within {read} field bytes =
    let n = length bytes in
    within_then field32 n _ bytes (omega arith) (λ count l1.
    Within-more (length count.1) n (repeat_at read count.0 count.1) l1 ((repeat_field field count.0).within count.1))

pub counted_field : {A : Type 0} {read : List ℕ → Read A} {spell : A → List ℕ} {Fits : A → Type 0} → IsField read spell Fits → IsField (counted_at read) (counted spell) (λ rows. (length rows < 2 ^ 32) × All Fits rows)
counted_field field = record { takes = counted_takes field; again = counted_again field; within = counted_within field }

-- ---- a state

state_parts : (s : PlainState) (rest : List ℕ) → spell_state s ++ rest
    ≡ spell_numbers s.numbers ++ (counted spell_folder s.folders ++ (counted spell_file s.files ++ (flat_map spell_check s.checks
    ++ (counted spell_grant s.grants ++ (counted spell_key s.keys ++ (counted spell_mark s.marks ++ rest))))))
unfolding spell_state
state_parts s rest = simp append_assoc

state_takes : (bytes : List ℕ) (x : PlainState × List ℕ) → IsBytes bytes → state_at bytes ≡ Ok x → (bytes ≡ spell_state x.0 ++ x.1) × IsWritable x.0
unfolding state_at
state_takes bytes x are e =
    took_then numbers_field _ bytes x are e (λ numbers r1 p1 a1 f1 e1.
    took_then (counted_field folder_field) _ r1 x a1 e1 (λ folders r2 p2 a2 f2 e2.
    took_then (counted_field file_field) _ r2 x a2 e2 (λ files r3 p3 a3 f3 e3.
    took_then (repeat_field check_field numbers.holders_made) _ r3 x a3 e3 (λ checks r4 p4 a4 f4 e4.
    took_then (counted_field grant_field) _ r4 x a4 e4 (λ grants r5 p5 a5 f5 e5.
    took_then (counted_field key_field) _ r5 x a5 e5 (λ keys r6 p6 a6 f6 e6.
    took_then (counted_field mark_field) _ r6 x a6 e6 (λ marks r7 p7 a7 f7 e7.
    let made : PlainState = record {
      numbers = numbers;
      folders = folders;
      files = files;
      checks = checks;
      grants = grants;
      keys = keys;
      marks = marks;
    } in
    let whole : bytes ≡ spell_state made ++ r7 = rw (state_parts made r7, p1, p2, p3, p4, p5, p6, p7) refl in
    let fits : IsWritable made = record {
      few = record { folders = f2.0; files = f3.0; checks = f4.0; grants = f5.0; keys = f6.0; marks = f7.0 };
      numbers = f1;
      folders = f2.1;
      files = f3.1;
      checks = f4.1;
      grants = f5.1;
      keys = f6.1;
      marks = f7.1;
    } in
    subst (λ (y : PlainState × List ℕ). (bytes ≡ spell_state y.0 ++ y.1) × IsWritable y.0) (ok_is (made, r7) x e7) (whole, fits))))))))

state_again : (s : PlainState) (rest : List ℕ) → IsWritable s → state_at (spell_state s ++ rest) ≡ Ok (s, rest)
unfolding state_at
state_again s rest fits =
    ap state_at (state_parts s rest)
    ∙ (again_then numbers_field _ s.numbers _ fits.numbers
    ∙ (again_then (counted_field folder_field) _ s.folders _ (fits.few.folders, fits.folders)
    ∙ (again_then (counted_field file_field) _ s.files _ (fits.few.files, fits.files)
    ∙ (again_then (repeat_field check_field s.numbers.holders_made) _ s.checks _ (fits.few.checks, fits.checks)
    ∙ (again_then (counted_field grant_field) _ s.grants _ (fits.few.grants, fits.grants)
    ∙ (again_then (counted_field key_field) _ s.keys _ (fits.few.keys, fits.keys)
    ∙ again_then (counted_field mark_field) _ s.marks rest (fits.few.marks, fits.marks)))))))

state_within : (bytes : List ℕ) → Within (length bytes) (state_at bytes)
unfolding state_at
state_within bytes =
    let n = length bytes in
    within_then numbers_field n _ bytes (omega arith) (λ numbers l1.
    within_then (counted_field folder_field) n _ numbers.1 l1 (λ folders l2.
    within_then (counted_field file_field) n _ folders.1 l2 (λ files l3.
    within_then (repeat_field check_field numbers.0.holders_made) n _ files.1 l3 (λ checks l4.
    within_then (counted_field grant_field) n _ checks.1 l4 (λ grants l5.
    within_then (counted_field key_field) n _ grants.1 l5 (λ keys l6.
    within_then (counted_field mark_field) n _ keys.1 l6 (λ marks l7. l7)))))))

pub state_field : IsField state_at spell_state IsWritable
state_field = record { takes = state_takes; again = state_again; within = state_within }

-- ---- a body

body_parts : (b : IndexBody) (rest : List ℕ) → spell_body b ++ rest
    ≡ spell_state b.state ++ (counted spell_link_row b.links ++ (counted spell_content_row b.contents ++ rest))
unfolding spell_body
body_parts b rest = simp append_assoc

body_takes : (bytes : List ℕ) (x : IndexBody × List ℕ) → IsBytes bytes → body_at bytes ≡ Ok x → (bytes ≡ spell_body x.0 ++ x.1) × IsWritableBody x.0
unfolding body_at
body_takes bytes x are e =
    took_then state_field _ bytes x are e (λ state r1 p1 a1 f1 e1.
    took_then (counted_field link_row_field) _ r1 x a1 e1 (λ links r2 p2 a2 f2 e2.
    took_then (counted_field content_row_field) _ r2 x a2 e2 (λ contents r3 p3 a3 f3 e3.
    let made : IndexBody = record { state = state; links = links; contents = contents } in
    let whole : bytes ≡ spell_body made ++ r3 = rw (body_parts made r3, p1, p2, p3) refl in
    let fits : IsWritableBody made = record {
      few = record { state = f1.few; links = f2.0; contents = f3.0 };
      state = f1;
      links = f2.1;
      contents = f3.1;
    } in
    subst (λ (y : IndexBody × List ℕ). (bytes ≡ spell_body y.0 ++ y.1) × IsWritableBody y.0) (ok_is (made, r3) x e3) (whole, fits))))

body_again : (b : IndexBody) (rest : List ℕ) → IsWritableBody b → body_at (spell_body b ++ rest) ≡ Ok (b, rest)
unfolding body_at
body_again b rest fits =
    ap body_at (body_parts b rest)
    ∙ (again_then state_field _ b.state _ fits.state
    ∙ (again_then (counted_field link_row_field) _ b.links _ (fits.few.links, fits.links)
    ∙ again_then (counted_field content_row_field) _ b.contents rest (fits.few.contents, fits.contents)))

body_within : (bytes : List ℕ) → Within (length bytes) (body_at bytes)
unfolding body_at
body_within bytes =
    let n = length bytes in
    within_then state_field n _ bytes (omega arith) (λ state l1.
    within_then (counted_field link_row_field) n _ state.1 l1 (λ links l2.
    within_then (counted_field content_row_field) n _ links.1 l2 (λ contents l3. l3)))

pub body_field : IsField body_at spell_body IsWritableBody
body_field = record { takes = body_takes; again = body_again; within = body_within }

-- ---- a head

magic_takes : (bytes : List ℕ) (x : List ℕ × List ℕ) → IsBytes bytes → magic_at bytes ≡ Ok x → (bytes ≡ x.0 ++ x.1) × (x.0 ≡ magic)
unfolding magic_at
magic_takes bytes x are e =
    took_then (bytes_field 9) _ bytes x are e (λ first r1 p1 a1 f1 e1.
    let passed = guard_ok (bytes_eq first magic) (length bytes) (first, r1) x e1 in
    let same : first ≡ magic = (bytes_eq-Decides first magic).0 passed.0 in
    subst (λ (y : List ℕ × List ℕ). (bytes ≡ y.0 ++ y.1) × (y.0 ≡ magic)) passed.1 (p1, same))

magic_again : (first rest : List ℕ) → first ≡ magic → magic_at (first ++ rest) ≡ Ok (first, rest)
unfolding magic_at
magic_again first rest same =
    let nine : length first ≡ 9 = rw same refl in
    again_then (bytes_field 9) _ first rest nine ∙ rw ((bytes_eq-Decides first magic).1 same) refl

magic_within : (bytes : List ℕ) → Within (length bytes) (magic_at bytes)
unfolding magic_at
magic_within bytes =
    within_then (bytes_field 9) (length bytes) _ bytes (omega arith) (λ first le.
    elim (bytes_eq first.0 magic) as (λ b. Within (length bytes) (cond b (Ok first) (Err (length bytes)))) [
      | true ↦ le
      | false ↦ omega arith
    ])

magic_field : IsField magic_at (λ first. first) (λ first. first ≡ magic)
magic_field = record { takes = magic_takes; again = magic_again; within = magic_within }

head_parts : (h : IndexHead) (rest : List ℕ) → spell_head h ++ rest ≡ magic ++ (be32 h.batch ++ (h.tag ++ (be32 h.body_len ++ rest)))
unfolding spell_head
head_parts h rest = simp append_assoc

head_takes : (bytes : List ℕ) (x : IndexHead × List ℕ) → IsBytes bytes → head_at bytes ≡ Ok x → (bytes ≡ spell_head x.0 ++ x.1) × IsHead x.0
unfolding head_at
head_takes bytes x are e =
    took_then magic_field _ bytes x are e (λ first r1 p1 a1 f1 e1.
    took_then field32 _ r1 x a1 e1 (λ batch r2 p2 a2 f2 e2.
    took_then (bytes_field 32) _ r2 x a2 e2 (λ tag r3 p3 a3 f3 e3.
    took_then field32 _ r3 x a3 e3 (λ body_len r4 p4 a4 f4 e4.
    let made : IndexHead = record { batch = batch; tag = tag; body_len = body_len } in
    let whole : bytes ≡ spell_head made ++ r4 = rw (head_parts made r4, p1, p2, p3, p4, f1) refl in
    let fits : IsHead made = record { batch = f2; tag = f3; body_len = f4 } in
    subst (λ (y : IndexHead × List ℕ). (bytes ≡ spell_head y.0 ++ y.1) × IsHead y.0) (ok_is (made, r4) x e4) (whole, fits)))))

head_again : (h : IndexHead) (rest : List ℕ) → IsHead h → head_at (spell_head h ++ rest) ≡ Ok (h, rest)
unfolding head_at
head_again h rest fits =
    ap head_at (head_parts h rest)
    ∙ (again_then magic_field _ magic _ refl
    ∙ (again_then field32 _ h.batch _ fits.batch
    ∙ (again_then (bytes_field 32) _ h.tag _ fits.tag
    ∙ again_then field32 _ h.body_len rest fits.body_len)))

head_within : (bytes : List ℕ) → Within (length bytes) (head_at bytes)
unfolding head_at
head_within bytes =
    let n = length bytes in
    within_then magic_field n _ bytes (omega arith) (λ first l1.
    within_then field32 n _ first.1 l1 (λ batch l2.
    within_then (bytes_field 32) n _ batch.1 l2 (λ tag l3.
    within_then field32 n _ tag.1 l3 (λ body_len l4. l4))))

pub head_field : IsField head_at spell_head IsHead
head_field = record { takes = head_takes; again = head_again; within = head_within }

-- ---- no spelling begins another

pub no_prefix : {A : Type 0} {read : List ℕ → Read A} {spell : A → List ℕ} {Fits : A → Type 0} → IsField read spell Fits → (p q : A) (more : List ℕ) → Fits p → Fits q → spell q ≡ spell p ++ more → (q ≡ p) × (more ≡ [])
no_prefix {A} {read} {spell} field p q more fits_p fits_q same =
    let joined : Ok (q, []) ≡ Ok (p, more) = sym (field.again q [] fits_q) ∙ ap read (append-nil (spell q) ∙ same) ∙ field.again p more fits_p in
    let pair = ok_is (q, []) (p, more) joined in
    (ap (λ (x : A × List ℕ). x.0) pair, sym (ap (λ (x : A × List ℕ). x.1) pair))
