-- What is read as a part of one length is spelled so, and what is spelled so is read.
use Rattle.std.proofs.Common.{◌≡◌, ℕ, ◌<◌, List, ◌∷◌, ◌++◌, length, Ok, refl, ap, subst, ◌∙◌, append_assoc, arith}
use Rattle.index_format.specs.declared.rows.CheckRow.{CheckRow}
use Rattle.index_format.specs.declared.rows.ContentRow.{ContentRow}
use Rattle.index_format.specs.declared.rows.FileRow.{FileRow}
use Rattle.index_format.specs.declared.rows.FolderRow.{FolderRow}
use Rattle.index_format.specs.declared.rows.GrantRow.{GrantRow}
use Rattle.index_format.specs.declared.rows.KeyRow.{KeyRow}
use Rattle.index_format.specs.declared.rows.LinkRow.{LinkRow}
use Rattle.index_format.specs.declared.rows.MarkRow.{MarkRow}
use Rattle.index_format.specs.declared.rows.StateNumbers.{StateNumbers}
use Rattle.index_format.specs.Reading.{numbers_at, folder_at, file_at, check_at, grant_at, key_at, mark_at, link_row_at, content_row_at}
use Rattle.index_format.specs.Spelling.{spell_numbers, spell_folder, spell_file, spell_check, spell_grant, spell_key, spell_mark, spell_link_row, spell_content_row}
use Rattle.index_format.specs.Writable.{AreNumbers, IsFolderRow, IsFileRow, IsCheckRow, IsGrantRow, IsKeyRow, IsMarkRow, IsLinkRow, IsContentRow}
use Rattle.record_format.specs.Fields.{byte_between}
use Rattle.record_format.specs.Spelling.{be32, be64}
use Rattle.record_format.proofs.FieldLaws.{IsBytes, IsField, took_then, ok_is, again_then, Within, within_then, one_byte, byte_field, bytes_field, field32, field64}

-- any byte
pub any_byte : IsField (byte_between 0 255) one_byte (λ byte. byte < 256)
any_byte =
    let field = byte_field 0 255 in
    record {
      takes = λ bytes x are e. let took = field.takes bytes x are e in (took.0, omega (arith, took.1.1));
      again = λ byte rest lt. field.again byte rest (omega arith, omega (arith, lt));
      within = field.within;
    }

-- ---- numbers

numbers_parts : (r : StateNumbers) (rest : List ℕ) → spell_numbers r ++ rest ≡ r.version ∷ (be32 r.epoch ++ (be32 r.count ++ (be32 r.folders_made ++ (be32 r.files_made ++ (be32 r.holders_made ++ rest)))))
unfolding spell_numbers
numbers_parts r rest = simp append_assoc

numbers_takes : (bytes : List ℕ) (x : StateNumbers × List ℕ) → IsBytes bytes → numbers_at bytes ≡ Ok x → (bytes ≡ spell_numbers x.0 ++ x.1) × AreNumbers x.0
unfolding numbers_at
numbers_takes bytes x are e =
    took_then any_byte _ bytes x are e (λ version r1 p1 a1 f1 e1.
    took_then field32 _ r1 x a1 e1 (λ epoch r2 p2 a2 f2 e2.
    took_then field32 _ r2 x a2 e2 (λ count r3 p3 a3 f3 e3.
    took_then field32 _ r3 x a3 e3 (λ folders_made r4 p4 a4 f4 e4.
    took_then field32 _ r4 x a4 e4 (λ files_made r5 p5 a5 f5 e5.
    took_then field32 _ r5 x a5 e5 (λ holders_made r6 p6 a6 f6 e6.
    let made : StateNumbers = record { version = version; epoch = epoch; count = count; folders_made = folders_made; files_made = files_made; holders_made = holders_made } in
    let whole : bytes ≡ spell_numbers made ++ r6 = rw (numbers_parts made r6, p1, p2, p3, p4, p5, p6) refl in
    let fit : AreNumbers made = record { version = f1; epoch = f2; count = f3; folders_made = f4; files_made = f5; holders_made = f6 } in
    subst (λ (y : StateNumbers × List ℕ). (bytes ≡ spell_numbers y.0 ++ y.1) × AreNumbers y.0) (ok_is (made, r6) x e6) (whole, fit)))))))

numbers_again : (r : StateNumbers) (rest : List ℕ) → AreNumbers r → numbers_at (spell_numbers r ++ rest) ≡ Ok (r, rest)
unfolding numbers_at
numbers_again r rest fit =
    ap numbers_at (numbers_parts r rest)
    ∙ (again_then any_byte _ r.version _ fit.version
    ∙ (again_then field32 _ r.epoch _ fit.epoch
    ∙ (again_then field32 _ r.count _ fit.count
    ∙ (again_then field32 _ r.folders_made _ fit.folders_made
    ∙ (again_then field32 _ r.files_made _ fit.files_made
    ∙ again_then field32 _ r.holders_made rest fit.holders_made)))))

numbers_within : (bytes : List ℕ) → Within (length bytes) (numbers_at bytes)
unfolding numbers_at
numbers_within bytes =
    let n = length bytes in
    within_then any_byte n _ bytes (omega arith) (λ version l1.
    within_then field32 n _ version.1 l1 (λ epoch l2.
    within_then field32 n _ epoch.1 l2 (λ count l3.
    within_then field32 n _ count.1 l3 (λ folders_made l4.
    within_then field32 n _ folders_made.1 l4 (λ files_made l5.
    within_then field32 n _ files_made.1 l5 (λ holders_made l6. l6))))))

pub numbers_field : IsField numbers_at spell_numbers AreNumbers
numbers_field = record { takes = numbers_takes; again = numbers_again; within = numbers_within }

-- ---- folder

folder_parts : (r : FolderRow) (rest : List ℕ) → spell_folder r ++ rest ≡ be32 r.id ++ (be32 r.parent ++ rest)
unfolding spell_folder
folder_parts r rest = simp append_assoc

folder_takes : (bytes : List ℕ) (x : FolderRow × List ℕ) → IsBytes bytes → folder_at bytes ≡ Ok x → (bytes ≡ spell_folder x.0 ++ x.1) × IsFolderRow x.0
unfolding folder_at
folder_takes bytes x are e =
    took_then field32 _ bytes x are e (λ id r1 p1 a1 f1 e1.
    took_then field32 _ r1 x a1 e1 (λ parent r2 p2 a2 f2 e2.
    let made : FolderRow = record { id = id; parent = parent } in
    let whole : bytes ≡ spell_folder made ++ r2 = rw (folder_parts made r2, p1, p2) refl in
    let fit : IsFolderRow made = record { id = f1; parent = f2 } in
    subst (λ (y : FolderRow × List ℕ). (bytes ≡ spell_folder y.0 ++ y.1) × IsFolderRow y.0) (ok_is (made, r2) x e2) (whole, fit)))

folder_again : (r : FolderRow) (rest : List ℕ) → IsFolderRow r → folder_at (spell_folder r ++ rest) ≡ Ok (r, rest)
unfolding folder_at
folder_again r rest fit =
    ap folder_at (folder_parts r rest)
    ∙ (again_then field32 _ r.id _ fit.id
    ∙ again_then field32 _ r.parent rest fit.parent)

folder_within : (bytes : List ℕ) → Within (length bytes) (folder_at bytes)
unfolding folder_at
folder_within bytes =
    let n = length bytes in
    within_then field32 n _ bytes (omega arith) (λ id l1.
    within_then field32 n _ id.1 l1 (λ parent l2. l2))

pub folder_field : IsField folder_at spell_folder IsFolderRow
folder_field = record { takes = folder_takes; again = folder_again; within = folder_within }

-- ---- file

file_parts : (r : FileRow) (rest : List ℕ) → spell_file r ++ rest ≡ be32 r.id ++ (be32 r.folder ++ rest)
unfolding spell_file
file_parts r rest = simp append_assoc

file_takes : (bytes : List ℕ) (x : FileRow × List ℕ) → IsBytes bytes → file_at bytes ≡ Ok x → (bytes ≡ spell_file x.0 ++ x.1) × IsFileRow x.0
unfolding file_at
file_takes bytes x are e =
    took_then field32 _ bytes x are e (λ id r1 p1 a1 f1 e1.
    took_then field32 _ r1 x a1 e1 (λ folder r2 p2 a2 f2 e2.
    let made : FileRow = record { id = id; folder = folder } in
    let whole : bytes ≡ spell_file made ++ r2 = rw (file_parts made r2, p1, p2) refl in
    let fit : IsFileRow made = record { id = f1; folder = f2 } in
    subst (λ (y : FileRow × List ℕ). (bytes ≡ spell_file y.0 ++ y.1) × IsFileRow y.0) (ok_is (made, r2) x e2) (whole, fit)))

file_again : (r : FileRow) (rest : List ℕ) → IsFileRow r → file_at (spell_file r ++ rest) ≡ Ok (r, rest)
unfolding file_at
file_again r rest fit =
    ap file_at (file_parts r rest)
    ∙ (again_then field32 _ r.id _ fit.id
    ∙ again_then field32 _ r.folder rest fit.folder)

file_within : (bytes : List ℕ) → Within (length bytes) (file_at bytes)
unfolding file_at
file_within bytes =
    let n = length bytes in
    within_then field32 n _ bytes (omega arith) (λ id l1.
    within_then field32 n _ id.1 l1 (λ folder l2. l2))

pub file_field : IsField file_at spell_file IsFileRow
file_field = record { takes = file_takes; again = file_again; within = file_within }

-- ---- check

check_takes : (bytes : List ℕ) (x : CheckRow × List ℕ) → IsBytes bytes → check_at bytes ≡ Ok x → (bytes ≡ spell_check x.0 ++ x.1) × IsCheckRow x.0
unfolding check_at
check_takes bytes x are e =
    took_then (bytes_field 32) _ bytes x are e (λ check r1 p1 a1 f1 e1.
    let made : CheckRow = record { 0 = check } in
    subst (λ (y : CheckRow × List ℕ). (bytes ≡ spell_check y.0 ++ y.1) × IsCheckRow y.0) (ok_is (made, r1) x e1) (p1, record { len = f1 }))

check_again : (r : CheckRow) (rest : List ℕ) → IsCheckRow r → check_at (spell_check r ++ rest) ≡ Ok (r, rest)
unfolding check_at
check_again r rest fit = again_then (bytes_field 32) _ r.0 rest fit.len

check_within : (bytes : List ℕ) → Within (length bytes) (check_at bytes)
unfolding check_at
check_within bytes =
    let n = length bytes in
    within_then (bytes_field 32) n _ bytes (omega arith) (λ check l1. l1)

pub check_field : IsField check_at spell_check IsCheckRow
check_field = record { takes = check_takes; again = check_again; within = check_within }

-- ---- grant

grant_parts : (r : GrantRow) (rest : List ℕ) → spell_grant r ++ rest ≡ be32 r.holder ++ (be32 r.folder ++ rest)
unfolding spell_grant
grant_parts r rest = simp append_assoc

grant_takes : (bytes : List ℕ) (x : GrantRow × List ℕ) → IsBytes bytes → grant_at bytes ≡ Ok x → (bytes ≡ spell_grant x.0 ++ x.1) × IsGrantRow x.0
unfolding grant_at
grant_takes bytes x are e =
    took_then field32 _ bytes x are e (λ holder r1 p1 a1 f1 e1.
    took_then field32 _ r1 x a1 e1 (λ folder r2 p2 a2 f2 e2.
    let made : GrantRow = record { holder = holder; folder = folder } in
    let whole : bytes ≡ spell_grant made ++ r2 = rw (grant_parts made r2, p1, p2) refl in
    let fit : IsGrantRow made = record { holder = f1; folder = f2 } in
    subst (λ (y : GrantRow × List ℕ). (bytes ≡ spell_grant y.0 ++ y.1) × IsGrantRow y.0) (ok_is (made, r2) x e2) (whole, fit)))

grant_again : (r : GrantRow) (rest : List ℕ) → IsGrantRow r → grant_at (spell_grant r ++ rest) ≡ Ok (r, rest)
unfolding grant_at
grant_again r rest fit =
    ap grant_at (grant_parts r rest)
    ∙ (again_then field32 _ r.holder _ fit.holder
    ∙ again_then field32 _ r.folder rest fit.folder)

grant_within : (bytes : List ℕ) → Within (length bytes) (grant_at bytes)
unfolding grant_at
grant_within bytes =
    let n = length bytes in
    within_then field32 n _ bytes (omega arith) (λ holder l1.
    within_then field32 n _ holder.1 l1 (λ folder l2. l2))

pub grant_field : IsField grant_at spell_grant IsGrantRow
grant_field = record { takes = grant_takes; again = grant_again; within = grant_within }

-- ---- key

key_parts : (r : KeyRow) (rest : List ℕ) → spell_key r ++ rest ≡ r.place ∷ (be32 r.id ++ (be64 r.serial ++ rest))
unfolding spell_key
key_parts r rest = simp append_assoc

key_takes : (bytes : List ℕ) (x : KeyRow × List ℕ) → IsBytes bytes → key_at bytes ≡ Ok x → (bytes ≡ spell_key x.0 ++ x.1) × IsKeyRow x.0
unfolding key_at
key_takes bytes x are e =
    took_then any_byte _ bytes x are e (λ place r1 p1 a1 f1 e1.
    took_then field32 _ r1 x a1 e1 (λ id r2 p2 a2 f2 e2.
    took_then field64 _ r2 x a2 e2 (λ serial r3 p3 a3 f3 e3.
    let made : KeyRow = record { place = place; id = id; serial = serial } in
    let whole : bytes ≡ spell_key made ++ r3 = rw (key_parts made r3, p1, p2, p3) refl in
    let fit : IsKeyRow made = record { place = f1; id = f2; serial = f3 } in
    subst (λ (y : KeyRow × List ℕ). (bytes ≡ spell_key y.0 ++ y.1) × IsKeyRow y.0) (ok_is (made, r3) x e3) (whole, fit))))

key_again : (r : KeyRow) (rest : List ℕ) → IsKeyRow r → key_at (spell_key r ++ rest) ≡ Ok (r, rest)
unfolding key_at
key_again r rest fit =
    ap key_at (key_parts r rest)
    ∙ (again_then any_byte _ r.place _ fit.place
    ∙ (again_then field32 _ r.id _ fit.id
    ∙ again_then field64 _ r.serial rest fit.serial))

key_within : (bytes : List ℕ) → Within (length bytes) (key_at bytes)
unfolding key_at
key_within bytes =
    let n = length bytes in
    within_then any_byte n _ bytes (omega arith) (λ place l1.
    within_then field32 n _ place.1 l1 (λ id l2.
    within_then field64 n _ id.1 l2 (λ serial l3. l3)))

pub key_field : IsField key_at spell_key IsKeyRow
key_field = record { takes = key_takes; again = key_again; within = key_within }

-- ---- mark

mark_parts : (r : MarkRow) (rest : List ℕ) → spell_mark r ++ rest ≡ r.place ∷ (be32 r.id ++ rest)
unfolding spell_mark
mark_parts r rest = refl

mark_takes : (bytes : List ℕ) (x : MarkRow × List ℕ) → IsBytes bytes → mark_at bytes ≡ Ok x → (bytes ≡ spell_mark x.0 ++ x.1) × IsMarkRow x.0
unfolding mark_at
mark_takes bytes x are e =
    took_then any_byte _ bytes x are e (λ place r1 p1 a1 f1 e1.
    took_then field32 _ r1 x a1 e1 (λ id r2 p2 a2 f2 e2.
    let made : MarkRow = record { place = place; id = id } in
    let whole : bytes ≡ spell_mark made ++ r2 = rw (mark_parts made r2, p1, p2) refl in
    let fit : IsMarkRow made = record { place = f1; id = f2 } in
    subst (λ (y : MarkRow × List ℕ). (bytes ≡ spell_mark y.0 ++ y.1) × IsMarkRow y.0) (ok_is (made, r2) x e2) (whole, fit)))

mark_again : (r : MarkRow) (rest : List ℕ) → IsMarkRow r → mark_at (spell_mark r ++ rest) ≡ Ok (r, rest)
unfolding mark_at
mark_again r rest fit =
    ap mark_at (mark_parts r rest)
    ∙ (again_then any_byte _ r.place _ fit.place
    ∙ again_then field32 _ r.id rest fit.id)

mark_within : (bytes : List ℕ) → Within (length bytes) (mark_at bytes)
unfolding mark_at
mark_within bytes =
    let n = length bytes in
    within_then any_byte n _ bytes (omega arith) (λ place l1.
    within_then field32 n _ place.1 l1 (λ id l2. l2))

pub mark_field : IsField mark_at spell_mark IsMarkRow
mark_field = record { takes = mark_takes; again = mark_again; within = mark_within }

-- ---- link row

link_row_parts : (r : LinkRow) (rest : List ℕ) → spell_link_row r ++ rest ≡ r.kind ∷ (be32 r.from_id ++ (be32 r.to_id ++ (be32 r.batch ++ (be32 r.index ++ rest))))
unfolding spell_link_row
link_row_parts r rest = simp append_assoc

link_row_takes : (bytes : List ℕ) (x : LinkRow × List ℕ) → IsBytes bytes → link_row_at bytes ≡ Ok x → (bytes ≡ spell_link_row x.0 ++ x.1) × IsLinkRow x.0
unfolding link_row_at
link_row_takes bytes x are e =
    took_then any_byte _ bytes x are e (λ kind r1 p1 a1 f1 e1.
    took_then field32 _ r1 x a1 e1 (λ from_id r2 p2 a2 f2 e2.
    took_then field32 _ r2 x a2 e2 (λ to_id r3 p3 a3 f3 e3.
    took_then field32 _ r3 x a3 e3 (λ batch r4 p4 a4 f4 e4.
    took_then field32 _ r4 x a4 e4 (λ index r5 p5 a5 f5 e5.
    let made : LinkRow = record { kind = kind; from_id = from_id; to_id = to_id; batch = batch; index = index } in
    let whole : bytes ≡ spell_link_row made ++ r5 = rw (link_row_parts made r5, p1, p2, p3, p4, p5) refl in
    let fit : IsLinkRow made = record { kind = f1; from_id = f2; to_id = f3; batch = f4; index = f5 } in
    subst (λ (y : LinkRow × List ℕ). (bytes ≡ spell_link_row y.0 ++ y.1) × IsLinkRow y.0) (ok_is (made, r5) x e5) (whole, fit))))))

link_row_again : (r : LinkRow) (rest : List ℕ) → IsLinkRow r → link_row_at (spell_link_row r ++ rest) ≡ Ok (r, rest)
unfolding link_row_at
link_row_again r rest fit =
    ap link_row_at (link_row_parts r rest)
    ∙ (again_then any_byte _ r.kind _ fit.kind
    ∙ (again_then field32 _ r.from_id _ fit.from_id
    ∙ (again_then field32 _ r.to_id _ fit.to_id
    ∙ (again_then field32 _ r.batch _ fit.batch
    ∙ again_then field32 _ r.index rest fit.index))))

link_row_within : (bytes : List ℕ) → Within (length bytes) (link_row_at bytes)
unfolding link_row_at
link_row_within bytes =
    let n = length bytes in
    within_then any_byte n _ bytes (omega arith) (λ kind l1.
    within_then field32 n _ kind.1 l1 (λ from_id l2.
    within_then field32 n _ from_id.1 l2 (λ to_id l3.
    within_then field32 n _ to_id.1 l3 (λ batch l4.
    within_then field32 n _ batch.1 l4 (λ index l5. l5)))))

pub link_row_field : IsField link_row_at spell_link_row IsLinkRow
link_row_field = record { takes = link_row_takes; again = link_row_again; within = link_row_within }

-- ---- content row

content_row_parts : (r : ContentRow) (rest : List ℕ) → spell_content_row r ++ rest ≡ r.kind ∷ (be32 r.object ++ (be32 r.batch ++ (be32 r.index ++ rest)))
unfolding spell_content_row
content_row_parts r rest = simp append_assoc

content_row_takes : (bytes : List ℕ) (x : ContentRow × List ℕ) → IsBytes bytes → content_row_at bytes ≡ Ok x → (bytes ≡ spell_content_row x.0 ++ x.1) × IsContentRow x.0
unfolding content_row_at
content_row_takes bytes x are e =
    took_then any_byte _ bytes x are e (λ kind r1 p1 a1 f1 e1.
    took_then field32 _ r1 x a1 e1 (λ object r2 p2 a2 f2 e2.
    took_then field32 _ r2 x a2 e2 (λ batch r3 p3 a3 f3 e3.
    took_then field32 _ r3 x a3 e3 (λ index r4 p4 a4 f4 e4.
    let made : ContentRow = record { kind = kind; object = object; batch = batch; index = index } in
    let whole : bytes ≡ spell_content_row made ++ r4 = rw (content_row_parts made r4, p1, p2, p3, p4) refl in
    let fit : IsContentRow made = record { kind = f1; object = f2; batch = f3; index = f4 } in
    subst (λ (y : ContentRow × List ℕ). (bytes ≡ spell_content_row y.0 ++ y.1) × IsContentRow y.0) (ok_is (made, r4) x e4) (whole, fit)))))

content_row_again : (r : ContentRow) (rest : List ℕ) → IsContentRow r → content_row_at (spell_content_row r ++ rest) ≡ Ok (r, rest)
unfolding content_row_at
content_row_again r rest fit =
    ap content_row_at (content_row_parts r rest)
    ∙ (again_then any_byte _ r.kind _ fit.kind
    ∙ (again_then field32 _ r.object _ fit.object
    ∙ (again_then field32 _ r.batch _ fit.batch
    ∙ again_then field32 _ r.index rest fit.index)))

content_row_within : (bytes : List ℕ) → Within (length bytes) (content_row_at bytes)
unfolding content_row_at
content_row_within bytes =
    let n = length bytes in
    within_then any_byte n _ bytes (omega arith) (λ kind l1.
    within_then field32 n _ kind.1 l1 (λ object l2.
    within_then field32 n _ object.1 l2 (λ batch l3.
    within_then field32 n _ batch.1 l3 (λ index l4. l4))))

pub content_row_field : IsField content_row_at spell_content_row IsContentRow
content_row_field = record { takes = content_row_takes; again = content_row_again; within = content_row_within }
