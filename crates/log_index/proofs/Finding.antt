-- What is found in a file's parts is what the bytes show.
use Rattle.std.proofs.Common.{◌≡◌, ◌≤◌, ◌⊎◌, inl, ℕ, ◌+◌, List, [], ◌++◌, length, take, drop, Option, Some, None, Result, Ok, Err, sym, ap, subst, ◌∙◌, arith}
use Rattle.std.specs.Prelude.{IfOk, IfSome, MatchOption}
use Rattle.std.proofs.lemmas.List.{length-take}
use Rattle.cry_io.specs.Told.{WhereTold}
use Rattle.hmac_seal.specs.Hmac.{hmac}
use Rattle.index_format.specs.Plain.{IndexBody}
use Rattle.index_format.specs.Reading.{head_at}
use Rattle.index_format.specs.Spelling.{spell_body}
use Rattle.index_format.specs.Writable.{IsWritableBody}
use Rattle.index_format.specs.declared.head.IndexHead.{IndexHead}
use Rattle.record_format.proofs.FieldLaws.{IsBytes}
use Rattle.log_index.specs.Plain.{PlainCheckpoint, index_tag_key, plain_of, spell_index}
use Rattle.log_index.specs.Sound.{IsReadAs, IsShown, IsSoundBody, IsSoundIndex}
use Rattle.log_index.specs.declared.checkpoint.Checkpoint.{Checkpoint}
use Rattle.log_index.proofs.Bytes.{file_is_shown, file_is_split, parts_are_file, parts_are_sound, same_bytes_same_body, shown_is_file}

-- the bytes are the file of a checkpoint, which is read as this one
abbrev pub IsFileOf : List ℕ → List ℕ → Checkpoint → Type 0
IsFileOf owner bytes c = (p : PlainCheckpoint) × IsSoundIndex p × (bytes ≡ spell_index owner p) × IsReadAs p c

abbrev pub IsNoFile : List ℕ → List ℕ → Type 0
IsNoFile owner bytes = (p : PlainCheckpoint) → IsSoundIndex p → bytes ≡ spell_index owner p → ⊥

pub no_first_batch : (owner front behind : List ℕ) (head : IndexHead) → length front ≡ 49 → head_at front ≡ Ok (head, []) → head.batch ≡ 0 → IsNoFile owner (front ++ behind)
no_first_batch owner front behind head long found zero p is_sound is_file =
    let split = file_is_split owner front behind head p long found is_sound is_file in
    let batch : p.batch ≡ head.batch = ap (λ (h : IndexHead). h.batch) split.is_head in
    omega (arith, is_sound.first, batch, zero)

pub other_tag : (owner front behind : List ℕ) (head : IndexHead) → length front ≡ 49 → head_at front ≡ Ok (head, [])
    → (drop head.body_len behind ≡ hmac (index_tag_key owner) (front ++ take head.body_len behind) → ⊥) → IsNoFile owner (front ++ behind)
other_tag owner front behind head long found other p is_sound is_file = other (file_is_split owner front behind head p long found is_sound is_file).is_tag

pub no_rows : (owner front behind : List ℕ) (head : IndexHead) → length front ≡ 49 → head_at front ≡ Ok (head, [])
    → ((b : IndexBody) → IsWritableBody b → take head.body_len behind ≡ spell_body b → ⊥) → IsNoFile owner (front ++ behind)
no_rows owner front behind head long found none p is_sound is_file =
    none p.body is_sound.body.writable (file_is_split owner front behind head p long found is_sound is_file).is_body

unsound_rows : (owner front behind : List ℕ) (head : IndexHead) (b : IndexBody) → length front ≡ 49 → head_at front ≡ Ok (head, []) → IsWritableBody b → take head.body_len behind ≡ spell_body b
    → (IsSoundBody head.batch b → ⊥) → IsNoFile owner (front ++ behind)
unsound_rows owner front behind head b long found fits is_body none p is_sound is_file =
    let split = file_is_split owner front behind head p long found is_sound is_file in
    let same : p.body ≡ b = same_bytes_same_body p.body b is_sound.body.writable fits (sym split.is_body ∙ is_body) in
    let batch : p.batch ≡ head.batch = ap (λ (h : IndexHead). h.batch) split.is_head in
    none (subst (λ (n : ℕ). IsSoundBody n b) batch (subst (λ (x : IndexBody). IsSoundBody p.batch x) same is_sound.body))

pub rows_are_file : {E : Type 0} (owner front behind : List ℕ) (head : IndexHead) (b : IndexBody) (r : Result (Option Checkpoint) E) → IsBytes front → length front ≡ 49 → head_at front ≡ Ok (head, [])
    → length behind ≡ head.body_len + 32 → 1 ≤ head.batch → IsWritableBody b → take head.body_len behind ≡ spell_body b
    → drop head.body_len behind ≡ hmac (index_tag_key owner) (front ++ take head.body_len behind)
    → IfOk r (λ o. MatchOption o (IsSoundBody head.batch b → ⊥) (λ c. IsSoundBody head.batch b × IsReadAs (plain_of head b) c))
    → IfOk r (λ o. MatchOption o (IsNoFile owner (front ++ behind)) (λ c. IsFileOf owner (front ++ behind) c))
rows_are_file owner front behind head b (Err e) are long found len first fits is_body is_tag read = tt
rows_are_file owner front behind head b (Ok None) are long found len first fits is_body is_tag read =
    unsound_rows owner front behind head b long found fits is_body read
rows_are_file owner front behind head b (Ok (Some c)) are long found len first fits is_body is_tag read =
    let size : length (take head.body_len behind) ≡ head.body_len = omega (arith, length-take head.body_len behind, len) in (
      plain_of head b,
      parts_are_sound front head b (take head.body_len behind) are found size is_body first read.0,
      parts_are_file owner front behind head b are found len is_body is_tag,
      read.1,
    )

-- where a disk's bytes begin with these parts, a file in them is what the disk shows
pub found_in_file : {E : Type 0} (owner front behind : List ℕ) (head : IndexHead) (shown : Option (List ℕ)) (Rose : Type 0) (r : Result (Option Checkpoint) E)
    → WhereTold shown (λ s. (front ≡ take 49 s) × (behind ≡ take (head.body_len + 32) (drop 49 s)) × (49 + (head.body_len + 32) ≤ length s)) → head_at front ≡ Ok (head, [])
    → IfOk r (λ o. MatchOption o (IsNoFile owner (front ++ behind)) (λ c. IsFileOf owner (front ++ behind) c))
    → IfOk r (λ o. WhereTold shown (λ s. MatchOption o (((p : PlainCheckpoint) → IsShown owner p s → ⊥) ⊎ Rose) (λ c. (p : PlainCheckpoint) × IsShown owner p s × IsReadAs p c)))
found_in_file owner front behind head shown Rose (Err e) parts found file = tt
found_in_file owner front behind head shown Rose (Ok None) parts found file = λ s is.
    let at = parts s is in
    inl (λ p is_shown. file p is_shown.0 (shown_is_file owner s front behind head p at.0 at.1 found is_shown))
found_in_file owner front behind head shown Rose (Ok (Some c)) parts found file = λ s is.
    let at = parts s is in
    (file.0, file_is_shown owner s front behind (head.body_len + 32) file.0 at.0 at.1 at.2 file.1 file.2, file.3)

pub file_is_sound : {E : Type 0} (owner bytes : List ℕ) (r : Result (Option Checkpoint) E) → IfOk r (λ o. MatchOption o (IsNoFile owner bytes) (λ c. IsFileOf owner bytes c))
    → IfOk r (λ o. IfSome o (λ c. (p : PlainCheckpoint) × IsSoundIndex p × IsReadAs p c))
file_is_sound owner bytes (Err e) file = tt
file_is_sound owner bytes (Ok None) file = tt
file_is_sound owner bytes (Ok (Some c)) file = (file.0, file.1, file.3)
