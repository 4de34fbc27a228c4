-- The bytes of a checkpoint's file, part after part.
use Rattle.std.proofs.Common.{◌≡◌, ℕ, List, [], ◌++◌, length, ap, ◌∙◌}
use Rattle.std.proofs.lemmas.List.{append-nil}
use Rattle.hmac_seal.specs.Hmac.{hmac}
use Rattle.index_format.specs.Spelling.{spell_body, spell_front, spell_head}
use Rattle.log_index.specs.Plain.{PlainCheckpoint, front_of, head_of, index_tag_key, spell_index}
use Rattle.log_index.specs.Sound.{SpellsCheckpoint}
use Rattle.log_index.specs.declared.checkpoint.Checkpoint.{Checkpoint}
use Rattle.log_index.proofs.Spelled.{spelled_once}

-- nothing, then the head, the body, and the tag of both
pub file_made : (owner : List ℕ) (p : PlainCheckpoint) (body start headed whole tag file : List ℕ) (len : ℕ)
    → body ≡ spell_body p.body → len ≡ length body → start ≡ []
    → headed ≡ start ++ spell_head (record { batch = p.batch; tag = p.tag; body_len = len })
    → whole ≡ headed ++ body → tag ≡ hmac (index_tag_key owner) (whole ++ []) → file ≡ whole ++ tag
    → file ≡ spell_index owner p
unfolding spell_index spell_front
file_made owner p body start headed whole tag file len is_body is_len empty a b t e =
    let count : len ≡ length (spell_body p.body) = is_len ∙ ap length is_body in
    let head : spell_head (record { batch = p.batch; tag = p.tag; body_len = len }) ≡ spell_head (head_of p) =
    ap (λ (n : ℕ). spell_head (record { batch = p.batch; tag = p.tag; body_len = n })) count in
    let first : headed ≡ spell_head (head_of p) = a ∙ (λ i. empty i ++ head i) in
    let front : whole ≡ front_of p = b ∙ (λ i. first i ++ is_body i) in
    let tagged : tag ≡ hmac (index_tag_key owner) (front_of p) = t ∙ ap (hmac (index_tag_key owner)) (append-nil whole ∙ front) in
    e ∙ (λ i. front i ++ tagged i)

-- what spells a checkpoint is the one file that is made
pub one_file : (c : Checkpoint) (owner bytes file : List ℕ) → bytes ≡ file → (q : PlainCheckpoint) × SpellsCheckpoint c q × (file ≡ spell_index owner q)
    → (p : PlainCheckpoint) → SpellsCheckpoint c p → bytes ≡ spell_index owner p
one_file c owner bytes file same made p spells = same ∙ made.2 ∙ ap (spell_index owner) (spelled_once c made.0 p made.1 spells)
