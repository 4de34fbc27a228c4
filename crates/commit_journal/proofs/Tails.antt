-- The contents of a payload before one of them.
use Rattle.std.proofs.Common.{◌≡◌, ℕ, ◌+◌, ◌≤◌, List, length, take, drop, map, refl, sym, ap, ◌∙◌, arith}
use Rattle.std.specs.List.{sum_by}
use Rattle.std.proofs.lemmas.List.{take-append-drop, take-map}
use Rattle.std.proofs.lemmas.List.Sums.{sum_by-append}
use Rattle.record_format.specs.declared.content.ContentRecord.{ContentRecord}
use Rattle.record_format.specs.Plain.{plain_content}
use Rattle.record_format.specs.Sizes.{content_size}
use Rattle.record_format.proofs.Lengths.{contents_plain}

text_and_rest : ContentRecord → ℕ
text_and_rest content = 58 + length content.cipher.items

-- so many bytes have the first ones
pub contents_before : (contents items : List ContentRecord) (index : ℕ) → items ≡ contents →
    sum_by (λ c. 58 + length c.cipher.items) (take index items) ≡ sum_by content_size (take index (map plain_content contents))
contents_before contents items index is =
    rw (is) (sym (ap (sum_by content_size) (take-map plain_content index contents) ∙ contents_plain (take index contents)))

-- and no more than all
pub contents_before_all : (contents : List ContentRecord) (index : ℕ) →
    sum_by content_size (take index (map plain_content contents)) ≤ sum_by content_size (map plain_content contents)
unfolding text_and_rest
contents_before_all contents index =
    let size = text_and_rest in
    let parts : sum_by size contents ≡ sum_by size (take index contents) + sum_by size (drop index contents) =
    ap (sum_by size) (sym (take-append-drop index contents)) ∙ sum_by-append size (take index contents) (drop index contents)
    in
    omega (arith, parts, contents_before contents contents index refl, contents_plain contents)
