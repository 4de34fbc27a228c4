-- What the words ask for is what they are.
use Rattle.std.proofs.Common.{◌≡◌, ℕ, Option, Some, sym, subst, ◌∙◌}
use Rattle.head_tree.specs.declared.head.Head.{Head}
use Rattle.cli_words.specs.declared.words.Form.{Form}
use Rattle.cli_words.specs.declared.words.Form.TheVariants.{Audit, Gen, Open, Prove, Run, Upgrade, Check}
use Rattle.cli_words.specs.declared.words.Form.TheVariants as forms

pub of_asked : (P : ℕ → ℕ → Type 0) (own_seed own_count seed count : ℕ) (form : Option Form) → form ≡ Some (Gen own_seed own_count) → form ≡ Some (Gen seed count)
    → P own_seed own_count → P seed count
of_asked P own_seed own_count seed count form own asked is =
    let both : Some (Gen own_seed own_count) ≡ Some (Gen seed count) = sym own ∙ asked in
    let same_seed : own_seed ≡ seed = cc in
    let same_count : own_count ≡ count = cc in
    subst (λ n. P n count) same_seed (subst (λ n. P own_seed n) same_count is)

pub of_asked_proof : (P : ℕ → Type 0) (own batches : ℕ) (form : Option Form) → form ≡ Some (Prove own) → form ≡ Some (Prove batches) → P own → P batches
of_asked_proof P own batches form is asked said =
    let both : Some (Prove own) ≡ Some (Prove batches) = sym is ∙ asked in
    let same : own ≡ batches = cc in
    subst P same said

pub of_asked_check : (P : Head → Head → Type 0) (own_old own_new old new : Head) (form : Option Form) → form ≡ Some (Check own_old own_new) → form ≡ Some (Check old new)
    → P own_old own_new → P old new
of_asked_check P own_old own_new old new form own asked is =
    let both : Some (Check own_old own_new) ≡ Some (Check old new) = sym own ∙ asked in
    let same_old : own_old ≡ old = cc in
    let same_new : own_new ≡ new = cc in
    subst (λ head. P head new) same_old (subst (λ head. P own_old head) same_new is)

pub of_asked_run : (P : Option Head → Type 0) (own head : Option Head) (form : Option Form) → form ≡ Some (Run own) → form ≡ Some (Run head)
    → P own → P head
of_asked_run P own head form is asked said =
    let both : Some (Run own) ≡ Some (Run head) = sym is ∙ asked in
    let same : own ≡ head = cc in
    subst P same said

pub of_asked_upgrade : (P : Option Head → Type 0) (own head : Option Head) (form : Option Form) → form ≡ Some (Upgrade own) → form ≡ Some (Upgrade head)
    → P own → P head
of_asked_upgrade P own head form is asked said =
    let both : Some (Upgrade own) ≡ Some (Upgrade head) = sym is ∙ asked in
    let same : own ≡ head = cc in
    subst P same said

pub of_asked_list : (P : Option Head → Type 0) (own head : Option Head) (form : Option Form) → form ≡ Some (forms.List own) → form ≡ Some (forms.List head)
    → P own → P head
of_asked_list P own head form is asked said =
    let both : Some (forms.List own) ≡ Some (forms.List head) = sym is ∙ asked in
    let same : own ≡ head = cc in
    subst P same said

pub of_asked_open : (P : Option Head → Type 0) (own head : Option Head) (form : Option Form) → form ≡ Some (Open own) → form ≡ Some (Open head)
    → P own → P head
of_asked_open P own head form is asked said =
    let both : Some (Open own) ≡ Some (Open head) = sym is ∙ asked in
    let same : own ≡ head = cc in
    subst P same said

pub of_asked_audit : (P : Option Head → Type 0) (own head : Option Head) (form : Option Form) → form ≡ Some (Audit own) → form ≡ Some (Audit head)
    → P own → P head
of_asked_audit P own head form is asked said =
    let both : Some (Audit own) ≡ Some (Audit head) = sym is ∙ asked in
    let same : own ≡ head = cc in
    subst P same said
