use Rattle.std.proofs.Common.{◌≡◌, ℕ, List, map, ap, ◌∙◌, subst}
use Rattle.std.specs.Prelude.{IfOk, MatchOption}
use Rattle.cry_base.specs.Store.{GrantEntry}
use Rattle.grant_book.specs.Fitting.{CanStand}
use Rattle.index_format.specs.Plain.{plain_state}
use Rattle.index_format.specs.declared.rows.CheckRow.{CheckRow}
use Rattle.public_fold.specs.States.{checks_of, grant_of_row, pairs_of_rows}
use Rattle.public_fold.proofs.sound_rows.sound_grants.Goals as goal

pub returns : goal.returns
returns c =
    let s = plain_state c.args.rows.now in
    let given : List (List ℕ) = c.as_slice-3.result.now in
    let checks : given ≡ checks_of s = c.as_slice-3.ensures ∙ c.in_ok-checks.ensures ∙ ap (map (λ (row : CheckRow). row.0)) c.as_slice.ensures in
    let pairs : c.as_slice-4.result.now ≡ pairs_of_rows s = c.as_slice-4.ensures ∙ c.in_ok-grants.ensures ∙ ap (map grant_of_row) c.as_slice-2.ensures in
    subst (λ (cs : List (List ℕ)). IfOk c.restore.result (λ made. MatchOption made (CanStand cs (pairs_of_rows s) → ⊥)
    (λ g. CanStand cs (pairs_of_rows s) × (g.checks ≡ cs) × (g.pairs ≡ pairs_of_rows s)))) checks
    (subst (λ (ps : List GrantEntry). IfOk c.restore.result (λ made. MatchOption made (CanStand given ps → ⊥)
    (λ g. CanStand given ps × (g.checks ≡ given) × (g.pairs ≡ ps)))) pairs c.restore.ensures)
