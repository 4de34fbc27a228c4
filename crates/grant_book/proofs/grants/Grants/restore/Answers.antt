use Rattle.std.proofs.Common.{◌≡◌, ◌∙◌, ◌^◌, ◌<◌, true, false, All, List, sym, subst}
use Rattle.std.specs.List.Sorted.{IsPermutation}
use Rattle.cry_base.specs.Sets.{In}
use Rattle.cry_base.specs.Store.{GrantEntry}
use Rattle.sorted_table.specs.Rows.{IsRising}
use Rattle.grant_book.proofs.Ordered.{ordered, rising}
use Rattle.grant_book.proofs.Restored.{All-In, Fits-restored, holders_made, made_holders}
use Rattle.grant_book.specs.Fitting.{CanStand}
use Rattle.grant_book.specs.Ranks.{rank_of}
use Rattle.grant_book.proofs.grants.Grants.restore.Goals as goal

numbers : (pairs : List GrantEntry) → All (λ (e : GrantEntry). e.folder < 2 ^ 32) pairs → (e : GrantEntry) → In e pairs → e.folder < 4294967296
numbers pairs numbered = All-In GrantEntry (λ (e : GrantEntry). e.folder < 2 ^ 32) pairs numbered

pub returns-then-not-are_holders : goal.returns-then-not-are_holders
returns-then-not-are_holders c = λ stand.
    let told = made_holders c.args.checks.now c.args.pairs.now stand.made in
    let wrong : true ≡ false = sym told ∙ sym c.are_holders.ensures ∙ c.if-not-are_holders.true in
    absurd cc

pub returns-in_default : goal.returns-in_default
returns-in_default c = λ stand.
    let none = rw c.in_default.is at c.in_ok-table.ensures in
    none (rising c.args.pairs.now (numbers c.args.pairs.now c.in_ok-on_folders.ensures.numbered) stand.ordered)

stands : (c : goal.After-of_unordered) → CanStand c.args.checks.now c.args.pairs.now
stands c =
    let pairs = c.args.pairs.now in
    let rows : c.in-Some.table.rows ≡ pairs = rw c.in-Some.is at c.in_ok-table.ensures in
    record {
      ordered = ordered pairs (numbers pairs c.in_ok-on_folders.ensures.numbered) (subst (IsRising rank_of) rows c.as_slice-pairs.ensures.rising);
      made = holders_made c.args.checks.now pairs (sym c.are_holders.ensures ∙ c.if-not-are_holders.false);
    }

pub invariant_of-result : goal.invariant_of-result
invariant_of-result c =
    let pairs = c.args.pairs.now in
    let rows : c.in-Some.table.rows ≡ pairs = rw c.in-Some.is at c.in_ok-table.ensures in
    let moved : IsPermutation pairs c.of_unordered.result.rows = subst (λ (l : List GrantEntry). IsPermutation l c.of_unordered.result.rows) c.in_ok-on_folders.ensures.pairs c.of_unordered.ensures in
    rw (c.in_ok-from_slice.ensures.items, rows) (Fits-restored c.args.checks.now pairs c.of_unordered.result.rows c.requires c.in_ok-on_folders.ensures.numbered (stands c) moved)

pub returns : goal.returns
returns c =
    let rows : c.in-Some.table.rows ≡ c.args.pairs.now = rw c.in-Some.is at c.in_ok-table.ensures in
    (stands c, c.in_ok-from_slice.ensures.items, rows)
