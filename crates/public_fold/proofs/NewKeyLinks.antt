-- A step publishes one link for each edge then that comes, or has a role that got a key at an end.
use Rattle.std.proofs.Common.{◌≡◌, ◌↔◌, ◌⊎◌, ℕ, ◌+◌, Bool, true, ◌||◌, List, [], ◌∷◌, ◌++◌, map, filter, refl, sym, ap, ◌∙◌}
use Rattle.cry_base.specs.Sets.{In, has}
use Rattle.cry_base.specs.declared.roles.Edge.{Edge}
use Rattle.cry_base.specs.declared.roles.Role.{Role}
use Rattle.cry_base.proofs.Members.{In-append}
use Rattle.role_graph.specs.Edges.{edges, same_edge}
use Rattle.role_graph.specs.Roles.{same_role}
use Rattle.role_graph.proofs.Edging.{edges_told}
use Rattle.role_graph.proofs.Rising.{ascending_told}
use Rattle.record_format.specs.Noted.{Note}
use Rattle.move_plan.specs.Change.{Change, change_of}
use Rattle.move_plan.specs.Fitting.{fits}
use Rattle.public_fold.specs.AtKeys.{comes_or_has_key, roles_of}
use Rattle.public_fold.specs.Journal.{Stand}
use Rattle.public_fold.specs.KeyStep.{KeyState, edges_then, given, is_published, is_strict, key_step, link_of, links_from, next_serial, numbered, planned, published, published_edges, renewed, step_with}
use Rattle.public_fold.specs.Records.{Link, Piece}
use Rattle.public_fold.specs.Rooted.{MayStand}
use Rattle.public_fold.specs.Told.{told_store}
use Rattle.public_fold.proofs.EdgesThen.{then_told}
use Rattle.public_fold.proofs.NoteMoves.{note_moves}

pub numbered_items : (X : Type 0) (n : ℕ) (xs : List X) → map (λ (q : X × ℕ). q.0) (numbered n xs) ≡ xs
unfolding numbered
numbered_items X n [] = refl
numbered_items X n (x ∷ xs) = ap (λ (l : List X). x ∷ l) (numbered_items X (n + 1) xs)

pub linked_edges : (keys : List (Role × ℕ)) (n : ℕ) (es : List Edge) → map (λ (l : Link). l.edge) (links_from keys n es) ≡ es
unfolding links_from link_of numbered
linked_edges keys n [] = refl
linked_edges keys n (e ∷ es) = ap (λ (l : List Edge). e ∷ l) (linked_edges keys (n + 1) es)

-- the roles that get keys
pub given_roles : (k : KeyState) (before : List Edge) (c : Change) (pieces : List Piece) → roles_of (key_step k before c pieces).given ≡ renewed k before c ++ c.fresh
unfolding key_step step_with published given
given_roles k before c pieces = numbered_items Role (next_serial k) (renewed k before c ++ c.fresh)

-- those that are renewed
pub renewed_roles : (k : KeyState) (before : List Edge) (c : Change) (r : Role) → In r (renewed k before c) ↔ (In r c.strict ⊎ In r (planned k before c))
unfolding renewed
renewed_roles k before c r =
    let told = ascending_told r (c.strict ++ planned k before c) in
    let both = In-append Role r c.strict (planned k before c) in
    (λ i. both.0 (told.0 i), λ w. told.1 (both.1 w))

-- the edges that links are published for
pub published_links : (k : KeyState) (before : List Edge) (c : Change) (pieces : List Piece)
    → map (λ (l : Link). l.edge) (key_step k before c pieces).links ≡ filter (comes_or_has_key c (key_step k before c pieces).given) (edges_then before c)
unfolding key_step step_with published published_edges is_published comes_or_has_key
published_links k before c pieces =
    let at : List Role → Edge → Bool = λ rs e. has same_edge c.added e || has same_role rs e.from || has same_role rs e.to in
    linked_edges _ _ (published_edges before c (renewed k before c))
    ∙ ap (λ (rs : List Role). filter (at rs) (edges_then before c)) (sym (given_roles k before c pieces))

-- the edges after a note that fits
pub fitting_edges : (at : Stand) (note : Note) → fits (is_strict at.keys) at.store note ≡ true → MayStand at.store → (e : Edge)
    → In e (edges_then (edges at.store) (change_of (is_strict at.keys) at.store note)) ↔ In e (edges (told_store at.store note))
fitting_edges at note fit stands e =
    let c = change_of (is_strict at.keys) at.store note in
    let here = then_told at.store c e in
    let leads = (note_moves (is_strict at.keys) at.store note fit stands).leads e in
    let after = edges_told (told_store at.store note) e in
    (λ i. after.1 (leads.0 (here.0 i)), λ i. here.1 (leads.1 (after.0 i)))
