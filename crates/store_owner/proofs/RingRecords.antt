-- Records that a ring seals in turn.
use Rattle.std.proofs.Common.{◌≡◌, ℕ, ◌+◌, ◌<◌, ◌≤◌, Bool, true, ◌&&◌, List, [], ◌∷◌, ◌++◌, length, get_or, drop, Option, Some, None, append_assoc, append-nil, ⊎_elim, refl, sym, ap, subst, ◌∙◌, arith}
use Rattle.std.specs.List.{list_all}
use Rattle.std.specs.Prelude.{IsSome, nat_le, unwrap_or}
use Rattle.std.proofs.lemmas.Bool.{and_parts}
use Rattle.std.proofs.lemmas.Bool.Decides.{nat_tests}
use Rattle.std.proofs.lemmas.List.{at_drop_more, at_drop_all}
use Rattle.chacha_seal.specs.Keys.{KeyParts}
use Rattle.chacha_seal.proofs.SealingLemmas.{length-sealed}
use Rattle.cry_base.specs.Sets.{In}
use Rattle.cry_base.specs.declared.roles.Edge.{Edge}
use Rattle.cry_base.specs.declared.roles.Role.{Role}
use Rattle.kind_table.specs.declared.eleven.TheConstants.{ELEVEN}
use Rattle.kind_table.specs.declared.table.Row.{Row}
use Rattle.key_links.specs.Ringed.{Ringed, key_of}
use Rattle.key_links.specs.Sealed.{sealed_content, sealed_link}
use Rattle.record_format.specs.Plain.{PlainContent, plain_content}
use Rattle.record_format.specs.declared.content.ContentRecord.{ContentRecord}
use Rattle.record_format.specs.declared.link.LinkRecord.{LinkRecord}
use Rattle.role_graph.specs.Tabled.{row_of}
use Rattle.role_graph.proofs.Rising.{get_or-In}
use Rattle.public_fold.specs.Records.{Link}
use Rattle.public_fold.specs.declared.heads.ContentHead.{ContentHead}
use Rattle.journal_bytes.specs.Ringing.{held_key, key_for, link_by, links_by, content_by, contents_by, IsHeld}

-- where a ring has a key for a role, it is the one that it holds
pub held : (ring : Ringed) (role : Role) → IsSome (key_of ring role) → key_of ring role ≡ Some (held_key ring role)
unfolding held_key
held ring role = elim (key_of ring role) as (λ (o : Option KeyParts). IsSome o → o ≡ Some (unwrap_or o (key_for role 0 []))) [ None ↦ λ s. absurd cc | Some key ↦ λ s. refl ]

-- the numbers of the rows
In-list_all : (X : Type 0) (test : X → Bool) (xs : List X) (x : X) → list_all test xs ≡ true → In x xs → test x ≡ true
In-list_all X test [] x all here = absurd here
In-list_all X test (y ∷ ys) x all here =
    let both = and_parts (test y) (list_all test ys) all in
    ⊎_elim (λ (e : x ≡ y). subst (λ z. test z ≡ true) (sym e) both.0) (λ others. In-list_all X test ys x both.1 others) here

row_range : (r : Row) → In r ELEVEN.rows → (1 ≤ r.number) × (r.number ≤ 11)
row_range r i =
    let both = and_parts (nat_le 1 r.number) (nat_le r.number 11) (In-list_all Row (λ q. nat_le 1 q.number && nat_le q.number 11) ELEVEN.rows r refl i) in
    let low = both.0 in let high = both.1 in (grind (arith, nat_tests), grind (arith, nat_tests))

-- a sealed link has the kind of its edge
pub link_range : (e : Edge) (r : LinkRecord) (from to : KeyParts) (serial : ℕ) → In (row_of e) ELEVEN.rows → r ≡ sealed_link e.kind from to serial → (1 ≤ r.kind) × (r.kind ≤ 11)
unfolding row_of sealed_link
link_range e r from to serial i is =
    let range = row_range (row_of e) i in
    let kind : r.kind ≡ e.kind = ap (λ (x : LinkRecord). x.kind) is in
    let low : 1 ≤ e.kind = range.0 in let high : e.kind ≤ 11 = range.1 in (omega arith, omega arith)

-- a sealed text has its kind and its length
pub text_range : (r : ContentRecord) (kind object serial : ℕ) (key : KeyParts) (text : List ℕ) → plain_content r ≡ sealed_content kind key object serial text → (r.kind ≡ kind) × (length r.cipher.items ≡ length text)
unfolding sealed_content
text_range r kind object serial key text is =
    (ap (λ (x : PlainContent). x.kind) is, ap (λ (x : PlainContent). length x.cipher) is ∙ length-sealed key.bytes serial text)

-- the next link in turn, and none behind the last
pub links_more : (ring : Ringed) (done : List LinkRecord) (links : List Link) (n i : ℕ) (d : Link) → i < length links
    → (done ++ link_by ring n (get_or links i d) ∷ []) ++ links_by ring (n + 1) (drop (i + 1) links) ≡ done ++ links_by ring n (drop i links)
unfolding links_by
links_more ring done links n i d h =
    append_assoc done (link_by ring n (get_or links i d) ∷ []) (links_by ring (n + 1) (drop (i + 1) links)) ∙ ap (λ l. done ++ l) (sym (at_drop_more (λ (l : List Link). links_by ring n l) links i d h))

pub links_all : (ring : Ringed) (done : List LinkRecord) (links : List Link) (n i : ℕ) → length links ≤ i → done ++ links_by ring n (drop i links) ≡ done
unfolding links_by
links_all ring done links n i h = ap (λ l. done ++ l) (at_drop_all (λ (l : List Link). links_by ring n l) links i h) ∙ append-nil done

-- a turn of the loop
pub link_turn : (ring : Ringed) (done before : List LinkRecord) (links : List Link) (n m i : ℕ) (l : Link) (r : LinkRecord) (all : List LinkRecord)
    → i < length links → l ≡ get_or links i l → before ≡ done ++ r ∷ [] → r ≡ link_by ring n l → m ≡ n + 1
    → done ++ links_by ring n (drop i links) ≡ all → before ++ links_by ring m (drop (i + 1) links) ≡ all
link_turn ring done before links n m i l r all h at joined is next so_far =
    ap (λ b. b ++ links_by ring m (drop (i + 1) links)) (joined ∙ ap (λ x. done ++ x ∷ []) (is ∙ ap (link_by ring n) at))
    ∙ ap (λ k. (done ++ link_by ring n (get_or links i l) ∷ []) ++ links_by ring k (drop (i + 1) links)) next
    ∙ links_more ring done links n i l h
    ∙ so_far

pub next_held : (ring : Ringed) (links : List Link) (i : ℕ) (l : Link) → i < length links → l ≡ get_or links i l → ((x : Link) → In x links → IsHeld ring x) → IsHeld ring l
next_held ring links i l h at each = subst (IsHeld ring) (sym at) (each (get_or links i l) (get_or-In Link links i l h))

-- the one content that there is, and none
pub first_is : (heads : List ContentHead) (h : ContentHead) → 0 < length heads → h ≡ get_or heads 0 h → length heads ≤ 1 → heads ≡ h ∷ []
first_is [] h some at one = absurd (omega arith)
first_is (x ∷ []) h some at one = ap (λ z. z ∷ []) (sym at)
first_is (x ∷ y ∷ ys) h some at one = absurd (omega arith)

pub one_by : (ring : Ringed) (n : ℕ) (text : List ℕ) (heads : List ContentHead) (h : ContentHead) → heads ≡ h ∷ [] → contents_by ring n text heads ≡ content_by ring n h text ∷ []
unfolding contents_by
one_by ring n text heads h is = ap (contents_by ring n text) is

pub none_by : (ring : Ringed) (n : ℕ) (text : List ℕ) (heads : List ContentHead) → length heads ≤ 0 → [] ≡ contents_by ring n text heads
unfolding contents_by
none_by ring n text [] none = refl
none_by ring n text (h ∷ heads) none = absurd (omega arith)
