-- Which property a line is of.
use Rattle.std.proofs.Common.{◌≡◌, ℕ, zero, suc, ◌+◌, ◌<◌, ◌≤◌, Bool, true, false, cond, T, List, [], ◌∷◌, map, slice_get, Option, Some, None, refl, sym, ap, ◌∙◌, subst, arith, inl, inr}
use Rattle.std.specs.Prelude.{All}
use Rattle.std.specs.Bool.{nat_lt}
use Rattle.std.specs.Char.{to_ascii_lowercase, is_ascii_lowercase}
use Rattle.std.specs.List.{find}
use Rattle.std.specs.Ordering.{is_lt}
use Rattle.std.specs.Str.{str_eq_ignore_ascii_case}
use Rattle.std.proofs.lemmas.Bool.{cases_lt, lt-ltb, le-ltb, le-leb}
use Rattle.std.proofs.lemmas.Cmp.{tied_itself}
use Rattle.std.proofs.lemmas.Option.{same_Some, none-some, slice_get_within, get_or_from_slice_get}
use Rattle.std.proofs.lemmas.List.Elements.{All-head, All-tail}
use Rattle.std.proofs.lemmas.Slice.Eq.{bytes_eq-Decides}
use Rattle.hm_tree.specs.Names.{Name, name_cmp}
use Rattle.hm_tree.specs.Nodes.{below_all, are_edges, edges_below, edges_tail, first, second}
use Rattle.hm_tree.proofs.Sorted.{name_total}
use Rattle.hm_lines.specs.declared.content.LineParts.{LineParts}
use Rattle.hm_book_cards.specs.Cards.{Shown}
use Rattle.hm_lines_cards.specs.Lines.{Line, IsCapital, AreProperties, name_in, is_named, is_of}
use Rattle.hm_lines_cards.specs.Rewriting.{Property, property_of}

-- ---- names in capitals differ in more than their case

data Lowered (c : ℕ) : Type 0 where
  stays : to_ascii_lowercase c ≡ c → (65 ≤ c → 91 ≤ c) → Lowered c
  lowered : to_ascii_lowercase c ≡ c + 32 → 65 ≤ c → c < 91 → Lowered c

lowered_is : (c : ℕ) → Lowered c
lowered_is c = elim (cases_lt c 65) [
  | inl low ↦ stays (ap (λ b. cond b c (cond (nat_lt c 91) (c + 32) c)) (lt-ltb c 65 low)) (λ h. absurd (omega arith))
  | inr le ↦ elim (cases_lt c 91) [
    | inl upper ↦ lowered (ap (λ b. cond b c (cond (nat_lt c 91) (c + 32) c)) (le-ltb c 65 le) ∙ ap (λ b. cond b (c + 32) c) (lt-ltb c 91 upper)) le upper
    | inr high ↦ stays (ap (λ b. cond b c (cond (nat_lt c 91) (c + 32) c)) (le-ltb c 65 le) ∙ ap (λ b. cond b (c + 32) c) (le-ltb c 91 high)) (λ h. high)
  ]
]

no_small : (a b : ℕ) → IsCapital b → b ≡ a + 32 → 65 ≤ a → a < 91 → ⊥
no_small a b capital is le lt =
    let in_range : is_ascii_lowercase b ≡ true = rw (le-leb 97 b (omega arith), le-leb b 122 (omega arith)) refl in
    let bad : ⊥ = cc in
    bad

lower_one : (a b : ℕ) → IsCapital a → IsCapital b → to_ascii_lowercase a ≡ to_ascii_lowercase b → a ≡ b
lower_one a b one other e = elim (lowered_is a) [
  | stays p h ↦ elim (lowered_is b) [
    | stays q k ↦ sym p ∙ e ∙ q
    | lowered q le lt ↦ absurd (no_small b a one (sym p ∙ e ∙ q) le lt)
  ]
  | lowered p le lt ↦ elim (lowered_is b) [
    | stays q k ↦ absurd (no_small a b other (sym q ∙ sym e ∙ p) le lt)
    | lowered q le' lt' ↦ omega arith
  ]
]

lowers_one : (p q : List ℕ) → All IsCapital p → All IsCapital q → map to_ascii_lowercase p ≡ map to_ascii_lowercase q → p ≡ q
lowers_one [] [] one other e = refl
lowers_one [] (b ∷ q) one other e = let bad : ⊥ = cc in absurd bad
lowers_one (a ∷ p) [] one other e = let bad : ⊥ = cc in absurd bad
lowers_one (a ∷ p) (b ∷ q) one other e =
    let here : to_ascii_lowercase a ≡ to_ascii_lowercase b = cc in
    let rest : map to_ascii_lowercase p ≡ map to_ascii_lowercase q = cc in
    λ i. lower_one a b (All-head IsCapital a p one) (All-head IsCapital b q other) here i
    ∷ lowers_one p q (All-tail IsCapital a p one) (All-tail IsCapital b q other) rest i

-- a line is of one property at the most
pub one_property : (p q : Name) (l : Line) → All IsCapital p → All IsCapital q → is_of p l ≡ true → is_of q l ≡ true → p ≡ q
one_property p q l one other e f = go l.1 e f
  where
    go : (o : Option LineParts) → is_named p l.0 o ≡ true → is_named q l.0 o ≡ true → p ≡ q
    go None e f = let bad : ⊥ = cc in absurd bad
    go (Some parts) e f =
        lowers_one p q one other
        (sym ((bytes_eq-Decides (map to_ascii_lowercase (name_in l.0 parts)) (map to_ascii_lowercase p)).0 e)
        ∙ (bytes_eq-Decides (map to_ascii_lowercase (name_in l.0 parts)) (map to_ascii_lowercase q)).0 f)

-- a name is itself without regard to case
pub itself : (p : Name) → str_eq_ignore_ascii_case p p ≡ true
itself p = (bytes_eq-Decides (map to_ascii_lowercase p) (map to_ascii_lowercase p)).1 refl

-- ---- names that rise

not_less : (k : Name) → T (is_lt (name_cmp k k)) → ⊥
not_less k h = subst (λ o. T (is_lt o)) (tied_itself name_total k) h

pub below_there : {X : Type 0} (k : Name) (es : List (Name × X)) → T (below_all k es) → (i : ℕ) (e : Name × X) → slice_get es i ≡ Some e → T (is_lt (name_cmp k e.0))
below_there k [] h i e at = absurd (none-some e at)
below_there {X} k (d ∷ es) h zero e at = subst (λ (x : Name × X). T (is_lt (name_cmp k x.0))) (same_Some d e at) (first _ _ h)
below_there k (d ∷ es) h (suc i) e at = below_there k es (second _ _ h) i e at

-- a name less than others isn't one of them
pub apart : {X : Type 0} (k : Name) (es : List (Name × X)) → T (below_all k es) → (i : ℕ) (e : Name × X) → slice_get es i ≡ Some e → k ≡ e.0 → ⊥
apart k es h i e at same = not_less k (subst (λ n. T (is_lt (name_cmp k n))) (sym same) (below_there k es h i e at))

-- ---- the property of a line

-- what is found
pub found_there : {X : Type 0} (test : X → Bool) (xs : List X) (x : X) → find test xs ≡ Some x → (i : ℕ) × ((slice_get xs i ≡ Some x) × (test x ≡ true))
found_there test [] x e = absurd (none-some x e)
found_there {X} test (y ∷ xs) x e = go (test y) refl e (found_there test xs x)
  where
    go : (b : Bool) → test y ≡ b → cond b (Some y) (find test xs) ≡ Some x → (find test xs ≡ Some x → (i : ℕ) × ((slice_get xs i ≡ Some x) × (test x ≡ true)))
        → (i : ℕ) × ((slice_get (y ∷ xs) i ≡ Some x) × (test x ≡ true))
    go true t e rest = (0, (e, subst (λ z. test z ≡ true) (same_Some y x e) t))
    go false t e rest = let r = rest e in (suc r.0, r.1)

found_by : (properties : Shown) → T (are_edges properties) → All (λ (p : Property). All IsCapital p.0) properties → (i : ℕ) (q : Property)
    → slice_get properties i ≡ Some q → (l : Line) → is_of q.0 l ≡ true → property_of properties l ≡ Some q
found_by [] names capitals i q at l of = absurd (none-some q at)
found_by (p ∷ properties) names capitals zero q at l of =
    ap (λ b. cond b (Some p) (property_of properties l)) (ap (λ (r : Property). is_of r.0 l) (same_Some p q at) ∙ of) ∙ at
found_by (p ∷ properties) names capitals (suc i) q at l of = go (is_of p.0 l) refl (found_by properties (edges_tail p properties names) (All-tail (λ (p : Property). All IsCapital p.0) p properties capitals) i q at l of)
  where
    go : (b : Bool) → is_of p.0 l ≡ b → property_of properties l ≡ Some q → cond b (Some p) (property_of properties l) ≡ Some q
    go true e rest =
        absurd
        (apart p.0 properties (edges_below p properties names) i q at
        (one_property p.0 q.0 l (All-head (λ (p : Property). All IsCapital p.0) p properties capitals)
        (subst (λ (r : Property). All IsCapital r.0) (get_or_from_slice_get (p ∷ properties) (suc i) q q at)
        (capitals (suc i) q (slice_get_within (p ∷ properties) (suc i) q at))) e of))
    go false e rest = rest

-- a line of a property is of it alone
pub property_found : (properties : Shown) → AreProperties properties → (i : ℕ) (q : Property) → slice_get properties i ≡ Some q → (l : Line) → is_of q.0 l ≡ true
    → property_of properties l ≡ Some q
property_found properties are i q at l of = found_by properties are.names are.capitals i q at l of
