-- The places of lines, and the one list of nodes of a file.
use Rattle.std.proofs.Common.{◌≡◌, ◌⊎◌, inl, inr, ℕ, zero, suc, ◌+◌, ◌<◌, ◌≤◌, Bool, true, false, cond, List, [], ◌∷◌, length, Option, Some, None, refl, sym, ap, subst, ◌∙◌, arith, slice_get, take, count_by, filter_map}
use Rattle.std.specs.Prelude.{codes}
use Rattle.std.specs.List.{Contains}
use Rattle.std.specs.FinMap.{find}
use Rattle.std.specs.FinMap.Entries.{same_entries}
use Rattle.std.proofs.lemmas.Option.{slice_get_within}
use Rattle.std.proofs.lemmas.List.{take_all}
use Rattle.std.proofs.lemmas.List.Sums.{sum_by-cons}
use mathlib.Core.Bool.{true≢false}
use lib.Pointwise.{pointwise, bytes_decides}
use lib.Dec.{eqb}
use Rattle.hm_tree.specs.Names.{Name, name_cmp}
use Rattle.hm_tree.proofs.Sorted.{name_total, name_one}
use Rattle.hm_schema.specs.Values.{NodeValue}
use Rattle.hm_schema_lines.specs.NodeLines.{node}
use Rattle.hm_schema_lines.specs.Entries.{EntryValue, says}
use Rattle.hm_schema_lines.specs.BadLines.{IsBadNodeLine, Says, named, begins_node, nodes_before, behind, declared_twice, declares_empty}
use Rattle.hm_schema_lines.specs.Nodes.{IsPlaceOf, declared, empty, IsNodeOf, AreNodesOf, named_by, NamesEmpty, empty_node}
use Rattle.hm_schema_lines.specs.Firsts.{place_in}
use Rattle.hm_schema_lines.specs.FirstBad.{HasNoBad}
use Rattle.hm_schema_lines.proofs.Places.{there, not_there}

-- ---- lines that are counted

pub record IsCounted (p : EntryValue → Bool) (es : List EntryValue) (n : ℕ) : Type 0 where
  pub place : ℕ
  pub entry : EntryValue
  pub is : slice_get es place ≡ Some entry
  pub counted : p entry ≡ true
  pub before : count_by p (take place es) ≡ n

pub count_cons : {X : Type 0} (p : X → Bool) (e : X) (es : List X) (b : Bool) → p e ≡ b → count_by p (e ∷ es) ≡ cond b 1 0 + count_by p es
count_cons p e es b h = sum_by-cons (λ x. cond (p x) 1 0) e es ∙ ap (λ (z : Bool). cond z 1 0 + count_by p es) h

-- each number below the count is that of a line
pub counted : (p : EntryValue → Bool) (es : List EntryValue) (n : ℕ) → n < count_by p es → IsCounted p es n
counted p [] n h = absurd (omega arith)
counted p (e ∷ es) n h = go (λ m. counted p es m) (p e) refl n h
  where
    here : p e ≡ true → IsCounted p (e ∷ es) 0
    here is = record { place = 0; entry = e; is = refl; counted = is; before = refl }

    further : (b : Bool) (m k : ℕ) → p e ≡ b → cond b 1 0 + m ≡ k → IsCounted p es m → IsCounted p (e ∷ es) k
    further b m k is sum c = record {
      place = suc c.place;
      entry = c.entry;
      is = c.is;
      counted = c.counted;
      before = count_cons p e (take c.place es) b is ∙ ap (λ n. cond b 1 0 + n) c.before ∙ sum;
    }

    go : ((m : ℕ) → m < count_by p es → IsCounted p es m) → (b : Bool) → p e ≡ b → (n : ℕ) → n < count_by p (e ∷ es) → IsCounted p (e ∷ es) n
    go more true is zero h = here is
    go more true is (suc n) h = let c = count_cons p e es true is in further true n (suc n) is (omega arith) (more n (omega arith))
    go more false is n h = let c = count_cons p e es false is in further false n n is (omega arith) (more n (omega arith))

-- more are counted before a later line, and in all
pub more_before : {X : Type 0} (p : X → Bool) (es : List X) (i j : ℕ) (e : X) → slice_get es i ≡ Some e → p e ≡ true → i < j
    → count_by p (take i es) < count_by p (take j es)
more_before p [] i j e is told h = let f : ⊥ = cc in absurd f
more_before p (d ∷ es) i zero e is told h = absurd (omega arith)
more_before p (d ∷ es) zero (suc j) e is told h =
    let same : d ≡ e = cc in
    let sum = count_cons p d (take j es) true (ap p same ∙ told) in
    omega arith
more_before p (d ∷ es) (suc i) (suc j) e is told h =
    let rest = more_before p es i j e is told (omega arith) in
    let here = count_cons p d (take i es) (p d) refl in
    let there = count_cons p d (take j es) (p d) refl in
    omega arith

pub counted_below : {X : Type 0} (p : X → Bool) (es : List X) (i : ℕ) (e : X) → slice_get es i ≡ Some e → p e ≡ true
    → count_by p (take i es) < count_by p es
counted_below p es i e is told = subst (λ z. count_by p (take i es) < count_by p z) (take_all (length es) es (omega arith))
    (more_before p es i (length es) e is told (slice_get_within es i e is))

-- ---- the place of a node

pub before_it : (es : List EntryValue) (i j : ℕ) (e : EntryValue) → slice_get es i ≡ Some e → i < j → Contains (take j es) e
before_it [] i j e h below = let f : ⊥ = cc in absurd f
before_it (d ∷ es) i zero e h below = absurd (omega arith)
before_it (d ∷ es) zero (suc j) e h below = (0, omega arith, same)
  where
    same : d ≡ e
    same = cc
before_it (d ∷ es) (suc i) (suc j) e h below = let c = before_it es i j e h (omega arith) in (suc c.0, (let l = c.1 in omega arith), c.2)

module _ (es : List EntryValue) (none : HasNoBad (IsBadNodeLine es)) where
  not_twice : (w : Name) (i j : ℕ) → Says es i (node w) → Says es j (node w) → ¬ (i < j)
  not_twice w i j h k below = none j (declared_twice k (before_it es i j (says (node w)) h below))

  pub place_once : (w : Name) (a b : ℕ) → IsPlaceOf es w a → IsPlaceOf es w b → a ≡ b
  place_once w _ _ (declared i h) (declared j k) = ap (nodes_before es) (omega (arith, not_twice w i j h k, not_twice w j i k h))
  place_once _ _ _ (declared i h) empty = absurd (none i (declares_empty h))
  place_once _ _ _ empty (declared j k) = absurd (none j (declares_empty k))
  place_once _ _ _ empty empty = refl

-- ---- one node of some lines

same_option : {X : Type 0} (a b : Option X) → ((x : X) → a ≡ Some x → b ≡ Some x) → ((x : X) → b ≡ Some x → a ≡ Some x) → a ≡ b
same_option None None f g = refl
same_option None (Some y) f g = g y refl
same_option (Some x) b f g = sym (f x refl)

module _ (es lines : List EntryValue) (n m : NodeValue) (h : IsNodeOf es lines n) (k : IsNodeOf es lines m) where
  same_children : n.children ≡ m.children
  same_children = same_entries name_cmp name_total name_one n.children m.children h.ascending k.ascending
      (λ q. same_option (find name_cmp q n.children) (find name_cmp q m.children) (λ id f. (k.children q id).1 ((h.children q id).0 f))
      (λ id f. (h.children q id).1 ((k.children q id).0 f)))

  same_other : n.other ≡ m.other
  same_other = same_option n.other m.other (λ o f. (k.other o.0 o.1).1 ((h.other o.0 o.1).0 f)) (λ o f. (h.other o.0 o.1).1 ((k.other o.0 o.1).0 f))

  node_once : n ≡ m
  node_once =
      ap (λ z. record { shapes = z; children = n.children; other = n.other; twins = n.twins }) (h.shapes ∙ sym k.shapes)
      ∙ ap (λ z. record { shapes = m.shapes; children = z; other = n.other; twins = n.twins }) same_children
      ∙ ap (λ z. record { shapes = m.shapes; children = m.children; other = z; twins = n.twins }) same_other
      ∙ ap (λ z. record { shapes = m.shapes; children = m.children; other = m.other; twins = z }) (h.twins ∙ sym k.twins)

-- ---- whether `Empty` is named

pub empty_or : (w : Name) → (w ≡ codes "Empty") ⊎ ((w ≡ codes "Empty") → ⊥)
empty_or w = go (pointwise eqb w (codes "Empty")) refl
  where
    go : (b : Bool) → pointwise eqb w (codes "Empty") ≡ b → (w ≡ codes "Empty") ⊎ ((w ≡ codes "Empty") → ⊥)
    go true e = inl ((bytes_decides w (codes "Empty")).0 e)
    go false e = inr (λ same. true≢false (sym ((bytes_decides w (codes "Empty")).1 same) ∙ e))

pub nat_cases : (p n : ℕ) → (p < n) ⊎ (n ≤ p)
nat_cases p zero = inr (omega arith)
nat_cases zero (suc n) = inl (omega arith)
nat_cases (suc p) (suc n) = go (nat_cases p n)
  where
    go : (p < n) ⊎ (n ≤ p) → (suc p < suc n) ⊎ (suc n ≤ suc p)
    go (inl h) = inl (omega arith)
    go (inr h) = inr (omega arith)

pub names_empty_or : (es : List EntryValue) (own : List Name) → NamesEmpty es own ⊎ (NamesEmpty es own → ⊥)
names_empty_or es own = go (place_in (codes "Empty") (filter_map named_by es)) refl (place_in (codes "Empty") own) refl
  where
    none : place_in (codes "Empty") (filter_map named_by es) ≡ None → place_in (codes "Empty") own ≡ None → NamesEmpty es own → ⊥
    none no_line no_own (inl c) = not_there (codes "Empty") (filter_map named_by es) no_line c
    none no_line no_own (inr c) = not_there (codes "Empty") own no_own c

    go : (o : Option ℕ) → place_in (codes "Empty") (filter_map named_by es) ≡ o → (q : Option ℕ) → place_in (codes "Empty") own ≡ q
        → NamesEmpty es own ⊎ (NamesEmpty es own → ⊥)
    go (Some p) is q at = inl (inl (there (codes "Empty") (filter_map named_by es) p is))
    go None is (Some q) at = inl (inr (there (codes "Empty") own q at))
    go None is None at = inr (none is at)

-- ---- all nodes

-- a node is that of a node line, or the last one
pub data IsOneOf (es : List EntryValue) (own : List Name) (p : ℕ) (n : NodeValue) : Type 0 where
  of_line : (i : ℕ) (w : Name) → Says es i (node w) → nodes_before es i ≡ p → IsNodeOf es (behind es i) n → IsOneOf es own p n
  last : NamesEmpty es own → p ≡ count_by begins_node es → n ≡ empty_node → IsOneOf es own p n

pub node_line : (es : List EntryValue) (i : ℕ) (e : EntryValue) → slice_get es i ≡ Some e → begins_node e ≡ true → (w : Name) × Says es i (node w)
node_line es i (says (node w)) is told = (w, is)
node_line es i e is told = let f : ⊥ = cc in absurd f

pub one_of : (es : List EntryValue) (own : List Name) (ns : List NodeValue) → AreNodesOf es own ns → (p : ℕ) (n : NodeValue)
    → slice_get ns p ≡ Some n → IsOneOf es own p n
one_of es own ns h p n is = go (names_empty_or es own) (nat_cases p (count_by begins_node es))
  where
    line : p < count_by begins_node es → IsOneOf es own p n
    line below =
        let c = counted begins_node es p below in
        let l = node_line es c.place c.entry c.is c.counted in
        let m = h.lines c.place l.0 l.1 in
        let both : Some m.0 ≡ Some n = sym m.1 ∙ ap (slice_get ns) c.before ∙ is in
        let same : m.0 ≡ n = cc in
        of_line c.place l.0 l.1 c.before (subst (IsNodeOf es (behind es c.place)) same m.2)

    go : NamesEmpty es own ⊎ (NamesEmpty es own → ⊥) → (p < count_by begins_node es) ⊎ (count_by begins_node es ≤ p) → IsOneOf es own p n
    go named (inl below) = line below
    go (inl named) (inr above) =
        let long = h.long named in
        let within = slice_get_within ns p n is in
        let place : p ≡ count_by begins_node es = omega arith in
        let both : Some n ≡ Some empty_node = sym is ∙ ap (slice_get ns) place ∙ h.empty named in
        let same : n ≡ empty_node = cc in
        last named place same
    go (inr not_named) (inr above) =
        let short = h.short not_named in
        let within = slice_get_within ns p n is in
        absurd (omega arith)

same_list : {X : Type 0} (xs ys : List X) → length xs ≡ length ys → ((p : ℕ) (x : X) → slice_get xs p ≡ Some x → slice_get ys p ≡ Some x) → xs ≡ ys
same_list [] [] l h = refl
same_list [] (y ∷ ys) l h = absurd (omega arith)
same_list (x ∷ xs) [] l h = absurd (omega arith)
same_list (x ∷ xs) (y ∷ ys) l h =
    let f : Some y ≡ Some x = h 0 x refl in
    let first : y ≡ x = cc in
    let more : xs ≡ ys = same_list xs ys (omega arith) (λ p z is. h (suc p) z is) in
    cc

module _ (es : List EntryValue) (own : List Name) (ns ms : List NodeValue) (h : AreNodesOf es own ns) (k : AreNodesOf es own ms) where
  kept : (p : ℕ) (n : NodeValue) → IsOneOf es own p n → slice_get ms p ≡ Some n
  kept p n (of_line i w is before one) =
      let m = k.lines i w is in
      ap (slice_get ms) (sym before) ∙ m.1 ∙ ap Some (node_once es (behind es i) m.0 n m.2 one)
  kept p n (last named place is) = ap (slice_get ms) place ∙ k.empty named ∙ ap Some (sym is)

  same_length : length ns ≡ length ms
  same_length = go (names_empty_or es own)
    where
      go : NamesEmpty es own ⊎ (NamesEmpty es own → ⊥) → length ns ≡ length ms
      go (inl named) = h.long named ∙ sym (k.long named)
      go (inr not_named) = h.short not_named ∙ sym (k.short not_named)

  pub nodes_once : ns ≡ ms
  nodes_once = same_list ns ms same_length (λ p n is. kept p n (one_of es own ns h p n is))

pub no_twins : (es : List EntryValue) (own : List Name) (ns : List NodeValue) → AreNodesOf es own ns → (p : ℕ) (n : NodeValue)
    → slice_get ns p ≡ Some n → n.twins ≡ []
no_twins es own ns h p n is = go (one_of es own ns h p n is)
  where
    go : IsOneOf es own p n → n.twins ≡ []
    go (of_line j w at before one) = one.twins
    go (last named place same) = ap (λ (z : NodeValue). z.twins) same
