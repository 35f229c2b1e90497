-- The groups of two names at least are the classes.
use Rattle.std.proofs.Common.{◌≡◌, ◌≢◌, ℕ, zero, suc, ◌<◌, ◌≤◌, Bool, true, false, List, [], ◌∷◌, Contains, filter, map, length, get_or, nat_lt, bytes_eq, refl, sym, ap, subst, ◌∙◌, arith, Vec, Bor}
use Rattle.std.specs.Cmp.Lexicographic.{bytes_decides}
use Rattle.std.proofs.lemmas.Bool.{ltb-true, lt-ltb, cond-true, cond-false}
use Rattle.std.proofs.lemmas.List.{length-map}
use Rattle.std.proofs.lemmas.List.Elements.{All-contains, All-contains_itself, All-filter, filter_passes}
use Rattle.hm_tree.specs.Names.{Name, name_cmp}
use Rattle.hm_alike.specs.Alike.{folded, folded_to, first_name, IsClass, AreClasses}
use Rattle.std.specs.declared.alloc.Global.{Global}
use Rattle.hm_alike.specs.Groups.{AreGroups, lent, lent_lists}
use Rattle.hm_alike.proofs.Rising.{sorted-filter, first_name-has}

module _ {X : Type 0} where
  behind : (x : X) (xs : List X) (y : X) → Contains xs y → Contains (x ∷ xs) y
  behind x xs y h = (suc h.0, omega (arith, h.1), h.2)

  in_front : (x : X) (xs : List X) → Contains (x ∷ xs) x
  in_front x xs = (0, omega arith, refl)

  -- one that passes is kept
  kept : (p : X → Bool) (xs : List X) (y : X) → Contains xs y → p y ≡ true → Contains (filter p xs) y
  kept p [] y h e = absurd (omega (arith, h.1))
  kept p (x ∷ xs) y h e = at (λ h. kept p xs y h e) h.0 h.1 h.2
    where
      later : (b : Bool) → p x ≡ b → Contains (filter p xs) y → Contains (filter p (x ∷ xs)) y
      later true is h = subst (λ l. Contains l y) (sym (cond-true (p x) _ _ is)) (behind x (filter p xs) y h)
      later false is h = subst (λ l. Contains l y) (sym (cond-false (p x) _ _ is)) h

      at : (Contains xs y → Contains (filter p xs) y) → (k : ℕ) → k < length (x ∷ xs) → get_or (x ∷ xs) k y ≡ y
          → Contains (filter p (x ∷ xs)) y
      at rest zero lt is =
          let passes : p x ≡ true = ap p is ∙ e in
          subst (λ l. Contains l y) (sym (cond-true (p x) _ _ passes)) (subst (λ z. Contains (x ∷ filter p xs) z) is (in_front x (filter p xs)))
      at rest (suc k) lt is = later (p x) refl (rest (k, omega arith, is))

  -- what is kept was there, and passes
  was_there : (p : X → Bool) (xs : List X) (y : X) → Contains (filter p xs) y → Contains xs y
  was_there p xs y h = All-contains (Contains xs) (filter p xs) y (All-filter p (Contains xs) xs (All-contains_itself xs)) h

  passed : (p : X → Bool) (xs : List X) (y : X) → Contains (filter p xs) y → p y ≡ true
  passed p xs y h = All-contains (λ x. p x ≡ true) (filter p xs) y (filter_passes p xs) h

module _ {X Y : Type 0} where
  mapped : (f : X → Y) (xs : List X) (x : X) → Contains xs x → Contains (map f xs) (f x)
  mapped f [] x h = absurd (omega (arith, h.1))
  mapped f (z ∷ xs) x h = at (mapped f xs x) h.0 h.1 h.2
    where
      at : (Contains xs x → Contains (map f xs) (f x)) → (k : ℕ) → k < length (z ∷ xs) → get_or (z ∷ xs) k x ≡ x → Contains (map f (z ∷ xs)) (f x)
      at rest zero lt is = subst (λ w. Contains (map f (z ∷ xs)) (f w)) is (in_front (f z) (map f xs))
      at rest (suc k) lt is = behind (f z) (map f xs) (f x) (rest (k, omega arith, is))

  mapped_from : (f : X → Y) (xs : List X) (y : Y) → Contains (map f xs) y → (x : X) × Contains xs x × (f x ≡ y)
  mapped_from f [] y h = absurd (omega (arith, h.1))
  mapped_from f (x ∷ xs) y h = at (mapped_from f xs y) h.0 h.1 h.2
    where
      at : (Contains (map f xs) y → (z : X) × Contains xs z × (f z ≡ y)) → (k : ℕ) → k < length (map f (x ∷ xs))
          → get_or (map f (x ∷ xs)) k y ≡ y → (z : X) × Contains (x ∷ xs) z × (f z ≡ y)
      at rest zero lt is = (x, in_front x xs, is)
      at rest (suc k) lt is = let found = rest (k, omega arith, is) in (found.0, behind x xs found.0 found.1, found.2)

-- of two names at least
abbrev pub has_two : List Name → Bool
has_two c = nat_lt 1 (length c)

-- lists that are lent
pub lent_two : (lists : List (Vec (Bor Name) Global)) → lent_lists (filter (λ l. nat_lt 1 (length l.items)) lists) ≡ filter has_two (lent_lists lists)
lent_two [] = refl
lent_two (l ∷ lists) = go (lent_two lists) (nat_lt 1 (length l.items)) refl
  where
    go : lent_lists (filter (λ l. nat_lt 1 (length l.items)) lists) ≡ filter has_two (lent_lists lists) → (b : Bool) → nat_lt 1 (length l.items) ≡ b
        → lent_lists (filter (λ l. nat_lt 1 (length l.items)) (l ∷ lists)) ≡ filter has_two (lent_lists (l ∷ lists))
    go rest true is =
        ap lent_lists (cond-true (nat_lt 1 (length l.items)) _ _ is) ∙ ap (λ ls. lent l.items ∷ ls) rest
        ∙ sym (cond-true (has_two (lent l.items)) _ _ (ap (nat_lt 1) (length-map l.items (λ n. n.now)) ∙ is))
    go rest false is =
        ap lent_lists (cond-false (nat_lt 1 (length l.items)) _ _ is) ∙ rest
        ∙ sym (cond-false (has_two (lent l.items)) _ _ (ap (nat_lt 1) (length-map l.items (λ n. n.now)) ∙ is))

two_some : (c : List Name) → 2 ≤ length c → c ≢ []
two_some [] le e = let no : ⊥ = omega arith in no
two_some (x ∷ c) le e = let no : ⊥ = cc in no

pub classed : (names texts : List Name) (groups : List (List Name)) → AreGroups names texts groups → AreClasses names (filter has_two groups)
classed names texts groups g = record {
  each = λ c. (to c, from c);
  ascending = sorted-filter name_cmp first_name has_two groups g.ascending;
}
  where
    of_text : (c : List Name) (t : Name) → folded_to names t ≡ c → 2 ≤ length c → IsClass names c
    of_text c t is two =
        let some : folded_to names t ≢ [] = λ e. two_some c two (sym is ∙ e) in
        let test = λ (m : Name). bytes_eq (folded m) t in
        let there = first_name-has (Contains names) (folded_to names t) some (All-filter test (Contains names) names (All-contains_itself names)) in
        let passes = first_name-has (λ m. test m ≡ true) (folded_to names t) some (filter_passes test names) in
        let fold : folded (first_name (folded_to names t)) ≡ t = (bytes_decides _ t).0 passes in
        (first_name (folded_to names t), there, sym is ∙ ap (folded_to names) (sym fold), two)

    to : (c : List Name) → Contains (filter has_two groups) c → IsClass names c
    to c h =
        let there = subst (λ gs. Contains gs c) g.each (was_there has_two groups c h) in
        let text = mapped_from (folded_to names) texts c there in
        let more = ltb-true 1 (length c) (passed has_two groups c h) in
        of_text c text.0 text.2 (omega arith)

    from : (c : List Name) → IsClass names c → Contains (filter has_two groups) c
    from c h =
        let all = mapped (folded_to names) texts (folded h.0) (g.known h.0 h.1) in
        let there : Contains groups c = subst (Contains groups) (sym h.2) (subst (λ gs. Contains gs (folded_to names (folded h.0))) (sym g.each) all) in
        kept has_two groups c there (lt-ltb 1 (length c) (omega (arith, h.3)))
