-- A set of names fits a joined shape where its names that pass a test fit the first of the two, and its other names the second.
use Rattle.std.proofs.Common.{◌≡◌, ◌⊎◌, ◌+◌, ◌≤◌, ℕ, Bool, true, false, cond, not, ◌||◌, IsTrue, IfSome, IsSomeAnd, is_some, List, [], ◌∷◌, map, Option, Some, None, All, Any, refl, sym, ap, subst, ◌∙◌, arith, inl, inr}
use Rattle.std.proofs.lemmas.Bool.{true≢false, or_cases, or_left, or_right, not-true}
use Rattle.std.proofs.lemmas.List.Elements.{All-nil, All-head, All-tail, All-append, All-map}
use Rattle.std.specs.Option.{option_or}
use Rattle.std.specs.FinMap.{find}
use Rattle.std.specs.FinSet.{contains, retain, union, contains-union}
use Rattle.hm_tree.specs.Classes.{IsInClass}
use Rattle.hm_tree.specs.Names.{Name, name_cmp}
use Rattle.hm_tree.proofs.Sorted.{name_total}
use Rattle.hm_schema.specs.declared.node.Shape.{Shape}
use Rattle.hm_schema.specs.Values.{Names, NodeOver, is_listed}
use Rattle.hm_schema.specs.Permitted.{Fits, Takes, unlisted, IsWithin}
use Rattle.hm_schema.specs.WellFormed.{IsWellFormedShape}
use Rattle.hm_schema.specs.Tidied.{has_name}
use Rattle.hm_schema.specs.Shapes.{IsShut, HasOnly, Requires}
use Rattle.hm_types_nodes.specs.Parting.{Parts, listed, shut}
use Rattle.hm_types_nodes.specs.Joining.{added, joined_shape, joined_shapes, IsJoined}
use Rattle.hm_schema.proofs.Elements.{Holds, at_head, in_tail, holds_from, holds_to, holds_left, holds_right, holds_split}
use Rattle.hm_schema.proofs.NameSets.{kept_parts, kept_from}
use Rattle.hm_schema.proofs.Shapes.{required_has, zero_count, all_listed, same_count}
use Rattle.hm_schema.proofs.Drawn.{any_mapped, mapped_any}

-- ---- a shape for each pair of two lists

module _ (P : Shape → Type 0) where
  pairs_from : (xs bs : List Shape) → Holds P (joined_shapes xs bs) → Holds (λ a. Any (λ b. P (joined_shape a b)) bs) xs
  pairs_from [] bs h = elim h [ ]
  pairs_from (a ∷ xs) bs h = elim (holds_split P (map (joined_shape a) bs) (joined_shapes xs bs) h) [
    | inl x ↦ at_head (mapped_any P (joined_shape a) bs (holds_to P x))
    | inr x ↦ in_tail (pairs_from xs bs x)
  ]

  pairs_to : (bs : List Shape) {xs : List Shape} → Holds (λ a. Any (λ b. P (joined_shape a b)) bs) xs → Holds P (joined_shapes xs bs)
  pairs_to bs (at_head {x = a} {xs = xs} h) = holds_left P (joined_shapes xs bs)
      (holds_from P (map (joined_shape a) bs) (any_mapped P (joined_shape a) bs h))
  pairs_to bs (in_tail {x = a} h) = holds_right P (map (joined_shape a) bs) (pairs_to bs h)

  pub joined_from : (xs bs : List Shape) → Any P (joined_shapes xs bs) → Any (λ a. Any (λ b. P (joined_shape a b)) bs) xs
  joined_from xs bs h = holds_to (λ a. Any (λ b. P (joined_shape a b)) bs) (pairs_from xs bs (holds_from P (joined_shapes xs bs) h))

  pub joined_to : (xs bs : List Shape) → Any (λ a. Any (λ b. P (joined_shape a b)) bs) xs → Any P (joined_shapes xs bs)
  joined_to xs bs h = holds_to P (pairs_to bs (holds_from (λ a. Any (λ b. P (joined_shape a b)) bs) xs h))

  pub joined_all : (xs bs : List Shape) → All (λ a. All (λ b. P (joined_shape a b)) bs) xs → All P (joined_shapes xs bs)
  joined_all [] bs h = All-nil P
  joined_all (a ∷ xs) bs h = All-append P (map (joined_shape a) bs) (joined_shapes xs bs)
      (All-map P (joined_shape a) bs (All-head (λ a. All (λ b. P (joined_shape a b)) bs) a xs h))
      (joined_all xs bs (All-tail (λ a. All (λ b. P (joined_shape a b)) bs) a xs h))

-- ---- the names of a joined shape

pub has_joined : (a b : Shape) (k : Name) → has_name (joined_shape a b) k ≡ (has_name a k || has_name b k)
has_joined a b k = ap (λ x. x || contains (union a.optional b.optional) k) (contains-union name_total a.required b.required k)
    ∙ ap (λ x. (contains a.required k || contains b.required k) || x) (contains-union name_total a.optional b.optional k)
    ∙ go (contains a.required k) (contains b.required k) (contains a.optional k) (contains b.optional k)
  where
    go : (ra rb oa ob : Bool) → ((ra || rb) || (oa || ob)) ≡ ((ra || oa) || (rb || ob))
    go true rb oa ob = refl
    go false true true ob = refl
    go false true false ob = refl
    go false false true ob = refl
    go false false false ob = refl

module _ (a b : Shape) (k : Name) where
  pub joined_has : IsTrue (has_name (joined_shape a b) k) → IsTrue (has_name a k) ⊎ IsTrue (has_name b k)
  joined_has h = or_cases (has_name a k) (has_name b k) (sym (has_joined a b k) ∙ h)

  pub first_has : IsTrue (has_name a k) → IsTrue (has_name (joined_shape a b) k)
  first_has h = has_joined a b k ∙ or_left (has_name a k) (has_name b k) h

  pub second_has : IsTrue (has_name b k) → IsTrue (has_name (joined_shape a b) k)
  second_has h = has_joined a b k ∙ or_right (has_name a k) (has_name b k) h

  pub joined_requires : Requires k (joined_shape a b) → Requires k a ⊎ Requires k b
  joined_requires h = or_cases (contains a.required k) (contains b.required k) (sym (contains-union name_total a.required b.required k) ∙ h)

  pub first_requires : Requires k a → Requires k (joined_shape a b)
  first_requires h = contains-union name_total a.required b.required k ∙ or_left (contains a.required k) (contains b.required k) h

  pub second_requires : Requires k b → Requires k (joined_shape a b)
  second_requires h = contains-union name_total a.required b.required k ∙ or_right (contains a.required k) (contains b.required k) h

-- ---- its count, where the first is shut

-- what is known of a shape of the first view, and of one of the second
pub record IsFirst {I : Type 0} (q : Name → Bool) (one : NodeOver I) (a : Shape) : Type 0 where
  pub well : IsWellFormedShape one a
  pub shut : IsShut a
  pub inside : HasOnly q a

pub record IsSecond {I : Type 0} (q : Name → Bool) (two : NodeOver I) (b : Shape) : Type 0 where
  pub outside : HasOnly (λ k. not (q k)) b
  pub parts : Parts two b q

module _ {I : Type 0} (q : Name → Bool) (one : NodeOver I) (a b : Shape) (fa : IsFirst q one a) where
  pub no_least : a.least ≡ 0
  no_least = let le : a.least ≤ 0 = subst (λ m. IfSome m (λ most. a.least ≤ most)) fa.shut fa.well.ordered in omega arith

  pub same_most : added a.most b.most ≡ b.most
  same_most = ap (λ m. added m b.most) fa.shut ∙ go b.most
    where
      go : (m : Option ℕ) → added (Some 0) m ≡ m
      go None = refl
      go (Some x) = let e : 0 + x ≡ x = omega arith in ap Some e

  pub within_second : (u : ℕ) → IsWithin (joined_shape a b) u → IsWithin b u
  within_second u w = record {
    least = (let l = w.least in omega (arith, no_least));
    most = subst (λ m. IfSome m (λ most. u ≤ most)) same_most w.most;
  }

  pub within_joined : (u : ℕ) → IsWithin b u → IsWithin (joined_shape a b) u
  within_joined u w = record {
    least = (let l = w.least in omega (arith, no_least));
    most = subst (λ m. IfSome m (λ most. u ≤ most)) (sym same_most) w.most;
  }

-- ---- the names that fit

module _ {I : Type 0} (q : Name → Bool) (one two n : NodeOver I) (j : IsJoined q one two n) where
  abbrev out : Name → Bool
  out k = not (q k)

  some_or : (x y : Option I) → is_some (option_or x y) ≡ (is_some x || is_some y)
  some_or None y = refl
  some_or (Some x) y = refl

  -- which names the view lists
  pub listed_in : (k : Name) → IsTrue (q k) → is_listed n k ≡ (is_listed one k || is_listed two k)
  listed_in k e = ap is_some (j.children k ∙ ap (λ b. option_or (cond b (find name_cmp k one.children) None) (find name_cmp k two.children)) e)
      ∙ some_or (find name_cmp k one.children) (find name_cmp k two.children)

  pub listed_out : (k : Name) → q k ≡ false → is_listed n k ≡ is_listed two k
  listed_out k e = ap is_some (j.children k ∙ ap (λ b. option_or (cond b (find name_cmp k one.children) None) (find name_cmp k two.children)) e)

  pub first_listed : (k : Name) → IsTrue (q k) → IsTrue (is_listed one k) → IsTrue (is_listed n k)
  first_listed k e l = listed_in k e ∙ or_left (is_listed one k) (is_listed two k) l

  taken : (k : Name) → Takes n k → Takes two k
  taken k h = subst (λ o. IsSomeAnd o (λ o. IsInClass o.0 k)) j.other h

  take_too : (k : Name) → Takes two k → Takes n k
  take_too k h = subst (λ o. IsSomeAnd o (λ o. IsInClass o.0 k)) (sym j.other) h

  module _ (names : Names) where
    -- the first view lists each name that passes
    abbrev pub AreFirst : Type 0
    AreFirst = (k : Name) → IsTrue (contains names k) → IsTrue (q k) → IsTrue (is_listed one k)

    -- then the other names have all unlisted ones
    second_count : AreFirst → unlisted n names ≡ unlisted two (retain names out)
    second_count all = same_count n two names (retain names out)
        (λ k h off. let e = not_passed k h off (q k) refl in (kept_from out names k h (ap not e), sym (listed_out k e) ∙ off))
        (λ k h off. let x = kept_parts out names k h in (x.0, listed_out k (not-true (q k) x.1) ∙ off))
      where
        not_passed : (k : Name) → IsTrue (contains names k) → is_listed n k ≡ false → (b : Bool) → q k ≡ b → q k ≡ false
        not_passed k h off true e = absurd (true≢false (sym (first_listed k e (all k h e)) ∙ off))
        not_passed k h off false e = e

    module _ (a b : Shape) (fa : IsFirst q one a) (fb : IsSecond q two b) where
      apart : (k : Name) → IsTrue (q k) → IsTrue (has_name b k) → ⊥
      apart k e h = true≢false (sym (fb.outside k h) ∙ ap not e)

      -- of names that fit the joined shape, those that pass are listed by the first and are its shape's
      pub first_lists : Fits n (joined_shape a b) names → (k : Name) → IsTrue (contains names k) → IsTrue (q k)
          → IsTrue (is_listed one k) × IsTrue (has_name a k)
      first_lists f k h e = go (is_listed n k) refl
        where
          unlisted_none : Parts two b q → is_listed n k ≡ false → ⊥
          unlisted_none (listed all) off = true≢false (sym (listed_in k e ∙ or_right (is_listed one k) (is_listed two k) (all k e)) ∙ off)
          unlisted_none (shut s) off = true≢false (sym (all_listed n names (joined_shape a b) (same_most q one a b fa ∙ s) f k h) ∙ off)

          go : (x : Bool) → is_listed n k ≡ x → IsTrue (is_listed one k) × IsTrue (has_name a k)
          go true l = elim (joined_has a b k (f.listed.allowed k h l)) [
            | inl x ↦ (fa.well.listed k x, x)
            | inr y ↦ absurd (apart k e y)
          ]
          go false off = absurd (unlisted_none fb.parts off)

      second_allows : Fits n (joined_shape a b) names → (k : Name) → IsTrue (contains names k) → q k ≡ false → IsTrue (is_listed two k)
          → IsTrue (has_name b k)
      second_allows f k h e l = elim (joined_has a b k (f.listed.allowed k h (listed_out k e ∙ l))) [
        | inl x ↦ absurd (true≢false (sym (fa.inside k x) ∙ e))
        | inr y ↦ y
      ]

      pub joined_parts : Fits n (joined_shape a b) names → Fits one a (retain names q) × Fits two b (retain names out)
      joined_parts f = (
        record {
          listed = record {
            required = λ k h. kept_from q names k (f.listed.required k (first_requires a b k h)) (fa.inside k (required_has a k h));
            allowed = λ k h l. let x = kept_parts q names k h in (first_lists f k x.0 x.1).1;
          };
          others = λ k h off. absurd (true≢false (sym (lists k h) ∙ off));
          number = subst (IsWithin a) (sym (zero_count one (retain names q) lists)) (record {
            least = omega (arith, no_least q one a b fa);
            most = subst (λ m. IfSome m (λ most. 0 ≤ most)) (sym fa.shut) (omega arith);
          });
        },
        record {
          listed = record {
            required = λ k h. kept_from out names k (f.listed.required k (second_requires a b k h)) (fb.outside k (required_has b k h));
            allowed = λ k h l. let x = kept_parts out names k h in second_allows f k x.0 (not-true (q k) x.1) l;
          };
          others = λ k h off. let x = kept_parts out names k h in taken k (f.others k x.0 (listed_out k (not-true (q k) x.1) ∙ off));
          number = subst (IsWithin b) (second_count (λ k h e. (first_lists f k h e).0)) (within_second q one a b fa (unlisted n names) f.number);
        },
      )
        where
          lists : (k : Name) → IsTrue (contains (retain names q) k) → IsTrue (is_listed one k)
          lists k h = let x = kept_parts q names k h in (first_lists f k x.0 x.1).0

      pub parts_joined : Fits one a (retain names q) → Fits two b (retain names out) → Fits n (joined_shape a b) names
      parts_joined f g = record {
        listed = record {
          required = λ k h. elim (joined_requires a b k h) [
            | inl x ↦ (kept_parts q names k (f.listed.required k x)).0
            | inr y ↦ (kept_parts out names k (g.listed.required k y)).0
          ];
          allowed = λ k h l. allowed k h l (q k) refl;
        };
        others = λ k h off. others k h off (q k) refl;
        number = within_joined q one a b fa (unlisted n names) (subst (IsWithin b) (sym (second_count lists)) g.number);
      }
        where
          lists : (k : Name) → IsTrue (contains names k) → IsTrue (q k) → IsTrue (is_listed one k)
          lists k h e = all_listed one (retain names q) a fa.shut f k (kept_from q names k h e)

          allowed : (k : Name) → IsTrue (contains names k) → IsTrue (is_listed n k) → (x : Bool) → q k ≡ x → IsTrue (has_name (joined_shape a b) k)
          allowed k h l true e = first_has a b k (f.listed.allowed k (kept_from q names k h e) (lists k h e))
          allowed k h l false e = second_has a b k (g.listed.allowed k (kept_from out names k h (ap not e)) (sym (listed_out k e) ∙ l))

          others : (k : Name) → IsTrue (contains names k) → is_listed n k ≡ false → (x : Bool) → q k ≡ x → Takes n k
          others k h off true e = absurd (true≢false (sym (first_listed k e (lists k h e)) ∙ off))
          others k h off false e = take_too k (g.others k (kept_from out names k h (ap not e)) (sym (listed_out k e) ∙ off))
