-- Shapes without repeats, as a loop goes over them.
use Rattle.std.proofs.Common.{◌≡◌, ℕ, ◌+◌, Bool, true, false, not, cond, ◌||◌, List, [], ◌∷◌, ◌++◌, take, slice_get, Some, Contains, refl, sym, ap, subst, ◌∙◌, append_assoc, add-one}
use mathlib.Core.Bool.{true≢false}
use denote.Ref.{Bor}
use Rattle.std.specs.List.{list_any}
use Rattle.std.specs.Ordering.{is_eq, eq_by_cmp}
use Rattle.std.specs.declared.cmp.Ordering.{Ordering}
use Rattle.std.specs.declared.cmp.Ordering.TheVariants.{Less, Equal, Greater}
use Rattle.std.specs.BTreeSet.{BTreeSet}
use Rattle.std.proofs.lemmas.Cmp.{eq_by_cmp_equiv}
use Rattle.std.proofs.lemmas.Map.Views.{list_any-from_Contains, Contains-from_any}
use Rattle.std.proofs.lemmas.List.Folds.{list_any-append}
use Rattle.std.proofs.lemmas.List.{append-nil}
use Rattle.hm_tree.proofs.Kept.{take_more}
use Rattle.hm_schema.specs.declared.node.Shape.{Shape}
use Rattle.hm_schema.specs.ShapeOrder.{shape_cmp, shape_total, shape_one}
use Rattle.hm_types_rules.specs.Numbering.{IsDistinct, none_left, repeated, new}

module _ {X : Type 0} where
  -- one more at the end, that is new or that isn't
  pub distinct_new : {seen xs ys : List X} (x : X) → IsDistinct seen xs ys → ¬ (Contains (seen ++ ys) x) → IsDistinct seen (xs ++ x ∷ []) (ys ++ x ∷ [])
  distinct_new {seen} x none_left off = new (λ c. off (subst (λ l. Contains l x) (sym (append-nil seen)) c)) none_left
  distinct_new x (repeated c d) off = repeated c (distinct_new x d off)
  distinct_new x (new {x = y} {seen = seen} {ys = ys} n d) off =
      new n (distinct_new x d (λ c. off (subst (λ l. Contains l x) (append_assoc seen (y ∷ []) ys) c)))

  pub distinct_old : {seen xs ys : List X} (x : X) → IsDistinct seen xs ys → Contains (seen ++ ys) x → IsDistinct seen (xs ++ x ∷ []) ys
  distinct_old {seen} x none_left c = repeated (subst (λ l. Contains l x) (append-nil seen) c) none_left
  distinct_old x (repeated d h) c = repeated d (distinct_old x h c)
  distinct_old x (new {x = y} {seen = seen} {ys = ys} n h) c =
      new n (distinct_old x h (subst (λ l. Contains l x) (sym (append_assoc seen (y ∷ []) ys)) c))

-- ---- the set of the shapes so far

abbrev pub among : List Shape → Shape → Bool
among kept a = list_any (eq_by_cmp shape_cmp a) kept

abbrev pub seen_has : BTreeSet (Bor Shape) → Shape → Bool
seen_has seen a = list_any (λ (k : Bor Shape). is_eq (shape_cmp a k.now)) seen.keys

-- a set has the shapes of a list
pub record HasShapes (seen : BTreeSet (Bor Shape)) (kept : List Shape) : Type 0 where
  pub each : (a : Shape) → seen_has seen a ≡ among kept a

tied : (x y : Shape) → eq_by_cmp shape_cmp x y ≡ true → x ≡ y
tied x y e = go (shape_cmp x y) refl e
  where
    go : (o : Ordering) → shape_cmp x y ≡ o → is_eq o ≡ true → x ≡ y
    go Less e f = absurd (true≢false (sym f))
    go Equal e f = shape_one x y e
    go Greater e f = absurd (true≢false (sym f))

or_last : (b d : Bool) → b || (d || false) ≡ cond d true b
or_last true true = refl
or_last true false = refl
or_last false true = refl
or_last false false = refl

pub none_yet : (seen : BTreeSet (Bor Shape)) → seen.keys ≡ [] → HasShapes seen []
none_yet seen e = record { each = λ a. ap (list_any (λ (k : Bor Shape). is_eq (shape_cmp a k.now))) e }

-- a shape more: it is put behind the list if the set hadn't it
module _ (shapes kept : List Shape) (i : ℕ) (a : Shape) (at : slice_get shapes i ≡ Some a) (seen : BTreeSet (Bor Shape))
    (d : IsDistinct [] (take i shapes) kept) (h : HasShapes seen kept) where
  more : take (i + 1) shapes ≡ take i shapes ++ a ∷ []
  more = rw add-one (take_more shapes i a at)

  pub kept_new : true ≡ not (seen_has seen a) → (after : BTreeSet (Bor Shape))
      → ((b : Shape) → seen_has after b ≡ cond (eq_by_cmp shape_cmp a b) true (seen_has seen b))
      → IsDistinct [] (take (i + 1) shapes) (kept ++ a ∷ []) × HasShapes after (kept ++ a ∷ [])
  kept_new e after put = (
    subst (λ l. IsDistinct [] l (kept ++ a ∷ [])) (sym more) (distinct_new a d (λ c. off (seen_has seen a) (h.each a) e c)),
    record {
      each = λ b.
          put b ∙ ap (cond (eq_by_cmp shape_cmp a b) true) (h.each b)
          ∙ ap (λ t. cond t true (among kept b)) ((eq_by_cmp_equiv shape_total).symm a b)
          ∙ sym (or_last (among kept b) (eq_by_cmp shape_cmp b a))
          ∙ sym (list_any-append (eq_by_cmp shape_cmp b) kept (a ∷ []));
    },
  )
    where
      off : (b : Bool) → b ≡ among kept a → true ≡ not b → ¬ (Contains kept a)
      off true f e c = true≢false e
      off false f e c = true≢false (sym (list_any-from_Contains (eq_by_cmp_equiv shape_total) a kept c) ∙ sym f)

  pub kept_old : false ≡ not (seen_has seen a) → (after : BTreeSet (Bor Shape)) → after.keys ≡ seen.keys
      → IsDistinct [] (take (i + 1) shapes) kept × HasShapes after kept
  kept_old e after same = (
    subst (λ l. IsDistinct [] l kept) (sym more) (distinct_old a d (there (seen_has seen a) (h.each a) e)),
    record { each = λ b. ap (list_any (λ (k : Bor Shape). is_eq (shape_cmp b k.now))) same ∙ h.each b },
  )
    where
      there : (b : Bool) → b ≡ among kept a → false ≡ not b → Contains kept a
      there true f e = Contains-from_any tied a kept (sym f)
      there false f e = absurd (true≢false (sym e))
