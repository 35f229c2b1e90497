-- A small schema, made by hand for the tests, is well formed.
use Rattle.std.proofs.Common.{ℕ, ◌≤◌, ◌||◌, IsTrue, [], ◌∷◌, Option, Some, All, IfSome, IsSome, refl, sym, ap, ◌∙◌, arith}
use mathlib.Core.Bool.{true≢false}
use Rattle.std.specs.FinSet.{contains, from_list, contains-from_list}
use Rattle.std.proofs.lemmas.Option.{none-some}
use Rattle.std.proofs.lemmas.List.Elements.{All-nil, All-cons}
use Rattle.hm_tree.specs.declared.class.Class.{Class}
use Rattle.hm_tree.specs.Names.{Name, name_cmp}
use Rattle.hm_tree.specs.States.{Path}
use Rattle.hm_tree.proofs.Sorted.{name_total}
use Rattle.hm_schema.specs.declared.node.Shape.{Shape}
use Rattle.hm_schema.specs.Values.{NodeValue, SchemaValue, reached}
use Rattle.hm_schema.specs.WellFormed.{IsWellFormed, IsWellFormedNode, IsWellFormedShape}

-- a node whose names aren't listed, in any number within bounds
abbrev pub counted : ℕ → Option ℕ → Shape
counted least most = record { required = from_list []; optional = from_list []; least = least; most = most }

abbrev pub alone : Class → ℕ → Option ℕ → NodeValue
alone class least most = record { shapes = counted least most ∷ []; children = []; other = Some (class, record { place = 0 }); twins = [] }

abbrev pub unlisted_alone : Class → ℕ → Option ℕ → SchemaValue
unlisted_alone class least most = record { nodes = alone class least most ∷ []; root = record { place = 0 } }

-- each path leads to its one node
pub unlisted_alone_leads : (class : Class) (least : ℕ) (most : Option ℕ) (p : Path)
    → IsSome (reached (unlisted_alone class least most) (record { place = 0 }) p)
unlisted_alone_leads class least most [] = refl
unlisted_alone_leads class least most (k ∷ p) = unlisted_alone_leads class least most p

in_none : (k : Name) → ¬ (IsTrue (contains (from_list {R = name_cmp} []) k))
in_none k h = true≢false (sym h ∙ contains-from_list name_total [] k)

neither : (k : Name) → ¬ (IsTrue (contains (from_list {R = name_cmp} []) k || contains (from_list {R = name_cmp} []) k))
neither k h = true≢false (sym h ∙ ap (λ b. b || b) (contains-from_list name_total [] k))

one_item : {X : Type 0} (P : X → Type 0) (x : X) → P x → All P (x ∷ [])
one_item P x p = All-cons P x [] p (All-nil P)

pub unlisted_alone_formed : (class : Class) (least : ℕ) (most : Option ℕ) → IfSome most (λ most. least ≤ most)
    → IsWellFormed (unlisted_alone class least most)
unlisted_alone_formed class least most h = record { nodes = one_item (IsWellFormedNode 1) (alone class least most) root; root = omega arith }
  where
    formed : IsWellFormedShape (alone class least most) (counted least most)
    formed = record {
      listed = λ k h. absurd (neither k h);
      apart = λ k h. absurd (in_none k h);
      ordered = h;
      none = λ e. absurd (none-some (class, record { place = 0 }) (sym e));
    }

    root : IsWellFormedNode 1 (alone class least most)
    root = record {
      ascending = tt;
      children = All-nil _;
      other = omega arith;
      shapes = one_item (IsWellFormedShape (alone class least most)) (counted least most) formed;
      some_shape = omega arith;
      twins = All-nil _;
    }
