-- How many edges are still to be gone over: fewer, once a class has a number.
use Rattle.std.proofs.Common.{◌≡◌, ℕ, zero, suc, ◌+◌, ◌≤◌, ◌==◌, Bool, true, false, cond, is_some, List, [], ◌∷◌, length, slice_get, Option, Some, None, refl, ap, ◌∙◌, arith}
use Rattle.std.proofs.lemmas.Option.{same_Some, none-some}
use Rattle.std.proofs.lemmas.Bool.Decides.{Decides-eqb}
use Rattle.hm_schema.specs.Values.{NodeValue}
use Rattle.hm_schema.specs.Tidied.{tidied}
use Rattle.hm_types_table.specs.Tables.{Nodes}
use Rattle.hm_types_schemas.specs.Ends.{ends}
use Rattle.hm_types_schemas.specs.Marks.{Marks, mark_at}
use Rattle.hm_types_schemas.specs.Visiting.{owed}

module _ (old after : Marks) (class number : ℕ) (put : (c : ℕ) → mark_at after c ≡ cond (c == class) (Some number) (mark_at old c)) where
  here : mark_at after class ≡ Some number
  here = put class ∙ ap (λ b. cond b (Some number) (mark_at old class)) ((Decides-eqb class class).1 refl)

  no_more : (c k : ℕ) → cond (is_some (mark_at after c)) 0 k ≤ cond (is_some (mark_at old c)) 0 k
  no_more c k = go (c == class) (mark_at old c) (mark_at after c) (put c)
    where
      go : (b : Bool) (x y : Option ℕ) → y ≡ cond b (Some number) x → cond (is_some y) 0 k ≤ cond (is_some x) 0 k
      go true None y e = let f = ap (λ y. cond (is_some y) 0 k) e in omega arith
      go true (Some m) y e = let f = ap (λ y. cond (is_some y) 0 k) e in omega arith
      go false x y e = let f = ap (λ y. cond (is_some y) 0 k) e in omega arith

  pub owes_no_more : (ns : Nodes) (cs : List ℕ) → owed ns cs after ≤ owed ns cs old
  owes_no_more [] cs = omega arith
  owes_no_more (n ∷ ns) [] = omega arith
  owes_no_more (n ∷ ns) (c ∷ cs) =
      let one = no_more c (length (ends (tidied n))) in
      let rest = owes_no_more ns cs in
      omega (arith, one, rest)

  pub owes_less : (ns : Nodes) (cs : List ℕ) (i : ℕ) (n : NodeValue) → slice_get ns i ≡ Some n → slice_get cs i ≡ Some class → mark_at old class ≡ None
      → owed ns cs after + length (ends (tidied n)) ≤ owed ns cs old
  owes_less [] cs i n e f none = absurd (none-some n e)
  owes_less (m ∷ ns) [] i n e f none = absurd (none-some class f)
  owes_less (m ∷ ns) (c ∷ cs) zero n e f none =
      let same : c ≡ class = same_Some c class f in
      let rest = owes_no_more ns cs in
      let size : length (ends (tidied m)) ≡ length (ends (tidied n)) = ap (λ (n : NodeValue). length (ends (tidied n))) (same_Some m n e) in
      let gone : cond (is_some (mark_at after c)) 0 (length (ends (tidied m))) ≡ 0 =
      ap (λ c. cond (is_some (mark_at after c)) 0 (length (ends (tidied m)))) same ∙ ap (λ x. cond (is_some x) 0 (length (ends (tidied m)))) here in
      let was : cond (is_some (mark_at old c)) 0 (length (ends (tidied m))) ≡ length (ends (tidied m)) =
      ap (λ c. cond (is_some (mark_at old c)) 0 (length (ends (tidied m)))) same ∙ ap (λ x. cond (is_some x) 0 (length (ends (tidied m)))) none in
      omega (arith, rest, size, gone, was)
  owes_less (m ∷ ns) (c ∷ cs) (suc i) n e f none =
      let one = no_more c (length (ends (tidied m))) in
      let rest = owes_less ns cs i n e f none in
      omega (arith, one, rest)
