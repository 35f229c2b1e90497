-- What is left of a node that is tidied, over other things, and as loops go over it.
use Rattle.std.proofs.Common.{◌≡◌, ℕ, zero, suc, ◌+◌, ◌≤◌, Bool, true, false, ◌||◌, cond, List, [], ◌∷◌, ◌++◌, length, map, filter, take, drop, get_or, reverse, slice_get, Option, Some, None, refl, sym, ap, ◌∙◌, arith, drop-cons, add-one}
use Rattle.std.specs.Option.{option_map}
use Rattle.std.proofs.lemmas.List.{map-append, reverse-append, append-nil, take_all}
use Rattle.std.proofs.lemmas.List.Elements.{filter_more}
use Rattle.std.specs.List.{zip}
use Rattle.std.proofs.lemmas.Option.{same_Some, some_pair_parts, slice_get_within, get_or_from_slice_get}
use Rattle.hm_tree.specs.declared.class.Class.{Class}
use Rattle.hm_tree.specs.Names.{Name}
use Rattle.hm_schema.specs.declared.node.NodeId.{NodeId}
use Rattle.hm_schema.specs.Values.{NodeOver, NodeValue}
use Rattle.hm_schema.specs.Tidied.{tidied, lets_some_in, stands}
use Rattle.hm_types_forms.specs.Forms.{Form, Step, others, over}
use Rattle.hm_types_rules.specs.Numbering.{forms_below, other_forms}
use Rattle.hm_types_table.specs.declared.kind.NodeKind.{NodeKind}
use Rattle.hm_types_table.specs.declared.vertex.Vertex.{Vertex}
use Rattle.hm_types_table.specs.Tables.{Nodes, seat}
use Rattle.hm_types_schemas.specs.Ends.{other_ends, ends, left}

module _ {I : Type 0} (n : NodeOver I) where
  all_left : (cs : List (Name × I)) → left true n cs ≡ cs
  all_left [] = refl
  all_left (c ∷ cs) = ap (λ l. c ∷ l) (all_left cs)

  pub children_left : (tidied n).children ≡ left (lets_some_in n) n n.children
  children_left = go (lets_some_in n)
    where
      go : (b : Bool) → cond b n.children (filter (λ c. stands n c.0) n.children) ≡ left b n n.children
      go true = sym (all_left n.children)
      go false = refl

  pub ends_left : ends (tidied n) ≡ map (λ c. c.1) (left (lets_some_in n) n n.children) ++ other_ends (cond (lets_some_in n) n.other None)
  ends_left = ap (λ (cs : List (Name × I)). map (λ c. c.1) cs ++ other_ends (cond (lets_some_in n) n.other None)) children_left

  -- one more from behind, and one more from before
  pub left_drop : (all : Bool) (cs : List (Name × I)) (i : ℕ) (c : Name × I) → slice_get cs i ≡ Some c
      → left all n (drop i cs) ≡ cond (all || stands n c.0) (c ∷ left all n (drop (i + 1) cs)) (left all n (drop (i + 1) cs))
  left_drop all cs i c e =
      let lt = slice_get_within cs i c e in
      let at : get_or cs i c ≡ c = get_or_from_slice_get cs i c c e in
      ap (left all n) (drop-cons cs i c lt ∙ (λ t. at t ∷ drop (suc i) cs))
      ∙ ap (λ k. cond (all || stands n c.0) (c ∷ left all n (drop k cs)) (left all n (drop k cs))) (sym (add-one i))

  pub left_take : (all : Bool) (cs : List (Name × I)) (i : ℕ) (c : Name × I) → slice_get cs i ≡ Some c
      → left all n (take (i + 1) cs) ≡ left all n (take i cs) ++ cond (all || stands n c.0) (c ∷ []) []
  left_take all cs i c e =
      let lt = slice_get_within cs i c e in
      let at : get_or cs i c ≡ c = get_or_from_slice_get cs i c c e in
      filter_more (λ (c : Name × I). all || stands n c.0) cs i c lt
      ∙ ap (λ (x : Name × I). left all n (take i cs) ++ cond (all || stands n x.0) (x ∷ []) []) at

-- ---- over other things

module _ {I J : Type 0} (f : Step → I → J) where
  pub others_over : (o : Option (Class × I)) → other_ends (option_map {U = Class × J} (λ o. (o.0, f others o.1)) o) ≡ map (f others) (other_ends o)
  others_over None = refl
  others_over (Some o) = refl

module _ {I J : Type 0} (f : I → J) where
  children_over : (cs : List (Name × I)) → map (λ (c : Name × J). c.1) (map {B = Name × J} (λ c. (c.0, f c.1)) cs) ≡ map f (map (λ (c : Name × I). c.1) cs)
  children_over [] = refl
  children_over (c ∷ cs) = ap (λ l. f c.1 ∷ l) (children_over cs)

  pub ends_over : (n : NodeOver I) → ends (over (λ s i. f i) n) ≡ map f (ends n)
  ends_over n =
      let one = children_over n.children in
      let two = others_over (λ s i. f i) n.other in
      (λ t. one t ++ two t) ∙ sym (map-append f (map (λ (c : Name × I). c.1) n.children) (other_ends n.other))

same_others : (o : Option (Class × Form)) → other_forms o ≡ other_ends o
same_others None = refl
same_others (Some o) = refl

-- the forms below a node are where its edges lead
pub below_ends : (n : NodeOver Form) → forms_below n ≡ ends n
below_ends n = ap (λ l. map (λ (c : Name × Form). c.1) n.children ++ l) (same_others n.other)

-- ---- a stack on which what is left is put, from behind

module _ (n : NodeValue) (all : Bool) (todo rest below : List NodeId) (i place : ℕ) (k : Name) (next : NodeId)
    (at : slice_get n.children i ≡ Some (k, next)) (behind : i + 1 ≡ place)
    (was : reverse todo ≡ (map (λ c. c.1) (left all n (drop place n.children)) ++ rest) ++ below) where
  before : reverse todo ≡ (map (λ c. c.1) (left all n (drop (i + 1) n.children)) ++ rest) ++ below
  before = was ∙ ap (λ p. (map (λ c. c.1) (left all n (drop p n.children)) ++ rest) ++ below) (sym behind)

  pub pushed : (after : List NodeId) → (all || stands n k) ≡ true → after ≡ todo ++ next ∷ []
      → reverse after ≡ (map (λ c. c.1) (left all n (drop i n.children)) ++ rest) ++ below
  pushed after kept e =
      ap reverse e ∙ reverse-append todo (next ∷ []) ∙ ap (λ l. next ∷ l) before
      ∙ ap (λ (cs : List (Name × NodeId)). (map (λ c. c.1) cs ++ rest) ++ below)
      (sym (left_drop n all n.children i (k, next) at
      ∙ ap (λ b. cond b ((k, next) ∷ left all n (drop (i + 1) n.children)) (left all n (drop (i + 1) n.children))) kept))

  pub not_pushed : (all || stands n k) ≡ false → reverse todo ≡ (map (λ c. c.1) (left all n (drop i n.children)) ++ rest) ++ below
  not_pushed off =
      before ∙ ap (λ (cs : List (Name × NodeId)). (map (λ c. c.1) cs ++ rest) ++ below)
      (sym (left_drop n all n.children i (k, next) at
      ∙ ap (λ b. cond b ((k, next) ∷ left all n (drop (i + 1) n.children)) (left all n (drop (i + 1) n.children))) off))

pub all_pushed : (n : NodeValue) (all : Bool) (after below : List NodeId) (place : ℕ) → all ≡ lets_some_in n → place ≡ 0
    → reverse after ≡ (map (λ c. c.1) (left all n (drop place n.children)) ++ other_ends (cond all n.other None)) ++ below
    → reverse after ≡ ends (tidied n) ++ below
all_pushed n all after below place lets none e =
    e ∙ ap (λ p. (map (λ c. c.1) (left all n (drop p n.children)) ++ other_ends (cond all n.other None)) ++ below) none
    ∙ ap (λ all. (map (λ c. c.1) (left all n n.children) ++ other_ends (cond all n.other None)) ++ below) lets
    ∙ ap (λ l. l ++ below) (sym (ends_left n))

-- ---- children that are written, from before

module _ (n : NodeValue) (all : Bool) (number : NodeId → NodeId) (written : List (Name × NodeId)) (i : ℕ) (k : Name) (next : NodeId)
    (at : slice_get n.children i ≡ Some (k, next))
    (was : written ≡ map {B = Name × NodeId} (λ c. (c.0, number c.1)) (left all n (take i n.children))) where
  abbrev led : Name × NodeId → Name × NodeId
  led c = (c.0, number c.1)

  more : map led (left all n (take (i + 1) n.children)) ≡ written ++ map led (cond (all || stands n k) ((k, next) ∷ []) [])
  more = ap (map led) (left_take n all n.children i (k, next) at)
      ∙ map-append led (left all n (take i n.children)) (cond (all || stands n k) ((k, next) ∷ []) [])
      ∙ ap (λ l. l ++ map led (cond (all || stands n k) ((k, next) ∷ []) [])) (sym was)

  pub child_written : (after : List (Name × NodeId)) → (all || stands n k) ≡ true → after ≡ written ++ (k, number next) ∷ []
      → after ≡ map {B = Name × NodeId} (λ c. (c.0, number c.1)) (left all n (take (i + 1) n.children))
  child_written after kept e = e ∙ ap (λ b. written ++ map led (cond b ((k, next) ∷ []) [])) (sym kept) ∙ sym more

  pub child_left_out : (all || stands n k) ≡ false → written ≡ map {B = Name × NodeId} (λ c. (c.0, number c.1)) (left all n (take (i + 1) n.children))
  child_left_out off = sym (append-nil written) ∙ ap (λ b. written ++ map led (cond b ((k, next) ∷ []) [])) (sym off) ∙ sym more

pub all_written : (n : NodeValue) (all : Bool) (number : NodeId → NodeId) (after : List (Name × NodeId)) (i : ℕ) → all ≡ lets_some_in n
    → length n.children ≤ i → after ≡ map {B = Name × NodeId} (λ c. (c.0, number c.1)) (left all n (take i n.children))
    → after ≡ map {B = Name × NodeId} (λ c. (c.0, number c.1)) (tidied n).children
all_written n all number after i lets done e =
    e ∙ ap (λ (cs : List (Name × NodeId)). map {B = Name × NodeId} (λ c. (c.0, number c.1)) (left all n cs)) (take_all i n.children done)
    ∙ ap (λ all. map {B = Name × NodeId} (λ c. (c.0, number c.1)) (left all n n.children)) lets
    ∙ ap (map {B = Name × NodeId} (λ c. (c.0, number c.1))) (sym (children_left n))

-- ---- a node as a kind and a vertex

zip_length : {X Y : Type 0} (xs : List X) (ys : List Y) → length ys ≡ length xs → length (zip xs ys) ≡ length xs
zip_length [] ys e = refl
zip_length (x ∷ xs) [] e = absurd (omega arith)
zip_length (x ∷ xs) (y ∷ ys) e = ap suc (zip_length xs ys (omega arith))

zip_first : {X Y : Type 0} (xs : List X) (ys : List Y) (i : ℕ) (x : X) (y : Y) → slice_get (zip xs ys) i ≡ Some (x, y) → slice_get xs i ≡ Some x
zip_first [] ys i x y e = let f : ⊥ = cc in absurd f
zip_first (a ∷ xs) [] i x y e = let f : ⊥ = cc in absurd f
zip_first (a ∷ xs) (b ∷ ys) zero x y e = ap Some (some_pair_parts a x b y e).0
zip_first (a ∷ xs) (b ∷ ys) (suc i) x y e = zip_first xs ys i x y e

module _ (nodes : Nodes) (i : NodeId) (n : NodeValue) (k : NodeKind) (v : Vertex) (e : slice_get nodes i.place ≡ Some n)
    (seated : slice_get nodes i.place ≡ Some (seat k v)) (count : length v.next.items ≡ length k.names.items) where
  seat_is : seat k v ≡ n
  seat_is = same_Some (seat k v) n (sym seated ∙ e)

  pub seat_size : length n.children ≡ length k.names.items
  seat_size = sym (ap (λ (n : NodeValue). length n.children) seat_is) ∙ zip_length k.names.items v.next.items count

  pub seat_name : (p : ℕ) (m : Name) (j : NodeId) → slice_get n.children p ≡ Some (m, j) → slice_get k.names.items p ≡ Some m
  seat_name p m j at = zip_first k.names.items v.next.items p m j (ap (λ (n : NodeValue). slice_get n.children p) seat_is ∙ at)
