-- What holds of each edge that was passed holds under each name, once all were.
use Rattle.std.proofs.Common.{◌≡◌, ℕ, suc, ◌+◌, ◌<◌, ◌≤◌, Bool, true, false, cond, List, [], ◌∷◌, length, slice_get, Option, Some, None, IsTrue, is_some, refl, sym, ap, subst, ◌∙◌, arith, inl, inr}
use Rattle.std.specs.Ordering.{eq_by_cmp}
use Rattle.std.specs.FinMap.{find}
use Rattle.std.specs.Option.{option_map}
use Rattle.std.proofs.lemmas.Bool.{cases_lt}
use Rattle.std.proofs.lemmas.Option.{none-some, same_Some, slice_get_cases, slice_get-map}
use Rattle.hm_tree.specs.Names.{Name, name_cmp}
use Rattle.hm_tree.specs.Nodes.{Node, edges, below}
use Rattle.hm_tree.specs.Archives.{Archive, under, edges_here}
use Rattle.hm_tree.proofs.Sorted.{below_edge}
use Rattle.hm_schema.proofs.NamesOf.{tie_one}

-- it holds of the first so many edges
abbrev pub AllBefore : {X : Type 0} → (Name → X → Type 0) → List (Name × X) → ℕ → Type 0
AllBefore {X} P es n = (i : ℕ) (k : Name) (c : X) → i < n → slice_get es i ≡ Some (k, c) → P k c

module _ {X : Type 0} (P : Name → X → Type 0) where
  pub one_more : (es : List (Name × X)) (n : ℕ) (k : Name) (c : X) → AllBefore P es n → slice_get es n ≡ Some (k, c) → P k c → AllBefore P es (n + 1)
  one_more es n k c all at here i j d lt is = elim (cases_lt i n) [
    | inl early ↦ all i j d early is
    | inr late ↦
        let place : i ≡ n = omega arith in
        let same : (k, c) ≡ (j, d) = same_Some (k, c) (j, d) (sym at ∙ ap (slice_get es) (sym place) ∙ is) in
        subst (λ (e : Name × X). P e.0 e.1) same here
  ]

find_place : {X : Type 0} (k : Name) (es : List (Name × X)) (c : X) → find name_cmp k es ≡ Some c → (i : ℕ) × (slice_get es i ≡ Some (k, c))
find_place k [] c e = absurd (none-some c e)
find_place {X = X} k (x ∷ es) c e = go (eq_by_cmp name_cmp k x.0) refl e (find_place k es c)
  where
    go : (b : Bool) → eq_by_cmp name_cmp k x.0 ≡ b → cond b (Some x.1) (find name_cmp k es) ≡ Some c
        → (find name_cmp k es ≡ Some c → (i : ℕ) × (slice_get es i ≡ Some (k, c))) → (i : ℕ) × (slice_get (x ∷ es) i ≡ Some (k, c))
    go true t e rest = (0, λ i. Some (sym (tie_one k x.0 t) i, same_Some x.1 c e i))
    go false t e rest = let there = rest e in (suc there.0, there.1)

within_list : {X : Type 0} (xs : List X) (i : ℕ) (x : X) → slice_get xs i ≡ Some x → i < length xs
within_list xs i x e = elim ((slice_get_cases xs i).1) [ inl w ↦ w.1 | inr w ↦ absurd (none-some x (sym w.1 ∙ e)) ]

pub each_below : {m : Bool} (P : Name → Node m → Type 0) (t : Node m) (n : ℕ) → length (edges t) ≤ n → AllBefore P (edges t) n
    → (k : Name) (c : Node m) → below k t ≡ Some c → P k c
each_below P t n end all k c is =
    let there = find_place k (edges t) c is in
    let lt = within_list (edges t) there.0 (k, c) there.1 in
    all there.0 k c (omega arith) there.1

abbrev as_archive : Name × Node true → Name × Archive
as_archive x = (x.0, Some x.1)

-- what stands at a place of an archive stands under its name
pub edge_under : (o : Archive) (i : ℕ) (k : Name) (c : Archive) → slice_get (edges_here o) i ≡ Some (k, c) → (under k o ≡ c) × IsTrue (is_some c)
edge_under None i k c e = absurd (none-some (k, c) e)
edge_under (Some t) i k c e = go (slice_get (edges t) i) refl (sym (slice_get-map as_archive (edges t) i) ∙ e)
  where
    go : (r : Option (Name × Node true)) → slice_get (edges t) i ≡ r → option_map as_archive r ≡ Some (k, c)
        → (under k (Some t) ≡ c) × IsTrue (is_some c)
    go None f e = absurd (none-some (k, c) e)
    go (Some x) f e =
        let same : (x.0, Some x.1) ≡ (k, c) = same_Some (as_archive x) (k, c) e in
        let name : x.0 ≡ k = ap (λ (y : Name × Archive). y.0) same in
        let child : Some x.1 ≡ c = ap (λ (y : Name × Archive). y.1) same in
        (ap (λ (z : Name). below z t) (sym name) ∙ below_edge t i x.0 x.1 f ∙ child, ap is_some (sym child))

pub each_under : (P : Name → Archive → Type 0) (o : Archive) (n : ℕ) → length (edges_here o) ≤ n → AllBefore P (edges_here o) n
    → (k : Name) (c : Node true) → under k o ≡ Some c → P k (Some c)
each_under P None n end all k c is = absurd (none-some c is)
each_under P (Some t) n end all k c is =
    let there = find_place k (edges t) c is in
    let at : slice_get (edges_here (Some t)) there.0 ≡ Some (k, Some c) =
    slice_get-map as_archive (edges t) there.0 ∙ ap (option_map as_archive) there.1 in
    let lt = within_list (edges_here (Some t)) there.0 (k, Some c) at in
    all there.0 k (Some c) (omega arith) at
