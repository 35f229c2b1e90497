-- Lists of names and what they lead to: what is said of the names alone.
use Rattle.std.proofs.Common.{◌≡◌, ◌&&◌, T, List, [], ◌∷◌, length, get_or, Some, All, refl, sym, ap, subst, ◌∙◌}
use Rattle.std.specs.List.{zip, AllByRecursion}
use Rattle.std.specs.List.Sorted.{IsStrictlySortedBy}
use Rattle.std.specs.declared.cmp.Ordering.TheVariants.{Less}
use Rattle.std.specs.Ordering.{is_lt}
use Rattle.std.specs.FinMap.{is_sorted, find}
use Rattle.std.proofs.lemmas.Slice.Zip.{firsts-zip}
use Rattle.std.specs.FinMap.Entries.{below_all}
use Rattle.std.proofs.lemmas.List.{length-map}
use Rattle.std.proofs.lemmas.List.Elements.{All-nil, All-cons, All-head, All-tail}
use Rattle.hm_tree.specs.Names.{Name, name_cmp}
use Rattle.hm_tree.specs.Nodes.{both, first, second}
use Rattle.hm_tree.proofs.Sorted.{is_less, place_read}
use Rattle.hm_types_table.specs.Tables.{keys}

pub keys_size : {X : Type 0} (es : List (Name × X)) → length (keys es) ≡ length es
keys_size es = length-map es (λ e. e.0)

above_same : {X Y : Type 0} (k : Name) (es : List (Name × X)) (ds : List (Name × Y)) → keys es ≡ keys ds → below_all name_cmp k es ≡ below_all name_cmp k ds
above_same k [] [] e = refl
above_same k [] (d ∷ ds) e = let f : ⊥ = cc in absurd f
above_same k (x ∷ es) [] e = let f : ⊥ = cc in absurd f
above_same k (x ∷ es) (d ∷ ds) e =
    let here : x.0 ≡ d.0 = cc in
    let rest : keys es ≡ keys ds = cc in
    let more = above_same k es ds rest in
    λ i. is_lt (name_cmp k (here i)) && more i

-- whether names rise
pub sorted_same : {X Y : Type 0} (es : List (Name × X)) (ds : List (Name × Y)) → keys es ≡ keys ds → is_sorted name_cmp es ≡ is_sorted name_cmp ds
sorted_same [] [] e = refl
sorted_same [] (d ∷ ds) e = let f : ⊥ = cc in absurd f
sorted_same (x ∷ es) [] e = let f : ⊥ = cc in absurd f
sorted_same (x ∷ es) (d ∷ ds) e =
    let here : x.0 ≡ d.0 = cc in
    let rest : keys es ≡ keys ds = cc in
    let above = above_same d.0 es ds rest in
    let more = sorted_same es ds rest in
    ap (λ k. below_all name_cmp k es && is_sorted name_cmp es) here ∙ (λ i. above i && more i)

-- what holds of each thing holds of each that stands beside a name
pub all_zip : {X : Type 0} (P : X → Type 0) (ks : List Name) (js : List X) → All P js → All (λ (c : Name × X). P c.1) (zip ks js)
all_zip {X} P [] js h = All-nil (λ (c : Name × X). P c.1)
all_zip {X} P (k ∷ ks) [] h = All-nil (λ (c : Name × X). P c.1)
all_zip {X} P (k ∷ ks) (j ∷ js) h =
    All-cons (λ (c : Name × X). P c.1) (k, j) (zip ks js) (All-head P j js h) (all_zip P ks js (All-tail P j js h))

-- names that rise beside what they lead to rise
pub rising : {X : Type 0} (es : List (Name × X)) → T (is_sorted name_cmp es) → IsStrictlySortedBy name_cmp (keys es)
unfolding IsStrictlySortedBy
rising [] h = tt
rising {X} (e ∷ es) h = (above es (first _ _ h), rising es (second _ _ h))
  where
    above : (es : List (Name × X)) → T (below_all name_cmp e.0 es) → AllByRecursion (λ y. name_cmp e.0 y ≡ Less) (keys es)
    above [] h = tt
    above (d ∷ es) h = (is_less (name_cmp e.0 d.0) (first _ _ h), above es (second _ _ h))

-- names that lead to something rise where the names alone do
pub rises_sorted : {X : Type 0} (es : List (Name × X)) → IsStrictlySortedBy name_cmp (keys es) → T (is_sorted name_cmp es)
unfolding IsStrictlySortedBy
rises_sorted [] h = tt
rises_sorted {X} (e ∷ es) h = both _ _ (above es h.0) (rises_sorted es h.1)
  where
    above : (es : List (Name × X)) → AllByRecursion (λ y. name_cmp e.0 y ≡ Less) (keys es) → T (below_all name_cmp e.0 es)
    above [] h = tt
    above (d ∷ es) h = both _ _ (subst (λ r. T (is_lt r)) (sym h.0) tt) (above es h.1)

pub zip_sorted : {X : Type 0} (ks : List Name) (xs : List X) → IsStrictlySortedBy name_cmp ks → length xs ≡ length ks → T (is_sorted name_cmp (zip ks xs))
zip_sorted ks xs h e = rises_sorted (zip ks xs) (subst (IsStrictlySortedBy name_cmp) (sym (firsts-zip ks xs e)) h)

-- what holds of each thing that is found holds of all
pub all_found : {X : Type 0} (P : X → Type 0) (es : List (Name × X)) → T (is_sorted name_cmp es) → ((k : Name) (x : X) → find name_cmp k es ≡ Some x → P x)
    → All (λ (e : Name × X). P e.1) es
all_found P es h f i d lt = f (get_or es i d).0 (get_or es i d).1 ((place_read (get_or es i d).0 es h i d lt refl).found d)
