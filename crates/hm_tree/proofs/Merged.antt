-- Two lists of edges in one order.
use Rattle.std.proofs.Common.{◌≡◌, Bool, true, false, cond, T, [], ◌∷◌, ◌++◌, Option, Some, None, Result, Ok, Err, IfOk, refl, sym, ap, subst, ◌∙◌, inl, inr}
use Rattle.std.specs.Option.{option_or}
use Rattle.std.specs.Ordering.{is_lt, is_eq, eq_by_cmp}
use Rattle.std.specs.declared.cmp.Ordering.{Ordering}
use Rattle.std.specs.declared.cmp.Ordering.TheVariants.{Less, Equal, Greater}
use Rattle.std.specs.FinMap.{find}
use Rattle.std.specs.FinMap.Entries.{find-append}
use Rattle.std.proofs.lemmas.Bool.{true≢false}
use Rattle.std.proofs.lemmas.Option.{none-some}
use Rattle.std.proofs.lemmas.Cmp.{tied_itself}
use Rattle.std.specs.Prelude.{option_to_list, MatchOption}
use Rattle.hm_tree.specs.Names.{Name, name_cmp}
use Rattle.hm_tree.specs.NameLaws.{name_total, name_one}
use Rattle.hm_tree.specs.NodeLaws.{edges-node}
use Rattle.hm_tree.specs.Parts.{AreApart, Joins}
use Rattle.hm_tree.specs.Nodes.{Tree, node, edges, below, first, second, both, below_all, are_edges, edges_head, edges_below, edges_tail, edges_cons}
use Rattle.hm_tree.specs.Merging.{Edges, HaveNoCommon, leads, AreOver, IsLeast, of_first, of_second, AreMerged, AreMerging}
use Rattle.hm_tree.proofs.Sorted.{is_less, back_less}
use Rattle.hm_tree.proofs.NameSets.{tied, tied_one}

less_test : (o : Ordering) → o ≡ Less → T (is_lt o)
less_test o e = subst (λ x. T (is_lt x)) (sym e) tt

-- a name less than the first is less than all
below_first : (x : Name) (d : Name × Tree) (es : Edges) → T (are_edges (d ∷ es)) → name_cmp x d.0 ≡ Less → T (below_all x (d ∷ es))
below_first x d es h less = both _ _ (less_test _ less) (go es (edges_below d es h))
  where
    go : (es : Edges) → T (below_all d.0 es) → T (below_all x es)
    go [] h = tt
    go (e ∷ es) h = both _ _ (less_test _ (name_total.trans x d.0 e.0 less (is_less _ (first _ _ h)))) (go es (second _ _ h))

-- ---- which list has the least name

pub led_first : (ones twos left : Edges) (e : Name × Tree) → T (are_edges twos) → leads ones twos ≡ true → ones ≡ e ∷ left → T (below_all e.0 twos)
led_first [] twos left e h led is = absurd (true≢false (sym led))
led_first (d ∷ ones) [] left e h led is = tt
led_first (d ∷ ones) (c ∷ twos) left e h led is =
    let same : d ≡ e = cc in
    below_first e.0 c twos h (ap (λ (x : Name × Tree). name_cmp x.0 c.0) (sym same) ∙ is_less _ (subst T (sym led) tt))

pub led_second : (ones twos left : Edges) (e : Name × Tree) → T (are_edges ones) → HaveNoCommon ones twos → leads ones twos ≡ false → twos ≡ e ∷ left
    → T (below_all e.0 ones)
led_second [] twos left e h apart led is = tt
led_second (d ∷ ones) [] left e h apart led is = absurd (true≢false led)
led_second (d ∷ ones) (c ∷ twos) left e h apart led is =
    let same : c ≡ e = cc in
    below_first e.0 d ones h (ap (λ (x : Name × Tree). name_cmp x.0 d.0) (sym same) ∙ go (name_cmp d.0 c.0) refl)
  where
    found : (x : Name × Tree) (es : Edges) (k : Name) → k ≡ x.0 → find name_cmp k (x ∷ es) ≡ Some x.1
    found x es k e = ap (λ b. cond b (Some x.1) (find name_cmp k es)) (ap is_eq (ap (name_cmp k) (sym e) ∙ tied_itself name_total k))

    go : (o : Ordering) → name_cmp d.0 c.0 ≡ o → name_cmp c.0 d.0 ≡ Less
    go Less e = absurd (true≢false (sym (ap is_lt e) ∙ led))
    go Equal e = absurd (elim (apart d.0) [
      | inl none ↦ none-some d.1 (sym none ∙ found d ones d.0 refl)
      | inr none ↦ none-some c.1 (sym none ∙ found c twos d.0 (name_one d.0 c.0 e))
    ])
    go Greater e = name_total.antisymm c.0 d.0 ∙ rw e refl

pub led_some : (ones twos : Edges) → leads ones twos ≡ true → ones ≡ [] → ⊥
led_some [] twos led is = true≢false (sym led)
led_some (e ∷ ones) twos led is = cc

pub led_none : (ones twos : Edges) → leads ones twos ≡ false → twos ≡ [] → AreOver ones twos
led_none [] twos led is = record { first = refl; second = is }
led_none (e ∷ ones) [] led is = absurd (true≢false led)
led_none (e ∷ ones) (d ∷ twos) led is = absurd cc

-- ---- merging

or_none : {X : Type 0} (x : Option X) → option_or x None ≡ x
or_none None = refl
or_none (Some x) = refl

pub merging_begins : (ones twos : Edges) → T (are_edges ones) → T (are_edges twos) → HaveNoCommon ones twos → AreMerging ones twos [] ones twos
merging_begins ones twos h g apart = record { before_ones = h; before_twos = g; apart = apart; all = λ k. refl }

nil_behind : (es : Edges) → T (are_edges (es ++ [])) → T (are_edges es)
nil_behind es h = subst (λ l. T (are_edges l)) (go es) h
  where
    go : (es : Edges) → es ++ [] ≡ es
    go [] = refl
    go (e ∷ es) = ap (λ l. e ∷ l) (go es)

pub merging_ends : (ones twos edges left_ones left_twos : Edges) → AreMerging ones twos edges left_ones left_twos → AreOver left_ones left_twos
    → AreMerged ones twos edges
merging_ends ones twos edges left_ones left_twos h over = record {
  sound = nil_behind edges (subst (λ l. T (are_edges (edges ++ l))) over.first h.before_ones);
  all = λ k. sym (or_none (find name_cmp k edges))
      ∙ ap (λ (p : Edges × Edges). option_or (find name_cmp k edges) (option_or (find name_cmp k p.0) (find name_cmp k p.1)))
      (λ i. (sym over.first i, sym over.second i)) ∙ h.all k;
}

below_parts : (x : Name) (xs bs : Edges) → T (below_all x (xs ++ bs)) → T (below_all x xs) × T (below_all x bs)
below_parts x [] bs h = (tt, h)
below_parts x (a ∷ xs) bs h = let rest = below_parts x xs bs (second _ _ h) in (both _ _ (first _ _ h) rest.0, rest.1)

below_both : (x : Name) (xs bs : Edges) → T (below_all x xs) → T (below_all x bs) → T (below_all x (xs ++ bs))
below_both x [] bs h g = g
below_both x (a ∷ xs) bs h g = both _ _ (first _ _ h) (below_both x xs bs (second _ _ h) g)

-- an edge between what comes before and what comes behind
between : (es rest behind : Edges) (e : Name × Tree) → T (are_edges (es ++ e ∷ rest)) → T (are_edges (es ++ behind)) → T (below_all e.0 behind)
    → T (are_edges (es ++ e ∷ behind))
between [] rest behind e h g below = edges_cons e behind (edges_head e rest h) below g
between (d ∷ es) rest behind e h g below =
    let here = below_parts d.0 es (e ∷ rest) (edges_below d (es ++ e ∷ rest) h) in
    let there = below_parts d.0 es behind (edges_below d (es ++ behind) g) in
    edges_cons d (es ++ e ∷ behind) (edges_head d (es ++ behind) g) (below_both d.0 es (e ∷ behind) here.0 (both _ _ (first _ _ here.1) there.1))
    (between es rest behind e (edges_tail d (es ++ e ∷ rest) h) (edges_tail d (es ++ behind) g) below)

moved : (es rest : Edges) (e : Name × Tree) → es ++ e ∷ rest ≡ (es ++ e ∷ []) ++ rest
moved [] rest e = refl
moved (d ∷ es) rest e = ap (λ l. d ∷ l) (moved es rest e)

new_name : (es rest : Edges) (e : Name × Tree) → T (are_edges (es ++ e ∷ rest)) → find name_cmp e.0 es ≡ None
new_name [] rest e h = refl
new_name (d ∷ es) rest e h =
    let less = is_less _ (first _ _ (below_parts d.0 es (e ∷ rest) (edges_below d (es ++ e ∷ rest) h)).1) in
    ap (λ b. cond b (Some d.1) (find name_cmp e.0 es)) (ap is_eq (back_less e.0 d.0 less)) ∙ new_name es rest e (edges_tail d (es ++ e ∷ rest) h)

missing : (x : Name) (es : Edges) → T (below_all x es) → find name_cmp x es ≡ None
missing x [] h = refl
missing x (e ∷ es) h = ap (λ b. cond b (Some e.1) (find name_cmp x es)) (ap is_eq (is_less _ (first _ _ h))) ∙ missing x es (second _ _ h)

-- the rest of a list has no name that the list hasn't
rest_missing : (k : Name) (e : Name × Tree) (es : Edges) → find name_cmp k (e ∷ es) ≡ None → find name_cmp k es ≡ None
rest_missing k e es h = go (eq_by_cmp name_cmp k e.0) h
  where
    go : (b : Bool) → cond b (Some e.1) (find name_cmp k es) ≡ None → find name_cmp k es ≡ None
    go true h = absurd (none-some e.1 (sym h))
    go false h = h

-- ---- an edge goes over

found_at : (k : Name) (e : Name × Tree) (es : Edges) (b : Bool) → tied k e.0 ≡ b → find name_cmp k (e ∷ es) ≡ cond b (Some e.1) (find name_cmp k es)
found_at k e es b tie = ap (λ b. cond b (Some e.1) (find name_cmp k es)) tie

-- what is found when an edge has gone over whose name was new, by what stood under it and what is left
gone_over : (k : Name) (es : Edges) (e : Name × Tree) (left was : Option Tree) (b : Bool) → tied k e.0 ≡ b → find name_cmp e.0 es ≡ None
    → (tied k e.0 ≡ true → was ≡ Some e.1) → (tied k e.0 ≡ false → left ≡ was)
    → option_or (find name_cmp k (es ++ e ∷ [])) left ≡ option_or (find name_cmp k es) was
gone_over k es e left was true tie new at other =
    let none : find name_cmp k es ≡ None = ap (λ q. find name_cmp q es) (tied_one k e.0 tie) ∙ new in
    ap (λ x. option_or x left) (find-append name_cmp name_total es e.0 e.1 k new ∙ ap (λ b. cond b (Some e.1) (find name_cmp k es)) tie)
    ∙ sym (at tie) ∙ ap (λ x. option_or x was) (sym none)
gone_over k es e left was false tie new at other =
    ap (λ x. option_or x left) (find-append name_cmp name_total es e.0 e.1 k new ∙ ap (λ b. cond b (Some e.1) (find name_cmp k es)) tie)
    ∙ ap (option_or (find name_cmp k es)) (other tie)

module _ (one two es ones twos left : Edges) (e : Name × Tree) (h : AreMerging one two es ones twos) where
  over_first : ones ≡ e ∷ left → T (below_all e.0 twos) → AreMerging one two (es ++ e ∷ []) left twos
  over_first is below =
      let before : T (are_edges (es ++ e ∷ left)) = subst (λ l. T (are_edges (es ++ l))) is h.before_ones in
      record {
        before_ones = subst (λ l. T (are_edges l)) (moved es left e) before;
        before_twos = subst (λ l. T (are_edges l)) (moved es twos e) (between es left twos e before h.before_twos below);
        apart = λ k. elim (h.apart k) [ inl none ↦ inl (rest_missing k e left (ap (find name_cmp k) (sym is) ∙ none)) | inr none ↦ inr none ];
        all = λ k. gone_over k es e _ _ _ refl (new_name es left e before)
            (λ tie. ap (λ x. option_or x (find name_cmp k twos)) (ap (find name_cmp k) is ∙ found_at k e left true tie))
            (λ tie. ap (λ x. option_or x (find name_cmp k twos)) (sym (ap (find name_cmp k) is ∙ found_at k e left false tie)))
            ∙ h.all k;
      }

  over_second : twos ≡ e ∷ left → T (below_all e.0 ones) → AreMerging one two (es ++ e ∷ []) ones left
  over_second is below =
      let before : T (are_edges (es ++ e ∷ left)) = subst (λ l. T (are_edges (es ++ l))) is h.before_twos in
      record {
        before_ones = subst (λ l. T (are_edges l)) (moved es ones e) (between es left ones e before h.before_ones below);
        before_twos = subst (λ l. T (are_edges l)) (moved es left e) before;
        apart = λ k. elim (h.apart k) [ inl none ↦ inl none | inr none ↦ inr (rest_missing k e left (ap (find name_cmp k) (sym is) ∙ none)) ];
        all = λ k. gone_over k es e _ _ _ refl (new_name es left e before)
            (λ tie. ap (λ x. option_or x (find name_cmp k twos)) (ap (λ q. find name_cmp q ones) (tied_one k e.0 tie) ∙ missing e.0 ones below)
            ∙ ap (find name_cmp k) is ∙ found_at k e left true tie)
            (λ tie. ap (option_or (find name_cmp k ones)) (sym (ap (find name_cmp k) is ∙ found_at k e left false tie)))
            ∙ h.all k;
      }

pub merging_on : (one two es ones twos left_ones left_twos : Edges) (e : Name × Tree) → AreMerging one two es ones twos
    → IsLeast ones twos left_ones left_twos e → AreMerging one two (es ++ e ∷ []) left_ones left_twos
merging_on one two es ones twos left_ones left_twos e h (of_first is same below) =
    subst (λ l. AreMerging one two (es ++ e ∷ []) left_ones l) (sym same) (over_first one two es ones twos left_ones e h is below)
merging_on one two es ones twos left_ones left_twos e h (of_second is same below) =
    subst (λ l. AreMerging one two (es ++ e ∷ []) l left_twos) (sym same) (over_second one two es ones twos left_twos e h is below)

-- ---- what is taken out

pub taken_first : (ones twos left : Edges) (r : Option (Name × Tree)) → T (are_edges twos) → leads ones twos ≡ true → ones ≡ option_to_list r ++ left
    → (r ≡ None → ones ≡ []) → MatchOption r (AreOver ones twos) (IsLeast ones twos left twos)
taken_first ones twos left None h led is over = absurd (led_some ones twos led (over refl))
taken_first ones twos left (Some e) h led is over = of_first is refl (led_first ones twos left e h led is)

pub taken_second : (ones twos left : Edges) (r : Option (Name × Tree)) → T (are_edges ones) → HaveNoCommon ones twos → leads ones twos ≡ false
    → twos ≡ option_to_list r ++ left → (r ≡ None → twos ≡ []) → MatchOption r (AreOver ones twos) (IsLeast ones twos ones left)
taken_second ones twos left None h apart led is over = led_none ones twos led (over refl)
taken_second ones twos left (Some e) h apart led is over = of_second is refl (led_second ones twos left e h apart led is)

-- ---- trees

-- what is left behind what was merged are edges too
pub edges_behind : (es left : Edges) → T (are_edges (es ++ left)) → T (are_edges left)
edges_behind [] left h = h
edges_behind (e ∷ es) left h = edges_behind es left (edges_tail e (es ++ left) h)

pub joined_node : (one two t : Tree) (es : Edges) → AreApart one two → AreMerged (edges one) (edges two) es → t ≡ node es → Joins one two t
joined_node one two t es apart merged is = record { apart = apart; all = λ k. ap (below k) is ∙ ap (find name_cmp k) (edges-node es merged.sound) ∙ merged.all k }

pub joined_result : {E : Type 0} (one two : Tree) (ones twos es : Edges) (r : Result Tree E) → AreApart one two → ones ≡ edges one → twos ≡ edges two
    → AreMerged ones twos es → IfOk r (λ t. t ≡ node es) → IfOk r (Joins one two)
joined_result one two ones twos es (Ok t) apart first second merged is =
    joined_node one two t es apart (subst (λ (p : Edges × Edges). AreMerged p.0 p.1 es) (λ i. (first i, second i)) merged) is
joined_result one two ones twos es (Err e) apart first second merged is = is
