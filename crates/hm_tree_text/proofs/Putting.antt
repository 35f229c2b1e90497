-- What is written of a node, edge by edge.
use Rattle.std.proofs.Common.{◌≡◌, ℕ, zero, suc, ◌+◌, ◌<◌, ◌≤◌, Bool, true, false, cond, nat_lt, List, [], ◌∷◌, ◌++◌, map, length, drop, Some, None, slice_get, refl, sym, ap, ◌∙◌, append_assoc, arith, add-one}
use Rattle.std.proofs.lemmas.List.{append-nil}
use Rattle.std.proofs.lemmas.Bool.{ltb-true, ltb-false}
use Rattle.hm_tree.specs.declared.archive.State.TheVariants.{Missing, Present, Marked}
use Rattle.hm_tree.specs.Names.{Name}
use Rattle.hm_tree.specs.Nodes.{Node, edges, is_marked}
use Rattle.hm_tree.specs.NodeLaws.{edges_empty}
use Rattle.hm_tree.specs.Archives.{Archive, edges_here}
use Rattle.hm_tree.specs.States.{state}
use Rattle.hm_tree_spelling.specs.Spelling.{spelled}
use Rattle.hm_tree_text.specs.Text.{whole, below, text, line_feed, archive_text, edge_text, separator, inside, is_more}
use Rattle.hm_tree_text.specs.Writing.{present}
use Rattle.hm_tree_text.proofs.Listed.{empty_unmarked}

-- ---- one edge more

drop_at : {X : Type 0} (xs : List X) (i : ℕ) (x : X) → slice_get xs i ≡ Some x → drop i xs ≡ x ∷ drop (suc i) xs
drop_at [] i x e = let no : ⊥ = cc in absurd no
drop_at (y ∷ xs) zero x e = let same : y ≡ x = cc in ap (λ z. z ∷ xs) same
drop_at (y ∷ xs) (suc i) x e = drop_at xs i x e

drop_more : (es : List (Name × Node true)) (i : ℕ) → i < length es → is_more (drop i es) ≡ true
drop_more [] i lt = absurd (omega arith)
drop_more (e ∷ es) zero lt = refl
drop_more (e ∷ es) (suc i) lt = drop_more es i (omega arith)

drop_none : {X : Type 0} (xs : List X) (i : ℕ) → length xs ≤ i → drop i xs ≡ []
drop_none [] zero le = refl
drop_none [] (suc i) le = refl
drop_none (x ∷ xs) zero le = absurd (omega arith)
drop_none (x ∷ xs) (suc i) le = drop_none xs i (omega arith)

is_more_drop : (es : List (Name × Node true)) (i : ℕ) (b : Bool) → nat_lt i (length es) ≡ b → is_more (drop i es) ≡ b
is_more_drop es i true e = drop_more es i (ltb-true _ _ e)
is_more_drop es i false e = ap is_more (drop_none es i (ltb-false _ _ e))

-- an edge is written with what stands behind it
pub put_edge : (es : List (Name × Node true)) (i : ℕ) (k : Name) (c : Node true) (before named child after rest : List ℕ) (b count : ℕ)
    → count ≡ length es → slice_get es i ≡ Some (k, c) → named ≡ before ++ spelled k → child ≡ named ++ text below c.shape
    → after ≡ child ++ b ∷ [] → b ≡ separator (nat_lt (i + 1) count) → before ++ inside (drop i es) ≡ rest → after ++ inside (drop (i + 1) es) ≡ rest
put_edge es i k c before named child after rest b count counts at one two three sep e =
    let more : is_more (drop (i + 1) es) ≡ nat_lt (i + 1) count = is_more_drop es (i + 1) _ (ap (nat_lt (i + 1)) (sym counts)) in
    let split : drop i es ≡ (k, c) ∷ drop (i + 1) es = rw add-one (drop_at es i (k, c) at) in
    ap (λ l. l ++ inside (drop (i + 1) es)) (three ∙ ap (λ l. l ++ b ∷ []) (two ∙ ap (λ l. l ++ text below c.shape) one))
    ∙ regroup before (spelled k) (text below c.shape) b (inside (drop (i + 1) es))
    ∙ ap (λ x. before ++ (edge_text k c.shape ++ x ∷ inside (drop (i + 1) es))) (sep ∙ ap separator (sym more))
    ∙ ap (λ es. before ++ inside es) (sym split)
    ∙ e
  where
    regroup : (a q t : List ℕ) (b : ℕ) (x : List ℕ) → (((a ++ q) ++ t) ++ b ∷ []) ++ x ≡ a ++ ((q ++ t) ++ b ∷ x)
    regroup a q t b x = simp append_assoc

-- all edges are written
pub put_all : (es : List (Name × Node true)) (i : ℕ) (now rest : List ℕ) → length es ≤ i → now ++ inside (drop i es) ≡ rest → now ≡ rest
put_all es i now rest le e = sym (append-nil now) ∙ ap (λ l. now ++ inside l) (sym (drop_none es i le)) ∙ e

-- ---- archives

length_map : {X Y : Type 0} (f : X → Y) (xs : List X) → length (map f xs) ≡ length xs
length_map f [] = refl
length_map f (x ∷ xs) = ap suc (length_map f xs)

pub count_present : (a : Archive) → length (edges_here a) ≡ length (edges (present a))
count_present None = sym (ap length edges_empty)
count_present (Some t) = length_map _ (edges t)

pub edge_present : (a : Archive) (i : ℕ) (k : Name) (c : Archive) → slice_get (edges_here a) i ≡ Some (k, c)
    → slice_get (edges (present a)) i ≡ Some (k, present c)
edge_present None i k c e = let no : ⊥ = cc in absurd no
edge_present (Some t) i k c e = by (edges t) i e
  where
    by : (es : List (Name × Node true)) (i : ℕ) → slice_get {X = Name × Archive} (map (λ (e : Name × Node true). (e.0, Some e.1)) es) i ≡ Some
        (k, c) → slice_get es i ≡ Some (k, present c)
    by [] i e = let no : ⊥ = cc in absurd no
    by (d ∷ es) zero e =
        let same : ◌≡◌ {A = Name × Archive} (d.0, Some d.1) (k, c) = cc in
        λ i. Some ((same i).0, present (same i).1)
    by (d ∷ es) (suc i) e = by es i e

pub present_marked : (a : Archive) → state a [] ≡ Marked → is_marked (present a) ≡ true
present_marked None e = let no : ⊥ = cc in absurd no
present_marked (Some t) e = by (is_marked t) refl e
  where
    by : (b : Bool) → is_marked t ≡ b → cond b Marked Present ≡ Marked → is_marked t ≡ true
    by false m e = let no : ⊥ = cc in absurd no
    by true m e = m

pub present_unmarked : (a : Archive) → (state a [] ≡ Marked → ⊥) → is_marked (present a) ≡ false
present_unmarked None e = empty_unmarked
present_unmarked (Some t) e = by (is_marked t) refl e
  where
    by : (b : Bool) → is_marked t ≡ b → (cond b Marked Present ≡ Marked → ⊥) → is_marked t ≡ false
    by false m e = m
    by true m e = absurd (e refl)

-- where its root isn't missing, an archive's text is that of its node
pub archive_text_present : (a : Archive) → (state a [] ≡ Missing → ⊥) → text whole (present a).shape ++ line_feed ≡ archive_text a
archive_text_present None some = absurd (some refl)
archive_text_present (Some t) some = refl
