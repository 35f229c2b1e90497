-- The topmost marks of an archive, counted.
use Rattle.std.proofs.Common.{◌≡◌, ◌≢◌, ℕ, zero, suc, ◌+◌, ◌<◌, ◌≤◌, List, [], ◌∷◌, ◌++◌, length, take, slice_get, get_or, Some, add-one, sym, ap, subst, ◌∙◌, arith, length-append}
use Rattle.std.specs.List.{flat_map, All}
use Rattle.std.specs.List.Sorted.{IsStrictlySortedBy}
use Rattle.std.proofs.lemmas.List.{length-map, get_or_default, flat_map_more, take_all}
use Rattle.std.proofs.lemmas.List.Elements.{All-contains}
use Rattle.hm_tree.specs.declared.archive.State.TheVariants.{Marked}
use Rattle.hm_tree.specs.Names.{Name}
use Rattle.hm_tree.specs.Archives.{Archive, edges_here}
use Rattle.hm_tree.specs.States.{Path, state}
use Rattle.hm_tree.proofs.Kept.{take_more}
use Rattle.hm_safety.specs.Safety.{IsTopmostMark}
use Rattle.hm_tree.specs.PathOrder.{path_cmp}
use Rattle.hm_outcome.specs.TopmostMarks.{AreTopmostMarks}
use Rattle.hm_outcome.specs.TopmostList.{topmost_list}
use Rattle.hm_outcome.proofs.TopmostLists.{marks_once, place_marks, list_marked, list_places, topmost_listed}
use Rattle.hm_tree.proofs.PathLaws.{path_total}
use Rattle.hm_outcome.proofs.SortedLists.{contained}

pub one_at_mark : (o : Archive) → state o [] ≡ Marked → length (topmost_list o) ≡ 1
one_at_mark o m = ap length (list_marked o m)

-- how many stand below the first so many names
abbrev pub passed : Archive → ℕ → ℕ
passed o i = length (flat_map place_marks (take i (edges_here o)))

pub passed_more : (o : Archive) (i : ℕ) (k : Name) (c : Archive) → slice_get (edges_here o) i ≡ Some (k, c)
    → passed o (i + 1) ≡ passed o i + length (topmost_list c)
passed_more o i k c at =
    ap length (sym longer) ∙ length-append (flat_map place_marks (take i (edges_here o))) (place_marks (k, c))
    ∙ ap (λ n. passed o i + n) (length-map (topmost_list c) (λ (q : Path). k ∷ q))
  where
    longer : flat_map place_marks (take i (edges_here o)) ++ place_marks (k, c) ≡ flat_map place_marks (take (i + 1) (edges_here o))
    longer = rw (add-one, take_more (edges_here o) i (k, c) at) (flat_map_more place_marks [] (take i (edges_here o)) (k, c))

pub passed_all : (o : Archive) (i : ℕ) → length (edges_here o) ≤ i → state o [] ≢ Marked → passed o i ≡ length (topmost_list o)
passed_all o i all n = ap length (ap (flat_map place_marks) (take_all i (edges_here o) all) ∙ sym (list_places o n))

grows : (es : List (Name × Archive)) (i : ℕ) → length (flat_map place_marks (take i es)) ≤ length (flat_map place_marks es)
grows es zero = omega arith
grows [] (suc i) = omega arith
grows (e ∷ es) (suc i) = omega (
  arith,
  length-append (place_marks e) (flat_map place_marks (take i es)),
  length-append (place_marks e) (flat_map place_marks es),
  grows es i,
)

pub passed_some : (o : Archive) (i : ℕ) → state o [] ≢ Marked → passed o i ≤ length (topmost_list o)
passed_some o i n = let all = ap length (list_places o n) in let le = grows (edges_here o) i in omega arith

-- ---- the list of the topmost marks

pub listed_count : (o : Archive) (ps : List Path) → AreTopmostMarks (state o) ps → length ps ≡ length (topmost_list o)
listed_count o ps h = ap length (marks_once (state o) ps (topmost_list o) h (topmost_listed o))

pub counted_list : (o : Archive) (ps : List Path) → IsStrictlySortedBy path_cmp ps → All (IsTopmostMark (state o)) ps
    → length ps ≡ length (topmost_list o) → AreTopmostMarks (state o) ps
counted_list o ps ascending all e =
    let list = topmost_listed o in
    let same = contained path_cmp path_total ps (topmost_list o) ascending list.ascending
    (λ p c. (list.each p).1 (All-contains (IsTopmostMark (state o)) ps p all c)) e in
    subst (AreTopmostMarks (state o)) (sym same) list

pub all_marks : (o : Archive) (ps : List Path) → AreTopmostMarks (state o) ps → (i : ℕ) (d : Path) → i < length ps
    → IsTopmostMark (state o) (get_or ps i d)
all_marks o ps h i d lt = (h.each (get_or ps i d)).0 (i, lt, get_or_default ps i (get_or ps i d) d lt)
