-- The paths of conflicts, one after another.
use Rattle.std.proofs.Common.{◌≡◌, ◌↔◌, ℕ, ◌+◌, ◌-◌, ◌<◌, ◌≤◌, List, [], length, map, get_or, take, Bool, IsTrue, sym, subst, ◌∙◌, arith, inl, inr}
use Rattle.std.specs.List.{All}
use Rattle.std.specs.List.Sorted.{IsStrictlySortedBy}
use Rattle.std.specs.declared.cmp.Ordering.TheVariants.{Less}
use Rattle.std.proofs.lemmas.Bool.{cases_lt}
use Rattle.std.proofs.lemmas.List.{length-map, get_or-map, take_all}
use Rattle.std.proofs.lemmas.List.Elements.{All-map, All-more}
use Rattle.std.proofs.lemmas.Map.Keys.{Less-from_sorted, sorted_from_all_adjacent}
use Rattle.hm_tree.specs.Archives.{Archive}
use Rattle.hm_tree.specs.States.{Path, state}
use Rattle.hm_safety.specs.Safety.{IsTopmostMark}
use Rattle.hm_tree.specs.PathOrder.{path_cmp}
use Rattle.hm_outcome.specs.TopmostMarks.{AreTopmostMarks}
use Rattle.hm_outcome.specs.TopmostList.{topmost_list}
use Rattle.hm_report.specs.declared.conflict.Conflict.{Conflict}
use Rattle.hm_tree.proofs.PathLaws.{path_total}
use Rattle.hm_certify.proofs.MarksCounted.{listed_count, counted_list, all_marks}

abbrev pub paths_of : List Conflict → List Path
paths_of cs = map (λ c. c.path) cs

-- each of the first so many paths stands before the next
abbrev pub AscendUpTo : List Conflict → ℕ → Type 0
AscendUpTo cs n = (k : ℕ) → k + 1 < n → path_cmp (get_or (paths_of cs) k []) (get_or (paths_of cs) (k + 1) []) ≡ Less

module _ (cs : List Conflict) (at : ℕ) (c d : Conflict) (start : 1 ≤ at) (within : at < length cs) where
  pair : path_cmp (get_or (paths_of cs) (at - 1) []) (get_or (paths_of cs) at []) ≡ path_cmp (get_or cs (at - 1) c).path (get_or cs at d).path
  pair = λ i. path_cmp (get_or-map (λ (x : Conflict). x.path) cs (at - 1) c [] (omega arith) i)
      (get_or-map (λ (x : Conflict). x.path) cs at d [] within i)

  pub ascend_more : AscendUpTo cs at → path_cmp (get_or cs (at - 1) c).path (get_or cs at d).path ≡ Less → AscendUpTo cs (at + 1)
  ascend_more all less k lt = elim (cases_lt (k + 1) at) [
    | inl early ↦ all k early
    | inr late ↦
        let here : k ≡ at - 1 = omega arith in
        let next : k + 1 ≡ at = omega arith in
        (λ i. path_cmp (get_or (paths_of cs) (here i) []) (get_or (paths_of cs) (next i) [])) ∙ pair ∙ less
  ]

  pub ascend_not : (path_cmp (get_or cs (at - 1) c).path (get_or cs at d).path ≡ Less → ⊥) → IsStrictlySortedBy path_cmp (paths_of cs) → ⊥
  ascend_not n s =
      let long = length-map cs (λ (x : Conflict). x.path) in
      n (sym pair ∙ Less-from_sorted path_cmp (paths_of cs) (at - 1) at [] s (omega arith) (omega arith))

pub ascend_all : (cs : List Conflict) (n : ℕ) → length cs ≤ n → AscendUpTo cs n → IsStrictlySortedBy path_cmp (paths_of cs)
ascend_all cs n end all =
    let long = length-map cs (λ (x : Conflict). x.path) in
    sorted_from_all_adjacent path_total (paths_of cs) [] (λ k lt. all k (omega arith))

-- ---- what holds of each

pub one_more_holds : (P : Conflict → Type 0) (cs : List Conflict) (i : ℕ) (c : Conflict) → i < length cs → c ≡ get_or cs i c → All P (take i cs)
    → P c → All P (take (i + 1) cs)
one_more_holds P cs i c lt e all here = All-more P cs i c lt all (subst P e here)

pub all_hold : (P : Conflict → Type 0) (cs : List Conflict) (i : ℕ) → length cs ≤ i → All P (take i cs) → All P cs
all_hold P cs i end all = subst (All P) (take_all i cs end) all

-- ---- at the topmost marks

module _ (o : Archive) (cs : List Conflict) where
  pub marks_all : AreTopmostMarks (state o) (paths_of cs) → All (λ (c : Conflict). IsTopmostMark (state o) c.path) cs
  marks_all h k d lt =
      let long = length-map cs (λ (x : Conflict). x.path) in
      subst (IsTopmostMark (state o)) (get_or-map (λ (x : Conflict). x.path) cs k d [] lt) (all_marks o (paths_of cs) h k [] (omega arith))

  pub marks_number : (b : Bool) → IsStrictlySortedBy path_cmp (paths_of cs) → All (λ (c : Conflict). IsTopmostMark (state o) c.path) cs
      → IsTrue b ↔ (length cs ≡ length (topmost_list o)) → IsTrue b ↔ AreTopmostMarks (state o) (paths_of cs)
  marks_number b ascending all h =
      let long = length-map cs (λ (x : Conflict). x.path) in (
        λ true_is. (let e = h.0 true_is in counted_list o (paths_of cs) ascending
            (All-map (IsTopmostMark (state o)) (λ (x : Conflict). x.path) cs all) (omega arith)),
        λ m. (let e = listed_count o (paths_of cs) m in h.1 (omega arith)),
      )
