-- The changes of what stands at a path are put behind others, each from the root on.
use Rattle.std.proofs.Common.{◌≡◌, ℕ, ◌<◌, List, [], ◌∷◌, ◌++◌, map, Option, Some, None, Bor, option_copied, length, take, ◌-◌, refl, sym, ap, subst, ◌∙◌, append_assoc, append-nil, arith, length-append}
use Rattle.std.proofs.Math.Seq.{take-append_seam}
use Rattle.std.specs.FinMap.{find}
use Rattle.hm_tree.specs.Names.{Name, name_cmp}
use Rattle.hm_tree.specs.Nodes.{Tree, edges}
use Rattle.hm_tree.specs.NodeLaws.{edges_sorted}
use Rattle.hm_tree.specs.States.{Path, state}
use Rattle.hm_tree.proofs.Depths.{depth_below}
use Rattle.hm_changes.specs.declared.change.Change.{Change}
use Rattle.hm_changes.specs.declared.change.Turn.{Turn}
use Rattle.hm_changes.specs.declared.change.Turn.TheVariants.{Added, Deleted}
use Rattle.hm_changes.specs.Changes.{IsTurned, AreChanges, AddsChanges, from}
use Rattle.hm_changes.specs.Taken.{Edges, IsTaken, AreOver}
use Rattle.hm_changes.proofs.Depths.{height, edges_in}
use Rattle.hm_changes.proofs.Lists.{map_append}
use Rattle.hm_changes.proofs.Tops.{change, root_turns, no_changes, tree_goes, tree_comes}
use Rattle.hm_changes.proofs.Listing.{AreListed, none_listed, all_listed, taken_here, listed_more}

further : (here : Path) (k : Name) (xs : List Change) → map (from (here ++ k ∷ [])) xs ≡ map (from here) (map (from (k ∷ [])) xs)
further here k [] = refl
further here k (x ∷ xs) =
    λ i. record { turn = x.turn; path = append_assoc here (k ∷ []) x.path i } ∷ further here k xs i

-- changes below a name are put behind those that are there
pub added_more : (here : Path) (k : Name) (before middle after : List Change) (found more : List Change)
    → middle ≡ before ++ map (from here) found → after ≡ middle ++ map (from (here ++ k ∷ [])) more
    → after ≡ before ++ map (from here) (found ++ map (from (k ∷ [])) more)
added_more here k before middle after found more first next =
    next ∙ (λ i. first i ++ further here k more i) ∙ append_assoc before (map (from here) found) (map (from here) (map (from (k ∷ [])) more))
    ∙ ap (λ l. before ++ l) (sym (map_append (from here) found (map (from (k ∷ [])) more)))

module _ (here : Path) (before after : List Change) where
  adds_root : (t : Turn) (old new : Option Tree) → IsTurned t (state old) (state new) [] → after ≡ before ++ change t here ∷ [] → AddsChanges old new here before after
  adds_root t old new turned e = record {
    changes = change t [] ∷ [];
    added = e ∙ (λ i. before ++ change t (sym (append-nil here) i) ∷ []);
    are = root_turns (state old) (state new) t turned;
  }

  module _ (old new : Option (Bor Tree)) where
    abbrev Adds : Type 0
    Adds = AddsChanges (option_copied old) (option_copied new) here before after

    pub adds_goes : (t : Bor Tree) → old ≡ Some t → new ≡ None → after ≡ before ++ change Deleted here ∷ [] → Adds
    adds_goes t is none e = rw (is, none) (adds_root Deleted (Some t.now) None (tree_goes t.now) e)

    pub adds_comes : (t : Bor Tree) → old ≡ None → new ≡ Some t → after ≡ before ++ change Added here ∷ [] → Adds
    adds_comes t none is e = rw (is, none) (adds_root Added None (Some t.now) (tree_comes t.now) e)

    pub adds_nothing : old ≡ None → new ≡ None → after ≡ before → Adds
    adds_nothing none other e = rw (none, other) (record { changes = []; added = e ∙ sym (append-nil before); are = no_changes })

    pub adds_all : (t u : Bor Tree) → old ≡ Some t → new ≡ Some u → (found : List Change) → after ≡ before ++ map (from here) found
        → AreListed (edges_in old) (edges_in new) [] [] found → Adds
    adds_all t u is other found e listed =
        let at_end : AreListed (edges t.now) (edges u.now) [] [] found = subst (λ (x : Option (Bor Tree)). AreListed (edges_in x) (edges u.now) [] [] found) is
        (subst (λ (x : Option (Bor Tree)). AreListed (edges_in old) (edges_in x) [] [] found) other listed) in
        rw (is, other) (record { changes = found; added = e; are = all_listed t.now u.now found at_end })

-- ---- the loop

pub begun : (old new : Option (Bor Tree)) (t u : Bor Tree) (es fs : Edges) → old ≡ Some t → new ≡ Some u → es ≡ edges t.now → fs ≡ edges u.now
    → AreListed (edges_in old) (edges_in new) es fs []
begun old new t u es fs is other olds news =
    rw (is, other, olds, news) (none_listed (edges t.now) (edges u.now) (edges_sorted t.now) (edges_sorted u.now))

-- what is taken under a name is less deep
pub lower : (old new : Option (Bor Tree)) (t : Bor Tree) (es fs : Edges) (k : Name) (child other : Option (Bor Tree)) (es_left fs_left : Edges) (found : List Change)
    → old ≡ Some t → AreListed (edges_in old) (edges_in new) es fs found → IsTaken es fs k (option_copied child) (option_copied other) es_left fs_left
    → height child < height old
lower old new t es fs k child other es_left fs_left found is listed taken = rw is (go child (rw is at (taken_here _ _ es fs k _ _ es_left fs_left found listed taken)))
  where
    go : (child : Option (Bor Tree)) → find name_cmp k (edges_in (Some t)) ≡ option_copied child → height child < height (Some t)
    go None e = omega arith
    go (Some c) e = let less = depth_below k t.now c.now e in omega arith

-- what was put behind a list is taken off again
pub popped : {X : Type 0} (xs ys : List X) (x : X) (n : ℕ) → ys ≡ xs ++ x ∷ [] → n ≡ length ys → take (n - 1) ys ≡ xs
popped xs ys x n is long =
    let longer = ap length is in
    let count : n - 1 ≡ length xs = omega (arith, length-append xs (x ∷ [])) in
    rw (is, count) (take-append_seam xs (x ∷ []))

abbrev names_of : List (Bor Name) → Path
names_of = map (λ n. n.now)

-- one round of the loop
pub more_listed : (old new : Option (Bor Tree)) (es fs : Edges) (k : Bor Name) (child other : Option (Bor Tree)) (es_left fs_left : Edges)
    (here deeper : List (Bor Name)) (start before after : List Change)
    → (found : List Change) × (before ≡ start ++ map (from (names_of here)) found) × AreListed (edges_in old) (edges_in new) es fs found
    → IsTaken es fs k.now (option_copied child) (option_copied other) es_left fs_left → deeper ≡ here ++ k ∷ []
    → AddsChanges (option_copied child) (option_copied other) (names_of deeper) before after
    → (found : List Change) × (after ≡ start ++ map (from (names_of here)) found) × AreListed (edges_in old) (edges_in new) es_left fs_left found
more_listed old new es fs k child other es_left fs_left here deeper start before after so_far taken is adds =
    let below : names_of deeper ≡ names_of here ++ k.now ∷ [] = ap names_of is ∙ map_append (λ (n : Bor Name). n.now) here (k ∷ []) in (
      so_far.0 ++ map (from (k.now ∷ [])) adds.changes,
      added_more (names_of here) k.now start before after so_far.0 adds.changes so_far.1
          (adds.added ∙ (λ i. before ++ map (from (below i)) adds.changes)),
      listed_more (edges_in old) (edges_in new) es fs k.now (option_copied child) (option_copied other) es_left fs_left so_far.0 adds.changes so_far.2 taken adds.are,
    )

pub over_listed : (olds news es fs : Edges) (found : List Change) → AreOver es fs → AreListed olds news es fs found → AreListed olds news [] [] found
over_listed olds news es fs found over listed =
    subst (λ (x : Edges). AreListed olds news x [] found) over.no_olds (subst (λ (x : Edges). AreListed olds news es x found) over.no_news listed)

-- from the root on
from_root : (changes : List Change) → map (from []) changes ≡ changes
from_root [] = refl
from_root (c ∷ changes) = ap (λ l. c ∷ l) (from_root changes)

pub all_added : (old new : Option Tree) (here : Path) (before after : List Change) → here ≡ [] → before ≡ [] → AddsChanges old new here before after
    → AreChanges (state old) (state new) after
all_added old new here before after root none adds =
    let same : after ≡ adds.changes = adds.added ∙ (λ i. none i ++ map (from (root i)) adds.changes) ∙ from_root adds.changes in
    subst (AreChanges (state old) (state new)) (sym same) adds.are
