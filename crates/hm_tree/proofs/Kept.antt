-- How an archive is kept: the state of its root, and edges to archives of which none is missing.
use Rattle.std.proofs.Common.{◌≡◌, ℕ, zero, suc, ◌+◌, ◌<◌, ◌≤◌, true, false, cond, ◌&&◌, T, List, [], ◌∷◌, ◌++◌, map, length, take, get_or, Option, Some, None, IsTrue, is_some, slice_get, add-one, refl, sym, ap, subst, ◌∙◌, arith}
use Rattle.std.specs.Ordering.{is_lt, eq_by_cmp}
use Rattle.std.specs.FinMap.{is_sorted, find, put}
use Rattle.std.specs.List.{insert}
use Rattle.std.specs.Str.{IsUtf8}
use mathlib.Core.Bool.{true≢false}
use Rattle.std.specs.declared.cmp.Ordering.{Ordering}
use Rattle.std.specs.declared.cmp.Ordering.TheVariants.{Less, Equal, Greater}
use Rattle.std.proofs.lemmas.List.{take_all, map-append, length-map}
use Rattle.std.proofs.lemmas.Option.{slice_get_read}
use Rattle.hm_tree.specs.declared.archive.State.{State}
use Rattle.hm_tree.specs.declared.archive.State.TheVariants.{Missing, Present, Marked}
use Rattle.hm_tree.specs.Names.{Name, name_cmp}
use Rattle.hm_tree.specs.Nodes.{Node, Tree, edges, below_all, edges_rise, marked}
use Rattle.hm_tree.specs.NodeLaws.{edges-node, edges_are, node-edges, marked_is, is_marked-node, edges-marked}
use Rattle.hm_tree.specs.Archives.{Archive, under, with_archive, edges_here, recorded, edges-recorded, recorded_unmarked, there, is_there, archive_of, IsKeptArchive}
use Rattle.hm_tree.specs.States.{state}
use Rattle.hm_tree.specs.Edges.{IsPlaceOf, IsGapFor}
use Rattle.hm_tree.proofs.Sorted.{put_rank, edges_put}

module _ {X : Type 0} where
  below_there : (x : Name) (es : List (Name × Option X)) → T (is_there es) → below_all x (there es) ≡ below_all x es
  below_there x [] h = refl
  below_there x ((k, None) ∷ es) h = absurd h
  below_there x ((k, Some y) ∷ es) h = ap (λ b. is_lt (name_cmp x k) && b) (below_there x es h)

  sorted_there : (es : List (Name × Option X)) → T (is_there es) → is_sorted name_cmp (there es) ≡ is_sorted name_cmp es
  sorted_there [] h = refl
  sorted_there ((k, None) ∷ es) h = absurd h
  sorted_there ((k, Some y) ∷ es) h = λ i. below_there k es h i && sorted_there es h i

  -- the list itself, from what is there in it
  some_back : (es : List (Name × Option X)) → T (is_there es) → map (λ (e : Name × X). (e.0, Some e.1)) (there es) ≡ es
  some_back [] h = refl
  some_back ((k, None) ∷ es) h = absurd h
  some_back ((k, Some x) ∷ es) h = ap (λ l. (k, Some x) ∷ l) (some_back es h)

module _ (root : State) (es : List (Name × Archive)) (kept : IsKeptArchive root es) where
  pub root_sorted : T (is_sorted name_cmp es)
  root_sorted = subst T (sorted_there es kept.all_there) (edges_rise _ kept.edges)

-- the edges of an archive are those that it keeps
pub edges_kept : (root : State) (es : List (Name × Archive)) (o : Archive) → IsKeptArchive root es → archive_of root es ≡ o → edges_here o ≡ es
edges_kept root es o kept is = ap edges_here (sym is) ∙ by root kept
  where
    by : (root : State) → IsKeptArchive root es → edges_here (archive_of root es) ≡ es
    by Present k = ap (map (λ (e : Name × Node true). (e.0, Some e.1))) (edges-node (there es) k.edges) ∙ some_back es k.all_there
    by Missing k = sym (k.bare (λ e. let no : ⊥ = cc in no))
    by Marked k = ap (map (λ (e : Name × Node true). (e.0, Some e.1))) (edges-marked marked marked_is) ∙ sym (k.bare (λ e. let no : ⊥ = cc in no))

abbrev flat : {X : Type 0} → Option (Option X) → Option X
flat None = None
flat (Some x) = x

find_there : {X : Type 0} (k : Name) (es : List (Name × Option X)) → T (is_there es) → find name_cmp k (there es) ≡ flat (find name_cmp k es)
find_there k [] h = refl
find_there k ((x, None) ∷ es) h = absurd h
find_there k ((x, Some y) ∷ es) h =
    ap (cond (eq_by_cmp name_cmp k x) (Some y)) (find_there k es h)
    ∙ elim (eq_by_cmp name_cmp k x) as (λ b. cond b (Some y) (flat (find name_cmp k es)) ≡ flat (cond b (Some (Some y)) (find name_cmp k es)))
    [ true ↦ refl | false ↦ refl ]

some_there : {X : Type 0} (es : List (Name × Option X)) → T (is_there es) → (i : ℕ) (d : Name × Option X) → i < length es
    → IsTrue (is_some (get_or es i d).1)
some_there [] h i d lt = absurd (omega arith)
some_there ((x, None) ∷ es) h i d lt = absurd h
some_there ((x, Some y) ∷ es) h zero d lt = refl
some_there ((x, Some y) ∷ es) h (suc i) d lt = some_there es h i d (omega arith)

-- what stands under a name is found among the edges that are kept
pub under_kept : (root : State) (es : List (Name × Archive)) (o : Archive) → IsKeptArchive root es → archive_of root es ≡ o → (k : Name)
    → under k o ≡ flat (find name_cmp k es)
under_kept root es o kept is k = ap (under k) (sym is) ∙ by root kept
  where
    nothing : es ≡ [] → None ≡ flat (find name_cmp k es)
    nothing e = sym (ap (λ (l : List (Name × Archive)). flat (find name_cmp k l)) e)

    by : (root : State) → IsKeptArchive root es → under k (archive_of root es) ≡ flat (find name_cmp k es)
    by Present h = ap (find name_cmp k) (edges-node (there es) h.edges) ∙ find_there k es h.all_there
    by Missing h = nothing (h.bare (λ e. let no : ⊥ = cc in no))
    by Marked h = ap (find name_cmp k) (edges-marked marked marked_is) ∙ nothing (h.bare (λ e. let no : ⊥ = cc in no))

-- a name under which nothing stands has no place
pub no_place : (root : State) (es : List (Name × Archive)) (o : Archive) → IsKeptArchive root es → archive_of root es ≡ o → (k : Name)
    → under k o ≡ None → (i : ℕ) → IsPlaceOf k es i → ⊥
no_place root es o kept is k none i at =
    let x = get_or es i (k, None) in
    let found : (get_or es i (k, None)).1 ≡ None = sym (ap flat (at.found (k, None))) ∙ sym (under_kept root es o kept is k) ∙ none in
    let some = some_there es kept.all_there i (k, None) at.in_range in
    true≢false (sym some ∙ ap is_some found)

-- what the edge at a name's place leads to
pub under_found : (root : State) (es : List (Name × Archive)) (o : Archive) → IsKeptArchive root es → archive_of root es ≡ o
    → (k : Name) (i : ℕ) → IsPlaceOf k es i → (e : Name × Archive) → e ≡ get_or es i e → (e.1 ≡ under k o) × IsTrue (is_some e.1)
under_found root es o kept is k i at e read =
    let there : find name_cmp k es ≡ Some e.1 = at.found e ∙ ap (λ (x : Name × Archive). Some x.1) (sym read) in (
      sym (under_kept root es o kept is k ∙ ap flat there),
      subst (λ (x : Name × Archive). IsTrue (is_some x.1)) (sym read)
          (some_there es kept.all_there i e at.in_range),
    )

-- nothing stands under a name that has no place
pub under_gone : (root : State) (es : List (Name × Archive)) (o : Archive) → IsKeptArchive root es → archive_of root es ≡ o → (k : Name) (i : ℕ)
    → IsGapFor k es i → under k o ≡ None
under_gone root es o kept is k i gap = under_kept root es o kept is k ∙ ap flat gap.absent

-- the state that an archive keeps is that of its root
pub state_kept : (root : State) (es : List (Name × Archive)) (o : Archive) → archive_of root es ≡ o → root ≡ state o []
state_kept root es o is = sym (ap (λ (a : Archive). state a []) (sym is) ∙ by root)
  where
    by : (root : State) → state (archive_of root es) [] ≡ root
    by Present = rw (is_marked-node (there es)) refl
    by Missing = refl
    by Marked = rw marked_is refl

-- ---- putting in an edge, where none is to a missing archive

there_put : (k : Name) (c : Node true) (es : List (Name × Archive)) → T (is_there es)
    → there (put name_cmp k (Some c) es) ≡ put name_cmp k c (there es)
there_put k c [] h = refl
there_put k c ((x, None) ∷ es) h = absurd h
there_put k c ((x, Some y) ∷ es) h = go (name_cmp k x) refl (there_put k c es h)
  where
    go : (r : Ordering) → name_cmp k x ≡ r → there (put name_cmp k (Some c) es) ≡ put name_cmp k c (there es)
        → there (put name_cmp k (Some c) ((x, Some y) ∷ es)) ≡ put name_cmp k c (there ((x, Some y) ∷ es))
    go Less p rest = rw p refl
    go Equal p rest = rw p refl
    go Greater p rest = rw p (ap (λ l. (x, y) ∷ l) rest)

is_there_put : (k : Name) (c : Node true) (es : List (Name × Archive)) → T (is_there es) → T (is_there (put name_cmp k (Some c) es))
is_there_put k c [] h = tt
is_there_put k c ((x, None) ∷ es) h = absurd h
is_there_put k c ((x, Some y) ∷ es) h = go (name_cmp k x) refl (is_there_put k c es h)
  where
    go : (r : Ordering) → name_cmp k x ≡ r → T (is_there (put name_cmp k (Some c) es)) → T (is_there (put name_cmp k (Some c) ((x, Some y) ∷ es)))
    go Less p rest = rw p h
    go Equal p rest = rw p h
    go Greater p rest = rw p rest

module _ (root : State) (es : List (Name × Archive)) (o : Archive) (kept : IsKeptArchive root es) (is : archive_of root es ≡ o)
    (present : state o [] ≡ Present) (k : Name) (text : IsUtf8 k) (d : Archive) (some : IsTrue (is_some d)) (i : ℕ) (gap : IsGapFor k es i) where
  root_is : root ≡ Present
  root_is = state_kept root es o is ∙ present

  put_at : insert es i (k, d) ≡ put name_cmp k d es
  put_at = rw gap.place (sym (put_rank k d es gap.absent))

  pub insert_kept : (new : List (Name × Archive)) → new ≡ insert es i (k, d) → IsKeptArchive root new
  insert_kept new e = rw (e, put_at) (by d some)
    where
      by : (d : Archive) → IsTrue (is_some d) → IsKeptArchive root (put name_cmp k d es)
      by None s = let f : ⊥ = true≢false (sym s) in absurd f
      by (Some c) s = record {
        edges = rw (there_put k c es kept.all_there) (edges_put k c (there es) text kept.edges);
        all_there = is_there_put k c es kept.all_there;
        bare = λ no. absurd (no root_is);
      }

  pub insert_view : (new : List (Name × Archive)) → new ≡ insert es i (k, d) → archive_of root new ≡ with_archive k d o
  insert_view new e = ap (archive_of root) (e ∙ put_at) ∙ by d some ∙ ap (with_archive k d) is
    where
      by : (d : Archive) → IsTrue (is_some d) → archive_of root (put name_cmp k d es) ≡ with_archive k d (archive_of root es)
      by None s = let f : ⊥ = true≢false (sym s) in absurd f
      by (Some c) s =
          let P : State → Type 0 = λ r. archive_of r (put name_cmp k (Some c) es) ≡ with_archive k (Some c) (archive_of r es) in
          subst P (sym root_is) (rw (there_put k c es kept.all_there, edges-node (there es) kept.edges) refl)

-- ---- what a tree is in an archive

abbrev pub record_edge : Name × Tree → Name × Archive
record_edge e = (e.0, Some (recorded e.1))

there_recorded : (es : List (Name × Tree)) → there (map record_edge es) ≡ map (λ e. (e.0, recorded e.1)) es
there_recorded [] = refl
there_recorded (e ∷ es) = ap (λ l. (e.0, recorded e.1) ∷ l) (there_recorded es)

all_recorded : (es : List (Name × Tree)) → T (is_there (map record_edge es))
all_recorded [] = tt
all_recorded (e ∷ es) = all_recorded es

-- the edges of a tree, recorded one by one, are those of what is recorded of it
record_edges : (t : Tree) → there (map record_edge (edges t)) ≡ edges (recorded t)
record_edges t = there_recorded (edges t) ∙ sym (edges-recorded t)

pub recorded_kept : (t : Tree) (es : List (Name × Archive)) → es ≡ map record_edge (edges t) → IsKeptArchive Present es
recorded_kept t es e = record {
  edges = rw (e, record_edges t) (edges_are (recorded t));
  all_there = rw e (all_recorded (edges t));
  bare = λ no. absurd (no refl);
}

pub recorded_view : (t : Tree) (es : List (Name × Archive)) → es ≡ map record_edge (edges t) → archive_of Present es ≡ Some (recorded t)
recorded_view t es e = rw (e, record_edges t) (ap Some (node-edges (recorded t) (recorded_unmarked t)))

record_twice : (es : List (Name × Tree)) → map (λ (e : Name × Node true). (e.0, Some e.1)) (map (λ e. (e.0, recorded e.1)) es) ≡ map record_edge es
record_twice [] = refl
record_twice (e ∷ es) = ap (λ l. record_edge e ∷ l) (record_twice es)

-- the edges of what is recorded of a tree, as an archive's
pub edges_here-recorded : (t : Tree) → edges_here (Some (recorded t)) ≡ map record_edge (edges t)
edges_here-recorded t = ap (map (λ (e : Name × Node true). (e.0, Some e.1))) (edges-recorded t) ∙ record_twice (edges t)

-- one element more, read by slice_get
pub take_more : {X : Type 0} (xs : List X) (n : ℕ) (x : X) → slice_get xs n ≡ Some x → take (suc n) xs ≡ take n xs ++ x ∷ []
take_more [] n x e = let f : ⊥ = cc in absurd f
take_more (y ∷ xs) zero x e = let same : y ≡ x = cc in ap (λ z. z ∷ []) same
take_more (y ∷ xs) (suc n) x e = ap (λ l. y ∷ l) (take_more xs n x e)

pub more_recorded : (t : Tree) (n : ℕ) (k : Name) (c : Tree) → slice_get (edges t) n ≡ Some (k, c)
    → ◌++◌ {A = Name × Archive} (map record_edge (take n (edges t))) ((k, Some (recorded c)) ∷ []) ≡ map record_edge (take (n + 1) (edges t))
more_recorded t n k c e = rw (add-one, take_more (edges t) n (k, c) e) (sym (map-append record_edge (take n (edges t)) ((k, c) ∷ [])))

-- an archive is what a tree is in it where its root is present and its edges are the tree's
module _ (root : State) (es : List (Name × Archive)) (o : Archive) (kept : IsKeptArchive root es) (is : archive_of root es ≡ o) (t : Tree) where
  pub recorded_root : o ≡ Some (recorded t) → root ≡ Present
  recorded_root e = state_kept root es o is ∙ ap (λ (a : Archive). state a []) e ∙ rw (recorded_unmarked t) refl

  pub recorded_edges : o ≡ Some (recorded t) → es ≡ map record_edge (edges t)
  recorded_edges e = sym (edges_kept root es o kept is) ∙ ap edges_here e ∙ edges_here-recorded t

  pub is_recorded : root ≡ Present → es ≡ map record_edge (edges t) → o ≡ Some (recorded t)
  is_recorded r e = sym is ∙ ap (λ (s : State). archive_of s es) r ∙ recorded_view t es e

slice_get_map : (es : List (Name × Tree)) (i : ℕ) (e : Name × Tree) → slice_get es i ≡ Some e
    → slice_get (map record_edge es) i ≡ Some (record_edge e)
slice_get_map [] i e at = let f : ⊥ = cc in absurd f
slice_get_map (x ∷ es) zero e at = let same : x ≡ e = cc in ap (λ z. Some (record_edge z)) same
slice_get_map (x ∷ es) (suc i) e at = slice_get_map es i e at

-- an edge of an archive beside the edge of a tree at the same place
module _ (xs : List (Name × Archive)) (t : Tree) (i : ℕ) (x : Name × Archive) (k : Name) (c : Tree) (lt : i < length xs)
    (read : x ≡ get_or xs i x) (at : slice_get (edges t) i ≡ Some (k, c)) where
  pub beside : xs ≡ map record_edge (edges t) → (x.0 ≡ k) × (x.1 ≡ Some (recorded c))
  beside e =
      let there : slice_get xs i ≡ Some x = slice_get_read xs (length xs) i x refl lt read in
      let same : x ≡ record_edge (k, c) = some_one (sym there ∙ ap (λ l. slice_get l i) e ∙ slice_get_map (edges t) i (k, c) at) in
      (ap (λ (z : Name × Archive). z.0) same, ap (λ (z : Name × Archive). z.1) same)
    where
      some_one : Some x ≡ Some (record_edge (k, c)) → x ≡ record_edge (k, c)
      some_one e = cc

  pub both_longer : x.0 ≡ k → x.1 ≡ Some (recorded c) → take i xs ≡ take i (map record_edge (edges t))
      → take (i + 1) xs ≡ take (i + 1) (map record_edge (edges t))
  both_longer names trees e =
      let there : slice_get xs i ≡ Some x = slice_get_read xs (length xs) i x refl lt read in
      rw (add-one, take_more xs i x there, take_more (map record_edge (edges t)) i (record_edge (k, c)) (slice_get_map (edges t) i (k, c) at))
      (λ j. e j ++ (names j, trees j) ∷ [])

pub all_taken : (xs : List (Name × Archive)) (t : Tree) (i : ℕ) → length xs ≤ i → length xs ≡ length (edges t)
    → take i xs ≡ take i (map record_edge (edges t)) → xs ≡ map record_edge (edges t)
all_taken xs t i a b e = sym (take_all i xs a) ∙ e ∙ take_all i (map record_edge (edges t)) (let l = length-map (edges t) record_edge in omega arith)

pub ruleset seen = (edges_kept, state_kept, slice_get_read)
