-- The value of an archive: none where the root is missing, else a node in which marks may stand.
use Rattle.std.specs.Prelude.{◌≡◌, ◌≢◌, ℕ, ◌+◌, ◌≤◌, max, Bool, true, false, T, List, [], ◌∷◌, map, refl, Option, Some, None}
use Rattle.std.proofs.Common.{ap, arith}
use denote.Param.Weighed.{most}
use Rattle.std.specs.Coded.{Coded, coded_option}
use Rattle.hm_tree.specs.declared.archive.State.{State}
use Rattle.hm_tree.specs.declared.archive.State.TheVariants.{Missing, Present, Marked}
use Rattle.hm_tree.specs.Names.{Name}
use Rattle.hm_tree.specs.Nodes.{Shape, bare, mark, edge, leads, is_node, are_edges, Node, Tree, both, first, second, depth, edges_of, edges, is_marked, node, below, marked, with_edge, deepest}
use Rattle.hm_tree.specs.NodeLaws.{same_node, node_code, depth-node, tree_unmarked}

abbrev pub Archive : Type 0
Archive = Option (Node true)

-- what stands under a name
abbrev pub under : {m : Bool} → Name → Option (Node m) → Option (Node m)
under k None = None
under k (Some t) = below k t

-- with what stands in another archive put under a name; where either is missing, nothing changes
abbrev pub with_archive : Name → Archive → Archive → Archive
with_archive k c None = None
with_archive k None (Some t) = Some t
with_archive k (Some c) (Some t) = Some (with_edge k c t)

-- its names and what stands there; none where the root is missing or marked
abbrev pub edges_here : Archive → List (Name × Archive)
edges_here None = []
edges_here (Some t) = map (λ (e : Name × Node true). (e.0, Some e.1)) (edges t)

-- in the depth of an archive a mark counts as a node without edges
abbrev pub depth_here : Archive → ℕ
depth_here None = 0
depth_here (Some t) = depth t

-- ---- what a tree is in an archive

pub recorded_sound : (w : Bool) (s : Shape) → T (is_node false w s) → T (is_node true w s)
recorded_sound w bare h = tt
recorded_sound w mark h = absurd h
recorded_sound w (edge n c r) h =
    both (leads n r) _ (first _ _ h) (both _ _ (recorded_sound true c (first _ _ (second (leads n r) _ h)))
    (recorded_sound false r (second (is_node false true c) _ (second (leads n r) _ h))))

-- present at the tree's paths, without a mark
unfoldable pub recorded : Tree → Node true
recorded t = record { shape = t.shape; sound = recorded_sound true t.shape t.sound }

recorded_edges_of : (w : Bool) (s : Shape) (h : T (is_node false w s)) (g : T (is_node true w s))
    → edges_of {m = true} w s g ≡ map (λ (e : Name × Tree). (e.0, recorded e.1)) (edges_of {m = false} w s h)
unfolding edges_of recorded
recorded_edges_of w bare h g = refl
recorded_edges_of w mark h g = refl
recorded_edges_of w (edge n c r) h g = λ i. (
  n,
  same_node (record { shape = c; sound = first _ _ (second (leads n r) _ g) })
      (recorded (record { shape = c; sound = first _ _ (second (leads n r) _ h) })) refl i,
)
    ∷ recorded_edges_of false r (second (is_node false true c) _ (second (leads n r) _ h)) (second (is_node true true c) _ (second (leads n r) _ g)) i

-- what is recorded of a tree has the tree's edges
pub edges-recorded : (t : Tree) → edges (recorded t) ≡ map (λ (e : Name × Tree). (e.0, recorded e.1)) (edges t)
unfolding edges recorded
edges-recorded t = recorded_edges_of true t.shape t.sound (recorded_sound true t.shape t.sound)

pub recorded_unmarked : (t : Tree) → is_marked (recorded t) ≡ false
unfolding recorded is_marked
recorded_unmarked t = tree_unmarked t

pub depth-recorded : (t : Tree) → depth (recorded t) ≡ depth t
unfolding recorded depth
depth-recorded t = refl

-- two trees that are recorded alike are equal
pub recorded_one : (t u : Tree) → recorded t ≡ recorded u → t ≡ u
unfolding recorded
recorded_one t u e = same_node t u (λ i. (e i).shape)

-- ---- how the code keeps an archive: the state of its root, and edges to archives of which none is missing

-- the edges to what isn't missing
abbrev pub there : {X : Type 0} → List (Name × Option X) → List (Name × X)
there [] = []
there ((k, None) ∷ es) = there es
there ((k, Some x) ∷ es) = (k, x) ∷ there es

abbrev pub is_there : {X : Type 0} → List (Name × Option X) → Bool
is_there [] = true
is_there ((k, None) ∷ es) = false
is_there ((k, Some x) ∷ es) = is_there es

abbrev pub archive_of : State → List (Name × Archive) → Archive
archive_of Missing es = None
archive_of Marked es = Some marked
archive_of Present es = Some (node (there es))

-- names rise and are UTF-8, nothing in the list is missing, and only a present root has edges
pub record IsKeptArchive (root : State) (es : List (Name × Archive)) : Type 0 where
  pub edges : T (are_edges (there es))
  pub all_there : T (is_there es)
  pub bare : root ≢ Present → es ≡ []

most_there : (f : Name × Archive → ℕ) → ((e : Name × Archive) → f e ≤ depth_here e.1 + 1) → (es : List (Name × Archive)) → T (is_there es)
    → most f es ≤ deepest (there es)
most_there f h [] t = omega arith
most_there f h ((k, None) ∷ es) t = absurd t
most_there f h ((k, Some x) ∷ es) t = omega (arith, h (k, Some x), most_there f h es t)

-- each child of an archive is less deep
pub archive_falls : (f : Name × Archive → ℕ) → ((e : Name × Archive) → f e ≤ depth_here e.1 + 1) → (root : State) (es : List (Name × Archive))
    → IsKeptArchive root es → max (most f es) 0 ≤ depth_here (archive_of root es)
archive_falls f h Present es k = let e = depth-node (there es) k.edges in let l = most_there f h es k.all_there in omega arith
archive_falls f h Missing es k = let none : es ≡ [] = k.bare (λ e. let no : ⊥ = cc in no) in let l = ap (most f) none in omega arith
archive_falls f h Marked es k = let none : es ≡ [] = k.bare (λ e. let no : ⊥ = cc in no) in let l = ap (most f) none in omega arith

abbrev pub archive_code : Coded Archive
archive_code = coded_option (node_code true)
