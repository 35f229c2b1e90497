-- Sequences, stage by stage.
use Rattle.std.specs.Prelude.{◌≡◌, List, [], ◌∷◌, ◌++◌, map, Option}
use Rattle.std.specs.Borrow.{Bor}
use Rattle.hm_tree.specs.Nodes.{Tree}
use Rattle.hm_terms.specs.declared.term.Term.{Term}
use Rattle.hm_terms.specs.Lenses.{Lens, sequence, Setting}
use Rattle.hm_terms.specs.Programs.{lens_of}
use Rattle.hm_terms.specs.Put.{Puts}

abbrev pub lenses : List (Bor Term) → List Lens
lenses ts = map (λ (t : Bor Term). lens_of t.now) ts

-- a lens is these stages, one after the other
pub data AreStages : Lens → List Lens → Type 0 where
  one_stage : {l : Lens} → AreStages l (l ∷ [])
  both_stages : {l k : Lens} {ls ks ms : List Lens} → AreStages l ls → AreStages k ks → ms ≡ ls ++ ks → AreStages (sequence l k) ms

-- the stages of a lens behind others
pub record AddsStages (l : Lens) (old new : List (Bor Term)) : Type 0 where
  pub added : List (Bor Term)
  pub is : new ≡ old ++ added
  pub stages : AreStages l (lenses added)

-- a lens puts something with a tree from before
pub record CanPut (S : Setting) (l : Lens) (b : Option Tree) : Type 0 where
  pub view : Tree
  pub tree : Tree
  pub is : Puts S l view b tree

-- a view is put by the last stage with the tree that is beside it, and what comes of it by the one before, and so on
pub data PutsBack (S : Setting) : List (Bor Term × Option Tree) → Tree → Tree → Type 0 where
  put_by_none : {c : Tree} → PutsBack S [] c c
  put_by_more : {t : Bor Term} {b : Option Tree} {ps : List (Bor Term × Option Tree)} {a m c : Tree} → PutsBack S ps a m → Puts S (lens_of t.now) m b c
      → PutsBack S ((t, b) ∷ ps) a c

-- stages that put what a lens puts with a tree from before
abbrev pub PutThrough : Setting → Lens → Option Tree → List (Bor Term × Option Tree) → Type 0
PutThrough S l b ps = (a c : Tree) → Puts S l a b c → PutsBack S ps a c
