-- Why a part of the text wasn't read.
use Rattle.std.specs.Prelude.{◌≡◌, ℕ, ◌+◌, Bool, true, T, List, ◌∷◌, ◌++◌, drop, IsUtf8}
use Rattle.hm_tree_spelling.specs.Spelling.{spelled}
use Rattle.hm_tree.specs.Names.{Name}
use Rattle.hm_tree.specs.Nodes.{Node}
use Rattle.hm_tree_text.specs.declared.fault.TextFault.{TextFault}
use Rattle.hm_tree_text.specs.declared.fault.TextFault.TheVariants.{BadTree, TooDeep, Memory}
use Rattle.hm_tree_text.specs.Reading.{BeginsWith, IsFaultAt, is_behind}
use Rattle.hm_tree_text.specs.Opening.{Opens}

-- beginnings that leave too many braces open: behind a brace, behind a name, and of an edge behind others
abbrev pub OpensInside : Bool → ℕ → List ℕ → Type 0
OpensInside m room bytes = Opens m (room + 2) (123 ∷ bytes)

pub record OpensBelow (m : Bool) (room : ℕ) (bytes : List ℕ) : Type 0 where
  pub inner : List ℕ
  pub opens : Opens m (room + 1) inner
  pub is : bytes ≡ 58 ∷ inner

pub record OpensEdge (m : Bool) (room : ℕ) (es : List (Name × Node true)) (bytes : List ℕ) : Type 0 where
  pub name : Name
  pub inner : List ℕ
  pub is_text : IsUtf8 name
  pub after : T (is_behind name es)
  pub opens : Opens m (room + 1) inner
  pub is : bytes ≡ spelled name ++ 58 ∷ inner

-- a form isn't there: too many braces are open, or, where they aren't, up to a place one of its texts goes on so
abbrev pub Fails : (List ℕ → Type 0) → (List ℕ → Type 0) → List ℕ → ℕ → TextFault → Type 0
Fails Form Deep bytes start (BadTree at) = IsFaultAt Form bytes start at × ¬ (BeginsWith Deep (drop start bytes))
Fails Form Deep bytes start TooDeep = BeginsWith Deep (drop start bytes)
Fails Form Deep bytes start Memory = Unit {0}

-- the same of a form without braces
abbrev pub FailsAlone : (List ℕ → Type 0) → List ℕ → ℕ → TextFault → Type 0
FailsAlone Form bytes start (BadTree at) = IsFaultAt Form bytes start at
FailsAlone Form bytes start TooDeep = ⊥
FailsAlone Form bytes start Memory = Unit {0}
