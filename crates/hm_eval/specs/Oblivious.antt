-- Lenses that put each view alike, whatever tree was before: the oblivious lenses of TOPLAS 2007.
use Rattle.std.specs.Prelude.{Bool, true, false, ◌&&◌, Option, None}
use Rattle.hm_tree.specs.Nodes.{Tree}
use Rattle.hm_terms.specs.Lenses.{Setting, Lens, Lenses, identity, sequence, constant, hoist, plunge, fork, each, among, none, also, items, copy, merge, on_concrete, on_view, text, call}
use Rattle.hm_terms.specs.Put.{Puts}

-- what a lens puts of a view with a tree from before, it puts with none
abbrev pub IsOblivious : Setting → Lens → Type 0
IsOblivious S l = (a c : Tree) (b : Option Tree) → Puts S l a b c → Puts S l a None c

-- whether a lens is such a one by its form; a call is taken for none, whatever is called
abbrev mutual
  pub oblivious : Lens → Bool
  oblivious identity = true
  oblivious (sequence l k) = oblivious l && oblivious k
  oblivious (constant t d) = false
  oblivious (hoist n) = true
  oblivious (plunge n) = true
  oblivious (fork P Q l k) = oblivious l && oblivious k
  oblivious (each l) = oblivious l
  oblivious (among ls) = oblivious_all ls
  oblivious (items l) = oblivious l
  oblivious (copy m n) = true
  oblivious (merge m n) = false
  oblivious (on_concrete n l k) = false
  oblivious (on_view n m l k) = oblivious l && oblivious k
  oblivious (text x) = false
  oblivious (call n) = false

  pub oblivious_all : Lenses → Bool
  oblivious_all none = true
  oblivious_all (also n l ls) = oblivious l && oblivious_all ls
