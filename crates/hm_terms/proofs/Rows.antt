-- The terms of an Each, as they are kept and as a list.
use Rattle.std.proofs.Common.{◌≡◌, Vec, refl, ap, ◌∙◌}
use Rattle.std.specs.declared.alloc.Global.{Global}
use Rattle.hm_tree.specs.Names.{Name}
use Rattle.hm_terms.specs.declared.term.Term.{Term, Each, Row_of-Term-Each-0-2, end_of-Term-Each-0-2, more_of-Term-Each-0-2, items-the_row-Term-Each-0-2, items_hidden-the_row-Term-Each-0-2-0}
use Rattle.hm_terms.specs.declared.term.Term.TheBlock.{hidden-the_row-Term-Each-0-2-0}
use Rattle.hm_terms.specs.Lenses.{among, also}
use Rattle.hm_terms.specs.Programs.{lens_of, row_of, lenses_of}

row_items : {n : _} (k : Row_of-Term-Each-0-2 n) → row_of k ≡ lenses_of (items-the_row-Term-Each-0-2 _ k)
row_items end_of-Term-Each-0-2 = refl
row_items (more_of-Term-Each-0-2 n t rest) = ap (also n (lens_of t)) (row_items rest)

-- an Each is the lens of its terms
pub each_items : (terms : Vec (Name × Term) Global) → lens_of (Each terms) ≡ among (lenses_of terms.items)
each_items terms = ap among (row_items (hidden-the_row-Term-Each-0-2-0 terms) ∙ ap lenses_of (items_hidden-the_row-Term-Each-0-2-0 terms))
