-- A lens fits sets with the same trees.
use Rattle.std.proofs.Common.{Option, Some, None, IfSome}
use Rattle.hm_tree.specs.Nodes.{Tree}
use Rattle.hm_terms.specs.Lenses.{Lens, Setting}
use Rattle.hm_terms.specs.Fitting.{Fits}
use Rattle.hm_schema.specs.Standing.{Alike}

module _ (S : Setting) (l : Lens) (C A D B : Tree → Type 0) (c : Alike D C) (a : Alike B A) (f : Fits S l C A) where
  before : (b : Option Tree) → IfSome b D → IfSome b C
  before None h = tt
  before (Some t) h = c.into t h

  pub fits_over : Fits S l D B
  fits_over = record {
    shows = λ t h. let o = f.shows t (c.into t h) in record { tree = o.tree; is = o.is; inside = a.from o.tree o.inside; only = o.only };
    puts = λ v b h g. let o = f.puts v b (a.into v h) (before b g) in record { tree = o.tree; is = o.is; inside = c.from o.tree o.inside; only = o.only };
    get_put = λ t v h s. f.get_put t v (c.into t h) s;
    put_get = λ v b t h g p. f.put_get v b t (a.into v h) (before b g) p;
    keeps = λ v b t h g p. f.keeps v b t (a.into v h) (c.into b g) p;
  }
