-- The names under which a lens puts trees are texts.
use Rattle.std.specs.Str.{IsUtf8}
use Rattle.hm_terms.specs.Lenses.{Lens, Lenses, identity, sequence, constant, hoist, plunge, fork, each, among, items, copy, merge, on_concrete, on_view, text, call, none, also}

abbrev mutual
  pub HasTexts : Lens → Type 0
  HasTexts identity = Unit {0}
  HasTexts (sequence l k) = HasTexts l × HasTexts k
  HasTexts (constant t d) = Unit {0}
  HasTexts (hoist n) = IsUtf8 n
  HasTexts (plunge n) = IsUtf8 n
  HasTexts (fork P Q l k) = HasTexts l × HasTexts k
  HasTexts (each l) = HasTexts l
  HasTexts (among ls) = HaveTexts ls
  HasTexts (items l) = HasTexts l
  HasTexts (copy m n) = IsUtf8 n
  HasTexts (merge m n) = IsUtf8 n
  HasTexts (text x) = Unit {0}
  HasTexts (on_concrete m l k) = HasTexts l × HasTexts k
  HasTexts (on_view m n l k) = HasTexts l × HasTexts k
  HasTexts (call n) = Unit {0}

  pub HaveTexts : Lenses → Type 0
  HaveTexts none = Unit {0}
  HaveTexts (also n l ls) = HasTexts l × HaveTexts ls
