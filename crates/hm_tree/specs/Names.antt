-- A name is a text, seen as its UTF-8 bytes. Names are in the order of these bytes. The type has all lists of numbers; that the
-- names of a tree are UTF-8 is said of trees (`leads` in Nodes).
use Rattle.std.specs.Prelude.{ℕ, List}
use Rattle.std.specs.Ordering.{nat_cmp}
use Rattle.std.specs.Cmp.Lexicographic.{slice_cmp}
use Rattle.std.specs.declared.cmp.Ordering.{Ordering}

abbrev pub Name : Type 0
Name = List ℕ

unfoldable pub name_cmp : Name → Name → Ordering
name_cmp = slice_cmp nat_cmp
