-- The lenses that have a text: those that some bytes are the text of.
use Rattle.std.specs.Prelude.{◌≢◌, ◌≤◌, All, IsUtf8}
use Rattle.hm_tree.specs.Nodes.{depth}
use Rattle.hm_tree.specs.Sets.{ascending}
use Rattle.hm_schema.specs.Values.{Names}
use Rattle.hm_schema_lines.specs.declared.token.Token.TheVariants.{Word}
use Rattle.hm_schema_lines.specs.Tokens.{IsToken}
use Rattle.hm_schema_lines.specs.BadLines.{HasDouble}
use Rattle.hm_terms.specs.Lenses.{Lens, Lenses, identity, sequence, constant, hoist, plunge, fork, each, among, items, copy, merge, on_concrete, on_view, text, call, none, also}
use Rattle.hm_focal_terms.specs.TermText.{names_of}

abbrev pub AreTexts : Names → Type 0
AreTexts P = All IsUtf8 (ascending P)

-- names are UTF-8, those of a text lens and of a call are words, trees are no deeper than a text may say, and a lens for each name has one or
-- more names, none of them twice
abbrev mutual
  pub IsWritable : Lens → Type 0
  IsWritable identity = Unit {0}
  IsWritable (sequence l k) = IsWritable l × IsWritable k
  IsWritable (constant t d) = (depth t ≤ 1000) × (depth d ≤ 1000)
  IsWritable (hoist n) = IsUtf8 n
  IsWritable (plunge n) = IsUtf8 n
  IsWritable (fork P Q l k) = AreTexts P × AreTexts Q × IsWritable l × IsWritable k
  IsWritable (each l) = IsWritable l
  IsWritable (among ls) = (ls ≢ none) × (¬ (HasDouble (names_of ls))) × AreWritable ls
  IsWritable (items l) = IsWritable l
  IsWritable (copy m n) = IsUtf8 m × IsUtf8 n
  IsWritable (merge m n) = IsUtf8 m × IsUtf8 n
  IsWritable (on_concrete n l k) = IsUtf8 n × IsWritable l × IsWritable k
  IsWritable (on_view n m l k) = IsUtf8 n × IsUtf8 m × IsWritable l × IsWritable k
  IsWritable (text n) = IsToken (Word n)
  IsWritable (call n) = IsToken (Word n)

  pub AreWritable : Lenses → Type 0
  AreWritable none = Unit {0}
  AreWritable (also n l ls) = IsUtf8 n × IsWritable l × AreWritable ls
