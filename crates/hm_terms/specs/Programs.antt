-- Terms and programs, as lenses.
use Rattle.std.specs.Prelude.{List, [], ◌∷◌, map}
use Rattle.hm_tree.specs.Names.{Name}
use Rattle.hm_schema.specs.Values.{OptionsValue, options_value}
use Rattle.hm_text_lens.specs.Meanings.{TextMeaning}
use Rattle.hm_terms.specs.declared.term.Term.{Term, Id, Seq', Const, Hoist, Plunge, Fork', Map', Each', List', Copy, Merge, ByConcrete', ByView', Text, Call, Row_of-Term-Each-0-2, end_of-Term-Each-0-2, more_of-Term-Each-0-2}
use Rattle.hm_terms.specs.declared.term.Definition.{Definition}
use Rattle.hm_terms.specs.declared.term.Program.{Program}
use Rattle.hm_terms.specs.Lenses.{Lens, Lenses, identity, sequence, constant, hoist, plunge, fork, each, among, none, also, items, copy, merge, on_concrete, on_view, text, call, DefinitionValue, Setting}

abbrev mutual
  pub lens_of : Term → Lens
  lens_of Id = identity
  lens_of (Seq' p l q k) = sequence (lens_of l) (lens_of k)
  lens_of (Const t d) = constant t d
  lens_of (Hoist n) = hoist n
  lens_of (Plunge n) = plunge n
  lens_of (Fork' P Q p l q k) = fork P Q (lens_of l) (lens_of k)
  lens_of (Map' p l) = each (lens_of l)
  lens_of (Each' shape row) = among (row_of row)
  lens_of (List' p l) = items (lens_of l)
  lens_of (Copy m n) = copy m n
  lens_of (Merge m n) = merge m n
  lens_of (ByConcrete' n p l q k) = on_concrete n (lens_of l) (lens_of k)
  lens_of (ByView' n m p l q k) = on_view n m (lens_of l) (lens_of k)
  lens_of (Text x) = text x
  lens_of (Call n) = call n

  pub row_of : {m : _} → Row_of-Term-Each-0-2 m → Lenses
  row_of end_of-Term-Each-0-2 = none
  row_of (more_of-Term-Each-0-2 n t rest) = also n (lens_of t) (row_of rest)

-- the lenses of named terms
abbrev pub lenses_of : List (Name × Term) → Lenses
lenses_of [] = none
lenses_of (e ∷ es) = also e.0 (lens_of e.1) (lenses_of es)

-- ---- programs

abbrev pub definition_value : Definition → Name × DefinitionValue
definition_value d = (d.name, record { source = d.source; view = d.view; body = lens_of d.body })

pub record ProgramValue : Type 0 where
  pub format : Name
  pub options : OptionsValue
  pub definitions : List (Name × DefinitionValue)
  pub main : Lens

abbrev pub program_value : Program → ProgramValue
program_value p = record {
  format = p.format;
  options = options_value p.options;
  definitions = map definition_value p.definitions.items;
  main = lens_of p.main;
}

-- what the lenses of a program are read in
abbrev pub setting_of : List TextMeaning → ProgramValue → Setting
setting_of texts p = record { texts = texts; definitions = p.definitions }
