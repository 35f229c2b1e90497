-- Forms of files of components: vCards (RFC 6350) and calendars (RFC 5545). A form says which layouts are those of its files;
-- what files are read as, what is written of a tree and what stays follows for each form alike.
use Rattle.std.specs.Prelude.{ℕ, Bool, false, true, [], ◌∷◌, filter, codes, map, None}
use Rattle.hm_schema.specs.Values.{OptionsValue}
use Rattle.hm_book_cards.specs.Cards.{Shown}
use Rattle.hm_format.specs.Options.{Rules, values_of, is_among}
use Rattle.hm_lines_files.specs.Components.{Bytes, Component, Layout}
use Rattle.hm_lines_files.specs.Rewriting.{Template}

abbrev pub is_full : Bytes → Bool
is_full [] = false
is_full (b ∷ rest) = true

pub record Form : Type 1 where
  pub tag : ℕ
  -- the properties that may be shown, each with whether a component may show many texts of it
  pub properties : Shown
  -- what a new component is
  pub template : Template
  -- what components have to be, under options
  pub fits : OptionsValue → Component → Type 0
  -- which layouts are those of files
  pub has : OptionsValue → Layout → Type 0

-- ---- options

-- `show` has any number of values, each of which is a property that may be shown
abbrev pub show_rules : Rules
show_rules = (codes "show", record { most = None; required = false; declared = true }) ∷ []

-- the options as they are judged: where elsewhere a value has to be the name of a node that is declared, here it has to be
-- one of the properties
abbrev pub judged : Shown → OptionsValue → OptionsValue
judged properties o = record { pairs = o.pairs; type_names = map (λ p. p.0) properties; types = [] }

-- the properties that options show
abbrev pub shown_by : Shown → OptionsValue → Shown
shown_by properties o = filter (λ p. is_among (values_of o.pairs (codes "show")) p.0) properties

abbrev pub shown_of : Form → OptionsValue → Shown
shown_of f o = shown_by f.properties o
