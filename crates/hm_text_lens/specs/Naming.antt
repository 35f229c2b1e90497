-- Text lenses by their names.
use Rattle.std.specs.Prelude.{Bool, List, Option, find}
use Rattle.std.specs.Ordering.{eq_by_cmp}
use Rattle.hm_tree.specs.Names.{Name, name_cmp}
use Rattle.hm_text_lens.specs.Meanings.{TextMeaning}

abbrev pub is_named : Name → TextMeaning → Bool
is_named k m = eq_by_cmp name_cmp k m.name

-- of two text lenses of one name the first counts
abbrev pub first_named : Name → List TextMeaning → Option TextMeaning
first_named k = find (is_named k)
