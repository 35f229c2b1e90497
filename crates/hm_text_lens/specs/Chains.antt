-- One text lens behind another (TOPLAS 2007: the composition of lenses).
use Rattle.std.specs.Prelude.{◌∷◌, ◌++◌, length}
use Rattle.std.specs.Option.{option_map}
use Rattle.hm_tree.specs.Names.{Name}
use Rattle.hm_text_lens.specs.Meanings.{TextMeaning}

-- it shows what the second shows of what the first shows. What it puts is put by the second, with what the first shows of
-- the text from before, and then by the first. It hides what both hide; the length of the first part tells the two apart
abbrev pub chain_of : Name → TextMeaning → TextMeaning → TextMeaning
chain_of name first second = record {
  name = name;
  from_class = first.from_class;
  into_class = second.into_class;
  get_of = λ v. second.get_of (first.get_of v);
  put_of = λ w b. first.put_of (second.put_of w (option_map first.get_of b)) b;
  hidden_of = λ v. length (first.hidden_of v) ∷ (first.hidden_of v ++ second.hidden_of (first.get_of v));
}
