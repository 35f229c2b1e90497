-- Two ways of going between texts, of which each lens of this crate is one.
use Rattle.std.specs.Prelude.{[], cond, Option, Some, None}
use Rattle.std.specs.Str.{bytes_eq}
use Rattle.hm_tree.specs.declared.class.Class.{Class}
use Rattle.hm_tree.specs.Names.{Name}
use Rattle.hm_text_lens.specs.Meanings.{TextMeaning}

-- the text from before where that shows the text, else the text itself
abbrev pub kept_or : (Name → Name) → Name → Option Name → Name
kept_or get w None = w
kept_or get w (Some v) = cond (bytes_eq (get v) w) v w

-- a normal form is shown, and a text that shows it already is kept. What is hidden may be all of the text
abbrev pub normal_form : Name → Class → Class → (Name → Name) → TextMeaning
normal_form name from into get = record {
  name = name;
  from_class = from;
  into_class = into;
  get_of = get;
  put_of = kept_or get;
  hidden_of = λ v. v;
}

-- texts of one class are exchanged, and the same exchange puts them back. Nothing is hidden
abbrev pub exchange : Name → Class → (Name → Name) → TextMeaning
exchange name class other = record {
  name = name;
  from_class = class;
  into_class = class;
  get_of = other;
  put_of = λ w b. other w;
  hidden_of = λ v. [];
}
