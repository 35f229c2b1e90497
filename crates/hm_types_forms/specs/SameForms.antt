-- When two forms are the same: on each way down that tidied nodes have, their nodes match.
use Rattle.std.specs.Prelude.{◌≡◌, cond, is_some, Bool, false, [], ◌∷◌, Option, Some, None}
use Rattle.std.specs.Option.{option_map}
use Rattle.hm_schema.specs.Tidied.{tidied}
use Rattle.hm_schema.specs.Sameness.{Match}
use Rattle.hm_types_forms.specs.Forms.{Label, Form, Step, Way, under, next_of}

-- a label has a step
abbrev pub has_step : Option Label → Step → Bool
has_step None s = false
has_step (Some l) s = is_some (next_of l s)

-- a form, tidied on each way down
abbrev pub tidy : Form → Form
tidy u [] = option_map tidied (u [])
tidy u (s ∷ w) = cond (has_step (option_map tidied (u [])) s) (tidy (under s u) w) None

-- nothing is found on either side, or labels with equal sets of shapes and twins, equal names and equal classes
pub data MatchThere : Option Label → Option Label → Type 0 where
  nothing : MatchThere None None
  labels : {l m : Label} → Match (λ i j. Unit {0}) l m → MatchThere (Some l) (Some m)

pub record IsSame (u v : Form) : Type 0 where
  pub on_each : (w : Way) → MatchThere (tidy u w) (tidy v w)

-- no twins are found on any way down
pub record HasNoTwins (u : Form) : Type 0 where
  pub on_each : (w : Way) (l : Label) → tidy u w ≡ Some l → l.twins ≡ []
