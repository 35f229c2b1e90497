-- When two formats mean the same.
use Rattle.std.specs.Prelude.{◌≡◌, ◌↔◌, ℕ, List, Result, refl}
use Rattle.hm_tree.specs.Nodes.{Tree}
use Rattle.hm_schema.specs.Values.{OptionsValue}
use Rattle.hm_format.specs.declared.fault.FormatFault.{FormatFault}
use Rattle.hm_format.specs.Formats.{FormatMeaning}

-- they have one number and one limit, their options have one schema, and of all files they say the same
pub record MeanTheSame (one other : FormatMeaning) : Type 0 where
  pub tag : one.tag ≡ other.tag
  pub schema_of : (o : OptionsValue) → one.schema_of o ≡ other.schema_of o
  pub reads : (o : OptionsValue) (bytes : List ℕ) (r : Result Tree FormatFault) → one.reads o bytes r ↔ other.reads o bytes r
  pub over : (t : Tree) → one.over t ≡ other.over t
  pub writes : (o : OptionsValue) (t : Tree) (before after : List ℕ) → one.writes o t before after ↔ other.writes o t before after
  pub keeps : (o : OptionsValue) (before after : List ℕ) → one.keeps o before after ↔ other.keeps o before after

pub means_itself : (m : FormatMeaning) → MeanTheSame m m
means_itself m = record {
  tag = refl;
  schema_of = λ o. refl;
  reads = λ o bytes r. (λ h. h, λ h. h);
  over = λ t. refl;
  writes = λ o t before after. (λ h. h, λ h. h);
  keeps = λ o before after. (λ h. h, λ h. h);
}
