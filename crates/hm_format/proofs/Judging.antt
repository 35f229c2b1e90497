-- When a pair is bad, by the tests in their order.
use Rattle.std.proofs.Common.{◌≡◌, ℕ, Bool, true, false, ◌||◌, List, [], take, get_or, Some, None, sym, ap, ◌∙◌}
use Rattle.std.specs.FinMap.{find}
use Rattle.hm_tree.specs.Names.{Name, name_cmp}
use Rattle.hm_schema.specs.Values.{OptionsValue}
use Rattle.hm_format.specs.Options.{Rule, Rules, breaks, is_bad, is_bad_at}

-- a test that answers yes, and one that answers no
pub yes : (a b : Bool) → a ≡ true → (a || b) ≡ true
yes a b e = ap (λ a. a || b) e

pub no : (a b : Bool) → a ≡ false → (a || b) ≡ b
no a b e = ap (λ a. a || b) e

module _ (rules : Rules) (o : OptionsValue) (place : ℕ) (k : Name) (values : List Name) (is : get_or o.pairs place ([], []) ≡ (k, values)) where
  at : is_bad_at rules o place ≡ is_bad rules o.type_names (take place o.pairs) (k, values)
  at = ap (λ p. is_bad rules o.type_names (take place o.pairs) p) is

  -- the key isn't the format's
  pub unknown : find name_cmp k rules ≡ None → true ≡ is_bad_at rules o place
  unknown none = sym (at ∙ ap (λ r. breaks r o.type_names (take place o.pairs) (k, values)) none)

  pub by_rule : (rule : Rule) → find name_cmp k rules ≡ Some rule
      → is_bad_at rules o place ≡ breaks (Some rule) o.type_names (take place o.pairs) (k, values)
  by_rule rule known = at ∙ ap (λ r. breaks r o.type_names (take place o.pairs) (k, values)) known
