-- The part of a content line up to its value, behind which another value may stand.
use Rattle.std.proofs.Common.{◌≡◌, ℕ, ◌+◌, ◌-◌, List, [], ◌∷◌, ◌++◌, length, get_or, take, drop, refl, sym, ap, ◌∙◌, subst, arith}
use Rattle.std.specs.Str.{IsUtf8, IsCharBoundary}
use Rattle.std.proofs.lemmas.List.{append_assoc, length-append, get_or_at, take_at, drop_at}
use Rattle.std.proofs.lemmas.Str.{IsCharBoundary-after_ascii}
use Rattle.hm_lines.specs.declared.content.LineParts.{LineParts}
use Rattle.hm_lines.specs.Content.{colon, IsContentLine}
use Rattle.hm_lines_cards.specs.Lines.{name_in}

module _ (line : List ℕ) (parts : LineParts) (is : IsContentLine line parts) where
  before : List ℕ
  before = is.group ++ (is.name ++ is.parameters)

  abbrev pub front : List ℕ
  front = is.group ++ (is.name ++ (is.parameters ++ colon ∷ []))

  before_long : length before + 1 ≡ parts.value_from
  unfolding before
  before_long =
      let one = length-append is.group (is.name ++ is.parameters) in let two = length-append is.name is.parameters in let from = is.value_from in omega arith

  before_value : line ≡ before ++ colon ∷ is.value
  unfolding before
  before_value =
      is.bytes ∙ ap (λ l. is.group ++ l) (sym (append_assoc is.name is.parameters (colon ∷ is.value)))
      ∙ sym (append_assoc is.group (is.name ++ is.parameters) (colon ∷ is.value))

  pub front_with : (value : List ℕ) → front ++ value ≡ is.group ++ (is.name ++ (is.parameters ++ colon ∷ value))
  front_with value =
      append_assoc is.group (is.name ++ (is.parameters ++ colon ∷ [])) value
      ∙ ap (λ l. is.group ++ l) (append_assoc is.name (is.parameters ++ colon ∷ []) value
      ∙ ap (λ l. is.name ++ l) (append_assoc is.parameters (colon ∷ []) value))

  front_long : length front ≡ parts.value_from
  front_long =
      let one = length-append is.group (is.name ++ (is.parameters ++ colon ∷ [])) in
      let two = length-append is.name (is.parameters ++ colon ∷ []) in
      let three = length-append is.parameters (colon ∷ []) in
      let from = is.value_from in
      omega arith

  parted : line ≡ front ++ is.value
  parted = is.bytes ∙ sym (front_with is.value)

  pub front_taken : take parts.value_from line ≡ front
  front_taken = ap (take parts.value_from) parted ∙ take_at front is.value parts.value_from front_long

  pub value_dropped : drop parts.value_from line ≡ is.value
  value_dropped = ap (drop parts.value_from) parted ∙ drop_at front is.value parts.value_from front_long

  -- the value begins at a character
  pub value_boundary : IsUtf8 line → IsCharBoundary line parts.value_from
  value_boundary text =
      let read : get_or line (length before) 0 ≡ colon = ap (λ l. get_or l (length before) 0) before_value ∙ get_or_at before colon is.value 0 (length before) refl in
      let long = ap length before_value ∙ length-append before (colon ∷ is.value) in
      subst (IsCharBoundary line) before_long (IsCharBoundary-after_ascii line (length before) text (omega (arith, long)) (omega (arith, read)))

  -- with another value it's a content line with the same parts
  abbrev pub with_other : (value : List ℕ) → IsContentLine (front ++ value) parts
  with_other value = record {
    group = is.group;
    name = is.name;
    parameters = is.parameters;
    value = value;
    bytes = front_with value;
    is_group = is.is_group;
    is_name = is.is_name;
    are_parameters = is.are_parameters;
    before_colon = is.before_colon;
    name_from = is.name_from;
    name_to = is.name_to;
    value_from = is.value_from;
  }

  pub name_is : name_in line parts ≡ is.name
  name_is =
      (λ i. take (is.name_to i - is.name_from i) (drop (is.name_from i) (is.bytes i)))
      ∙ ap (take ((length is.group + length is.name) - length is.group)) (drop_at is.group (is.name ++ (is.parameters ++ colon ∷ is.value)) (length is.group) refl)
      ∙ take_at is.name (is.parameters ++ colon ∷ is.value) ((length is.group + length is.name) - length is.group) (omega arith)
