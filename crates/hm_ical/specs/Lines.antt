-- The lines of calendars (RFC 5545, section 3.4), unfolded and without their ends; empty ones are left out.
use Rattle.std.specs.Prelude.{◌≡◌, ◌-◌, Bool, true, false, not, ◌&&◌, ◌||◌, List, [], ◌∷◌, ◌++◌, codes, Some}
use Rattle.std.specs.Bool.{◌==◌}
use Rattle.std.specs.Str.{str_eq_ignore_ascii_case}
use Rattle.hm_lines.specs.declared.content.LineParts.{LineParts}
use Rattle.hm_lines.specs.Content.{IsContentLine}
use Rattle.hm_lines_cards.specs.Lines.{Line, is_of}
use Rattle.hm_lines_files.specs.Components.{Bytes}

-- names of properties and of components have no case
abbrev pub is_same : Bytes → Bytes → Bool
is_same one another = str_eq_ignore_ascii_case one another

-- ---- around properties

abbrev pub begin_front : Bytes
begin_front = codes "BEGIN:"

abbrev pub end_front : Bytes
end_front = codes "END:"

-- a line begins a component of a name, or ends one; it has no group and no parameters
abbrev pub IsBegin : Bytes → Bytes → Type 0
IsBegin name line = is_same line (begin_front ++ name) ≡ true

abbrev pub IsEnd : Bytes → Bytes → Type 0
IsEnd name line = is_same line (end_front ++ name) ≡ true

-- ---- properties

-- a line tells the one version that is known
abbrev pub is_version : Bytes → Bool
is_version line = is_same line (codes "VERSION:2.0")

-- a content line has no group and no parameters
abbrev pub is_bare : LineParts → Bool
is_bare parts = (parts.name_from == 0) && (parts.value_from - parts.name_to == 1)

-- BEGIN and END are no properties, and neither is a VERSION with a group or parameters
abbrev pub is_barred : Bytes → LineParts → Bool
is_barred line parts =
    let property : Line = (line, Some parts) in
    (is_of (codes "BEGIN") property || is_of (codes "END") property) || (is_of (codes "VERSION") property && not (is_bare parts))

-- any other content line, with its parts
pub record IsProperty (line : Bytes) (parts : LineParts) : Type 0 where
  pub content : IsContentLine line parts
  pub free : is_barred line parts ≡ false

-- ---- components

-- what stands in a component: properties, and components with what stands in them
pub data AreInside : List Bytes → Type 0 where
  nothing : AreInside []
  property : {line : Bytes} {parts : LineParts} {lines : List Bytes} → IsProperty line parts → AreInside lines → AreInside (line ∷ lines)
  component : {inner lines : List Bytes} (name begin end : Bytes) → IsBegin name begin → AreInside inner → IsEnd name end → AreInside lines
      → AreInside (begin ∷ (inner ++ end ∷ lines))

-- a component of a name
pub record AreComponent (name : Bytes) (lines : List Bytes) : Type 0 where
  pub begin : Bytes
  pub inner : List Bytes
  pub end : Bytes
  pub begins : IsBegin name begin
  pub inside : AreInside inner
  pub ends : IsEnd name end
  pub are : lines ≡ begin ∷ (inner ++ end ∷ [])
