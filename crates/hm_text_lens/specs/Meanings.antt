-- What text lenses mean, and the laws that they meet (TOPLAS 2007, section 3: GetPut and PutGet).
use Rattle.std.specs.Prelude.{◌≡◌, T, List, ℕ, Option, Some, IfSome}
use Rattle.std.specs.Str.{is_utf8}
use Rattle.hm_tree.specs.declared.class.Class.{Class}
use Rattle.hm_tree.specs.Names.{Name}
use Rattle.hm_tree.specs.Classes.{IsInClass}

-- a name, the class of the texts that are read and of those that are shown, what is shown of a text, and what is put of a
-- shown text and of the text from before or none. What a text hides tells it from the others that show the same
pub record TextMeaning : Type 0 where
  pub name : Name
  pub from_class : Class
  pub into_class : Class
  pub get_of : Name → Name
  pub put_of : Name → Option Name → Name
  pub hidden_of : Name → List ℕ

-- a text of a class: a name that is UTF-8, as those of trees are
pub record IsTextIn (c : Class) (v : Name) : Type 0 where
  pub text : T (is_utf8 v)
  pub in_class : IsInClass c v

-- a text that may be read, and one that may be put
abbrev pub IsFrom : TextMeaning → Name → Type 0
IsFrom m v = IsTextIn m.from_class v

abbrev pub IsInto : TextMeaning → Name → Type 0
IsInto m w = IsTextIn m.into_class w

-- a text from before, or none
abbrev pub IsBefore : TextMeaning → Option Name → Type 0
IsBefore m b = IfSome b (IsFrom m)

-- the laws speak of texts alone: of other lists of bytes a text lens may make anything
pub record IsLawful (m : TextMeaning) : Type 0 where
  -- both functions stay within the texts of the classes
  pub gets : (v : Name) → IsFrom m v → IsInto m (m.get_of v)
  pub puts : (w : Name) (b : Option Name) → IsInto m w → IsBefore m b → IsFrom m (m.put_of w b)
  -- what is shown of a text and put back gives the text
  pub get_put : (v : Name) → IsFrom m v → m.put_of (m.get_of v) (Some v) ≡ v
  -- what is put is shown again
  pub put_get : (w : Name) (b : Option Name) → IsInto m w → IsBefore m b → m.get_of (m.put_of w b) ≡ w
  -- two texts that show the same and hide the same are one
  pub hides : (u v : Name) → IsFrom m u → IsFrom m v → m.get_of u ≡ m.get_of v → m.hidden_of u ≡ m.hidden_of v → u ≡ v
