-- Documents of JSON (RFC 8259) whose numbers are integers.
use Rattle.std.specs.Prelude.{◌≡◌, ℕ, ◌<◌, ◌^◌, pos, negsuc, List, false, Some, ⊤, IsUtf8}
use Rattle.std.specs.declared.cmp.Ordering.TheVariants.{Less}
use Rattle.std.specs.Ordering.{nat_cmp}
use Rattle.std.specs.Cmp.Lexicographic.{slice_cmp}
use Rattle.serde_json.specs.Data.{Num, unsigned, negative, float, Data, null, boolean, number, string, array, object, Items, no_items, item, Members, no_members, member}
use Rattle.serde_json.specs.Read.{read}
use Rattle.serde_json.specs.Written.{has_float}

-- Bytes are a document of JSON as `serde_json` reads it, nested at most 127 deep, and this is its value. Of members with one
-- key the last one counts, and the members of a value rise by the bytes of their keys. No number is a float: each is an
-- integer that fits 64 bits, with or without a sign, and isn't `-0`.
pub record IsDocument (bytes : List ℕ) (d : Data) : Type 0 where
  pub is_read : read bytes ≡ Some d
  pub no_float : has_float d ≡ false

-- bytes are no such document
abbrev pub HasNoDocument : List ℕ → Type 0
HasNoDocument bytes = (d : Data) → ¬ (IsDocument bytes d)

-- Each string and each key is UTF-8, at each depth.
abbrev mutual
  pub AreTexts : Data → Type 0
  AreTexts null = ⊤
  AreTexts (boolean b) = ⊤
  AreTexts (number n) = ⊤
  AreTexts (string s) = IsUtf8 s
  AreTexts (array ds) = ItemsAreTexts ds
  AreTexts (object ms) = MembersAreTexts ms

  pub ItemsAreTexts : Items → Type 0
  ItemsAreTexts no_items = ⊤
  ItemsAreTexts (item d ds) = AreTexts d × ItemsAreTexts ds

  pub MembersAreTexts : Members → Type 0
  MembersAreTexts no_members = ⊤
  MembersAreTexts (member k d ms) = IsUtf8 k × AreTexts d × MembersAreTexts ms

-- A number that a document can have: an integer from 0 up to 2^64 - 1, or from -1 down to -2^63, where `negsuc n` is
-- -(n + 1). A float is none.
abbrev pub IsInteger : Num → Type 0
IsInteger (unsigned n) = n < 2 ^ 64
IsInteger (negative (pos n)) = ⊥
IsInteger (negative (negsuc n)) = n < 2 ^ 63
IsInteger (float x) = ⊥

-- A key is before the first key of some members, by bytes.
abbrev pub IsBeforeFirst : List ℕ → Members → Type 0
IsBeforeFirst k no_members = ⊤
IsBeforeFirst k (member l d ms) = slice_cmp nat_cmp k l ≡ Less

-- A value that a document can have: at each depth, numbers are such integers, strings and keys are UTF-8, and the keys of
-- an object rise.
abbrev mutual
  pub IsSound : Data → Type 0
  IsSound null = ⊤
  IsSound (boolean b) = ⊤
  IsSound (number n) = IsInteger n
  IsSound (string s) = IsUtf8 s
  IsSound (array ds) = ItemsAreSound ds
  IsSound (object ms) = MembersAreSound ms

  pub ItemsAreSound : Items → Type 0
  ItemsAreSound no_items = ⊤
  ItemsAreSound (item d ds) = IsSound d × ItemsAreSound ds

  pub MembersAreSound : Members → Type 0
  MembersAreSound no_members = ⊤
  MembersAreSound (member k d ms) = IsUtf8 k × IsSound d × IsBeforeFirst k ms × MembersAreSound ms
