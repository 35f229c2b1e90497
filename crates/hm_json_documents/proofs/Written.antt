-- What is written of a sound value is read again as this value.
use Rattle.std.proofs.Common.{◌≡◌, ◌≤◌, ℕ, pos, negsuc, max, Bool, true, false, List, [], ◌∷◌, Option, Some, option_map, option_and_then, Less, Greater, nat_cmp, decimal, IsUtf8, refl, sym, ap, ap₂, ◌∙◌, subst, arith, append-nil}
use Rattle.std.specs.Cmp.Lexicographic.{slice_cmp}
use Rattle.std.specs.Ordering.{ordering_reverse}
use Rattle.std.proofs.lemmas.Cmp.{nat_list_cmp_total}
use Rattle.std.proofs.lemmas.Fmt.{IsAscii-decimal, IsAscii-signed}
use Rattle.std.proofs.lemmas.Str.{IsUtf8-append, IsUtf8-nil, IsUtf8-from_ascii}
use Rattle.json.specs.Token.{Token}
use Rattle.json.specs.Lex.{tokens}
use Rattle.json.specs.Json as json
use Rattle.json.specs.Print.{quoted}
use Rattle.json.specs.Tree as tree
use Rattle.json.proofs.Printed.Decimals.{IsNumber-decimal, IsNumber-signed_decimal}
use Rattle.json.proofs.Printed.Tokens.{tokens-print}
use Rattle.json.proofs.Printed.Trees.{ArePrintable-json_tokens, value-json_tokens}
use Rattle.json.proofs.Printed.Utf8.{IsUtf8-are_ascii, IsUtf8-quoted, IsUtf8-boolean}
use Rattle.serde_json.specs.Data.{Data, null, boolean, number, unsigned, negative, float, string, array, object, Items, no_items, item, Members, no_members, member, put, depth, items_depth, members_depth}
use Rattle.serde_json.specs.Read.{of_json, of_items, of_members, max_depth}
use Rattle.serde_json.specs.Written.{outline, items_outline, members_outline, comma_if, compact_text, items_text, members_text}
use Rattle.serde_json.proofs.Numbers.{number_of-decimal, number_of-negative}
use Rattle.serde_json.proofs.Texts.{print-outline}
use Rattle.hm_json_documents.specs.Documents.{IsDocument, IsBeforeFirst, IsSound, ItemsAreSound, MembersAreSound}
use Rattle.hm_json_documents.proofs.Sound.{sound_no_float}

-- ---- what is written are tokens

mutual
  has_numbers : (d : Data) → IsSound d → tree.HasNumbers (outline d)
  has_numbers null sound = tt
  has_numbers (boolean b) sound = tt
  has_numbers (number (unsigned n)) sound = IsNumber-decimal n sound
  has_numbers (number (negative (pos n))) sound = absurd sound
  has_numbers (number (negative (negsuc n))) sound = IsNumber-signed_decimal (negsuc n) sound
  has_numbers (number (float x)) sound = absurd sound
  has_numbers (string s) sound = tt
  has_numbers (array ds) sound = items_have_numbers ds sound
  has_numbers (object ms) sound = members_have_numbers ms sound

  items_have_numbers : (ds : Items) → ItemsAreSound ds → tree.ItemsHaveNumbers (items_outline ds)
  items_have_numbers no_items sound = tt
  items_have_numbers (item d ds) sound = (has_numbers d sound.0, items_have_numbers ds sound.1)

  members_have_numbers : (ms : Members) → MembersAreSound ms → tree.MembersHaveNumbers (members_outline ms)
  members_have_numbers no_members sound = tt
  members_have_numbers (member k d ms) sound = (has_numbers d sound.1, members_have_numbers ms sound.3)

written_tokens : (d : Data) → IsSound d → tokens (compact_text d) ≡ tree.json_tokens (outline d)
written_tokens d sound =
    ap tokens (sym (print-outline d)) ∙ tokens-print (tree.json_tokens (outline d)) (ArePrintable-json_tokens (outline d) (has_numbers d sound))

-- ---- the tokens nest as the value does

mutual
  outline_depth : (d : Data) → tree.depth (outline d) ≡ depth d
  outline_depth null = refl
  outline_depth (boolean b) = refl
  outline_depth (number n) = refl
  outline_depth (string s) = refl
  outline_depth (array ds) = let inside = items_outline_depth ds in omega arith
  outline_depth (object ms) = let inside = members_outline_depth ms in omega arith

  items_outline_depth : (ds : Items) → tree.items_depth (items_outline ds) ≡ items_depth ds
  items_outline_depth no_items = refl
  items_outline_depth (item d ds) = ap₂ max (outline_depth d) (items_outline_depth ds)

  members_outline_depth : (ms : Members) → tree.members_depth (members_outline ms) ≡ members_depth ms
  members_outline_depth no_members = refl
  members_outline_depth (member k d ms) = ap₂ max (outline_depth d) (members_outline_depth ms)

-- ---- members that rise go in one behind another

-- some members, and more behind them
abbrev joined : Members → Members → Members
joined no_members ms = ms
joined (member k d done) ms = member k d (joined done ms)

joined_none : (done : Members) → joined done no_members ≡ done
joined_none no_members = refl
joined_none (member k d done) = ap (member k d) (joined_none done)

joined_one : (done : Members) (k : List ℕ) (d : Data) (ms : Members) → joined done (member k d ms) ≡ joined (joined done (member k d no_members)) ms
joined_one no_members k d ms = refl
joined_one (member l e done) k d ms = ap (member l e) (joined_one done k d ms)

-- a key before the first is before each behind it
before_each : (l : List ℕ) (done : Members) (k : List ℕ) (d : Data) (ms : Members) → IsBeforeFirst l (joined done (member k d ms))
    → MembersAreSound (joined done (member k d ms)) → slice_cmp nat_cmp l k ≡ Less
before_each l no_members k d ms first sound = first
before_each l (member m e done) k d ms first sound = nat_list_cmp_total.trans l m k first (before_each m done k d ms sound.2 sound.3)

put_last : (done : Members) (k : List ℕ) (d : Data) (ms : Members) → MembersAreSound (joined done (member k d ms)) → put k d done ≡ joined done (member k d no_members)
put_last no_members k d ms sound = refl
put_last (member l e done) k d ms sound =
    let behind : slice_cmp nat_cmp k l ≡ Greater = nat_list_cmp_total.antisymm k l ∙ ap ordering_reverse (before_each l done k d ms sound.2 sound.3) in
    rw behind (ap (member l e) (put_last done k d ms sound.3))

-- ---- the tokens are read as the value

mutual
  outline_read : (d : Data) → IsSound d → of_json (outline d) ≡ Some d
  outline_read null sound = refl
  outline_read (boolean b) sound = refl
  outline_read (number (unsigned n)) sound = ap (option_map number) (number_of-decimal n sound)
  outline_read (number (negative (pos n))) sound = absurd sound
  outline_read (number (negative (negsuc n))) sound = ap (option_map number) (number_of-negative n sound)
  outline_read (number (float x)) sound = absurd sound
  outline_read (string s) sound = refl
  outline_read (array ds) sound = ap (option_map array) (items_read ds sound)
  outline_read (object ms) sound = ap (option_map object) (members_read no_members ms sound sound)

  items_read : (ds : Items) → ItemsAreSound ds → of_items (items_outline ds) ≡ Some ds
  items_read no_items sound = refl
  items_read (item d ds) sound =
      ap (option_and_then (λ e. option_map (item e) (of_items (items_outline ds)))) (outline_read d sound.0) ∙ ap (option_map (item d)) (items_read ds sound.1)

  members_read : (done ms : Members) → MembersAreSound (joined done ms) → MembersAreSound ms → of_members (members_outline ms) done ≡ Some (joined done ms)
  members_read done no_members all sound = ap Some (sym (joined_none done))
  members_read done (member k d ms) all sound =
      ap (option_and_then (λ e. of_members (members_outline ms) (put k e done))) (outline_read d sound.1)
      ∙ ap (of_members (members_outline ms)) (put_last done k d ms all)
      ∙ members_read (joined done (member k d no_members)) ms (subst MembersAreSound (joined_one done k d ms) all) sound.3
      ∙ ap Some (sym (joined_one done k d ms))

-- ---- the text is a document

-- the value of a text, by what is read at the front of its tokens
abbrev whole : Option (json.Json × List Token) → Option Data
whole o = option_and_then of_json (option_and_then (λ p. json.if_last p.0 p.1) o)

-- what is written of a sound value, nested at most 127 deep, is a document of this value
pub written_read : (d : Data) → IsSound d → depth d ≤ max_depth → IsDocument (compact_text d) d
written_read d sound shallow =
    let all = tree.json_tokens (outline d) in
    let read = ap (json.value max_depth) (written_tokens d sound ∙ sym (append-nil all)) ∙ value-json_tokens (outline d) max_depth [] (omega (arith, outline_depth d)) in
    record { is_read = ap whole read ∙ outline_read d sound; no_float = sound_no_float d sound }

-- ---- the text is UTF-8

comma_utf8 : (later : Bool) → IsUtf8 (comma_if later)
comma_utf8 true = IsUtf8-are_ascii _ refl
comma_utf8 false = IsUtf8-nil

mutual
  -- what is written of a sound value is UTF-8
  pub written_utf8 : (d : Data) → IsSound d → IsUtf8 (compact_text d)
  written_utf8 null sound = IsUtf8-are_ascii _ refl
  written_utf8 (boolean b) sound = IsUtf8-boolean b
  written_utf8 (number (unsigned n)) sound = IsUtf8-from_ascii (decimal n) (IsAscii-decimal n sound)
  written_utf8 (number (negative (pos n))) sound = absurd sound
  written_utf8 (number (negative (negsuc n))) sound = IsUtf8-from_ascii _ (IsAscii-signed (negsuc n) sound)
  written_utf8 (number (float x)) sound = absurd sound
  written_utf8 (string s) sound = IsUtf8-quoted s sound
  written_utf8 (array ds) sound = IsUtf8-append (91 ∷ []) (items_text false ds) (IsUtf8-are_ascii _ refl) (items_utf8 false ds sound)
  written_utf8 (object ms) sound = IsUtf8-append (123 ∷ []) (members_text false ms) (IsUtf8-are_ascii _ refl) (members_utf8 false ms sound)

  items_utf8 : (later : Bool) (ds : Items) → ItemsAreSound ds → IsUtf8 (items_text later ds)
  items_utf8 later no_items sound = IsUtf8-are_ascii _ refl
  items_utf8 later (item d ds) sound =
      IsUtf8-append (comma_if later) _ (comma_utf8 later) (IsUtf8-append (compact_text d) _ (written_utf8 d sound.0) (items_utf8 true ds sound.1))

  members_utf8 : (later : Bool) (ms : Members) → MembersAreSound ms → IsUtf8 (members_text later ms)
  members_utf8 later no_members sound = IsUtf8-are_ascii _ refl
  members_utf8 later (member k d ms) sound =
      let behind = IsUtf8-append (compact_text d) _ (written_utf8 d sound.1) (members_utf8 true ms sound.3) in
      IsUtf8-append (comma_if later) _ (comma_utf8 later)
      (IsUtf8-append (quoted k) _ (IsUtf8-quoted k sound.0) (IsUtf8-append (58 ∷ []) _ (IsUtf8-are_ascii _ refl) behind))
