-- Values of the code that lend their bytes, as what is said of them.
use Rattle.std.specs.Prelude.{ℕ, List}
use Rattle.std.specs.Borrow.{Bor}
use Rattle.hm_marks_tokens.specs.declared.token.Token.{Token as LentToken}
use Rattle.hm_marks_tokens.specs.declared.token.Token.TheVariants.{Tag, Text}
use Rattle.hm_marks_tokens.specs.declared.symbol.Symbol.{Symbol as LentSymbol}
use Rattle.hm_marks_tokens.specs.declared.symbol.Symbol.TheVariants.{List as ListStart, ListEnd, Entry, Link, LinkEnd, Heading, HeadingEnd, Note, Rule, Paragraph, Words, Stray}
use Rattle.hm_marks_tokens.specs.declared.attributes.Value.{Value as LentValue}
use Rattle.hm_marks_tokens.specs.declared.attributes.Value.TheVariants.{Bare, Quoted, Run}
use Rattle.hm_marks_tokens.specs.declared.attributes.Attribute.{Attribute as LentAttribute}
use Rattle.hm_marks_tokens.specs.declared.reading.Place.{Place as LentPlace}
use Rattle.hm_marks_tokens.specs.declared.reading.Place.TheVariants.{Before, Inside, Begun, Linking, Linked, Noting, Titling, Titled, Telling, Told, Over}
use Rattle.hm_marks_tokens.specs.declared.reading.State.{State as LentState}
use Rattle.hm_marks_tokens.specs.Tokens.{Token, tag, text}
use Rattle.hm_marks_tokens.specs.Symbols.{Symbol, list, list_end, entry, link, link_end, heading, heading_end, note, rule, paragraph, words, stray}
use Rattle.hm_marks_tokens.specs.Attributes.{Value, bare, quoted, run, Attribute}
use Rattle.hm_marks_tokens.specs.Reading.{Place, State, before, inside, begun, linking, linked, noting, titling, titled, telling, told, over}

-- a token
abbrev pub token_seen : LentToken → Token
token_seen (Tag bytes) = tag bytes.now
token_seen (Text bytes) = text bytes.now

-- a symbol
abbrev pub symbol_seen : LentSymbol → Symbol
symbol_seen ListStart = list
symbol_seen ListEnd = list_end
symbol_seen Entry = entry
symbol_seen (Link bytes) = link bytes.now
symbol_seen LinkEnd = link_end
symbol_seen (Heading bytes) = heading bytes.now
symbol_seen HeadingEnd = heading_end
symbol_seen Note = note
symbol_seen (Rule bytes) = rule bytes.now
symbol_seen Paragraph = paragraph
symbol_seen (Words bytes) = words bytes.now
symbol_seen Stray = stray

-- a value of an attribute
abbrev pub value_seen : LentValue → Value
value_seen Bare = bare
value_seen (Quoted bytes) = quoted bytes.now
value_seen (Run bytes) = run bytes.now

-- an attribute
abbrev pub attribute_seen : LentAttribute → Attribute
attribute_seen a = record { blank = a.blank.now; name = a.name.now; value = value_seen a.value }

-- a value that is found, and what stands behind it
abbrev pub found_value : LentValue × Bor (List ℕ) → Value × List ℕ
found_value f = (value_seen f.0, f.1.now)

-- an attribute that is found, and what stands behind it
abbrev pub found_attribute : LentAttribute × Bor (List ℕ) → Attribute × List ℕ
found_attribute f = (attribute_seen f.0, f.1.now)

-- a place
abbrev pub place_seen : LentPlace → Place
place_seen Before = before
place_seen Inside = inside
place_seen Begun = begun
place_seen (Linking a t) = linking a.now t.now
place_seen (Linked a t) = linked a.now t.now
place_seen (Noting a t) = noting a.now t.now
place_seen (Titling a t) = titling a.now t.now
place_seen (Titled a t) = titled a.now t.now
place_seen (Telling a t) = telling a.now t.now
place_seen (Told a t b) = told a.now t.now b.now
place_seen Over = over

-- a state
abbrev pub state_seen : LentState → State
state_seen s = record { lists = s.lists; place = place_seen s.place }
