-- The lines of what stands in a folder are UTF-8, where its bytes are.
use Rattle.std.proofs.Common.{◌≡◌, ℕ, ◌-◌, ◌*◌, zero, suc, Bool, true, false, cond, List, [], ◌∷◌, ◌++◌, codes, replicate, Option, Some, None, refl, ap, subst}
use Rattle.std.specs.Char.{is_ascii_whitespace}
use Rattle.std.specs.List.{AllByRecursion}
use Rattle.std.specs.Option.{option_map}
use Rattle.std.specs.Str.{IsUtf8}
use Rattle.std.proofs.lemmas.Bool.{and_parts}
use Rattle.std.proofs.lemmas.Str.{IsUtf8-nil, IsUtf8-append}
use Rattle.hm_marks.specs.Contents.{nothing, link, folder, separator}
use Rattle.hm_marks_schema.proofs.Utf8Keys.{word_utf8}
use Rattle.hm_marks_tokens.specs.Bytes.{greater, is_white, begins_white}
use Rattle.hm_marks_tokens.specs.Grammar.{Entry, Contents}
use Rattle.hm_marks_tokens.specs.Lines.{Line, opens, closes, links, heads, notes, rules, core, depth_at, depth_behind, indent, laid, open_behind, laid_list}
use Rattle.hm_netscape_entries.specs.Next.{IsUtf8Note, IsUtf8Entry}
use Rattle.hm_netscape_entries.specs.Written.{trimmed, tidied_entry, tidied, note_lines, contents_lines, list_lines}
use Rattle.hm_netscape_entries.proofs.Cut.{parts, white_seam}
use Rattle.hm_netscape_files.proofs.EntryTexts.{HaveUtf8Bytes}

-- ---- notes without the white space at their end

-- bytes are others, and white space behind them
record IsParted (bytes front : List ℕ) : Type 0 where
  white : List ℕ
  blank : is_white white ≡ true
  are : bytes ≡ front ++ white

-- what is left of bytes, and white space
abbrev IsTrimmed : List ℕ → Type 0
IsTrimmed bytes = IsParted bytes (trimmed bytes)

is_trimmed : (bytes : List ℕ) → IsTrimmed bytes
is_trimmed [] = record { white = []; blank = refl; are = refl }
is_trimmed (b ∷ bytes) = go (is_white (b ∷ bytes)) refl (is_trimmed bytes)
  where
    go : (t : Bool) → is_white (b ∷ bytes) ≡ t → IsTrimmed bytes → IsParted (b ∷ bytes) (cond t [] (b ∷ trimmed bytes))
    go true e more = record { white = b ∷ bytes; blank = e; are = refl }
    go false e more = record { white = more.white; blank = more.blank; are = ap (λ l. b ∷ l) more.are }

white_begins : (white : List ℕ) → is_white white ≡ true → begins_white white ≡ true
white_begins [] is = refl
white_begins (b ∷ white) is = (and_parts (is_ascii_whitespace b) (is_white white) is).0

trimmed_text : (bytes : List ℕ) → IsUtf8 bytes → IsUtf8 (trimmed bytes)
trimmed_text bytes utf8 =
    let is = is_trimmed bytes in (parts (trimmed bytes) is.white (white_seam is.white (white_begins is.white is.blank)) (subst IsUtf8 is.are utf8)).0

tidied_note : (note : Option (List ℕ)) → IsUtf8Note note → IsUtf8Note (option_map trimmed note)
tidied_note None is = tt
tidied_note (Some bytes) is = trimmed_text bytes is

tidied_text : (e : Entry) → IsUtf8Entry e → IsUtf8Entry (tidied_entry e)
tidied_text e is = record { attributes = is.attributes; title = is.title; note = tidied_note e.note is.note }

tidied_texts : (c : Contents) → HaveUtf8Bytes c → HaveUtf8Bytes (tidied c)
tidied_texts nothing h = tt
tidied_texts (link e c) h = (tidied_text e h.0, tidied_texts c h.1)
tidied_texts (folder e inside c) h = (tidied_text e h.0, tidied_texts inside h.1, tidied_texts c h.2)
tidied_texts (separator a c) h = (h.0, tidied_texts c h.1)

-- ---- lines

abbrev IsUtf8Line : Line → Type 0
IsUtf8Line opens = Unit {0}
IsUtf8Line closes = Unit {0}
IsUtf8Line (links attributes title) = IsUtf8 attributes × IsUtf8 title
IsUtf8Line (heads attributes title) = IsUtf8 attributes × IsUtf8 title
IsUtf8Line (notes bytes) = IsUtf8 bytes
IsUtf8Line (rules attributes) = IsUtf8 attributes

abbrev AreUtf8Lines : List Line → Type 0
AreUtf8Lines ls = AllByRecursion IsUtf8Line ls

lines_append : (xs ys : List Line) → AreUtf8Lines xs → AreUtf8Lines ys → AreUtf8Lines (xs ++ ys)
lines_append [] ys a b = b
lines_append (x ∷ xs) ys a b = (a.0, lines_append xs ys a.1 b)

behind_note : (note : Option (List ℕ)) (ls : List Line) → IsUtf8Note note → AreUtf8Lines ls → AreUtf8Lines (note_lines note ++ ls)
behind_note None ls is more = more
behind_note (Some bytes) ls is more = (is, more)

lines_texts : (c : Contents) → HaveUtf8Bytes c → AreUtf8Lines (contents_lines c)
lines_texts nothing h = tt
lines_texts (link e c) h = ((h.0.attributes, h.0.title), behind_note e.note (contents_lines c) h.0.note (lines_texts c h.1))
lines_texts (folder e inside c) h = (
  (h.0.attributes, h.0.title),
  behind_note e.note (opens ∷ (contents_lines inside ++ closes ∷ contents_lines c)) h.0.note
      (tt, lines_append (contents_lines inside) (closes ∷ contents_lines c) (lines_texts inside h.1) (tt, lines_texts c h.2)),
)
lines_texts (separator a c) h = (h.0, lines_texts c h.1)

-- ---- their bytes

-- a tag with attributes, and what stands behind its `>`
tag_text : (name attributes rest : List ℕ) → IsUtf8 name → IsUtf8 attributes → IsUtf8 rest → IsUtf8 (name ++ (attributes ++ greater ∷ rest))
tag_text name attributes rest a b c =
    IsUtf8-append name (attributes ++ greater ∷ rest) a
    (IsUtf8-append attributes (greater ∷ rest) b (IsUtf8-append (greater ∷ []) rest (word_utf8 (greater ∷ []) refl) c))

core_text : (l : Line) → IsUtf8Line l → IsUtf8 (core l)
core_text opens is = word_utf8 (codes "<DL><p>") refl
core_text closes is = word_utf8 (codes "</DL><p>") refl
core_text (links attributes title) is =
    tag_text (codes "<DT><A") attributes (title ++ codes "</A>") (word_utf8 (codes "<DT><A") refl) is.0
    (IsUtf8-append title (codes "</A>") is.1 (word_utf8 (codes "</A>") refl))
core_text (heads attributes title) is =
    tag_text (codes "<DT><H3") attributes (title ++ codes "</H3>") (word_utf8 (codes "<DT><H3") refl) is.0
    (IsUtf8-append title (codes "</H3>") is.1 (word_utf8 (codes "</H3>") refl))
core_text (notes bytes) is = IsUtf8-append (codes "<DD>") bytes (word_utf8 (codes "<DD>") refl) is
core_text (rules attributes) is = tag_text (codes "<HR") attributes [] (word_utf8 (codes "<HR") refl) is IsUtf8-nil

spaces_text : (n : ℕ) → IsUtf8 (replicate n 32)
spaces_text zero = IsUtf8-nil
spaces_text (suc n) = IsUtf8-append (32 ∷ []) (replicate n 32) (word_utf8 (32 ∷ []) refl) (spaces_text n)

laid_text : (n : ℕ) (ls : List Line) → AreUtf8Lines ls → IsUtf8 (laid n ls)
laid_text n [] are = IsUtf8-nil
laid_text n (l ∷ ls) are =
    let more = laid (depth_behind n l) ls in
    IsUtf8-append (indent (depth_at n l)) (core l ++ 10 ∷ more) (spaces_text (4 * depth_at n l))
    (IsUtf8-append (core l) (10 ∷ more) (core_text l are.0)
    (IsUtf8-append (10 ∷ []) more (word_utf8 (10 ∷ []) refl) (laid_text (depth_behind n l) ls are.1)))

laid_list_text : (n : ℕ) (ls : List Line) → AreUtf8Lines ls → IsUtf8 (laid_list n ls)
laid_list_text n ls are =
    let end = indent (open_behind n ls - 1) in
    IsUtf8-append (laid n ls) (end ++ codes "</DL>") (laid_text n ls are)
    (IsUtf8-append end (codes "</DL>") (spaces_text (4 * (open_behind n ls - 1))) (word_utf8 (codes "</DL>") refl))

-- the list that is written of what stands in the outermost folder
pub list_written_text : (c : Contents) → HaveUtf8Bytes c → IsUtf8 (laid_list 0 (list_lines (tidied c)))
list_written_text c h = laid_list_text 0 (list_lines (tidied c)) (tt, lines_texts (tidied c) (tidied_texts c h))
