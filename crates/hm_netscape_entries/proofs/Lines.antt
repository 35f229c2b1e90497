-- What stands in a folder as lines; and lines that are alike to these are those of what is alike.
use Rattle.std.proofs.Common.{◌≡◌, ◌⊎◌, inl, inr, ℕ, true, false, List, [], ◌∷◌, ◌++◌, Option, Some, None, refl, sym, ap, ◌∙◌}
use Rattle.std.specs.List.{AllByRecursion, AllZip}
use Rattle.std.specs.Option.{is_some}
use Rattle.std.proofs.lemmas.Bool.{and_from}
use Rattle.std.proofs.lemmas.List.{append_assoc}
use Rattle.hm_marks.specs.Contents.{nothing, link, folder, separator}
use Rattle.hm_marks_tokens.specs.Bytes.{is_white}
use Rattle.hm_marks_tokens.specs.Attributes.{are_attributes, address_of, attributes_of}
use Rattle.hm_marks_tokens.specs.Symbols as symbols
use Rattle.hm_marks_tokens.specs.Symbols.{Symbol, words_of}
use Rattle.hm_marks_tokens.specs.Grammar.{Entry, Contents, note_symbols, HaveTags}
use Rattle.hm_marks_tokens.specs.Lines.{Line, opens, closes, links, heads, notes, rules, symbols_of, AreBehindName, IsNote, IsLine, longer, IsAlike}
use Rattle.hm_marks_tokens.proofs.AllAttributes.{found_attributes}
use Rattle.hm_marks_tokens.proofs.Attributed.{attributes_stand}
use Rattle.hm_marks_tokens.proofs.Spelled.{white_plain, plain_append, black_append}
use Rattle.hm_marks_tokens.proofs.Unambiguous.{ended, link_parts, folder_parts}
use Rattle.hm_netscape_entries.specs.Entries.{IsNoted, MayStand}
use Rattle.hm_netscape_entries.specs.Written.{note_lines, contents_lines, IsNoteAlike, AreAlike, alike_nothing, alike_links, alike_folders, alike_separators}

-- ---- lines that can be written

attributes_behind : (bytes : List ℕ) → are_attributes bytes ≡ true → AreBehindName bytes
attributes_behind bytes are = attributes_stand bytes (attributes_of bytes).0 (attributes_of bytes).1 (found_attributes bytes are)

all_append : (xs ys : List Line) → AllByRecursion IsLine xs → AllByRecursion IsLine ys → AllByRecursion IsLine (xs ++ ys)
all_append [] ys a b = b
all_append (x ∷ xs) ys a b = (a.0, all_append xs ys a.1 b)

noted : (note : Option (List ℕ)) → IsNoted note → AllByRecursion IsLine (note_lines note)
noted None is = tt
noted (Some bytes) is = (is, tt)

pub lines_stand : (c : Contents) → MayStand c → AllByRecursion IsLine (contents_lines c)
lines_stand nothing h = tt
lines_stand (link e c) h = (
  (attributes_behind e.attributes h.0.entry.attributes, h.0.entry.title),
  all_append (note_lines e.note) (contents_lines c) (noted e.note h.0.entry.note) (lines_stand c h.1),
)
lines_stand (folder e inside c) h = (
  (attributes_behind e.attributes h.0.attributes, h.0.title),
  all_append (note_lines e.note) (opens ∷ (contents_lines inside ++ closes ∷ contents_lines c)) (noted e.note h.0.note)
      (tt, all_append (contents_lines inside) (closes ∷ contents_lines c) (lines_stand inside h.1) (tt, lines_stand c h.2)),
)
lines_stand (separator a c) h = (attributes_behind a h.0, lines_stand c h.1)

-- ---- their symbols are those of the grammar

titled_end : (t : List ℕ) (m : Symbol) (ms : List Symbol) → (words_of t ++ m ∷ []) ++ ms ≡ words_of t ++ m ∷ ms
titled_end t m ms = append_assoc (words_of t) (m ∷ []) ms

note_are : (note : Option (List ℕ)) (xs ls : List Line) → symbols_of ((note_lines note ++ xs) ++ ls) ≡ note_symbols note ++ symbols_of (xs ++ ls)
note_are None xs ls = refl
note_are (Some bytes) xs ls = refl

pub lines_are : (c : Contents) (ls : List Line) → symbols_of (contents_lines c ++ closes ∷ ls) ≡ ended c (symbols_of ls)
lines_are nothing ls = refl
lines_are (link e c) ls =
    ap (λ ms. symbols.entry ∷ symbols.link e.attributes ∷ ms)
    (titled_end e.title symbols.link_end (symbols_of ((note_lines e.note ++ contents_lines c) ++ closes ∷ ls))
    ∙ ap (λ ms. words_of e.title ++ symbols.link_end ∷ ms)
    (note_are e.note (contents_lines c) (closes ∷ ls) ∙ ap (λ ms. note_symbols e.note ++ ms) (lines_are c ls)))
    ∙ sym (link_parts e c (symbols_of ls))
lines_are (folder e inside c) ls =
    ap (λ ms. symbols.entry ∷ symbols.heading e.attributes ∷ ms)
    (titled_end e.title symbols.heading_end (symbols_of ((note_lines e.note ++ opens ∷ (contents_lines inside ++ closes ∷ contents_lines c)) ++ closes ∷ ls))
    ∙ ap (λ ms. words_of e.title ++ symbols.heading_end ∷ ms)
    (note_are e.note (opens ∷ (contents_lines inside ++ closes ∷ contents_lines c)) (closes ∷ ls)
    ∙ ap (λ ms. note_symbols e.note ++ symbols.list ∷ ms)
    (ap symbols_of (append_assoc (contents_lines inside) (closes ∷ contents_lines c) (closes ∷ ls))
    ∙ lines_are inside (contents_lines c ++ closes ∷ ls) ∙ ap (ended inside) (lines_are c ls))))
    ∙ sym (folder_parts e inside c (symbols_of ls))
lines_are (separator a c) ls = ap (λ ms. symbols.rule a ∷ ms) (lines_are c ls)

pub have_tags : (c : Contents) → MayStand c → HaveTags c
have_tags nothing h = tt
have_tags (link e c) h =
    (and_from (are_attributes e.attributes) (is_some (address_of e.attributes)) h.0.entry.attributes h.0.address, have_tags c h.1)
have_tags (folder e inside c) h = (h.0.attributes, have_tags inside h.1, have_tags c h.2)
have_tags (separator a c) h = (h.0, have_tags c h.1)

-- ---- a note

pub record IsNoteFound (note : Option (List ℕ)) (found : List Line) : Type 0 where
  pub new : Option (List ℕ)
  pub are : found ≡ note_lines new
  pub alike : IsNoteAlike note new
  pub sound : IsNoted new

-- a line that is alike to a note is one, with more white space at its end
record IsLonger (bytes : List ℕ) (l : Line) : Type 0 where
  new : List ℕ
  is : l ≡ notes new
  sound : IsNote new
  white : List ℕ
  blank : is_white white ≡ true
  new_is : new ≡ bytes ++ white

longer_note : (bytes white : List ℕ) → IsNote bytes → is_white white ≡ true → IsLonger bytes (longer white (notes bytes))
longer_note [] white is w = record { new = []; is = refl; sound = is; white = []; blank = refl; new_is = refl }
longer_note (b ∷ bytes) white is w =
    record {
      new = (b ∷ bytes) ++ white;
      is = refl;
      sound = (plain_append (b ∷ bytes) white is.0 (white_plain white w), inr (black_append (b ∷ bytes) white (black is.1)));
      white = white;
      blank = w;
      new_is = refl;
    }
  where
    black : ((b ∷ bytes ≡ []) ⊎ (is_white (b ∷ bytes) ≡ false)) → is_white (b ∷ bytes) ≡ false
    black (inl none) = let bad : ⊥ = cc in absurd bad
    black (inr is) = is

note_found : (note : Option (List ℕ)) (found : List Line) → IsNoted note → AllZip IsAlike (note_lines note) found → IsNoteFound note found
note_found None [] is alike = record { new = None; are = refl; alike = tt; sound = tt }
note_found None (l ∷ found) is alike = absurd alike
note_found (Some bytes) [] is alike = absurd alike
note_found (Some bytes) (l ∷ []) is alike =
    let r = longer_note bytes alike.0.0 is alike.0.1.0 in
    record { new = Some r.new; are = ap (λ (k : Line). k ∷ []) (alike.0.1.1 ∙ r.is); alike = (r.white, (r.blank, r.new_is)); sound = r.sound }
note_found (Some bytes) (l ∷ m ∷ found) is alike = absurd alike.1

-- ---- all lines

-- lines that are alike to two lists of lines, one behind the other
pub record IsSplit (xs ys found : List Line) : Type 0 where
  pub front : List Line
  pub back : List Line
  pub are : found ≡ front ++ back
  pub alike_front : AllZip IsAlike xs front
  pub alike_back : AllZip IsAlike ys back

split : (xs ys found : List Line) → AllZip IsAlike (xs ++ ys) found → IsSplit xs ys found
split [] ys found alike = record { front = []; back = found; are = refl; alike_front = tt; alike_back = alike }
split (x ∷ xs) ys [] alike = absurd alike
split (x ∷ xs) ys (l ∷ found) alike =
    let r = split xs ys found alike.1 in
    record { front = l ∷ r.front; back = r.back; are = ap (λ k. l ∷ k) r.are; alike_front = (alike.0, r.alike_front); alike_back = r.alike_back }

-- and to one line and others behind it, where the line itself is no note
pub record IsHeaded (x : Line) (ys found : List Line) : Type 0 where
  pub back : List Line
  pub are : found ≡ x ∷ back
  pub alike : AllZip IsAlike ys back

pub headed : (x : Line) → ((white : List ℕ) → longer white x ≡ x) → (ys found : List Line) → AllZip IsAlike (x ∷ ys) found → IsHeaded x ys found
headed x same ys [] alike = absurd alike
headed x same ys (l ∷ found) alike = record { back = found; are = ap (λ k. k ∷ found) (alike.0.1.1 ∙ same alike.0.0); alike = alike.1 }

-- lines are those of what is alike
pub record IsFound (c : Contents) (found : List Line) : Type 0 where
  pub new : Contents
  pub are : found ≡ contents_lines new
  pub alike : AreAlike c new
  pub sound : MayStand new

with_note : Entry → Option (List ℕ) → Entry
with_note e note = record { attributes = e.attributes; title = e.title; note = note }

pub contents_found : (c : Contents) (found : List Line) → MayStand c → AllZip IsAlike (contents_lines c) found → IsFound c found
unfolding with_note
contents_found nothing [] h alike = record { new = nothing; are = refl; alike = alike_nothing; sound = tt }
contents_found nothing (l ∷ found) h alike = absurd alike
contents_found (link e c) found h alike =
    let x = links e.attributes e.title in
    let first = headed x (λ white. refl) (note_lines e.note ++ contents_lines c) found alike in
    let p = split (note_lines e.note) (contents_lines c) first.back first.alike in
    let n = note_found e.note p.front h.0.entry.note p.alike_front in
    let r = contents_found c p.back h.1 p.alike_back in
    record {
      new = link (with_note e n.new) r.new;
      are = first.are ∙ ap (λ ls. x ∷ ls) (p.are ∙ (λ i. n.are i ++ r.are i));
      alike = alike_links (record { attributes = refl; title = refl; note = n.alike }) r.alike;
      sound = (record { entry = record { attributes = h.0.entry.attributes; title = h.0.entry.title; note = n.sound }; address = h.0.address }, r.sound);
    }
contents_found (folder e inside c) found h alike =
    let x = heads e.attributes e.title in
    let lines = contents_lines inside ++ closes ∷ contents_lines c in
    let first = headed x (λ white. refl) (note_lines e.note ++ opens ∷ lines) found alike in
    let p = split (note_lines e.note) (opens ∷ lines) first.back first.alike in
    let n = note_found e.note p.front h.0.note p.alike_front in
    let opened = headed opens (λ white. refl) lines p.back p.alike_back in
    let q = split (contents_lines inside) (closes ∷ contents_lines c) opened.back opened.alike in
    let d = contents_found inside q.front h.1 q.alike_front in
    let closed = headed closes (λ white. refl) (contents_lines c) q.back q.alike_back in
    let r = contents_found c closed.back h.2 closed.alike in
    record {
      new = folder (with_note e n.new) d.new r.new;
      are =
          first.are ∙ ap (λ ls. x ∷ ls)
          (p.are ∙ (λ i. n.are i ++ (opened.are ∙ ap (λ ls. opens ∷ ls) (q.are ∙ (λ j. d.are j ++ (closed.are ∙ ap (λ ls. closes ∷ ls) r.are) j))) i));
      alike = alike_folders (record { attributes = refl; title = refl; note = n.alike }) d.alike r.alike;
      sound = (record { attributes = h.0.attributes; title = h.0.title; note = n.sound }, d.sound, r.sound);
    }
contents_found (separator a c) found h alike =
    let first = headed (rules a) (λ white. refl) (contents_lines c) found alike in
    let r = contents_found c first.back h.1 first.alike in
    record {
      new = separator a r.new;
      are = first.are ∙ ap (λ ls. rules a ∷ ls) r.are;
      alike = alike_separators r.alike;
      sound = (h.0, r.sound);
    }
