-- What is read of a file may stand in one.
use Rattle.std.proofs.Common.{◌≡◌, inl, inr, ℕ, Bool, true, false, not, ◌&&◌, List, [], ◌∷◌, ◌++◌, take, drop, Option, Some, None, refl, subst}
use Rattle.std.proofs.lemmas.Bool.{and_parts, cond_both}
use Rattle.std.specs.Option.{is_some}
use Rattle.std.specs.Str.{str_eq_ignore_ascii_case}
use Rattle.std.specs.Prelude.{codes}
use Rattle.hm_marks.specs.Contents.{nothing, link, folder, separator}
use Rattle.hm_marks_tokens.specs.Bytes.{has_less, is_white}
use Rattle.hm_marks_tokens.specs.Tokens.{tag, text}
use Rattle.hm_marks_tokens.specs.Attributes.{are_attributes, address_of}
use Rattle.hm_marks_tokens.specs.Symbols as symbols
use Rattle.hm_marks_tokens.specs.Symbols.{Symbol, words_of, name_len, bare_symbol, symbol_named, symbol_of, is_skipped, is_titled_behind, IsNextSymbol, here, behind, HasSymbols}
use Rattle.hm_marks_tokens.specs.Grammar.{Contents, note_symbols, HaveTags, IsListOf}
use Rattle.hm_marks_tokens.proofs.Unambiguous.{ended}
use Rattle.hm_netscape_entries.specs.Entries.{IsNoted, MayStand}
use Rattle.hm_netscape_entries.specs.Next.{IsLeft}
use Rattle.hm_netscape_entries.proofs.Left.{link_left, folder_left}

-- ---- texts

-- a symbol is no text
abbrev IsOther : List ℕ → Symbol → Type 0
IsOther w m = m ≡ symbols.words w → ⊥

bare_other : (w name : List ℕ) → IsOther w (bare_symbol name)
bare_other w name =
    cond_both (str_eq_ignore_ascii_case name (codes "dt")) _ _ (IsOther w) (λ _ e. let bad : ⊥ = cc in bad)
    (λ _. cond_both (str_eq_ignore_ascii_case name (codes "/a")) _ _ (IsOther w) (λ _ e. let bad : ⊥ = cc in bad)
    (λ _. cond_both (str_eq_ignore_ascii_case name (codes "dd")) _ _ (IsOther w) (λ _ e. let bad : ⊥ = cc in bad)
    (λ _. cond_both (str_eq_ignore_ascii_case name (codes "dl")) _ _ (IsOther w) (λ _ e. let bad : ⊥ = cc in bad)
    (λ _. cond_both (str_eq_ignore_ascii_case name (codes "/dl")) _ _ (IsOther w) (λ _ e. let bad : ⊥ = cc in bad)
    (λ _. cond_both (str_eq_ignore_ascii_case name (codes "/h3")) _ _ (IsOther w) (λ _ e. let bad : ⊥ = cc in bad)
    (λ _. cond_both (str_eq_ignore_ascii_case name (codes "p")) symbols.paragraph symbols.stray (IsOther w) (λ _ e. let bad : ⊥ = cc in bad)
    (λ _ e. let bad : ⊥ = cc in bad)))))))

named_other : (w name rest : List ℕ) → IsOther w (symbol_named name rest)
named_other w name rest =
    cond_both (str_eq_ignore_ascii_case name (codes "a")) _ _ (IsOther w) (λ _ e. let bad : ⊥ = cc in bad)
    (λ _. cond_both (str_eq_ignore_ascii_case name (codes "h3")) _ _ (IsOther w) (λ _ e. let bad : ⊥ = cc in bad)
    (λ _. cond_both (str_eq_ignore_ascii_case name (codes "hr")) _ _ (IsOther w) (λ _ e. let bad : ⊥ = cc in bad)
    (λ _. cond_both (is_white rest) (bare_symbol name) symbols.stray (IsOther w) (λ _. bare_other w name) (λ _ e. let bad : ⊥ = cc in bad))))

-- a text that is read has no `<`, and isn't of white space alone where that is skipped
pub record IsText (titled : Bool) (w : List ℕ) : Type 0 where
  pub plain : has_less w ≡ false
  pub black : (not titled && is_white w) ≡ false

pub text_sound : (titled : Bool) (bytes w more : List ℕ) → IsNextSymbol titled bytes (symbols.words w) more → IsText titled w
text_sound titled bytes w more (here {p = text v} next is stays) =
    let same : v ≡ w = cc in record { plain = subst (λ l. has_less l ≡ false) same next.may.1; black = stays }
text_sound titled bytes w more (here {p = tag inside} next is stays) = absurd (named_other w (take (name_len inside) inside) (drop (name_len inside) inside) is)
text_sound titled bytes w more (behind {more = back} next skipped symbol) = text_sound titled back w more symbol

-- ---- titles and notes

-- a title may stand, and behind the tag that ends it stand other symbols
title_sound : (t : List ℕ) (m : Symbol) (ms : List Symbol) (bytes rest : List ℕ) → HasSymbols true bytes (words_of t ++ m ∷ ms) rest
    → (has_less t ≡ false) × ((back : List ℕ) × HasSymbols (is_titled_behind true m) back ms rest)
title_sound [] m ms bytes rest has = (refl, (has.0, has.1.1))
title_sound (b ∷ t) m ms bytes rest has = ((text_sound true bytes (b ∷ t) has.0 has.1.0).plain, (has.1.1.0, has.1.1.1.1))

note_sound : (note : Option (List ℕ)) (ms : List Symbol) (bytes rest : List ℕ) → HasSymbols false bytes (note_symbols note ++ ms) rest
    → IsNoted note × ((back : List ℕ) × HasSymbols false back ms rest)
note_sound None ms bytes rest has = (tt, (bytes, has))
note_sound (Some []) ms bytes rest has = ((refl, inl refl), (has.0, has.1.1))
note_sound (Some (b ∷ w)) ms bytes rest has =
    let is = text_sound false has.0 (b ∷ w) has.1.1.0 has.1.1.1.0 in ((is.plain, inr is.black), (has.1.1.0, has.1.1.1.1))

-- ---- all

contents_sound : (c : Contents) (more : List Symbol) (bytes rest : List ℕ) → HaveTags c → IsLeft bytes c more rest
    → MayStand c × ((back : List ℕ) × HasSymbols false back more rest)
contents_sound nothing more bytes rest tags left = (tt, (left.0, left.1.1))
contents_sound (link e c) more bytes rest tags left =
    let parts = and_parts (are_attributes e.attributes) (is_some (address_of e.attributes)) tags.0 in
    let begun = link_left bytes e c more rest left in
    let title = title_sound e.title symbols.link_end (note_symbols e.note ++ ended c more) begun.behind_tag rest begun.has in
    let note = note_sound e.note (ended c more) title.1.0 rest title.1.1 in
    let behind = contents_sound c more note.1.0 rest tags.1 note.1.1 in
    ((record { entry = record { attributes = parts.0; title = title.0; note = note.0 }; address = parts.1 }, behind.0), behind.1)
contents_sound (folder e inside c) more bytes rest tags left =
    let begun = folder_left bytes e inside c more rest left in
    let title = title_sound e.title symbols.heading_end (note_symbols e.note ++ symbols.list ∷ ended inside (ended c more)) begun.behind_tag rest begun.has in
    let note = note_sound e.note (symbols.list ∷ ended inside (ended c more)) title.1.0 rest title.1.1 in
    let inner = contents_sound inside (ended c more) note.1.1.0 rest tags.1 note.1.1.1.1 in
    let behind = contents_sound c more inner.1.0 rest tags.2 inner.1.1 in
    ((record { attributes = tags.0; title = title.0; note = note.0 }, inner.0, behind.0), behind.1)
contents_sound (separator a c) more bytes rest tags left =
    let behind = contents_sound c more left.0 rest tags.1 left.1.1 in ((tags.0, behind.0), behind.1)

pub list_sound : (bytes : List ℕ) (c : Contents) (rest : List ℕ) → IsListOf bytes c rest → MayStand c
list_sound bytes c rest is = (contents_sound c [] is.has.0 rest is.sound is.has.1.1).0
