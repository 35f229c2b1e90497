-- White space at the end of notes goes once, and what differs by it alone is then the same.
use Rattle.std.proofs.Common.{◌≡◌, ℕ, Bool, true, false, cond, ◌&&◌, List, [], ◌∷◌, ◌++◌, Option, Some, None, refl, ap, ◌∙◌}
use Rattle.std.specs.Char.{is_ascii_whitespace}
use Rattle.std.specs.Option.{option_map}
use Rattle.std.proofs.lemmas.List.Folds.{list_all-append}
use Rattle.hm_marks.specs.Contents.{nothing, link, folder, separator}
use Rattle.hm_marks_tokens.specs.Bytes.{is_white}
use Rattle.hm_marks_tokens.specs.Grammar.{Entry, Contents}
use Rattle.hm_netscape_entries.specs.Written.{trimmed, tidied_entry, tidied, IsNoteAlike, IsEntryAlike, AreAlike, alike_nothing, alike_links, alike_folders, alike_separators}

-- ---- notes

all_trimmed : (bytes : List ℕ) → is_white bytes ≡ true → trimmed bytes ≡ []
all_trimmed [] white = refl
all_trimmed (b ∷ bytes) white = ap (λ t. cond t [] (b ∷ trimmed bytes)) white

white_trimmed : (bytes : List ℕ) → is_white (trimmed bytes) ≡ is_white bytes
white_trimmed [] = refl
white_trimmed (b ∷ bytes) = go (is_ascii_whitespace b) refl (is_white bytes) refl (white_trimmed bytes)
  where
    go : (s : Bool) → is_ascii_whitespace b ≡ s → (t : Bool) → is_white bytes ≡ t → is_white (trimmed bytes) ≡ is_white bytes
        → is_white (cond (s && t) [] (b ∷ trimmed bytes)) ≡ (s && t)
    go true e true f same = refl
    go true e false f same = ap (λ k. k && is_white (trimmed bytes)) e ∙ same ∙ f
    go false e t f same = ap (λ k. k && is_white (trimmed bytes)) e

trimmed_twice : (bytes : List ℕ) → trimmed (trimmed bytes) ≡ trimmed bytes
trimmed_twice [] = refl
trimmed_twice (b ∷ bytes) = go (is_white (b ∷ bytes)) refl (trimmed_twice bytes)
  where
    go : (t : Bool) → is_white (b ∷ bytes) ≡ t → trimmed (trimmed bytes) ≡ trimmed bytes → trimmed (cond t [] (b ∷ trimmed bytes)) ≡ cond t [] (b ∷ trimmed bytes)
    go true e more = refl
    go false e more =
        ap (λ k. cond (is_ascii_whitespace b && k) [] (b ∷ trimmed (trimmed bytes))) (white_trimmed bytes)
        ∙ ap (λ k. cond k [] (b ∷ trimmed (trimmed bytes))) e ∙ ap (λ l. b ∷ l) more

-- with more white space at its end
trimmed_longer : (bytes white : List ℕ) → is_white white ≡ true → trimmed (bytes ++ white) ≡ trimmed bytes
trimmed_longer [] white all = all_trimmed white all
trimmed_longer (b ∷ bytes) white all =
    let same : is_white (bytes ++ white) ≡ is_white bytes = list_all-append is_ascii_whitespace bytes white ∙ ap (λ t. is_white bytes && t) all ∙ both (is_white bytes) in
    ap (λ t. cond (is_ascii_whitespace b && t) [] (b ∷ trimmed (bytes ++ white))) same
    ∙ ap (λ l. cond (is_white (b ∷ bytes)) [] (b ∷ l)) (trimmed_longer bytes white all)
  where
    both : (t : Bool) → (t && true) ≡ t
    both true = refl
    both false = refl

-- ---- what stands in a folder

note_twice : (note : Option (List ℕ)) → option_map trimmed (option_map trimmed note) ≡ option_map trimmed note
note_twice None = refl
note_twice (Some bytes) = ap (λ l. Some l) (trimmed_twice bytes)

entry_twice : (e : Entry) → tidied_entry (tidied_entry e) ≡ tidied_entry e
entry_twice e = ap (λ (n : Option (List ℕ)). record { attributes = e.attributes; title = e.title; note = n }) (note_twice e.note)

pub tidied_twice : (c : Contents) → tidied (tidied c) ≡ tidied c
tidied_twice nothing = refl
tidied_twice (link e c) = λ i. link (entry_twice e i) (tidied_twice c i)
tidied_twice (folder e inside c) = λ i. folder (entry_twice e i) (tidied_twice inside i) (tidied_twice c i)
tidied_twice (separator a c) = ap (separator a) (tidied_twice c)

note_alike : (m n : Option (List ℕ)) → IsNoteAlike m n → option_map trimmed n ≡ option_map trimmed m
note_alike None None is = refl
note_alike None (Some b) is = absurd is
note_alike (Some a) None is = absurd is
note_alike (Some a) (Some b) is = ap (λ l. Some (trimmed l)) is.1.1 ∙ ap (λ l. Some l) (trimmed_longer a is.0 is.1.0)

entry_alike : (d e : Entry) → IsEntryAlike d e → tidied_entry e ≡ tidied_entry d
entry_alike d e is = λ i. record { attributes = is.attributes i; title = is.title i; note = note_alike d.note e.note is.note i }

pub tidied_alike : (c d : Contents) → AreAlike c d → tidied d ≡ tidied c
tidied_alike _ _ alike_nothing = refl
tidied_alike _ _ (alike_links {d = d} {e = e} {c = c} {rest = rest} is more) = λ i. link (entry_alike d e is i) (tidied_alike c rest more i)
tidied_alike _ _ (alike_folders {d = d} {e = e} {b = b} {inside = inside} {c = c} {rest = rest} is inner more) =
    λ i. folder (entry_alike d e is i) (tidied_alike b inside inner i) (tidied_alike c rest more i)
tidied_alike _ _ (alike_separators {a = a} {c = c} {rest = rest} more) = ap (separator a) (tidied_alike c rest more)
