-- Notes without the white space at their end may stand in a file, and show nothing else.
use Rattle.std.proofs.Common.{◌≡◌, ◌⊎◌, inl, inr, ℕ, Bool, true, false, cond, ◌&&◌, List, [], ◌∷◌, Option, Some, None, refl, ap, ◌∙◌}
use Rattle.std.specs.Bool.{◌==◌}
use Rattle.std.specs.Option.{option_map}
use Rattle.std.specs.Char.{is_ascii_whitespace}
use Rattle.std.proofs.lemmas.Bool.{or_parts}
use Rattle.hm_tree.specs.Names.{Name}
use Rattle.hm_tree.specs.Nodes.{Tree}
use Rattle.hm_marks.specs.Contents.{nothing, link, folder, separator}
use Rattle.hm_marks.specs.FolderTrees.{ShowItems, show_nothing, show_link, show_folder, hide_separator, IsContentsTree}
use Rattle.hm_marks_tokens.specs.Bytes.{less, has_less, is_white}
use Rattle.hm_marks_tokens.specs.Grammar.{Entry, Contents}
use Rattle.hm_marks_tokens.specs.Lines.{IsNote}
use Rattle.hm_netscape_entries.specs.Entries.{html, IsNoted, IsEntry, MayStand}
use Rattle.hm_netscape_entries.specs.Written.{trimmed, tidied_entry, tidied}

-- ---- notes

trimmed_plain : (bytes : List ℕ) → has_less bytes ≡ false → has_less (trimmed bytes) ≡ false
trimmed_plain [] plain = refl
trimmed_plain (b ∷ bytes) plain =
    let parts = or_parts (b == less) (has_less bytes) plain in go (is_white (b ∷ bytes)) parts.0 (trimmed_plain bytes parts.1)
  where
    go : (t : Bool) → (b == less) ≡ false → has_less (trimmed bytes) ≡ false → has_less (cond t [] (b ∷ trimmed bytes)) ≡ false
    go true first more = refl
    go false first more = rw first more

-- nothing is left where all is white space, and else not white space alone
trimmed_black : (bytes : List ℕ) → is_white bytes ≡ false → is_white (trimmed bytes) ≡ false
trimmed_black [] black = let bad : ⊥ = cc in absurd bad
trimmed_black (b ∷ bytes) black = go (is_ascii_whitespace b) refl (is_white bytes) refl black (trimmed_black bytes)
  where
    go : (s : Bool) → is_ascii_whitespace b ≡ s → (t : Bool) → is_white bytes ≡ t → (s && t) ≡ false → (is_white bytes ≡ false → is_white (trimmed bytes) ≡ false)
        → is_white (cond (s && t) [] (b ∷ trimmed bytes)) ≡ false
    go true e true f none more = let bad : ⊥ = cc in absurd bad
    go true e false f none more = ap (λ k. k && is_white (trimmed bytes)) e ∙ more f
    go false e t f none more = ap (λ k. k && is_white (trimmed bytes)) e

trimmed_note : (bytes : List ℕ) → IsNote bytes → IsNote (trimmed bytes)
trimmed_note bytes is = (trimmed_plain bytes is.0, go is.1)
  where
    go : ((bytes ≡ []) ⊎ (is_white bytes ≡ false)) → (trimmed bytes ≡ []) ⊎ (is_white (trimmed bytes) ≡ false)
    go (inl none) = inl (ap trimmed none)
    go (inr black) = inr (trimmed_black bytes black)

noted_tidied : (e : Entry) → IsNoted e.note → IsNoted (tidied_entry e).note
noted_tidied e is = go e.note is
  where
    go : (note : Option (List ℕ)) → IsNoted note → IsNoted (option_map trimmed note)
    go None is = tt
    go (Some bytes) is = trimmed_note bytes is

entry_tidied : (e : Entry) → IsEntry e → IsEntry (tidied_entry e)
entry_tidied e is = record { attributes = is.attributes; title = is.title; note = noted_tidied e is.note }

-- ---- what stands in a folder

pub tidied_sound : (c : Contents) → MayStand c → MayStand (tidied c)
tidied_sound nothing h = tt
tidied_sound (link e c) h = (record { entry = entry_tidied e h.0.entry; address = h.0.address }, tidied_sound c h.1)
tidied_sound (folder e inside c) h = (entry_tidied e h.0, tidied_sound inside h.1, tidied_sound c h.2)
tidied_sound (separator a c) h = (h.0, tidied_sound c h.1)

tidied_items : (c : Contents) (xs : List (Name × Tree)) → ShowItems html c xs → ShowItems html (tidied c) xs
tidied_items _ _ show_nothing = show_nothing
tidied_items _ _ (show_link {rest = rest} {items = xs} is m) = show_link is (tidied_items rest xs m)
tidied_items _ _ (show_folder {inside = inside} {rest = rest} {inner = inner} {items = xs} a tree is m) =
    show_folder (tidied_items inside inner a) tree is (tidied_items rest xs m)
tidied_items _ _ (hide_separator {rest = rest} {items = xs} m) = hide_separator (tidied_items rest xs m)

pub tidied_tree : (c : Contents) (t : Tree) → IsContentsTree html c t → IsContentsTree html (tidied c) t
tidied_tree c t is = record { items = is.items; show = tidied_items c is.items is.show; tree = is.tree }
