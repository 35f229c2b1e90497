-- All bytes are read as a book, or refused for a fault; and of each book that is to be written there is a text.
use Rattle.std.proofs.Common.{◌≡◌, ℕ, ◌+◌, inl, inr, T, List, [], ◌∷◌, ◌++◌, length, append_assoc, refl, sym, ap, ◌∙◌, subst}
use Rattle.std.specs.Prelude.{All, IsUtf8, Result, Ok, Err}
use Rattle.std.specs.Str.Lossy.{utf8_valid_len}
use Rattle.std.proofs.lemmas.Bool.{cases_lt}
use Rattle.std.proofs.lemmas.Str.{IsUtf8-nil}
use Rattle.std.proofs.lemmas.List.{append-nil}
use Rattle.std.proofs.lemmas.List.Elements.{All-head, All-tail}
use Rattle.hm_existence.specs.Existence.{IsThere}
use Rattle.hm_existence.proofs.Existence.{from_one, as_there, by_cases, all_or_first}
use Rattle.hm_tree.specs.Names.{Name}
use Rattle.hm_tree.specs.Nodes.{Tree, depth, are_texts, both}
use Rattle.hm_tree.proofs.Texts.{text_test}
use Rattle.hm_schema.specs.Values.{OptionsValue}
use Rattle.hm_lines.specs.Unfolding.{unfolded}
use Rattle.hm_lines.specs.Folding.{AreFolded}
use Rattle.hm_lines.proofs.Laws.{all_folded_there}
use Rattle.hm_book_items.proofs.Contents.{some_tree}
use Rattle.hm_book_cards.specs.Cards.{Shown}
use Rattle.hm_book_cards.specs.Books as books
use Rattle.hm_lines_cards.specs.Lines.{Line, IsLine, texts_of}
use Rattle.hm_lines_cards.proofs.Laws.{texts_utf8}
use Rattle.hm_format.specs.declared.fault.FormatFault.{FormatFault}
use Rattle.hm_format.specs.declared.fault.FormatFault.TheVariants.{NotUtf8, BadItem, NoKey, TooDeep}
use Rattle.hm_format.specs.Formats.{deepest}
use Rattle.hm_lines_files.specs.Components.{Bytes, Component, Layout, all_lines, components, HasKey, first_name, key_of, items_of}
use Rattle.hm_lines_files.specs.Rewriting.{rewritten_layout}
use Rattle.hm_lines_files.specs.Forms.{Form, shown_of}
use Rattle.hm_lines_files.specs.Files.{lines_in, AreLaidOut, MayBegin, IsFile, IsBook, Reads}
use Rattle.hm_lines_files.specs.Writing.{IsWrittenAnew, Writes, stays, anew}
use Rattle.hm_lines_files.specs.FormLaws.{IsForm}
use Rattle.hm_lines_files.proofs.FullLines.{full_all}
use Rattle.hm_lines_files.proofs.PieceLines.{in_components, file_lines}
use Rattle.hm_lines_files.proofs.Rewritings.{new_lines}

-- ---- keys

first_utf8 : (names : List Name) → All IsUtf8 names → IsUtf8 (first_name names)
first_utf8 [] all = IsUtf8-nil
first_utf8 (k ∷ ks) all = All-head IsUtf8 k ks all

-- lines whose parts are known, of UTF-8
abbrev AreTexts : Component → Type 0
AreTexts c = All IsLine c.lines × All (λ (l : Line). IsUtf8 l.0) c.lines

keys_text : (key : Name) (shown : Shown) (cs : List Component) → All AreTexts cs → T (are_texts (items_of key shown cs))
keys_text key shown [] texts = tt
keys_text key shown (c ∷ cs) texts =
    let here = All-head AreTexts c cs texts in
    both _ _ (text_test (key_of key c) (first_utf8 (texts_of key c.lines) (texts_utf8 key c.lines here.0 here.1)))
    (keys_text key shown cs (All-tail AreTexts c cs texts))

module _ (f : Form) (law : IsForm f) (o : OptionsValue) where
  -- ---- reading

  module _ (bytes : List ℕ) where
    abbrev Answers : Result Tree FormatFault → Type 0
    Answers = Reads f o bytes

    module _ (l : Layout) (file : IsFile f o bytes l) where
      texts : All AreTexts (components l)
      texts = λ i d lt. (
        law.lines o _ (law.fit o l file.are.has i d lt),
        in_components IsUtf8 l (λ k d lt. (file_lines f law o bytes l file k d lt).1) i d lt,
      )

      keyed_there : All (HasKey f.template.key) (components l) → IsThere Answers
      keyed_there has =
          let made = some_tree (items_of f.template.key (shown_of f o) (components l)) (keys_text f.template.key (shown_of f o) (components l) texts) in
          let book : IsBook f o bytes made.0 = record { layout = l; file = file; keyed = has; tree = made.1 } in
          elim (cases_lt deepest (depth made.0)) [
            | inl over ↦ from_one Answers (Err (TooDeep (depth made.0))) (record { tree = made.0; book = book; depth_is = refl; over = over })
            | inr within ↦ from_one Answers (Ok made.0) (book, within)
          ]

      layout_there : IsThere Answers
      layout_there =
          all_or_first Answers (HasKey f.template.key) (components l) keyed_there
          (λ before c after are has keyless. from_one Answers (Err (NoKey (length before + 1))) (record {
            layout = l;
            file = file;
            first = record { before = before; component = c; after = after; are = are; keyed = has; keyless = keyless; place = refl };
          }))

    module _ (text : IsUtf8 (unfolded bytes)) where
      whole_there : MayBegin f o (lines_in bytes) → IsThere Answers
      whole_there fits =
          by_cases Answers ((l : Layout) × AreLaidOut f o (lines_in bytes) l)
          (λ laid. layout_there laid.0 (record { text = text; are = laid.1 }))
          (λ none. from_one Answers (Err (BadItem (length (lines_in bytes) + 1)))
          (text, inr (record { fits = fits; short = λ l are. none (l, are); place = refl })))

      -- a file may begin with all lines, or with those before one, and not with it too
      lines_there : (before after : List Bytes) → lines_in bytes ≡ before ++ after → MayBegin f o before → IsThere Answers
      lines_there before [] stand fits = whole_there (subst (MayBegin f o) (sym (stand ∙ append-nil before)) fits)
      lines_there before (line ∷ after) stand fits =
          by_cases Answers (MayBegin f o (before ++ line ∷ []))
          (λ further. lines_there (before ++ line ∷ []) after (stand ∙ sym (append_assoc before (line ∷ []) after)) further)
          (λ misfits. from_one Answers (Err (BadItem (length before + 1))) (
            text,
            inl (record {
              before = before;
              line = line;
              after = after;
              stand = stand;
              fits = fits;
              misfits = misfits;
              place = refl;
            }),
          ))

      nothing_fits : MayBegin f o []
      nothing_fits =
          let some = law.some o in
          record {
            more = all_lines some.0;
            layout = some.0;
            are = record { has = some.1; are = full_all (all_lines some.0) (law.full o some.0 some.1) };
          }

      text_there : IsThere Answers
      text_there = lines_there [] (lines_in bytes) refl nothing_fits

    pub some_read : IsThere Answers
    some_read =
        by_cases Answers (IsUtf8 (unfolded bytes)) text_there
        (λ broken. from_one Answers (Err (NotUtf8 (utf8_valid_len (unfolded bytes)))) (record { broken = broken; place = refl }))

  -- ---- writing

  module _ (before : List ℕ) (l : Layout) (file : IsFile f o before l) (keyed : All (HasKey f.template.key) (components l)) (t : Tree)
      (book : books.IsBook (shown_of f o) t) where
    new : Layout
    new = rewritten_layout f.template (shown_of f o) book.lists l

    new_utf8 : All IsUtf8 (all_lines new)
    unfolding new
    new_utf8 = λ k d lt. (new_lines f law o l file.are.has keyed (file_lines f law o before l file) t book.lists book.below book k d lt).1

    is_anew : (after : List ℕ) → AreFolded (all_lines new) after → IsWrittenAnew f o t before after
    unfolding new
    is_anew after folded = record {
      old = l;
      are = file.are;
      new = new;
      rewritten = record { lists = book.lists; below = book.below; is = refl };
      text = folded;
    }

    pub some_written : IsThere (Writes f o t before)
    some_written =
        by_cases (Writes f o t before) (Reads f o before (Ok t)) (λ read. from_one (Writes f o t before) before (stays read))
        (λ other. as_there (AreFolded (all_lines new)) (Writes f o t before) (λ after. after) (all_folded_there (all_lines new) new_utf8)
        (λ after folded. anew other (is_anew after folded)))
