-- Bytes are read as one book, or refused for one fault.
use Rattle.std.proofs.Common.{◌≡◌, ℕ, suc, ◌+◌, ◌≤◌, ◌⊎◌, inl, inr, List, [], ◌∷◌, ◌++◌, length, refl, sym, ap, ◌∙◌, subst, arith}
use Rattle.std.specs.Prelude.{All, IsUtf8, Result, Ok, Err}
use Rattle.std.proofs.lemmas.List.{append_assoc}
use Rattle.hm_tree.specs.Nodes.{Tree, depth}
use Rattle.hm_schema.specs.Values.{OptionsValue}
use Rattle.hm_lines.specs.Unfolding.{unfolded}
use Rattle.hm_book_items.specs.ItemTrees.{IsItemTree}
use Rattle.hm_book_items.proofs.Laws.{item_tree_once}
use Rattle.hm_format.specs.declared.fault.FormatFault.{FormatFault}
use Rattle.hm_format.specs.declared.fault.FormatFault.TheVariants.{BadOption, NotUtf8, BadItem, NoKey, TooDeep, Outside, Memory}
use Rattle.hm_format.specs.Formats.{IsReadFault, deepest}
use Rattle.hm_lines_files.specs.Components.{Bytes, Layout, components, HasKey, items_of}
use Rattle.hm_lines_files.specs.Forms.{Form, shown_of}
use Rattle.hm_lines_files.specs.Files.{lines_in, AreLaidOut, MayBegin, IsMisfit, IsBadLine, IsFile, IsBook, IsKeyless, IsTooDeep, StopsAt, Reads}
use Rattle.hm_lines_files.specs.FormLaws.{IsForm}
use Rattle.hm_facts.proofs.Lists.{first_break, no_break}

-- a beginning of some lines, with the line behind it, and another one: they end at one place, or the one is in the other
abbrev IsIn : {X : Type 0} → List X → X → List X → Type 0
IsIn {X} xs x ys = (more : List X) × (ys ≡ (xs ++ x ∷ []) ++ more)

abbrev AreFronts : {X : Type 0} → List X → X → List X → X → Type 0
AreFronts xs x ys y = (length xs ≡ length ys) ⊎ (IsIn xs x ys ⊎ IsIn ys y xs)

fronts : {X : Type 0} (xs ys : List X) (x y : X) (us vs : List X) → xs ++ x ∷ us ≡ ys ++ y ∷ vs → AreFronts xs x ys y
fronts [] [] x y us vs e = inl refl
fronts [] (z ∷ ys) x y us vs e = let same : z ≡ x = cc in inr (inl (ys, ap (λ w. w ∷ ys) same))
fronts (z ∷ xs) [] x y us vs e = let same : z ≡ y = cc in inr (inr (xs, ap (λ w. w ∷ xs) same))
fronts (z ∷ xs) (w ∷ ys) x y us vs e =
    let same : z ≡ w = cc in
    let rest : xs ++ x ∷ us ≡ ys ++ y ∷ vs = cc in
    go same (fronts xs ys x y us vs rest)
  where
    go : z ≡ w → AreFronts xs x ys y → AreFronts (z ∷ xs) x (w ∷ ys) y
    go same (inl long) = inl (ap suc long)
    go same (inr (inl (more, is))) = inr (inl (more, λ i. sym same i ∷ is i))
    go same (inr (inr (more, is))) = inr (inr (more, λ i. same i ∷ is i))

module _ (f : Form) (law : IsForm f) (o : OptionsValue) where
  -- ---- lines

  module _ (lines : List Bytes) where
    pub laid_out_once : (l m : Layout) → AreLaidOut f o lines l → AreLaidOut f o lines m → l ≡ m
    laid_out_once l m a b = law.once o l m a.has b.has (sym a.are ∙ b.are)

  -- where a file may begin with lines, it may begin with fewer of them
  fewer : (xs ys : List Bytes) → MayBegin f o (xs ++ ys) → MayBegin f o xs
  fewer xs ys may = record {
    more = ys ++ may.more;
    layout = may.layout;
    are = subst (λ (ls : List Bytes). AreLaidOut f o ls may.layout) (append_assoc xs ys may.more) may.are;
  }

  -- and with a line more, where these stand in front of its lines
  with_line : (lines xs ys : List Bytes) (x : Bytes) → lines ≡ xs ++ x ∷ ys → MayBegin f o lines → MayBegin f o (xs ++ x ∷ [])
  with_line lines xs ys x stand may =
      fewer (xs ++ x ∷ []) ys (subst (MayBegin f o) (stand ∙ sym (append_assoc xs (x ∷ []) ys)) may)

  module _ (lines : List Bytes) where
    -- those of a file have no bad line
    pub none_bad : (l : Layout) (number : ℕ) → AreLaidOut f o lines l → ¬ (IsBadLine f o lines number)
    none_bad l number are (inl bad) =
        bad.misfits (record {
          more = bad.after;
          layout = l;
          are = subst (λ (ls : List Bytes). AreLaidOut f o ls l) (bad.stand ∙ sym (append_assoc bad.before (bad.line ∷ []) bad.after)) are;
        })
    none_bad l number are (inr bad) = bad.short l are

    misfit_once : (a b : ℕ) → IsMisfit f o lines a → IsMisfit f o lines b → a ≡ b
    misfit_once a b h k = go (fronts h.before k.before h.line k.line h.after k.after (sym h.stand ∙ k.stand))
      where
        go : AreFronts h.before h.line k.before k.line → a ≡ b
        go (inl long) = h.place ∙ ap (λ n. n + 1) long ∙ sym k.place
        go (inr (inl (more, is))) = absurd (h.misfits (fewer (h.before ++ h.line ∷ []) more (subst (MayBegin f o) is k.fits)))
        go (inr (inr (more, is))) = absurd (k.misfits (fewer (k.before ++ k.line ∷ []) more (subst (MayBegin f o) is h.fits)))

    -- and others one alone
    bad_once : (a b : ℕ) → IsBadLine f o lines a → IsBadLine f o lines b → a ≡ b
    bad_once a b (inl h) (inl k) = misfit_once a b h k
    bad_once a b (inl h) (inr k) = absurd (h.misfits (with_line lines h.before h.after h.line h.stand k.fits))
    bad_once a b (inr h) (inl k) = absurd (k.misfits (with_line lines k.before k.after k.line k.stand h.fits))
    bad_once a b (inr h) (inr k) = h.place ∙ sym k.place

  -- ---- files

  module _ (bytes : List ℕ) where
    pub file_once : (l m : Layout) → IsFile f o bytes l → IsFile f o bytes m → l ≡ m
    file_once l m a b = laid_out_once (lines_in bytes) l m a.are b.are

    pub book_once : (t u : Tree) → IsBook f o bytes t → IsBook f o bytes u → t ≡ u
    book_once t u h k =
        item_tree_once (items_of f.template.key (shown_of f o) (components k.layout)) t u
        (subst (λ (l : Layout). IsItemTree (items_of f.template.key (shown_of f o) (components l)) t) (file_once h.layout k.layout h.file k.file) h.tree) k.tree

    no_stop : (l : Layout) (at : ℕ) → IsFile f o bytes l → ¬ (StopsAt bytes at)
    no_stop l at file stop = stop.broken file.text

    no_bad : (l : Layout) (number : ℕ) → IsFile f o bytes l → ¬ (IsUtf8 (unfolded bytes) × IsBadLine f o (lines_in bytes) number)
    no_bad l number file bad = none_bad (lines_in bytes) l number file.are bad.1

    -- a keyless component is among those of a file
    no_key : (l : Layout) (number : ℕ) → IsFile f o bytes l → All (HasKey f.template.key) (components l) → ¬ (IsKeyless f o bytes number)
    no_key l number file keyed k =
        let all = subst (λ (l : Layout). All (HasKey f.template.key) (components l)) (file_once l k.layout file k.file) keyed in
        k.first.keyless
        (no_break (HasKey f.template.key) k.first.before k.first.after k.first.component (subst (All (HasKey f.template.key)) k.first.are all))

    keyless_once : (n m : ℕ) → IsKeyless f o bytes n → IsKeyless f o bytes m → n ≡ m
    keyless_once n m h k =
        let e = sym h.first.are ∙ ap components (file_once h.layout k.layout h.file k.file) ∙ k.first.are in
        let same = first_break (HasKey f.template.key) h.first.before k.first.before h.first.component k.first.component h.first.after k.first.after e
        h.first.keyed h.first.keyless k.first.keyed k.first.keyless in
        h.first.place ∙ ap (λ j. j + 1) same ∙ sym k.first.place

    deep_apart : (t : Tree) (d : ℕ) → IsBook f o bytes t → depth t ≤ deepest → ¬ (IsTooDeep f o bytes d)
    deep_apart t d h within k =
        let same = ap depth (book_once t k.tree h k.book) in
        let over = k.over in
        let is = k.depth_is in
        omega (arith, within, same, over, is)

    pub read_once : (r q : Result Tree FormatFault) → Reads f o bytes r → Reads f o bytes q → r ≡ q
    read_once (Err (BadOption key)) q h k = absurd h
    read_once (Err (Outside path)) q h k = absurd h
    read_once (Err Memory) q h k = absurd h
    read_once r (Err (BadOption key)) h k = absurd k
    read_once r (Err (Outside path)) h k = absurd k
    read_once r (Err Memory) h k = absurd k
    read_once (Ok t) (Ok u) h k = ap Ok (book_once t u h.0 k.0)
    read_once (Ok t) (Err (NotUtf8 at)) h k = absurd (no_stop h.0.layout at h.0.file k)
    read_once (Ok t) (Err (BadItem n)) h k = absurd (no_bad h.0.layout n h.0.file k)
    read_once (Ok t) (Err (NoKey n)) h k = absurd (no_key h.0.layout n h.0.file h.0.keyed k)
    read_once (Ok t) (Err (TooDeep d)) h k = absurd (deep_apart t d h.0 h.1 k)
    read_once (Err (NotUtf8 at)) (Ok u) h k = absurd (no_stop k.0.layout at k.0.file h)
    read_once (Err (NotUtf8 at)) (Err (NotUtf8 place)) h k = ap (λ n. Err (NotUtf8 n)) (h.place ∙ sym k.place)
    read_once (Err (NotUtf8 at)) (Err (BadItem n)) h k = absurd (h.broken k.0)
    read_once (Err (NotUtf8 at)) (Err (NoKey n)) h k = absurd (no_stop k.layout at k.file h)
    read_once (Err (NotUtf8 at)) (Err (TooDeep d)) h k = absurd (no_stop k.book.layout at k.book.file h)
    read_once (Err (BadItem n)) (Ok u) h k = absurd (no_bad k.0.layout n k.0.file h)
    read_once (Err (BadItem n)) (Err (NotUtf8 at)) h k = absurd (k.broken h.0)
    read_once (Err (BadItem n)) (Err (BadItem m)) h k = ap (λ n. Err (BadItem n)) (bad_once (lines_in bytes) n m h.1 k.1)
    read_once (Err (BadItem n)) (Err (NoKey m)) h k = absurd (no_bad k.layout n k.file h)
    read_once (Err (BadItem n)) (Err (TooDeep d)) h k = absurd (no_bad k.book.layout n k.book.file h)
    read_once (Err (NoKey n)) (Ok u) h k = absurd (no_key k.0.layout n k.0.file k.0.keyed h)
    read_once (Err (NoKey n)) (Err (NotUtf8 at)) h k = absurd (no_stop h.layout at h.file k)
    read_once (Err (NoKey n)) (Err (BadItem m)) h k = absurd (no_bad h.layout m h.file k)
    read_once (Err (NoKey n)) (Err (NoKey m)) h k = ap (λ n. Err (NoKey n)) (keyless_once n m h k)
    read_once (Err (NoKey n)) (Err (TooDeep d)) h k = absurd (no_key k.book.layout n k.book.file k.book.keyed h)
    read_once (Err (TooDeep d)) (Ok u) h k = absurd (deep_apart u d k.0 k.1 h)
    read_once (Err (TooDeep d)) (Err (NotUtf8 at)) h k = absurd (no_stop h.book.layout at h.book.file k)
    read_once (Err (TooDeep d)) (Err (BadItem n)) h k = absurd (no_bad h.book.layout n h.book.file k)
    read_once (Err (TooDeep d)) (Err (NoKey n)) h k = absurd (no_key h.book.layout n h.book.file h.book.keyed k)
    read_once (Err (TooDeep d)) (Err (TooDeep e)) h k =
        ap (λ n. Err (TooDeep n)) (h.depth_is ∙ ap depth (book_once h.tree k.tree h.book k.book) ∙ sym k.depth_is)

    pub read_faults : (fault : FormatFault) → Reads f o bytes (Err fault) → IsReadFault fault
    read_faults (BadOption key) h = absurd h
    read_faults (NotUtf8 at) h = tt
    read_faults (BadItem n) h = tt
    read_faults (NoKey n) h = tt
    read_faults (TooDeep d) h = tt
    read_faults (Outside path) h = absurd h
    read_faults Memory h = absurd h
