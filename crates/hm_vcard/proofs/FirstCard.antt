-- The card in front of lines, or the line at which it stops.
use Rattle.std.proofs.Common.{◌≡◌, ◌≢◌, ℕ, suc, ◌+◌, ◌≤◌, Bool, true, false, List, [], ◌∷◌, ◌++◌, length, take, drop, slice_get, Some, refl, sym, ap, ◌∙◌, subst, arith}
use Rattle.std.specs.Prelude.{All}
use Rattle.std.proofs.lemmas.List.{append_assoc, length-map, length-take-le, take-map, take_all}
use Rattle.std.proofs.lemmas.List.Elements.{All-nil, All-head, All-take}
use Rattle.std.proofs.Math.Seq.{take-take}
use Rattle.hm_lines_cards.specs.Lines.{Line, AreFew, IsFirstSecond}
use Rattle.hm_lines_cards.specs.Lent.{plain}
use Rattle.hm_vcard.specs.Cards.{CardLines, IsProperty, IsCard, is_line, begin_line, version_line, end_line, single, lines_of}
use Rattle.hm_lines_files.specs.Components.{Bytes}
use Rattle.hm_vcard.specs.Opening.{Opens, StopsCard, IsInFront, EndsAt}
use Rattle.hm_vcard.proofs.Frames.{end_other}
use Rattle.hm_vcard.proofs.Fronts.{in_front, fewer, got_behind, taken_front, less_taken, got_front}
use Rattle.hm_facts.proofs.Lists.{behind, split_at}

both : (b : Bool) → b ≡ true → b ≡ false → ⊥
both b e f = let bad : ⊥ = cc in bad

-- a card with these lines and an end
abbrev pub ended : Bytes → Bytes → List Line → Bytes → CardLines
ended b v ps e = record { begin = b; version = v; properties = ps; end = e }

pub is_ended : (b v : Bytes) (ps : List Line) (e : Bytes) → is_line begin_line b ≡ true → is_line version_line v ≡ true → All IsProperty ps → AreFew single ps
    → is_line end_line e ≡ true → IsCard (ended b v ps e)
is_ended b v ps e begins versioned all few ends = record { begins = begins; versioned = versioned; properties = all; ends = ends; few = few }

none_few : AreFew single []
none_few = λ i d lt e. omega arith

no_properties : All IsProperty []
no_properties = All-nil IsProperty

-- ---- it doesn't begin

module _ (lines : List Bytes) (no : (line : Bytes) → slice_get lines 0 ≡ Some line → is_line begin_line line ≡ false) where
  begins_no : (L : List Bytes) (card : CardLines) (rest : List Bytes) → IsCard card → slice_get L 0 ≡ slice_get lines 0 → L ≢ lines_of card ++ rest
  begins_no L card rest is same e =
      both (is_line begin_line card.begin) is.begins (no card.begin (sym same ∙ ap (λ (l : List Bytes). slice_get l 0) e))

  pub stops_at_begin : StopsCard lines 0
  stops_at_begin = record {
    within = omega arith;
    fits = record {
      more = lines_of (ended begin_line version_line [] end_line);
      card = ended begin_line version_line [] end_line;
      is = is_ended begin_line version_line [] end_line refl refl no_properties none_few refl;
      are = refl;
    };
    next = λ lt card rest more is e. begins_no (take 1 lines ++ more) card rest is (got_front 0 lines more lt) e;
    end = λ card rest is e. begins_no lines card rest is refl e;
  }

-- ---- it has no version

module _ (b : Bytes) (xs : List Bytes) (begins : is_line begin_line b ≡ true)
    (no : (line : Bytes) → slice_get xs 0 ≡ Some line → is_line version_line line ≡ false) where
  version_no : (L : List Bytes) (card : CardLines) (rest : List Bytes) → IsCard card → slice_get L 0 ≡ slice_get xs 0 → b ∷ L ≢ lines_of card ++ rest
  version_no L card rest is same e =
      let later : L ≡ card.version ∷ ((plain card.properties ++ card.end ∷ []) ++ rest) = cc in
      both (is_line version_line card.version) is.versioned (no card.version (sym same ∙ ap (λ (l : List Bytes). slice_get l 0) later))

  pub stops_at_version : StopsCard (b ∷ xs) 1
  stops_at_version = record {
    within = omega arith;
    fits = record {
      more = version_line ∷ end_line ∷ [];
      card = ended b version_line [] end_line;
      is = is_ended b version_line [] end_line begins refl no_properties none_few refl;
      are = refl;
    };
    next = λ lt card rest more is e. version_no (take 1 xs ++ more) card rest is (got_front 0 xs more (omega (arith, lt))) e;
    end = λ card rest is e. version_no xs card rest is refl e;
  }

-- ---- behind both

module _ (b v : Bytes) (xs : List Bytes) (begins : is_line begin_line b ≡ true) (versioned : is_line version_line v ≡ true) (ps : List Line)
    (all : All IsProperty ps) (front : plain ps ≡ take (length ps) xs) (short : length ps ≤ length xs) where
  long_plain : length (plain ps) ≡ length ps
  long_plain = length-map ps (λ (l : Line). l.0)

  tail_of : (L : List Bytes) (card : CardLines) (rest : List Bytes) → b ∷ v ∷ L ≡ lines_of card ++ rest → L ≡ plain card.properties ++ card.end ∷ rest
  tail_of L card rest e =
      let later : L ≡ (plain card.properties ++ card.end ∷ []) ++ rest = cc in
      later ∙ append_assoc (plain card.properties) (card.end ∷ []) rest

  front_of : (k : ℕ) → k ≤ length ps → take k xs ≡ plain (take k ps)
  front_of k le = sym (take-take k (length ps) xs le) ∙ ap (take k) (sym front) ∙ take-map (λ (l : Line). l.0) k ps

  -- the lines up to a place of the properties are those of a card
  opens : (k : ℕ) → k ≤ length ps → AreFew single (take k ps) → Opens (b ∷ v ∷ take k xs)
  opens k le few = record {
    more = end_line ∷ [];
    card = ended b v (take k ps) end_line;
    is = is_ended b v (take k ps) end_line begins versioned (All-take IsProperty k ps all) few refl;
    are = ap (λ (l : List Bytes). b ∷ v ∷ (l ++ end_line ∷ [])) (front_of k le);
  }

  -- as it's counted from the first line
  two_more : (k : ℕ) → take (k + 2) (b ∷ v ∷ xs) ≡ b ∷ v ∷ take k xs
  two_more k = let e : k + 2 ≡ suc (suc k) = omega arith in ap (λ n. take n (b ∷ v ∷ xs)) e

  three_more : (k : ℕ) → take (k + 2 + 1) (b ∷ v ∷ xs) ≡ b ∷ v ∷ take (suc k) xs
  three_more k = let e : k + 2 + 1 ≡ suc (suc (suc k)) = omega arith in ap (λ n. take n (b ∷ v ∷ xs)) e

  -- ---- a second text that may not be

  module _ (k : ℕ) (second : IsFirstSecond single ps k) where
    many_no : (L : List Bytes) (card : CardLines) (rest : List Bytes) → IsCard card → take (suc k) L ≡ take (suc k) xs
        → L ≢ plain card.properties ++ card.end ∷ rest
    many_no L card rest is same e =
        let within = second.within in
        let long = length-take-le (suc k) ps (omega (arith, within)) in
        let t = ap (λ n. take n (plain card.properties ++ card.end ∷ rest)) long
        ∙ ap (take (suc k)) (sym e) ∙ same ∙ front_of (suc k) (omega (arith, within)) in
        let r = in_front (take (suc k) ps) card.properties card.end rest (All-take IsProperty (suc k) ps all) is.properties (end_other card.end is.ends) t in
        let next : suc k ≡ k + 1 = omega arith in
        second.many
        (subst (λ n. AreFew single (take n ps)) next
        (fewer single (take (suc k) ps) r.0 (subst (AreFew single) r.1 is.few)))

    pub stops_at_second : StopsCard (b ∷ v ∷ xs) (k + 2)
    stops_at_second =
        let within = second.within in
        record {
          within = omega (arith, within, short);
          fits = subst Opens (sym (two_more k)) (opens k (omega (arith, within)) second.before);
          next = λ lt card rest more is e.
              many_no (take (suc k) xs ++ more) card rest is (taken_front (suc k) xs more (omega (arith, within, short)))
              (tail_of (take (suc k) xs ++ more) card rest (sym (ap (λ (l : List Bytes). l ++ more) (three_more k)) ∙ e));
          end = λ card rest is e. many_no xs card rest is refl (tail_of xs card rest e);
        }

  -- ---- no end

  module _ (few : AreFew single ps) (all_there : EndsAt xs (length ps))
      (no : (line : Bytes) → slice_get xs (length ps) ≡ Some line → is_line end_line line ≡ false) where
    behind_no : (more : List Line) (card : CardLines) (rest : List Bytes) → IsCard card → card.properties ≡ ps ++ more
        → slice_get xs (length ps) ≡ slice_get (plain more ++ card.end ∷ rest) 0 → ⊥
    behind_no [] card rest is e at = both (is_line end_line card.end) is.ends (no card.end at)
    behind_no (m ∷ more) card rest is e at =
        all_there m.0 at m.1 (All-head IsProperty m more (behind IsProperty ps (m ∷ more) (subst (All IsProperty) e is.properties)))

    end_no : (L : List Bytes) (card : CardLines) (rest : List Bytes) → IsCard card → take (length ps) L ≡ take (length ps) xs
        → slice_get L (length ps) ≡ slice_get xs (length ps) → L ≢ plain card.properties ++ card.end ∷ rest
    end_no L card rest is same at e =
        let t = ap (take (length ps)) (sym e) ∙ same ∙ sym front in
        let r = in_front ps card.properties card.end rest all is.properties (end_other card.end is.ends) t in
        behind_no r.0 card rest is r.1
        (sym at ∙ ap (λ (l : List Bytes). slice_get l (length ps)) e
        ∙ ap (λ (cs : List Line). slice_get (plain cs ++ card.end ∷ rest) (length ps)) r.1
        ∙ got_behind ps r.0 (card.end ∷ rest))

    pub stops_at_end : StopsCard (b ∷ v ∷ xs) (length ps + 2)
    stops_at_end = record {
      within = omega (arith, short);
      fits = subst Opens (sym (two_more (length ps))) (opens (length ps) (omega arith) (subst (AreFew single) (sym (take_all (length ps) ps (omega arith))) few));
      next = λ lt card rest more is e.
          end_no (take (suc (length ps)) xs ++ more) card rest is (less_taken (length ps) xs more (omega (arith, lt))) (got_front (length ps) xs more (omega (arith, lt)))
          (tail_of (take (suc (length ps)) xs ++ more) card rest (sym (ap (λ (l : List Bytes). l ++ more) (three_more (length ps))) ∙ e));
      end = λ card rest is e. end_no xs card rest is refl refl (tail_of xs card rest e);
    }

  -- ---- a card

  pub is_first : (e : Bytes) → AreFew single ps → slice_get xs (length ps) ≡ Some e → is_line end_line e ≡ true
      → IsInFront (b ∷ v ∷ xs) (ended b v ps e)
  is_first e few at ends = record {
    is = is_ended b v ps e begins versioned all few ends;
    rest = drop (suc (length ps)) xs;
    are = ap (λ (l : List Bytes). b ∷ v ∷ l)
        (split_at (length ps) xs e at ∙ ap (λ (l : List Bytes). l ++ e ∷ drop (suc (length ps)) xs) (sym front)
        ∙ sym (append_assoc (plain ps) (e ∷ []) (drop (suc (length ps)) xs)));
  }
