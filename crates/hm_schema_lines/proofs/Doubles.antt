-- Names that stand twice.
use Rattle.std.proofs.Common.{◌≡◌, ℕ, ◌+◌, ◌<◌, ◌≤◌, true, false, List, [], ◌∷◌, ◌++◌, length, take, Option, Some, None, is_some, refl, sym, ap, ◌∙◌, slice_get, arith, add-one}
use Rattle.std.proofs.lemmas.Grind.{common_steps}
use Rattle.std.proofs.lemmas.Option.{gets, slice_get_within}
use Rattle.indexmap.specs.IndexMap.{get_by_text}
use Rattle.std.proofs.lemmas.List.{length-take}
use Rattle.hm_tree.specs.Names.{Name}
use Rattle.hm_tree.proofs.Kept.{take_more}
use Rattle.hm_schema_lines.specs.BadLines.{HasDouble}
use Rattle.hm_schema_lines.specs.Firsts.{place_in, kept_first, AreFirsts, FirstPlaces}
use Rattle.hm_schema_lines.proofs.Places.{place_next, name_at, name_nowhere}

-- ---- names that stand twice

taken : (ns : List Name) (n i : ℕ) → i < n → slice_get (take n ns) i ≡ slice_get ns i
taken ns n i below = grind (arith, common_steps, gets)

-- a table of the names at the front, of which none stands twice
pub record AreSingle (names : List Name) (table : FirstPlaces) (n : ℕ) : Type 0 where
  pub firsts : AreFirsts table (take n names)
  pub single : (i j : ℕ) (k : Name) → i < j → j < n → slice_get names i ≡ Some k → slice_get names j ≡ Some k → ⊥

module _ (names : List Name) (table : FirstPlaces) (n : ℕ) (h : AreSingle names table n) where
  pub no_double : length names ≤ n → HasDouble names → ⊥
  no_double all d = h.single d.0 d.1 d.2 d.3 (let l = slice_get_within names d.1 d.2 d.5 in omega arith) d.4 d.5

  module _ (name : Name) (is : slice_get names n ≡ Some name) where
    -- a name that has a place stands there too
    pub double : is_some (get_by_text table name) ≡ true → HasDouble names
    double found = go (get_by_text table name) refl found
      where
        go : (o : Option ℕ) → get_by_text table name ≡ o → is_some o ≡ true → HasDouble names
        go None is_none some = let f : ⊥ = cc in absurd f
        go (Some p) at_place some =
            let there = name_at name (take n names) p (sym (h.firsts name) ∙ at_place) in
            let l = length-take n names in
            let within = slice_get_within (take n names) p name there in
            let below : p < n = omega arith in
            (p, n, name, below, sym (taken names n p below) ∙ there, is)

    -- one that has none joins those before it
    pub single_next : is_some (get_by_text table name) ≡ false → (new : FirstPlaces)
        → ((q : Name) → get_by_text new q ≡ kept_first (get_by_text table q) q name n) → AreSingle names new (n + 1)
    single_next none new kept = record {
      firsts = λ q.
          kept q
          ∙ ap (λ z. kept_first z q name n) (h.firsts q)
          ∙ ap (kept_first (place_in q (take n names)) q name) long
          ∙ sym (place_next q name (take n names))
          ∙ ap (place_in q) (sym one_more);
      single = once;
    }
      where
        nowhere : place_in name (take n names) ≡ None
        nowhere = go (place_in name (take n names)) (ap is_some (sym (h.firsts name)) ∙ none)
          where
            go : (o : Option ℕ) → is_some o ≡ false → o ≡ None
            go None is_none = refl
            go (Some p) is_none = let f : ⊥ = cc in absurd f

        long : n ≡ length (take n names)
        long = let l = length-take n names in let within = slice_get_within names n name is in omega arith

        one_more : take (n + 1) names ≡ take n names ++ name ∷ []
        one_more = rw add-one (take_more names n name is)

        once : (i j : ℕ) (k : Name) → i < j → j < n + 1 → slice_get names i ≡ Some k → slice_get names j ≡ Some k → ⊥
        once i j k below last at_i at_j = omega (arith, earlier, here)
          where
            earlier : ¬ (j < n)
            earlier before = h.single i j k below before at_i at_j

            here : ¬ (j ≡ n)
            here same =
                let name_is : Some k ≡ Some name = sym at_j ∙ ap (slice_get names) same ∙ is in
                name_nowhere name (take n names) nowhere i (taken names n i (omega arith) ∙ at_i ∙ name_is)
