-- What stands where among the lines of a file that was written.
use Rattle.std.proofs.Common.{◌≡◌, ℕ, zero, suc, ◌<◌, List, [], ◌∷◌, ◌++◌, map, take, slice_get, filter_map, Some, refl, sym, ap, arith}
use Rattle.std.specs.Prelude.{flat_map}
use Rattle.std.specs.List.{Contains}
use Rattle.std.proofs.lemmas.List.Elements.{Contains-append_right}
use Rattle.std.proofs.lemmas.Option.{same_Some}
use Rattle.hm_tree.specs.Names.{Name}
use Rattle.hm_terms.specs.Lenses.{DefinitionValue}
use Rattle.hm_schema_lines.specs.NodeLines.{NodeLineValue}
use Rattle.hm_schema_lines.specs.Entries.{unknown, says}
use Rattle.hm_schema_writer.specs.WrittenNodes.{name_at, SaysNothing}
use Rattle.hm_schema_lines.proofs.Laws.{at_place}
use Rattle.hm_focal.specs.OwnLines.{BodyValue, LensValue, OwnValue, nothing, lens, main, lens_in, lens_names, named_nodes}
use Rattle.hm_focal_writer.proofs.WrittenLines.{lens_line, own_line}

abbrev Definitions : Type 0
Definitions = List (Name × DefinitionValue)

abbrev pub name_of : Name × DefinitionValue → Name
name_of v = v.0

-- the nodes between which a definition goes
abbrev pub ends_of : List Name → Name × DefinitionValue → List Name
ends_of names v = name_at names v.1.source ∷ name_at names v.1.view ∷ []

-- ---- entries

unknown_last : (ds : Definitions) (m : ℕ) (x : NodeLineValue) → slice_get (map (λ v. unknown) ds ++ unknown ∷ []) m ≡ Some (says x) → ⊥
unknown_last [] zero x e = let f : unknown ≡ says x = same_Some unknown (says x) e in let no : ⊥ = cc in no
unknown_last [] (suc m) x e = let no : ⊥ = cc in no
unknown_last (d ∷ ds) zero x e = let f : unknown ≡ says x = same_Some unknown (says x) e in let no : ⊥ = cc in no
unknown_last (d ∷ ds) (suc m) x e = unknown_last ds m x e

pub back_quiet : (ds : Definitions) → SaysNothing (map (λ v. unknown) ds ++ unknown ∷ [])
back_quiet ds x c = let a = at_place (map (λ v. unknown) ds ++ unknown ∷ []) (says x) c in unknown_last ds a.0 x a.1

-- ---- the file's own lines, behind the header and the format line

module _ (names : List Name) (b : BodyValue) where
  abbrev pub owns : List NodeLineValue → Definitions → List OwnValue
  owns xs ds = map (λ x. nothing) xs ++ (map (own_line names) ds ++ main b ∷ [])

  own_readable : (ds : Definitions) (i : ℕ) → slice_get (map (own_line names) ds ++ main b ∷ []) i ≡ Some nothing → ⊥
  own_readable [] zero e = let f : main b ≡ nothing = same_Some (main b) nothing e in let no : ⊥ = cc in no
  own_readable [] (suc i) e = let no : ⊥ = cc in no
  own_readable (v ∷ ds) zero e = let f : own_line names v ≡ nothing = same_Some (own_line names v) nothing e in let no : ⊥ = cc in no
  own_readable (v ∷ ds) (suc i) e = own_readable ds i e

  pub readable : (xs : List NodeLineValue) (ds : Definitions) (i : ℕ)
      → slice_get (map says xs ++ (map (λ v. unknown) ds ++ unknown ∷ [])) i ≡ Some unknown → slice_get (owns xs ds) i ≡ Some nothing → ⊥
  readable [] ds i e o = own_readable ds i o
  readable (x ∷ xs) ds zero e o = let f : says x ≡ unknown = same_Some (says x) unknown e in let no : ⊥ = cc in no
  readable (x ∷ xs) ds (suc i) e o = readable xs ds i e o

  -- a lens line is that of a definition, behind those of the definitions before it
  pub record IsOwnAt (ds : Definitions) (before : List OwnValue) (d : LensValue) : Type 0 where
    pub place : ℕ
    pub value : Name × DefinitionValue
    pub is : slice_get ds place ≡ Some value
    pub line : d ≡ lens_line names value
    pub earlier : lens_names before ≡ map name_of (take place ds)

  lens_behind : (ds : Definitions) (i : ℕ) (d : LensValue) → slice_get (map (own_line names) ds ++ main b ∷ []) i ≡ Some (lens d)
      → IsOwnAt ds (take i (map (own_line names) ds ++ main b ∷ [])) d
  lens_behind [] zero d e = let f : main b ≡ lens d = same_Some (main b) (lens d) e in let no : ⊥ = cc in absurd no
  lens_behind [] (suc i) d e = let no : ⊥ = cc in absurd no
  lens_behind (v ∷ ds) zero d e =
      let f : lens (lens_line names v) ≡ lens d = same_Some (own_line names v) (lens d) e in
      let same : lens_line names v ≡ d = cc in
      record { place = 0; value = v; is = refl; line = sym same; earlier = refl }
  lens_behind (v ∷ ds) (suc i) d e =
      let r = lens_behind ds i d e in
      record { place = suc r.place; value = r.value; is = r.is; line = r.line; earlier = ap (λ z. v.0 ∷ z) r.earlier }

  pub lens_place : (xs : List NodeLineValue) (ds : Definitions) (i : ℕ) (d : LensValue) → slice_get (owns xs ds) i ≡ Some (lens d)
      → IsOwnAt ds (take i (owns xs ds)) d
  lens_place [] ds i d e = lens_behind ds i d e
  lens_place (x ∷ xs) ds zero d e = let f : nothing ≡ lens d = same_Some nothing (lens d) e in let no : ⊥ = cc in absurd no
  lens_place (x ∷ xs) ds (suc i) d e =
      let r = lens_place xs ds i d e in
      record { place = r.place; value = r.value; is = r.is; line = r.line; earlier = r.earlier }

  main_behind : (ds : Definitions) (i : ℕ) (c : BodyValue) → slice_get (map (own_line names) ds ++ main b ∷ []) i ≡ Some (main c) → c ≡ b
  main_behind [] zero c e = let f : main b ≡ main c = same_Some (main b) (main c) e in let same : b ≡ c = cc in sym same
  main_behind [] (suc i) c e = let no : ⊥ = cc in absurd no
  main_behind (v ∷ ds) zero c e = let f : own_line names v ≡ main c = same_Some (own_line names v) (main c) e in let no : ⊥ = cc in absurd no
  main_behind (v ∷ ds) (suc i) c e = main_behind ds i c e

  pub main_place : (xs : List NodeLineValue) (ds : Definitions) (i : ℕ) (c : BodyValue) → slice_get (owns xs ds) i ≡ Some (main c) → c ≡ b
  main_place [] ds i c e = main_behind ds i c e
  main_place (x ∷ xs) ds zero c e = let f : nothing ≡ main c = same_Some nothing (main c) e in let no : ⊥ = cc in absurd no
  main_place (x ∷ xs) ds (suc i) c e = main_place xs ds i c e

  pub has_main : (xs : List NodeLineValue) (ds : Definitions) → Contains (owns xs ds) (main b)
  has_main xs ds = Contains-append_right (map (λ x. nothing) xs) (map (own_line names) ds ++ main b ∷ []) (main b)
      (Contains-append_right (map (own_line names) ds) (main b ∷ []) (main b) (0, omega arith, refl))

  pub lens_values : (xs : List NodeLineValue) (ds : Definitions) → filter_map lens_in (owns xs ds) ≡ map (lens_line names) ds
  lens_values [] [] = refl
  lens_values [] (v ∷ ds) = ap (λ z. lens_line names v ∷ z) (lens_values [] ds)
  lens_values (x ∷ xs) ds = lens_values xs ds

  pub all_lens_names : (xs : List NodeLineValue) (ds : Definitions) → lens_names (owns xs ds) ≡ map name_of ds
  all_lens_names [] [] = refl
  all_lens_names [] (v ∷ ds) = ap (λ z. v.0 ∷ z) (all_lens_names [] ds)
  all_lens_names (x ∷ xs) ds = all_lens_names xs ds

  pub all_nodes : (xs : List NodeLineValue) (ds : Definitions)
      → named_nodes (owns xs ds) ≡ flat_map (ends_of names) ds
  all_nodes [] [] = refl
  all_nodes [] (v ∷ ds) = ap (λ z. name_at names v.1.source ∷ name_at names v.1.view ∷ z) (all_nodes [] ds)
  all_nodes (x ∷ xs) ds = all_nodes xs ds

-- ---- earlier names

pub named_before : (ds : Definitions) (k j : ℕ) (n : Name) → slice_get (map name_of (take k ds)) j ≡ Some n
    → (j < k) × (slice_get (map name_of ds) j ≡ Some n)
named_before [] zero j n e = let no : ⊥ = cc in absurd no
named_before [] (suc k) j n e = let no : ⊥ = cc in absurd no
named_before (v ∷ ds) zero j n e = let no : ⊥ = cc in absurd no
named_before (v ∷ ds) (suc k) zero n e = (omega arith, e)
named_before (v ∷ ds) (suc k) (suc j) n e = let r = named_before ds k j n e in (omega (arith, r.0), r.1)

pub name_is : (ds : Definitions) (k : ℕ) (v : Name × DefinitionValue) → slice_get ds k ≡ Some v → slice_get (map name_of ds) k ≡ Some v.0
name_is [] k v e = let no : ⊥ = cc in absurd no
name_is (w ∷ ds) zero v e = ap (λ (z : Name × DefinitionValue). Some z.0) (same_Some w v e)
name_is (w ∷ ds) (suc k) v e = name_is ds k v e
