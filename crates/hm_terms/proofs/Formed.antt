-- Programs that aren't well formed.
use Rattle.std.proofs.Common.{◌≡◌, [], ◌∷◌, refl, subst, arith}
use Rattle.std.specs.Prelude.{map}
use Rattle.std.specs.List.{Contains}
use Rattle.hm_tree.specs.Names.{Name}
use Rattle.hm_terms.specs.Lenses.{Lens, none, also, among, call, DefinitionValue}
use Rattle.hm_terms.specs.Programs.{ProgramValue}
use Rattle.hm_terms.specs.WellFormedPrograms.{itself, IsSoundRow, the_main, IsWellFormed}

-- a row of no lenses, and one with a name twice
no_row : IsSoundRow none → ⊥
no_row h = h.some refl

row_twice : (n : Name) (l k : Lens) → IsSoundRow (also n l (also n k none)) → ⊥
row_twice n l k h = let same = h.once 0 1 n refl refl in absurd (omega (arith, same))

-- a row with no lens in the main lens
no_row_in_main : (p : ProgramValue) → p.main ≡ among none → IsWellFormed p → ⊥
no_row_in_main p is h = no_row (h.rows p.main none the_main (rw is itself))

-- a call where there are no definitions
calls_nothing : (p : ProgramValue) (n : Name) → p.main ≡ call n → p.definitions ≡ [] → IsWellFormed p → ⊥
calls_nothing p n is empty h =
    let found : Contains (map (λ (d : Name × DefinitionValue). d.0) p.definitions) n = h.calls p.main n the_main (rw is itself) in
    let there : Contains [] n = subst (λ ds. Contains (map (λ (d : Name × DefinitionValue). d.0) ds) n) empty found in
    absurd (omega (arith, there.1))

-- two definitions of one name
declared_twice : (p : ProgramValue) (n : Name) (d e : DefinitionValue) → p.definitions ≡ (n, d) ∷ (n, e) ∷ [] → IsWellFormed p → ⊥
declared_twice p n d e is h = let same = h.definition_names 0 1 n (rw is refl) (rw is refl) in absurd (omega (arith, same))

-- two types of one name
typed_twice : (p : ProgramValue) (n : Name) → p.options.type_names ≡ n ∷ n ∷ [] → IsWellFormed p → ⊥
typed_twice p n is h = let same = h.type_names 0 1 n (rw is refl) (rw is refl) in absurd (omega (arith, same))
