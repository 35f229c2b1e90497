-- Being the same is an equivalence of forms.
use Rattle.std.proofs.Common.{◌≡◌, List, [], ◌∷◌, Option, Some, None, refl, sym, ◌∙◌}
use Rattle.std.specs.List.{AllZip}
use Rattle.hm_tree.specs.declared.class.Class.{Class}
use Rattle.hm_tree.specs.Names.{Name}
use Rattle.hm_schema.specs.Sameness.{HaveEqual, AreOthers, no_others, others, Match}
use Rattle.hm_types_forms.specs.Forms.{Label, Form}
use Rattle.hm_types_forms.specs.SameForms.{IsSame, MatchThere, nothing, labels, tidy}

abbrev Alike : Label → Label → Type 0
Alike l m = Match (λ i j. Unit {0}) l m

names_back : (xs ys : List (Name × Unit {0})) → AllZip (λ c d. (c.0 ≡ d.0) × Unit {0}) xs ys → AllZip (λ c d. (c.0 ≡ d.0) × Unit {0}) ys xs
names_back [] [] h = tt
names_back [] (d ∷ ys) h = absurd h
names_back (c ∷ xs) [] h = absurd h
names_back (c ∷ xs) (d ∷ ys) h = ((sym h.0.0, tt), names_back xs ys h.1)

names_then : (xs ys zs : List (Name × Unit {0})) → AllZip (λ c d. (c.0 ≡ d.0) × Unit {0}) xs ys
    → AllZip (λ c d. (c.0 ≡ d.0) × Unit {0}) ys zs → AllZip (λ c d. (c.0 ≡ d.0) × Unit {0}) xs zs
names_then [] [] [] h g = tt
names_then [] [] (e ∷ zs) h g = absurd g
names_then [] (d ∷ ys) zs h g = absurd h
names_then (c ∷ xs) [] zs h g = absurd h
names_then (c ∷ xs) (d ∷ ys) [] h g = absurd g
names_then (c ∷ xs) (d ∷ ys) (e ∷ zs) h g = ((h.0.0 ∙ g.0.0, tt), names_then xs ys zs h.1 g.1)

others_back : {x y : Option (Class × Unit {0})} → AreOthers (λ i j. Unit {0}) x y → AreOthers (λ i j. Unit {0}) y x
others_back no_others = no_others
others_back (others r) = others tt

others_then : {x y z : Option (Class × Unit {0})} → AreOthers (λ i j. Unit {0}) x y → AreOthers (λ i j. Unit {0}) y z
    → AreOthers (λ i j. Unit {0}) x z
others_then no_others no_others = no_others
others_then (others r) (others s) = others tt

equal_back : {X : Type 0} (xs ys : List X) → HaveEqual xs ys → HaveEqual ys xs
equal_back xs ys h = λ x. let b = h x in (b.1, b.0)

equal_then : {X : Type 0} (xs ys zs : List X) → HaveEqual xs ys → HaveEqual ys zs → HaveEqual xs zs
equal_then xs ys zs h g = λ x. let a = h x in let b = g x in (λ i. b.0 (a.0 i), λ i. a.1 (b.1 i))

match_back : {l m : Label} → Alike l m → Alike m l
match_back {l} {m} h = record {
  shapes = equal_back l.shapes m.shapes h.shapes;
  children = names_back l.children m.children h.children;
  other = others_back h.other;
  twins = equal_back l.twins m.twins h.twins;
}

match_then : {l m n : Label} → Alike l m → Alike m n → Alike l n
match_then {l} {m} {n} h g = record {
  shapes = equal_then l.shapes m.shapes n.shapes h.shapes g.shapes;
  children = names_then l.children m.children n.children h.children g.children;
  other = others_then h.other g.other;
  twins = equal_then l.twins m.twins n.twins h.twins g.twins;
}

there_back : {x y : Option Label} → MatchThere x y → MatchThere y x
there_back nothing = nothing
there_back (labels h) = labels (match_back h)

there_then : {x y z : Option Label} → MatchThere x y → MatchThere y z → MatchThere x z
there_then nothing nothing = nothing
there_then (labels h) (labels g) = labels (match_then h g)

names_itself : (xs : List (Name × Unit {0})) → AllZip (λ c d. (c.0 ≡ d.0) × Unit {0}) xs xs
names_itself [] = tt
names_itself (c ∷ xs) = ((refl, tt), names_itself xs)

others_itself : (x : Option (Class × Unit {0})) → AreOthers (λ i j. Unit {0}) x x
others_itself None = no_others
others_itself (Some o) = others tt

there_itself : (x : Option Label) → MatchThere x x
there_itself None = nothing
there_itself (Some l) = labels (record {
  shapes = λ x. (λ h. h, λ h. h);
  children = names_itself l.children;
  other = others_itself l.other;
  twins = λ x. (λ h. h, λ h. h);
})

pub same_itself : (u : Form) → IsSame u u
same_itself u = record { on_each = λ w. there_itself (tidy u w) }

pub same_back : {u v : Form} → IsSame u v → IsSame v u
same_back s = record { on_each = λ w. there_back (s.on_each w) }

pub same_then : {u v x : Form} → IsSame u v → IsSame v x → IsSame u x
same_then s r = record { on_each = λ w. there_then (s.on_each w) (r.on_each w) }
