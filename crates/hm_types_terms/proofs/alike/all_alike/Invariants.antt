use Rattle.std.proofs.Common.{◌≡◌, length, map}
use Rattle.hm_terms.specs.Programs.{lens_of}
use Rattle.hm_types_terms.specs.Alike.{AreAlike}
use Rattle.hm_types_terms.proofs.alike.all_alike.Given as goal

-- the first ones have their places
abbrev pub invariant-loop-place : goal.invariant-loop-place
invariant-loop-place l = record {
  count : length l.places.items ≡ l.place;
  alike : AreAlike (map (λ t. lens_of t.now) l.all) l.places.items;
}
