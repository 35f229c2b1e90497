-- Facts on truth values.
use Rattle.std.proofs.Common.{◌≡◌, Bool, true, false, not, ◌&&◌, ◌||◌, T, IsTrue, refl, sym}
use Rattle.std.proofs.lemmas.Bool.{true≢false}

-- a truth of T as an equation
pub is_true : (b : Bool) → T b → b ≡ true
is_true true h = refl
is_true false h = absurd h

pub refuted : IsTrue false → ⊥
refuted f = true≢false (sym f)

pub either : (new old : Bool) → ((new && old) || (not old && new)) ≡ new
either true true = refl
either true false = refl
either false true = refl
either false false = refl
