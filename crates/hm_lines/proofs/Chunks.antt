-- What is unfolded of bytes up to their first line end.
use Rattle.std.proofs.Common.{◌≡◌, suc, true, false, List, [], ◌∷◌, ◌++◌, ℕ, refl, ap, ◌∙◌, arith}
use Rattle.std.specs.Bool.{◌==◌}
use Rattle.hm_lines.specs.Folding.{HasNone}
use Rattle.hm_lines.specs.Unfolding.{feed, begins_with_blank, begins_with_fold, unfolded_behind, unfolded}
use Rattle.hm_lines.proofs.Folds.{stays}

no_fold : (chunk t : List ℕ) → HasNone feed chunk → begins_with_fold t ≡ false → begins_with_fold (chunk ++ t) ≡ false
no_fold [] t all f = f
no_fold (c ∷ chunk) t all f = let e : (c == feed) ≡ false = all 0 c (omega arith) in rw e refl

-- bytes without line feeds, where no fold stands behind them
chunk_kept : (chunk t : List ℕ) → HasNone feed chunk → begins_with_fold t ≡ false → unfolded (chunk ++ t) ≡ chunk ++ unfolded t
chunk_kept [] t all f = refl
chunk_kept (b ∷ chunk) t all f =
    let none : HasNone feed chunk = λ k d lt. all (suc k) d (omega arith) in
    let plain : (b == feed) ≡ false = all 0 b (omega arith) in
    stays false b (chunk ++ t) (no_fold (b ∷ chunk) t all f) refl (no_fold chunk t none f)
    ∙ ap (λ after. b ∷ unfolded_behind after (chunk ++ t)) plain
    ∙ ap (λ l. b ∷ l) (chunk_kept chunk t none f)

-- what stands behind a line feed and is no blank
behind_plain : (t : List ℕ) → begins_with_blank t ≡ false → unfolded_behind true t ≡ unfolded t
behind_plain [] e = refl
behind_plain (b ∷ t) e = rw e refl

feed_kept : (t : List ℕ) → begins_with_blank t ≡ false → unfolded (feed ∷ t) ≡ feed ∷ unfolded t
feed_kept t e = rw e (ap (λ l. feed ∷ l) (behind_plain t e))

-- a line end stays
pub line_end : (chunk t : List ℕ) → HasNone feed chunk → begins_with_blank t ≡ false → unfolded (chunk ++ feed ∷ t) ≡ chunk ++ feed ∷ unfolded t
line_end chunk t all e = chunk_kept chunk (feed ∷ t) all e ∙ ap (λ l. chunk ++ l) (feed_kept t e)
