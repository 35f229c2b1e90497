use Rattle.std.proofs.Common.{◌≡◌, map, take, string_bytes}
use Rattle.hm_alike.proofs.Squeezed.{spaced}
use Rattle.hm_alike.proofs.squeezing.squeeze_words.Given as goal

-- the pieces up to here were put one behind the other
abbrev pub invariant-loop-piece : goal.invariant-loop-piece
invariant-loop-piece l = string_bytes l.squeezed ≡ spaced (map (λ p. p.now) (take l.piece-index l.piece-items))
