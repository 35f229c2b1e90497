use Rattle.std.proofs.Common.{refl}
use Rattle.hm_schema_lines.specs.declared.token.Token.TheVariants.{Word}
use Rattle.hm_focal.proofs.Fronts.{no_word}
use Rattle.hm_focal.proofs.front.front_word.Goals as goal

pub returns-in_default : goal.returns-in_default
returns-in_default c = let f = rw c.in_default.is at c.in_ok-token.ensures in λ k rest h. f (Word k) k rest refl h

pub returns-in-None : goal.returns-in-None
returns-in-None c = let f = rw c.in-Some.is at c.in_ok-token.ensures in no_word _ _ _ f.1 c.in-None.ensures
