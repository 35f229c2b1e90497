use Rattle.std.proofs.Common.{subst, sym, IsUtf8}
use Rattle.std.proofs.lemmas.Str.{IsUtf8-string_bytes}
use Rattle.hm_tree.proofs.name.Name.from_string.Goals as goal

pub invariant_of-result : goal.invariant_of-result
invariant_of-result c = subst IsUtf8 (sym c.of_string.ensures) (IsUtf8-string_bytes c.args.text)

pub returns-clause-utf8 : goal.returns-clause-utf8
returns-clause-utf8 c = subst IsUtf8 (sym c.of_string.ensures) (IsUtf8-string_bytes c.args.text)
