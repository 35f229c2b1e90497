use Rattle.std.proofs.Common.{not, subst, sym, ◌≤◌, length}
use Rattle.std.specs.Char.{is_ascii_whitespace}
use Rattle.std.proofs.lemmas.List.Sums.{prefix_len-le-length}
use Rattle.hm_marks_tokens.proofs.symbol.symbol_of.Goals as goal

pub split_at-requires : goal.split_at-requires
split_at-requires c =
    subst (λ n. n ≤ length c.in-Tag.inside.now) (sym c.name_len.ensures) (prefix_len-le-length (λ b. not (is_ascii_whitespace b)) c.in-Tag.inside.now)
