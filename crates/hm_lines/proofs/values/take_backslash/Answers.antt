use Rattle.std.proofs.Common.{rules, ◌++◌, ◌∙◌, ◌+◌, sym, ap, drop, length, refl, List, ℕ}
use Rattle.std.proofs.lemmas.Bool.{ltb-false}
use Rattle.hm_lines.specs.Values.{backslash, unescaped}
use Rattle.hm_lines.proofs.Found.{IsFound, front_found, found_tail, one_behind, two_behind}
use Rattle.hm_lines.proofs.Escapes.{takes_escape, takes_other, takes_last}
use Rattle.hm_lines.proofs.values.take_backslash.Goals as goal
use Rattle.hm_lines.proofs.values.take_backslash.Goals.{in_default-via-in-Some+else-is_escape, in_default-via-in_default}

pub returns-in_ok-push-in-Some-clause-unescaped : goal.returns-in_ok-push-in-Some-clause-unescaped
returns-in_ok-push-in-Some-clause-unescaped c =
    let tail : List ℕ = drop (c.args.at + 1) c.args.rest.now in
    let found : IsFound backslash c.args.rest.now c.split_at.result.0.now tail =
    front_found backslash c.args.rest.now c.args.at c.requires c.split_at.result.0.now c.split_at.ensures.front in
    let two = two_behind backslash c.args.rest.now c.args.at c.requires c.split_at.result.1.now c.split_at.ensures.back in
    ap (λ l. c.push.new.self.items ++ unescaped l) two
    ∙ takes_escape c.args.text.now.items c.split_at.result.0.now tail c.args.rest.now found c.extend_from_slice.new.self.items c.push.new.self.items
    c.in_ok-extend_from_slice.ensures.items c.meaning.result c.in_ok-push-in-Some.ensures.items c.split_at.result.1.now
    (c.split_at.ensures.back ∙ found_tail backslash c.args.rest.now c.args.at c.requires) c.in-Some.byte.now c.in-Some.ensures.lookup.3.0
    c.in-Some.ensures.lookup.1 (search rules) c.meaning.ensures

pub returns-in_ok-push-in_default-clause-unescaped : goal.returns-in_ok-push-in_default-clause-unescaped
returns-in_ok-push-in_default-clause-unescaped c =
    let tail : List ℕ = drop (c.args.at + 1) c.args.rest.now in
    let found : IsFound backslash c.args.rest.now c.split_at.result.0.now tail =
    front_found backslash c.args.rest.now c.args.at c.requires c.split_at.result.0.now c.split_at.ensures.front in
    let one = one_behind backslash c.args.rest.now c.args.at c.requires c.split_at.result.1.now c.split_at.ensures.back in
    let behind = c.split_at.ensures.back ∙ found_tail backslash c.args.rest.now c.args.at c.requires in
    ap (λ l. c.push-in_default.new.self.items ++ unescaped l) one
    ∙ elim c.in_default.branch [
      | in_default-via-in-Some+else-is_escape w ↦
          takes_other c.args.text.now.items c.split_at.result.0.now tail c.args.rest.now found c.extend_from_slice.new.self.items
          c.push-in_default.new.self.items c.in_ok-extend_from_slice.ensures.items backslash c.in_ok-push-in_default.ensures.items
          c.split_at.result.1.now behind w.in-Some.byte.now w.in-Some.ensures.lookup.3.0 w.in-Some.ensures.lookup.1 (search rules) refl
      | in_default-via-in_default w ↦
          takes_last c.args.text.now.items c.split_at.result.0.now tail c.args.rest.now found c.extend_from_slice.new.self.items
          c.push-in_default.new.self.items c.in_ok-extend_from_slice.ensures.items backslash c.in_ok-push-in_default.ensures.items
          c.split_at.result.1.now behind (ltb-false 1 (length c.split_at.result.1.now) (sym w.in_default.ensures.lookup.0)) refl
    ]
