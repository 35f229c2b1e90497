use Rattle.std.proofs.Common.{rules}
use Rattle.hm_tree.proofs.Merged.{taken_first, taken_second}
use Rattle.hm_tree.proofs.merging.take_least.Goals as goal

pub returns-then-is_led : goal.returns-then-is_led
returns-then-is_led c =
    taken_first c.args.ones.now.items c.args.twos.now.items c.pop_front.new.self.items c.pop_front.result c.requires.twos
    (search rules) c.pop_front.ensures.items (λ none. search rules)

pub returns-else-is_led : goal.returns-else-is_led
returns-else-is_led c =
    taken_second c.args.ones.now.items c.args.twos.now.items c.pop_front-else-is_led.new.self.items c.pop_front-else-is_led.result c.requires.ones
    c.requires.apart (search rules) c.pop_front-else-is_led.ensures.items (λ none. search rules)
