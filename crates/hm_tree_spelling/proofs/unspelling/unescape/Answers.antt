use Rattle.std.proofs.Common.{sym, ap, ◌∙◌, ◌≡◌, [], drop}
use Rattle.std.proofs.lemmas.List.{drop_all, take_rest}
use Rattle.hm_tree_spelling.specs.Spelling.{escaped}
use Rattle.hm_tree_spelling.proofs.Spelled.{read_more, read_none, no_quote_at, no_quote_past, no_byte_past}
use Rattle.hm_tree_spelling.proofs.unspelling.unescape.Goals as goal

pub loop-at-preserved : goal.loop-at-preserved
loop-at-preserved c =
    let found = rw (take_rest c.args.bytes.now c.loop-at.at) at c.in-Some.ensures in
    let more = read_more c.args.bytes.now c.loop-at.at c.loop-at.text.items c.loop-at.invariant.read c.in-Some.byte c.in-Some.length
    c.loop-at.invariant.within found.0 found.1 in
    record { within = more.0; read = more.1 ∙ ap escaped (sym c.in_ok-push-in-Some.ensures.items) }

pub returns-in-None : goal.returns-in-None
returns-in-None c =
    let none = rw (take_rest c.args.bytes.now c.loop-at.at) at c.in-None.ensures in
    read_none c.args.bytes.now c.loop-at.at c.loop-at.text.items c.loop-at.invariant.read none
    (no_quote_at c.args.bytes.now c.loop-at.at c.loop-at-test.true c.if-bytes-at-ne34.true)

pub returns-else-at-bytes : goal.returns-else-at-bytes
returns-else-at-bytes c =
    let past : drop c.loop-at.at c.args.bytes.now ≡ [] = drop_all c.loop-at.at c.args.bytes.now c.if-at-bytes.false in
    read_none c.args.bytes.now c.loop-at.at c.loop-at.text.items c.loop-at.invariant.read (no_byte_past _ past) (no_quote_past _ past)
