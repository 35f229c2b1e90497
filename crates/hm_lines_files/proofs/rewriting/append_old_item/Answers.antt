use Rattle.std.proofs.Common.{◌≡◌, List, [], ◌∷◌, ◌++◌, Some, None, length, slice_get, ap, sym, ◌∙◌, subst}
use Rattle.hm_tree.specs.Names.{Name, name_cmp}
use Rattle.hm_book_items.specs.Items.{of_key, below_key}
use Rattle.hm_book_items.specs.Plans.{numbered, keys_of}
use Rattle.hm_lines_cards.specs.Lines.{Line, texts_of}
use Rattle.hm_lines_cards.specs.Lent.{lent, plain}
use Rattle.hm_lines_cards.specs.Rewriting.{rewritten}
use Rattle.hm_lines_files.specs.Components.{key_of}
use Rattle.hm_lines_files.specs.Rewriting.{keyed}
use Rattle.hm_lines_files.specs.Lent.{component_of, template_of}
use Rattle.hm_book_items.specs.Taken.{HasTaken}
use Rattle.hm_lines_files.proofs.WrittenLines.{ok_too, ok_then, extends_as, extends_none}
use Rattle.hm_lines_files.proofs.Passes.{keys_more, fate_shown, fate_none}
use Rattle.hm_lines_files.proofs.rewriting.append_old_item.Goals as goal
use Rattle.hm_lines_files.proofs.Pieces.{no_key, one_key}

pub unreachable-requires : goal.unreachable-requires
unreachable-requires c =
    no_key (texts_of c.args.template.now.key (lent c.args.component.now.lines.items))
    (sym c.in_default.is ∙ c.in_ok-key.ensures ∙ ap (λ (ls : List Line). slice_get (texts_of c.args.template.now.key ls) 0) (ap lent c.deref.ensures.value)) c.requires.keyed

pub returns-in-Some-2-clause-taken : goal.returns-in-Some-2-clause-taken
returns-in-Some-2-clause-taken c =
    let key : c.in-Some.key ≡ key_of c.args.template.now.key (component_of c.args.component.now) =
    one_key (texts_of c.args.template.now.key (lent c.args.component.now.lines.items)) c.in-Some.key
    (sym c.in-Some.is ∙ c.in_ok-key.ensures ∙ ap (λ (ls : List Line). slice_get (texts_of c.args.template.now.key ls) 0) (ap lent c.deref.ensures.value)) in
    ok_too c.append_item.result (λ lists before h.
    subst (HasTaken c.next.new.self lists)
    (ap (λ (k : Name). keys_of (keyed c.args.template.now.key before) ++ k ∷ []) key ∙ keys_more c.args.template.now.key before (component_of c.args.component.now))
    (c.in_ok-tree.ensures.taken lists (keys_of (keyed c.args.template.now.key before)) h))

pub returns-in-Some-2-clause-lines : goal.returns-in-Some-2-clause-lines
returns-in-Some-2-clause-lines c =
    let K = template_of c.args.template.now in
    let one = component_of c.args.component.now in
    let tree = c.in-Some-2.tree.now in
    let key : c.in-Some.key ≡ key_of c.args.template.now.key one =
    one_key (texts_of c.args.template.now.key (lent c.args.component.now.lines.items)) c.in-Some.key
    (sym c.in-Some.is ∙ c.in_ok-key.ensures ∙ ap (λ (ls : List Line). slice_get (texts_of c.args.template.now.key ls) 0) (ap lent c.deref.ensures.value)) in
    ok_then c.append_item.result c.append_item.ensures (λ shown lists before h.
    extends_as c.args.writer.now c.append_item.new.writer _ _
    (ap (λ (ls : List Line). plain (rewritten c.args.shown.now tree ls) ++ c.args.component.now.end.now ∷ []) (ap lent c.deref-in-Some-2.ensures.value)
    ∙ fate_shown K c.args.shown.now lists before one tree
    (subst (λ (k : Name). Some tree ≡ slice_get (below_key name_cmp k lists) (length (of_key name_cmp k (numbered 0 (keys_of (keyed c.args.template.now.key before)))))) key
    (rw c.in-Some-2.is at (c.in_ok-tree.ensures.tree lists (keys_of (keyed c.args.template.now.key before)) h)))) shown)

pub returns-clause-taken : goal.returns-clause-taken
returns-clause-taken c = λ lists before h.
    let key : c.in-Some.key ≡ key_of c.args.template.now.key (component_of c.args.component.now) =
    one_key (texts_of c.args.template.now.key (lent c.args.component.now.lines.items)) c.in-Some.key
    (sym c.in-Some.is ∙ c.in_ok-key.ensures ∙ ap (λ (ls : List Line). slice_get (texts_of c.args.template.now.key ls) 0) (ap lent c.deref.ensures.value)) in
    subst (HasTaken c.next.new.self lists)
    (ap (λ (k : Name). keys_of (keyed c.args.template.now.key before) ++ k ∷ []) key ∙ keys_more c.args.template.now.key before (component_of c.args.component.now))
    (c.in_ok-tree.ensures.taken lists (keys_of (keyed c.args.template.now.key before)) h)

pub returns-clause-lines : goal.returns-clause-lines
returns-clause-lines c = λ lists before h.
    let K = template_of c.args.template.now in
    let one = component_of c.args.component.now in
    let key : c.in-Some.key ≡ key_of c.args.template.now.key one =
    one_key (texts_of c.args.template.now.key (lent c.args.component.now.lines.items)) c.in-Some.key
    (sym c.in-Some.is ∙ c.in_ok-key.ensures ∙ ap (λ (ls : List Line). slice_get (texts_of c.args.template.now.key ls) 0) (ap lent c.deref.ensures.value)) in
    extends_as c.args.writer.now c.args.writer.now [] _
    (fate_none K c.args.shown.now lists before one
    (subst (λ (k : Name). None ≡ slice_get (below_key name_cmp k lists) (length (of_key name_cmp k (numbered 0 (keys_of (keyed c.args.template.now.key before)))))) key
    (rw c.in-None.is at (c.in_ok-tree.ensures.tree lists (keys_of (keyed c.args.template.now.key before)) h))))
    (extends_none c.args.writer.now)
