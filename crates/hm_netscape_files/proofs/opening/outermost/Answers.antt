use Rattle.std.proofs.Common.{ℕ, List, ◌+◌, subst, sym, ap, ◌∙◌}
use Rattle.std.specs.Str.{IsUtf8}
use Rattle.std.proofs.lemmas.Bool.{true≢false}
use Rattle.hm_marks_tokens.specs.Grammar.{IsListOf}
use Rattle.hm_marks_tokens.specs.Reading.{IsMisfit}
use Rattle.hm_marks_tokens.proofs.Folders.{counted}
use Rattle.hm_netscape_files.specs.Files.{in_folder, in_tail}
use Rattle.hm_netscape_files.proofs.ListText.{list_text}
use Rattle.hm_netscape_files.proofs.opening.outermost.Goals as goal

pub list_inside-requires : goal.list_inside-requires
list_inside-requires c =
    let k = counted c.split_at.result.1.now c.in-Ok.tail.now c.in-Ok.field-0-1 c.in-Ok.ensures.folder in (k.0, (c.in-Ok.tail.now, k.1.0))

pub returns-in-Err : goal.returns-in-Err
returns-in-Err c =
    in_folder c.in-Some.head c.in-Some.ensures (subst (λ (l : List ℕ). IsMisfit l c.in-Err.number) c.split_at.ensures.back c.in-Err.ensures.folder)

pub returns-in-Ok : goal.returns-in-Ok
returns-in-Ok c =
    let k = counted c.split_at.result.1.now c.in-Ok.tail.now c.in-Ok.field-0-1 c.in-Ok.ensures.folder in
    record {
      contents = k.0;
      file = record {
        text = c.requires;
        head = c.in-Some.head;
        tail = c.in-Ok.tail.now;
        head_is = c.in-Some.ensures;
        list = subst (λ (l : List ℕ). IsListOf l k.0 c.in-Ok.tail.now) c.split_at.ensures.back k.1.0;
        tail_is = c.is_tail.ensures.0 c.if-is_tail.true;
      };
      rest = c.in-Ok.tail.now;
      left = c.list_inside.ensures.left k.0 c.in-Ok.tail.now k.1.0;
      text = c.list_inside.ensures.utf8
          (subst IsUtf8 (sym c.split_at.ensures.back) (list_text c.args.bytes.now c.in-Some.head c.requires c.in-Some.ensures));
    }

pub returns-in-Ok-2 : goal.returns-in-Ok-2
returns-in-Ok-2 c =
    let k = counted c.split_at.result.1.now c.in-Ok.tail.now c.in-Ok.field-0-1 c.in-Ok.ensures.folder in
    in_tail c.in-Some.head k.0 c.in-Ok.tail.now c.in-Some.ensures
    (subst (λ (l : List ℕ). IsListOf l k.0 c.in-Ok.tail.now) c.split_at.ensures.back k.1.0)
    (λ is. true≢false (sym (c.is_tail.ensures.1 is) ∙ c.if-is_tail.false)) (ap (λ n. n + 1) k.1.1)
