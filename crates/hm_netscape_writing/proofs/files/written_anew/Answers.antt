use Rattle.std.proofs.Common.{ℕ, List, [], ◌++◌, take, drop, sym, ap, ◌∙◌, subst}
use Rattle.std.specs.Str.{IsUtf8}
use Rattle.hm_marks_tokens.specs.Grammar.{IsListOf}
use Rattle.hm_netscape_files.proofs.HeadPlaces.{one_place}
use Rattle.hm_netscape_files.proofs.ListText.{list_text}
use Rattle.hm_netscape_writing.proofs.FileText.{file_bytes}
use Rattle.hm_netscape_writing.proofs.files.written_anew.Goals as goal

pub add_outermost-requires-clause-folder : goal.add_outermost-requires-clause-folder
add_outermost-requires-clause-folder c =
    let before = c.args.before.now in
    let old = c.requires.file.0 in
    let file = c.requires.file.1 in
    let same = one_place before c.in-Some.len file.head c.in-Some.ensures.list c.in-Some.ensures.first file.head_is in
    let list = subst (λ (b : List ℕ). IsListOf b old file.tail) (sym (c.split_at.ensures.back ∙ ap (λ (n : ℕ). drop n before) same)) file.list in
    (old, ([], (file.tail, c.list_inside.ensures.left old file.tail list)))

pub add_outermost-requires-clause-utf8 : goal.add_outermost-requires-clause-utf8
add_outermost-requires-clause-utf8 c =
    c.list_inside.ensures.utf8 (subst IsUtf8 (sym c.split_at.ensures.back) (list_text c.args.before.now c.in-Some.len c.requires.file.1.text c.in-Some.ensures))

pub returns : goal.returns
returns c =
    let before = c.args.before.now in
    let old = c.requires.file.0 in
    let file = c.requires.file.1 in
    let same = one_place before c.in-Some.len file.head c.in-Some.ensures.list c.in-Some.ensures.first file.head_is in
    let list = subst (λ (b : List ℕ). IsListOf b old file.tail) (sym (c.split_at.ensures.back ∙ ap (λ (n : ℕ). drop n before) same)) file.list in
    let r = c.in_ok-tail.ensures old [] file.tail (c.list_inside.ensures.left old file.tail list) in
    record {
      old = old;
      file = file;
      new = r.0.after;
      anew = r.0.anew;
      text = file_bytes (take file.head before) file.tail c.extend_from_slice.new.self.items c.extend_from_slice-2.new.self.items c.add_outermost.new.out.items
          c.extend_from_slice-3.new.self.items c.extend_from_slice-4.new.self.items r.0.after
          (c.in_ok-extend_from_slice.ensures.items ∙ ap (λ (l : List ℕ). l ++ c.split_at.result.0.now) c.in_ok-after.ensures.items ∙ c.split_at.ensures.front
          ∙ ap (λ (n : ℕ). take n before) same)
          c.in_ok-extend_from_slice-2.ensures.items r.0.lines c.in_ok-extend_from_slice-3.ensures.items
          (c.in_ok-extend_from_slice-4.ensures.items ∙ ap (λ (l : List ℕ). c.extend_from_slice-3.new.self.items ++ l) r.1);
    }
