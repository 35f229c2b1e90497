use Rattle.hm_lines_files.proofs.WrittenLines.{folded_more}
use Rattle.hm_lines_files.proofs.writer.Writer.append.Goals as goal

pub returns : goal.returns
returns c = λ before lines h. record {
  text = folded_more lines c.args.line.now c.args.self.now.text.items c.append_folded.new.folded.items h.text c.in_ok-append_folded.ensures.ok;
  rest = c.behind-self.ensures before lines h.rest;
}
