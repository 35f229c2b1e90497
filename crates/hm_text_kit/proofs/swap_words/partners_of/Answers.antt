use Rattle.std.proofs.Common.{cond, Some, sym, ap, ◌∙◌, subst}
use Rattle.std.specs.BTreeMap.{get}
use Rattle.std.specs.Option.{option_or}
use Rattle.std.specs.Str.{IsUtf8}
use Rattle.hm_tree.specs.Names.{name_cmp}
use Rattle.hm_text_kit.specs.WordTables.{is_word, partner}
use Rattle.hm_text_kit.proofs.Swaps.{one_pair_more, no_pair_left, one_text_more}
use Rattle.hm_text_kit.proofs.swap_words.partners_of.Goals as goal

pub loop-one-preserved : goal.loop-one-preserved
loop-one-preserved c = record {
  all = λ q.
      one_pair_more c.pop.new.self.items (c.in-Some.one, c.in-Some.other) q (get name_cmp c.loop-one.partners q) (get name_cmp c.put_partner-in-Some.new.partners q) (get name_cmp c.put_partner-in-Some-2.new.partners q)
      (c.in_ok-put_partner.ensures q ∙ (λ i. cond (is_word (c.in_ok-copy.ensures.value i) q) (Some (c.in_ok-copy-2.ensures.value i)) (get name_cmp c.loop-one.partners q))) (c.in_ok-put_partner-2.ensures q)
      ∙ ap (λ ps. option_or (partner ps q) (get name_cmp c.loop-one.partners q)) (sym c.in-Some.ensures.items)
      ∙ c.loop-one.invariant.all q;
  texts =
      one_text_more c.put_partner-in-Some.new.partners c.put_partner-in-Some-2.new.partners _ _ c.in_ok-put_partner-2.ensures (subst IsUtf8 c.in_ok-copy.ensures.value c.in_ok-copy.ensures.utf8)
      (one_text_more c.loop-one.partners c.put_partner-in-Some.new.partners _ _ c.in_ok-put_partner.ensures c.in_ok-copy-2.ensures.utf8 c.loop-one.invariant.texts);
}

pub returns-clause-partners : goal.returns-clause-partners
returns-clause-partners c = λ q.
    no_pair_left c.loop-one.pairs.items q (get name_cmp c.loop-one.partners q) (partner c.args.pairs.items q) (sym c.loop-one.pairs.ok.0 ∙ c.in_default.ensures.cases.0) (c.loop-one.invariant.all q)
