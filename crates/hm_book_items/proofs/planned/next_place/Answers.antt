use Rattle.std.proofs.Common.{◌≡◌, [], ◌+◌, ap, ◌∙◌, arith, get_or}
use Rattle.hm_book_items.specs.LentKeys.{lent_counts}
use Rattle.hm_book_items.proofs.Plans.{survives, falls_out, no_place, counts_more, counts_same, read_at, name_at}
use Rattle.hm_book_items.proofs.planned.next_place.Goals as goal

pub returns-then-place-count_at-clause-counts : goal.returns-then-place-count_at-clause-counts
returns-then-place-count_at-clause-counts c = λ keys are.
    let f = c.in-Ok.ensures.found in
    let wanted = lent_counts c.args.wanted.now in
    let i = c.in-Ok.edge in
    let counts = c.args.counts.now.items in
    let at : c.index-place.result.now ≡ get_or counts i 0 = read_at counts i c.index-place.result.now 0 (let r = f.in_range in let n = c.requires.counts in omega (arith, r, n)) c.index-place.ensures in
    counts_more wanted c.requires.sorted keys c.args.key.now counts i c.in-Some.after (get_or wanted i ([], 0)).1 are f.place f.in_range (f.found ([], 0)) (c.in-Some.ensures.1 ∙ ap (λ n. n + 1) at)

pub returns-then-place-count_at-clause-place : goal.returns-then-place-count_at-clause-place
returns-then-place-count_at-clause-place c = λ keys are.
    let f = c.in-Ok.ensures.found in
    let wanted = lent_counts c.args.wanted.now in
    let i = c.in-Ok.edge in
    let counts = c.args.counts.now.items in
    let at : c.index-place.result.now ≡ get_or counts i 0 = read_at counts i c.index-place.result.now 0 (let r = f.in_range in let n = c.requires.counts in omega (arith, r, n)) c.index-place.ensures in
    let count = c.count_at.ensures in
    let lt = c.if-place-count_at.true in
    survives wanted c.requires.sorted keys c.args.key.now counts are i (get_or wanted i ([], 0)).1 f.place f.in_range (f.found ([], 0)) c.index-place.result.now at (omega (arith, count, lt))

pub returns-then-place-count_at-clause-edge : goal.returns-then-place-count_at-clause-edge
returns-then-place-count_at-clause-edge c =
    let f = c.in-Ok.ensures.found in
    let wanted = lent_counts c.args.wanted.now in
    let i = c.in-Ok.edge in
    record {
      among = f.in_range;
      key_is = name_at c.args.key.now wanted i (get_or wanted i ([], 0)).1 ([], 0) c.requires.sorted f.place (f.found ([], 0));
      within = let count = c.count_at.ensures in let lt = c.if-place-count_at.true in omega (arith, count, lt);
    }

pub returns-else-place-count_at-clause-counts : goal.returns-else-place-count_at-clause-counts
returns-else-place-count_at-clause-counts c = λ keys are.
    let f = c.in-Ok.ensures.found in
    let wanted = lent_counts c.args.wanted.now in
    let i = c.in-Ok.edge in
    let counts = c.args.counts.now.items in
    let at : c.index-place.result.now ≡ get_or counts i 0 = read_at counts i c.index-place.result.now 0 (let r = f.in_range in let n = c.requires.counts in omega (arith, r, n)) c.index-place.ensures in
    counts_more wanted c.requires.sorted keys c.args.key.now counts i c.in-Some.after (get_or wanted i ([], 0)).1 are f.place f.in_range (f.found ([], 0)) (c.in-Some.ensures.1 ∙ ap (λ n. n + 1) at)

pub returns-else-place-count_at-clause-place : goal.returns-else-place-count_at-clause-place
returns-else-place-count_at-clause-place c = λ keys are.
    let f = c.in-Ok.ensures.found in
    let wanted = lent_counts c.args.wanted.now in
    let i = c.in-Ok.edge in
    let counts = c.args.counts.now.items in
    let at : c.index-place.result.now ≡ get_or counts i 0 = read_at counts i c.index-place.result.now 0 (let r = f.in_range in let n = c.requires.counts in omega (arith, r, n)) c.index-place.ensures in
    let count = c.count_at.ensures in
    let ge = c.if-place-count_at.false in
    falls_out wanted c.requires.sorted keys c.args.key.now counts are i (get_or wanted i ([], 0)).1 f.place f.in_range (f.found ([], 0)) c.index-place.result.now at (omega (arith, count, ge))

pub returns-in_default-clause-counts : goal.returns-in_default-clause-counts
returns-in_default-clause-counts c = λ keys are. counts_same (lent_counts c.args.wanted.now) c.requires.sorted keys c.args.key.now c.args.counts.now.items are c.in_default.ensures.absent.absent

pub returns-in_default-clause-place : goal.returns-in_default-clause-place
returns-in_default-clause-place c = λ keys are. no_place (lent_counts c.args.wanted.now) c.requires.sorted keys c.args.key.now c.args.counts.now.items are c.in_default.ensures.absent.absent
