use Rattle.std.proofs.Common.{option_copied}
use Rattle.hm_certify.specs.Standing.{archive_or_none}
use Rattle.hm_certify.proofs.FirstNews.{NewsOn}
use Rattle.hm_certify.proofs.news.is_first_news.Given as goal

abbrev pub invariant-loop-name : goal.invariant-loop-name
invariant-loop-name l = NewsOn (archive_or_none (option_copied l.archive)) l.tree l.names (archive_or_none (option_copied l.known)) l.side
    l.name-index
