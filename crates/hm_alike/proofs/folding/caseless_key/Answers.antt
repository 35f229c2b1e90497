use Rattle.unicode_normalization.specs.Forms.{nfkd}
use Rattle.caseless.specs.Caseless.{default_case_fold}
use Rattle.hm_alike.proofs.Keys.{next_key}
use Rattle.hm_alike.proofs.folding.caseless_key.Goals as goal

pub returns : goal.returns
returns c =
    let once = next_key default_case_fold c.in_ok-canonical.canonical _ _ _ c.in_ok-canonical.ensures c.as_str.ensures.value c.in_ok-once.ensures in
    let compatible = next_key nfkd c.in_ok-once.once _ _ _ once c.as_str-2.ensures.value c.in_ok-compatible.ensures in
    let twice = next_key default_case_fold c.in_ok-compatible.compatible _ _ _ compatible c.as_str-3.ensures.value c.in_ok-twice.ensures in
    next_key nfkd c.in_ok-twice.twice _ _ _ twice c.as_str-4.ensures.value c.in_ok-to_nfkd.ensures
