-- What is left of an archive and two sides where writing them stopped, and which conflicts remain over that.
use Rattle.std.specs.Prelude.{ℕ, zero, suc, Bool, true, false, cond, List, map}
use Rattle.hm_outcome.specs.Trios.{Trio}
use Rattle.hm_report.specs.declared.conflict.Conflict.{Conflict}
use Rattle.hm_report.specs.declared.conflict.Why.TheVariants as why

-- which of the three are new once n of them are: the left side is written first, then the right one, and the archive last
abbrev pub left_is_new : ℕ → Bool
left_is_new zero = false
left_is_new (suc n) = true

abbrev pub right_is_new : ℕ → Bool
right_is_new zero = false
right_is_new (suc n) = left_is_new n

abbrev pub archive_is_new : ℕ → Bool
archive_is_new zero = false
archive_is_new (suc n) = right_is_new n

-- what is left where writing stopped behind n of them
abbrev pub stopped : Trio → Trio → ℕ → Trio
stopped before after n = record {
  archive = cond (archive_is_new n) after.archive before.archive;
  left = cond (left_is_new n) after.left before.left;
  right = cond (right_is_new n) after.right before.right;
}

-- a conflict where the archive has a mark
abbrev pub as_earlier : Conflict → Conflict
as_earlier c = record { path = c.path; why = why.Earlier }

-- the conflicts over what is left: at the same paths, each for the same reason while the archive is the old one, and an earlier one
-- once it is new
abbrev pub conflicts_again : ℕ → List Conflict → List Conflict
conflicts_again n conflicts = cond (archive_is_new n) (map as_earlier conflicts) conflicts
