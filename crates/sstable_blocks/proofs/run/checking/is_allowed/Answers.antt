use Rattle.std.proofs.Common.{◌∙◌, ap, sym}
use Rattle.sstable_blocks.specs.Filter.{may_contain}
use Rattle.sstable_blocks.specs.CheckedLaws.{says_is}
use Rattle.sstable_blocks.proofs.run.checking.is_allowed.Goals as goal

pub returns-in_ok-hash-in-Some-clause-ok : goal.returns-in_ok-hash-in-Some-clause-ok
returns-in_ok-hash-in-Some-clause-ok g c =
    rw c.in-Some.is (sym (says_is c.in-Some.filter c.in_ok-hash-in-Some.hash c.contains_hash.result c.contains_hash.ensures) ∙ ap (may_contain c.in-Some.filter) c.in_ok-hash-in-Some.ensures.ok)
