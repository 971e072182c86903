use Rattle.std.proofs.Common.{◌≡◌, ◌-◌, map, take}
use Rattle.sst_parts.specs.PartWriting.{data_len}
use Rattle.sst_parts.proofs.part_core.spend.Given as goal

abbrev pub invariant-loop-item : goal.invariant-loop-item
invariant-loop-item g l = l.rest ≡ l.fn.left - data_len (map g.T.AsEntry.entry (take l.item-index l.items))
