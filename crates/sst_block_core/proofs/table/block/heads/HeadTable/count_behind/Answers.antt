use Rattle.std.proofs.Common.{refl, inl, inr, arith}
use Rattle.sst_block_core.proofs.Search.Halves.{digits_half}
use Rattle.sst_block_core.proofs.Heads.TableSearches.{before_inside, cut_at}
use Rattle.sst_block_core.proofs.table.block.heads.HeadTable.count_behind.Goals as goal

pub loop-size-init : goal.loop-size-init
loop-size-init c =
    let within = before_inside c.args.payload.now c.args.bound.now.needle.now c.args.bound.now.from c.args.self.now c.requires.table in
    let same = c.len-size.ensures in
    record {
      inside = omega (arith, same);
      low = omega arith;
      high = omega (arith, same, within);
      looked = rw same refl;
      entries = refl;
    }

pub loop-size-preserved : goal.loop-size-preserved
loop-size-preserved c =
    let i = c.loop-size.invariant in
    let half = digits_half c.loop-size.size c.loop-size-test.true in
    let more = c.masked-base.ensures in
    elim (cut_at c.args.payload.now c.args.bound.now.needle.now c.args.bound.now.from c.args.self.now c.requires.table _ _ c.passes-passed.ensures.tells) [
      | inl at ↦
          let low = at.1 in
          let all = rw at.0 at more in
          record {
            inside = omega (arith, i.inside, all);
            low = omega (arith, low, all);
            high = omega (arith, i.high, all);
            looked = omega (arith, i.looked, c.passes-passed.ensures.counts.heads, half);
            entries = omega (arith, i.entries, c.passes-passed.ensures.counts.entries);
          }
      | inr at ↦
          let high = at.1 in
          let none = rw at.0 at more in
          record {
            inside = omega (arith, i.inside, none);
            low = omega (arith, i.low, none);
            high = omega (arith, high, none);
            looked = omega (arith, i.looked, c.passes-passed.ensures.counts.heads, half);
            entries = omega (arith, i.entries, c.passes-passed.ensures.counts.entries);
          }
    ]
