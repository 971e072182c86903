use Rattle.std.proofs.Common.{◌∙◌, sym, ap, refl}
use Rattle.std.specs.Option.{option_map}
use Rattle.sst_block_core.specs.Entries.{entries}
use Rattle.sst_block_core.specs.ParsedEntry.{entry_of}
use Rattle.sst_block_core.specs.VersionLaws.{none_has_key}
use Rattle.sst_block_core.proofs.Items.LookupReads.{nowhere_none, interval_alone}
use Rattle.sst_block_core.proofs.Items.PlainEntries.{first_match_search}
use Rattle.sst_block_core.proofs.table.data_block.block_ref.DataBlockRef.find.Goals.{in-Nowhere, in-Interval, in-Anywhere}
use Rattle.sst_block_core.proofs.table.data_block.block_ref.DataBlockRef.find.Goals as goal

pub first_version_in-found-requires-clause-inside : goal.first_version_in-found-requires-clause-inside
first_version_in-found-requires-clause-inside g c =
    let i = c.intervals-intervals.ensures in
    let a = interval_alone g.H.BlockHash.hash64 c.args.self.now c.args.needle.now i.some c.lookup.ensures.few_heads c.in-Interval.number (sym c.lookup.ensures.value ∙ c.in-Interval.is) in
    rw (i.items, i.interval, c.from.ensures) a.0

pub first_version_in-found-requires-clause-alone : goal.first_version_in-found-requires-clause-alone
first_version_in-found-requires-clause-alone g c =
    let i = c.intervals-intervals.ensures in
    let a = interval_alone g.H.BlockHash.hash64 c.args.self.now c.args.needle.now i.some c.lookup.ensures.few_heads c.in-Interval.number (sym c.lookup.ensures.value ∙ c.in-Interval.is) in
    rw (i.items, i.interval, c.from.ensures) a.1

pub returns-clause-item : goal.returns-clause-item
returns-clause-item g c =
    let i = c.intervals-intervals.ensures in
    let items = c.args.self.now.items in
    let payload = i.payload in
    elim c.match-lookup.branch [
      | in-Nowhere w ↦
          let none = nowhere_none g.H.BlockHash.hash64 c.args.self.now c.args.needle.now i.some c.lookup.ensures.few_heads (sym c.lookup.ensures.value ∙ w.in-Nowhere.is) in
          ap (option_map (entry_of c.args.self.now.payload)) w.found-is
          ∙ first_match_search c.args.needle.now c.args.seqno items items _ refl i.plain (none_has_key entries c.args.needle.now c.args.seqno items none)
      | in-Interval w ↦
          (λ k. option_map (entry_of (sym payload k)) (w.found-is k))
          ∙ first_match_search c.args.needle.now c.args.seqno c.intervals-intervals.result.list.items items _ i.items i.plain w.first_version_in-found.ensures.item
      | in-Anywhere w ↦
          (λ k. option_map (entry_of (sym payload k)) (w.found-is k))
          ∙ first_match_search c.args.needle.now c.args.seqno c.intervals-intervals.result.list.items items _ i.items i.plain w.first_version-found.ensures.item
    ]
