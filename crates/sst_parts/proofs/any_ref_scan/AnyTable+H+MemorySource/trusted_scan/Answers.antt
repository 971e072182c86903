use Rattle.std.proofs.Common.{map, ◌∙◌, ap, sym, subst}
use Rattle.sst_sources.specs.TableReads.{within_all}
use Rattle.sst_parts.specs.AnyTables.{HasEntries, source_in}
use Rattle.sst_parts.specs.Parts.{IsParted}
use Rattle.sstable_blocks.specs.Blocks.{joined}
use Rattle.sstable_blocks.specs.Prelude.{IsSound, plain}
use Rattle.sstable_blocks.specs.RunReading.{hashes}
use Rattle.sst_parts.proofs.any_ref_scan.AnyTable+H+MemorySource.trusted_scan.Goals as goal

pub returns-in-Plain : goal.returns-in-Plain
returns-in-Plain g c = λ items has.
    let hs = hashes g.H.BlockHash.hash64 g.H.BlockHash.hash128 in
    let k = subst (λ t. HasEntries hs t (source_in t).inner items) c.in-Plain.is has in
    c.scan.ensures.left k.0 (subst (λ r. IsSound hs k.0 r.bytes r.handles) (sym c.trusted.ensures) k.1) ∙ within_all (map plain (joined k.0)) ∙ ap (map plain) (sym k.2)

pub returns-in-Parted : goal.returns-in-Parted
returns-in-Parted g c = λ items has.
    let hs = hashes g.H.BlockHash.hash64 g.H.BlockHash.hash128 in
    let k = subst (λ t. HasEntries hs t (source_in t).inner items) c.in-Parted.is has in
    c.scan-in-Parted.ensures.left k.0 (subst (λ r. IsParted hs k.0 r.source r.top) (sym c.trusted-in-Parted.ensures) k.1) ∙ within_all (map plain (joined (joined k.0))) ∙ ap (map plain) (sym k.2)
