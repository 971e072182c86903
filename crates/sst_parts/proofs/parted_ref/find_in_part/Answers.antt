use Rattle.std.proofs.Common.{subst}
use Rattle.sstable_blocks.specs.ReadCosts.{CountsRead}
use Rattle.sstable_blocks.specs.RunReading.{hashes}
use Rattle.sst_parts.proofs.Checks.PartFinds.{counted}
use Rattle.sst_parts.proofs.parted_ref.find_in_part.Goals as goal

pub returns-clause-found : goal.returns-clause-found
returns-clause-found g c = λ blocks h is stored. c.find.ensures.found blocks (c.run_of.ensures.sound blocks h is stored)

pub returns-clause-counts : goal.returns-clause-counts
returns-clause-counts g c =
    let w = c.requires in
    let r = c.run_of.ensures in
    counted (hashes g.H.BlockHash.hash64 g.H.BlockHash.hash128) c.args.bytes.now c.args.part.now w.0 w.1 w.2 w.3 c.run_of.result.handles c.args.needle.now c.args.seqno _ _ r.handles
    (subst (λ xs. CountsRead xs c.run_of.result.handles c.args.needle.now c.args.seqno c.args.steps.now c.find.new.steps) r.bytes c.find.ensures.counts)
