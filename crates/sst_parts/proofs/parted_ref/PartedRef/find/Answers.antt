use Rattle.std.proofs.Common.{◌≡◌, Some, None, sym, subst, ◌∙◌}
use Rattle.sstable_blocks.specs.Prelude.{CountsBetween, entries, first_match}
use Rattle.sst_parts.specs.PartChecks.{ForParted}
use Rattle.sst_parts.specs.Parts.{parted_most}
use Rattle.sst_parts.proofs.Checks.PartFinds.{find_none, find_some}
use Rattle.sst_parts.proofs.Scanning.PartSteps.{top_counted, top_uncounted}
use Rattle.sstable_blocks.specs.Blocks.{joined}
use Rattle.sstable_blocks.specs.RunReading.{hashes}
use Rattle.sst_parts.proofs.parted_ref.PartedRef.find.Goals as goal

pub find_in_part-requires : goal.find_in_part-requires
find_in_part-requires g c =
    let k = hashes g.H.BlockHash.hash64 g.H.BlockHash.hash128 in
    let s = c.self.inside in
    let i = c.self.invariant in
    let w = find_some k s.bytes.now c.args.needle.now c.args.seqno _ _ _ c.in-Some.part c.find_in.ensures.found c.in-Some.is
    (c.parted_is_found.ensures k i.0.0 s.bytes.now s.top s.index.items c.args.needle.now c.args.seqno g.met.H.BlockHash.hash128_fits i.0.1 i.1) in
    (w.0, w.1, w.2, w.3)

pub returns-in-None-clause-found : goal.returns-in-None-clause-found
returns-in-None-clause-found g c =
    let k = hashes g.H.BlockHash.hash64 g.H.BlockHash.hash128 in
    let s = c.self.inside in
    let i = c.self.invariant in
    subst (λ v. ForParted k v.source v.top (λ parts. None ≡ first_match entries c.args.needle.now c.args.seqno (joined (joined parts)))) c.self.view_is
    (λ parts parted. find_none k s.bytes.now c.args.needle.now c.args.seqno _ _ _ c.find_in.ensures.found c.in-None.is
    (c.parted_is_found.ensures k parts s.bytes.now s.top s.index.items c.args.needle.now c.args.seqno g.met.H.BlockHash.hash128_fits parted i.1))

pub returns-in-None-clause-counts : goal.returns-in-None-clause-counts
returns-in-None-clause-counts g c =
    let s = c.self.inside in
    subst (λ v. CountsBetween c.args.steps.now c.find_in.new.steps (1, 0) (parted_most v.source v.tops v.interval c.args.needle.now c.args.seqno)) c.self.view_is
    (top_uncounted c.args.needle.now c.args.seqno (Some s.bytes.now) s.index.items s.index.interval _ _ c.find_in.ensures.counts)

pub returns-in-Some-clause-found : goal.returns-in-Some-clause-found
returns-in-Some-clause-found g c =
    let k = hashes g.H.BlockHash.hash64 g.H.BlockHash.hash128 in
    let s = c.self.inside in
    let i = c.self.invariant in
    subst (λ v. ForParted k v.source v.top (λ parts. c.find_in_part.result ≡ first_match entries c.args.needle.now c.args.seqno (joined (joined parts)))) c.self.view_is
    (λ parts parted.
    let w = find_some k s.bytes.now c.args.needle.now c.args.seqno _ _ _ c.in-Some.part c.find_in.ensures.found c.in-Some.is
    (c.parted_is_found.ensures k parts s.bytes.now s.top s.index.items c.args.needle.now c.args.seqno g.met.H.BlockHash.hash128_fits parted i.1) in
    c.find_in_part.ensures.found w.0 w.1 w.2 w.3 ∙ sym w.4)

pub returns-in-Some-clause-counts : goal.returns-in-Some-clause-counts
returns-in-Some-clause-counts g c =
    let s = c.self.inside in
    subst (λ v. CountsBetween c.args.steps.now c.find_in_part.new.steps (1, 0) (parted_most v.source v.tops v.interval c.args.needle.now c.args.seqno)) c.self.view_is
    (top_counted c.args.needle.now c.args.seqno (Some s.bytes.now) s.index.items s.index.interval _ c.in-Some.part _ _ _ c.find_in.ensures.found c.in-Some.is c.find_in.ensures.counts c.find_in_part.ensures.counts)
