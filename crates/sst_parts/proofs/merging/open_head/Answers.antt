use Rattle.std.proofs.Common.{◌≡◌, inl, inr, List, ℕ, rules, sym, subst, ◌∙◌}
use Rattle.std.proofs.lemmas.Result.{IfErr-weaker, IfOk-weaker, err_from_is_err_and}
use Rattle.sstable_blocks.specs.RunReading.{hashes}
use Rattle.sst_parts.specs.PartMerges.{IsPartBytes}
use Rattle.sst_sources.specs.FailureLaws.{is_memory}
use Rattle.sst_parts.proofs.Merged.Faults.{not_refused, scan_part_meets}
use Rattle.sst_parts.proofs.Merged.Steps.{scan_part_list}
use Rattle.sst_parts.specs.PartMerges.{decoded}
use Rattle.sstable_blocks.specs.Blocks.{joined}
use Rattle.sstable_blocks.specs.Scans.{reads_left}
use Rattle.sst_parts.proofs.merging.open_head.Goals as goal

pub returns : goal.returns
returns g c =
    let h = hashes g.H.BlockHash.hash64 g.H.BlockHash.hash128 in
    let s = c.in_ok-scan.scan in
    let same : c.in_ok-copy.copy ≡ c.args.bytes.now = search rules in
    let meets = λ (part : List _) (end : _) (is : IsPartBytes h c.args.bytes.now part end) (e : _).
    scan_part_meets h c.in_ok-copy.copy part end s.ended s.table.source.inner (λ (all : List ℕ). reads_left h all s) e c.in_ok-scan.ensures.going.going (subst (λ (b : List ℕ). IsPartBytes h b part end) (sym same) is) c.in_ok-scan.ensures.reads
    in
    record {
      sound = IfOk-weaker c.new.result _ _ (λ head k part end is e met. meets part end is e (k e met)) c.new.ensures.no_more;
      memory = IfErr-weaker c.new.result _ _ (λ e k part end is. elim k [
        | inl m ↦ m
        | inr q ↦ elim q [
          | inl f ↦ absurd (f.1 (λ s. tt))
          | inr met ↦ absurd (meets part end is e met)
        ]
      ]) c.new.ensures.cause;
      opened = IfOk-weaker c.new.result _ _ (λ head k part end is.
          k ∙ scan_part_list h c.in_ok-copy.copy part end s.ended s.table.source.inner _ c.in_ok-scan.ensures.going.going (subst (λ (b : List ℕ). IsPartBytes h b part end) (sym same) is) c.in_ok-scan.ensures.reads) c.new.ensures.list;
    }

pub returns-in_err-scan-clause-memory : goal.returns-in_err-scan-clause-memory
returns-in_err-scan-clause-memory g c =
    let h = hashes g.H.BlockHash.hash64 g.H.BlockHash.hash128 in
    let p = err_from_is_err_and c.from_residual-in_err-scan.result c.from_residual-in_err-scan.ensures.1 in
    let same : c.in_ok-copy.copy ≡ c.args.bytes.now = search rules in
    let e = c.in_err-scan.field-0.0 in
    rw (p.1, p.2) (λ part end is.
    let read = subst (λ (b : List ℕ). IsPartBytes h b part end) (sym same) is in
    elim (is_memory e) [
      | inl m ↦ m
      | inr other ↦ absurd (not_refused (decoded (joined part)) _ e read.read (c.in_err-scan.ensures.refused other))
    ])
