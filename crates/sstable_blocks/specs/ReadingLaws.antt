-- Laws of the openings of blocks.
use Rattle.std.proofs.Common.{inl, inr, ℕ, ◌+◌, ◌<◌, List, length, slice_get, Option, Some, Ok, refl, ap, ◌∙◌, arith}
use Rattle.std.specs.Option.{option_map}
use Rattle.std.specs.Prelude.{Result}
use Rattle.sst_base.specs.Entry.{Entry}
use Rattle.sst_base.specs.declared.error.Error.{Error}
use Rattle.sstable_blocks.specs.BlockReading.{AreBlocks}
use Rattle.sstable_blocks.specs.Opened.{index_in}
use Rattle.sstable_blocks.specs.Readings.{TableGoes, table_reading, run_reading, shared_reading, block_of_index, entries_of_index}
use Rattle.sstable_blocks.specs.RunReading.{Hashes}
use Rattle.sstable_blocks.specs.Scans.{CutParts, in_range, run_interval}
use Rattle.sstable_blocks.specs.Sources.{FailsAs}
use Rattle.sstable_blocks.specs.Sound.{RunParts}
use Rattle.sstable_blocks.specs.Tables.{KeptParts, TableParts}
use Rattle.sstable_blocks.specs.Tallies.{cost_in}

module _ {S : Type 0} (c : Hashes) (bytes : S → Option (List ℕ)) (failures reads : S → ℕ) (is_reliable : S → Type 0) where
  abbrev Cut : Type 0
  Cut = CutParts (TableParts S)

  abbrev Goes : Cut → ℕ → Cut → Type 0
  Goes = TableGoes c bytes failures reads is_reliable

  stays : (s : Cut) → Goes s 0 s
  stays s = record { kept = refl; range = refl; source = record { same = refl; failures_grow = omega arith; kept = λ r. r }; more = omega arith }

  goes_on : (s t u : Cut) (m n : ℕ) → Goes s m t → Goes t n u → Goes s (m + n) u
  goes_on s t u m n g h =
      let f = g.source.failures_grow in
      let k = h.source.failures_grow in
      let a = g.more in
      let b = h.more in
      record {
        kept = h.kept ∙ g.kept;
        range = h.range ∙ g.range;
        source = record { same = h.source.same ∙ g.source.same; failures_grow = omega (arith, f, k); kept = λ r. h.source.kept (g.source.kept r) };
        more = omega (arith, a, b);
      }

  fails_by : (s t u : Cut) (n : ℕ) (x : Result (List Entry) Error) (e : Error) → Goes s n t → FailsAs (failures t.run.source < failures u.run.source) (is_reliable t.run.source) x e
      → FailsAs (failures s.run.source < failures u.run.source) (is_reliable s.run.source) x e
  fails_by s t u n x e g h = λ other. elim (h other) [
    | inl failed ↦ inl (
      (let f = g.source.failures_grow in let less = failed.0 in omega (arith, f, less)),
      elim (failed.1) [
        | inl io ↦ inl (io.0, λ r. io.1 (g.source.kept r))
        | inr cut ↦ inr cut
      ],
    )
    | inr read ↦ inr read
  ]

  pub table_laws : AreBlocks (table_reading c bytes failures reads is_reliable)
  table_laws = record {
    stays = stays;
    goes_on = goes_on;
    same_len = λ s t n g. ap (λ (k : KeptParts). length k.index) g.kept;
    same_read = λ s t n g i. option_map (λ all j. block_of_index c all (g.range i) (slice_get (ap (λ (k : KeptParts). k.index) g.kept i) j)) (g.source.same i);
    same_admits = λ s t n g i x. in_range (g.range i) x.key.user_key;
    same_cost = λ s t n g i. option_map (λ all j. cost_in all (ap (λ (k : KeptParts). k.interval) g.kept i) (slice_get (ap (λ (k : KeptParts). k.index) g.kept i) j)) (g.source.same i);
    errs_later = λ s t u n e g h io. (let f = g.source.failures_grow in let less = h io in omega (arith, f, less));
    fails_later = fails_by;
  }

pub run_laws : AreBlocks run_reading
run_laws = record {
  stays = λ s. record { run = refl; range = refl };
  goes_on = λ s t u m n g h. record { run = h.run ∙ g.run; range = h.range ∙ g.range };
  same_len = λ s t n g. ap (λ (run : RunParts). length (index_in run.bytes run.handles.index)) g.run;
  same_read = λ s t n g i. Some (λ j. Ok (entries_of_index (g.run i).bytes (g.range i) (slice_get (index_in (g.run i).bytes (g.run i).handles.index) j)));
  same_admits = λ s t n g. refl;
  same_cost = λ s t n g. ap (λ (run : RunParts). Some (λ j. cost_in run.bytes (run_interval run) (slice_get (index_in run.bytes run.handles.index) j))) g.run;
  errs_later = λ s t u n e g h. h;
  fails_later = λ s t u n x e g h. h;
}

pub shared_laws : AreBlocks shared_reading
shared_laws = record {
  stays = run_laws.stays;
  goes_on = run_laws.goes_on;
  same_len = run_laws.same_len;
  same_read = run_laws.same_read;
  same_admits = run_laws.same_admits;
  same_cost = run_laws.same_cost;
  errs_later = λ s t u n e g h. h;
  fails_later = λ s t u n x e g h. h;
}
