use Rattle.std.proofs.Common.{◌≡◌, ◌≢◌, ℕ, zero, suc, [], refl, subst}
use Rattle.std.specs.Option.{option_map}
use Rattle.std.specs.Result.{OnOk}
use Rattle.sstable_blocks.specs.Run.{Form, form}
use Rattle.sstable_blocks.specs.TableKinds.{TableKind, run_kind}
use Rattle.sstable_blocks.specs.declared.run.RunConfig.{RunConfig}
use Rattle.sst_parts.specs.PartKinds.{parted_kind}
use Rattle.sst_parts.specs.declared.writer.PartForm.{PartForm}
use Rattle.sst_merge.specs.Outputs.{AreWritten}
use Rattle.sstool.specs.Merged.{kind_of}
use Rattle.sstool.proofs.merge.write_as.Goals as goal

-- what holds of tables without parts, holds where they have parts of no bytes
plain : (P : TableKind → Type 0) (f : Form) (n : ℕ) → n ≡ 0 → P (run_kind f) → P (kind_of f n)
plain P f zero none h = h
plain P f (suc n) none h = absurd (cc)

parted : (P : TableKind → Type 0) (f : Form) (n : ℕ) → n ≢ 0 → P (parted_kind f (record { blocks = 0; bytes = n })) → P (kind_of f n)
parted P f zero some h = absurd (some refl)
parted P f (suc n) some h = h

pub returns-then-how-eq0 : goal.returns-then-how-eq0
returns-then-how-eq0 g c =
    let f = form g.H.BlockHash.hash64 g.H.BlockHash.hash128 c.args.how.config in
    let left = (g.I.Source.left c.args.source).list in
    let P = λ (k : TableKind). OnOk c.write_source.result (AreWritten k c.args.how.sizes g.O.Outputs.start left (option_map (λ _. []) left) (g.O.Outputs.tables c.args.tables.now) (g.O.Outputs.tables c.write_source.new.tables)) in
    record { written = plain P f c.args.how.part_size c.if-how-eq0.true c.write_source.ensures.written }

pub returns-else-how-eq0 : goal.returns-else-how-eq0
returns-else-how-eq0 g c =
    let h = λ (k : RunConfig). form g.H.BlockHash.hash64 g.H.BlockHash.hash128 k in
    let source = c.write_source-else-how-eq0 in
    let left = (g.I.Source.left c.args.source).list in
    let P = λ (k : TableKind). OnOk source.result (AreWritten k c.args.how.sizes g.O.Outputs.start left (option_map (λ _. []) left) (g.O.Outputs.tables c.args.tables.now) (g.O.Outputs.tables source.new.tables)) in
    let written = subst (λ (form : PartForm). P (parted_kind (h form.config) form.sizes)) c.parted-form.ensures source.ensures.written in
    record { written = parted P (h c.args.how.config) c.args.how.part_size c.if-how-eq0.false written }
