-- A parted table as a table that is written block by block.
use Rattle.std.proofs.Common.{◌≡◌, ◌≤◌, true, cond, List, [], ◌∷◌, ◌++◌, length, refl, arith, sym, ◌∙◌, ap, append_assoc}
use Rattle.sstable_blocks.specs.Prelude.{Entry}
use Rattle.sstable_blocks.specs.Blocks.{joined, IsNotEmpty}
use Rattle.sstable_blocks.specs.Run.{Form, RunFits}
use Rattle.sstable_blocks.specs.RunLaws.{all_at, fits_one}
use Rattle.sstable_blocks.specs.TableKinds.{AddsBlock}
use Rattle.sstable_blocks.specs.declared.run.RunConfig.{RunConfig}
use Rattle.sst_parts.specs.PartKinds.{IsCutInto, PartedFits}
use Rattle.sst_parts.specs.PartWriting.{AddsTo, AreCut, EndFits, NextFits, PartWriting, blocks_so_far, current_before, is_full, parts_before}
use Rattle.sst_parts.specs.declared.writer.PartForm.{PartForm}
use Rattle.sst_parts.specs.declared.writer.PartSizes.{PartSizes}
use Rattle.sst_parts.proofs.Writing.Blocks.{cut_next, same_blocks, some_behind}

-- where blocks were written, the current part has one
pub some_current : (sizes : PartSizes) (parts : List (List (List Entry))) (current : List (List Entry)) → AreCut sizes parts current → 1 ≤ length (joined parts ++ current) → 1 ≤ length current
some_current sizes parts (b ∷ bs) cut some = omega arith
some_current sizes parts [] cut some = absurd (let none = ap (λ ps. length (joined ps ++ [])) (cut.none refl) in omega (arith, none, some))

-- whether a table of blocks fits, however they are cut
abbrev pub Fits : Form → PartSizes → List (List Entry) → Type 0
Fits f sizes blocks = (closed : List (List (List Entry))) (last : List (List Entry)) → IsCutInto sizes blocks closed last → PartedFits f (closed ++ last ∷ [])

abbrev form_of : RunConfig → PartSizes → PartForm
form_of config sizes = record { config = config; sizes = sizes }

module _ {W : Type 0} (f : Form) (w : PartWriting W) (block : List Entry) where
  abbrev closed : List (List (List Entry))
  closed = parts_before w.sizes w.parts w.current

  abbrev current : List (List Entry)
  current = current_before w.sizes w.current

  more : joined closed ++ (current ++ block ∷ []) ≡ blocks_so_far w ++ block ∷ []
  more = sym (append_assoc (joined closed) current (block ∷ [])) ∙ ap (λ bs. bs ++ block ∷ []) (same_blocks (is_full w.sizes w.current) w.parts w.current)

  -- one block more was written after all
  pub blocks_added : (new : PartWriting W) → AddsTo w new block → blocks_so_far new ≡ blocks_so_far w ++ block ∷ []
  blocks_added new a = ap (λ (ps : List (List (List Entry))). joined ps ++ new.current) a.parts ∙ ap (λ bs. joined closed ++ bs) a.current ∙ more

  pub block_added : (new : PartWriting W) → IsNotEmpty block → AddsTo w new block
      → AddsBlock {F = PartForm} (record { form = record { config = w.config; sizes = w.sizes }; blocks = blocks_so_far w; start = w.start }) (record { form = record { config = new.config; sizes = new.sizes }; blocks = blocks_so_far new; start = new.start }) block
  block_added new some a = record {
    form = ap (λ (k : RunConfig). form_of k new.sizes) a.config ∙ ap (λ (z : PartSizes). form_of w.config z) a.sizes;
    start = a.start;
    blocks = blocks_added new a;
    some = some;
  }

  -- one block more fits where the blocks with it do
  pub next_fits : AreCut w.sizes w.parts w.current → Fits f w.sizes (blocks_so_far w ++ block ∷ []) → NextFits f w block
  next_fits cut fits =
      let full = is_full w.sizes w.current in
      let last = current ++ block ∷ [] in
      let into : IsCutInto w.sizes (blocks_so_far w ++ block ∷ []) closed last = record { whole = sym more; some = some_behind current block; cut = cut_next w.sizes full w.parts w.current block cut refl } in
      let p = fits closed last into in
      let parts = λ (yes : full ≡ true). ap (λ b. cond b (w.parts ++ w.current ∷ []) w.parts ++ last ∷ []) yes ∙ append_assoc w.parts (w.current ∷ []) (last ∷ []) in
      record {
        closes = λ yes. p.files w.parts (last ∷ []) w.current (parts yes);
        frame_fits = fits_one f current block [] (all_at (RunFits f) closed last [] p.runs);
      }

-- the end of the table fits where its blocks do
pub end_fits : {W : Type 0} (f : Form) (w : PartWriting W) → AreCut w.sizes w.parts w.current → 1 ≤ length w.current → Fits f w.sizes (blocks_so_far w) → EndFits f w
end_fits f w cut some fits =
    let p = fits w.parts w.current (record { whole = refl; some = some; cut = cut }) in
    record { last = p.files w.parts [] w.current refl; top = p.top }
