-- Blocks of a size, and their table.
use Rattle.std.proofs.Common.{◌≡◌, ℕ, ◌≤◌, List, [], ◌∷◌, ◌++◌, length, sym, ◌∙◌, ap, append_assoc}
use Rattle.sstable_blocks.specs.Prelude.{Entry, entries, IsOrdered}
use Rattle.sstable_blocks.specs.Blocks.{joined}
use Rattle.std.proofs.Common.{subst, Option}
use Rattle.std.specs.Io.KnownBytes.{Appends}
use Rattle.sstable_blocks.specs.Run.{block_frames}
use Rattle.sstable_blocks.specs.RunLaws.{fits_one, joined_push}
use Rattle.sstable_blocks.specs.Writing.{IsTable, AppendsTable, FrameFits, TableFits}
use Rattle.sstable_blocks.specs.declared.run.RunConfig.{RunConfig}
use Rattle.sstable_blocks.specs.declared.run.RunHandles.{RunHandles}
use Rattle.sst_program.specs.Table.{HaveSize, IsCutBy, IsTooLong, AppendsPacked, sst_form}
use Rattle.sstable_blocks.specs.EndLaws.{front_in_order}

-- all blocks have n items
abbrev pub AreFull : {X : Type 0} → ℕ → List (List X) → Type 0
AreFull n [] = Unit {0}
AreFull n (block ∷ blocks) = (length block ≡ n) × AreFull n blocks

pub full-next : {X : Type 0} (n : ℕ) (blocks : List (List X)) (block : List X) → AreFull n blocks → length block ≡ n → AreFull n (blocks ++ block ∷ [])
full-next n [] block h e = (e, tt)
full-next n (b ∷ blocks) block h e = (h.0, full-next n blocks block h.1 e)

pub size-next : {X : Type 0} (n : ℕ) (blocks : List (List X)) (block : List X) → AreFull n blocks → 1 ≤ length block → length block ≤ n → HaveSize n (blocks ++ block ∷ [])
size-next n [] block h some most = (some, most)
size-next n (b ∷ []) block h some most = (h.0, (some, most))
size-next n (b ∷ c ∷ blocks) block h some most = (h.0, size-next n (c ∷ blocks) block h.1 some most)

-- a block more, cut from what is left
pub all-next : {X : Type 0} (blocks : List (List X)) (block behind rest items : List X) → joined blocks ++ rest ≡ items → rest ≡ block ++ behind
    → joined (blocks ++ block ∷ []) ++ behind ≡ items
all-next blocks block behind rest items all cut =
    ap (λ xs. xs ++ behind) (joined_push blocks block) ∙ append_assoc (joined blocks) block behind ∙ ap (λ xs. joined blocks ++ xs) (sym cut) ∙ all

pub ordered-next : (blocks : List (List Entry)) (block behind rest items : List Entry) → joined blocks ++ rest ≡ items → rest ≡ block ++ behind
    → IsOrdered entries items → IsOrdered entries (joined (blocks ++ block ∷ []))
ordered-next blocks block behind rest items all cut h =
    front_in_order _ (joined (blocks ++ block ∷ [])) behind (rw (all-next blocks block behind rest items all cut) h)

-- blocks of a size, written as a table
pub table-of : (config config' : RunConfig) (n : ℕ) (items : List Entry) (blocks : List (List Entry)) (h : RunHandles) (old start after : Option (List ℕ)) (count len : ℕ)
    → IsCutBy n items blocks → config' ≡ config → start ≡ old → AppendsTable (sst_form config') blocks start after h len → count ≡ length blocks
    → AppendsPacked config n items old after (record { blocks = count; len = len })
table-of config config' n items blocks h old start after count len cut same begin t is-count = record {
  blocks = blocks;
  bytes = t.bytes;
  cut = cut;
  table = (h, subst (λ k. IsTable (sst_form k) blocks h t.bytes) same t.table);
  appended = subst (λ a. Appends a after t.bytes) begin t.appended;
  block_count = is-count;
  len = t.len_is;
}

-- a block of a front that does not fit after the blocks before it
pub too-long : (config config' : RunConfig) (n : ℕ) (blocks : List (List Entry)) (block behind rest items : List Entry) → config' ≡ config → joined blocks ++ rest ≡ items → rest ≡ block ++ behind
    → AreFull n blocks → 1 ≤ length block → length block ≤ n
    → (FrameFits (sst_form config') (length (block_frames (sst_form config') blocks)) block → ⊥) → IsTooLong config n items
too-long config config' n blocks block behind rest items same all cut full some most refused = record {
  blocks = blocks ++ block ∷ [];
  rest = behind;
  all = all-next blocks block behind rest items all cut;
  sizes = size-next n blocks block full some most;
  long = λ (t : TableFits (sst_form config) (blocks ++ block ∷ [])).
      refused (subst (λ k. FrameFits (sst_form k) (length (block_frames (sst_form k) blocks)) block) (sym same) (fits_one (sst_form config) blocks block [] t.run));
}
