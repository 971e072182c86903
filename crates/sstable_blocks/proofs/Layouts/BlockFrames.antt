-- The frames of a layout are where its handles say.
use Rattle.std.proofs.Common.{◌≡◌, ℕ, ◌+◌, ◌-◌, ◌*◌, ◌/◌, min, max, inl, inr, ◌<◌, ◌≤◌, ◌^◌, cond, eqb, List, [], ◌∷◌, ◌++◌, length, take, drop, refl, arith, sym, ◌∙◌, ap, subst, append_assoc, length-append}
use Rattle.std.proofs.lemmas.Bool.{cases_Bool}
use Rattle.std.proofs.lemmas.List.{take_at, drop_at, append-nil}
use Rattle.std.specs.List.{AllZip, AllByRecursion}
use Rattle.sst_base.specs.Entry.{Entry, IsEntry}
use Rattle.sst_block_core.specs.Kind.{IsOrdered, item_cmp}
use Rattle.sst_block_core.specs.Body.{IsInterval}
use Rattle.sst_block_core.specs.Buckets.{bucket_count}
use Rattle.sst_block_core.specs.Entries.{entries}
use Rattle.sst_block_core.specs.Handles.{Handle, IsIndexBlock}
use Rattle.sst_block_core.specs.Handles as index
use Rattle.sst_block_core.specs.Payload.{IsBlock}
use Rattle.sstable_blocks.specs.Blocks.{joined, IsNotEmpty}
use Rattle.sstable_blocks.specs.Run.{Form, block_payload, block_frame, block_frames, handles_from, index_text, index_frame, filter_frame, filter_frame_length, run_text, IsRun, RunFits}
use Rattle.sstable_blocks.specs.EndLaws.{ends_in_order, front_in_order, back_in_order, all_front, all_back}
use Rattle.sstable_blocks.proofs.Layouts.BlockHandles.{handles_end, length-handles_from, handles_valid}

-- a part of bytes is at an offset
pub record IsPart (bytes : List ℕ) (offset : ℕ) (part : List ℕ) : Type 0 where
  pub inside : offset + length part ≤ length bytes
  pub is : take (length part) (drop offset bytes) ≡ part

-- a part is after the bytes before it
pub IsPart-between : (front part rest : List ℕ) → IsPart (front ++ (part ++ rest)) (length front) part
IsPart-between front part rest = record {
  inside = omega (arith, length-append front (part ++ rest), length-append part rest);
  is = ap (take (length part)) (drop_at front (part ++ rest) (length front) refl) ∙ take_at part rest (length part) refl;
}

-- counts of buckets are below 2^32
bucket_count_below : (num den n : ℕ) → bucket_count num den n < 2 ^ 32
bucket_count_below num den n = elim (cases_Bool (eqb num 0)) [
  | inl none ↦ subst (λ b. cond b 0 (min (2 ^ 32 - 1) (max 1 (n * num / den))) < 2 ^ 32) (sym none) (omega arith)
  | inr some ↦ subst (λ b. cond b 0 (min (2 ^ 32 - 1) (max 1 (n * num / den))) < 2 ^ 32) (sym some) (omega arith)
]

module _ (f : Form) where
  -- the frame of a block is where a handle says
  pub record IsHandleOf (bytes : List ℕ) (block : List Entry) (h : Handle) : Type 0 where
    pub part : IsPart bytes h.offset (block_frame f block)
    pub size : h.size ≡ length (block_frame f block)

  -- the frames of all blocks are where their handles say
  pub frames_stand : (bytes front rest : List ℕ) (offset : ℕ) (blocks : List (List Entry)) → bytes ≡ front ++ (block_frames f blocks ++ rest) → offset ≡ length front → AllZip (IsHandleOf bytes) blocks (handles_from f offset blocks)
  frames_stand bytes front rest offset [] e o = tt
  frames_stand bytes front rest offset (b ∷ bs) e o =
      let split : bytes ≡ front ++ (block_frame f b ++ (block_frames f bs ++ rest)) = e ∙ ap (λ xs. front ++ xs) (append_assoc (block_frame f b) (block_frames f bs) rest) in
      let more : bytes ≡ (front ++ block_frame f b) ++ (block_frames f bs ++ rest) = split ∙ sym (append_assoc front (block_frame f b) (block_frames f bs ++ rest)) in
      let at : offset + length (block_frame f b) ≡ length (front ++ block_frame f b) = ap (λ n. n + length (block_frame f b)) o ∙ sym (length-append front (block_frame f b)) in
      let here : IsPart bytes offset (block_frame f b) =
      subst (λ n. IsPart bytes n (block_frame f b)) (sym o) (subst (λ xs. IsPart xs (length front) (block_frame f b)) (sym split) (IsPart-between front (block_frame f b) (block_frames f bs ++ rest))) in (
        record { part = here; size = refl },
        frames_stand bytes (front ++ block_frame f b) rest (offset + length (block_frame f b)) bs more at,
      )

  pub run_frames : (blocks : List (List Entry)) (p : List ℕ) → AllZip (IsHandleOf (run_text f blocks p)) blocks (handles_from f 0 blocks)
  unfolding run_text
  run_frames blocks p = frames_stand (run_text f blocks p) [] (index_frame f blocks ++ filter_frame f p) 0 blocks refl refl

  -- the frame of the index is after the frames of the blocks
  pub index_stands : (blocks : List (List Entry)) (p : List ℕ) → IsPart (run_text f blocks p) (length (block_frames f blocks)) (index_frame f blocks)
  unfolding run_text
  index_stands blocks p = IsPart-between (block_frames f blocks) (index_frame f blocks) (filter_frame f p)

  -- and the frame of the filter is after it
  pub filter_stands : (blocks : List (List Entry)) (p : List ℕ) → IsPart (run_text f blocks p) (length (block_frames f blocks) + length (index_frame f blocks)) (filter_frame f p)
  unfolding run_text
  filter_stands blocks p =
      let whole : (block_frames f blocks ++ index_frame f blocks) ++ (filter_frame f p ++ []) ≡ block_frames f blocks ++ (index_frame f blocks ++ filter_frame f p) =
      ap (λ xs. (block_frames f blocks ++ index_frame f blocks) ++ xs) (append-nil (filter_frame f p)) ∙ append_assoc (block_frames f blocks) (index_frame f blocks) (filter_frame f p) in
      subst (λ n. IsPart (block_frames f blocks ++ (index_frame f blocks ++ filter_frame f p)) n (filter_frame f p)) (length-append (block_frames f blocks) (index_frame f blocks))
      (subst (λ xs. IsPart xs (length (block_frames f blocks ++ index_frame f blocks)) (filter_frame f p)) whole
      (IsPart-between (block_frames f blocks ++ index_frame f blocks) (filter_frame f p) []))

  -- the payload of a block encodes it
  abbrev pub EncodesBlock : List Entry → Type 0
  EncodesBlock block = IsBlock entries IsEntry f.hash64 (block_payload f block) block f.config.restart_interval (bucket_count f.config.ratio.num f.config.ratio.den (length block))

  pub blocks_are_blocks : (blocks : List (List Entry)) → AllByRecursion IsNotEmpty blocks → AllByRecursion IsEntry (joined blocks) → IsOrdered entries (joined blocks) → IsInterval f.config.restart_interval → AllByRecursion EncodesBlock blocks
  unfolding block_payload
  blocks_are_blocks [] s v o i = tt
  blocks_are_blocks (b ∷ bs) s v o i = (
    record {
      encoding = record {
        some = s.0;
        interval = i;
        bucket_count = bucket_count_below f.config.ratio.num f.config.ratio.den (length b);
        are_valid = all_front IsEntry b (joined bs) v;
        whole = refl;
      };
      ordered = front_in_order (item_cmp entries) b (joined bs) o;
    },
    blocks_are_blocks bs s.1 (all_back IsEntry b (joined bs) v) (back_in_order (item_cmp entries) b (joined bs) o) i,
  )

  -- the payload of the index encodes the handles of the blocks
  pub index_is_index : (blocks : List (List Entry)) → IsRun f blocks → RunFits f blocks → IsIndexBlock (index_text f blocks) (handles_from f 0 blocks) f.config.index_interval
  unfolding index_text
  index_is_index blocks run fits =
      let end : length (block_frames f blocks) + (length (index_frame f blocks) + filter_frame_length f blocks) < 2 ^ 64 = fits.end in
      let valid = handles_valid f blocks 0 run.all_some run.valid fits.data_frames_fit (omega arith) in
      record {
        block = record {
          encoding = record {
            some = (let n = length-handles_from f blocks 0 in let m = run.some in omega arith);
            interval = run.index_interval;
            bucket_count = omega arith;
            are_valid = valid.0;
            whole = refl;
          };
          ordered = ends_in_order entries index.handles blocks (handles_from f 0 blocks) (handles_end f blocks 0 run.all_some) run.ordered;
        };
        ends = valid.1;
      }
