-- The end of a run: its index and its filter.
use Rattle.std.proofs.Common.{◌≡◌, ℕ, ◌+◌, ◌*◌, ◌/◌, ◌≤◌, ◌^◌, ◌⊎◌, cond, List, [], ◌++◌, length, refl, arith, sym, ◌∙◌, ap, subst, inl, inr, Option, Some, None, Result, Ok, Err, IfErr, OnOk}
use Rattle.std.proofs.lemmas.Bool.{eq-eqb, ne_eqb}
use Rattle.std.proofs.lemmas.List.{length-map}
use Rattle.std.specs.Io.KnownBytes.{Appends}
use Rattle.std.specs.List.{AllByRecursion}
use Rattle.sst_base.specs.BlockHandle.{HandleParts}
use Rattle.sst_base.specs.Entry.{Entry}
use Rattle.sst_base.specs.Frame.{frame}
use Rattle.sst_base.specs.FrameLaws.{length-frame}
use Rattle.sst_base.specs.declared.error.Error.{Error}
use Rattle.sst_base.specs.declared.error.Error.TheVariants.{TooLong, Io}
use Rattle.sst_base.specs.declared.table.block.block_type.BlockType.TheVariants.{Index, Filter}
use Rattle.sst_block_core.specs.Encoders.{IsRefusal}
use Rattle.sst_block_core.specs.Handles.{Handle, index_payload}
use Rattle.sstable_blocks.specs.Blocks.{joined}
use Rattle.sstable_blocks.specs.Filter.{bit_count}
use Rattle.sstable_blocks.specs.FilterLaws.{length-filter_payload}
use Rattle.sstable_blocks.specs.Run.{Form, block_payload, block_frames, index_text, index_frame, filter_frame, key_hashes, filter_frame_length, run_text, run_handles, IsFramed, IsFilterText, IsRun, RunFits}
use Rattle.sstable_blocks.specs.Writing.{IsKept, PartFits, IsWriteRefusal, IsFrameAppended, AppendsFilter, AppendsEnd}
use Rattle.sstable_blocks.proofs.Layouts.CutLoops.{appends_then}
use Rattle.sstable_blocks.proofs.Layouts.Kept.{joined_some}

-- a part that is refused does not fit
pub part_refused : (fits : Type 0) (at : ℕ) (p : List ℕ) (e : Error) → (e ≡ Io) ⊎ ((e ≡ TooLong) × (PartFits at p → ⊥)) → (fits → PartFits at p) → IsWriteRefusal (fits → ⊥) e
part_refused fits at p e (inl io) f = inl io
part_refused fits at p e (inr long) f = inr (inl (long.0, λ (x : fits). long.1 (f x)))

pub on_any : {T P : Type 0} (r : Result T Error) → P → OnOk r P
on_any (Ok x) p = p
on_any (Err e) p = tt

pub if_err_map : {T : Type 0} (r : Result T Error) (P Q : Error → Type 0) → ((e : Error) → P e → Q e) → IfErr r P → IfErr r Q
if_err_map (Ok x) P Q f h = tt
if_err_map (Err e) P Q f h = f e h

module _ (f : Form) (blocks : List (List Entry)) where
  pub index_long : length (index_frame f blocks) ≡ 33 + length (index_text f blocks)
  index_long = length-frame f.hash128 Index (index_text f blocks)

  -- the frame of a filter is as long as the formulas say
  no_frame_long : f.config.bits_per_key ≡ 0 → filter_frame_length f blocks ≡ 0
  no_frame_long z = ap (λ b. cond b 0 (55 + bit_count (length (joined blocks)) f.config.bits_per_key / 8)) (eq-eqb _ _ z)

  pub filter_long : 1 ≤ f.config.bits_per_key → (p : List ℕ) → IsFilterText (key_hashes f.hash64 (joined blocks)) f.config.bits_per_key p → filter_frame_length f blocks ≡ 33 + length p
  filter_long some p is =
      let a = is.m in
      let b = is.inserted.sized.bits in
      let n = length-map (joined blocks) (λ (e : Entry). f.hash64 e.key.user_key) in
      let m = ap (λ x. (x * f.config.bits_per_key + 7) / 8 * 8) n in
      let l = ap length is.text ∙ length-filter_payload is.filter in
      ap (λ b. cond b 0 (55 + bit_count (length (joined blocks)) f.config.bits_per_key / 8)) (ne_eqb f.config.bits_per_key 0 (λ z. absurd (omega arith)))
      ∙ (let e : 55 + (length (joined blocks) * f.config.bits_per_key + 7) / 8 * 8 / 8 ≡ 33 + length p = omega arith in e)

  pub filter_framed : 1 ≤ f.config.bits_per_key → length (joined blocks) * f.config.bits_per_key ≤ 34359737920 → (p : List ℕ) → IsFilterText (key_hashes f.hash64 (joined blocks)) f.config.bits_per_key p → IsFramed p
  filter_framed some few p is =
      let a = is.m in
      let b = is.inserted.sized.bits in
      let n = length-map (joined blocks) (λ (e : Entry). f.hash64 e.key.user_key) in
      let m = ap (λ x. (x * f.config.bits_per_key + 7) / 8 * 8) n in
      let l = ap length is.text ∙ length-filter_payload is.filter in
      let e : length p ≤ 4294967262 = omega arith in e

  -- a run that fits has a filter that fits after its index
  pub filter_fits : 1 ≤ f.config.bits_per_key → (p : List ℕ) (at : ℕ) → IsFilterText (key_hashes f.hash64 (joined blocks)) f.config.bits_per_key p
      → at ≡ length (block_frames f blocks) + length (index_frame f blocks) → RunFits f blocks → PartFits at p
  filter_fits some p at is e fits =
      let l = filter_long some p is in
      let last = fits.end in
      record { framed = filter_framed some fits.bits p is; end = omega arith }

  handle_is : (h : HandleParts) (offset size : ℕ) → h.offset ≡ offset → h.size ≡ size → h ≡ record { offset = offset; size = size }
  handle_is h offset size o s i = record { offset = o i; size = s i }

  module _ (run : IsRun f blocks) (framed : AllByRecursion (λ block. IsFramed (block_payload f block)) blocks) where
    -- a layout without a filter
    ended_without : (old mid new : Option (List ℕ)) (i : HandleParts) → IsFrameAppended f.hash128 Index (length (block_frames f blocks)) (index_text f blocks) old mid i
        → f.config.bits_per_key ≡ 0 → Appends mid new [] → AppendsEnd f blocks old new (record { index = i; filter = None })
    unfolding run_text run_handles
    ended_without old mid new i index z same =
        let l = index_long in
        let n = no_frame_long z in
        let end = index.fits.end in
        let small : length (index_text f blocks) ≤ 4294967262 = index.fits.framed in
        let bits : length (joined blocks) * f.config.bits_per_key ≡ 0 = ap (λ b. length (joined blocks) * b) z ∙ (let o : length (joined blocks) * 0 ≡ 0 = omega arith in o) in
        let handle = handle_is i (length (block_frames f blocks)) (length (index_frame f blocks)) index.offset (index.size ∙ sym l) in
        let none : filter_frame f [] ≡ [] = ap (λ b. cond b [] (frame f.hash128 Filter [])) (eq-eqb _ _ z) in (
          index_frame f blocks ++ filter_frame f [],
          record {
            run = run;
            fits = record { data_frames_fit = framed; index_frame_fits = small; bits = omega arith; end = omega arith };
            filter = [];
            filter_is = λ h. absurd (omega arith);
            text = refl;
            handles = (λ j. record { index = handle j; filter = None }) ∙ (λ j. record { index = record { offset = length (block_frames f blocks); size = length (index_frame f blocks) }; filter = sym (ap (λ b. cond b None (Some (record { offset = length (block_frames f blocks) + length (index_frame f blocks); size = length (filter_frame f []) }))) (eq-eqb _ _ z)) j });
          },
          subst (λ xs. Appends old new (index_frame f blocks ++ xs)) (sym none) (appends_then old mid new _ _ index.bytes same),
        )

    -- a layout with one
    ended_with : (old mid new : Option (List ℕ)) (i h : HandleParts) (at : ℕ) → IsFrameAppended f.hash128 Index (length (block_frames f blocks)) (index_text f blocks) old mid i
        → at ≡ length (block_frames f blocks) + length (index_frame f blocks) → AppendsFilter f blocks at mid new (Some h) → AppendsEnd f blocks old new (record { index = i; filter = Some h })
    unfolding run_text run_handles
    ended_with old mid new i h at index e filter =
        let some = filter.0 in
        let few = filter.1 in
        let p = filter.2.0 in
        let is = filter.2.1 in
        let part = filter.2.2 in
        let l = index_long in
        let n = filter_long some p is in
        let end = part.fits.end in
        let small : length (index_text f blocks) ≤ 4294967262 = index.fits.framed in
        let other : f.config.bits_per_key ≡ 0 → ⊥ = λ z. absurd (omega arith) in
        let framed_p : filter_frame f p ≡ frame f.hash128 Filter p = ap (λ b. cond b [] (frame f.hash128 Filter p)) (ne_eqb _ _ other) in
        let m = ap length framed_p ∙ length-frame f.hash128 Filter p in
        let handle = handle_is i (length (block_frames f blocks)) (length (index_frame f blocks)) index.offset (index.size ∙ sym l) in
        let second = handle_is h (length (block_frames f blocks) + length (index_frame f blocks)) (length (filter_frame f p)) (part.offset ∙ e) (part.size ∙ sym m) in (
          index_frame f blocks ++ filter_frame f p,
          record {
            run = run;
            fits = record { data_frames_fit = framed; index_frame_fits = small; bits = few; end = omega arith };
            filter = p;
            filter_is = λ k. is;
            text = refl;
            handles = (λ j. record { index = handle j; filter = Some (second j) }) ∙ (λ j. record { index = record { offset = length (block_frames f blocks); size = length (index_frame f blocks) }; filter = sym (ap (λ b. cond b None (Some (record { offset = length (block_frames f blocks) + length (index_frame f blocks); size = length (filter_frame f p) }))) (ne_eqb _ _ other)) j });
          },
          subst (λ xs. Appends old new (index_frame f blocks ++ xs)) (sym framed_p) (appends_then old mid new _ _ index.bytes part.bytes),
        )

    pub ended : (old mid new : Option (List ℕ)) (i : HandleParts) (o : Option HandleParts) (at : ℕ) → IsFrameAppended f.hash128 Index (length (block_frames f blocks)) (index_text f blocks) old mid i
        → at ≡ length (block_frames f blocks) + length (index_frame f blocks) → AppendsFilter f blocks at mid new o → AppendsEnd f blocks old new (record { index = i; filter = o })
    ended old mid new i None at index e filter = ended_without old mid new i index filter.0 filter.1
    ended old mid new i (Some h) at index e filter = ended_with old mid new i h at index e filter

module _ (f : Form) (blocks : List (List Entry)) (hs : List Handle) (hashes : List ℕ) (next : ℕ) (k : IsKept f blocks hs hashes next) (some : 1 ≤ length blocks) where
  pub run : IsRun f blocks
  run = record { some = some; all_some = k.all_some; valid = k.valid; ordered = k.ordered; interval = k.interval; index_interval = k.index_interval }

  pub index_is : index_payload hs f.config.index_interval ≡ index_text f blocks
  unfolding index_text
  index_is = ap (λ xs. index_payload xs f.config.index_interval) k.handles

  pub index_text_is : (xs : List Handle) (q : ℕ) (p : List ℕ) → xs ≡ hs → q ≡ f.config.index_interval → p ≡ index_payload xs q → p ≡ index_text f blocks
  index_text_is xs q p x e is = is ∙ ap (λ ys. index_payload ys q) x ∙ ap (index_payload hs) e ∙ index_is

  -- a run that fits has an index that fits
  pub index_fits : (p : List ℕ) → p ≡ index_text f blocks → RunFits f blocks → PartFits next p
  index_fits p is fits =
      let e = ap length is in
      let l = index_long f blocks in
      let o = k.offset in
      let n = fits.end in
      let i : length (index_text f blocks) ≤ 4294967262 = fits.index_frame_fits in
      record { framed = (let m : length p ≤ 4294967262 = omega arith in m); end = omega arith }

  pub index_refused : (p : List ℕ) → p ≡ index_text f blocks → (e : Error) → IsRefusal None (2 ^ 32 ≤ length p) e → IsWriteRefusal (RunFits f blocks → ⊥) e
  index_refused p is e (inl long) = inr (inl (long.0, λ (fits : RunFits f blocks). let h : length p ≤ 4294967262 = (index_fits p is fits).framed in let m = long.1 in absurd (omega arith)))
  index_refused p is e (inr memory) = inr (inr memory)

  -- where there are bits, the hashes kept are as many as the entries
  pub hashes_long : 1 ≤ f.config.bits_per_key → length hashes ≡ length (joined blocks)
  hashes_long bits = ap length (k.hashed bits) ∙ length-map (joined blocks) _

  pub hashes_some : 1 ≤ f.config.bits_per_key → 1 ≤ length hashes
  hashes_some bits = let h = hashes_long bits in let j = joined_some blocks some k.all_some in omega arith

  -- a filter of the hashes kept is that of the keys
  pub filter_is : 1 ≤ f.config.bits_per_key → (xs : List ℕ) (bits : ℕ) (p : List ℕ) → xs ≡ hashes → bits ≡ f.config.bits_per_key → IsFilterText xs bits p → IsFilterText (key_hashes f.hash64 (joined blocks)) f.config.bits_per_key p
  filter_is active xs bits p x b is = subst (λ n. IsFilterText (key_hashes f.hash64 (joined blocks)) n p) b (subst (λ ys. IsFilterText ys bits p) (x ∙ k.hashed active) is)
