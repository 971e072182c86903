-- The end of a run: its index and its filter, which make the frames of its blocks a run.
use Rattle.std.proofs.Common.{◌≡◌, ◌⊎◌, ℕ, zero, suc, ◌+◌, ◌*◌, ◌/◌, ◌≤◌, ◌<◌, ◌^◌, cond, eqb, List, [], ◌∷◌, ◌++◌, length, map, take, drop, refl, arith, sym, ◌∙◌, ap, subst, inl, inr, Option, Some, None, IfSome, length-append}
use Rattle.std.proofs.lemmas.Bool.{eq-eqb, ne_eqb}
use Rattle.std.proofs.lemmas.List.{append-nil, length-map, take_at}
use Rattle.std.specs.List.{AllByRecursion}
use Rattle.sstable_blocks.specs.BlockLaws.{length-frame}
use Rattle.sstable_blocks.specs.BlockTypes.{Index, Filter}
use Rattle.sstable_blocks.specs.Blocks.{joined}
use Rattle.sstable_blocks.specs.Filter.{bit_count}
use Rattle.sstable_blocks.specs.FilterLaws.{length-filter_payload}
use Rattle.sstable_blocks.specs.Prelude.{Entry, EndFits, Handle, HandleParts, IsHandle, IsOrdered, frame, handles, index_payload}
use Rattle.sstable_blocks.specs.Results.{Error, Memory, TooLong}
use Rattle.sstable_blocks.specs.Run.{Form, block_frame, block_frames, filter_frame, handles_from, index_frame, index_text, run_handles, run_text, IsFilterText, IsFramed, IsLayout, IsRun, RunFits}
use Rattle.sstable_blocks.specs.RunReading.{Hashes}
use Rattle.sstable_blocks.specs.Sound.{AreContiguous}
use Rattle.sstable_blocks.specs.Writing.{PartFits}
use Rattle.sstable_blocks.specs.declared.run.RunConfig.{RunConfig}
use Rattle.sstable_blocks.specs.declared.run.RunHandles.{RunHandles}
use Rattle.sst_calls.specs.Index.{handle_given, HasEndKey}
use Rattle.sst_calls.specs.RunWrites.{end_index, filter_length, frames_length, AreOfBlocks, CanEnd, EndFitsRun, EndsRunOf, FilterFits, IsEndWrite, IsFilterAppended, IsPartAppended, IsRunEnd}
use Rattle.sst_calls.specs.Runs.{handles_given, run_form}
use Rattle.sst_calls.specs.declared.codes.Status.{Status}
use Rattle.sst_calls.specs.declared.codes.Status.TheVariants.{Done, Failed, NotFound, BadArgument, NoRoom}
use Rattle.sst_calls.specs.declared.handles.SstKeyedHandle.{SstKeyedHandle}
use Rattle.sst_calls.specs.declared.run.SstRunHandles.{SstRunHandles}

-- the length of the frame of a filter
no_filter_long : (bits count : ℕ) → bits ≡ 0 → filter_length bits count ≡ 0
no_filter_long bits count z = ap (λ b. cond b 0 (55 + bit_count count bits / 8)) (eq-eqb _ _ z)

some_filter_long : (bits count : ℕ) → 1 ≤ bits → filter_length bits count ≡ 55 + bit_count count bits / 8
some_filter_long bits count some = ap (λ b. cond b 0 (55 + bit_count count bits / 8)) (ne_eqb bits 0 (λ z. absurd (omega (arith, some, z))))

pub filter_long : (hashes : List ℕ) (bits : ℕ) (p : List ℕ) → 1 ≤ bits → IsFilterText hashes bits p → filter_length bits (length hashes) ≡ 33 + length p
filter_long hashes bits p some is =
    let a = is.m in
    let b = is.inserted.sized.bits in
    let l = ap length is.text ∙ length-filter_payload is.filter in
    some_filter_long bits (length hashes) some ∙ (let e : 55 + (length hashes * bits + 7) / 8 * 8 / 8 ≡ 33 + length p = omega arith in e)

pub filter_framed : (hashes : List ℕ) (bits : ℕ) (p : List ℕ) → length hashes * bits ≤ 34359737920 → IsFilterText hashes bits p → IsFramed p
filter_framed hashes bits p few is =
    let a = is.m in
    let b = is.inserted.sized.bits in
    let l = ap length is.text ∙ length-filter_payload is.filter in
    let e : length p ≤ 4294967262 = omega arith in e

-- a filter that fits has a payload that fits
pub filter_fits : (hashes : List ℕ) (bits : ℕ) (p : List ℕ) (at : ℕ) → 1 ≤ bits → IsFilterText hashes bits p → FilterFits bits (length hashes) at → PartFits at p
filter_fits hashes bits p at some is fits =
    let l = filter_long hashes bits p some is in
    let last = fits.1 in
    record { framed = filter_framed hashes bits p fits.0 is; end = omega arith }

module _ (f : Form) (hs : List Handle) where
  pub index_long : length (end_index f hs) ≡ 33 + length (index_payload hs f.config.index_interval)
  index_long = length-frame f.hash128 Index (index_payload hs f.config.index_interval)

  -- an index and a filter fit where the end of a run with them does
  pub index_fits : (count at : ℕ) (p : List ℕ) → at ≡ frames_length hs → p ≡ index_payload hs f.config.index_interval → EndFitsRun f hs count → PartFits at p
  index_fits count at p here is fits =
      let l = index_long in
      let n = ap length is in
      let end = fits.end in
      let small : length (index_payload hs f.config.index_interval) ≤ 4294967262 = fits.index_frame_fits in
      record { framed = (let m : length p ≤ 4294967262 = omega arith in m); end = omega arith }

  pub filter_fits_end : (count at end : ℕ) (p : List ℕ) → at ≡ frames_length hs → p ≡ index_payload hs f.config.index_interval → end ≡ at + (33 + length p) → EndFitsRun f hs count → FilterFits f.config.bits_per_key count end
  filter_fits_end count at end p here is behind fits =
      let l = index_long in
      let n = ap length is in
      let last = fits.end in
      (fits.bits, omega arith)

-- where what does not fit is a part of what then does not fit either, an error of the part is one of the whole
pub refused_on : (P Q : Type 0) (e : Error) → (Q → P) → (e ≡ Memory) ⊎ ((e ≡ TooLong) × (P → ⊥)) → (e ≡ Memory) ⊎ ((e ≡ TooLong) × (Q → ⊥))
refused_on P Q e f (inl memory) = inl memory
refused_on P Q e f (inr long) = inr (long.0, λ q. long.1 (f q))

-- what is appended to no bytes, an index and then a filter, is the end of a run
module _ (c : Hashes) (config : RunConfig) (hs : List Handle) (hashes : List ℕ) where
  ended_without : (at : ℕ) (mid new : List ℕ) (i : HandleParts) → at ≡ frames_length hs → IsPartAppended c.hash128 Index at (index_payload hs config.index_interval) [] mid i
      → config.bits_per_key ≡ 0 → new ≡ mid → IsRunEnd (run_form c config) hs hashes new (record { index = i; filter = None })
  ended_without at mid new i here index z same =
      let f = run_form c config in
      let l = index_long f hs in
      let n = no_filter_long config.bits_per_key (length hashes) z in
      let end = index.fits.end in
      let small : length (index_payload hs config.index_interval) ≤ 4294967262 = index.fits.framed in
      let bits : length hashes * config.bits_per_key ≡ 0 = ap (λ b. length hashes * b) z ∙ (let o : length hashes * 0 ≡ 0 = omega arith in o) in
      let none : filter_frame f [] ≡ [] = ap (λ b. cond b [] (frame c.hash128 Filter [])) (eq-eqb _ _ z) in
      record {
        fits = record { index_frame_fits = small; bits = omega arith; end = omega arith };
        filter = [];
        filter_is = λ h. absurd (omega (arith, h, z));
        text = same ∙ index.bytes ∙ sym (append-nil (end_index f hs)) ∙ ap (λ xs. end_index f hs ++ xs) (sym none);
        handles = (λ j. record { index = index.handle j; filter = None })
            ∙ (λ j. record { index = record { offset = here j; size = sym l j }; filter = sym (ap (λ b. cond b None (Some (record { offset = frames_length hs + length (end_index f hs); size = length (filter_frame f []) }))) (eq-eqb _ _ z)) j });
      }

  ended_with : (at end : ℕ) (mid new : List ℕ) (i h : HandleParts) → at ≡ frames_length hs → end ≡ at + (33 + length (index_payload hs config.index_interval)) → IsPartAppended c.hash128 Index at (index_payload hs config.index_interval) [] mid i
      → IsFilterAppended c.hash128 config.bits_per_key hashes end mid new (Some h) → IsRunEnd (run_form c config) hs hashes new (record { index = i; filter = Some h })
  ended_with at end mid new i h here behind index filter =
      let f = run_form c config in
      let some = filter.0 in
      let few = filter.1 in
      let p = filter.2.0 in
      let is = filter.2.1 in
      let part = filter.2.2 in
      let l = index_long f hs in
      let n = filter_long hashes config.bits_per_key p some is in
      let last = part.fits.end in
      let small : length (index_payload hs config.index_interval) ≤ 4294967262 = index.fits.framed in
      let other : config.bits_per_key ≡ 0 → ⊥ = λ z. absurd (omega (arith, some, z)) in
      let framed_p : filter_frame f p ≡ frame c.hash128 Filter p = ap (λ b. cond b [] (frame c.hash128 Filter p)) (ne_eqb _ _ other) in
      let m = ap length framed_p ∙ length-frame c.hash128 Filter p in
      let second : end ≡ frames_length hs + length (end_index f hs) = omega arith in
      record {
        fits = record { index_frame_fits = small; bits = few; end = omega arith };
        filter = p;
        filter_is = λ k. is;
        text = part.bytes ∙ ap (λ xs. xs ++ frame c.hash128 Filter p) index.bytes ∙ ap (λ xs. end_index f hs ++ xs) (sym framed_p);
        handles = (λ j. record { index = index.handle j; filter = Some (part.handle j) })
            ∙ (λ j. record { index = record { offset = here j; size = sym l j }; filter = Some (record { offset = second j; size = sym m j }) })
            ∙ (λ j. record { index = record { offset = frames_length hs; size = length (end_index f hs) }; filter = sym (ap (λ b. cond b None (Some (record { offset = frames_length hs + length (end_index f hs); size = length (filter_frame f p) }))) (ne_eqb _ _ other)) j });
      }

  pub ended : (at end : ℕ) (mid new : List ℕ) (i : HandleParts) (o : Option HandleParts) → at ≡ frames_length hs → end ≡ at + (33 + length (index_payload hs config.index_interval)) → IsPartAppended c.hash128 Index at (index_payload hs config.index_interval) [] mid i
      → IsFilterAppended c.hash128 config.bits_per_key hashes end mid new o → IsRunEnd (run_form c config) hs hashes new (record { index = i; filter = o })
  ended at end mid new i None here behind index filter = ended_without at mid new i here index filter.0 filter.1
  ended at end mid new i (Some h) here behind index filter = ended_with at end mid new i h here behind index filter

-- a filter that is appended has a frame that is not empty
pub filter_appended_some : (hash : List ℕ → ℕ) (bits : ℕ) (hashes : List ℕ) (at : ℕ) (old new : List ℕ) (o : Option HandleParts) → IsFilterAppended hash bits hashes at old new o → IfSome o (λ h. 0 < h.size)
filter_appended_some hash bits hashes at old new None filter = tt
filter_appended_some hash bits hashes at old new (Some h) filter = let size = ap (λ (x : HandleParts). x.size) filter.2.2.handle in omega (arith, size)

module _ (f : Form) where
  -- the frames of blocks follow each other, and have as many bytes as their handles say
  frames_follow : (offset : ℕ) (blocks : List (List Entry)) → AreContiguous offset (handles_from f offset blocks) × (frames_length (handles_from f offset blocks) ≡ length (block_frames f blocks))
  frames_follow offset [] = (tt, refl)
  frames_follow offset (b ∷ bs) =
      let more = frames_follow (offset + length (block_frame f b)) bs in
      ((refl, more.0), omega (arith, more.1, length-append (block_frame f b) (block_frames f bs)))

  module _ (blocks : List (List Entry)) (hs : List Handle) (hashes : List ℕ) (a : AreOfBlocks f blocks hs hashes) (most : f.config.restart_interval ≤ 255) (index_most : f.config.index_interval ≤ 255) where
    pub run_is : IsRun f blocks
    run_is = record {
      some = a.some;
      all_some = a.all_some;
      valid = a.valid;
      ordered = a.ordered;
      interval = record { some = a.writable.0; most = most };
      index_interval = record { some = a.writable.1; most = index_most };
    }

    index_same : index_payload hs f.config.index_interval ≡ index_text f blocks
    unfolding index_text
    index_same = ap (λ xs. index_payload xs f.config.index_interval) a.handles

    frame_same : end_index f hs ≡ index_frame f blocks
    frame_same = ap (frame f.hash128 Index) index_same

    frames_same : frames_length hs ≡ length (block_frames f blocks)
    frames_same = ap frames_length a.handles ∙ (frames_follow 0 blocks).1

    count_same : 1 ≤ f.config.bits_per_key → length hashes ≡ length (joined blocks)
    count_same some = ap length (a.hashed some) ∙ length-map (joined blocks) _

    -- as many bits, and a filter as long
    bits_same : (bits : ℕ) → (1 ≤ bits → length hashes ≡ length (joined blocks)) → (length hashes * bits ≡ length (joined blocks) * bits) × (filter_length bits (length hashes) ≡ filter_length bits (length (joined blocks)))
    bits_same zero same = ((let e : length hashes * 0 ≡ length (joined blocks) * 0 = omega arith in e), refl)
    bits_same (suc n) same = let e = same (omega arith) in (ap (λ k. k * suc n) e, ap (filter_length (suc n)) e)

    -- a run fits exactly if its end does
    pub end_fits : RunFits f blocks → EndFitsRun f hs (length hashes)
    end_fits fits =
        let same = bits_same f.config.bits_per_key count_same in
        let end : length (block_frames f blocks) + (length (index_frame f blocks) + filter_length f.config.bits_per_key (length (joined blocks))) < 2 ^ 64 = fits.end in
        record {
          index_frame_fits = subst IsFramed (sym index_same) fits.index_frame_fits;
          bits = subst (λ n. n ≤ 34359737920) (sym same.0) fits.bits;
          end = omega (arith, end, frames_same, ap length frame_same, same.1);
        }

    run_fits : EndFitsRun f hs (length hashes) → RunFits f blocks
    run_fits fits =
        let same = bits_same f.config.bits_per_key count_same in
        record {
          data_frames_fit = a.framed;
          index_frame_fits = subst IsFramed index_same fits.index_frame_fits;
          bits = subst (λ n. n ≤ 34359737920) same.0 fits.bits;
          end = (let end : length (block_frames f blocks) + (length (index_frame f blocks) + filter_length f.config.bits_per_key (length (joined blocks))) < 2 ^ 64 = omega (arith, fits.end, frames_same, ap length frame_same, same.1) in end);
        }

    -- the frames of the blocks and the end are their run
    pub end_is_layout : (bytes : List ℕ) (h : RunHandles) → IsRunEnd f hs hashes bytes h → IsLayout f blocks (block_frames f blocks ++ bytes) h
    unfolding run_text run_handles
    end_is_layout bytes h e = record {
      run = run_is;
      fits = run_fits e.fits;
      filter = e.filter;
      filter_is = λ some. subst (λ xs. IsFilterText xs f.config.bits_per_key e.filter) (a.hashed some) (e.filter_is some);
      text = ap (λ xs. block_frames f blocks ++ xs) (e.text ∙ ap (λ xs. xs ++ filter_frame f e.filter) frame_same);
      handles = e.handles ∙ (λ j. record {
        index = record { offset = frames_same j; size = length (frame_same j) };
        filter = cond (eqb f.config.bits_per_key 0) None (Some (record { offset = frames_same j + length (frame_same j); size = length (filter_frame f e.filter) }));
      });
    }

-- handles within their limits have end keys that can be given
end_keys : (given : List SstKeyedHandle) → AllByRecursion IsHandle (map handle_given given) → AllByRecursion HasEndKey given
end_keys [] all = tt
end_keys (g ∷ gs) all = (all.0.end_key, end_keys gs all.1)

-- the handles of blocks are what an index block is made of
abbrev pub AreReady : Form → List (List Entry) → Type 0
AreReady f blocks =
    (length (handles_from f 0 blocks) ≡ length blocks) × IsOrdered handles (handles_from f 0 blocks) × AllByRecursion IsHandle (handles_from f 0 blocks) × AllByRecursion EndFits (handles_from f 0 blocks)

module _ (c : Hashes) (given : List SstKeyedHandle) (hashes : List ℕ) (config : RunConfig) where
  -- there is a hash of a key, where blocks have entries and a filter
  hashes_some : (b : List Entry) (bs : List (List Entry)) → AreOfBlocks (run_form c config) (b ∷ bs) (map handle_given given) hashes → 1 ≤ config.bits_per_key → 1 ≤ length hashes
  hashes_some b bs a bits =
      let first : 1 ≤ length b = a.all_some.0 in
      omega (arith, first, length-append b (joined bs), ap length (a.hashed bits), length-map (joined (b ∷ bs)) (λ (e : Entry). c.hash64 e.key.user_key))

  -- a run of blocks can end with their handles and hashes
  can_end : (blocks : List (List Entry)) → AreOfBlocks (run_form c config) blocks (map handle_given given) hashes → AreReady (run_form c config) blocks → CanEnd given hashes config
  can_end [] a ready = absurd (omega (arith, a.some))
  can_end (b ∷ bs) a ready = record {
    can = record {
      some = omega (arith, a.some, length-map given handle_given, ap length a.handles, ready.0);
      end_keys = end_keys given (subst (AllByRecursion IsHandle) (sym a.handles) ready.2);
      ordered = subst (IsOrdered handles) (sym a.handles) ready.1;
      ends = subst (AllByRecursion EndFits) (sym a.handles) ready.3;
      some_interval = a.writable.1;
    };
    contiguous = subst (AreContiguous 0) (sym a.handles) (frames_follow (run_form c config) 0 (b ∷ bs)).0;
    hashed = hashes_some b bs a;
    writable = a.writable;
  }

  module _ (most : config.restart_interval ≤ 255) (index_most : config.index_interval ≤ 255) (blocks : List (List Entry)) (a : AreOfBlocks (run_form c config) blocks (map handle_given given) hashes) (ready : AreReady (run_form c config) blocks) where
    -- what is written is the run of the blocks, after their frames
    pub ends_run : (old new : List ℕ) (len_old len_new : ℕ) (h_old h_new : SstRunHandles) (s : Status) → IsEndWrite c given hashes config old new len_old len_new h_old h_new s → EndsRunOf (run_form c config) blocks new len_new h_new s
    ends_run old new len_old len_new h_old h_new Done w =
        let f = run_form c config in
        let bytes = w.1.0 in
        let h = w.1.1 in
        let layout = end_is_layout f blocks (map handle_given given) hashes a most index_most bytes h w.1.2 in
        let out = w.1.3 in
        let same : take len_new new ≡ bytes = ap (λ n. take n new) out.0 ∙ ap (take (length bytes)) out.2 ∙ take_at bytes (drop (length bytes) old) (length bytes) refl in
        subst (λ xs. IsLayout f blocks (block_frames f blocks ++ xs) (handles_given h_new)) (sym same)
        (subst (λ x. IsLayout f blocks (block_frames f blocks ++ bytes) x) (sym w.1.4) layout)
    ends_run old new len_old len_new h_old h_new (Failed e) w = elim w.0.cause [
      | inl memory ↦ inl memory
      | inr long ↦ inr (long.0, λ fits. long.2 (end_fits (run_form c config) blocks (map handle_given given) hashes a most index_most fits))
    ]
    ends_run old new len_old len_new h_old h_new NoRoom w = tt
    ends_run old new len_old len_new h_old h_new NotFound w = absurd w.1.3
    ends_run old new len_old len_new h_old h_new BadArgument w = w.0 (can_end blocks a ready)
