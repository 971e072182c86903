-- Reading a sound run, checked, gives the first match of its blocks.
use Rattle.std.proofs.Common.{◌≡◌, ℕ, zero, suc, ◌+◌, ◌<◌, ◌^◌, Bool, true, false, List, [], ◌∷◌, length, map, take, drop, refl, arith, sym, ◌∙◌, ap, subst, if◌then◌else◌, Option, Some, None, IfSome, Result, Ok, Err}
use Rattle.std.proofs.lemmas.Bool.{le-leb, eq-eqb}
use Rattle.std.specs.List.{AllZip, AllByRecursion, slice_get}
use Rattle.sst_base.specs.BlockHandle.{HandleParts}
use Rattle.sst_base.specs.BlockType.{block_type_byte}
use Rattle.sst_base.specs.Entry.{Entry, IsEntry, plain}
use Rattle.sst_base.specs.Frame.{frame, of_type, payload_of_type}
use Rattle.sst_base.specs.FrameLaws.{frame_in-frame}
use Rattle.sst_base.specs.Header.{◌>>=◌}
use Rattle.sst_base.specs.declared.error.Error.{Error}
use Rattle.sst_base.specs.declared.error.Error.TheVariants.{Io, Memory, InvalidHeader, InvalidTag, ChecksumMismatch, LengthMismatch, TooLong, Truncated, BadTrailer, BadEntry, OutOfOrder, BadIndex, BadHashIndex, BadFilter, BadHandle}
use Rattle.sst_base.specs.declared.error.TagName.TheVariants as tags
use Rattle.sst_base.specs.declared.table.block.block_type.BlockType.{BlockType}
use Rattle.sst_base.specs.declared.table.block.block_type.BlockType.TheVariants as types
use Rattle.sst_block_core.specs.Checks.{data_check, index_check, DataVerdict, IndexVerdict}
use Rattle.sst_block_core.specs.Entries.{entries}
use Rattle.sst_block_core.specs.Handles.{Handle, handles, IsHandle, IsIndexBlock, IndexPasses, IndexPassesBy}
use Rattle.sst_block_core.specs.Payload.{IsBlock}
use Rattle.sst_block_core.specs.Stages.{Passes, PassesBy, items_by, items_in}
use Rattle.sst_block_core.specs.Trailer.{Trailer, trailer_in}
use Rattle.sst_block_core.specs.Window.{first_match}
use Rattle.sstable_blocks.specs.Blocks.{joined}
use Rattle.sstable_blocks.specs.Filter.{Filter, filter_at, may_contain, MayContain}
use Rattle.sstable_blocks.specs.Lookup.{first_in, place_for, handle_for}
use Rattle.sstable_blocks.specs.Opened.{range_of}
use Rattle.sstable_blocks.specs.RunReading.{Hashes, IsFramedAt, block_items_at, range_at, payload_at, filter_says, read_block, read_blocks, read_checked}
use Rattle.sstable_blocks.specs.Sound.{IsStoredBlock, IsStoredFilter, IsSound}
use Rattle.sstable_blocks.specs.declared.run.RunHandles.{RunHandles}
use Rattle.sstable_blocks.specs.CheckedLaws.{may_contain_to}
use Rattle.sstable_blocks.specs.FilterReadLaws.{denied}
use Rattle.sstable_blocks.specs.OpeningLaws.{framed_size, stored_ends}
use Rattle.sstable_blocks.specs.SearchLaws.{first_match-joined}

-- one reading after another that gives something
pub bind_to : {A B : Type 0} (r : Result A Error) (f : A → Result B Error) (x : A) (y : Result B Error) → r ≡ Ok x → f x ≡ y → (r >>= f) ≡ y
bind_to r f x y e h = ap (λ q. q >>= f) e ∙ h

-- a check of bytes that pass returns their items
pub data_ok : (hash64 : List ℕ → ℕ) (t : Trailer) (p : List ℕ) (r : Result (List Entry) Error) → DataVerdict hash64 t p r → PassesBy entries hash64 t p → r ≡ Ok (items_by entries t p)
data_ok hash64 t p (Ok items) v h = ap (λ xs. Ok xs) v.1
data_ok hash64 t p (Err Truncated) v h = absurd (v h.encoded.trailer)
data_ok hash64 t p (Err BadTrailer) v h = absurd (v.1 h.encoded.parts)
data_ok hash64 t p (Err BadEntry) v h = absurd (v.2 h.encoded.forms)
data_ok hash64 t p (Err OutOfOrder) v h = absurd (v.3 h.order)
data_ok hash64 t p (Err BadIndex) v h = absurd (v.4 h.encoded.pointers)
data_ok hash64 t p (Err BadHashIndex) v h = absurd (v.5 h.encoded.buckets)
data_ok hash64 t p (Err Io) v h = absurd v
data_ok hash64 t p (Err Memory) v h = absurd v
data_ok hash64 t p (Err (InvalidHeader n)) v h = absurd v
data_ok hash64 t p (Err (InvalidTag n b)) v h = absurd v
data_ok hash64 t p (Err (ChecksumMismatch a b)) v h = absurd v
data_ok hash64 t p (Err LengthMismatch) v h = absurd v
data_ok hash64 t p (Err TooLong) v h = absurd v
data_ok hash64 t p (Err BadFilter) v h = absurd v
data_ok hash64 t p (Err BadHandle) v h = absurd v

pub index_ok : (t : Trailer) (p : List ℕ) (r : Result (List Handle) Error) → IndexVerdict t p r → IndexPassesBy t.interval t p → r ≡ Ok (items_by handles t p)
index_ok t p (Ok items) v h = ap (λ xs. Ok xs) v.1
index_ok t p (Err Truncated) v h = absurd (v h.trailer)
index_ok t p (Err BadTrailer) v h = absurd (v.1 h.parts)
index_ok t p (Err BadEntry) v h = absurd (v.2 h.forms)
index_ok t p (Err BadHandle) v h = absurd (v.3 h.ends)
index_ok t p (Err OutOfOrder) v h = absurd (v.4 h.order)
index_ok t p (Err BadIndex) v h = absurd (v.5 h.pointers)
index_ok t p (Err BadHashIndex) v h = absurd v
index_ok t p (Err Io) v h = absurd v
index_ok t p (Err Memory) v h = absurd v
index_ok t p (Err (InvalidHeader n)) v h = absurd v
index_ok t p (Err (InvalidTag n b)) v h = absurd v
index_ok t p (Err (ChecksumMismatch a b)) v h = absurd v
index_ok t p (Err LengthMismatch) v h = absurd v
index_ok t p (Err TooLong) v h = absurd v
index_ok t p (Err BadFilter) v h = absurd v

-- the payload of a frame
pub payload_is : (hash128 : List ℕ → ℕ) (t : BlockType) (p : List ℕ) → length p < 2 ^ 32 → hash128 p < 2 ^ 128 → payload_of_type hash128 t (frame hash128 t p) ≡ Ok p
unfolding payload_of_type
payload_is hash128 t p short sum =
    ap (λ r. r >>= of_type t) (frame_in-frame hash128 t p short sum)
    ∙ ap (λ b. if b then Ok p else Err (InvalidTag tags.BlockType (block_type_byte t))) (eq-eqb (block_type_byte t) (block_type_byte t) refl)

-- a frame in the range of a handle is read
pub framed_is_read : (c : Hashes) (t : BlockType) (bytes p : List ℕ) (h : HandleParts) → ((xs : List ℕ) → c.hash128 xs < 2 ^ 128) → length p < 2 ^ 32 → IsFramedAt c t bytes h p → payload_at c t bytes h ≡ Ok p
unfolding range_at
framed_is_read c t bytes p h sums short s =
    bind_to (range_at bytes h) (payload_of_type c.hash128 t) (frame c.hash128 t p) (Ok p)
    (ap (λ b. if b then Ok (take h.size (drop h.offset bytes)) else Err BadHandle) (le-leb (h.offset + h.size) (length bytes) s.inside) ∙ ap (λ x. Ok x) s.whole)
    (payload_is c.hash128 t p short (sums p))

module _ (c : Hashes) (sums : (bytes : List ℕ) → c.hash128 bytes < 2 ^ 128)
    (data_verdict : (p : List ℕ) → DataVerdict c.hash64 (trailer_in p) p (data_check c.hash64 p))
    (index_verdict : (p : List ℕ) → IndexVerdict (trailer_in p) p (index_check p))
    (data_read : (p : List ℕ) (items : List Entry) (r b : ℕ) → length p < 2 ^ 32 → IsBlock entries IsEntry c.hash64 p items r b → Passes entries c.hash64 p × (items_in entries p ≡ map plain items))
    (index_read : (r : ℕ) (p : List ℕ) (items : List Handle) → length p < 2 ^ 32 → IsIndexBlock p items r → IndexPasses r p × (items_in handles p ≡ items) × ((trailer_in p).interval ≡ r))
    (plain_match : (needle : List ℕ) (seqno : ℕ) (items : List Entry) → first_match entries needle seqno (map plain items) ≡ first_match entries needle seqno items)
    (bytes needle : List ℕ) (s : ℕ)
  where
    -- a block is read as its entries
    pub stored_is_read : (h : Handle) (block : List Entry) → IsHandle h → IsStoredBlock c bytes block h → block_items_at c bytes (range_of h) ≡ Ok (map plain block)
    stored_is_read h block valid b =
        let p = b.payload in
        let size = framed_size c types.Data bytes p (range_of h) b.frame in
        let less : h.size < 2 ^ 32 = valid.size in
        let short : length p < 2 ^ 32 = omega arith in
        let read = data_read p block b.interval b.buckets short b.is_block in
        bind_to _ _ p _ (framed_is_read c types.Data bytes p (range_of h) sums short b.frame)
        (data_ok c.hash64 (trailer_in p) p (data_check c.hash64 p) (data_verdict p) read.0 ∙ ap (λ xs. Ok xs) read.1)

    read_one : (h : Handle) (block : List Entry) → IsHandle h → IsStoredBlock c bytes block h → read_block c bytes (Some h) needle s ≡ Ok (first_match entries needle s block)
    read_one h block valid b =
        let p = b.payload in
        let size = framed_size c types.Data bytes p (range_of h) b.frame in
        let less : h.size < 2 ^ 32 = valid.size in
        let short : length p < 2 ^ 32 = omega arith in
        let read = data_read p block b.interval b.buckets short b.is_block in
        bind_to _ _ p _ (framed_is_read c types.Data bytes p (range_of h) sums short b.frame)
        (bind_to _ _ (items_in entries p) _ (data_ok c.hash64 (trailer_in p) p (data_check c.hash64 p) (data_verdict p) read.0)
        (ap (λ xs. Ok (first_match entries needle s xs)) read.1 ∙ ap (λ o. Ok o) (plain_match needle s block)))

    read_at : (blocks : List (List Entry)) (hs : List Handle) (n : ℕ) → AllByRecursion IsHandle hs → AllZip (IsStoredBlock c bytes) blocks hs → read_block c bytes (slice_get hs n) needle s ≡ Ok (first_in entries needle s (slice_get blocks n))
    read_at [] [] n valid stored = refl
    read_at [] (h ∷ hs) n valid stored = absurd stored
    read_at (b ∷ bs) [] n valid stored = absurd stored
    read_at (b ∷ bs) (h ∷ hs) zero valid stored = read_one h b valid.0 stored.0
    read_at (b ∷ bs) (h ∷ hs) (suc n) valid stored = read_at bs hs n valid.1 stored.1

    -- by the handles of its index
    by_handles : (blocks : List (List Entry)) (h : RunHandles) (d : IsSound c blocks bytes h) → read_block c bytes (handle_for handles needle s d.handles) needle s ≡ Ok (first_match entries needle s (joined blocks))
    by_handles blocks h d =
        let valid = d.index.is_block.block.encoding.are_valid in
        read_at blocks d.handles (place_for handles needle s d.handles) valid d.stored
        ∙ ap (λ o. Ok o) (sym (first_match-joined entries needle s handles blocks d.handles (stored_ends c bytes blocks d.handles d.stored) d.ordered))

    -- the index is read
    pub index_of_sound : (blocks : List (List Entry)) (h : RunHandles) (d : IsSound c blocks bytes h) → (payload_at c types.Index bytes h.index ≡ Ok d.index.payload) × (index_check d.index.payload ≡ Ok d.handles)
    index_of_sound blocks h d =
        let i = d.index in
        let q = i.payload in
        let framed = i.framed in
        let short : length q < 2 ^ 32 = omega arith in
        let read = index_read i.interval q d.handles short i.is_block in
        let passes : IndexPassesBy (trailer_in q).interval (trailer_in q) q = subst (λ r. IndexPassesBy r (trailer_in q) q) (sym read.2) read.0 in
        (framed_is_read c types.Index bytes q h.index sums short i.frame, index_ok (trailer_in q) q (index_check q) (index_verdict q) passes ∙ ap (λ xs. Ok xs) read.1)

    read_index : (blocks : List (List Entry)) (h : RunHandles) → IsSound c blocks bytes h → read_blocks c bytes h.index needle s ≡ Ok (first_match entries needle s (joined blocks))
    read_index blocks h d =
        let i = index_of_sound blocks h d in
        bind_to _ _ d.index.payload _ i.0 (bind_to _ _ d.handles _ i.1 (by_handles blocks h d))

    -- a filter decides nothing that the index doesn't
    by_filter : (blocks : List (List Entry)) (h : RunHandles) → IsSound c blocks bytes h → (p : List ℕ) (f : Filter) → AllByRecursion (λ x. MayContain f (c.hash64 x.key.user_key)) (joined blocks) → filter_at p ≡ Ok f → (b : Bool) → may_contain f (c.hash64 needle) ≡ b
        → (if b then read_blocks c bytes h.index needle s else Ok None) ≡ Ok (first_match entries needle s (joined blocks))
    by_filter blocks h d p f all reads true e = read_index blocks h d
    by_filter blocks h d p f all reads false e =
        ap (λ o. Ok o) (sym (denied c.hash64 (joined blocks) p needle s f all reads f reads (λ may. let wrong : true ≡ false = sym (may_contain_to f (c.hash64 needle) may) ∙ e in cc)))

    by_handle : (blocks : List (List Entry)) (h : RunHandles) (o : Option HandleParts) → IsSound c blocks bytes h → IfSome o (IsStoredFilter c bytes (joined blocks))
        → (filter_says c bytes o needle >>= (λ may. if may then read_blocks c bytes h.index needle s else Ok None)) ≡ Ok (first_match entries needle s (joined blocks))
    by_handle blocks h None d stored = read_index blocks h d
    by_handle blocks h (Some g) d stored =
        let framed = stored.framed in
        bind_to _ _ (may_contain stored.filter (c.hash64 needle)) _
        (bind_to _ _ stored.payload _ (framed_is_read c types.Filter bytes stored.payload g sums (omega arith) stored.frame) (bind_to _ _ stored.filter _ stored.reads refl))
        (by_filter blocks h d stored.payload stored.filter stored.contains stored.reads (may_contain stored.filter (c.hash64 needle)) refl)

    pub read_sound : (blocks : List (List Entry)) (h : RunHandles) → IsSound c blocks bytes h → read_checked c bytes h needle s ≡ Ok (first_match entries needle s (joined blocks))
    unfolding read_checked
    read_sound blocks h d = by_handle blocks h h.filter d d.filter
