-- What a result of a checked read on any bytes means.
use Rattle.std.proofs.Common.{◌≡◌, ℕ, ◌+◌, ◌-◌, inl, inr, Bool, true, false, eqb, leb, List, length, take, drop, sym, ◌∙◌, ap, subst, if◌then◌else◌, Option, Some, None, Result, Ok}
use Rattle.std.proofs.lemmas.Bool.{leb-true, eqb-true}
use Rattle.sst_base.specs.BlockHandle.{HandleParts}
use Rattle.sst_base.specs.BlockType.{block_type_byte, block_type_of}
use Rattle.sst_base.specs.Bytes.{IsBytes}
use Rattle.sst_base.specs.BytesLaws.{IsBytes-take, IsBytes-drop}
use Rattle.sst_base.specs.Entry.{Entry}
use Rattle.sst_base.specs.Frame.{frame, frame_in, of_type, payload_of_type}
use Rattle.sst_base.specs.FrameLaws.{frame_in_takes}
use Rattle.sst_base.specs.HeaderLaws.{bind_ok, guard_ok, block_type_of-byte}
use Rattle.sst_base.specs.declared.error.Error.{Error}
use Rattle.sst_base.specs.declared.table.block.block_type.BlockType.{BlockType}
use Rattle.sst_base.specs.declared.table.block.block_type.BlockType.TheVariants as types
use Rattle.sst_block_core.specs.Checks.{data_check, index_check, DataVerdict, IndexVerdict}
use Rattle.sst_block_core.specs.Entries.{entries}
use Rattle.sst_block_core.specs.Handles.{Handle, handles}
use Rattle.sst_block_core.specs.Trailer.{trailer_in}
use Rattle.sst_block_core.specs.Window.{first_match}
use Rattle.sstable_blocks.specs.Filter.{Filter, filter_at, may_contain}
use Rattle.sstable_blocks.specs.Lookup.{handle_for}
use Rattle.sstable_blocks.specs.Opened.{payload_in, range_of}
use Rattle.sstable_blocks.specs.OpeningLaws.{frame_range}
use Rattle.sstable_blocks.specs.RunReading.{Hashes, range_at, payload_at, filter_answer, filter_says, read_block, read_blocks, read_checked, IsFramedAt, FilterDenies, FilterAllows, BlockMeans, IndexMeans, AnswerMeans}
use Rattle.sstable_blocks.specs.declared.run.RunHandles.{RunHandles}
use Rattle.sstable_blocks.specs.CheckedLaws.{may_contain_to, may_contain_from}

pub same_type : (t u : BlockType) → block_type_byte t ≡ block_type_byte u → t ≡ u
same_type t u e =
    let k : ◌≡◌ {A = Result BlockType Error} (Ok t) (Ok u) = sym (block_type_of-byte t) ∙ ap block_type_of e ∙ block_type_of-byte u in
    cc

-- what is read of a type is a frame of it
pub payload_of_type_takes : (hash128 : List ℕ → ℕ) (t : BlockType) (bytes p : List ℕ) → IsBytes bytes → payload_of_type hash128 t bytes ≡ Ok p → bytes ≡ frame hash128 t p
unfolding payload_of_type
payload_of_type_takes hash128 t bytes p small e =
    let found = bind_ok (frame_in hash128 bytes) (of_type t) p e in
    let typed = guard_ok (eqb (block_type_byte found.0.header.block_type) (block_type_byte t)) found.0.payload p _ found.2 in
    let same = same_type found.0.header.block_type t (eqb-true _ _ typed.0) in
    (frame_in_takes hash128 bytes found.0 small found.1).0 ∙ ap (λ u. frame hash128 u found.0.payload) same ∙ ap (frame hash128 t) typed.1

pub payload_at_takes : (c : Hashes) (t : BlockType) (bytes : List ℕ) (h : HandleParts) (p : List ℕ) → IsBytes bytes → payload_at c t bytes h ≡ Ok p → IsFramedAt c t bytes h p
unfolding range_at
payload_at_takes c t bytes h p small e =
    let found = bind_ok (range_at bytes h) (payload_of_type c.hash128 t) p e in
    let part = guard_ok (leb (h.offset + h.size) (length bytes)) (take h.size (drop h.offset bytes)) found.0 _ found.1 in
    let bytes_in : IsBytes found.0 = subst IsBytes part.1 (IsBytes-take h.size (drop h.offset bytes) (IsBytes-drop h.offset bytes small)) in
    record { inside = leb-true _ _ part.0; whole = part.1 ∙ payload_of_type_takes c.hash128 t found.0 p bytes_in found.2 }

-- the payload of a frame is bytes
pub framed_bytes : (c : Hashes) (t : BlockType) (bytes p : List ℕ) (h : HandleParts) → IsBytes bytes → IsFramedAt c t bytes h p → IsBytes p
unfolding payload_in
framed_bytes c t bytes p h small s = subst IsBytes (frame_range c t bytes p h s).1 (IsBytes-take (h.size - 33) (drop (h.offset + 33) bytes) (IsBytes-drop (h.offset + 33) bytes small))

-- what a filter says
abbrev Says : Hashes → List ℕ → Option HandleParts → List ℕ → Bool → Type 0
Says c bytes h needle true = FilterAllows c bytes h needle
Says c bytes h needle false = FilterDenies c bytes h needle

says_of : (c : Hashes) (bytes : List ℕ) (h : HandleParts) (needle p : List ℕ) (f : Filter) (may : Bool) → IsFramedAt c types.Filter bytes h p → filter_at p ≡ Ok f → may_contain f (c.hash64 needle) ≡ may → Says c bytes (Some h) needle may
says_of c bytes h needle p f true is_place reads e = (p, f, is_place, reads, may_contain_from f (c.hash64 needle) e)
says_of c bytes h needle p f false is_place reads e = (p, f, is_place, reads, λ may. let wrong : true ≡ false = sym (may_contain_to f (c.hash64 needle) may) ∙ e in cc)

filter_takes : (c : Hashes) (bytes : List ℕ) (h : Option HandleParts) (needle : List ℕ) (may : Bool) → IsBytes bytes → filter_says c bytes h needle ≡ Ok may → Says c bytes h needle may
filter_takes c bytes None needle true small e = tt
filter_takes c bytes None needle false small e = cc
filter_takes c bytes (Some h) needle may small e =
    let found = bind_ok (payload_at c types.Filter bytes h) (λ p. filter_answer p (c.hash64 needle)) may e in
    let read = bind_ok (filter_at found.0) (λ f. Ok (may_contain f (c.hash64 needle))) may found.2 in
    let same : may_contain read.0 (c.hash64 needle) ≡ may = (let k : ◌≡◌ {A = Result Bool Error} (Ok (may_contain read.0 (c.hash64 needle))) (Ok may) = read.2 in cc) in
    says_of c bytes h needle found.0 read.0 may (payload_at_takes c types.Filter bytes h found.0 small found.1) read.1 same

module _ (c : Hashes)
    (data_verdict : (p : List ℕ) → DataVerdict c.hash64 (trailer_in p) p (data_check c.hash64 p))
    (index_verdict : (p : List ℕ) → IndexVerdict (trailer_in p) p (index_check p))
  where
    block_takes : (bytes : List ℕ) (h : Option Handle) (needle : List ℕ) (seqno : ℕ) (answer : Option Entry) → IsBytes bytes → read_block c bytes h needle seqno ≡ Ok answer → BlockMeans c bytes h needle seqno answer
    block_takes bytes None needle seqno answer small e = sym (let k : None ≡ answer = cc in k)
    block_takes bytes (Some h) needle seqno answer small e =
        let found = bind_ok (payload_at c types.Data bytes (range_of h)) _ answer e in
        let items = bind_ok (data_check c.hash64 found.0) _ answer found.2 in
        let verdict = subst (DataVerdict c.hash64 (trailer_in found.0) found.0) items.1 (data_verdict found.0) in
        let last : first_match entries needle seqno items.0 ≡ answer = (let k : ◌≡◌ {A = Result (Option Entry) Error} (Ok (first_match entries needle seqno items.0)) (Ok answer) = items.2 in cc) in
        (found.0, payload_at_takes c types.Data bytes (range_of h) found.0 small found.1, verdict.0, sym last ∙ ap (first_match entries needle seqno) verdict.1)

    index_takes : (bytes : List ℕ) (h : HandleParts) (needle : List ℕ) (seqno : ℕ) (answer : Option Entry) → IsBytes bytes → read_blocks c bytes h needle seqno ≡ Ok answer → IndexMeans c bytes h needle seqno answer
    index_takes bytes h needle seqno answer small e =
        let found = bind_ok (payload_at c types.Index bytes h) _ answer e in
        let hs = bind_ok (index_check found.0) _ answer found.2 in
        let verdict = subst (IndexVerdict (trailer_in found.0) found.0) hs.1 (index_verdict found.0) in
        let block = block_takes bytes (handle_for handles needle seqno hs.0) needle seqno answer small hs.2 in (
          found.0,
          payload_at_takes c types.Index bytes h found.0 small found.1,
          verdict.0,
          subst (λ xs. BlockMeans c bytes (handle_for handles needle seqno xs) needle seqno answer) verdict.1 block,
        )

    by_filter : (bytes : List ℕ) (h : RunHandles) (needle : List ℕ) (seqno : ℕ) (answer : Option Entry) (may : Bool) → IsBytes bytes → Says c bytes h.filter needle may
        → (if may then read_blocks c bytes h.index needle seqno else Ok None) ≡ Ok answer → AnswerMeans c bytes h needle seqno answer
    by_filter bytes h needle seqno answer true small f e = inr (f, index_takes bytes h.index needle seqno answer small e)
    by_filter bytes h needle seqno answer false small f e = inl (f, sym (let k : None ≡ answer = cc in k))

    pub answer_means : (bytes : List ℕ) (h : RunHandles) (needle : List ℕ) (seqno : ℕ) (answer : Option Entry) → IsBytes bytes → read_checked c bytes h needle seqno ≡ Ok answer → AnswerMeans c bytes h needle seqno answer
    unfolding read_checked
    answer_means bytes h needle seqno answer small e =
        let says = bind_ok (filter_says c bytes h.filter needle) _ answer e in
        by_filter bytes h needle seqno answer says.0 small (filter_takes c bytes h.filter needle says.0 small says.1) says.2
