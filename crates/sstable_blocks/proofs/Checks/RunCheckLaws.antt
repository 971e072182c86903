-- The check of a whole run accepts exactly the sound ones.
use Rattle.std.proofs.Common.{◌≡◌, ℕ, ◌+◌, ◌-◌, ◌<◌, ◌≤◌, ◌^◌, min, max, Bool, true, false, eqb, List, [], ◌∷◌, ◌++◌, length, map, refl, arith, sym, ◌∙◌, ap, subst, Option, Some, None, IfSome, Result, Ok, Err, if◌then◌else◌}
use Rattle.std.proofs.lemmas.Bool.{eqb-true, eq-eqb}
use Rattle.std.proofs.lemmas.List.{length-map}
use Rattle.std.specs.List.{AllZip, AllByRecursion}
use Rattle.sst_base.specs.BlockHandle.{HandleParts}
use Rattle.sst_base.specs.Bytes.{IsBytes}
use Rattle.sst_base.specs.Entry.{Entry, IsEntry, plain}
use Rattle.sst_base.specs.HeaderLaws.{bind_ok, guard_ok}
use Rattle.sst_base.specs.declared.error.Error.{Error}
use Rattle.sst_base.specs.declared.error.Error.TheVariants.{BadHandle, BadFilter, OutOfOrder}
use Rattle.sst_base.specs.declared.table.block.block_type.BlockType.TheVariants as types
use Rattle.sst_block_core.specs.Entries.{entries}
use Rattle.sst_block_core.specs.Kind.{IsOrdered}
use Rattle.sst_block_core.specs.Payload.{IsBlock}
use Rattle.sst_block_core.specs.Stages.{Passes, items_in}
use Rattle.sst_block_core.specs.Trailer.{trailer_in}
use Rattle.sst_block_core.specs.Checks.{data_check, index_check, DataVerdict, IndexVerdict}
use Rattle.sst_block_core.specs.Handles.{Handle, handles, IsHandle, IsIndexBlock, IndexPasses, IndexPassesBy}
use Rattle.sstable_blocks.specs.Blocks.{joined}
use Rattle.sstable_blocks.specs.Filter.{Filter, filter_at, MayContain}
use Rattle.sstable_blocks.specs.Lookup.{IsEnd}
use Rattle.sstable_blocks.specs.Opened.{range_of}
use Rattle.sstable_blocks.specs.RunChecks.{end_cmp, starts_after, is_end, allows, check_entries, first_after, passed_on, check_items, check_block, check_from, none_passed, summary_by, filter_in_run, check_run, least_from, greatest_from, summary_of}
use Rattle.sstable_blocks.specs.RunReading.{Hashes, payload_at, block_items_at, handles_at}
use Rattle.sstable_blocks.specs.Sound.{IsStoredBlock, IsStoredFilter, AreContiguous, IsSound}
use Rattle.sstable_blocks.specs.declared.run.RunHandles.{RunHandles}
use Rattle.sstable_blocks.specs.declared.run.checking.Passed.{Passed}
use Rattle.sstable_blocks.specs.declared.run.checking.RunSummary.{RunSummary}
use Rattle.sstable_blocks.specs.CheckedLaws.{may_contain_to, may_contain_from}
use Rattle.sstable_blocks.specs.FollowLaws.{FollowsEnd, demand_ok, demand_to, end_same, follows_none, lt_not, not_lt, ordered_cut, ordered_join, same_end}
use Rattle.sstable_blocks.specs.MeaningLaws.{framed_bytes, payload_at_takes}
use Rattle.sstable_blocks.specs.OpeningLaws.{framed_size, stored_ends, stored_count}
use Rattle.sstable_blocks.proofs.Checks.RunSummaries.{passed_block, passed_all, summary_all}
use Rattle.sstable_blocks.specs.SoundReadLaws.{bind_to, data_ok, index_ok, framed_is_read}

-- what a choice that went on says
if_ok : {A : Type 0} (b : Bool) (r : Result A Error) (e : Error) (y : A) → (if b then r else Err e) ≡ Ok y → (b ≡ true) × (r ≡ Ok y)
if_ok true r e y h = (refl, h)
if_ok false r e y h = cc

-- the last of entries is that of a handle; where there is none, as before
abbrev ends_from : Handle → Bool → List Entry → Bool
ends_from h before [] = before
ends_from h before (x ∷ xs) = ends_from h (is_end h x) xs

end_from : (h : Handle) (xs : List Entry) → ends_from h false xs ≡ true → IsEnd entries handles xs h
end_from h [] e = cc
end_from h (x ∷ []) e = let s = end_same h x.key.user_key x.key.seqno e in record { front = []; last = x; whole = refl; key = s.0; seqno = s.1 }
end_from h (x ∷ y ∷ ys) e =
    let r = end_from h (y ∷ ys) e in
    record { front = x ∷ r.front; last = r.last; whole = ap (λ zs. x ∷ zs) r.whole; key = r.key; seqno = r.seqno }

ends_last : (h : Handle) (b : Bool) (front : List Entry) (last : Entry) → ends_from h b (front ++ last ∷ []) ≡ is_end h last
ends_last h b [] last = refl
ends_last h b (x ∷ xs) last = ends_last h (is_end h x) xs last

end_to : (h : Handle) (xs : List Entry) → IsEnd entries handles xs h → ends_from h false xs ≡ true
end_to h xs i = ap (ends_from h false) i.whole ∙ ends_last h false i.front i.last ∙ same_end h i.last.key.user_key i.last.key.seqno i.key i.seqno

-- a filter, if there is one, has the bits of each entry's key
abbrev Contains : (List ℕ → ℕ) → Option Filter → List Entry → Type 0
Contains hash None xs = Unit {0}
Contains hash (Some f) xs = AllByRecursion (λ x. MayContain f (hash x.key.user_key)) xs

contains_none : (hash : List ℕ → ℕ) (o : Option Filter) → Contains hash o []
contains_none hash None = tt
contains_none hash (Some f) = tt

contains_more : (hash : List ℕ → ℕ) (o : Option Filter) (x : Entry) (rest : List Entry) → allows hash o x ≡ true → Contains hash o rest → Contains hash o (x ∷ rest)
contains_more hash None x rest e r = tt
contains_more hash (Some f) x rest e r = (may_contain_from f (hash x.key.user_key) e, r)

contains_split : (hash : List ℕ → ℕ) (o : Option Filter) (x : Entry) (rest : List Entry) → Contains hash o (x ∷ rest) → (allows hash o (plain x) ≡ true) × Contains hash o rest
contains_split hash None x rest c = (refl, tt)
contains_split hash (Some f) x rest c = (may_contain_to f (hash x.key.user_key) c.0, c.1)

contains_back : (hash : List ℕ → ℕ) (o : Option Filter) (xs rest : List Entry) → Contains hash o (xs ++ rest) → Contains hash o rest
contains_back hash o [] rest c = c
contains_back hash o (x ∷ xs) rest c = contains_back hash o xs rest (contains_split hash o x (xs ++ rest) c).1

-- entries that went through
entries_ok : (hash : List ℕ → ℕ) (f : Option Filter) (h : Handle) (ends : Bool) (range q : ℕ × ℕ) (xs rest : List Entry) → check_entries hash f h ends range xs ≡ Ok q → Contains hash f rest
    → Contains hash f (xs ++ rest) × (ends_from h ends xs ≡ true) × ((least_from range.0 xs, greatest_from range.1 xs) ≡ q)
entries_ok hash f h ends range q [] rest e c = let g = guard_ok ends range q BadHandle e in (c, g.0, g.1)
entries_ok hash f h ends range q (x ∷ xs) rest e c =
    let g = if_ok (allows hash f x) _ BadFilter q e in
    let more = entries_ok hash f h (is_end h x) (min range.0 x.key.seqno, max range.1 x.key.seqno) q xs rest g.1 c in
    (contains_more hash f x (xs ++ rest) g.0 more.0, more.1, more.2)

-- and those that do
entries_to : (hash : List ℕ → ℕ) (f : Option Filter) (h : Handle) (ends : Bool) (range : ℕ × ℕ) (xs rest : List Entry) → Contains hash f (xs ++ rest) → ends_from h ends xs ≡ true
    → check_entries hash f h ends range (map plain xs) ≡ Ok (least_from range.0 xs, greatest_from range.1 xs)
entries_to hash f h ends range [] rest c e = ap (λ b. if b then Ok range else Err BadHandle) e
entries_to hash f h ends range (x ∷ xs) rest c e =
    let s = contains_split hash f x (xs ++ rest) c in
    ap (λ b. if b then check_entries hash f h (is_end h x) (min range.0 x.key.seqno, max range.1 x.key.seqno) (map plain xs) else Err BadFilter) s.0
    ∙ entries_to hash f h (is_end h x) (min range.0 x.key.seqno, max range.1 x.key.seqno) xs rest s.1 e

-- the first entry's key and number do not depend on values
first_plain : (o : Option Handle) (first : List ℕ × ℕ) (xs : List Entry) → first_after o first (map plain xs) ≡ first_after o first xs
first_plain None first [] = refl
first_plain None first (x ∷ xs) = refl
first_plain (Some h) first xs = refl

passed_plain : (s : Passed) (h : Handle) (xs : List Entry) (range : ℕ × ℕ) → passed_on s h (map plain xs) range ≡ passed_on s h xs range
passed_plain s h xs range i = record {
  offset = s.offset + h.size;
  last = Some h;
  entries = min (s.entries + length-map xs plain i) (2 ^ 64 - 1);
  first = first_plain s.last s.first xs i;
  least = range.0;
  greatest = range.1;
}

-- the first entry of a block follows the end of the block before
follows_from : (o : Option Handle) (xs rest : List Entry) → 1 ≤ length xs → starts_after o xs ≡ true → FollowsEnd o (xs ++ rest)
follows_from None xs rest some e = tt
follows_from (Some h) [] rest some e = absurd (omega arith)
follows_from (Some h) (x ∷ xs) rest some e = not_lt (end_cmp h x) e

follows_to : (o : Option Handle) (xs rest : List Entry) → FollowsEnd o (xs ++ rest) → starts_after o (map plain xs) ≡ true
follows_to None xs rest c = refl
follows_to (Some h) [] rest c = refl
follows_to (Some h) (x ∷ xs) rest c = lt_not (end_cmp h x) c

-- what is accepted is sound
module _ (c : Hashes) (bytes : List ℕ) (small : IsBytes bytes)
    (data_takes : (p : List ℕ) (items : List Entry) → IsBytes p → data_check c.hash64 p ≡ Ok items → (r : ℕ) × (b : ℕ) × IsBlock entries IsEntry c.hash64 p items r b)
    (index_takes : (p : List ℕ) (items : List Handle) → IsBytes p → length p < 2 ^ 32 → index_check p ≡ Ok items → (r : ℕ) × IsIndexBlock p items r)
  where
    -- what handles whose blocks pass the check hold
    record Holds (f : Option Filter) (s t : Passed) (hs : List Handle) : Type 0 where
      blocks : List (List Entry)
      stored : AllZip (IsStoredBlock c bytes) blocks hs
      contiguous : AreContiguous s.offset hs
      follows : FollowsEnd s.last (joined blocks)
      ordered : IsOrdered entries (joined blocks)
      contained : Contains c.hash64 f (joined blocks)
      passed : passed_all s hs blocks ≡ t

    holds : (f : Option Filter) (s t : Passed) (hs : List Handle) → check_from c bytes f s hs ≡ Ok t → Holds f s t hs
    unfolding check_block
    holds f s t [] e =
        let same : s ≡ t = (let k : ◌≡◌ {A = Result Passed Error} (Ok s) (Ok t) = e in cc) in
        record { blocks = []; stored = tt; contiguous = tt; follows = follows_none s.last; ordered = tt; contained = contains_none c.hash64 f; passed = same }
    holds f s t (h ∷ hs) e =
        let one = bind_ok (check_block c bytes f s h) (λ u. check_from c bytes f u hs) t e in
        let is : check_block c bytes f s h ≡ Ok one.0 = one.1 in
        let rest = holds f one.0 t hs one.2 in
        let at = demand_ok (eqb h.offset s.offset) BadHandle _ one.0 is in
        let items = bind_ok (block_items_at c bytes (range_of h)) _ one.0 at.1 in
        let p = bind_ok (payload_at c types.Data bytes (range_of h)) (data_check c.hash64) items.0 items.1 in
        let frame = payload_at_takes c types.Data bytes (range_of h) p.0 small p.1 in
        let order = demand_ok (starts_after s.last items.0) OutOfOrder _ one.0 items.2 in
        let range = bind_ok (check_entries c.hash64 f h false (s.least, s.greatest) items.0) _ one.0 order.1 in
        let through = entries_ok c.hash64 f h false (s.least, s.greatest) range.0 items.0 (joined rest.blocks) range.1 rest.contained in
        let now : passed_on s h items.0 range.0 ≡ one.0 = (let k : ◌≡◌ {A = Result Passed Error} (Ok (passed_on s h items.0 range.0)) (Ok one.0) = range.2 in cc) in
        let also : passed_block s h items.0 ≡ one.0 = ap (passed_on s h items.0) through.2 ∙ now in
        let block = data_takes p.0 items.0 (framed_bytes c types.Data bytes p.0 (range_of h) small frame) p.2 in
        let i = end_from h items.0 through.1 in
        record {
          blocks = items.0 ∷ rest.blocks;
          stored = (record { payload = p.0; frame = frame; interval = block.0; buckets = block.1; is_block = block.2; end = i }, rest.stored);
          contiguous = (eqb-true h.offset s.offset at.0, subst (λ (u : Passed). AreContiguous u.offset hs) (sym also) rest.contiguous);
          follows = follows_from s.last items.0 (joined rest.blocks) block.2.encoding.some order.0;
          ordered = ordered_join items.0 h i (joined rest.blocks) block.2.ordered (subst (λ (u : Passed). FollowsEnd u.last (joined rest.blocks)) (sym also) rest.follows) rest.ordered;
          contained = through.0;
          passed = ap (λ (u : Passed). passed_all u hs rest.blocks) also ∙ rest.passed;
        }

    -- a filter that was read may contain the keys
    filter_holds : (o : Option HandleParts) (found : Option Filter) (items : List Entry) → IfSome o (λ h. h.size < 2 ^ 32) → filter_in_run c bytes o ≡ Ok found → Contains c.hash64 found items → IfSome o (IsStoredFilter c bytes items)
    filter_holds None found items short e a = tt
    filter_holds (Some h) found items short e a =
        let p = bind_ok (payload_at c types.Filter bytes h) _ found e in
        let f = bind_ok (filter_at p.0) _ found p.2 in
        let frame = payload_at_takes c types.Filter bytes h p.0 small p.1 in
        let size = framed_size c types.Filter bytes p.0 h frame in
        let same : found ≡ Some f.0 = (let k : ◌≡◌ {A = Result (Option Filter) Error} (Ok (Some f.0)) (Ok found) = f.2 in cc) in
        record { payload = p.0; frame = frame; framed = omega arith; filter = f.0; reads = f.1; contains = subst (λ (q : Option Filter). Contains c.hash64 q items) same a }

    pub accepted_is_sound : (h : RunHandles) (s : RunSummary) → h.index.size < 2 ^ 32 → IfSome h.filter (λ g. g.size < 2 ^ 32) → check_run c bytes h ≡ Ok s
        → (blocks : List (List Entry)) × IsSound c blocks bytes h × (s ≡ summary_of blocks)
    unfolding check_run
    accepted_is_sound h s short filter_short e =
        let f = bind_ok (filter_in_run c bytes h.filter) _ s e in
        let hs = bind_ok (handles_at c bytes h.index) _ s f.2 in
        let p = bind_ok (payload_at c types.Index bytes h.index) index_check hs.0 hs.1 in
        let t = bind_ok (check_from c bytes f.0 none_passed hs.0) _ s hs.2 in
        let frame = payload_at_takes c types.Index bytes h.index p.0 small p.1 in
        let size = framed_size c types.Index bytes p.0 h.index frame in
        let index = index_takes p.0 hs.0 (framed_bytes c types.Index bytes p.0 h.index small frame) (omega arith) p.2 in
        let all = holds f.0 none_passed t.0 hs.0 t.1 in
        let count = stored_count c bytes all.blocks hs.0 all.stored in
        let some = index.1.block.encoding.some in
        let is : summary_by (length hs.0) t.0 ≡ s = (let k : ◌≡◌ {A = Result RunSummary Error} (Ok (summary_by (length hs.0) t.0)) (Ok s) = t.2 in cc) in (
          all.blocks,
          record {
            handles = hs.0;
            index = record { payload = p.0; frame = frame; framed = omega arith; interval = index.0; is_block = index.1 };
            stored = all.stored;
            contiguous = all.contiguous;
            ordered = all.ordered;
            filter = filter_holds h.filter f.0 (joined all.blocks) filter_short f.1 all.contained;
          },
          sym is ∙ ap (summary_by (length hs.0)) (sym all.passed) ∙ summary_all all.blocks hs.0 (omega arith) (stored_ends c bytes all.blocks hs.0 all.stored),
        )

-- what is sound is accepted
module _ (c : Hashes) (sums : (bytes : List ℕ) → c.hash128 bytes < 2 ^ 128)
    (data_verdict : (p : List ℕ) → DataVerdict c.hash64 (trailer_in p) p (data_check c.hash64 p))
    (index_verdict : (p : List ℕ) → IndexVerdict (trailer_in p) p (index_check p))
    (data_read : (p : List ℕ) (items : List Entry) (r b : ℕ) → length p < 2 ^ 32 → IsBlock entries IsEntry c.hash64 p items r b → Passes entries c.hash64 p × (items_in entries p ≡ map plain items))
    (index_read : (r : ℕ) (p : List ℕ) (items : List Handle) → length p < 2 ^ 32 → IsIndexBlock p items r → IndexPasses r p × (items_in handles p ≡ items) × ((trailer_in p).interval ≡ r))
    (bytes : List ℕ)
  where
    block_passes : (h : Handle) (block : List Entry) → IsHandle h → (b : IsStoredBlock c bytes block h) → (payload_at c types.Data bytes (range_of h) ≡ Ok b.payload) × (data_check c.hash64 b.payload ≡ Ok (map plain block))
    block_passes h block valid b =
        let p = b.payload in
        let size = framed_size c types.Data bytes p (range_of h) b.frame in
        let less : h.size < 2 ^ 32 = valid.size in
        let short : length p < 2 ^ 32 = omega arith in
        let read = data_read p block b.interval b.buckets short b.is_block in
        (framed_is_read c types.Data bytes p (range_of h) sums short b.frame, data_ok c.hash64 (trailer_in p) p (data_check c.hash64 p) (data_verdict p) read.0 ∙ ap (λ xs. Ok xs) read.1)

    passes_on : (f : Option Filter) (s : Passed) (blocks : List (List Entry)) (hs : List Handle) → AllByRecursion IsHandle hs → AllZip (IsStoredBlock c bytes) blocks hs → AreContiguous s.offset hs
        → FollowsEnd s.last (joined blocks) → IsOrdered entries (joined blocks) → Contains c.hash64 f (joined blocks) → check_from c bytes f s hs ≡ Ok (passed_all s hs blocks)
    unfolding check_block
    passes_on f s [] [] valid stored at follows order contained = refl
    passes_on f s [] (h ∷ hs) valid stored at follows order contained = absurd stored
    passes_on f s (b ∷ bs) [] valid stored at follows order contained = absurd stored
    passes_on f s (b ∷ bs) (h ∷ hs) valid stored at follows order contained =
        let k = stored.0 in
        let i = k.end in
        let read = block_passes h b valid.0 k in
        let after = ordered_cut b h i (joined bs) order in
        let t = passed_block s h b in
        let rest = passes_on f t bs hs valid.1 stored.1 at.1 after.0 after.1 (contains_back c.hash64 f b (joined bs) contained) in
        let through = entries_to c.hash64 f h false (s.least, s.greatest) b (joined bs) contained (end_to h b i) in
        let now : Ok (passed_on s h (map plain b) (least_from s.least b, greatest_from s.greatest b)) ≡ Ok t = ap (λ u. Ok u) (passed_plain s h b (least_from s.least b, greatest_from s.greatest b)) in
        let items : check_items c.hash64 f s h (map plain b) ≡ Ok t =
        demand_to (starts_after s.last (map plain b)) OutOfOrder _ t (follows_to s.last b (joined bs) follows) (bind_to _ _ (least_from s.least b, greatest_from s.greatest b) (Ok t) through now) in
        let block : check_block c bytes f s h ≡ Ok t =
        demand_to (eqb h.offset s.offset) BadHandle _ t (eq-eqb h.offset s.offset at.0)
        (bind_to (block_items_at c bytes (range_of h)) _ (map plain b) (Ok t) (bind_to _ (data_check c.hash64) k.payload (Ok (map plain b)) read.0 read.1) items) in
        bind_to (check_block c bytes f s h) _ t (Ok (passed_all t hs bs)) block rest

    -- the filter of a sound run is read, and may contain its keys
    filter_read : (o : Option HandleParts) (items : List Entry) → IfSome o (IsStoredFilter c bytes items) → (found : Option Filter) × (filter_in_run c bytes o ≡ Ok found) × Contains c.hash64 found items
    filter_read None items stored = (None, refl, tt)
    filter_read (Some h) items stored =
        let framed = stored.framed in
        (Some stored.filter, bind_to _ _ stored.payload (Ok (Some stored.filter)) (framed_is_read c types.Filter bytes stored.payload h sums (omega arith) stored.frame) (bind_to _ _ stored.filter (Ok (Some stored.filter)) stored.reads refl), stored.contains)

    pub sound_is_accepted : (blocks : List (List Entry)) (h : RunHandles) → IsSound c blocks bytes h → check_run c bytes h ≡ Ok (summary_of blocks)
    unfolding check_run
    sound_is_accepted blocks h s =
        let i = s.index in
        let q = i.payload in
        let framed = i.framed in
        let short : length q < 2 ^ 32 = omega arith in
        let read = index_read i.interval q s.handles short i.is_block in
        let passes : IndexPassesBy (trailer_in q).interval (trailer_in q) q = subst (λ r. IndexPassesBy r (trailer_in q) q) (sym read.2) read.0 in
        let f = filter_read h.filter (joined blocks) s.filter in
        let valid = i.is_block.block.encoding.are_valid in
        let some = i.is_block.block.encoding.some in
        let count = stored_count c bytes blocks s.handles s.stored in
        let sum : Ok (summary_by (length s.handles) (passed_all none_passed s.handles blocks)) ≡ Ok (summary_of blocks) = ap (λ x. Ok x) (summary_all blocks s.handles (omega arith) (stored_ends c bytes blocks s.handles s.stored)) in
        bind_to (filter_in_run c bytes h.filter) _ f.0 (Ok (summary_of blocks)) f.1
        (bind_to (handles_at c bytes h.index) _ s.handles (Ok (summary_of blocks))
        (bind_to _ index_check q (Ok s.handles) (framed_is_read c types.Index bytes q h.index sums short i.frame) (index_ok (trailer_in q) q (index_check q) (index_verdict q) passes ∙ ap (λ xs. Ok xs) read.1))
        (bind_to _ _ (passed_all none_passed s.handles blocks) (Ok (summary_of blocks)) (passes_on f.0 none_passed blocks s.handles valid s.stored s.contiguous tt s.ordered f.2) sum))
