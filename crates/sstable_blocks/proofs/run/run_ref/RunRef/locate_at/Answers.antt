use Rattle.std.proofs.Common.{◌≡◌, ℕ, ◌+◌, ◌<◌, ◌≤◌, List, length, Some, None, refl, sym, ap, subst, ◌∙◌, arith, inl, inr}
use Rattle.std.proofs.lemmas.Option.{slice_get_cases, slice_get_past}
use Rattle.std.specs.List.{slice_get}
use Rattle.std.specs.Option.{option_map}
use Rattle.sst_base.specs.BlockHandle.{HandleParts}
use Rattle.sst_base.specs.Counted.{Counted, CountsBetween}
use Rattle.sst_block_core.specs.Entries.{entries}
use Rattle.sst_block_core.specs.Handles.{Handle, handles}
use Rattle.sst_block_core.specs.Intervals.{digits}
use Rattle.sst_block_core.specs.Pointers.{head_count}
use Rattle.sst_block_core.specs.Stages.{items_in}
use Rattle.sst_block_core.specs.Window.{first_match}
use Rattle.sstable_blocks.specs.Lookup.{place_for}
use Rattle.sstable_blocks.specs.Opened.{found_entry, index_in, payload_in, range_of}
use Rattle.sstable_blocks.specs.PointLaws.{found_none, found_some, some_range}
use Rattle.sstable_blocks.specs.ReadCosts.{CountsHandle, entries_at, handle_in, heads_at, interval_in}
use Rattle.sstable_blocks.specs.RunReading.{hashes}
use Rattle.sstable_blocks.specs.Scans.{AtRunHandle}
use Rattle.sstable_blocks.specs.Sound.{RunParts}
use Rattle.sstable_blocks.specs.declared.run.RunHandles.{RunHandles}
use Rattle.sstable_blocks.proofs.run.run_ref.RunRef.locate_at.Goals as goal

-- what a read of the block in a frame examines
abbrev IsOfBlock : List ℕ → HandleParts → Counted → Counted → Type 0
IsOfBlock bytes k old new = CountsBetween old new (0, 0) (digits (head_count (interval_in bytes k) (length (items_in entries (payload_in bytes k)))), interval_in bytes k + 1)

-- what is examined of the handle that is known, and of its block, is what a read examines of these
counts_read : (bytes : List ℕ) (h : RunHandles) (needle : List ℕ) (s : ℕ) (k : HandleParts) → Some k ≡ option_map range_of (handle_in bytes h needle s)
    → (i : ℕ) (old mid new : Counted) → CountsHandle old mid (interval_in bytes h.index) i
    → IsOfBlock bytes k mid new
    → CountsBetween old new (0, 0) (digits (heads_at bytes (handle_in bytes h needle s)), interval_in bytes h.index + entries_at bytes (handle_in bytes h needle s))
counts_read bytes h needle s k at i old mid new handle block =
    let g = some_range (handle_in bytes h needle s) k (sym at) in
    let heads = ap (heads_at bytes) g.1 ∙ ap (λ (r : HandleParts). head_count (interval_in bytes r) (length (items_in entries (payload_in bytes r)))) g.2 in
    let items = ap (entries_at bytes) g.1 ∙ ap (λ (r : HandleParts). interval_in bytes r + 1) g.2 in
    let first = handle.exact in
    record {
      heads_least = omega (arith, first.heads, block.heads_least);
      heads_most = omega (arith, first.heads, block.heads_most, ap digits heads);
      entries_least = omega (arith, first.entries, block.entries_least);
      entries_most = omega (arith, first.entries, block.entries_most, handle.most, items);
    }

-- the handle at the place where a seek stops is the one that it finds
at_place : (run : RunParts) (needle : List ℕ) (s i : ℕ) (k : HandleParts) → i ≡ place_for handles needle s (index_in run.bytes run.handles.index) → i < length (index_in run.bytes run.handles.index)
    → AtRunHandle run i (λ h. k ≡ range_of h) → Some k ≡ option_map range_of (handle_in run.bytes run.handles needle s)
at_place run needle s i k is less at =
    let hs = index_in run.bytes run.handles.index in
    elim (slice_get_cases hs i).1 [
      | inl g ↦ ap (λ x. Some x) (at g.0 g.2) ∙ sym (ap (option_map range_of) g.2) ∙ ap (λ n. option_map range_of (slice_get hs n)) is
      | inr past ↦ absurd (omega (arith, less, past.0))
    ]

-- the length of an index, by what a run has of it
index_len : (inside now : RunParts) (items : List Handle) (n : ℕ) → n ≡ length items → items ≡ index_in inside.bytes inside.handles.index → inside ≡ now → n ≡ length (index_in now.bytes now.handles.index)
index_len inside now items n is index same = is ∙ ap (λ (xs : List Handle). length xs) index ∙ ap (λ (v : RunParts). length (index_in v.bytes v.handles.index)) same

pub returns-then-index-len-clause-found : goal.returns-then-index-len-clause-found
returns-then-index-len-clause-found g c = λ blocks sound.
    let run = c.args.self.now in
    let o = c.sound_opens.ensures (hashes g.H.BlockHash.hash64 g.H.BlockHash.hash128) blocks run.bytes run.handles sound in
    let hs = index_in run.bytes run.handles.index in
    let len = index_len _ run _ c.len.result c.len.ensures.count c.self.invariant.1.index_is c.self.view_is in
    let past : slice_get hs c.args.index ≡ None = slice_get_past hs c.args.index (omega (arith, len, c.if-index-len.true)) in
    let none : handle_in run.bytes run.handles c.args.needle.now c.args.seqno ≡ None = ap (slice_get hs) (sym c.requires) ∙ past in
    found_none g.H.BlockHash.hash64 blocks run.bytes run.handles c.args.needle.now c.args.seqno o None (sym (ap (option_map range_of) none)) refl

pub returns-clause-found : goal.returns-clause-found
returns-clause-found g c = λ blocks sound.
    let run = c.args.self.now in
    let o = c.sound_opens.ensures (hashes g.H.BlockHash.hash64 g.H.BlockHash.hash128) blocks run.bytes run.handles sound in
    let len = index_len _ run _ c.len.result c.len.ensures.count c.self.invariant.1.index_is c.self.view_is in
    let at = at_place run c.args.needle.now c.args.seqno c.args.index c.frame_at-frame.result c.requires (omega (arith, len, c.if-index-len.false)) c.frame_at-frame.ensures.handle in
    let found = subst (λ (v : RunParts). found_entry v.bytes c.item_in.result ≡ first_match entries c.args.needle.now c.args.seqno (items_in entries (payload_in v.bytes c.frame_at-frame.result))) c.self.view_is c.item_in.ensures.found in
    found ∙ found_some g.H.BlockHash.hash64 blocks run.bytes run.handles c.args.needle.now c.args.seqno o (Some c.frame_at-frame.result) c.frame_at-frame.result at refl

pub returns-clause-counts : goal.returns-clause-counts
returns-clause-counts g c =
    let run = c.args.self.now in
    let len = index_len _ run _ c.len.result c.len.ensures.count c.self.invariant.1.index_is c.self.view_is in
    let at = at_place run c.args.needle.now c.args.seqno c.args.index c.frame_at-frame.result c.requires (omega (arith, len, c.if-index-len.false)) c.frame_at-frame.ensures.handle in
    let counts = subst (λ (v : RunParts). IsOfBlock v.bytes c.frame_at-frame.result c.frame_at-frame.new.steps c.item_in.new.steps) c.self.view_is c.item_in.ensures.counts in
    counts_read run.bytes run.handles c.args.needle.now c.args.seqno c.frame_at-frame.result at c.args.index _ c.frame_at-frame.new.steps _ c.frame_at-frame.ensures.counts counts
