-- Laws of tables whose ends are moved: of their blocks, where they are known, and of the errors of reading them.
use Rattle.std.proofs.Common.{◌≡◌, ℕ, zero, suc, ◌+◌, ◌-◌, ◌<◌, ◌≤◌, Bool, true, false, cond, nat_lt, List, [], ◌∷◌, ◌++◌, length, map, drop, take, Option, Some, None, Result, Ok, Err, slice_get, refl, sym, ap, subst, ◌∙◌, inl, inr, ◌⊎◌, arith, length-append, length-drop}
use Rattle.std.proofs.lemmas.List.{length-take-le, take_all, take_rest}
use Rattle.std.proofs.lemmas.List.Sums.{count_by-le-length, sum_by-cons}
use Rattle.std.proofs.lemmas.Option.{slice_get-map, slice_get_within}
use Rattle.std.specs.Cmp.Lexicographic.{slice_cmp}
use Rattle.std.specs.Iterator.{YieldsFirst, YieldsLast}
use Rattle.std.specs.List.{AllByRecursion, count_by}
use Rattle.std.specs.Option.{IfSome, option_map}
use Rattle.std.specs.Result.{IfOk}
use Rattle.std.specs.Ordering.{is_le, is_lt, nat_cmp}
use Rattle.std.specs.Prelude.{◌&&◌}
use Rattle.sstable_blocks.specs.Prelude.{found_item, Entry, is_in_order, entries, Handle, handles, IsOrdered, Answer, Window, count_passed, items_left, passes, seek, seek_upper, whole}
use Rattle.sstable_blocks.specs.BlockLaws.{and_parts, some_is, keys_equal}
use Rattle.sstable_blocks.specs.Results.{Error, BadHandle, Io, Truncated}
use Rattle.sstable_blocks.specs.Blocks.{IsNotEmpty, joined}
use Rattle.sstable_blocks.specs.BoundLaws.{below_is, up_to_is}
use Rattle.sstable_blocks.specs.Opened.{range_of}
use Rattle.sstable_blocks.specs.RunReading.{Hashes, block_items_at}
use Rattle.sstable_blocks.specs.Sources.{FailsAs}
use Rattle.sstable_blocks.specs.Tables.{TableParts}
use Rattle.sst_sources.specs.FailureLaws.{is_memory, reports_itself, source_met}
use Rattle.sst_sources.specs.Merge.{entry_cmp}
use Rattle.sst_sources.specs.ErrorLaws.{among_left, among_right}
use Rattle.sst_merge.specs.Movable.{IsFresh, is_sought, item_before}
use Rattle.sst_merge.specs.MovableBlocks.{AreEntryBlocks, HoldsBack, HoldsFront, IsBackIn, IsFrontIn, TakesFirstOf, TakesLastOf, back_place, entries_before, entry_key, front_place, is_block_sought, is_last_sought, window_of}
use Rattle.sst_merge.specs.MovableTables.{AnyStepFails, AreTableEnds, GoesBack, GoesForth, IsBackAt, IsFrontAt, IsWholeBlock, KeepsTable, OfBlocks, TableEnd, block_reads, end_in, end_of, ends_with, errors_in, fit_blocks, have_ends, later_starts, read_blocks, search_from, table_blocks, table_errors, table_moved, with_block}
use Rattle.sst_merge.specs.Moved.{Moved, unless_ended}
use Rattle.sst_sources.specs.Sources.{IsAmong}
use Rattle.sst_sources.specs.Stored.{MayFailAnyTime, reported}
use Rattle.sst_sources.specs.TableReads.{passes_ordered}
use Rattle.sst_merge.proofs.Moving.BlockEnds.{back_at, back_before, back_block, back_ends, back_held, back_item, back_more, back_none, drop_zero, front_at, front_ends, front_held, front_item, front_more, front_none, left_from, left_later, left_up_to, left_same, none_at_end, none_earlier, none_same, some_in}
use Rattle.sst_merge.proofs.Moving.BlockCounts.{stops}
use Rattle.sstable_blocks.specs.JoinedLaws.{before_none}
use Rattle.sst_merge.proofs.Moving.BlockPlaces.{before_all}

-- what holds of a value that may be known
pub for_known : {A : Type 0} (P : A → Type 0) (o : Option A) → ((a : A) → o ≡ Some a → P a) → IfSome o P
for_known P None h = tt
for_known P (Some a) h = h a refl

pub of_known : {A : Type 0} (P : A → Type 0) (o : Option A) (a : A) → o ≡ Some a → IfSome o P → P a
of_known P None a e h = absurd (cc)
of_known P (Some b) a e h = subst P (some_is b a e) h

-- blocks that are known
pub record AreRead (c : Hashes) (b : Option (List ℕ)) (index : List Handle) (blocks : List (List Entry)) : Type 0 where
  pub bytes : List ℕ
  pub bytes_are : b ≡ Some bytes
  pub read : read_blocks (block_reads c bytes index) ≡ Some blocks
  pub in_order : is_in_order entry_cmp (joined blocks) ≡ true
  pub ends : have_ends index blocks ≡ true

fit_by : (index : List Handle) (bs blocks : List (List Entry)) (t : Bool) → (is_in_order entry_cmp (joined bs) && have_ends index bs) ≡ t → cond t (Some bs) None ≡ Some blocks → (bs ≡ blocks) × ((is_in_order entry_cmp (joined bs) && have_ends index bs) ≡ true)
fit_by index bs blocks true is e = (some_is bs blocks e, is)
fit_by index bs blocks false is e = absurd (cc)

read_by : (c : Hashes) (bytes : List ℕ) (index : List Handle) (blocks : List (List Entry)) (o : Option (List (List Entry))) → read_blocks (block_reads c bytes index) ≡ o → fit_blocks index o ≡ Some blocks → AreRead c (Some bytes) index blocks
read_by c bytes index blocks None is e = absurd (cc)
read_by c bytes index blocks (Some bs) is e =
    let k = fit_by index bs blocks (is_in_order entry_cmp (joined bs) && have_ends index bs) refl e in
    let t = and_parts (is_in_order entry_cmp (joined bs)) (have_ends index bs) k.1 in
    record {
      bytes = bytes;
      bytes_are = refl;
      read = is ∙ ap Some k.0;
      in_order = ap (λ (xs : List (List Entry)). is_in_order entry_cmp (joined xs)) (sym k.0) ∙ t.0;
      ends = ap (have_ends index) (sym k.0) ∙ t.1;
    }

pub are_read : (c : Hashes) (b : Option (List ℕ)) (index : List Handle) (blocks : List (List Entry)) → table_blocks c b index ≡ Some blocks → AreRead c b index blocks
unfolding table_blocks
are_read c None index blocks e = absurd (cc)
are_read c (Some bytes) index blocks e = read_by c bytes index blocks (read_blocks (block_reads c bytes index)) refl e

-- as many blocks as handles, none of them empty
pub as_many : (index : List Handle) (blocks : List (List Entry)) → have_ends index blocks ≡ true → length blocks ≡ length index
as_many [] [] h = refl
as_many [] (b ∷ bs) h = absurd (cc)
as_many (g ∷ index) [] h = absurd (cc)
as_many (g ∷ index) (b ∷ bs) h = (let k = as_many index bs (and_parts (ends_with g (item_before b (length b))) (have_ends index bs) h).1 in omega (arith, k))

not_empty : (g : Handle) (block : List Entry) → ends_with g (item_before block (length block)) ≡ true → IsNotEmpty block
not_empty g [] h = absurd (cc)
not_empty g (x ∷ xs) h = omega arith

all_some : (index : List Handle) (blocks : List (List Entry)) → have_ends index blocks ≡ true → AllByRecursion IsNotEmpty blocks
all_some [] [] h = tt
all_some [] (b ∷ bs) h = absurd (cc)
all_some (g ∷ index) [] h = tt
all_some (g ∷ index) (b ∷ bs) h = (let k = and_parts (ends_with g (item_before b (length b))) (have_ends index bs) h in (not_empty g b k.0, all_some index bs k.1))

pub are_blocks : (index : List Handle) (blocks : List (List Entry)) → is_in_order entry_cmp (joined blocks) ≡ true → have_ends index blocks ≡ true → AreEntryBlocks blocks
are_blocks index blocks up ends = record { ordered = passes_ordered (joined blocks) up; some = all_some index blocks ends }

-- the block of a handle
rest_read : (r : Result (List Entry) Error) (o : Option (List (List Entry))) (blocks : List (List Entry)) → with_block r o ≡ Some blocks → (block : List Entry) × (rest : List (List Entry)) × (r ≡ Ok block) × (o ≡ Some rest) × (block ∷ rest ≡ blocks)
rest_read (Err e) o blocks h = absurd (cc)
rest_read (Ok block) None blocks h = absurd (cc)
rest_read (Ok block) (Some rest) blocks h = (block, rest, refl, refl, some_is (block ∷ rest) blocks h)

read_there : (reads : List (Result (List Entry) Error)) (blocks : List (List Entry)) (i : ℕ) (items : List Entry) → read_blocks reads ≡ Some blocks → slice_get reads i ≡ Some (Ok items) → slice_get blocks i ≡ Some items
read_there [] blocks i items all at = absurd (cc)
read_there (r ∷ reads) blocks zero items all at =
    let k = rest_read r (read_blocks reads) blocks all in
    let e : ◌≡◌ {A = Result (List Entry) Error} (Ok k.0) (Ok items) = sym k.2 ∙ some_is r (Ok items) at in
    ap (λ bs. slice_get bs 0) (sym k.4) ∙ ap Some (let d : k.0 ≡ items = cc in d)
read_there (r ∷ reads) blocks (suc i) items all at =
    let k = rest_read r (read_blocks reads) blocks all in
    ap (λ bs. slice_get bs (suc i)) (sym k.4) ∙ read_there reads k.1 i items k.3 at

-- what holds at the handle at an index
pub at_handle : (P : List ℕ → Handle → Type 0) (b : Option (List ℕ)) (index : List Handle) (i : ℕ) (h : Handle) → slice_get index i ≡ Some h → IfSome b (λ all. (g : Handle) → slice_get index i ≡ Some g → P all g) → IfSome b (λ all. P all h)
at_handle P None index i h at holds = tt
at_handle P (Some all) index i h at holds = holds h at

-- what is read of a table whose bytes are known is the block there
pub block_there : (c : Hashes) (b : Option (List ℕ)) (index : List Handle) (blocks : List (List Entry)) (i : ℕ) (h : Handle) (items : List Entry) → AreRead c b index blocks → slice_get index i ≡ Some h
    → IfSome b (λ all. block_items_at c all (range_of h) ≡ Ok items) → slice_get blocks i ≡ Some items
block_there c b index blocks i h items k at is =
    let f = λ (g : Handle). block_items_at c k.bytes (range_of g) in
    read_there (block_reads c k.bytes index) blocks i items k.read (slice_get-map f index i ∙ ap (option_map f) at ∙ ap Some (of_known (λ all. block_items_at c all (range_of h) ≡ Ok items) b k.bytes k.bytes_are is))

-- A search over the handles is one over the blocks.
module _ (needle : List ℕ) where
  handle_passes : (at_most : Bool) (g : Handle) (o : Option Entry) → ends_with g o ≡ true → passes needle (search_from at_most) (handles.key g) (handles.seqno g) ≡ is_last_sought needle at_most o
  handle_passes at_most g None h = absurd (cc)
  handle_passes false g (Some e) h = below_is (slice_cmp nat_cmp g.end_key needle) g.seqno ∙ ap (λ k. is_lt (slice_cmp nat_cmp k needle)) (keys_equal g.end_key e.key.user_key h)
  handle_passes true g (Some e) h = up_to_is (slice_cmp nat_cmp g.end_key needle) g.seqno ∙ ap (λ k. is_le (slice_cmp nat_cmp k needle)) (keys_equal g.end_key e.key.user_key h)

  counts_same : (at_most : Bool) (index : List Handle) (blocks : List (List Entry)) → have_ends index blocks ≡ true
      → count_by (λ g. passes needle (search_from at_most) (handles.key g) (handles.seqno g)) index ≡ count_by (is_block_sought needle at_most) blocks
  counts_same at_most [] [] h = refl
  counts_same at_most [] (b ∷ bs) h = absurd (cc)
  counts_same at_most (g ∷ index) [] h = absurd (cc)
  counts_same at_most (g ∷ index) (b ∷ bs) h =
      let k = and_parts (ends_with g (item_before b (length b))) (have_ends index bs) h in
      sum_by-cons (λ y. cond (passes needle (search_from at_most) (handles.key y) (handles.seqno y)) 1 0) g index
      ∙ ap (λ t. cond t 1 0 + count_by (λ y. passes needle (search_from at_most) (handles.key y) (handles.seqno y)) index) (handle_passes at_most g (item_before b (length b)) k.0)
      ∙ ap (λ n. cond (is_block_sought needle at_most b) 1 0 + n) (counts_same at_most index bs k.1) ∙ sym (sum_by-cons (λ y. cond (is_block_sought needle at_most y) 1 0) b bs)

  pub passed_same : (at_most : Bool) (from : Option ℕ) (index : List Handle) (blocks : List (List Entry)) → from ≡ search_from at_most → have_ends index blocks ≡ true → count_passed handles needle from index ≡ count_by (is_block_sought needle at_most) blocks
  unfolding count_passed
  passed_same at_most from index blocks is h = ap (λ o. count_by (λ g. passes needle o (handles.key g) (handles.seqno g)) index) is ∙ counts_same at_most index blocks h

-- The errors of reading blocks.
error_there : (reads : List (Result (List Entry) Error)) (i : ℕ) (d e : Error) → slice_get reads i ≡ Some (Err d) → IsAmong e (reported d) → IsAmong e (errors_in reads)
error_there [] i d e at h = absurd (cc)
error_there (Ok block ∷ reads) zero d e at h = absurd (let k = some_is (Ok block) (Err d) at in cc)
error_there (Err x ∷ reads) zero d e at h =
    let k : ◌≡◌ {A = Result (List Entry) Error} (Err x) (Err d) = some_is (Err x) (Err d) at in
    let same : x ≡ d = cc in
    among_left e (reported x) (errors_in reads) (subst (λ y. IsAmong e (reported y)) (sym same) h)
error_there (Ok block ∷ reads) (suc i) d e at h = error_there reads i d e at h
error_there (Err x ∷ reads) (suc i) d e at h = among_right e (reported x) (errors_in reads) (error_there reads i d e at h)

module _ {S : Type 0} (is_reliable : S → Type 0) (s : S) (failed : Type 0) where
  fails_by : (reads : List (Result (List Entry) Error)) (i : ℕ) (read : Result (List Entry) Error) (e : Error) → slice_get reads i ≡ Some read → FailsAs failed (is_reliable s) read e → AnyStepFails is_reliable e ⊎ IsAmong e (errors_in reads)
  fails_by reads i read e at f = elim (is_memory e) [
    | inl m ↦ inl (inl m)
    | inr n ↦ elim (f n) [
      | inl g ↦ device (source_met is_reliable s failed (read ≡ Err BadHandle) (errors_in reads) e g
          (λ o. error_there reads i BadHandle Io (at ∙ ap Some o) (inr (inl refl))) (λ o. error_there reads i BadHandle Truncated (at ∙ ap Some o) (inr (inr (inl refl)))))
      | inr r ↦ inr (error_there reads i e e (at ∙ ap Some r) (reports_itself e))
    ]
  ]
    where
      device : MayFailAnyTime is_reliable e ⊎ IsAmong e (errors_in reads) → AnyStepFails is_reliable e ⊎ IsAmong e (errors_in reads)
      device (inl d) = inl (inr d)
      device (inr m) = inr m

  -- why the block of a handle is not read
  pub block_fails : (c : Hashes) (b : Option (List ℕ)) (index : List Handle) (i : ℕ) (h : Handle) (e : Error) → slice_get index i ≡ Some h → IfSome b (λ all. FailsAs failed (is_reliable s) (block_items_at c all (range_of h)) e)
      → AnyStepFails is_reliable e ⊎ IfSome (table_errors c b index) (IsAmong e)
  unfolding table_errors
  block_fails c None index i h e at f = inr tt
  block_fails c (Some bytes) index i h e at f = fails_by (block_reads c bytes index) i (block_items_at c bytes (range_of h)) e (slice_get-map (λ (g : Handle). block_items_at c bytes (range_of g)) index i ∙ ap (option_map (λ (g : Handle). block_items_at c bytes (range_of g))) at) f

-- What is held after a block was opened.
whole_there : (blocks : List (List Entry)) (b : ℕ) (items views : List Entry) (o : Option TableEnd) → slice_get blocks b ≡ Some items → TakesFirstOf b items views (end_in o) → IfSome o (λ e. e.left.window.list ≡ items) → IsWholeBlock blocks o
whole_there blocks b items views None here took is = tt
whole_there blocks b items views (Some e) here took is = ap (slice_get blocks) took.0 ∙ here ∙ ap Some (sym is)

pub front_opened : (blocks : List (List Entry)) (b n : ℕ) (items views : List Entry) (o : Option TableEnd) → slice_get blocks b ≡ Some items → views ≡ drop n items → n < length items → TakesFirstOf b items views (end_in o) → IfSome o (λ e. e.left.window.list ≡ items)
    → IsFrontAt blocks (entries_before blocks b + n) o
front_opened blocks b n items views o here is less took whole = record {
  holds = front_held blocks b items here n views (end_in o) is took;
  whole = whole_there blocks b items views o here took whole;
  place_is = front_at blocks b items here n views (end_in o) is took less;
}

-- the front after all blocks
pub front_behind : (blocks : List (List Entry)) (b place : ℕ) → place ≡ length (joined blocks) → IsFrontAt blocks place None
front_behind blocks b place is = record { holds = tt; whole = tt; place_is = sym is }

pub back_opened : (blocks : List (List Entry)) (b : ℕ) (items views : List Entry) (o : Option TableEnd) → slice_get blocks b ≡ Some items → views ≡ take (length items) items → 1 ≤ length items → TakesLastOf b views (end_in o) → IsBackAt blocks (entries_before blocks (suc b)) o
back_opened blocks b items views o here is some took = record {
  holds = back_held blocks b items here (length items) views (end_in o) is took;
  place_is = back_before blocks b items here views (end_in o) is took some;
}

pub back_sought : (blocks : List (List Entry)) (b n : ℕ) (items views : List Entry) (e : TableEnd) → slice_get blocks b ≡ Some items → views ≡ take n items → n ≤ length items → TakesLastOf b views (Some (end_of e)) → IsBackAt blocks (entries_before blocks b + n) (Some e)
back_sought blocks b n items views e here is inside took = record {
  holds = back_held blocks b items here n views (Some (end_of e)) is took;
  place_is = back_at blocks b items here n views (end_of e) is took inside;
}

-- The steps of a table.
module _ {S : Type 0} (c : Hashes) (bytes : S → Option (List ℕ)) (t u : TableParts S) (keeps : KeepsTable bytes t u) where
  pub blocks_same : table_blocks c (bytes u.source) u.index ≡ table_blocks c (bytes t.source) t.index
  blocks_same = ap (λ b. table_blocks c b u.index) keeps.same ∙ ap (λ (k : TableParts S). table_blocks c (bytes t.source) k.index) keeps.kept

abbrev pub window_at : Option TableEnd → Option TableEnd → List (List Entry) → Window Entry
window_at front back blocks = window_of blocks (end_in front) (end_in back)

-- what is known of both ends, of which one was moved
ends_by_front : (f g b : Option TableEnd) (place : List (List Entry) → ℕ) (o : Option (List (List Entry))) → IfSome o (AreTableEnds f b) → IfSome o (λ blocks. IsFrontAt blocks (place blocks) g) → IfSome o (AreTableEnds g b)
ends_by_front f g b place None old new = tt
ends_by_front f g b place (Some blocks) old new = record { front_holds = new.holds; front_whole = new.whole; back_holds = old.back_holds }

ends_by_back : (f b d : Option TableEnd) (place : List (List Entry) → ℕ) (o : Option (List (List Entry))) → IfSome o (AreTableEnds f b) → IfSome o (λ blocks. IsBackAt blocks (place blocks) d) → IfSome o (AreTableEnds f d)
ends_by_back f b d place None old new = tt
ends_by_back f b d place (Some blocks) old new = record { front_holds = old.front_holds; front_whole = old.front_whole; back_holds = new.holds }

module _ {S : Type 0} (c : Hashes) (bytes : S → Option (List ℕ)) (t u : TableParts S) (keeps : KeepsTable bytes t u) (f b : Option TableEnd) where
  abbrev known : Option (List (List Entry))
  known = table_blocks c (bytes t.source) t.index

  -- the ends stay ends
  pub kept_sought : (g : Option TableEnd) (place : List (List Entry) → ℕ) → IfSome known (AreTableEnds f b) → IfSome known (λ blocks. IsFrontAt blocks (place blocks) g) → IfSome (table_blocks c (bytes u.source) u.index) (AreTableEnds g b)
  kept_sought g place are h = subst (λ o. IfSome o (AreTableEnds g b)) (sym (blocks_same c bytes t u keeps)) (ends_by_front f g b place known are h)

  pub kept_sought_up : (d : Option TableEnd) (place : List (List Entry) → ℕ) → IfSome known (AreTableEnds f b) → IfSome known (λ blocks. IsBackAt blocks (place blocks) d) → IfSome (table_blocks c (bytes u.source) u.index) (AreTableEnds f d)
  kept_sought_up d place are h = subst (λ o. IfSome o (AreTableEnds f d)) (sym (blocks_same c bytes t u keeps)) (ends_by_back f b d place known are h)

-- What is shown of a table.
shown_by : (f b : Option TableEnd) (P : Window Entry → Type 0) (ended : Option Error) (o : Option (List (List Entry))) → IfSome (unless_ended ended o) (AreTableEnds f b) → ((blocks : List (List Entry)) → AreTableEnds f b blocks → P (window_at f b blocks)) → IfSome (unless_ended ended (option_map (window_at f b) o)) P
shown_by f b P (Some e) o are h = tt
shown_by f b P None None are h = tt
shown_by f b P None (Some blocks) are h = h blocks are

pub table_shown : {S : Type 0} (c : Hashes) (bytes : S → Option (List ℕ)) (reads : S → ℕ) (t : TableParts S) (f b : Option TableEnd) (ended : Option Error) (all : Moved Entry) → table_moved c bytes reads t f b ended ≡ all
    → IfSome (unless_ended ended (table_blocks c (bytes t.source) t.index)) (AreTableEnds f b) → (P : Window Entry → Type 0) → ((blocks : List (List Entry)) → AreTableEnds f b blocks → P (window_at f b blocks)) → IfSome all.window P
table_shown c bytes reads t f b ended all is are P h = subst (λ (m : Moved Entry). IfSome m.window P) is (shown_by f b P ended (table_blocks c (bytes t.source) t.index) are h)

module _ (f b : Option TableEnd) (blocks : List (List Entry)) (are : AreTableEnds f b blocks) where
  pub front_shows : (x : TableEnd) → f ≡ Some x → Some x.held ≡ slice_get (joined blocks) (front_place blocks (end_in f))
  front_shows x is = sym (front_item blocks (end_of x) (subst (λ o. HoldsFront blocks (end_in o)) is are.front_holds)) ∙ sym (ap (λ o. slice_get (joined blocks) (front_place blocks (end_in o))) is)

  pub front_shows_none : f ≡ None → None ≡ slice_get (joined blocks) (front_place blocks (end_in f))
  front_shows_none is = sym (front_none blocks) ∙ sym (ap (λ o. slice_get (joined blocks) (front_place blocks (end_in o))) is)

  pub back_shows : (y : TableEnd) → b ≡ Some y → Some y.held ≡ item_before (joined blocks) (back_place blocks (end_in b))
  back_shows y is = sym (back_item blocks (end_of y) (subst (λ o. HoldsBack blocks (end_in o)) is are.back_holds)) ∙ sym (ap (λ o. item_before (joined blocks) (back_place blocks (end_in o))) is)

  pub none_at_front : f ≡ None → false ≡ nat_lt (front_place blocks (end_in f)) (back_place blocks (end_in b))
  none_at_front is = sym (none_at_end blocks (end_in b) are.back_holds) ∙ sym (ap (λ o. nat_lt (front_place blocks (end_in o)) (back_place blocks (end_in b))) is)

  module _ (x y : TableEnd) (front_is : f ≡ Some x) (back_is : b ≡ Some y) where
    at_front : IsFrontIn blocks (end_of x)
    at_front = subst (λ o. HoldsFront blocks (end_in o)) front_is are.front_holds

    at_back : IsBackIn blocks (end_of y)
    at_back = subst (λ o. HoldsBack blocks (end_in o)) back_is are.back_holds

    places : nat_lt (front_place blocks (end_in f)) (back_place blocks (end_in b)) ≡ nat_lt (front_place blocks (Some (end_of x))) (back_place blocks (Some (end_of y)))
    places = ap (λ o. nat_lt (front_place blocks (end_in o)) (back_place blocks (end_in b))) front_is ∙ ap (λ o. nat_lt (front_place blocks (Some (end_of x))) (back_place blocks (end_in o))) back_is

    pub some_later : x.block < y.block → true ≡ nat_lt (front_place blocks (end_in f)) (back_place blocks (end_in b))
    some_later less = sym (left_later blocks (end_of x) (end_of y) at_front at_back less) ∙ sym places

    pub none_before : y.block < x.block → false ≡ nat_lt (front_place blocks (end_in f)) (back_place blocks (end_in b))
    none_before more = sym (none_earlier blocks (end_of x) (end_of y) at_front at_back more) ∙ sym places

-- what holds of a result that is no error
pub if_ok : {A : Type 0} (P Q : A → Type 0) (r : Result A Error) → ((a : A) → P a → Q a) → IfOk r P → IfOk r Q
if_ok P Q (Ok a) f h = f a h
if_ok P Q (Err e) f h = tt

pub if_ok_both : {A : Type 0} (P R Q : A → Type 0) (r : Result A Error) → ((a : A) → P a → R a → Q a) → IfOk r P → IfOk r R → IfOk r Q
if_ok_both P R Q (Ok a) f h k = f a h k
if_ok_both P R Q (Err e) f h k = tt

-- the entries of a block that was just opened
pub whole_left : (w : Window Entry) → w ≡ whole w.list → items_left w ≡ drop 0 w.list
whole_left w is = ap items_left is ∙ take_rest w.list 0

pub all_left : (w : Window Entry) → w ≡ whole w.list → items_left w ≡ take (length w.list) w.list
all_left w is = whole_left w is ∙ drop_zero w.list ∙ sym (take_all (length w.list) w.list (omega arith))

-- the front that is opened at a block
pub opens_front : {S : Type 0} (c : Hashes) (bytes : S → Option (List ℕ)) (t : TableParts S) (i : ℕ) (w : Window Entry) (r : Result (Option TableEnd) Error) → OfBlocks c bytes t (λ blocks. slice_get blocks i ≡ Some w.list) → w ≡ whole w.list
    → IfOk r (λ o. TakesFirstOf i w.list (items_left w) (end_in o)) → IfOk r (λ o. IfSome o (λ e. e.left.window.list ≡ w.list)) → IfOk r (λ o. OfBlocks c bytes t (λ blocks. IsFrontAt blocks (entries_before blocks i) o))
opens_front c bytes t i w r here is took whole_list =
    let b = bytes t.source in
    if_ok_both (λ o. TakesFirstOf i w.list (items_left w) (end_in o)) (λ o. IfSome o (λ e. e.left.window.list ≡ w.list)) (λ o. OfBlocks c bytes t (λ blocks. IsFrontAt blocks (entries_before blocks i) o)) r
    (λ o held all. for_known (λ blocks. IsFrontAt blocks (entries_before blocks i) o) (table_blocks c b t.index) (λ blocks known.
    let at = of_known (λ bs. slice_get bs i ≡ Some w.list) (table_blocks c b t.index) blocks known here in
    let k = are_read c b t.index blocks known in
    let some = some_in blocks i w.list (are_blocks t.index blocks k.in_order k.ends).some at in
    let e : entries_before blocks i + 0 ≡ entries_before blocks i = omega arith in
    subst (λ n. IsFrontAt blocks n o) e (front_opened blocks i 0 w.list (items_left w) o at (whole_left w is) some held all)))
    took whole_list

-- or the back
pub opens_back : {S : Type 0} (c : Hashes) (bytes : S → Option (List ℕ)) (t : TableParts S) (i n : ℕ) (w : Window Entry) (r : Result (Option TableEnd) Error) → suc i ≡ n → OfBlocks c bytes t (λ blocks. slice_get blocks i ≡ Some w.list) → w ≡ whole w.list
    → IfOk r (λ o. TakesLastOf i (items_left w) (end_in o)) → IfOk r (λ o. OfBlocks c bytes t (λ blocks. n ≤ length blocks → IsBackAt blocks (entries_before blocks n) o))
opens_back c bytes t i n w r next here is took =
    let b = bytes t.source in
    if_ok (λ o. TakesLastOf i (items_left w) (end_in o)) (λ o. OfBlocks c bytes t (λ blocks. n ≤ length blocks → IsBackAt blocks (entries_before blocks n) o)) r
    (λ o held. for_known (λ blocks. n ≤ length blocks → IsBackAt blocks (entries_before blocks n) o) (table_blocks c b t.index) (λ blocks known inside.
    let at = of_known (λ bs. slice_get bs i ≡ Some w.list) (table_blocks c b t.index) blocks known here in
    let k = are_read c b t.index blocks known in
    let some = some_in blocks i w.list (are_blocks t.index blocks k.in_order k.ends).some at in
    subst (λ m. IsBackAt blocks (entries_before blocks m) o) next (back_opened blocks i w.list (items_left w) o at (all_left w is) some held)))
    took

-- there is no block to be opened
pub no_front : {S : Type 0} (c : Hashes) (bytes : S → Option (List ℕ)) (t : TableParts S) (i : ℕ) → length t.index ≤ i → OfBlocks c bytes t (λ blocks. IsFrontAt blocks (entries_before blocks i) None)
no_front c bytes t i behind =
    let b = bytes t.source in
    for_known (λ blocks. IsFrontAt blocks (entries_before blocks i) None) (table_blocks c b t.index) (λ blocks known.
    let k = are_read c b t.index blocks known in
    let n = as_many t.index blocks k.ends in
    front_behind blocks i (entries_before blocks i) (before_all blocks i (omega (arith, n, behind))))

pub no_back : {S : Type 0} (c : Hashes) (bytes : S → Option (List ℕ)) (t : TableParts S) (n : ℕ) → n ≡ 0 → OfBlocks c bytes t (λ blocks. n ≤ length blocks → IsBackAt blocks (entries_before blocks n) None)
no_back c bytes t n zero_is =
    for_known (λ blocks. n ≤ length blocks → IsBackAt blocks (entries_before blocks n) None) (table_blocks c (bytes t.source) t.index) (λ blocks known inside.
    subst (λ m. IsBackAt blocks (entries_before blocks m) None) (sym zero_is) (record { holds = tt; place_is = sym (before_none blocks) }))

pub no_back_behind : {S : Type 0} (c : Hashes) (bytes : S → Option (List ℕ)) (t : TableParts S) (n : ℕ) → length t.index < n → OfBlocks c bytes t (λ blocks. n ≤ length blocks → IsBackAt blocks (entries_before blocks n) None)
no_back_behind c bytes t n behind =
    let b = bytes t.source in
    for_known (λ blocks. n ≤ length blocks → IsBackAt blocks (entries_before blocks n) None) (table_blocks c b t.index) (λ blocks known inside.
    let k = are_read c b t.index blocks known in
    let m = as_many t.index blocks k.ends in
    absurd (omega (arith, m, behind, inside)))

-- Searches.
abbrev pub sought_count : List ℕ → Bool → List (List Entry) → ℕ
sought_count key at_most blocks = count_by (is_sought entry_key key at_most) (joined blocks)

pub sought_behind : {S : Type 0} (c : Hashes) (bytes : S → Option (List ℕ)) (t : TableParts S) (key : List ℕ) (i : ℕ) → OfBlocks c bytes t (λ blocks. i ≡ count_by (is_block_sought key false) blocks) → length t.index ≤ i
    → OfBlocks c bytes t (λ blocks. IsFrontAt blocks (sought_count key false blocks) None)
sought_behind c bytes t key i found behind =
    let b = bytes t.source in
    for_known (λ blocks. IsFrontAt blocks (sought_count key false blocks) None) (table_blocks c b t.index) (λ blocks known.
    let k = are_read c b t.index blocks known in
    let n = as_many t.index blocks k.ends in
    let at = of_known (λ bs. i ≡ count_by (is_block_sought key false) bs) (table_blocks c b t.index) blocks known found in
    front_behind blocks i (sought_count key false blocks) ((stops key false blocks (are_blocks t.index blocks k.in_order k.ends)).behind (omega (arith, n, at, behind))))

pub sought_front : {S : Type 0} (c : Hashes) (bytes : S → Option (List ℕ)) (t : TableParts S) (key : List ℕ) (i : ℕ) (w v : Window Entry) (a : Answer Entry) (r : Result (Option TableEnd) Error)
    → OfBlocks c bytes t (λ blocks. i ≡ count_by (is_block_sought key false) blocks) → OfBlocks c bytes t (λ blocks. slice_get blocks i ≡ Some w.list) → w ≡ whole w.list → (v, a) ≡ seek entries key w
    → IfOk r (λ o. TakesFirstOf i v.list (items_left v) (end_in o)) → IfOk r (λ o. IfSome o (λ e. e.left.window.list ≡ v.list)) → IfOk r (λ o. OfBlocks c bytes t (λ blocks. IsFrontAt blocks (sought_count key false blocks) o))
sought_front c bytes t key i w v a r found here is step took whole_list =
    let b = bytes t.source in
    let same : v.list ≡ w.list = ap (λ (p : Window Entry × Answer Entry). p.0.list) step in
    if_ok_both (λ o. TakesFirstOf i v.list (items_left v) (end_in o)) (λ o. IfSome o (λ e. e.left.window.list ≡ v.list)) (λ o. OfBlocks c bytes t (λ blocks. IsFrontAt blocks (sought_count key false blocks) o)) r
    (λ o held all. for_known (λ blocks. IsFrontAt blocks (sought_count key false blocks) o) (table_blocks c b t.index) (λ blocks known.
    let k = are_read c b t.index blocks known in
    let at = of_known (λ bs. slice_get bs i ≡ Some w.list) (table_blocks c b t.index) blocks known here in
    let passed = of_known (λ bs. i ≡ count_by (is_block_sought key false) bs) (table_blocks c b t.index) blocks known found in
    let n = count_by (is_sought entry_key key false) w.list in
    let stop = (stops key false blocks (are_blocks t.index blocks k.in_order k.ends)).within w.list (ap (slice_get blocks) (sym passed) ∙ at) in
    let place : entries_before blocks i + n ≡ sought_count key false blocks = ap (λ m. entries_before blocks m + n) passed ∙ sym stop.0 in
    subst (λ m. IsFrontAt blocks m o) place
    (front_opened blocks i n w.list (items_left v) o at (left_from key w.list w v a n is step refl) stop.1 (subst (λ xs. TakesFirstOf i xs (items_left v) (end_in o)) same held) (subst (λ xs. IfSome o (λ e. e.left.window.list ≡ xs)) same all))))
    took whole_list

module _ {S : Type 0} (c : Hashes) (bytes : S → Option (List ℕ)) (t : TableParts S) (key : List ℕ) (i : ℕ) (found : OfBlocks c bytes t (λ blocks. i ≡ count_by (is_block_sought key true) blocks)) where
  abbrev pub the_blocks : Option (List (List Entry))
  the_blocks = table_blocks c (bytes t.source) t.index

  pub stop_at : (blocks : List (List Entry)) → the_blocks ≡ Some blocks → (i ≡ count_by (is_block_sought key true) blocks) × AreEntryBlocks blocks × (length blocks ≡ length t.index)
  stop_at blocks known =
      let k = are_read c (bytes t.source) t.index blocks known in
      (of_known (λ bs. i ≡ count_by (is_block_sought key true) bs) the_blocks blocks known found, are_blocks t.index blocks k.in_order k.ends, as_many t.index blocks k.ends)

  -- all blocks are passed
  pub sought_whole : (r : Result (Option TableEnd) Error) → length t.index ≤ i → IfOk r (λ o. OfBlocks c bytes t (λ blocks. i ≤ length blocks → IsBackAt blocks (entries_before blocks i) o)) → IfOk r (λ o. OfBlocks c bytes t (λ blocks. IsBackAt blocks (sought_count key true blocks) o))
  sought_whole r behind opened =
      if_ok (λ o. OfBlocks c bytes t (λ blocks. i ≤ length blocks → IsBackAt blocks (entries_before blocks i) o)) (λ o. OfBlocks c bytes t (λ blocks. IsBackAt blocks (sought_count key true blocks) o)) r
      (λ o h. for_known (λ blocks. IsBackAt blocks (sought_count key true blocks) o) the_blocks (λ blocks known.
      let k = stop_at blocks known in
      let most = count_by-le-length (is_block_sought key true) blocks in
      let inside : i ≤ length blocks = (let e = k.0 in omega (arith, e, most)) in
      let past : length blocks ≤ i = (let e = k.2 in omega (arith, e, behind)) in
      let place : entries_before blocks i ≡ sought_count key true blocks = before_all blocks i past ∙ sym ((stops key true blocks k.1).behind (let e = k.0 in omega (arith, e, past))) in
      subst (λ m. IsBackAt blocks m o) place (of_known (λ bs. i ≤ length bs → IsBackAt bs (entries_before bs i) o) the_blocks blocks known h inside)))
      opened

  module _ (w v : Window Entry) (a : Answer Entry) (here : OfBlocks c bytes t (λ blocks. slice_get blocks i ≡ Some w.list)) (is : w ≡ whole w.list) (step : (v, a) ≡ seek_upper entries key w) where
    abbrev pub passed_here : ℕ
    passed_here = count_by (is_sought entry_key key true) w.list

    pub within_here : (blocks : List (List Entry)) → the_blocks ≡ Some blocks → (slice_get blocks i ≡ Some w.list) × (sought_count key true blocks ≡ entries_before blocks i + passed_here) × (passed_here < length w.list)
    within_here blocks known =
        let k = stop_at blocks known in
        let at = of_known (λ bs. slice_get bs i ≡ Some w.list) the_blocks blocks known here in
        let stop = (stops key true blocks k.1).within w.list (ap (slice_get blocks) (sym k.0) ∙ at) in
        (at, stop.0 ∙ ap (λ m. entries_before blocks m + passed_here) (sym k.0), stop.1)

    -- the block at which the search stops has such an entry
    pub sought_some : (o : Option TableEnd) (e : TableEnd) → o ≡ Some e → TakesLastOf i (items_left v) (end_in o) → OfBlocks c bytes t (λ blocks. IsBackAt blocks (sought_count key true blocks) (Some e))
    sought_some o e o_is took = for_known (λ blocks. IsBackAt blocks (sought_count key true blocks) (Some e)) the_blocks (λ blocks known.
        let k = within_here blocks known in
        subst (λ m. IsBackAt blocks m (Some e)) (sym k.1)
        (back_sought blocks i passed_here w.list (items_left v) e k.0 (left_up_to key w.list w v a passed_here is step refl) (count_by-le-length (is_sought entry_key key true) w.list) (subst (λ q. TakesLastOf i (items_left v) (end_in q)) o_is took)))

    -- or it has none
    pub none_passed : (o : Option TableEnd) → o ≡ None → TakesLastOf i (items_left v) (end_in o) → (blocks : List (List Entry)) → the_blocks ≡ Some blocks → passed_here ≡ 0
    none_passed o o_is took blocks known =
        let k = within_here blocks known in
        back_none blocks i w.list k.0 passed_here (items_left v) (left_up_to key w.list w v a passed_here is step refl) (subst (λ p. TakesLastOf i (items_left v) (end_in p)) o_is took) (some_in blocks i w.list (stop_at blocks known).1.some k.0) (count_by-le-length (is_sought entry_key key true) w.list)

    -- and the block before it ends with one
    pub sought_none : (u : TableParts S) (keeps : KeepsTable bytes t u) (o : Option TableEnd) (r : Result (Option TableEnd) Error) → o ≡ None → TakesLastOf i (items_left v) (end_in o) → IfOk r (λ q. OfBlocks c bytes u (λ blocks. i ≤ length blocks → IsBackAt blocks (entries_before blocks i) q))
        → IfOk r (λ q. OfBlocks c bytes t (λ blocks. IsBackAt blocks (sought_count key true blocks) q))
    sought_none u keeps o r o_is took opened =
        if_ok (λ q. OfBlocks c bytes u (λ blocks. i ≤ length blocks → IsBackAt blocks (entries_before blocks i) q)) (λ q. OfBlocks c bytes t (λ blocks. IsBackAt blocks (sought_count key true blocks) q)) r
        (λ q h. for_known (λ blocks. IsBackAt blocks (sought_count key true blocks) q) the_blocks (λ blocks known.
        let k = within_here blocks known in
        let none = none_passed o o_is took blocks known in
        let inside = slice_get_within blocks i w.list k.0 in
        let place : entries_before blocks i ≡ sought_count key true blocks = (let e = k.1 in omega (arith, e, none)) in
        subst (λ n. IsBackAt blocks n q) place (of_known (λ bs. i ≤ length bs → IsBackAt bs (entries_before bs i) q) (table_blocks c (bytes u.source) u.index) blocks (blocks_same c bytes t u keeps ∙ known) h (omega (arith, inside)))))
        opened

-- The steps of the ends.
module _ {S : Type 0} (c : Hashes) (bytes : S → Option (List ℕ)) (t : TableParts S) where
  abbrev all_blocks : Option (List (List Entry))
  all_blocks = table_blocks c (bytes t.source) t.index

  -- an entry is left in the block
  pub forth_more : (f : Option TableEnd) (x y : TableEnd) (r z : Entry) → f ≡ Some x → OfBlocks c bytes t (λ blocks. HoldsFront blocks (end_in f)) → OfBlocks c bytes t (λ blocks. IsWholeBlock blocks f)
      → items_left x.left.window ≡ z ∷ items_left y.left.window → y.left.window.list ≡ x.left.window.list → y.block ≡ x.block → y.at ≡ length y.left.window.list - length (items_left y.left.window) - 1 → y.held ≡ z → r ≡ x.held
      → OfBlocks c bytes t (GoesForth f (Some y) (Some r))
  forth_more f x y r z f_is holds is_whole left same block at held given = for_known (GoesForth f (Some y) (Some r)) all_blocks (λ blocks known.
      let h : IsFrontIn blocks (end_of x) = subst (λ o. HoldsFront blocks (end_in o)) f_is (of_known (λ bs. HoldsFront bs (end_in f)) all_blocks blocks known holds) in
      let w : slice_get blocks x.block ≡ Some x.left.window.list = subst (IsWholeBlock blocks) f_is (of_known (λ bs. IsWholeBlock bs f) all_blocks blocks known is_whole) in
      let items : h.items ≡ x.left.window.list = some_is h.items x.left.window.list (sym h.block_is ∙ w) in
      let inside = slice_get_within h.items x.at x.held h.held_is in
      let size = ap length h.views_is in
      let rest = length-drop (suc x.at) h.items in
      let more = ap length left in
      let list = ap length items in
      let listed = ap length same in
      let place : y.at ≡ x.at + 1 = omega (arith, inside, size, rest, more, list, listed, at) in
      let here = ap (λ o. front_place blocks (end_in o)) f_is in
      let before = ap (entries_before blocks) block in
      record {
        item_is = ap Some given ∙ sym (front_item blocks (end_of x) h) ∙ sym (ap (slice_get (joined blocks)) here);
        front = record {
          holds = front_more blocks (end_of x) z (items_left y.left.window) (end_of y) h left block place refl held;
          whole = ap (slice_get blocks) block ∙ w ∙ ap Some (sym same);
          place_is = omega (arith, place, here, before);
        };
      })

  -- or the next block is opened
  pub forth_next : (f g : Option TableEnd) (x : TableEnd) (r : Option Entry) → f ≡ Some x → OfBlocks c bytes t (λ blocks. HoldsFront blocks (end_in f)) → items_left x.left.window ≡ [] → OfBlocks c bytes t (λ blocks. IsFrontAt blocks (entries_before blocks (x.block + 1)) g) → r ≡ Some x.held
      → OfBlocks c bytes t (GoesForth f g r)
  forth_next f g x r f_is holds left opened given = for_known (GoesForth f g r) all_blocks (λ blocks known.
      let h : IsFrontIn blocks (end_of x) = subst (λ o. HoldsFront blocks (end_in o)) f_is (of_known (λ bs. HoldsFront bs (end_in f)) all_blocks blocks known holds) in
      let here = ap (λ o. front_place blocks (end_in o)) f_is in
      let one : found_item r ≡ 1 = ap (λ (o : Option Entry). found_item o) given in
      let e = front_ends blocks (end_of x) h left in
      let place : entries_before blocks (x.block + 1) ≡ front_place blocks (end_in f) + found_item r = omega (arith, here, one, e) in
      record {
        item_is = given ∙ sym (front_item blocks (end_of x) h) ∙ sym (ap (slice_get (joined blocks)) here);
        front = subst (λ n. IsFrontAt blocks n g) place (of_known (λ bs. IsFrontAt bs (entries_before bs (x.block + 1)) g) all_blocks blocks known opened);
      })

  -- the same from the back
  pub back_more_left : (b : Option TableEnd) (x y : TableEnd) (r z : Entry) → b ≡ Some x → OfBlocks c bytes t (λ blocks. HoldsBack blocks (end_in b)) → items_left x.left.window ≡ items_left y.left.window ++ z ∷ [] → y.block ≡ x.block → y.at ≡ length (items_left y.left.window) → y.held ≡ z → r ≡ x.held
      → OfBlocks c bytes t (GoesBack b (Some y) (Some r))
  back_more_left b x y r z b_is holds left block at held given = for_known (GoesBack b (Some y) (Some r)) all_blocks (λ blocks known.
      let h : IsBackIn blocks (end_of x) = subst (λ o. HoldsBack blocks (end_in o)) b_is (of_known (λ bs. HoldsBack bs (end_in b)) all_blocks blocks known holds) in
      let inside = slice_get_within h.items x.at x.held h.held_is in
      let size = ap length h.views_is in
      let rest = length-take-le x.at h.items (omega (arith, inside)) in
      let more = ap length left in
      let long = length-append (items_left y.left.window) (z ∷ []) in
      let place : y.at + 1 ≡ x.at = omega (arith, size, rest, more, long, at) in
      let here = ap (λ o. back_place blocks (end_in o)) b_is in
      let before = ap (entries_before blocks) block in
      record {
        item_is = ap Some given ∙ sym (back_item blocks (end_of x) h) ∙ sym (ap (item_before (joined blocks)) here);
        back = record {
          holds = back_more blocks (end_of x) z (items_left y.left.window) (end_of y) h left block place refl held;
          place_is = omega (arith, place, here, before);
        };
      })

  pub back_next : (b d : Option TableEnd) (x : TableEnd) (r : Option Entry) → b ≡ Some x → OfBlocks c bytes t (λ blocks. HoldsBack blocks (end_in b)) → items_left x.left.window ≡ [] → OfBlocks c bytes t (λ blocks. x.block ≤ length blocks → IsBackAt blocks (entries_before blocks x.block) d) → r ≡ Some x.held
      → OfBlocks c bytes t (GoesBack b d r)
  back_next b d x r b_is holds left opened given = for_known (GoesBack b d r) all_blocks (λ blocks known.
      let h : IsBackIn blocks (end_of x) = subst (λ o. HoldsBack blocks (end_in o)) b_is (of_known (λ bs. HoldsBack bs (end_in b)) all_blocks blocks known holds) in
      let here = ap (λ o. back_place blocks (end_in o)) b_is in
      let one : found_item r ≡ 1 = ap (λ (o : Option Entry). found_item o) given in
      let e = back_ends blocks (end_of x) h left in
      let inside = back_block blocks (end_of x) h in
      let place : entries_before blocks x.block ≡ back_place blocks (end_in b) - found_item r = omega (arith, here, one, e) in
      record {
        item_is = given ∙ sym (back_item blocks (end_of x) h) ∙ sym (ap (item_before (joined blocks)) here);
        back = subst (λ n. IsBackAt blocks n d) place (of_known (λ bs. x.block ≤ length bs → IsBackAt bs (entries_before bs x.block) d) all_blocks blocks known opened (omega (arith, inside)));
      })

-- what is left of a block where a step gives this
pub gave_first : (xs ys : List Entry) (r : Option Entry) → YieldsFirst (λ (l : List Entry). l) xs r ys → (x : Entry) → r ≡ Some x → xs ≡ x ∷ ys
gave_first xs ys None h x is = absurd (cc)
gave_first xs ys (Some y) h x is = h ∙ ap (λ z. z ∷ ys) (some_is y x is)

pub gave_last : (xs ys : List Entry) (r : Option Entry) → YieldsLast (λ (l : List Entry). l) xs r ys → (x : Entry) → r ≡ Some x → xs ≡ ys ++ x ∷ []
gave_last xs ys None h x is = absurd (cc)
gave_last xs ys (Some y) h x is = h ∙ ap (λ z. ys ++ z ∷ []) (some_is y x is)

pub gave_none_first : (xs ys : List Entry) (r : Option Entry) → YieldsFirst (λ (l : List Entry). l) xs r ys → r ≡ None → xs ≡ []
gave_none_first xs ys None h is = h.0
gave_none_first xs ys (Some y) h is = absurd (cc)

pub gave_none_last : (xs ys : List Entry) (r : Option Entry) → YieldsLast (λ (l : List Entry). l) xs r ys → r ≡ None → xs ≡ []
gave_none_last xs ys None h is = h.0
gave_none_last xs ys (Some y) h is = absurd (cc)

-- The ends that are opened first.
module _ {S : Type 0} (c : Hashes) (bytes : S → Option (List ℕ)) (t : TableParts S) where
  pub opens_first : (f : Option TableEnd) → OfBlocks c bytes t (λ blocks. IsFrontAt blocks (entries_before blocks 0) f) → OfBlocks c bytes t (λ blocks. IsFrontAt blocks 0 f)
  opens_first f h =
      let o = table_blocks c (bytes t.source) t.index in
      for_known (λ blocks. IsFrontAt blocks 0 f) o (λ blocks known. subst (λ n. IsFrontAt blocks n f) (before_none blocks) (of_known (λ bs. IsFrontAt bs (entries_before bs 0) f) o blocks known h))

  pub opens_last : (u : TableParts S) (keeps : KeepsTable bytes t u) (n : ℕ) (d : Option TableEnd) → n ≡ length t.index → OfBlocks c bytes u (λ blocks. n ≤ length blocks → IsBackAt blocks (entries_before blocks n) d) → OfBlocks c bytes t (λ blocks. IsBackAt blocks (length (joined blocks)) d)
  opens_last u keeps n d count h =
      let o = table_blocks c (bytes t.source) t.index in
      for_known (λ blocks. IsBackAt blocks (length (joined blocks)) d) o (λ blocks known.
      let k = are_read c (bytes t.source) t.index blocks known in
      let m = as_many t.index blocks k.ends in
      let back = of_known (λ bs. n ≤ length bs → IsBackAt bs (entries_before bs n) d) (table_blocks c (bytes u.source) u.index) blocks (blocks_same c bytes t u keeps ∙ known) h (omega (arith, m, count)) in
      subst (λ place. IsBackAt blocks place d) (before_all blocks n (omega (arith, m, count))) back)

-- A table whose ends are opened.
module _ {S : Type 0} (c : Hashes) (bytes : S → Option (List ℕ)) (t v : TableParts S) (keeps : KeepsTable bytes t v) (f b : Option TableEnd) (front : OfBlocks c bytes t (λ blocks. IsFrontAt blocks 0 f)) (back : OfBlocks c bytes t (λ blocks. IsBackAt blocks (length (joined blocks)) b)) where
  abbrev known_all : Option (List (List Entry))
  known_all = table_blocks c (bytes t.source) t.index

  last_same : table_blocks c (bytes v.source) v.index ≡ known_all
  last_same = blocks_same c bytes t v keeps

  pub starts_later : later_starts (table_blocks c (bytes v.source) v.index) ≡ later_starts known_all
  starts_later = ap (λ o. later_starts o) last_same

  pub record Starts (blocks : List (List Entry)) : Type 0 where
    pub are : AreTableEnds f b blocks
    pub all : window_at f b blocks ≡ whole (joined blocks)
    pub ordered : IsOrdered entries (joined blocks)

  starts_by : (blocks : List (List Entry)) → known_all ≡ Some blocks → Starts blocks
  starts_by blocks known =
      let k = are_read c (bytes t.source) t.index blocks known in
      let h = of_known (λ bs. IsFrontAt bs 0 f) known_all blocks known front in
      let g = of_known (λ bs. IsBackAt bs (length (joined bs)) b) known_all blocks known back in
      let lo_to : ℕ → Window Entry = λ i. record { list = joined blocks; lo = i; hi = back_place blocks (end_in b) } in
      let hi_to : ℕ → Window Entry = λ i. record { list = joined blocks; lo = 0; hi = i } in
      record {
        are = record { front_holds = h.holds; front_whole = h.whole; back_holds = g.holds };
        all = ap lo_to h.place_is ∙ ap hi_to g.place_is;
        ordered = (are_blocks t.index blocks k.in_order k.ends).ordered;
      }

  starts : IfSome known_all Starts
  starts = for_known Starts known_all starts_by

  pub starts_kept : IfSome (table_blocks c (bytes v.source) v.index) (AreTableEnds f b)
  starts_kept = subst (λ o. IfSome o (AreTableEnds f b)) (sym last_same) (for_known (AreTableEnds f b) known_all (λ blocks known. (starts_by blocks known).are))

  starts_in : (o : Option (List (List Entry))) → IfSome o Starts → (option_map (window_at f b) o ≡ option_map (λ blocks. whole (joined blocks)) o) × IfSome (option_map (window_at f b) o) (IsFresh entry_cmp)
  starts_in None h = (refl, tt)
  starts_in (Some blocks) h =
      let fresh : IsFresh entry_cmp (whole (joined blocks)) = record { ordered = h.ordered; all = refl } in
      (ap Some h.all, subst (IsFresh entry_cmp) (sym h.all) fresh)

  pub starts_whole : option_map (window_at f b) (table_blocks c (bytes v.source) v.index) ≡ option_map (λ blocks. whole (joined blocks)) known_all
  starts_whole = ap (option_map (window_at f b)) last_same ∙ (starts_in known_all starts).0

  pub starts_fresh : IfSome (option_map (window_at f b) (table_blocks c (bytes v.source) v.index)) (IsFresh entry_cmp)
  starts_fresh = subst (λ o. IfSome (option_map (window_at f b) o) (IsFresh entry_cmp)) (sym last_same) (starts_in known_all starts).1

-- what holds of what is known of a source that no error ended
pub unless_none : {A : Type 0} (P : A → Type 0) (o : Option A) (ended : Option Error) → ended ≡ None → IfSome o P → IfSome (unless_ended ended o) P
unless_none P o None is h = h
unless_none P o (Some e) is h = absurd (cc)

pub unless_known : {A : Type 0} (P : A → Type 0) (o : Option A) (ended : Option Error) → ended ≡ None → IfSome (unless_ended ended o) P → IfSome o P
unless_known P o None is h = h
unless_known P o (Some e) is h = absurd (cc)
