-- How many frames the calls over a table ask for.
use Rattle.std.proofs.Common.{◌≡◌, ℕ, ◌+◌, ◌*◌, ◌<◌, ◌≤◌, false, true, List, [], ◌∷◌, ◌++◌, length, Option, Some, None, Result, slice_get, refl, sym, ap, subst, ◌∙◌, inl, inr, arith}
use Rattle.std.proofs.lemmas.Bool.{cases_lt}
use Rattle.std.proofs.lemmas.List.Sums.{count_by-le-length}
use Rattle.std.proofs.lemmas.Option.{slice_get_within}
use Rattle.std.specs.List.{AllByRecursion, count_by}
use Rattle.std.specs.Option.{IfSome, option_map}
use Rattle.std.specs.Result.{IfOk}
use Rattle.sstable_blocks.specs.Prelude.{found_item, Entry, entries, Answer, Window, items_left, seek_upper, whole}
use Rattle.sstable_blocks.specs.Results.{Error}
use Rattle.sstable_blocks.specs.Blocks.{IsNotEmpty, joined}
use Rattle.sstable_blocks.specs.RunReading.{Hashes}
use Rattle.sstable_blocks.specs.Tables.{TableParts}
use Rattle.sst_merge.specs.Movable.{is_sought}
use Rattle.sst_merge.specs.MovableBlocks.{HoldsBack, IsBackIn, TakesLastOf, back_place, entries_before, entry_key, front_place, is_block_sought}
use Rattle.sst_merge.specs.MovableTables.{AsksByEnds, AsksWhere, GoesBack, GoesForth, IsBackAt, IsFrontAt, KeepsTable, OfBlocks, TableEnd, end_in, end_of, later_starts, table_blocks, table_moved}
use Rattle.sst_merge.specs.Moved.{AsksByPlace, Moved, back_frames, begins_block, front_frames, seek_frames, seek_upper_frames}
use Rattle.sst_merge.proofs.Moving.BlockCounts.{stops}
use Rattle.sst_merge.proofs.Moving.BlockEnds.{back_block, front_none}
use Rattle.sstable_blocks.specs.JoinedLaws.{before_none}
use Rattle.sst_merge.proofs.Moving.BlockPlaces.{before_all, inside_joined}
use Rattle.sst_merge.proofs.Moving.BlockStarts.{none_at_first, none_behind, none_inside, one_at}
use Rattle.sstable_blocks.specs.BetweenLaws.{item_found}
use Rattle.sst_merge.proofs.Moving.TableEnds.{are_blocks, are_read, as_many, blocks_same, for_known, if_ok, none_passed, of_known, sought_count, stop_at, window_at, within_here}

-- the first entry of blocks
first_found : (blocks : List (List Entry)) → AllByRecursion IsNotEmpty blocks → 1 ≤ length blocks → found_item (slice_get (joined blocks) 0) ≡ 1
first_found [] some more = absurd (omega (arith, more))
first_found (b ∷ bs) some more = first b (joined bs) some.0
  where
    first : (xs ys : List Entry) → 1 ≤ length xs → found_item (slice_get (xs ++ ys) 0) ≡ 1
    first [] ys some = absurd (omega (arith, some))
    first (x ∷ xs) ys some = refl

no_first : (blocks : List (List Entry)) → length blocks ≡ 0 → found_item (slice_get (joined blocks) 0) ≡ 0
no_first [] none = refl
no_first (b ∷ bs) none = absurd (omega (arith, none))

module _ {S : Type 0} (c : Hashes) (bytes : S → Option (List ℕ)) (reads : S → ℕ) (t : TableParts S) where
  abbrev here : Option (List (List Entry))
  here = table_blocks c (bytes t.source) t.index

  some_of : (blocks : List (List Entry)) → here ≡ Some blocks → AllByRecursion IsNotEmpty blocks
  some_of blocks known = let k = are_read c (bytes t.source) t.index blocks known in (are_blocks t.index blocks k.in_order k.ends).some

  many_of : (blocks : List (List Entry)) → here ≡ Some blocks → length blocks ≡ length t.index
  many_of blocks known = let k = are_read c (bytes t.source) t.index blocks known in as_many t.index blocks k.ends

  -- how many blocks begin at the front, and at the back
  abbrev at_front : Option TableEnd → List (List Entry) → ℕ
  at_front g blocks = begins_block (later_starts (Some blocks)) (front_place blocks (end_in g))

  abbrev at_back : Option TableEnd → List (List Entry) → ℕ
  at_back d blocks = begins_block (later_starts (Some blocks)) (back_place blocks (end_in d))

  -- A step from the front: there is no entry,
  pub forth_none : (f : Option TableEnd) → f ≡ None → AsksByEnds c bytes reads front_frames t t f None
  forth_none f is = for_known (λ blocks. reads t.source ≡ reads t.source + at_front f blocks) here (λ blocks known.
      let e : at_front f blocks ≡ 0 = ap (λ o. at_front o blocks) is ∙ none_behind blocks (some_of blocks known) in
      omega (arith, e))

  -- or one is left in the block,
  pub forth_here : (f : Option TableEnd) (x y : TableEnd) (r : Entry) → f ≡ Some x → y.block ≡ x.block → OfBlocks c bytes t (GoesForth f (Some y) (Some r)) → AsksByEnds c bytes reads front_frames t t (Some y) None
  forth_here f x y r is same step = for_known (λ blocks. reads t.source ≡ reads t.source + at_front (Some y) blocks) here (λ blocks known.
      let h = of_known (GoesForth f (Some y) (Some r)) here blocks known step in
      let place = h.front.place_is in
      let before = ap (λ o. front_place blocks (end_in o)) is in
      let block = ap (entries_before blocks) same in
      let holds = h.front.holds in
      let e : at_front (Some y) blocks ≡ 0 = none_inside blocks y.block y.at holds.items holds.block_is (omega (arith, place, before, block)) (slice_get_within holds.items y.at y.held holds.held_is) in
      omega (arith, e))

  -- or the next block is opened, if there is one
  pub forth_other : (u : TableParts S) (b : ℕ) (g : Option TableEnd) → 1 ≤ b → AsksWhere (b < length t.index) (reads t.source) (reads u.source) → OfBlocks c bytes t (λ blocks. IsFrontAt blocks (entries_before blocks b) g) → AsksByEnds c bytes reads front_frames t u g None
  forth_other u b g more asked opened = for_known (λ blocks. reads u.source ≡ reads t.source + at_front g blocks) here (λ blocks known.
      let h = of_known (λ bs. IsFrontAt bs (entries_before bs b) g) here blocks known opened in
      let some = some_of blocks known in
      let n = many_of blocks known in
      let place = ap (begins_block (later_starts (Some blocks))) h.place_is in
      elim (cases_lt b (length t.index)) [
        | inl less ↦ (let e = asked.one less in let d = one_at blocks b some more (omega (arith, less, n)) in omega (arith, e, d, place))
        | inr behind ↦
            (let e = asked.none (λ less. omega (arith, less, behind)) in
            let d = ap (begins_block (later_starts (Some blocks))) (before_all blocks b (omega (arith, behind, n))) in
            let z = none_behind blocks some in
            omega (arith, e, d, z, place))
      ])

  -- The same from the back.
  pub back_none_left : (b : Option TableEnd) → b ≡ None → AsksByEnds c bytes reads back_frames t t None b
  back_none_left b is = for_known (λ blocks. reads t.source ≡ reads t.source + at_back b blocks) here (λ blocks known.
      let e : at_back b blocks ≡ 0 = ap (λ o. at_back o blocks) is ∙ none_at_first blocks (some_of blocks known) in
      omega (arith, e))

  pub back_here : (b : Option TableEnd) (x y : TableEnd) (r : Entry) → b ≡ Some x → y.block ≡ x.block → OfBlocks c bytes t (λ blocks. HoldsBack blocks (end_in b)) → OfBlocks c bytes t (GoesBack b (Some y) (Some r)) → AsksByEnds c bytes reads back_frames t t None (Some y)
  back_here b x y r is same held step = for_known (λ blocks. reads t.source ≡ reads t.source + at_back (Some y) blocks) here (λ blocks known.
      let h = of_known (GoesBack b (Some y) (Some r)) here blocks known step in
      let old : IsBackIn blocks (end_of x) = subst (λ o. HoldsBack blocks (end_in o)) is (of_known (λ bs. HoldsBack bs (end_in b)) here blocks known held) in
      let place = h.back.place_is in
      let before = ap (λ o. back_place blocks (end_in o)) is in
      let block = ap (entries_before blocks) same in
      let at : back_place blocks (end_in (Some y)) ≡ entries_before blocks x.block + x.at = omega (arith, place, before) in
      let e : at_back (Some y) blocks ≡ 0 = ap (begins_block (later_starts (Some blocks))) at ∙ none_inside blocks x.block x.at old.items old.block_is (omega (arith, at, block)) (slice_get_within old.items x.at x.held old.held_is) in
      omega (arith, e))

  pub back_other : (u : TableParts S) (b d : Option TableEnd) (x : TableEnd) → b ≡ Some x → OfBlocks c bytes t (λ blocks. HoldsBack blocks (end_in b)) → AsksWhere ((1 ≤ x.block) × (x.block ≤ length t.index)) (reads t.source) (reads u.source)
      → OfBlocks c bytes t (λ blocks. x.block ≤ length blocks → IsBackAt blocks (entries_before blocks x.block) d) → AsksByEnds c bytes reads back_frames t u None d
  back_other u b d x is held asked opened = for_known (λ blocks. reads u.source ≡ reads t.source + at_back d blocks) here (λ blocks known.
      let old : IsBackIn blocks (end_of x) = subst (λ o. HoldsBack blocks (end_in o)) is (of_known (λ bs. HoldsBack bs (end_in b)) here blocks known held) in
      let inside = back_block blocks (end_of x) old in
      let h = of_known (λ bs. x.block ≤ length bs → IsBackAt bs (entries_before bs x.block) d) here blocks known opened (omega (arith, inside)) in
      let some = some_of blocks known in
      let n = many_of blocks known in
      let place = ap (begins_block (later_starts (Some blocks))) h.place_is in
      elim (cases_lt 0 x.block) [
        | inl more ↦ (let e = asked.one (omega (arith, more), omega (arith, inside, n)) in let k = one_at blocks x.block some (omega (arith, more)) inside in omega (arith, e, k, place))
        | inr zero_is ↦
            (let e = asked.none (λ there. (let p = there.0 in omega (arith, p, zero_is))) in
            let k = ap (λ m. begins_block (later_starts (Some blocks)) (entries_before blocks m)) (let q : x.block ≡ 0 = omega (arith, zero_is) in q) in
            let m = ap (begins_block (later_starts (Some blocks))) (before_none blocks) in
            let z = none_at_first blocks some in
            omega (arith, e, k, m, z, place))
      ])

  -- or one is opened
  pub seeks_one : (u : TableParts S) (key : List ℕ) (i : ℕ) (items : List Entry) (r : Result (Option TableEnd) Error) → OfBlocks c bytes t (λ blocks. i ≡ count_by (is_block_sought key false) blocks) → OfBlocks c bytes t (λ blocks. slice_get blocks i ≡ Some items) → reads u.source ≡ reads t.source + 1
      → IfOk r (λ o. OfBlocks c bytes t (λ blocks. IsFrontAt blocks (sought_count key false blocks) o)) → IfOk r (λ o. AsksByEnds c bytes reads seek_frames t u o None)
  seeks_one u key i items r found at asked opened =
      if_ok (λ o. OfBlocks c bytes t (λ blocks. IsFrontAt blocks (sought_count key false blocks) o)) (λ o. AsksByEnds c bytes reads seek_frames t u o None) r
      (λ o h. for_known (λ blocks. reads u.source ≡ reads t.source + 1 * found_item (slice_get (joined blocks) (front_place blocks (end_in o)))) here (λ blocks known.
      let k = are_read c (bytes t.source) t.index blocks known in
      let passed = of_known (λ bs. i ≡ count_by (is_block_sought key false) bs) here blocks known found in
      let block = of_known (λ bs. slice_get bs i ≡ Some items) here blocks known at in
      let n = count_by (is_sought entry_key key false) items in
      let stop = (stops key false blocks (are_blocks t.index blocks k.in_order k.ends)).within items (ap (slice_get blocks) (sym passed) ∙ block) in
      let there = item_found items n stop.1 in
      let inside = inside_joined blocks i n items there.0 block there.1 in
      let counted = ap (entries_before blocks) passed in
      let place = (of_known (λ bs. IsFrontAt bs (sought_count key false bs) o) here blocks known h).place_is in
      let less : front_place blocks (end_in o) < length (joined blocks) = (let e = stop.0 in omega (arith, e, place, counted, inside)) in
      let one = ap (λ (p : Option Entry). found_item p) (item_found (joined blocks) (front_place blocks (end_in o)) less).1 in
      omega (arith, asked, one)))
      opened

  -- A search from the back.
  abbrev for_upper : TableParts S → Option TableEnd → List (List Entry) → Type 0
  for_upper u d blocks = reads u.source ≡ reads t.source + (1 * found_item (slice_get (joined blocks) 0) + at_back d blocks)

  module _ (key : List ℕ) (i : ℕ) (found : OfBlocks c bytes t (λ blocks. i ≡ count_by (is_block_sought key true) blocks)) where
    -- all blocks are passed,
    pub seeks_whole : (u : TableParts S) (r : Result (Option TableEnd) Error) → length t.index ≤ i → AsksWhere ((1 ≤ i) × (i ≤ length t.index)) (reads t.source) (reads u.source)
        → IfOk r (λ o. OfBlocks c bytes t (λ blocks. IsBackAt blocks (sought_count key true blocks) o)) → IfOk r (λ o. AsksByEnds c bytes reads seek_upper_frames t u None o)
    seeks_whole u r behind asked opened =
        if_ok (λ o. OfBlocks c bytes t (λ blocks. IsBackAt blocks (sought_count key true blocks) o)) (λ o. AsksByEnds c bytes reads seek_upper_frames t u None o) r
        (λ o h. for_known (for_upper u o) here (λ blocks known.
        let k = stop_at c bytes t key i found blocks known in
        let passed = k.0 in
        let n = k.2 in
        let fewest = count_by-le-length (is_block_sought key true) blocks in
        let all = (stops key true blocks k.1).behind (omega (arith, passed, n, behind)) in
        let place = ap (begins_block (later_starts (Some blocks))) ((of_known (λ bs. IsBackAt bs (sought_count key true bs) o) here blocks known h).place_is ∙ all) in
        let z = none_behind blocks k.1.some in
        elim (cases_lt 0 (length blocks)) [
          | inl some ↦
              (let e = asked.one (omega (arith, n, behind, some), omega (arith, passed, n, fewest)) in
              let f = first_found blocks k.1.some (omega (arith, some)) in
              omega (arith, e, f, z, place))
          | inr zero_is ↦
              (let e = asked.none (λ there. (let p = there.0 in let q = there.1 in omega (arith, p, q, n, zero_is))) in
              let f = no_first blocks (omega (arith, zero_is)) in
              omega (arith, e, f, z, place))
        ]))
        opened

    module _ (w v : Window Entry) (a : Answer Entry) (there : OfBlocks c bytes t (λ blocks. slice_get blocks i ≡ Some w.list)) (is : w ≡ whole w.list) (step : (v, a) ≡ seek_upper entries key w) where
      -- the block at which it stops has such an entry,
      pub seeks_some : (u : TableParts S) (o : Option TableEnd) (e : TableEnd) → o ≡ Some e → TakesLastOf i (items_left v) (end_in o) → reads u.source ≡ reads t.source + 1 → OfBlocks c bytes t (λ blocks. IsBackAt blocks (sought_count key true blocks) (Some e))
          → AsksByEnds c bytes reads seek_upper_frames t u None (Some e)
      seeks_some u o e o_is took asked at = for_known (for_upper u (Some e)) here (λ blocks known.
          let k = within_here c bytes t key i found w v a there is step blocks known in
          let some = (stop_at c bytes t key i found blocks known).1.some in
          let n = count_by (is_sought entry_key key true) w.list in
          let same = (subst (λ q. TakesLastOf i (items_left v) (end_in q)) o_is took).0 in
          let block = ap (entries_before blocks) same in
          let h = of_known (λ bs. IsBackAt bs (sought_count key true bs) (Some e)) here blocks known at in
          let place = h.place_is in
          let sought = k.1 in
          let stands : back_place blocks (end_in (Some e)) ≡ entries_before blocks i + n = omega (arith, place, sought) in
          let z = ap (begins_block (later_starts (Some blocks))) stands ∙ none_inside blocks i n w.list k.0 (omega (arith, stands, block)) k.2 in
          let inside = slice_get_within blocks i w.list k.0 in
          let f = first_found blocks some (omega (arith, inside)) in
          omega (arith, asked, f, z))

      -- or it has none, and the one before it is read too
      pub seeks_before : (u z : TableParts S) (keeps : KeepsTable bytes t u) (o : Option TableEnd) (r : Result (Option TableEnd) Error) → o ≡ None → TakesLastOf i (items_left v) (end_in o) → reads u.source ≡ reads t.source + 1 → AsksWhere ((1 ≤ i) × (i ≤ length u.index)) (reads u.source) (reads z.source)
          → IfOk r (λ q. OfBlocks c bytes t (λ blocks. IsBackAt blocks (sought_count key true blocks) q)) → IfOk r (λ q. AsksByEnds c bytes reads seek_upper_frames t z None q)
      seeks_before u z keeps o r o_is took asked more opened =
          if_ok (λ q. OfBlocks c bytes t (λ blocks. IsBackAt blocks (sought_count key true blocks) q)) (λ q. AsksByEnds c bytes reads seek_upper_frames t z None q) r
          (λ q h. for_known (for_upper z q) here (λ blocks known.
          let k = within_here c bytes t key i found w v a there is step blocks known in
          let m = stop_at c bytes t key i found blocks known in
          let none = none_passed c bytes t key i found w v a there is step o o_is took blocks known in
          let kept = ap (λ (p : TableParts S). length p.index) keeps.kept in
          let many = m.2 in
          let sought = k.1 in
          let at = (of_known (λ bs. IsBackAt bs (sought_count key true bs) q) here blocks known h).place_is in
          let stands : back_place blocks (end_in q) ≡ entries_before blocks i = omega (arith, at, sought, none) in
          let place = ap (begins_block (later_starts (Some blocks))) stands in
          let inside = slice_get_within blocks i w.list k.0 in
          let f = first_found blocks m.1.some (omega (arith, inside)) in
          elim (cases_lt 0 i) [
            | inl some ↦
                (let e = more.one (omega (arith, some), omega (arith, inside, many, kept)) in
                let d = one_at blocks i m.1.some (omega (arith, some)) inside in
                omega (arith, asked, e, d, f, place))
            | inr zero_is ↦
                (let e = more.none (λ h. (let p = h.0 in omega (arith, p, zero_is))) in
                let first = ap (λ j. begins_block (later_starts (Some blocks)) (entries_before blocks j)) (let y : i ≡ 0 = omega (arith, zero_is) in y) in
                let d = ap (begins_block (later_starts (Some blocks))) (before_none blocks) in
                let y = none_at_first blocks m.1.some in
                omega (arith, asked, e, first, d, y, f, place))
          ]))
          opened

-- What is asked for is counted in what clauses see of a table.
counted_by : (frames : ℕ → List ℕ → Window Entry → ℕ) (g d : Option TableEnd) (before after : ℕ) (o : Option (List (List Entry))) → IfSome o (λ blocks. after ≡ before + frames 1 (later_starts (Some blocks)) (window_at g d blocks)) → IfSome (option_map (window_at g d) o) (λ w. after ≡ before + frames 1 (later_starts o) w)
counted_by frames g d before after None h = tt
counted_by frames g d before after (Some blocks) h = h

pub counts_frames : {S : Type 0} (c : Hashes) (bytes : S → Option (List ℕ)) (reads : S → ℕ) (t u : TableParts S) (keeps : KeepsTable bytes t u) (f b : Option TableEnd) (ended : Option Error) (all : Moved Entry) → table_moved c bytes reads t f b ended ≡ all
    → (frames : ℕ → List ℕ → Window Entry → ℕ) (g d : Option TableEnd) (later : Option Error) → later ≡ None → OfBlocks c bytes t (λ blocks. reads u.source ≡ reads t.source + frames 1 (later_starts (Some blocks)) (window_at g d blocks)) → AsksByPlace frames all (table_moved c bytes reads u g d later)
counts_frames c bytes reads t u keeps f b ended all is frames g d later well h =
    subst (λ e. AsksByPlace frames all (table_moved c bytes reads u g d e)) (sym well)
    (subst (λ (m : Moved Entry). AsksByPlace frames m (table_moved c bytes reads u g d None)) is
    (counted_by frames g d (reads t.source) (reads u.source) (table_blocks c (bytes u.source) u.index)
    (subst (λ o. IfSome o (λ blocks. reads u.source ≡ reads t.source + frames 1 (later_starts (Some blocks)) (window_at g d blocks))) (sym (blocks_same c bytes t u keeps)) h)))
