-- A read of a run, of which a block that is kept is not read again.
use Rattle.std.proofs.Common.{◌≡◌, ℕ, ◌+◌, List, length, arith, sym, ◌∙◌, ap, subst, inl, inr, Option, Some, None, IfSome, IsSomeAnd, IfOk, Result, Ok, Err}
use Rattle.std.specs.Option.{option_map}
use Rattle.std.specs.Prelude.{IsOkUnless}
use Rattle.sstable_blocks.specs.Prelude.{Counted, CountsBetween, Entry, DataBlockParts, HandleParts, data_check, entries, Handle, digits, head_count, first_match, items_in, payload_of_type, trailer_in}
use Rattle.sstable_blocks.specs.Results.{◌>>=◌, Error, BadHandle, Memory}
use Rattle.sstable_blocks.specs.BlockLaws.{read_most}
use Rattle.sstable_blocks.specs.BlockTypes as types
use Rattle.sstable_blocks.specs.LocatedLaws.{items_first}
use Rattle.sst_parts.specs.CachedBlocks.{IsBlockOf, IsReadOf, entries_in, first_at, heads_in}
use Rattle.sstable_blocks.specs.Opened.{payload_in, range_of}
use Rattle.sstable_blocks.specs.PointLaws.{block_entries, block_heads}
use Rattle.sstable_blocks.specs.ReadCosts.{entries_at, heads_at}
use Rattle.sstable_blocks.specs.RunPlaceLaws.{frame_payload_is, frame_range_is, frame_refused_is, of_run}
use Rattle.sstable_blocks.specs.RunPlaces.{IsPlaced, bytes_at, frame_of, run_in}
use Rattle.sstable_blocks.specs.RunReading.{Hashes, block_items_at, range_at, read_block}
use Rattle.sstable_blocks.specs.SourceLaws.{source_fails}
use Rattle.sstable_blocks.specs.Sources.{FailsAs, GivesOr}
use Rattle.sstable_blocks.specs.Tables.{IsBlockIn}
use Rattle.sstable_blocks.specs.declared.run.place.RunPlace.{RunPlace}

module _ (c : Hashes) (needle : List ℕ) (seqno : ℕ) where
  abbrev first : Result (List Entry) Error → Result (Option Entry) Error
  first r = r >>= (λ (xs : List Entry). Ok (first_match entries needle seqno xs))

  -- the first match of a block that is known
  first_of : (all : List ℕ) (h : HandleParts) (P R : Type 0) (items : List Entry) (r : Result (Option Entry) Error) → block_items_at c all h ≡ Ok items → IfOk r (λ item. item ≡ first_match entries needle seqno items) → IsOkUnless r Memory → GivesOr P R (λ x. x) r (first_at c all h needle seqno)
  first_of all h P R items (Ok x) is found memory = ap first is ∙ ap (λ (y : Option Entry). Ok y) (sym found)
  first_of all h P R items (Err e) is found memory = λ other. absurd (other memory)

  read_exact : (o : Option (List ℕ)) (h : HandleParts) (P R : Type 0) (items : List Entry) (r : Result (Option Entry) Error) → IfSome o (λ all. block_items_at c all h ≡ Ok items) → IfOk r (λ item. item ≡ first_match entries needle seqno items) → IsOkUnless r Memory
      → IfSome o (λ all. GivesOr P R (λ x. x) r (first_at c all h needle seqno))
  read_exact None h P R items r is found memory = tt
  read_exact (Some all) h P R items r is found memory = first_of all h P R items r is found memory

  -- what a point read of it counts
  read_counts : (o : Option (List ℕ)) (h : HandleParts) (b : DataBlockParts) (least : ℕ × ℕ) (t u : Counted) → IfSome o (λ all. IsBlockIn all h b.items b.interval) → CountsBetween t u least (read_most c.hash64 b needle)
      → IfSome o (λ all. CountsBetween t u (0, 0) (digits (heads_in all h), entries_in all h))
  read_counts None h b least t u place counts = tt
  read_counts (Some all) h b least t u p counts =
      let heads : digits (head_count b.interval (length b.items)) ≡ digits (heads_in all h) =
      ap (λ n. digits (head_count n (length b.items))) p.interval_is ∙ ap (λ (xs : List Entry). digits (head_count (trailer_in (payload_in all h)).interval (length xs))) p.items_is in
      let items : b.interval + 1 ≡ entries_in all h = ap (λ n. n + 1) p.interval_is in
      let few = block_heads c.hash64 b needle in
      let most = block_entries c.hash64 b needle in
      record {
        heads_least = omega (arith, counts.heads_least);
        heads_most = omega (arith, counts.heads_most, few, heads);
        entries_least = omega (arith, counts.entries_least);
        entries_most = omega (arith, counts.entries_most, most, items);
      }

  -- a read of a block that is the one in a range
  pub block_read : (o : Option (List ℕ)) (h : HandleParts) (P R : Type 0) (b : DataBlockParts) (least : ℕ × ℕ) (r : Result (Option Entry) Error) (t u : Counted) → IsBlockOf c o h b → IfOk r (λ item. item ≡ first_match entries needle seqno b.items) → IsOkUnless r Memory
      → CountsBetween t u least (read_most c.hash64 b needle) → IsReadOf c o h needle seqno P R r t u
  block_read o h P R b least r t u is found memory counts = record {
    grows = record { heads = omega (arith, counts.heads_least); entries = omega (arith, counts.entries_least) };
    exact = read_exact o h P R b.items r is.read found memory;
    counts = read_counts o h b least t u is.place counts;
  }

  -- of one that is kept
  pub kept_read : (x : Option (Option (List ℕ))) (o : Option (List ℕ)) (h : HandleParts) (P R : Type 0) (b : DataBlockParts) (least : ℕ × ℕ) (r : Result (Option Entry) Error) (t u : Counted) → x ≡ Some o → IsSomeAnd x (λ o. IsBlockOf c o h b)
      → IfOk r (λ item. item ≡ first_match entries needle seqno b.items) → IsOkUnless r Memory → CountsBetween t u least (read_most c.hash64 b needle) → IsReadOf c o h needle seqno P R r t u
  kept_read x o h P R b least r t u same is = block_read o h P R b least r t u (subst (λ y. IsSomeAnd y (λ o. IsBlockOf c o h b)) same is)

  -- of one that is refused
  refused_exact : (o : Option (List ℕ)) (h : HandleParts) (P R : Type 0) (e : Error) → IfSome o (λ all. FailsAs P R (block_items_at c all h) e) → IfSome o (λ all. FailsAs P R (first_at c all h needle seqno) e)
  refused_exact None h P R e fails = tt
  refused_exact (Some all) h P R e fails = λ other. elim (fails other) [
    | inl failed ↦ inl (source_fails (λ q. q) (λ t. t) (ap first) failed)
    | inr same ↦ inr (ap first same)
  ]

  nothing_read : (o : Option (List ℕ)) (h : HandleParts) (s : Counted) → IfSome o (λ all. CountsBetween s s (0, 0) (digits (heads_in all h), entries_in all h))
  nothing_read None h s = tt
  nothing_read (Some all) h s = record { heads_least = omega arith; heads_most = omega arith; entries_least = omega arith; entries_most = omega arith }

  pub refused_read : (o : Option (List ℕ)) (h : HandleParts) (P R : Type 0) (e : Error) (s : Counted) → IfSome o (λ all. FailsAs P R (block_items_at c all h) e) → IsReadOf c o h needle seqno P R (Err e) s s
  refused_read o h P R e s fails = record {
    grows = record { heads = omega arith; entries = omega arith };
    exact = refused_exact o h P R e fails;
    counts = nothing_read o h s;
  }

-- a read by a handle of a run at its place
module _ (c : Hashes) (needle : List ℕ) (seqno : ℕ) (p : RunPlace) where
  abbrev items_of : Result (List ℕ) Error → Result (List Entry) Error
  items_of q = (q >>= payload_of_type c.hash128 types.Data) >>= data_check c.hash64

  abbrev match_of : Result (List ℕ) Error → Result (Option Entry) Error
  match_of q = items_of q >>= (λ (xs : List Entry). Ok (first_match entries needle seqno xs))

  range_is : (h : HandleParts) (g : Handle) → Some h ≡ option_map range_of (Some g) → range_of g ≡ h
  range_is h g e = cc

  -- what is read of a block is what is read of its range in the source
  same_block : (all : List ℕ) (h f : HandleParts) (g : Handle) → IsPlaced p (Some all) → frame_of p h ≡ Some f → range_of g ≡ h → read_block c (run_in p all) (Some g) needle seqno ≡ first_at c all f needle seqno
  same_block all h f g inside is at =
      items_first c (run_in p all) g needle seqno ∙ ap (λ (k : HandleParts). match_of (range_at (run_in p all) k)) at ∙ ap match_of (frame_range_is p all h f inside is)

  pub at_place : (o : Option (List ℕ)) (h f : HandleParts) (P R : Type 0) (r : Result (Option Entry) Error) → IsPlaced p o → frame_of p h ≡ Some f → IfSome o (λ all. GivesOr P R (λ x. x) r (first_at c all f needle seqno))
      → IfSome (bytes_at p o) (λ all. (g : Option Handle) → Some h ≡ option_map range_of g → GivesOr P R (λ x. x) r (read_block c all g needle seqno))
  at_place o h f P R r inside is given = of_run p o _ (known o inside given) where
    by_handle : (all : List ℕ) → IsPlaced p (Some all) → GivesOr P R (λ x. x) r (first_at c all f needle seqno) → (g : Option Handle) → Some h ≡ option_map range_of g → GivesOr P R (λ x. x) r (read_block c (run_in p all) g needle seqno)
    by_handle all inside given None e = absurd (let k : Some h ≡ None = e in cc)
    by_handle all inside given (Some g) e = subst (GivesOr P R (λ x. x) r) (sym (same_block all h f g inside is (range_is h g e))) given

    known : (o : Option (List ℕ)) → IsPlaced p o → IfSome o (λ all. GivesOr P R (λ x. x) r (first_at c all f needle seqno)) → IfSome o (λ all. (g : Option Handle) → Some h ≡ option_map range_of g → GivesOr P R (λ x. x) r (read_block c (run_in p all) g needle seqno))
    known None inside given = tt
    known (Some all) inside given = by_handle all inside given

  -- one that is not inside the run is refused
  pub not_at_place : (o : Option (List ℕ)) (h : HandleParts) (P R : Type 0) → IsPlaced p o → frame_of p h ≡ None → IfSome (bytes_at p o) (λ all. (g : Option Handle) → Some h ≡ option_map range_of g → FailsAs P R (read_block c all g needle seqno) BadHandle)
  not_at_place o h P R inside is = of_run p o _ (known o inside) where
    by_handle : (all : List ℕ) → IsPlaced p (Some all) → (g : Option Handle) → Some h ≡ option_map range_of g → FailsAs P R (read_block c (run_in p all) g needle seqno) BadHandle
    by_handle all inside None e = absurd (let k : Some h ≡ None = e in cc)
    by_handle all inside (Some g) e = λ other. inr (items_first c (run_in p all) g needle seqno ∙ ap (λ (k : HandleParts). match_of (range_at (run_in p all) k)) (range_is h g e) ∙ ap match_of (frame_refused_is p all h inside is))

    known : (o : Option (List ℕ)) → IsPlaced p o → IfSome o (λ all. (g : Option Handle) → Some h ≡ option_map range_of g → FailsAs P R (read_block c (run_in p all) g needle seqno) BadHandle)
    known None inside = tt
    known (Some all) inside = by_handle all inside

  -- what is examined
  pub counted_at : (o : Option (List ℕ)) (h f : HandleParts) (s t : Counted) → frame_of p h ≡ Some f → IfSome o (λ all. CountsBetween s t (0, 0) (digits (heads_in all f), entries_in all f))
      → IfSome (bytes_at p o) (λ all. (g : Option Handle) → Some h ≡ option_map range_of g → CountsBetween s t (0, 0) (digits (heads_at all g), entries_at all g))
  counted_at o h f s t is given = of_run p o _ (known o given) where
    by_handle : (all : List ℕ) → CountsBetween s t (0, 0) (digits (heads_in all f), entries_in all f) → (g : Option Handle) → Some h ≡ option_map range_of g → CountsBetween s t (0, 0) (digits (heads_at (run_in p all) g), entries_at (run_in p all) g)
    by_handle all given None e = absurd (let k : Some h ≡ None = e in cc)
    by_handle all given (Some g) e =
        let here : payload_in (run_in p all) (range_of g) ≡ payload_in all f = ap (payload_in (run_in p all)) (range_is h g e) ∙ frame_payload_is p all h f is in
        subst (λ q. CountsBetween s t (0, 0) (digits (head_count (trailer_in q).interval (length (items_in entries q))), (trailer_in q).interval + 1)) (sym here) given

    known : (o : Option (List ℕ)) → IfSome o (λ all. CountsBetween s t (0, 0) (digits (heads_in all f), entries_in all f)) → IfSome o (λ all. (g : Option Handle) → Some h ≡ option_map range_of g → CountsBetween s t (0, 0) (digits (heads_at (run_in p all) g), entries_at (run_in p all) g))
    known None given = tt
    known (Some all) given = by_handle all given
