-- Reading a part by its footer.
use Rattle.std.proofs.Common.{◌≡◌, ℕ, ◌<◌, ◌≤◌, List, length, arith, sym, ◌∙◌, ap, subst, inl, inr, Option, Some, None, IfSome, Result, Ok}
use Rattle.std.specs.Option.{option_map}
use Rattle.sstable_blocks.specs.Prelude.{HandleParts, Counted, CountsBetween, Entry, Handle, handles}
use Rattle.sstable_blocks.specs.Results.{◌>>=◌, Error}
use Rattle.sst_parts.specs.Parts.{most_by_places, part_most, parted_most, places_in, read_by_top, read_part}
use Rattle.sstable_blocks.specs.RunPlaces.{part_in}
use Rattle.sstable_blocks.specs.Lookup.{handle_for}
use Rattle.sstable_blocks.specs.Opened.{range_of}
use Rattle.sstable_blocks.specs.ReadCosts.{CountsRead, find_cost}
use Rattle.sstable_blocks.specs.RunReading.{Hashes, read_checked}
use Rattle.sstable_blocks.specs.SourceLaws.{source_fails}
use Rattle.sstable_blocks.specs.Sources.{FailsAs, GivesOr, filter_frames}
use Rattle.sstable_blocks.specs.declared.run.RunHandles.{RunHandles}
use Rattle.sstable_blocks.specs.CheckedLaws.{gives_or_later}

module _ (c : Hashes) (g : HandleParts) (needle : List ℕ) (seqno : ℕ) where
  -- by a footer that was read
  pub part_read : (before after : Option (List ℕ)) (places : RunHandles) (old mid new : ℕ) (R T : Type 0) (r : Result (Option Entry) Error) → after ≡ before → old ≤ mid → (T → R) → IfSome before (λ all. places_in all g ≡ Ok places)
      → IfSome (option_map (λ all. part_in all g) after) (λ part. GivesOr (mid < new) R (λ x. x) r (read_checked c part places needle seqno)) → IfSome before (λ all. GivesOr (old < new) T (λ x. x) r (read_part c all g needle seqno))
  part_read None after places old mid new R T r same le kept at given = tt
  part_read (Some all) after places old mid new R T r same le kept at given =
      let here = subst (λ o. IfSome (option_map (λ all. part_in all g) o) (λ part. GivesOr (mid < new) R (λ x. x) r (read_checked c part places needle seqno))) same given in
      let whole : read_part c all g needle seqno ≡ read_checked c (part_in all g) places needle seqno = ap (λ q. q >>= (λ (h : RunHandles). read_checked c (part_in all g) h needle seqno)) at in
      subst (GivesOr (old < new) T (λ x. x) r) (sym whole) (gives_or_later (mid < new) (old < new) R T (λ x. x) r (read_checked c (part_in all g) places needle seqno) (λ less. omega arith) kept here)

  -- a footer that is refused
  pub part_fails : (o : Option (List ℕ)) (P R : Type 0) (e : Error) → IfSome o (λ all. FailsAs P R (places_in all g) e) → IfSome o (λ all. FailsAs P R (read_part c all g needle seqno) e)
  part_fails None P R e fails = tt
  part_fails (Some all) P R e fails =
      let go : Result RunHandles Error → Result (Option Entry) Error = λ (r : Result RunHandles Error). r >>= (λ (h : RunHandles). read_checked c (part_in all g) h needle seqno) in
      λ other. elim (fails other) [
        | inl failed ↦ inl (source_fails (λ p. p) (λ t. t) (ap go) failed)
        | inr is ↦ inr (ap go is)
      ]

  -- what is counted
  pub part_counted : (before after : Option (List ℕ)) (places : RunHandles) (s t : Counted) → after ≡ before → IfSome before (λ all. places_in all g ≡ Ok places)
      → IfSome (option_map (λ all. part_in all g) after) (λ part. CountsRead part places needle seqno s t) → IfSome before (λ all. CountsBetween s t (0, 0) (most_by_places (part_in all g) (places_in all g) needle seqno))
  part_counted None after places s t same at counts = tt
  part_counted (Some all) after places s t same at counts =
      let here = subst (λ o. IfSome (option_map (λ all. part_in all g) o) (λ part. CountsRead part places needle seqno s t)) same counts in
      subst (λ q. CountsBetween s t (0, 0) (most_by_places (part_in all g) q needle seqno)) (sym at) here

-- by the handle of a part that was found
module _ (c : Hashes) (needle : List ℕ) (seqno : ℕ) where
  at_top : (all : List ℕ) (x : Option Handle) (k : HandleParts) → option_map range_of x ≡ Some k → read_by_top c all x needle seqno ≡ read_part c all k needle seqno
  at_top all None k e = cc
  at_top all (Some h) k e = (let same : range_of h ≡ k = cc in ap (λ g. read_part c all g needle seqno) same)

  pub top_read : (o : Option (List ℕ)) (x : Option Handle) (q : Option HandleParts) (k : HandleParts) (P R : Type 0) (r : Result (Option Entry) Error) → q ≡ option_map range_of x → q ≡ Some k → IfSome o (λ all. GivesOr P R (λ x. x) r (read_part c all k needle seqno)) → IfSome o (λ all. GivesOr P R (λ x. x) r (read_by_top c all x needle seqno))
  top_read None x q k P R r is at given = tt
  top_read (Some all) x q k P R r is at given = subst (GivesOr P R (λ x. x) r) (sym (at_top all x k (sym is ∙ at))) given

  no_top : (x : Option Handle) → option_map range_of x ≡ None → (all : List ℕ) → read_by_top c all x needle seqno ≡ Ok None
  no_top None e all = λ i. Ok None
  no_top (Some h) e all = cc

  -- none was found
  pub top_none : (o : Option (List ℕ)) (x : Option Handle) (q : Option HandleParts) (P R : Type 0) → q ≡ option_map range_of x → q ≡ None → IfSome o (λ all. GivesOr P R (λ x. x) (Ok None) (read_by_top c all x needle seqno))
  top_none None x q P R is at = tt
  top_none (Some all) x q P R is at = no_top x (sym is ∙ at) all

-- what is counted by the handle of a part
module _ (needle : List ℕ) (seqno : ℕ) where
  most_at : (all : List ℕ) (x : Option Handle) (k : HandleParts) → option_map range_of x ≡ Some k → most_by_places (part_in all k) (places_in all k) needle seqno ≡ part_most all x needle seqno
  most_at all None k e = cc
  most_at all (Some h) k e = (let same : k ≡ range_of h = sym (let s : range_of h ≡ k = cc in s) in ap (λ g. most_by_places (part_in all g) (places_in all g) needle seqno) same)

  pub top_counted : (o : Option (List ℕ)) (tops : List Handle) (interval : ℕ) (q : Option HandleParts) (k : HandleParts) (s t u : Counted) → q ≡ option_map range_of (handle_for handles needle seqno tops) → q ≡ Some k → CountsBetween s t (1, 0) (find_cost interval (length tops))
      → IfSome o (λ all. CountsBetween t u (0, 0) (most_by_places (part_in all k) (places_in all k) needle seqno)) → IfSome o (λ all. CountsBetween s u (1, 0) (parted_most all tops interval needle seqno))
  top_counted None tops interval q k s t u is at first second = tt
  top_counted (Some all) tops interval q k s t u is at first second =
      let part : CountsBetween t u (0, 0) (part_most all (handle_for handles needle seqno tops) needle seqno) = subst (CountsBetween t u (0, 0)) (most_at all (handle_for handles needle seqno tops) k (sym is ∙ at)) second in
      record {
        heads_least = omega (arith, first.heads_least, part.heads_least);
        heads_most = omega (arith, first.heads_most, part.heads_most);
        entries_least = omega (arith, first.entries_least, part.entries_least);
        entries_most = omega (arith, first.entries_most, part.entries_most);
      }

  pub top_uncounted : (o : Option (List ℕ)) (tops : List Handle) (interval : ℕ) (s t : Counted) → CountsBetween s t (1, 0) (find_cost interval (length tops)) → IfSome o (λ all. CountsBetween s t (1, 0) (parted_most all tops interval needle seqno))
  top_uncounted None tops interval s t first = tt
  top_uncounted (Some all) tops interval s t first = record {
    heads_least = omega (arith, first.heads_least);
    heads_most = omega (arith, first.heads_most);
    entries_least = omega (arith, first.entries_least);
    entries_most = omega (arith, first.entries_most);
  }
