-- Reading the blocks of an index one by one.
use Rattle.std.proofs.Common.{◌≡◌, ◌≢◌, ◌⊎◌, ℕ, ◌+◌, ◌-◌, ◌^◌, inl, inr, List, [], ◌∷◌, ◌++◌, length, take, min, arith, refl, sym, ◌∙◌, ap, subst, append_assoc, append-nil, length-append, Option, Some, None, Result, Ok, Err, IfSome, true, false}
use Rattle.std.proofs.Math.Seq.{take-append_seam}
use Rattle.std.specs.Prelude.{IsOk}
use Rattle.std.proofs.KnownBytes.{Appends-nil, Appends-trans, Appends-kept, Keeps-refl}
use Rattle.std.specs.Io.KnownBytes.{Appends, Keeps}
use Rattle.sstable_blocks.specs.Prelude.{HandleParts, Entry, GivesNextHeld, Scan, Window, items_left, whole, Handle, parsed_handle, IsParsedHandle, IndexBlockParsedItem}
use Rattle.sstable_blocks.specs.Results.{◌>>=◌, Error, Io, BadHandle}
use Rattle.sstable_blocks.specs.BlockLaws.{next_some, next_none, items_left-whole}
use Rattle.sstable_blocks.specs.Blocks.{joined}
use Rattle.sstable_blocks.specs.SourceLaws.{source_fails}
use Rattle.sstable_blocks.specs.Sources.{FailsAs}
use Rattle.sst_program.specs.Outcome.{lines_text_of}
use Rattle.sst_program.specs.TableReads.{block_read, block_count, blocks_listed, before_refusal, first_refusal, entry_count, entries_counted, PrintsUntil, PrintsFirst, FailsAround, FailsAmong}
use Rattle.sst_program.proofs.Results.Outcomes.{lines-append}
use Rattle.sstable_blocks.specs.RunLaws.{joined_push}

-- what is read of each of some blocks
abbrev pub BlockReads : Type 0
BlockReads = List (Result (List Entry) Error)

-- facts of known bytes give another
pub known_both : (o o' : Option (List ℕ)) (P Q R : List ℕ → Type 0) → o' ≡ o → ((all : List ℕ) → P all → Q all → R all) → IfSome o P → IfSome o' Q → IfSome o R
known_both None o' P Q R same f p q = tt
known_both (Some all) o' P Q R same f p q = f all p (subst (λ x. IfSome x Q) same q)

pub known_one : (o : Option (List ℕ)) (P R : List ℕ → Type 0) → ((all : List ℕ) → P all → R all) → IfSome o P → IfSome o R
known_one None P R f p = tt
known_one (Some all) P R f p = f all p

pub known_all : (o : Option (List ℕ)) (R : List ℕ → Type 0) → ((all : List ℕ) → R all) → IfSome o R
known_all None R f = tt
known_all (Some all) R f = f all

-- a step of the iterator over an index, and what is read of its block: one block fewer is left to read
pub read_step : (all : List ℕ) (s t : Scan Handle) (p : IndexBlockParsedItem) (h : HandleParts) (read : Result (List Entry) Error) → h ≡ record { offset = p.offset.0; size = p.size } → GivesNextHeld parsed_handle IsParsedHandle s (Some p) t
    → block_read all h ≡ read → blocks_listed all (items_left s.window) ≡ read ∷ blocks_listed all (items_left t.window)
read_step all s t p h read is gives e =
    ap (blocks_listed all) (next_some s.window t.window (parsed_handle s.payload p) gives.step).0
    ∙ ap (λ (r : Result (List Entry) Error). r ∷ blocks_listed all (items_left t.window)) (ap (block_read all) (sym is) ∙ e)

-- all are left at the start
pub read_whole : (all : List ℕ) (w : Window Handle) (hs : List Handle) → w ≡ whole hs → blocks_listed all (items_left w) ≡ blocks_listed all hs
read_whole all w hs e = ap (λ (v : Window Handle). blocks_listed all (items_left v)) e ∙ ap (blocks_listed all) (items_left-whole hs)

-- none is left at the end
pub read_over : (all : List ℕ) (s t : Scan Handle) → GivesNextHeld parsed_handle IsParsedHandle s None t → blocks_listed all (items_left s.window) ≡ []
read_over all s t gives = ap (blocks_listed all) (next_none s.window t.window gives.step).0

-- these blocks were read, and what is left decides the rest
pub record AreReadTo (reads left : BlockReads) (done : List (List Entry)) : Type 0 where
  pub before : before_refusal reads ≡ done ++ before_refusal left
  pub refusal : first_refusal reads ≡ first_refusal left

read_next : (reads left more : BlockReads) (done : List (List Entry)) (items : List Entry) → AreReadTo reads left done → left ≡ Ok items ∷ more → AreReadTo reads more (done ++ (items ∷ []))
read_next reads left more done items r e = record {
  before = r.before ∙ ap (λ (q : BlockReads). done ++ before_refusal q) e ∙ sym (append_assoc done (items ∷ []) (before_refusal more));
  refusal = r.refusal ∙ ap (λ (q : BlockReads). first_refusal q) e;
}

-- where a refusal or nothing is left, what was read is all before it
read_end : (reads left : BlockReads) (done : List (List Entry)) (refusal : Option Error) → AreReadTo reads left done → before_refusal left ≡ [] → first_refusal left ≡ refusal
    → (before_refusal reads ≡ done) × (first_refusal reads ≡ refusal)
read_end reads left done refusal r none is = (r.before ∙ ap (λ q. done ++ q) none ∙ append-nil done, r.refusal ∙ is)

-- the lines of the blocks that were read were printed
pub record PrintsTo (old new : Option (List ℕ)) (reads left : BlockReads) : Type 0 where
  pub done : List (List Entry)
  pub read : AreReadTo reads left done
  pub lines : Appends old new (lines_text_of (joined done))

pub prints_start : (old : Option (List ℕ)) (reads left : BlockReads) → left ≡ reads → PrintsTo old old reads left
prints_start old reads left e = record { done = []; read = record { before = ap (λ (q : BlockReads). before_refusal q) (sym e); refusal = ap (λ (q : BlockReads). first_refusal q) (sym e) }; lines = Appends-nil old }

pub prints_next : (old now new : Option (List ℕ)) (reads left more : BlockReads) (items : List Entry) → PrintsTo old now reads left → left ≡ Ok items ∷ more → Appends now new (lines_text_of items) → PrintsTo old new reads more
prints_next old now new reads left more items p e next = record {
  done = p.done ++ (items ∷ []);
  read = read_next reads left more p.done items p.read e;
  lines = subst (Appends old new) (lines-append (joined p.done) items ∙ ap lines_text_of (sym (joined_push p.done items))) (Appends-trans old now new (lines_text_of (joined p.done)) (lines_text_of items) p.lines next);
}

prints_until : (old now new : Option (List ℕ)) (reads left : BlockReads) (refusal : Option Error) → PrintsTo old now reads left → before_refusal left ≡ [] → first_refusal left ≡ refusal → Keeps now new → PrintsUntil old new reads refusal
prints_until old now new reads left refusal p none is kept =
    let e = read_end reads left p.done refusal p.read none is in
    record { until = e.1; lines = subst (λ q. Appends old new (lines_text_of (joined q))) (sym e.0) (Appends-kept old now new (lines_text_of (joined p.done)) p.lines kept) }

-- all lines were printed where nothing is left
pub prints_all : (old now : Option (List ℕ)) (reads left : BlockReads) → PrintsTo old now reads left → left ≡ [] → Keeps now now → PrintsUntil old now reads None
prints_all old now reads left p e kept = prints_until old now now reads left None p (ap (λ (q : BlockReads). before_refusal q) e) (ap (λ (q : BlockReads). first_refusal q) e) kept

-- and those before a refusal where that is left
pub prints_refused : (old now new : Option (List ℕ)) (reads left more : BlockReads) (error : Error) → PrintsTo old now reads left → left ≡ Err error ∷ more → Keeps now new → PrintsUntil old new reads (Some error)
prints_refused old now new reads left more error p e kept =
    prints_until old now new reads left (Some error) p (ap (λ (q : BlockReads). before_refusal q) e) (ap (λ (q : BlockReads). first_refusal q) e) kept

pub prints_first : (old now new : Option (List ℕ)) (reads left : BlockReads) → PrintsTo old now reads left → Keeps now new → PrintsFirst old new reads
prints_first old now new reads left p kept = record {
  count = length p.done;
  lines = subst (λ q. Appends old new (lines_text_of (joined q))) (sym (ap (take (length p.done)) p.read.before ∙ take-append_seam p.done (before_refusal left))) (Appends-kept old now new (lines_text_of (joined p.done)) p.lines kept);
}

-- the entries of the blocks that were read were counted
pub record CountsTo (reads left : BlockReads) (count : ℕ) : Type 0 where
  pub done : List (List Entry)
  pub read : AreReadTo reads left done
  pub counted : count ≡ entry_count done

pub counts_start : (reads left : BlockReads) → left ≡ reads → CountsTo reads left 0
counts_start reads left e = record { done = []; read = record { before = ap (λ (q : BlockReads). before_refusal q) (sym e); refusal = ap (λ (q : BlockReads). first_refusal q) (sym e) }; counted = refl }

pub counts_next : (reads left more : BlockReads) (items : List Entry) (count n : ℕ) → CountsTo reads left count → left ≡ Ok items ∷ more → n ≡ min (count + length items) (2 ^ 64 - 1) → CountsTo reads more n
counts_next reads left more items count n p e is = record {
  done = p.done ++ (items ∷ []);
  read = read_next reads left more p.done items p.read e;
  counted =
      let whole : length (joined (p.done ++ (items ∷ []))) ≡ length (joined p.done) + length items = ap length (joined_push p.done items) ∙ length-append (joined p.done) items in
      let before = p.counted in
      omega (arith, whole, before, is);
}

-- all were counted where nothing is left
pub counts_all : (all : List ℕ) (hs : List Handle) (left : BlockReads) (count : ℕ) → CountsTo (blocks_listed all hs) left count → left ≡ [] → entries_counted all hs ≡ Ok count
unfolding entries_counted
counts_all all hs left count p e =
    let is = read_end (blocks_listed all hs) left p.done None p.read (ap (λ (q : BlockReads). before_refusal q) e) (ap (λ (q : BlockReads). first_refusal q) e) in
    rw (is.1, is.0) (ap (λ n. Ok n) (sym p.counted))

-- a refusal that is left is that of the count
pub counts_refused : (all : List ℕ) (hs : List Handle) (left more : BlockReads) (count : ℕ) (error : Error) → CountsTo (blocks_listed all hs) left count → left ≡ Err error ∷ more
    → entries_counted all hs ≡ Err error
unfolding entries_counted
counts_refused all hs left more count error p e =
    let end = read_end (blocks_listed all hs) left p.done (Some error) p.read (ap (λ (q : BlockReads). before_refusal q) e) (ap (λ (q : BlockReads). first_refusal q) e) in
    rw end.1 refl

-- what was printed stays, unless printing failed
pub kept_unless : (a b : Option (List ℕ)) (error : Error) → error ≢ Io → (error ≡ Io) ⊎ Keeps a b → Keeps a b
kept_unless a b error other (inl io) = absurd (other io)
kept_unless a b error other (inr kept) = kept

pub counts_all_on : (o : Option (List ℕ)) (hs : List Handle) (s t : Scan Handle) (count : ℕ) → IfSome o (λ all. CountsTo (blocks_listed all hs) (blocks_listed all (items_left s.window)) count)
    → GivesNextHeld parsed_handle IsParsedHandle s None t → IfSome o (λ all. entries_counted all hs ≡ Ok count)
counts_all_on None hs s t count p gives = tt
counts_all_on (Some all) hs s t count p gives = counts_all all hs (blocks_listed all (items_left s.window)) count p (read_over all s t gives)

-- a number of entries is that of entries that were read
pub count_read : (read : Result (List Entry) Error) (n : ℕ) → (read >>= (λ items. Ok (length items))) ≡ Ok n → (items : List Entry) × (read ≡ Ok items) × (length items ≡ n)
count_read (Ok items) n e = (items, refl, cc)
count_read (Err d) n e = absurd (let wrong : ◌≡◌ {A = Result ℕ Error} (Err d) (Ok n) = e in cc)

pub count_refused : (read : Result (List Entry) Error) (error : Error) → (read >>= (λ items. Ok (length items))) ≡ Err error → read ≡ Err error
count_refused (Ok items) error e = absurd (let wrong : ◌≡◌ {A = Result ℕ Error} (Ok (length items)) (Err error) = e in cc)
count_refused (Err d) error e = let same : ◌≡◌ {A = Result ℕ Error} (Err d) (Err error) = e in cc

-- a step of the count
pub counts_step_on : (o o' : Option (List ℕ)) (hs : List Handle) (s t : Scan Handle) (p : IndexBlockParsedItem) (h : HandleParts) (count len n : ℕ) → o' ≡ o
    → IfSome o (λ all. CountsTo (blocks_listed all hs) (blocks_listed all (items_left s.window)) count) → h ≡ record { offset = p.offset.0; size = p.size } → GivesNextHeld parsed_handle IsParsedHandle s (Some p) t
    → IfSome o' (λ all. block_count all h ≡ Ok len) → n ≡ min (count + len) (2 ^ 64 - 1) → IfSome o (λ all. CountsTo (blocks_listed all hs) (blocks_listed all (items_left t.window)) n)
counts_step_on None o' hs s t p h count len n same to is gives read e = tt
counts_step_on (Some all) o' hs s t p h count len n same to is gives read e =
    let r = count_read (block_read all h) len (subst (λ x. IfSome x (λ bytes. block_count bytes h ≡ Ok len)) same read) in
    counts_next (blocks_listed all hs) (blocks_listed all (items_left s.window)) (blocks_listed all (items_left t.window)) r.0 count n to (read_step all s t p h (Ok r.0) is gives r.1) (rw r.2 e)

pub counts_fail_on : (o o' : Option (List ℕ)) (hs : List Handle) (s t : Scan Handle) (p : IndexBlockParsedItem) (h : HandleParts) (count : ℕ) (error : Error) (P Q R T : Type 0) → o' ≡ o
    → IfSome o (λ all. CountsTo (blocks_listed all hs) (blocks_listed all (items_left s.window)) count) → h ≡ record { offset = p.offset.0; size = p.size } → GivesNextHeld parsed_handle IsParsedHandle s (Some p) t
    → (P → Q) → (T → R) → IfSome o' (λ all. FailsAs P R (block_count all h) error) → IfSome o (λ all. FailsAs Q T (entries_counted all hs) error)
counts_fail_on None o' hs s t p h count error P Q R T same to is gives later kept fails = tt
counts_fail_on (Some all) o' hs s t p h count error P Q R T same to is gives later kept fails = λ other.
    elim ((subst (λ x. IfSome x (λ bytes. FailsAs P R (block_count bytes h) error)) same fails) other) [
      | inl failed ↦ inl (source_fails later kept
          (λ bad. counts_refused all hs (blocks_listed all (items_left s.window)) (blocks_listed all (items_left t.window)) count BadHandle to
          (read_step all s t p h (Err BadHandle) is gives (count_refused (block_read all h) BadHandle bad))) failed)
      | inr refused ↦ inr (counts_refused all hs (blocks_listed all (items_left s.window)) (blocks_listed all (items_left t.window)) count error to
          (read_step all s t p h (Err error) is gives (count_refused (block_read all h) error refused)))
    ]

ok_read : (read : Result (List Entry) Error) → IsOk read → (items : List Entry) × (read ≡ Ok items)
ok_read (Ok items) h = (items, refl)
ok_read (Err d) h = absurd (let wrong : false ≡ true = h in cc)

-- printing fails only where a block was read, or the source failed
pub prints_io_on : (o o' old now : Option (List ℕ)) (hs : List Handle) (s t : Scan Handle) (p : IndexBlockParsedItem) (h : HandleParts) (P Q R T : Type 0) (error : Error) → o' ≡ o
    → IfSome o (λ all. PrintsTo old now (blocks_listed all hs) (blocks_listed all (items_left s.window))) → h ≡ record { offset = p.offset.0; size = p.size } → GivesNextHeld parsed_handle IsParsedHandle s (Some p) t
    → (P → Q) → (T → R) → IfSome o' (λ all. error ≡ Io → FailsAround P R (block_read all h)) → IfSome o (λ all. error ≡ Io → FailsAmong Q T (blocks_listed all hs))
prints_io_on None o' old now hs s t p h P Q R T error same to is gives later kept fails = tt
prints_io_on (Some all) o' old now hs s t p h P Q R T error same to is gives later kept fails = λ io.
    elim ((subst (λ x. IfSome x (λ bytes. error ≡ Io → FailsAround P R (block_read bytes h))) same fails) io) [
      | inl failed ↦ inl (
        later failed.0,
        λ r. elim (failed.1 (kept r)) [
          | inl outside ↦ inl ((prints_refused old now now (blocks_listed all hs) (blocks_listed all (items_left s.window)) (blocks_listed all (items_left t.window)) BadHandle to
              (read_step all s t p h (Err BadHandle) is gives outside) (Keeps-refl now)).until)
          | inr io ↦ inr ((prints_refused old now now (blocks_listed all hs) (blocks_listed all (items_left s.window)) (blocks_listed all (items_left t.window)) Io to
              (read_step all s t p h (Err Io) is gives io) (Keeps-refl now)).until)
        ],
      )
      | inr ok ↦ (
          let r = ok_read (block_read all h) ok in
          let next = read_next (blocks_listed all hs) (blocks_listed all (items_left s.window)) (blocks_listed all (items_left t.window)) to.done r.0 to.read (read_step all s t p h (Ok r.0) is gives r.1) in
          let whole = ap length next.before in
          let parts = length-append (to.done ++ (r.0 ∷ [])) (before_refusal (blocks_listed all (items_left t.window))) in
          let front = length-append to.done (r.0 ∷ []) in
          inr (omega (arith, whole, parts, front)))
    ]
