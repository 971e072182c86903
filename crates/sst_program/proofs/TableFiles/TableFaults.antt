-- The faults of commands over a table whose bytes are known.
use Rattle.std.proofs.Common.{◌≡◌, ◌≢◌, ◌≤◌, ℕ, inl, inr, List, [], length, refl, sym, ◌∙◌, ap, subst, Option, Some, None, Result, Ok, Err, IfSome, IfErr}
use Rattle.std.specs.Result.{IsErrAnd}
use Rattle.std.specs.Io.KnownBytes.{Appends}
use Rattle.std.proofs.KnownBytes.{Appends-nil}
use Rattle.sstable_blocks.specs.Prelude.{HandleParts, Entry, Handle}
use Rattle.sstable_blocks.specs.Results.{◌>>=◌, Error, Io, Memory, BadHandle}
use Rattle.sstable_blocks.specs.Blocks.{joined}
use Rattle.sstable_blocks.specs.Footer.{table_handles}
use Rattle.sst_program.specs.Outcome.{lines_text_of}
use Rattle.sstable_blocks.specs.SourceLaws.{source_fails, fails_outside}
use Rattle.sstable_blocks.specs.Sources.{FailsAs}
use Rattle.sstable_blocks.specs.declared.run.RunHandles.{RunHandles}
use Rattle.sst_program.specs.TableReads.{index_read, run_filter_check, entries_counted, run_counts, run_blocks, blocks_by, blocks_listed, blocks_behind, table_blocks, before_refusal, first_refusal, AreCutOff, FailsAround, FailsAmong, IsTableFault, IsWalkFault, PrintsBefore, PrintsUntil}
use Rattle.sst_program.specs.declared.fault.Fault.{Fault}
use Rattle.sst_program.specs.declared.fault.Fault.TheVariants.{Refused}

not_memory : (e : Error) → e ≡ Io → e ≢ Memory
not_memory e io m = let wrong : Io ≡ Memory = sym io ∙ m in cc

-- a reading that failed
pub around : {Y : Type 0} (o : Option (List ℕ)) (P R : Type 0) (e : Error) (read : List ℕ → Result Y Error) → (e ≡ Io → P) → IfSome o (λ all. FailsAs P R (read all) e) → IfSome o (λ all. e ≡ Io → FailsAround P R (read all))
around None P R e read grew fails = tt
around (Some all) P R e read grew fails = λ io. elim (fails (not_memory e io)) [
  | inl failed ↦ inl (failed.0, λ r. inl (fails_outside failed r))
  | inr same ↦ inl (grew io, λ r. inr (same ∙ ap (λ x. Err x) io))
]

-- a count of entries that failed, after a filter and an index that were read
pub counts_late : (o o' o'' : Option (List ℕ)) (P Q R T : Type 0) (h : RunHandles) (hs : List Handle) (e : Error) → o' ≡ o → o'' ≡ o' → IfSome o (λ all. run_filter_check all h.filter ≡ Ok tt) → IfSome o' (λ all. index_read all h.index ≡ Ok hs)
    → (P → Q) → (T → R) → IfSome o'' (λ all. FailsAs P R (entries_counted all hs) e) → IfSome o (λ all. FailsAs Q T (run_counts all h) e)
unfolding run_counts
counts_late None o' o'' P Q R T h hs e first second filter index later kept fails = tt
counts_late (Some all) o' o'' P Q R T h hs e first second filter index later kept fails =
    let read = subst (λ x. IfSome x (λ bytes. index_read bytes h.index ≡ Ok hs)) first index in
    let here = subst (λ x. IfSome x (λ bytes. FailsAs P R (entries_counted bytes hs) e)) (second ∙ first) fails in
    let whole : run_counts all h ≡ (entries_counted all hs >>= (λ entries. Ok (length hs, entries))) = rw (filter, read) refl in λ other. elim (here other) [
      | inl failed ↦ inl (source_fails later kept (λ bad. whole ∙ ap (λ q. q >>= (λ entries. Ok (length hs, entries))) bad) failed)
      | inr same ↦ inr (whole ∙ ap (λ q. q >>= (λ entries. Ok (length hs, entries))) same)
    ]

-- the blocks of an index that is refused
blocks_refused : (all : List ℕ) (h : HandleParts) (e : Error) → index_read all h ≡ Err e → first_refusal (run_blocks all h) ≡ Some e
blocks_refused all h e read = ap (λ q. first_refusal (blocks_by all q)) read

pub among : (o : Option (List ℕ)) (P R : Type 0) (h : HandleParts) (e : Error) → (e ≡ Io → P) → IfSome o (λ all. FailsAs P R (index_read all h) e) → IfSome o (λ all. e ≡ Io → FailsAmong P R (run_blocks all h))
among None P R h e grew fails = tt
among (Some all) P R h e grew fails = λ io. elim (fails (not_memory e io)) [
  | inl failed ↦ inl (failed.0, λ r. inl (blocks_refused all h BadHandle (fails_outside failed r)))
  | inr same ↦ inl (grew io, λ r. inr (blocks_refused all h Io (same ∙ ap (λ x. Err x) io)))
]

-- a walk that ended early over the blocks of an index that was read
blocks_late_at : (all : List ℕ) (P Q : Type 0) (h : HandleParts) (hs : List Handle) (old new : Option (List ℕ)) (r : Result (Unit {0}) Error) → index_read all h ≡ Ok hs → (P → Q)
    → IfErr r (λ e. e ≢ Memory → e ≢ Io → PrintsBefore P old new (blocks_listed all hs) e) → IfErr r (λ e. e ≢ Memory → e ≢ Io → PrintsBefore Q old new (run_blocks all h) e)
blocks_late_at all P Q h hs old new (Ok u) index later refused = tt
blocks_late_at all P Q h hs old new (Err e) index later refused =
    let whole : run_blocks all h ≡ blocks_listed all hs = ap (λ q. blocks_by all q) index in λ memory io. elim (refused memory io) [
      | inl past ↦ inl (past.0, later past.1, subst (λ q. PrintsUntil old new q (Some BadHandle)) (sym whole) past.2)
      | inr until ↦ inr (subst (λ q. PrintsUntil old new q (Some e)) (sym whole) until)
    ]

pub blocks_late : (o o' : Option (List ℕ)) (P Q : Type 0) (h : HandleParts) (hs : List Handle) (old new : Option (List ℕ)) (r : Result (Unit {0}) Error) → o' ≡ o → IfSome o (λ all. index_read all h ≡ Ok hs) → (P → Q)
    → IfSome o' (λ all. IfErr r (λ e. e ≢ Memory → e ≢ Io → PrintsBefore P old new (blocks_listed all hs) e)) → IfSome o (λ all. IfErr r (λ e. e ≢ Memory → e ≢ Io → PrintsBefore Q old new (run_blocks all h) e))
blocks_late None o' P Q h hs old new r same index later refused = tt
blocks_late (Some all) o' P Q h hs old new r same index later refused =
    blocks_late_at all P Q h hs old new r index later (subst (λ x. IfSome x (λ bytes. IfErr r (λ e. e ≢ Memory → e ≢ Io → PrintsBefore P old new (blocks_listed bytes hs) e))) same refused)

-- and one that failed there
blocks_fail_at : (all : List ℕ) (P Q R T : Type 0) (h : HandleParts) (hs : List Handle) (r : Result (Unit {0}) Error) → index_read all h ≡ Ok hs → (P → Q) → (T → R)
    → IfErr r (λ e. e ≡ Io → FailsAmong P R (blocks_listed all hs)) → IfErr r (λ e. e ≡ Io → FailsAmong Q T (run_blocks all h))
blocks_fail_at all P Q R T h hs (Ok u) index later kept fails = tt
blocks_fail_at all P Q R T h hs (Err e) index later kept fails =
    let whole : run_blocks all h ≡ blocks_listed all hs = ap (λ q. blocks_by all q) index in λ io. elim (fails io) [
      | inl failed ↦ inl (later failed.0, λ t. subst (λ q. AreCutOff q) (sym whole) (failed.1 (kept t)))
      | inr some ↦ inr (subst (λ (q : List (Result (List Entry) Error)). 1 ≤ length (before_refusal q)) (sym whole) some)
    ]

pub blocks_fail : (o o' : Option (List ℕ)) (P Q R T : Type 0) (h : HandleParts) (hs : List Handle) (r : Result (Unit {0}) Error) → o' ≡ o → IfSome o (λ all. index_read all h ≡ Ok hs) → (P → Q) → (T → R)
    → IfSome o' (λ all. IfErr r (λ e. e ≡ Io → FailsAmong P R (blocks_listed all hs))) → IfSome o (λ all. IfErr r (λ e. e ≡ Io → FailsAmong Q T (run_blocks all h)))
blocks_fail None o' P Q R T h hs r same index later kept fails = tt
blocks_fail (Some all) o' P Q R T h hs r same index later kept fails =
    blocks_fail_at all P Q R T h hs r index later kept (subst (λ x. IfSome x (λ bytes. IfErr r (λ e. e ≡ Io → FailsAmong P R (blocks_listed bytes hs)))) same fails)

-- a footer that is refused
pub footer_fault : {Y : Type 0} (o : Option (List ℕ)) (m : Type 0) (go : List ℕ → RunHandles → Result Y Error) (e : Error) (fault : Fault) → fault ≡ Refused e → IfSome o (λ all. FailsAs (m → ⊥) ⊥ (table_handles all) e)
    → IfSome o (λ all. IsTableFault m (table_handles all >>= go all) fault)
footer_fault None m go e fault told fails = tt
footer_fault (Some all) m go e fault told fails = record {
  error = e;
  told = told;
  read_is = λ other no_io. elim (fails other) [
    | inl failed ↦ elim failed.1 [
      | inl io ↦ absurd (no_io io.0)
      | inr past ↦ inl (past.0, tt, ap (λ q. q >>= go all) past.1)
    ]
    | inr same ↦ inr (ap (λ q. q >>= go all) same)
  ];
  failed = λ io over. elim (fails (not_memory e io)) [
    | inl failed ↦ absurd (failed.0 over)
    | inr same ↦ inl (inr (ap (λ q. q >>= go all) same ∙ ap (λ x. Err x) io))
  ];
}

-- the same for a walk
pub footer_walk_fault : (o : Option (List ℕ)) (m : Type 0) (old new : Option (List ℕ)) (e : Error) (fault : Fault) → fault ≡ Refused e → ((reads : List (Result (List Entry) Error)) (d : Error) → before_refusal reads ≡ [] → first_refusal reads ≡ Some d → PrintsUntil old new reads (Some d))
    → IfSome o (λ all. FailsAs (m → ⊥) ⊥ (table_handles all) e) → IfSome o (λ all. IsWalkFault m old new (table_blocks all) fault)
footer_walk_fault None m old new e fault told kept fails = tt
footer_walk_fault (Some all) m old new e fault told kept fails = record {
  error = e;
  told = told;
  until = λ other no_io. elim (fails other) [
    | inl failed ↦ elim failed.1 [
      | inl io ↦ absurd (no_io io.0)
      | inr past ↦ inl (past.0, tt, kept (table_blocks all) BadHandle (ap (λ q. before_refusal (blocks_behind all q)) past.1) (ap (λ q. first_refusal (blocks_behind all q)) past.1))
    ]
    | inr same ↦ inr (kept (table_blocks all) e (ap (λ q. before_refusal (blocks_behind all q)) same) (ap (λ q. first_refusal (blocks_behind all q)) same))
  ];
  failed = λ io over. elim (fails (not_memory e io)) [
    | inl failed ↦ absurd (failed.0 over)
    | inr same ↦ inl (inr (ap (λ q. first_refusal (blocks_behind all q)) same ∙ ap (λ x. Some x) io))
  ];
}

-- the same for what a command returns
pub footer_told : {Y : Type 0} (o : Option (List ℕ)) (m : Type 0) (go : List ℕ → RunHandles → Result Y Error) (e : Error) (r : Result (Unit {0}) Fault) → IsErrAnd r (λ fault. fault ≡ Refused e) → IfSome o (λ all. FailsAs (m → ⊥) ⊥ (table_handles all) e)
    → IfSome o (λ all. IfErr r (IsTableFault m (table_handles all >>= go all)))
footer_told None m go e r told fails = tt
footer_told (Some all) m go e (Ok u) told fails = tt
footer_told (Some all) m go e (Err fault) told fails = footer_fault (Some all) m go e fault told fails

pub footer_walk_told : (o : Option (List ℕ)) (m : Type 0) (old : Option (List ℕ)) (e : Error) (r : Result (Unit {0}) Fault) → IsErrAnd r (λ fault. fault ≡ Refused e) → IfSome o (λ all. FailsAs (m → ⊥) ⊥ (table_handles all) e)
    → IfSome o (λ all. IfErr r (IsWalkFault m old old (table_blocks all)))
footer_walk_told None m old e r told fails = tt
footer_walk_told (Some all) m old e (Ok u) told fails = tt
footer_walk_told (Some all) m old e (Err fault) told fails = footer_walk_fault (Some all) m old old e fault told
    (λ reads d none until. record { until = until; lines = subst (λ q. Appends old old (lines_text_of (joined q))) (sym none) (Appends-nil old) }) fails
