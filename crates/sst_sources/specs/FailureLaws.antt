-- Laws of the errors of scans and reads of stored tables.
use Rattle.std.proofs.Common.{◌≡◌, ℕ, List, [], ◌∷◌, ◌++◌, Option, Some, None, Result, Ok, Err, refl, sym, ap, subst, inl, inr}
use Rattle.std.specs.Prelude.{◌⊎◌, IfSome, IfErr, OnOk}
use Rattle.std.specs.Option.{option_map}
use Rattle.sstable_blocks.specs.Prelude.{Entry}
use Rattle.sstable_blocks.specs.Results.{Error, Io, InvalidHeader, InvalidTag, ChecksumMismatch, LengthMismatch, TooLong, Truncated, BadTrailer, BadEntry, OutOfOrder, BadIndex, BadHashIndex, BadFilter, BadHandle, Memory}
use Rattle.sstable_blocks.specs.Scans.{Read, GivesFirst, GivesLast, FailsFirst, FailsLast, StartsWith, EndsWith, EndsBy}
use Rattle.sstable_blocks.specs.Sources.{FailsAs, GivesOr, IsSourceFailure}
use Rattle.sst_sources.specs.ErrorLaws.{met_end, meets_over, among_left, among_right, among_either}
use Rattle.sst_sources.specs.Sources.{Left, IsAmong, MayGive, MeetsNoMore}
use Rattle.sst_sources.specs.Stored.{MayFailAnyTime, reported, read_errors}

-- an error is a failed allocation or not
pub is_memory : (e : Error) → (e ≡ Memory) ⊎ (e ≡ Memory → ⊥)
is_memory Io = inr (λ h. cc)
is_memory (InvalidHeader n) = inr (λ h. cc)
is_memory (InvalidTag n t) = inr (λ h. cc)
is_memory (ChecksumMismatch a b) = inr (λ h. cc)
is_memory LengthMismatch = inr (λ h. cc)
is_memory TooLong = inr (λ h. cc)
is_memory Truncated = inr (λ h. cc)
is_memory BadTrailer = inr (λ h. cc)
is_memory BadEntry = inr (λ h. cc)
is_memory OutOfOrder = inr (λ h. cc)
is_memory BadIndex = inr (λ h. cc)
is_memory BadHashIndex = inr (λ h. cc)
is_memory BadFilter = inr (λ h. cc)
is_memory BadHandle = inr (λ h. cc)
is_memory Memory = inl refl

-- or `Io` or not
is_io : (e : Error) → (e ≡ Io) ⊎ (e ≡ Io → ⊥)
is_io Io = inl refl
is_io (InvalidHeader n) = inr (λ h. cc)
is_io (InvalidTag n t) = inr (λ h. cc)
is_io (ChecksumMismatch a b) = inr (λ h. cc)
is_io LengthMismatch = inr (λ h. cc)
is_io TooLong = inr (λ h. cc)
is_io Truncated = inr (λ h. cc)
is_io BadTrailer = inr (λ h. cc)
is_io BadEntry = inr (λ h. cc)
is_io OutOfOrder = inr (λ h. cc)
is_io BadIndex = inr (λ h. cc)
is_io BadHashIndex = inr (λ h. cc)
is_io BadFilter = inr (λ h. cc)
is_io BadHandle = inr (λ h. cc)
is_io Memory = inr (λ h. cc)

-- each error may be reported as itself
pub reports_itself : (e : Error) → IsAmong e (reported e)
reports_itself Io = inl refl
reports_itself (InvalidHeader n) = inl refl
reports_itself (InvalidTag n t) = inl refl
reports_itself (ChecksumMismatch a b) = inl refl
reports_itself LengthMismatch = inl refl
reports_itself TooLong = inl refl
reports_itself Truncated = inl refl
reports_itself BadTrailer = inl refl
reports_itself BadEntry = inl refl
reports_itself OutOfOrder = inl refl
reports_itself BadIndex = inl refl
reports_itself BadHashIndex = inl refl
reports_itself BadFilter = inl refl
reports_itself BadHandle = inl refl
reports_itself Memory = inl refl

-- is `Io` one of these errors?
io_among : (xs : List Error) → IsAmong Io xs ⊎ (IsAmong Io xs → ⊥)
io_among [] = inr (λ h. h)
io_among (x ∷ xs) = elim (is_io x) [
  | inl e ↦ inl (inl e)
  | inr n ↦ elim (io_among xs) [
    | inl h ↦ inl (inr h)
    | inr none ↦ inr (λ h. elim h [
      | inl e ↦ n e
      | inr m ↦ none m
    ])
  ]
]

-- an error that is read first
first_read : (x e : Error) (reads : List Read) → StartsWith (Err x) reads → IsAmong e (reported x) → IsAmong e (read_errors reads)
first_read x e reads starts h = subst (λ (rs : List Read). IsAmong e (read_errors rs)) (sym starts.1) (among_left e (reported x) (read_errors starts.0) h)

-- an error that is read after others
later_read : (x e : Error) (others more : List Read) → IsAmong e (reported x) → IsAmong e (read_errors (others ++ Err x ∷ more))
later_read x e [] more h = among_left e (reported x) (read_errors more) h
later_read x e (Ok y ∷ others) more h = later_read x e others more h
later_read x e (Err y ∷ others) more h = among_right e (reported y) (read_errors (others ++ Err x ∷ more)) (later_read x e others more h)

last_read : (x e : Error) (reads : List Read) → EndsWith (Err x) reads → IsAmong e (reported x) → IsAmong e (read_errors reads)
last_read x e reads ends h = subst (λ (rs : List Read). IsAmong e (read_errors rs)) (sym ends.1) (later_read x e ends.0 [] h)

-- reading fewer gives no other errors
fewer_before : (e : Error) (reads : List Read) (y : Read) → IsAmong e (read_errors reads) → IsAmong e (read_errors (reads ++ y ∷ []))
fewer_before e [] y h = absurd h
fewer_before e (Ok x ∷ reads) y h = fewer_before e reads y h
fewer_before e (Err x ∷ reads) y h = elim (among_either e (reported x) (read_errors reads) h) [
  | inl l ↦ among_left e (reported x) (read_errors (reads ++ y ∷ [])) l
  | inr r ↦ among_right e (reported x) (read_errors (reads ++ y ∷ [])) (fewer_before e reads y r)
]

module _ {S : Type 0} (is_reliable : S → Type 0) (s : S) (failed : Type 0) where
  -- a failure of the source of frames, where one that is reliable only fails at what is read as outside
  pub source_met : (outside : Type 0) (errors : List Error) (e : Error) → IsSourceFailure failed (is_reliable s) outside e → (outside → IsAmong Io errors) → (outside → IsAmong Truncated errors)
      → MayFailAnyTime is_reliable e ⊎ IsAmong e errors
  source_met outside errors e f io cut = elim f.1 [
    | inl g ↦ elim (io_among errors) [
      | inl h ↦ inr (subst (λ d. IsAmong d errors) (sym g.0) h)
      | inr none ↦ inl (g.0, λ all. none (io (g.1 (all s))))
    ]
    | inr g ↦ inr (subst (λ d. IsAmong d errors) (sym g.0) (cut g.1))
  ]

  first_fails : (reads : List Read) (e : Error) → FailsFirst failed (is_reliable s) reads e → (e ≡ Memory) ⊎ (MayFailAnyTime is_reliable e ⊎ IsAmong e (read_errors reads))
  first_fails reads e f = elim (is_memory e) [
    | inl m ↦ inl m
    | inr n ↦ inr (elim (f n) [
      | inl g ↦ source_met (StartsWith (Err BadHandle) reads) (read_errors reads) e g (λ o. first_read BadHandle Io reads o (inr (inl refl))) (λ o. first_read BadHandle Truncated reads o (inr (inr (inl refl))))
      | inr g ↦ inr (first_read e e reads g (reports_itself e))
    ])
  ]

  last_fails : (reads : List Read) (e : Error) → FailsLast failed (is_reliable s) reads e → (e ≡ Memory) ⊎ (MayFailAnyTime is_reliable e ⊎ IsAmong e (read_errors reads))
  last_fails reads e f = elim (is_memory e) [
    | inl m ↦ inl m
    | inr n ↦ inr (elim (f n) [
      | inl g ↦ source_met (EndsWith (Err BadHandle) reads) (read_errors reads) e g (λ o. last_read BadHandle Io reads o (inr (inl refl))) (λ o. last_read BadHandle Truncated reads o (inr (inr (inl refl))))
      | inr g ↦ inr (last_read e e reads g (reports_itself e))
    ])
  ]

-- what is known of a scan that ended by this error or did not
abbrev Scanned : {X : Type 0} → Option (List X) → ℕ → Option (List ℕ) → (List ℕ → List Read) → Option Error → Left X
Scanned list most b reads ended = record { list = list; most = most; errors = option_map (λ all. read_errors (reads all)) b; ended = ended }

-- a step of a scan fails by the error that ended it, or as its reads do
scan_gives : {X : Type 0} (may_fail : Error → Type 0) (list : Option (List X)) (most : ℕ) (b : Option (List ℕ)) (reads : List ℕ → List Read) (old : Option Error) (e : Error) → IfSome old (λ d. e ≡ d)
    → IfSome b (λ all. old ≡ None → (e ≡ Memory) ⊎ (may_fail e ⊎ IsAmong e (read_errors (reads all)))) → MayGive may_fail (Scanned list most b reads old) e
scan_gives may_fail list most b reads (Some d) e repeated fails = inr (inr (met_end (Some d) (option_map (λ all. read_errors (reads all)) b) e (ap Some (sym repeated))))
scan_gives may_fail list most None reads None e repeated fails = inr (inr tt)
scan_gives may_fail list most (Some all) reads None e repeated fails = fails refl

-- the error that is repeated
same_error : (X : Type 0) (old : Option Error) (e : Error) → IfSome old (λ d. ◌≡◌ {A = Result X Error} (Err e) (Err d)) → IfSome old (λ d. e ≡ d)
same_error X None e h = tt
same_error X (Some d) e h = cc

module _ {S X : Type 0} (is_reliable : S → Type 0) (s : S) (failed : Type 0) (list : Option (List X)) (most : ℕ) (b : Option (List ℕ)) (reads after : List ℕ → List Read) (old new : Option Error) where
  each_first : (o : Option (List ℕ)) (e : Error) → IfSome o (λ all. old ≡ None → GivesFirst failed (is_reliable s) (reads all) (after all) (Err e))
      → IfSome o (λ all. old ≡ None → (e ≡ Memory) ⊎ (MayFailAnyTime is_reliable e ⊎ IsAmong e (read_errors (reads all))))
  each_first None e h = tt
  each_first (Some all) e h = λ n. first_fails is_reliable s failed (reads all) e (h n)

  each_last : (o : Option (List ℕ)) (e : Error) → IfSome o (λ all. old ≡ None → GivesLast failed (is_reliable s) (reads all) (after all) (Err e))
      → IfSome o (λ all. old ≡ None → (e ≡ Memory) ⊎ (MayFailAnyTime is_reliable e ⊎ IsAmong e (read_errors (reads all))))
  each_last None e h = tt
  each_last (Some all) e h = λ n. last_fails is_reliable s failed (reads all) e (h n)

  -- why a step of a scan fails, from the front
  pub scan_fails : (result : Result (Option Entry) Error) → EndsBy old new result → IfSome b (λ all. old ≡ None → GivesFirst failed (is_reliable s) (reads all) (after all) result)
      → IfErr result (MayGive (MayFailAnyTime is_reliable) (Scanned list most b reads old))
  scan_fails (Ok x) ends gives = tt
  scan_fails (Err e) ends gives = scan_gives (MayFailAnyTime is_reliable) list most b reads old e (same_error (Option Entry) old e ends.repeated) (each_first b e gives)

  -- and from the back
  pub scan_fails_back : (result : Result (Option Entry) Error) → EndsBy old new result → IfSome b (λ all. old ≡ None → GivesLast failed (is_reliable s) (reads all) (after all) result)
      → IfErr result (MayGive (MayFailAnyTime is_reliable) (Scanned list most b reads old))
  scan_fails_back (Ok x) ends gives = tt
  scan_fails_back (Err e) ends gives = scan_gives (MayFailAnyTime is_reliable) list most b reads old e (same_error (Option Entry) old e ends.repeated) (each_last b e gives)

-- what was taken gave no error
taken_first : (F R : Type 0) (r s : List Read) (x : Option Entry) (e : Error) → GivesFirst F R r s (Ok x) → IsAmong e (read_errors s) → IsAmong e (read_errors r)
taken_first F R r s None e g h = absurd (subst (λ (rs : List Read). IsAmong e (read_errors rs)) g.1 h)
taken_first F R r s (Some x) e g h = subst (λ (rs : List Read). IsAmong e (read_errors rs)) (sym g) h

taken_last : (F R : Type 0) (r s : List Read) (x : Option Entry) (e : Error) → GivesLast F R r s (Ok x) → IsAmong e (read_errors s) → IsAmong e (read_errors r)
taken_last F R r s None e g h = absurd (subst (λ (rs : List Read). IsAmong e (read_errors rs)) g.1 h)
taken_last F R r s (Some x) e g h = subst (λ (rs : List Read). IsAmong e (read_errors rs)) (sym g) (fewer_before e s (Ok x) h)

in_bytes : (b c : Option (List ℕ)) (r s : List ℕ → List Read) (e : Error) → c ≡ b → IfSome b (λ all. IsAmong e (read_errors (s all)) → IsAmong e (read_errors (r all)))
    → IfSome (option_map (λ all. read_errors (s all)) c) (IsAmong e) → IfSome (option_map (λ all. read_errors (r all)) b) (IsAmong e)
in_bytes None c r s e same f h = tt
in_bytes (Some all) c r s e same f h = f (subst (λ o. IfSome (option_map (λ bytes. read_errors (s bytes)) o) (IsAmong e)) same h)

pub no_end : {X : Type 0} (old new : Option Error) (x : X) → EndsBy old new (Ok x) → old ≡ None
no_end None new x h = refl
no_end {X = X} (Some e) new x h = absurd (let f : ◌≡◌ {A = Result X Error} (Ok x) (Err e) = h.repeated in cc)

module _ {X : Type 0} (F R : Type 0) (list next : Option (List X)) (m n : ℕ) (b c : Option (List ℕ)) (r s : List ℕ → List Read) (old new : Option Error) where
  each_taken_first : (o : Option (List ℕ)) (x : Option Entry) (e : Error) → old ≡ None → IfSome o (λ all. old ≡ None → GivesFirst F R (r all) (s all) (Ok x)) → IfSome o (λ all. IsAmong e (read_errors (s all)) → IsAmong e (read_errors (r all)))
  each_taken_first None x e none h = tt
  each_taken_first (Some all) x e none h = taken_first F R (r all) (s all) x e (h none)

  each_taken_last : (o : Option (List ℕ)) (x : Option Entry) (e : Error) → old ≡ None → IfSome o (λ all. old ≡ None → GivesLast F R (r all) (s all) (Ok x)) → IfSome o (λ all. IsAmong e (read_errors (s all)) → IsAmong e (read_errors (r all)))
  each_taken_last None x e none h = tt
  each_taken_last (Some all) x e none h = taken_last F R (r all) (s all) x e (h none)

  -- a step of a scan leaves no other errors, from the front
  pub scan_no_more : (result : Result (Option Entry) Error) → EndsBy old new result → c ≡ b → IfSome b (λ all. old ≡ None → GivesFirst F R (r all) (s all) result)
      → OnOk result (MeetsNoMore (Scanned list m b r old) (Scanned next n c s new))
  scan_no_more (Err e) ends same gives = tt
  scan_no_more (Ok x) ends same gives =
      meets_over old new (option_map (λ all. read_errors (r all)) b) (option_map (λ all. read_errors (s all)) c) ends.ended
      (λ e. in_bytes b c r s e same (each_taken_first b x e (no_end old new x ends) gives))

  -- and from the back
  pub scan_no_more_back : (result : Result (Option Entry) Error) → EndsBy old new result → c ≡ b → IfSome b (λ all. old ≡ None → GivesLast F R (r all) (s all) result)
      → OnOk result (MeetsNoMore (Scanned list m b r old) (Scanned next n c s new))
  scan_no_more_back (Err e) ends same gives = tt
  scan_no_more_back (Ok x) ends same gives =
      meets_over old new (option_map (λ all. read_errors (r all)) b) (option_map (λ all. read_errors (s all)) c) ends.ended
      (λ e. in_bytes b c r s e same (each_taken_last b x e (no_end old new x ends) gives))

-- a read of a table fails as its bytes are read
pub table_fails : {X : Type 0} (failed reliable : Type 0) (b : Option (List ℕ)) (read : List ℕ → Result X Error) (result : Result X Error) → IfSome b (λ all. GivesOr failed reliable (λ x. x) result (read all))
    → IfErr result (λ e. (e ≡ Memory) ⊎ IfSome b (λ all. FailsAs (Unit {0}) reliable (read all) e))
table_fails failed reliable b read (Ok x) h = tt
table_fails failed reliable None read (Err e) h = inr tt
table_fails failed reliable (Some all) read (Err e) h = inr (λ n. elim (h n) [
  | inl f ↦ inl (tt, f.1)
  | inr r ↦ inr r
])
