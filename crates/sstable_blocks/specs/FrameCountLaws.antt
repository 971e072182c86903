-- Laws of frames that are asked for in stages.
use Rattle.std.proofs.Common.{◌≡◌, ◌≢◌, ℕ, ◌+◌, ◌<◌, ◌≤◌, inl, inr, List, Option, Some, None, IfSome, Result, Ok, Err, ap, subst, ◌∙◌, arith}
use Rattle.sst_base.specs.declared.error.Error.{Error}
use Rattle.sst_base.specs.declared.error.Error.TheVariants.{BadHandle, Memory}
use Rattle.sstable_blocks.specs.SourceLaws.{source_fails}
use Rattle.sstable_blocks.specs.Sources.{AsksFor, FailsAs}
use Rattle.sstable_blocks.specs.Walks.{frames_after}

-- a stage that fails is the last
pub asks_stop : {Z : Type 0} (f f' a a' n : ℕ) (R : Type 0) (e : Error) (read : Result Z Error) (rest : Z → ℕ) → a' ≡ a + n → FailsAs (f < f') R read e
    → AsksFor f f' a a' (e ≢ Memory) (n + frames_after read rest)
asks_stop f f' a a' n R e read rest asked fails = (
  omega (arith, asked),
  λ same other. elim (fails other) [
    | inl failure ↦ absurd (let less = failure.0 in omega (arith, less, same))
    | inr refused ↦ asked ∙ ap (λ m. a + m) (let none : frames_after read rest ≡ 0 = ap (λ r. frames_after r rest) refused in omega (arith, none))
  ],
)

-- after a stage that succeeds the next ones ask
pub asks_on : {Z : Type 0} (f f' f'' a a' a'' n : ℕ) (P : Type 0) (read : Result Z Error) (z : Z) (rest : Z → ℕ) → read ≡ Ok z → a' ≡ a + n → f ≤ f' → f' ≤ f''
    → AsksFor f' f'' a' a'' P (rest z) → AsksFor f f'' a a'' P (n + frames_after read rest)
asks_on f f' f'' a a' a'' n P read z rest found asked grow grow' next =
    let all : frames_after read rest ≡ rest z = ap (λ r. frames_after r rest) found in
    let most = next.0 in (
      omega (arith, asked, all, most),
      λ same other.
          let whole = next.1 (omega (arith, same, grow, grow')) other in
          omega (arith, asked, all, whole),
    )

-- so is one that asked for fewer where an allocation or the source failed
pub stops_as : {Z : Type 0} (b : Option (List ℕ)) (f f' a a' n : ℕ) (R : Type 0) (e : Error) (read : List ℕ → Result Z Error) (rest : List ℕ → Z → ℕ) → IfSome b (λ _. AsksFor f f' a a' (e ≢ Memory) n)
    → IfSome b (λ all. FailsAs (f < f') R (read all) e) → IfSome b (λ all. AsksFor f f' a a' (e ≢ Memory) (n + frames_after (read all) (rest all)))
stops_as None f f' a a' n R e read rest asked exact = tt
stops_as (Some all) f f' a a' n R e read rest asked exact = (
  let most = asked.0 in omega (arith, most),
  λ same other. elim (exact other) [
    | inl failure ↦ absurd (let less = failure.0 in omega (arith, less, same))
    | inr refused ↦
        let some = asked.1 same other in
        let none : frames_after (read all) (rest all) ≡ 0 = ap (λ r. frames_after r (rest all)) refused in
        omega (arith, some, none)
  ],
)

-- the same of a source whose bytes are known
pub stops : {Z : Type 0} (b : Option (List ℕ)) (f f' a a' n : ℕ) (R : Type 0) (e : Error) (read : List ℕ → Result Z Error) (rest : List ℕ → Z → ℕ) → a' ≡ a + n → IfSome b (λ all. FailsAs (f < f') R (read all) e)
    → IfSome b (λ all. AsksFor f f' a a' (e ≢ Memory) (n + frames_after (read all) (rest all)))
stops None f f' a a' n R e read rest asked exact = tt
stops (Some all) f f' a a' n R e read rest asked exact = asks_stop f f' a a' n R e (read all) (rest all) asked exact

pub goes_on : {Z : Type 0} (b b' : Option (List ℕ)) (f f' f'' a a' a'' n : ℕ) (z : Z) (P : Type 0) (read : List ℕ → Result Z Error) (rest : List ℕ → Z → ℕ)
    → b' ≡ b → a' ≡ a + n → f ≤ f' → f' ≤ f'' → IfSome b (λ all. read all ≡ Ok z)
    → IfSome b' (λ all. AsksFor f' f'' a' a'' P (rest all z)) → IfSome b (λ all. AsksFor f f'' a a'' P (n + frames_after (read all) (rest all)))
goes_on None b' f f' f'' a a' a'' n z P read rest same asked grow grow' exact next = tt
goes_on (Some all) b' f f' f'' a a' a'' n z P read rest same asked grow grow' exact next =
    asks_on f f' f'' a a' a'' n P (read all) z (rest all) exact asked grow grow' (subst (λ o. IfSome o (λ all. AsksFor f' f'' a' a'' P (rest all z))) same next)

-- a reading that a reading fails by fails so
pub fails_on : {A Z : Type 0} (b : Option (List ℕ)) (F R : Type 0) (go : List ℕ → Result A Error → Result Z Error) (e : Error) (read : List ℕ → Result A Error) → ((all : List ℕ) (d : Error) → go all (Err d) ≡ Err d)
    → IfSome b (λ all. FailsAs F R (read all) e) → IfSome b (λ all. FailsAs F R (go all (read all)) e)
fails_on None F R go e read keeps fails = tt
fails_on (Some all) F R go e read keeps fails = λ other. elim (fails other) [
  | inl failed ↦ inl (source_fails (λ f. f) (λ r. r) (λ is. ap (go all) is ∙ keeps all BadHandle) failed)
  | inr is ↦ inr (ap (go all) is ∙ keeps all e)
]

-- what was asked for where all succeeded is what was asked for
pub whole : (b : Option (List ℕ)) (f f' a a' : ℕ) (n : List ℕ → ℕ) (P : Type 0) → IfSome b (λ all. AsksFor f f' a a' (Unit {0}) (n all)) → IfSome b (λ all. AsksFor f f' a a' P (n all))
whole None f f' a a' n P asked = tt
whole (Some all) f f' a a' n P asked = (asked.0, λ same _. asked.1 same tt)

-- exactly so many, whatever happens
pub exactly : (b : Option (List ℕ)) (f f' a a' n : ℕ) (P : Type 0) → a' ≡ a + n → IfSome b (λ all. AsksFor f f' a a' P n)
exactly None f f' a a' n P asked = tt
exactly (Some all) f f' a a' n P asked = (omega (arith, asked), λ _ _. asked)
